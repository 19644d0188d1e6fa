-- How many leaves an expansion has: one leaf goes, and each fanin variable that is not there yet comes.
-- Assumes nothing.
use mathlib.Core.Path.{◌≡◌, refl, ap, ◌∙◌}
use mathlib.Core.Bool.{Bool, true, false, cond, ◌||◌, false≢true}
use mathlib.Core.List.{List, [], ◌∷◌}
use mathlib.Core.Logic.{⊎_elim}
use Prim.Native.Nat.{ℕ, suc, ◌+◌, ◌-◌, ◌≤◌}
use native.Mathlib.Omega.{arith}
use borrow.Author.Tests.{eqb-true, eq-eqb, ne_eqb}
use lib.Dec.{eqb}
use lib.ListN.{length}
use Rattle.graph.specs.Lists.{◌∈◌, here, later, is_in}
use Rattle.graph.specs.Literal.{var_of}
use Rattle.graph.specs.Graph.{Net, first, second}
use Rattle.graph.proofs.Lists.{same_tests}
use Rattle.window.specs.Leaves.{ascends_from}
use Rattle.window.specs.LeafRule.{put, insert, remove, with_fanins, expand}
use Rattle.window.proofs.Sets.{
  absent,
  ascends_head,
  ascends_tail,
  Put,
  at_end,
  before,
  already,
  after,
  put_is,
  insert_is,
  insert_keeps,
  insert_from,
  insert_again,
  insert_ascends,
  Remove,
  found,
  passed,
  remove_is,
  remove_from,
  remove_keeps,
  remove_ascends,
}

-- ---- standing in a list, as a test

in_of : {v : ℕ} {xs : List ℕ} → v ∈ xs → is_in v xs ≡ true
unfolding is_in
in_of {v} (here {y} e) = rw (eq-eqb v y e)
in_of {v} (later {y} {ys} i) = go (eqb v y) (in_of i)
  where
    go : (b : Bool) → is_in v ys ≡ true → b || is_in v ys ≡ true
    go true e = refl
    go false e = e

in_is : (v : ℕ) (xs : List ℕ) → is_in v xs ≡ true → v ∈ xs
unfolding is_in
in_is v [] e = absurd (false≢true e)
in_is v (x ∷ xs) e = go (eqb v x) refl e (in_is v xs)
  where
    go : (b : Bool) → eqb v x ≡ b → b || is_in v xs ≡ true → (is_in v xs ≡ true → v ∈ xs) → v ∈ (x ∷ xs)
    go true q h r = here (eqb-true v x q)
    go false q h r = later (r h)

same_in : (u : ℕ) (xs ys : List ℕ) → (u ∈ xs → u ∈ ys) → (u ∈ ys → u ∈ xs) → is_in u xs ≡ is_in u ys
same_in u xs ys f h = same_tests _ _ (λ e. in_of (f (in_is u xs e))) (λ e. in_of (h (in_is u ys e)))

other_inserted : (u v : ℕ) (xs : List ℕ) → ¬ (u ≡ v) → is_in u (insert v xs) ≡ is_in u xs
other_inserted u v xs n =
    same_in u (insert v xs) xs (λ i. ⊎_elim (λ e. absurd (n e)) (λ j. j) (insert_from (insert_is v xs) i)) (insert_keeps (insert_is v xs))

other_removed : (u v : ℕ) (xs : List ℕ) → ¬ (u ≡ v) → is_in u (remove v xs) ≡ is_in u xs
other_removed u v xs n =
    same_in u (remove v xs) xs (remove_from (remove_is v xs)) (λ i. ⊎_elim (λ e. absurd (n e)) (λ j. j) (remove_keeps (remove_is v xs) i))

-- ---- one more, one less

-- how many leaves there are more once v is put in
abbrev pub added : ℕ → List ℕ → ℕ
added v xs = cond (eqb v 0 || is_in v xs) 0 1

pub added_few : (v : ℕ) (xs : List ℕ) → added v xs ≤ 1
added_few v xs = go (eqb v 0 || is_in v xs)
  where
    go : (b : Bool) → cond b 0 1 ≤ 1
    go true = omega arith
    go false = omega arith

below_not_in : (v x : ℕ) (xs : List ℕ) → v ≤ x → ascends_from x xs ≡ true → is_in v xs ≡ false
unfolding is_in
below_not_in v x [] h e = refl
below_not_in v x (y ∷ ys) h e =
    let up = ascends_head x y ys e in
    let n : ¬ (v ≡ y) = omega arith in
    rw (ne_eqb v y n) (below_not_in v y ys (omega arith) (ascends_tail x y ys e))

put_count : {v : ℕ} (a : ℕ) {xs ys : List ℕ} → Put v xs ys → ascends_from a xs ≡ true → length ys ≡ length xs + cond (is_in v xs) 0 1
unfolding is_in
put_count a at_end u = refl
put_count {v} a (before {x} {xs} h) u =
    let n : ¬ (v ≡ x) = omega arith in
    rw (ne_eqb v x n, below_not_in v x xs (omega arith) (ascends_tail a x xs u)) (omega arith)
put_count {v} a (already {x} e) u = rw (eq-eqb v x e) (omega arith)
put_count {v} a (after {x} {xs} h p) u =
    let n : ¬ (v ≡ x) = omega arith in rw (ne_eqb v x n) (omega (arith, put_count x p (ascends_tail a x xs u)))

insert_count : (v : ℕ) (xs : List ℕ) → ascends_from 0 xs ≡ true → length (insert v xs) ≡ length xs + added v xs
unfolding insert
insert_count v xs u = go (eqb v 0)
  where
    go : (b : Bool) → length (cond b xs (put v xs)) ≡ length xs + cond (b || is_in v xs) 0 1
    go true = omega arith
    go false = put_count 0 (put_is v xs) u

remove_count : {v : ℕ} {xs ys : List ℕ} → Remove v xs ys → v ∈ xs → suc (length ys) ≡ length xs
remove_count {v = v} absent i = elim i [ ]
remove_count (found e) i = refl
remove_count (passed n r) (here e) = absurd (n e)
remove_count (passed n r) (later i) = ap suc (remove_count r i)

pub leaf_counts : {v : ℕ} {xs : List ℕ} → v ∈ xs → 1 ≤ length xs
leaf_counts (here e) = omega arith
leaf_counts (later i) = omega arith

-- ---- an expansion

module _ (net : Net) (v : ℕ) (xs : List ℕ) (leaf : v ∈ xs) (up : ascends_from 0 xs ≡ true) where
  abbrev first_var : ℕ
  first_var = var_of (first net v)

  abbrev second_var : ℕ
  second_var = var_of (second net v)

  -- with the lower fanin variable
  one_count : ¬ (second_var ≡ v) → length (insert second_var (remove v xs)) ≡ length xs - 1 + added second_var xs
  one_count n =
      insert_count second_var (remove v xs) (remove_ascends 0 (remove_is v xs) up)
      ∙ rw (other_removed second_var v xs n) (omega (arith, remove_count (remove_is v xs) leaf))

  pub expanded_one : first_var ≡ second_var → ¬ (second_var ≡ v) → length (expand net xs v) ≡ length xs - 1 + added second_var xs
  unfolding expand with_fanins
  expanded_one e n = rw (e, insert_again second_var (remove v xs)) (one_count n)

  pub expanded_two : ¬ (first_var ≡ second_var) → ¬ (first_var ≡ v) → ¬ (second_var ≡ v)
      → length (expand net xs v) ≡ length xs - 1 + added second_var xs + added first_var xs
  unfolding expand with_fanins
  expanded_two d m n =
      let low = remove_ascends 0 (remove_is v xs) up in
      insert_count first_var (insert second_var (remove v xs)) (insert_ascends (insert_is second_var (remove v xs)) low)
      ∙ rw (other_inserted first_var second_var (remove v xs) d, other_removed first_var v xs m, one_count n)
