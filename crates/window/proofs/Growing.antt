-- Leaf sets as the code keeps them: a leaf put after the others, what fits, how long sets become, and the fanin variables of a gate.
-- Assumes nothing.
use mathlib.Core.Path.{◌≡◌, refl, sym, ap, ap₂, ◌∙◌}
use mathlib.Core.List.{List, [], ◌∷◌, ◌++◌}
use Rattle.std.specs.Prelude.{Some, None}
use Rattle.std.proofs.lemmas.Option.{none-some, same_Some}
use mathlib.Core.Logic.{◌⊎◌, inl, inr}
use Prim.Native.Nat.{ℕ, suc, ◌+◌, ◌-◌, ◌≤◌, ◌<◌}
use native.Mathlib.Omega.{arith}
use borrow.Author.Tests.{eq-eqb, ne_eqb, le-leb, lt-leb}
use lib.ListN.{length, set, replicate, length-append}
use Rattle.graph.specs.declared.lit.Var.{Var}
use Rattle.graph.specs.Lists.{filled}
use Rattle.graph.specs.Literal.{var_of}
use Rattle.graph.specs.Graph.{Net, first, second}
use Rattle.graph.proofs.Lists.{at_most_or_above}
use Rattle.window.specs.declared.leaf_set.Leaves.{Leaves}
use Rattle.window.specs.Leaves.{leaf_limit, variables, leaf_list, leaves_of}
use Rattle.window.specs.LeafRule.{put, insert, remove, with_fanins}
use Rattle.window.specs.Growing.{grown_from, fitting, grown_of, Tidy}
use Rattle.window.proofs.LeavesLaws.{leaves_of_list}
use Rattle.window.proofs.Sets.{
  Put,
  at_end,
  before,
  already,
  after,
  put_is,
  Insert,
  skipped,
  inserted,
  insert_is,
  Remove,
  absent,
  found,
  passed,
  remove_is,
}

-- ---- sets as they are set down

module _ (w : Leaves) (xs : List ℕ) (e : w ≡ leaves_of xs) where
  pub list_of : leaf_list w ≡ xs
  list_of = ap (λ (u : Leaves). leaf_list u) e ∙ leaves_of_list xs

  pub count_of : w.count ≡ length xs
  unfolding leaves_of
  count_of = ap (λ (u : Leaves). u.count) e

  pub tidy_of : length xs ≤ leaf_limit → Tidy w
  tidy_of h = record { few = omega (arith, count_of); same = ap leaves_of list_of ∙ sym e }

pub tidy_count : {w : Leaves} → Tidy w → w.count ≡ length (leaf_list w)
tidy_count {w} t = count_of w (leaf_list w) (sym t.same)

set_after : (xs : List ℕ) (m : ℕ) (v : Var)
    → set (variables (xs ++ replicate (suc m) 0)) (length xs) v ≡ variables ((xs ++ (v.0 ∷ [])) ++ replicate m 0)
unfolding variables
set_after [] m v = refl
set_after (x ∷ xs) m v = ap (λ (vs : List Var). record { 0 = x } ∷ vs) (set_after xs m v)

filled_after : (xs : List ℕ) (v : Var) → length xs < leaf_limit
    → set (variables (filled leaf_limit xs)) (length xs) v ≡ variables (filled leaf_limit (xs ++ (v.0 ∷ [])))
unfolding filled
filled_after xs v h =
    let e : leaf_limit - length xs ≡ suc (leaf_limit - length (xs ++ (v.0 ∷ []))) = omega (arith, length-append xs (v.0 ∷ [])) in
    ap (λ (m : ℕ). set (variables (xs ++ replicate m 0)) (length xs) v) e ∙ set_after xs (leaf_limit - length (xs ++ (v.0 ∷ []))) v

one_after : (xs : List ℕ) (v : Var) → length xs < leaf_limit
    → ◌≡◌ {A = Leaves} (record { count = (leaves_of xs).count + 1; places = set (leaves_of xs).places (leaves_of xs).count v })
    (leaves_of (xs ++ (v.0 ∷ [])))
unfolding leaves_of
one_after xs v h =
    ap₂ (λ (n : ℕ) (ps : List Var). record { count = n; places = ps }) (sym (length-append xs (v.0 ∷ []))) (filled_after xs v h)

-- a leaf put after the others
pub pushed : (w : Leaves) (v : Var) → Tidy w → w.count < leaf_limit
    → ◌≡◌ {A = Leaves} (record { count = w.count + 1; places = set w.places w.count v }) (leaves_of (leaf_list w ++ (v.0 ∷ [])))
pushed w v t h =
    ap (λ (u : Leaves). record { count = u.count + 1; places = set u.places u.count v }) (sym t.same)
    ∙ one_after (leaf_list w) v (omega (arith, tidy_count t))

-- ---- what fits

pub fits : (xs : List ℕ) → length xs ≤ leaf_limit → grown_of xs ≡ Some (leaves_of xs)
unfolding grown_of grown_from fitting
fits xs h = rw (le-leb (length xs) leaf_limit h)

pub fits_not : (xs : List ℕ) → leaf_limit < length xs → grown_of xs ≡ None
unfolding grown_of grown_from fitting
fits_not xs h = rw (lt-leb (length xs) leaf_limit h)

-- what was set down is the list, and it has room
pub grown_some : (xs : List ℕ) (w : Leaves) → Some w ≡ grown_of xs → (length xs ≤ leaf_limit) × (w ≡ leaves_of xs)
grown_some xs w e = go (at_most_or_above (length xs) leaf_limit)
  where
    go : (length xs ≤ leaf_limit) ⊎ (leaf_limit < length xs) → (length xs ≤ leaf_limit) × (w ≡ leaves_of xs)
    go (inl h) = (h, same_Some w (leaves_of xs) (e ∙ fits xs h))
    go (inr h) = absurd (none-some w (sym (e ∙ fits_not xs h)))

pub grown_none : (xs : List ℕ) → None ≡ grown_of xs → leaf_limit < length xs
grown_none xs e = go (at_most_or_above (length xs) leaf_limit)
  where
    go : (length xs ≤ leaf_limit) ⊎ (leaf_limit < length xs) → leaf_limit < length xs
    go (inl h) = absurd (none-some (leaves_of xs) (e ∙ fits xs h))
    go (inr h) = h

-- a longer list does not fit either
pub grown_longer : (xs ys : List ℕ) → None ≡ grown_of xs → length xs ≤ length ys → None ≡ grown_of ys
grown_longer xs ys e h = sym (fits_not ys (omega (arith, grown_none xs e)))

-- ---- how long sets become

put_longer : {v : ℕ} {xs ys : List ℕ} → Put v xs ys → length xs ≤ length ys
put_longer at_end = omega arith
put_longer (before h) = omega arith
put_longer (already e) = omega arith
put_longer (after h p) = omega (arith, put_longer p)

pub insert_longer : (v : ℕ) (xs : List ℕ) → length xs ≤ length (insert v xs)
insert_longer v xs = go (insert_is v xs)
  where
    go : {ys : List ℕ} → Insert v xs ys → length xs ≤ length ys
    go (skipped e) = omega arith
    go (inserted h) = put_longer (put_is v xs)

remove_shorter : {v : ℕ} {xs ys : List ℕ} → Remove v xs ys → length ys ≤ length xs
remove_shorter absent = omega arith
remove_shorter (found e) = omega arith
remove_shorter (passed n r) = omega (arith, remove_shorter r)

pub removed_length : (v : ℕ) (xs : List ℕ) → length (remove v xs) ≤ length xs
removed_length v xs = remove_shorter (remove_is v xs)

pub insert_zero : (v : ℕ) (xs : List ℕ) → v ≡ 0 → insert v xs ≡ xs
unfolding insert
insert_zero v xs e = rw (eq-eqb v 0 e)

pub insert_put : (v : ℕ) (xs : List ℕ) → ¬ (v ≡ 0) → insert v xs ≡ put v xs
unfolding insert
insert_put v xs n = rw (ne_eqb v 0 n)

-- ---- the fanin variables of a gate

-- the fanin variables a and b put in one after the other, b first
module _ (net : Net) (v a b : ℕ) (xs : List ℕ) (p : var_of (first net v) ≡ a) (q : var_of (second net v) ≡ b) where
  pub fanins_are : insert a (insert b xs) ≡ with_fanins net v xs
  unfolding with_fanins
  fanins_are = ap₂ (λ (x y : ℕ). insert x (insert y xs)) (sym p) (sym q)

  pub fanins_longer : length (insert b xs) ≤ length (with_fanins net v xs)
  fanins_longer = omega (arith, ap length fanins_are, insert_longer a (insert b xs))
