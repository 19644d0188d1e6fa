-- Putting a variable into a set and taking one out: what stands in it then, how long it is, and that it still ascends.
-- Assumes nothing.
use mathlib.Core.Path.{◌≡◌, refl, sym, ap, ◌∙◌}
use mathlib.Core.Bool.{Bool, true, false, cond}
use mathlib.Core.List.{List, [], ◌∷◌}
use mathlib.Core.Logic.{◌⊎◌, inl, inr, ⊎_elim}
use Prim.Native.Nat.{ℕ, zero, suc, ◌≤◌, ◌<◌}
use native.Mathlib.Nat.{le_of_suc-le-suc, not-suc-le-zero}
use native.Mathlib.Omega.{arith}
use borrow.Author.Tests.{ltb-true, ltb-false, eqb-true, eqb-false, lt-ltb, le-ltb, eq-eqb, ne_eqb}
use lib.Dec.{ltb, eqb}
use lib.ListN.{length, get_or}
use Rattle.graph.specs.Lists.{◌∈◌, here, later, keep}
use Rattle.graph.proofs.Lists.{and_left, and_right, and_both}
use Rattle.window.specs.Leaves.{ascends_from}
use Rattle.window.specs.LeafRule.{put, insert, remove}

-- ---- ascending

module _ (x y : ℕ) (ys : List ℕ) where
  pub ascends_head : ascends_from x (y ∷ ys) ≡ true → x < y
  unfolding ascends_from
  ascends_head e = ltb-true x y (and_left _ (ascends_from y ys) e)

  pub ascends_tail : ascends_from x (y ∷ ys) ≡ true → ascends_from y ys ≡ true
  unfolding ascends_from
  ascends_tail e = and_right (ltb x y) _ e

  ascends_cons : x < y → ascends_from y ys ≡ true → ascends_from x (y ∷ ys) ≡ true
  unfolding ascends_from
  ascends_cons h e = and_both _ _ (lt-ltb x y h) e

pub ascends_nil : (x : ℕ) → ascends_from x [] ≡ true
unfolding ascends_from
ascends_nil x = refl

ascends_lower : (x y : ℕ) (ys : List ℕ) → x ≤ y → ascends_from y ys ≡ true → ascends_from x ys ≡ true
ascends_lower x y [] h e = ascends_nil x
ascends_lower x y (z ∷ zs) h e = ascends_cons x z zs (omega (arith, ascends_head y z zs e)) (ascends_tail y z zs e)

pub ascends_above : (x : ℕ) (ys : List ℕ) → ascends_from x ys ≡ true → (j : ℕ) → j < length ys → x < get_or ys j 0
ascends_above x [] e j h = absurd (not-suc-le-zero h)
ascends_above x (y ∷ ys) e zero h = ascends_head x y ys e
ascends_above x (y ∷ ys) e (suc j) h =
    omega (arith, ascends_head x y ys e, ascends_above y ys (ascends_tail x y ys e) j (le_of_suc-le-suc h))

pub ascends_places : (x : ℕ) (ys : List ℕ) → ascends_from x ys ≡ true → (i j : ℕ) → i < j → j < length ys → get_or ys i 0 < get_or ys j 0
ascends_places x [] e i j l h = absurd (not-suc-le-zero h)
ascends_places x (y ∷ ys) e i zero l h = absurd (not-suc-le-zero l)
ascends_places x (y ∷ ys) e zero (suc j) l h = ascends_above y ys (ascends_tail x y ys e) j (le_of_suc-le-suc h)
ascends_places x (y ∷ ys) e (suc i) (suc j) l h = ascends_places y ys (ascends_tail x y ys e) i j (le_of_suc-le-suc l) (le_of_suc-le-suc h)

pub ascends_of : (x : ℕ) (ys : List ℕ) → ((j : ℕ) → j < length ys → x < get_or ys j 0)
    → ((i j : ℕ) → i < j → j < length ys → get_or ys i 0 < get_or ys j 0) → ascends_from x ys ≡ true
ascends_of x [] h o = ascends_nil x
ascends_of x (y ∷ ys) h o =
    ascends_cons x y ys (h 0 (omega arith))
    (ascends_of y ys (λ j l. o 0 (suc j) (omega arith) (omega arith)) (λ i j l k. o (suc i) (suc j) (omega arith) (omega arith)))

-- a higher variable stands at a later place
pub higher_later : (x : ℕ) (ys : List ℕ) → ascends_from x ys ≡ true → (i j : ℕ) → i < length ys → get_or ys i 0 < get_or ys j 0 → i < j
higher_later x [] e i j l h = absurd (not-suc-le-zero l)
higher_later x (y ∷ ys) e zero zero l h = absurd (omega arith)
higher_later x (y ∷ ys) e zero (suc j) l h = omega arith
higher_later x (y ∷ ys) e (suc i) zero l h = absurd (omega (arith, ascends_above y ys (ascends_tail x y ys e) i (le_of_suc-le-suc l)))
higher_later x (y ∷ ys) e (suc i) (suc j) l h = omega (arith, higher_later y ys (ascends_tail x y ys e) i j (le_of_suc-le-suc l) h)

pub keep_ascends : (f : ℕ → Bool) (x : ℕ) (ys : List ℕ) → ascends_from x ys ≡ true → ascends_from x (keep f ys) ≡ true
unfolding keep
keep_ascends f x [] e = ascends_nil x
keep_ascends f x (y ∷ ys) e = go (f y) (keep_ascends f y ys (ascends_tail x y ys e))
  where
    go : (b : Bool) → ascends_from y (keep f ys) ≡ true → ascends_from x (elim b [ true ↦ y ∷ keep f ys | false ↦ keep f ys ]) ≡ true
    go true r = ascends_cons x y (keep f ys) (ascends_head x y ys e) r
    go false r = ascends_lower x y (keep f ys) (omega (arith, ascends_head x y ys e)) r

-- ---- putting in, by cases: ys is xs with v put in

pub data Put (v : ℕ) : List ℕ → List ℕ → Type 0 where
  at_end : Put v [] (v ∷ [])
  before : {x : ℕ} {xs : List ℕ} → v < x → Put v (x ∷ xs) (v ∷ x ∷ xs)
  already : {x : ℕ} {xs : List ℕ} → v ≡ x → Put v (x ∷ xs) (x ∷ xs)
  after : {x : ℕ} {xs ys : List ℕ} → x < v → Put v xs ys → Put v (x ∷ xs) (x ∷ ys)

pub put_is : (v : ℕ) (xs : List ℕ) → Put v xs (put v xs)
unfolding put
put_is v [] = at_end
put_is v (x ∷ xs) = go (ltb v x) (eqb v x) refl refl (put_is v xs)
  where
    go : (b c : Bool) → ltb v x ≡ b → eqb v x ≡ c → Put v xs (put v xs)
        → Put v (x ∷ xs) (cond b (v ∷ x ∷ xs) (cond c (x ∷ xs) (x ∷ put v xs)))
    go true c p q r = before (ltb-true v x p)
    go false true p q r = already (eqb-true v x q)
    go false false p q r = after {x = x} (omega (arith, ltb-false v x p, eqb-false v x q)) r

module _ {v : ℕ} where
  put_has : {xs ys : List ℕ} → Put v xs ys → v ∈ ys
  put_has at_end = here refl
  put_has (before h) = here refl
  put_has (already e) = here e
  put_has (after h p) = later (put_has p)

  put_keeps : {xs ys : List ℕ} {u : ℕ} → Put v xs ys → u ∈ xs → u ∈ ys
  put_keeps at_end i = later i
  put_keeps (before h) i = later i
  put_keeps (already e) i = i
  put_keeps (after h p) (here e) = here e
  put_keeps (after h p) (later i) = later (put_keeps p i)

  put_from : {xs ys : List ℕ} {u : ℕ} → Put v xs ys → u ∈ ys → (u ≡ v) ⊎ (u ∈ xs)
  put_from at_end (here e) = inl e
  put_from at_end (later i) = inr i
  put_from (before h) (here e) = inl e
  put_from (before h) (later i) = inr i
  put_from (already e) i = inr i
  put_from (after h p) (here e) = inr (here e)
  put_from (after h p) (later i) = ⊎_elim inl (λ j. inr (later j)) (put_from p i)

  put_length : {xs ys : List ℕ} → Put v xs ys → length ys ≤ suc (length xs)
  put_length at_end = omega arith
  put_length (before h) = omega arith
  put_length (already e) = omega arith
  put_length (after h p) = omega (arith, put_length p)

  put_ascends : (a : ℕ) {xs ys : List ℕ} → Put v xs ys → a < v → ascends_from a xs ≡ true → ascends_from a ys ≡ true
  put_ascends a at_end l e = ascends_cons a v [] l (ascends_nil v)
  put_ascends a (before {x} {xs} h) l e = ascends_cons a v (x ∷ xs) l (ascends_cons v x xs h (ascends_tail a x xs e))
  put_ascends a (already q) l e = e
  put_ascends a (after {x} {xs} {ys} h p) l e = ascends_cons a x ys (ascends_head a x xs e) (put_ascends x p h (ascends_tail a x xs e))

  -- what was put in is not put in again
  put_again : {xs ys : List ℕ} → Put v xs ys → put v ys ≡ ys
  unfolding put
  put_again at_end = rw (le-ltb v v (omega arith), eq-eqb v v refl)
  put_again (before h) = rw (le-ltb v v (omega arith), eq-eqb v v refl)
  put_again (already {x} e) = rw (le-ltb v x (omega arith), eq-eqb v x e)
  put_again (after {x} {xs} {ys} h p) =
      let n : ¬ (v ≡ x) = omega arith in
      rw (le-ltb v x (omega arith), ne_eqb v x n) (ap (λ (zs : List ℕ). x ∷ zs) (put_again p))

-- ---- variable 0 is not put in

pub data Insert (v : ℕ) (xs : List ℕ) : List ℕ → Type 0 where
  skipped : v ≡ 0 → Insert v xs xs
  inserted : 0 < v → Insert v xs (put v xs)

pub insert_is : (v : ℕ) (xs : List ℕ) → Insert v xs (insert v xs)
unfolding insert
insert_is v xs = go (eqb v 0) refl
  where
    go : (b : Bool) → eqb v 0 ≡ b → Insert v xs (cond b xs (put v xs))
    go true e = skipped (eqb-true v 0 e)
    go false e = inserted (omega (arith, eqb-false v 0 e))

module _ {v : ℕ} {xs : List ℕ} where
  pub insert_has : {ys : List ℕ} → Insert v xs ys → (v ≡ 0) ⊎ (v ∈ ys)
  insert_has (skipped e) = inl e
  insert_has (inserted h) = inr (put_has (put_is v xs))

  pub insert_keeps : {ys : List ℕ} {u : ℕ} → Insert v xs ys → u ∈ xs → u ∈ ys
  insert_keeps (skipped e) i = i
  insert_keeps (inserted h) i = put_keeps (put_is v xs) i

  pub insert_from : {ys : List ℕ} {u : ℕ} → Insert v xs ys → u ∈ ys → (u ≡ v) ⊎ (u ∈ xs)
  insert_from (skipped e) i = inr i
  insert_from (inserted h) i = put_from (put_is v xs) i

  pub insert_length : {ys : List ℕ} → Insert v xs ys → length ys ≤ suc (length xs)
  insert_length (skipped e) = omega arith
  insert_length (inserted h) = put_length (put_is v xs)

  pub insert_ascends : {ys : List ℕ} → Insert v xs ys → ascends_from 0 xs ≡ true → ascends_from 0 ys ≡ true
  insert_ascends (skipped e) u = u
  insert_ascends (inserted h) u = put_ascends 0 (put_is v xs) h u

pub insert_again : (v : ℕ) (xs : List ℕ) → insert v (insert v xs) ≡ insert v xs
unfolding insert
insert_again v xs = go (eqb v 0)
  where
    go : (b : Bool) → cond b (cond b xs (put v xs)) (put v (cond b xs (put v xs))) ≡ cond b xs (put v xs)
    go true = refl
    go false = put_again (put_is v xs)

-- ---- taking out

pub data Remove (v : ℕ) : List ℕ → List ℕ → Type 0 where
  absent : Remove v [] []
  found : {x : ℕ} {xs : List ℕ} → v ≡ x → Remove v (x ∷ xs) xs
  passed : {x : ℕ} {xs ys : List ℕ} → ¬ (v ≡ x) → Remove v xs ys → Remove v (x ∷ xs) (x ∷ ys)

pub remove_is : (v : ℕ) (xs : List ℕ) → Remove v xs (remove v xs)
unfolding remove
remove_is v [] = absent
remove_is v (x ∷ xs) = go (eqb v x) refl (remove_is v xs)
  where
    go : (b : Bool) → eqb v x ≡ b → Remove v xs (remove v xs) → Remove v (x ∷ xs) (cond b xs (x ∷ remove v xs))
    go true e r = found (eqb-true v x e)
    go false e r = passed (eqb-false v x e) r

module _ {v : ℕ} where
  pub remove_from : {xs ys : List ℕ} {u : ℕ} → Remove v xs ys → u ∈ ys → u ∈ xs
  remove_from absent i = i
  remove_from (found e) i = later i
  remove_from (passed n r) (here e) = here e
  remove_from (passed n r) (later i) = later (remove_from r i)

  pub remove_keeps : {xs ys : List ℕ} {u : ℕ} → Remove v xs ys → u ∈ xs → (u ≡ v) ⊎ (u ∈ ys)
  remove_keeps absent i = inr i
  remove_keeps (found e) (here q) = inl (q ∙ sym e)
  remove_keeps (found e) (later i) = inr i
  remove_keeps (passed n r) (here q) = inr (here q)
  remove_keeps (passed n r) (later i) = ⊎_elim inl (λ j. inr (later j)) (remove_keeps r i)

  pub remove_ascends : (a : ℕ) {xs ys : List ℕ} → Remove v xs ys → ascends_from a xs ≡ true → ascends_from a ys ≡ true
  remove_ascends a absent u = u
  remove_ascends a (found {x} {xs} e) u =
      ascends_lower a x xs (omega (arith, ascends_head a x xs u)) (ascends_tail a x xs u)
  remove_ascends a (passed {x} {xs} {ys} n r) u = ascends_cons a x ys (ascends_head a x xs u) (remove_ascends x r (ascends_tail a x xs u))
