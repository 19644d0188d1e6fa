-- The record that a step takes: the greatest gain, the earliest on ties.
-- Assumes nothing.
use mathlib.Core.Path.{◌≡◌, refl, sym, ap, subst}
use mathlib.Core.Bool.{Bool, true, false, cond}
use mathlib.Core.List.{List, [], ◌∷◌}
use mathlib.Core.Logic.{◌⊎◌, inl, inr, ⊎_elim}
use mathlib.Core.Option.{none, some, some-injective, some-ne-none, none-ne-some}
use Prim.Native.Nat.{◌≤◌, ◌<◌}
use native.Mathlib.Omega.{arith}
use borrow.Author.Tests.{ltb-true, ltb-false}
use lib.Dec.{ltb}
use Rattle.graph.specs.Lists.{◌∈◌, here}
use Rattle.graph.proofs.Members.{none_in, in_cons, in_right}
use Rattle.listing.specs.declared.Candidate.{Candidate}
use Rattle.run.specs.Run.{greatest_from, greatest, Greatest}

-- no record of the list gains more than x
NoMore : List Candidate → Candidate → Type 0
NoMore xs x = (y : Candidate) → y ∈ xs → y.gain ≤ x.gain

greatest_first : (x : Candidate) (xs : List Candidate) → NoMore xs x → Greatest (x ∷ xs) x
unfolding NoMore
greatest_first x xs h = record { before = []; after = xs; is = refl; earlier_less = λ y m. absurd (none_in m); later_no_more = h }

greatest_behind : (x y : Candidate) (xs : List Candidate) → x.gain < y.gain → Greatest xs y → Greatest (x ∷ xs) y
greatest_behind x y xs l g = record {
  before = x ∷ g.before;
  after = g.after;
  is = ap (λ (zs : List Candidate). x ∷ zs) g.is;
  earlier_less = λ z m. ⊎_elim (λ e. subst (λ (c : Candidate). c.gain < y.gain) (sym e) l) (g.earlier_less z) (in_cons m);
  later_no_more = g.later_no_more;
}

no_more_with : (x y : Candidate) (xs : List Candidate) → y.gain ≤ x.gain → NoMore xs x → NoMore (y ∷ xs) x
unfolding NoMore
no_more_with x y xs l h z m = ⊎_elim (λ e. subst (λ (c : Candidate). c.gain ≤ x.gain) (sym e) l) (h z) (in_cons m)

-- going through the list with the best so far: it stays, or a later one is better
abbrev Found : Candidate → List Candidate → Candidate → Type 0
Found best xs r = ((r ≡ best) × NoMore xs best) ⊎ (Greatest xs r × (best.gain < r.gain))

found : (best : Candidate) (xs : List Candidate) → Found best xs (greatest_from best xs)
unfolding greatest_from
found best [] = inl (refl, unfold NoMore in λ y m. absurd (none_in m))
found best (x ∷ xs) = go (ltb best.gain x.gain) refl (found x xs) (found best xs)
  where
    go : (t : Bool) → ltb best.gain x.gain ≡ t → Found x xs (greatest_from x xs) → Found best xs (greatest_from best xs)
        → Found best (x ∷ xs) (greatest_from (cond t x best) xs)
    go true e (inl p) q =
        let l = ltb-true _ _ e in
        inr (
          subst (Greatest (x ∷ xs)) (sym p.0) (greatest_first x xs p.1),
          subst (λ (c : Candidate). best.gain < c.gain) (sym p.0) l,
        )
    go true e (inr p) q =
        let l : best.gain < x.gain = ltb-true _ _ e in let k : x.gain < (greatest_from x xs).gain = p.1 in
        inr (greatest_behind x _ xs k p.0, omega arith)
    go false e p (inl q) = inl (q.0, no_more_with best x xs (ltb-false _ _ e) q.1)
    go false e p (inr q) =
        let l : x.gain ≤ best.gain = ltb-false _ _ e in let k : best.gain < (greatest_from best xs).gain = q.1 in
        inr (greatest_behind x _ xs (omega arith) q.0, k)

pub greatest_is : (xs : List Candidate) (x : Candidate) → greatest xs ≡ some x → Greatest xs x
unfolding greatest
greatest_is [] x e = absurd (none-ne-some x e)
greatest_is (y ∷ ys) x e = subst (Greatest (y ∷ ys)) (some-injective (greatest_from y ys) x e) (⊎_elim
    (λ p. subst (Greatest (y ∷ ys)) (sym p.0) (greatest_first y ys p.1))
    (λ p. greatest_behind y _ ys p.1 p.0) (found y ys))

pub greatest_none : (xs : List Candidate) → greatest xs ≡ none → xs ≡ []
unfolding greatest
greatest_none [] e = refl
greatest_none (x ∷ xs) e = absurd (some-ne-none (greatest_from x xs) e)

-- it stands in the list
pub greatest_in : {xs : List Candidate} {x : Candidate} → Greatest xs x → x ∈ xs
greatest_in {xs} {x} g = subst (λ (ys : List Candidate). x ∈ ys) (sym g.is) (in_right g.before (here refl))
