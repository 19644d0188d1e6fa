-- The test of a leaf set says just what its record of facts says, and the leaf set of a list has that list's leaves.
-- Assumes nothing.
use mathlib.Core.Path.{◌≡◌, refl, sym, ap, ◌∙◌, subst}
use mathlib.Core.Bool.{true}
use mathlib.Core.List.{List, [], ◌∷◌}
use mathlib.Core.Logic.{◌↔◌, ⊎_elim}
use Prim.Native.Nat.{ℕ, zero, suc, ◌+◌, ◌-◌, ◌≤◌, ◌<◌}
use native.Mathlib.Omega.{arith}
use borrow.Author.Tests.{leb-true, ltb-true, eqb-true, le-leb, lt-ltb, eq-eqb}
use lib.Dec.{ltb, eqb}
use lib.ListN.{length, get_or, take, drop, replicate, length-drop, get_or-eq_default}
use lib.Seq.{get_or-drop}
use Rattle.graph.specs.Lists.{◌∈◌, filled, every}
use Rattle.graph.proofs.Lists.{filled_first, filled_past, at_most_or_above, every_at, every_of, done, ◌then◌, all_at, all_of}
use Rattle.graph.proofs.Members.{at_place}
use Rattle.window.specs.declared.leaf_set.Leaves.{Leaves}
use Rattle.window.specs.Leaves.{leaf_limit, numbers, variables, leaf_list, leaves_of, ascends_from, leaf_rules, well_set, WellSet}
use Rattle.window.proofs.Sets.{ascends_above, ascends_places, ascends_of}

well_is : (root : ℕ) (w : Leaves) → well_set root w ≡ every (leaf_rules root w)
unfolding well_set
well_is root w = refl

-- a place past the leaves is a place of the rest
rest_at : (w : Leaves) (j : ℕ) → w.count ≤ j
    → get_or (drop w.count (numbers w.places)) (j - w.count) 0 ≡ get_or (numbers w.places) j 0
rest_at w j h =
    let e : w.count + (j - w.count) ≡ j = omega arith in
    get_or-drop w.count (numbers w.places) (j - w.count) 0 ∙ ap (λ (k : ℕ). get_or (numbers w.places) k 0) e

module _ (root : ℕ) (w : Leaves) where
  well_set_lem : well_set root w ≡ true → WellSet root w
  unfolding leaf_rules
  well_set_lem e =
      let at = every_at (leaf_rules root w) (sym (well_is root w) ∙ e) in
      record {
        few = leb-true _ _ (at 0);
        at_least_one = ascends_above 0 (leaf_list w) (at 1);
        ascending = ascends_places 0 (leaf_list w) (at 1);
        below_root = λ j h. ltb-true _ _ (all_at (λ v. ltb v root) 0 (leaf_list w) (at 2) j h);
        unused_zero = λ j h. ⊎_elim
            (λ l. sym (rest_at w j h)
            ∙ eqb-true _ _ (all_at (λ x. eqb x 0) 0 (drop w.count (numbers w.places)) (at 3) (j - w.count)
            (omega (arith, length-drop w.count (numbers w.places)))))
            (λ l. get_or-eq_default (numbers w.places) 0 (omega arith))
            (at_most_or_above (suc j) (length (numbers w.places)));
      }

  well_set_test : WellSet root w → well_set root w ≡ true
  unfolding leaf_rules
  well_set_test s =
      well_is root w
      ∙ every_of
      (le-leb _ _ s.few
      then ascends_of 0 (leaf_list w) s.at_least_one s.ascending
      then all_of (λ v. ltb v root) 0 (leaf_list w) (λ j h. lt-ltb _ _ (s.below_root j h))
      then all_of (λ x. eqb x 0) 0 (drop w.count (numbers w.places))
      (λ j h. eq-eqb _ _ (get_or-drop w.count (numbers w.places) j 0 ∙ s.unused_zero (w.count + j) (omega arith)))
      then done)

  pub well_set_iff : (well_set root w ≡ true) ↔ WellSet root w
  well_set_iff = (well_set_lem, well_set_test)

-- the numbers of the variables of some numbers are those numbers
pub numbers_back : (xs : List ℕ) → numbers (variables xs) ≡ xs
unfolding numbers variables
numbers_back [] = refl
numbers_back (x ∷ xs) = ap (λ (ys : List ℕ). x ∷ ys) (numbers_back xs)

pub leaves_of_list : (xs : List ℕ) → leaf_list (leaves_of xs) ≡ xs
unfolding leaves_of
leaves_of_list xs = ap (take (length xs)) (numbers_back (filled leaf_limit xs)) ∙ filled_first leaf_limit xs

pub replicate_at : {A : Type 0} (d : A) (n j : ℕ) → get_or (replicate n d) j d ≡ d
replicate_at d zero j = refl
replicate_at d (suc n) zero = refl
replicate_at d (suc n) (suc j) = replicate_at d n j

-- at most six leaves that ascend from 0 and stay below the root are well set down under it
pub leaves_of_well_set : (root : ℕ) (xs : List ℕ) → length xs ≤ leaf_limit → ascends_from 0 xs ≡ true → ((v : ℕ) → v ∈ xs → v < root)
    → WellSet root (leaves_of xs)
unfolding leaves_of
leaves_of_well_set root xs few up below =
    record {
      few = few;
      at_least_one = ascends_above 0 (leaf_list (leaves_of xs)) (ap (ascends_from 0) (leaves_of_list xs) ∙ up);
      ascending = ascends_places 0 (leaf_list (leaves_of xs)) (ap (ascends_from 0) (leaves_of_list xs) ∙ up);
      below_root =
          λ j h. below _ (subst (λ (ys : List ℕ). get_or (leaf_list (leaves_of xs)) j 0 ∈ ys) (leaves_of_list xs)
          (at_place 0 (leaf_list (leaves_of xs)) j h));
      unused_zero =
          λ j h. ap (λ (ys : List ℕ). get_or ys j 0) (numbers_back (filled leaf_limit xs)) ∙ filled_past leaf_limit xs j 0 h
          ∙ replicate_at 0 (leaf_limit - length xs) (j - length xs);
    }
