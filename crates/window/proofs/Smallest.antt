-- The smallest of some sets: it is one of them, none is shorter, and each one after it is longer.
-- Assumes nothing.
use mathlib.Core.Path.{◌≡◌, refl, subst}
use mathlib.Core.Bool.{Bool, true, false, cond}
use mathlib.Core.List.{List, [], ◌∷◌}
use mathlib.Core.Option.{none, some, none-ne-some, some-ne-none, some-injective}
use Prim.Native.Nat.{ℕ, zero, suc, ◌≤◌, ◌<◌}
use native.Mathlib.Nat.{le_refl}
use native.Mathlib.Omega.{arith}
use borrow.Author.Tests.{leb-true, leb-false}
use lib.Dec.{leb}
use lib.ListN.{length, get_or}
use Rattle.window.specs.LeafRule.{smallest_from, smallest}

-- xs stands at a place of xss; ties go to the last
pub record Smallest (xss : List (List ℕ)) (xs : List ℕ) : Type 0 where
  pub place : ℕ
  pub within : place < length xss
  pub there : get_or xss place [] ≡ xs
  pub none_shorter : (j : ℕ) → j < length xss → length xs ≤ length (get_or xss j [])
  pub later_longer : (j : ℕ) → place < j → j < length xss → length xs < length (get_or xss j [])

only : (xs : List ℕ) → Smallest (xs ∷ []) xs
only xs = record { place = 0; within = omega arith; there = refl; none_shorter = shorter; later_longer = λ j h l. absurd (omega arith) }
  where
    shorter : (j : ℕ) → j < 1 → length xs ≤ length (get_or (xs ∷ []) j [])
    shorter zero h = le_refl (length xs)
    shorter (suc j) h = absurd (omega arith)

module _ (best xs : List ℕ) (xss : List (List ℕ)) (ys : List ℕ) where
  -- the first is not shorter than the second, and gives way to it
  given_way : length xs ≤ length best → Smallest (xs ∷ xss) ys → Smallest (best ∷ xs ∷ xss) ys
  given_way h s =
      record { place = suc s.place; within = omega (arith, s.within); there = s.there; none_shorter = shorter; later_longer = longer }
    where
      shorter : (j : ℕ) → j < length (best ∷ xs ∷ xss) → length ys ≤ length (get_or (best ∷ xs ∷ xss) j [])
      shorter zero l = omega (arith, s.none_shorter 0 (omega arith))
      shorter (suc j) l = s.none_shorter j (omega arith)

      longer : (j : ℕ) → suc s.place < j → j < length (best ∷ xs ∷ xss) → length ys < length (get_or (best ∷ xs ∷ xss) j [])
      longer zero k l = absurd (omega arith)
      longer (suc j) k l = s.later_longer j (omega arith) (omega arith)

  -- the second is longer than the first, and is passed over
  passed_over : length best < length xs → Smallest (best ∷ xss) ys → Smallest (best ∷ xs ∷ xss) ys
  passed_over h s = go s.place s.within s.there s.later_longer
    where
      shorter : (j : ℕ) → j < length (best ∷ xs ∷ xss) → length ys ≤ length (get_or (best ∷ xs ∷ xss) j [])
      shorter zero l = s.none_shorter 0 (omega arith)
      shorter (suc zero) l = omega (arith, s.none_shorter 0 (omega arith))
      shorter (suc (suc j)) l = s.none_shorter (suc j) (omega arith)

      longer : (k p : ℕ) → ((i : ℕ) → p < suc (suc i) → k < suc i)
          → ((j : ℕ) → k < j → j < length (best ∷ xss) → length ys < length (get_or (best ∷ xss) j []))
          → (j : ℕ) → p < j → j < length (best ∷ xs ∷ xss) → length ys < length (get_or (best ∷ xs ∷ xss) j [])
      longer k p c f zero q l = absurd (omega arith)
      longer k p c f (suc zero) q l = omega (arith, s.none_shorter 0 (omega arith))
      longer k p c f (suc (suc i)) q l = f (suc i) (c i q) (omega arith)

      go : (k : ℕ) → k < length (best ∷ xss) → get_or (best ∷ xss) k [] ≡ ys
          → ((j : ℕ) → k < j → j < length (best ∷ xss) → length ys < length (get_or (best ∷ xss) j [])) → Smallest (best ∷ xs ∷ xss) ys
      go zero w t f =
          record { place = 0; within = omega arith; there = t; none_shorter = shorter; later_longer = longer 0 0 (λ i _. omega arith) f }
      go (suc k) w t f =
          record {
            place = suc (suc k);
            within = omega arith;
            there = t;
            none_shorter = shorter;
            later_longer = longer (suc k)
                (suc (suc k)) (λ i q. omega arith) f;
          }

smallest_from_lem : (best : List ℕ) (xss : List (List ℕ)) → Smallest (best ∷ xss) (smallest_from best xss)
unfolding smallest_from
smallest_from_lem best [] = only best
smallest_from_lem best (xs ∷ xss) = go (leb (length xs) (length best)) refl (λ zs. smallest_from_lem zs xss)
  where
    go : (b : Bool) → leb (length xs) (length best) ≡ b → ((zs : List ℕ) → Smallest (zs ∷ xss) (smallest_from zs xss))
        → Smallest (best ∷ xs ∷ xss) (smallest_from (cond b xs best) xss)
    go true e r = given_way best xs xss (smallest_from xs xss) (leb-true _ _ e) (r xs)
    go false e r = passed_over best xs xss (smallest_from best xss) (leb-false _ _ e) (r best)

pub smallest_is : (xss : List (List ℕ)) (xs : List ℕ) → smallest xss ≡ some xs → Smallest xss xs
unfolding smallest
smallest_is [] xs e = absurd (none-ne-some xs e)
smallest_is (best ∷ xss) xs e = subst (Smallest (best ∷ xss)) (some-injective (smallest_from best xss) xs e) (smallest_from_lem best xss)

pub none_smallest : (xss : List (List ℕ)) → smallest xss ≡ none → xss ≡ []
unfolding smallest
none_smallest [] e = refl
none_smallest (xs ∷ xss) e = absurd (some-ne-none (smallest_from xs xss) e)
