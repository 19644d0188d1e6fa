-- What holds at each member of a list that is joined, kept by a test, or gathered from pieces.
-- Assumes nothing.
use mathlib.Core.Path.{◌≡◌, refl}
use mathlib.Core.Bool.{Bool, true, false}
use mathlib.Core.List.{List, [], ◌∷◌, ◌++◌}
use mathlib.Core.Logic.{⊎_elim}
use Prim.Native.Nat.{ℕ, zero, suc, ◌<◌}
use native.Mathlib.Nat.{le_refl}
use native.Mathlib.Omega.{arith}
use Rattle.graph.specs.Lists.{◌∈◌, here, later, gather, keep}
use Rattle.graph.proofs.Members.{none_in, in_cons, in_either}

-- P holds at each member
abbrev pub Each : {A : Type 0} → (A → Type 0) → List A → Type 0
Each {A} P xs = (x : A) → x ∈ xs → P x

module _ {A : Type 0} (P : A → Type 0) where
  pub each_none : Each P []
  each_none x m = absurd (none_in m)

  each_more : (y : A) (ys : List A) → P y → Each P ys → Each P (y ∷ ys)
  each_more y ys p ps x m = ⊎_elim (λ e. rw e p) (ps x) (in_cons m)

  pub each_one : (y : A) → P y → Each P (y ∷ [])
  each_one y p = each_more y [] p each_none

  pub each_join : (xs ys : List A) → Each P xs → Each P ys → Each P (xs ++ ys)
  each_join xs ys ps qs x m = ⊎_elim (ps x) (qs x) (in_either xs m)

  pub each_gather : (f : ℕ → List A) (n : ℕ) → ((k : ℕ) → k < n → Each P (f k)) → Each P (gather f n)
  unfolding gather
  each_gather f zero h = each_none
  each_gather f (suc n) h = each_join (gather f n) (f n) (each_gather f n (λ k l. h k (omega arith))) (h n (le_refl (suc n)))

module _ {A : Type 0} where
  -- the members that are kept are those at which the test passes
  pub each_keep : (P : A → Type 0) (f : A → Bool) (xs : List A) → Each P xs → Each (λ x. P x × (f x ≡ true)) (keep f xs)
  unfolding keep
  each_keep P f [] h = each_none _
  each_keep P f (y ∷ ys) h = go (f y) refl (each_keep P f ys (λ x m. h x (later m)))
    where
      go : (t : Bool) → f y ≡ t → Each (λ x. P x × (f x ≡ true)) (keep f ys)
          → Each (λ x. P x × (f x ≡ true)) (elim t [ true ↦ y ∷ keep f ys | false ↦ keep f ys ])
      go true e below = each_more _ y (keep f ys) (h y (here refl), e) below
      go false e below = below
