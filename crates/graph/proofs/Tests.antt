-- Tests and the facts that they say, for the rows of refusals.
-- Assumes nothing.
use mathlib.Core.Path.{◌≡◌, refl, sym, ◌∙◌}
use mathlib.Core.Bool.{Bool, true, false, false≢true, not, ◌||◌}
use mathlib.Core.Logic.{◌↔◌, ◌⊎◌, inl, inr, ⊎_elim}
use Prim.Native.Nat.{ℕ, ◌<◌}
use borrow.Author.Tests.{ltb-true, lt-ltb, eqb-true, eq-eqb, not-true, not-false}
use lib.Dec.{ltb, eqb}

module _ {P : Type 0} (t : Bool) (says : (t ≡ true) ↔ P) where
  pub test_off : t ≡ false → ¬ P
  test_off e p = false≢true (sym e ∙ says.1 p)

  pub denial_on : not t ≡ true → ¬ P
  denial_on e = test_off (not-true t e)

  pub denial_off : not t ≡ false → P
  denial_off e = says.0 (not-false t e)

pub or_iff : {P Q : Type 0} (a b : Bool) → (a ≡ true) ↔ P → (b ≡ true) ↔ Q → (a || b ≡ true) ↔ (P ⊎ Q)
or_iff true b p q = (λ e. inl (p.0 refl), λ s. refl)
or_iff false b p q = (λ e. inr (q.0 e), ⊎_elim (λ x. absurd (false≢true (p.1 x))) q.1)

pub ltb_iff : (a b : ℕ) → (ltb a b ≡ true) ↔ (a < b)
ltb_iff a b = (ltb-true a b, lt-ltb a b)

pub eqb_iff : (a b : ℕ) → (eqb a b ≡ true) ↔ (a ≡ b)
eqb_iff a b = (eqb-true a b, eq-eqb a b)
