-- A gain of at least 1 means that fewer gates are in use, and is the number of them that the replacement saves.
-- Assumes nothing.
use mathlib.Core.Path.{◌≡◌, refl, sym, ap, ◌∙◌}
use mathlib.Core.Bool.{Bool, true, false, cond, false≢true}
use mathlib.Core.Logic.{⊎_elim, ◌↔◌}
use Prim.Native.Nat.{ℕ, suc, ◌+◌, ◌-◌, ◌≤◌, ◌<◌}
use native.Mathlib.Omega.{arith}
use borrow.Author.Tests.{ltb-true, ltb-false, lt-ltb, le-ltb}
use lib.Dec.{ltb}
use lib.IntN.{ℤ, pos, negsuc, nat_abs, sub_ℕ}
use Rattle.graph.specs.Graph.{Graph}
use Rattle.graph.specs.Use.{used_gates}
use Rattle.graph.proofs.Lists.{at_most_or_above}
use Rattle.replacement.specs.declared.types.Proposal.{Proposal}
use Rattle.replacement.specs.Rewire.{finished, gain, is_at_least_one, positive}

-- a difference of at least 1 is a falling number
at_least_one_falls : (a b : ℕ) → is_at_least_one (sub_ℕ a b) ≡ true → b < a
unfolding is_at_least_one
at_least_one_falls a b e = go (ltb a b) refl e
  where
    go : (t : Bool) → ltb a b ≡ t → is_at_least_one (cond t (negsuc (b - suc a)) (pos (a - b))) ≡ true → b < a
    go true q h = absurd (false≢true h)
    go false q h = let l = ltb-true 0 (a - b) h in omega (arith, ltb-false a b q)

falls_at_least_one : (a b : ℕ) → b < a → is_at_least_one (sub_ℕ a b) ≡ true
unfolding is_at_least_one
falls_at_least_one a b l =
    ap (λ (t : Bool). is_at_least_one (cond t (negsuc (b - suc a)) (pos (a - b)))) (le-ltb a b (omega arith)) ∙ lt-ltb 0 (a - b) (omega arith)

pub difference : (a b n : ℕ) → sub_ℕ a b ≡ pos n → b + n ≡ a
difference a b n e = go (ltb a b) refl e
  where
    go : (t : Bool) → ltb a b ≡ t → cond t (negsuc (b - suc a)) (pos (a - b)) ≡ pos n → b + n ≡ a
    go true q d = absurd (false≢true (ap is_pos d))
      where
        is_pos : ℤ → Bool
        is_pos (pos m) = true
        is_pos (negsuc m) = false
    go false q d = omega (arith, ap nat_abs d, ltb-false a b q)

-- two pairs of numbers with the same sum crosswise have the same difference
pub same_difference : (a b c d : ℕ) → b + c ≡ a + d → sub_ℕ a b ≡ sub_ℕ c d
same_difference a b c d e =
    let m : b - suc a ≡ d - suc c = omega arith in
    let n : a - b ≡ c - d = omega arith in
    let t : ltb a b ≡ ltb c d = ⊎_elim
    (λ l. lt-ltb a b (omega arith) ∙ sym (lt-ltb c d l)) (λ l. le-ltb a b (omega arith) ∙ sym (le-ltb c d (omega arith)))
    (at_most_or_above (suc c) d) in
    rw (t, m, n)

-- a difference that is not negative is that of natural numbers
pub positive_difference : (a b : ℕ) → positive (sub_ℕ a b) ≡ a - b
unfolding positive
positive_difference a b = go (ltb a b) refl
  where
    go : (t : Bool) → ltb a b ≡ t → positive (cond t (negsuc (b - suc a)) (pos (a - b))) ≡ a - b
    go true q = let l = ltb-true a b q in omega arith
    go false q = refl

pub positive_iff : (z : ℤ) → (is_at_least_one z ≡ true) ↔ (0 < positive z)
unfolding is_at_least_one positive
positive_iff (pos n) = (ltb-true 0 n, lt-ltb 0 n)
positive_iff (negsuc n) = (λ e. absurd (false≢true e), λ l. absurd (omega arith))

module _ (g : Graph) (root : ℕ) (p : Proposal) where
  pub gain_iff : (is_at_least_one (gain g root p) ≡ true) ↔ (used_gates (finished g root p) < used_gates g)
  unfolding gain
  gain_iff =
      (at_least_one_falls (used_gates g) (used_gates (finished g root p)), falls_at_least_one (used_gates g) (used_gates (finished g root p)))

  -- R falls by the gain
  pub falls_by_gain : (n : ℕ) → gain g root p ≡ pos n → 1 ≤ n → used_gates (finished g root p) + n ≡ used_gates g
  unfolding gain
  falls_by_gain n e h = difference (used_gates g) (used_gates (finished g root p)) n e
