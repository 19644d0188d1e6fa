-- The gain law: the gain is how many gates in use go with the root, less those that the proposal puts there and those that its
-- literals hold back.
-- Assumes nothing.
use mathlib.Core.Path.{◌≡◌, sym, ◌∙◌}
use mathlib.Core.Bool.{true}
use mathlib.Core.Logic.{◌↔◌}
use Prim.Native.Nat.{ℕ, ◌+◌, ◌≤◌, ◌<◌}
use native.Mathlib.Omega.{arith}
use lib.IntN.{pos, sub_ℕ}
use Rattle.graph.specs.Graph.{Graph, Lawful}
use Rattle.graph.specs.Use.{InUse, used_gates}
use Rattle.graph.proofs.Drop.{dropped_uses}
use Rattle.replacement.specs.declared.types.Proposal.{Proposal}
use Rattle.replacement.specs.Rewire.{Wires, rewired, finished, gain, is_at_least_one}
use Rattle.replacement.specs.Vanish.{new_gates, vanishing, held_back}
use Rattle.replacement.proofs.Rewire.{rewired_lawful}
use Rattle.replacement.proofs.Gain.{difference, same_difference, gain_iff}
use Rattle.replacement.proofs.Vanish.{new_and, rewired_balance}

module _ (g : Graph) (ok : Lawful g) (root : ℕ) (used : InUse g root) (p : Proposal) (wires : Wires root p) where
  -- in natural numbers
  pub gain_balance : used_gates (finished g root p) + vanishing g root ≡ used_gates g + (new_gates p + held_back g root p)
  unfolding finished
  gain_balance = omega (
    arith,
    dropped_uses (rewired g root p) (rewired_lawful g ok root used.is_gate p wires),
    rewired_balance g ok root used.is_gate p wires used.is_reached,
  )

  pub gain_law : gain g root p ≡ sub_ℕ (vanishing g root) (new_gates p + held_back g root p)
  unfolding gain
  gain_law = same_difference (used_gates g) (used_gates (finished g root p)) (vanishing g root) (new_gates p + held_back g root p) gain_balance

  pub gain_iff_more_vanish : (is_at_least_one (gain g root p) ≡ true) ↔ (new_gates p + held_back g root p < vanishing g root)
  gain_iff_more_vanish =
      (λ e. omega (arith, gain_balance, (gain_iff g root p).0 e), λ l. (gain_iff g root p).1 (omega (arith, gain_balance)))

  -- the gain is at most what goes less what is put there: a bound that asks nothing of the literals
  pub gain_bound : (n : ℕ) → gain g root p ≡ pos n → n + new_gates p ≤ vanishing g root
  gain_bound n e = let h = difference (vanishing g root) (new_gates p + held_back g root p) n (sym gain_law ∙ e) in omega arith

  -- an AND gains only where a gate besides the root goes
  pub and_gain_needs_two : p.kind ≡ 1 → is_at_least_one (gain g root p) ≡ true → 2 ≤ vanishing g root
  and_gain_needs_two k e = omega (arith, gain_iff_more_vanish.0 e, new_and p k)
