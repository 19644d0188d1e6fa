-- The finished graph: well formed and all in use, and every output has the value that it had.
-- Assumes nothing.
use mathlib.Core.Path.{◌≡◌, sym, ◌∙◌}
use mathlib.Core.Bool.{Bool, true}
use Prim.Native.Nat.{ℕ, ◌≤◌, ◌<◌}
use native.Mathlib.Omega.{arith}
use lib.ListN.{length, length-map}
use Rattle.graph.specs.Graph.{Graph, free, size, sinks, IsGate, Lawful, WellFormed}
use Rattle.graph.specs.Sweep.{bools}
use Rattle.graph.specs.Use.{used_gates}
use Rattle.graph.specs.Evaluate.{outputs_under}
use Rattle.graph.specs.Drop.{dropped, renumbered}
use Rattle.graph.proofs.Drop.{AllReached, dropped_free, dropped_size, used_at_most_size, dropped_lawful, dropped_all_reached, dropped_uses}
use Rattle.graph.proofs.DropKeeps.{dropped_keeps_outputs}
use Rattle.window.specs.declared.leaf_set.Leaves.{Leaves}
use Rattle.window.specs.Leaves.{leaf_limit}
use Rattle.window.specs.Local.{covered}
use Rattle.window.specs.Table.{table}
use Rattle.replacement.specs.declared.types.Proposal.{Proposal}
use Rattle.replacement.specs.Proposal.{AllowedByTest, proposed_value, proposed_table}
use Rattle.replacement.specs.Rewire.{redirected, rewired, finished}
use Rattle.replacement.proofs.Circuit.{replaced_keeps_outputs}
use Rattle.replacement.proofs.ProposalLaws.{equal_table_computes}
use Rattle.replacement.proofs.Rewire.{rewired_free, wires_of, rewired_lawful}
use Rattle.replacement.proofs.Replacement.{stand_for, rewired_replaced}

module _ (g : Graph) (root : ℕ) (p : Proposal) where
  pub finished_free : free (finished g root p).net ≡ free g.net
  unfolding finished
  finished_free = dropped_free (rewired g root p) ∙ unfold rewired in rewired_free g.net root p

  pub finished_sinks : length (sinks (finished g root p)) ≡ length (sinks g)
  unfolding finished dropped rewired
  finished_sinks = length-map (sinks (rewired g root p)) (renumbered (rewired g root p).net _) ∙ length-map (sinks g) (redirected root p)

module _ (g : Graph) (ok : Lawful g) (root : ℕ) (gate : IsGate g.net root) (w : Leaves) (p : Proposal)
    (rule : AllowedByTest g.net root w p) where
  lawful : Lawful (rewired g root p)
  lawful = rewired_lawful g ok root gate p (wires_of g.net root w p rule)

  finished_lawful : Lawful (finished g root p)
  unfolding finished
  finished_lawful = dropped_lawful (rewired g root p) lawful

  pub finished_all_reached : AllReached (finished g root p)
  unfolding finished
  finished_all_reached = dropped_all_reached (rewired g root p) lawful

  -- R afterwards is the number of gates
  finished_size : size (finished g root p).net ≡ used_gates (finished g root p)
  unfolding finished
  finished_size = dropped_size (rewired g root p) ∙ sym (dropped_uses (rewired g root p) lawful)

-- with a gain the order is never lost: there are no more gates than before
pub finished_well_formed : (g : Graph) → WellFormed g → (root : ℕ) → IsGate g.net root → (w : Leaves) (p : Proposal)
    → AllowedByTest g.net root w p
    → used_gates (finished g root p) < used_gates g → WellFormed (finished g root p)
finished_well_formed g ok root gate w p rule fewer = record {
  lawful = finished_lawful g ok.lawful root gate w p rule;
  inputs_few = rw (finished_free g root p) ok.inputs_few;
  outputs_few = let h = ok.outputs_few in omega (arith, finished_sinks g root p);
  gates_few = let h = ok.gates_few in omega (arith, finished_size g ok.lawful root gate w p rule, used_at_most_size g);
}

-- all that is asked of a replacement but its gain
pub record Replaces (g : Graph) (root : ℕ) (w : Leaves) (p : Proposal) : Type 0 where
  pub lawful : Lawful g
  pub gate : IsGate g.net root
  pub few : w.count ≤ leaf_limit
  pub cut : covered g.net w root ≡ true
  pub rule : AllowedByTest g.net root w p
  pub equal : proposed_table g.net root w p ≡ table g.net w root

module _ (g : Graph) (root : ℕ) (w : Leaves) (p : Proposal) (same : Replaces g root w p) where
  rewired_keeps_outputs : (a : ℕ → Bool) → outputs_under (rewired g root p) a ≡ outputs_under g a
  rewired_keeps_outputs a =
      let wires = wires_of g.net root w p same.rule in
      replaced_keeps_outputs g (rewired g root p) same.lawful (lawful g same.lawful root same.gate w p same.rule) root
      same.gate w same.cut
      (stand_for root p) (λ vs. proposed_value bools vs p) (equal_table_computes g.net root w p same.few same.rule same.equal)
      (rewired_replaced g same.lawful root same.gate p wires) a

  pub finished_keeps_outputs : (a : ℕ → Bool) → outputs_under (finished g root p) a ≡ outputs_under g a
  unfolding finished
  finished_keeps_outputs a =
      dropped_keeps_outputs (rewired g root p) (lawful g same.lawful root same.gate w p same.rule) a ∙ rewired_keeps_outputs a
