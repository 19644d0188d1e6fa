-- Demand 2: what is read is what is stated, what is written is read back, and what a replacement or a run leaves means the same.
-- Assumes nothing.
use mathlib.Core.Path.{◌≡◌}
use mathlib.Core.Bool.{Bool, true, false, not, ◌&&◌}
use mathlib.Core.List.{List, [], ◌∷◌, map}
use mathlib.Core.Logic.{◌↔◌}
use Prim.Native.Nat.{ℕ, suc, ◌+◌, ◌*◌, ◌%◌, ◌≤◌, ◌<◌}
use native.Mathlib.Omega.{arith}
use lib.ListN.{length}
use Rattle.graph.specs.Lists.{gather, keep}
use Rattle.graph.specs.Literal.{var_of}
use Rattle.graph.specs.Graph.{Net, Graph, free, size, first, second, IsGate, WellFormed, Lawful}
use Rattle.graph.specs.Sweep.{bools, turned}
use Rattle.graph.specs.Evaluate.{value_under, literal_under, outputs_under}
use Rattle.graph.specs.Use.{Reached, InUse, marks, in_use, used_gates}
use Rattle.graph.specs.Drop.{new_number, renumbered, dropped}
use Rattle.graph.proofs.Evaluate.{value_zero, value_input, value_gate, outputs_are_literals}
use Rattle.graph.proofs.Use.{first_lower, second_lower, in_use_iff, used_gates_reached}
use Rattle.graph.proofs.Drop.{
  AllReached,
  dropped_free,
  dropped_size,
  dropped_well_formed,
  dropped_all_reached,
  dropped_gate,
  dropped_keeps_order,
  dropped_only,
  dropped_twice,
  dropped_same,
  dropped_uses,
}
use Rattle.graph.proofs.DropKeeps.{dropped_keeps_outputs}
use Rattle.text.specs.States.{States, text_of}
use Rattle.text.specs.Reading.{Stated, most_bytes, yields, reading}
use Rattle.text.proofs.States.{states_one, text_of_states}
use Rattle.text.proofs.Reading.{reading_iff}
use Rattle.text.proofs.RoundTrip.{text_of_short, round_trip}
use Rattle.window.specs.declared.leaf_set.Leaves.{Leaves}
use Rattle.window.proofs.Local.{covered_iff}
use Rattle.replacement.specs.declared.types.Proposal.{Proposal}
use Rattle.replacement.specs.Rewire.{finished}
use Rattle.replacement.specs.Calls.{GoodProposal}
use Rattle.replacement.proofs.Finished.{finished_free, finished_all_reached, finished_well_formed, Replaces, finished_keeps_outputs}
use Rattle.replacement.proofs.ProposalLaws.{rule_iff}
use Rattle.run.specs.Run.{run}
use Rattle.run.proofs.Run.{run_keeps_inputs, run_keeps_outputs, run_well_formed, run_all_reached}
use Rattle.promises.specs.Promises.{Keeps}

-- ---- text

pub a_text_states_one_graph : (t : List ℕ) (g h : Graph) → States t g → States t h → g ≡ h
a_text_states_one_graph = states_one

pub read_is_what_is_stated : (t : List ℕ) (g : Graph) → (reading t ≡ yields g) ↔ Stated t g
read_is_what_is_stated = reading_iff

pub written_states_the_graph : (g : Graph) → WellFormed g → States (text_of g) g × (length (text_of g) ≤ most_bytes)
written_states_the_graph g ok = (text_of_states g ok.lawful, text_of_short g ok)

pub written_is_read_back : (g : Graph) → WellFormed g → reading (text_of g) ≡ yields g
written_is_read_back = round_trip

-- ---- what a graph computes: the values that `Keeps` is about

module _ (net : Net) (a : ℕ → Bool) where
  pub zero_is_false : value_under net a 0 ≡ false
  zero_is_false = value_zero net a

  pub an_input_has_its_assigned_value : (v : ℕ) → 0 < v → v ≤ free net → value_under net a v ≡ a v
  an_input_has_its_assigned_value = value_input net a

  pub a_literal_is_its_variable : (v : ℕ) → literal_under net a (2 * v) ≡ value_under net a v
  unfolding turned
  a_literal_is_its_variable v =
      let even : (2 * v) % 2 ≡ 0 = omega arith in let var : var_of (2 * v) ≡ v = omega arith in rw (even, var)

  pub an_odd_literal_is_the_complement : (v : ℕ) → literal_under net a (2 * v + 1) ≡ not (value_under net a v)
  unfolding turned bools
  an_odd_literal_is_the_complement v =
      let odd : (2 * v + 1) % 2 ≡ 1 = omega arith in let var : var_of (2 * v + 1) ≡ v = omega arith in rw (odd, var)

module _ (g : Graph) (ok : WellFormed g) (a : ℕ → Bool) where
  pub a_gate_is_the_and_of_its_literals : (v : ℕ) → IsGate g.net v
      → value_under g.net a v ≡ literal_under g.net a (first g.net v) && literal_under g.net a (second g.net v)
  a_gate_is_the_and_of_its_literals v gate =
      let below = ok.lawful.below v gate in
      let ordered = ok.lawful.ordered v gate in value_gate g.net a v gate.above below (omega arith)

  pub outputs_are_their_literals : outputs_under g a ≡ map (literal_under g.net a) g.outputs
  outputs_are_their_literals = outputs_are_literals g ok.lawful a

-- ---- gates in use

pub marked_is_reached : (g : Graph) → Lawful g → (v : ℕ) → (in_use g v ≡ true) ↔ InUse g v
marked_is_reached = in_use_iff

pub R_counts_reached_gates : (g : Graph) → Lawful g → (test : ℕ → Bool) → ((v : ℕ) → IsGate g.net v → (test v ≡ true) ↔ Reached g v)
    → used_gates g ≡ length (keep test (gather (λ k. suc (free g.net + k) ∷ []) (size g.net)))
R_counts_reached_gates = used_gates_reached

-- ---- what takes a graph's place

keeps : (g h : Graph) → h.net.inputs ≡ g.net.inputs → ((a : ℕ → Bool) → outputs_under h a ≡ outputs_under g a) → WellFormed h
    → AllReached h → Keeps g h
keeps g h inputs same ok all = record {
  same_inputs = inputs;
  same_outputs = same;
  is_well_formed = ok;
  first_lower = first_lower h ok.lawful;
  second_lower = second_lower h ok.lawful;
  all_in_use = λ v i. record { is_gate = i; is_reached = all v i };
}

-- dropping the gates not in use
pub dropped_has_R_gates : (g : Graph) → size (dropped g).net ≡ used_gates g
dropped_has_R_gates = dropped_size

module _ (g : Graph) (ok : WellFormed g) where
  pub dropped_keeps : Keeps g (dropped g)
  dropped_keeps =
      keeps g (dropped g) (dropped_free g) (dropped_keeps_outputs g ok.lawful) (dropped_well_formed g ok)
      (dropped_all_reached g ok.lawful)

  pub dropped_keeps_R : used_gates (dropped g) ≡ used_gates g
  dropped_keeps_R = dropped_uses g ok.lawful

  pub dropped_once_is_enough : dropped (dropped g) ≡ dropped g
  dropped_once_is_enough = dropped_twice g ok.lawful

  -- a gate in use stands under a new number, over its literals renumbered; the order stays; and nothing else stands there
  pub dropped_has_the_gates_in_use : (v : ℕ) → InUse g v
      → IsGate (dropped g).net (new_number g.net (marks g) v)
      × (first (dropped g).net (new_number g.net (marks g) v) ≡ renumbered g.net (marks g) (first g.net v))
      × (second (dropped g).net (new_number g.net (marks g) v) ≡ renumbered g.net (marks g) (second g.net v))
  dropped_has_the_gates_in_use = dropped_gate g ok.lawful

  pub dropped_keeps_the_order : (u v : ℕ) → u < v → InUse g v → new_number g.net (marks g) u < new_number g.net (marks g) v
  dropped_keeps_the_order = dropped_keeps_order g ok.lawful

  pub dropped_has_nothing_else : (n : ℕ) → IsGate (dropped g).net n → (v : ℕ) × InUse g v × (new_number g.net (marks g) v ≡ n)
  dropped_has_nothing_else = dropped_only g ok.lawful

  pub nothing_to_drop : ((v : ℕ) → IsGate g.net v → Reached g v) → dropped g ≡ g
  nothing_to_drop = dropped_same g ok.lawful

  -- a whole run
  pub run_keeps : Keeps g (run g).graph
  run_keeps = keeps g (run g).graph (run_keeps_inputs g ok) (run_keeps_outputs g ok) (run_well_formed g ok) (run_all_reached g ok)

-- a good replacement; no other is accepted (`apply_stores_finished`)
module _ (g : Graph) (root : ℕ) (w : Leaves) (p : Proposal) (good : GoodProposal g root w p) where
  lawful : Lawful g
  lawful = good.window.graph.lawful

  fits : Replaces g root w p
  fits =
      let gate = good.window.root_used.is_gate in
      record {
        lawful = lawful;
        gate = gate;
        few = good.window.leaves.few;
        cut = (covered_iff g lawful w root gate.within).1 good.window.cut;
        rule = (rule_iff g lawful root gate w p).1 good.rule;
        equal = good.equal;
      }

  pub replacement_keeps : Keeps g (finished g root p)
  replacement_keeps =
      keeps g (finished g root p) (finished_free g root p) (finished_keeps_outputs g root w p fits)
      (finished_well_formed g good.window.graph root fits.gate w p fits.rule good.fewer)
      (finished_all_reached g lawful root fits.gate w p fits.rule)
