-- Demand 2, call by call: what an accepted call answers, and what its lent memory holds afterwards.
-- Assumes nothing.
use mathlib.Core.Path.{◌≡◌, refl, sym, ap, ◌∙◌}
use mathlib.Core.Bool.{Bool, true, false, false≢true}
use mathlib.Core.List.{List}
use mathlib.Core.Logic.{◌↔◌}
use mathlib.Core.Option.{Option, none, some}
use Prim.Native.Nat.{ℕ, ◌-◌, ◌≤◌}
use native.Mathlib.Omega.{arith}
use lib.ListN.{length, get_or, take, length-map}
use Rattle.graph.specs.declared.refusal.Refusal.{Refusal}
use Rattle.graph.specs.declared.refusal.Refusal.TheVariants.{BadGraph, BadRoot, NoRoom}
use Rattle.graph.specs.Refuse.{first_refusal}
use Rattle.graph.specs.Lent.{short, Buffers, no_room_for, stored_in}
use Rattle.graph.specs.Graph.{Graph, sinks, WellFormed}
use Rattle.graph.specs.Evaluate.{outputs_under, assignment_of, evaluate_refusals, evaluate_effect, evaluated_outcome}
use Rattle.graph.proofs.Graph.{well_formed_iff}
use Rattle.graph.proofs.Use.{in_use_iff}
use Rattle.graph.proofs.Refuse.{none_shown, number_of_not_zero}
use Rattle.graph.proofs.Tests.{eqb_iff}
use Rattle.text.specs.States.{text_of}
use Rattle.text.specs.Reading.{Stated, Reading, refuses, yields, reading}
use Rattle.text.specs.Refusals.{WriteGiven}
use Rattle.text.specs.Calls.{with_room, read_effect, read_outcome, write_refusals, write_effect, written_outcome}
use Rattle.text.proofs.Reading.{reading_iff, reads_graph}
use Rattle.text.proofs.Refusals.{write_answers}
use Rattle.text.proofs.RoundTrip.{round_trip}
use Rattle.window.specs.declared.leaf_set.Leaves.{Leaves}
use Rattle.window.specs.LeafRule.{picked}
use Rattle.window.specs.Calls.{RootGiven, root_refusals, pick_answer, pick_outcome, window_refusals, Window, table_answer, table_outcome}
use Rattle.window.proofs.Calls.{pick_answers, window_accepted}
use Rattle.window.proofs.TableLaws.{table_bit}
use Rattle.window.proofs.LeafRule.{picked_well_set, picked_cuts}
use Rattle.replacement.specs.declared.types.Proposal.{Proposal}
use Rattle.replacement.specs.Rewire.{finished}
use Rattle.replacement.specs.Calls.{GoodProposal, apply_effect, applied_outcome}
use Rattle.replacement.proofs.Calls.{apply_none_given, apply_accepted}
use Rattle.listing.specs.declared.Candidate.{Candidate}
use Rattle.listing.specs.Listing.{listed, GoodReplacement, IsTheList}
use Rattle.listing.specs.Calls.{with_list, list_effect, listed_outcome}
use Rattle.listing.proofs.Listing.{listed_is_every_good}
use Rattle.run.specs.Run.{run}
use Rattle.run.specs.Calls.{RunBuffers, RunGiven, filled_in, run_effect, ran_outcome}
use Rattle.run.proofs.Run.{run_well_formed, run_no_larger}
use Rattle.run.proofs.Calls.{run_answers, run_none_given, run_clears_work}
use Rattle.promises.specs.Promises.{Keeps, RunHolds, ReadAs, WrittenAs, EvaluatedAs, PickedAs, TableAs, ListedAs, AppliedAs, RanAs}
use Rattle.promises.proofs.Meaning.{run_keeps, replacement_keeps}
use Rattle.promises.proofs.Search.{run_ends_with_none_left}
use Rattle.promises.proofs.Stored.{stored_written, holds_stored, filled_all}

-- what a test decides holds where its denial is refused
decided : {P : Type 0} (t : Bool) → (t ≡ true) ↔ P → ¬ (¬ P) → P
decided true says n = says.0 refl
decided false says n = absurd (n (λ x. false≢true (says.1 x)))

-- ---- reading

module _ (t : List ℕ) (b : Buffers) (accepted : (read_outcome (read_effect t b).answer).number ≡ 0) where
  read_yields : (g : Graph) × (reading t ≡ yields g) × (no_room_for g b ≡ false)
  unfolding read_effect read_outcome with_room
  read_yields = go (reading t) refl
    where
      room : (g : Graph) → reading t ≡ yields g → (o : Bool) → no_room_for g b ≡ o → no_room_for g b ≡ false
      room g e true h = absurd (number_of_not_zero NoRoom (sym accepted ∙ rw (e, read_effect, with_room, h)))
      room g e false h = h

      go : (x : Reading) → reading t ≡ x → (g : Graph) × (reading t ≡ yields g) × (no_room_for g b ≡ false)
      go (refuses r) e = absurd (number_of_not_zero r (sym accepted ∙ rw (e, read_effect, with_room)))
      go (yields g) e = (g, e, room g e (no_room_for g b) refl)

  pub read_stores_stated : (g : Graph) × Stated t g × ReadAs g b (read_effect t b)
  read_stores_stated =
      let (g, e, room) = read_yields in
      let stated = (reading_iff t g).0 e in
      rw (reads_graph t b g e room) (g, stated, record { counts_told = refl; holds = holds_stored g b stated.is_well_formed })

-- ---- writing

module _ (g : Graph) (lent : List ℕ) (accepted : (written_outcome (write_effect g lent).answer).number ≡ 0) where
  write_none : first_refusal (write_refusals g lent) ≡ none
  unfolding write_effect written_outcome
  write_none = none_shown (first_refusal (write_refusals g lent)) _ (λ q e. rw (e, write_effect)) accepted

  pub write_stores_text : WellFormed g × WrittenAs g lent (write_effect g lent)
  unfolding write_effect
  write_stores_text =
      let ok = decided _ (well_formed_iff g) (λ n. (write_answers g lent).accepts.0 accepted BadGraph (WriteGiven.bad_graph n)) in
      rw (write_none, write_effect) (ok, record { count_told = refl; stored = stored_written (text_of g) lent })

  -- the bytes written are read back as the graph
  pub write_then_read : reading (take (length (text_of g)) (write_effect g lent).lent) ≡ yields g
  write_then_read = let (ok, written_as) = write_stores_text in ap reading written_as.stored.first_places ∙ round_trip g ok

-- ---- evaluating

-- input v has the value that stands at place v - 1
pub assigned_by_place : (vs : List ℕ) (v : ℕ) → (assignment_of vs v ≡ true) ↔ (get_or vs (v - 1) 0 ≡ 1)
unfolding assignment_of
assigned_by_place vs v = eqb_iff _ _

-- one value an output
outputs_count : (g : Graph) (a : ℕ → Bool) → length (outputs_under g a) ≡ length (sinks g)
unfolding outputs_under
outputs_count g a = length-map (sinks g) _

module _ (g : Graph) (vs lent : List ℕ) (accepted : (evaluated_outcome (evaluate_effect g vs lent).answer).number ≡ 0) where
  evaluate_none : first_refusal (evaluate_refusals g vs lent) ≡ none
  unfolding evaluate_effect evaluated_outcome
  evaluate_none = none_shown (first_refusal (evaluate_refusals g vs lent)) _ (λ q e. rw (e, evaluate_effect)) accepted

  pub evaluate_stores_outputs : EvaluatedAs g vs lent (evaluate_effect g vs lent)
  unfolding evaluate_effect
  evaluate_stores_outputs = rw (evaluate_none, evaluate_effect) (record { count_told = refl; stored = stored_written _ lent })

-- ---- picking leaves, and the root's table

module _ (g : Graph) (root : ℕ) (accepted : (pick_outcome (pick_answer g root)).number ≡ 0) where
  pick_none : first_refusal (root_refusals g root) ≡ none
  unfolding pick_answer pick_outcome
  pick_none = none_shown (first_refusal (root_refusals g root)) _ (λ q e. rw (e, pick_answer)) accepted

  pick_none_given : (q : Refusal) → ¬ RootGiven g root q
  pick_none_given = (pick_answers g root).accepts.0 accepted

  -- the leaves that the rule picks make a window
  picked_window : Window g root (picked g.net root)
  picked_window =
      let ok = decided _ (well_formed_iff g) (λ n. pick_none_given BadGraph (RootGiven.bad_graph n)) in
      let law = ok.lawful in
      let used = decided _ (in_use_iff g law root) (λ n. pick_none_given BadRoot (RootGiven.bad_root n)) in
      let gate = used.is_gate in
      record { graph = ok; root_used = used; leaves = picked_well_set g law root gate; cut = picked_cuts g law root gate }

  pub pick_answers_leaves : PickedAs g root (pick_answer g root)
  unfolding pick_answer
  pick_answers_leaves = rw (pick_none, pick_answer) (record { leaves = _; accepted = refl; by_the_rule = refl; window = picked_window })

module _ (g : Graph) (root : ℕ) (w : Leaves) (accepted : (table_outcome (table_answer g root w)).number ≡ 0) where
  table_none : first_refusal (window_refusals g root w) ≡ none
  unfolding table_answer table_outcome
  table_none = none_shown (first_refusal (window_refusals g root w)) _ (λ q e. rw (e, table_answer)) accepted

  pub table_answers_table : TableAs g root w (table_answer g root w)
  unfolding table_answer
  table_answers_table =
      rw (table_none, table_answer) (record { told = _; accepted = refl; is_the_table = refl; bits = table_bit g.net w root })

-- ---- listing

module _ (g : Graph) (root : ℕ) (w : Leaves) (lent : List Candidate)
    (accepted : (listed_outcome (list_effect g root w lent).answer).number ≡ 0) where
  list_none : (first_refusal (window_refusals g root w) ≡ none) × (short (length (listed g root w)) lent ≡ false)
  unfolding list_effect listed_outcome with_list
  list_none = go (first_refusal (window_refusals g root w)) refl (short (length (listed g root w)) lent) refl
    where
      go : (o : Option Refusal) → first_refusal (window_refusals g root w) ≡ o → (s : Bool) → short (length (listed g root w)) lent ≡ s
          → (first_refusal (window_refusals g root w) ≡ none) × (short (length (listed g root w)) lent ≡ false)
      go (some r) e s h = absurd (number_of_not_zero r (sym accepted ∙ rw (e, list_effect)))
      go none e true h = absurd (number_of_not_zero NoRoom (sym accepted ∙ rw (e, list_effect, h, with_list)))
      go none e false h = (e, h)

  pub list_stores_the_list :
      ListedAs (listed g root w) lent (list_effect g root w lent)
      × IsTheList (GoodReplacement g root w) (listed g root w)
  unfolding list_effect with_list
  list_stores_the_list =
      let (e, h) = list_none in
      let known = window_accepted g root w e in
      let list = listed_is_every_good g known.graph.lawful root known.root_used.is_gate w in
      rw (e, list_effect, h, with_list) (record { count_told = refl; stored = stored_written (listed g root w) lent }, list)

-- ---- applying a proposal

module _ (g : Graph) (root : ℕ) (w : Leaves) (p : Proposal) (b : Buffers)
    (accepted : (applied_outcome (apply_effect g root w p b).answer).number ≡ 0) where
  -- only a good proposal is accepted
  pub apply_stores_finished : GoodProposal g root w p × AppliedAs g (finished g root p) b (apply_effect g root w p b)
  unfolding apply_effect
  apply_stores_finished =
      let good = apply_accepted g root w p b accepted in
      let kept = replacement_keeps g root w p good in
      rw (apply_none_given g root w p b accepted, apply_effect) (
        good,
        record {
          counts_told = refl;
          holds = holds_stored (finished g root p) b kept.is_well_formed;
          keeps = kept;
          fewer = good.fewer;
        },
      )

-- ---- the run

-- a graph that keeps the outputs' values has as many outputs
pub keeps_output_count : {g h : Graph} → Keeps g h → length h.outputs ≡ length g.outputs
keeps_output_count {g} {h} k = let a : ℕ → Bool = λ v. false in sym (outputs_count h a) ∙ ap length (k.same_outputs a) ∙ outputs_count g a

-- the run's words fit into the source graph's places
run_words_fit : (g : Graph) (ok : WellFormed g) → length (run g).graph.net.gates ≤ length g.net.gates
run_words_fit g ok = omega (arith, run_no_larger g ok, ok.lawful.even, (run_well_formed g ok).lawful.even)

module _ (g : Graph) (b : RunBuffers) (accepted : (ran_outcome (run_effect g b).answer).number ≡ 0) where
  ok : WellFormed g
  ok = decided _ (well_formed_iff g) (λ n. (run_answers g b).accepts.0 accepted BadGraph (RunGiven.bad_graph n))

  result_is : (run_effect g b).lent.result ≡ filled_in g (run g).graph b.result
  unfolding run_effect
  result_is = rw (run_none_given g b accepted, run_effect)

  run_stores : RunHolds g (run g).graph b (run_effect g b).lent
  unfolding filled_in stored_in
  run_stores = record {
    no_more_words = run_words_fit g ok;
    gates_stored = rw result_is (stored_written _ _);
    outputs_stored =
        let count = keeps_output_count (run_keeps g ok) in
        rw (result_is, filled_all (length g.outputs) (run g).graph.outputs count) (stored_written _ _);
    work_gates_zero = rw (run_clears_work g b accepted) (stored_written _ _);
    work_outputs_zero = rw (run_clears_work g b accepted) (stored_written _ _);
  }

  pub run_stores_finished : RanAs g (run g).graph (run g).made b (run_effect g b)
  unfolding run_effect
  run_stores_finished = record {
    counts_told = rw (run_none_given g b accepted, run_effect);
    holds = run_stores;
    keeps = run_keeps g ok;
    none_left = run_ends_with_none_left g ok;
  }
