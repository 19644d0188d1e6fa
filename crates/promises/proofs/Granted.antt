-- Demands 2 and 3 from their premises: what each call asks for, that it is then accepted, and what it answers and leaves.
-- Assumes nothing.
use mathlib.Core.Path.{refl}
use mathlib.Core.List.{List}
use Prim.Native.Nat.{ℕ, ◌≤◌, ◌<◌}
use native.Mathlib.Omega.{arith}
use borrow.Author.Tests.{lt-ltb}
use lib.ListN.{length}
use Rattle.graph.specs.declared.refusal.Refusal.{Refusal}
use Rattle.graph.specs.Lent.{short, Buffers, RoomFor}
use Rattle.graph.specs.Graph.{Graph, WellFormed}
use Rattle.graph.specs.Use.{InUse}
use Rattle.graph.specs.Evaluate.{Assignment, EvaluateGiven, evaluate_effect}
use Rattle.graph.proofs.Lent.{room_iff}
use Rattle.graph.proofs.Refuse.{first_none}
use Rattle.graph.proofs.Evaluate.{evaluate_answers}
use Rattle.graph.proofs.Drop.{all_used, used_at_most_size}
use Rattle.text.specs.States.{text_of}
use Rattle.text.specs.Reading.{Stated}
use Rattle.text.specs.Refusals.{WriteGiven}
use Rattle.text.specs.Calls.{read_effect, write_effect}
use Rattle.text.proofs.Reading.{reading_iff, reads_graph}
use Rattle.text.proofs.Refusals.{write_answers}
use Rattle.window.specs.declared.leaf_set.Leaves.{Leaves}
use Rattle.window.specs.Calls.{RootGiven, pick_answer, Window, WindowGiven, table_answer}
use Rattle.window.proofs.Calls.{window_decides, pick_answers, table_answers}
use Rattle.replacement.specs.declared.types.Proposal.{Proposal}
use Rattle.replacement.specs.Rewire.{finished}
use Rattle.replacement.specs.Calls.{GoodProposal, ApplyGiven, apply_effect}
use Rattle.replacement.proofs.Calls.{apply_answers}
use Rattle.listing.specs.declared.Candidate.{Candidate}
use Rattle.listing.specs.Listing.{listed, GoodReplacement, IsTheList}
use Rattle.listing.specs.Calls.{ListGiven, with_list, list_effect}
use Rattle.listing.proofs.Listing.{listed_is_every_good}
use Rattle.listing.proofs.Calls.{list_answers}
use Rattle.run.specs.Run.{run}
use Rattle.run.specs.Calls.{RunBuffers, RunGiven, run_effect}
use Rattle.run.proofs.Calls.{run_answers}
use Rattle.promises.specs.Promises.{ReadAs, WrittenAs, EvaluatedAs, PickedAs, TableAs, ListedAs, NoRoomToList, AppliedAs, RanAs}
use Rattle.promises.proofs.Meaning.{replacement_keeps}
use Rattle.promises.proofs.Stored.{holds_stored}
use Rattle.promises.proofs.Accepted.{
  write_stores_text,
  keeps_output_count,
  evaluate_stores_outputs,
  pick_answers_leaves,
  table_answers_table,
  list_stores_the_list,
  apply_stores_finished,
  run_stores_finished,
}

-- ---- texts

-- a text that states a graph within the limits, and room for it: it is read as that graph
pub stated_text_is_read : (t : List ℕ) (b : Buffers) (g : Graph) → Stated t g → RoomFor g b
    → ReadAs g b (read_effect t b)
stated_text_is_read t b g stated room =
    rw (reads_graph t b g ((reading_iff t g).1 stated) ((room_iff g b).1 room))
    (record { counts_told = refl; holds = holds_stored g b stated.is_well_formed })

-- a well-formed graph, and room for its text
module _ (g : Graph) (lent : List ℕ) (ok : WellFormed g) (room : length (text_of g) ≤ length lent) where
  pub writing_has_no_refusal : (q : Refusal) → ¬ WriteGiven g lent q
  writing_has_no_refusal q (WriteGiven.bad_graph n) = n ok
  writing_has_no_refusal q (WriteGiven.no_room h) = omega arith

  pub graph_is_written : WrittenAs g lent (write_effect g lent)
  graph_is_written = (write_stores_text g lent ((write_answers g lent).accepts.1 writing_has_no_refusal)).1

-- ---- values

-- a well-formed graph, as many values as it has inputs, each 0 or 1, and room for one an output
module _ (g : Graph) (vs lent : List ℕ) (ok : WellFormed g) (assigns : Assignment g.net vs)
    (room : length g.outputs ≤ length lent) where
  evaluating_has_no_refusal : (q : Refusal) → ¬ EvaluateGiven g vs lent q
  evaluating_has_no_refusal q (EvaluateGiven.bad_graph n) = n ok
  evaluating_has_no_refusal q (EvaluateGiven.bad_assignment n) = n assigns
  evaluating_has_no_refusal q (EvaluateGiven.no_room h) = omega arith

  pub assignment_is_evaluated : EvaluatedAs g vs lent (evaluate_effect g vs lent)
  assignment_is_evaluated = evaluate_stores_outputs g vs lent ((evaluate_answers g vs lent).accepts.1 evaluating_has_no_refusal)

-- ---- windows

-- a well-formed graph and a gate of it in use: the leaves that the rule picks make a window
module _ (g : Graph) (root : ℕ) (ok : WellFormed g) (used : InUse g root) where
  picking_has_no_refusal : (q : Refusal) → ¬ RootGiven g root q
  picking_has_no_refusal q (RootGiven.bad_graph n) = n ok
  picking_has_no_refusal q (RootGiven.bad_root n) = n used

  pub gate_in_use_has_leaves : PickedAs g root (pick_answer g root)
  gate_in_use_has_leaves = pick_answers_leaves g root ((pick_answers g root).accepts.1 picking_has_no_refusal)

-- a window: a well-formed graph, a gate of it in use, and leaves well set down below it that cut it
module _ (g : Graph) (root : ℕ) (w : Leaves) (known : Window g root w) where
  window_has_no_refusal : (q : Refusal) → ¬ WindowGiven g root w q
  window_has_no_refusal q (WindowGiven.by_root h) = picking_has_no_refusal g root known.graph known.root_used q h
  window_has_no_refusal q (WindowGiven.bad_leaves n) = n known.leaves
  window_has_no_refusal q (WindowGiven.not_a_cut n) = n known.cut

  pub window_has_its_table : TableAs g root w (table_answer g root w)
  window_has_its_table = table_answers_table g root w ((table_answers g root w).accepts.1 window_has_no_refusal)

-- ---- the list

-- a window: there is a list of every good replacement, nothing else, each once, in order. With room for it, it is left; with less, its
-- count is told
module _ (g : Graph) (root : ℕ) (w : Leaves) (lent : List Candidate) (known : Window g root w) where
  listing_has_no_refusal : length (listed g root w) ≤ length lent → (q : Refusal) → ¬ ListGiven g root w lent q
  listing_has_no_refusal room q (ListGiven.by_window h) = window_has_no_refusal g root w known q h
  listing_has_no_refusal room q (ListGiven.no_room h) = omega arith

  list_is_left : length (listed g root w) ≤ length lent → ListedAs (listed g root w) lent (list_effect g root w lent)
  list_is_left room = (list_stores_the_list g root w lent ((list_answers g root w lent).accepts.1 (listing_has_no_refusal room))).0

  no_room_is_told : length lent < length (listed g root w) → NoRoomToList (listed g root w) lent (list_effect g root w lent)
  unfolding list_effect with_list short
  no_room_is_told few =
      let e = (first_none (window_decides g root w)).1 (window_has_no_refusal g root w known) in
      rw (e, list_effect, with_list, lt-ltb _ _ few) (record { count_told = refl; unchanged = refl })

  pub window_has_the_list :
      (xs : List Candidate)
      × IsTheList (GoodReplacement g root w) xs
      × (length xs ≤ length lent → ListedAs xs lent (list_effect g root w lent))
      × (length lent < length xs → NoRoomToList xs lent (list_effect g root w lent))
  window_has_the_list = (
    listed g root w,
    listed_is_every_good g known.graph.lawful root known.root_used.is_gate w,
    list_is_left,
    no_room_is_told,
  )

-- ---- one replacement

-- what has room for the graph has room for what a good proposal makes of it
pub room_is_enough : (g : Graph) (root : ℕ) (w : Leaves) (p : Proposal) (b : Buffers) → GoodProposal g root w p → RoomFor g b
    → RoomFor (finished g root p) b
room_is_enough g root w p b good room =
    let kept = replacement_keeps g root w p good in
    let used = all_used (finished g root p) kept.is_well_formed.lawful (λ v i. (kept.all_in_use v i).is_reached) in
    let even = kept.is_well_formed.lawful.even in
    let source-even = good.window.graph.lawful.even in
    let fewer = good.fewer in
    let fits = room.gates_fit in
    let outputs_fit = room.outputs_fit in
    record {
      gates_fit = omega (arith, used, used_at_most_size g);
      outputs_fit = omega (arith, keeps_output_count kept);
    }

-- a good proposal, and room for the graph that it makes: it is applied
module _ (g : Graph) (root : ℕ) (w : Leaves) (p : Proposal) (b : Buffers) (good : GoodProposal g root w p)
    (room : RoomFor (finished g root p) b) where
  applying_has_no_refusal : (q : Refusal) → ¬ ApplyGiven g root w p b q
  applying_has_no_refusal q (ApplyGiven.by_window h) = window_has_no_refusal g root w good.window q h
  applying_has_no_refusal q (ApplyGiven.bad_candidate n) = n good.rule
  applying_has_no_refusal q (ApplyGiven.not_equal n) = n good.equal
  applying_has_no_refusal q (ApplyGiven.no_gain h) = let f = good.fewer in omega arith
  applying_has_no_refusal q (ApplyGiven.order_lost n) = n (replacement_keeps g root w p good).is_well_formed
  applying_has_no_refusal q (ApplyGiven.no_room h) = h room

  pub good_is_applied : AppliedAs g (finished g root p) b (apply_effect g root w p b)
  good_is_applied = (apply_stores_finished g root w p b ((apply_answers g root w p b).accepts.1 applying_has_no_refusal)).1

-- ---- the run

-- a well-formed graph, and room for it in the four lists
module _ (g : Graph) (b : RunBuffers) (ok : WellFormed g) (room : RoomFor g b.result) (work-room : RoomFor g b.work) where
  running_has_no_refusal : (q : Refusal) → ¬ RunGiven g b q
  running_has_no_refusal q (RunGiven.bad_graph n) = n ok
  running_has_no_refusal q (RunGiven.no_room_for_result h) = h room
  running_has_no_refusal q (RunGiven.no_room_for_work h) = h work-room

  pub graph_is_run : RanAs g (run g).graph (run g).made b (run_effect g b)
  graph_is_run = run_stores_finished g b ((run_answers g b).accepts.1 running_has_no_refusal)
