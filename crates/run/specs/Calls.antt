-- The run as a call: the refusals in order, the answer, and its four lent lists afterwards.
-- Assumes nothing.
use Rattle.std.specs.Prelude.{ℕ, not, ◌||◌, List, [], ◌∷◌, Result, Ok, Err, length}
use Rattle.std.proofs.Math.Option.{none, some}
use Rattle.graph.specs.declared.refusal.Refusal.{Refusal}
use Rattle.graph.specs.declared.refusal.Refusal.TheVariants.{BadGraph, NoRoom}
use Rattle.graph.specs.Lists.{filled}
use Rattle.graph.specs.Lent.{Buffers, no_room_for, RoomFor, stored_in, Effect, ◌leaving◌}
use Rattle.graph.specs.Refuse.{number_of, Row, ◌⇒◌, first_refusal, Outcome, accepted, refused}
use Rattle.graph.specs.Graph.{Graph, graph_of, size, well_formed, WellFormed}
use Rattle.run.specs.declared.Ran.{Ran}
use Rattle.run.specs.Run.{run}

-- the lists lent for the result, and those of the work area
pub record RunBuffers : Type 0 where
  pub result : Buffers
  pub work : Buffers

-- its refusals rank by their numbers
abbrev pub run_rank : Refusal → ℕ
run_rank = number_of

-- when a run is refused
pub data RunGiven (g : Graph) (b : RunBuffers) : Refusal → Type 0 where
  bad_graph : ¬ WellFormed g → RunGiven g b BadGraph
  no_room_for_result : ¬ RoomFor g b.result → RunGiven g b NoRoom
  no_room_for_work : ¬ RoomFor g b.work → RunGiven g b NoRoom

-- the room is that of the source graph, in the result and in the work area alike
unfoldable pub run_refusals : Graph → RunBuffers → List Row
unfolding well_formed no_room_for
run_refusals g b = not (well_formed g) ⇒ BadGraph ∷ (no_room_for g b.result || no_room_for g b.work) ⇒ NoRoom ∷ []

-- the needed words of the source graph g written: those of the graph h, and 0 beyond them. Only the words are stored, so that the
-- filled lists need be no graph
unfoldable pub filled_in : Graph → Graph → Buffers → Buffers
unfolding filled stored_in
filled_in g h b =
    stored_in (graph_of h.net.inputs (filled (length g.net.gates) h.net.gates) (filled (length g.outputs) h.outputs)) b

-- no gate and no output
abbrev pub nothing : Graph
nothing = graph_of 0 [] []

-- afterwards the result holds the finished graph, and the work area 0
unfoldable pub run_effect : Graph → RunBuffers → Effect (Result Ran Refusal) RunBuffers
unfolding run_refusals first_refusal run filled_in
run_effect g b =
    elim (first_refusal (run_refusals g b)) [
      | some r ↦ Err r leaving b
      | none ↦ let e = run g in
          Ok (record { gates = size e.graph.net; made = e.made })
          leaving record { result = filled_in g e.graph b.result; work = filled_in g nothing b.work }
    ]

unfoldable pub ran_outcome : Result Ran Refusal → Outcome
ran_outcome (Ok n) = accepted (n.gates ∷ n.made ∷ [])
ran_outcome (Err r) = refused r
