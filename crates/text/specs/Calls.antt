-- Reading and writing as calls: the refusals in order, the answers, and the lent lists afterwards.
-- Assumes nothing.
use Rattle.std.specs.Prelude.{ℕ, cond, not, List, [], ◌∷◌, Result, Ok, Err, length}
use Rattle.std.proofs.Math.Option.{none, some}
use Rattle.graph.specs.declared.refusal.Refusal.{Refusal}
use Rattle.graph.specs.declared.refusal.Refusal.TheVariants.{BadGraph, NoRoom}
use Rattle.graph.specs.Lent.{short, written, Buffers, no_room_for, stored_in, Effect, ◌leaving◌}
use Rattle.graph.specs.Refuse.{Row, ◌⇒◌, first_refusal, Outcome, accepted, refused}
use Rattle.graph.specs.Graph.{Graph, size, well_formed}
use Rattle.text.specs.declared.counts.Counts.{Counts}
use Rattle.text.specs.States.{text_of}
use Rattle.text.specs.Reading.{Reading, refuses, yields, reading}

-- ---- reading into lists lent for the graph

-- the text's own refusals come before NO ROOM
unfoldable pub with_room : Reading → Buffers → Reading
unfolding no_room_for
with_room (refuses r) b = refuses r
with_room (yields g) b = cond (no_room_for g b) (refuses NoRoom) (yields g)

-- a graph's counts
abbrev pub counts_of : Graph → Counts
counts_of g = record { inputs = g.net.inputs; gates = size g.net; outputs = length g.outputs }

unfoldable pub read_effect : List ℕ → Buffers → Effect (Result Counts Refusal) Buffers
unfolding reading with_room stored_in
read_effect t b =
    elim (with_room (reading t) b) [
      | refuses r ↦ Err r leaving b
      | yields g ↦ Ok (counts_of g) leaving stored_in g b
    ]

unfoldable pub read_outcome : Result Counts Refusal → Outcome
read_outcome (Ok n) = accepted (n.inputs ∷ n.gates ∷ n.outputs ∷ [])
read_outcome (Err r) = refused r

-- ---- writing into a lent list of bytes

-- writing needs exactly the text's bytes
unfoldable pub write_refusals : Graph → List ℕ → List Row
unfolding well_formed short text_of
write_refusals g lent = not (well_formed g) ⇒ BadGraph ∷ short (length (text_of g)) lent ⇒ NoRoom ∷ []

unfoldable pub write_effect : Graph → List ℕ → Effect (Result ℕ Refusal) (List ℕ)
unfolding write_refusals first_refusal text_of written
write_effect g lent =
    elim (first_refusal (write_refusals g lent)) [
      | some r ↦ Err r leaving lent
      | none ↦ Ok (length (text_of g)) leaving written (text_of g) lent
    ]

unfoldable pub written_outcome : Result ℕ Refusal → Outcome
written_outcome (Ok n) = accepted (n ∷ [])
written_outcome (Err r) = refused r
