-- A text read into words kept aside: what the lent lists hold afterwards.
-- Assumes nothing.
use mathlib.Core.Path.{◌≡◌, sym, ap₂, ◌∙◌}
use mathlib.Core.Bool.{Bool, true, false, ◌||◌}
use mathlib.Core.List.{List}
use Prim.Native.Nat.{ℕ, ◌*◌, ◌/◌}
use native.Mathlib.Omega.{arith}
use lib.ListN.{length, take}
use Rattle.std.specs.Prelude.{Ok, Err}
use Rattle.graph.specs.declared.refusal.Refusal.{Refusal}
use Rattle.graph.specs.declared.refusal.Refusal.TheVariants.{NoRoom}
use Rattle.graph.specs.Graph.{Graph, graph_of}
use Rattle.graph.specs.Lent.{short, Buffers, buffers_of, no_room_for, stored_in, ◌leaving◌}
use Rattle.text.specs.declared.counts.Counts.{Counts}
use Rattle.text.specs.Reading.{yields, reading}
use Rattle.text.specs.Calls.{with_room, read_effect}
use Rattle.reader.specs.KeptAside.{reading_of}
use Rattle.text.proofs.Reading.{reads_graph}

pub aside_refused : (t gs os : List ℕ) (b : Buffers) (r : Refusal) → reading_of (buffers_of gs os) (Err r) ≡ reading t
    → Err r leaving b ≡ read_effect t b
unfolding read_effect with_room reading_of
aside_refused t gs os b r is = rw (sym is, read_effect)

-- the counts n, and the words aside, are what the text t is read as
module _ (t gs os : List ℕ) (n : Counts) (is : reading_of (buffers_of gs os) (Ok n) ≡ reading t) where
  abbrev graph : Graph
  graph = graph_of n.inputs (take (2 * n.gates) gs) (take n.outputs os)

  graph_aside : reading t ≡ yields graph
  unfolding reading_of
  graph_aside = sym is

  -- the test of the room
  module _ (b : Buffers) {r : Bool} (said : r ≡ short (length graph.net.gates) b.gates || short (length graph.outputs) b.outputs) where
    room_is : no_room_for graph b ≡ r
    unfolding no_room_for
    room_is = sym said

    pub no_room : r ≡ true → Err NoRoom leaving b ≡ read_effect t b
    unfolding read_effect with_room
    no_room e = rw (graph_aside, room_is ∙ e, read_effect)

    pub room_enough : length (take (2 * n.gates) gs) ≡ 2 * n.gates → length (take n.outputs os) ≡ n.outputs → r ≡ false
        → Ok n leaving stored_in graph b ≡ read_effect t b
    room_enough gates_count outputs_count e =
        let size : n.gates ≡ length (take (2 * n.gates) gs) / 2 = omega (arith, gates_count) in
        ap₂ (λ (m k : ℕ). Ok (record n { gates = m; outputs = k }) leaving stored_in graph b) size (sym outputs_count)
        ∙ sym (reads_graph t b graph graph_aside (room_is ∙ e))
