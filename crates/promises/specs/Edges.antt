-- Examples at the limits, of texts and graphs: what the definitions give just within one and just past it.
-- Assumes nothing.
use Rattle.std.specs.Prelude.{ℕ, List, [], ◌∷◌, ◌++◌, replicate}
use Prim.Native.String.{String}
use Rattle.graph.specs.Graph.{Graph, graph_of}
use Rattle.promises.specs.Calls.{Example, ◌gives◌, buffers, read_call, write_call, evaluate_call}
use Rattle.promises.specs.Bench.{bytes}

-- the answer to a text where nothing has room
unfoldable pub answer_to : String → List ℕ
unfolding bytes read_call
answer_to s = read_call (bytes s) (buffers 0 0)

-- the empty graph's text of 14 bytes, and a rest of so many letters `c`
unfoldable pub with_rest : ℕ → List ℕ
unfolding bytes
with_rest n = bytes "aag 0 0 0 0 0\n" ++ replicate n 99

-- half a gate: not well formed
abbrev pub half_gate : Graph
half_gate = graph_of 1 (3 ∷ []) (2 ∷ [])

-- two inputs, the first without the second, and that once plain and once complemented
abbrev one_gate : Graph
one_gate = graph_of 2 (5 ∷ 2 ∷ []) (6 ∷ 7 ∷ [])

-- two inputs, three outputs, one gate with its smaller right side first
abbrev three_outputs : String
three_outputs = "aag 3 2 0 3 1\n2\n4\n6\n7\n0\n6 2 5\n"

unfoldable pub read_edges : List Example
unfolding answer_to with_rest bytes read_call
read_edges =
    -- the limits of the header: past them TOO LARGE, within them the lines are missing
    (answer_to "aag 65 65 0 0 0\n" ++ answer_to "aag 64 64 0 0 0\n") gives (2 ∷ 5 ∷ [])
    ∷ (answer_to "aag 0 0 0 65 0\n" ++ answer_to "aag 0 0 0 64 0\n") gives (2 ∷ 5 ∷ [])
    ∷ (answer_to "aag 1025 0 0 0 1025\n" ++ answer_to "aag 1024 0 0 0 1024\n") gives (2 ∷ 5 ∷ [])
    -- 65,536 bytes and 65,535
    ∷ (read_call (with_rest 65522) (buffers 0 0) ++ read_call (with_rest 65521) (buffers 0 0)) gives (2 ∷ 0 ∷ 0 ∷ 0 ∷ 0 ∷ [])
    -- a number above 4,294,967,295 or with a leading zero has the wrong shape
    ∷ (answer_to "aag 4294967296 0 0 0 0\n" ++ answer_to "aag 4294967295 0 0 0 0\n") gives (1 ∷ 4 ∷ [])
    ∷ (answer_to "aag 00 0 0 0 0\n" ++ answer_to "aag 1 1 0 0 0\n02\n") gives (1 ∷ 5 ∷ [])
    -- latches; and a header without its line feed
    ∷ (answer_to "aag 1 0 1 0 0\n2 2\n" ++ answer_to "aag 0 0 0 0 0") gives (3 ∷ 1 ∷ [])
    -- the rest: `i`, `o` and `c` are skipped, a blank line and `l` are not
    ∷ (answer_to "aag 0 0 0 0 0\ni0" ++ answer_to "aag 0 0 0 0 0\noh" ++ answer_to "aag 0 0 0 0 0\nc")
    gives (0 ∷ 0 ∷ 0 ∷ 0 ∷ 0 ∷ 0 ∷ 0 ∷ 0 ∷ 0 ∷ 0 ∷ 0 ∷ 0 ∷ [])
    ∷ (answer_to "aag 0 0 0 0 0\n\n" ++ answer_to "aag 0 0 0 0 0\nl") gives (5 ∷ 5 ∷ [])
    -- of 5 and 6 the earlier line
    ∷ (answer_to "aag 2 2 0 0 0\n3\nx\n" ++ answer_to "aag 2 2 0 0 0\nx\n3\n") gives (6 ∷ 5 ∷ [])
    -- where two refusals hold the lower number: a wrong shape and a size, a size and latches, latches and a count, a count and a line
    ∷ (answer_to "aag 65 65 0 0\n" ++ answer_to "aag 66 65 1 0 0\n") gives (1 ∷ 2 ∷ [])
    ∷ (answer_to "aag 2 0 1 0 0\n" ++ answer_to "aag 2 1 0 0 0\nx\n") gives (3 ∷ 4 ∷ [])
    -- a broken literal or line and no room
    ∷ (answer_to "aag 1 1 0 1 0\n2\n4\n" ++ answer_to "aag 1 1 0 1 0\n2\n") gives (6 ∷ 5 ∷ [])
    -- exactly the room that is needed, and more: the places past the need keep their contents
    ∷ read_call (bytes three_outputs) (buffers 2 3) gives (0 ∷ 2 ∷ 1 ∷ 3 ∷ 5 ∷ 2 ∷ 6 ∷ 7 ∷ 0 ∷ [])
    ∷ read_call (bytes three_outputs) (buffers 3 4) gives (0 ∷ 2 ∷ 1 ∷ 3 ∷ 5 ∷ 2 ∷ 99 ∷ 6 ∷ 7 ∷ 0 ∷ 99 ∷ [])
    -- one place less, for the gates or for the outputs: NO ROOM, and nothing is written
    ∷ read_call (bytes three_outputs) (buffers 1 3) gives (16 ∷ 99 ∷ 99 ∷ 99 ∷ 99 ∷ [])
    ∷ read_call (bytes three_outputs) (buffers 2 2) gives (16 ∷ 99 ∷ 99 ∷ 99 ∷ 99 ∷ [])
    -- gate `4 2 3` is held as 3, 2, and gate `4 4 2` breaks its rule
    ∷ read_call (bytes "aag 2 1 0 0 1\n2\n4 2 3\n") (buffers 2 0) gives (0 ∷ 1 ∷ 1 ∷ 0 ∷ 3 ∷ 2 ∷ [])
    ∷ answer_to "aag 2 1 0 0 1\n2\n4 4 2\n" gives (6 ∷ [])
    ∷ []

unfoldable pub write_edges : List Example
unfolding bytes write_call
write_edges =
    -- a lent graph with 65 inputs or outputs is not well formed; with 64 only room lacks
    (write_call (graph_of 65 [] []) 0 ++ write_call (graph_of 64 [] []) 0) gives (7 ∷ 16 ∷ [])
    ∷ (write_call (graph_of 0 [] (replicate 65 0)) 0 ++ write_call (graph_of 0 [] (replicate 64 0)) 0) gives (7 ∷ 16 ∷ [])
    -- half a gate; the smaller literal first; two equal literals
    ∷ (write_call half_gate 0 ++ write_call (graph_of 1 (2 ∷ 3 ∷ []) []) 0 ++ write_call (graph_of 1 (2 ∷ 2 ∷ []) []) 0)
    gives (7 ∷ 7 ∷ 16 ∷ [])
    -- a fanin just below the gate's own literal, and that literal
    ∷ (write_call (graph_of 1 (3 ∷ 0 ∷ []) []) 0 ++ write_call (graph_of 1 (4 ∷ 0 ∷ []) []) 0) gives (16 ∷ 7 ∷ [])
    -- the highest literal as an output, and the one after it
    ∷ (write_call (graph_of 1 (3 ∷ 2 ∷ []) (5 ∷ [])) 0 ++ write_call (graph_of 1 (3 ∷ 2 ∷ []) (6 ∷ [])) 0) gives (16 ∷ 7 ∷ [])
    -- 28 bytes: one place less, just enough, and one more
    ∷ write_call one_gate 27 gives (16 ∷ replicate 27 99)
    ∷ write_call one_gate 28 gives (0 ∷ 28 ∷ bytes "aag 3 2 0 2 1\n2\n4\n6\n7\n6 5 2\n")
    ∷ write_call one_gate 29 gives (0 ∷ 28 ∷ (bytes "aag 3 2 0 2 1\n2\n4\n6\n7\n6 5 2\n" ++ 99 ∷ []))
    -- numbers of two digits count both
    ∷ write_call (graph_of 5 [] (11 ∷ [])) 27 gives (16 ∷ replicate 27 99)
    ∷ write_call (graph_of 5 [] (11 ∷ [])) 28 gives (0 ∷ 28 ∷ bytes "aag 5 5 0 1 0\n2\n4\n6\n8\n10\n11\n")
    ∷ []

unfoldable pub evaluate_edges : List Example
unfolding evaluate_call
evaluate_edges =
    -- the first value is input 1's
    (evaluate_call one_gate (1 ∷ 0 ∷ []) 3 ++ evaluate_call one_gate (0 ∷ 1 ∷ []) 3)
    gives (0 ∷ 2 ∷ 1 ∷ 0 ∷ 99 ∷ 0 ∷ 2 ∷ 0 ∷ 1 ∷ 99 ∷ [])
    -- both at once, and none
    ∷ (evaluate_call one_gate (1 ∷ 1 ∷ []) 2 ++ evaluate_call one_gate (0 ∷ 0 ∷ []) 2) gives (0 ∷ 2 ∷ 0 ∷ 1 ∷ 0 ∷ 2 ∷ 0 ∷ 1 ∷ [])
    -- no input: the constants
    ∷ evaluate_call (graph_of 0 [] (0 ∷ 1 ∷ [])) [] 2 gives (0 ∷ 2 ∷ 0 ∷ 1 ∷ [])
    -- a value of 2, the first or the last
    ∷ evaluate_call one_gate (2 ∷ 0 ∷ []) 2 gives (8 ∷ 99 ∷ 99 ∷ [])
    ∷ evaluate_call one_gate (1 ∷ 2 ∷ []) 2 gives (8 ∷ 99 ∷ 99 ∷ [])
    -- a value too few, and one too many
    ∷ evaluate_call one_gate (1 ∷ []) 2 gives (8 ∷ 99 ∷ 99 ∷ [])
    ∷ evaluate_call one_gate (1 ∷ 0 ∷ 0 ∷ []) 2 gives (8 ∷ 99 ∷ 99 ∷ [])
    -- one place less than there are outputs, and just enough
    ∷ (evaluate_call one_gate (1 ∷ 0 ∷ []) 1 ++ evaluate_call one_gate (1 ∷ 0 ∷ []) 2) gives (16 ∷ 99 ∷ 0 ∷ 2 ∷ 1 ∷ 0 ∷ [])
    -- the lower number: half a gate and no value; a value too few and no room; half a gate and no room
    ∷ evaluate_call half_gate [] 1 gives (7 ∷ 99 ∷ [])
    ∷ evaluate_call one_gate (1 ∷ []) 1 gives (8 ∷ 99 ∷ [])
    ∷ evaluate_call half_gate (1 ∷ []) 0 gives (7 ∷ [])
    ∷ []
