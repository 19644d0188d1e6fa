-- The bench examples: what the definitions give, and what the rules say.
-- Assumes nothing.
use Rattle.std.specs.Prelude.{ℕ, List, [], ◌∷◌, ◌++◌}
use Prim.Native.Char.{code}
use Prim.Native.String.{String, [] as empty, ◌∷◌ as ◌then◌}
use Rattle.graph.specs.Graph.{Graph, graph_of}
use Rattle.text.specs.States.{text_of}
use Rattle.text.specs.Reading.{refuses, yields, reading}
use Rattle.window.specs.Leaves.{leaves_of}
use Rattle.window.specs.LeafRule.{picked}
use Rattle.replacement.specs.Proposal.{literal, and_gate}
use Rattle.run.specs.Run.{run}
use Rattle.promises.specs.Calls.{Example, ◌gives◌, buffers, read_call, pick_call, table_call, list_call, apply_call, run_call}

unfoldable pub bytes : String → List ℕ
bytes empty = []
bytes (c then s) = code c ∷ bytes s

-- the graph of a text; none of these is refused
unfoldable pub graph_in : String → Graph
unfolding bytes reading
graph_in s = elim (reading (bytes s)) [ yields g ↦ g | refuses r ↦ graph_of 0 [] [] ]

unfoldable pub e1 : Graph
unfolding graph_in
e1 = graph_in "aag 4 2 0 1 2\n2\n4\n8\n6 4 2\n8 6 2\n"

-- one input, gate `4 3 2`, output 4
unfoldable pub e9 : Graph
unfolding graph_in
e9 = graph_in "aag 2 1 0 1 1\n2\n4\n4 3 2\n"

-- the same with output 5
unfoldable pub e10 : Graph
unfolding graph_in
e10 = graph_in "aag 2 1 0 1 1\n2\n5\n4 3 2\n"

-- two inputs, gates `6 5 3` and `8 7 2`, output 8
unfoldable pub e11 : Graph
unfolding graph_in
e11 = graph_in "aag 4 2 0 1 2\n2\n4\n8\n6 5 3\n8 7 2\n"

abbrev pub e12 : String
e12 = "aag 0 0 0 0 0\n"

unfoldable pub bench : List Example
unfolding e1 e9 e10 e11 bytes graph_in leaves_of picked run text_of read_call pick_call table_call list_call apply_call run_call
bench =
    -- P1 to P3: the table of variable 4, the leaves that the rule picks, and the list over them
    table_call e1 4 (leaves_of (1 ∷ 2 ∷ [])) gives (0 ∷ 0x8888888888888888 ∷ [])
    ∷ pick_call e1 4 gives (0 ∷ 2 ∷ 1 ∷ 2 ∷ 0 ∷ 0 ∷ 0 ∷ 0 ∷ [])
    ∷ list_call e1 4 (leaves_of (1 ∷ 2 ∷ [])) 2 gives (0 ∷ 2 ∷ 0 ∷ 6 ∷ 0 ∷ 0 ∷ 1 ∷ 1 ∷ 4 ∷ 2 ∷ 0 ∷ 1 ∷ [])
    -- P4 and P5: over leaves 1 and 3 the list is empty, and variable 2 is not covered
    ∷ list_call e1 4 (leaves_of (1 ∷ 3 ∷ [])) 0 gives (0 ∷ 0 ∷ [])
    ∷ apply_call e1 4 (leaves_of (1 ∷ 3 ∷ [])) (and_gate 4 2 0) (buffers 0 0) gives (12 ∷ [])
    -- P6 to P8: another table, no gain, no cut
    ∷ apply_call e1 4 (leaves_of (1 ∷ 2 ∷ [])) (literal 2) (buffers 0 0) gives (13 ∷ [])
    ∷ apply_call e1 4 (leaves_of (1 ∷ 2 ∷ [])) (and_gate 6 2 0) (buffers 0 0) gives (14 ∷ [])
    ∷ (table_call e1 3 (leaves_of (1 ∷ [])) ++ list_call e1 3 (leaves_of (1 ∷ [])) 0
    ++ apply_call e1 3 (leaves_of (1 ∷ [])) (literal 2) (buffers 0 0)) gives (11 ∷ 11 ∷ 11 ∷ [])
    -- P9 and P10: one replacement leaves no gate, and output 0 or 1; the work area's words are 0
    ∷ run_call e9 (buffers 2 1) (buffers 2 1) gives (0 ∷ 0 ∷ 1 ∷ 0 ∷ 0 ∷ 0 ∷ 0 ∷ 0 ∷ 0 ∷ [])
    ∷ run_call e10 (buffers 2 1) (buffers 2 1) gives (0 ∷ 0 ∷ 1 ∷ 0 ∷ 0 ∷ 1 ∷ 0 ∷ 0 ∷ 0 ∷ [])
    -- P11: one good replacement at 4, kind 0 literal 2, gain 2
    ∷ list_call e11 4 (picked e11.net 4) 1 gives (0 ∷ 1 ∷ 0 ∷ 2 ∷ 0 ∷ 0 ∷ 2 ∷ [])
    -- P12: the empty graph is read, and a run changes nothing
    ∷ (read_call (bytes e12) (buffers 0 0) ++ run_call (graph_in e12) (buffers 0 0) (buffers 0 0)) gives (0 ∷ 0 ∷ 0 ∷ 0 ∷ 0 ∷ 0 ∷ 0 ∷ [])
    -- E1 shrunk: one gate is left
    ∷ text_of (run e1).graph gives bytes "aag 3 2 0 1 1\n2\n4\n6\n6 4 2\n"
    ∷ []
