-- Examples at the limits, of picking leaves and asking for a table.
-- Assumes nothing.
use Rattle.std.specs.Prelude.{ℕ, List, [], ◌∷◌, ◌++◌}
use Rattle.std.specs.Result.{result_unwrap_or}
use Rattle.graph.specs.Graph.{Graph, graph_of}
use Rattle.window.specs.declared.leaf_set.Leaves.{Leaves}
use Rattle.window.specs.Leaves.{numbers, variables, leaves_of}
use Rattle.window.specs.Calls.{pick_answer, table_answer}
use Rattle.promises.specs.Calls.{Example, ◌gives◌, pick_call, table_call}
use Rattle.promises.specs.Bench.{e1}
use Rattle.promises.specs.Edges.{half_gate}

-- the count and the six places of a leaf set
unfoldable count_and_places : Leaves → List ℕ
unfolding numbers
count_and_places w = w.count ∷ numbers w.places

-- the AND of seven inputs, one after another: gates 8 to 13
abbrev seven_inputs : Graph
seven_inputs = graph_of 7 (4 ∷ 2 ∷ 16 ∷ 6 ∷ 18 ∷ 8 ∷ 20 ∷ 10 ∷ 22 ∷ 12 ∷ 24 ∷ 14 ∷ []) (26 ∷ [])

-- the AND of eight inputs, by halves: gates 9 to 11 over the first four, 12 to 14 over the last four
abbrev eight_inputs : Graph
eight_inputs = graph_of 8 (4 ∷ 2 ∷ 8 ∷ 6 ∷ 20 ∷ 18 ∷ 12 ∷ 10 ∷ 16 ∷ 14 ∷ 26 ∷ 24 ∷ 28 ∷ 22 ∷ []) (30 ∷ [])

-- the AND of the first two of six inputs
abbrev six_inputs : Graph
six_inputs = graph_of 6 (4 ∷ 2 ∷ []) (14 ∷ [])

unfoldable pub pick_edges : List Example
unfolding e1 count_and_places pick_answer pick_call
pick_edges =
    -- an input, and a gate not in use, is no root
    (pick_call e1 2 ++ pick_call (graph_of 1 (3 ∷ 2 ∷ []) []) 2) gives (9 ∷ 9 ∷ [])
    -- the lowest gate is one; a variable past the gates, and 0, is not
    ∷ (pick_call e1 3 ++ pick_call e1 5 ++ pick_call e1 0) gives (0 ∷ 2 ∷ 1 ∷ 2 ∷ 0 ∷ 0 ∷ 0 ∷ 0 ∷ 9 ∷ 9 ∷ [])
    -- a gate over the constant has no leaf
    ∷ pick_call (graph_of 0 (1 ∷ 1 ∷ []) (2 ∷ [])) 1 gives (0 ∷ 0 ∷ 0 ∷ 0 ∷ 0 ∷ 0 ∷ 0 ∷ 0 ∷ [])
    -- six inputs are reached; where a seventh would come in, gate 8 stays a leaf
    ∷ pick_call seven_inputs 12 gives (0 ∷ 6 ∷ 1 ∷ 2 ∷ 3 ∷ 4 ∷ 5 ∷ 6 ∷ [])
    ∷ pick_call seven_inputs 13 gives (0 ∷ 6 ∷ 3 ∷ 4 ∷ 5 ∷ 6 ∷ 7 ∷ 8 ∷ [])
    -- on ties the highest variable is expanded: the last four inputs come in, and gates 9 and 10 stay
    ∷ pick_call eight_inputs 15 gives (0 ∷ 6 ∷ 5 ∷ 6 ∷ 7 ∷ 8 ∷ 9 ∷ 10 ∷ [])
    -- the lower number: half a gate and no root
    ∷ pick_call half_gate 9 gives (7 ∷ [])
    -- a refused pick has no leaves: the empty leaf set stands for them
    ∷ count_and_places (result_unwrap_or (pick_answer e1 2) (leaves_of [])) gives (0 ∷ 0 ∷ 0 ∷ 0 ∷ 0 ∷ 0 ∷ 0 ∷ [])
    ∷ count_and_places (result_unwrap_or (pick_answer half_gate 2) (leaves_of [])) gives (0 ∷ 0 ∷ 0 ∷ 0 ∷ 0 ∷ 0 ∷ 0 ∷ [])
    ∷ []

unfoldable pub table_edges : List Example
unfolding e1 variables leaves_of table_answer table_call
table_edges =
    -- six leaves and seven
    table_call six_inputs 7 (leaves_of (1 ∷ 2 ∷ 3 ∷ 4 ∷ 5 ∷ 6 ∷ [])) gives (0 ∷ 0x8888888888888888 ∷ [])
    ∷ table_call (graph_of 7 (4 ∷ 2 ∷ []) (16 ∷ [])) 8 (leaves_of (1 ∷ 2 ∷ 3 ∷ 4 ∷ 5 ∷ 6 ∷ 7 ∷ [])) gives (10 ∷ [])
    -- a count of seven, though the six places are well set
    ∷ table_call six_inputs 7 (record { count = 7; places = variables (1 ∷ 2 ∷ 3 ∷ 4 ∷ 5 ∷ 6 ∷ []) }) gives (10 ∷ [])
    -- variable 0 as a leaf, the root itself, and a gate above the root
    ∷ (table_call e1 4 (leaves_of (0 ∷ 1 ∷ 2 ∷ [])) ++ table_call e1 4 (leaves_of (1 ∷ 2 ∷ 4 ∷ []))) gives (10 ∷ 10 ∷ [])
    ∷ table_call e1 3 (leaves_of (1 ∷ 2 ∷ 4 ∷ [])) gives (10 ∷ [])
    -- an unused place that is not 0, and a used one that is
    ∷ table_call e1 4 (record { count = 1; places = variables (1 ∷ 2 ∷ 0 ∷ 0 ∷ 0 ∷ 0 ∷ []) }) gives (10 ∷ [])
    ∷ table_call e1 4 (record { count = 3; places = variables (1 ∷ 2 ∷ 0 ∷ 0 ∷ 0 ∷ 0 ∷ []) }) gives (10 ∷ [])
    -- descending, and repeated at either end
    ∷ table_call e1 4 (leaves_of (2 ∷ 1 ∷ [])) gives (10 ∷ [])
    ∷ (table_call e1 4 (leaves_of (1 ∷ 1 ∷ 2 ∷ [])) ++ table_call e1 4 (leaves_of (1 ∷ 2 ∷ 2 ∷ []))) gives (10 ∷ 10 ∷ [])
    -- zero leaves cut a gate over the constant, and not E1's gate 4
    ∷ table_call (graph_of 0 (1 ∷ 1 ∷ []) (2 ∷ [])) 1 (leaves_of []) gives (0 ∷ 0xFFFFFFFFFFFFFFFF ∷ [])
    ∷ table_call e1 4 (leaves_of []) gives (11 ∷ [])
    -- a leaf that is a gate is free, even where its fanins are covered
    ∷ table_call e1 4 (leaves_of (1 ∷ 2 ∷ 3 ∷ [])) gives (0 ∷ 0xA0A0A0A0A0A0A0A0 ∷ [])
    -- the first without the second
    ∷ table_call (graph_of 2 (5 ∷ 2 ∷ []) (6 ∷ [])) 3 (leaves_of (1 ∷ 2 ∷ [])) gives (0 ∷ 0x2222222222222222 ∷ [])
    -- the last leaf has the highest halves: the first and the sixth of six inputs
    ∷ table_call (graph_of 6 (12 ∷ 2 ∷ []) (14 ∷ [])) 7 (leaves_of (1 ∷ 2 ∷ 3 ∷ 4 ∷ 5 ∷ 6 ∷ [])) gives (0 ∷ 0xAAAAAAAA00000000 ∷ [])
    -- the lower number: half a gate and no root; no root and bad leaves; bad leaves and no cut
    ∷ table_call half_gate 9 (leaves_of []) gives (7 ∷ [])
    ∷ table_call e1 2 (leaves_of (2 ∷ 1 ∷ [])) gives (9 ∷ [])
    ∷ table_call e1 4 (leaves_of (0 ∷ 1 ∷ [])) gives (10 ∷ [])
    -- a refused table has no bits, though the leaves would cut the root: 0 stands for them
    ∷ ((result_unwrap_or (table_answer e1 4 (leaves_of (1 ∷ 2 ∷ 2 ∷ []))) (record { 0 = 0 })).0 ∷ []) gives (0 ∷ [])
    ∷ []
