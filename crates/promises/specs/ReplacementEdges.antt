-- Examples at the limits, of listing replacements, applying one, and the run.
-- Assumes nothing.
use Rattle.std.specs.Prelude.{ℕ, List, [], ◌∷◌, ◌++◌, replicate}
use Rattle.graph.specs.Graph.{Graph, graph_of}
use Rattle.window.specs.declared.leaf_set.Leaves.{Leaves}
use Rattle.window.specs.Leaves.{leaves_of}
use Rattle.replacement.specs.declared.types.Proposal.{Proposal}
use Rattle.replacement.specs.Proposal.{literal, and_gate}
use Rattle.promises.specs.Calls.{Example, ◌gives◌, buffers, list_call, apply_call, run_call}
use Rattle.promises.specs.Bench.{e1, e9, e11}
use Rattle.promises.specs.Edges.{half_gate}

-- leaves 1 and 2: the two inputs of most graphs here
unfoldable both : Leaves
unfolding leaves_of
both = leaves_of (1 ∷ 2 ∷ [])

-- a proposal by its four fields
abbrev proposal : ℕ → ℕ → ℕ → ℕ → Proposal
proposal k a b c = record { kind = k; first = record { 0 = a }; second = record { 0 = b }; turned = c }

-- gates 2 and 3 are both the input
abbrev twice : Graph
twice = graph_of 1 (2 ∷ 2 ∷ 4 ∷ 4 ∷ []) (6 ∷ [])

-- gate 4 is the second input without the first, gate 5 its complement
abbrev without : Graph
without = graph_of 2 (3 ∷ 3 ∷ 6 ∷ 4 ∷ 9 ∷ 9 ∷ []) (10 ∷ [])

unfoldable pub list_edges : List Example
unfolding e1 e9 both leaves_of list_call
list_edges =
    -- both kinds, turned, and a gain of 2 where gates 3 and 4 go
    list_call without 5 both 3 gives (0 ∷ 3 ∷ 0 ∷ 9 ∷ 0 ∷ 0 ∷ 1 ∷ 1 ∷ 4 ∷ 3 ∷ 1 ∷ 2 ∷ 1 ∷ 6 ∷ 4 ∷ 1 ∷ 1 ∷ [])
    -- the constant, as a literal
    ∷ list_call e9 2 (leaves_of (1 ∷ [])) 1 gives (0 ∷ 1 ∷ 0 ∷ 0 ∷ 0 ∷ 0 ∷ 1 ∷ [])
    -- P11 with an output at gate 3: it stays, and the gain is 1
    ∷ list_call (graph_of 2 (5 ∷ 3 ∷ 7 ∷ 2 ∷ []) (8 ∷ 6 ∷ [])) 4 both 1 gives (0 ∷ 1 ∷ 0 ∷ 2 ∷ 0 ∷ 0 ∷ 1 ∷ [])
    -- a gate not in use is a divisor, but to bring it back gains nothing: the list is empty, and the place keeps its contents
    ∷ list_call (graph_of 2 (4 ∷ 2 ∷ 4 ∷ 2 ∷ []) (8 ∷ [])) 4 both 1 gives (0 ∷ 0 ∷ 99 ∷ 99 ∷ 99 ∷ 99 ∷ 99 ∷ [])
    -- one place less: NO ROOM and the count needed, and nothing is written; and just enough
    ∷ list_call twice 3 (leaves_of (1 ∷ [])) 1 gives (16 ∷ 2 ∷ 99 ∷ 99 ∷ 99 ∷ 99 ∷ 99 ∷ [])
    ∷ list_call twice 3 (leaves_of (1 ∷ [])) 2 gives (0 ∷ 2 ∷ 0 ∷ 2 ∷ 0 ∷ 0 ∷ 2 ∷ 0 ∷ 4 ∷ 0 ∷ 0 ∷ 1 ∷ [])
    -- the lower number: half a gate and no root; no root and bad leaves; bad leaves and no cut; no cut and no room
    ∷ (list_call half_gate 9 both 0 ++ list_call e1 2 (leaves_of (2 ∷ 1 ∷ [])) 0) gives (7 ∷ 9 ∷ [])
    ∷ (list_call e1 4 (leaves_of (0 ∷ 1 ∷ [])) 0 ++ list_call e1 4 (leaves_of (1 ∷ [])) 0) gives (10 ∷ 11 ∷ [])
    ∷ []

-- a proposal where nothing has room: 16 says that nothing else is wrong
unfoldable tried : Graph → ℕ → Leaves → Proposal → List ℕ
unfolding apply_call
tried g root w p = apply_call g root w p (buffers 0 0)

-- gate 4 is the AND of both inputs; gates 5 and 6 and an output refer to it, once plain and twice complemented
abbrev shared : Graph
shared = graph_of 2 (4 ∷ 2 ∷ 6 ∷ 2 ∷ 8 ∷ 5 ∷ 9 ∷ 3 ∷ []) (10 ∷ 12 ∷ 9 ∷ [])

-- gate 4 is input 1 complemented
abbrev shared_complement : Graph
shared_complement = graph_of 2 (4 ∷ 2 ∷ 7 ∷ 3 ∷ 8 ∷ 7 ∷ 9 ∷ 4 ∷ []) (10 ∷ 12 ∷ 9 ∷ [])

-- gate 4 is the complement of the AND of both inputs
abbrev shared_turned : Graph
shared_turned = graph_of 2 (4 ∷ 2 ∷ 7 ∷ 7 ∷ 8 ∷ 5 ∷ 9 ∷ 8 ∷ []) (10 ∷ 12 ∷ 9 ∷ 8 ∷ [])

-- gate 4 is gate 3 complemented
abbrev complement : Graph
complement = graph_of 2 (4 ∷ 2 ∷ 7 ∷ 7 ∷ []) (9 ∷ [])

-- gates 3, 4 and 5 are the AND of both inputs, and only the last is in use
abbrev idle : Graph
idle = graph_of 2 (4 ∷ 2 ∷ 6 ∷ 2 ∷ 4 ∷ 2 ∷ []) (10 ∷ [])

-- the middle one of three inputs, and gates over it that are both false
abbrev middle : Graph
middle = graph_of 3 (5 ∷ 4 ∷ 8 ∷ 4 ∷ []) (10 ∷ [])

unfoldable pub apply_edges : List Example
unfolding e1 e11 both leaves_of apply_call tried
apply_edges =
    -- one gate is left, and the places past the need keep their contents
    apply_call e1 4 both (literal 6) (buffers 3 2) gives (0 ∷ 1 ∷ 1 ∷ 4 ∷ 2 ∷ 99 ∷ 6 ∷ 99 ∷ [])
    -- just enough room; one place less for the gates, or for the outputs
    ∷ apply_call e1 4 both (literal 6) (buffers 2 1) gives (0 ∷ 1 ∷ 1 ∷ 4 ∷ 2 ∷ 6 ∷ [])
    ∷ apply_call e1 4 both (literal 6) (buffers 1 1) gives (16 ∷ 99 ∷ 99 ∷ [])
    ∷ apply_call e1 4 both (literal 6) (buffers 2 0) gives (16 ∷ 99 ∷ 99 ∷ [])
    -- one gate and three outputs
    ∷ apply_call (graph_of 2 (4 ∷ 2 ∷ 6 ∷ 2 ∷ []) (8 ∷ 9 ∷ 6 ∷ [])) 4 both (literal 6) (buffers 2 3)
    gives (0 ∷ 1 ∷ 3 ∷ 4 ∷ 2 ∷ 6 ∷ 7 ∷ 6 ∷ [])
    -- a literal for the root, in gates and outputs: complemented where the reference was
    ∷ apply_call shared 4 both (literal 6) (buffers 6 3) gives (0 ∷ 3 ∷ 3 ∷ 4 ∷ 2 ∷ 6 ∷ 5 ∷ 7 ∷ 3 ∷ 8 ∷ 10 ∷ 7 ∷ [])
    -- a gate for the root: references stay
    ∷ apply_call shared 4 both (and_gate 4 2 0) (buffers 6 3) gives (0 ∷ 3 ∷ 3 ∷ 4 ∷ 2 ∷ 6 ∷ 5 ∷ 7 ∷ 3 ∷ 8 ∷ 10 ∷ 7 ∷ [])
    -- a complemented literal: a complemented reference becomes plain, and fanins are put larger first
    ∷ apply_call shared_complement 4 both (literal 3) (buffers 6 3) gives (0 ∷ 3 ∷ 3 ∷ 4 ∷ 2 ∷ 7 ∷ 3 ∷ 4 ∷ 2 ∷ 8 ∷ 10 ∷ 2 ∷ [])
    -- a turned gate: every reference is complemented, and a gate over both references is put larger first
    ∷ apply_call shared_turned 4 both (and_gate 4 2 1) (buffers 6 4)
    gives (0 ∷ 3 ∷ 4 ∷ 4 ∷ 2 ∷ 7 ∷ 5 ∷ 7 ∷ 6 ∷ 8 ∷ 10 ∷ 6 ∷ 7 ∷ [])
    -- the constant true, and no gate left
    ∷ apply_call (graph_of 0 (1 ∷ 1 ∷ []) (2 ∷ 3 ∷ [])) 1 (leaves_of []) (literal 1) (buffers 0 2) gives (0 ∷ 0 ∷ 2 ∷ 1 ∷ 0 ∷ [])
    -- kind 2, with the fields of a good gate, and of a good literal
    ∷ (tried e1 4 both (proposal 1 4 2 0) ++ tried e1 4 both (proposal 2 4 2 0)) gives (16 ∷ 12 ∷ [])
    ∷ (tried e1 4 both (proposal 0 6 0 0) ++ tried e1 4 both (proposal 2 6 0 0)) gives (16 ∷ 12 ∷ [])
    -- a gate turned by 2, by 1 where it is not equal, and turned by 1 and by 3 where it is
    ∷ (tried e1 4 both (and_gate 4 2 2) ++ tried e1 4 both (and_gate 4 2 1)) gives (12 ∷ 13 ∷ [])
    ∷ (tried complement 4 both (and_gate 4 2 1) ++ tried complement 4 both (and_gate 4 2 3)) gives (16 ∷ 12 ∷ [])
    -- a literal with a second one, the constant's included, or turned
    ∷ (tried e1 4 both (proposal 0 6 2 0) ++ tried e1 4 both (proposal 0 6 1 0) ++ tried e1 4 both (proposal 0 6 0 1))
    gives (12 ∷ 12 ∷ 12 ∷ [])
    -- a literal of the root itself, and of an equal gate above it; below it, it is good
    ∷ (tried e1 4 both (literal 8) ++ tried (graph_of 2 (4 ∷ 2 ∷ 4 ∷ 2 ∷ []) (6 ∷ 8 ∷ [])) 3 both (literal 8)
    ++ tried (graph_of 2 (4 ∷ 2 ∷ 4 ∷ 2 ∷ []) (6 ∷ 8 ∷ [])) 4 both (literal 6))
    gives (12 ∷ 12 ∷ 16 ∷ [])
    -- input 3 is not covered, nor is input 1: a literal of it, a gate with it first, and one with it second; the constant is good
    ∷ (tried middle 5 (leaves_of (2 ∷ [])) (literal 6) ++ tried middle 5 (leaves_of (2 ∷ [])) (literal 0)) gives (12 ∷ 16 ∷ [])
    ∷ (tried middle 5 (leaves_of (2 ∷ [])) (and_gate 6 4 0) ++ tried middle 5 (leaves_of (2 ∷ [])) (and_gate 4 2 0)) gives (12 ∷ 12 ∷ [])
    -- input 1 as a gate: with the constant true, or with itself; as a literal it is good
    ∷ (tried e11 4 both (and_gate 2 1 0) ++ tried e11 4 both (and_gate 2 2 0) ++ tried e11 4 both (literal 2)) gives (12 ∷ 12 ∷ 16 ∷ [])
    -- the second's variable above the first's
    ∷ tried e1 4 both (and_gate 2 4 0) gives (12 ∷ [])
    -- a gain of 0, and one of less, where gates not in use come back
    ∷ (tried idle 5 both (literal 6) ++ tried idle 5 both (literal 8)) gives (14 ∷ 14 ∷ [])
    -- the lower number, from all that can be wrong to the room alone
    ∷ tried half_gate 9 (leaves_of (2 ∷ 1 ∷ [])) (proposal 2 0 0 0) gives (7 ∷ [])
    ∷ tried e1 2 (leaves_of (2 ∷ 1 ∷ [])) (proposal 2 0 0 0) gives (9 ∷ [])
    ∷ tried e1 4 (leaves_of (0 ∷ 1 ∷ [])) (proposal 2 0 0 0) gives (10 ∷ [])
    ∷ tried e1 4 (leaves_of (1 ∷ [])) (proposal 2 0 0 0) gives (11 ∷ [])
    -- a candidate that is bad and not equal; one not equal and without gain; one without gain
    ∷ (tried e1 4 both (and_gate 3 2 0) ++ tried e1 4 both (and_gate 6 3 0) ++ tried e1 4 both (and_gate 6 2 0)) gives (12 ∷ 13 ∷ 14 ∷ [])
    ∷ []

unfoldable pub run_edges : List Example
unfolding e9 run_call
run_edges =
    -- one place less in any of the four lists: NO ROOM, and nothing is written
    run_call e9 (buffers 1 1) (buffers 2 1) gives (16 ∷ replicate 5 99)
    ∷ run_call e9 (buffers 2 0) (buffers 2 1) gives (16 ∷ replicate 5 99)
    ∷ run_call e9 (buffers 2 1) (buffers 1 1) gives (16 ∷ replicate 5 99)
    ∷ run_call e9 (buffers 2 1) (buffers 2 0) gives (16 ∷ replicate 5 99)
    -- one place more in each keeps its contents
    ∷ run_call e9 (buffers 3 2) (buffers 3 2) gives (0 ∷ 0 ∷ 1 ∷ 0 ∷ 0 ∷ 99 ∷ 0 ∷ 99 ∷ 0 ∷ 0 ∷ 99 ∷ 0 ∷ 99 ∷ [])
    -- the lower number: half a gate and no room
    ∷ run_call half_gate (buffers 0 0) (buffers 0 0) gives (7 ∷ [])
    -- a gate not in use is dropped, which is no replacement; two words are left over
    ∷ run_call (graph_of 2 (4 ∷ 2 ∷ 5 ∷ 3 ∷ []) (8 ∷ [])) (buffers 4 1) (buffers 4 1)
    gives (0 ∷ 1 ∷ 0 ∷ 5 ∷ 3 ∷ 0 ∷ 0 ∷ 6 ∷ replicate 5 0)
    ∷ []

unfoldable pub run_restarts : List Example
unfolding run_call
run_restarts =
    -- two replacements: gate 5 has one only once gate 4 had one, so the run starts again at the top
    run_call (graph_of 2 (4 ∷ 2 ∷ 6 ∷ 3 ∷ 7 ∷ 2 ∷ []) (11 ∷ 8 ∷ [])) (buffers 6 2) (buffers 6 2)
    gives (0 ∷ 1 ∷ 2 ∷ 5 ∷ 2 ∷ 0 ∷ 0 ∷ 0 ∷ 0 ∷ 7 ∷ 0 ∷ replicate 8 0)
    ∷ []

unfoldable pub run_choices : List Example
unfolding run_call
run_choices =
    -- the first gate from the top, and the earliest on ties: at gate 5 (4, 3, 0) and (9, 4, 0) gain 1. With the second taken, or with
    -- gate 4 replaced first, 7, 4 would be left in place of 4, 3
    run_call (graph_of 2 (4 ∷ 2 ∷ 4 ∷ 2 ∷ 7 ∷ 4 ∷ []) (9 ∷ 10 ∷ [])) (buffers 6 2) (buffers 6 2)
    gives (0 ∷ 2 ∷ 1 ∷ 4 ∷ 2 ∷ 4 ∷ 3 ∷ 0 ∷ 0 ∷ 7 ∷ 8 ∷ replicate 8 0)
    -- the greatest gain: at gate 5 literal 9 is earlier, but (4, 3, 1) gains 2
    ∷ run_call without (buffers 6 1) (buffers 6 1) gives (0 ∷ 1 ∷ 1 ∷ 4 ∷ 3 ∷ 0 ∷ 0 ∷ 0 ∷ 0 ∷ 7 ∷ replicate 7 0)
    ∷ []
