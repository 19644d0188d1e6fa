-- What a customer is promised: of every call, of a graph that took another's place, and of calls in a row.
-- Assumes nothing.
use Rattle.std.specs.Prelude.{ℕ, ◌*◌, ◌≤◌, ◌<◌, ◌≡◌, Bool, cond, List, Result, Ok, Err, map, length, take, drop, replicate}
use Rattle.graph.specs.declared.refusal.Refusal.{Refusal}
use Rattle.graph.specs.Refuse.{number_of, Answers}
use Rattle.graph.specs.Lists.{filled}
use Rattle.graph.specs.Lent.{Buffers, RoomFor, Effect, ◌leaving◌}
use Rattle.graph.specs.Literal.{var_of}
use Rattle.graph.specs.Graph.{Graph, graph_of, size, first, second, IsGate, WellFormed}
use Rattle.graph.specs.Evaluate.{outputs_under, assignment_of, Assignment}
use Rattle.graph.specs.Use.{InUse, used_gates}
use Rattle.text.specs.declared.counts.Counts.{Counts}
use Rattle.text.specs.States.{text_of}
use Rattle.text.specs.Calls.{counts_of, read_effect}
use Rattle.window.specs.declared.leaf_set.Leaves.{Leaves}
use Rattle.window.specs.declared.truth.Table.{Table}
use Rattle.window.specs.Local.{local_at}
use Rattle.window.specs.Table.{bit, patterns, table}
use Rattle.window.specs.LeafRule.{picked}
use Rattle.window.specs.Calls.{Window}
use Rattle.replacement.specs.declared.types.Proposal.{Proposal}
use Rattle.replacement.specs.declared.types.Applied.{Applied}
use Rattle.replacement.specs.Rewire.{finished}
use Rattle.replacement.specs.Calls.{GoodProposal}
use Rattle.listing.specs.declared.Candidate.{Candidate}
use Rattle.listing.specs.declared.NotListed.{NotListed}
use Rattle.run.specs.declared.Ran.{Ran}
use Rattle.run.specs.Run.{NoneAt}
use Rattle.run.specs.Calls.{RunBuffers}

-- demand 1: the call's number is the one that the order of refusals selects, and a refusal writes nothing into lent memory
pub record Settled {L : Type 0} (rank : Refusal → ℕ) (given : Refusal → Type 0) (number : ℕ) (lent_before lent_after : L) : Type 0 where
  pub answers : Answers rank given number
  pub writes_nothing : (r : Refusal) → number ≡ number_of r → lent_after ≡ lent_before

-- demand 2: the graph h in the place of g. What `outputs_under` says is restated in `Meaning`, from `zero_is_false` on
pub record Keeps (g h : Graph) : Type 0 where
  pub same_inputs : h.net.inputs ≡ g.net.inputs
  -- each output has its old value under every assignment
  pub same_outputs : (a : ℕ → Bool) → outputs_under h a ≡ outputs_under g a
  pub is_well_formed : WellFormed h
  -- each gate draws on lower numbers only
  pub first_lower : (v : ℕ) → IsGate h.net v → var_of (first h.net v) < v
  pub second_lower : (v : ℕ) → IsGate h.net v → var_of (second h.net v) < v
  -- and no gate is left that nothing needs
  pub all_in_use : (v : ℕ) → IsGate h.net v → InUse h v

-- demand 3: no gate of h has a good replacement over the leaves that the rule picks
abbrev pub NoneLeft : Graph → Type 0
NoneLeft h = (v : ℕ) → IsGate h.net v → NoneAt h v

-- ---- what stands in lent memory

-- these words stand in the first places, and the places past them keep their contents
pub record Stored {A : Type 0} (xs before after : List A) : Type 0 where
  pub first_places : take (length xs) after ≡ xs
  pub past_them : drop (length xs) after ≡ drop (length xs) before

-- two lists lent for a graph hold h: two words a gate and one an output
pub record Holds (h : Graph) (before after : Buffers) : Type 0 where
  pub gate_words : length h.net.gates ≡ 2 * size h.net
  pub gates_stored : Stored h.net.gates before.gates after.gates
  pub outputs_stored : Stored h.outputs before.outputs after.outputs

-- the lists lent to a run over g that came to h: the result's needed places hold h and then 0, the work area's needed places hold 0
pub record RunHolds (g h : Graph) (before after : RunBuffers) : Type 0 where
  pub no_more_words : length h.net.gates ≤ length g.net.gates
  pub gates_stored : Stored (filled (length g.net.gates) h.net.gates) before.result.gates after.result.gates
  pub outputs_stored : Stored h.outputs before.result.outputs after.result.outputs
  pub work_gates_zero : Stored (replicate (length g.net.gates) 0) before.work.gates after.work.gates
  pub work_outputs_zero : Stored (replicate (length g.outputs) 0) before.work.outputs after.work.outputs

-- ---- what an accepted call answers and leaves: e is its effect

-- a text was read as g
pub record ReadAs (g : Graph) (b : Buffers) (e : Effect (Result Counts Refusal) Buffers) : Type 0 where
  pub counts_told : e.answer ≡ Ok (counts_of g)
  pub holds : Holds g b e.lent

-- g was written
pub record WrittenAs (g : Graph) (lent : List ℕ) (e : Effect (Result ℕ Refusal) (List ℕ)) : Type 0 where
  pub count_told : e.answer ≡ Ok (length (text_of g))
  pub stored : Stored (text_of g) lent e.lent

-- g was evaluated under these values, one an input: 1 for true and 0 for false
pub record EvaluatedAs (g : Graph) (vs lent : List ℕ) (e : Effect (Result ℕ Refusal) (List ℕ)) : Type 0 where
  pub count_told : e.answer ≡ Ok (length g.outputs)
  pub stored : Stored (map (λ b. cond b 1 0) (outputs_under g (assignment_of vs))) lent e.lent

-- leaves were picked for a root: they are the rule's, and make a window, well set down below the root and cutting it
pub record PickedAs (g : Graph) (root : ℕ) (p : Result Leaves Refusal) : Type 0 where
  pub leaves : Leaves
  pub accepted : p ≡ Ok leaves
  pub by_the_rule : leaves ≡ picked g.net root
  pub window : Window g root leaves

-- the root's table over these leaves was told: bit i is the root's local function at pattern i
pub record TableAs (g : Graph) (root : ℕ) (w : Leaves) (t : Result Table Refusal) : Type 0 where
  pub told : Table
  pub accepted : t ≡ Ok told
  pub is_the_table : told.0 ≡ table g.net w root
  pub bits : (i : ℕ) → i < patterns → bit told.0 i ≡ local_at g.net w (bit i) root

-- these records were listed; or there was no room for them, and their count was told
pub record ListedAs (xs lent : List Candidate) (e : Effect (Result ℕ NotListed) (List Candidate)) : Type 0 where
  pub count_told : e.answer ≡ Ok (length xs)
  pub stored : Stored xs lent e.lent

pub record NoRoomToList (xs lent : List Candidate) (e : Effect (Result ℕ NotListed) (List Candidate)) : Type 0 where
  pub count_told : e.answer ≡ Err (NotListed.NoRoom (length xs))
  pub unchanged : e.lent ≡ lent

-- a replacement made h of g
pub record AppliedAs (g h : Graph) (b : Buffers) (e : Effect (Result Applied Refusal) Buffers) : Type 0 where
  pub counts_told : e.answer ≡ Ok (record { gates = size h.net; outputs = length h.outputs })
  pub holds : Holds h b e.lent
  pub keeps : Keeps g h
  -- strictly fewer gates are in use
  pub fewer : used_gates h < used_gates g

-- a run came from g to h by so many replacements
pub record RanAs (g h : Graph) (made : ℕ) (b : RunBuffers) (e : Effect (Result Ran Refusal) RunBuffers) : Type 0 where
  pub counts_told : e.answer ≡ Ok (record { gates = size h.net; made = made })
  pub holds : RunHolds g h b e.lent
  pub keeps : Keeps g h
  pub none_left : NoneLeft h

-- ---- calls alone and in a row

-- what was written is read into lent lists; where writing was refused, that is the answer
unfoldable pub read_back : Effect (Result ℕ Refusal) (List ℕ) → Buffers → Effect (Result Counts Refusal) Buffers
unfolding read_effect
read_back w b =
    elim w.answer [ Ok n ↦ read_effect (take n w.lent) b | Err r ↦ Err r leaving b ]

-- g was written into lent bytes and what was written read into lent lists: a well-formed g for which there is room comes back
abbrev pub WrittenAgain : Graph → List ℕ → Buffers → Result Counts Refusal → Buffers → Type 0
WrittenAgain g bytes before r after =
    WellFormed g → length (text_of g) ≤ length bytes → RoomFor g before
    → ReadAs g before (r leaving after)

-- a table was asked for over lent leaves: over a window it is told
abbrev pub Tabled : Graph → ℕ → Leaves → Result Table Refusal → Type 0
Tabled g root w t = Window g root w → TableAs g root w t

-- g was evaluated into lent words: a well-formed g under an assignment of its inputs, with room, leaves its outputs' values
abbrev pub ValuesLeft : Graph → List ℕ → List ℕ → Result ℕ Refusal → List ℕ → Type 0
ValuesLeft g vs before r after =
    WellFormed g → Assignment g.net vs → length g.outputs ≤ length before
    → EvaluatedAs g vs before (r leaving after)

-- leaves were picked for a root, and its table asked for over them: at a gate in use of a well-formed graph both are accepted
abbrev pub PickedAndTabled : Graph → ℕ → Result Leaves Refusal → Result Table Refusal → Type 0
PickedAndTabled g root p t = WellFormed g → InUse g root → (picked-now : PickedAs g root p) × TableAs g root picked-now.leaves t

-- the graph that the first words of two lists are: so many inputs, gates and outputs
abbrev pub graph_in : ℕ → ℕ → ℕ → Buffers → Graph
graph_in i a o b = graph_of i (take (2 * a) b.gates) (take o b.outputs)

-- a proposal was applied to g, whatever came in: where it was accepted it was good, and the lent lists hold, over g's inputs, a graph
-- that keeps each output's value and in which strictly fewer gates are in use
abbrev pub AcceptedKeeps : Graph → ℕ → Leaves → Proposal → Buffers → Result Applied Refusal → Buffers → Type 0
AcceptedKeeps g root w p before r after =
    (n : Applied) → r ≡ Ok n
    → GoodProposal g root w p × AppliedAs g (graph_in g.net.inputs n.gates n.outputs after) before (r leaving after)

-- and the other way: a good one is accepted where there is room for what it makes
abbrev pub GoodIsAccepted : Graph → ℕ → Leaves → Proposal → Buffers → Result Applied Refusal → Buffers → Type 0
GoodIsAccepted g root w p before r after =
    GoodProposal g root w p → RoomFor (finished g root p) before
    → AppliedAs g (finished g root p) before (r leaving after)

-- a call was made twice, each time on lent memory of its own: where both held the same before, the answers are the same, and both
-- hold the same after
abbrev pub SameAgain : {A L : Type 0} → L → A → L → L → A → L → Type 0
SameAgain before r after before' r' after' = before ≡ before' → (r ≡ r') × (after ≡ after')
