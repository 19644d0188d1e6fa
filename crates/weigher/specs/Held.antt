-- Gates that are listed and marked as literals reach them.
-- Assumes nothing.
use Rattle.std.specs.Prelude.{ℕ, suc, ◌≤◌, ◌<◌, ◌≡◌, Bool, true, false, not, ◌&&◌, List, [], ◌∷◌, ltb, length, get_or, set}
use Rattle.graph.specs.Literal.{var_of}
use Rattle.graph.specs.Graph.{Net, over, size, last, first, second, IsGate}
use Rattle.graph.specs.Use.{Reached}
use Rattle.replacement.specs.Vanish.{count_apart, held_from}

-- the marks with those of these variables set or taken off
unfoldable pub set_each : Bool → List ℕ → List Bool → List Bool
set_each b [] ms = ms
set_each b (v ∷ vs) ms = set_each b vs (set ms v b)

-- v is a variable above the inputs, and without a mark
unfoldable pub unmarked : ℕ → List Bool → ℕ → Bool
unmarked inputs ms v = ltb inputs v && not (get_or ms v false)

-- v has a mark if it is a gate
abbrev pub GateMarked : Net → List Bool → ℕ → Type 0
GateMarked net ms v = IsGate net v → get_or ms v false ≡ true

-- marks in lent memory, and the list of those that were set, filled so far
pub record Walked : Type 0 where
  pub marks : List Bool
  pub list : List ℕ
  pub count : ℕ

abbrev pub walked_to : List Bool → List ℕ → ℕ → Walked
walked_to ms list count = record { marks = ms; list = list; count = count }

-- a gate without a mark is marked and listed
unfoldable pub held : ℕ → ℕ → Walked → Walked
unfolding unmarked
held inputs v s =
    elim (unmarked inputs s.marks v) [
      | true ↦ walked_to (set s.marks v true) (set s.list s.count v) (suc s.count)
      | false ↦ s
    ]

-- the gates vs are listed: they had no mark, these literals reach them, and they are as many as the marks that came. The literals' own
-- gates have a mark now, and so have the fanin gates of the first `done` of the list
pub record Holding (net : Net) (ls : List ℕ) (ms : List Bool) (vs : List ℕ) (done : ℕ) : Type 0 where
  pub gates : (j : ℕ) → j < length vs → IsGate net (get_or vs j 0)
  pub had_none : (j : ℕ) → j < length vs → get_or ms (get_or vs j 0) false ≡ false
  pub reached : (j : ℕ) → j < length vs → Reached (over net ls) (get_or vs j 0)
  pub counted : length vs ≡ count_apart net (set_each true vs ms) ms (size net)
  pub literals_marked : (j : ℕ) → j < length ls → GateMarked net (set_each true vs ms) (var_of (get_or ls j 0))
  pub done_within : done ≤ length vs
  pub firsts_marked : (j : ℕ) → j < done → GateMarked net (set_each true vs ms) (var_of (first net (get_or vs j 0)))
  pub seconds_marked : (j : ℕ) → j < done → GateMarked net (set_each true vs ms) (var_of (second net (get_or vs j 0)))

-- the room that a walk asks for: a mark a variable, and a list with two places more than there are gates
abbrev pub WalkRoom : Net → List Bool → List ℕ → Type 0
WalkRoom net ms list = (last net < length ms) × (suc (size net) < length list)

-- a marked gate up to `top` has marked fanin gates: what is reached from it needs no visit
pub record ClosedTo (net : Net) (top : ℕ) (ms : List Bool) : Type 0 where
  pub first_marked : (v : ℕ) → IsGate net v → v ≤ top → get_or ms v false ≡ true → GateMarked net ms (var_of (first net v))
  pub second_marked : (v : ℕ) → IsGate net v → v ≤ top → get_or ms v false ≡ true → GateMarked net ms (var_of (second net v))

-- so many gates without a mark these literals reach, where marks are closed up to a variable above which no literal is
abbrev pub CountsHeld : Net → List Bool → List ℕ → ℕ → Type 0
CountsHeld net ms ls n =
    (top : ℕ) → ClosedTo net top ms → ((j : ℕ) → j < length ls → var_of (get_or ls j 0) ≤ top) → n ≡ held_from net ms ls
