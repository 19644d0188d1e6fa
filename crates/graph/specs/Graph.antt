-- A lent graph, and when it is well formed.
-- Assumes nothing.
use Rattle.std.specs.Prelude.{ℕ, suc, ◌+◌, ◌-◌, ◌*◌, ◌/◌, ◌%◌, ◌≤◌, ◌<◌, max, min, ◌≡◌, Bool, ◌&&◌, List, [], ◌∷◌, map, leb, ltb, eqb, length, get_or}
use Rattle.graph.specs.Lists.{every, all_below, all}

-- how many inputs there are, and the gates' literals, two a gate
pub record Net : Type 0 where
  pub inputs : ℕ
  pub gates : List ℕ

abbrev pub net_of : ℕ → List ℕ → Net
net_of i gs = record { inputs = i; gates = gs }

-- a net with its outputs: a lent graph
pub record Graph : Type 0 where
  pub net : Net
  pub outputs : List ℕ

abbrev pub graph_of : ℕ → List ℕ → List ℕ → Graph
graph_of i gs os = record { net = net_of i gs; outputs = os }

-- a graph over this net
abbrev pub over : Net → List ℕ → Graph
over net ls = record { net = net; outputs = ls }

-- variable 0 is the constant false, 1 to `free` have values from outside, those after are gates
abbrev pub free : Net → ℕ
free net = net.inputs

-- the number of gates
abbrev pub size : Net → ℕ
size net = length net.gates / 2

-- the highest variable
abbrev pub last : Net → ℕ
last net = free net + size net

-- the literals whose values the graph must keep
abbrev pub sinks : Graph → List ℕ
sinks g = g.outputs

-- the graph over another net, where f gives each of these literals anew
abbrev pub over_net : Net → (ℕ → ℕ) → Graph → Graph
over_net net f g = record { net = net; outputs = map f g.outputs }

-- the two literals of variable v's gate
unfoldable pub first : Net → ℕ → ℕ
first net v = get_or net.gates (2 * (v - suc (free net))) 0

unfoldable pub second : Net → ℕ → ℕ
second net v = get_or net.gates (suc (2 * (v - suc (free net)))) 0

-- the words of a gate over two literals: the larger first
unfoldable pub larger_first : ℕ → ℕ → List ℕ
larger_first a b = max a b ∷ min a b ∷ []

-- a gate holds its larger literal first; each is below twice the gate's own variable
unfoldable pub gate_ok : Net → ℕ → Bool
unfolding first second
gate_ok net v = leb (second net v) (first net v) && ltb (first net v) (2 * v)

-- an output is any literal up to 2(I + A) + 1
unfoldable pub sink_ok : Net → ℕ → Bool
sink_ok net l = leb l (2 * last net + 1)

-- the limits
abbrev pub most_inputs : ℕ
most_inputs = 64

abbrev pub most_outputs : ℕ
most_outputs = 64

abbrev pub most_gates : ℕ
most_gates = 1024

-- even length, the rules of gates and outputs, and the three limits
unfoldable pub rules : Graph → List Bool
unfolding all_below gate_ok all sink_ok
rules g =
    eqb (length g.net.gates % 2) 0
    ∷ all_below (λ k. gate_ok g.net (suc (free g.net + k))) (size g.net)
    ∷ all (sink_ok g.net) (sinks g)
    ∷ leb g.net.inputs most_inputs
    ∷ leb (length g.outputs) most_outputs
    ∷ leb (size g.net) most_gates
    ∷ []

unfoldable pub well_formed : Graph → Bool
unfolding every rules
well_formed g = every (rules g)

-- v is the variable of a gate
pub record IsGate (net : Net) (v : ℕ) : Type 0 where
  pub above : free net < v
  pub within : v ≤ last net

-- the same as facts; first what holds whatever the size
pub record Lawful (g : Graph) : Type 0 where
  pub even : length g.net.gates % 2 ≡ 0
  pub ordered : (v : ℕ) → IsGate g.net v → second g.net v ≤ first g.net v
  pub below : (v : ℕ) → IsGate g.net v → first g.net v < 2 * v
  pub sinks_within : (j : ℕ) → j < length (sinks g) → get_or (sinks g) j 0 ≤ 2 * last g.net + 1

pub record WellFormed (g : Graph) : Type 0 where
  pub lawful : Lawful g
  pub inputs_few : g.net.inputs ≤ most_inputs
  pub outputs_few : length g.outputs ≤ most_outputs
  pub gates_few : size g.net ≤ most_gates

-- the net of a graph that is well formed: what code asks for that looks at gates alone
abbrev pub WellFormedNet : Net → Type 0
WellFormedNet net = WellFormed (over net [])
