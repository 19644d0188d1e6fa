-- Evaluating a graph under an assignment of its inputs.
-- Assumes nothing.
use Rattle.std.specs.Prelude.{ℕ, ◌-◌, ◌≤◌, ◌<◌, ◌≡◌, Bool, cond, not, ◌&&◌, List, [], ◌∷◌, Result, Ok, Err, map, leb, eqb, length, get_or}
use Rattle.std.proofs.Math.Option.{Option, none, some}
use Rattle.graph.specs.declared.refusal.Refusal.{Refusal}
use Rattle.graph.specs.declared.refusal.Refusal.TheVariants.{BadGraph, BadAssignment, NoRoom}
use Rattle.graph.specs.Lists.{all}
use Rattle.graph.specs.Lent.{short, written, Effect, ◌leaving◌}
use Rattle.graph.specs.Refuse.{number_of, Row, ◌⇒◌, first_refusal, Outcome, accepted, refused}
use Rattle.graph.specs.Graph.{Net, Graph, free, last, sinks, well_formed, WellFormed}
use Rattle.graph.specs.Literal.{var_of, is_odd}
use Rattle.graph.specs.Sweep.{bools, turned, lit_value, values, value_at}

-- an input has the value that the assignment gives it, a gate none of its own
unfoldable pub assigned : Net → (ℕ → Bool) → ℕ → Option Bool
assigned net a v = cond (leb v (free net)) (some (a v)) none

-- the values of the variables 0 to n under the assignment a
unfoldable pub values_under : Net → (ℕ → Bool) → ℕ → List Bool
unfolding values bools assigned
values_under net a n = values bools (assigned net a) net n

-- the value of variable v under the assignment a, and of the literal l
abbrev pub value_under : Net → (ℕ → Bool) → ℕ → Bool
value_under net a v = value_at bools (assigned net a) net v

abbrev pub literal_under : Net → (ℕ → Bool) → ℕ → Bool
literal_under net a l = turned bools (is_odd l) (value_under net a (var_of l))

-- the values of the outputs under the assignment a
unfoldable pub outputs_under : Graph → (ℕ → Bool) → List Bool
unfolding values_under lit_value bools
outputs_under g a = map (lit_value bools (values_under g.net a (last g.net))) (sinks g)

-- ---- the call: lent values, one an input, and a lent list for one value an output

-- the assignment of the lent values: the first is input 1's
unfoldable pub assignment_of : List ℕ → ℕ → Bool
assignment_of vs v = eqb (get_or vs (v - 1) 0) 1

-- there are I values, each 0 or 1
unfoldable pub is_assignment : Net → List ℕ → Bool
unfolding all
is_assignment net vs = eqb (length vs) (free net) && all (λ x. leb x 1) vs

-- the same as facts
pub record Assignment (net : Net) (vs : List ℕ) : Type 0 where
  pub count : length vs ≡ free net
  pub each : (j : ℕ) → j < length vs → get_or vs j 0 ≤ 1

-- its refusals rank by their numbers
abbrev pub evaluate_rank : Refusal → ℕ
evaluate_rank = number_of

-- when evaluating is refused
pub data EvaluateGiven (g : Graph) (vs lent : List ℕ) : Refusal → Type 0 where
  bad_graph : ¬ WellFormed g → EvaluateGiven g vs lent BadGraph
  bad_assignment : ¬ Assignment g.net vs → EvaluateGiven g vs lent BadAssignment
  no_room : length lent < length (sinks g) → EvaluateGiven g vs lent NoRoom

unfoldable pub evaluate_refusals : Graph → List ℕ → List ℕ → List Row
unfolding well_formed is_assignment short
evaluate_refusals g vs lent =
    not (well_formed g) ⇒ BadGraph
    ∷ not (is_assignment g.net vs) ⇒ BadAssignment
    ∷ short (length (sinks g)) lent ⇒ NoRoom
    ∷ []

unfoldable pub evaluate_effect : Graph → List ℕ → List ℕ → Effect (Result ℕ Refusal) (List ℕ)
unfolding evaluate_refusals first_refusal written outputs_under assignment_of
evaluate_effect g vs lent =
    elim (first_refusal (evaluate_refusals g vs lent)) [
      | some r ↦ Err r leaving lent
      | none ↦ Ok (length (sinks g)) leaving written (map (λ b. cond b 1 0) (outputs_under g (assignment_of vs))) lent
    ]

unfoldable pub evaluated_outcome : Result ℕ Refusal → Outcome
evaluated_outcome (Ok n) = accepted (n ∷ [])
evaluated_outcome (Err r) = refused r
