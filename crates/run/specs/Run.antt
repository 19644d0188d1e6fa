-- The run: drop gates not in use, then replace until a full pass finds nothing.
-- Assumes nothing.
use Rattle.std.specs.Prelude.{ℕ, zero, suc, ◌+◌, ◌≤◌, ◌<◌, ◌≡◌, cond, List, [], ◌∷◌, ◌++◌, ltb}
use Rattle.std.proofs.Math.Option.{Option, none, some}
use Rattle.graph.specs.Lists.{◌∈◌}
use Rattle.graph.specs.Graph.{Graph, free, size, IsGate}
use Rattle.graph.specs.Drop.{dropped}
use Rattle.window.specs.LeafRule.{picked}
use Rattle.replacement.specs.Rewire.{finished}
use Rattle.listing.specs.declared.Candidate.{Candidate}
use Rattle.listing.specs.Listing.{listed, proposal_of, GoodReplacement}

-- the record of greatest gain, the earliest on ties
unfoldable pub greatest_from : Candidate → List Candidate → Candidate
greatest_from best [] = best
greatest_from best (x ∷ xs) = greatest_from (cond (ltb best.gain x.gain) x best) xs

unfoldable pub greatest : List Candidate → Option Candidate
unfolding greatest_from
greatest [] = none
greatest (x ∷ xs) = some (greatest_from x xs)

-- the best replacement of variable v over the leaves that the rule picks
unfoldable pub best_at : Graph → ℕ → Option Candidate
unfolding greatest listed picked
best_at g v = greatest (listed g v (picked g.net v))

-- from the k-th gate down: the graph once the first gate with a good replacement has its best one applied
unfoldable pub step_from : Graph → ℕ → Option Graph
unfolding best_at finished
step_from g zero = none
step_from g (suc k) =
    let v = suc (free g.net + k) in elim (best_at g v) [ some x ↦ some (finished g v (proposal_of x)) | none ↦ step_from g k ]

-- one step: a pass from the highest gate down
unfoldable pub step : Graph → Option Graph
unfolding step_from
step g = step_from g (size g.net)

-- a run's end: the finished graph and the number of replacements made
pub record End : Type 0 where
  pub graph : Graph
  pub made : ℕ

-- steps until a full pass finds none; each leaves fewer gates, so n steps are enough for n gates
unfoldable pub steps_from : ℕ → Graph → ℕ → End
unfolding step
steps_from zero g made = record { graph = g; made = made }
steps_from (suc n) g made = elim (step g) [ some h ↦ steps_from n h (suc made) | none ↦ record { graph = g; made = made } ]

unfoldable pub run : Graph → End
unfolding dropped steps_from
run g = let h = dropped g in steps_from (size h.net) h 0

-- ---- what the run must do

-- x has the greatest gain in the list, and is the earliest that has it
pub record Greatest (xs : List Candidate) (x : Candidate) : Type 0 where
  pub before : List Candidate
  pub after : List Candidate
  pub is : xs ≡ before ++ (x ∷ after)
  pub earlier_less : (y : Candidate) → y ∈ before → y.gain < x.gain
  pub later_no_more : (y : Candidate) → y ∈ after → y.gain ≤ x.gain

-- gate v has no good replacement over the leaves that the rule picks
abbrev pub NoneAt : Graph → ℕ → Type 0
NoneAt g v = (x : Candidate) → ¬ GoodReplacement g v (picked g.net v) x

-- the highest gate that has a good replacement has its best one applied
pub record Step (g h : Graph) : Type 0 where
  pub root : ℕ
  pub is_gate : IsGate g.net root
  pub none_higher : (v : ℕ) → IsGate g.net v → root < v → NoneAt g v
  pub best : Candidate
  pub is_best : Greatest (listed g root (picked g.net root)) best
  pub becomes : h ≡ finished g root (proposal_of best)

-- n steps lead from the first graph to the second, and there no gate has a good replacement left
pub data Steps : Graph → ℕ → Graph → Type 0 where
  ends : {g : Graph} → ((v : ℕ) → IsGate g.net v → NoneAt g v) → Steps g 0 g
  goes_on : {g h e : Graph} {n : ℕ} → Step g h → Steps h n e → Steps g (suc n) e
