-- Applying a proposal as a call: the refusals in order, the answer, and the lent lists afterwards.
-- Assumes nothing.
use Rattle.std.specs.Prelude.{ℕ, ◌≤◌, ◌<◌, ◌≡◌, Bool, not, List, [], ◌∷◌, ◌++◌, Result, Ok, Err, length}
use Rattle.std.proofs.Math.Option.{none, some}
use Rattle.graph.specs.declared.refusal.Refusal.{Refusal}
use Rattle.graph.specs.declared.refusal.Refusal.TheVariants.{BadCandidate, NotEqual, NoGain, OrderLost, NoRoom}
use Rattle.graph.specs.Lent.{Buffers, no_room_for, RoomFor, stored_in, Effect, ◌leaving◌}
use Rattle.graph.specs.Refuse.{Row, ◌⇒◌, first_refusal, Outcome, accepted, refused}
use Rattle.graph.specs.Use.{used_gates}
use Rattle.graph.specs.Graph.{Graph, size, well_formed, WellFormed}
use Rattle.window.specs.declared.leaf_set.Leaves.{Leaves}
use Rattle.window.specs.Table.{table, same_table}
use Rattle.window.specs.Local.{Covered}
use Rattle.window.specs.Calls.{window_refusals, Window, window_rank, WindowGiven}
use Rattle.replacement.specs.declared.types.Proposal.{Proposal}
use Rattle.replacement.specs.declared.types.Applied.{Applied}
use Rattle.replacement.specs.Proposal.{allowed, RuleKept, proposed_table}
use Rattle.replacement.specs.Rewire.{finished, gain, is_at_least_one}

-- a replacement's table equals the root's
unfoldable pub equal_tables : Graph → ℕ → Leaves → Proposal → Bool
unfolding same_table table proposed_table
equal_tables g root w p = same_table (proposed_table g.net root w p) (table g.net w root)

-- a proposal that is good: over a window it keeps its kind's rule, its table equals the root's, and its gain is at least 1
pub record GoodProposal (g : Graph) (root : ℕ) (w : Leaves) (p : Proposal) : Type 0 where
  pub window : Window g root w
  pub rule : RuleKept (Covered g.net w) root p
  pub equal : proposed_table g.net root w p ≡ table g.net w root
  pub fewer : used_gates (finished g root p) < used_gates g

-- its refusals rank by their numbers
abbrev pub apply_rank : Refusal → ℕ
apply_rank = window_rank

-- when applying a proposal is refused
pub data ApplyGiven (g : Graph) (root : ℕ) (w : Leaves) (p : Proposal) (b : Buffers) : Refusal → Type 0 where
  by_window : {r : Refusal} → WindowGiven g root w r → ApplyGiven g root w p b r
  bad_candidate : ¬ RuleKept (Covered g.net w) root p → ApplyGiven g root w p b BadCandidate
  not_equal : ¬ (proposed_table g.net root w p ≡ table g.net w root) → ApplyGiven g root w p b NotEqual
  no_gain : used_gates g ≤ used_gates (finished g root p) → ApplyGiven g root w p b NoGain
  order_lost : ¬ WellFormed (finished g root p) → ApplyGiven g root w p b OrderLost
  no_room : ¬ RoomFor (finished g root p) b → ApplyGiven g root w p b NoRoom

-- over a window the proposal's own fields decide first, then its table
unfoldable pub proposal_refusals : Graph → ℕ → Leaves → Proposal → List Row
unfolding window_refusals allowed equal_tables
proposal_refusals g root w p =
    window_refusals g root w
    ++ (not (allowed g.net root w p) ⇒ BadCandidate
    ∷ not (equal_tables g root w p) ⇒ NotEqual
    ∷ [])

-- then what it makes of the graph; the room is that of the finished graph
unfoldable pub apply_refusals : Graph → ℕ → Leaves → Proposal → Buffers → List Row
unfolding proposal_refusals gain is_at_least_one finished well_formed no_room_for
apply_refusals g root w p b =
    proposal_refusals g root w p
    ++ (not (is_at_least_one (gain g root p)) ⇒ NoGain
    ∷ not (well_formed (finished g root p)) ⇒ OrderLost
    ∷ no_room_for (finished g root p) b ⇒ NoRoom
    ∷ [])

-- the graph h is left in the lent lists, and its counts are told
unfoldable pub left_in : Graph → Buffers → Effect (Result Applied Refusal) Buffers
unfolding stored_in
left_in h b = Ok (record { gates = size h.net; outputs = length h.outputs }) leaving stored_in h b

unfoldable pub apply_effect : Graph → ℕ → Leaves → Proposal → Buffers → Effect (Result Applied Refusal) Buffers
unfolding apply_refusals first_refusal finished left_in
apply_effect g root w p b =
    elim (first_refusal (apply_refusals g root w p b)) [
      | some r ↦ Err r leaving b
      | none ↦ left_in (finished g root p) b
    ]

unfoldable pub applied_outcome : Result Applied Refusal → Outcome
applied_outcome (Ok n) = accepted (n.gates ∷ n.outputs ∷ [])
applied_outcome (Err r) = refused r
