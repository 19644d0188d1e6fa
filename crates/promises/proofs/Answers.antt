-- Demand 1: each call ends with its one value or with the one refusal that the order selects, and a refusal writes nothing.
-- Assumes nothing.
use mathlib.Core.Path.{◌≡◌}
use mathlib.Core.List.{List, [], ◌∷◌}
use Prim.Native.Nat.{ℕ}
use lib.ListN.{length}
use Rattle.std.specs.Prelude.{Err}
use Rattle.graph.specs.declared.refusal.Refusal.{Refusal}
use Rattle.graph.specs.declared.refusal.Refusal.TheVariants.{OrderLost, NoRoom}
use Rattle.graph.specs.Refuse.{number_of, Answers}
use Rattle.graph.specs.Lent.{Buffers}
use Rattle.graph.specs.Graph.{Graph}
use Rattle.graph.specs.Evaluate.{evaluate_rank, EvaluateGiven, evaluate_effect, evaluated_outcome}
use Rattle.graph.proofs.Evaluate.{evaluate_answers, evaluate_writes_nothing}
use Rattle.text.specs.Refusals.{read_rank, ReadGiven, write_rank, WriteGiven}
use Rattle.text.specs.Calls.{read_effect, read_outcome, write_effect, written_outcome}
use Rattle.text.proofs.Refusals.{read_answers, read_writes_nothing, write_answers, write_writes_nothing}
use Rattle.window.specs.declared.leaf_set.Leaves.{Leaves}
use Rattle.window.specs.Calls.{root_rank, RootGiven, pick_answer, pick_outcome, window_rank, WindowGiven, table_answer, table_outcome}
use Rattle.window.proofs.Calls.{pick_answers, pick_refused_empty, table_answers, table_refused_zero}
use Rattle.replacement.specs.declared.types.Proposal.{Proposal}
use Rattle.replacement.specs.Calls.{apply_rank, ApplyGiven, apply_effect, applied_outcome}
use Rattle.replacement.proofs.Calls.{apply_answers, apply_writes_nothing, order_lost_never_given}
use Rattle.listing.specs.declared.Candidate.{Candidate}
use Rattle.listing.specs.Listing.{listed}
use Rattle.listing.specs.Calls.{list_rank, ListGiven, list_effect, listed_outcome}
use Rattle.listing.proofs.Calls.{list_answers, list_writes_nothing, no_room_counts}
use Rattle.run.specs.Calls.{RunBuffers, run_rank, RunGiven, run_effect, ran_outcome}
use Rattle.run.proofs.Calls.{run_answers, run_writes_nothing}
use Rattle.promises.specs.Promises.{Settled}

-- ---- calls on lent memory

pub read_settled : (t : List ℕ) (b : Buffers)
    → Settled read_rank (ReadGiven t b) (read_outcome (read_effect t b).answer).number b (read_effect t b).lent
read_settled t b = record { answers = read_answers t b; writes_nothing = read_writes_nothing t b }

pub write_settled : (g : Graph) (lent : List ℕ)
    → Settled write_rank (WriteGiven g lent) (written_outcome (write_effect g lent).answer).number lent (write_effect g lent).lent
write_settled g lent = record { answers = write_answers g lent; writes_nothing = write_writes_nothing g lent }

pub evaluate_settled : (g : Graph) (vs lent : List ℕ)
    → Settled evaluate_rank (EvaluateGiven g vs lent) (evaluated_outcome (evaluate_effect g vs lent).answer).number lent
    (evaluate_effect g vs lent).lent
evaluate_settled g vs lent = record { answers = evaluate_answers g vs lent; writes_nothing = evaluate_writes_nothing g vs lent }

pub list_settled : (g : Graph) (root : ℕ) (w : Leaves) (lent : List Candidate)
    → Settled list_rank (ListGiven g root w lent) (listed_outcome (list_effect g root w lent).answer).number lent
    (list_effect g root w lent).lent
list_settled g root w lent = record { answers = list_answers g root w lent; writes_nothing = list_writes_nothing g root w lent }

pub apply_settled : (g : Graph) (root : ℕ) (w : Leaves) (p : Proposal) (b : Buffers)
    → Settled apply_rank (ApplyGiven g root w p b) (applied_outcome (apply_effect g root w p b).answer).number b
    (apply_effect g root w p b).lent
apply_settled g root w p b = record { answers = apply_answers g root w p b; writes_nothing = apply_writes_nothing g root w p b }

pub run_settled : (g : Graph) (b : RunBuffers)
    → Settled run_rank (RunGiven g b) (ran_outcome (run_effect g b).answer).number b (run_effect g b).lent
run_settled g b = record { answers = run_answers g b; writes_nothing = run_writes_nothing g b }

-- ---- calls that write nothing at all

pub pick_settled : (g : Graph) (root : ℕ) → Answers root_rank (RootGiven g root) (pick_outcome (pick_answer g root)).number
pick_settled = pick_answers

pub table_settled : (g : Graph) (root : ℕ) (w : Leaves)
    → Answers window_rank (WindowGiven g root w) (table_outcome (table_answer g root w)).number
table_settled = table_answers

-- and a refusal tells nothing but its number
pub pick_refused_has_no_leaves : (g : Graph) (root : ℕ) (r : Refusal) → (pick_outcome (pick_answer g root)).number ≡ number_of r
    → pick_answer g root ≡ Err r
pick_refused_has_no_leaves = pick_refused_empty

pub table_refused_has_no_bits : (g : Graph) (root : ℕ) (w : Leaves) (r : Refusal)
    → (table_outcome (table_answer g root w)).number ≡ number_of r → table_answer g root w ≡ Err r
table_refused_has_no_bits = table_refused_zero

-- ---- two refusals by name

-- NO ROOM when listing also returns the record count needed
pub no_room_tells_the_count : (g : Graph) (root : ℕ) (w : Leaves) (lent : List Candidate)
    → (listed_outcome (list_effect g root w lent).answer).number ≡ number_of NoRoom
    → (listed_outcome (list_effect g root w lent).answer).values ≡ length (listed g root w) ∷ []
no_room_tells_the_count = no_room_counts

-- ORDER LOST is never given
pub order_is_never_lost : (g : Graph) (root : ℕ) (w : Leaves) (p : Proposal) (b : Buffers)
    → ¬ ((applied_outcome (apply_effect g root w p b).answer).number ≡ number_of OrderLost)
order_is_never_lost = order_lost_never_given
