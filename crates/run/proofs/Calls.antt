-- The run: the refusal given is the lowest that holds, and where none does the work area is left at 0.
-- Assumes nothing.
use mathlib.Core.Path.{◌≡◌, refl, ap₂}
use mathlib.Core.Bool.{true, ◌||◌}
use mathlib.Core.List.{List}
use mathlib.Core.Option.{none}
use Prim.Native.Nat.{ℕ}
use mathlib.Core.Logic.{◌↔◌, ◌⊎◌, inl, inr, ⊎_elim}
use Rattle.graph.specs.declared.refusal.Refusal.{Refusal}
use lib.ListN.{length, replicate}
use Rattle.graph.specs.Lent.{written, buffers_of, no_room_for, RoomFor, stored_in}
use Rattle.graph.specs.Refuse.{first_refusal, number_of, Answers}
use Rattle.graph.specs.Graph.{Graph}
use Rattle.graph.proofs.Graph.{well_formed_iff}
use Rattle.graph.proofs.Lists.{filled_nothing}
use Rattle.graph.proofs.Refuse.{number_of_injective, shown, none_shown, settles_answers, ascends, Silent, Decides, first_settles}
use Rattle.graph.proofs.Tests.{denial_on, denial_off, test_off, or_iff}
use Rattle.graph.proofs.Lent.{no_room_iff}
use Rattle.run.specs.Calls.{
  RunBuffers,
  run_rank,
  RunGiven,
  bad_graph,
  no_room_for_result,
  no_room_for_work,
  run_refusals,
  filled_in,
  run_effect,
  ran_outcome,
}

module _ (g : Graph) (b : RunBuffers) where
  -- the result's room or the work area's is too little
  room_iff : (no_room_for g b.result || no_room_for g b.work ≡ true) ↔ ((¬ RoomFor g b.result) ⊎ (¬ RoomFor g b.work))
  room_iff = or_iff _ _ (no_room_iff g b.result) (no_room_iff g b.work)

  run_complete : (q : Refusal) → RunGiven g b q → ¬ Silent run_rank q (run_refusals g b)
  unfolding run_refusals
  run_complete q (bad_graph h) s = h (denial_off _ (well_formed_iff g) (s.0 refl))
  run_complete q (no_room_for_result h) s = test_off _ room_iff (s.1.0 refl) (inl h)
  run_complete q (no_room_for_work h) s = test_off _ room_iff (s.1.0 refl) (inr h)

  run_decides : Decides run_rank (RunGiven g b) (run_refusals g b)
  unfolding run_refusals ascends
  run_decides = record {
    ascending = refl;
    sound = (
      λ e. bad_graph (denial_on _ (well_formed_iff g) e),
      λ _. (λ e. ⊎_elim no_room_for_result no_room_for_work (room_iff.0 e), λ _. tt),
    );
    complete = run_complete;
  }

  pub run_answers : Answers run_rank (RunGiven g b) (ran_outcome (run_effect g b).answer).number
  unfolding run_effect ran_outcome
  run_answers = settles_answers number_of_injective (first_settles run_decides) _ (λ q e. rw (e, run_effect)) (λ e. rw (e, run_effect))

  pub run_none_given : (ran_outcome (run_effect g b).answer).number ≡ 0 → first_refusal (run_refusals g b) ≡ none
  unfolding run_effect ran_outcome
  run_none_given e = none_shown (first_refusal (run_refusals g b)) _ (λ q r. rw (r, run_effect)) e

  -- a word a gate literal and one an output is 0 in the work area, and the others are as before
  pub run_clears_work : (ran_outcome (run_effect g b).answer).number ≡ 0
      → (run_effect g b).lent.work
      ≡ buffers_of (written (replicate (length g.net.gates) 0) b.work.gates)
      (written (replicate (length g.outputs) 0) b.work.outputs)
  unfolding run_effect filled_in stored_in
  run_clears_work e =
      rw (run_none_given e, run_effect)
      (ap₂ (λ (xs ys : List ℕ). buffers_of (written xs b.work.gates) (written ys b.work.outputs))
      (filled_nothing (length g.net.gates)) (filled_nothing (length g.outputs)))

  -- a refusal leaves all four lent lists as they were
  pub run_writes_nothing : (r : Refusal) → (ran_outcome (run_effect g b).answer).number ≡ number_of r → (run_effect g b).lent ≡ b
  unfolding run_effect ran_outcome
  run_writes_nothing r e = let s = shown (first_refusal (run_refusals g b)) _ (λ n. rw (n, run_effect)) r e in rw (s.1, run_effect)
