-- Replacing and applying: what is answered by the gain, and what by the verdict on the proposal.
-- Assumes nothing.
use mathlib.Core.Path.{◌≡◌, sym, ◌∙◌}
use mathlib.Core.Bool.{Bool, true, false, not}
use mathlib.Core.List.{List, [], ◌∷◌}
use mathlib.Core.Logic.{⊎_elim}
use mathlib.Core.Option.{Option, none, some, or_else}
use Prim.Native.Nat.{ℕ}
use native.Mathlib.Omega.{arith}
use Rattle.std.specs.Prelude.{Err}
use Rattle.graph.specs.declared.refusal.Refusal.{Refusal}
use Rattle.graph.specs.declared.refusal.Refusal.TheVariants.{NoGain, OrderLost, NoRoom}
use Rattle.graph.specs.Lent.{Buffers, no_room_for, ◌leaving◌}
use Rattle.graph.specs.Refuse.{Row, ◌⇒◌, first_refusal}
use Rattle.graph.specs.Graph.{Net, Graph, well_formed, WellFormed}
use Rattle.graph.specs.Use.{InUse}
use Rattle.graph.proofs.Graph.{well_formed_iff}
use Rattle.graph.proofs.Lists.{true_or_false}
use Rattle.graph.proofs.Refuse.{first_join}
use Rattle.window.specs.declared.leaf_set.Leaves.{Leaves}
use Rattle.replacement.specs.declared.types.Proposal.{Proposal}
use Rattle.replacement.specs.Rewire.{Wires, finished, gain, is_at_least_one, positive}
use Rattle.replacement.specs.Calls.{proposal_refusals, apply_refusals, left_in, apply_effect}
use Rattle.replacement.specs.Vanish.{MarksPast, Weighed}
use Rattle.replacement.proofs.Gain.{gain_iff, positive_iff}
use Rattle.replacement.proofs.Rewire.{wires_of}
use Rattle.replacement.proofs.Finished.{finished_well_formed}
use Rattle.judge.proofs.Verdicts.{proposal_known}
use Rattle.weigher.specs.Weighing.{GoingWith, Gains}
use Rattle.replacer.specs.Finishing.{finish_effect, replace_effect}

-- ---- what the weigher tells, where the code has the net under another name

module _ (g : Graph) (root : ℕ) {net : Net} (same : net ≡ g.net) where
  -- what goes with the root is weighed
  pub weighed : {past after : List Bool} {going : ℕ} → WellFormed g → InUse g root → MarksPast g root past
      → GoingWith net past root going → after ≡ past → Weighed g root after going
  weighed ok used past goes kept = rw kept (record {
    lawful = ok.lawful;
    used = used;
    past = past;
    going_is = (rw same at goes) g.outputs ok.lawful used past;
  })

  -- and so is the gain
  pub gain_known : (p : Proposal) {ms : List Bool} {going n : ℕ} → Weighed g root ms going → Wires root p → Gains net ms going p n
      → n ≡ positive (gain g root p)
  gain_known p w wires gains = (rw same at gains) g.outputs root w wires

module _ (g : Graph) (root : ℕ) (p : Proposal) (b : Buffers) where
  pub nothing_gained : positive (gain g root p) ≡ 0 → Err NoGain leaving b ≡ replace_effect g root p b
  unfolding replace_effect
  nothing_gained e = ⊎_elim
      (λ t. absurd (let h = (positive_iff (gain g root p)).0 t in omega arith))
      (λ f. rw f)
      (true_or_false (is_at_least_one (gain g root p)))

  pub something_gained : ¬ (positive (gain g root p) ≡ 0) → finish_effect g root p b ≡ replace_effect g root p b
  unfolding replace_effect
  something_gained n = rw ((positive_iff (gain g root p)).1 (omega arith))

-- ---- past the verdict on the proposal

module _ (g : Graph) (root : ℕ) (w : Leaves) (p : Proposal) (b : Buffers) where
  last_rows : List Row
  last_rows =
      not (is_at_least_one (gain g root p)) ⇒ NoGain
      ∷ not (well_formed (finished g root p)) ⇒ OrderLost
      ∷ no_room_for (finished g root p) b ⇒ NoRoom
      ∷ []

  parts : first_refusal (apply_refusals g root w p b) ≡ or_else (first_refusal (proposal_refusals g root w p)) (first_refusal last_rows)
  unfolding apply_refusals last_rows
  parts = first_join (proposal_refusals g root w p) last_rows

  answers : (o : Option Refusal) → first_refusal (apply_refusals g root w p b) ≡ o
      → apply_effect g root w p b ≡ elim o [
        | some r ↦ Err r leaving b
        | none ↦ left_in (finished g root p) b
      ]
  unfolding apply_effect
  answers o e = rw (e, apply_effect)

  pub apply_refused : (r : Refusal) → first_refusal (proposal_refusals g root w p) ≡ some r
      → Err r leaving b ≡ apply_effect g root w p b
  unfolding or_else
  apply_refused r e = sym (answers (some r) (parts ∙ rw e))

  module _ (fine : first_refusal (proposal_refusals g root w p) ≡ none) where
    pub replacing_known : WellFormed g × InUse g root × Wires root p
    replacing_known =
        let (window, rule) = proposal_known g root w p fine in
        (window.graph, window.root_used, wires_of g.net root w p rule)

    by_last : first_refusal (apply_refusals g root w p b) ≡ first_refusal last_rows
    unfolding or_else
    by_last = parts ∙ rw fine

    no_gain : is_at_least_one (gain g root p) ≡ false → first_refusal last_rows ≡ some NoGain
    unfolding first_refusal last_rows
    no_gain e = rw e

    -- with a gain the order is kept
    module _ (gains : is_at_least_one (gain g root p) ≡ true) where
      in_order : well_formed (finished g root p) ≡ true
      in_order =
          let (window, rule) = proposal_known g root w p fine in
          (well_formed_iff (finished g root p)).1
          (finished_well_formed g window.graph root window.root_used.is_gate w p rule ((gain_iff g root p).0 gains))

      no_room : no_room_for (finished g root p) b ≡ true → first_refusal last_rows ≡ some NoRoom
      unfolding first_refusal last_rows
      no_room e = rw (gains, in_order, e)

      done : no_room_for (finished g root p) b ≡ false → first_refusal last_rows ≡ none
      unfolding first_refusal last_rows
      done e = rw (gains, in_order, e)

      finishes : finish_effect g root p b ≡ apply_effect g root w p b
      unfolding finish_effect
      finishes = ⊎_elim
          (λ e. rw e (sym (answers (some NoRoom) (by_last ∙ no_room e))))
          (λ e. rw e (sym (answers none (by_last ∙ done e))))
          (true_or_false (no_room_for (finished g root p) b))

    pub apply_replaces : replace_effect g root p b ≡ apply_effect g root w p b
    unfolding replace_effect
    apply_replaces = ⊎_elim
        (λ e. rw e (finishes e))
        (λ e. rw e (sym (answers (some NoGain) (by_last ∙ no_gain e))))
        (true_or_false (is_at_least_one (gain g root p)))
