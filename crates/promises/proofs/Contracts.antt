-- What meets a call's contract: one result alone, and what it then is. Just what a text states is read, and a graph that is written and
-- read again is that graph.
-- Assumes nothing.
use mathlib.Core.Path.{◌≡◌, sym, ap, ◌∙◌, subst⁻¹}
use mathlib.Core.List.{List}
use Prim.Native.Nat.{ℕ, ◌*◌, ◌≤◌}
use native.Mathlib.Omega.{arith}
use lib.ListN.{length, take, length-take}
use Rattle.std.specs.Prelude.{Result, Ok, Err}
use Rattle.graph.specs.declared.refusal.Refusal.{Refusal}
use Rattle.graph.specs.Graph.{Graph, graph_of, size, sinks, WellFormed}
use Rattle.graph.specs.Evaluate.{Assignment, evaluate_effect}
use Rattle.graph.specs.Use.{InUse}
use Rattle.graph.specs.Lent.{Buffers, RoomFor, Effect, ◌leaving◌}
use Rattle.text.specs.declared.counts.Counts.{Counts}
use Rattle.text.specs.States.{text_of}
use Rattle.text.specs.Reading.{yields, reading, Stated}
use Rattle.text.specs.Calls.{read_effect, read_outcome, write_effect, written_outcome}
use Rattle.text.proofs.Reading.{reading_iff}
use Rattle.text.proofs.Refusals.{write_answers}
use Rattle.window.specs.declared.leaf_set.Leaves.{Leaves}
use Rattle.window.specs.declared.truth.Table.{Table}
use Rattle.window.specs.Calls.{pick_answer, Window, table_answer}
use Rattle.replacement.specs.declared.types.Proposal.{Proposal}
use Rattle.replacement.specs.declared.types.Applied.{Applied}
use Rattle.replacement.specs.Rewire.{finished}
use Rattle.replacement.specs.Calls.{GoodProposal, apply_effect, applied_outcome}
use Rattle.promises.specs.Promises.{ReadAs, EvaluatedAs, PickedAs, TableAs, AppliedAs, read_back, graph_in}
use Rattle.promises.proofs.Granted.{
  stated_text_is_read,
  writing_has_no_refusal,
  assignment_is_evaluated,
  gate_in_use_has_leaves,
  window_has_its_table,
  good_is_applied,
}
use Rattle.promises.proofs.Accepted.{read_stores_stated, write_stores_text, write_then_read, apply_stores_finished}

-- ---- one result

one_effect : {A L : Type 0} {e : Effect A L} (r s : A) (x y : L) → r leaving x ≡ e → s leaving y ≡ e → (r ≡ s) × (x ≡ y)
one_effect {A} {L} r s x y p q = let same = p ∙ sym q in (ap (λ (e : Effect A L). e.answer) same, ap (λ (e : Effect A L). e.lent) same)

pub read_has_one_result : (t : List ℕ) (b : Buffers) (r s : Result Counts Refusal) (x y : Buffers) → r leaving x ≡ read_effect t b
    → s leaving y ≡ read_effect t b → (r ≡ s) × (x ≡ y)
read_has_one_result t b = one_effect

pub write_has_one_result : (g : Graph) (lent : List ℕ) (r s : Result ℕ Refusal) (x y : List ℕ) → r leaving x ≡ write_effect g lent
    → s leaving y ≡ write_effect g lent
    → (r ≡ s) × (x ≡ y)
write_has_one_result g lent = one_effect

pub evaluate_has_one_result : (g : Graph) (vs lent : List ℕ) (r s : Result ℕ Refusal) (x y : List ℕ) → r leaving x ≡ evaluate_effect g vs lent
    → s leaving y ≡ evaluate_effect g vs lent
    → (r ≡ s) × (x ≡ y)
evaluate_has_one_result g vs lent = one_effect

pub pick_has_one_result : (g : Graph) (root : ℕ) (p q : Result Leaves Refusal) → p ≡ pick_answer g root → q ≡ pick_answer g root → p ≡ q
pick_has_one_result g root p q a b = a ∙ sym b

pub table_has_one_result : (g : Graph) (root : ℕ) (w : Leaves) (t u : Result Table Refusal) → t ≡ table_answer g root w → u ≡ table_answer g root w
    → t ≡ u
table_has_one_result g root w t u a b = a ∙ sym b

pub apply_has_one_result : (g : Graph) (root : ℕ) (w : Leaves) (p : Proposal) (b : Buffers) (r s : Result Applied Refusal) (x y : Buffers)
    → r leaving x ≡ apply_effect g root w p b → s leaving y ≡ apply_effect g root w p b
    → (r ≡ s) × (x ≡ y)
apply_has_one_result g root w p b = one_effect

-- ---- what evaluating, picking leaves and asking for a table accept

-- r and after are what evaluating g under vs with lent came to
pub assignment_was_evaluated : (g : Graph) (vs lent after : List ℕ) (r : Result ℕ Refusal) → r leaving after ≡ evaluate_effect g vs lent
    → WellFormed g → Assignment g.net vs → length (sinks g) ≤ length lent
    → EvaluatedAs g vs lent (r leaving after)
assignment_was_evaluated g vs lent after r met ok assigns room =
    subst⁻¹ (EvaluatedAs g vs lent) met (assignment_is_evaluated g vs lent ok assigns room)

pub leaves_were_picked : (g : Graph) (root : ℕ) (p : Result Leaves Refusal) → p ≡ pick_answer g root → WellFormed g → InUse g root → PickedAs g root p
leaves_were_picked g root p met ok used = subst⁻¹ (PickedAs g root) met (gate_in_use_has_leaves g root ok used)

pub window_was_tabled : (g : Graph) (root : ℕ) (w : Leaves) (t : Result Table Refusal) → t ≡ table_answer g root w → Window g root w
    → TableAs g root w t
window_was_tabled g root w t met known = subst⁻¹ (TableAs g root w) met (window_has_its_table g root w known)

-- ---- what applying accepts

counts : Result Applied Refusal → ℕ × ℕ
counts (Ok n) = (n.gates, n.outputs)
counts (Err r) = (0, 0)

same_parts : {i i' : ℕ} {gs gs' os os' : List ℕ} → i ≡ i' → gs ≡ gs' → os ≡ os' → graph_of i gs os ≡ graph_of i' gs' os'
same_parts p q r = rw (p, q, r)

-- r and after are what applying p at the root over w with b lent came to
module _ (g : Graph) (root : ℕ) (w : Leaves) (p : Proposal) (b after : Buffers) (r : Result Applied Refusal)
    (met : r leaving after ≡ apply_effect g root w p b) where
  -- a good proposal is applied, where there is room for the graph that it makes
  pub good_was_applied : GoodProposal g root w p → RoomFor (finished g root p) b → AppliedAs g (finished g root p) b (r leaving after)
  good_was_applied good room = subst⁻¹ (AppliedAs g (finished g root p) b) met (good_is_applied g root w p b good room)

  -- and nothing else is
  module _ (n : Applied) (accepted : r ≡ Ok n) where
    applied_number : (applied_outcome (apply_effect g root w p b).answer).number ≡ 0
    unfolding applied_outcome
    applied_number = ap (λ (e : Effect (Result Applied Refusal) Buffers). (applied_outcome e.answer).number) (sym met) ∙ rw accepted

    applied_was_good : GoodProposal g root w p × AppliedAs g (finished g root p) b (r leaving after)
    applied_was_good =
        let (good, applied) = apply_stores_finished g root w p b applied_number in
        (good, subst⁻¹ (AppliedAs g (finished g root p) b) met applied)

    counts_are : (n.gates ≡ size (finished g root p).net) × (n.outputs ≡ length (finished g root p).outputs)
    unfolding counts
    counts_are =
        let same = sym accepted ∙ applied_was_good.1.counts_told in
        (ap (λ (x : Result Applied Refusal). (counts x).0) same, ap (λ (x : Result Applied Refusal). (counts x).1) same)

    -- what the lent lists hold is the finished graph
    held_is : graph_in g.net.inputs n.gates n.outputs after ≡ finished g root p
    held_is =
        let applied = applied_was_good.1 in
        let holds = applied.holds in
        let (gates, outputs) = counts_are in
        let words : 2 * n.gates ≡ length (finished g root p).net.gates = omega (arith, gates, holds.gate_words) in
        same_parts (sym applied.keeps.same_inputs)
        (ap (λ (n : ℕ). take n after.gates) words ∙ holds.gates_stored.first_places)
        (ap (λ (n : ℕ). take n after.outputs) outputs ∙ holds.outputs_stored.first_places)

    pub applied_keeps : GoodProposal g root w p × AppliedAs g (graph_in g.net.inputs n.gates n.outputs after) b (r leaving after)
    applied_keeps =
        let (good, applied) = applied_was_good in
        (good, subst⁻¹ (λ (h : Graph). AppliedAs g h b (r leaving after)) held_is applied)

-- ---- what reading accepts

-- r and after are what reading t with b lent came to
module _ (t : List ℕ) (b after : Buffers) (r : Result Counts Refusal) (met : r leaving after ≡ read_effect t b) where
  -- a text that states a graph within the limits is read as that graph, where there is room for it
  module _ (g : Graph) (stated : Stated t g) (room : RoomFor g b) where
    pub stated_is_read : ReadAs g b (r leaving after)
    stated_is_read = subst⁻¹ (ReadAs g b) met (stated_text_is_read t b g stated room)

  -- and nothing else is read
  module _ (n : Counts) (accepted : r ≡ Ok n) where
    answer_is : (read_effect t b).answer ≡ Ok n
    answer_is = ap (λ (e : Effect (Result Counts Refusal) Buffers). e.answer) (sym met) ∙ accepted

    number_is : (read_outcome (read_effect t b).answer).number ≡ 0
    unfolding read_outcome
    number_is = rw answer_is

    pub read_was_stated : (g : Graph) × Stated t g × ReadAs g b (r leaving after)
    read_was_stated = let (g, stated, read_as) = read_stores_stated t b number_is in (g, stated, subst⁻¹ (ReadAs g b) met read_as)

-- ---- written and read again

module _ (g : Graph) (lent bytes : List ℕ) (n : ℕ) (written-now : Ok n leaving bytes ≡ write_effect g lent) where
  accepted : (written_outcome (write_effect g lent).answer).number ≡ 0
  unfolding written_outcome
  accepted = ap (λ (e : Effect (Result ℕ Refusal) (List ℕ)). (written_outcome e.answer).number) (sym written-now)

  bytes_of : Result ℕ Refusal → ℕ
  bytes_of (Ok k) = k
  bytes_of (Err r) = 0

  n_is : n ≡ length (text_of g)
  unfolding bytes_of
  n_is =
      ap (λ (e : Effect (Result ℕ Refusal) (List ℕ)). bytes_of e.answer) written-now
      ∙ ap bytes_of (write_stores_text g lent accepted).1.count_told

  -- the bytes written are among those lent
  pub written_is_within : n ≤ length bytes
  written_is_within =
      let stored = ap length (write_stores_text g lent accepted).1.stored.first_places in
      let same = ap (λ (e : Effect (Result ℕ Refusal) (List ℕ)). length e.lent) written-now in
      omega (arith, n_is, simp length-take at stored)

  pub read_back_is : (b : Buffers) → read_effect (take n bytes) b ≡ read_back (write_effect g lent) b
  unfolding read_back
  read_back_is b = ap (λ (e : Effect (Result ℕ Refusal) (List ℕ)). read_back e b) written-now

  read_back_lem : reading (take n bytes) ≡ yields g
  read_back_lem = rw (n_is, ap (λ (e : Effect (Result ℕ Refusal) (List ℕ)). e.lent) written-now) (write_then_read g lent accepted)

  pub written_and_read_again : (b after : Buffers) (r : Result Counts Refusal) → r leaving after ≡ read_effect (take n bytes) b → RoomFor g b
      → ReadAs g b (r leaving after)
  written_and_read_again b after r met = stated_is_read (take n bytes) b after r met g ((reading_iff (take n bytes) g).0 read_back_lem)

pub not_read_back : (g : Graph) (lent bytes : List ℕ) (q : Refusal) (b : Buffers)
    → Err q leaving bytes ≡ write_effect g lent
    → Err q leaving b ≡ read_back (write_effect g lent) b
unfolding read_back
not_read_back g lent bytes q b refused-now = ap (λ (e : Effect (Result ℕ Refusal) (List ℕ)). read_back e b) refused-now

-- a well-formed graph with room for its text is not refused
pub written_with_room : (g : Graph) (lent bytes : List ℕ) (q : Refusal) → Err q leaving bytes ≡ write_effect g lent
    → WellFormed g
    → length (text_of g) ≤ length lent → ⊥
unfolding written_outcome
written_with_room g lent bytes q refused-now ok fits =
    let refused = ap (λ (e : Effect (Result ℕ Refusal) (List ℕ)). (written_outcome e.answer).number) refused-now in
    writing_has_no_refusal g lent ok fits q (((write_answers g lent).refuses q).0 (sym refused)).holds
