-- The finished graph by its marks: what stays in use, its words by the new numbers, and the room that they need.
-- Assumes nothing.
use mathlib.Core.Path.{◌≡◌, refl, sym, ap, ap₂, ◌∙◌}
use mathlib.Core.Bool.{Bool, true, false, ◌||◌}
use mathlib.Core.List.{List, map}
use mathlib.Core.Logic.{◌⊎◌, inl, inr, ⊎_elim, ◌↔◌}
use Prim.Native.Nat.{ℕ, suc, ◌*◌, ◌≤◌, ◌<◌}
use native.Mathlib.Omega.{arith}
use lib.ListN.{length, get_or, set, replicate, take}
use lib.Seq.{get_or-set_same, get_or-set_other}
use Rattle.std.specs.Prelude.{Result, Ok, Err}
use Rattle.graph.specs.declared.refusal.Refusal.{Refusal}
use Rattle.graph.specs.declared.refusal.Refusal.TheVariants.{NoRoom}
use Rattle.graph.specs.Lent.{short, written, Buffers, buffers_of, no_room_for, stored_in, ◌leaving◌}
use Rattle.graph.specs.Graph.{Net, Graph, over, size, last, IsGate, Lawful, WellFormed, WellFormedNet}
use Rattle.graph.specs.Use.{marks, InUse, count_marks}
use Rattle.graph.specs.Drop.{new_number, dropped}
use Rattle.graph.proofs.Graph.{net_well_formed, sinks_below}
use Rattle.graph.proofs.Lists.{same_tests, equal_or_not}
use Rattle.graph.proofs.Lent.{room_iff}
use Rattle.checker.proofs.Marking.{most_variables}
use Rattle.replacement.specs.declared.types.Proposal.{Proposal}
use Rattle.replacement.specs.declared.types.Applied.{Applied}
use Rattle.replacement.specs.Rewire.{Wires, redirected, rewired, finished}
use Rattle.replacement.specs.Calls.{left_in}
use Rattle.replacement.specs.Vanish.{literals, Without, From, MarksPast}
use Rattle.replacement.proofs.Rewire.{and_kind, old_gate, rewired_size, rewired_free}
use Rattle.replacement.proofs.Reach.{named_below}
use Rattle.replacement.proofs.Weighed.{kept_iff}
use Rattle.replacement.proofs.Finished.{finished_sinks}
use Rattle.weigher.specs.Held.{set_each, Holding}
use Rattle.weigher.proofs.Walk.{walk_marks, listed_all}
use Rattle.weigher.proofs.Weighing.{closed_past}
use Rattle.replacer.specs.declared.rewire.Rewiring.{Rewiring}
use Rattle.replacer.specs.declared.renumber.Renumbering.{Renumbering}
use Rattle.replacer.specs.Rewiring.{net_after}
use Rattle.replacer.specs.Finishing.{KeptMarks, KeptPast, new_numbers, by_numbers, kept_gates, finish_effect}
use Rattle.replacer.proofs.Kept.{
  kept_gates_are,
  kept_count,
  outputs_are,
  same_counts,
  rewired_within,
  rewired_numbers_at,
  redirected_below,
}

-- ---- the marks: those past the root, what the literals reach, and the root where an AND stands there

module _ (net : Net) (ok : WellFormedNet net) (root : ℕ) (gate : IsGate net root) (p : Proposal) (wires : Wires root p) (ms : List Bool)
    (list : List ℕ) (r : ℕ) (walk : Holding net (literals p) ms (take r list) r) where
  reached : List Bool
  reached = set_each true (take r list) ms

  module _ (outputs : List ℕ) (lawful : Lawful (over net outputs)) (used : InUse (over net outputs) root)
      (past : MarksPast (over net outputs) root ms) (v : ℕ) (i : IsGate net v) where
    abbrev g : Graph
    g = over net outputs

    -- but for the root
    reached_iff : (get_or reached v false ≡ true) ↔ (Without g root v ⊎ From net p v)
    unfolding reached
    reached_iff =
        let marked = walk_marks net (literals p) ms (take r list) ok.lawful root (closed_past g lawful root ms past)
        (λ j h. let l = named_below g root gate p wires _ (record { place = j; within = h; names = refl }) in omega arith) r
        (omega (arith, listed_all net (literals p) ms list r walk)) walk v i in
        let is = past.marks_are v i in (
          λ m. ⊎_elim (λ x. inl (is.0 x)) inr (marked.0 m),
          λ m. marked.1 (⊎_elim (λ x. inl (is.1 x)) inr m),
        )

    in_use_iff : (get_or (marks (rewired g root p)) v false ≡ true) ↔ (Without g root v ⊎ From net p v ⊎ ((v ≡ root) × (p.kind ≡ 1)))
    in_use_iff = kept_iff g lawful root used p wires v i

    kept_reached : ¬ ((v ≡ root) × (p.kind ≡ 1)) → get_or reached v false ≡ get_or (marks (rewired g root p)) v false
    kept_reached n = same_tests _ _
        (λ m. in_use_iff.1 (⊎_elim inl (λ x. inr (inl x)) (reached_iff.0 m)))
        (λ m. reached_iff.1 (⊎_elim inl (λ x. ⊎_elim inr (λ y. absurd (n y)) x) (in_use_iff.0 m)))

    and_kept : ¬ (p.kind ≡ 0) → root < length reached
        → get_or (set reached root true) v false ≡ get_or (marks (rewired g root p)) v false
    and_kept n room = ⊎_elim
        (λ e.
        ap (λ (u : ℕ). get_or (set reached root true) u false) e
        ∙ get_or-set_same reached root true false room
        ∙ sym (in_use_iff.1 (inr (inr (e, (and_kind root p wires n).0)))))
        (λ other. get_or-set_other reached root v true false other ∙ kept_reached (λ x. other x.0))
        (equal_or_not v root)

  pub literal_keeps : p.kind ≡ 0 → KeptPast net ms root p (set_each true (take r list) ms)
  unfolding reached
  literal_keeps k outputs lawful used past = record {
    marks_are = λ v i. kept_reached outputs lawful used past v i (λ x. let e = x.1 in omega arith);
  }

  pub and_keeps : ¬ (p.kind ≡ 0) → root < length (set_each true (take r list) ms)
      → KeptPast net ms root p (set (set_each true (take r list) ms) root true)
  unfolding reached
  and_keeps n room outputs lawful used past = record { marks_are = λ v i. and_kept outputs lawful used past v i n room }

-- ---- the words

-- the counts of a finished graph, as the call tells them
abbrev pub told : ℕ → ℕ → Result Applied Refusal
told gates outputs = Ok (record { gates = gates; outputs = outputs })

same_graph : {a a' o o' : ℕ} {gs gs' os os' : List ℕ} → a ≡ a' → o ≡ o' → gs ≡ gs' → os ≡ os'
    → told a o leaving buffers_of gs os ≡ told a' o' leaving buffers_of gs' os'
same_graph p q r t = rw (p, q, r, t)

-- what is at hand once the numbers are made: the marks of what stays in use, and the numbers by them
pub record Ready (r : Rewiring) (ms : List Bool) (new : Renumbering) : Type 0 where
  pub ok : WellFormed r.graph.now
  pub stays : KeptMarks r.graph.now r.root.0 r.proposal ms
  pub gates_value : new.gates ≡ count_marks r.graph.now.net ms (size r.graph.now.net)
  pub numbers_value : new.numbers ≡ written (new_numbers r.graph.now.net ms) (replicate most_variables 0)

-- the code has the net under another name
pub is_ready : (r : Rewiring) (ms : List Bool) (new : Renumbering) {net : Net} → net ≡ r.graph.now.net → WellFormed r.graph.now
    → KeptMarks r.graph.now r.root.0 r.proposal ms → new.gates ≡ count_marks net ms (size net)
    → new.numbers ≡ written (new_numbers net ms) (replicate most_variables 0) → Ready r ms new
is_ready r ms new e ok stays gates numbers =
    record { ok = ok; stays = stays; gates_value = rw e at gates; numbers_value = rw e at numbers }

module _ (r : Rewiring) (ms : List Bool) (new : Renumbering) (ready : Ready r ms new) where
  abbrev graph : Graph
  graph = r.graph.now

  abbrev done : Graph
  done = finished r.graph.now r.root.0 r.proposal

  same : (v : ℕ) → IsGate (net_after r) v → get_or ms v false ≡ get_or (marks (rewired graph r.root.0 r.proposal)) v false
  same v i = ready.stays.marks_are v (old_gate graph.net r.root.0 r.proposal v i)

  numbers_at : (v : ℕ) → v ≤ last (net_after r) → get_or new.numbers v 0 ≡ new_number (net_after r) ms v
  numbers_at v h =
      ap (λ (ns : List ℕ). get_or ns v 0) ready.numbers_value
      ∙ rewired_numbers_at graph.net r.root.0 r.proposal ms (replicate most_variables 0) v h

  gates_are : kept_gates (net_after r) ms new.numbers ≡ done.net.gates
  unfolding finished dropped rewired
  gates_are =
      kept_gates_are (net_after r) ms (marks (rewired graph r.root.0 r.proposal)) same new.numbers numbers_at
      (rewired_within graph.net r.root.0 r.proposal (net_well_formed graph ready.ok) r.gate r.wires)

  finished_outputs_are : map (λ l. by_numbers new.numbers (redirected r.root.0 r.proposal l)) graph.outputs ≡ done.outputs
  unfolding finished dropped rewired
  finished_outputs_are =
      outputs_are (net_after r) ms (marks (rewired graph r.root.0 r.proposal)) same new.numbers numbers_at r.root.0 r.proposal graph.outputs
      (λ j h. omega (
        arith,
        redirected_below r.root.0 r.proposal r.wires graph.outputs (suc (last graph.net))
            (sinks_below graph ready.ok.lawful (suc (last graph.net)) (omega arith)) j h,
        rewired_size graph.net r.root.0 r.proposal,
        rewired_free graph.net r.root.0 r.proposal,
      ))

  words_needed : length (kept_gates (net_after r) ms new.numbers) ≡ 2 * new.gates
  words_needed =
      kept_count (net_after r) ms new.numbers
      ∙ ap (λ (k : ℕ). 2 * count_marks (net_after r) ms k) (rewired_size graph.net r.root.0 r.proposal)
      ∙ ap (λ (k : ℕ). 2 * k) (same_counts graph.net r.root.0 r.proposal ms (size graph.net) ∙ sym ready.gates_value)

  finished_words : length done.net.gates ≡ 2 * new.gates
  finished_words = sym (ap length gates_are) ∙ words_needed

  -- ---- the room, and what is stored

  module _ (b : Buffers) where
    -- the code's test is the definition's
    pub room_tested : {t : Bool} {outputs : List ℕ} → t ≡ short (2 * new.gates) b.gates || short (length outputs) b.outputs
        → outputs ≡ graph.outputs → t ≡ no_room_for done b
    unfolding no_room_for
    room_tested test e = test
        ∙ ap₂ (λ (i j : ℕ). short i b.gates || short j b.outputs) (sym finished_words)
        (ap length e ∙ sym (finished_sinks graph r.root.0 r.proposal))

    -- past it there is room for what is put
    pub room_known : no_room_for done b ≡ false
        → (length (kept_gates (net_after r) ms new.numbers) ≤ length b.gates) × (length graph.outputs ≤ length b.outputs)
    room_known e =
        let room = (room_iff done b).0 e in
        (omega (arith, ap length gates_are, room.gates_fit), omega (arith, finished_sinks graph r.root.0 r.proposal, room.outputs_fit))

    pub finish_refused : no_room_for done b ≡ true → Err NoRoom leaving b ≡ finish_effect graph r.root.0 r.proposal b
    unfolding finish_effect
    finish_refused e = rw e

    pub finish_stored : no_room_for done b ≡ false → {outputs gs os : List ℕ} → outputs ≡ graph.outputs
        → gs ≡ written (kept_gates (net_after r) ms new.numbers) b.gates
        → os ≡ written (map (λ l. by_numbers new.numbers (redirected r.root.0 r.proposal l)) graph.outputs) b.outputs
        → told new.gates (length outputs) leaving buffers_of gs os ≡ finish_effect graph r.root.0 r.proposal b
    unfolding finish_effect left_in stored_in
    finish_stored e t x y =
        let gates : new.gates ≡ size done.net = omega (arith, finished_words) in
        same_graph gates
        (ap length t ∙ sym (finished_sinks graph r.root.0 r.proposal))
        (x ∙ ap (λ (ws : List ℕ). written ws b.gates) gates_are)
        (y ∙ ap (λ (ws : List ℕ). written ws b.outputs) finished_outputs_are)
        ∙ rw e
