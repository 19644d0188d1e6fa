-- What is found by marks past a root and by counting what literals reach without one: the gates that go with the root, and the gain.
-- Assumes nothing.
use mathlib.Core.Path.{◌≡◌, refl, sym, ap, ◌∙◌}
use mathlib.Core.Bool.{Bool}
use mathlib.Core.List.{List, [], ◌∷◌}
use mathlib.Core.Logic.{inl, inr}
use Prim.Native.Nat.{ℕ, zero, suc, ◌+◌, ◌-◌, ◌*◌, ◌≤◌, ◌<◌}
use native.Mathlib.Omega.{arith}
use lib.ListN.{get_or}
use Rattle.graph.specs.Literal.{var_of}
use Rattle.graph.specs.Graph.{Net, Graph, over, IsGate, Lawful}
use Rattle.graph.proofs.Marks.{Marked}
use Rattle.replacement.specs.declared.types.Proposal.{Proposal}
use Rattle.replacement.specs.Vanish.{literals, new_gates, MarksPast}
use Rattle.replacement.proofs.Reach.{Fanin, fanin_lower, without_fanin, named_below}
use Rattle.replacement.proofs.Weighed.{held_root, weighed_gain}
use Rattle.weigher.specs.Held.{GateMarked, ClosedTo, CountsHeld}
use Rattle.weigher.specs.Weighing.{GoingWith, Gains}

module _ (g : Graph) (ok : Lawful g) (root : ℕ) (ms : List Bool) (past : MarksPast g root ms) where
  -- a gate up to the root does not refer to it
  fanin_past : (v u : ℕ) → IsGate g.net v → v ≤ root → Marked ms v → Fanin g.net v u → GateMarked g.net ms u
  fanin_past v u i l m f j =
      let d = fanin_lower g ok v u i f in
      (past.marks_are u j).1 (without_fanin g root v u i ((past.marks_are v i).0 m) (λ e. omega arith) f)

  -- so marks past the root are closed up to it
  pub closed_past : ClosedTo g.net root ms
  closed_past = record {
    first_marked = λ v i l m. fanin_past v _ i l m (inl refl);
    second_marked = λ v i l m. fanin_past v _ i l m (inr refl);
  }

module _ (net : Net) (ms : List Bool) where
  -- what the root reaches without a mark goes with it
  pub going_counted : (root n : ℕ) {l : ℕ} → l ≡ 2 * root → CountsHeld net ms (l ∷ 0 ∷ []) n → GoingWith net ms root n
  going_counted root n {l} e held outputs ok used past =
      let g = over net outputs in
      (rw e at held) root (closed_past g ok root ms past) low ∙ held_root g ok root used ms past
    where
      low : (j : ℕ) → j < 2 → var_of (get_or (2 * root ∷ 0 ∷ []) j 0) ≤ root
      low zero h = omega arith
      low (suc zero) h = omega arith
      low (suc (suc j)) h = absurd (omega arith)

  -- the gain is what goes, less what the proposal puts there and what its literals reach without a mark
  pub gain_counted : (going : ℕ) (p : Proposal) (held : ℕ) → CountsHeld net ms (literals p) held → {n : ℕ}
      → n ≡ going - (new_gates p + held) → Gains net ms going p n
  gain_counted going p held counts e outputs root w wires =
      let g = over net outputs in
      e
      ∙ ap (λ (h : ℕ). going - (new_gates p + h)) (counts root (closed_past g w.lawful root ms w.past)
      (λ j h. let l = named_below g root w.used.is_gate p wires _ (record { place = j; within = h; names = refl }) in omega arith))
      ∙ sym (weighed_gain g root ms going w p wires)
