-- The gain by marks past the root that lent memory holds; and which gates a replacement keeps.
-- Assumes nothing.
use mathlib.Core.Path.{◌≡◌, refl, sym, ap, ◌∙◌, subst}
use mathlib.Core.Bool.{Bool, true, false, cond}
use mathlib.Core.List.{List, [], ◌∷◌}
use mathlib.Core.Logic.{◌⊎◌, inl, inr, ⊎_elim, ◌↔◌}
use Prim.Native.Nat.{ℕ, zero, suc, ◌+◌, ◌-◌, ◌*◌, ◌≤◌, ◌<◌}
use native.Mathlib.Nat.{le_refl}
use native.Mathlib.Omega.{arith}
use lib.Dec.{eqb}
use lib.ListN.{get_or}
use Rattle.graph.specs.Literal.{var_of}
use Rattle.graph.specs.Graph.{Graph, over, size, last, sinks, IsGate, Lawful}
use Rattle.graph.specs.Use.{Reached, as_output, InUse, marks}
use Rattle.graph.proofs.Lists.{equal_or_not, same_tests}
use Rattle.graph.proofs.Graph.{over_lawful}
use Rattle.graph.proofs.Marks.{Marked}
use Rattle.graph.proofs.Use.{marked_iff}
use Rattle.replacement.specs.declared.types.Proposal.{Proposal}
use Rattle.replacement.specs.Rewire.{Wires, rewired, gain, positive}
use Rattle.replacement.specs.Vanish.{
  Without,
  by_output,
  literals,
  From,
  new_gates,
  marks_without,
  vanishing,
  held_from,
  held_back,
  MarksPast,
  Weighed,
}
use Rattle.replacement.proofs.Rewire.{rewired_lawful}
use Rattle.replacement.proofs.Reach.{
  by_fanin,
  by_reach,
  without_fanin,
  without_not_root,
  from_below,
  named_below,
  rewired_reached,
}
use Rattle.replacement.proofs.Gain.{positive_difference}
use Rattle.replacement.proofs.Counts.{apart_same}
use Rattle.replacement.proofs.Vanish.{without_iff, root_kept}
use Rattle.replacement.proofs.GainLaw.{gain_law}

-- ---- what literals reach without a mark

module _ (g : Graph) (ok : Lawful g) (root : ℕ) (gate : IsGate g.net root) (ms : List Bool) (past : MarksPast g root ms) where
  same_past : (v : ℕ) → IsGate g.net v → get_or ms v false ≡ get_or (marks_without g root) v false
  same_past v i =
      let a = past.marks_are v i in let b = without_iff g ok root gate v i in
      same_tests _ _ (λ m. b.1 (a.0 m)) (λ m. a.1 (b.0 m))

  -- those of a proposal hold back what they reach without a mark
  held_literals : (p : Proposal) → held_from g.net ms (literals p) ≡ held_back g root p
  unfolding held_back held_from
  held_literals p = apart_same g.net (marks (over g.net (literals p))) ms (marks (over g.net (literals p))) (marks_without g root)
      same_past (λ v i n. refl) (size g.net) (le_refl _)

module _ (g : Graph) (ok : Lawful g) (root : ℕ) (used : InUse g root) where
  rooted : List ℕ
  rooted = 2 * root ∷ 0 ∷ []

  root_first : Reached (over g.net rooted) root
  unfolding rooted
  root_first = subst (Reached (over g.net rooted)) (omega arith) (as_output 0 (omega arith))

  rooted_used : (v : ℕ) → Reached (over g.net rooted) v → 0 < v → Reached g v
  unfolding rooted
  rooted_used = by_reach (over g.net rooted) (λ v. 0 < v → Reached g v) from_sink
      (λ v u i r ih f z. by_fanin g v u i (ih (let h = i.above in omega arith)) f)
    where
      from_sink : (j : ℕ) → j < 2 → 0 < var_of (get_or rooted j 0) → Reached g (var_of (get_or rooted j 0))
      from_sink zero h z = subst (Reached g) (omega arith) used.is_reached
      from_sink (suc zero) h z = absurd (omega arith)
      from_sink (suc (suc j)) h z = absurd (omega arith)

  used_rooted : (v : ℕ) → Reached g v → Without g root v ⊎ Reached (over g.net rooted) v
  used_rooted = by_reach g (λ v. Without g root v ⊎ Reached (over g.net rooted) v)
      (λ j h. ⊎_elim (λ e. inr (subst (Reached (over g.net rooted)) (sym e) root_first)) (λ n. inl (by_output j h n))
      (equal_or_not (var_of (get_or (sinks g) j 0)) root))
      (λ v u i r ih f. ⊎_elim
      (λ x. ⊎_elim (λ e. inr (subst (Reached (over g.net rooted)) (sym e) root_first)) (λ n. inl (without_fanin g root v u i x n f))
      (equal_or_not u root))
      (λ x. inr (by_fanin (over g.net rooted) v u i x f)) ih)

  -- what goes with the root is what it reaches without a mark: each gate in use is reached past it or from it
  pub held_root : (ms : List Bool) → MarksPast g root ms → held_from g.net ms (2 * root ∷ 0 ∷ []) ≡ vanishing g root
  unfolding rooted held_from vanishing
  held_root ms past =
      apart_same g.net (marks (over g.net rooted)) ms (marks g) (marks_without g root)
      (same_past g ok root used.is_gate ms past) same (size g.net) (le_refl _)
    where
      within : (j : ℕ) → j < 2 → var_of (get_or rooted j 0) ≤ last g.net
      within zero h = let w = used.is_gate.within in omega arith
      within (suc zero) h = omega arith
      within (suc (suc j)) h = absurd (omega arith)

      same : (v : ℕ) → IsGate g.net v → ¬ Marked ms v → get_or (marks (over g.net rooted)) v false ≡ get_or (marks g) v false
      same v i n =
          let a = marked_iff (over g.net rooted) (over_lawful g ok rooted within) v in let b = marked_iff g ok v in
          same_tests _ _ (λ m. b.1 (rooted_used v (a.0 m) (let h = i.above in omega arith)))
          (λ m. a.1 (⊎_elim (λ x. absurd (n ((past.marks_are v i).1 x))) (λ x. x) (used_rooted v (b.0 m))))

-- the gain, from what goes with the root and what the proposal's literals reach without a mark
pub weighed_gain : (g : Graph) (root : ℕ) (ms : List Bool) (going : ℕ) → Weighed g root ms going → (p : Proposal) → Wires root p
    → positive (gain g root p) ≡ going - (new_gates p + held_from g.net ms (literals p))
weighed_gain g root ms going w p wires =
    let held = held_literals g w.lawful root w.used.is_gate ms w.past p in
    ap positive (gain_law g w.lawful root w.used p wires)
    ∙ positive_difference (vanishing g root) (new_gates p + held_back g root p)
    ∙ rw (w.going_is, held)

pub new_most : (p : Proposal) → new_gates p ≤ 1
unfolding new_gates
new_most p = go (eqb p.kind 0)
  where
    go : (b : Bool) → cond {A = ℕ} b 0 1 ≤ 1
    go true = omega arith
    go false = omega arith

-- ---- which gates are marked afterwards

module _ (g : Graph) (ok : Lawful g) (root : ℕ) (used : InUse g root) (p : Proposal) (wires : Wires root p) where
  -- those reached through no reference to the root, those that the proposal's literals reach, and in kind 1 the root
  pub kept_iff : (v : ℕ) → IsGate g.net v
      → (get_or (marks (rewired g root p)) v false ≡ true) ↔ (Without g root v ⊎ From g.net p v ⊎ ((v ≡ root) × (p.kind ≡ 1)))
  kept_iff v i = ⊎_elim at_root elsewhere (equal_or_not v root)
    where
      in_kind_1 : Marked (marks (rewired g root p)) root ↔ (p.kind ≡ 1)
      in_kind_1 = root_kept g ok root used.is_gate p wires used.is_reached

      at_root : v ≡ root → Marked (marks (rewired g root p)) v ↔ (Without g root v ⊎ From g.net p v ⊎ ((v ≡ root) × (p.kind ≡ 1)))
      at_root e = (
        λ m. inr (inr (e, in_kind_1.0 (subst (Marked (marks (rewired g root p))) e m))),
        λ b. ⊎_elim (λ x. absurd (without_not_root g root v x e)) (λ c. ⊎_elim
            (λ x. absurd (let l = from_below g root p ok (named_below g root used.is_gate p wires) v x in omega arith))
            (λ x. subst (Marked (marks (rewired g root p))) (sym e) (in_kind_1.1 x.1)) c) b,
      )

      elsewhere : ¬ (v ≡ root)
          → Marked (marks (rewired g root p)) v ↔ (Without g root v ⊎ From g.net p v ⊎ ((v ≡ root) × (p.kind ≡ 1)))
      elsewhere n =
          let z : 0 < v = let h = i.above in omega arith in
          let mark = marked_iff (rewired g root p) (rewired_lawful g ok root used.is_gate p wires) v in
          let s = rewired_reached g root used.is_gate p wires ok used.is_reached v z n in (
            λ m. ⊎_elim inl (λ x. inr (inl x)) (s.0 (mark.0 m)),
            λ b. mark.1 (s.1 (⊎_elim inl (λ c. ⊎_elim inr (λ x. absurd (n x.0)) c) b)),
          )
