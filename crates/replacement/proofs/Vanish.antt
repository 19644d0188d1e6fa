-- What goes with a root and what a proposal holds back, and R of the rewired graph by these.
-- Assumes nothing.
use mathlib.Core.Path.{◌≡◌, refl, sym, ap, ◌∙◌, subst}
use mathlib.Core.Bool.{Bool, true, false, cond, false≢true}
use mathlib.Core.List.{List, [], ◌∷◌}
use mathlib.Core.Logic.{◌⊎◌, inl, inr, ⊎_elim, ◌↔◌}
use Prim.Native.Nat.{ℕ, suc, ◌+◌, ◌<◌}
use native.Mathlib.Nat.{le_refl}
use native.Mathlib.Omega.{arith}
use lib.ListN.{length, get_or, set}
use lib.Seq.{get_or-set_same, get_or-set_other}
use Rattle.graph.specs.Lists.{gather, keep}
use Rattle.graph.specs.Graph.{Graph, over, free, size, IsGate, Lawful}
use Rattle.graph.specs.Use.{Reached, as_output, marks, count_marks, used_gates}
use Rattle.graph.proofs.Lists.{true_or_false, equal_or_not, same_tests}
use Rattle.graph.proofs.Graph.{over_lawful}
use Rattle.graph.proofs.Marks.{Marked}
use Rattle.graph.proofs.Use.{marked_reached, reached_marked, marked_iff}
use Rattle.replacement.specs.declared.types.Proposal.{Proposal}
use Rattle.replacement.specs.Proposal.{literal}
use Rattle.replacement.specs.Rewire.{Wires, to_literal, to_and, rewired}
use Rattle.replacement.specs.Vanish.{
  Without,
  by_output,
  by_first,
  by_second,
  literals,
  From,
  new_gates,
  marks_without,
  vanishing,
  held_from,
  held_back,
}
use Rattle.replacement.proofs.Rewire.{rewired_size, rewired_free, rewired_lawful}
use Rattle.replacement.proofs.Reach.{
  Named,
  named_either,
  by_fanin,
  without_not_root,
  by_from,
  from_below,
  named_below,
  without_rewired,
  rewired_beside,
  root_unreached,
  root_reached,
  rewired_reached,
}
use Rattle.replacement.proofs.Counts.{apart, counted, apart_same, but_root, same_count, marks_length}
use Rattle.replacement.proofs.Past.{without_is}

module _ (p : Proposal) where
  new_literal : p.kind ≡ 0 → new_gates p ≡ 0
  unfolding new_gates
  new_literal e = rw e

  pub new_and : p.kind ≡ 1 → new_gates p ≡ 1
  unfolding new_gates
  new_and e = rw e

-- ---- the marks without the root

not_marked : (ms : List Bool) (v : ℕ) → ¬ Marked ms v → get_or ms v false ≡ false
not_marked ms v n = ⊎_elim (λ m. absurd (n m)) (λ m. m) (true_or_false (get_or ms v false))

module _ (g : Graph) (ok : Lawful g) (root : ℕ) (gate : IsGate g.net root) where
  nought : Wires root (literal 0)
  nought = to_literal refl (let h = gate.above in omega arith) refl

  nought_reaches : (v : ℕ) → From g.net (literal 0) v → v ≡ 0
  nought_reaches =
      by_from g root (literal 0) (λ v. v ≡ 0) (λ u n. ⊎_elim (λ e. omega arith) (λ e. omega arith) (named_either (literal 0) u n))
      (λ v u i r e f. absurd (let h = i.above in omega arith))

  -- a mark is there for what is reached through no reference to the root
  pub without_iff : (v : ℕ) → IsGate g.net v → Marked (marks_without g root) v ↔ Without g root v
  without_iff v i = rw (← without_is g ok root gate) (
    λ m. let r = marked_reached (rewired g root (literal 0)) v m in
        ⊎_elim (λ x. x) (λ x. absurd (let e = nought_reaches v x in let h = i.above in omega arith))
        (rewired_beside g root gate (literal 0) nought v r (root_unreached g root gate (literal 0) nought refl v r)),
    λ x. reached_marked (rewired g root (literal 0)) (rewired_lawful g ok root gate (literal 0) nought) v
        (without_rewired g root gate (literal 0) v x),
  )

  without_used : (v : ℕ) → Without g root v → Reached g v
  without_used v (by_output j h n) = as_output j h
  without_used v (by_first {v = u} i r n) = by_fanin g u _ i (without_used u r) (inl refl)
  without_used v (by_second {v = u} i r n) = by_fanin g u _ i (without_used u r) (inr refl)

  -- R is what is marked without the root, and what goes with it
  used_gates_split : used_gates g ≡ count_marks g.net (marks_without g root) (size g.net) + vanishing g root
  unfolding used_gates vanishing
  used_gates_split = apart g.net (marks g) (marks_without g root)
      (λ v i m. reached_marked g ok v (without_used v ((without_iff v i).0 m))) (size g.net) (le_refl _)

  -- ---- R afterwards

  literals_lawful : (p : Proposal) → ((u : ℕ) → Named p u → u < root) → Lawful (over g.net (literals p))
  literals_lawful p low = over_lawful g ok (literals p)
      (λ j h. let l = low _ (record { place = j; within = h; names = refl }) in let w = gate.within in omega arith)

  module _ (p : Proposal) (wires : Wires root p) (used : Reached g root) where
    lawful : Lawful (rewired g root p)
    lawful = rewired_lawful g ok root gate p wires

    -- in kind 1 the root has a mark afterwards
    pub root_kept : Marked (marks (rewired g root p)) root ↔ (p.kind ≡ 1)
    root_kept = let mark = marked_iff (rewired g root p) lawful root in go mark wires
      where
        go : Marked (marks (rewired g root p)) root ↔ Reached (rewired g root p) root → Wires root p
            → Marked (marks (rewired g root p)) root ↔ (p.kind ≡ 1)
        go mark (to_literal k l s) =
            (λ m. absurd (root_unreached g root gate p wires k root (mark.0 m) refl), λ e. absurd (omega arith))
        go mark (to_and k l m t) = (λ _. k, λ _. mark.1 (root_reached g root gate p wires ok used k t))

    root_mark : cond (get_or (marks (rewired g root p)) root false) 1 0 ≡ new_gates p
    root_mark = go wires
      where
        go : Wires root p → cond (get_or (marks (rewired g root p)) root false) 1 0 ≡ new_gates p
        go (to_literal k l s) =
            let off = not_marked (marks (rewired g root p)) root (λ m. let e = root_kept.0 m in omega arith) in
            ap (λ (b : Bool). cond {A = ℕ} b 1 0) off ∙ sym (new_literal p k)
        go (to_and k l m t) = ap (λ (b : Bool). cond {A = ℕ} b 1 0) (root_kept.1 k) ∙ sym (new_and p k)

    rewired_uses : used_gates (rewired g root p) ≡ count_marks g.net (marks (rewired g root p)) (size g.net)
    unfolding used_gates
    rewired_uses =
        let f : free (rewired g root p).net ≡ free g.net = unfold rewired in rewired_free g.net root p in
        let s : size (rewired g root p).net ≡ size g.net = unfold rewired in rewired_size g.net root p in
        same_count (rewired g root p).net g.net (marks (rewired g root p)) f (size (rewired g root p).net)
        ∙ ap (count_marks g.net (marks (rewired g root p))) s

    -- the marks afterwards, without the root's
    others : List Bool
    others = set (marks (rewired g root p)) root false

    others_root : get_or others root false ≡ false
    unfolding others rewired
    others_root = get_or-set_same (marks (rewired g root p)) root false false (omega (
      arith,
      gate.within,
      marks_length (rewired g root p),
      rewired_free g.net root p,
      rewired_size g.net root p,
    ))

    -- are those of what is reached through no reference to the root, or from the proposal's literals
    others_iff : (v : ℕ) → IsGate g.net v → Marked others v ↔ (Without g root v ⊎ From g.net p v)
    unfolding others
    others_iff v i = ⊎_elim
        (λ e. (
          λ m. absurd (false≢true (sym others_root ∙ subst (Marked others) e m)),
          λ b. absurd (⊎_elim (λ x. without_not_root g root v x e)
              (λ x. let l = from_below g root p ok (named_below g root gate p wires) v x in omega arith) b),
        ))
        (λ n.
        let same = get_or-set_other (marks (rewired g root p)) root v false false n in
        let mark = marked_iff (rewired g root p) lawful v in
        let s = rewired_reached g root gate p wires ok used v (let h = i.above in omega arith) n in
        (λ m. s.0 (mark.0 (sym same ∙ m)), λ b. same ∙ mark.1 (s.1 b)))
        (equal_or_not v root)

    -- so besides the marks without the root they are those of what is held back
    others_split : count_marks g.net others (size g.net)
        ≡ count_marks g.net (marks_without g root) (size g.net) + held_back g root p
    unfolding held_back held_from
    others_split =
        apart g.net others (marks_without g root) (λ v i m. (others_iff v i).1 (inl ((without_iff v i).0 m))) (size g.net) (le_refl _)
        ∙ ap (λ (n : ℕ). count_marks g.net (marks_without g root) (size g.net) + n)
        (apart_same g.net others (marks_without g root) (marks (over g.net (literals p))) (marks_without g root) (λ v i. refl)
        (λ v i n. let mark = marked_iff (over g.net (literals p)) (literals_lawful p (named_below g root gate p wires)) v in
        same_tests _ _
        (λ m. mark.1 (⊎_elim (λ x. absurd (n ((without_iff v i).1 x))) (λ x. x) ((others_iff v i).0 m)))
        (λ m. (others_iff v i).1 (inr (mark.0 m)))) (size g.net) (le_refl _))

    -- what is marked without the root, what is held back, and the gates that the proposal puts there
    pub rewired_balance : used_gates (rewired g root p) + vanishing g root ≡ used_gates g + (new_gates p + held_back g root p)
    rewired_balance = omega (
      arith,
      used_gates_split,
      rewired_uses,
      but_root g.net (marks (rewired g root p)) others root gate
          (λ v i n. unfold others in sym (get_or-set_other (marks (rewired g root p)) root v false false n)) others_root,
      root_mark,
      others_split,
    )

  -- ---- what the two numbers count: the gates at which any test passes that decides just this

  module _ (test : ℕ → Bool) where
    pub vanishing_counts : ((v : ℕ) → IsGate g.net v → (test v ≡ true) ↔ (Reached g v × (¬ Without g root v)))
        → vanishing g root ≡ length (keep test (gather (λ k. suc (free g.net + k) ∷ []) (size g.net)))
    unfolding vanishing
    vanishing_counts t = counted g.net (marks g) (marks_without g root) test
        (λ v i. let x = without_iff v i in let m = marked_iff g ok v in (
          λ e. let r = (t v i).0 e in (m.1 r.0, λ n. r.1 (x.0 n)),
          λ r. (t v i).1 (m.0 r.0, λ n. r.1 (x.1 n)),
        ))

    pub held_back_counts : (p : Proposal) → ((u : ℕ) → Named p u → u < root)
        → ((v : ℕ) → IsGate g.net v → (test v ≡ true) ↔ (From g.net p v × (¬ Without g root v)))
        → held_back g root p ≡ length (keep test (gather (λ k. suc (free g.net + k) ∷ []) (size g.net)))
    unfolding held_back held_from
    held_back_counts p low t = counted g.net (marks (over g.net (literals p))) (marks_without g root) test
        (λ v i. let x = without_iff v i in let m = marked_iff (over g.net (literals p)) (literals_lawful p low) v in (
          λ e. let r = (t v i).0 e in (m.1 r.0, λ n. r.1 (x.0 n)),
          λ r. (t v i).1 (m.0 r.0, λ n. r.1 (x.1 n)),
        ))
