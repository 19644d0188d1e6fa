-- The marks of a pass that stops after the root, takes the root's mark off and goes on below it: those of what outputs reach through
-- no reference to the root.
-- Assumes nothing.
use mathlib.Core.Path.{◌≡◌, refl, sym, ◌∙◌, subst}
use mathlib.Core.Bool.{Bool, false, false≢true}
use mathlib.Core.List.{List}
use mathlib.Core.Logic.{◌⊎◌, inl, inr, ⊎_elim}
use Prim.Native.Nat.{ℕ, zero, suc, ◌+◌, ◌-◌, ◌≤◌, ◌<◌}
use native.Mathlib.Omega.{arith}
use lib.ListN.{length, set, replicate, length-replicate, length-set}
use lib.Seq.{get_or-set_same, get_or-set_other}
use Rattle.graph.specs.Graph.{Net, Graph, free, size, last, sinks, IsGate, Lawful}
use Rattle.graph.specs.Use.{mark_each, mark_fanins}
use Rattle.graph.proofs.Lists.{at_most_or_above, equal_or_not}
use Rattle.graph.proofs.Marks.{
  Marked,
  each_length,
  each_marks,
  each_only,
  fanins_length,
  fanins_keep,
  first_marked,
  second_marked,
  fanins_only,
}
use Rattle.graph.proofs.Use.{none_marked}
use Rattle.checker.specs.Marks.{mark_after}
use Rattle.replacement.specs.Vanish.{Without, by_output, by_first, by_second, MarksPast}
use Rattle.replacement.proofs.Reach.{Fanin, fanin_lower, without_fanin, without_not_root}

-- ---- a pass over the n gates after the k-th

module _ (net : Net) (k : ℕ) where
  pub after_length : (n : ℕ) (ms : List Bool) → length (mark_after net k n ms) ≡ length ms
  unfolding mark_after
  after_length zero ms = refl
  after_length (suc n) ms = after_length n _ ∙ fanins_length net _ ms

  after_keeps : (n : ℕ) (ms : List Bool) (u : ℕ) → Marked ms u → Marked (mark_after net k n ms) u
  unfolding mark_after
  after_keeps zero ms u m = m
  after_keeps (suc n) ms u m = after_keeps n _ u (fanins_keep net _ ms u m)

  -- what holds of the marks, and of a gate's fanins where it holds of the gate, holds of the marks afterwards
  after_only : (Q : ℕ → Type 0) (n : ℕ) (ms : List Bool) → k + n ≤ size net
      → ((v u : ℕ) → IsGate net v → free net + k < v → v ≤ free net + (k + n) → Q v → Fanin net v u → Q u)
      → ((v : ℕ) → Marked ms v → Q v) → (v : ℕ) → Marked (mark_after net k n ms) v → Q v
  unfolding mark_after
  after_only Q zero ms h closed start v m = start v m
  after_only Q (suc n) ms h closed start v m =
      let top = suc (free net + (k + n)) in
      after_only Q n (mark_fanins net top ms) (omega arith) (λ t u i l b. closed t u i l (omega arith))
      (λ u x. ⊎_elim (λ s. start u s)
      (λ s. closed top u (record { above = omega arith; within = omega arith }) (omega arith) (omega arith) (start top s.0) s.1)
      (fanins_only net top ms u x)) v m

module _ (g : Graph) (ok : Lawful g) (k : ℕ) where
  -- nothing is marked from the highest of the gates up: fanins are lower
  after_low : (n : ℕ) (ms : List Bool) → k + n ≤ size g.net → (u : ℕ) → free g.net + (k + n) ≤ u
      → Marked (mark_after g.net k n ms) u → Marked ms u
  after_low n ms h u l m = ⊎_elim (λ b. absurd (omega arith)) (λ s. s)
      (after_only g.net k (λ v. (v < free g.net + (k + n)) ⊎ Marked ms v) n ms h
      (λ v t i a b q f. let d = fanin_lower g ok v t i f in inl (omega arith)) (λ v s. inr s) u m)

  -- afterwards the fanins of each of the gates that is marked are marked
  after_closed : (n : ℕ) (ms : List Bool) → k + n ≤ size g.net → last g.net < length ms → (v u : ℕ) → free g.net + k < v
      → v ≤ free g.net + (k + n) → Fanin g.net v u → Marked (mark_after g.net k n ms) v → Marked (mark_after g.net k n ms) u
  unfolding mark_after
  after_closed zero ms h b v u l t f m = absurd (omega arith)
  after_closed (suc n) ms h b v u l t f m = ⊎_elim
      (λ q. after_closed n (mark_fanins g.net top ms) (omega arith) (omega (arith, fanins_length g.net top ms)) v u l q f m)
      (λ q.
      let e : v ≡ top = omega arith in
      let after = subst (Marked (mark_after g.net k n (mark_fanins g.net top ms))) e m in
      let before = after_low n (mark_fanins g.net top ms) (omega arith) top (omega arith) after in
      after_keeps g.net k n (mark_fanins g.net top ms) u
      (of_top u (subst (λ (x : ℕ). Fanin g.net x u) e f) (⊎_elim (λ s. s) (λ s. s.0) (fanins_only g.net top ms top before))))
      (at_most_or_above v (free g.net + (k + n)))
    where
      top : ℕ
      top = suc (free g.net + (k + n))

      of_top : (u : ℕ) → Fanin g.net top u → Marked ms top → Marked (mark_fanins g.net top ms) u
      of_top u f m =
          let d : u < top = fanin_lower g ok top u (record { above = omega arith; within = omega arith }) f in ⊎_elim
          (λ e. subst (Marked (mark_fanins g.net top ms)) e (first_marked g.net top ms m (omega arith)))
          (λ e. subst (Marked (mark_fanins g.net top ms)) e (second_marked g.net top ms m (omega arith))) f

-- ---- past the root

module _ (g : Graph) (ok : Lawful g) (root : ℕ) (gate : IsGate g.net root) (n : ℕ) (room : last g.net < n) where
  -- the root's number among the gates
  place : ℕ
  place = root - free g.net

  -- the marks of the outputs, after the pass down to the root, without the root's, and after the pass below it
  outs : List Bool
  outs = mark_each (sinks g) (replicate n false)

  high : List Bool
  high = mark_after g.net place (size g.net - place) outs

  cut : List Bool
  cut = set high root false

  low : List Bool
  low = mark_after g.net 0 (place - 1 - 0) cut

  outs_long : length outs ≡ n
  unfolding outs
  outs_long = each_length (sinks g) _ ∙ length-replicate n false

  high_long : length high ≡ n
  unfolding high
  high_long = after_length g.net place (size g.net - place) outs ∙ outs_long

  -- a mark of the first pass is the root's or is past the root: of its gates none is the root
  high_only : (v : ℕ) → Marked high v → (v ≡ root) ⊎ Without g root v
  unfolding high place outs
  high_only = let a = gate.above in let b = gate.within in
      after_only g.net place (λ v. (v ≡ root) ⊎ Without g root v) (size g.net - place) outs (omega arith)
      (λ v u i l t q f. ⊎_elim (λ e. absurd (omega arith))
      (λ x. ⊎_elim inl (λ m. inr (without_fanin g root v u i x m f)) (equal_or_not u root)) q)
      (λ v m. ⊎_elim
      (λ k. ⊎_elim inl (λ x. inr (subst (Without g root) k.names (by_output k.place k.within (λ e. x (sym k.names ∙ e)))))
      (equal_or_not v root))
      (λ s. absurd (none_marked n v s)) (each_only (sinks g) (replicate n false) v m))

  cut_only : (v : ℕ) → Marked cut v → Without g root v
  unfolding cut
  cut_only v m = let b = gate.within in ⊎_elim
      (λ e. absurd (false≢true (sym (get_or-set_same high root false false (omega (arith, high_long)))
      ∙ subst (Marked (set high root false)) e m)))
      (λ x. ⊎_elim (λ e. absurd (x e)) (λ w. w) (high_only v (sym (get_or-set_other high root v false false x) ∙ m)))
      (equal_or_not v root)

  -- below the root nothing refers to it
  low_only : (v : ℕ) → Marked low v → Without g root v
  unfolding low place
  low_only = let a = gate.above in let b = gate.within in
      after_only g.net 0 (Without g root) (place - 1 - 0) cut (omega arith)
      (λ v u i l t q f. let d = fanin_lower g ok v u i f in without_fanin g root v u i q (λ e. omega arith) f) cut_only

  -- a mark that is not the root's stays
  high_stays : (v : ℕ) → ¬ (v ≡ root) → Marked high v → Marked low v
  unfolding low cut
  high_stays v x m = after_keeps g.net 0 (place - 1 - 0) _ v (get_or-set_other high root v false false x ∙ m)

  -- above the root the second pass marks nothing
  above_root : (v : ℕ) → root < v → Marked low v → Marked high v
  unfolding low cut place
  above_root v l m = let a = gate.above in let b = gate.within in
      sym (get_or-set_other high root v false false (λ e. omega arith))
      ∙ after_low g ok 0 (place - 1 - 0) cut (omega arith) v (omega arith) m

  high_closed : (v u : ℕ) → IsGate g.net v → root < v → Fanin g.net v u → Marked high v → Marked high u
  unfolding high place
  high_closed v u i l = let a = gate.above in let b = gate.within in let c = i.within in
      after_closed g ok place (size g.net - place) outs (omega arith) (omega (arith, outs_long)) v u (omega arith) (omega arith)

  below_closed : (v u : ℕ) → IsGate g.net v → v < root → Fanin g.net v u → Marked low v → Marked low u
  unfolding low cut place
  below_closed v u i l = let a = gate.above in let b = gate.within in let c = i.above in
      after_closed g ok 0 (place - 1 - 0) cut (omega arith) (omega (arith, length-set high root false, high_long)) v u (omega arith)
      (omega arith)

  -- so a marked gate's fanins are marked, wherever the root is not among them
  low_closed : (v u : ℕ) → IsGate g.net v → ¬ (v ≡ root) → ¬ (u ≡ root) → Fanin g.net v u → Marked low v → Marked low u
  low_closed v u i x y f m = ⊎_elim
      (λ l. below_closed v u i l f m)
      (λ l. ⊎_elim (λ t. absurd (x (omega arith))) (λ t. high_stays u y (high_closed v u i t f (above_root v t m)))
      (at_most_or_above v root)) (at_most_or_above (suc v) root)

  low_has : (v : ℕ) → Without g root v → Marked low v
  unfolding high outs
  low_has v (by_output j h x) =
      let b = ok.sinks_within j h in
      high_stays v x (after_keeps g.net place (size g.net - place) outs _
      (each_marks (sinks g) _ j h (omega (arith, length-replicate n false))))
  low_has v (by_first {v = u} i r x) = low_closed u v i (without_not_root g root u r) x (inl refl) (low_has u r)
  low_has v (by_second {v = u} i r x) = low_closed u v i (without_not_root g root u r) x (inr refl) (low_has u r)

  -- the code's steps, in order
  pub past_root : {from : ℕ} {before marked above off done : List Bool} → from ≡ root → before ≡ replicate n false
      → marked ≡ mark_each (sinks g) before
      → above ≡ mark_after g.net (from - free g.net) (size g.net - (from - free g.net)) marked
      → off ≡ set above root false
      → done ≡ mark_after g.net 0 (from - free g.net - 1 - 0) off
      → MarksPast g root done
  unfolding low cut high outs place
  past_root e b o h c d = record { marks_are = λ v i. rw (d, c, h, o, b, e) (low_only v, low_has v) }
