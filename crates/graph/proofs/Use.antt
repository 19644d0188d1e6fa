-- A gate's mark is set if and only if an output reaches it through fanins; R counts the reached gates.
-- Assumes nothing.
use mathlib.Core.Path.{◌≡◌, refl, sym, ap, ap₂, ◌∙◌, subst}
use mathlib.Core.Bool.{Bool, true, false, cond, false≢true}
use mathlib.Core.List.{List, [], ◌∷◌}
use mathlib.Core.Logic.{⊎_elim, ◌↔◌}
use Prim.Native.Nat.{ℕ, zero, suc, ◌+◌, ◌≤◌, ◌<◌}
use native.Mathlib.Nat.{le_refl}
use native.Mathlib.Omega.{arith}
use borrow.Author.Tests.{leb-true, ltb-true, le-leb, lt-ltb}
use lib.Dec.{leb, ltb}
use lib.ListN.{length, get_or, replicate, length-append, length-replicate}
use Rattle.graph.specs.Lists.{gather, keep}
use Rattle.graph.specs.Literal.{var_of}
use Rattle.graph.specs.Graph.{Graph, free, size, last, sinks, first, second, IsGate, Lawful}
use Rattle.graph.specs.Use.{
  Reached,
  as_output,
  as_first,
  as_second,
  InUse,
  mark_each,
  mark_fanins,
  mark_down,
  marks_over,
  marks,
  in_use,
  count_marks,
  used_gates,
}
use Rattle.graph.proofs.Lists.{at_most_or_above, and_left, and_right, and_both, same_tests, keep_append, kept_one}
use Rattle.graph.proofs.Marks.{
  Marked,
  each_length,
  each_marks,
  each_only,
  fanins_length,
  fanins_keep,
  first_marked,
  second_marked,
  fanins_only,
}

pub none_marked : (n v : ℕ) → ¬ Marked (replicate n false) v
none_marked zero v m = false≢true m
none_marked (suc n) zero m = false≢true m
none_marked (suc n) (suc v) m = none_marked n v m

module _ (g : Graph) where
  -- the k-th gate's variable
  var : ℕ → ℕ
  var k = suc (free g.net + k)

  var_gate : (k : ℕ) → k < size g.net → IsGate g.net (var k)
  unfolding var
  var_gate k h = record { above = omega arith; within = omega arith }

  -- ---- a mark means that the variable is reached

  Sound : List Bool → Type 0
  Sound ms = (v : ℕ) → Marked ms v → Reached g v

  outputs_sound : (n : ℕ) → Sound (mark_each (sinks g) (replicate n false))
  unfolding Sound
  outputs_sound n v m = ⊎_elim
      (λ k. subst (Reached g) k.names (as_output k.place k.within))
      (λ k. absurd (none_marked n v k)) (each_only (sinks g) (replicate n false) v m)

  fanins_sound : (v : ℕ) (ms : List Bool) → IsGate g.net v → Sound ms → Sound (mark_fanins g.net v ms)
  unfolding Sound
  fanins_sound v ms i s u m = ⊎_elim
      (λ k. s u k)
      (λ k. ⊎_elim (λ e. subst (Reached g) e (as_first i (s v k.0))) (λ e. subst (Reached g) e (as_second i (s v k.0))) k.1)
      (fanins_only g.net v ms u m)

  down_sound : (k : ℕ) (ms : List Bool) → k ≤ size g.net → Sound ms → Sound (mark_down g.net k ms)
  unfolding mark_down var
  down_sound zero ms h s = s
  down_sound (suc k) ms h s = down_sound k (mark_fanins g.net (var k) ms) (omega arith) (fanins_sound (var k) ms (var_gate k h) s)

  marked_sound : (n : ℕ) → Sound (marks_over n g)
  unfolding marks_over
  marked_sound n = down_sound (size g.net) _ (le_refl _) (outputs_sound n)

  pub marked_reached : (v : ℕ) → Marked (marks g) v → Reached g v
  unfolding marks Sound
  marked_reached v m = marked_sound (suc (last g.net)) v m

  pub down_keeps : (k : ℕ) (ms : List Bool) (u : ℕ) → Marked ms u → Marked (mark_down g.net k ms) u
  unfolding mark_down
  down_keeps zero ms u m = m
  down_keeps (suc k) ms u m = down_keeps k _ u (fanins_keep g.net _ ms u m)

  -- ---- a reached variable is marked: fanins are lower, so one pass from the highest gate down meets each gate after all that name it

  module _ (ok : Lawful g) where
    pub first_lower : (v : ℕ) → IsGate g.net v → var_of (first g.net v) < v
    first_lower v i = let b = ok.below v i in omega arith

    pub second_lower : (v : ℕ) → IsGate g.net v → var_of (second g.net v) < v
    second_lower v i = let b = ok.below v i in let o = ok.ordered v i in omega arith

    -- the pass over the gates up to the k-th marks nothing above them
    pub down_low : (k : ℕ) (ms : List Bool) (u : ℕ) → k ≤ size g.net → free g.net + k ≤ u → Marked (mark_down g.net k ms) u
        → Marked ms u
    unfolding mark_down var
    down_low zero ms u h l m = m
    down_low (suc k) ms u h l m = ⊎_elim
        (λ s. s)
        (λ s. absurd (⊎_elim
        (λ e. let f = first_lower (var k) (var_gate k h) in omega arith)
        (λ e. let f = second_lower (var k) (var_gate k h) in omega arith) s.1))
        (fanins_only g.net (var k) ms u (down_low k _ u (omega arith) (omega arith) m))

    -- afterwards the fanins of each marked gate are marked
    pub down_closed : (k : ℕ) (ms : List Bool) → k ≤ size g.net → last g.net < length ms → (v : ℕ) → free g.net < v
        → v ≤ free g.net + k
        → Marked (mark_down g.net k ms) v
        → Marked (mark_down g.net k ms) (var_of (first g.net v)) × Marked (mark_down g.net k ms) (var_of (second g.net v))
    unfolding mark_down var
    down_closed zero ms h b v l t m = absurd (omega arith)
    down_closed (suc k) ms h b v l t m = ⊎_elim
        (λ q. down_closed k _ (omega arith) (omega (arith, fanins_length g.net (var k) ms)) v l q m)
        (λ q.
        let e : var k ≡ v = omega arith in
        let i = subst (IsGate g.net) e (var_gate k h) in
        let n : Marked ms v =
        ⊎_elim (λ s. s) (λ s. subst (Marked ms) e s.0)
        (fanins_only g.net (var k) ms v (down_low k _ v (omega arith) (omega arith) m)) in
        let f = first_lower v i in
        let s = second_lower v i in
        let w = i.within in
        let after : (u : ℕ) → Marked (mark_fanins g.net v ms) u → Marked (mark_down g.net k (mark_fanins g.net (var k) ms)) u =
        λ u p. down_keeps k _ u (subst (λ (x : ℕ). Marked (mark_fanins g.net x ms) u) (sym e) p) in
        (after _ (first_marked g.net v ms n (omega arith)), after _ (second_marked g.net v ms n (omega arith))))
        (at_most_or_above v (free g.net + k))

    -- in a list with places for all variables
    module _ (n : ℕ) (room : last g.net < n) where
      fanins_have_marks : (v : ℕ) → IsGate g.net v → Marked (marks_over n g) v
          → Marked (marks_over n g) (var_of (first g.net v)) × Marked (marks_over n g) (var_of (second g.net v))
      unfolding marks_over
      fanins_have_marks v i m =
          down_closed (size g.net) _ (le_refl _) (omega (arith, each_length (sinks g) (replicate n false), length-replicate n false)) v
          i.above i.within m

      output_has_mark : (j : ℕ) → j < length (sinks g) → Marked (marks_over n g) (var_of (get_or (sinks g) j 0))
      unfolding marks_over
      output_has_mark j h =
          let b = ok.sinks_within j h in
          down_keeps (size g.net) _ _ (each_marks (sinks g) _ j h (omega (arith, length-replicate n false)))

      reached_has_mark : (v : ℕ) → Reached g v → Marked (marks_over n g) v
      reached_has_mark v (as_output j h) = output_has_mark j h
      reached_has_mark v (as_first {v = u} i r) = (fanins_have_marks u i (reached_has_mark u r)).0
      reached_has_mark v (as_second {v = u} i r) = (fanins_have_marks u i (reached_has_mark u r)).1

    pub fanins_are_marked : (v : ℕ) → IsGate g.net v → Marked (marks g) v
        → Marked (marks g) (var_of (first g.net v)) × Marked (marks g) (var_of (second g.net v))
    unfolding marks
    fanins_are_marked = fanins_have_marks (suc (last g.net)) (le_refl _)

    pub reached_marked : (v : ℕ) → Reached g v → Marked (marks g) v
    unfolding marks
    reached_marked = reached_has_mark (suc (last g.net)) (le_refl _)

    -- a longer list holds the same marks
    pub marks_longer : (n : ℕ) → last g.net < n → (v : ℕ) → get_or (marks_over n g) v false ≡ get_or (marks g) v false
    unfolding Sound
    marks_longer n room v =
        same_tests _ _ (λ m. reached_marked v (marked_sound n v m)) (λ m. reached_has_mark n room v (marked_reached v m))

    pub reached_within : (v : ℕ) → Reached g v → v ≤ last g.net
    reached_within v (as_output j h) = let b = ok.sinks_within j h in omega arith
    reached_within v (as_first {v = u} i r) = let b = ok.below u i in let w = i.within in omega arith
    reached_within v (as_second {v = u} i r) = let b = ok.below u i in let o = ok.ordered u i in let w = i.within in omega arith

    pub marked_iff : (v : ℕ) → Marked (marks g) v ↔ Reached g v
    marked_iff v = (marked_reached v, reached_marked v)

    pub in_use_iff : (v : ℕ) → (in_use g v ≡ true) ↔ InUse g v
    unfolding in_use
    in_use_iff v = (
      λ e.
          let h = and_right (ltb (free g.net) v) _ e in
          record {
            is_gate = record {
              above = ltb-true (free g.net) v (and_left (ltb (free g.net) v) _ e);
              within = leb-true v (last g.net) (and_left (leb v (last g.net)) _ h);
            };
            is_reached = marked_reached v (and_right (leb v (last g.net)) _ h);
          },
      λ u.
          and_both _ _ (lt-ltb (free g.net) v u.is_gate.above)
          (and_both _ _ (le-leb v (last g.net) u.is_gate.within) (reached_marked v u.is_reached)),
    )

-- R is how many gates a test finds that passes just at the reached ones
pub used_gates_reached : (g : Graph) → Lawful g → (test : ℕ → Bool) → ((v : ℕ) → IsGate g.net v → (test v ≡ true) ↔ Reached g v)
    → used_gates g ≡ length (keep test (gather (λ k. suc (free g.net + k) ∷ []) (size g.net)))
unfolding used_gates count_marks gather keep
used_gates_reached g ok test t = go (size g.net) (le_refl _)
  where
    same : (k : ℕ) → k < size g.net → get_or (marks g) (suc (free g.net + k)) false ≡ test (suc (free g.net + k))
    same k h = let v = suc (free g.net + k) in let i = t v (record { above = omega arith; within = omega arith }) in
        same_tests _ _ (λ m. i.1 (marked_reached g v m)) (λ p. reached_marked g ok v (i.0 p))

    go : (k : ℕ) → k ≤ size g.net → count_marks g.net (marks g) k ≡ length (keep test (gather (λ j. suc (free g.net + j) ∷ []) k))
    go zero h = refl
    go (suc k) h =
        ap₂ ◌+◌ (go k (omega arith)) (ap (λ (b : Bool). cond b 1 0) (same k h) ∙ sym (kept_one test (suc (free g.net + k))))
        ∙ sym (length-append (keep test (gather (λ j. suc (free g.net + j) ∷ []) k)) (keep test (suc (free g.net + k) ∷ [])))
        ∙ ap length (sym (keep_append test (gather (λ j. suc (free g.net + j) ∷ []) k) (suc (free g.net + k) ∷ [])))
