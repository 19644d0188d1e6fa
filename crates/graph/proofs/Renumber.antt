-- Renumbering by marks: where each marked gate goes, in which order, and that every number is taken.
-- Assumes nothing.
use mathlib.Core.Path.{◌≡◌, refl, sym, ap, ◌∙◌, subst}
use mathlib.Core.Bool.{Bool, false}
use mathlib.Core.List.{List, [], ◌∷◌}
use mathlib.Core.Logic.{⊎_elim}
use Prim.Native.Nat.{ℕ, zero, suc, ◌+◌, ◌-◌, ◌*◌, ◌≤◌, ◌<◌}
use native.Mathlib.Nat.{le_refl, le_trans}
use native.Mathlib.Omega.{arith}
use borrow.Author.Tests.{le-leb, lt-leb}
use lib.ListN.{length, get_or, length-append}
use Rattle.graph.specs.Lists.{gather}
use Rattle.graph.specs.Literal.{var_of}
use Rattle.graph.specs.Graph.{Net, free, size, last, first, second, IsGate}
use Rattle.graph.specs.Use.{count_marks}
use Rattle.graph.specs.Drop.{new_number, renumbered, kept_gate, kept_net}
use Rattle.graph.proofs.Lists.{at_most_or_above, true_or_false}
use Rattle.graph.proofs.Gather.{gather_at}
use Rattle.graph.proofs.Marks.{Marked}

module _ (net : Net) (ms : List Bool) where
  -- the k-th gate's variable, and how many of the first k gates are marked
  var : ℕ → ℕ
  var k = suc (free net + k)

  count : ℕ → ℕ
  count k = count_marks net ms k

  -- ---- counting

  count_on : (k : ℕ) → Marked ms (var k) → count (suc k) ≡ suc (count k)
  unfolding count_marks count var
  count_on k m = rw m (omega arith)

  count_off : (k : ℕ) → get_or ms (var k) false ≡ false → count (suc k) ≡ count k
  unfolding count_marks count var
  count_off k m = rw m (omega arith)

  count_more : (k : ℕ) → (count k ≤ count (suc k)) × (count (suc k) ≤ suc (count k))
  count_more k = ⊎_elim
      (λ m. (omega (arith, count_on k m), omega (arith, count_on k m)))
      (λ m. (omega (arith, count_off k m), omega (arith, count_off k m))) (true_or_false (get_or ms (var k) false))

  count_mono : (j k : ℕ) → j ≤ k → count j ≤ count k
  count_mono j zero h = let e : j ≡ 0 = omega arith in rw e (le_refl _)
  count_mono j (suc k) h = ⊎_elim
      (λ l. le_trans (count_mono j k l) (count_more k).0)
      (λ l. let e : j ≡ suc k = omega arith in rw e (le_refl _)) (at_most_or_above j k)

  pub count_most : (k : ℕ) → count_marks net ms k ≤ k
  unfolding count_marks count
  count_most zero = le_refl 0
  count_most (suc k) = let h = count_most k in let m : count (suc k) ≤ suc (count k) = (count_more k).1 in omega arith

  -- where every gate is marked all are counted
  pub count_all : (k : ℕ) → ((j : ℕ) → j < k → Marked ms (suc (free net + j))) → count_marks net ms k ≡ k
  unfolding count var
  count_all zero h = unfold count_marks in refl
  count_all (suc k) h = count_on k (h k (le_refl _)) ∙ ap suc (count_all k (λ j l. h j (omega arith)))

  -- each number below the count is a marked gate's
  count_hits : (k c : ℕ) → c < count k → (j : ℕ) × (j < k) × Marked ms (var j) × (count j ≡ c)
  unfolding count
  count_hits zero c h = absurd (unfold count_marks in omega arith)
  count_hits (suc k) c h = ⊎_elim
      (λ l. let r = count_hits k c l in (r.0, omega (arith, r.1), r.2, r.3))
      (λ l. ⊎_elim
      (λ m. (k, omega arith, m, omega (arith, count_on k m)))
      (λ m. absurd (omega (arith, count_off k m))) (true_or_false (get_or ms (var k) false)))
      (at_most_or_above (suc c) (count k))

  -- ---- new numbers

  pub number_low : (v : ℕ) → v ≤ free net → new_number net ms v ≡ v
  unfolding new_number
  number_low v h = rw (le-leb v (free net) h)

  number_high : (v : ℕ) → free net < v → new_number net ms v ≡ free net + count (v - free net)
  unfolding new_number count
  number_high v h = rw (lt-leb v (free net) h)

  number_at : (k : ℕ) → Marked ms (var k) → new_number net ms (var k) ≡ suc (free net + count k)
  unfolding var
  number_at k m =
      let e : var k - free net ≡ suc k = omega arith in
      number_high (var k) (omega arith) ∙ ap (λ (j : ℕ). free net + count j) e ∙ omega (arith, count_on k m)

  pub number_most : (v : ℕ) → v ≤ last net → new_number net ms v ≤ free net + count_marks net ms (size net)
  unfolding count
  number_most v h = ⊎_elim
      (λ l. omega (arith, number_low v l))
      (λ l. let c = count_mono (v - free net) (size net) (omega arith) in omega (arith, number_high v l)) (at_most_or_above v (free net))

  pub number_less : (u v : ℕ) → u < v → free net < v → Marked ms v → new_number net ms u < new_number net ms v
  number_less u v h l m =
      let e : var (v - suc (free net)) ≡ v = unfold var in omega arith in
      let n = number_at (v - suc (free net)) (subst (Marked ms) (sym e) m) in
      let b : new_number net ms v ≡ suc (free net + count (v - suc (free net))) =
      subst (λ (x : ℕ). new_number net ms x ≡ suc (free net + count (v - suc (free net)))) e n in
      ⊎_elim
      (λ k. omega (arith, number_low u k))
      (λ k. let c = count_mono (u - free net) (v - suc (free net)) (omega arith) in omega (arith, number_high u k))
      (at_most_or_above u (free net))

  -- where every gate is marked none has another number
  pub number_same : ((j : ℕ) → j < size net → Marked ms (suc (free net + j))) → (v : ℕ) → v ≤ last net → new_number net ms v ≡ v
  unfolding count
  number_same h v b = ⊎_elim
      (λ l. number_low v l)
      (λ l. number_high v l ∙ omega (arith, count_all (v - free net) (λ j q. h j (omega arith)))) (at_most_or_above v (free net))

  -- ---- what is left of the gates

  pieces : ℕ → List ℕ
  pieces n = gather (λ k. kept_gate net ms (var k)) n

  kept_on : (v : ℕ) → Marked ms v → kept_gate net ms v ≡ renumbered net ms (first net v) ∷ renumbered net ms (second net v) ∷ []
  unfolding kept_gate
  kept_on v m = rw m

  kept_off : (v : ℕ) → get_or ms v false ≡ false → kept_gate net ms v ≡ []
  unfolding kept_gate
  kept_off v m = rw m

  pieces_length : (n : ℕ) → length (pieces n) ≡ 2 * count n
  unfolding pieces gather
  pieces_length zero = unfold count count_marks in refl
  pieces_length (suc n) =
      length-append (pieces n) (kept_gate net ms (var n))
      ∙ ⊎_elim
      (λ m. omega (arith, ap length (kept_on (var n) m), count_on n m, pieces_length n))
      (λ m. omega (arith, ap length (kept_off (var n) m), count_off n m, pieces_length n)) (true_or_false (get_or ms (var n) false))

  pub kept_length : length (kept_net net ms).gates ≡ 2 * count_marks net ms (size net)
  unfolding kept_net pieces count var
  kept_length = pieces_length (size net)

  pub kept_size : size (kept_net net ms) ≡ count_marks net ms (size net)
  kept_size = let e = kept_length in omega arith

  -- a marked gate's words stand behind those of the marked gates before it
  kept_at : (k i : ℕ) → k < size net → i < 2 → Marked ms (var k)
      → get_or (kept_net net ms).gates (2 * count k + i) 0
      ≡ get_or (renumbered net ms (first net (var k)) ∷ renumbered net ms (second net (var k)) ∷ []) i 0
  unfolding kept_net pieces var
  kept_at k i h b m =
      ap (λ (j : ℕ). get_or (kept_net net ms).gates (j + i) 0) (sym (pieces_length k))
      ∙ gather_at (λ k. kept_gate net ms (var k)) (size net) k i 0 h (omega (arith, ap length (kept_on (var k) m)))
      ∙ ap (λ (xs : List ℕ). get_or xs i 0) (kept_on (var k) m)

  -- ---- a marked gate under its new number

  module _ (v : ℕ) (i : IsGate net v) (m : Marked ms v) where
    k_of : ℕ
    k_of = v - suc (free net)

    v_is : var k_of ≡ v
    unfolding var k_of
    v_is = let a = i.above in omega arith

    k_low : k_of < size net
    unfolding k_of
    k_low = let a = i.above in let b = i.within in omega arith

    m_at : Marked ms (var k_of)
    m_at = subst (Marked ms) (sym v_is) m

    number_is : new_number net ms v ≡ suc (free net + count k_of)
    number_is = subst (λ (x : ℕ). new_number net ms x ≡ suc (free net + count k_of)) v_is (number_at k_of m_at)

    pub kept_gate_lem : IsGate (kept_net net ms) (new_number net ms v)
    unfolding count
    kept_gate_lem = record {
      above = unfold kept_net in omega (arith, number_is);
      within =
          let s = kept_size in let c = count_mono (suc k_of) (size net) k_low in unfold kept_net in
          omega (arith, number_is, count_on k_of m_at);
    }

    pub kept_first : first (kept_net net ms) (new_number net ms v) ≡ renumbered net ms (first net v)
    unfolding first kept_net
    kept_first =
        let e : 2 * (new_number net ms v - suc (free net)) ≡ 2 * count k_of + 0 = omega (arith, number_is) in
        ap (λ (j : ℕ). get_or (kept_net net ms).gates j 0) e
        ∙ kept_at k_of 0 k_low (omega arith) m_at
        ∙ ap (λ (x : ℕ). renumbered net ms (first net x)) v_is

    pub kept_second : second (kept_net net ms) (new_number net ms v) ≡ renumbered net ms (second net v)
    unfolding second kept_net
    kept_second =
        let e : suc (2 * (new_number net ms v - suc (free net))) ≡ 2 * count k_of + 1 = omega (arith, number_is) in
        ap (λ (j : ℕ). get_or (kept_net net ms).gates j 0) e
        ∙ kept_at k_of 1 k_low (omega arith) m_at
        ∙ ap (λ (x : ℕ). renumbered net ms (second net x)) v_is

  -- every gate of the new net is a marked gate under its new number
  pub record Kept (u : ℕ) : Type 0 where
    pub old : ℕ
    pub is_gate : IsGate net old
    pub is_marked : Marked ms old
    pub number_is_u : new_number net ms old ≡ u

  pub all_kept : (u : ℕ) → IsGate (kept_net net ms) u → Kept u
  unfolding kept_net count var
  all_kept u i =
      let a = i.above in
      let b = i.within in
      let s = kept_size in
      let r = count_hits (size net) (u - suc (free net)) (omega arith) in
      let l = r.1 in
      record {
        old = var r.0;
        is_gate = record { above = omega arith; within = omega arith };
        is_marked = r.2;
        number_is_u = number_at r.0 r.2 ∙ omega (arith, r.3);
      }

  -- ---- literals

  pub renumbered_var : (l : ℕ) → var_of (renumbered net ms l) ≡ new_number net ms (var_of l)
  unfolding renumbered
  renumbered_var l = omega arith

  -- literals keep their order where the larger one's variable is marked
  pub renumbered_mono : (l m : ℕ) → l ≤ m → Marked ms (var_of m) → renumbered net ms l ≤ renumbered net ms m
  unfolding renumbered
  renumbered_mono l m h k = ⊎_elim
      (λ (q : var_of m ≤ var_of l). let e : var_of l ≡ var_of m = omega arith in rw e (omega arith))
      (λ (q : var_of l < var_of m). let n = less q in omega arith)
      (at_most_or_above (var_of m) (var_of l))
    where
      less : var_of l < var_of m → new_number net ms (var_of l) < new_number net ms (var_of m)
      less q = ⊎_elim
          (λ f. omega (arith, number_low (var_of l) (omega arith), number_low (var_of m) f))
          (λ f. number_less (var_of l) (var_of m) q f k) (at_most_or_above (var_of m) (free net))
