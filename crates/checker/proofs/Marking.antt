-- Marking in lent memory, one call at a time, leads to the marks of the definitions.
-- Assumes nothing.
use mathlib.Core.Path.{◌≡◌, refl, sym, ap, ap₂, ◌∙◌}
use mathlib.Core.Bool.{Bool, true, false, cond}
use mathlib.Core.List.{List, map}
use Prim.Native.Nat.{ℕ, zero, suc, ◌+◌, ◌-◌, ◌≤◌, ◌<◌}
use native.Mathlib.Nat.{le_refl}
use native.Mathlib.Numerals.{add-one}
use native.Mathlib.Omega.{arith}
use borrow.Author.Tests.{le-leb, lt-leb, lt-ltb, le-ltb}
use mir.Val.{bool_byte}
use lib.ListN.{length, get_or, set, drop, replicate, drop_of_length-le, length-replicate}
use lib.Seq.{drop-cons}
use Rattle.std.specs.List.{filter, range_with_len, sum_by}
use Rattle.std.proofs.lemmas.List.{map-id}
use Rattle.std.proofs.lemmas.List.FromFn.{sum_by-map-range_with_len_more}
use Rattle.std.proofs.lemmas.List.Sums.{length-filter}
use Rattle.graph.specs.Literal.{var_of, LiteralsBelow}
use Rattle.graph.specs.Graph.{Net, Graph, free, size, last, sinks, first, second, most_inputs, most_gates, IsGate, Lawful}
use Rattle.graph.specs.Use.{mark_each, mark_fanins, mark_down, marks_over, marks, in_use, count_marks, used_gates}
use Rattle.graph.proofs.Graph.{sinks_below}
use Rattle.graph.proofs.Lists.{same_tests, cast_is}
use Rattle.graph.proofs.Use.{down_keeps, down_low, marks_longer}
use Rattle.checker.specs.Marks.{marks_in, mark_after}

-- ---- how marks lie in memory: beside these two laws only `put_mark` and `has_mark` know

pub marks_length : (places : List Bool) → length (marks_in places) ≡ length places
unfolding marks_in
marks_length places = refl

pub fresh_marks : (n : ℕ) → marks_in (replicate n false) ≡ replicate n false
unfolding marks_in
fresh_marks n = refl

pub fresh_long : (n : ℕ) → length (marks_in (replicate n false)) ≡ n
fresh_long n = marks_length (replicate n false) ∙ length-replicate n false

-- the places of the code's array: one for each variable that the limits allow
abbrev pub most_variables : ℕ
most_variables = 1 + most_inputs + most_gates

-- ---- one literal after another

pub each_step : (ls : List ℕ) (k : ℕ) (ms : List Bool) → k < length ls
    → mark_each (drop (k + 1) ls) (set ms (var_of (get_or ls k 0)) true) ≡ mark_each (drop k ls) ms
unfolding mark_each
each_step ls k ms h = rw (add-one k, drop-cons ls k 0 h)

pub each_end : (ls : List ℕ) (k : ℕ) (ms : List Bool) → length ls ≤ k → mark_each (drop k ls) ms ≡ ms
unfolding mark_each
each_end ls k ms h = rw (drop_of_length-le ls h)

-- ---- the fanins of a marked gate

pub fanins_set : (net : Net) (v : ℕ) (ms : List Bool) → get_or ms v false ≡ true → {a b : ℕ} {once twice : List Bool}
    → a ≡ var_of (first net v) → once ≡ set ms a true
    → b ≡ var_of (second net v) → twice ≡ set once b true
    → twice ≡ mark_fanins net v ms
unfolding mark_fanins mark_each
fanins_set net v ms m p o q t = rw (t, o, p, q, m)

-- ---- from the highest gate down

module _ (net : Net) (k : ℕ) where
  -- the highest gate comes first
  pub after_step : (next : ℕ) (ms : List Bool) → k < next
      → mark_after net k (next - 1 - k) (mark_fanins net (free net + next) ms) ≡ mark_after net k (next - k) ms
  unfolding mark_after
  after_step next ms h =
      let n = next - 1 - k in
      let more : next - k ≡ suc n = omega arith in
      let top : free net + next ≡ suc (free net + (k + n)) = omega arith in
      rw (more, top)

  pub after_end : (next : ℕ) (ms : List Bool) → next ≤ k → mark_after net k (next - k) ms ≡ ms
  unfolding mark_after
  after_end next ms h = let none : next - k ≡ 0 = omega arith in rw none

  -- marking may stop after the k-th gate and go on from there
  down_after : (n : ℕ) (ms : List Bool) → mark_down net (k + n) ms ≡ mark_down net k (mark_after net k n ms)
  unfolding mark_down mark_after
  down_after zero ms = let e : k + 0 ≡ k = omega arith in rw e
  down_after (suc n) ms =
      let e : k + suc n ≡ suc (k + n) = omega arith in rw e (down_after n (mark_fanins net (suc (free net + (k + n))) ms))

-- ---- counting

module _ (net : Net) (ms : List Bool) where
  abbrev mark : ℕ → ℕ
  mark k = cond (get_or ms (free net + k + 1) false) 1 0

  count_sum : (n : ℕ) → count_marks net ms n ≡ sum_by mark (map (λ (k : ℕ). k) (range_with_len 0 n))
  unfolding count_marks
  count_sum zero = refl
  count_sum (suc n) =
      let e : suc (free net + n) ≡ free net + n + 1 = omega arith in
      ap (λ (j : ℕ). count_marks net ms n + cond (get_or ms j false) 1 0) e
      ∙ ap (λ (m : ℕ). m + mark n) (count_sum n)
      ∙ sym (sum_by-map-range_with_len_more mark (λ (k : ℕ). k) 0 n n (omega arith))
      ∙ ap (λ (m : ℕ). sum_by mark (map (λ (k : ℕ). k) (range_with_len 0 m))) (add-one n)

  -- a walk from 0 on counts the marked gates
  pub count_by_std : (n : ℕ) → count_marks net ms n ≡ length (filter (λ k. get_or ms (free net + k + 1) false) (range_with_len 0 n))
  count_by_std n =
      count_sum n
      ∙ ap (λ (ks : List ℕ). sum_by mark ks) (map-id (range_with_len 0 n))
      ∙ sym (length-filter _ (range_with_len 0 n))

  -- the mark of one gate more, as a cast gives it
  pub count_more : (k : ℕ) → count_marks net ms k + bool_byte (get_or ms (free net + k + 1) false) ≡ count_marks net ms (k + 1)
  unfolding count_marks
  count_more k =
      let e : free net + k + 1 ≡ suc (free net + k) = omega arith in
      rw (add-one k, e) (ap (λ (n : ℕ). count_marks net ms k + n) (cast_is (get_or ms (suc (free net + k)) false)))

  -- lists that hold the same marks of gates have the same number of them
  pub count_same : (ms' : List Bool) → ((v : ℕ) → IsGate net v → get_or ms v false ≡ get_or ms' v false)
      → (k : ℕ) → k ≤ size net → count_marks net ms k ≡ count_marks net ms' k
  unfolding count_marks
  count_same ms' same zero h = refl
  count_same ms' same (suc k) h =
      ap₂ ◌+◌ (count_same ms' same k (omega arith))
      (ap (λ (b : Bool). cond b 1 0) (same (suc (free net + k)) (record { above = omega arith; within = omega arith })))

-- ---- only gates are in use

module _ (g : Graph) (v : ℕ) where
  pub free_unused : v ≤ free g.net → in_use g v ≡ false
  unfolding in_use
  free_unused h = rw (le-ltb (free g.net) v h)

  pub past_unused : last g.net < v → in_use g v ≡ false
  unfolding in_use
  past_unused h = let above : free g.net < v = omega arith in rw (lt-ltb (free g.net) v above, lt-leb v (last g.net) h)

-- ---- the whole pass, in a list with places for all variables or more

module _ (g : Graph) (ok : Lawful g) where
  pub fresh_have_marks : (n : ℕ) → last g.net < n → LiteralsBelow (sinks g) (length (marks_in (replicate n false)))
  fresh_have_marks n room = sinks_below g ok _ (omega (arith, fresh_long n))

  -- the gates up to the k-th leave the marks above them as they are, since their fanins are lower
  down_leaves : (k : ℕ) (ms : List Bool) (v : ℕ) → k ≤ size g.net → free g.net + k ≤ v
      → get_or (mark_down g.net k ms) v false ≡ get_or ms v false
  down_leaves k ms v h l = same_tests _ _ (down_low g ok k ms v h l) (down_keeps g k ms v)

  module _ (n : ℕ) (room : last g.net < n) {outs : List Bool} (o : outs ≡ mark_each (sinks g) (marks_in (replicate n false))) where
    -- once the gates after the k-th are done, those up to it lead to the marks of the definition
    rest_leads : (k : ℕ) → k ≤ size g.net → (v : ℕ)
        → get_or (mark_down g.net k (mark_after g.net k (size g.net - k) outs)) v false ≡ get_or (marks g) v false
    unfolding marks_over
    rest_leads k h v =
        let all : k + (size g.net - k) ≡ size g.net = omega arith in
        rw (← down_after g.net k (size g.net - k) outs, all, o, fresh_marks n) (marks_longer g ok n room v)

    -- so a gate's mark is decided once those above it are done
    pub mark_decided : (v : ℕ) → IsGate g.net v → {at : ℕ} {done : List Bool} → at ≡ v
        → done ≡ mark_after g.net (at - free g.net) (size g.net - (at - free g.net)) outs
        → get_or done v false ≡ in_use g v
    unfolding in_use
    mark_decided v i e d =
        rw (d, e, lt-ltb _ _ i.above, le-leb _ _ i.within)
        (sym (down_leaves (v - free g.net) _ v (omega arith) (omega arith)) ∙ rest_leads (v - free g.net) (omega arith) v)

  -- the marks of the definition are counted in any list that has places for all variables
  pub marks_counted : (n : ℕ) → last g.net < n → {ms : List Bool} → ms ≡ marks_over n g
      → count_marks g.net ms (size g.net) ≡ used_gates g
  unfolding used_gates
  marks_counted n room e = rw e (count_same g.net _ (marks g) (λ v i. marks_longer g ok n room v) (size g.net) (le_refl _))

-- the whole pass over marks that are all unset
pub marks_made : (g : Graph) (n : ℕ) {before outs done : List Bool} → before ≡ replicate n false → outs ≡ mark_each (sinks g) before
    → done ≡ mark_after g.net 0 (size g.net - 0) outs → done ≡ marks_over n g
unfolding marks_over mark_down
marks_made g n b o d =
    let all : 0 + (size g.net - 0) ≡ size g.net = omega arith in
    rw (d, ← down_after g.net 0 (size g.net - 0) _, all, o, b)
