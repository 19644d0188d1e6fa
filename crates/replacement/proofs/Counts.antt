-- Counting marks: two lists of marks compared gate by gate; and what a pass over the gates marks.
-- Assumes nothing.
use mathlib.Core.Path.{◌≡◌, refl, sym, ap, ap₂, ◌∙◌}
use mathlib.Core.Bool.{Bool, true, false, cond, false≢true}
use mathlib.Core.List.{List, [], ◌∷◌}
use mathlib.Core.Logic.{⊎_elim, ◌↔◌}
use Prim.Native.Nat.{ℕ, zero, suc, ◌+◌, ◌≤◌, ◌<◌}
use native.Mathlib.Nat.{le_refl}
use native.Mathlib.Omega.{arith}
use lib.ListN.{length, get_or, length-append, length-replicate}
use Rattle.graph.specs.Lists.{gather, keep}
use Rattle.graph.specs.Graph.{Net, Graph, free, size, last, sinks, IsGate}
use Rattle.graph.specs.Use.{mark_down, marks, count_marks}
use Rattle.graph.proofs.Lists.{at_most_or_above, keep_append, kept_one}
use Rattle.graph.proofs.Marks.{Marked, each_length, fanins_length}
use Rattle.replacement.specs.Vanish.{count_apart}

-- ---- counting marks

module _ (net : Net) where
  abbrev pub var : ℕ → ℕ
  var k = suc (free net + k)

  pub var_gate : (k : ℕ) → k < size net → IsGate net (var k)
  var_gate k h = record { above = omega arith; within = omega arith }

  -- a list with all the marks of another, and more: what is more is counted apart
  pub apart : (ms ns : List Bool) → ((v : ℕ) → IsGate net v → Marked ns v → Marked ms v)
      → (k : ℕ) → k ≤ size net → count_marks net ms k ≡ count_marks net ns k + count_apart net ms ns k
  unfolding count_marks count_apart
  apart ms ns h zero l = refl
  apart ms ns h (suc k) l =
      let c = apart ms ns h k (omega arith) in
      omega (arith, one (get_or ms (var k) false) (get_or ns (var k) false) (h (var k) (var_gate k l)))
    where
      one : (s t : Bool) → (t ≡ true → s ≡ true) → cond s 1 0 ≡ cond t 1 0 + cond t 0 (cond s 1 0)
      one s true f = rw (f refl)
      one s false f = omega arith

  -- what is apart, counted by a test that finds it
  pub counted : (ms ns : List Bool) (test : ℕ → Bool) → ((v : ℕ) → IsGate net v → (test v ≡ true) ↔ (Marked ms v × (¬ Marked ns v)))
      → count_apart net ms ns (size net) ≡ length (keep test (gather (λ k. suc (free net + k) ∷ []) (size net)))
  unfolding count_apart gather keep
  counted ms ns test t = go (size net) (le_refl _)
    where
      one : (m n b : Bool) → (b ≡ true) ↔ ((m ≡ true) × (¬ (n ≡ true))) → cond {A = ℕ} n 0 (cond m 1 0) ≡ cond b 1 0
      one m true true i = absurd ((i.0 refl).1 refl)
      one m true false i = refl
      one true false b i = rw (i.1 (refl, false≢true))
      one false false true i = absurd (false≢true (i.0 refl).0)
      one false false false i = refl

      go : (k : ℕ) → k ≤ size net → count_apart net ms ns k ≡ length (keep test (gather (λ j. suc (free net + j) ∷ []) k))
      go zero h = refl
      go (suc k) h =
          ap₂ ◌+◌ (go k (omega arith)) (one _ _ (test (var k)) (t (var k) (var_gate k h)) ∙ sym (kept_one test (var k)))
          ∙ sym (length-append (keep test (gather (λ j. suc (free net + j) ∷ []) k)) (keep test (suc (free net + k) ∷ [])))
          ∙ ap length (sym (keep_append test (gather (λ j. suc (free net + j) ∷ []) k) (suc (free net + k) ∷ [])))

  -- as much is apart where the second lists have the same marks, and the first lists wherever those have none
  pub apart_same : (ms ns ms' ns' : List Bool) → ((v : ℕ) → IsGate net v → get_or ns v false ≡ get_or ns' v false)
      → ((v : ℕ) → IsGate net v → ¬ Marked ns v → get_or ms v false ≡ get_or ms' v false)
      → (k : ℕ) → k ≤ size net → count_apart net ms ns k ≡ count_apart net ms' ns' k
  unfolding count_apart
  apart_same ms ns ms' ns' e f zero h = refl
  apart_same ms ns ms' ns' e f (suc k) h =
      let i = var_gate k h in ap₂ ◌+◌ (apart_same ms ns ms' ns' e f k (omega arith)) (one _ _ _ _ (e (var k) i) (f (var k) i))
    where
      one : (m n m' n' : Bool) → n ≡ n' → (¬ (n ≡ true) → m ≡ m') → cond {A = ℕ} n 0 (cond m 1 0) ≡ cond n' 0 (cond m' 1 0)
      one m true m' n' e f = rw (← e)
      one m false m' n' e f = rw (← e, f false≢true)

  -- two lists with the same marks but at the root
  module _ (ms ns : List Bool) (root : ℕ) (gate : IsGate net root)
      (same : (v : ℕ) → IsGate net v → ¬ (v ≡ root) → get_or ms v false ≡ get_or ns v false) (off : get_or ns root false ≡ false) where
    low : (k : ℕ) → k ≤ size net → free net + k < root → count_marks net ms k ≡ count_marks net ns k
    unfolding count_marks
    low zero h l = refl
    low (suc k) h l =
        ap₂ ◌+◌ (low k (omega arith) (omega arith)) (ap (λ (t : Bool). cond t 1 0) (same (var k) (var_gate k h) (λ e. omega arith)))

    high : (k : ℕ) → k ≤ size net → root ≤ free net + k → count_marks net ms k ≡ count_marks net ns k + cond (get_or ms root false) 1 0
    unfolding count_marks
    high zero h l = absurd (let a = gate.above in omega arith)
    high (suc k) h l = ⊎_elim
        (λ q. let c = high k (omega arith) q in
        let e = ap (λ (t : Bool). cond {A = ℕ} t 1 0) (same (var k) (var_gate k h) (λ e. omega arith)) in omega arith)
        (λ q. let e : var k ≡ root = omega arith in
        let c = low k (omega arith) (omega arith) in
        let o : cond {A = ℕ} (get_or ns (var k) false) 1 0 ≡ 0 = rw (e, off) in
        let m : cond {A = ℕ} (get_or ms (var k) false) 1 0 ≡ cond (get_or ms root false) 1 0 = rw e in omega arith)
        (at_most_or_above root (free net + k))

    pub but_root : count_marks net ms (size net) ≡ count_marks net ns (size net) + cond (get_or ms root false) 1 0
    but_root = high (size net) (le_refl _) gate.within

-- the count goes by where the gates begin
pub same_count : (net net' : Net) (ms : List Bool) → free net ≡ free net' → (k : ℕ) → count_marks net ms k ≡ count_marks net' ms k
unfolding count_marks
same_count net net' ms e zero = refl
same_count net net' ms e (suc k) = ap₂ ◌+◌ (same_count net net' ms e k) (ap (λ (n : ℕ). cond {A = ℕ} (get_or ms (suc (n + k)) false) 1 0) e)

-- ---- marking

down_length : (net : Net) (k : ℕ) (ms : List Bool) → length (mark_down net k ms) ≡ length ms
unfolding mark_down
down_length net zero ms = refl
down_length net (suc k) ms = down_length net k _ ∙ fanins_length net (suc (free net + k)) ms

pub marks_length : (g : Graph) → length (marks g) ≡ suc (last g.net)
unfolding marks
marks_length g = down_length g.net (size g.net) _ ∙ each_length (sinks g) _ ∙ length-replicate (suc (last g.net)) false
