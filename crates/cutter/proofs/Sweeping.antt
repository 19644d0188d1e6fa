-- Laws of the sweeps over a window: what a variable has, the lent list so far, and the covered variables listed.
-- Assumes nothing.
use mathlib.Core.Path.{◌≡◌, refl, sym, ap, ap₂, ◌∙◌}
use mathlib.Core.Bool.{Bool, true, false, cond}
use mathlib.Core.List.{List, [], ◌∷◌, ◌++◌, append-nil}
use mathlib.Core.Option
use mathlib.Core.Option.{Option, none, some}
use Prim.Native.Nat.{ℕ, zero, suc, ◌+◌, ◌≤◌, ◌<◌}
use native.Mathlib.Nat.{le_refl}
use native.Mathlib.Numerals.{add-one}
use native.Mathlib.Omega.{arith}
use borrow.Author.Tests.{leb-true, le-leb, lt-leb}
use lib.Dec.{leb}
use lib.ListN.{length, get_or, set, length-append, length-set}
use Rattle.std.specs.Prelude.{slice_get}
use Rattle.std.specs.Option.{option_map}
use Rattle.graph.specs.declared.lit.Var.{Var}
use Rattle.graph.specs.Lists.{gather, keep}
use Rattle.graph.specs.Lent.{written}
use Rattle.graph.specs.Graph.{Net, free, last, WellFormedNet}
use Rattle.graph.specs.Sweep.{Algebra, by_gate, values}
use Rattle.graph.proofs.Lists.{keep_append, get_or_within}
use Rattle.graph.proofs.Sweep.{values_length, values_at, by_gate_free}
use Rattle.graph.proofs.Swept.{written_at, written_length, written_next, Swept, swept_length, swept_zero, swept_more, written_over}
use Rattle.window.specs.declared.leaf_set.Leaves.{Leaves}
use Rattle.window.specs.Leaves.{leaf_list, leaf_place, WellSet}
use Rattle.window.specs.Local.{coverage, covered_own, covered_up_to, covered, covered_below, leaf_own}
use Rattle.window.specs.Table.{words, leaf_pattern, words_up_to, table}
use Rattle.window.proofs.TableLaws.{words_are_tables}
use Rattle.cutter.specs.declared.next_leaf.NextLeaf.{NextLeaf}
use Rattle.cutter.specs.Sweeping.{Ahead, Sweeping, next_is, window_own, own_ahead, table_ahead, swept_up_to, covered_in}
use Rattle.cutter.proofs.Passed.{ahead_none, place_below_limit, ahead_is, table_ahead_lem}

-- ---- what a variable has, by the next leaf

module _ {A : Type 0} (at_leaf : ℕ → A) (at_input : A) (net : Net) (next : NextLeaf) (v : ℕ) where
  -- a leaf has its own, whatever its gate gives
  pub leaf_has : next_is next v ≡ true → (x : A) → Option.get_or (own_ahead at_leaf at_input net next v) x ≡ at_leaf next.place
  unfolding own_ahead
  leaf_has is x = rw (own_ahead, is)

  pub input_has : next_is next v ≡ false → v ≤ free net → (x : A) → Option.get_or (own_ahead at_leaf at_input net next v) x ≡ at_input
  unfolding own_ahead
  input_has other h x = rw (own_ahead, other, le-leb v (free net) h)

  pub gate_has : next_is next v ≡ false → free net < v → (x : A) → Option.get_or (own_ahead at_leaf at_input net next v) x ≡ x
  unfolding own_ahead
  gate_has other h x = rw (own_ahead, other, lt-leb v (free net) h)

-- ---- the lent list so far

-- a sweep of a lent list up to the root that has come to variable n, and the next leaf
pub record Sweep {A : Type 0} (K : Algebra A) (own : ℕ → Option A) (net : Net) (w : Leaves) (root : ℕ) (lent list : List A)
    (next : NextLeaf) (n : ℕ) : Type 0 where
  pub net_ok : WellFormedNet net
  pub known : root ≤ last net
  pub room : root < length lent
  pub within : n ≤ root
  pub ahead : Ahead w (suc n) next
  pub swept : list ≡ Swept K own net lent n

module _ {A : Type 0} {K : Algebra A} {own : ℕ → Option A} {net : Net} {w : Leaves} {root : ℕ} where
  module _ (lent : List A) (x : A) where
    pub sweep_none : x ≡ K.no → WellFormedNet net × (root ≤ last net) → WellSet root w × (root < length lent)
        → {next : NextLeaf}
        → next.place ≡ 0
        → option_map (λ (u : Var). u.0) next.leaf ≡ slice_get (leaf_list w) 0
        → Sweep K own net w root (set lent 0 x) (set lent 0 x) next 0
    sweep_none e (ok, known) (well, room) p q =
        record {
          net_ok = ok;
          known = known;
          room = simp length-set (omega arith);
          within = omega arith;
          ahead = ahead_none well p q;
          swept = ap (set lent 0) e ∙ swept_zero K own net lent (omega arith)
              ∙ sym (written_over (values K own net 0) lent x (omega (arith, values_length K own net 0)));
        }

    pub sweep_all : {list : List A} {next : NextLeaf} {n : ℕ} → Sweep K own net w root (set lent 0 x) list next n → root ≤ n
        → list ≡ written (values K own net root) lent
    sweep_all {n} s h =
        let q : n ≡ root = omega arith in
        s.swept
        ∙ written_over (values K own net n) lent x (omega (arith, values_length K own net n))
        ∙ ap (Swept K own net lent) q

  module _ {lent list : List A} {next : NextLeaf} {n : ℕ} (s : Sweep K own net w root lent list next n) where
    pub sweep_length : length list ≡ length lent
    sweep_length = ap length s.swept ∙ swept_length K own net lent n (omega arith)

    pub sweep_ahead : Ahead w (n + 1) next × (0 < n + 1)
    sweep_ahead = (rw (add-one n) s.ahead, omega arith)

    module _ (h : n < root) where
      pub sweep_next : Sweeping net next (n + 1)
      sweep_next = record { net_ok = s.net_ok; within = omega arith; place_ok = place_below_limit sweep_ahead.0 }

      -- what the next variable has is set down at its place; o is what it has itself, by the next leaf
      pub sweep_more : (x : A) {o : Option A} {at : ℕ} {after : NextLeaf} → x ≡ Option.get_or o (by_gate K net (n + 1) list)
          → o ≡ own (n + 1)
          → at ≡ n + 1
          → Ahead w (suc (n + 1)) after
          → Sweep K own net w root lent (set list at x) after (n + 1)
      sweep_more x {at} e o_is q a =
          let is : x ≡ Option.get_or (own (suc n)) (by_gate K net (suc n) (Swept K own net lent n)) =
          rw (o_is, add-one n, s.swept) at e in
          record {
            net_ok = s.net_ok;
            known = s.known;
            room = s.room;
            within = omega arith;
            ahead = a;
            swept = rw (q, add-one n, s.swept) (swept_more K own net lent s.net_ok n x (omega arith) (omega arith) is);
          }

-- ---- what the sweeps leave

module _ (net : Net) (w : Leaves) where
  pub covered_swept : (n : ℕ) → swept_up_to coverage (λ place. true) false net w n ≡ covered_up_to net w n
  unfolding covered_up_to covered_own window_own
  covered_swept n = refl

  -- by its gate an input has what inputs have
  word_own : (v : ℕ) (ws : List ℕ)
      → Option.get_or (window_own leaf_pattern words.no net w v) (by_gate words net v ws)
      ≡ Option.get_or (leaf_own w leaf_pattern v) (by_gate words net v ws)
  unfolding window_own leaf_own
  word_own v ws = go (leaf_place w v) refl (leb v (free net)) refl
    where
      go : (o : Option ℕ) → leaf_place w v ≡ o → (b : Bool) → leb v (free net) ≡ b
          → Option.get_or (window_own leaf_pattern words.no net w v) (by_gate words net v ws)
          ≡ Option.get_or (leaf_own w leaf_pattern v) (by_gate words net v ws)
      go (some j) e b f = rw (window_own, leaf_own, e)
      go none e true f = rw (window_own, leaf_own, e, f) (sym (by_gate_free words net v ws (leb-true v (free net) f)))
      go none e false f = rw (window_own, leaf_own, e, f)

  -- so what a sweep gives a variable by the next leaf is what tables have
  pub word_ahead : {v : ℕ} {next : NextLeaf} → Ahead w v next → (ws : List ℕ)
      → Option.get_or (own_ahead leaf_pattern words.no net next v) (by_gate words net v ws)
      ≡ Option.get_or (table_ahead next v) (by_gate words net v ws)
  word_ahead {v} a ws =
      let given = λ (o : Option ℕ). Option.get_or o (by_gate words net v ws) in
      ap given (ahead_is a leaf_pattern words.no net) ∙ word_own v ws ∙ ap given (sym (table_ahead_lem a))

  pub words_swept : (n : ℕ) → swept_up_to words leaf_pattern words.no net w n ≡ words_up_to net w n
  unfolding words_up_to values
  words_swept zero = refl
  words_swept (suc n) =
      ap₂ (λ (ws : List ℕ) (x : ℕ). ws ++ (x ∷ [])) (words_swept n)
      (word_own (suc n) (swept_up_to words leaf_pattern words.no net w n)
      ∙ ap (λ (ws : List ℕ). Option.get_or (leaf_own w leaf_pattern (suc n)) (by_gate words net (suc n) ws)) (words_swept n))

module _ (net : Net) (w : Leaves) (n : ℕ) where
  pub covered_at : (covers lent : List Bool) → covers ≡ written (covered_up_to net w n) lent → (v : ℕ) → v ≤ n
      → get_or covers v false ≡ covered net w v
  unfolding covered_up_to covered coverage
  covered_at covers lent e v h =
      let front = values coverage (covered_own net w) net n in
      let inside : v < length front = omega (arith, values_length coverage (covered_own net w) net n) in
      ap (λ (bs : List Bool). get_or bs v false) e
      ∙ written_at front lent v false inside
      ∙ get_or_within front v false true inside
      ∙ values_at coverage (covered_own net w) net n v h

  pub table_in : (tables lent : List ℕ) → tables ≡ written (words_up_to net w n) lent → (v : ℕ) → v ≤ n → get_or tables v 0 ≡ table net w v
  unfolding words_up_to
  table_in tables lent e v h =
      ap (λ (ws : List ℕ). get_or ws v 0) e
      ∙ written_at (words_up_to net w n) lent v 0 (omega (arith, values_length words (leaf_own w leaf_pattern) net n))
      ∙ words_are_tables net w n v h

-- ---- the covered variables listed

-- the numbers below n at which the test passes, ascending
abbrev kept : (ℕ → Bool) → ℕ → List ℕ
kept f n = keep f (gather (λ v. v ∷ []) n)

kept_more : (f : ℕ → Bool) (n : ℕ) → kept f (suc n) ≡ cond (f n) (kept f n ++ (n ∷ [])) (kept f n)
unfolding gather keep
kept_more f n = keep_append f (gather (λ v. v ∷ []) n) (n ∷ []) ∙ go (f n)
  where
    go : (b : Bool) → kept f n ++ (elim b [ true ↦ n ∷ [] | false ↦ [] ]) ≡ cond b (kept f n ++ (n ∷ [])) (kept f n)
    go true = refl
    go false = append-nil (kept f n)

kept_same : (f h : ℕ → Bool) (n : ℕ) → ((v : ℕ) → v < n → f v ≡ h v) → kept f n ≡ kept h n
unfolding gather keep
kept_same f h zero e = refl
kept_same f h (suc n) e =
    kept_more f n
    ∙ ap₂ (λ (b : Bool) (xs : List ℕ). cond b (xs ++ (n ∷ [])) xs) (e n (le_refl (suc n))) (kept_same f h n (λ v l. e v (omega arith)))
    ∙ sym (kept_more h n)

-- what a sweep's list says, the definition says
pub covered_in_below : (net : Net) (w : Leaves) (root : ℕ) (covers lent : List Bool) → covers ≡ written (covered_up_to net w root) lent
    → covered_in covers root ≡ covered_below net w root
unfolding covered_in covered_below
covered_in_below net w root covers lent e =
    kept_same (λ v. get_or covers v false) (covered net w) root
    (λ v h. covered_at net w root covers lent e v (omega arith))

module _ (covers : List Bool) where
  covered_in_more : (n : ℕ) → covered_in covers (suc n) ≡ cond (get_or covers n false) (covered_in covers n ++ (n ∷ [])) (covered_in covers n)
  unfolding covered_in
  covered_in_more n = kept_more (λ v. get_or covers v false) n

  pub covered_in_few : (n : ℕ) → length (covered_in covers n) ≤ n
  unfolding covered_in gather keep
  covered_in_few zero = le_refl 0
  covered_in_few (suc n) = rw (covered_in_more n) (go (get_or covers n false) (covered_in_few n))
    where
      go : (b : Bool) → length (covered_in covers n) ≤ n → length (cond b (covered_in covers n ++ (n ∷ [])) (covered_in covers n)) ≤ suc n
      go true h = omega (arith, length-append (covered_in covers n) (n ∷ []))
      go false h = omega arith

  -- the covered variables below n stand at the front of the lent list, and so many places are filled
  pub record Listed (lent list : List ℕ) (count n : ℕ) : Type 0 where
    pub counted : count ≡ length (covered_in covers n)
    pub listed : list ≡ written (covered_in covers n) lent

  pub listed_none : (lent : List ℕ) → Listed lent lent 0 0
  unfolding covered_in gather keep written
  listed_none lent = record { counted = refl; listed = refl }

  module _ {lent list : List ℕ} {count n : ℕ} (s : Listed lent list count n) where
    pub listed_length : n ≤ length lent → length list ≡ length lent
    listed_length h = ap length s.listed ∙ written_length (covered_in covers n) lent (omega (arith, covered_in_few n))

    -- the code looks at variable n's place, and puts n down where it is covered
    module _ {at : ℕ} (e : at ≡ n) where
      pub listed_on : n < length lent → get_or covers at false ≡ true → Listed lent (set list count n) (count + 1) (n + 1)
      listed_on h t =
          let more : covered_in covers (suc n) ≡ covered_in covers n ++ (n ∷ []) = covered_in_more n ∙ rw (sym e, t) in
          rw (add-one n) (record {
            counted = rw more (omega (arith, s.counted, length-append (covered_in covers n) (n ∷ [])));
            listed = rw more (
                ap₂ (λ (ws : List ℕ) (k : ℕ). set ws k n) s.listed s.counted
                ∙ written_next (covered_in covers n) n lent (omega (arith, covered_in_few n))
                );
          })

      pub listed_off : get_or covers at false ≡ false → Listed lent list count (n + 1)
      listed_off t =
          let same : covered_in covers (suc n) ≡ covered_in covers n = covered_in_more n ∙ rw (sym e, t) in
          rw (add-one n) (record { counted = rw same s.counted; listed = rw same s.listed })
