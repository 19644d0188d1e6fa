-- The leaves that an ascending sweep has passed, and the next leaf: what it says of a variable is what the leaf set says.
-- Assumes nothing.
use mathlib.Core.Path.{◌≡◌, refl, sym, ap, ◌∙◌}
use mathlib.Core.Bool.{Bool, true, false, cond, false≢true}
use mathlib.Core.Logic.{⊎_elim}
use mathlib.Core.Option.{Option, none, some}
use Prim.Native.Nat.{ℕ, suc, ◌+◌, ◌≤◌, ◌<◌}
use native.Mathlib.Nat.{le_refl}
use native.Mathlib.Omega.{arith}
use borrow.Author.Tests.{eqb-true, eqb-false}
use lib.Dec.{leb, eqb}
use lib.ListN.{length, get_or, length-take}
use Rattle.std.specs.Prelude as Rust
use Rattle.std.specs.Prelude.{Some, None, slice_get}
use Rattle.std.specs.Option.{option_map}
use Rattle.std.proofs.lemmas.Option.{none-some, slice_get-get_or, get_or_from_slice_get, slice_get_within}
use Rattle.graph.specs.declared.lit.Var.{Var}
use Rattle.graph.specs.Graph.{Net, free}
use Rattle.graph.proofs.Lists.{at_most_or_above}
use Rattle.graph.proofs.Members.{at_place, in_same}
use Rattle.window.specs.declared.leaf_set.Leaves.{Leaves}
use Rattle.window.specs.Leaves.{leaf_limit, numbers, leaf_list, leaf_place, WellSet}
use Rattle.window.specs.Local.{covered_own, leaf_own}
use Rattle.window.specs.Table.{leaf_pattern}
use Rattle.window.proofs.LeafPlaces.{leaf_found, leaf_missed}
use Rattle.cutter.specs.declared.next_leaf.NextLeaf.{NextLeaf}
use Rattle.cutter.specs.Sweeping.{Passed, Ahead, next_is, window_own, own_ahead, covered_ahead, table_ahead}

leaves_few : (w : Leaves) → length (leaf_list w) ≤ w.count
leaves_few w = omega (arith, length-take w.count (numbers w.places))

-- the leaf at place j is v
abbrev pub At : Leaves → ℕ → ℕ → Type 0
At w j v = (j < length (leaf_list w)) × (get_or (leaf_list w) j 0 ≡ v)

-- ---- j leaves passed: whether v is the leaf at place j

module _ {w : Leaves} {v j : ℕ} (p : Passed w v j) where
  passed_leaf : At w j v → Passed w (suc v) (j + 1)
  passed_leaf (inside, here) =
      record {
        few = p.few;
        ascending = p.ascending;
        within = omega (arith, inside, leaves_few w);
        before = λ i h. ⊎_elim
            (λ l. omega (arith, p.before i l))
            (λ (l : j < suc i). let q : i ≡ j = omega arith in rw q (omega arith))
            (at_most_or_above (suc i) j);
        after = λ i h l. omega (arith, p.ascending j i (omega arith) l);
      }

  passed_other : ¬ At w j v → Passed w (suc v) j
  passed_other other =
      record {
        few = p.few;
        ascending = p.ascending;
        within = p.within;
        before = λ i h. omega (arith, p.before i h);
        after = λ i h l. ⊎_elim
            (λ m. omega (arith, p.after j (le_refl j) (omega arith), p.ascending j i m l))
            (λ m. let q : i ≡ j = omega arith in above i q l)
            (at_most_or_above (suc j) i);
      }
    where
      above : (i : ℕ) → i ≡ j → i < length (leaf_list w) → suc v ≤ get_or (leaf_list w) i 0
      above i q l =
          let h : j < length (leaf_list w) = omega arith in
          let n : ¬ (get_or (leaf_list w) j 0 ≡ v) = λ e. other (h, e) in
          rw q (omega (arith, p.after j (le_refl j) h))

  -- if v is a leaf, it is the one at place j
  place_only : (i : ℕ) → leaf_place w v ≡ some i → i ≡ j
  place_only i e =
      let found = leaf_found w v i e in
      let low : ¬ (i < j) = λ l. omega (arith, p.before i l, found.1) in
      let high : ¬ (j < i) = λ l.
      omega (arith, p.after j (le_refl j) (omega (arith, found.0)), p.ascending j i l found.0, found.1) in
      omega arith

  leaf_at : At w j v → leaf_place w v ≡ some j
  leaf_at (inside, here) = go (leaf_place w v) refl
    where
      go : (o : Option ℕ) → leaf_place w v ≡ o → leaf_place w v ≡ some j
      go (some i) q = q ∙ ap some (place_only i q)
      go none q = absurd (leaf_missed w v q (in_same (sym here) (at_place 0 (leaf_list w) j inside)))

  no_leaf : ¬ At w j v → leaf_place w v ≡ none
  no_leaf other = go (leaf_place w v) refl
    where
      go : (o : Option ℕ) → leaf_place w v ≡ o → leaf_place w v ≡ none
      go none q = q
      go (some i) q = let same = place_only i q in absurd (other (rw same at (leaf_found w v i q)))

-- ---- the next leaf

-- no leaf stands below variable 1
pub ahead_none : {root : ℕ} {w : Leaves} {next : NextLeaf} → WellSet root w
    → next.place ≡ 0
    → option_map (λ (u : Var). u.0) next.leaf ≡ slice_get (leaf_list w) 0
    → Ahead w 1 next
ahead_none {w} ok e q =
    let none_below : Passed w 1 0 =
    record {
      few = ok.few;
      ascending = ok.ascending;
      within = omega arith;
      before = λ i h. absurd (omega arith);
      after = λ i _ h. ok.at_least_one i h;
    } in
    record { passed = rw e none_below; leaf_is = rw e q }

-- what is next, as the test says
module _ {w : Leaves} {v : ℕ} {next : NextLeaf} (a : Ahead w v next) where
  next_at : next_is next v ≡ true → At w next.place v
  unfolding next_is
  next_at = go next.leaf a.leaf_is
    where
      go : (o : Rust.Option Var) → option_map (λ (u : Var). u.0) o ≡ slice_get (leaf_list w) next.place
          → elim o [ None ↦ false | Some u ↦ eqb u.0 v ] ≡ true → At w next.place v
      go None e h = absurd (false≢true h)
      go (Some u) e h = (
        slice_get_within (leaf_list w) next.place u.0 (sym e),
        get_or_from_slice_get (leaf_list w) next.place u.0 0 (sym e) ∙ eqb-true u.0 v h,
      )

  next_not : next_is next v ≡ false → ¬ At w next.place v
  unfolding next_is
  next_not = go next.leaf a.leaf_is
    where
      go : (o : Rust.Option Var) → option_map (λ (u : Var). u.0) o ≡ slice_get (leaf_list w) next.place
          → elim o [ None ↦ false | Some u ↦ eqb u.0 v ] ≡ false → ¬ At w next.place v
      go None e h at = none-some (get_or (leaf_list w) next.place 0) (e ∙ slice_get-get_or (leaf_list w) next.place 0 at.0)
      go (Some u) e h at = eqb-false u.0 v h (sym (get_or_from_slice_get (leaf_list w) next.place u.0 0 (sym e)) ∙ at.1)

  pub ahead_other : next_is next v ≡ false → Ahead w (suc v) next
  ahead_other h = record { passed = passed_other a.passed (next_not h); leaf_is = a.leaf_is }

  pub ahead_leaf : next_is next v ≡ true → {after : NextLeaf}
      → after.place ≡ next.place + 1
      → option_map (λ (u : Var). u.0) after.leaf ≡ slice_get (leaf_list w) (next.place + 1)
      → Ahead w (suc v) after
  ahead_leaf h p q = record { passed = rw p (passed_leaf a.passed (next_at h)); leaf_is = rw p q }

  pub place_below_limit : next_is next v ≡ true → next.place < leaf_limit
  place_below_limit h = omega (arith, (next_at h).0, leaves_few w, a.passed.few)

  place_is : leaf_place w v ≡ cond (next_is next v) (some next.place) none
  place_is = go (next_is next v) refl
    where
      go : (b : Bool) → next_is next v ≡ b → leaf_place w v ≡ cond b (some next.place) none
      go true e = leaf_at a.passed (next_at e)
      go false e = no_leaf a.passed (next_not e)

  -- so the next leaf says what v has itself
  pub ahead_is : {A : Type 0} (at_leaf : ℕ → A) (at_input : A) (net : Net)
      → own_ahead at_leaf at_input net next v ≡ window_own at_leaf at_input net w v
  unfolding own_ahead window_own
  ahead_is at_leaf at_input net = go (next_is next v) place_is
    where
      go : (b : Bool) → leaf_place w v ≡ cond b (some next.place) none
          → cond b (some (at_leaf next.place)) (cond (leb v (free net)) (some at_input) none) ≡ window_own at_leaf at_input net w v
      go true e = rw (e, window_own)
      go false e = rw (e, window_own)

  pub covered_ahead_lem : (net : Net) → covered_ahead net next v ≡ covered_own net w v
  unfolding covered_own window_own
  covered_ahead_lem = ahead_is (λ place. true) false

  pub table_ahead_lem : table_ahead next v ≡ leaf_own w leaf_pattern v
  unfolding table_ahead leaf_own
  table_ahead_lem = go (next_is next v) place_is
    where
      go : (b : Bool) → leaf_place w v ≡ cond b (some next.place) none
          → cond b (some (leaf_pattern next.place)) none ≡ leaf_own w leaf_pattern v
      go true e = rw (e, leaf_own)
      go false e = rw (e, leaf_own)
