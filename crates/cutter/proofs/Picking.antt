-- The leaf rule turn by turn: the best leaf found leaf by leaf, what a turn keeps, and what it makes less.
-- Assumes nothing.
use mathlib.Core.Path.{◌≡◌, refl, sym, ap, ◌∙◌, subst}
use mathlib.Core.Bool.{Bool, true, false, cond}
use mathlib.Core.List.{List, [], ◌∷◌, ◌++◌}
use mathlib.Core.Logic.{◌⊎◌, inl, inr, ⊎_elim}
use Prim.Native.Nat.{ℕ, ◌≤◌, ◌<◌}
use native.Mathlib.Nat.{le_refl, le_trans, le_of_lt}
use native.Mathlib.Omega.{arith}
use borrow.Author.Tests.{leb-true, leb-false, le-leb, lt-leb}
use lib.Dec.{leb}
use lib.ListN.{length, get_or}
use Rattle.std.specs.Prelude.{Option, Some, None}
use Rattle.std.proofs.lemmas.List.{map_push}
use Rattle.std.proofs.lemmas.Option.{none-some, same_Some}
use Rattle.graph.specs.Lists.{◌∈◌, here, later}
use Rattle.graph.specs.Graph.{Net, Graph, free, WellFormedNet, IsGate}
use Rattle.graph.specs.declared.lit.Var.{Var}
use Rattle.graph.proofs.Lists.{get_or_within}
use Rattle.graph.proofs.Members.{place_of, at_place, in_same}
use Rattle.window.specs.declared.leaf_set.Leaves.{Leaves}
use Rattle.window.specs.Leaves.{leaf_limit, numbers, leaf_list, leaves_of, ascends_from}
use Rattle.window.specs.LeafRule.{with_fanins, expand, Expandable, Chosen, Follows, stops, takes, picked}
use Rattle.window.specs.Growing.{grown_of, Tidy}
use Rattle.cutter.specs.declared.rule.Choice.{Choice}
use Rattle.cutter.specs.Picking.{fewest, better, best, Choosing}
use Rattle.window.proofs.Growing.{list_of, tidy_of, fits}
use Rattle.window.proofs.Along.{numbers_at, numbers_long}
use Rattle.window.proofs.Sets.{ascends_head, ascends_tail, ascends_above}
use Rattle.window.proofs.Weight.{weight}
use Rattle.window.proofs.Expansions.{CutUnder, fanins_length, start_cuts}
use Rattle.window.proofs.LeafRule.{chosen_cuts, chosen_weighs, rule_only}

-- ---- the best leaf, leaf by leaf

module _ (net : Net) (xs : List ℕ) where
  abbrev Fits : ℕ → Type 0
  Fits v = Expandable leaf_limit net xs v

  abbrev size_at : ℕ → ℕ
  size_at v = length (expand net xs v)

  -- the leaf of a choice
  abbrev leaf_of : Option Choice → ℕ
  leaf_of None = 0
  leaf_of (Some choice) = choice.leaf.0

  -- the best of the leaves up to a: none of them can be expanded; or this one, the smallest, the highest on ties
  record BestUpTo (a : ℕ) (c : Option Choice) : Type 0 where
    few : fewest c ≤ leaf_limit
    smallest : (u : ℕ) → u ≤ a → Fits u → fewest c ≤ size_at u
    highest : (u : ℕ) → u ≤ a → Fits u → leaf_of c < u → fewest c < size_at u
    which : ((c ≡ None) × ((u : ℕ) → u ≤ a → ¬ Fits u)) ⊎ ((b : Choice) × (c ≡ Some b) × Fits b.leaf.0 × (b.count ≡ size_at b.leaf.0))

  -- which of the two is the better
  module _ (c : Option Choice) (v : ℕ) where
    pub better_input : v ≤ free net → better net xs c v ≡ c
    unfolding better
    better_input h = rw (le-leb v (free net) h)

    pub better_larger : free net < v → fewest c < size_at v → better net xs c v ≡ c
    unfolding better
    better_larger h l = rw (lt-leb v (free net) h, lt-leb (size_at v) (fewest c) l)

    pub better_taken : free net < v → (n : ℕ) → n ≡ size_at v → n ≤ fewest c
        → better net xs c v ≡ Some (record { leaf = record { 0 = v }; count = n })
    unfolding better
    better_taken h n e l = rw (lt-leb v (free net) h, sym e, le-leb n (fewest c) l)

  -- one leaf more, where each leaf up to it is that one or was passed
  module _ (a v : ℕ) (c : Option Choice) (leaf : v ∈ xs) (next : (u : ℕ) → u ≤ v → Fits u → (u ≤ a) ⊎ (u ≡ v)) (b : BestUpTo a c) where
    -- one that cannot be expanded, or whose expansion is larger, changes nothing
    kept : (Fits v → fewest c < size_at v) → BestUpTo v c
    kept larger = record {
      few = b.few;
      smallest = λ u h f. ⊎_elim (λ l. b.smallest u l f) (λ e. rw e (le_of_lt (larger (rw e at f)))) (next u h f);
      highest = λ u h f k. ⊎_elim (λ l. b.highest u l f k) (λ e. rw e (larger (rw e at f))) (next u h f);
      which = ⊎_elim (λ n. inl (n.0, λ u h f. ⊎_elim (λ l. n.1 u l f) (λ e. none_here n.0 u e f) (next u h f))) inr b.which;
    }
      where
        none_here : c ≡ None → (u : ℕ) → u ≡ v → ¬ Fits u
        none_here n u e f = let g : Fits v = rw e at f in omega (arith, larger g, g.few, ap fewest n)

    abbrev this : Choice
    this = record { leaf = record { 0 = v }; count = size_at v }

    taken : free net < v → size_at v ≤ fewest c → BestUpTo v (Some this)
    taken gate small = record {
      few = omega (arith, b.few);
      smallest = λ u h f. ⊎_elim (λ l. le_trans small (b.smallest u l f)) (λ e. rw e (le_refl (size_at v))) (next u h f);
      highest = λ u h f k. absurd (omega arith);
      which = inr (this, refl, record { is_leaf = leaf; is_gate = gate; few = omega (arith, b.few) }, refl);
    }

    better_up : BestUpTo v (better net xs c v)
    unfolding better
    better_up = go (leb v (free net)) (leb (size_at v) (fewest c)) refl refl
      where
        go : (i s : Bool) → leb v (free net) ≡ i → leb (size_at v) (fewest c) ≡ s → BestUpTo v (cond i c (cond s (Some this) c))
        go true s p q = kept (λ f. absurd (omega (arith, f.is_gate, leb-true v (free net) p)))
        go false true p q = taken (leb-false v (free net) p) (leb-true (size_at v) (fewest c) q)
        go false false p q = kept (λ f. leb-false (size_at v) (fewest c) q)

  -- the best of all leaves decides
  pub data Decided (c : Option Choice) : Type 0 where
    none_left : c ≡ None → ((u : ℕ) → ¬ Fits u) → Decided c
    chosen : {b : Choice} → c ≡ Some b → Fits b.leaf.0 → Chosen leaf_limit net xs (expand net xs b.leaf.0) → Decided c

  all_up : (a : ℕ) (c : Option Choice) → ((u : ℕ) → Fits u → u ≤ a) → BestUpTo a c → Decided c
  all_up a c all b = ⊎_elim
      (λ n. none_left n.0 (λ u f. n.1 u (all u f) f))
      (λ (d, e, f, n).
      let count : fewest c ≡ size_at d.leaf.0 = ap fewest e ∙ n in
      chosen e f (record {
        leaf = d.leaf.0;
        is_expandable = f;
        expanded = refl;
        none_smaller = λ u g. rw (sym count) (b.smallest u (all u g) g);
        higher_larger = λ u g h. rw (sym count) (b.highest u (all u g) g (rw (ap leaf_of e) h));
      }))
      b.which

  best_up : (vs : List ℕ) (a : ℕ) (c : Option Choice) → ascends_from a vs ≡ true → ((u : ℕ) → Fits u → (u ≤ a) ⊎ (u ∈ vs))
      → ((u : ℕ) → u ∈ vs → u ∈ xs) → BestUpTo a c → Decided (best net xs vs c)
  unfolding best
  best_up [] a c up rest from b = all_up a c (λ u f. ⊎_elim (λ l. l) (λ i. elim i [ ]) (rest u f)) b
  best_up (v ∷ vs) a c up rest from b =
      let above = ascends_tail a v vs up in
      let high = ascends_head a v vs up in
      best_up vs v (better net xs c v) above (λ u f. ⊎_elim (λ l. inl (omega arith)) (λ i. sorted u i) (rest u f))
      (λ u i. from u (later i)) (better_up a v c (from v (here refl)) (λ u h f. ⊎_elim inl (λ i. inr (only u h i above)) (rest u f)) b)
    where
      sorted : (u : ℕ) → u ∈ (v ∷ vs) → (u ≤ v) ⊎ (u ∈ vs)
      sorted u (here e) = inl (omega arith)
      sorted u (later i) = inr i

      only : (u : ℕ) → u ≤ v → u ∈ (v ∷ vs) → ascends_from v vs ≡ true → u ≡ v
      only u h (here e) above = e
      only u h (later i) above = let p = place_of 0 i in absurd (omega (arith, ascends_above v vs above p.0 p.1, p.2))

  pub best_decides : ascends_from 0 xs ≡ true → Decided (best net xs xs None)
  best_decides up = best_up xs 0 None up (λ u f. inr f.is_leaf) (λ u i. i) (record {
    few = omega arith;
    smallest = λ u h f. absurd (omega (arith, f.is_gate));
    highest = λ u h f k. absurd (omega (arith, f.is_gate));
    which = inl (refl, λ u h f. omega (arith, f.is_gate));
  })

  pub decided_on : {c : Option Choice} {b : Choice} → Decided c → c ≡ Some b
      → Fits b.leaf.0 × Chosen leaf_limit net xs (expand net xs b.leaf.0)
  decided_on (none_left e n) h = absurd (none-some _ (sym e ∙ h))
  decided_on (chosen e f c) h = subst (λ (d : Choice). Fits d.leaf.0 × Chosen leaf_limit net xs (expand net xs d.leaf.0)) (same_Some _ _ (sym e ∙ h)) (f, c)

  pub decided_off : {c : Option Choice} → Decided c → c ≡ None → (u : ℕ) → ¬ Fits u
  decided_off (none_left e n) h = n
  decided_off (chosen e f c) h = absurd (none-some _ (sym h ∙ e))

  -- with one leaf more
  best_more : (vs : List ℕ) (v : ℕ) (c : Option Choice) → best net xs (vs ++ v ∷ []) c ≡ better net xs (best net xs vs c) v
  unfolding best
  best_more [] v c = refl
  best_more (u ∷ us) v c = best_more us v (better net xs c u)

  pub best_push : (vs : List Var) (v : Var) → best net xs (numbers (vs ++ v ∷ [])) None ≡ better net xs (best net xs (numbers vs) None) v.0
  unfolding numbers
  best_push vs v = ap (λ (us : List ℕ). best net xs us None) (map_push (λ (u : Var). u.0) vs v) ∙ best_more (numbers vs) v.0 None

-- a variable that stands at a place of the leaves is one of them
pub leaf_in : (w : Leaves) (vs : List Var) → numbers vs ≡ leaf_list w → (k : ℕ) → k < length vs → (v : Var) → v ≡ get_or vs k v → v.0 ∈ leaf_list w
leaf_in w vs e k h v at =
    let same : v.0 ≡ get_or (numbers vs) k 0 =
    ap (λ (u : Var). u.0) (at ∙ get_or_within vs k v (record { 0 = 0 }) h) ∙ numbers_at vs k in
    subst (λ (xs : List ℕ). v.0 ∈ xs) e (in_same same (at_place 0 (numbers vs) k (omega (arith, numbers_long vs))))

-- ---- the turns of the rule

-- the leaves are set down and cut the root, and where the rule comes to from here, it comes to from the start
pub record Going (net : Net) (root : ℕ) (w : Leaves) : Type 0 where
  pub tidy : Tidy w
  pub cut : CutUnder net root (leaf_list w)
  pub onward : (zs : List ℕ) → Follows leaf_limit net (leaf_list w) zs → Follows leaf_limit net (with_fanins net root []) zs

module _ (net : Net) (root : ℕ) (ok : WellFormedNet net) (gate : IsGate net root) where
  abbrev graph : Graph
  graph = record { net = net; outputs = [] }

  pub going_start : (w : Leaves) → w ≡ leaves_of (with_fanins net root []) → Going net root w
  going_start w e =
      let l = list_of w (with_fanins net root []) e in
      record {
        tidy = tidy_of w (with_fanins net root []) e (omega (arith, fanins_length net root []));
        cut = subst (CutUnder net root) (sym l) (start_cuts graph ok.lawful root gate);
        onward = λ zs f. subst (λ (ys : List ℕ). Follows leaf_limit net ys zs) l f;
      }

  module _ (w : Leaves) (g : Going net root w) where
    pub going_choosing : Choosing net w
    going_choosing = record {
      net_ok = ok;
      ascending = g.cut.ascending;
      within = λ v i. omega (arith, g.cut.below_root v i, gate.within);
    }

    -- a turn takes the expansion that is chosen, which fits
    module _ (v : ℕ) (c : Chosen leaf_limit net (leaf_list w) (expand net (leaf_list w) v)) where
      going_fits : length (expand net (leaf_list w) v) ≤ leaf_limit
      going_fits = omega (arith, c.is_expandable.few, ap length c.expanded)

      pub going_expands : {r : Option Leaves} → r ≡ grown_of (expand net (leaf_list w) v) → r ≡ Some (leaves_of (expand net (leaf_list w) v))
      going_expands e = e ∙ fits _ going_fits

      module _ (n : Leaves) (e : n ≡ leaves_of (expand net (leaf_list w) v)) where
        pub going_more : Going net root n
        going_more =
            let l = list_of n (expand net (leaf_list w) v) e in
            record {
              tidy = tidy_of n (expand net (leaf_list w) v) e going_fits;
              cut = subst (CutUnder net root) (sym l) (chosen_cuts graph ok.lawful leaf_limit root gate (leaf_list w) _ g.cut c);
              onward = λ zs f. g.onward zs (takes c (subst (λ (us : List ℕ). Follows leaf_limit net us zs) l f));
            }

        -- the sum of 2 ^ v over the leaves v falls
        pub going_less : weight (leaf_list n) < weight (leaf_list w)
        going_less =
            subst (λ (us : List ℕ). weight us < weight (leaf_list w)) (sym (list_of n (expand net (leaf_list w) v) e))
            (chosen_weighs graph ok.lawful leaf_limit root gate (leaf_list w) _ g.cut c)

    -- where no leaf can be expanded the rule has come to its end
    pub going_end : ((u : ℕ) → ¬ Expandable leaf_limit net (leaf_list w) u) → w ≡ picked net root
    unfolding picked
    going_end none =
        sym g.tidy.same
        ∙ ap leaves_of (rule_only graph ok.lawful leaf_limit root gate (leaf_list w) (g.onward (leaf_list w) (stops none)))
