-- Coverage: the test says what the rules say, and a covered variable's value is its local function at the leaves' values.
-- Assumes nothing.
use mathlib.Core.Path.{◌≡◌, refl, sym, ap, ap₂, subst, ◌∙◌}
use mathlib.Core.Bool.{Bool, true, false, ◌&&◌, false≢true, and-eq-true_iff}
use mathlib.Core.List.{List}
use mathlib.Core.Logic.{◌↔◌, ⊎_elim}
use mathlib.Core.Option.{Option, none, some, map}
use Prim.Native.Nat.{ℕ, zero, suc, ◌≤◌, ◌<◌}
use native.Mathlib.Omega.{arith}
use borrow.Author.Tests.{le-leb, lt-leb}
use lib.ListN.{get_or, get_or-eq_default}
use Rattle.graph.specs.Lists.{◌∈◌}
use Rattle.graph.specs.Literal.{var_of, is_odd}
use Rattle.graph.specs.Graph.{Net, Graph, free, last, first, second, IsGate, Lawful}
use Rattle.graph.specs.Sweep.{bools, turned, lit_value, values, value_at}
use Rattle.graph.specs.Evaluate.{assigned}
use Rattle.graph.proofs.Lists.{at_most_or_above, strong, and_both}
use Rattle.graph.proofs.Sweep.{values_length, values_at, own_value, gate_value}
use Rattle.graph.proofs.Evaluate.{assigned_gate}
use Rattle.graph.proofs.Members.{at_place}
use Rattle.window.specs.declared.leaf_set.Leaves.{Leaves}
use Rattle.window.specs.Leaves.{leaf_list, leaf_place}
use Rattle.window.specs.Local.{Covered, zero_is, leaf_is, gate_is, coverage, covered_own, covered, leaf_own, local_at}
use Rattle.window.proofs.LeafPlaces.{leaf_found, leaf_missed}

-- ---- one step of coverage

-- of a literal only its variable counts
pub literal_covered : (covers : List Bool) (l : ℕ) → lit_value coverage covers l ≡ get_or covers (var_of l) true
unfolding lit_value turned coverage
literal_covered covers l = go (is_odd l)
  where
    go : (b : Bool) → turned coverage b (get_or covers (var_of l) true) ≡ get_or covers (var_of l) true
    go true = refl
    go false = refl

module _ (net : Net) (w : Leaves) where
  abbrev covers : ℕ → List Bool
  covers n = values coverage (covered_own net w) net n

  covers_at : (n v : ℕ) → v ≤ n → get_or (covers n) v true ≡ covered net w v
  unfolding covered coverage
  covers_at n v h = values_at coverage (covered_own net w) net n v h

  covered_leaf : (n j : ℕ) → leaf_place w (suc n) ≡ some j → covered net w (suc n) ≡ true
  unfolding covered covered_own
  covered_leaf n j e = own_value coverage (covered_own net w) net n true (rw (e, covered_own))

  uncovered_input : (n : ℕ) → leaf_place w (suc n) ≡ none → suc n ≤ free net → covered net w (suc n) ≡ false
  unfolding covered covered_own
  uncovered_input n e h = own_value coverage (covered_own net w) net n false (rw (e, covered_own, le-leb (suc n) (free net) h))

  covered_gate : (n : ℕ) → leaf_place w (suc n) ≡ none → free net < suc n
      → covered net w (suc n) ≡ get_or (covers n) (var_of (first net (suc n))) true && get_or (covers n) (var_of (second net (suc n))) true
  unfolding covered coverage covered_own
  covered_gate n e h =
      gate_value coverage (covered_own net w) net n (rw (e, covered_own, lt-leb (suc n) (free net) h)) h
      ∙ ap₂ ◌&&◌ (literal_covered (covers n) (first net (suc n))) (literal_covered (covers n) (second net (suc n)))

  -- a leaf is covered, so to be covered is to be shown for what is no leaf
  covered_or_missed : (n : ℕ) → (leaf_place w (suc n) ≡ none → covered net w (suc n) ≡ true) → covered net w (suc n) ≡ true
  covered_or_missed n f = go (leaf_place w (suc n)) refl
    where
      go : (p : Option ℕ) → leaf_place w (suc n) ≡ p → covered net w (suc n) ≡ true
      go (some j) e = covered_leaf n j e
      go none e = f e

  -- what is covered is a leaf, or a gate whose fanin variables are
  covered_cases : {C : Type 0} (n : ℕ) → covered net w (suc n) ≡ true → ((j : ℕ) → leaf_place w (suc n) ≡ some j → C)
      → (leaf_place w (suc n) ≡ none
      → free net < suc n
      → get_or (covers n) (var_of (first net (suc n))) true ≡ true
      → get_or (covers n) (var_of (second net (suc n))) true ≡ true
      → C)
      → C
  covered_cases {C} n c leaf gate = go (leaf_place w (suc n)) refl
    where
      go : (p : Option ℕ) → leaf_place w (suc n) ≡ p → C
      go (some j) e = leaf j e
      go none e = ⊎_elim
          (λ h. absurd (false≢true (sym (uncovered_input n e h) ∙ c)))
          (λ h. let both = (and-eq-true_iff _ _).0 (sym (covered_gate n e h) ∙ c) in gate e h both.0 both.1)
          (at_most_or_above (suc n) (free net))

-- ---- the test and the rules

covered_zero : (net : Net) (w : Leaves) → covered net w 0 ≡ true
unfolding covered value_at values coverage
covered_zero net w = refl

covered_in_lem : (net : Net) (w : Leaves) (v : ℕ) → v ∈ leaf_list w → covered net w v ≡ true
covered_in_lem net w zero i = covered_zero net w
covered_in_lem net w (suc n) i = covered_or_missed net w n (λ e. absurd (leaf_missed w (suc n) e i))

module _ (g : Graph) (law : Lawful g) (w : Leaves) where
  open g use {net}

  first_below : (n : ℕ) → IsGate net (suc n) → var_of (first net (suc n)) ≤ n
  first_below n i = omega (arith, law.below (suc n) i)

  second_below : (n : ℕ) → IsGate net (suc n) → var_of (second net (suc n)) ≤ n
  second_below n i = omega (arith, law.below (suc n) i, law.ordered (suc n) i)

  by_gate_lem : (v : ℕ) → IsGate net v → covered net w (var_of (first net v)) ≡ true → covered net w (var_of (second net v)) ≡ true
      → covered net w v ≡ true
  by_gate_lem zero i a b = covered_zero net w
  by_gate_lem (suc n) i a b = covered_or_missed net w n
      (λ e.
      covered_gate net w n e i.above
      ∙ and_both _ _ (covers_at net w n _ (first_below n i) ∙ a) (covers_at net w n _ (second_below n i) ∙ b))

  is_covered : {v : ℕ} → Covered net w v → covered net w v ≡ true
  is_covered zero_is = covered_zero net w
  is_covered (leaf_is j h) = covered_in_lem net w _ (at_place 0 (leaf_list w) j h)
  is_covered (gate_is {v} i a b) = by_gate_lem v i (is_covered a) (is_covered b)

  -- from what holds below it
  covers_next : (n : ℕ) → suc n ≤ last net → ((v : ℕ) → v ≤ n → covered net w v ≡ true → Covered net w v) → covered net w (suc n) ≡ true
      → Covered net w (suc n)
  covers_next n l below c = covered_cases net w n c
      (λ j e. let s = leaf_found w (suc n) j e in subst (Covered net w) s.1 (leaf_is j s.0))
      (λ e k a b.
      let i : IsGate net (suc n) = record { above = k; within = l } in
      gate_is i
      (below _ (first_below n i) (sym (covers_at net w n _ (first_below n i)) ∙ a))
      (below _ (second_below n i) (sym (covers_at net w n _ (second_below n i)) ∙ b)))

  pub covered_iff : (v : ℕ) → v ≤ last net → (covered net w v ≡ true) ↔ Covered net w v
  covered_iff v h = (
    strong (λ v. v ≤ last net → covered net w v ≡ true → Covered net w v) (λ _ _. zero_is)
        (λ n r l. covers_next n l (λ u k. r u k (omega arith))) v h,
    is_covered,
  )

-- ---- the value of a covered variable

module _ (net : Net) (w : Leaves) (a : ℕ → Bool) where
  abbrev value : ℕ → Bool
  value v = value_at bools (assigned net a) net v

  abbrev leaf_value : ℕ → Bool
  leaf_value j = value (get_or (leaf_list w) j 0)

  abbrev Agrees : ℕ → Type 0
  Agrees v = covered net w v ≡ true → value v ≡ local_at net w leaf_value v

  own_by : (v : ℕ) (p : Option ℕ) → leaf_place w v ≡ p → leaf_own w leaf_value v ≡ map leaf_value p
  unfolding leaf_own
  own_by v p e = ap (map leaf_value) e

  literals_agree : (n l : ℕ) → ((v : ℕ) → v ≤ n → Agrees v) → get_or (covers net w n) (var_of l) true ≡ true
      → lit_value bools (values bools (assigned net a) net n) l ≡ lit_value bools (values bools (leaf_own w leaf_value) net n) l
  unfolding lit_value local_at
  literals_agree n l below c = ap (turned bools (is_odd l)) (⊎_elim
      (λ h.
      values_at bools (assigned net a) net n (var_of l) h
      ∙ below (var_of l) h (sym (covers_at net w n (var_of l) h) ∙ c)
      ∙ sym (values_at bools (leaf_own w leaf_value) net n (var_of l) h))
      (λ h. past (assigned net a) h ∙ sym (past (leaf_own w leaf_value) h))
      (at_most_or_above (var_of l) n))
    where
      -- past the end every sweep has what variable 0 has
      past : (own : ℕ → Option Bool) → n < var_of l → get_or (values bools own net n) (var_of l) bools.no ≡ bools.no
      past own h = get_or-eq_default (values bools own net n) bools.no (omega (arith, values_length bools own net n))

  agrees_next : (n : ℕ) → ((v : ℕ) → v ≤ n → Agrees v) → Agrees (suc n)
  unfolding local_at
  agrees_next n below c = covered_cases net w n c
      (λ j e. ap value (sym (leaf_found w (suc n) j e).1)
      ∙ sym (own_value bools (leaf_own w leaf_value) net n (leaf_value j) (own_by (suc n) (some j) e)))
      (λ e h p q.
      gate_value bools (assigned net a) net n (assigned_gate net a (suc n) h) h
      ∙ ap₂ bools.conj (literals_agree n (first net (suc n)) below p) (literals_agree n (second net (suc n)) below q)
      ∙ sym (gate_value bools (leaf_own w leaf_value) net n (own_by (suc n) none e) h))

  agrees_zero : Agrees 0
  unfolding value_at values local_at
  agrees_zero c = refl

  pub covered_value : (v : ℕ) → covered net w v ≡ true
      → value_at bools (assigned net a) net v ≡ local_at net w (λ j. value_at bools (assigned net a) net (get_or (leaf_list w) j 0)) v
  covered_value = strong Agrees agrees_zero agrees_next
