-- A proposal that keeps its kind's rule, as facts; and where its table is the root's, it computes what the root computes.
-- Assumes nothing.
use mathlib.Core.Path.{◌≡◌, refl, sym, ap, ap₂, ◌∙◌}
use mathlib.Core.Bool.{Bool, true, false, cond, false≢true}
use mathlib.Core.List.{List, map}
use mathlib.Core.Logic.{⊎_elim, ◌↔◌}
use Prim.Native.Nat.{ℕ, ◌≤◌, ◌<◌}
use native.Mathlib.Omega.{arith}
use borrow.Author.Tests.{leb-true, ltb-true, eqb-true, le-leb, lt-ltb, eq-eqb, ne_eqb}
use lib.Dec.{ltb, eqb}
use lib.ListN.{get_or}
use Rattle.graph.specs.Lists.{every}
use Rattle.graph.specs.Literal.{var_of, is_odd}
use Rattle.graph.specs.Graph.{Net, Graph, last, IsGate, Lawful}
use Rattle.graph.specs.Sweep.{Algebra, bools, turned, lit_value}
use Rattle.graph.proofs.Lists.{equal_or_not, same_tests, and_left, and_right, and_both, every_at, every_of, done, ◌then◌}
use Rattle.graph.proofs.Sweep.{cond_map, Respects, turned_map, lit_value_map}
use Rattle.window.specs.declared.leaf_set.Leaves.{Leaves}
use Rattle.window.specs.Leaves.{leaf_limit}
use Rattle.window.specs.Local.{Covered, covered, Tested, local_up_to, local_at}
use Rattle.window.specs.Table.{bit, pack, patterns, table, words, words_up_to}
use Rattle.window.proofs.Local.{covered_iff}
use Rattle.window.proofs.Bits.{pack_lt, pack_ext, pack_equal}
use Rattle.window.proofs.TableLaws.{table_is, by_pattern, functions, at_pattern, functions_at, by_packing, functions_packed}
use Rattle.window.proofs.Patterns.{locals_by_pattern, local_by_pattern}
use Rattle.replacement.specs.declared.types.Proposal.{Proposal}
use Rattle.replacement.specs.Proposal.{
  divides,
  Divides,
  literal_rules,
  and_rules,
  keeps_rule,
  allowed,
  RuleKept,
  AllowedByTest,
  a_literal,
  an_and,
  proposed_value,
  proposed_table,
}
use Rattle.replacement.proofs.Circuit.{Computes}

-- ---- the rules

module _ (cov : ℕ → Bool) (root : ℕ) where
  abbrev Tests : ℕ → Type 0
  Tests v = cov v ≡ true

  divides_facts : (l : ℕ) → divides cov root l ≡ true → Divides Tests root l
  unfolding divides
  divides_facts l e = record {
    below_root = ltb-true (var_of l) root (and_left _ (cov (var_of l)) e);
    is_covered = and_right (ltb (var_of l) root) _ e;
  }

  divides_test : (l : ℕ) → Divides Tests root l → divides cov root l ≡ true
  unfolding divides
  divides_test l d = and_both _ _ (lt-ltb (var_of l) root d.below_root) d.is_covered

  module _ (p : Proposal) where
    by_literal : p.kind ≡ 0 → keeps_rule cov root p ≡ every (literal_rules cov root p)
    unfolding keeps_rule
    by_literal e = rw e

    by_and : p.kind ≡ 1 → keeps_rule cov root p ≡ every (and_rules cov root p)
    unfolding keeps_rule
    by_and e = rw e

    by_none : ¬ (p.kind ≡ 0) → ¬ (p.kind ≡ 1) → keeps_rule cov root p ≡ false
    unfolding keeps_rule
    by_none n m = rw (ne_eqb p.kind 0 n, ne_eqb p.kind 1 m)

    literal_facts : p.kind ≡ 0 → every (literal_rules cov root p) ≡ true → RuleKept Tests root p
    unfolding literal_rules
    literal_facts k e =
        let at = every_at (literal_rules cov root p) e in
        a_literal k (divides_facts p.first.0 (at 0)) (eqb-true _ _ (at 1)) (eqb-true _ _ (at 2))

    and_facts : p.kind ≡ 1 → every (and_rules cov root p) ≡ true → RuleKept Tests root p
    unfolding and_rules
    and_facts k e =
        let at = every_at (and_rules cov root p) e in
        an_and k (divides_facts p.first.0 (at 0)) (divides_facts p.second.0 (at 1)) (ltb-true _ _ (at 2)) (ltb-true _ _ (at 3))
        (leb-true _ _ (at 4))

    rule_facts : keeps_rule cov root p ≡ true → RuleKept Tests root p
    rule_facts e = ⊎_elim
        (λ k. literal_facts k (sym (by_literal k) ∙ e))
        (λ n. ⊎_elim (λ k. and_facts k (sym (by_and k) ∙ e)) (λ m. absurd (false≢true (sym (by_none n m) ∙ e))) (equal_or_not p.kind 1))
        (equal_or_not p.kind 0)

    rule_test : RuleKept Tests root p → keeps_rule cov root p ≡ true
    unfolding literal_rules and_rules
    rule_test (a_literal k d s t) = by_literal k ∙ every_of (divides_test p.first.0 d then eq-eqb _ _ s then eq-eqb _ _ t then done)
    rule_test (an_and k d d' z l t) =
        by_and k
        ∙ every_of (divides_test p.first.0 d then divides_test
        p.second.0 d' then lt-ltb _ _ z then lt-ltb _ _ l then le-leb _ _ t then done)

    keeps_rule_iff : (keeps_rule cov root p ≡ true) ↔ RuleKept Tests root p
    keeps_rule_iff = (rule_facts, rule_test)

pub allowed_iff : (net : Net) (root : ℕ) (w : Leaves) (p : Proposal) → (allowed net root w p ≡ true) ↔ AllowedByTest net root w p
unfolding allowed
allowed_iff net root w p = keeps_rule_iff (covered net w) root p

-- a rule that is kept by one notion of coverage is kept by another that goes as far below the root
module _ {C D : ℕ → Type 0} (root : ℕ) (as-far : (v : ℕ) → v < root → C v → D v) where
  divides_too : {l : ℕ} → Divides C root l → Divides D root l
  divides_too {l} d = record { below_root = d.below_root; is_covered = as-far (var_of l) d.below_root d.is_covered }

  rule_too : {p : Proposal} → RuleKept C root p → RuleKept D root p
  rule_too (a_literal k d s t) = a_literal k (divides_too d) s t
  rule_too (an_and k d d' z l t) = an_and k (divides_too d) (divides_too d') z l t

-- so tests that agree below the root decide the rule alike
pub same_rule : (root : ℕ) (p : Proposal) (c d : ℕ → Bool) → ((v : ℕ) → v < root → c v ≡ d v) → keeps_rule c root p ≡ keeps_rule d root p
same_rule root p c d same = same_tests _ _
    (λ k. rule_test d root p (rule_too root (λ v l t. sym (same v l) ∙ t) (rule_facts c root p k)))
    (λ k. rule_test c root p (rule_too root (λ v l t. same v l ∙ t) (rule_facts d root p k)))

-- at a gate the test of coverage and coverage itself come to the same
pub rule_iff : (g : Graph) → Lawful g → (root : ℕ) → IsGate g.net root → (w : Leaves) (p : Proposal)
    → AllowedByTest g.net root w p ↔ RuleKept (Covered g.net w) root p
rule_iff g ok root gate w p =
    let below : (v : ℕ) → v < root → v ≤ last g.net = λ v l. let h = gate.within in omega arith in (
      rule_too root (λ v l. (covered_iff g ok w v (below v l)).0),
      rule_too root (λ v l. (covered_iff g ok w v (below v l)).1),
    )

-- ---- the value of a proposal

module _ (p : Proposal) where
  pub value_of_literal : p.kind ≡ 0 → (vs : List Bool) → proposed_value bools vs p ≡ lit_value bools vs p.first.0
  unfolding proposed_value
  value_of_literal e vs = rw e

  pub value_of_and : p.kind ≡ 1 → (vs : List Bool)
      → proposed_value bools vs p
      ≡ turned bools (is_odd p.turned) (bools.conj (lit_value bools vs p.first.0) (lit_value bools vs p.second.0))
  unfolding proposed_value
  value_of_and e vs = rw e

-- a map between kinds that keeps variable 0, the AND and the complement keeps a proposal's value
proposed_map : {A B : Type 0} (h : A → B) (K : Algebra A) (L : Algebra B) → Respects h K L → (vs : List A) (p : Proposal)
    → h (proposed_value K vs p) ≡ proposed_value L (map h vs) p
unfolding proposed_value
proposed_map h K L r vs p =
    cond_map h (eqb p.kind 0) _ _
    ∙ ap₂ (cond (eqb p.kind 0)) (lit_value_map h K L r vs p.first.0)
    (turned_map h K L r (is_odd p.turned) _
    ∙ ap (turned L (is_odd p.turned))
    (r.keeps_conj _ _ ∙ ap₂ L.conj (lit_value_map h K L r vs p.first.0) (lit_value_map h K L r vs p.second.0)))

table_of_proposal : (net : Net) (root : ℕ) (w : Leaves) (p : Proposal)
    → proposed_table net root w p ≡ pack patterns (λ i. proposed_value bools (local_up_to net w (bit i) root) p)
unfolding proposed_table
table_of_proposal net root w p = refl

-- by words, all patterns at once
pub proposed_by_words : (net : Net) (root : ℕ) (w : Leaves) (p : Proposal)
    → proposed_value words (words_up_to net w root) p ≡ proposed_table net root w p
proposed_by_words net root w p =
    ap (λ (vs : List ℕ). proposed_value words vs p) (sym (functions_packed net w root))
    ∙ sym (proposed_map (pack patterns) by_pattern words by_packing (functions net w root) p)
    ∙ pack_ext patterns _ _ (λ i _.
    proposed_map (λ f. f i) by_pattern bools (at_pattern i) (functions net w root) p
    ∙ ap (λ (vs : List Bool). proposed_value bools vs p) (functions_at net w root i))
    ∙ sym (table_of_proposal net root w p)

module _ (net : Net) (root : ℕ) (w : Leaves) (p : Proposal) where
  abbrev Agree : List Bool → List Bool → Type 0
  Agree vs vs' = (v : ℕ) → v < root → covered net w v ≡ true → get_or vs v false ≡ get_or vs' v false

  literal_relies : (vs vs' : List Bool) → Agree vs vs' → (l : ℕ) → Divides (Tested net w) root l
      → lit_value bools vs l ≡ lit_value bools vs' l
  unfolding lit_value bools
  literal_relies vs vs' h l d = ap (turned bools (is_odd l)) (h (var_of l) d.below_root d.is_covered)

  value_relies : AllowedByTest net root w p → (vs vs' : List Bool) → Agree vs vs' → proposed_value bools vs p ≡ proposed_value bools vs' p
  value_relies (a_literal k d s t) vs vs' h =
      value_of_literal p k vs ∙ literal_relies vs vs' h p.first.0 d ∙ sym (value_of_literal p k vs')
  value_relies (an_and k d d' z l t) vs vs' h =
      value_of_and p k vs
      ∙ ap₂ (λ (x y : Bool). turned bools (is_odd p.turned) (bools.conj x y)) (literal_relies vs vs' h p.first.0 d)
      (literal_relies vs vs' h p.second.0 d')
      ∙ sym (value_of_and p k vs')

  -- equal tables are equal functions, under every assignment of the leaves
  pub equal_table_computes : w.count ≤ leaf_limit → AllowedByTest net root w p → proposed_table net root w p ≡ table net w root
      → Computes net w root (λ vs. proposed_value bools vs p)
  equal_table_computes c ok e = record {
    relies = value_relies ok;
    same_function = λ a.
        ap (λ (vs : List Bool). proposed_value bools vs p) (locals_by_pattern net w c a root)
        ∙ (pack_equal patterns (λ i. proposed_value bools (local_up_to net w (bit i) root) p) (λ i. local_at net w (bit i) root)).0
        (sym (table_of_proposal net root w p) ∙ e ∙ table_is net w root) (pack leaf_limit a) (pack_lt leaf_limit a)
        ∙ sym (local_by_pattern net w c a root);
  }
