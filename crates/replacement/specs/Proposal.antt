-- A proposal: its rule, its local value and its table, each by kind.
-- Assumes nothing.
use Rattle.std.specs.Prelude.{ℕ, ◌≤◌, ◌<◌, ◌≡◌, Bool, false, cond, ◌&&◌, List, [], ◌∷◌, leb, ltb, eqb}
use Rattle.graph.specs.Lists.{every}
use Rattle.graph.specs.Literal.{var_of, is_odd}
use Rattle.graph.specs.Graph.{Net}
use Rattle.graph.specs.Sweep.{Algebra, bools, turned, lit_value}
use Rattle.window.specs.declared.leaf_set.Leaves.{Leaves}
use Rattle.window.specs.Local.{covered, Tested, local_up_to}
use Rattle.window.specs.Table.{bit, pack, patterns}
use Rattle.replacement.specs.declared.types.Proposal.{Proposal}

abbrev pub literal : ℕ → Proposal
literal l = record { kind = 0; first = record { 0 = l }; second = record { 0 = 0 }; turned = 0 }

abbrev pub and_gate : ℕ → ℕ → ℕ → Proposal
and_gate a b c = record { kind = 1; first = record { 0 = a }; second = record { 0 = b }; turned = c }

-- where cov tests which variables are covered: the literal's variable is, and it is below the root
unfoldable pub divides : (ℕ → Bool) → ℕ → ℕ → Bool
divides cov root l = ltb (var_of l) root && cov (var_of l)

-- kind 0: such a literal, variable 0 included; second and turned are 0
unfoldable pub literal_rules : (ℕ → Bool) → ℕ → Proposal → List Bool
unfolding divides
literal_rules cov root p = divides cov root p.first.0 ∷ eqb p.second.0 0 ∷ eqb p.turned 0 ∷ []

-- kind 1: two such literals, both variables at least 1, the second's below the first's; turned is 0 or 1
unfoldable pub and_rules : (ℕ → Bool) → ℕ → Proposal → List Bool
unfolding divides
and_rules cov root p =
    divides cov root p.first.0
    ∷ divides cov root p.second.0
    ∷ ltb 0 (var_of p.second.0)
    ∷ ltb (var_of p.second.0) (var_of p.first.0)
    ∷ leb p.turned 1
    ∷ []

-- the proposal keeps the rule of its kind; there are no other kinds
unfoldable pub keeps_rule : (ℕ → Bool) → ℕ → Proposal → Bool
unfolding every literal_rules and_rules
keeps_rule cov root p =
    cond (eqb p.kind 0) (every (literal_rules cov root p)) (cond (eqb p.kind 1) (every (and_rules cov root p)) false)

-- over these leaves
unfoldable pub allowed : Net → ℕ → Leaves → Proposal → Bool
unfolding keeps_rule covered
allowed net root w p = keeps_rule (covered net w) root p

-- the same as facts, where Cov says which variables are covered: those that pass the test (`Tested`), or those that are (`Covered`)
pub record Divides (Cov : ℕ → Type 0) (root l : ℕ) : Type 0 where
  pub below_root : var_of l < root
  pub is_covered : Cov (var_of l)

pub data RuleKept (Cov : ℕ → Type 0) (root : ℕ) (p : Proposal) : Type 0 where
  a_literal : p.kind ≡ 0 → Divides Cov root p.first.0 → p.second.0 ≡ 0 → p.turned ≡ 0 → RuleKept Cov root p
  an_and : p.kind ≡ 1
      → Divides Cov root p.first.0
      → Divides Cov root p.second.0
      → 0 < var_of p.second.0
      → var_of p.second.0 < var_of p.first.0
      → p.turned ≤ 1
      → RuleKept Cov root p

-- by the test, which answers whatever the net, the root and the leaves are
abbrev pub AllowedByTest : Net → ℕ → Leaves → Proposal → Type 0
AllowedByTest net root w p = RuleKept (Tested net w) root p

-- the proposal's value over any algebra, where vs has the values of the variables below the root
unfoldable pub proposed_value : {A : Type 0} → Algebra A → List A → Proposal → A
unfolding turned lit_value
proposed_value K vs p =
    cond (eqb p.kind 0) (lit_value K vs p.first.0)
    (turned K (is_odd p.turned) (K.conj (lit_value K vs p.first.0) (lit_value K vs p.second.0)))

-- the proposal's table over the leaves
unfoldable pub proposed_table : Net → ℕ → Leaves → Proposal → ℕ
unfolding pack bit local_up_to proposed_value bools
proposed_table net root w p = pack patterns (λ i. proposed_value bools (local_up_to net w (bit i) root) p)
