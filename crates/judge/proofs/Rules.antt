-- By what the sweeps have left: a kind's rule over the covered variables, and what a proposal's table is.
-- Assumes nothing.
use mathlib.Core.Path.{◌≡◌, ap, ap₂, ◌∙◌}
use mathlib.Core.Bool.{Bool, false, cond}
use mathlib.Core.List.{List}
use Prim.Native.Nat.{ℕ, ◌<◌}
use native.Mathlib.Omega.{arith}
use lib.Dec.{eqb}
use lib.ListN.{get_or}
use Rattle.graph.specs.Literal.{var_of, is_odd}
use Rattle.graph.specs.Lent.{written}
use Rattle.graph.specs.Graph.{Net}
use Rattle.graph.specs.Sweep.{turned, lit_value}
use Rattle.graph.proofs.Swept.{swept_literal}
use Rattle.window.specs.declared.leaf_set.Leaves.{Leaves}
use Rattle.window.specs.Local.{covered, covered_up_to, leaf_own}
use Rattle.window.specs.Table.{words, words_up_to, leaf_pattern}
use Rattle.cutter.proofs.Sweeping.{covered_at}
use Rattle.replacement.specs.declared.types.Proposal.{Proposal}
use Rattle.replacement.specs.Proposal.{keeps_rule, allowed, proposed_value, proposed_table}
use Rattle.replacement.proofs.ProposalLaws.{same_rule, proposed_by_words}

module _ (net : Net) (root : ℕ) (w : Leaves) (p : Proposal) where
  pub allowed_by : (covers lent : List Bool) → covers ≡ written (covered_up_to net w root) lent
      → keeps_rule (λ v. get_or covers v false) root p ≡ allowed net root w p
  unfolding allowed
  allowed_by covers lent e =
      same_rule root p (λ v. get_or covers v false) (covered net w) (λ v l. covered_at net w root covers lent e v (omega arith))

  module _ (tables lent : List ℕ) (e : tables ≡ written (words_up_to net w root) lent) where
    swept : (l : ℕ) → var_of l < root → lit_value words tables l ≡ lit_value words (words_up_to net w root) l
    unfolding words_up_to
    swept l h =
        ap (λ (ts : List ℕ). lit_value words ts l) e ∙ swept_literal words (leaf_own w leaf_pattern) net lent root l (omega arith)

    pub table_by : var_of p.first.0 < root → var_of p.second.0 < root
        → proposed_value words tables p ≡ proposed_table net root w p
    unfolding proposed_value
    table_by l m =
        ap₂ (λ (x y : ℕ). cond (eqb p.kind 0) x (turned words (is_odd p.turned) (words.conj x y))) (swept p.first.0 l)
        (swept p.second.0 m)
        ∙ proposed_by_words net root w p
