-- The refusals of a proposal, test by test, and what is known where it has none.
-- Assumes nothing.
use mathlib.Core.Path.{◌≡◌, refl, sym, ◌∙◌}
use mathlib.Core.Bool.{Bool, true, false, not}
use mathlib.Core.List.{List, [], ◌∷◌}
use mathlib.Core.Option.{none, some, or_else, some-ne-none}
use Prim.Native.Nat.{ℕ, ◌<◌}
use native.Mathlib.Omega.{arith}
use Rattle.graph.specs.declared.refusal.Refusal.{Refusal}
use Rattle.graph.specs.declared.refusal.Refusal.TheVariants.{BadCandidate, NotEqual}
use Rattle.graph.specs.Literal.{var_of}
use Rattle.graph.specs.Graph.{Graph, IsGate}
use Rattle.graph.specs.Refuse.{Row, ◌⇒◌, first_refusal}
use Rattle.graph.proofs.Refuse.{first_join, none_parts}
use Rattle.window.specs.declared.leaf_set.Leaves.{Leaves}
use Rattle.window.specs.Calls.{window_refusals, Window}
use Rattle.window.proofs.Calls.{window_accepted}
use Rattle.replacement.specs.declared.types.Proposal.{Proposal}
use Rattle.replacement.specs.Proposal.{allowed, a_literal, an_and, AllowedByTest}
use Rattle.replacement.specs.Calls.{equal_tables, proposal_refusals}
use Rattle.replacement.proofs.ProposalLaws.{allowed_iff}

module _ (g : Graph) (root : ℕ) (w : Leaves) (p : Proposal) where
  own_rows : List Row
  own_rows = not (allowed g.net root w p) ⇒ BadCandidate ∷ not (equal_tables g root w p) ⇒ NotEqual ∷ []

  parts : first_refusal (proposal_refusals g root w p) ≡ or_else (first_refusal (window_refusals g root w)) (first_refusal own_rows)
  unfolding proposal_refusals own_rows
  parts = first_join (window_refusals g root w) own_rows

  refused : allowed g.net root w p ≡ false → first_refusal own_rows ≡ some BadCandidate
  unfolding first_refusal own_rows
  refused h = rw h

  pub by_window : (r : Refusal) → first_refusal (window_refusals g root w) ≡ some r → first_refusal (proposal_refusals g root w p) ≡ some r
  unfolding or_else
  by_window r e = parts ∙ rw e

  module _ (fine : first_refusal (window_refusals g root w) ≡ none) where
    pub bad_candidate : allowed g.net root w p ≡ false → first_refusal (proposal_refusals g root w p) ≡ some BadCandidate
    unfolding or_else first_refusal own_rows
    bad_candidate h = parts ∙ rw (fine, h)

    pub not_equal : allowed g.net root w p ≡ true → equal_tables g root w p ≡ false
        → first_refusal (proposal_refusals g root w p) ≡ some NotEqual
    unfolding or_else first_refusal own_rows
    not_equal h u = parts ∙ rw (fine, h, u)

    pub proposal_fine : allowed g.net root w p ≡ true → equal_tables g root w p ≡ true
        → first_refusal (proposal_refusals g root w p) ≡ none
    unfolding or_else first_refusal own_rows
    proposal_fine h u = parts ∙ rw (fine, h, u)

  -- without a refusal there is a window, and the proposal keeps its rule
  pub proposal_known : first_refusal (proposal_refusals g root w p) ≡ none → Window g root w × AllowedByTest g.net root w p
  unfolding proposal_refusals own_rows
  proposal_known e =
      let (fine, own) = none_parts (window_refusals g root w) own_rows e in
      (window_accepted g root w fine, (allowed_iff g.net root w p).0 (keeps own (allowed g.net root w p) refl))
    where
      keeps : first_refusal own_rows ≡ none → (t : Bool) → allowed g.net root w p ≡ t → allowed g.net root w p ≡ true
      keeps own true h = h
      keeps own false h = absurd (some-ne-none BadCandidate (sym (refused h) ∙ own))

  -- the literals of a proposal that keeps its rule lie below the root
  pub literals_below : IsGate g.net root → allowed g.net root w p ≡ true
      → (var_of p.first.0 < root) × (var_of p.second.0 < root)
  literals_below gate e = go ((allowed_iff g.net root w p).0 e)
    where
      go : AllowedByTest g.net root w p → (var_of p.first.0 < root) × (var_of p.second.0 < root)
      go (a_literal k d s t) = (d.below_root, let h = gate.above in omega arith)
      go (an_and k d d' z l t) = (d.below_root, d'.below_root)
