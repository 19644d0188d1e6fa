-- The list that is computed is the list that the rules ask for, and there is no other.
-- Assumes nothing.
use mathlib.Core.Path.{◌≡◌, refl, sym, ap, subst, ◌∙◌}
use mathlib.Core.Bool.{true, false≢true}
use mathlib.Core.List.{List, [], ◌∷◌}
use mathlib.Core.Logic.{◌↔◌}
use Prim.Native.Nat.{ℕ, ◌≤◌}
use borrow.Author.Tests.{ltb-true, lt-ltb, eqb-true, eq-eqb}
use lib.IntN.{ℤ, pos, negsuc, nat_abs}
use Rattle.graph.specs.Lists.{◌∈◌, here, keep}
use Rattle.graph.specs.Graph.{Graph, IsGate, Lawful}
use Rattle.graph.proofs.Members.{none_in, in_same, in_keep, keep_from, map_from, in_map}
use Rattle.graph.proofs.Lists.{and_left, and_right, and_both}
use Rattle.window.specs.declared.leaf_set.Leaves.{Leaves}
use Rattle.window.specs.Table.{same_table}
use Rattle.replacement.specs.declared.types.Proposal.{Proposal}
use Rattle.replacement.specs.Proposal.{allowed, RuleKept}
use Rattle.replacement.specs.Rewire.{gain, is_at_least_one}
use Rattle.replacement.specs.Calls.{equal_tables}
use Rattle.replacement.proofs.ProposalLaws.{allowed_iff, rule_iff}
use Rattle.listing.specs.declared.Candidate.{Candidate}
use Rattle.listing.specs.Listing.{
  candidates,
  good,
  candidate_of,
  listed,
  proposal_of,
  Good,
  GoodReplacement,
  GoodByTest,
  Before,
  IsTheList,
}
use Rattle.graph.proofs.Each.{Each}
use Rattle.listing.proofs.Sorted.{sorted_keep, sorted_map}
use Rattle.listing.proofs.Order.{sorted_ascending, ascending_same}
use Rattle.listing.proofs.Candidates.{allowed_in, candidates_sorted}

-- ---- good replacements and their records

pub gain_positive : (z : ℤ) → is_at_least_one z ≡ true → (z ≡ pos (nat_abs z)) × (1 ≤ nat_abs z)
unfolding is_at_least_one
gain_positive (pos n) e = (refl, ltb-true 0 n e)
gain_positive (negsuc n) e = absurd (false≢true e)

positive_gain : (z : ℤ) (n : ℕ) → z ≡ pos n → 1 ≤ n → is_at_least_one z ≡ true
unfolding is_at_least_one
positive_gain z n e h = ap is_at_least_one e ∙ lt-ltb 0 n h

module _ (g : Graph) (root : ℕ) (w : Leaves) where
  good_record : (p : Proposal) → good g root w p ≡ true → GoodByTest g root w (candidate_of g root p)
  unfolding good candidate_of equal_tables same_table
  good_record p e =
      let tests = and_right (allowed g.net root w p) _ e in
      let positive = gain_positive (gain g root p) (and_right (equal_tables g root w p) _ tests) in
      record {
        rule_kept = (allowed_iff g.net root w p).0 (and_left (allowed g.net root w p) _ e);
        equals = eqb-true _ _ (and_left (equal_tables g root w p) _ tests);
        gain_is = positive.0;
        at_least_one = positive.1;
      }

  record_good : (x : Candidate) → GoodByTest g root w x → good g root w (proposal_of x) ≡ true
  unfolding good equal_tables same_table
  record_good x r =
      and_both _ _ ((allowed_iff g.net root w (proposal_of x)).1 r.rule_kept)
      (and_both _ _ (eq-eqb _ _ r.equals) (positive_gain _ x.gain r.gain_is r.at_least_one))

  record_is : (x : Candidate) → GoodByTest g root w x → x ≡ candidate_of g root (proposal_of x)
  unfolding candidate_of
  record_is x r =
      ap (λ (z : ℤ). record { kind = x.kind; first = x.first; second = x.second; turned = x.turned; gain = nat_abs z })
      (sym r.gain_is)

  listed_good : Each (GoodByTest g root w) (listed g root w)
  unfolding listed
  listed_good x m =
      let from = map_from (candidate_of g root) (keep (good g root w) (candidates root)) m in
      subst (GoodByTest g root w) (sym from.2) (good_record from.0 (keep_from (good g root w) (candidates root) from.1).1)

  good_listed : (x : Candidate) → GoodByTest g root w x → x ∈ listed g root w
  unfolding listed
  good_listed x r =
      let p = proposal_of x in
      in_same (record_is x r)
      (in_map (candidate_of g root)
      (in_keep (good g root w) (candidates root) (allowed_in g.net root w p r.rule_kept) (record_good x r)))

-- ---- the list

pub listed_is : (g : Graph) (root : ℕ) (w : Leaves) → IsTheList (GoodByTest g root w) (listed g root w)
unfolding listed
listed_is g root w = record {
  holds = λ x. (listed_good g root w x, good_listed g root w x);
  ascends = sorted_ascending (sorted_map Before (candidate_of g root) (sorted_keep _ (good g root w) (candidates_sorted g root)));
}

-- at a gate the test of coverage and coverage itself come to the same
module _ (g : Graph) (ok : Lawful g) (root : ℕ) (gate : IsGate g.net root) (w : Leaves) where
  pub good_iff : (x : Candidate) → GoodByTest g root w x ↔ GoodReplacement g root w x
  good_iff x = (λ r. by (rule_iff g ok root gate w (proposal_of x)).0 r, λ r. by (rule_iff g ok root gate w (proposal_of x)).1 r)
    where
      by : {C D : ℕ → Type 0} → (RuleKept C root (proposal_of x) → RuleKept D root (proposal_of x)) → Good C g root w x → Good D g root w x
      by rule r =
          record { rule_kept = rule r.rule_kept; equals = r.equals; gain_is = r.gain_is; at_least_one = r.at_least_one }

  pub listed_is_every_good : IsTheList (GoodReplacement g root w) (listed g root w)
  listed_is_every_good =
      let list = listed_is g root w in
      record {
        holds = λ x. (λ m. (good_iff x).0 ((list.holds x).0 m), λ r. (list.holds x).1 ((good_iff x).1 r));
        ascends = list.ascends;
      }

pub the_list : {IsGood : Candidate → Type 0} (xs ys : List Candidate) → IsTheList IsGood xs → IsTheList IsGood ys → xs ≡ ys
the_list xs ys a b =
    ascending_same xs ys a.ascends b.ascends
    (λ x. (λ m. (b.holds x).1 ((a.holds x).0 m), λ m. (a.holds x).1 ((b.holds x).0 m)))

no_members : {A : Type 0} (xs : List A) → ((x : A) → ¬ (x ∈ xs)) → xs ≡ []
no_members [] h = refl
no_members (x ∷ xs) h = absurd (h x (here refl))

-- the list is empty if and only if there is no good replacement
pub list_empty_iff : (g : Graph) (root : ℕ) (w : Leaves) → (listed g root w ≡ []) ↔ ((x : Candidate) → ¬ GoodByTest g root w x)
list_empty_iff g root w =
    (λ e x r. none_in (rw e at (good_listed g root w x r)), λ h. no_members (listed g root w) (λ x m. h x (listed_good g root w x m)))
