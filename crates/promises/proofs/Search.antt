-- Demand 3: the list holds every good replacement, nothing else, each once, in order; a run ends where no gate has one left.
-- Assumes nothing.
use mathlib.Core.Path.{◌≡◌}
use mathlib.Core.Bool.{Bool, true}
use mathlib.Core.List.{List, [], ◌∷◌}
use mathlib.Core.Logic.{◌↔◌}
use Prim.Native.Nat.{ℕ, ◌+◌, ◌≤◌, ◌<◌}
use native.Mathlib.Omega.{arith}
use lib.ListN.{length, get_or}
use Rattle.graph.specs.Lists.{◌∈◌}
use Rattle.graph.specs.Graph.{Net, Graph, free, last, IsGate, WellFormed}
use Rattle.graph.specs.Use.{used_gates}
use Rattle.graph.specs.Drop.{dropped}
use Rattle.graph.specs.Evaluate.{value_under}
use Rattle.window.specs.declared.leaf_set.Leaves.{Leaves}
use Rattle.window.specs.Leaves.{leaf_limit, leaf_list, WellSet}
use Rattle.window.specs.Local.{Covered, covered, local_at}
use Rattle.window.specs.Table.{bit, patterns, table}
use Rattle.window.specs.LeafRule.{with_fanins, expand, rule_leaves, picked, Follows}
use Rattle.window.proofs.Local.{covered_iff, covered_value}
use Rattle.window.proofs.TableLaws.{table_bit}
use Rattle.window.proofs.Patterns.{equal_tables_equal_functions}
use Rattle.window.proofs.LeafRule.{rule_follows, rule_only, picked_well_set, picked_cuts, picked_no_expansion}
use Rattle.window.specs.Calls.{Window}
use Rattle.replacement.specs.declared.types.Proposal.{Proposal}
use Rattle.replacement.specs.Rewire.{finished, gain}
use Rattle.replacement.specs.Calls.{GoodProposal}
use Rattle.replacement.proofs.Gain.{gain_iff, falls_by_gain}
use Rattle.listing.specs.declared.Candidate.{Candidate}
use Rattle.listing.specs.Listing.{candidate_of, listed, proposal_of, GoodReplacement, GoodByTest, Ascending, IsTheList}
use Rattle.listing.proofs.Listing.{gain_positive, listed_is, listed_is_every_good, the_list}
use Rattle.listing.proofs.Order.{ascending_once}
use Rattle.run.specs.Run.{run, Steps}
use Rattle.run.proofs.Run.{run_steps, run_ends}
use Rattle.run.proofs.Once.{run_only}
use Rattle.promises.specs.Promises.{NoneLeft}

-- ---- windows

module _ (g : Graph) (ok : WellFormed g) (w : Leaves) where
  pub the_test_is_coverage : (v : ℕ) → v ≤ last g.net → (covered g.net w v ≡ true) ↔ Covered g.net w v
  the_test_is_coverage = covered_iff g ok.lawful w

  -- what a covered variable computes locally is what it computes
  pub local_is_global : (v : ℕ) → v ≤ last g.net → Covered g.net w v → (a : ℕ → Bool)
      → value_under g.net a v ≡ local_at g.net w (λ j. value_under g.net a (get_or (leaf_list w) j 0)) v
  local_is_global v within c a = covered_value g.net w a v ((covered_iff g ok.lawful w v within).1 c)

-- bit i of a table is the local function where leaf j has bit j of i
pub a_table_has_every_pattern : (net : Net) (w : Leaves) (v i : ℕ) → i < patterns → bit (table net w v) i ≡ local_at net w (bit i) v
a_table_has_every_pattern = table_bit

-- so where whole tables are equal, the functions are, under every assignment of the leaves
pub equal_tables_are_equal_functions : (net : Net) (w : Leaves) (u v : ℕ) → w.count ≤ leaf_limit → table net w u ≡ table net w v
    → (a : ℕ → Bool) → local_at net w a u ≡ local_at net w a v
equal_tables_are_equal_functions net = equal_tables_equal_functions net net

module _ (g : Graph) (ok : WellFormed g) (root : ℕ) (gate : IsGate g.net root) where
  -- the leaves are come to by taking the smallest expansion, ties to the highest variable, until there is none
  pub leaves_follow_the_rule : Follows leaf_limit g.net (with_fanins g.net root []) (rule_leaves leaf_limit g.net root)
  leaves_follow_the_rule = rule_follows g ok.lawful leaf_limit root gate

  pub rule_leads_to_one_set : (zs : List ℕ) → Follows leaf_limit g.net (with_fanins g.net root []) zs
      → zs ≡ rule_leaves leaf_limit g.net root
  rule_leads_to_one_set = rule_only g ok.lawful leaf_limit root gate

  pub picked_leaves_cannot_be_expanded : (v : ℕ) → v ∈ leaf_list (picked g.net root) → free g.net < v
      → leaf_limit < length (expand g.net (leaf_list (picked g.net root)) v)
  picked_leaves_cannot_be_expanded = picked_no_expansion g ok.lawful root gate

  pub picked_leaves_are_well_set : WellSet root (picked g.net root)
  picked_leaves_are_well_set = picked_well_set g ok.lawful root gate

  pub picked_leaves_cut_the_root : Covered g.net (picked g.net root) root
  picked_leaves_cut_the_root = picked_cuts g ok.lawful root gate

-- ---- the list

-- for a gate of a well-formed graph: every good replacement, nothing else, each once, in order
pub list_is_the_list : (g : Graph) → WellFormed g → (root : ℕ) → IsGate g.net root → (w : Leaves)
    → IsTheList (GoodReplacement g root w) (listed g root w)
list_is_the_list g ok root gate w = listed_is_every_good g ok.lawful root gate w

-- for any graph, root and leaves whatever, by the test of coverage
pub list_is_what_passes : (g : Graph) (root : ℕ) (w : Leaves) → IsTheList (GoodByTest g root w) (listed g root w)
list_is_what_passes = listed_is

-- and there is no other
pub list_is_one : {IsGood : Candidate → Type 0} (xs ys : List Candidate) → IsTheList IsGood xs → IsTheList IsGood ys → xs ≡ ys
list_is_one = the_list

pub nothing_is_listed_twice : {x : Candidate} {xs : List Candidate} → Ascending (x ∷ xs) → ¬ (x ∈ xs)
nothing_is_listed_twice = ascending_once

-- ---- the list and applying speak of the same replacements

module _ (g : Graph) (root : ℕ) (w : Leaves) where
  -- R falls by the gain that the record has
  pub good_record_falls_by_its_gain : (x : Candidate) → GoodReplacement g root w x
      → used_gates (finished g root (proposal_of x)) + x.gain ≡ used_gates g
  good_record_falls_by_its_gain x good = falls_by_gain g root (proposal_of x) x.gain good.gain_is good.at_least_one

  pub good_record_is_a_good_proposal : Window g root w → (x : Candidate) → GoodReplacement g root w x
      → GoodProposal g root w (proposal_of x)
  good_record_is_a_good_proposal known x good =
      let falls = good_record_falls_by_its_gain x good in
      let one = good.at_least_one in
      record { window = known; rule = good.rule_kept; equal = good.equals; fewer = omega arith }

  pub good_proposal_has_a_good_record : (p : Proposal) → GoodProposal g root w p → GoodReplacement g root w (candidate_of g root p)
  unfolding candidate_of
  good_proposal_has_a_good_record p good =
      let (is, one) = gain_positive (gain g root p) ((gain_iff g root p).1 good.fewer) in
      record { rule_kept = good.rule; equals = good.equal; gain_is = is; at_least_one = one }

-- ---- the run

module _ (g : Graph) (ok : WellFormed g) where
  -- it is all the steps that there are, each as the rules say, and it counts them
  pub run_is_its_steps : Steps (dropped g) (run g).made (run g).graph
  run_is_its_steps = run_steps g ok

  -- and no other steps come to an end
  pub run_is_one : (n : ℕ) (e : Graph) → Steps (dropped g) n e → (n ≡ (run g).made) × (e ≡ (run g).graph)
  run_is_one = run_only g ok

  pub run_ends_with_none_left : NoneLeft (run g).graph
  run_ends_with_none_left = run_ends g ok
