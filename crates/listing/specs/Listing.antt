-- All candidates in order, and the list of the good ones.
-- Assumes nothing.
use Rattle.std.specs.Prelude.{ℕ, ◌*◌, ◌≤◌, ◌<◌, ◌≡◌, Bool, ◌&&◌, List, [], ◌∷◌, ◌++◌, map, ◌↔◌, pos, nat_abs}
use Rattle.graph.specs.Lists.{gather, keep, ◌∈◌}
use Rattle.graph.specs.Graph.{Graph}
use Rattle.window.specs.declared.leaf_set.Leaves.{Leaves}
use Rattle.replacement.specs.declared.types.Proposal.{Proposal}
use Rattle.window.specs.Local.{Covered, Tested}
use Rattle.window.specs.Table.{table}
use Rattle.replacement.specs.Proposal.{literal, and_gate, allowed, RuleKept, proposed_table}
use Rattle.replacement.specs.Rewire.{gain, is_at_least_one}
use Rattle.replacement.specs.Calls.{equal_tables}
use Rattle.listing.specs.declared.Candidate.{Candidate}

-- kind 0 by literal, then kind 1 by (a, b, c), ascending, over every literal below the root's
unfoldable pub candidates : ℕ → List Proposal
unfolding gather
candidates root =
    gather (λ l. literal l ∷ []) (2 * root)
    ++ gather (λ a. gather (λ b. gather (λ c. and_gate a b c ∷ []) 2) (2 * root)) (2 * root)

-- a replacement that keeps its kind's rule is good if its table equals the root's and its gain is at least 1
unfoldable pub good : Graph → ℕ → Leaves → Proposal → Bool
unfolding allowed equal_tables gain is_at_least_one
good g root w p = allowed g.net root w p && (equal_tables g root w p && is_at_least_one (gain g root p))

-- the record of a good replacement; its gain is positive, so the gain's size is the gain
unfoldable pub candidate_of : Graph → ℕ → Proposal → Candidate
unfolding gain
candidate_of g root p =
    record { kind = p.kind; first = p.first.0; second = p.second.0; turned = p.turned; gain = nat_abs (gain g root p) }

-- the list: one record for each good replacement
unfoldable pub listed : Graph → ℕ → Leaves → List Candidate
unfolding keep candidates good candidate_of
listed g root w = map (candidate_of g root) (keep (good g root w) (candidates root))

-- the replacement that a record names
abbrev pub proposal_of : Candidate → Proposal
proposal_of x = record { kind = x.kind; first = record { 0 = x.first }; second = record { 0 = x.second }; turned = x.turned }

-- the records' fields one after another
unfoldable pub fields : List Candidate → List ℕ
fields [] = []
fields (x ∷ xs) = x.kind ∷ x.first ∷ x.second ∷ x.turned ∷ x.gain ∷ fields xs

-- ---- what the list must be

-- a good replacement with its gain, where Cov says which variables are covered
pub record Good (Cov : ℕ → Type 0) (g : Graph) (root : ℕ) (w : Leaves) (x : Candidate) : Type 0 where
  pub rule_kept : RuleKept Cov root (proposal_of x)
  pub equals : proposed_table g.net root w (proposal_of x) ≡ table g.net w root
  pub gain_is : gain g root (proposal_of x) ≡ pos x.gain
  pub at_least_one : 1 ≤ x.gain

-- by coverage itself: what is called good
abbrev pub GoodReplacement : Graph → ℕ → Leaves → Candidate → Type 0
GoodReplacement g root w x = Good (Covered g.net w) g root w x

-- by the test of coverage, which answers for any graph, root and leaves; at a gate of a lawful graph the same (`good_iff`)
abbrev pub GoodByTest : Graph → ℕ → Leaves → Candidate → Type 0
GoodByTest g root w x = Good (Tested g.net w) g root w x

-- numbers compared one after another: the first that differ decide
pub data Less : List ℕ → List ℕ → Type 0 where
  differs : {a b : ℕ} {ms ns : List ℕ} → a < b → Less (a ∷ ms) (b ∷ ns)
  same_then : {a b : ℕ} {ms ns : List ℕ} → a ≡ b → Less ms ns → Less (a ∷ ms) (b ∷ ns)

-- what a record is ordered by
abbrev pub key : Candidate → List ℕ
key x = x.kind ∷ x.first ∷ x.second ∷ x.turned ∷ []

-- the order: kind 0 by literal, then kind 1 by (a, b, c)
abbrev pub Before : Candidate → Candidate → Type 0
Before x y = Less (key x) (key y)

-- each record stands before all that follow it; so none is repeated
pub data Ascending : List Candidate → Type 0 where
  none_left : Ascending []
  then_more : {x : Candidate} {xs : List Candidate} → ((y : Candidate) → y ∈ xs → Before x y) → Ascending xs → Ascending (x ∷ xs)

-- xs holds every record that is good, nothing else, each once, in order
pub record IsTheList (IsGood : Candidate → Type 0) (xs : List Candidate) : Type 0 where
  pub holds : (x : Candidate) → (x ∈ xs) ↔ IsGood x
  pub ascends : Ascending xs
