-- Expanding a leaf, and the leaf rule. Sets of variables are ascending lists.
-- Assumes nothing.
use Rattle.std.specs.Prelude.{ℕ, zero, suc, ◌^◌, ◌≤◌, ◌<◌, ◌≡◌, cond, List, [], ◌∷◌, map, leb, ltb, eqb, length}
use Rattle.std.proofs.Math.Option.{Option, none, some}
use Rattle.graph.specs.Lists.{◌∈◌, keep}
use Rattle.graph.specs.Literal.{var_of}
use Rattle.graph.specs.Graph.{Net, free, first, second}
use Rattle.window.specs.declared.leaf_set.Leaves.{Leaves}
use Rattle.window.specs.Leaves.{leaf_limit, leaves_of}

-- v put in, in order and without repeats
unfoldable pub put : ℕ → List ℕ → List ℕ
put v [] = v ∷ []
put v (x ∷ xs) = cond (ltb v x) (v ∷ x ∷ xs) (cond (eqb v x) (x ∷ xs) (x ∷ put v xs))

-- v put in, unless it is variable 0
unfoldable pub insert : ℕ → List ℕ → List ℕ
unfolding put
insert v xs = cond (eqb v 0) xs (put v xs)

unfoldable pub remove : ℕ → List ℕ → List ℕ
remove v [] = []
remove v (x ∷ xs) = cond (eqb v x) xs (x ∷ remove v xs)

-- the set with the fanin variables of v's gate, without 0 and without repeats
unfoldable pub with_fanins : Net → ℕ → List ℕ → List ℕ
unfolding insert first second
with_fanins net v xs = insert (var_of (first net v)) (insert (var_of (second net v)) xs)

-- expanding the gate leaf v: it is exchanged for its own fanin variables
unfoldable pub expand : Net → List ℕ → ℕ → List ℕ
unfolding with_fanins remove
expand net xs v = with_fanins net v (remove v xs)

-- the expansions that keep at most so many leaves, by ascending expanded variable; an input has none
unfoldable pub expansions : ℕ → Net → List ℕ → List (List ℕ)
unfolding keep expand
expansions limit net xs = keep (λ ys. leb (length ys) limit) (map (expand net xs) (keep (λ v. ltb (free net) v) xs))

-- the smallest set, the last on ties: the highest expanded variable's
unfoldable pub smallest_from : List ℕ → List (List ℕ) → List ℕ
smallest_from best [] = best
smallest_from best (xs ∷ xss) = smallest_from (cond (leb (length xs) (length best)) xs best) xss

unfoldable pub smallest : List (List ℕ) → Option (List ℕ)
unfolding smallest_from
smallest [] = none
smallest (xs ∷ xss) = some (smallest_from xs xss)

-- expanding until there is no such expansion, at most n times
unfoldable pub grow : ℕ → Net → ℕ → List ℕ → List ℕ
unfolding expansions smallest
grow limit net zero xs = xs
grow limit net (suc n) xs = elim (smallest (expansions limit net xs)) [ some ys ↦ grow limit net n ys | none ↦ xs ]

-- the leaf rule: start with the root's fanin variables, without 0. A leaf gives way to at most two lower ones, different from each
-- other, so the sum of 2 ^ v over the leaves v falls, and 2 ^ root expansions are more than there can be
unfoldable pub rule_leaves : ℕ → Net → ℕ → List ℕ
unfolding grow with_fanins
rule_leaves limit net root = grow limit net (2 ^ root) (with_fanins net root [])

unfoldable pub picked : Net → ℕ → Leaves
unfolding rule_leaves leaves_of
picked net root = leaves_of (rule_leaves leaf_limit net root)

-- ---- what the rule must do

-- a gate leaf whose expansion keeps at most so many leaves
pub record Expandable (limit : ℕ) (net : Net) (xs : List ℕ) (v : ℕ) : Type 0 where
  pub is_leaf : v ∈ xs
  pub is_gate : free net < v
  pub few : length (expand net xs v) ≤ limit

-- the expansion taken: none is smaller, and none of a higher leaf is as small
pub record Chosen (limit : ℕ) (net : Net) (xs ys : List ℕ) : Type 0 where
  pub leaf : ℕ
  pub is_expandable : Expandable limit net xs leaf
  pub expanded : expand net xs leaf ≡ ys
  pub none_smaller : (u : ℕ) → Expandable limit net xs u → length ys ≤ length (expand net xs u)
  pub higher_larger : (u : ℕ) → Expandable limit net xs u → leaf < u → length ys < length (expand net xs u)

-- from the first set the rule comes to the second: it expands until no leaf can be expanded
pub data Follows (limit : ℕ) (net : Net) : List ℕ → List ℕ → Type 0 where
  stops : {xs : List ℕ} → ((v : ℕ) → ¬ Expandable limit net xs v) → Follows limit net xs xs
  takes : {xs ys zs : List ℕ} → Chosen limit net xs ys → Follows limit net ys zs → Follows limit net xs zs
