-- What a proposal makes of the graph, and its gain.
-- Assumes nothing.
use Rattle.std.specs.Prelude.{ℕ, suc, ◌+◌, ◌*◌, ◌≤◌, ◌<◌, ◌≡◌, Bool, false, cond, List, ltb, eqb, ℤ, pos, negsuc}
use Rattle.std.proofs.Math.IntN.{sub_ℕ}
use Rattle.graph.specs.Lists.{gather}
use Rattle.graph.specs.Literal.{var_of, flip}
use Rattle.graph.specs.Graph.{Net, Graph, net_of, over_net, free, size, first, second, larger_first}
use Rattle.graph.specs.Use.{used_gates}
use Rattle.graph.specs.Drop.{dropped}
use Rattle.replacement.specs.declared.types.Proposal.{Proposal}

-- what a plain reference to the root becomes: in kind 0 the literal, in kind 1 the root, complemented where turned
unfoldable pub stand_in : ℕ → Proposal → ℕ
stand_in root p = cond (eqb p.kind 0) p.first.0 (2 * root + p.turned)

-- what a literal becomes: a reference to the root is redirected, and complemented where it was
unfoldable pub redirected : ℕ → Proposal → ℕ → ℕ
unfolding stand_in
redirected root p l = cond (eqb (var_of l) root) (flip (stand_in root p) l) l

-- what stands at the root's place: in kind 0 its own gate, to which nothing refers any more; in kind 1 AND(first, second)
unfoldable pub root_gates : Net → ℕ → Proposal → List ℕ
unfolding larger_first first second
root_gates net root p = cond (eqb p.kind 0) (larger_first (first net root) (second net root)) (larger_first p.first.0 p.second.0)

-- what stands for variable v's gate: a gate other than the root has its references redirected, and fanins are put larger first
unfoldable pub rewired_gate : Net → ℕ → Proposal → ℕ → List ℕ
unfolding root_gates larger_first redirected first second
rewired_gate net root p v =
    cond (eqb v root) (root_gates net root p) (larger_first (redirected root p (first net v)) (redirected root p (second net v)))

unfoldable pub rewired_net : Net → ℕ → Proposal → Net
unfolding gather rewired_gate
rewired_net net root p = net_of net.inputs (gather (λ k. rewired_gate net root p (suc (free net + k))) (size net))

-- the graph with every reference to the root redirected
unfoldable pub rewired : Graph → ℕ → Proposal → Graph
unfolding rewired_net redirected
rewired g root p = over_net (rewired_net g.net root p) (redirected root p) g

-- the finished graph: gates not in use are dropped, and the rest renumbered
unfoldable pub finished : Graph → ℕ → Proposal → Graph
unfolding rewired dropped
finished g root p = dropped (rewired g root p)

-- gain is R before less R after; it may be negative
unfoldable pub gain : Graph → ℕ → Proposal → ℤ
unfolding used_gates finished
gain g root p = sub_ℕ (used_gates g) (used_gates (finished g root p))

unfoldable pub is_at_least_one : ℤ → Bool
is_at_least_one (pos n) = ltb 0 n
is_at_least_one (negsuc n) = false

-- the gain, or 0 where it is negative
unfoldable pub positive : ℤ → ℕ
positive (pos n) = n
positive (negsuc n) = 0

-- what the laws of rewiring ask of a proposal, whatever is covered: one of the two kinds, its literals below the root; in kind 0 no second
-- one, in kind 1 turned is 0 or 1
pub data Wires (root : ℕ) (p : Proposal) : Type 0 where
  to_literal : p.kind ≡ 0 → var_of p.first.0 < root → p.second.0 ≡ 0 → Wires root p
  to_and : p.kind ≡ 1 → var_of p.first.0 < root → var_of p.second.0 < root → p.turned ≤ 1 → Wires root p
