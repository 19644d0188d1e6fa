-- Dropping the gates not in use leaves every output its value, under every assignment.
-- Assumes nothing.
use mathlib.Core.Path.{◌≡◌, sym, ap, ◌∙◌}
use mathlib.Core.Bool.{Bool}
use mathlib.Core.List.{map-map}
use Prim.Native.Nat.{ℕ, ◌*◌, ◌<◌}
use native.Mathlib.Omega.{arith}
use lib.ListN.{get_or}
use Rattle.graph.specs.Literal.{var_of}
use Rattle.graph.specs.Graph.{Graph, sinks, first, second, IsGate, Lawful}
use Rattle.graph.specs.Use.{Reached, as_output, as_first, as_second, marks}
use Rattle.graph.specs.Drop.{new_number, renumbered, dropped}
use Rattle.graph.specs.Evaluate.{literal_under, outputs_under}
use Rattle.graph.proofs.Lists.{map_same}
use Rattle.graph.proofs.Use.{reached_within, reached_marked}
use Rattle.graph.proofs.Renumber.{number_low}
use Rattle.graph.proofs.Evaluate.{outputs_are_literals}
use Rattle.graph.proofs.Stand.{plain_value, moved, in_order, Carries, literal_carries, copy_carries, all_carry}
use Rattle.graph.proofs.Drop.{new_gate, new_first, new_second, dropped_free, dropped_lawful}

module _ (g : Graph) (ok : Lawful g) where
  -- the literal that stands for a variable afterwards
  stand : ℕ → ℕ
  stand v = 2 * new_number g.net (marks g) v

  moved_is : (l : ℕ) → moved g.net (dropped g).net stand l ≡ renumbered g.net (marks g) l
  unfolding renumbered stand
  moved_is l = omega arith

  module _ (a : ℕ → Bool) where
    gate_carries : (v : ℕ) → IsGate g.net v → Reached g v
        → ((u : ℕ) → u < v → Reached g u → Carries g.net (dropped g).net stand a u) → Carries g.net (dropped g).net stand a v
    unfolding stand
    gate_carries v i r below =
        let m = reached_marked g ok v r in
        let u = new_number g.net (marks g) v in
        let i' = new_gate g v i m in
        let b = ok.below v i in
        let o = ok.ordered v i in
        let b' = (dropped_lawful g ok).below u i' in
        let o' = (dropped_lawful g ok).ordered u i' in
        plain_value (dropped g).net a u
        ∙ copy_carries g.net (dropped g).net stand a v u i.above b (omega arith) i'.above b' (omega arith)
        (in_order (new_first g v i m ∙ sym (moved_is (first g.net v))) (new_second g v i m ∙ sym (moved_is (second g.net v))))
        (below (var_of (first g.net v)) (omega arith) (as_first i r)) (below (var_of (second g.net v)) (omega arith) (as_second i r))

    reached_carries : (v : ℕ) → Reached g v → Carries g.net (dropped g).net stand a v
    reached_carries = all_carry g.net (dropped g).net stand a (Reached g) (sym (dropped_free g))
        (λ v h. unfold stand in ap (λ (x : ℕ). 2 * x) (number_low g.net (marks g) v h))
        (λ v l r below. gate_carries v (record { above = l; within = reached_within g ok v r }) r below)

    pub dropped_keeps_outputs : outputs_under (dropped g) a ≡ outputs_under g a
    dropped_keeps_outputs =
        outputs_are_literals (dropped g) (dropped_lawful g ok) a
        ∙ unfold dropped in map-map (literal_under (dropped g).net a) (renumbered g.net (marks g)) (sinks g)
        ∙ map_same (λ l. literal_under (dropped g).net a (renumbered g.net (marks g) l)) (literal_under g.net a) 0 (sinks g)
        (λ j h.
        let l = get_or (sinks g) j 0 in
        ap (literal_under (dropped g).net a) (sym (moved_is l))
        ∙ literal_carries g.net (dropped g).net stand a l (reached_carries (var_of l) (as_output j h)))
        ∙ sym (outputs_are_literals g ok a)
