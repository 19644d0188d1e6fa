-- Why equal tables keep outputs, once for every kind: the root's place is taken by a literal that a small circuit computes from
-- covered variables below the root, and the circuit's local function is the root's.
-- Assumes nothing.
use mathlib.Core.Path.{◌≡◌, sym, ap, ◌∙◌, subst}
use mathlib.Core.Bool.{Bool, true, false}
use mathlib.Core.List.{List, map, map-map}
use mathlib.Core.Logic.{⊎_elim}
use Prim.Native.Nat.{ℕ, ◌*◌, ◌≤◌, ◌<◌}
use native.Mathlib.Omega.{arith}
use lib.ListN.{get_or}
use Rattle.graph.specs.Literal.{var_of}
use Rattle.graph.specs.Graph.{Net, Graph, free, last, sinks, first, second, IsGate, Lawful}
use Rattle.graph.specs.Sweep.{bools}
use Rattle.graph.specs.Evaluate.{assigned, value_under, literal_under, values_under, outputs_under}
use Rattle.graph.proofs.Lists.{equal_or_not, map_same}
use Rattle.graph.proofs.Sweep.{values_at}
use Rattle.graph.proofs.Evaluate.{outputs_are_literals}
use Rattle.graph.proofs.Stand.{plain_value, moved, Copies, Carries, literal_carries, copy_carries, all_carry}
use Rattle.window.specs.declared.leaf_set.Leaves.{Leaves}
use Rattle.window.specs.Leaves.{leaf_list}
use Rattle.window.specs.Local.{covered, local_up_to, local_at}
use Rattle.window.proofs.Local.{covered_value}
use Rattle.window.proofs.TableLaws.{local_stays}

-- f computes from the values of covered variables below the root what the root computes from the leaves
pub record Computes (net : Net) (w : Leaves) (root : ℕ) (f : List Bool → Bool) : Type 0 where
  pub relies : (vs vs' : List Bool) → ((v : ℕ) → v < root → covered net w v ≡ true → get_or vs v false ≡ get_or vs' v false) → f vs ≡ f vs'
  pub same_function : (a : ℕ → Bool) → f (local_up_to net w a root) ≡ local_at net w a root

-- the values under an assignment, variable by variable
value_in : (net : Net) (a : ℕ → Bool) (n v : ℕ) → v ≤ n → get_or (values_under net a n) v false ≡ value_under net a v
unfolding values_under bools
value_in net a n v h = values_at bools (assigned net a) net n v h

-- so under every assignment of the inputs f computes the root's value
computes_value : (net : Net) (w : Leaves) (root : ℕ) (f : List Bool → Bool) → Computes net w root f → covered net w root ≡ true
    → (a : ℕ → Bool) → f (values_under net a root) ≡ value_under net a root
computes_value net w root f c cut a =
    let leaf : ℕ → Bool = λ j. value_under net a (get_or (leaf_list w) j 0) in
    c.relies (values_under net a root) (local_up_to net w leaf root)
    (λ v h k. value_in net a root v (omega arith) ∙ covered_value net w a v k ∙ sym (local_stays net w leaf root v (omega arith)))
    ∙ c.same_function leaf
    ∙ sym (covered_value net w a root cut)

-- the graph g with its root replaced: what is below the root stays, every other gate is copied over moved literals, and the circuit
-- gives the literal that stands for the root
pub record Replaced (g g' : Graph) (root : ℕ) (stand : ℕ → ℕ) (f : List Bool → Bool) : Type 0 where
  pub same_free : free g.net ≡ free g'.net
  pub stays : (v : ℕ) → v < root → stand v ≡ 2 * v
  pub new : ℕ → ℕ
  pub new_is : (v : ℕ) → IsGate g.net v → ¬ (v ≡ root) → stand v ≡ 2 * new v
  pub new_gate : (v : ℕ) → IsGate g.net v → ¬ (v ≡ root) → IsGate g'.net (new v)
  pub copies : (v : ℕ) → IsGate g.net v → ¬ (v ≡ root) → Copies g.net g'.net stand v (new v)
  pub root_is : (a : ℕ → Bool) → literal_under g'.net a (stand root) ≡ f (values_under g'.net a root)
  pub outputs_moved : sinks g' ≡ map (moved g.net g'.net stand) (sinks g)

module _ (g g' : Graph) (ok : Lawful g) (ok' : Lawful g') (root : ℕ) (gate : IsGate g.net root) (w : Leaves)
    (cut : covered g.net w root ≡ true)
    (stand : ℕ → ℕ) (f : List Bool → Bool) (c : Computes g.net w root f) (r : Replaced g g' root stand f) (a : ℕ → Bool) where
  abbrev Same : ℕ → Type 0
  Same v = Carries g.net g'.net stand a v

  root_carries : ((u : ℕ) → u < root → Same u) → Same root
  root_carries below =
      r.root_is a
      ∙ c.relies (values_under g'.net a root) (values_under g.net a root)
      (λ v h _.
      value_in g'.net a root v (omega arith)
      ∙ sym (plain_value g'.net a v)
      ∙ ap (literal_under g'.net a) (sym (r.stays v h))
      ∙ below v h
      ∙ sym (value_in g.net a root v (omega arith)))
      ∙ computes_value g.net w root f c cut a

  other_carries : (v : ℕ) → IsGate g.net v → ¬ (v ≡ root) → ((u : ℕ) → u < v → Same u) → Same v
  other_carries v i n below =
      let u = r.new v in
      let i' = r.new_gate v i n in
      let b = ok.below v i in
      let o = ok.ordered v i in
      let b' = ok'.below u i' in
      let o' = ok'.ordered u i' in
      ap (literal_under g'.net a) (r.new_is v i n)
      ∙ plain_value g'.net a u
      ∙ copy_carries g.net g'.net stand a v u i.above b (omega arith) i'.above b' (omega arith) (r.copies v i n)
      (below (var_of (first g.net v)) (omega arith)) (below (var_of (second g.net v)) (omega arith))

  carries : (v : ℕ) → v ≤ last g.net → Same v
  carries =
      all_carry g.net g'.net stand a (λ v. v ≤ last g.net) r.same_free (λ v h. r.stays v (let l = gate.above in omega arith))
      (λ v l h below. ⊎_elim
      (λ e. subst Same (sym e) (root_carries (λ u k. below u (omega arith) (omega arith))))
      (λ n. other_carries v (record { above = l; within = h }) n (λ u k. below u k (omega arith))) (equal_or_not v root))

  pub replaced_keeps_outputs : outputs_under g' a ≡ outputs_under g a
  replaced_keeps_outputs =
      outputs_are_literals g' ok' a
      ∙ ap (map (literal_under g'.net a)) r.outputs_moved
      ∙ map-map (literal_under g'.net a) (moved g.net g'.net stand) (sinks g)
      ∙ map_same (λ l. literal_under g'.net a (moved g.net g'.net stand l)) (literal_under g.net a) 0 (sinks g)
      (λ j h. let b = ok.sinks_within j h in
      literal_carries g.net g'.net stand a (get_or (sinks g) j 0) (carries (var_of (get_or (sinks g) j 0)) (omega arith)))
      ∙ sym (outputs_are_literals g ok a)
