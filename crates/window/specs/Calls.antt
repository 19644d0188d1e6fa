-- Picking leaves and asking for a table as calls: the refusals in order, and the answers.
-- Assumes nothing.
use Rattle.std.specs.Prelude.{ℕ, not, List, [], ◌∷◌, ◌++◌, Result, Ok, Err}
use Rattle.std.proofs.Math.Option.{none, some}
use Rattle.graph.specs.declared.refusal.Refusal.{Refusal}
use Rattle.graph.specs.declared.refusal.Refusal.TheVariants.{BadGraph, BadRoot, BadLeaves, NotACut}
use Rattle.graph.specs.Refuse.{number_of, Row, ◌⇒◌, first_refusal, Outcome, accepted, refused}
use Rattle.graph.specs.Graph.{Graph, well_formed, WellFormed}
use Rattle.graph.specs.Use.{in_use, InUse}
use Rattle.window.specs.declared.leaf_set.Leaves.{Leaves}
use Rattle.window.specs.declared.truth.Table.{Table}
use Rattle.window.specs.Leaves.{numbers, well_set, WellSet}
use Rattle.window.specs.Local.{covered, Covered}
use Rattle.window.specs.Table.{table}
use Rattle.window.specs.LeafRule.{picked}

-- ---- picking leaves for a root

-- a graph and a gate in use
unfoldable pub root_refusals : Graph → ℕ → List Row
unfolding well_formed in_use
root_refusals g root = not (well_formed g) ⇒ BadGraph ∷ not (in_use g root) ⇒ BadRoot ∷ []

-- its refusals rank by their numbers
abbrev pub root_rank : Refusal → ℕ
root_rank = number_of

-- when picking leaves is refused
pub data RootGiven (g : Graph) (root : ℕ) : Refusal → Type 0 where
  bad_graph : ¬ WellFormed g → RootGiven g root BadGraph
  bad_root : ¬ InUse g root → RootGiven g root BadRoot

unfoldable pub pick_answer : Graph → ℕ → Result Leaves Refusal
unfolding root_refusals first_refusal picked
pick_answer g root =
    elim (first_refusal (root_refusals g root)) [
      | some r ↦ Err r
      | none ↦ Ok (picked g.net root)
    ]

unfoldable pub pick_outcome : Result Leaves Refusal → Outcome
unfolding numbers
pick_outcome (Ok w) = accepted (w.count ∷ numbers w.places)
pick_outcome (Err r) = refused r

-- ---- the table of a root over its leaves

-- leaves besides, and they cut the root: what every call on a window asks for
unfoldable pub window_refusals : Graph → ℕ → Leaves → List Row
unfolding root_refusals well_set covered
window_refusals g root w = root_refusals g root ++ (not (well_set root w) ⇒ BadLeaves ∷ not (covered g.net w root) ⇒ NotACut ∷ [])

-- the same as facts
pub record Window (g : Graph) (root : ℕ) (w : Leaves) : Type 0 where
  pub graph : WellFormed g
  pub root_used : InUse g root
  pub leaves : WellSet root w
  pub cut : Covered g.net w root

-- its refusals rank by their numbers
abbrev pub window_rank : Refusal → ℕ
window_rank = root_rank

-- when a call on a window is refused
pub data WindowGiven (g : Graph) (root : ℕ) (w : Leaves) : Refusal → Type 0 where
  by_root : {r : Refusal} → RootGiven g root r → WindowGiven g root w r
  bad_leaves : ¬ WellSet root w → WindowGiven g root w BadLeaves
  not_a_cut : ¬ Covered g.net w root → WindowGiven g root w NotACut

unfoldable pub table_answer : Graph → ℕ → Leaves → Result Table Refusal
unfolding window_refusals first_refusal table
table_answer g root w =
    elim (first_refusal (window_refusals g root w)) [
      | some r ↦ Err r
      | none ↦ Ok (record { 0 = table g.net w root })
    ]

unfoldable pub table_outcome : Result Table Refusal → Outcome
table_outcome (Ok t) = accepted (t.0 ∷ [])
table_outcome (Err r) = refused r
