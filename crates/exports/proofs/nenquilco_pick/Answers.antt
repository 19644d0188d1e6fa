-- `exports::nenquilco_pick` meets its contract: what `cutter::pick` answers, told in numbers.
-- Assumes nothing.
use mathlib.Core.Path.{◌≡◌, refl, ◌∙◌}
use mathlib.Core.List.{List, [], ◌∷◌}
use Prim.Native.Nat.{ℕ}
use native.Mathlib.Omega.{arith}
use borrow.Author.Rules.{rules}
use lib.ListN.{length, get_or}
use Rattle.graph.specs.declared.lit.Var.{Var}
use Rattle.graph.specs.Lent.{written}
use Rattle.window.specs.Leaves.{numbers}
use Rattle.window.specs.Calls.{pick_outcome}
use Rattle.window.proofs.Along.{length_held}
use Rattle.exports.proofs.Exported.{value_told}
use Rattle.exports.proofs.nenquilco_pick.Goals as goal

abbrev at : List Var → ℕ → ℕ
at vs j = (get_or vs j (record { 0 = 0 })).0

-- the numbers of six variables
six_places : (vs : List Var) → length vs ≡ 6
    → numbers vs ≡ at vs 0 ∷ at vs 1 ∷ at vs 2 ∷ at vs 3 ∷ at vs 4 ∷ at vs 5 ∷ []
unfolding numbers
six_places (a ∷ b ∷ c ∷ d ∷ e ∷ f ∷ []) h = refl
six_places [] h = absurd (omega arith)
six_places (a ∷ []) h = absurd (omega arith)
six_places (a ∷ b ∷ []) h = absurd (omega arith)
six_places (a ∷ b ∷ c ∷ []) h = absurd (omega arith)
six_places (a ∷ b ∷ c ∷ d ∷ []) h = absurd (omega arith)
six_places (a ∷ b ∷ c ∷ d ∷ e ∷ []) h = absurd (omega arith)
six_places (a ∷ b ∷ c ∷ d ∷ e ∷ f ∷ g ∷ vs) h = absurd (omega arith)

pub returns-in-Err : goal.returns-in-Err
unfolding pick_outcome written
returns-in-Err c =
    let q = c.in-Err.is in
    value_told pick_outcome _ _ (rw c.new-graph.ensures at c.pick.ensures) _ (c.number.ensures ∙ rw q) _ _ (rw q)

pub returns-in-Ok : goal.returns-in-Ok
unfolding pick_outcome written
returns-in-Ok c =
    let q = c.in-Ok.is in
    let leaves = c.in-Ok.leaves in
    let six : length leaves.places ≡ 6 = search (rules, length_held) in
    value_told pick_outcome _ _ (rw c.new-graph.ensures at c.pick.ensures) _ (rw q) _ _ (rw (q, six_places leaves.places six))
