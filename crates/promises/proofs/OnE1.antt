-- The promises at work on E1, with just the room that each call needs: no premise of theirs is out of reach.
-- Assumes nothing.
use mathlib.Core.Path.{◌≡◌, refl, ap, subst, ◌∙◌}
use mathlib.Core.List.{List, [], ◌∷◌}
use native.Mathlib.Omega.{arith}
use borrow.Author.Tests.{leb-true}
use lib.ListN.{length}
use Rattle.std.specs.Prelude.{ℕ, Ok, Err}
use Rattle.graph.specs.Lists.{here}
use Rattle.graph.specs.Lent.{no_room_for}
use Rattle.graph.specs.Graph.{first, second, well_formed, WellFormed}
use Rattle.graph.specs.Use.{in_use, InUse}
use Rattle.graph.specs.Evaluate.{is_assignment, evaluate_effect}
use Rattle.graph.proofs.Graph.{well_formed_iff}
use Rattle.graph.proofs.Lent.{room_iff}
use Rattle.graph.proofs.Use.{in_use_iff}
use Rattle.graph.proofs.Evaluate.{assignment_iff}
use Rattle.text.specs.States.{text_of}
use Rattle.text.specs.Calls.{write_effect}
use Rattle.window.specs.LeafRule.{picked}
use Rattle.window.specs.Calls.{Window, table_answer}
use Rattle.replacement.specs.Proposal.{literal}
use Rattle.replacement.specs.Rewire.{finished}
use Rattle.replacement.specs.Calls.{GoodProposal, apply_effect}
use Rattle.listing.specs.declared.Candidate.{Candidate}
use Rattle.listing.specs.declared.NotListed.{NotListed}
use Rattle.listing.specs.Listing.{listed, GoodReplacement, IsTheList}
use Rattle.listing.specs.Calls.{list_effect}
use Rattle.listing.proofs.Listing.{listed_is_every_good, the_list}
use Rattle.run.specs.Run.{run}
use Rattle.run.specs.Calls.{RunBuffers, run_effect}
use Rattle.promises.specs.Calls.{buffers, lent}
use Rattle.promises.specs.Promises.{WrittenAs, EvaluatedAs, TableAs, AppliedAs, RanAs}
use Rattle.promises.specs.Bench.{e1}
use Rattle.promises.proofs.Search.{good_record_is_a_good_proposal}
use Rattle.promises.proofs.Granted.{
  graph_is_written,
  assignment_is_evaluated,
  gate_in_use_has_leaves,
  window_has_its_table,
  window_has_the_list,
  good_is_applied,
  graph_is_run,
}

-- ---- what the calls ask for

pub e1_well_formed : WellFormed e1
unfolding well_formed e1
e1_well_formed = (well_formed_iff e1).0 refl

pub root_used : InUse e1 4
unfolding in_use e1
root_used = (in_use_iff e1 e1_well_formed.lawful 4).0 refl

root_window : Window e1 4 (picked e1.net 4)
root_window =
    let as_picked = gate_in_use_has_leaves e1 4 e1_well_formed root_used in
    subst (Window e1 4) as_picked.by_the_rule as_picked.window

-- ---- picking leaves, and the root's table

pub e1_is_tabled : TableAs e1 4 (picked e1.net 4) (table_answer e1 4 (picked e1.net 4))
e1_is_tabled = window_has_its_table e1 4 (picked e1.net 4) root_window

-- ---- writing and evaluating

pub e1_is_written : WrittenAs e1 (lent 32) (write_effect e1 (lent 32))
unfolding e1 text_of first second
e1_is_written = graph_is_written e1 (lent 32) e1_well_formed (leb-true (length (text_of e1)) 32 refl)

pub e1_is_evaluated : EvaluatedAs e1 (1 ∷ 1 ∷ []) (lent 1) (evaluate_effect e1 (1 ∷ 1 ∷ []) (lent 1))
unfolding e1 is_assignment
e1_is_evaluated =
    assignment_is_evaluated e1 (1 ∷ 1 ∷ []) (lent 1) e1_well_formed ((assignment_iff e1.net (1 ∷ 1 ∷ [])).0 refl) (omega arith)

-- ---- listing

abbrev IsGood : Candidate → Type 0
IsGood x = GoodReplacement e1 4 (picked e1.net 4) x

-- P3's two records
abbrev by_variable3 : Candidate
by_variable3 = record { kind = 0; first = 6; second = 0; turned = 0; gain = 1 }

abbrev by_both_inputs : Candidate
by_both_inputs = record { kind = 1; first = 4; second = 2; turned = 0; gain = 1 }

e1_list : listed e1 4 (picked e1.net 4) ≡ by_variable3 ∷ by_both_inputs ∷ []
unfolding e1 picked listed
e1_list = refl

e1_listed : IsTheList IsGood (by_variable3 ∷ by_both_inputs ∷ [])
e1_listed =
    subst (IsTheList IsGood) e1_list (listed_is_every_good e1 e1_well_formed.lawful 4 root_used.is_gate (picked e1.net 4))

-- and no other list
pub one_list_of_e1 : (xs : List Candidate) → IsTheList IsGood xs → xs ≡ by_variable3 ∷ by_both_inputs ∷ []
one_list_of_e1 xs all = the_list xs (by_variable3 ∷ by_both_inputs ∷ []) all e1_listed

-- two places are enough, and one is too few
pub e1_is_listed : (records : List Candidate) → length records ≡ 2
    → (list_effect e1 4 (picked e1.net 4) records).answer ≡ Ok 2
e1_is_listed records room =
    let (xs, all, left, told) = window_has_the_list e1 4 (picked e1.net 4) records root_window in
    let two = ap length (one_list_of_e1 xs all) in (left (omega arith)).count_told ∙ ap (λ (n : ℕ). Ok n) two

pub e1_is_not_listed : (records : List Candidate) → length records ≡ 1
    → (list_effect e1 4 (picked e1.net 4) records).answer ≡ Err (NotListed.NoRoom 2)
e1_is_not_listed records room =
    let (xs, all, left, told) = window_has_the_list e1 4 (picked e1.net 4) records root_window in
    let two = ap length (one_list_of_e1 xs all) in (told (omega arith)).count_told ∙ ap (λ (n : ℕ). Err (NotListed.NoRoom n)) two

-- ---- applying

-- variable 3 in the place of the root
pub by_variable_3 : IsGood by_variable3
by_variable_3 = (e1_listed.holds by_variable3).0 (here refl)

literal_good : GoodProposal e1 4 (picked e1.net 4) (literal 6)
literal_good = good_record_is_a_good_proposal e1 4 (picked e1.net 4) root_window _ by_variable_3

pub e1_is_applied :
    AppliedAs e1 (finished e1 4 (literal 6)) (buffers 2 1) (apply_effect e1 4 (picked e1.net 4) (literal 6) (buffers 2 1))
unfolding e1 finished no_room_for
e1_is_applied = good_is_applied e1 4 (picked e1.net 4) (literal 6) (buffers 2 1) literal_good ((room_iff _ _).0 refl)

-- ---- running

abbrev run_buffers : RunBuffers
run_buffers = record { result = buffers 4 1; work = buffers 4 1 }

pub e1_is_run : RanAs e1 (run e1).graph (run e1).made run_buffers (run_effect e1 run_buffers)
unfolding e1 no_room_for
e1_is_run = graph_is_run e1 run_buffers e1_well_formed ((room_iff e1 (buffers 4 1)).0 refl) ((room_iff e1 (buffers 4 1)).0 refl)
