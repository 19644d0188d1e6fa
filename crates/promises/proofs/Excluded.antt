-- What the promises exclude, by examples that break a clause.
-- Assumes nothing.
use mathlib.Core.Path.{refl, sym, ap}
use mathlib.Core.Bool.{Bool, true, false, false≢true}
use mathlib.Core.List.{List, [], ◌∷◌}
use Prim.Native.Nat.{ℕ}
use native.Mathlib.Omega.{arith}
use lib.ListN.{get_or}
use Rattle.graph.specs.declared.refusal.Refusal.{Refusal}
use Rattle.graph.specs.declared.refusal.Refusal.TheVariants.{NoRoom}
use Rattle.graph.specs.Graph.{Graph, graph_of}
use Rattle.graph.specs.Evaluate.{outputs_under}
use Rattle.graph.specs.Use.{in_use}
use Rattle.graph.proofs.Use.{in_use_iff}
use Rattle.run.specs.Calls.{RunBuffers}
use Rattle.promises.specs.Calls.{◌gives◌, Agrees, buffers}
use Rattle.promises.specs.Promises.{Settled, Keeps, NoneLeft, Stored, RunHolds}
use Rattle.promises.specs.Bench.{e1, e9, e10}
use Rattle.promises.proofs.OnE1.{root_used, by_variable_3}

at : ℕ → List ℕ → ℕ
at j xs = get_or xs j 0

-- ---- examples

-- a row that gives another number than it says
pub wrong_row : ¬ Agrees ((0 ∷ []) gives (1 ∷ []) ∷ [])
unfolding at
wrong_row a = let e = ap (λ (rows : List (List ℕ)). at 0 (get_or rows 0 [])) a in omega arith

-- ---- demand 1

-- NO ROOM, and a word is written all the same
pub refusal_that_writes : (rank : Refusal → ℕ) (given : Refusal → Type 0) → ¬ Settled {L = List ℕ} rank given 16 (1 ∷ []) (2 ∷ [])
unfolding at
refusal_that_writes rank given s = let e = ap (at 0) (s.writes_nothing NoRoom refl) in omega arith

-- ---- demand 2

-- P9 and P10 have the same gate, and their outputs differ in the complement alone
pub other_output : ¬ Keeps e9 e10
unfolding e9 e10 outputs_under
other_output k = false≢true (sym (ap (λ (bs : List Bool). get_or bs 0 true) (k.same_outputs (λ v. false))))

-- the same output over an input more
pub other_inputs : ¬ Keeps (graph_of 1 [] (2 ∷ [])) (graph_of 2 [] (2 ∷ []))
other_inputs k = let e = k.same_inputs in omega arith

-- the same output beside a gate that nothing needs
abbrev idle : Graph
idle = graph_of 2 (4 ∷ 2 ∷ []) (2 ∷ [])

pub idle_gate : ¬ Keeps (graph_of 2 [] (2 ∷ [])) idle
unfolding in_use
idle_gate k =
    let used = k.all_in_use 3 (record { above = omega arith; within = omega arith }) in
    false≢true ((in_use_iff idle k.is_well_formed.lawful 3).1 used)

-- a place past the words stored that is changed
pub later_place_changed : ¬ Stored {A = ℕ} (1 ∷ []) (0 ∷ 3 ∷ []) (1 ∷ 4 ∷ [])
unfolding at
later_place_changed s = let e = ap (at 0) s.past_them in omega arith

-- a word that is not stored
pub first_place_wrong : ¬ Stored {A = ℕ} (1 ∷ []) (0 ∷ []) (0 ∷ [])
unfolding at
first_place_wrong s = let e = ap (at 0) s.first_places in omega arith

-- a work area that is left as it was
pub work_left : (h : Graph) (before : RunBuffers) → ¬ RunHolds e1 h before (record { result = before.result; work = buffers 4 1 })
unfolding at e1
work_left h before r = let e = ap (at 0) r.work_gates_zero.first_places in omega arith

-- ---- demand 3

-- the gate of variable 3 can stand for E1's root, so a run does not end there
pub e1_is_not_finished : ¬ NoneLeft e1
e1_is_not_finished none = none 4 root_used.is_gate _ by_variable_3
