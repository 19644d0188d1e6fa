-- At the limits the definitions give what the rules say, row by row, by computation.
-- Assumes nothing.
use mathlib.Core.Path.{refl}
use Rattle.promises.specs.Calls.{Agrees}
use Rattle.promises.specs.Edges.{read_edges, write_edges, evaluate_edges}
use Rattle.promises.specs.WindowEdges.{pick_edges, table_edges}
use Rattle.promises.specs.ReplacementEdges.{list_edges, apply_edges, run_edges, run_restarts, run_choices}

pub read_edges_agree : Agrees read_edges
unfolding read_edges
read_edges_agree = refl

pub write_edges_agree : Agrees write_edges
unfolding write_edges
write_edges_agree = refl

pub evaluate_edges_agree : Agrees evaluate_edges
unfolding evaluate_edges
evaluate_edges_agree = refl

pub pick_edges_agree : Agrees pick_edges
unfolding pick_edges
pick_edges_agree = refl

pub table_edges_agree : Agrees table_edges
unfolding table_edges
table_edges_agree = refl

pub list_edges_agree : Agrees list_edges
unfolding list_edges
list_edges_agree = refl

pub apply_edges_agree : Agrees apply_edges
unfolding apply_edges
apply_edges_agree = refl

pub run_edges_agree : Agrees run_edges
unfolding run_edges
run_edges_agree = refl

pub run_restarts_agree : Agrees run_restarts
unfolding run_restarts
run_restarts_agree = refl

pub run_choices_agree : Agrees run_choices
unfolding run_choices
run_choices_agree = refl
