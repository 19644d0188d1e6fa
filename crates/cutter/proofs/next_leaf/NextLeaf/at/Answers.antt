-- `cutter::next_leaf::NextLeaf::at` meets its contract.
-- Assumes nothing.
use Rattle.std.proofs.Common.{◌≡◌, sym, ap, ◌∙◌, arith}
use Rattle.std.specs.Prelude.{slice_get}
use Rattle.std.specs.Option.{option_map}
use Rattle.std.proofs.lemmas.Grind.{common_steps}
use Rattle.std.proofs.lemmas.Option.{gets, slice_get-map}
use Rattle.graph.specs.declared.lit.Var.{Var}
use Rattle.window.specs.Leaves.{numbers}
use Rattle.cutter.proofs.next_leaf.NextLeaf.at.Goals as goal

pub returns-clause-leaf_value : goal.returns-clause-leaf_value
unfolding numbers
returns-clause-leaf_value c =
    let leaves = c.as_slice.result.now in
    let found : c.copied.result ≡ slice_get leaves c.args.place = grind (arith, common_steps, gets) in
    ap (option_map (λ (v : Var). v.0)) found
    ∙ sym (slice_get-map (λ (v : Var). v.0) leaves c.args.place)
    ∙ ap (λ xs. slice_get xs c.args.place) c.as_slice.ensures
