-- `cutter::next_leaf::NextLeaf::is` meets its contract: variables are compared by their numbers.
-- Assumes nothing.
use Rattle.std.proofs.Common.{◌≡◌, eqb, false, Option, Some, None, refl, ◌∙◌}
use Rattle.std.specs.Option.{option_eq}
use Rattle.graph.specs.declared.lit.Var.{Var}
use Rattle.cutter.specs.Sweeping.{next_is}
use Rattle.cutter.proofs.next_leaf.NextLeaf.is.Goals as goal

by_number : (o : Option Var) (v : Var)
    → option_eq (λ (a b : Var). eqb a.0 b.0) o (Some v) ≡ elim o [ None ↦ false | Some leaf ↦ eqb leaf.0 v.0 ]
by_number None v = refl
by_number (Some leaf) v = refl

pub returns : goal.returns
unfolding next_is
returns c = c.eq.ensures ∙ by_number c.args.self.leaf c.args.v
