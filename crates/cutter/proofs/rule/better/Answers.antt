-- `cutter::rule::better` meets its contract: the branches are those of the definition.
-- Assumes nothing.
use Rattle.std.proofs.Common.{◌≡◌, sym, arith, rules}
use Rattle.cutter.specs.Picking.{fewest}
use Rattle.cutter.proofs.Picking.{better_input, better_larger, better_taken}
use Rattle.cutter.proofs.rule.better.Goals as goal
use Rattle.cutter.proofs.rule.better.Goals.{After-map_or}

limit : (c : After-map_or) → c.map_or.result ≡ fewest c.args.best
limit c = search rules

pub returns-then-at-inputs : goal.returns-then-at-inputs
returns-then-at-inputs c = sym (better_input _ _ _ _ (omega arith))

pub returns-then-map_or-count : goal.returns-then-map_or-count
returns-then-map_or-count c = sym (better_larger _ _ _ _ (omega arith) (omega (arith, limit (goal.at.returns-then-map_or-count c).After-map_or)))

pub returns : goal.returns
returns c = sym (better_taken _ _ _ _ (omega arith) _ c.expanded_count-count.ensures (omega (arith, limit (goal.at.returns c).After-map_or)))
