-- `judge::is_allowed` meets its contract: what the sweep leaves says which variables below the root are covered.
-- Assumes nothing.
use mathlib.Core.Path.{◌∙◌}
use Rattle.judge.proofs.Rules.{allowed_by}
use Rattle.judge.proofs.is_allowed.Goals as goal

pub returns : goal.returns
returns c = c.keeps_rule.ensures ∙ allowed_by c.args.window.now.net.now c.args.window.now.root.0 c.args.window.now.leaves c.args.proposal _ _ c.cover.ensures
