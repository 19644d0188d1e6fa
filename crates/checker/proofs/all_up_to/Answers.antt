-- `checker::all_up_to` meets its contract: the iterator's test is the definition's.
-- Assumes nothing.
use mathlib.Core.Path.{sym, ◌∙◌}
use borrow.Author.Rules.{rules}
use borrow.Author.Tests.{tests}
use lib.Dec.{leb}
use Rattle.std.proofs.lemmas.Iterator.{YieldsList-from_slice}
use Rattle.std.proofs.lemmas.Iterator.Search.{all_from_yields_List}
use Rattle.graph.proofs.Lists.{all_by_std}
use Rattle.checker.proofs.all_up_to.Goals as goal

pub returns : goal.returns
returns c =
    all_from_yields_List (λ word. leb word c.args.most) _ _ _ c.all.ensures.ran (YieldsList-from_slice c.args.words.now cc) (λ x b q k. search (rules, tests))
    ∙ sym (all_by_std (λ word. leb word c.args.most) c.args.words.now)
