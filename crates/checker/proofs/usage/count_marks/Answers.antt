-- `checker::usage::count_marks` meets its contract: the iterator's count is the definition's.
-- Assumes nothing.
use mathlib.Core.Path.{◌≡◌, sym, ◌∙◌}
use mathlib.Core.Bool.{Bool, false}
use Prim.Native.Nat.{ℕ, ◌+◌, ◌-◌}
use native.Mathlib.Omega.{arith}
use borrow.Author.Rules.{rules}
use borrow.Author.Tests.{tests}
use lib.ListN.{get_or}
use Rattle.std.proofs.lemmas.Iterator.{YieldsList-from_range}
use Rattle.std.proofs.lemmas.Iterator.Consumers.{YieldsList-from_filter, count_from_yields_List}
use Rattle.graph.specs.Graph.{free, size}
use Rattle.checker.specs.Marks.{marks_in}
use Rattle.checker.proofs.Marking.{count_by_std}
use Rattle.checker.proofs.usage.count_marks.Goals as goal

pub returns : goal.returns
returns c =
    let marked : ℕ → Bool = λ k. get_or (marks_in c.args.marks.now) (free c.args.net.now + k + 1) false in
    let n : c.size.result - 0 ≡ size c.args.net.now = omega (arith, c.size.ensures.value) in
    count_from_yields_List _ _ c.count.ensures.ran
    (YieldsList-from_filter _ marked (YieldsList-from_range 0 c.size.result _ c.filter.ensures.source n) c.filter.ensures.closure (λ x b q k. search (rules, tests)))
    ∙ sym (count_by_std c.args.net.now (marks_in c.args.marks.now) _)
