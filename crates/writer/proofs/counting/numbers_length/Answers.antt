-- `writer::counting::numbers_length` meets its contract: the sum that the chain gives is that of the line's numbers.
-- Assumes nothing.
use mathlib.Core.Path.{◌≡◌, sym, ◌∙◌}
use Prim.Native.Nat.{◌+◌}
use lib.ListN.{length}
use Rattle.std.proofs.Common.{rules}
use Rattle.std.specs.List.{sum_by}
use Rattle.text.specs.Number.{decimal}
use Rattle.writer.proofs.Sizes.{line_sum}
use Rattle.writer.proofs.counting.numbers_length.Goals as goal

pub returns : goal.returns
returns c =
    let summed : c.sum.result ≡ sum_by (λ n. length (decimal n) + 1) c.args.numbers.now = search rules in
    summed ∙ sym (line_sum c.args.numbers.now)
