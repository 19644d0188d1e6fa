-- `writer::counting::variables_length` meets its contract: the sum that the chain gives is that of the input lines' bytes.
-- Assumes nothing.
use mathlib.Core.Path.{◌≡◌, sym, ap, ◌∙◌}
use Prim.Native.Nat.{◌^◌, ◌<◌}
use mathlib.Core.List.{[]}
use native.Mathlib.Omega.{arith}
use Rattle.std.proofs.Common.{rules}
use Rattle.std.specs.List.{range_with_len}
use Rattle.std.proofs.lemmas.Iterator.Consumers.{fits_by_from_yields_list, sum_by_from_yields_List}
use Rattle.std.proofs.lemmas.Iterator.{YieldsList-from_range, YieldsList-from_map}
use Rattle.graph.specs.Graph.{net_of, last}
use Rattle.writer.proofs.Sizes.{line_bytes, first_bytes, first_lines, first_few}
use Rattle.writer.proofs.counting.variables_length.Goals as goal

pub sum-requires-clause-fits : goal.sum-requires-clause-fits
sum-requires-clause-fits c =
    let n = c.last.result in
    let few : first_bytes n < 2 ^ 64 = omega (arith, first_few n (omega arith)) in
    fits_by_from_yields_list line_bytes (range_with_len 0 n) c.map.result (2 ^ 64)
    (YieldsList-from_map _ line_bytes (YieldsList-from_range 0 n n c.map.ensures.source (omega arith)) c.map.ensures.closure
    (λ x r q k. search rules))
    few

pub returns : goal.returns
returns c =
    let n = c.last.result in
    let summed : c.sum.result ≡ first_bytes n =
    sum_by_from_yields_List line_bytes (range_with_len 0 n) c.map.result _ c.sum.ensures.ran
    (YieldsList-from_map _ line_bytes (YieldsList-from_range 0 n n c.map.ensures.source (omega arith)) c.map.ensures.closure
    (λ x r q k. search rules)) in
    summed ∙ ap first_bytes c.last.ensures.value ∙ sym (first_lines (net_of (last c.args.net.now) []))
