-- `writer::decimal::put_decimal` meets its contract: laying the digits that are left over those stored lays the whole decimal.
-- The measure is what is left.
-- Assumes nothing.
use mathlib.Core.Path.{◌≡◌, ap, ◌∙◌}
use mathlib.Core.List.{[], ◌∷◌}
use Prim.Native.Nat.{◌+◌, ◌-◌, ◌/◌, ◌%◌}
use native.Mathlib.Omega.{arith}
use lib.ListN.{length, length-set}
use Rattle.text.specs.Number.{digit, decimal}
use Rattle.text.proofs.Number.{decimal_one, decimal_more, decimal_longer}
use Rattle.graph.proofs.Lent.{laid_last, put_bytes}
use Rattle.writer.proofs.decimal.put_decimal.Goals as goal

pub overflow_sub-place : goal.overflow_sub-place
overflow_sub-place c = omega (arith, decimal_longer c.loop-left.left c.loop-left-test.true)

pub bounds-bytes-place : goal.bounds-bytes-place
bounds-bytes-place c = omega (arith, decimal_longer c.loop-left.left c.loop-left-test.true)

pub loop-left-preserved : goal.loop-left-preserved
loop-left-preserved c =
    let a = c.args in
    let l = c.loop-left in
    let last = decimal_longer l.left c.loop-left-test.true in
    let rest = decimal (l.left / 10) in
    let e : l.place - 1 ≡ a.at + length rest = omega arith in
    let whole = decimal_more l.left c.loop-left-test.true in (
      e,
      simp length-set (omega arith),
      simp length-set l.invariant.2,
      rw (e, laid_last a.at rest (digit (l.left % 10)) l.bytes (omega arith), ← whole) l.invariant.3,
    )

pub bounds-bytes-at : goal.bounds-bytes-at
bounds-bytes-at c = omega (arith, ap length (decimal_one _ c.loop-left-test.false))

pub returns : goal.returns
returns c =
    let a = c.args in
    let l = c.loop-left in
    let e = decimal_one l.left c.loop-left-test.false in
    record {
      value = omega arith;
      bytes_after = (put_bytes a.at (digit l.left ∷ []) l.bytes (omega (arith, ap length e))).1 ∙ rw e at l.invariant.3;
    }
