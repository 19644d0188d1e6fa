-- `writer::decimal::decimal_length` meets its contract: powers of ten on both sides of a number say how many digits it has.
-- Assumes nothing.
use mathlib.Core.Path.{sym, ap, ◌∙◌}
use native.Mathlib.Numerals.{add-one, unary_clauses}
use native.Mathlib.Omega.{arith}
use lib.ListN.{length}
use Rattle.text.proofs.Number.{decimal_one, decimal_size}
use Rattle.writer.proofs.decimal.decimal_length.Goals as goal

pub returns-in-0-to-9 : goal.returns-in-0-to-9
returns-in-0-to-9 c = sym (ap length (decimal_one _ (omega arith)))

pub returns-in-10-to-99 : goal.returns-in-10-to-99
returns-in-10-to-99 c = decimal_size 1 _ (omega arith) (omega arith)

pub returns-in-100-to-999 : goal.returns-in-100-to-999
returns-in-100-to-999 c = decimal_size 2 _ (omega arith) (omega arith)

pub returns-in-1000-to-9999 : goal.returns-in-1000-to-9999
returns-in-1000-to-9999 c = decimal_size 3 _ (omega arith) (omega arith)

pub returns-in_default : goal.returns-in_default
returns-in_default c =
    add-one _ ∙ decimal_size c.ilog10.result _ c.ilog10.ensures.power_le (simp unary_clauses (omega (arith, c.ilog10.ensures.next_power_gt)))
