-- `graph::algebra::literal_value` meets its contract: the variable's value, complemented where the literal is a complement.
-- Assumes nothing.
use mathlib.Core.Path.{sym, ap, ◌∙◌}
use Prim.Native.Nat.{ℕ}
use lib.ListN.{get_or}
use Rattle.graph.specs.Sweep.{turned, lit_value}
use Rattle.graph.proofs.algebra.literal_value.Goals as goal

pub returns-then-is_complement : goal.returns-then-is_complement
unfolding lit_value turned
returns-then-is_complement g c =
    let K = g.A.Algebra.ops in
    let value = c.value_at-value.ensures ∙ ap (λ (i : ℕ). get_or c.args.values.now i K.no) c.var.ensures in
    rw (sym c.is_complement.ensures ∙ c.if-is_complement.true) (c.complement.ensures ∙ ap K.neg value)

pub returns-else-is_complement : goal.returns-else-is_complement
unfolding lit_value turned
returns-else-is_complement g c =
    let K = g.A.Algebra.ops in
    let value = c.value_at-value.ensures ∙ ap (λ (i : ℕ). get_or c.args.values.now i K.no) c.var.ensures in
    rw (sym c.is_complement.ensures ∙ c.if-is_complement.false) value
