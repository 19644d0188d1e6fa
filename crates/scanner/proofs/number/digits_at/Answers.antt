-- `scanner::number::digits_at` meets its contract: each digit that is read leaves the run's value and what follows it as they were.
-- Assumes nothing.
use native.Mathlib.Omega.{arith}
use Rattle.scanner.specs.Tokens.{number_step}
use Rattle.scanner.proofs.Tokens.{passed_none, passed_more, passed_limit, passed_all, passed_nothing}
use Rattle.scanner.proofs.number.digits_at.Goals as goal

pub loop-digit-init : goal.loop-digit-init
loop-digit-init c = (passed_none _ _, omega arith)

pub loop-digit-preserved : goal.loop-digit-preserved
loop-digit-preserved c =
    let l = c.loop-digit in (
      rw (c.in_ok-value.ensures.1, c.in_ok-checked_mul.ensures.1)
          (passed_more _ _ l.next l.value l.invariant.0 c.in-Some.digit c.in-Some.ensures),
      omega (arith, c.in_ok-value.ensures),
    )

pub returns-in_err-checked_mul : goal.returns-in_err-checked_mul
unfolding number_step
returns-in_err-checked_mul c =
    let l = c.loop-digit in
    rw c.from_residual.ensures
    (passed_limit _ _ l.next l.value l.invariant.0 c.in-Some.digit c.in-Some.ensures (omega (arith, c.in_err-checked_mul.ensures)))

pub returns-in_err-value : goal.returns-in_err-value
unfolding number_step
returns-in_err-value c =
    let l = c.loop-digit in
    rw c.from_residual-in_err-value.ensures
    (passed_limit _ _ l.next l.value l.invariant.0 c.in-Some.digit c.in-Some.ensures
    (omega (arith, c.in_err-value.ensures, c.in_ok-checked_mul.ensures)))

pub returns-then-at-next : goal.returns-then-at-next
unfolding number_step
returns-then-at-next c =
    let l = c.loop-digit in passed_all _ _ l.next l.value l.invariant.0 c.in_default.ensures (omega arith) c.if-at-next.true

pub returns-else-at-next : goal.returns-else-at-next
unfolding number_step
returns-else-at-next c =
    let l = c.loop-digit in passed_nothing _ _ l.next l.value l.invariant.0 c.in_default.ensures c.if-at-next.false
