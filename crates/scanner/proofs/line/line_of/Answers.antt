-- `scanner::line::line_of` meets its contract: what is answered is right wherever the loop ends,
-- and each turn leads from a state to a state.
-- Assumes nothing.
use Rattle.std.proofs.Common.{ℕ, drop, set}
use native.Mathlib.Omega.{arith}
use lib.ListN.{length-set}
use Rattle.scanner.specs.Tokens.{byte_step, number_step}
use Rattle.scanner.proofs.LineWalk.{
  at_first,
  all_right,
  whatever_lent,
  between,
  behind_last,
  without_number,
  without_separator,
  further,
}
use Rattle.scanner.proofs.line.line_of.Goals as goal
use Rattle.scanner.proofs.line.line_of.Goals.{then-k-numbers+in_ok-space, else-k-numbers+in_ok-reader}

pub loop-k-init : goal.loop-k-init
loop-k-init c = at_first c.args.text.now c.args.at c.args.numbers.now

pub loop-k-preserved : goal.loop-k-preserved
loop-k-preserved c =
    let t = c.loop-k.invariant in
    let s = c.in_ok-number.number in
    let behind = drop s.next c.loop-k.reader.text.now in
    elim c.if-k-numbers.branch [
      | then-k-numbers+in_ok-space w ↦
          rw w.reader-is
          (further t (omega arith) s c.in_ok-number.ensures w.in_ok-space.field-0
          (between t behind (omega (arith, length-set {A = ℕ})) w.in_ok-space.ensures))
      | else-k-numbers+in_ok-reader w ↦
          rw w.reader-is
          (further t (omega arith) s c.in_ok-number.ensures w.in_ok-reader.field-0
          (behind_last t behind (omega (arith, length-set {A = ℕ})) w.in_ok-reader.ensures))
    ]

pub returns : goal.returns
returns c = all_right c.loop-k.invariant (omega arith)

pub returns-in_err-number : goal.returns-in_err-number
unfolding number_step
returns-in_err-number c =
    rw c.from_residual.ensures (without_number c.loop-k.invariant (omega arith) c.in_err-number.ensures)

pub returns-in_err-space : goal.returns-in_err-space
unfolding byte_step
returns-in_err-space c =
    let t = c.loop-k.invariant in
    let s = c.in_ok-number.number in
    let behind = drop s.next c.loop-k.reader.text.now in
    rw c.from_residual-in_err-space.ensures
    (whatever_lent t (set c.loop-k.numbers c.loop-k.k s.value)
    (without_separator t (omega arith) s c.in_ok-number.ensures
    (between t behind (omega (arith, length-set {A = ℕ})) c.in_err-space.ensures)))

pub returns-in_err-reader : goal.returns-in_err-reader
unfolding byte_step
returns-in_err-reader c =
    let t = c.loop-k.invariant in
    let s = c.in_ok-number.number in
    let behind = drop s.next c.loop-k.reader.text.now in
    rw c.from_residual-in_err-reader.ensures
    (whatever_lent t (set c.loop-k.numbers c.loop-k.k s.value)
    (without_separator t (omega arith) s c.in_ok-number.ensures
    (behind_last t behind (omega (arith, length-set {A = ℕ})) c.in_err-reader.ensures)))
