-- `reader::aside::read_aside` meets its contract: the first line is judged first, and then the lines after it are read.
-- Assumes nothing.
use mathlib.Core.Path.{◌≡◌, ◌∙◌}
use native.Mathlib.Omega.{arith}
use Rattle.std.specs.Prelude.{Some, None}
use Rattle.std.proofs.lemmas.Result.{err_from_is_err_and}
use Rattle.graph.specs.declared.refusal.Refusal.TheVariants.{BadHeader}
use Rattle.graph.specs.Refuse.{verdict_is}
use Rattle.reader.specs.FirstLine.{header_step}
use Rattle.reader.specs.KeptAside.{reading_of}
use Rattle.reader.proofs.FirstLine.{header_missing, header_refused, header_fine, header_limited}
use Rattle.reader.proofs.aside.read_aside.Goals as goal

pub returns-in_err-header-clause-result_after : goal.returns-in_err-header-clause-result_after
unfolding reading_of header_step
returns-in_err-header-clause-result_after c =
    let p = err_from_is_err_and c.from_residual.result c.from_residual.ensures.1 in
    let missing : c.header_line.result ≡ None = grind arith in
    let why : c.in_err-header.field-0.0 ≡ BadHeader = grind (arith, c.in_err-header.ensures.value) in
    rw (p.1, p.2, why) (header_missing _ (rw missing at c.header_line.ensures))

pub returns-in_err-header_verdict-clause-result_after : goal.returns-in_err-header_verdict-clause-result_after
unfolding reading_of verdict_is
returns-in_err-header_verdict-clause-result_after c =
    let r = c.from_residual-in_err-header_verdict in
    let p = err_from_is_err_and r.result r.ensures.1 in
    let found : c.header_line.result ≡ Some c.in_ok-header.field-0 = grind arith in
    rw (p.1, p.2) (header_refused _ _ (rw found at c.header_line.ensures) c.in_err-header_verdict.ensures)

pub invariant_of-read_body : goal.invariant_of-read_body
unfolding verdict_is
invariant_of-read_body c = record { limited = header_limited _ _ c.in_ok-header_verdict.ensures }

pub returns-clause-result_after : goal.returns-clause-result_after
unfolding verdict_is
returns-clause-result_after c =
    let found : c.header_line.result ≡ Some c.in_ok-header.field-0 = grind arith in
    c.read_body.ensures.result_after ∙ header_fine _ _ (rw found at c.header_line.ensures) c.in_ok-header_verdict.ensures
