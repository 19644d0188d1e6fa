-- `reader::section::read_inputs` meets its contract: the loop reads the lines needed, in order, up to the first that is not right.
-- Assumes nothing.
use mathlib.Core.Path.{◌≡◌, sym, ap, ◌∙◌}
use Prim.Native.Nat.{suc, ◌*◌}
use native.Mathlib.Omega.{arith}
use lib.Dec.{eqb}
use Rattle.std.proofs.lemmas.Result.{err_from_is_err_and}
use Rattle.text.specs.Reading.{input_needed}
use Rattle.reader.specs.Sections.{section_words}
use Rattle.reader.proofs.Sections.{none_so_far, line_refused, line_fine}
use Rattle.reader.proofs.section.read_inputs.Goals as goal

pub loop-k-init : goal.loop-k-init
loop-k-init c = none_so_far

pub returns-in_err-next : goal.returns-in_err-next
unfolding section_words input_needed
returns-in_err-next c =
    let own : c.plain.result.0 ≡ 2 * suc c.loop-k.k = omega (arith, c.plain.ensures) in
    let p = err_from_is_err_and c.from_residual.result c.from_residual.ensures.1 in
    rw (p.1, p.2)
    (sym
    (line_refused c.loop-k.invariant _ _ _ c.line_of-line.ensures (c.eq-kept.ensures ∙ ap (eqb _) own) c.in_err-next.ensures.refusal c.loop-k-test.true))

pub loop-k-preserved : goal.loop-k-preserved
unfolding input_needed
loop-k-preserved c =
    let own : c.plain.result.0 ≡ 2 * suc c.loop-k.k = omega (arith, c.plain.ensures) in
    line_fine c.loop-k.invariant _ _ _ c.line_of-line.ensures (c.eq-kept.ensures ∙ ap (eqb _) own) c.in_ok-next.ensures.refusal c.in_ok-next.ensures.next

pub returns : goal.returns
unfolding section_words
returns c =
    let all : c.loop-k.k ≡ c.args.limited.header.inputs = omega arith in
    sym (rw all at c.loop-k.invariant.is)
