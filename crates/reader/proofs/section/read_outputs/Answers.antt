-- `reader::section::read_outputs` meets its contract: the loop reads the lines needed, in order, up to the first that is not right,
-- and stores their literals.
-- Assumes nothing.
use mathlib.Core.Path.{◌≡◌, refl, sym}
use Prim.Native.Nat.{◌<◌}
use native.Mathlib.Omega.{arith}
use lib.ListN.{length, take, drop}
use mathlib.Core.List.{◌++◌}
use Rattle.std.proofs.lemmas.List.{length-take-le, take-append-le, take_more_set}
use Rattle.std.proofs.lemmas.Result.{err_from_is_err_and}
use Rattle.text.specs.Reading.{output_needed}
use Rattle.reader.specs.Sections.{section_words}
use Rattle.reader.proofs.Sections.{none_so_far, line_refused, line_fine}
use Rattle.reader.proofs.section.read_outputs.Goals as goal

pub loop-word-init : goal.loop-word-init
loop-word-init c = none_so_far

pub returns-in_err-next : goal.returns-in_err-next
unfolding section_words output_needed
returns-in_err-next c =
    let n = c.args.limited.header.outputs in
    let p = err_from_is_err_and c.from_residual.result c.from_residual.ensures.1 in
    let less : c.loop-word.word-index < n =
    omega (arith, c.loop-word-test.true, length-take-le n c.args.words.now (omega arith)) in
    rw (p.1, p.2)
    (sym
    (rw c.plain-most.ensures at
    (line_refused c.loop-word.invariant _ _ _ c.line_of-line.ensures refl {n = n} c.in_err-next.ensures.refusal less)))

pub loop-word-preserved : goal.loop-word-preserved
loop-word-preserved c =
    let w = c.loop-word in
    let room : w.word-index < length w.word-items = omega arith in
    rw take_more_set
    (line_fine w.invariant _ _ _ c.line_of-line.ensures refl c.in_ok-next.ensures.refusal c.in_ok-next.ensures.next)

pub returns : goal.returns
unfolding section_words output_needed
returns c =
    let w = c.loop-word in
    let n = c.args.limited.header.outputs in
    let long : length w.word-items ≡ n =
    omega (arith, w.auto.word-items, length-take-le n c.args.words.now (omega arith)) in
    let all : w.word-index ≡ n = omega (arith, long) in
    let read = rw (all, c.plain-most.ensures) at w.invariant.is in
    let stored : take n (w.word-items ++ drop n c.args.words.now) ≡ take n w.word-items = take-append-le n w.word-items _ (omega arith) in
    rw stored (sym read)
