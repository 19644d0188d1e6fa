-- `reader::section::read_gates` meets its contract: the loop reads the lines needed, in order, up to the first that is not right,
-- and stores their gates' words.
-- Assumes nothing.
use mathlib.Core.Path.{◌≡◌, sym, ap₂, ◌∙◌}
use mathlib.Core.List.{◌++◌}
use Prim.Native.Nat.{◌+◌, ◌*◌, ◌≤◌}
use native.Mathlib.Numerals.{add-one}
use native.Mathlib.Omega.{arith}
use lib.ListN.{length, take}
use Rattle.std.proofs.lemmas.Result.{err_from_is_err_and}
use Rattle.graph.specs.Graph.{larger_first}
use Rattle.text.specs.Reading.{gate_needed, gate_words}
use Rattle.reader.specs.Sections.{section_words}
use Rattle.reader.proofs.Sections.{none_so_far, line_refused, line_fine}
use Rattle.graph.proofs.Lent.{take_laid}
use Rattle.reader.proofs.section.read_gates.Goals as goal

pub loop-k-init : goal.loop-k-init
loop-k-init c = none_so_far

pub returns-in_err-next : goal.returns-in_err-next
unfolding section_words gate_needed
returns-in_err-next c =
    let p = err_from_is_err_and c.from_residual.result c.from_residual.ensures.1 in
    rw (p.1, p.2)
    (sym
    (rw c.free-free.ensures at
    (line_refused c.loop-k.invariant _ _ _ c.line_of-line.ensures (rw add-one at c.is_gate_line-kept.ensures)
    {n = c.args.limited.header.gates} c.in_err-next.ensures.refusal c.loop-k-test.true)))

pub loop-k-preserved : goal.loop-k-preserved
unfolding gate_needed gate_words larger_first
loop-k-preserved c =
    let ns = c.line_of-line.new.numbers in
    let room : 2 * c.loop-k.k ≤ length c.loop-k.words = omega arith in
    let turn : 2 * (c.loop-k.k + 1) ≡ 2 * c.loop-k.k + 2 = omega arith in
    let laid : take (2 * (c.loop-k.k + 1)) c.store_gate.new.words ≡ take (2 * c.loop-k.k) c.loop-k.words ++ gate_words ns =
    ap₂ take turn c.store_gate.ensures ∙ take_laid (2 * c.loop-k.k) c.loop-k.words (gate_words ns) room in
    rw laid
    (line_fine c.loop-k.invariant _ _ _ c.line_of-line.ensures (rw add-one at c.is_gate_line-kept.ensures)
    c.in_ok-next.ensures.refusal c.in_ok-next.ensures.next)

pub returns : goal.returns
unfolding section_words
returns c =
    let all : c.loop-k.k ≡ c.args.limited.header.gates = omega arith in
    sym (rw (all, c.free-free.ensures) at c.loop-k.invariant.is)
