-- `reader::aside::read_body` meets its contract: each section goes on where the one before it ends, and the first wrong line decides.
-- Assumes nothing.
use Rattle.std.proofs.lemmas.Result.{err_from_is_err_and}
use Rattle.reader.specs.Sections.{section_words}
use Rattle.reader.specs.KeptAside.{reading_of}
use Rattle.reader.proofs.BySection.{inputs_wrong, outputs_wrong, gates_wrong, rest_wrong, all_right}
use Rattle.reader.proofs.aside.read_body.Goals as goal

pub returns-in_err-after_inputs-clause-result_after : goal.returns-in_err-after_inputs-clause-result_after
unfolding reading_of section_words
returns-in_err-after_inputs-clause-result_after c =
    let p = err_from_is_err_and c.from_residual.result c.from_residual.ensures.1 in
    rw (p.1, p.2) (inputs_wrong _ _ c.in_err-after_inputs.ensures)

pub returns-in_err-after_outputs-clause-result_after : goal.returns-in_err-after_outputs-clause-result_after
unfolding reading_of section_words
returns-in_err-after_outputs-clause-result_after c =
    let r = c.from_residual-in_err-after_outputs in
    let p = err_from_is_err_and r.result r.ensures.1 in
    rw (p.1, p.2) (outputs_wrong _ _ c.in_ok-after_inputs.ensures c.in_err-after_outputs.ensures)

pub returns-in_err-after_gates-clause-result_after : goal.returns-in_err-after_gates-clause-result_after
unfolding reading_of section_words
returns-in_err-after_gates-clause-result_after c =
    let r = c.from_residual-in_err-after_gates in
    let p = err_from_is_err_and r.result r.ensures.1 in
    rw (p.1, p.2) (gates_wrong _ _ c.in_ok-after_inputs.ensures c.in_ok-after_outputs.ensures c.in_err-after_gates.ensures)

pub returns-then-not-rest_is_skipped-clause-result_after : goal.returns-then-not-rest_is_skipped-clause-result_after
unfolding reading_of section_words
returns-then-not-rest_is_skipped-clause-result_after c =
    rest_wrong _ _ c.in_ok-after_inputs.ensures c.in_ok-after_outputs.ensures c.in_ok-after_gates.ensures c.if-not-rest_is_skipped.ensures

pub returns-clause-result_after : goal.returns-clause-result_after
unfolding reading_of section_words
returns-clause-result_after c =
    all_right _ _ c.in_ok-after_inputs.ensures c.in_ok-after_outputs.ensures c.in_ok-after_gates.ensures c.if-not-rest_is_skipped.ensures
