-- `replacer::apply` meets its contract: the verdict on the proposal comes first, then its gain and the room.
-- Assumes nothing.
use mathlib.Core.Path.{sym, ◌∙◌}
use Rattle.std.proofs.lemmas.Result.{err_from_is_err_and}
use Rattle.graph.specs.Lent.{buffers_of}
use Rattle.graph.specs.Refuse.{verdict_is}
use Rattle.replacer.proofs.Replacing.{apply_refused, replacing_known, apply_replaces}
use Rattle.replacer.proofs.apply.Goals as goal

pub checked-requires : goal.checked-requires
unfolding verdict_is
checked-requires c =
    let a = c.args in
    (replacing_known _ _ a.leaves _ (buffers_of a.words.now a.results.now) (sym c.in_ok-proposal_verdict.ensures)).0

pub replace-requires : goal.replace-requires
unfolding verdict_is
replace-requires c =
    let a = c.args in
    let known = replacing_known _ _ a.leaves _ (buffers_of a.words.now a.results.now) (sym c.in_ok-proposal_verdict.ensures) in
    rw c.checked.ensures (known.1, known.2)

pub returns-in_err-proposal_verdict : goal.returns-in_err-proposal_verdict
unfolding verdict_is
returns-in_err-proposal_verdict c =
    let a = c.args in
    let refused = err_from_is_err_and c.from_residual.result c.from_residual.ensures.1 in
    rw (refused.1, refused.2)
    (apply_refused _ _ _ _ (buffers_of a.words.now a.results.now) _ (sym c.in_err-proposal_verdict.ensures))

pub returns : goal.returns
unfolding verdict_is
returns c =
    let a = c.args in
    (rw c.checked.ensures at c.replace.ensures)
    ∙ apply_replaces _ _ a.leaves _ (buffers_of a.words.now a.results.now) (sym c.in_ok-proposal_verdict.ensures)
