-- `writer::write` meets its contract: a verdict that refuses leaves the bytes, and past it the text is laid from the first byte on.
-- Assumes nothing.
use Rattle.std.proofs.lemmas.Result.{err_from_is_err_and}
use Rattle.graph.proofs.Graph.{well_formed_lem}
use Rattle.writer.proofs.Writing.{writes_nothing, fine_means, writes_text}
use Rattle.writer.proofs.write.Goals as goal

pub returns-in_err-write_verdict : goal.returns-in_err-write_verdict
returns-in_err-write_verdict c =
    let p = err_from_is_err_and c.from_residual.result c.from_residual.ensures.1 in
    rw (p.1, p.2) (writes_nothing _ _ c.write_verdict.ensures c.in_err-write_verdict.was)

-- past the refusals the graph is well formed, and there is room for its text
pub checked-requires : goal.checked-requires
checked-requires c =
    let fine = fine_means _ _ c.write_verdict.ensures c.in_ok-write_verdict.was in
    well_formed_lem _ fine.0

pub put_text-requires : goal.put_text-requires
put_text-requires c =
    let fine = fine_means _ _ c.write_verdict.ensures c.in_ok-write_verdict.was in
    rw c.checked.ensures fine.1

pub returns : goal.returns
returns c =
    rw (c.put_text.ensures.value, c.put_text.ensures.bytes_after, c.checked.ensures)
    (writes_text _ _ c.write_verdict.ensures c.in_ok-write_verdict.was)
