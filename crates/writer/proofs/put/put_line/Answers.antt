-- `writer::put::put_line` meets its contract: after k turns the first k numbers are laid, each with the byte after it.
-- Assumes nothing.
use mathlib.Core.List.{List}
use Prim.Native.Nat.{ℕ, ◌<◌, ◌+◌, ◌≤◌}
use native.Mathlib.Omega.{arith}
use lib.ListN.{length, get_or, length-append}
use Rattle.text.specs.Number.{decimal}
use Rattle.graph.proofs.Lent.{Pieces, put_byte_then, pieces_none, pieces_length, piece_room, piece_then}
use Rattle.writer.proofs.Writing.{number_at, line_numbers}
use Rattle.writer.proofs.put.put_line.Goals as goal

-- there is room for the turn's number and the byte after it
room : (ns : List ℕ) {at k next : ℕ} {before after : List ℕ} → Pieces (number_at ns) (length ns) at before k next after
    → k < length ns → next + (length (decimal (get_or ns k 0)) + 1) ≤ length after
room ns p h = simp length-append at (piece_room p h)

pub loop-k-init : goal.loop-k-init
loop-k-init c =
    let a = c.args in
    let ns = a.numbers.now in
    pieces_none (number_at ns) (length ns) a.at a.bytes.now (rw (line_numbers ns) at c.requires)

pub put_decimal-next-requires : goal.put_decimal-next-requires
put_decimal-next-requires c = omega (arith, room c.args.numbers.now c.loop-k.invariant c.loop-k-test.true)

pub bounds-bytes-next : goal.bounds-bytes-next
bounds-bytes-next c = omega (arith, room c.args.numbers.now c.loop-k.invariant c.loop-k-test.true)

pub overflow_add-next : goal.overflow_add-next
overflow_add-next c =
    omega (arith, room c.args.numbers.now c.loop-k.invariant c.loop-k-test.true, pieces_length c.loop-k.invariant)

pub loop-k-preserved : goal.loop-k-preserved
loop-k-preserved c =
    let l = c.loop-k in
    let ns = c.args.numbers.now in
    let fits = room ns l.invariant c.loop-k-test.true in
    rw c.separator.ensures
    (piece_then l.invariant c.loop-k-test.true
    (put_byte_then l.next (decimal (get_or ns l.k 0)) _ l.bytes (omega arith)
    (c.put_decimal-next.ensures.value, c.put_decimal-next.ensures.bytes_after)))
