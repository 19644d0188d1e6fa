-- `replacer::store_finished` meets its contract: by the new numbers the words are the finished graph's, and the room is that
-- of those words.
-- Assumes nothing.
use mathlib.Core.Path.{sym, ◌∙◌}
use native.Mathlib.Omega.{arith}
use Rattle.graph.specs.Lent.{buffers_of}
use Rattle.graph.specs.Graph.{size}
use Rattle.graph.proofs.Renumber.{count_most}
use Rattle.checker.specs.Marks.{marks_in}
use Rattle.replacer.proofs.Finishing.{is_ready, room_tested, room_known, finish_refused, finish_stored}
use Rattle.replacer.proofs.store_finished.Goals as goal

pub overflow_mul-gates : goal.overflow_mul-gates
overflow_mul-gates c =
    let net = c.args.rewiring.now.graph.now.net in
    let counted = rw c.net-net.ensures.value at c.new-renumbering.ensures.gates_value in
    let few = count_most net (marks_in c.args.marks.now) (size net) in
    record { fits = omega arith }

pub returns-then-no_room : goal.returns-then-no_room
returns-then-no_room c =
    let a = c.args in
    let lent = buffers_of a.words.now a.results.now in
    let ready = is_ready a.rewiring.now (marks_in a.marks.now) c.new-renumbering.result c.net-net.ensures.value c.net-net.ensures.well_formed c.requires.0
    c.new-renumbering.ensures.gates_value c.new-renumbering.ensures.numbers_value in
    let tested = room_tested _ _ _ ready lent c.no_room.ensures c.outputs-outputs.ensures.value in
    finish_refused _ _ _ ready lent (sym tested ∙ c.if-no_room.true)

pub put_gates-requires-clause-room : goal.put_gates-requires-clause-room
put_gates-requires-clause-room c =
    let a = c.args in
    let lent = buffers_of a.words.now a.results.now in
    let ready = is_ready a.rewiring.now (marks_in a.marks.now) c.new-renumbering.result c.net-net.ensures.value c.net-net.ensures.well_formed c.requires.0
    c.new-renumbering.ensures.gates_value c.new-renumbering.ensures.numbers_value in
    let tested = room_tested _ _ _ ready lent c.no_room.ensures c.outputs-outputs.ensures.value in
    (room_known _ _ _ ready lent (sym tested ∙ c.if-no_room.false)).0

pub put_outputs-requires : goal.put_outputs-requires
put_outputs-requires c =
    let a = c.args in
    let lent = buffers_of a.words.now a.results.now in
    let ready = is_ready a.rewiring.now (marks_in a.marks.now) c.new-renumbering.result c.net-net.ensures.value c.net-net.ensures.well_formed c.requires.0
    c.new-renumbering.ensures.gates_value c.new-renumbering.ensures.numbers_value in
    let tested = room_tested _ _ _ ready lent c.no_room.ensures c.outputs-outputs.ensures.value in
    (room_known _ _ _ ready lent (sym tested ∙ c.if-no_room.false)).1

pub returns : goal.returns
returns c =
    let a = c.args in
    let lent = buffers_of a.words.now a.results.now in
    let ready = is_ready a.rewiring.now (marks_in a.marks.now) c.new-renumbering.result c.net-net.ensures.value c.net-net.ensures.well_formed c.requires.0
    c.new-renumbering.ensures.gates_value c.new-renumbering.ensures.numbers_value in
    let tested = room_tested _ _ _ ready lent c.no_room.ensures c.outputs-outputs.ensures.value in
    finish_stored _ _ _ ready lent (sym tested ∙ c.if-no_room.false) c.outputs-outputs.ensures.value c.put_gates.ensures c.put_outputs.ensures
