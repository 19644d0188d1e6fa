-- `replacer::replace` meets its contract: the marks past the root give the gain, and then what stays in use.
-- Assumes nothing.
use mathlib.Core.Path.{sym, ap, ◌∙◌, subst⁻¹}
use mathlib.Core.Bool.{false}
use Prim.Native.Nat.{ℕ}
use native.Mathlib.Omega.{arith}
use lib.ListN.{replicate}
use Rattle.graph.specs.Lent.{buffers_of}
use Rattle.checker.proofs.Marking.{marks_length, fresh_marks, fresh_long, most_variables}
use Rattle.replacement.specs.Vanish.{MarksPast}
use Rattle.replacer.proofs.Replacing.{weighed, gain_known, nothing_gained, something_gained}
use Rattle.replacer.proofs.replace.Goals as goal

pub mark_past-requires : goal.mark_past-requires
mark_past-requires c =
    let ok = c.net-net.ensures.well_formed in
    let long = fresh_long most_variables in
    record {
      gate = (c.requires.0.is_gate, omega arith);
      marks_value = fresh_marks most_variables ∙ ap (λ (k : ℕ). replicate k false) (sym long);
    }

pub going_with-going-requires-clause-room : goal.going_with-going-requires-clause-room
going_with-going-requires-clause-room c =
    let ok = rw (← c.net-net.ensures.value) at c.net-net.ensures.well_formed in
    (omega (arith, marks_length c.mark_past.new.marks), omega arith)

pub gain-requires-clause-room : goal.gain-requires-clause-room
gain-requires-clause-room c =
    let ok = rw (← c.net-net.ensures.value) at c.net-net.ensures.well_formed in
    (omega (arith, marks_length c.going_with-going.new.marks), omega arith)

pub returns-then-gain-eq0 : goal.returns-then-gain-eq0
returns-then-gain-eq0 c =
    let a = c.args in
    let net = c.net-net.ensures in
    let weight = weighed a.graph.now a.root.0 net.value net.well_formed c.requires.0 c.mark_past.ensures c.going_with-going.ensures.going_with
    c.going_with-going.ensures.marks_unchanged in
    let gain_is = gain_known a.graph.now a.root.0 net.value a.proposal weight c.requires.1 c.gain.ensures.gains in
    nothing_gained a.graph.now a.root.0 a.proposal (buffers_of a.words.now a.results.now) (sym gain_is ∙ c.if-gain-eq0.true)

pub mark_kept-requires : goal.mark_kept-requires
mark_kept-requires c =
    let ok = c.net-net.ensures.well_formed in
    (omega (arith, marks_length c.gain.new.marks), omega arith)

pub store_finished-requires : goal.store_finished-requires
store_finished-requires c =
    let a = c.args in
    let ok = c.net-net.ensures.well_formed in
    let kept = c.gain.ensures.marks_unchanged ∙ c.going_with-going.ensures.marks_unchanged in
    let past = subst⁻¹ (MarksPast a.graph.now a.root.0) kept c.mark_past.ensures in
    (c.mark_kept.ensures a.graph.now.outputs ok.lawful c.requires.0 past, omega (arith, marks_length c.mark_kept.new.marks))

pub returns : goal.returns
returns c =
    let a = c.args in
    let net = c.net-net.ensures in
    let weight = weighed a.graph.now a.root.0 net.value net.well_formed c.requires.0 c.mark_past.ensures c.going_with-going.ensures.going_with
    c.going_with-going.ensures.marks_unchanged in
    let gain_is = gain_known a.graph.now a.root.0 net.value a.proposal weight c.requires.1 c.gain.ensures.gains in
    c.store_finished.ensures
    ∙ something_gained a.graph.now a.root.0 a.proposal (buffers_of a.words.now a.results.now) (λ h. c.if-gain-eq0.false (gain_is ∙ h))
