-- `window::Leaves::put` meets its contract: the leaves before k are set down anew.
-- Assumes nothing.
use Rattle.std.proofs.Common.{◌≡◌, ◌<◌, length, get_or, ap, ◌∙◌, append_assoc, rules, tests}
use Rattle.std.proofs.lemmas.List.{take_rest}
use Rattle.window.specs.Leaves.{numbers}
use Rattle.window.specs.LeafRule.{put}
use Rattle.window.specs.Growing.{grown_of}
use Rattle.window.proofs.Along.{length_held, pushed_list, pushed_tidy, rebuilt_none, rebuilt_more, rebuilt_room, rebuilt_whole}
use Rattle.window.proofs.Along.{put_before, put_already, put_after, put_end}
use Rattle.window.proofs.leaf_set.Leaves.put.Goals as goal

pub loop-k-init : goal.loop-k-init
loop-k-init c = rebuilt_none (put c.args.v.0) c.as_slice-leaves.result.now _ c.none-out.ensures

pub push-requires : goal.push-requires
push-requires c =
    let six : length c.args.self.places ≡ 6 = search (rules, length_held) in
    rebuilt_room c.args.self six c.as_slice-leaves.ensures c.loop-k.invariant c.loop-k-test.true

pub follow-requires : goal.follow-requires
follow-requires c =
    let six : length c.args.self.places ≡ 6 = search (rules, length_held) in
    let (tidy, room) = rebuilt_room c.args.self six c.as_slice-leaves.ensures c.loop-k.invariant c.loop-k-test.true in
    pushed_tidy _ tidy room c.push.ensures

pub returns-then-lt : goal.returns-then-lt
returns-then-lt c =
    let leaves = c.as_slice-leaves.result.now in
    let k = c.loop-k.k in
    let six : length c.args.self.places ≡ 6 = search (rules, length_held) in
    let (tidy, room) = rebuilt_room c.args.self six c.as_slice-leaves.ensures c.loop-k.invariant c.loop-k-test.true in
    let under : c.args.v.0 < (get_or leaves k (record { 0 = 0 })).0 = search (rules, tests) in
    let whole = rebuilt_whole c.args.self c.as_slice-leaves.ensures c.loop-k.invariant _ (put_before c.args.v.0 leaves k c.loop-k-test.true under) in
    c.follow.ensures ∙ rw (pushed_list _ tidy room c.push.ensures, take_rest leaves k, append_assoc) (ap grown_of whole)

pub returns-then-eq : goal.returns-then-eq
returns-then-eq c =
    let leaves = c.as_slice-leaves.result.now in
    let k = c.loop-k.k in
    let same : c.args.v.0 ≡ (get_or leaves k (record { 0 = 0 })).0 = search (rules, tests) in
    let whole = rebuilt_whole c.args.self c.as_slice-leaves.ensures c.loop-k.invariant _ (put_already c.args.v.0 leaves k c.loop-k-test.true same) in
    c.follow-then-eq.ensures ∙ rw (take_rest leaves k) (ap grown_of whole)

pub push-out-requires : goal.push-out-requires
push-out-requires c =
    let six : length c.args.self.places ≡ 6 = search (rules, length_held) in
    rebuilt_room c.args.self six c.as_slice-leaves.ensures c.loop-k.invariant c.loop-k-test.true

pub loop-k-preserved : goal.loop-k-preserved
loop-k-preserved c =
    let leaves = c.as_slice-leaves.result.now in
    let k = c.loop-k.k in
    let six : length c.args.self.places ≡ 6 = search (rules, length_held) in
    let (tidy, room) = rebuilt_room c.args.self six c.as_slice-leaves.ensures c.loop-k.invariant c.loop-k-test.true in
    let over : (get_or leaves k (record { 0 = 0 })).0 < c.args.v.0 = search (rules, tests) in
    rebuilt_more _ c.loop-k.invariant room c.push-out.ensures (put_after c.args.v.0 leaves k c.loop-k-test.true over)

pub returns : goal.returns
unfolding numbers
returns c =
    let leaves = c.as_slice-leaves.result.now in
    let whole = rebuilt_whole c.args.self c.as_slice-leaves.ensures c.loop-k.invariant _ (put_end c.args.v.0 leaves c.loop-k.k c.loop-k-test.false) in
    c.follow-2.ensures ∙ ap grown_of whole
