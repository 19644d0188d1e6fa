-- `window::Leaves::remove` meets its contract: the leaves before k are set down anew.
-- Assumes nothing.
use Rattle.std.proofs.Common.{◌≡◌, ◌+◌, ◌≤◌, length, get_or, Some, refl, sym, ap, ◌∙◌, append-nil, arith, rules, tests}
use Rattle.std.proofs.lemmas.List.{take_rest}
use Rattle.std.proofs.lemmas.Option.{same_Some}
use Rattle.window.specs.Leaves.{leaf_limit, leaf_list, leaves_of}
use Rattle.window.specs.LeafRule.{remove}
use Rattle.window.specs.Growing.{grown_of}
use Rattle.window.proofs.Growing.{fits, removed_length}
use Rattle.window.proofs.Along.{length_held, leaves_few, leaves_long, rebuilt_none, rebuilt_more, rebuilt_room, rebuilt_whole}
use Rattle.window.proofs.Along.{remove_here, remove_after, remove_end}
use Rattle.window.proofs.leaf_set.Leaves.remove.Goals as goal
use Rattle.window.proofs.leaf_set.Leaves.remove.Goals.{After-follow}

pub loop-k-init : goal.loop-k-init
loop-k-init c = rebuilt_none (remove c.args.v.0) c.as_slice-leaves.result.now _ c.none-out.ensures

-- what is left has room, since all had
rest_fits : (c : After-follow) → c.follow.result ≡ Some (leaves_of (remove c.args.v.0 (leaf_list c.args.self)))
rest_fits c =
    let leaves = c.as_slice-leaves.result.now in
    let v = c.args.v.0 in
    let k = c.loop-k.k in
    let six : length c.args.self.places ≡ 6 = search (rules, length_held) in
    let same : v ≡ (get_or leaves k (record { 0 = 0 })).0 = search (rules, tests) in
    let whole = rebuilt_whole c.args.self c.as_slice-leaves.ensures c.loop-k.invariant _ (remove_here v leaves k c.loop-k-test.true same) in
    let few : length (remove v (leaf_list c.args.self)) ≤ leaf_limit =
    omega (arith, removed_length v (leaf_list c.args.self), leaves_long c.args.self leaves c.as_slice-leaves.ensures, leaves_few c.args.self leaves c.as_slice-leaves.ensures six) in
    c.follow.ensures ∙ rw (take_rest leaves (k + 1)) (ap grown_of whole) ∙ fits _ few

pub unwrap-requires : goal.unwrap-requires
unwrap-requires c = rw (rest_fits c) refl

pub returns-then-eq : goal.returns-then-eq
returns-then-eq c = same_Some _ _ (sym c.unwrap.ensures ∙ rest_fits (goal.at.returns-then-eq c).After-follow)

pub push-out-requires : goal.push-out-requires
push-out-requires c =
    let six : length c.args.self.places ≡ 6 = search (rules, length_held) in
    rebuilt_room c.args.self six c.as_slice-leaves.ensures c.loop-k.invariant c.loop-k-test.true

pub loop-k-preserved : goal.loop-k-preserved
loop-k-preserved c =
    let leaves = c.as_slice-leaves.result.now in
    let k = c.loop-k.k in
    let six : length c.args.self.places ≡ 6 = search (rules, length_held) in
    let (tidy, room) = rebuilt_room c.args.self six c.as_slice-leaves.ensures c.loop-k.invariant c.loop-k-test.true in
    let other : ¬ (c.args.v.0 ≡ (get_or leaves k (record { 0 = 0 })).0) = search (rules, tests) in
    rebuilt_more _ c.loop-k.invariant room c.push-out.ensures (remove_after c.args.v.0 leaves k c.loop-k-test.true other)

pub returns : goal.returns
returns c =
    let leaves = c.as_slice-leaves.result.now in
    let whole = rebuilt_whole c.args.self c.as_slice-leaves.ensures c.loop-k.invariant _ (remove_end c.args.v.0 leaves c.loop-k.k c.loop-k-test.false) in
    sym c.loop-k.invariant.tidy.same ∙ ap leaves_of (sym (append-nil (leaf_list c.loop-k.out)) ∙ whole)
