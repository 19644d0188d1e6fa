-- `window::Leaves::follow` meets its contract: what is set down, and the leaves from the next one on, are the whole.
-- Assumes nothing.
use Rattle.std.proofs.Common.{ℕ, ◌<◌, List, ◌++◌, length, drop, Some, sym, ap, ◌∙◌, append_assoc, append-nil, length-append, arith}
use Rattle.window.specs.declared.leaf_set.Leaves.{Leaves}
use Rattle.window.specs.Leaves.{leaf_limit, numbers, leaf_list}
use Rattle.window.specs.Growing.{grown_of}
use Rattle.window.proofs.Growing.{tidy_count, fits, fits_not}
use Rattle.window.proofs.Along.{rest_more, rest_end, pushed_list, pushed_tidy}
use Rattle.window.proofs.leaf_set.Leaves.follow.Goals as goal

pub returns-then-out-eq-LEAF_LIMIT : goal.returns-then-out-eq-LEAF_LIMIT
returns-then-out-eq-LEAF_LIMIT c =
    let (t, e) = c.loop-v.invariant in
    let zs = leaf_list c.loop-v.out in
    let more = rest_more c.args.rest.now c.loop-v.v-index c.loop-v-test.true in
    let over : leaf_limit < length (leaf_list c.args.self ++ numbers c.args.rest.now) =
    omega (arith, ap length e, ap length more, length-append zs (numbers (drop c.loop-v.v-index c.args.rest.now)), tidy_count t) in
    sym (fits_not _ over)

pub loop-v-preserved : goal.loop-v-preserved
loop-v-preserved c =
    let (t, e) = c.loop-v.invariant in
    let zs = leaf_list c.loop-v.out in
    let room : c.loop-v.out.count < leaf_limit = omega (arith, t.few) in
    let more = rest_more c.args.rest.now c.loop-v.v-index c.loop-v-test.true in (
      pushed_tidy _ t room c.push-out.ensures,
      rw (pushed_list _ t room c.push-out.ensures, append_assoc) (ap (λ (xs : List ℕ). zs ++ xs) (sym more) ∙ e),
    )

pub returns : goal.returns
returns c =
    let (t, e) = c.loop-v.invariant in
    let zs = leaf_list c.loop-v.out in
    let whole = ap (λ (xs : List ℕ). zs ++ xs) (sym (rest_end c.args.rest.now c.loop-v.v-index c.loop-v-test.false)) ∙ e in
    ap (λ (w : Leaves). Some w) (sym t.same)
    ∙ sym (fits zs (omega (arith, tidy_count t, t.few)))
    ∙ ap grown_of (sym (append-nil zs) ∙ whole)
