-- `replacer::finish::put_gates` meets its contract: after k turns what is left of the first k gates is laid.
-- Assumes nothing.
use mathlib.Core.Path.{◌≡◌, sym, ap, ◌∙◌}
use Prim.Native.Nat.{ℕ, suc, ◌+◌}
use native.Mathlib.Omega.{arith}
use Rattle.graph.specs.Graph.{Net, free, size}
use Rattle.graph.proofs.Lent.{pieces_none, pieces_all, piece_room, piece_then, laid_front}
use Rattle.checker.specs.Marks.{marks_in}
use Rattle.replacement.specs.declared.types.Proposal.{Proposal}
use Rattle.replacement.specs.Rewire.{rewired_net}
use Rattle.replacement.proofs.Rewire.{rewired_free, rewired_size}
use Rattle.replacer.specs.Finishing.{kept_gates}
use Rattle.replacer.specs.Rewiring.{net_after}
use Rattle.replacer.proofs.finish.put_gates.Invariants.{piece}
use Rattle.replacer.proofs.finish.put_gates.Goals as goal

-- ---- where the code has the net that is rewired under another name

module _ (net known : Net) (is : known ≡ net) (root : ℕ) (p : Proposal) where
  sizes : size (rewired_net net root p) ≡ size known
  sizes = rewired_size net root p ∙ ap (λ (n : Net). size n) (sym is)

  -- a gate's variable has its place after the inputs
  place : (k : ℕ) {v : ℕ} → v ≡ suc (free known + k) → v ≡ suc (free (rewired_net net root p) + k)
  place k e = omega (arith, e, rewired_free net root p, ap (λ (n : Net). free n) is)

pub loop-k-init : goal.loop-k-init
unfolding kept_gates
loop-k-init c =
    let a = c.args in
    let after = net_after a.rewiring.now in
    pieces_none (piece after (marks_in a.marks.now) a.renumbering.now.numbers) (size after) 0 a.words.now (omega (arith, c.requires.room))

pub put_kept-at-requires-clause-room : goal.put_kept-at-requires-clause-room
put_kept-at-requires-clause-room c =
    let r = c.args.rewiring.now in
    let all = sizes r.graph.now.net _ c.net-net.ensures.value r.root.0 r.proposal in
    let at = place r.graph.now.net _ c.net-net.ensures.value r.root.0 r.proposal c.loop-k.k c.gate-v.ensures.value in
    rw at (piece_room c.loop-k.invariant (omega arith))

pub loop-k-preserved : goal.loop-k-preserved
loop-k-preserved c =
    let r = c.args.rewiring.now in
    let all = sizes r.graph.now.net _ c.net-net.ensures.value r.root.0 r.proposal in
    let at = place r.graph.now.net _ c.net-net.ensures.value r.root.0 r.proposal c.loop-k.k c.gate-v.ensures.value in
    let put = c.put_kept-at.ensures in
    piece_then c.loop-k.invariant (omega arith) (rw at at put.value, rw at at put.words_after)

pub returns : goal.returns
unfolding kept_gates
returns c =
    let r = c.args.rewiring.now in
    let all = sizes r.graph.now.net _ c.net-net.ensures.value r.root.0 r.proposal in
    (pieces_all c.loop-k.invariant (omega (arith, all))).1 ∙ laid_front _ _
