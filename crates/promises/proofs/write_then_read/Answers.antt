-- `promises::write_then_read` meets its contract: what was written states the graph, and just what a text states is read.
-- Assumes nothing.
use mathlib.Core.Path.{ap, ◌∙◌}
use mathlib.Core.List.{List}
use Prim.Native.Nat.{ℕ}
use native.Mathlib.Omega.{arith}
use lib.ListN.{length-take}
use Rattle.std.specs.Prelude.{Result}
use Rattle.std.proofs.lemmas.Result.{err_from_is_err_and}
use Rattle.graph.specs.declared.refusal.Refusal.{Refusal}
use Rattle.graph.specs.Lent.{Effect}
use Rattle.promises.proofs.Contracts.{written_is_within, read_back_is, not_read_back, written_and_read_again, written_with_room}
use Rattle.promises.proofs.write_then_read.Goals as goal

pub slice_bounds-read-end : goal.slice_bounds-read-end
slice_bounds-read-end c = written_is_within _ _ _ _ c.in_ok-length.ensures

pub slice_bounds-read-end-2 : goal.slice_bounds-read-end-2
slice_bounds-read-end-2 c = let h = written_is_within _ _ _ _ c.in_ok-length.ensures in simp length-take (omega arith)

pub returns-in_err-length : goal.returns-in_err-length
returns-in_err-length c =
    let refused-now = c.in_err-length.ensures in
    let p = err_from_is_err_and c.from_residual.result c.from_residual.ensures.1 in
    record {
      results_after = rw (p.1, p.2) (not_read_back _ _ _ _ _ refused-now);
      bytes_after = rw (← refused-now);
      written_again = λ ok fits. absurd (written_with_room _ _ _ _ refused-now ok fits);
    }

pub returns : goal.returns
returns c =
    let written-now = c.in_ok-length.ensures in
    record {
      results_after = c.read.ensures ∙ read_back_is _ _ _ _ written-now _;
      bytes_after = ap (λ (e : Effect (Result ℕ Refusal) (List ℕ)). e.lent) written-now;
      written_again = λ ok fits. written_and_read_again _ _ _ _ written-now _ _ _ c.read.ensures;
    }
