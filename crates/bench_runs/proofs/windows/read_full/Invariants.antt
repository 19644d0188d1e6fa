-- What was read is within the bytes. Assumes nothing.
use Rattle.std.proofs.Common.{◌≤◌, length}
use Rattle.bench_runs.proofs.windows.read_full.Given as goal

abbrev pub invariant-loop : goal.invariant-loop
invariant-loop g l = l.got ≤ length l.bytes
