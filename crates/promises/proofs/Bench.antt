-- P1 to P12: the definitions give what the rules say, row by row, by computation.
-- Assumes nothing.
use mathlib.Core.Path.{refl}
use Rattle.promises.specs.Calls.{Agrees}
use Rattle.promises.specs.Bench.{bench}

pub bench_agrees : Agrees bench
unfolding bench
bench_agrees = refl
