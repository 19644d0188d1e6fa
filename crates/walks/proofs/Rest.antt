-- A piece of a function's code, so that a walk can be cut.
--     rest_of n b          the code b behind its first n statements
-- Assumes nothing.
use Prim.Native.Nat.{ℕ, zero, suc}
use mir.Syntax.{Body, seq, assign, block, loop, switch, call, cond, skip, exit, return, unreachable, call_v, lend_static}

abbrev tail : Body → Body
tail skip = skip
tail (seq a b) = b
tail (assign p v) = skip
tail (block b) = skip
tail (loop b) = skip
tail (cond c a b) = skip
tail (switch c arms) = skip
tail (exit n) = skip
tail return = skip
tail (call f xs d) = skip
tail unreachable = skip
tail (call_v f s xs d) = skip
tail (lend_static p t c) = skip

abbrev pub rest_of : ℕ → Body → Body
rest_of zero b = b
rest_of (suc n) b = rest_of n (tail b)
