-- The text that is written for a well-formed graph is short enough to be read, and reading it gives the graph back.
-- Assumes nothing.
use mathlib.Core.Path.{◌≡◌}
use mathlib.Core.List.{List, [], ◌∷◌, ◌++◌, flat_map}
use Prim.Native.Nat.{ℕ, suc, ◌*◌, ◌≤◌, ◌<◌, zero-le, suc-le-suc}
use native.Mathlib.Nat.{zero-lt-suc}
use native.Mathlib.Omega.{arith}
use lib.ListN.{length, get_or, length-append}
use Rattle.graph.specs.Graph.{Graph, WellFormed}
use Rattle.text.specs.Number.{decimal}
use Rattle.text.specs.Line.{separator, line, lines}
use Rattle.text.specs.States.{counts, text_of}
use Rattle.text.specs.Reading.{header_of, most_bytes, yields, reading}
use Rattle.text.proofs.Number.{decimal_short}
use Rattle.text.proofs.States.{lines_of, lines_count, unswapped, text_of_is, lines_fit, text_of_states}
use Rattle.text.proofs.Small.{lines_narrow, most_stated, counts_small, numbers_small}
use Rattle.text.proofs.Reading.{reading_iff}

-- four digits and a byte after them
line_short : (ns : List ℕ) → ((i : ℕ) → get_or ns i 0 ≤ most_stated) → length (line ns) ≤ 5 * length ns
unfolding line
line_short [] h = zero-le
line_short (x ∷ ns) h =
    rw (length-append (decimal x) (separator (length ns) ∷ line ns))
    (omega (arith, decimal_short 3 x (omega (arith, h 0)), line_short ns (λ i. h (suc i))))

lines_short : (c : ℕ) (nss : List (List ℕ)) → ((j : ℕ) → j < length nss → length (line (get_or nss j [])) ≤ c)
    → length (lines nss) ≤ c * length nss
unfolding flat_map
lines_short c [] h = zero-le
lines_short c (ns ∷ nss) h =
    rw (length-append (line ns) (lines nss))
    (omega (arith, h 0 (zero-lt-suc (length nss)), lines_short c nss (λ j l. h (suc j) (suc-le-suc l))))

pub text_of_short : (g : Graph) → WellFormed g → length (text_of g) ≤ most_bytes
text_of_short g w =
    rw (text_of_is g, length-append (line (counts g)) (lines (lines_of g unswapped) ++ []), length-append (lines (lines_of g unswapped)) [])
    (omega (
      arith,
      w,
      line_short (counts g) (counts_small g w),
      lines_count g unswapped,
      lines_short 15 (lines_of g unswapped) (λ j l.
          omega (
            arith,
            line_short (get_or (lines_of g unswapped) j []) (numbers_small g w unswapped j l),
            lines_narrow (header_of (counts g)) (lines_of g unswapped) (lines_fit g unswapped w.lawful) j l,
          )),
    ))

pub round_trip : (g : Graph) → WellFormed g → reading (text_of g) ≡ yields g
round_trip g w =
    (reading_iff (text_of g) g).1 (record { states = text_of_states g w.lawful; is_well_formed = w; few_bytes = text_of_short g w })
