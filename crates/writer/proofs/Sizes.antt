-- How many bytes the lines have: those of their numbers and one after each, so that a text's bytes are counted number by number.
-- Assumes nothing.
use mathlib.Core.Path.{◌≡◌, refl, sym, ap, ◌∙◌}
use mathlib.Core.List.{List, [], ◌∷◌}
use Prim.Native.Nat.{ℕ, zero, suc, ◌+◌, ◌-◌, ◌*◌, ◌%◌, ◌≤◌, zero-le}
use native.Mathlib.Numerals.{add-one}
use native.Mathlib.Omega.{arith}
use lib.ListN.{length, get_or, length-append}
use Rattle.std.specs.List.{sum_by, range_with_len}
use Rattle.std.proofs.lemmas.List.FromFn.{sum_by-map-range_with_len_more}
use Rattle.std.proofs.lemmas.List.{map-id}
use Rattle.std.proofs.lemmas.List.Sums.{sum_by-cons}
use Rattle.graph.specs.Lists.{gather}
use Rattle.graph.specs.Graph.{Net, Graph, net_of, free, size, last, sinks, WellFormed}
use Rattle.graph.proofs.Graph.{first_at, second_at}
use Rattle.text.specs.Number.{decimal, most_number}
use Rattle.text.specs.Line.{separator, line, lines}
use Rattle.text.specs.States.{counts, input_numbers, output_numbers, text_of}
use Rattle.text.specs.Reading.{most_bytes}
use Rattle.text.proofs.Number.{decimal_short}
use Rattle.text.proofs.RoundTrip.{text_of_short}
use Rattle.writer.proofs.Writing.{number_at, line_numbers, input_line, input_lines, output_line, output_lines, gate_line, gate_lines, text_size}

-- ---- the numbers of lines, counted one after another

pub ten_digits : (x : ℕ) → x ≤ most_number → length (decimal x) ≤ 10
ten_digits x h = decimal_short 9 x (omega arith)

-- a number and the byte after it
pub number_size : (ns : List ℕ) (k : ℕ) → length (number_at ns k) ≡ length (decimal (get_or ns k 0)) + 1
number_size ns k = length-append (decimal (get_or ns k 0)) (separator (length ns - 1 - k) ∷ [])

-- a number, the byte after it, and the line of the others
pub line_size : (x : ℕ) (xs : List ℕ) → length (line (x ∷ xs)) ≡ length (decimal x) + 1 + length (line xs)
unfolding line
line_size x xs = length-append (decimal x) (separator (length xs) ∷ line xs) ∙ omega arith

pub line_size_none : length (line []) ≡ 0
unfolding line
line_size_none = refl

-- a line's bytes, number by number
pub line_sum : (ns : List ℕ) → length (line ns) ≡ sum_by (λ n. length (decimal n) + 1) ns
line_sum [] = line_size_none
line_sum (x ∷ xs) = omega (arith, line_size x xs, line_sum xs, sum_by-cons (λ n. length (decimal n) + 1) x xs)

gather_size : (f : ℕ → List ℕ) (k : ℕ) → length (gather f (suc k)) ≡ length (gather f k) + length (f k)
unfolding gather
gather_size f k = length-append (gather f k) (f k)

-- the bytes of input line k
abbrev pub line_bytes : ℕ → ℕ
line_bytes k = length (decimal (2 * (k + 1))) + 1

abbrev pub first_bytes : ℕ → ℕ
first_bytes n = sum_by line_bytes (range_with_len 0 n)

one_more_line : (n : ℕ) → first_bytes (suc n) ≡ first_bytes n + line_bytes n
one_more_line n =
    ap first_bytes (sym (add-one n))
    ∙ ap (sum_by line_bytes) (sym (map-id (range_with_len 0 (n + 1))))
    ∙ sum_by-map-range_with_len_more line_bytes (λ k. k) 0 n n (omega arith)
    ∙ ap (λ (ks : List ℕ). sum_by line_bytes ks + line_bytes n) (map-id (range_with_len 0 n))

pub first_lines : (net : Net) → length (lines (input_numbers net)) ≡ first_bytes (free net)
unfolding gather
first_lines net = ap length (input_lines net) ∙ all (free net)
  where
    all : (n : ℕ) → length (gather input_line n) ≡ first_bytes n
    all zero = refl
    all (suc n) = omega (arith, gather_size input_line n, line_size (2 * (n + 1)) [], line_size_none, one_more_line n, all n)

-- at most ten digits and one byte a line
pub first_few : (n : ℕ) → 2 * n ≤ most_number → first_bytes n ≤ 11 * n
first_few zero l = zero-le
first_few (suc n) l = omega (arith, one_more_line n, ten_digits (2 * (n + 1)) (omega arith), first_few n (omega arith))

-- ---- the text

-- pieces of the same sizes
sizes_same : (f h : ℕ → List ℕ) (n : ℕ) → ((k : ℕ) → length (f k) ≡ length (h k)) → length (gather f n) ≡ length (gather h n)
unfolding gather
sizes_same f h zero e = refl
sizes_same f h (suc n) e = omega (arith, gather_size f n, gather_size h n, e n, sizes_same f h n e)

-- numbers in a line each have as many bytes as in one line
outputs_size : (os : List ℕ) → length (lines (output_numbers os)) ≡ length (line os)
outputs_size os =
    let one = sizes_same (output_line os) (number_at os) (length os)
    (λ j. omega (arith, line_size (get_or os j 0) [], line_size_none, number_size os j)) in
    rw (output_lines os, line_numbers os) one

module _ (net : Net) where
  -- a gate's numbers are the literal of its variable and two words
  gate_size : (k : ℕ) → length (gate_line net k)
      ≡ length (input_line (free net + k)) + length (number_at net.gates (2 * k)) + length (number_at net.gates (suc (2 * k)))
  gate_size k =
      let left = 2 * (free net + k + 1) in
      let one = get_or net.gates (2 * k) 0 in
      let other = get_or net.gates (suc (2 * k)) 0 in
      let line_is : gate_line net k ≡ line (left ∷ one ∷ other ∷ [])
      = rw (add-one (free net + k), first_at net k, second_at net k, add-one (2 * k)) in
      omega (
        arith,
        ap length line_is,
        line_size left (one ∷ other ∷ []),
        line_size one (other ∷ []),
        line_size other [],
        line_size left [],
        line_size_none,
        number_size net.gates (2 * k),
        number_size net.gates (suc (2 * k)),
      )

  gates_size : (k : ℕ) → length (gather input_line (free net)) + length (gather (gate_line net) k)
      ≡ length (gather input_line (free net + k)) + length (gather (number_at net.gates) (2 * k))
  unfolding gather
  gates_size zero = let e : free net + 0 ≡ free net = omega arith in rw e
  gates_size (suc k) =
      let p : free net + suc k ≡ suc (free net + k) = omega arith in
      let q : 2 * suc k ≡ suc (suc (2 * k)) = omega arith in
      rw (p, q)
      (omega (
        arith,
        gates_size k,
        gate_size k,
        gather_size (gate_line net) k,
        gather_size input_line (free net + k),
        gather_size (number_at net.gates) (2 * k),
        gather_size (number_at net.gates) (suc (2 * k)),
      ))

-- `aag` and a space, the counts, the literals of all the variables, the outputs and the gates' words
pub text_count : (g : Graph) → length g.net.gates % 2 ≡ 0 → length (text_of g)
    ≡ 4 + length (line (counts g)) + length (lines (input_numbers (net_of (last g.net) []))) + length (line (sinks g)) + length (line g.net.gates)
text_count g even =
    let e : 2 * size g.net ≡ length g.net.gates = omega arith in
    omega (
      arith,
      text_size g,
      ap length (input_lines g.net),
      outputs_size (sinks g),
      ap length (gate_lines g.net),
      gates_size g.net (size g.net),
      ap length (input_lines (net_of (last g.net) [])),
      ap length (line_numbers g.net.gates),
      ap (λ (k : ℕ). length (gather (number_at g.net.gates) k)) e,
    )

-- the whole text has few bytes, so no sum of its parts wraps
pub text_few : (g : Graph) → WellFormed g → length (line (counts g)) + length (lines (input_numbers (net_of (last g.net) []))) + length (line (sinks g))
    + length (line g.net.gates) + 4
    ≤ most_bytes
text_few g w = omega (arith, text_count g w.lawful.even, text_of_short g w)
