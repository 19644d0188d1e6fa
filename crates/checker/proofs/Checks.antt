-- What the code's tests of a graph come to, one at a time.
-- Assumes nothing.
use mathlib.Core.Path.{◌≡◌}
use mathlib.Core.Bool.{Bool, true, false}
use mathlib.Core.List.{List}
use Prim.Native.Nat.{ℕ, suc, ◌+◌, ◌*◌, ◌/◌, ◌%◌, ◌<◌, ◌≤◌}
use native.Mathlib.Numerals.{add-one}
use native.Mathlib.Omega.{arith}
use borrow.Author.Tests.{eq-eqb, ne_eqb, le-leb, lt-leb}
use lib.Dec.{leb, ltb}
use lib.ListN.{length, get_or}
use Rattle.graph.specs.Lists.{every, all_below, all}
use Rattle.graph.specs.Graph.{Net, Graph, free, size, last, sinks, gate_ok, sink_ok, rules, well_formed, most_inputs, most_outputs, most_gates}
use Rattle.graph.proofs.Lists.{and_true, fails_with, every_at, all_below_at}
use Rattle.graph.proofs.Graph.{first_at, second_at}

-- ---- a test at each number in turn

module _ (f : ℕ → Bool) where
  pub all_more : (k : ℕ) → all_below f k ≡ true → f k ≡ true → all_below f (k + 1) ≡ true
  unfolding all_below
  all_more k e h = rw (add-one k, h, e)

  -- one failure decides
  pub all_stop : (k n : ℕ) → k < n → f k ≡ false → all_below f n ≡ false
  all_stop k n h e = fails_with _ _ (λ t. all_below_at f n t k h) e

-- ---- a gate

module _ (net : Net) (k : ℕ) where
  pub gate_bad : get_or net.gates (2 * k) 0 < get_or net.gates (2 * k + 1) 0 → gate_ok net (suc (free net + k)) ≡ false
  unfolding gate_ok
  gate_bad h = rw (first_at net k, second_at net k, lt-leb _ _ h)

  pub gate_good : get_or net.gates (2 * k + 1) 0 ≤ get_or net.gates (2 * k) 0
      → gate_ok net (suc (free net + k)) ≡ ltb (get_or net.gates (2 * k) 0) (2 * (free net + k + 1))
  unfolding gate_ok
  gate_good h =
      let e : 2 * suc (free net + k) ≡ 2 * (free net + k + 1) = omega arith in rw (first_at net k, second_at net k, le-leb _ _ h, e)

-- ---- the whole graph

every_fails : (bs : List Bool) (k : ℕ) → get_or bs k true ≡ false → every bs ≡ false
every_fails bs k e = fails_with _ _ (λ t. every_at bs t k) e

module _ (g : Graph) where
  abbrev pub gates_pass : Bool
  gates_pass = all_below (λ k. gate_ok g.net (suc (free g.net + k))) (size g.net)

  abbrev pub outputs_pass : Bool
  outputs_pass = all (λ l. leb l (2 * last g.net + 1)) (sinks g)

  -- where all other rules are kept, the gates decide
  pub well_by_gates : length g.net.gates % 2 ≡ 0 → outputs_pass ≡ true → free g.net ≤ most_inputs → length (sinks g) ≤ most_outputs
      → size g.net ≤ most_gates → well_formed g ≡ gates_pass
  unfolding well_formed every rules sink_ok
  well_by_gates even outs fi fo fg =
      rw (
        eq-eqb (length g.net.gates % 2) 0 even,
        outs,
        le-leb g.net.inputs most_inputs fi,
        le-leb (length g.outputs) most_outputs fo,
        le-leb (length g.net.gates / 2) most_gates fg,
      ) (and_true gates_pass)

  -- one rule that is broken decides
  fails : (k : ℕ) → get_or (rules g) k true ≡ false → well_formed g ≡ false
  unfolding well_formed
  fails k e = every_fails (rules g) k e

  pub odd_length : ¬ (length g.net.gates % 2 ≡ 0) → well_formed g ≡ false
  unfolding rules
  odd_length h = fails 0 (ne_eqb _ _ h)

  pub wrong_output : outputs_pass ≡ false → well_formed g ≡ false
  unfolding rules sink_ok
  wrong_output e = fails 2 e

  pub many_inputs : most_inputs < free g.net → well_formed g ≡ false
  unfolding rules
  many_inputs h = fails 3 (lt-leb (free g.net) most_inputs h)

  pub many_outputs : most_outputs < length (sinks g) → well_formed g ≡ false
  unfolding rules
  many_outputs h = fails 4 (lt-leb (length (sinks g)) most_outputs h)

  pub many_gates : most_gates < size g.net → well_formed g ≡ false
  unfolding rules
  many_gates h = fails 5 (lt-leb (size g.net) most_gates h)

-- what each test of a whole graph decides
pub ruleset whole_graph = (well_by_gates, odd_length, wrong_output, many_inputs, many_outputs, many_gates)
