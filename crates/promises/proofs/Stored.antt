-- What stands in lent lists after a call wrote its words there, and in the words that it filled up with 0.
-- Assumes nothing.
use mathlib.Core.Path.{◌≡◌, sym, ◌∙◌}
use mathlib.Core.List.{List}
use Prim.Native.Nat.{ℕ, ◌-◌, ◌≤◌}
use native.Mathlib.Omega.{arith}
use lib.ListN.{length, replicate, length-append, length-replicate}
use lib.Seq.{take_all, take-append_seam, drop-append_seam}
use Rattle.graph.specs.Lists.{filled}
use Rattle.graph.specs.Lent.{written, Buffers, stored_in}
use Rattle.graph.specs.Graph.{Graph, WellFormed}
use Rattle.graph.proofs.Lists.{filled_first}
use Rattle.promises.specs.Promises.{Stored, Holds}

-- ---- words written into a lent list

module _ {A : Type 0} where
  pub stored_written : (xs lent : List A) → Stored xs lent (written xs lent)
  unfolding written
  stored_written xs lent = record { first_places = take-append_seam xs _; past_them = drop-append_seam xs _ }

pub holds_stored : (h : Graph) (b : Buffers) → WellFormed h → Holds h b (stored_in h b)
unfolding stored_in
holds_stored h b ok = record {
  gate_words = let e = ok.lawful.even in omega arith;
  gates_stored = stored_written h.net.gates b.gates;
  outputs_stored = stored_written h.outputs b.outputs;
}

-- ---- words filled up with 0 to n places

module _ (n : ℕ) (xs : List ℕ) where
  pub filled_as_long : length xs ≤ n → length (filled n xs) ≡ n
  unfolding filled
  filled_as_long h = omega (arith, length-append xs (replicate (n - length xs) 0), length-replicate {A = ℕ} (n - length xs) 0)

  -- nothing is filled up where they take all n places
  pub filled_all : length xs ≡ n → filled n xs ≡ xs
  filled_all e = sym (take_all (length xs) (filled n xs) (omega (arith, filled_as_long (omega arith)))) ∙ filled_first n xs
