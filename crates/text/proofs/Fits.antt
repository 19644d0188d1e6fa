-- Lines that fit what is needed: one by one, section by section, and that no other lines are spelled the same.
-- Assumes nothing.
use mathlib.Core.Path.{◌≡◌, refl, sym, ap, ap₂, ◌∙◌}
use mathlib.Core.Bool.{true}
use mathlib.Core.List.{List, [], ◌∷◌, ◌++◌, append_assoc, map, flat_map}
use Prim.Native.Nat.{ℕ, zero, suc, ◌<◌, suc-le-suc}
use native.Mathlib.Nat.{suc_inj, suc-ne-zero, le_of_suc-le-suc, zero-lt-suc, not-suc-le-zero}
use native.Mathlib.Omega.{arith}
use lib.ListN.{length, get_or, take, drop}
use Rattle.graph.specs.Lists.{joined, parted}
use Rattle.graph.proofs.Singles.{singles, length_singles, get_d_singles, parted_joined}
use Rattle.text.specs.Line.{line, lines}
use Rattle.text.specs.Reading.{Needed}
use Rattle.text.proofs.Line.{lines_decode}

pub record Kept (need : Needed) (ns : List ℕ) : Type 0 where
  pub count : length ns ≡ need.numbers
  pub rule : need.rule ns ≡ true

-- in a list of needed lines, what stands past its end
abbrev pub no_need : Needed
no_need = record { numbers = 0; rule = λ ns. true }

pub record Fits (needs : List Needed) (nss : List (List ℕ)) : Type 0 where
  pub count : length nss ≡ length needs
  pub each : (j : ℕ) → j < length needs → Kept (get_or needs j no_need) (get_or nss j [])

-- ---- line by line

pub fits_none : Fits [] []
fits_none = record { count = refl; each = λ j l. absurd (not-suc-le-zero l) }

none_fits : (nss : List (List ℕ)) → Fits [] nss → nss ≡ []
none_fits [] f = refl
none_fits (ns ∷ nss) f = absurd (suc-ne-zero _ f.count)

module _ (need : Needed) (needs : List Needed) (ns : List ℕ) (nss : List (List ℕ)) where
  pub fits_first : Fits (need ∷ needs) (ns ∷ nss) → Kept need ns
  fits_first f = f.each 0 (zero-lt-suc (length needs))

  pub fits_later : Fits (need ∷ needs) (ns ∷ nss) → Fits needs nss
  fits_later f = record { count = suc_inj f.count; each = λ j h. f.each (suc j) (suc-le-suc h) }

  pub fits_more : Kept need ns → Fits needs nss → Fits (need ∷ needs) (ns ∷ nss)
  fits_more k f = record { count = ap suc f.count; each = at }
    where
      at : (j : ℕ) → j < suc (length needs) → Kept (get_or (need ∷ needs) j no_need) (get_or (ns ∷ nss) j [])
      at zero h = k
      at (suc j) h = f.each j (le_of_suc-le-suc h)

-- lines that fit the same needs are spelled in one way
pub fits_decode : (needs : List Needed) (mss nss : List (List ℕ)) (t u : List ℕ) → Fits needs mss → Fits needs nss
    → lines mss ++ t ≡ lines nss ++ u → (mss ≡ nss) × (t ≡ u)
unfolding flat_map
fits_decode [] [] [] t u f f' e = (refl, e)
fits_decode [] [] (ns ∷ nss) t u f f' e = absurd (suc-ne-zero _ f'.count)
fits_decode [] (ms ∷ mss) nss t u f f' e = absurd (suc-ne-zero _ f.count)
fits_decode (need ∷ needs) [] nss t u f f' e = absurd (suc-ne-zero _ (sym f.count))
fits_decode (need ∷ needs) (ms ∷ mss) [] t u f f' e = absurd (suc-ne-zero _ (sym f'.count))
fits_decode (need ∷ needs) (ms ∷ mss) (ns ∷ nss) t u f f' e =
    let (head, tail) =
    lines_decode ms ns (lines mss ++ t) (lines nss ++ u)
    ((fits_first need needs ms mss f).count ∙ sym (fits_first need needs ns nss f').count)
    (sym (append_assoc (line ms) (lines mss) t) ∙ e ∙ append_assoc (line ns) (lines nss) u) in
    let (later, after) = fits_decode needs mss nss t u (fits_later need needs ms mss f) (fits_later need needs ns nss f') tail in
    (ap₂ (λ (x : List ℕ) (xs : List (List ℕ)). x ∷ xs) head later, after)

-- ---- a section: line k for each k below n

module _ (need : ℕ → Needed) (n : ℕ) where
  pub section_fits : (x : ℕ → List ℕ) → ((k : ℕ) → k < n → Kept (need k) (x k)) → Fits (singles need n) (singles x n)
  section_fits x p = record {
    count = length_singles x n ∙ sym (length_singles need n);
    each = λ k l.
        let m : k < n = omega (arith, length_singles need n) in
        rw (get_d_singles need n k no_need m, get_d_singles x n k [] m) (p k m);
  }

  module _ (nss : List (List ℕ)) (f : Fits (singles need n) nss) where
    pub section_count : length nss ≡ n
    section_count = f.count ∙ length_singles need n

    pub section_each : (k : ℕ) → k < n → Kept (need k) (get_or nss k [])
    section_each k l = rw (get_d_singles need n k no_need l) at (f.each k (omega (arith, length_singles need n)))

-- ---- sections one after the other

pub data AllFit : List (List Needed) → List (List (List ℕ)) → Type 0 where
  no_section : AllFit [] []
  section : {needs : List Needed} {nss : List (List ℕ)} {needss : List (List Needed)} {parts : List (List (List ℕ))} → Fits needs nss
      → AllFit needss parts
      → AllFit (needs ∷ needss) (nss ∷ parts)

fits_append : (needs more : List Needed) (nss mss : List (List ℕ)) → Fits needs nss → Fits more mss → Fits (needs ++ more) (nss ++ mss)
fits_append [] more [] mss f g = g
fits_append [] more (ns ∷ nss) mss f g = absurd (suc-ne-zero _ f.count)
fits_append (need ∷ needs) more [] mss f g = absurd (suc-ne-zero _ (sym f.count))
fits_append (need ∷ needs) more (ns ∷ nss) mss f g =
    fits_more need (needs ++ more) ns (nss ++ mss) (fits_first need needs ns nss f)
    (fits_append needs more nss mss (fits_later need needs ns nss f) g)

pub all_fit_joined : {needss : List (List Needed)} {parts : List (List (List ℕ))} → AllFit needss parts
    → Fits (joined needss) (joined parts)
unfolding joined
all_fit_joined no_section = fits_none
all_fit_joined (section {needs} {nss} {needss} {parts} f a) = fits_append needs (joined needss) nss (joined parts) f (all_fit_joined a)

-- ---- lines parted into the sections that are needed

record Split (needs more : List Needed) (nss : List (List ℕ)) : Type 0 where
  front : Fits needs (take (length needs) nss)
  back : Fits more (drop (length needs) nss)
  whole : take (length needs) nss ++ drop (length needs) nss ≡ nss

fits_split : (needs more : List Needed) (nss : List (List ℕ)) → Fits (needs ++ more) nss → Split needs more nss
fits_split [] more nss f = record { front = fits_none; back = f; whole = refl }
fits_split (need ∷ needs) more [] f = absurd (suc-ne-zero _ (sym f.count))
fits_split (need ∷ needs) more (ns ∷ nss) f =
    let s = fits_split needs more nss (fits_later need (needs ++ more) ns nss f) in
    record {
      front = fits_more need needs ns (take (length needs) nss) (fits_first need (needs ++ more) ns nss f) s.front;
      back = s.back;
      whole = ap (λ (mss : List (List ℕ)). ns ∷ mss) s.whole;
    }

abbrev pub parts_of : List (List Needed) → List (List ℕ) → List (List (List ℕ))
parts_of needss nss = parted (map length needss) nss

pub parts_fit : (needss : List (List Needed)) (nss : List (List ℕ)) → Fits (joined needss) nss → AllFit needss (parts_of needss nss)
unfolding joined parted
parts_fit [] nss f = no_section
parts_fit (needs ∷ needss) nss f =
    let s = fits_split needs (joined needss) nss f in section s.front (parts_fit needss (drop (length needs) nss) s.back)

pub parts_joined : (needss : List (List Needed)) (nss : List (List ℕ)) → Fits (joined needss) nss → joined (parts_of needss nss) ≡ nss
unfolding joined parted
parts_joined [] nss f = sym (none_fits nss f)
parts_joined (needs ∷ needss) nss f =
    let s = fits_split needs (joined needss) nss f in
    ap (λ (mss : List (List ℕ)). take (length needs) nss ++ mss) (parts_joined needss (drop (length needs) nss) s.back) ∙ s.whole

-- sections that fit are what their lines are parted into
same_lengths : {needss : List (List Needed)} {parts : List (List (List ℕ))} → AllFit needss parts → map length needss ≡ map length parts
same_lengths no_section = refl
same_lengths (section f a) = ap₂ (λ (n : ℕ) (ns : List ℕ). n ∷ ns) (sym f.count) (same_lengths a)

pub joined_parts : {needss : List (List Needed)} {parts : List (List (List ℕ))} → AllFit needss parts
    → parts_of needss (joined parts) ≡ parts
joined_parts {parts = parts} a = ap (λ (ns : List ℕ). parted ns (joined parts)) (same_lengths a) ∙ parted_joined parts
