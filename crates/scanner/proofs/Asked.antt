-- One reader, asked in the middle of a walk: the reader's bytes stay owned, so that it can be asked again at any place.
--     asks, asks_last      a method of the reader is called: its answer comes back, at its machine value.
--                          [own of the bytes; the token; Γ] stays
-- Assumes `Logic`, and that the callee meets its contract.
use mathlib.Core.Path.{◌≡◌, refl, sym, ap, subst}
use mathlib.Core.List.{List, [], ◌∷◌}
use Prim.Native.Nat.{ℕ, ◌<◌, ◌^◌}
use lib.ListN.{length}
use seplogic.Ra.Ura.{Ura}
use mir.Syntax.{Callee, named, w8, w64, Place, Opd as Operand, Body, seq, call}
use mir.Val.{Val}
use base.Logic.{SProp, ent, sep, id⊢, ex_e, snd∗}
use base.Fml.{Fml, Lft, Share, flft}
use prog.Wp.{Env, Calls, Loops}
use types.Logic.{Logic, sem}
use contract.Monad.{fact}
use types.Kit.{
  Item,
  ‵,
  raw,
  ◌⊛◌,
  Post,
  Goal,
  Soaks,
  runs,
  lands,
  settles,
  Seq,
  Step,
  step,
  ◌$◌,
  ◌∵◌,
  !,
  qed,
  move,
  use1,
  use2,
  drop,
  split,
  join,
  pick,
  fjoin,
  frame,
  await,
  done,
}
use types.Run.{Opds}
use sound.WpLaws.{FmC}
use denote.Laws.{Is, shows}
use denote.Plain.{uint_Makes, uint_row_laws}
use denote.Builtin.{u8, usize}
use denote.Ref.{Bor}
use denote.Slice.{slice_val, ShrSlice, shr_slice_copy}
use denote.Steps.{only, owned, facts, heard, nothing}
use denote.Struct.Rest.{own_shut}
use denote.Triple.Statement.{Triple}
use denote.Triple.Call.{calls_at, calls_at_last}
use denote.Triple.Clauses.{ensured, lasts}
use Rattle.scanner.specs.declared.text_reader.TextReader.{TextReader}
use Rattle.scanner.proofs.text_reader.TextReader.TheLaws as T'
use Rattle.scanner.proofs.Walk.{Answer, reader_row, reader_type, reader_laws, held_ended, held_clauses, Held, Answered}

abbrev pub reader : Bor (List ℕ) → ℕ → TextReader
reader text at = record { text = text; at = at }

-- what owns the bytes
abbrev bytes : Lft → Bor (List ℕ) → Fml
bytes κ text = (ShrSlice (named 0) κ u8).own_val text (slice_val text.ref_ptr (length text.now) ∷ [])

module _ {M : Type 1} {𝓤 : Ura M} where
  abbrev pub Text : Lft → Bor (List ℕ) → Item 𝓤
  Text κ text = ‵ (bytes κ text)

module _ {M : Type 1} {𝓤 : Ura M} (𝓛 : Logic 𝓤) (R : Answer) (κ : Lft) (q : Share) (text : Bor (List ℕ)) (at : ℕ) where
  open 𝓛 use {A}

  abbrev to : (Held R 𝓤 𝓛).Ghost
  to = (((κ, tt), (q, tt), tt, (reader text at, tt), (T'.lowered (reader text at) ∷ [], tt)), tt)

  goes : at < 2 ^ 64 → ent 𝓤 (sep 𝓤 (A.lft κ q) (sem 𝓛 (bytes κ text))) ((Held R 𝓤 𝓛).pre to)
  goes fits =
      qed 𝓛 (‵ (flft κ q) ∷ Text κ text ∷ []) ∵ nothing ! $ move ! (1 ∷ 0 ∷ []) $ join ! $ nothing ! $
      owned ! usize (Is usize) (uint_Makes 𝓛 w64) at _ (refl, fits) $ fjoin ! $ move ! (2 ∷ 0 ∷ []) $ fjoin ! $
      use1 𝓛 (‵ ((reader_row (κ, tt)).own_val (reader text at) (T'.lowered (reader text at) ∷ [])))
      (own_shut 𝓛 (reader_type (κ, tt)) (reader_laws (κ, tt)) (text, (at, tt))) $
      nothing ! $ move ! (1 ∷ []) $ fjoin ! $ move ! (1 ∷ []) $ join ! $ frame ! $ done !

  -- what the callee ensures of its answer
  abbrev said : R.row.Denot → SProp 𝓤
  said = ensured 𝓛 (held_ended R) (held_clauses R 𝓤) (κ, tt) (reader text at, tt) tt

  heard_right : (r : R.row.Denot) → ent 𝓤 (said r) (fact 𝓤 (R.right text.now at r))
  heard_right r =
      ex_e 𝓤 _ (λ ws. snd∗ 𝓤 (sem 𝓛 (lasts (held_ended R) (κ, tt) (reader text at, tt) ws)) (fact 𝓤 (R.right text.now at r)))

-- from an answer that is right the walk goes on
module _ {M : Type 1} {𝓤 : Ura M} (K : Type 0) (𝓛 : Logic 𝓤) (Γ : List (Item 𝓤)) (R : Answer)
    (text : Bor (List ℕ)) (at : ℕ) where
  open 𝓛 use {H}

  abbrev FromAnswer : (Val → Goal 𝓤 H) → Type 1
  FromAnswer G = (r : R.row.Denot) → R.right text.now at r → Is R.row r (R.lowered r ∷ []) → Seq K 𝓛 Γ (G (R.lowered r))

module _ {M : Type 1} {𝓤 : Ura M} {𝓛 : Logic 𝓤} {K : Type 0} {Γ : List (Item 𝓤)}
    (t : K) (R : Answer) (κ : Lft) (q : Share) (text : Bor (List ℕ)) (at : ℕ) where
  open 𝓛 use {H}

  answered : (G : Val → Goal 𝓤 H) → ((u : Val) → Soaks (G u)) → FromAnswer K 𝓛 (Text κ text ∷ ‵ (flft κ q) ∷ Γ) R text at G
      → (u : Val) → Seq K 𝓛 (raw ((Held R 𝓤 𝓛).post (to 𝓛 R κ q text at) u) ∷ Text κ text ∷ Γ) (G u)
  answered G z k u =
      use1 𝓛 (Answered R κ q u (said 𝓛 R κ q text at)) (id⊢ 𝓤 _) $ await t (z u) $ pick t (λ r.
      split t $ move t (1 ∷ []) $ use1 𝓛 (raw (fact 𝓤 (R.right text.now at r))) (heard_right 𝓛 R κ q text at r) $
      heard t (R.right text.now at r) (λ e.
      split t $ move t (1 ∷ []) $ facts t R.row (Is R.row) (shows 𝓛 R.row) r (u ∷ []) (λ is.
      split t $ move t (1 ∷ []) $ drop t $ move t (1 ∷ 0 ∷ []) $
      let l : u ∷ [] ≡ R.lowered r ∷ [] = R.tells r (u ∷ []) is in
      subst (λ (w : Val). Seq K 𝓛 (Text κ text ∷ ‵ (flft κ q) ∷ Γ) (G w)) (sym (ap only l)) (k r e (subst (Is R.row r) l is)))))

  -- the bytes are owned twice: once for the call, once to stay
  passes : {G : Goal 𝓤 H} → at < 2 ^ 64
      → Step K 𝓛 (raw ((Held R 𝓤 𝓛).pre (to 𝓛 R κ q text at)) ∷ Text κ text ∷ Γ) G (Text κ text ∷ ‵ (flft κ q) ∷ Γ) G
  passes fits = step (λ k.
      use1 𝓛 (Text κ text ⊛ Text κ text) ((shr_slice_copy 𝓛 (named 0) κ u8 (uint_row_laws w8)).twice text _) $
      split t $ move t (2 ∷ 0 ∷ []) $
      use2 𝓛 (raw ((Held R 𝓤 𝓛).pre (to 𝓛 R κ q text at))) (goes 𝓛 R κ q text at fits) $ k)

  module _ {E : Env 𝓤 H} {C : Calls 𝓤 H} {Λ : Loops 𝓤 H} {p : Post 𝓤 H} {callee : Callee} {xs : List Operand} {d : Place}
      (fm : FmC 𝓤 H 𝓛.laws C) (known : Triple 𝓤 (C callee) (Held R 𝓤 𝓛)) (fits : at < 2 ^ 64)
      (os : (i j : Item 𝓤) → Opds K 𝓛 (i ∷ j ∷ Γ) E xs (T'.lowered (reader text at) ∷ [])) where
    pub asks : {rest : Body} → FromAnswer K 𝓛 (Text κ text ∷ ‵ (flft κ q) ∷ Γ) R text at (λ u. lands C Λ E d u rest p)
        → Seq K 𝓛 (Text κ text ∷ ‵ (flft κ q) ∷ Γ) (runs C Λ E (seq (call callee xs d) rest) p)
    asks {rest} k =
        passes fits $ calls_at t fm (Held R 𝓤 𝓛) known (to 𝓛 R κ q text at) (os _ _)
        (answered (λ u. lands C Λ E d u rest p) (λ _. tt) k)

    pub asks_last : FromAnswer K 𝓛 (Text κ text ∷ ‵ (flft κ q) ∷ Γ) R text at (λ u. settles E d u p)
        → Seq K 𝓛 (Text κ text ∷ ‵ (flft κ q) ∷ Γ) (runs C Λ E (call callee xs d) p)
    asks_last k =
        passes fits $ calls_at_last t fm (Held R 𝓤 𝓛) known (to 𝓛 R κ q text at) (os _ _)
        (answered (λ u. settles E d u p) (λ _. tt) k)
