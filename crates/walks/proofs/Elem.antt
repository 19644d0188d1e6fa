-- One element of a `&κ mut [T]` that is owned, in the middle of a walk: it is taken out to be stored to, and put back.
-- Two entries of the context become two, and back, so that no other position moves.
--     elem_open        [own (the `&κ mut [T]` at ys); the token; Γ]   to   [the cell of ys[i]; Opened; Γ]
--     elem_close       [the cell, at v's machine values; Opened; Γ]   to   [own (the `&κ mut [T]` at ys with v at i); the token; Γ]
-- Assumes `Logic`. T is plain data: its relation makes what it owns.
use mathlib.Core.Path.{sym, ◌∙◌, ap, subst}
use Prim.Native.Nat.{ℕ, ◌<◌}
use mathlib.Core.List.{List, [], ◌∷◌}
use lib.ListN.{length, get_or, set, length-set}
use seplogic.Ra.Ura.{Ura}
use base.Fraction.{full_share}
use mir.Syntax.{Lifetime}
use mir.Val.{Val}
use base.Fml.{Lft, GName, Share, Fml, fsep, flft, fobs, fauth, fobor}
use types.Logic.{Logic}
use types.Kit.{Goal, Soaks, Item, ‵, Seq, Step, step, ◌$◌, move, drop, fsplit, fjoin}
use denote.RattleType.{RattleType}
use denote.Shadow.{pure_i}
use denote.Laws.{Is, Tells, Makes, shows}
use denote.Memory.{cell_at, mem, shares}
use denote.Ref.{MutBor}
use denote.Slice.{slice_val, MutSlice, heres, Room, mut_slice_at, coded_holeys}
use denote.Lend.{Held}
use denote.Index.{place, others, elem_out, elem_put, opens_slice, closes_slice}
use denote.Steps.{peeks, owned}

module _ (R : RattleType) (ℓ : Lifetime) (κ : Lft) (q : Share) (b o : ℕ) (γ : GName) where
  abbrev pub at_list : List R.Denot → MutBor (List R.Denot)
  at_list ys = record { ref_ptr = (b, o); ghost_name = γ; now = ys }

  abbrev pub Opened : List R.Denot → ℕ → Fml
  Opened ys i =
      let code = (coded_holeys R).code (heres R ys) in
      fsep (others (shares R) full_share ys i b o) (fsep (fobor κ q (Held R (length ys) b o γ)) (fsep (fobs γ code) (fauth γ code)))

  module _ {M : Type 1} {𝓤 : Ura M} where
    abbrev whole : List R.Denot → List Val → Item 𝓤
    whole ys vs = ‵ ((MutSlice ℓ κ R).own_val (at_list ys) vs)

    -- the cell of element i
    abbrev elem : ℕ → List Val → Item 𝓤
    elem i us = ‵ (cell_at full_share R.mir us b (place (mem R).size o i))

    module _ {𝓛 : Logic 𝓤} {K : Type 0} {Γ : List (Item 𝓤)} {G : Goal 𝓤 𝓛.H}
        (vals : R.Denot → List Val) (tells : Tells R (Is R) vals) (ys : List R.Denot) (i : ℕ) (vs : List Val) where
      pub elem_open : K → Soaks G → (d : R.Denot) → i < length ys
          → (Is (MutSlice ℓ κ R) (at_list ys) vs → Seq K 𝓛 (elem i (vals (get_or ys i d)) ∷ ‵ (Opened ys i) ∷ Γ) G)
          → Seq K 𝓛 (whole ys vs ∷ ‵ (flft κ q) ∷ Γ) G
      elem_open t z d l k =
          peeks t (MutSlice ℓ κ R) (Is (MutSlice ℓ κ R)) (shows 𝓛 (MutSlice ℓ κ R)) (at_list ys) vs (λ is.
          fsplit t $ drop t $ fsplit t $ opens_slice t z R ys b o $
          elem_out t R (Is R) (shows 𝓛 R) vals tells full_share ys i d b o l (λ _.
          move t (1 ∷ []) $ drop t $
          -- [the cell; the others; the open borrow; obs; auth; Γ]
          move t (3 ∷ 4 ∷ []) $ fjoin t $ move t (3 ∷ 0 ∷ []) $ fjoin t $
          move t (2 ∷ 0 ∷ []) $ fjoin t $ move t (1 ∷ 0 ∷ []) $ k is))

      pub elem_close : K → Soaks G → (v : R.Denot) → Makes 𝓛 R (Is R) → Is R v (vals v)
          → Is (MutSlice ℓ κ R) (at_list ys) vs → i < length ys
          → Step K 𝓛 (whole (set ys i v) vs ∷ ‵ (flft κ q) ∷ Γ) G (elem i (vals v) ∷ ‵ (Opened ys i) ∷ Γ) G
      elem_close t z v mk isv is l =
          let same = length-set ys i v in
          step (λ k.
          owned t R (Is R) mk v (vals v) isv $ move t (2 ∷ []) $ fsplit t $
          move t (3 ∷ 2 ∷ 0 ∷ []) $ elem_put t R full_share ys i v (vals v) b o l $
          move t (1 ∷ []) $ fsplit t $ move t (1 ∷ []) $ fsplit t $
          move t (3 ∷ 2 ∷ 0 ∷ 1 ∷ []) $ closes_slice t z R ys (set ys i v) same b o $ fjoin t $
          pure_i t (mut_slice_at R (at_list (set ys i v)) vs) (tt, (tt, tt))
          (is.0.0 ∙ ap (λ (m : ℕ). slice_val (b, o) m ∷ []) (sym same), subst (Room R) (sym same) is.0.1) $
          fjoin t $ k)
