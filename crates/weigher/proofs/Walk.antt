-- Gates are listed and marked until the fanins of all that are listed are: then the marks that came are those of all that is reached.
-- Assumes nothing.
use mathlib.Core.Path.{◌≡◌, refl, sym, ◌∙◌, subst}
use mathlib.Core.Bool.{Bool, true, false}
use mathlib.Core.List.{List, [], ◌∷◌}
use mathlib.Core.Logic.{◌⊎◌, inl, inr, ⊎_elim, ◌↔◌}
use Prim.Native.Nat.{ℕ, zero, suc, ◌+◌, ◌≤◌, ◌<◌}
use native.Mathlib.Nat.{le_refl}
use native.Mathlib.Omega.{arith}
use lib.ListN.{length, get_or, take, length-take}
use lib.Seq.{length-take-le, get_or-take}
use Rattle.graph.specs.Literal.{var_of}
use Rattle.graph.specs.Graph.{Net, over, free, size, last, first, second, IsGate, Lawful}
use Rattle.graph.specs.Use.{Reached, as_output, marks, count_marks}
use Rattle.graph.proofs.Lists.{equal_or_not, same_tests}
use Rattle.graph.proofs.Members.{place_of}
use Rattle.graph.proofs.Graph.{over_lawful}
use Rattle.graph.proofs.Marks.{Marked}
use Rattle.graph.proofs.Use.{marked_iff}
use Rattle.replacement.specs.Vanish.{held_from}
use Rattle.replacement.proofs.Reach.{Fanin, by_fanin, by_reach, fanin_lower}
use Rattle.replacement.proofs.Counts.{apart, apart_same}
use Rattle.weigher.specs.Held.{set_each, GateMarked, Walked, walked_to, held, Holding, ClosedTo}
use Rattle.weigher.proofs.Steps.{
  set_each_keeps,
  set_each_only,
  Grown,
  grown_on,
  held_grows,
  held_few,
  held_has,
  Listing,
  nothing_listed,
  marks_room,
  held_listing,
}

-- ---- how far the walk is: the literals' gates are marked, and the fanin gates of the first `done` that are listed

pub record Stage (net : Net) (ls : List ℕ) (ms : List Bool) (done : ℕ) (s : Walked) : Type 0 where
  pub listing : Listing net ls ms s
  pub literals_marked : (j : ℕ) → j < length ls → GateMarked net s.marks (var_of (get_or ls j 0))
  pub done_within : done ≤ s.count
  pub fanins_marked : (j : ℕ) → j < done → (u : ℕ) → Fanin net (get_or s.list j 0) u → GateMarked net s.marks u

module _ (net : Net) (ls : List ℕ) (ms : List Bool) (room : last net < length ms) where
  -- two variables more: those of the literals, or the fanins of a gate
  module _ (s : Walked) (before : Listing net ls ms s) (space : suc s.count < length s.list) (x y : ℕ) (x-within : x ≤ last net)
      (y-within : y ≤ last net) (x-reached : Reached (over net ls) x) (y-reached : Reached (over net ls) y) where
    abbrev one : Walked
    one = held (free net) x s

    abbrev two : Walked
    two = held (free net) y one

    one_listing : Listing net ls ms one
    one_listing = held_listing net ls ms room s before x x-within x-reached (omega arith)

    two_listing : Listing net ls ms two
    two_listing =
        held_listing net ls ms room one one_listing y y-within y-reached
        (omega (arith, held_few (free net) x s, (held_grows (free net) x s).same_room))

    two_grow : Grown s two
    two_grow = grown_on (held_grows (free net) x s) (held_grows (free net) y one)

    two_marked : (u : ℕ) → (x ≡ u) ⊎ (y ≡ u) → GateMarked net two.marks u
    two_marked u f i = ⊎_elim
        (λ e. rw (← e) ((held_grows (free net) y one).keeps x
        (held_has (free net) x s (omega (arith, marks_room net ls ms room s before)) (let h = i.above in omega arith))))
        (λ e. rw (← e) (held_has (free net) y one (omega (arith, marks_room net ls ms room one one_listing))
        (let h = i.above in omega arith))) f

  pub stage_step : Lawful (over net []) → (done : ℕ) (s : Walked) → Stage net ls ms done s → done < s.count
      → suc s.count < length s.list → {t : Walked}
      → t ≡ held (free net) (var_of (second net (get_or s.list done 0))) (held (free net) (var_of (first net (get_or s.list done 0))) s)
      → Stage net ls ms (done + 1) t
  stage_step ok done s st h space e = rw e (let l = st.listing in let v = get_or s.list done 0 in let i = l.gates done h in
      let a = var_of (first net v) in let b = var_of (second net v) in
      let lower = fanin_lower (over net []) ok v in let from = by_fanin (over net ls) v in
      let a_within : a ≤ last net = omega (arith, lower a i (inl refl), i.within) in
      let b_within : b ≤ last net = omega (arith, lower b i (inr refl), i.within) in
      let a-reached = from a i (l.reached done h) (inl refl) in let b-reached = from b i (l.reached done h) (inr refl) in
      let more = two_grow s l space a b a_within b_within a-reached b-reached in
      record {
        listing = two_listing s l space a b a_within b_within a-reached b-reached;
        literals_marked = λ j q g. more.keeps _ (st.literals_marked j q g);
        done_within = omega (arith, more.more);
        fanins_marked = λ j q u f g.
            let of : Fanin net (get_or s.list j 0) u = subst (λ (w : ℕ). Fanin net w u) (more.same_list j (omega arith)) f in ⊎_elim
            (λ e. two_marked s l space a b a_within b_within a-reached b-reached u (rw e at of) g)
            (λ n. more.keeps u (st.fanins_marked j (omega arith) u of g))
            (equal_or_not j done);
      })

-- once both literals are held nothing is done yet
pub stage_start : (net : Net) (a b : ℕ) (ms : List Bool) → last net < length ms → var_of a ≤ last net → var_of b ≤ last net
    → (list : List ℕ) → 1 < length list → {t : Walked} → t ≡ held (free net) (var_of b) (held (free net) (var_of a) (walked_to ms list 0))
    → Stage net (a ∷ b ∷ []) ms 0 t
stage_start net a b ms room p q list space e = rw e (
    let ls = a ∷ b ∷ [] in let s = walked_to ms list 0 in let l = nothing_listed net ls ms list in
    let r : Reached (over net ls) (var_of a) = as_output 0 (omega arith) in
    let t : Reached (over net ls) (var_of b) = as_output 1 (omega arith) in
    let end = held (free net) (var_of b) (held (free net) (var_of a) s) in
    record {
      listing = two_listing net ls ms room s l space (var_of a) (var_of b) p q r t;
      literals_marked = at end.marks (two_marked net ls ms room s l space (var_of a) (var_of b) p q r t);
      done_within = omega arith;
      fanins_marked = λ j h. absurd (omega arith);
    })
  where
    at : (ns : List Bool) → ((u : ℕ) → (var_of a ≡ u) ⊎ (var_of b ≡ u) → GateMarked net ns u)
        → (j : ℕ) → j < 2 → GateMarked net ns (var_of (get_or (a ∷ b ∷ []) j 0))
    at ns f zero h = f (var_of a) (inl refl)
    at ns f (suc zero) h = f (var_of b) (inr refl)
    at ns f (suc (suc j)) h = absurd (omega arith)

pub stage_holding : (net : Net) (ls : List ℕ) (ms : List Bool) (done : ℕ) (s : Walked) → Stage net ls ms done s
    → Holding net ls ms (take s.count s.list) done
stage_holding net ls ms done s st =
    let l = st.listing in let vs = take s.count s.list in
    let long : length vs ≡ s.count = length-take-le s.count s.list l.fits in
    let at : (j : ℕ) → j < s.count → get_or s.list j 0 ≡ get_or vs j 0 = λ j h. sym (get_or-take s.count s.list j 0 h) in
    let marks-of = subst (λ (ns : List Bool). count_marks net ns (size net) ≡ count_marks net ms (size net) + s.count)
    l.marks_are l.counted in
    let more = apart net (set_each true vs ms) ms (λ v i m. set_each_keeps vs ms v m) (size net) (le_refl _) in
    record {
      gates = λ j h. subst (IsGate net) (at j (omega arith)) (l.gates j (omega arith));
      had_none = λ j h. subst (λ (u : ℕ). get_or ms u false ≡ false) (at j (omega arith)) (l.had_none j (omega arith));
      reached = λ j h. subst (Reached (over net ls)) (at j (omega arith)) (l.reached j (omega arith));
      counted = omega (arith, long, marks-of, more);
      literals_marked = λ j h i. rw (← l.marks_are) (st.literals_marked j h i);
      done_within = omega (arith, st.done_within);
      firsts_marked = λ j h. fanin_has j h (λ w. var_of (first net w)) (λ w. inl refl);
      seconds_marked = λ j h. fanin_has j h (λ w. var_of (second net w)) (λ w. inr refl);
    }
  where
    fanin_has : (j : ℕ) → j < done → (of : ℕ → ℕ) → ((w : ℕ) → Fanin net w (of w))
        → GateMarked net (set_each true (take s.count s.list) ms) (of (get_or (take s.count s.list) j 0))
    fanin_has j h of f =
        rw (get_or-take s.count s.list j 0 (omega (arith, st.done_within)), ← st.listing.marks_are)
        (st.fanins_marked j h (of (get_or s.list j 0)) (f (get_or s.list j 0)))

-- ---- the walk at its end: `done` are all that are listed

-- the first r in the list are listed
module _ (net : Net) (ls : List ℕ) (ms : List Bool) (list : List ℕ) (r : ℕ) (walk : Holding net ls ms (take r list) r) where
  pub listed_fit : r ≤ length list
  listed_fit = omega (arith, walk.done_within, length-take r list)

  pub listed_all : length (take r list) ≡ r
  listed_all = length-take-le r list listed_fit

module _ (net : Net) (ls : List ℕ) (ms : List Bool) (vs : List ℕ) (ok : Lawful (over net [])) (top : ℕ) (closed : ClosedTo net top ms)
    (low : (j : ℕ) → j < length ls → var_of (get_or ls j 0) ≤ top) (done : ℕ) (all : length vs ≤ done)
    (walk : Holding net ls ms vs done) where
  fanin_has_mark : (v u : ℕ) → IsGate net v → v ≤ top → Marked (set_each true vs ms) v → Fanin net v u
      → GateMarked net (set_each true vs ms) u
  fanin_has_mark v u i l m f g = ⊎_elim
      (λ p. let q = place_of 0 p in let h : q.0 < done = omega (arith, q.1) in
      let of : Fanin net (get_or vs q.0 0) u = subst (λ (w : ℕ). Fanin net w u) (sym q.2) f in ⊎_elim
      (λ e. subst (GateMarked net (set_each true vs ms)) e (walk.firsts_marked q.0 h) g)
      (λ e. subst (GateMarked net (set_each true vs ms)) e (walk.seconds_marked q.0 h) g) of)
      (λ k. set_each_keeps vs ms u (⊎_elim
      (λ e. subst (GateMarked net ms) e (closed.first_marked v i l k) g)
      (λ e. subst (GateMarked net ms) e (closed.second_marked v i l k) g) f))
      (set_each_only vs ms v m)

  reached_has_mark : (v : ℕ) → Reached (over net ls) v → (v ≤ top) × GateMarked net (set_each true vs ms) v
  reached_has_mark = by_reach (over net ls) (λ v. (v ≤ top) × GateMarked net (set_each true vs ms) v)
      (λ j h. (low j h, walk.literals_marked j h))
      (λ v u i r p f. (omega (arith, fanin_lower (over net []) ok v u i f, p.0), fanin_has_mark v u i p.0 (p.1 i) f))

  -- a gate has a mark where it had one, or the literals reach it
  pub walk_marks : (v : ℕ) → IsGate net v → Marked (set_each true vs ms) v ↔ (Marked ms v ⊎ Reached (over net ls) v)
  walk_marks v i = (
    λ m. ⊎_elim
        (λ p. let q = place_of 0 p in inr (subst (Reached (over net ls)) q.2 (walk.reached q.0 q.1)))
        (λ k. inl k) (set_each_only vs ms v m),
    λ b. ⊎_elim (λ k. set_each_keeps vs ms v k) (λ r. (reached_has_mark v r).1 i) b,
  )

  -- those that are listed are all that the literals reach without a mark
  pub walk_counts : ((j : ℕ) → j < length ls → var_of (get_or ls j 0) ≤ last net) → length vs ≡ held_from net ms ls
  unfolding held_from
  walk_counts within =
      let mark = marked_iff (over net ls) (over_lawful (over net []) ok ls within) in
      walk.counted ∙ apart_same net (set_each true vs ms) ms (marks (over net ls)) ms (λ v i. refl) (λ v i n. same_tests _ _
      (λ m. (mark v).1 (⊎_elim (λ k. absurd (n k)) (λ r. r) ((walk_marks v i).0 m)))
      (λ m. (walk_marks v i).1 (inr ((mark v).0 m)))) (size net) (le_refl _)
