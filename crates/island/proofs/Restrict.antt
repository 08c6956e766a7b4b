-- A map restricted to an island: its cut steps are those of the spans that cut the island, its uncut steps are the island's, and so an island cell has the root
-- that it has in the map. The argument: no step leaves the island, so that each cut step lies whole on one side; a span with a step in the island has none outside
-- by the premise, and one with none in the island has all outside. Assumes the premises of an island (`Island`).
use Rattle.std.specs.Prelude.{ℕ, ◌<◌, ◌≡◌, Bool, ◌&&◌, cond, get_or}
use Rattle.std.proofs.Math.Path.{refl, sym, ap, ap₂, fun_ext}
use Rattle.std.proofs.Common.{◌∙◌, true≢false}
use Rattle.std.proofs.Math.Bool.{true, false, not, ◌||◌}
use mathlib.Core.List.{List, [], ◌∷◌, ◌++◌, map, map-id}
use Rattle.std.proofs.Math.Arith.{digits_lt}
use Rattle.std.proofs.Math.Dec.{eqb, ltb}
use borrow.Author.Tests.{ltb-true, lt-ltb, eqb-true}
use Rattle.definitions.specs.Scan.{any, filter, concat_map, any_below_lem}
use Rattle.definitions.specs.Grid.{Map, Position, Segment, Pair, pair_eq, no_segment, canonical, index, cell_count, cell_at, is_walkable, position_of, toward, walkable, is_step, directions, neighbors, onward, edge, span_count, span_of}
use Rattle.definitions.specs.Spans.{cuts, candidate_positions, cut_steps}
use Rattle.definitions.specs.Partition.{all_steps, cut_all_lem, uncut, roots}
use Rattle.laws.specs.ListLaws.Lists.{All, done, more, all_split, all_map, all_both, any-gather}
use Rattle.laws.specs.OrderLaws.Ranks.{rank, any-rank}
use Rattle.laws.specs.ListLaws.Scans.{picked_at, filter-gather, filter-swap}
use Rattle.laws.specs.ListLaws.Members.{any-failed}
use Rattle.laws.specs.RegionLaws.MergingInside.{Keeps, Agree, Sided, merging_inside}
use Rattle.laws.specs.RegionLaws.Steps.{step_is, uncut-all, cut_all}
use Rattle.island.specs.Premises.{cuts_island, cuts_remainder, Island}
use Rattle.island.specs.Steps.{steps_in}
use Rattle.island.specs.Restrict.{restrict, walkable_at_lem, count_in, cuts_lt}

module _ (M : Map) (isl : ℕ → Bool) where
  module _ (I : Island M isl) where
    -- ---- a span's steps lie on one side

    pub cut-sided : (i : ℕ) → i < span_count M → All (λ e. isl e.lo ≡ cuts_island M isl i) (cut_steps M i)
    unfolding cuts_island cuts_remainder
    cut-sided i l = go (cuts_island M isl i) refl
      where
        one : All (λ e. isl e.lo ≡ isl e.hi) (cut_steps M i)
        one = cut_all M (λ e. isl e.lo ≡ isl e.hi) (λ p d h l. I.apart p d h) i

        below : ltb i (span_count M) ≡ true
        below = lt-ltb i (span_count M) l

        inner : (a b : Bool) → a ≡ b → (not a && not b) ≡ false → a ≡ true
        inner true b e h = refl
        inner false true e h = e
        inner false false e h = absurd (true≢false h)

        outer : (a b : Bool) → a ≡ b → (a && b) ≡ false → a ≡ false
        outer true true e h = h
        outer true false e h = e
        outer false b e h = refl

        go : (b : Bool) → cuts_island M isl i ≡ b → All (λ e. isl e.lo ≡ b) (cut_steps M i)
        go true h =
            all_map (λ e k. inner (isl e.lo) (isl e.hi) k.0 k.1)
            (all_both one (any-failed _ (cut_steps M i) (sym (ap₂ ◌&&◌ h (ap (λ b. b && any (λ e. not (isl e.lo) && not (isl e.hi)) (cut_steps M i)) below)) ∙ I.one_sided i)))
        go false h =
            all_map (λ e k. outer (isl e.lo) (isl e.hi) k.0 k.1)
            (all_both one (any-failed _ (cut_steps M i) (sym (ap (λ b. b && any (λ e. isl e.lo && isl e.hi) (cut_steps M i)) below) ∙ h)))

    -- ---- steps

    blocked : (q : Position) → walkable (restrict M isl) q ≡ (walkable M q && isl (index M q))
    unfolding walkable cell_count
    blocked q = go (ltb q.x M.width) refl (ltb q.y M.height) refl
      where
        go : (a : Bool) → ltb q.x M.width ≡ a → (b : Bool) → ltb q.y M.height ≡ b → (a && b && is_walkable (cell_at (restrict M isl) (index M q))) ≡ (a && b && is_walkable (cell_at M (index M q)) && isl (index M q))
        go true a true b = (walkable_at_lem M isl) (index M q) (digits_lt (ltb-true _ _ b) (ltb-true _ _ a))
        go true a false b = refl
        go false a true b = refl
        go false a false b = refl

    step : (p d : Position) → is_step (restrict M isl) p d ≡ (isl (index M p) && is_step M p d)
    step p d = steps_in M (restrict M isl) (λ q. isl (index M q)) blocked I.apart p d

    onward_from : (p : Position) (b : Bool) → isl (index M p) ≡ b → onward (restrict M isl) p ≡ filter (λ q. ltb (index M p) (index M q)) (map (toward p) (filter (λ d. b && is_step M p d) directions))
    unfolding onward neighbors
    onward_from p b h = ap (λ f. filter (λ q. ltb (index M p) (index M q)) (map (toward p) (filter f directions))) (fun_ext (λ d. step p d ∙ ap (λ b. b && is_step M p d) h))

    onward_in : (p : Position) → isl (index M p) ≡ true → onward (restrict M isl) p ≡ onward M p
    unfolding onward neighbors
    onward_in p h = onward_from p true h

    onward-out : (p : Position) → isl (index M p) ≡ false → onward (restrict M isl) p ≡ []
    unfolding filter
    onward-out p h = onward_from p false h

    -- ---- the steps that a span cuts

    abbrev piece : Map → Segment → Position → List Pair
    piece N g p = map (edge N p) (filter (cuts g p) (onward N p))

    piece_in : (g : Segment) (p : Position) → All (λ e. isl e.lo ≡ true) (piece M g p) → piece (restrict M isl) g p ≡ piece M g p
    unfolding filter
    piece_in g p a = go (isl (index M p)) refl
      where
        empty : isl (index M p) ≡ false → (l : List Position) → All (λ e. isl e.lo ≡ true) (map (edge M p) l) → [] ≡ map (edge M p) l
        empty h [] a = refl
        empty h (q ∷ l) (more k a) = absurd (true≢false (sym k ∙ h))

        go : (b : Bool) → isl (index M p) ≡ b → piece (restrict M isl) g p ≡ piece M g p
        go true h = ap (λ l. map (edge M p) (filter (cuts g p) l)) (onward_in p h)
        go false h = ap (λ l. map (edge M p) (filter (cuts g p) l)) (onward-out p h) ∙ empty h (filter (cuts g p) (onward M p)) a

    pieces_in : (g : Segment) (ps : List Position) → All (λ e. isl e.lo ≡ true) (concat_map (piece M g) ps) → concat_map (piece (restrict M isl) g) ps ≡ concat_map (piece M g) ps
    unfolding concat_map
    pieces_in g [] a = refl
    pieces_in g (p ∷ ps) a =
        let r = all_split (piece M g p) a in
        ap₂ ◌++◌ (piece_in g p r.0) (pieces_in g ps r.1)

    -- a span that cuts the island cuts the same steps in the restricted map
    pub cut_in : (i : ℕ) → cuts_island M isl i ≡ true → cut_steps (restrict M isl) (rank (cuts_island M isl) i) ≡ cut_steps M i
    unfolding cut_steps span_of
    cut_in i h =
        rw (picked_at (cuts_island M isl) (span_of M) no_segment (span_count M) i ((cuts_lt M isl) i h) h)
        (pieces_in (canonical (span_of M i)) (candidate_positions M.width M.height (canonical (span_of M i))) (all_map (λ e k. k ∙ h) (cut-sided i ((cuts_lt M isl) i h))))

    -- ---- the uncut steps

    abbrev inner : Pair → Bool
    inner e = isl e.lo

    steps_from : (p : Position) (l : List Position) → (b : Bool) → isl (index M p) ≡ b → filter inner (map (edge M p) l) ≡ cond b (map (edge M p) l) []
    unfolding filter
    steps_from p [] true h = refl
    steps_from p [] false h = refl
    steps_from p (q ∷ l) true h = rw h (ap {B = List Pair} (λ r. edge M p q ∷ r) (steps_from p l true h))
    steps_from p (q ∷ l) false h = rw h (steps_from p l false h)

    all_in : filter inner (all_steps M) ≡ all_steps (restrict M isl)
    unfolding all_steps cell_count
    all_in = filter-gather inner (cell_count M) _ _ (λ c. go (position_of M c) (isl (index M (position_of M c))) refl)
      where
        go : (p : Position) (b : Bool) → isl (index M p) ≡ b → filter inner (map (edge M p) (onward M p)) ≡ map (edge M p) (onward (restrict M isl) p)
        go p true h = steps_from p (onward M p) true h ∙ ap (map (edge M p)) (sym (onward_in p h))
        go p false h = steps_from p (onward M p) false h ∙ ap (map (edge M p)) (sym (onward-out p h))

    not-among : (e : Pair) {l : List Pair} → inner e ≡ true → All (λ x. inner x ≡ false) l → any (pair_eq e) l ≡ false
    unfolding any
    not-among e h done = refl
    not-among e h (more {x = x} k a) = ap₂ ◌||◌ (go (eqb e.lo x.lo) refl) (not-among e h a)
      where
        go : (b : Bool) → eqb e.lo x.lo ≡ b → (b && eqb e.hi x.hi) ≡ false
        go true q = absurd (true≢false (sym h ∙ ap isl (eqb-true _ _ q) ∙ k))
        go false q = refl

    gone_in : (e : Pair) → inner e ≡ true → any (pair_eq e) (cut_all_lem M) ≡ any (pair_eq e) (cut_all_lem (restrict M isl))
    unfolding cut_all_lem
    gone_in e h =
        any-gather (pair_eq e) (span_count M) (cut_steps M)
        ∙ any-rank (cuts_island M isl) _ (λ i. any (pair_eq e) (cut_steps (restrict M isl) i)) (span_count M)
        (λ i l b. ap (any (pair_eq e)) (sym (cut_in i b)))
        (λ i l b. not-among e h (all_map (λ x k. k ∙ b) (cut-sided i l)))
        ∙ ap (λ n. any_below_lem n (λ i. any (pair_eq e) (cut_steps (restrict M isl) i))) (sym (count_in M isl))
        ∙ sym (any-gather (pair_eq e) (span_count (restrict M isl)) (cut_steps (restrict M isl)))

    uncut_in : filter inner (uncut M) ≡ uncut (restrict M isl)
    unfolding uncut
    uncut_in =
        filter-swap inner (λ e. not (any (pair_eq e) (cut_all_lem M))) (λ e. not (any (pair_eq e) (cut_all_lem (restrict M isl)))) (all_steps M) (λ e h. ap not (gone_in e h))
        ∙ ap (filter (λ e. not (any (pair_eq e) (cut_all_lem (restrict M isl))))) all_in

    -- ---- the roots

    -- cells keep their numbers
    unmoved : Keeps isl (λ c. c) (cell_count M) (cell_count M)
    unmoved = record { order = λ a b h k. refl; level = λ a b h k. refl; small = λ c h k. h }

    roots-agree : Agree isl (λ c. c) (cell_count M) (cell_count M) unmoved (roots M) (roots (restrict M isl))
    unfolding roots cell_count
    roots-agree = rw (← uncut_in, ← (map-id (filter inner (uncut M)))) (merging_inside isl (λ c. c) (cell_count M) (cell_count M) unmoved sided)
      where
        sided : All (Sided isl (λ c. c) (cell_count M) (cell_count M) unmoved) (uncut M)
        sided =
            uncut-all M (Sided isl (λ c. c) (cell_count M) (cell_count M) unmoved)
            (λ p d h l.
            let s = step_is M p d h l in
            record { lo = s.within.lo; hi = s.within.hi; one = I.apart p d h })

    -- a root lies where its cell does, and an island cell has the same root in both maps
    pub root-side : (c : ℕ) → c < cell_count M → isl (get_or (roots M) c 0) ≡ isl c
    root-side c h = roots-agree.side c h

    pub root_same : (c : ℕ) → c < cell_count M → isl c ≡ true → get_or (roots M) c 0 ≡ get_or (roots (restrict M isl)) c 0
    root_same c h i = roots-agree.same c h i
