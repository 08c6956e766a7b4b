-- What the depth-first search finds (DepthFirstLiteral), from a start that it has not visited, where what it has visited is closed under links: the regions of the
-- start's component, and the ordinary full cuts that name one of them. The argument: when nothing is to do, all links of the regions found have been gone through
-- (SearchInvariant), so that they are closed under links, and are the component (Components). Assumes a sound context.
use Rattle.std.specs.Prelude.{ℕ, suc, ◌<◌, ◌≤◌, ◌≡◌, refl, ◌⊎◌, Bool, true, false, ◌&&◌, ◌||◌, eqb, ltb, leb}
use native.Mathlib.Omega.{arith}
use Rattle.std.proofs.Common.{sym, ◌∙◌, inr, ltb-true, eqb-true, eq-eqb, leb-true, leb-false}
use Rattle.std.proofs.Math.Path.{ap}
use Rattle.std.proofs.Math.Logic.{inl}
use Rattle.std.proofs.Math.Bool.{not, or-false, or_comm}
use Rattle.std.proofs.lemmas.Bool.{false≢true}
use mathlib.Core.List.{List, [], ◌∷◌, Memᴰ}
use Rattle.definitions.specs.Scan.{any, member}
use Rattle.definitions.specs.Grid.{Pair}
use Rattle.definitions.specs.Context.{Context}
use Rattle.definitions.specs.RampInteriors.{is_ordinary}
use Rattle.laws.specs.ListLaws.Lists.{All, all_map, all_both}
use Rattle.laws.specs.ListLaws.Tests.{both, or_split}
use Rattle.laws.specs.ListLaws.Members.{all_at, all_members, any_found}
use Rattle.laws.specs.RegionLaws.Merging.{Within}
use Rattle.laws.specs.RegionLaws.Components.{component, links-all, component-set}
use Rattle.laws.specs.RustContext.SoundContext.{Sound}
use Rattle.laws.specs.SetLaws.Sets.{Ascending, none, set_insert, member-insert, insert_ascending}
use Rattle.laws.specs.RustInteriors.ComponentRegions.{inside, in_range_lem}
use Rattle.laws.specs.RustInteriors.DepthFirstLiteral.{Search, search_from}
use Rattle.laws.specs.RustInteriors.SearchRounds.{Ordered, left, search_ends}
use Rattle.laws.specs.RustInteriors.SearchGraph.{graph_at_lem, at_lo_lem, at_hi_lem}
use Rattle.laws.specs.RustInteriors.SearchInvariant.{low-links, meets, Through, Round, rounds-hold}
use Rattle.laws.specs.ListLaws.ScanSteps.{count-le}

module _ (C : Context) (sound : Sound C) (within : (i : ℕ) → All (Within (suc C.regions)) (C.pairs i)) (before : List ℕ) (start : ℕ) (closed : (i : ℕ) → i < C.count → is_ordinary C i ≡ true → All (λ p. member p.lo before ≡ member p.hi before) (C.pairs i)) where
  -- ---- when nothing is to do

  module _ (s : Search) (R : Round C sound within before start s) (over : s.todo ≡ []) where
    through-all : (x : ℕ) → member x s.regions ≡ true → Through C s x
    unfolding member any
    through-all x h = go (R.through x h)
      where
        go : (member x s.todo ≡ true) ⊎ Through C s x → Through C s x
        go (inl k) = absurd (false≢true (sym (ap (member x) over) ∙ k))
        go (inr k) = k

    -- a region that has been seen, and is not from before
    found_here : (y : ℕ) → member y s.visited ≡ true → member y before ≡ false → member y s.regions ≡ true
    found_here y h k = ap (λ b. b || member y s.regions) (sym k) ∙ sym (R.seen y) ∙ h

    regions-closed : (i : ℕ) → i < C.count → is_ordinary C i ≡ true → All (λ p. member p.lo s.regions ≡ member p.hi s.regions) (C.pairs i)
    regions-closed i l o = all_map (λ p m. go p m (member p.lo s.regions) refl (member p.hi s.regions) refl) (all_both (all_members (C.pairs i)) (closed i l o))
      where
        go : (p : Pair) → Memᴰ p (C.pairs i) × (member p.lo before ≡ member p.hi before) → (a : Bool) → member p.lo s.regions ≡ a → (b : Bool) → member p.hi s.regions ≡ b → a ≡ b
        go p m true h true k = refl
        go p m true h false k =
            sym (sym k ∙ found_here p.hi (at_lo_lem C sound i p (all_at (graph_at_lem C sound p.lo (through-all p.lo h) i l o) m.0)).0 (sym m.1 ∙ (R.joined p.lo h).2))
        go p m false h true k = sym h ∙ found_here p.lo (at_hi_lem C sound i p (all_at (graph_at_lem C sound p.hi (through-all p.hi k) i l o) m.0)).0 (m.1 ∙ (R.joined p.hi k).2)
        go p m false h false k = refl

    pub regions-found : start ≤ C.regions → 1 ≤ component C start → (x : ℕ) → member x s.regions ≡ inside C (component C start) x
    regions-found low named x = go (leb x C.regions) refl
      where
        go : (b : Bool) → leb x C.regions ≡ b → member x s.regions ≡ inside C (component C start) x
        go true e = component-set C within (λ x. member x s.regions) (links-all C regions-closed) start low R.begun (λ x k h. (R.joined x h).0) x (leb-true x C.regions e)
        go false e = out (member x s.regions) refl (inside C (component C start) x) refl
          where
            out : (b : Bool) → member x s.regions ≡ b → (c : Bool) → inside C (component C start) x ≡ c → b ≡ c
            out true h c k = absurd (omega (arith, leb-false x C.regions e, (R.joined x h).1))
            out false h true k = absurd (omega (arith, leb-false x C.regions e, in_range_lem C within (component C start) x named k))
            out false h false k = refl

    pub edges-found : start ≤ C.regions → 1 ≤ component C start → (i : ℕ) → member i s.edges ≡ meets C (component C start) i
    edges-found low named i = go (member i s.edges) refl (meets C (component C start) i) refl
      where
        r : ℕ
        r = component C start

        go : (b : Bool) → member i s.edges ≡ b → (c : Bool) → meets C r i ≡ c → b ≡ c
        go true h c k = sym (R.met i h) ∙ k
        go false h false k = refl
        go false h true k = sym h ∙ there
          where
            t : (ltb i C.count ≡ true) × ((is_ordinary C i && any (λ p. inside C r p.lo || inside C r p.hi) (C.pairs i)) ≡ true)
            t = both (ltb i C.count) (is_ordinary C i && any (λ p. inside C r p.lo || inside C r p.hi) (C.pairs i)) k

            u : (is_ordinary C i ≡ true) × (any (λ p. inside C r p.lo || inside C r p.hi) (C.pairs i) ≡ true)
            u = both (is_ordinary C i) (any (λ p. inside C r p.lo || inside C r p.hi) (C.pairs i)) t.1

            there : member i s.edges ≡ true
            there =
                let f = any_found (λ p. inside C r p.lo || inside C r p.hi) (C.pairs i) u.1 in
                pick f.0 f.1 (or_split (inside C r f.0.lo) (inside C r f.0.hi) f.2)
              where
                l : i < C.count
                l = ltb-true i C.count t.0

                pick : (p : Pair) → Memᴰ p (C.pairs i) → (inside C r p.lo ≡ true) ⊎ (inside C r p.hi ≡ true) → member i s.edges ≡ true
                pick p m (inl q) = (at_lo_lem C sound i p (all_at (graph_at_lem C sound p.lo (through-all p.lo (regions-found low named p.lo ∙ q)) i l u.0) m)).1
                pick p m (inr q) = (at_hi_lem C sound i p (all_at (graph_at_lem C sound p.hi (through-all p.hi (regions-found low named p.hi ∙ q)) i l u.0) m)).1

  -- ---- from the start

  abbrev begin : Search
  begin = record { visited = set_insert before start; regions = set_insert [] start; edges = []; todo = start ∷ [] }

  module _ (low : start ≤ C.regions) (fresh : member start before ≡ false) where
    begin-round : Round C sound within before start begin
    unfolding member any set_insert
    begin-round =
        record {
          seen = λ x. member-insert x before start ∙ or_comm (eqb x start) (member x before) ∙ ap (λ b. member x before || b) (sym (or-false (eqb x start)));
          joined = λ x h. own x (eqb-true x start (sym (or-false (eqb x start)) ∙ h));
          begun = ap (λ b. b || false) (eq-eqb start start refl);
          waiting = λ x h. h;
          through = λ x h. inl h;
          met = λ i h. absurd (false≢true h);
        }
      where
        own : (x : ℕ) → x ≡ start → (component C x ≡ component C start) × (x ≤ C.regions) × (member x before ≡ false)
        own x e = (ap (component C) e, omega arith, ap (λ y. member y before) e ∙ fresh)

    module _ (sorted : Ascending before) where
      begin-ordered : Ordered begin
      begin-ordered = record { visited = insert_ascending start sorted; regions = insert_ascending start none; edges = none }

      searched : Round C sound within before start (search_from C before start) × Ordered (search_from C before start)
      unfolding search_from
      searched = rounds-hold C sound within before start (suc (suc C.regions)) begin begin-round begin-ordered

      over : (search_from C before start).todo ≡ []
      unfolding search_from left
      over = search_ends (suc C.regions) C (low-links C sound within) (suc (suc C.regions)) begin (omega (arith, count-le (λ y. not (member y (set_insert before start))) (suc C.regions)))

      -- what the search finds
      module _ (named : 1 ≤ component C start) where
        pub search_regions : (x : ℕ) → member x (search_from C before start).regions ≡ inside C (component C start) x
        search_regions = regions-found (search_from C before start) searched.0 over low named

        pub search_edges : (i : ℕ) → member i (search_from C before start).edges ≡ meets C (component C start) i
        search_edges = edges-found (search_from C before start) searched.0 over low named

        pub search_visited : (x : ℕ) → member x (search_from C before start).visited ≡ (member x before || inside C (component C start) x)
        search_visited x = searched.0.seen x ∙ ap (λ b. member x before || b) (search_regions x)

        pub search_ordered : Ordered (search_from C before start)
        search_ordered = searched.1
