-- What holds at every round of the depth-first search (DepthFirstLiteral): what is visited is what was visited before and the regions found; those lie in the start's
-- component and were not visited before; each of them is still to do or has all its links gone through; and every edge met names a region of the component.
-- Assumes a sound context.
use Prim.Native.Nat.{ℕ, zero, suc, ◌<◌, ◌≤◌}
use Rattle.std.proofs.Common.{arith, sym, ap, ap₂, ◌∙◌, subst, inl, inr, true≢false, eqb-true, eq-eqb, lt-ltb}
use Rattle.std.specs.Prelude.{◌≡◌, ◌⊎◌, Bool, true, false, not, ◌&&◌, ◌||◌, eqb, ltb}
use Rattle.std.proofs.Math.Path.{refl}
use Rattle.std.proofs.Math.Bool.{or-true, and-true}
use mathlib.Core.List.{List, [], ◌∷◌, Memᴰ}
use Rattle.std.proofs.lemmas.Bool.{not-true}
use Rattle.definitions.specs.Scan.{any, member}
use Rattle.definitions.specs.Grid.{Pair}
use Rattle.definitions.specs.Context.{Context}
use Rattle.definitions.specs.RampInteriors.{is_ordinary}
use Rattle.laws.specs.ListLaws.Lists.{All, all_map, all_both}
use Rattle.laws.specs.ListLaws.Tests.{both, or_split}
use Rattle.laws.specs.ListLaws.Members.{all_at, all_members, any_found, any-member}
use Rattle.laws.specs.RegionLaws.Merging.{Within}
use Rattle.laws.specs.RegionLaws.Components.{component, links_at, component-closed}
use Rattle.laws.specs.RustContext.SoundContext.{Sound}
use Rattle.laws.specs.RustInteriors.ComponentRegions.{inside}
use Rattle.laws.specs.RustInteriors.DepthFirstLiteral.{Link, graph_at, Search, visit_links, with_todo, popped, search_for}
use Rattle.laws.specs.RustInteriors.SearchRounds.{leads_to, goes_by, edges-after, visited_after_lem, regions-after, todo-after, Ordered, links-ordered}
use Rattle.laws.specs.RustInteriors.SearchGraph.{links_of_lem, graph_all}

or_none : (a b : Bool) → (a || b) ≡ false → a ≡ false
or_none true b h = absurd (true≢false h)
or_none false b h = refl

module _ (C : Context) where
  -- i is an ordinary full cut that names a region of the component named r
  abbrev pub meets : ℕ → ℕ → Bool
  meets r i = ltb i C.count && (is_ordinary C i && any (λ p. inside C r p.lo || inside C r p.hi) (C.pairs i))

  -- all links of x have been gone through
  abbrev pub Through : Search → ℕ → Type 0
  Through s x = All (λ l. (member l.neighbor s.visited ≡ true) × (member l.index s.edges ≡ true)) (graph_at C x)

module _ (C : Context) (sound : Sound C) (within : (i : ℕ) → All (Within (suc C.regions)) (C.pairs i)) where
  -- the two regions of a pair of an ordinary full cut are in one component
  level : (i : ℕ) → i < C.count → is_ordinary C i ≡ true → All (λ p. component C p.lo ≡ component C p.hi) (C.pairs i)
  level i l o = links_at C (component-closed C within) i l o

  -- a link stays in the component, and leads to a label
  stays : (x : ℕ) → All (λ l. (component C l.neighbor ≡ component C x) × (l.neighbor < suc C.regions)) (graph_at C x)
  stays x = graph_all C sound x (λ i l o. all_map (λ p t. links_of_lem C sound x i p (λ e. (sym t.0 ∙ ap (component C) e, t.1.hi)) (λ e. (t.0 ∙ ap (component C) e, t.1.lo))) (all_both (level i l o) (within i)))

  pub low-links : (x : ℕ) → All (λ l. l.neighbor < suc C.regions) (graph_at C x)
  low-links x = all_map (λ l t. t.1) (stays x)

  leads : (x y : ℕ) → leads_to (graph_at C x) y ≡ true → (component C y ≡ component C x) × (y ≤ C.regions)
  leads x y h =
      let f = any_found (λ l. eqb y l.neighbor) (graph_at C x) h in
      let t = all_at (stays x) f.1 in
      (ap (component C) (eqb-true y f.0.neighbor f.2) ∙ t.0, omega (arith, t.1, eqb-true y f.0.neighbor f.2))

  meeting : (r x : ℕ) → component C x ≡ r → All (λ l. meets C r l.index ≡ true) (graph_at C x)
  meeting r x h = graph_all C sound x (λ i l o. all_map (λ p m. links_of_lem C sound x i p (λ e. met i l o p m (ap (λ b. b || inside C r p.hi) (here p.lo e))) (λ e. met i l o p m (ap (λ b. inside C r p.lo || b) (here p.hi e) ∙ or-true (inside C r p.lo)))) (all_members (C.pairs i)))
    where
      here : (y : ℕ) → y ≡ x → inside C r y ≡ true
      here y e = eq-eqb (component C y) r (ap (component C) e ∙ h)

      met : (i : ℕ) → i < C.count → is_ordinary C i ≡ true → (p : Pair) → Memᴰ p (C.pairs i) → (inside C r p.lo || inside C r p.hi) ≡ true → meets C r i ≡ true
      met i l o p m k = ap₂ ◌&&◌ (lt-ltb i C.count l) (ap₂ ◌&&◌ o (any-member (λ p. inside C r p.lo || inside C r p.hi) m k))

  -- ---- what holds at every round

  module _ (before : List ℕ) (start : ℕ) where
    pub record Round (s : Search) : Type 0 where
      pub seen : (x : ℕ) → member x s.visited ≡ (member x before || member x s.regions)
      pub joined : (x : ℕ) → member x s.regions ≡ true → (component C x ≡ component C start) × (x ≤ C.regions) × (member x before ≡ false)
      pub begun : member start s.regions ≡ true
      pub waiting : (x : ℕ) → member x s.todo ≡ true → member x s.regions ≡ true
      pub through : (x : ℕ) → member x s.regions ≡ true → (member x s.todo ≡ true) ⊎ Through C s x
      pub met : (i : ℕ) → member i s.edges ≡ true → meets C (component C start) i ≡ true

    next_round : (s : Search) (x : ℕ) (rest : List ℕ) → s.todo ≡ x ∷ rest → Round s → Round (visit_links (with_todo rest s) (graph_at C x))
    unfolding member any
    next_round s x rest e R = record { seen = seen; joined = joined; begun = begun; waiting = waiting; through = through; met = met }
      where
        links : List Link
        links = graph_at C x

        t : Search
        t = visit_links (with_todo rest s) links

        todo_is : (y : ℕ) → member y s.todo ≡ (eqb y x || member y rest)
        todo_is y = ap (member y) e

        x_in : member x s.regions ≡ true
        x_in = R.waiting x (todo_is x ∙ ap (λ b. b || member x rest) (eq-eqb x x refl))

        x-joined : component C x ≡ component C start
        x-joined = (R.joined x x_in).0

        regions-t : (y : ℕ) → member y t.regions ≡ (member y s.regions || leads_to links y && not (member y s.visited))
        regions-t y = regions-after (with_todo rest s) links y

        todo-t : (y : ℕ) → member y t.todo ≡ (member y rest || leads_to links y && not (member y s.visited))
        todo-t y = todo-after (with_todo rest s) links y

        -- found before this round, or in it
        split : (y : ℕ) → member y t.regions ≡ true → (member y s.regions ≡ true) ⊎ ((leads_to links y && not (member y s.visited)) ≡ true)
        split y h = or_split (member y s.regions) (leads_to links y && not (member y s.visited)) (sym (regions-t y) ∙ h)

        old : (y : ℕ) → member y s.regions ≡ true → member y t.regions ≡ true
        old y h = regions-t y ∙ ap (λ b. b || leads_to links y && not (member y s.visited)) h

        new : (y : ℕ) → (leads_to links y && not (member y s.visited)) ≡ true → member y t.regions ≡ true
        new y h = regions-t y ∙ ap (λ b. member y s.regions || b) h ∙ or-true (member y s.regions)

        seen : (y : ℕ) → member y t.visited ≡ (member y before || member y t.regions)
        seen y =
            visited_after_lem (with_todo rest s) links y ∙ ap (λ v. v || leads_to links y) (R.seen y) ∙ go (member y before) (member y s.regions) (leads_to links y)
            ∙ sym (ap (λ q. member y before || q) (regions-t y ∙ ap (λ v. member y s.regions || leads_to links y && not v) (R.seen y)))
          where
            go : (b r n : Bool) → (b || r || n) ≡ (b || (r || n && not (b || r)))
            go true r n = refl
            go false true n = refl
            go false false n = sym (and-true n)

        joined : (y : ℕ) → member y t.regions ≡ true → (component C y ≡ component C start) × (y ≤ C.regions) × (member y before ≡ false)
        joined y h = go (split y h)
          where
            go : (member y s.regions ≡ true) ⊎ ((leads_to links y && not (member y s.visited)) ≡ true) → (component C y ≡ component C start) × (y ≤ C.regions) × (member y before ≡ false)
            go (inl k) = R.joined y k
            go (inr k) =
                let b = both (leads_to links y) (not (member y s.visited)) k in
                let l = leads x y b.0 in
                (l.0 ∙ x-joined, l.1, or_none (member y before) (member y s.regions) (sym (R.seen y) ∙ not-true (member y s.visited) b.1))

        begun : member start t.regions ≡ true
        begun = old start R.begun

        waiting : (y : ℕ) → member y t.todo ≡ true → member y t.regions ≡ true
        waiting y h = go (or_split (member y rest) (leads_to links y && not (member y s.visited)) (sym (todo-t y) ∙ h))
          where
            go : (member y rest ≡ true) ⊎ ((leads_to links y && not (member y s.visited)) ≡ true) → member y t.regions ≡ true
            go (inl k) = old y (R.waiting y (todo_is y ∙ ap (λ b. eqb y x || b) k ∙ or-true (eqb y x)))
            go (inr k) = new y k

        -- the links of x are gone through now
        done-now : Through C t x
        done-now = all_map (λ l m. (visited_after_lem (with_todo rest s) links l.neighbor ∙ ap (λ b. member l.neighbor s.visited || b) (any-member (λ k. eqb l.neighbor k.neighbor) m (eq-eqb l.neighbor l.neighbor refl)) ∙ or-true (member l.neighbor s.visited), edges-after (with_todo rest s) links l.index ∙ ap (λ b. member l.index s.edges || b) (any-member (λ k. eqb l.index k.index) m (eq-eqb l.index l.index refl)) ∙ or-true (member l.index s.edges))) (all_members links)

        stays-done : (y : ℕ) → Through C s y → Through C t y
        stays-done y a = all_map (λ l h. (visited_after_lem (with_todo rest s) links l.neighbor ∙ ap (λ b. b || leads_to links l.neighbor) h.0, edges-after (with_todo rest s) links l.index ∙ ap (λ b. b || goes_by links l.index) h.1)) a

        through : (y : ℕ) → member y t.regions ≡ true → (member y t.todo ≡ true) ⊎ Through C t y
        through y h = go (split y h)
          where
            waits : (member y rest || leads_to links y && not (member y s.visited)) ≡ true → (member y t.todo ≡ true) ⊎ Through C t y
            waits k = inl (todo-t y ∙ k)

            on : (eqb y x ≡ true) ⊎ (member y rest ≡ true) → (member y t.todo ≡ true) ⊎ Through C t y
            on (inl k) = inr (subst (Through C t) (sym (eqb-true y x k)) done-now)
            on (inr k) = waits (ap (λ b. b || leads_to links y && not (member y s.visited)) k)

            was : (member y s.todo ≡ true) ⊎ Through C s y → (member y t.todo ≡ true) ⊎ Through C t y
            was (inl k) = on (or_split (eqb y x) (member y rest) (sym (todo_is y) ∙ k))
            was (inr k) = inr (stays-done y k)

            go : (member y s.regions ≡ true) ⊎ ((leads_to links y && not (member y s.visited)) ≡ true) → (member y t.todo ≡ true) ⊎ Through C t y
            go (inl k) = was (R.through y k)
            go (inr k) = waits (ap (λ b. member y rest || b) k ∙ or-true (member y rest))

        met : (i : ℕ) → member i t.edges ≡ true → meets C (component C start) i ≡ true
        met i h = go (or_split (member i s.edges) (goes_by links i) (sym (edges-after (with_todo rest s) links i) ∙ h))
          where
            go : (member i s.edges ≡ true) ⊎ (goes_by links i ≡ true) → meets C (component C start) i ≡ true
            go (inl k) = R.met i k
            go (inr k) =
                let f = any_found (λ l. eqb i l.index) links k in
                ap (meets C (component C start)) (eqb-true i f.0.index f.2) ∙ all_at (meeting (component C start) x x-joined) f.1

    pub rounds-hold : (rounds : ℕ) (s : Search) → Round s → Ordered s → Round (search_for C rounds s) × Ordered (search_for C rounds s)
    unfolding search_for
    rounds-hold zero s R o = (R, o)
    rounds-hold (suc rounds) s R o = go s.todo refl (λ t R o. rounds-hold rounds t R o)
      where
        go : (todo : List ℕ) → s.todo ≡ todo → ((t : Search) → Round t → Ordered t → Round (search_for C rounds t) × Ordered (search_for C rounds t)) → Round (popped todo s (λ region rest. search_for C rounds (visit_links (with_todo rest s) (graph_at C region)))) × Ordered (popped todo s (λ region rest. search_for C rounds (visit_links (with_todo rest s) (graph_at C region))))
        go [] e ih = (R, o)
        go (x ∷ rest) e ih = ih (visit_links (with_todo rest s) (graph_at C x)) (next_round s x rest e R) (links-ordered (with_todo rest s) (graph_at C x) (record { visited = o.visited; regions = o.regions; edges = o.edges }))
