-- The rows of a pass over boundaries that stand in row order: they come in the order of the list, so that the pass's own rows are what `passed` leaves, by
-- position (`pass-rows`); and the starting map stands in row order (`start-ordered`). Assumes nothing.
use Prim.Native.Nat.{ℕ, zero, suc, ◌<◌}
use Rattle.std.proofs.Common.{arith, ap₂, ◌∙◌, true≢false, ltb-true, ltb-false, le-ltb, ne_eqb}
use Rattle.std.specs.Prelude.{◌≡◌, Bool, ◌&&◌, ◌||◌, length, eqb, ltb}
use Rattle.std.proofs.Math.Path.{refl, sym, ap}
use Rattle.std.proofs.Math.Bool.{true, false, not, cond}
use mathlib.Core.List.{List, [], ◌∷◌, ◌++◌, map, append-nil}
use Rattle.std.proofs.Math.ListN.{get_or}
use Rattle.definitions.specs.Scan.{collect, only_if, to_list, run, member}
use Rattle.definitions.specs.Sort.{insert, sort_onto, sort, list_lt}
use Rattle.definitions.specs.Grid.{Map, Segment, canonical, boundary_of}
use Rattle.definitions.specs.Context.{endpoints_key}
use Rattle.definitions.specs.Rows.{Row, row_key, rows_from, removed_of, rows_of}
use Rattle.laws.specs.ListLaws.Lists.{All, done, more, length_run}
use Rattle.laws.specs.ListLaws.Members.{all-place}
use Rattle.laws.specs.ListLaws.Scans.{picked, picked-length, picked_at, picked-map}
use Rattle.laws.specs.ListLaws.ScansOfAll.{collect-below}
use Rattle.laws.specs.ListLaws.Options.{on_only, on_list}
use Rattle.laws.specs.ListLaws.Below.{Ranked, rank-taken}
use Rattle.laws.specs.OrderLaws.Ranks.{rank, rank_mono}
use Rattle.laws.specs.RegionLaws.Merging.{run_at}
use Rattle.laws.specs.OrderLaws.StableSort.{Weak, After, Sorted, sort_sorted}
use Rattle.laws.specs.OrderLaws.ListOrder.{by_key}
use Rattle.laws.specs.OrderLaws.Endpoints.{canonical-twice}
use Rattle.rest_definitions.specs.RowOrder.{start_rows, no_row, turned, start_map}
use Rattle.rest_definitions.specs.Rest.{kept_map, passed}
use Rattle.rest.specs.Picking.{picked_same, picked_all, all_below_lem}
use Rattle.rest.specs.KeptMaps.{kept-boundaries, kept-boundary}
use Rattle.rest.specs.StartMaps.{start-length, start-boundaries, start-boundary, names}

-- ---- sorting what is in order

module _ {A : Type 0} (lt : A → A → Bool) where
  insert_last : (x : A) {l : List A} → All (λ y. lt x y ≡ false) l → insert lt x l ≡ l ++ (x ∷ [])
  unfolding insert
  insert_last x done = refl
  insert_last x (more {x = y} {l = l} h a) = go (lt x y) h (insert_last x a)
    where
      go : (b : Bool) → b ≡ false → insert lt x l ≡ l ++ (x ∷ []) → cond b (x ∷ y ∷ l) (y ∷ insert lt x l) ≡ y ∷ (l ++ (x ∷ []))
      go true e ih = absurd (true≢false e)
      go false e ih = ap {B = List A} (λ r. y ∷ r) ih

  sort_onto-append : (acc l m : List A) → sort_onto lt acc (l ++ m) ≡ sort_onto lt (sort_onto lt acc l) m
  unfolding sort_onto
  sort_onto-append acc [] m = refl
  sort_onto-append acc (x ∷ l) m = sort_onto-append (insert lt x acc) l m

  -- what is picked from places of which none is before an earlier one stays as it is
  pub sort-picked : (p : ℕ → Bool) (g : ℕ → A) (n : ℕ) → ((i j : ℕ) → j < i → i < n → lt (g i) (g j) ≡ false) → sort lt (picked p g n) ≡ picked p g n
  unfolding sort collect sort_onto
  sort-picked p g zero h = refl
  sort-picked p g (suc n) h =
      sort_onto-append [] (picked p g n) (to_list (only_if (p n) (g n)))
      ∙ ap (λ l. sort_onto lt l (to_list (only_if (p n) (g n)))) (sort-picked p g n (λ i j k l. h i j k (omega arith)))
      ∙ go (p n)
    where
      earlier : All (λ y. lt (g n) y ≡ false) (picked p g n)
      earlier = collect-below (λ y. lt (g n) y ≡ false) _ n (λ j k. on_list (on_only (p j) (g j) (h n j k (omega arith))))

      go : (b : Bool) → sort_onto lt (picked p g n) (to_list (only_if b (g n))) ≡ picked p g n ++ to_list (only_if b (g n))
      go true = insert_last (g n) earlier
      go false = sym (append-nil (picked p g n))

  after_at : (W : Weak lt) (d x : A) {l : List A} → After lt W x l → (i : ℕ) → i < length l → lt (get_or l i d) x ≡ false
  after_at W d x After.none i h = absurd (omega arith)
  after_at W d x (After.some k a) zero h = k
  after_at W d x (After.some k a) (suc i) h = after_at W d x a i (omega arith)

  sorted_at : (W : Weak lt) (d : A) {l : List A} → Sorted lt W l → (i j : ℕ) → j < i → i < length l → lt (get_or l i d) (get_or l j d) ≡ false
  sorted_at W d Sorted.none i j h k = absurd (omega arith)
  sorted_at W d (Sorted.some a s) zero j h k = absurd (omega arith)
  sorted_at W d (Sorted.some a s) (suc i) zero h k = after_at W d _ a i (omega arith)
  sorted_at W d (Sorted.some a s) (suc i) (suc j) h k = sorted_at W d s i j (omega arith) (omega arith)

-- ---- keys of one length, with a number behind

behind : (a b : List ℕ) (m n : ℕ) → length a ≡ length b → list_lt a b ≡ false → n < m → list_lt (a ++ (m ∷ [])) (b ++ (n ∷ [])) ≡ false
unfolding list_lt
behind [] [] m n e h l = rw (le-ltb m n (omega arith), ne_eqb m n (λ q. omega arith)) refl
behind [] (y ∷ b) m n e h l = absurd (omega arith)
behind (x ∷ a) [] m n e h l = absurd (omega arith)
behind (x ∷ a) (y ∷ b) m n e h l = go (ltb x y) (eqb x y) h (behind a b m n (omega arith))
  where
    go : (c d : Bool) → (c || (d && list_lt a b)) ≡ false → (list_lt a b ≡ false → n < m → list_lt (a ++ (m ∷ [])) (b ++ (n ∷ [])) ≡ false)
        → (c || (d && list_lt (a ++ (m ∷ [])) (b ++ (n ∷ [])))) ≡ false
    go true d k ih = absurd (true≢false k)
    go false true k ih = ih k l
    go false false k ih = refl

before : (a b l m : List ℕ) → length a ≡ length b → list_lt (a ++ l) (b ++ m) ≡ false → list_lt a b ≡ false
unfolding list_lt
before [] [] l m e h = refl
before [] (y ∷ b) l m e h = absurd (omega arith)
before (x ∷ a) [] l m e h = absurd (omega arith)
before (x ∷ a) (y ∷ b) l m e h = go (ltb x y) (eqb x y) h (before a b l m (omega arith))
  where
    go : (c d : Bool) → (c || (d && list_lt (a ++ l) (b ++ m))) ≡ false → (list_lt (a ++ l) (b ++ m) ≡ false → list_lt a b ≡ false)
        → (c || (d && list_lt a b)) ≡ false
    go true d k ih = absurd (true≢false k)
    go false true k ih = ih k
    go false false k ih = refl

-- ---- maps in row order

abbrev pub key_at : Map → ℕ → List ℕ
key_at N k = endpoints_key (boundary_of N k).endpoints

-- no boundary stands before an earlier one by its endpoints, and endpoints are canonical
pub record RowOrdered (N : Map) : Type 0 where
  pub ordered : (i j : ℕ) → j < i → i < length N.boundaries → list_lt (key_at N i) (key_at N j) ≡ false
  pub canonical_ends : (k : ℕ) → k < length N.boundaries → canonical (boundary_of N k).endpoints ≡ (boundary_of N k).endpoints

four : (s t : Segment) → length (endpoints_key s) ≡ length (endpoints_key t)
unfolding endpoints_key
four s t = refl

key-canonical : (s : Segment) → endpoints_key (canonical s) ≡ endpoints_key s
unfolding endpoints_key
key-canonical s = ap (λ t. t.a.x ∷ t.a.y ∷ t.b.x ∷ t.b.y ∷ []) (canonical-twice s)

-- the rows of a pass over such a map come in the order of its list
module _ (K : Map) (O : RowOrdered K) where
  abbrev row_of : ℕ → Row
  row_of k = record { number = k; line = canonical (boundary_of K k).endpoints }

  rows-order : (i j : ℕ) → j < i → i < length K.boundaries → list_lt (row_key (row_of i)) (row_key (row_of j)) ≡ false
  unfolding row_key
  rows-order i j h k =
      behind (endpoints_key (canonical (boundary_of K i).endpoints)) (endpoints_key (canonical (boundary_of K j).endpoints)) i j (four (canonical (boundary_of K i).endpoints) (canonical (boundary_of K j).endpoints))
      (ap₂ list_lt (key-canonical (boundary_of K i).endpoints) (key-canonical (boundary_of K j).endpoints) ∙ O.ordered i j h k) h

  pub rows-picked : (pass : ℕ) → rows_of pass K ≡ picked (λ k. not (member k (removed_of pass K))) row_of (length K.boundaries)
  unfolding rows_of rows_from
  rows-picked pass = sort-picked (λ r s. list_lt (row_key r) (row_key s)) (λ k. not (member k (removed_of pass K))) row_of (length K.boundaries) rows-order

-- ---- the starting map

module _ (M : Map) where
  abbrev start_row : ℕ → Row
  start_row k = get_or (start_rows M) k no_row

  start-line : (k : ℕ) → k < length M.boundaries → (boundary_of (start_map M) k).endpoints ≡ (start_row k).line
  unfolding turned
  start-line k h = ap (λ b. b.endpoints) (start-boundary M k h)

  pub start-sorted : (i j : ℕ) → j < i → i < length M.boundaries → list_lt (row_key (start_row i)) (row_key (start_row j)) ≡ false
  unfolding start_rows rows_from
  start-sorted i j h k =
      sorted_at (λ r s. list_lt (row_key r) (row_key s)) (by_key row_key) no_row
      (sort_sorted (λ r s. list_lt (row_key r) (row_key s)) (by_key row_key) (collect (length M.boundaries) (λ i. only_if true (record { number = i; line = canonical (boundary_of M i).endpoints })))) i j h
      (omega (arith, start-length M))

  start-keys : (i j : ℕ) → j < i → i < length M.boundaries → list_lt (endpoints_key (start_row i).line) (endpoints_key (start_row j).line) ≡ false
  unfolding row_key
  start-keys i j h k =
      before (endpoints_key (start_row i).line) (endpoints_key (start_row j).line) ((start_row i).number ∷ []) ((start_row j).number ∷ []) (four (start_row i).line (start_row j).line) (start-sorted i j h k)

  -- "Every pass [..] takes these in row order, with canonical endpoints"
  pub start-ordered : RowOrdered (start_map M)
  start-ordered =
      record {
        ordered =
            λ i j h k.
            let l : i < length M.boundaries = omega (arith, start-boundaries M) in
            let m : j < length M.boundaries = omega (arith, l, h) in
            ap₂ (λ s t. list_lt (endpoints_key s) (endpoints_key t)) (start-line i l) (start-line j m) ∙ start-keys i j h l;
        canonical_ends =
            λ k h.
            let l : k < length M.boundaries = omega (arith, start-boundaries M) in
            let line = (names M k l).line in
            ap canonical (start-line k l ∙ line) ∙ canonical-twice (boundary_of M (start_row k).number).endpoints ∙ sym (start-line k l ∙ line);
      }

-- ---- and what is kept of it

-- places that ascend
pub record Ascends (n : ℕ) (ps : List ℕ) : Type 0 where
  pub rising : (i j : ℕ) → j < i → i < length ps → get_or ps j 0 < get_or ps i 0
  pub within : All (λ i. i < n) ps

pub all_ascend : (n : ℕ) → Ascends n (run 0 n)
all_ascend n =
    record {
      rising = λ i j h k. let l : i < n = omega (arith, length_run 0 n) in let m : j < n = omega (arith, l, h) in omega (arith, run_at n i l, run_at n j m);
      within = all_below_lem n;
    }

module _ (N : Map) (O : RowOrdered N) (ps : List ℕ) (A : Ascends (length N.boundaries) ps) where
  abbrev place : ℕ → ℕ
  place k = get_or ps k 0

  pub kept-ordered : RowOrdered (kept_map N ps)
  kept-ordered =
      record {
        ordered =
            λ i j h k.
            let l : i < length ps = omega (arith, kept-boundaries N ps) in
            let m : j < length ps = omega (arith, l, h) in
            ap₂ (λ b c. list_lt (endpoints_key b.endpoints) (endpoints_key c.endpoints)) (kept-boundary N ps i l) (kept-boundary N ps j m)
            ∙ O.ordered (place i) (place j) (A.rising i j h l) (all-place 0 A.within i l);
        canonical_ends =
            λ k h.
            let l : k < length ps = omega (arith, kept-boundaries N ps) in
            ap (λ b. canonical b.endpoints) (kept-boundary N ps k l) ∙ O.canonical_ends (place k) (all-place 0 A.within k l) ∙ sym (ap (λ b. b.endpoints) (kept-boundary N ps k l));
      }

  module _ (pass : ℕ) where
    abbrev keep : ℕ → Bool
    keep k = not (member k (removed_of pass (kept_map N ps)))

    -- the rows of a pass are those of the positions that it keeps, in order; by them the places that it leaves are read off
    pub pass-rows : rows_of pass (kept_map N ps) ≡ picked keep (λ k. record { number = k; line = (boundary_of (kept_map N ps) k).endpoints }) (length ps)
    pass-rows =
        rows-picked (kept_map N ps) kept-ordered pass
        ∙ ap (λ n. picked keep (λ k. record { number = k; line = canonical (boundary_of (kept_map N ps) k).endpoints }) n) (kept-boundaries N ps)
        ∙ picked_same keep _ (λ k. record { number = k; line = (boundary_of (kept_map N ps) k).endpoints }) (length ps)
        (λ k h b. ap (λ s. record { number = k; line = s }) (kept-ordered.canonical_ends k (omega (arith, kept-boundaries N ps))))

    pub passed-rows : map (λ r. get_or ps r.number 0) (rows_of pass (kept_map N ps)) ≡ passed pass N ps
    unfolding passed
    passed-rows =
        ap (map (λ r. get_or ps r.number 0)) pass-rows
        ∙ sym (picked-map keep place (λ r. get_or ps r.number 0) (λ k. record { number = k; line = (boundary_of (kept_map N ps) k).endpoints }) (length ps) (λ k h. refl))

    pub passed-ascends : Ascends (length N.boundaries) (passed pass N ps)
    unfolding passed
    passed-ascends = record { rising = rises; within = picked_all keep 0 A.within }
      where
        left : List ℕ
        left = picked keep place (length ps)

        at : {k : ℕ} (t : Ranked keep (length ps) k) → get_or left k 0 ≡ place t.place
        at t = ap (λ q. get_or left q 0) (sym t.rank_is) ∙ picked_at keep place 0 (length ps) t.place t.below t.is_inside

        rises : (i j : ℕ) → j < i → i < length left → get_or left j 0 < get_or left i 0
        rises i j h k =
            let l : i < rank keep (length ps) = omega (arith, picked-length keep place (length ps)) in
            let t = rank-taken keep (length ps) i l in
            let u = rank-taken keep (length ps) j (omega (arith, l, h)) in
            let first : u.place < t.place = earlier t.place u.place (omega (arith, t.rank_is, u.rank_is, h)) in
            omega (arith, at t, at u, A.rising t.place u.place first t.below)
          where
            earlier : (x y : ℕ) → rank keep y < rank keep x → y < x
            earlier x y h = go (ltb y x) refl
              where
                go : (b : Bool) → ltb y x ≡ b → y < x
                go true e = ltb-true y x e
                go false e = absurd (omega (arith, h, rank_mono keep x y (ltb-false y x e)))
