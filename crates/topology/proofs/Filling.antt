-- The loop of `fill`: what is known of the records when the stretches before cell c are added, one stretch more, and the end. Assumes nothing.
use Prim.Native.Nat.{ℕ, zero, suc, ◌+◌, ◌-◌, ◌*◌, ◌/◌, ◌≤◌, ◌<◌}
use native.Mathlib.Omega.{arith}
use mathlib.Core.Path.{◌≡◌, refl, sym, ap, ap₂, ◌∙◌, subst}
use mathlib.Core.Bool.{Bool, true, false}
use mathlib.Core.Logic.{⊎_elim}
use mathlib.Core.List.{List, [], ◌∷◌, ◌++◌, map}
use lib.ListN.{length, get_or, set, take, drop, replicate, length-set, length-map, length-take, length-replicate, get_or-replicate, take-append-drop, get_or-append}
use lib.Seq.{drop-set-lt, ext_get_or, get_or-take, get_or-set_same, get_or-set_other}
use Rattle.definitions.specs.Scan.{run}
use Rattle.definitions.specs.Grid.{Map, cell_count}
use Rattle.definitions.specs.Partition.{labels, region_count, walkable_at}
use Rattle.definitions.specs.RegionRecord.{empty_region, region_of}
use Rattle.definitions.specs.RegionRecord as def
use Rattle.definitions.specs.Geometry.{float}
use Rattle.definitions.specs.Context.{context_of}
use Rattle.definitions.specs.AtExit.{records_of}
use Rattle.laws.specs.NumberLaws.Comparisons.{same_or}
use Rattle.laws.specs.ListLaws.Lists.{length_run}
use Rattle.laws.specs.RegionLaws.Regions.{label-range, label-blocked}
use Rattle.row_runs.specs.Contract.{Link, Chain, ended, linked}
use Rattle.context.specs.declared.Region.{Region}
use Rattle.context.specs.Records.{record_of}
use Rattle.stretches.specs.declared.Stretch.{Stretch}
use Rattle.stretches.specs.Stretches.{region_up_to, Read}
use Rattle.stretches.proofs.UpTo.{up_none, up-all, up-other}
use Rattle.topology.specs.Filled.{Fills, Filled, Emptied, Adds, Added}

-- ---- lists

module _ {A B : Type 0} (f : A → B) where
  pub map-set : (l : List A) (i : ℕ) (a : A) → map f (set l i a) ≡ set (map f l) i (f a)
  map-set [] i a = refl
  map-set (x ∷ l) zero a = refl
  map-set (x ∷ l) (suc i) a = ap {B = List B} (λ r. f x ∷ r) (map-set l i a)

  pub map-drop : (n : ℕ) (l : List A) → drop n (map f l) ≡ map f (drop n l)
  map-drop zero l = refl
  map-drop (suc n) [] = refl
  map-drop (suc n) (x ∷ l) = map-drop n l

-- of an element
map_at : {A B : Type 0} (f : A → B) (l : List A) (i : ℕ) (a : A) → get_or (map f l) i (f a) ≡ f (get_or l i a)
map_at f [] i a = refl
map_at f (x ∷ l) zero a = refl
map_at f (x ∷ l) (suc i) a = map_at f l i a

run_at : {A : Type 0} (f : ℕ → A) (m n i : ℕ) (a : A) → i < n → get_or (map f (run m n)) i a ≡ f (m + i)
unfolding run
run_at f m zero i a h = absurd (omega arith)
run_at f m (suc n) zero a h = ap f (omega arith)
run_at f m (suc n) (suc i) a h = run_at f (suc m) n i a (omega arith) ∙ ap f (omega arith)

-- a record, where the lists that have it are as long as they are read
some : Region
some =
    record { cells = 0; min_x = float 0; min_y = float 0; max_x = float 0; max_y = float 0; ramp_cells = 0; elevations = 0; elevation_counts = [] }

-- ---- the chain

record Next (M : Map) (q : List ℕ) (c : ℕ) : Type 0 where
  pub end : ℕ
  pub link : Link M q c end
  pub rest : Chain M q end

chain_next : {M : Map} {q : List ℕ} {c : ℕ} → Chain M q c → c < cell_count M → Next M q c
chain_next ended h = absurd (omega arith)
chain_next (linked l k) h = record { end = _; link = l; rest = k }

chain-within : {M : Map} {q : List ℕ} {c : ℕ} → Chain M q c → c ≤ cell_count M
chain-within ended = omega arith
chain-within (linked l k) = omega (arith, l.more, l.inside)

-- ---- the loop

-- a stretch begins at cell c, each region's record is that of its cells before c, and those beyond are as they were
pub record Filling (M : Map) (q : List ℕ) (c : ℕ) (was rs : List Region) : Type 0 where
  pub chain : Chain M q c
  pub long : length rs ≡ length was
  pub put : (i : ℕ) → i < region_count M → (d : Region) → record_of (get_or rs i d) ≡ region_up_to M (labels M) (suc i) c
  pub beyond : drop (region_count M) rs ≡ drop (region_count M) was

module _ {M : Map} {room regions w : ℕ} {bytes l q : List ℕ} (h : Fills M room regions w bytes l q) where
  pub cells-all : length bytes ≡ cell_count M
  cells-all = h.shown.bytes_long

  -- ---- the start

  pub filling_start : {was rs : List Region} → Emptied regions was rs → Filling M q 0 rs rs
  filling_start {was} {rs} E =
      record {
        chain = h.shown.chain;
        long = refl;
        put = λ i k d.
            sym (map_at record_of rs i d)
            ∙ ap (λ l. get_or l i (record_of d)) E.records
            ∙ empty i (record_of d) (omega (arith, k, h.count))
            ∙ sym (up_none (labels M) (suc i) (omega arith) M);
        beyond = refl;
      }
    where
      empty : (i : ℕ) (d : def.Region) → i < regions
          → get_or (replicate regions empty_region ++ drop (length (replicate regions empty_region)) (map record_of was)) i d ≡ empty_region
      empty i d k = get_or-append (replicate regions empty_region) (drop (length (replicate regions empty_region)) (map record_of was)) d i (subst (λ n. i < n) (sym (length-replicate regions empty_region)) k) ∙ get_or-replicate regions i empty_region d k

  -- ---- a turn

  module _ {c : ℕ} {was rs : List Region} (F : Filling M q c was rs) (more : c < cell_count M) {s : Stretch} (read : Read l q c s) where
    next : Next M q c
    next = chain_next F.chain more

    ends : s.end ≡ next.end
    ends = read.end ∙ next.link.next

    label_is : s.label ≡ get_or (labels M) c 0
    label_is = read.label ∙ h.shown.labels c more

    -- the label of every cell of the stretch
    alike : (d : ℕ) → c ≤ d → d < s.end → get_or (labels M) d 0 ≡ s.label
    alike d k m = next.link.alike d k (omega (arith, m, ends)) ∙ sym label_is

    inside : (d : ℕ) → d < s.end → d < cell_count M
    inside d m = omega (arith, m, ends, next.link.inside)

    pub label-few : s.label ≤ region_count M
    label-few = go (walkable_at M c) refl
      where
        go : (b : Bool) → walkable_at M c ≡ b → s.label ≤ region_count M
        go true e = omega (arith, label_is, (label-range M c more e).1)
        go false e = omega (arith, label_is, label-blocked M c more e)

    walks : (d : ℕ) → c ≤ d → d < s.end → 1 ≤ s.label → walkable_at M d ≡ true
    walks d k m some = go (walkable_at M d) refl
      where
        go : (b : Bool) → walkable_at M d ≡ b → walkable_at M d ≡ true
        go true e = e
        go false e = absurd (omega (arith, alike d k m, label-blocked M d (inside d m) e, some))

    pub filling_adds : room ≡ length was → Adds M w bytes c s.end s.label rs
    filling_adds r =
        record {
          room = omega (arith, label-few, h.enough, r, F.long);
          adding = λ some d.
              record {
                width = h.shown.width;
                cells = h.shown.cells;
                wide = h.shown.wide;
                high = h.shown.high;
                bytes_long = h.shown.bytes_long;
                numbered = some;
                more = omega (arith, ends, next.link.more);
                inside = omega (arith, ends, next.link.inside);
                row = subst (λ e. e ≤ (c / M.width + 1) * M.width) (sym ends) next.link.row;
                mine = alike;
                low = λ d k m. h.shown.low d (inside d m) (walks d k m some);
                before = F.put (s.label - 1) (omega (arith, label-few, some)) d ∙ ap (λ r. region_up_to M (labels M) r c) (omega (arith, some));
              };
        }

    pub filling_less : length bytes - s.end < length bytes - c
    filling_less = omega (arith, cells-all, ends, next.link.more, more)

    pub filling_more : room ≡ length was → {rs' : List Region} → Added M s.end s.label rs rs' → Filling M q s.end was rs'
    filling_more r {rs'} A = go s.label refl
      where
        before-end : c ≤ s.end
        before-end = omega (arith, ends, next.link.more)

        chain : Chain M q s.end
        chain = subst (Chain M q) (sym ends) next.rest

        -- a record of another region is that of its cells before the stretch's end already
        other : (i : ℕ) → i < region_count M → (d : Region) → (suc i ≡ s.label → ⊥) → record_of (get_or rs i d) ≡ region_up_to M (labels M) (suc i) s.end
        other i k d apart = F.put i k d ∙ up-other (labels M) (suc i) (omega arith) M c s.end before-end (λ d m n e. apart (sym e ∙ alike d m n))

        go : (label : ℕ) → s.label ≡ label → Filling M q s.end was rs'
        go zero e =
            let same : rs' ≡ rs = A.none e in
            rw same (record { chain = chain; long = F.long; put = λ i k d. other i k d (λ u. omega (arith, e, u)); beyond = F.beyond })
        go (suc k) e =
            let one = A.one (omega (arith, e)) in
            let place : s.label - 1 ≡ k = omega (arith, e) in
            let put : rs' ≡ set rs k one.0 = one.1.0 ∙ ap (λ i. set rs i one.0) place in
            rw put
            (record {
              chain = chain;
              long = length-set rs k one.0 ∙ F.long;
              put = λ i n d.
                  ⊎_elim
                  (λ u. ap (λ i. record_of (get_or (set rs k one.0) i d)) u ∙ ap record_of (get_or-set_same rs k one.0 d (omega (arith, label-few, e, h.enough, F.long, r)))
                  ∙ one.1.1 ∙ ap (λ r. region_up_to M (labels M) r s.end) (e ∙ ap suc (sym u)))
                  (λ u. ap record_of (get_or-set_other rs k i one.0 d u) ∙ other i n d (λ v. u (omega (arith, v, e)))) (same_or i k);
              beyond = drop-set-lt (region_count M) rs k one.0 (omega (arith, label-few, e)) ∙ F.beyond;
            })

  -- ---- the end

  -- over the records `was`, of which the first were emptied before
  pub filling_ends : {c : ℕ} {was empty rs : List Region} → room ≡ length empty → Emptied regions was empty → Filling M q c empty rs → length bytes ≤ c → Filled M was rs
  unfolding records_of context_of
  filling_ends {c} {was} {empty} {rs} r E F k =
      record {
        records =
            sym (take-append-drop n (map record_of rs))
            ∙ ap₂ ◌++◌ front (map-drop record_of n rs ∙ ap (map record_of) kept ∙ sym (map-drop record_of n was))
            ∙ ap (λ b. map (context_of M).region (run 1 n) ++ drop b (map record_of was)) (sym long);
        beyond = kept;
      }
    where
      n : ℕ
      n = region_count M

      kept : drop n rs ≡ drop n was
      kept = F.beyond ∙ ap (λ k. drop k empty) (sym h.count) ∙ E.beyond ∙ ap (λ k. drop k was) h.count

      all : c ≡ cell_count M
      all = omega (arith, k, cells-all, chain-within F.chain)

      long : length (map (context_of M).region (run 1 n)) ≡ n
      long = length-map (run 1 n) (context_of M).region ∙ length_run 1 n

      here : length (take n (map record_of rs)) ≡ n
      here = omega (arith, length-take n (map record_of rs), length-map rs record_of, F.long, r, h.enough)

      front : take n (map record_of rs) ≡ map (context_of M).region (run 1 n)
      front =
          ext_get_or (record_of some) (take n (map record_of rs)) (map (context_of M).region (run 1 n)) (here ∙ sym long)
          (λ i m. same i (subst (λ n. i < n) here m))
        where
          same : (i : ℕ) → i < n → get_or (take n (map record_of rs)) i (record_of some) ≡ get_or (map (context_of M).region (run 1 n)) i (record_of some)
          same i m =
              get_or-take n (map record_of rs) i (record_of some) m
              ∙ map_at record_of rs i some
              ∙ F.put i m some
              ∙ ap (region_up_to M (labels M) (suc i)) all
              ∙ up-all (labels M) (suc i) (omega arith) M
              ∙ ap (region_of M (labels M)) (next i)
              ∙ sym (run_at (context_of M).region 1 n i (record_of some) m)
            where
              next : (i : ℕ) → suc i ≡ 1 + i
              next i = omega arith
