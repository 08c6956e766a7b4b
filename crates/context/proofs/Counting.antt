-- Counting incidents in packed entries: what one region, one pair and one span do to the list, and that it counts every span once. Assumes nothing.
use Prim.Native.Nat.{ℕ, zero, suc, ◌+◌, ◌-◌, ◌*◌, ◌/◌, ◌%◌, ◌≤◌, ◌<◌, zero-le}
use native.Mathlib.Omega.{arith}
use native.Mathlib.Numerals.{add-one}
use mathlib.Core.Path.{◌≡◌, refl, sym, ap, ◌∙◌, subst}
use mathlib.Core.Bool.{Bool, true, false, ◌||◌, cond, or-true}
use mathlib.Core.Logic.{⊎_elim}
use mathlib.Core.List.{List, [], ◌∷◌, ◌++◌, map}
use lib.ListN.{length, get_or, set, length-set}
use lib.Seq.{get_or-set_same, get_or-set_other, set_out}
use lib.Dec.{eqb}
use borrow.Author.Tests.{eq-eqb}
use Rattle.definitions.specs.Limits.{max_entries}
use Rattle.definitions.specs.Scan.{run, any, bit}
use Rattle.definitions.specs.Grid.{Pair, contains}
use Rattle.definitions.specs.Context.{Context, is_incident}
use Rattle.laws.specs.ListLaws.Lists.{any_append, run_last}
use Rattle.laws.specs.NumberLaws.Comparisons.{le_or_lt, same_or, last_or}
use Rattle.context.specs.Shown.{pair_at, pairs_between, ShownPairs}
use Rattle.context.specs.Packed.{pack_unit, counted_entry, count_region, count_pair, count_pairs, Packed}

-- ---- rows in order

map_last : (f : ℕ → Pair) (l : List ℕ) (m : ℕ) → map f (l ++ (m ∷ [])) ≡ map f l ++ (f m ∷ [])
map_last f [] m = refl
map_last f (x ∷ l) m = ap (◌∷◌ (f x)) (map_last f l m)

pub between_none : (rows : List ℕ) (first : ℕ) → pairs_between rows first first ≡ []
unfolding pairs_between run
between_none rows first = ap (λ n. map (pair_at rows) (run first n)) (none first)
  where
    none : (n : ℕ) → n - n ≡ 0
    none n = omega arith

pub between_more : (rows : List ℕ) (first k : ℕ) → first ≤ k → pairs_between rows first (k + 1) ≡ pairs_between rows first k ++ (pair_at rows k ∷ [])
unfolding pairs_between
between_more rows first k h =
    ap (λ n. map (pair_at rows) (run first n)) (one first k h)
    ∙ ap (map (pair_at rows)) (run_last first (k - first))
    ∙ map_last (pair_at rows) (run first (k - first)) (first + (k - first))
    ∙ ap (λ m. map (pair_at rows) (run first (k - first)) ++ (pair_at rows m ∷ [])) (back first k h)
  where
    one : (first k : ℕ) → first ≤ k → k + 1 - first ≡ suc (k - first)
    one first k h = omega arith

    back : (first k : ℕ) → first ≤ k → first + (k - first) ≡ k
    back first k h = omega arith

-- a pair among them that passes
pub between-any : (f : Pair → Bool) (rows : List ℕ) (first k end : ℕ) → first ≤ k → k < end → f (pair_at rows k) ≡ true → any f (pairs_between rows first end) ≡ true
unfolding any
between-any f rows first k zero h l e = absurd (omega arith)
between-any f rows first k (suc end) h l e =
    ap (λ m. any f (pairs_between rows first m)) (sym (add-one end)) ∙ ap (any f) (between_more rows first end (omega arith))
    ∙ any_append f (pairs_between rows first end) (pair_at rows end ∷ [])
    ∙ ⊎_elim (λ s. ap (λ b. any f (pairs_between rows first end) || (b || false)) (sym (ap (λ k. f (pair_at rows k)) s) ∙ e) ∙ or-true (any f (pairs_between rows first end)))
    (λ b. ap (λ b. b || (f (pair_at rows end) || false)) (between-any f rows first k end h b e)) (last_or k end l)

pub incident_is : {C : Context} {rows starts : List ℕ} → ShownPairs C rows starts → (i r : ℕ) → i < C.count
    → is_incident C i r ≡ any (contains r) (pairs_between rows (get_or starts i 0) (get_or starts (i + 1) 0))
unfolding is_incident
incident_is P i r l = ap (any (contains r)) (P.at i l)

-- ---- no entry grows too far

entry-small : (span v : ℕ) → span < max_entries → v / pack_unit ≤ span + bit (eqb (v % pack_unit) (span + 1))
    → counted_entry span v / pack_unit ≤ span + bit (eqb (counted_entry span v % pack_unit) (span + 1))
entry-small span v l h = go (eqb (v % pack_unit) (span + 1)) refl
  where
    go : (b : Bool) → eqb (v % pack_unit) (span + 1) ≡ b
        → cond b v ((v / pack_unit + 1) * pack_unit + (span + 1)) / pack_unit
        ≤ span + bit (eqb (cond b v ((v / pack_unit + 1) * pack_unit + (span + 1)) % pack_unit) (span + 1))
    go true e = h
    go false e =
        let low : v / pack_unit ≤ span = omega (arith, subst (λ b. v / pack_unit ≤ span + bit b) e h) in
        rw (eq-eqb (((v / pack_unit + 1) * pack_unit + (span + 1)) % pack_unit) (span + 1) (omega arith)) (omega arith)

module _ (span : ℕ) (few : span < max_entries) where
  pub packed-region : (counts : List ℕ) (r : ℕ) → Packed span counts → Packed span (count_region span counts r)
  unfolding count_region
  packed-region counts r h k =
      ⊎_elim (λ e. ⊎_elim (λ l. subst small (sym (out l)) (h k)) (λ l. subst small (sym (here e l)) (entry-small span (get_or counts (r - 1) 0) few (h (r - 1)))) (le_or_lt (length counts) (r - 1)))
      (λ e. subst small (sym (get_or-set_other counts (r - 1) k new 0 e)) (h k)) (same_or k (r - 1))
    where
      new : ℕ
      new = counted_entry span (get_or counts (r - 1) 0)

      small : ℕ → Type 0
      small v = v / pack_unit ≤ span + bit (eqb (v % pack_unit) (span + 1))

      out : length counts ≤ r - 1 → get_or (set counts (r - 1) new) k 0 ≡ get_or counts k 0
      out l = ap (λ l. get_or l k 0) (set_out counts (r - 1) new l)

      here : k ≡ r - 1 → r - 1 < length counts → get_or (set counts (r - 1) new) k 0 ≡ new
      here e l = ap (λ k. get_or (set counts (r - 1) new) k 0) e ∙ get_or-set_same counts (r - 1) new 0 l

  pub packed-pair : (counts : List ℕ) (p : Pair) → Packed span counts → Packed span (count_pair span counts p)
  unfolding count_pair
  packed-pair counts p h = packed-region (count_region span counts p.lo) p.hi (packed-region counts p.lo h)

  pub packed-pairs : (counts : List ℕ) (ps : List Pair) → Packed span counts → Packed span (count_pairs span counts ps)
  unfolding count_pairs
  packed-pairs counts [] h = h
  packed-pairs counts (p ∷ ps) h = packed-pairs (count_pair span counts p) ps (packed-pair counts p h)

pub packed_next : (span : ℕ) (counts : List ℕ) → Packed span counts → Packed (span + 1) counts
packed_next span counts h k = go (eqb (get_or counts k 0 % pack_unit) (span + 1)) (eqb (get_or counts k 0 % pack_unit) (span + 1 + 1)) (h k)
  where
    go : (a b : Bool) {v : ℕ} → v ≤ span + bit a → v ≤ span + 1 + bit b
    go true true h = omega arith
    go true false h = omega arith
    go false true h = omega arith
    go false false h = omega arith

pub packed_zero : (counts : List ℕ) → ((k : ℕ) → get_or counts k 0 ≡ 0) → Packed 0 counts
packed_zero counts h k = rw (h k) zero-le

-- ---- lengths

pub region-length : (span : ℕ) (counts : List ℕ) (r : ℕ) → length (count_region span counts r) ≡ length counts
unfolding count_region
region-length span counts r = length-set counts (r - 1) (counted_entry span (get_or counts (r - 1) 0))

pub pair-length : (span : ℕ) (counts : List ℕ) (p : Pair) → length (count_pair span counts p) ≡ length counts
unfolding count_pair
pair-length span counts p = region-length span (count_region span counts p.lo) p.hi ∙ region-length span counts p.lo

pub pairs-length : (span : ℕ) (counts : List ℕ) (ps : List Pair) → length (count_pairs span counts ps) ≡ length counts
unfolding count_pairs
pairs-length span counts [] = refl
pairs-length span counts (p ∷ ps) = pairs-length span (count_pair span counts p) ps ∙ pair-length span counts p

-- ---- what the code does

pub region-code : (span : ℕ) (counts : List ℕ) (r : ℕ) {k v : ℕ} → k ≡ r → v ≡ counted_entry span (get_or counts (k - 1) 0) → set counts (k - 1) v ≡ count_region span counts r
unfolding count_region
region-code span counts r {k} e h = ap (λ v. set counts (k - 1) v) h ∙ ap (λ k. set counts (k - 1) (counted_entry span (get_or counts (k - 1) 0))) e

pub pairs_last : (span : ℕ) (counts : List ℕ) (ps : List Pair) (p : Pair) → count_pairs span counts (ps ++ (p ∷ [])) ≡ count_pair span (count_pairs span counts ps) p
unfolding count_pairs
pairs_last span counts [] p = refl
pairs_last span counts (q ∷ ps) p = pairs_last span (count_pair span counts q) ps p

-- the rows from `first` on, one by one
module _ (span : ℕ) (rows counts : List ℕ) (first : ℕ) where
  pub rows_none : counts ≡ count_pairs span counts (pairs_between rows first first)
  unfolding count_pairs
  rows_none = sym (ap (count_pairs span counts) (between_none rows first))

  pub rows_more : (k : ℕ) {l m : List ℕ} → first ≤ k → l ≡ count_pairs span counts (pairs_between rows first k) → m ≡ count_pair span l (pair_at rows k)
      → m ≡ count_pairs span counts (pairs_between rows first (k + 1))
  rows_more k h e f =
      f ∙ ap (λ l. count_pair span l (pair_at rows k)) e ∙ sym (pairs_last span counts (pairs_between rows first k) (pair_at rows k))
      ∙ ap (count_pairs span counts) (sym (between_more rows first k h))

  pub rows-packed : (k : ℕ) {l : List ℕ} → span < max_entries → l ≡ count_pairs span counts (pairs_between rows first k) → Packed span counts → Packed span l
  rows-packed k few e h = subst (Packed span) (sym e) (packed-pairs span few counts (pairs_between rows first k) h)
