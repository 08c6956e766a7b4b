-- The rows that a pass keeps strictly ascend by their endpoints as written and then their number. They are sorted by canonical endpoints and then number, which is a strict order
-- of rows of different number; and a row's endpoints are written canonical. Assumes nothing.
use Prim.Native.Nat.{ℕ, zero, suc, ◌<◌}
use Rattle.std.proofs.Common.{arith, sym, ap, ap₂, ◌∙◌, true≢false, lt-ltb, le-ltb, eq-eqb}
use Rattle.std.specs.Prelude.{◌≡◌, refl, true, false, not, ◌&&◌, ◌||◌, ltb, eqb, length, None}
use Rattle.std.proofs.Math.Path.{subst}
use Rattle.std.proofs.Math.Bool.{Bool}
use mathlib.Core.List.{List, [], ◌∷◌, ◌++◌, map}
use Rattle.definitions.specs.Limits.{numbers_per_row}
use Rattle.definitions.specs.Scan.{collect, to_list, only_if, concat_map, member}
use Rattle.definitions.specs.Sort.{sort_onto, sort, list_lt}
use Rattle.definitions.specs.Grid.{Map, Segment, Boundary, canonical, boundary_of}
use Rattle.definitions.specs.Context.{endpoints_key}
use Rattle.definitions.specs.Rows.{Row, rows_from, removed_of, rows_of, flat_rows}
use Rattle.definitions.specs.Rows as rows
use Rattle.laws.specs.ListLaws.Lists.{All, done, more, all_map}
use Rattle.laws.specs.ListLaws.Options.{on_only, on_list}
use Rattle.laws.specs.ListLaws.ScansOfAll.{collect-below}
use Rattle.laws.specs.ListLaws.FlatRows.{flat-length}
use Rattle.laws.specs.OrderLaws.StableSort.{all-sort}
use Rattle.laws.specs.OrderLaws.ListOrder.{by_key, Three, less, same, over, three}
use Rattle.laws.specs.RustContext.CanonicalOutput.{onto-append}
use Rattle.laws.specs.OrderLaws.Endpoints.{canonical-twice}
use Rattle.results.specs.Result.{ascent_fault, row_key}
use Rattle.results.specs.ResultAnswers.{entries_in}
use Rattle.run_results.specs.Rises.{Rises, Apart, insert-rises}
use Rattle.run_results.specs.EntriesOf.{unplaced, joined, entries-joined, rises_ascent}

-- ---- two rows of different number

-- behind beginnings of equal length a larger number is before what it is not behind
numbers_apart : (c d : List ℕ) (m n : ℕ) → length c ≡ length d → n < m → Apart list_lt (c ++ (m ∷ [])) (d ++ (n ∷ []))
unfolding list_lt
numbers_apart [] [] m n e l h = rw (lt-ltb n m l) refl
numbers_apart [] (y ∷ d) m n e l h = absurd (omega arith)
numbers_apart (x ∷ c) [] m n e l h = absurd (omega arith)
numbers_apart (x ∷ c) (y ∷ d) m n e l h = go (three x y) (numbers_apart c d m n (omega arith) l)
  where
    go : Three x y → Apart list_lt (c ++ (m ∷ [])) (d ++ (n ∷ [])) → (ltb y x || (eqb y x && list_lt (d ++ (n ∷ [])) (c ++ (m ∷ [])))) ≡ true
    go (less k) ih = absurd (true≢false (sym (first_less k) ∙ h))
      where
        first_less : x < y → (ltb x y || (eqb x y && list_lt (c ++ (m ∷ [])) (d ++ (n ∷ [])))) ≡ true
        first_less k = rw (lt-ltb x y k) refl
    go (same k) ih = rw (le-ltb y x (omega arith), eq-eqb y x (sym k)) (ih (sym level ∙ h))
      where
        level : (ltb x y || (eqb x y && list_lt (c ++ (m ∷ [])) (d ++ (n ∷ [])))) ≡ list_lt (c ++ (m ∷ [])) (d ++ (n ∷ []))
        level = rw (le-ltb x y (omega arith), eq-eqb x y k) refl
    go (over k) ih = rw (lt-ltb y x k) refl

abbrev before : Row → Row → Bool
before r s = list_lt (rows.row_key r) (rows.row_key s)

rows_apart : (r s : Row) → s.number < r.number → Apart before r s
unfolding rows.row_key
rows_apart r s l = numbers_apart (endpoints_key r.line) (endpoints_key s.line) r.number s.number four l
  where
    four : length (endpoints_key r.line) ≡ length (endpoints_key s.line)
    four = refl

-- ---- the sorted rows

module _ (kept : ℕ → Bool) (line : ℕ → Segment) where
  abbrev found : ℕ → List Row
  found n = collect n (λ i. only_if (kept i) (record { number = i; line = line i }))

  numbers_below_lem : (n : ℕ) → All (λ r. r.number < n) (found n)
  numbers_below_lem n = collect-below (λ r. r.number < n) (λ i. only_if (kept i) (record { number = i; line = line i })) n (λ i h. on_list (on_only (kept i) (record { number = i; line = line i }) h))

  sorted_rises : (n : ℕ) → Rises before (sort before (found n))
  unfolding sort sort_onto collect
  sorted_rises zero = Rises.none
  sorted_rises (suc n) = subst (Rises before) (sym (onto-append before [] (found n) (last (kept n)))) (one (sorted_rises n) (kept n))
    where
      last : Bool → List Row
      last b = to_list (only_if b (record { number = n; line = line n }))

      one : Rises before (sort before (found n)) → (b : Bool) → Rises before (sort_onto before (sort before (found n)) (last b))
      one r true =
          insert-rises before (by_key rows.row_key) (record { number = n; line = line n })
          (all_map (λ s h. rows_apart (record { number = n; line = line n }) s h) (all-sort (λ r. r.number < n) before (numbers_below_lem n))) r
      one r false = r

-- ---- as they are written

abbrev IsCanonical : Row → Type 0
IsCanonical r = canonical r.line ≡ r.line

numbers_of : Row → List ℕ
numbers_of r = r.number ∷ r.line.a.x ∷ r.line.a.y ∷ r.line.b.x ∷ r.line.b.y ∷ []

key-as_written : (r : Row) → IsCanonical r → rows.row_key r ≡ row_key (numbers_of r)
unfolding rows.row_key endpoints_key numbers_of
key-as_written r h = ap (λ s. row_key (numbers_of (record { number = r.number; line = s }))) h

written-rises : {l : List Row} → All IsCanonical l → Rises before l → Rises (λ c d. list_lt (row_key c) (row_key d)) (map numbers_of l)
written-rises done Rises.none = Rises.none
written-rises (more {x = r} h a) (Rises.next b s) = Rises.next (behind a b) (written-rises a s)
  where
    behind : {l : List Row} → All IsCanonical l → All (λ s. before r s ≡ true) l → All (λ d. list_lt (row_key (numbers_of r)) (row_key d) ≡ true) (map numbers_of l)
    behind done done = done
    behind (more {x = s} k a) (more e b) = more (ap₂ list_lt (sym (key-as_written r h)) (sym (key-as_written s k)) ∙ e) (behind a b)

flat-joined : (l : List Row) → flat_rows l ≡ joined (map numbers_of l)
unfolding flat_rows concat_map numbers_of
flat-joined [] = refl
flat-joined (r ∷ l) = ap {B = List ℕ} (λ t. r.number ∷ r.line.a.x ∷ r.line.a.y ∷ r.line.b.x ∷ r.line.b.y ∷ t) (flat-joined l)

numbers-long : (l : List Row) → All (λ c. length c ≡ numbers_per_row) (map numbers_of l)
unfolding numbers_of
numbers-long [] = done
numbers-long (r ∷ l) = more refl (numbers-long l)

numbers-many : (l : List Row) → length (map numbers_of l) ≡ length l
numbers-many [] = refl
numbers-many (r ∷ l) = ap suc (numbers-many l)

row-entries : (l : List Row) → entries_in numbers_per_row (flat_rows l) ≡ map unplaced (map numbers_of l)
row-entries l =
    ap (entries_in numbers_per_row) (flat-joined l)
    ∙ entries-joined numbers_per_row (numbers-long l) (omega (arith, ap length (flat-joined l), flat-length l, numbers-many l))

rows_from-keep : (n : ℕ) (boundary : ℕ → Boundary) (kept : ℕ → Bool) → ascent_fault row_key (entries_in numbers_per_row (flat_rows (rows_from n boundary kept))) ≡ None
unfolding rows_from
rows_from-keep n boundary kept = ap (ascent_fault row_key) (row-entries sorted) ∙ rises_ascent row_key (written-rises canonicals (sorted_rises kept line n))
  where
    line : ℕ → Segment
    line i = canonical (boundary i).endpoints

    sorted : List Row
    sorted = sort before (found kept line n)

    canonicals : All IsCanonical sorted
    canonicals =
        all-sort IsCanonical before
        (collect-below IsCanonical (λ i. only_if (kept i) (record { number = i; line = line i })) n (λ i h. on_list (on_only (kept i) (record { number = i; line = line i }) (canonical-twice (boundary i).endpoints))))

pub rows-keep : (pass : ℕ) (M : Map) → ascent_fault row_key (entries_in numbers_per_row (flat_rows (rows_of pass M))) ≡ None
unfolding rows_of
rows-keep pass M = rows_from-keep (length M.boundaries) (boundary_of M) (λ i. not (member i (removed_of pass M)))
