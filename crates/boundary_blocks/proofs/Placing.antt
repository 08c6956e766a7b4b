-- Rows read one by one and put into flat lists, block by block: each row gives one block (`row_more`). Assumes nothing.
use Prim.Native.Nat.{ℕ, zero, suc, ◌+◌, ◌*◌, ◌/◌, ◌≤◌, ◌<◌}
use native.Mathlib.Omega.{arith}
use native.Mathlib.Numerals.{add-one}
use mathlib.Core.Path.{◌≡◌, refl, sym, ap, ap₂, subst, ◌∙◌}
use mathlib.Core.Bool.{true, false, not}
use mathlib.Core.List.{List, [], ◌∷◌, ◌++◌, append_assoc, append-nil}
use lib.ListN.{length, get_or, set, take, drop, replicate, length-append}
use lib.Seq.{sets, drop-cons, take-suc, length-take-le}
use Rattle.std.proofs.lemmas.List.{length-map, map-append}
use Rattle.std.specs.Simd.{first_chunks}
use Rattle.definitions.specs.Scan.{collect, concat_map, only_if}
use Rattle.definitions.specs.Sort.{sort, list_lt}
use Rattle.definitions.specs.Grid.{at, canonical, boundary_at}
use Rattle.definitions.specs.Rows.{Row, row_key, rows_from, flat_rows}
use Rattle.definitions.specs.Lists.{overwrite}
use Rattle.laws.specs.ListLaws.FlatRows.{row_at, rows_in_lem, rows_of-flat, flat_append, flat-length, rows_held, held_are}
use Rattle.laws.specs.ListLaws.Lists.{All}
use Rattle.laws.specs.ListLaws.Options.{on_only, on_list}
use Rattle.laws.specs.ListLaws.Overwritten.{overwrite_more, sets_append}
use Rattle.laws.specs.ListLaws.Scans.{picked-length, collect_ext}
use Rattle.laws.specs.ListLaws.SortedMembers.{length-sort}
use Rattle.laws.specs.ListLaws.ScansOfAll.{collect-below}
use Rattle.laws.specs.OrderLaws.StableSort.{all-sort}
use Rattle.laws.specs.ListLaws.Flags.{none_set}
use Rattle.rows.specs.Contract.{not_removed, kept_rows}
use Rattle.rest.specs.FlatLists.{flat_segment}
use Rattle.rest.specs.StartMaps.{count-all}
use Rattle.boundary_blocks.specs.Blocks.{part}
use Rattle.boundary_blocks.specs.Start.{rows_of_all, NamedIn, place_row, rows_at}

-- ---- parts, number by number

part_next : (at n : ℕ) (l : List ℕ) → at < length l → part at (suc n) l ≡ get_or l at 0 ∷ part (at + 1) n l
part_next at n l h =
    ap (take (suc n)) (drop-cons l at 0 h) ∙ ap {B = List ℕ} (λ m. get_or l at 0 ∷ take n (drop m l)) (sym (add-one at))

pub part_one : (at : ℕ) (l : List ℕ) → at + 1 ≤ length l → part at 1 l ≡ get_or l at 0 ∷ []
part_one at l h = part_next at 0 l (omega arith)

pub part-four : (at : ℕ) (l : List ℕ) → at + 4 ≤ length l → part at 4 l ≡ get_or l at 0 ∷ get_or l (at + 1) 0 ∷ get_or l (at + 2) 0 ∷ get_or l (at + 3) 0 ∷ []
part-four at l h =
    let two : at + 1 + 1 ≡ at + 2 = omega arith in
    let three : at + 2 + 1 ≡ at + 3 = omega arith in
    part_next at 3 l (omega arith)
    ∙ ap {B = List ℕ} (λ r. get_or l at 0 ∷ r)
    (part_next (at + 1) 2 l (omega arith)
    ∙ ap {B = List ℕ} (λ r. get_or l (at + 1) 0 ∷ r)
    (ap (λ n. part n 2 l) two
    ∙ part_next (at + 2) 1 l (omega arith)
    ∙ ap {B = List ℕ} (λ r. get_or l (at + 2) 0 ∷ r) (ap (λ n. part n 1 l) three ∙ part_one (at + 3) l (omega arith))))

-- ---- one row more

pub concat-append : {A : Type 0} (f : A → List ℕ) (l m : List A) → concat_map f (l ++ m) ≡ concat_map f l ++ concat_map f m
unfolding concat_map
concat-append f [] m = refl
concat-append f (r ∷ l) m = ap (λ t. f r ++ t) (concat-append f l m) ∙ sym (append_assoc (f r) (concat_map f l) (concat_map f m))

pub concat-length : {A : Type 0} (f : A → List ℕ) (size : ℕ) → ((r : A) → length (f r) ≡ size) → ((n : ℕ) → size * suc n ≡ size + size * n) → size * 0 ≡ 0 → (l : List A)
    → length (concat_map f l) ≡ size * length l
unfolding concat_map
concat-length f size long step none [] = sym none
concat-length f size long step none (r ∷ l) =
    length-append (f r) (concat_map f l) ∙ ap₂ ◌+◌ (long r) (concat-length f size long step none l) ∙ sym (step (length l))

-- each list of `chunks` is a row's numbers and gives a block of this size, which is put into `old`
module _
    (f : Row → List ℕ) (size : ℕ) (long : (r : Row) → length (f r) ≡ size)
    (step : (n : ℕ) → size * suc n ≡ size + size * n) (none : size * 0 ≡ 0) (chunks : List (List ℕ)) (old : List ℕ) where
  pub row_more : (k : ℕ) (d : List ℕ) {block : List ℕ} → k < length chunks → size * (k + 1) ≤ length old → block ≡ f (row_at (get_or chunks k d) 0)
      → sets (overwrite (concat_map f (rows_held (take k chunks))) old) (size * k) block ≡ overwrite (concat_map f (rows_held (take (k + 1) chunks))) old
  unfolding concat_map
  row_more k d {block} h room e =
      ap₂ (λ n b. sets (overwrite (concat_map f (rows_held (take k chunks))) old) n b) (sym filled) e
      ∙ overwrite_more (concat_map f (rows_held (take k chunks))) (f row) old (omega (arith, filled, long row, step k, ap (λ n. size * n) (add-one k)))
      ∙ ap (λ l. overwrite l old) (sym next)
    where
      row : Row
      row = row_at (get_or chunks k d) 0

      filled : length (concat_map f (rows_held (take k chunks))) ≡ size * k
      filled =
          concat-length f size long step none (rows_held (take k chunks))
          ∙ ap (λ n. size * n) (length-map (take k chunks) (λ c. row_at c 0) ∙ length-take-le k chunks (omega (arith, h)))

      next : concat_map f (rows_held (take (k + 1) chunks)) ≡ concat_map f (rows_held (take k chunks)) ++ f row
      next =
          ap (λ n. concat_map f (rows_held (take n chunks))) (add-one k)
          ∙ ap (λ l. concat_map f (rows_held l)) (take-suc chunks k d h)
          ∙ ap (concat_map f) (map-append (λ c. row_at c 0) (take k chunks) (get_or chunks k d ∷ []))
          ∙ concat-append f (rows_held (take k chunks)) (row ∷ [])
          ∙ ap (λ t. concat_map f (rows_held (take k chunks)) ++ t) (append-nil (f row))

-- ---- what a row's block is

pub ends_block_lem : (row : List ℕ) → 5 ≤ length row → part 1 4 row ≡ flat_segment (row_at row 0).line
ends_block_lem row h = part-four 1 row (omega arith)

-- ---- the rows of all boundaries

pub rows_all : (lent : List ℕ) (count n : ℕ) → kept_rows lent count (replicate n false) ≡ rows_of_all lent count
unfolding rows_from rows_of_all
rows_all lent count n =
    let row : ℕ → Row = λ i. record { number = i; line = canonical (boundary_at lent (9 * i)).endpoints } in
    ap (sort (λ r s. list_lt (row_key r) (row_key s)))
    (collect_ext count (λ i. only_if (not_removed (replicate n false) i) (row i)) (λ i. only_if true (row i)) (λ i h. ap (λ b. only_if (not b) (row i)) (none_set n i)))

-- each names a boundary of the list
rows_named : (lent : List ℕ) (count : ℕ) → 9 * count ≤ length lent → All (NamedIn lent) (rows_of_all lent count)
unfolding rows_from rows_of_all
rows_named lent count room =
    all-sort (NamedIn lent) (λ r s. list_lt (row_key r) (row_key s))
    (collect-below (NamedIn lent) _ count (λ i h. on_list (on_only true (record { number = i; line = canonical (boundary_at lent (9 * i)).endpoints }) (omega arith))))

rows-count : (lent : List ℕ) (count n : ℕ) → length (kept_rows lent count (replicate n false)) ≡ count
unfolding rows_from rows_of_all
rows-count lent count n =
    let row : ℕ → Row = λ i. record { number = i; line = canonical (boundary_at lent (9 * i)).endpoints } in
    ap length (rows_all lent count n)
    ∙ length-sort (λ r s. list_lt (row_key r) (row_key s)) (collect count (λ i. only_if true (row i)))
    ∙ picked-length (λ i. true) row count
    ∙ count-all count

-- they are read back where they were written
rows-read : (lent : List ℕ) (count n : ℕ) (old : List ℕ) {rows : List ℕ} → rows ≡ overwrite (flat_rows (kept_rows lent count (replicate n false))) old → rows_in_lem count rows ≡ rows_of_all lent count
rows-read lent count n old e =
    let written = kept_rows lent count (replicate n false) in
    ap (rows_in_lem count) e
    ∙ ap (λ m. rows_in_lem m (overwrite (flat_rows written) old)) (sym (rows-count lent count n))
    ∙ rows_of-flat written (drop (length (flat_rows written)) old)
    ∙ rows_all lent count n

-- the same, read row by row
module _ (lent : List ℕ) (count n : ℕ) (old : List ℕ) {rows : List ℕ} {chunks : List (List ℕ)} (e : rows ≡ overwrite (flat_rows (kept_rows lent count (replicate n false))) old) (f : chunks ≡ first_chunks 5 (length rows / 5) rows) (h : count ≤ length rows / 5) where
  pub held-read : rows_held (take count chunks) ≡ rows_of_all lent count
  held-read = ap (λ c. rows_held (take count c)) f ∙ held_are count (length rows / 5) rows h ∙ rows-read lent count n old e

  pub held_named : 9 * count ≤ length lent → All (NamedIn lent) (rows_held (take count chunks))
  held_named room = subst (All (NamedIn lent)) (sym held-read) (rows_named lent count room)

-- ---- one row more of the output

pub output_more : (numbers spans old : List ℕ) (k : ℕ) → 4 * k + 4 ≤ length spans → 5 * (k + 1) ≤ length old
    → sets (set (overwrite (flat_rows (rows_at numbers spans k)) old) (5 * k) (get_or numbers k 0)) (5 * k + 1) (part (4 * k) 4 spans)
    ≡ overwrite (flat_rows (rows_at numbers spans (k + 1))) old
unfolding rows_at collect flat_rows
output_more numbers spans old k i room =
    sym (sets_append W (5 * k) (get_or numbers k 0 ∷ []) (part (4 * k) 4 spans))
    ∙ ap (λ v. sets W (5 * k) (get_or numbers k 0 ∷ v)) (part-four (4 * k) spans i)
    ∙ ap (λ n. sets W n block) (sym filled)
    ∙ overwrite_more (flat_rows (rows_at numbers spans k)) block old (omega (arith, filled))
    ∙ ap (λ l. overwrite l old) (sym (flat_append (rows_at numbers spans k) (place_row numbers spans k ∷ [])) ∙ ap (λ n. flat_rows (rows_at numbers spans n)) (sym (add-one k)))
  where
    W : List ℕ
    W = overwrite (flat_rows (rows_at numbers spans k)) old

    block : List ℕ
    block = flat_rows (place_row numbers spans k ∷ [])

    all-rows : (n : ℕ) → length (rows_at numbers spans n) ≡ n
    all-rows zero = refl
    all-rows (suc n) = length-append (rows_at numbers spans n) (place_row numbers spans n ∷ []) ∙ ap (λ m. m + 1) (all-rows n) ∙ add-one n

    filled : length (flat_rows (rows_at numbers spans k)) ≡ 5 * k
    filled = flat-length (rows_at numbers spans k) ∙ ap (λ n. 5 * n) (all-rows k)
