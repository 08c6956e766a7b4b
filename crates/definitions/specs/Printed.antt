-- What `keptlist` prints for the bytes that it reads (SPECIFICATION 15; quotations are of document 01, which it restates), as bytes.
-- Every line ends in a newline, the last too. Assumes nothing.
use Rattle.std.specs.Prelude.{ℕ, zero, suc, ◌+◌, ◌*◌, ◌/◌, ◌%◌, cond, List, [] as []ᴸ, ◌∷◌ as ◌∷ᴸ◌, ◌++◌, length, replicate, ltb}
use Prim.Native.Char.{code}
use Prim.Native.String.{String, [], ◌∷◌}
use Rattle.definitions.specs.Limits.{max_entries, tallies_per_span, numbers_per_pair, numbers_per_row}
use Rattle.definitions.specs.Scan.{concat_map}
use Rattle.definitions.specs.RegionRecord.{empty_region}
use Rattle.definitions.specs.Rows.{Row, rows_of}
use Rattle.definitions.specs.Sheet.{Sheet, Reading, well_formed, refused, read_sheet, keptlist_cell_limit}
use Rattle.definitions.specs.Verdict.{Lent, map_in, verdict}

-- "A sheet over 65,536 bytes"
abbrev pub max_sheet_bytes : ℕ
max_sheet_bytes = 65_536

-- "The program lends 512 region records and 2,048 pair rows."
abbrev pub keptlist_records : ℕ
keptlist_records = 512

abbrev pub keptlist_pair_rows : ℕ
keptlist_pair_rows = 2_048

-- ---- text

unfoldable pub text : String → List ℕ
text [] = []ᴸ
text (c ∷ s) = code c ∷ᴸ text s

-- the decimal digits of a number, of at most `most` digits
unfoldable pub digits : ℕ → ℕ → List ℕ
digits zero n = []ᴸ
digits (suc most) n =
    let above = digits most (n / 10) in
    cond (ltb n 10) ((48 + n) ∷ᴸ []ᴸ) (above ++ ((48 + n % 10) ∷ᴸ []ᴸ))

-- 20 digits are enough for 64 bits
unfoldable pub decimal : ℕ → List ℕ
unfolding digits
decimal n = digits 20 n

unfoldable pub refused_line : ℕ → ℕ → List ℕ
unfolding text decimal
refused_line number place = text "refused " ++ decimal number ++ text " at " ++ decimal place ++ text "\n"

unfoldable pub kept_line : ℕ → ℕ → List ℕ
unfolding text decimal
kept_line kept count = text "kept " ++ decimal kept ++ text " of " ++ decimal count ++ text "\n"

-- "then each row with single spaces"
unfoldable pub row_line : Row → List ℕ
unfolding text decimal
row_line r =
    decimal r.number ++ text " " ++ decimal r.line.a.x ++ text " " ++ decimal r.line.a.y ++ text " " ++ decimal r.line.b.x ++ text " "
    ++ decimal r.line.b.y ++ text "\n"

-- ---- the program

-- what the program lends for a sheet: no list that a sheet within its limits finds too short, but for 11 and 12
unfoldable pub lent_for : Sheet → Lent
unfolding empty_region
lent_for s =
    record {
      pass = s.pass;
      width = s.width;
      height = s.height;
      cells = s.cells;
      spans = s.spans;
      boundaries = s.boundaries;
      anchors = s.anchors;
      labels = replicate keptlist_cell_limit 0;
      masks = replicate keptlist_cell_limit 0;
      queue = replicate keptlist_cell_limit 0;
      tallies = replicate (tallies_per_span * max_entries) 0;
      pairs = replicate (numbers_per_pair * keptlist_pair_rows) 0;
      records = replicate keptlist_records empty_region;
      output = replicate (numbers_per_row * max_entries) 0;
    }

-- by the answer's number: "It prints `kept K of N`, then each row [..], or `refused NUMBER at PLACE`."
unfoldable pub printed_answer : ℕ → Lent → ℕ → List ℕ
unfolding kept_line concat_map row_line rows_of map_in refused_line
printed_answer zero L value = kept_line value (length (map_in L).boundaries) ++ concat_map row_line (rows_of L.pass (map_in L))
printed_answer (suc number) L value = refused_line (suc number) value

unfoldable pub printed_reading : Reading → List ℕ
unfolding lent_for verdict printed_answer refused_line
printed_reading (well_formed s) =
    let L = lent_for s in
    let answer = verdict L in
    printed_answer answer.number L answer.value
printed_reading (refused number place) = refused_line number place

-- "A sheet over 65,536 bytes is `refused 14 at 65536` before any other check."
unfoldable pub keptlist : List ℕ → List ℕ
unfolding refused_line printed_reading read_sheet
keptlist bytes =
    let printed = printed_reading (read_sheet keptlist_cell_limit bytes) in
    cond (ltb max_sheet_bytes (length bytes)) (refused_line 14 max_sheet_bytes) printed
