-- Computed examples: a sheet and its conversion are no equal bytes though they state the same; and why bytes must be below 256. Assumes nothing.
use Rattle.std.specs.Prelude.{◌≡◌, refl, [], ◌∷◌, map}
use Rattle.definitions.specs.SheetNumber.{found, number}
use Rattle.definitions.specs.Sheet.{well_formed, read_sheet, keptlist_cell_limit}
use Rattle.definitions.specs.SheetExamples.{sheet_j, bytes_j}
use Rattle.map_sheets.specs.SheetBytes.{sheet_bytes}
use Rattle.sheets_equal.proofs.SheetsEqual.{kind_of}

-- case J as kind 1 and as kind 3: the kinds differ, and with them the first bytes
pub two_kinds : map (λ bytes. read_sheet keptlist_cell_limit bytes) (bytes_j ∷ sheet_bytes 3 sheet_j ∷ []) ≡ well_formed sheet_j ∷ well_formed sheet_j ∷ []
unfolding read_sheet sheet_bytes
two_kinds = refl

pub kinds : map kind_of (bytes_j ∷ sheet_bytes 3 sheet_j ∷ []) ≡ 1 ∷ 3 ∷ []
unfolding kind_of sheet_bytes
kinds = refl

-- 129 and 385 have the same group and are both continued: of numbers that are no bytes two lists may read alike
pub no_bytes : map (λ b. number 0 (b ∷ 1 ∷ [])) (129 ∷ 385 ∷ []) ≡ found 129 2 [] ∷ found 129 2 [] ∷ []
unfolding number
no_bytes = refl
