-- The bytes of a sheet that states a map, of kind 1 or 3, in shortest form. Quotations are of document 02, requests 3 and 12. Assumes nothing.
use Rattle.std.specs.Prelude.{ℕ, Bool, true, false, List, [], ◌++◌}
use Rattle.definitions.specs.Limits.{numbers_per_span, numbers_per_boundary, numbers_per_anchor}
use Rattle.definitions.specs.Scan.{concat_map}
use Rattle.definitions.specs.Sheet.{has_spans, Sheet}
use Rattle.results.specs.Shortest.{shortest, list_bytes}

-- "kind 1 without span count and spans"
abbrev pub spans_bytes : Bool → List ℕ → List ℕ
spans_bytes true spans = list_bytes numbers_per_span spans
spans_bytes false spans = []

-- "The archive's rule is now the shortest form only": the one sheet of this kind that states this
unfoldable pub sheet_bytes : ℕ → Sheet → List ℕ
unfolding shortest concat_map list_bytes
sheet_bytes kind s =
    shortest kind ++ shortest s.pass ++ shortest s.width ++ shortest s.height ++ concat_map shortest s.cells ++ spans_bytes (has_spans kind) s.spans
    ++ list_bytes numbers_per_boundary s.boundaries ++ list_bytes numbers_per_anchor s.anchors
