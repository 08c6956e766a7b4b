-- Demand 3: what is given of two maps and an island, and what is compared. Quotations are of document 01, which SPECIFICATION 5 restates.
-- The theorem stands in `Theorem.antt`. Definitions only.
use Rattle.std.specs.Prelude.{ℕ, ◌<◌, ◌≡◌, Bool, true, false, ◌&&◌, List, map, length, eqb}
use Rattle.std.proofs.Math.Bool.{not}
use Rattle.std.proofs.Math.Dec.{ltb}
use Rattle.definitions.specs.Scan.{any, filter, collect, only_if, count_below}
use Rattle.definitions.specs.Grid.{Map, Position, Boundary, index, toward, is_step, cell_count, cell_at, span_count, span_of, boundary_of}
use Rattle.definitions.specs.Spans.{cut_steps}
use Rattle.definitions.specs.Rows.{Row, rows_of}

-- an anchor stands on cell c: "anchors agree when they stand on the same island cells, however often and in any order"
unfoldable pub has_anchor : Map → ℕ → Bool
unfolding any
has_anchor M c = any (eqb c) M.anchors

-- An island is any set of cells, given by its test on cell numbers. (A grid has finitely many cells, so that a set of them always has one.)
-- "The remainder is every grid cell outside the island; either may be empty."
module _ (M : Map) (isl : ℕ → Bool) where
  -- "A boundary cuts an island when its span, that of the same number, cuts a step between two island cells"
  unfoldable pub cuts_island : ℕ → Bool
  unfolding span_count any cut_steps
  cuts_island i = ltb i (span_count M) && any (λ e. isl e.lo && isl e.hi) (cut_steps M i)

  -- "and a span cuts on both sides when it also cuts one between two cells of the remainder"
  unfoldable pub cuts_remainder : ℕ → Bool
  unfolding span_count any cut_steps
  cuts_remainder i = ltb i (span_count M) && any (λ e. not (isl e.lo) && not (isl e.hi)) (cut_steps M i)

  -- the boundaries that cut the island, in list order
  unfoldable pub cutting : List Boundary
  unfolding collect cuts_island boundary_of span_count
  cutting = collect (span_count M) (λ i. only_if (cuts_island i) (boundary_of M i))

  -- a boundary's rank, in list order, among those cutting the island
  unfoldable pub rank_of : ℕ → ℕ
  unfolding count_below cuts_island
  rank_of i = count_below i cuts_island

  -- what is given of each map by itself
  pub record Island : Type 0 where
    -- "no walkable step joins island and remainder"; "A step, cut or not, joins the two when one of its cells lies in each."
    pub apart : (p d : Position) → is_step M p d ≡ true → isl (index M p) ≡ isl (index M (toward p d))
    -- "no span cuts on both sides"
    pub one_sided : (i : ℕ) → (cuts_island i && cuts_remainder i) ≡ false
    -- "no ramp id stands both on a boundary cutting there and on one that does not". (Kind 0 counts as having no ramp id.)
    pub ramp_ids : (i j : ℕ) → cuts_island i ≡ true → cuts_island j ≡ false → eqb (boundary_of M i).kind 0 ≡ false → eqb (boundary_of M j).kind 0 ≡ false → eqb (boundary_of M j).ramp_id (boundary_of M i).ramp_id ≡ false
    -- "Spans and boundaries are one list when equally many, with the same endpoints entry by entry as written."
    pub equally_many : length M.boundaries ≡ span_count M
    pub same_endpoints : (i : ℕ) → i < span_count M → span_of M i ≡ (boundary_of M i).endpoints

-- what is given of the two maps
pub record Alike (M M' : Map) (isl : ℕ → Bool) : Type 0 where
  -- "One size is the same width and height."
  pub width : M.width ≡ M'.width
  pub height : M.height ≡ M'.height
  -- "Island cells agree byte for byte"
  pub cells : (c : ℕ) → c < cell_count M → isl c ≡ true → cell_at M c ≡ cell_at M' c
  -- "anchors agree when they stand on the same island cells"
  pub anchors : (c : ℕ) → c < cell_count M → isl c ≡ true → has_anchor M c ≡ has_anchor M' c
  -- "Counterparts are the boundaries of one rank, in list order, among those cutting the island; the premise is that both maps have equally many
  -- and that each two agree", which they do "when all nine numbers do"
  pub counterparts : cutting M isl ≡ cutting M' isl
  pub island : Island M isl
  pub island' : Island M' isl

-- "Two rows are alike when their endpoints agree and their boundaries have the same rank among those cutting the island": a row with the rank
-- in place of the number, so that alike rows are equal
abbrev pub ranked : Map → (ℕ → Bool) → Row → Row
ranked M isl r = record { number = rank_of M isl r.number; line = r.line }

-- "With all other rows struck out": of rows of this map those of boundaries that cut the island, in their order, each with its rank
abbrev pub island_only : Map → (ℕ → Bool) → List Row → List Row
island_only M isl rows = map (ranked M isl) (filter (λ r. cuts_island M isl r.number) rows)

abbrev pub island_rows : ℕ → Map → (ℕ → Bool) → List Row
island_rows pass M isl = island_only M isl (rows_of pass M)
