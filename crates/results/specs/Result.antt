-- The result sheet, kind 2: what a list of bytes states, and the first place that breaks one of its three rules. Quotations are of document 02, request 1,
-- where no other document is named. Bytes are numbers below 256. Assumes nothing.
use Rattle.std.specs.Prelude.{ℕ, zero, suc, ◌+◌, Bool, not, ◌&&◌, cond, List, [], ◌∷◌, ◌++◌, take, drop, get_or, leb, eqb, Option, None, Some}
use Rattle.definitions.specs.Limits.{tallies_per_span, numbers_per_pair, numbers_per_row}
use Rattle.definitions.specs.Scan.{only_if, concat_map}
use Rattle.definitions.specs.Sort.{list_lt}
use Rattle.definitions.specs.SheetNumber.{number}
use Rattle.definitions.specs.Sheet.{Reader, give, check, and_then, ◌>>=◌, times, end}
use Rattle.definitions.specs.Refusals.{or_else}

-- ---- what a sheet states

-- "region count, then labels, tallies, pairs and kept rows"; the lists are flat, as they are lent
pub record Result : Type 0 where
  pub regions : ℕ
  pub labels : List ℕ
  pub tallies : List ℕ
  pub pairs : List ℕ
  pub rows : List ℕ

-- an entry ("a label, a span's two tallies, a pair row, an output row") and the offset of its first byte
pub record Entry : Type 0 where
  pub place : ℕ
  pub numbers : List ℕ

pub record Placed : Type 0 where
  pub regions_place : ℕ
  pub regions : ℕ
  pub labels : List Entry
  pub tallies : List Entry
  pub pairs : List Entry
  pub rows : List Entry

abbrev pub result_of : Placed → Result
result_of p =
    record {
      regions = p.regions;
      labels = concat_map (λ e. e.numbers) p.labels;
      tallies = concat_map (λ e. e.numbers) p.tallies;
      pairs = concat_map (λ e. e.numbers) p.pairs;
      rows = concat_map (λ e. e.numbers) p.rows;
    }

-- ---- reading the bytes: 14 alone

-- document 01: "a kind other than 1 [..] refused 14 at [its] first byte"; of a result sheet, other than 2
unfoldable pub kind : Reader ℕ
unfolding number
kind offset bytes = and_then (number offset bytes) (λ value. check (eqb value 2) 14 offset value)

unfoldable pub entry : ℕ → Reader Entry
unfolding times number
entry size offset bytes = and_then (times size number offset bytes) (λ numbers. give (record { place = offset; numbers = numbers }))

unfoldable pub times_entry : ℕ → ℕ → Reader (List Entry)
unfolding entry
times_entry zero size = give []
times_entry (suc n) size = do
  e ← entry size
  l ← times_entry n size
  give (e ∷ l)

-- "each list led by its count of entries"; "Counts in a result sheet meet no limit of 256."
unfoldable pub entries : ℕ → Reader (List Entry)
unfolding number times_entry
entries size = do
  count ← number
  times_entry count size

-- In order: kind 2, "region count, then labels, tallies, pairs and kept rows"
unfoldable pub result : Reader Placed
unfolding kind entry entries
result = do
  _ ← kind
  count ← entry 1
  labels ← entries 1
  tallies ← entries tallies_per_span
  pairs ← entries numbers_per_pair
  rows ← entries numbers_per_row
  _ ← end
  give (record { regions_place = count.place; regions = get_or count.numbers 0 0; labels = labels; tallies = tallies; pairs = pairs; rows = rows })

-- ---- the rules: 15, each at the place of the first breach

-- "labels that start each new number in turn, up to the region count": how many numbers are started along them, or the place of the first out of turn
pub data Turns : Type 0 where
  started : ℕ → Turns
  out_of_turn : ℕ → Turns

-- a label that no earlier one has, where n are started, is n + 1 and at most the region count; 0 is no region's
abbrev pub in_turn : ℕ → ℕ → ℕ → Bool
in_turn regions n label = eqb label (n + 1) && leb label regions

unfoldable pub turns : ℕ → ℕ → List Entry → Turns
turns regions n [] = started n
turns regions n (e ∷ l) =
    let label = get_or e.numbers 0 0 in
    let known = turns regions n l in
    let next = turns regions (n + 1) l in
    cond (leb label n) known (cond (in_turn regions n label) next (out_of_turn e.place))

-- "the region count itself if labels all in turn never reach it"
abbrev pub labels_fault : ℕ → ℕ → Turns → Option ℕ
labels_fault regions place (started n) = only_if (not (eqb n regions)) place
labels_fault regions place (out_of_turn at) = Some at

-- "strictly ascending": the place of the first that is not above the one before it
unfoldable pub ascent_fault : (List ℕ → List ℕ) → List Entry → Option ℕ
unfolding list_lt
ascent_fault key [] = None
ascent_fault key (a ∷ []) = None
ascent_fault key (a ∷ b ∷ l) = cond (list_lt (key a.numbers) (key b.numbers)) (ascent_fault key (b ∷ l)) (Some b.place)

-- pairs "by their three numbers"
abbrev pub pair_key : List ℕ → List ℕ
pair_key numbers = numbers

-- rows "by endpoints as written, then number": an output row has its number first
abbrev pub row_key : List ℕ → List ℕ
row_key numbers = drop 1 numbers ++ take 1 numbers

-- "at the first byte of the first number or row that does"
unfoldable pub rules_fault : Placed → Option ℕ
unfolding turns ascent_fault
rules_fault p =
    or_else (labels_fault p.regions p.regions_place (turns p.regions 0 p.labels))
    (or_else (ascent_fault pair_key p.pairs) (ascent_fault row_key p.rows))
