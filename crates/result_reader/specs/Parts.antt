-- The grammar of a result sheet in three parts, one behind the other, and what the functions on them answer. Assumes nothing.
use Rattle.std.specs.Prelude.{ℕ, ◌*◌, ◌≤◌, ◌≡◌, Bool, ◌&&◌, List, [], ◌∷◌, length, drop, leb, Option, None, Result, Ok, Err}
use Rattle.definitions.specs.Limits.{tallies_per_span, numbers_per_pair, numbers_per_row}
use Rattle.definitions.specs.Refusals.{or_else}
use Rattle.definitions.specs.Scan.{concat_map}
use Rattle.definitions.specs.SheetNumber.{found, failed, number}
use Rattle.definitions.specs.Sheet.{Reader, give, ◌>>=◌, end}
use Rattle.sheet.specs.Numbers.{values_at, Held}
use Rattle.results.specs.Result as results
use Rattle.results.specs.Result.{Entry, kind, entry, entries, turns, labels_fault, ascent_fault, pair_key, row_key}
use Rattle.results.specs.ResultAnswers.{well_formed, refused, read_result}
use Rattle.result_writer.specs.Contract.{key_in}
use Rattle.result_reader.specs.Walks.{entries_at, entries_of}
use Rattle.refusals.specs.declared.Refusal.{Refusal}
use Rattle.refusals.specs.Refusals as refusals
use Rattle.sheet.specs.declared.Found.{Found}
use Rattle.sheet.specs.declared.Part.{Part}
use Rattle.result_reader.specs.declared.Plan.{Plan}
use Rattle.result_reader.specs.declared.List as answered
use Rattle.result_reader.specs.declared.RegionCount.{RegionCount}
use Rattle.result_reader.specs.declared.BothLists.{BothLists}

-- ---- breaches

-- what a rule says of a list of entries: of labels, of tallies, of pairs and rows
abbrev pub turns_fault : ℕ → ℕ → List Entry → Option ℕ
turns_fault regions place es = labels_fault regions place (turns regions 0 es)

abbrev pub no_fault : List Entry → Option ℕ
no_fault es = None

abbrev pub key_fault : ℕ → List Entry → Option ℕ
key_fault last es = ascent_fault (key_in last) es

-- ---- one list

abbrev pub part_entries : ℕ → List ℕ → Part → List Entry
part_entries size bytes part = entries_of (entries_at size bytes part.first part.count)

-- the numbers that stand there, for lists of so many a entry
abbrev pub part_numbers : ℕ → List ℕ → Part → List ℕ
part_numbers size bytes part = values_at number bytes part.first (part.count * size)

-- so many entries stand there: what is asked before their numbers are stored
pub record PartHeld (size : ℕ) (bytes : List ℕ) (part : Part) : Type 0 where
  pub held : Held number bytes part.first (part.count * size)
  pub flat : concat_map (λ e. e.numbers) (part_entries size bytes part) ≡ part_numbers size bytes part

pub record ListHeld (fault : List Entry → Option ℕ) (size : ℕ) (bytes : List ℕ) (at : ℕ) (part : Part) (next : ℕ) (breach : Option ℕ) : Type 0 where
  pub held : PartHeld size bytes part
  pub behind : next ≤ length bytes
  pub same : entries size at (drop at bytes) ≡ found (part_entries size bytes part) next (drop next bytes)
  pub broken : breach ≡ fault (part_entries size bytes part)

abbrev pub ListTold : (List Entry → Option ℕ) → ℕ → List ℕ → ℕ → Result (Found answered.List) Refusal → Type 0
ListTold fault size bytes at (Ok read) = ListHeld fault size bytes at read.value.part read.next read.value.breach
ListTold fault size bytes at (Err refusal) = entries size at (drop at bytes) ≡ failed (refusals.number_of refusal.cause) refusal.place

-- ---- the parts of a sheet

-- kind 2, and the region count
unfoldable pub opening : Reader Entry
unfolding kind entry
opening = do
  _ ← kind
  entry 1

pub record Lists₂ : Type 0 where
  pub first : List Entry
  pub second : List Entry

-- labels and tallies
unfoldable pub front : Reader Lists₂
unfolding entries
front = do
  labels ← entries 1
  tallies ← entries tallies_per_span
  give (record { first = labels; second = tallies })

-- pairs and rows, and nothing behind them
unfoldable pub back : Reader Lists₂
unfolding entries
back = do
  pairs ← entries numbers_per_pair
  rows ← entries numbers_per_row
  _ ← end
  give (record { first = pairs; second = rows })

pub record OpeningHeld (bytes : List ℕ) (regions place next : ℕ) : Type 0 where
  pub behind : next ≤ length bytes
  pub same : opening 0 bytes ≡ found (record { place = place; numbers = regions ∷ [] }) next (drop next bytes)

abbrev pub OpeningTold : List ℕ → Result (Found RegionCount) Refusal → Type 0
OpeningTold bytes (Ok read) = OpeningHeld bytes read.value.count read.value.place read.next
OpeningTold bytes (Err refusal) = opening 0 bytes ≡ failed (refusals.number_of refusal.cause) refusal.place

pub record FrontHeld (regions place : ℕ) (bytes : List ℕ) (at : ℕ) (labels tallies : Part) (next : ℕ) (breach : Option ℕ) : Type 0 where
  pub for_labels : PartHeld 1 bytes labels
  pub for_tallies : PartHeld tallies_per_span bytes tallies
  pub behind : next ≤ length bytes
  pub same : front at (drop at bytes) ≡ found (record { first = part_entries 1 bytes labels; second = part_entries tallies_per_span bytes tallies }) next (drop next bytes)
  pub broken : breach ≡ turns_fault regions place (part_entries 1 bytes labels)

abbrev pub FrontTold : ℕ → ℕ → List ℕ → ℕ → Result (Found BothLists) Refusal → Type 0
FrontTold regions place bytes at (Ok read) = FrontHeld regions place bytes at read.value.first read.value.second read.next read.value.breach
FrontTold regions place bytes at (Err refusal) = front at (drop at bytes) ≡ failed (refusals.number_of refusal.cause) refusal.place

pub record BackHeld (bytes : List ℕ) (at : ℕ) (pairs rows : Part) (next : ℕ) (breach : Option ℕ) : Type 0 where
  pub for_pairs : PartHeld numbers_per_pair bytes pairs
  pub for_rows : PartHeld numbers_per_row bytes rows
  pub same : back at (drop at bytes) ≡ found (record { first = part_entries numbers_per_pair bytes pairs; second = part_entries numbers_per_row bytes rows }) next []
  pub broken : breach ≡ or_else (ascent_fault pair_key (part_entries numbers_per_pair bytes pairs)) (ascent_fault row_key (part_entries numbers_per_row bytes rows))

abbrev pub BackTold : List ℕ → ℕ → Result (Found BothLists) Refusal → Type 0
BackTold bytes at (Ok read) = BackHeld bytes at read.value.first read.value.second read.next read.value.breach
BackTold bytes at (Err refusal) = back at (drop at bytes) ≡ failed (refusals.number_of refusal.cause) refusal.place

-- ---- the sheet

abbrev pub result_in : List ℕ → Plan → results.Result
result_in bytes plan =
    record {
      regions = plan.regions;
      labels = part_numbers 1 bytes plan.labels;
      tallies = part_numbers tallies_per_span bytes plan.tallies;
      pairs = part_numbers numbers_per_pair bytes plan.pairs;
      rows = part_numbers numbers_per_row bytes plan.rows;
    }

-- the lists stand where they were found: what is asked before they are stored
pub record PlanHeld (bytes : List ℕ) (plan : Plan) : Type 0 where
  pub for_labels : PartHeld 1 bytes plan.labels
  pub for_tallies : PartHeld tallies_per_span bytes plan.tallies
  pub for_pairs : PartHeld numbers_per_pair bytes plan.pairs
  pub for_rows : PartHeld numbers_per_row bytes plan.rows

pub record ResultHeld (bytes : List ℕ) (plan : Plan) : Type 0 where
  pub held : PlanHeld bytes plan
  pub same : read_result bytes ≡ well_formed (result_in bytes plan)

abbrev pub ResultTold : List ℕ → Result Plan Refusal → Type 0
ResultTold bytes (Ok plan) = ResultHeld bytes plan
ResultTold bytes (Err refusal) = read_result bytes ≡ refused (refusals.number_of refusal.cause) refusal.place

-- lists of these lengths have room for all of it
abbrev pub room_in : Plan → ℕ → ℕ → ℕ → ℕ → Bool
room_in plan labels tallies pairs rows =
    leb (plan.labels.count * 1) labels && leb (plan.tallies.count * tallies_per_span) tallies && leb (plan.pairs.count * numbers_per_pair) pairs
    && leb (plan.rows.count * numbers_per_row) rows

pub record Room (plan : Plan) (labels tallies pairs rows : ℕ) : Type 0 where
  pub for_labels : plan.labels.count * 1 ≤ labels
  pub for_tallies : plan.tallies.count * tallies_per_span ≤ tallies
  pub for_pairs : plan.pairs.count * numbers_per_pair ≤ pairs
  pub for_rows : plan.rows.count * numbers_per_row ≤ rows
