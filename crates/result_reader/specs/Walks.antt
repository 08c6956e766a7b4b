-- Entries of a list while they are walked: what is remembered of those that went by, what the rules say of the ones that follow, and what a walk answers.
-- Definitions only; assumes nothing.
use Rattle.std.specs.Prelude.{ℕ, ◌≤◌, ◌≡◌, cond, List, [], ◌∷◌, length, drop, Option, None, Some, Result, Ok, Err}
use Rattle.definitions.specs.SheetNumber.{Read, found, failed}
use Rattle.definitions.specs.Sort.{list_lt}
use Rattle.refusals.specs.declared.Refusal.{Refusal}
use Rattle.refusals.specs.Refusals as refusals
use Rattle.results.specs.Result.{Entry, Turns, out_of_turn, times_entry, turns, ascent_fault}
use Rattle.result_writer.specs.Contract.{turn_of}
use Rattle.sheet.specs.declared.Found.{Found}

-- ---- entries at an offset of the bytes

unfoldable pub entries_at : ℕ → List ℕ → ℕ → ℕ → Read (List Entry)
unfolding times_entry
entries_at size bytes at count = times_entry count size at (drop at bytes)

abbrev pub entries_of : Read (List Entry) → List Entry
entries_of (found es next rest) = es
entries_of (failed refusal place) = []

-- ---- a walk: where it ended and what is remembered there, or where it was refused

module _ {S X : Type 0} (from : S → List Entry → X) (size : ℕ) (bytes : List ℕ) where
  -- `from` says what a rule makes of the entries that follow, where this is remembered of those before
  pub record Walked (s : S) (at count next : ℕ) (last : S) : Type 0 where
    pub behind : next ≤ length bytes
    pub same : entries_at size bytes at count ≡ found (entries_of (entries_at size bytes at count)) next (drop next bytes)
    pub told : from s (entries_of (entries_at size bytes at count)) ≡ from last []

  abbrev pub Walks : S → ℕ → ℕ → Result (Found S) Refusal → Type 0
  Walks s at count (Ok read) = Walked s at count read.next read.value
  Walks s at count (Err refusal) = entries_at size bytes at count ≡ failed (refusals.number_of refusal.cause) refusal.place

-- ---- labels

-- one label more, at this place, where so many numbers are started
abbrev pub turned_at : ℕ → Option ℕ → Result ℕ ℕ
turned_at place (Some n) = Ok n
turned_at place None = Err place

abbrev pub turn_at : ℕ → Result ℕ ℕ → ℕ → ℕ → Result ℕ ℕ
turn_at regions (Ok n) label place = turned_at place (turn_of regions n label)
turn_at regions (Err first) label place = Err first

unfoldable pub turns_from : ℕ → Result ℕ ℕ → List Entry → Turns
unfolding turns
turns_from regions (Ok n) es = turns regions n es
turns_from regions (Err place) es = out_of_turn place

-- ---- pairs and rows

-- one entry more
abbrev pub ascent_of : Result (Option (List ℕ)) ℕ → List ℕ → ℕ → Result (Option (List ℕ)) ℕ
ascent_of (Ok None) k place = Ok (Some k)
ascent_of (Ok (Some before)) k place = cond (list_lt before k) (Ok (Some k)) (Err place)
ascent_of (Err first) k place = Err first

-- the place of the first that is not above the one before it, behind an entry of this key
unfoldable pub fault_behind : (List ℕ → List ℕ) → List ℕ → List Entry → Option ℕ
unfolding list_lt
fault_behind key before [] = None
fault_behind key before (e ∷ es) = cond (list_lt before (key e.numbers)) (fault_behind key (key e.numbers) es) (Some e.place)

unfoldable pub ascent_from : (List ℕ → List ℕ) → Result (Option (List ℕ)) ℕ → List Entry → Option ℕ
unfolding ascent_fault fault_behind
ascent_from key (Ok None) es = ascent_fault key es
ascent_from key (Ok (Some k)) es = fault_behind key k es
ascent_from key (Err place) es = Some place
