-- What the functions on single numbers and on runs of numbers answer, as outcomes of the grammar's readers. Assumes nothing.
use Rattle.std.specs.Prelude.{ℕ, ◌≤◌, ◌<◌, ◌≡◌, Bool, true, false, List, [], length, drop, leb, Option, None, Some, Result, Ok, Err}
use Rattle.definitions.specs.SheetNumber.{Read, found, failed, number}
use Rattle.definitions.specs.Sheet.{Reader, judged, times}
use Rattle.refusals.specs.declared.Refusal.{Refusal}
use Rattle.refusals.specs.declared.Cause.TheVariants as cause
use Rattle.refusals.specs.Refusals as refusals
use Rattle.sheet.specs.declared.Found.{Found}

-- what a reader of the grammar gives where this was answered: what was found, with the offset behind it, or a refusal by its number
abbrev pub read_of : {A : Type 0} → List ℕ → Result (Found A) Refusal → Read A
read_of bytes (Ok read) = found read.value read.next (drop read.next bytes)
read_of bytes (Err refusal) = failed (refusals.number_of refusal.cause) refusal.place

-- a number of at most this, else refused 14 at its first byte: a cell is `up_to 255`
unfoldable pub up_to : ℕ → Reader ℕ
unfolding judged
up_to most = judged (λ value. leb value most)

-- a number of one byte or of two is what the grammar reads there; of a longer one nothing is said
abbrev pub ShortTold : List ℕ → ℕ → Option (Found ℕ) → Type 0
ShortTold bytes at (Some read) = number at (drop at bytes) ≡ found read.value read.next (drop read.next bytes)
ShortTold bytes at None = Unit {0}

-- the bytes end there, or are refused 14 at the first of those left over
abbrev pub EndTold : List ℕ → ℕ → Result (Unit {0}) Refusal → Type 0
EndTold bytes at (Ok _) = length bytes ≤ at
EndTold bytes at (Err refusal) = (at < length bytes) × (refusal ≡ record { cause = cause.Sheet; place = at })

-- ---- runs

-- what reading `count` numbers gives, from an offset of the bytes on
unfoldable pub items_at : Reader ℕ → List ℕ → ℕ → ℕ → Read (List ℕ)
unfolding times
items_at item bytes at count = times count item at (drop at bytes)

abbrev pub values_in : Read (List ℕ) → List ℕ
values_in (found values next rest) = values
values_in (failed refusal place) = []

abbrev pub is_found : Read (List ℕ) → Bool
is_found (found values next rest) = true
is_found (failed refusal place) = false

-- the numbers themselves, where there are so many
abbrev pub values_at : Reader ℕ → List ℕ → ℕ → ℕ → List ℕ
values_at item bytes at count = values_in (items_at item bytes at count)

-- an answer that leaves the values out tells how reading them ends
abbrev pub judged_of : List ℕ → List ℕ → Result ℕ Refusal → Read (List ℕ)
judged_of bytes values (Ok next) = found values next (drop next bytes)
judged_of bytes values (Err refusal) = failed (refusals.number_of refusal.cause) refusal.place

abbrev pub Told : List ℕ → Read (List ℕ) → Result ℕ Refusal → Type 0
Told bytes read answer = read ≡ judged_of bytes (values_in read) answer

-- so many numbers stand there: what is asked before they are stored
pub record Held (item : Reader ℕ) (bytes : List ℕ) (at count : ℕ) : Type 0 where
  pub inside : at ≤ length bytes
  pub all : is_found (items_at item bytes at count) ≡ true
