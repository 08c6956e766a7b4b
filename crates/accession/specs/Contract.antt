-- What the answers of this crate say, by cases. Assumes nothing.
use Rattle.std.specs.Prelude.{ℕ, zero, suc, ◌*◌, ◌<◌, ◌≡◌, List, [], ◌∷◌, length, get_or, leb, Option, None, Some}
use denote.Ref.{Bor}
use Rattle.definitions.specs.Lists.{overwrite}
use Rattle.definitions.specs.Refusals.{unless}
use Rattle.definitions.specs.Verdict.{Answer, refusal, first_refusal}
use Rattle.catalogue.specs.Accession.{Accession, numbers_per_accession, accession_at, accession_count}
use Rattle.catalogue.specs.Line.{flat_line}
use Rattle.accession.specs.declared.records.Accession as code

abbrev pub accession_as : code.Accession → Accession
accession_as r = record { own = r.own; on_map = r.on_map; day = r.day; superseded = r.superseded }

-- a position as the definitions count it: one more than it, or 0 where there is none
abbrev pub one_more : Option ℕ → ℕ
one_more None = 0
one_more (Some k) = suc k

-- a record with this own number, or that there is none
abbrev pub Finds : List ℕ → ℕ → Option (Bor (List ℕ)) → Type 0
Finds l own None = (j : ℕ) → j < accession_count l → (accession_at l j).own ≡ own → ⊥
Finds l own (Some r) = (i : ℕ) × (i < accession_count l) × ((accession_at l i).own ≡ own) × (get_or r.now 1 0 ≡ (accession_at l i).on_map)

-- ---- once the list is known to keep the rules

-- 10, or this line's count
abbrev pub room_verdict : List Accession → ℕ → Answer
room_verdict line output = first_refusal (refusal 10 (unless (leb (numbers_per_accession * length line) output)) ∷ []) (length line)

-- the output at exit
abbrev pub room_exit : ℕ → List Accession → List ℕ → List ℕ
room_exit zero line output = overwrite (flat_line line) output
room_exit (suc number) line output = output
