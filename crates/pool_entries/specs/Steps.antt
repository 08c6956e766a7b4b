-- What the steps of the listing promise: entries that show no record yet, and entries in which a record is shown. Definitions only; assumes nothing.
use Rattle.std.specs.Prelude.{ℕ, ◌<◌, ◌≡◌, cond, List, length, get_or, eqb, Option, None, Some}
use Rattle.definitions.specs.Lists.{overwrite}
use Rattle.definitions.specs.Scan.{only_if, concat_map}
use Rattle.catalogue.specs.Terms.{term_at, days_of, contains}
use Rattle.catalogue.specs.Accession.{Accession, accession_count}
use Rattle.catalogue.specs.Pool.{entry_of, entries_of}
use Rattle.catalogue.specs.PoolLaws.{Rising}

-- the map of term i, if the term has the day
abbrev pub map_at_lem : List ℕ → ℕ → ℕ → Option ℕ
map_at_lem terms day i = only_if (contains day (days_of (term_at terms i))) (term_at terms i).on_map

-- a record as its four numbers stand in a list
abbrev pub record_in : List ℕ → Accession
record_in l = record { own = get_or l 0 0; on_map = get_or l 1 0; day = get_or l 2 0; superseded = get_or l 3 0 }

-- the entries of maps, showing what f gives
unfoldable pub entries_by : (ℕ → Option Accession) → List ℕ → List ℕ
unfolding concat_map
entries_by f maps = concat_map (λ m. entry_of m (f m)) maps

-- showing no record
abbrev pub blank : List ℕ → List ℕ
blank maps = entries_by (λ m. None) maps

-- where these are the entries of rising maps, the place is this map's, or none has it
abbrev pub IsPlace : List ℕ → ℕ → Option ℕ → Type 0
IsPlace maps map None = (k : ℕ) → k < length maps → get_or maps k 0 ≡ map → ⊥
IsPlace maps map (Some p) = (p < length maps) × (get_or maps p 0 ≡ map)

abbrev pub Found : List ℕ → ℕ → Option ℕ → Type 0
Found entries map place = (M : List ℕ) (f : ℕ → Option Accession) → Rising M → entries ≡ entries_by f M → IsPlace M map place

-- the record is shown in the entry of its map
abbrev pub Shown : List ℕ → Accession → List ℕ → Type 0
Shown old r new = (M : List ℕ) (f : ℕ → Option Accession) → Rising M → old ≡ entries_by f M → new ≡ entries_by (λ m. cond (eqb r.on_map m) (Some r) (f m)) M

-- where the list begins with the entries of so many rising maps, which show no record, of all records each is shown that is of this day or earlier, over what stood
-- there; what lies behind the entries stays
abbrev pub RecordsShown : List ℕ → ℕ → List ℕ → ℕ → List ℕ → Type 0
RecordsShown old count records day new = (M : List ℕ) → Rising M → length M ≡ count → old ≡ overwrite (blank M) old
    → new ≡ overwrite (entries_of records day (accession_count records) M) old
