-- Accession records in one list: which of them break a rule, and which is a map's current record. Quotations are of document 02, request 7.
-- Assumes nothing; entries of the list are 64-bit numbers, of any size.
use Rattle.std.specs.Prelude.{ℕ, zero, suc, ◌+◌, ◌*◌, ◌/◌, ◌%◌, Bool, not, ◌&&◌, cond, List, [], ◌∷◌, length, get_or, eqb, ltb, Option}
use Rattle.definitions.specs.Scan.{any_below_lem}
use Rattle.definitions.specs.Refusals.{first_below_lem, first_faulty}

-- "own number, map number, day, and the number superseded or 0"
pub record Accession : Type 0 where
  pub own : ℕ
  pub on_map : ℕ
  pub day : ℕ
  pub superseded : ℕ

abbrev pub numbers_per_accession : ℕ
numbers_per_accession = 4

-- a record as it stands in a list
abbrev pub flat_accession : Accession → List ℕ
flat_accession r = r.own ∷ r.on_map ∷ r.day ∷ r.superseded ∷ []

-- ---- the list

-- record i of the list, and how many there are
unfoldable pub accession_at : List ℕ → ℕ → Accession
accession_at l i =
    let at = numbers_per_accession * i in
    record { own = get_or l at 0; on_map = get_or l (at + 1) 0; day = get_or l (at + 2) 0; superseded = get_or l (at + 3) 0 }

abbrev pub accession_count : List ℕ → ℕ
accession_count l = length l / numbers_per_accession

-- no last entry is unfinished
abbrev pub is_finished : List ℕ → Bool
is_finished l = eqb (length l % numbers_per_accession) 0

-- record j is of record i's map
unfoldable pub on_same_map : List ℕ → ℕ → ℕ → Bool
unfolding accession_at
on_same_map l i j = eqb (accession_at l j).on_map (accession_at l i).on_map

-- ---- the rules, of record i after those before it

-- "Own numbers start above 0 and strictly ascend."
unfoldable pub own_ascends : List ℕ → ℕ → Bool
unfolding accession_at
own_ascends l zero = ltb 0 (accession_at l 0).own
own_ascends l (suc i) = ltb (accession_at l i).own (accession_at l (suc i)).own

-- "Days of one map never fall along the list."
unfoldable pub day_stands : List ℕ → ℕ → Bool
unfolding any_below_lem on_same_map accession_at
day_stands l i = not (any_below_lem i (λ j. on_same_map l i j && ltb (accession_at l i).day (accession_at l j).day))

-- "Only a map's first record has 0."
unfoldable pub is_first : List ℕ → ℕ → Bool
unfolding any_below_lem on_same_map
is_first l i = not (any_below_lem i (on_same_map l i))

-- "A record supersedes only an earlier one of its map that no other has superseded." Of two records that supersede one, the later breaks the rule.
unfoldable pub supersedes_freely : List ℕ → ℕ → Bool
unfolding any_below_lem on_same_map accession_at
supersedes_freely l i =
    let target = (accession_at l i).superseded in
    any_below_lem i (λ j. on_same_map l i j && eqb (accession_at l j).own target) && not (any_below_lem i (λ j. eqb (accession_at l j).superseded target))

unfoldable pub keeps_rules : List ℕ → ℕ → Bool
unfolding own_ascends day_stands is_first supersedes_freely accession_at
keeps_rules l i = own_ascends l i && day_stands l i && cond (eqb (accession_at l i).superseded 0) (is_first l i) (supersedes_freely l i)

-- 17: the position of the first record that breaks a rule
unfoldable pub accessions_fault : List ℕ → Option ℕ
unfolding first_below_lem keeps_rules
accessions_fault l = first_faulty (accession_count l) (keeps_rules l)

-- ---- the current record

-- "The current record of a map is its one record that nothing supersedes." That it is one is proved (AccessionLaws/Current.antt).
unfoldable pub is_current : List ℕ → ℕ → Bool
unfolding any_below_lem accession_at
is_current l i = not (any_below_lem (accession_count l) (λ j. eqb (accession_at l j).superseded (accession_at l i).own))
