-- The table in which records are found by their map: a map's slot is the remainder of its number, a slot holds its last record, and each record held has the
-- one before it in its slot. Positions are one more than they are, and 0 says that there is none. Assumes nothing.
use Rattle.std.specs.Prelude.{ℕ, ◌≤◌, ◌<◌, ◌%◌, ◌≡◌, Bool, List, length, get_or, eqb}
use Rattle.catalogue.specs.Accession.{accession_at, accession_count}
use Rattle.catalogue.specs.AccessionLaws.Last.{last_below}

-- record j is in this slot
unfoldable pub in_slot : List ℕ → ℕ → ℕ → ℕ → Bool
unfolding accession_at
in_slot l slots slot j = eqb ((accession_at l j).on_map % slots) slot

-- the table, of this many slots, holds the first records of l, as many as `held` says
pub record Holds (l : List ℕ) (slots held : ℕ) (last links : List ℕ) : Type 0 where
  pub some_slots : 0 < slots
  pub slot_count : length last ≡ slots
  pub of_list : held ≤ accession_count l
  pub room : held ≤ length links
  pub lasts : (slot : ℕ) → slot < slots → get_or last slot 0 ≡ last_below held (in_slot l slots slot)
  pub linked : (j : ℕ) → j < held → get_or links j 0 ≡ last_below j (in_slot l slots ((accession_at l j).on_map % slots))
