-- The verdict of a report once its checks are made one after the other: 3, 17, and then 10 for the line of the own number's map. Assumes nothing.
use Prim.Native.Nat.{ℕ, zero, suc, ◌*◌, ◌/◌, ◌≤◌, ◌<◌}
use native.Mathlib.Omega.{arith}
use mathlib.Core.Path.{◌≡◌, refl, sym, ap, ap₂, ◌∙◌}
use mathlib.Core.Bool.{Bool, true, false}
use Rattle.std.specs.Prelude.{Option, None}
use mathlib.Core.List.{List, [], ◌∷◌}
use lib.ListN.{length}
use lib.Dec.{leb}
use borrow.Author.Tests.{le-leb, lt-leb, leb-true, leb-false}
use Rattle.definitions.specs.Lists.{overwrite}
use Rattle.definitions.specs.Scan.{count_below, concat_map}
use Rattle.definitions.specs.Refusals.{unless}
use Rattle.definitions.specs.Verdict.{Answer, refusal, first_refusal}
use Rattle.catalogue.specs.Accession.{Accession, numbers_per_accession, accession_count, is_finished, accessions_fault}
use Rattle.catalogue.specs.Line.{line_of, flat_line, line_verdict, line_at_exit}
use Rattle.catalogue.specs.AccessionLaws.Newest.{newest-length}
use Rattle.catalogue.specs.AccessionLaws.MapLine.{is_of_map, map_line}
use Rattle.accession.specs.Contract.{room_verdict, room_exit}

abbrev answer : ℕ → ℕ → Answer
answer number value = record { number = number; value = value }

-- ---- 10

module _ (l : List ℕ) (number room : ℕ) {count : ℕ} (e : count ≡ count_below (accession_count l) (is_of_map l number)) where
  line-count : count ≡ length (map_line l number)
  unfolding map_line
  line-count = e ∙ sym (newest-length l (is_of_map l number) (accession_count l))

  -- the test of the room, in records or in numbers
  pub room_same : leb count (room / numbers_per_accession) ≡ leb (numbers_per_accession * length (map_line l number)) room
  room_same = go (leb count (room / numbers_per_accession)) refl
    where
      go : (b : Bool) → leb count (room / numbers_per_accession) ≡ b → b ≡ leb (numbers_per_accession * length (map_line l number)) room
      go true t =
          let fits : count ≤ room / numbers_per_accession = leb-true count (room / numbers_per_accession) t in
          sym (le-leb (numbers_per_accession * length (map_line l number)) room (omega (arith, line-count, fits)))
      go false t =
          let short : room / numbers_per_accession < count = leb-false count (room / numbers_per_accession) t in
          sym (lt-leb (numbers_per_accession * length (map_line l number)) room (omega (arith, line-count, short)))

  pub line-counted : answer 0 count ≡ first_refusal [] (length (map_line l number))
  line-counted = ap (answer 0) line-count

-- ---- 3 and 17

module _ (l : List ℕ) (own : ℕ) (out : List ℕ) where
  -- the three checks, by what the first two found
  abbrev checks : Bool → Option ℕ → Answer
  checks finished fault =
      first_refusal
      (refusal 3 (unless finished)
      ∷ refusal 17 fault
      ∷ refusal 10 (unless (leb (numbers_per_accession * length (line_of l own)) (length out)))
      ∷ [])
      (length (line_of l own))

  module _ (f : is_finished l ≡ true) where
    module _ (g : accessions_fault l ≡ None) where
      pub ten-left : room_verdict (line_of l own) (length out) ≡ line_verdict l own (length out)
      unfolding line_verdict
      ten-left = ap₂ checks (sym f) (sym g)

      -- an unknown number needs no room
      pub unknown : line_of l own ≡ [] → answer 0 0 ≡ line_verdict l own (length out)
      unknown e = ap (λ b. first_refusal (refusal 10 (unless b) ∷ []) 0) (sym (le-leb 0 (length out) (omega arith))) ∙ ap (λ line. room_verdict line (length out)) (sym e) ∙ ten-left

  pub exit-left : (number : ℕ) {line : List Accession} → line_of l own ≡ line → room_exit number line out ≡ line_at_exit number l own out
  exit-left number e = ap (λ line. room_exit number line out) (sym e) ∙ go number
    where
      go : (n : ℕ) → room_exit n (line_of l own) out ≡ line_at_exit n l own out
      go zero = refl
      go (suc n) = refl

  pub exit-unknown : line_of l own ≡ [] → out ≡ line_at_exit 0 l own out
  unfolding flat_line concat_map
  exit-unknown e = ap (λ line. overwrite (flat_line line) out) (sym e)
