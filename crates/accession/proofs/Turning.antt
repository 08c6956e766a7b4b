-- The records of a list from the last on, as chunks in reverse: the record that a turn has, and what it puts in the output (`Putting`). Assumes nothing.
use Prim.Native.Nat.{ℕ, ◌+◌, ◌-◌, ◌*◌, ◌/◌, ◌≤◌, ◌<◌}
use native.Mathlib.Omega.{arith}
use mathlib.Core.Path.{◌≡◌, sym, ap, subst, ◌∙◌}
use mathlib.Core.Bool.{true, false}
use mathlib.Core.List.{List, reverse}
use lib.ListN.{length, get_or, take, drop}
use borrow.Rule.Slice.PartMut.{put_mid}
use borrow.Author.Tests.{eq-eqb, ne_eqb}
use Rattle.std.specs.Simd.{first_chunks}
use Rattle.std.proofs.lemmas.List.{get_or-reverse, length-reverse}
use Rattle.definitions.specs.Scan.{count_below}
use Rattle.catalogue.specs.Accession.{numbers_per_accession, accession_at, accession_count}
use Rattle.catalogue.specs.AccessionLaws.MapLine.{is_of_map}
use Rattle.catalogue.proofs.Chunks.{chunk-at, chunk-count, record-at}
use Rattle.accession.proofs.Copying.{record_copied}
use Rattle.accession.proofs.Putting.{Putting, put_one, put_none, room-before, putting_next}

module _
    (l : List ℕ) (number : ℕ) (old : List ℕ) (fits : numbers_per_accession * count_below (accession_count l) (is_of_map l number) ≤ length old)
    {chunks : List (List ℕ)} (E : chunks ≡ first_chunks 4 (length l / 4) l) (done : ℕ) (r : List ℕ) (T : (done < length (reverse chunks)) × (r ≡ get_or (reverse chunks) done r)) where
  count : length chunks ≡ accession_count l
  count = ap length E ∙ chunk-count 4 (length l / 4) l

  inside : done < accession_count l
  inside = omega (arith, T.0, length-reverse chunks, count)

  abbrev i : ℕ
  i = accession_count l - done

  here : r ≡ get_or chunks (i - 1) r
  here =
      let place : length chunks - 1 - done ≡ i - 1 = omega (arith, count) in
      T.1 ∙ get_or-reverse chunks done r (omega (arith, inside, count)) ∙ ap (λ k. get_or chunks k r) place

  its_map : get_or r 1 0 ≡ (accession_at l (i - 1)).on_map
  its_map = ap (λ t. get_or t 1 0) here ∙ ap (λ x. x.on_map) (record-at l (i - 1) r E (omega (arith, inside)))

  its_numbers : r ≡ take 4 (drop (4 * (i - 1)) l)
  its_numbers = here ∙ ap (λ t. get_or t (i - 1) r) E ∙ chunk-at 4 (length l / 4) l (i - 1) r (omega (arith, inside))

  of_lem : get_or r 1 0 ≡ number → is_of_map l number (i - 1) ≡ true
  unfolding is_of_map
  of_lem e = eq-eqb (accession_at l (i - 1)).on_map number (sym its_map ∙ e)

  not_lem : (get_or r 1 0 ≡ number → ⊥) → is_of_map l number (i - 1) ≡ false
  unfolding is_of_map
  not_lem d = ne_eqb (accession_at l (i - 1)).on_map number (λ e. d (its_map ∙ e))

  module _ {out : List ℕ} {k : ℕ} (P : Putting l number old out i k) where
    pub turn-room : get_or r 1 0 ≡ number → k + 4 ≤ length out
    turn-room e = omega (arith, room-before l number old fits i (omega (arith, inside)) P (of_lem e))

    next_place : {next : ℕ} → next ≡ done + 1 → i - 1 ≡ accession_count l - next
    next_place e = omega (arith, e)

    pub turn-put : get_or r 1 0 ≡ number → {part : List ℕ} → part ≡ r → {next : ℕ} → next ≡ done + 1
        → Putting l number old (put_mid k (k + 4 - k) out part) (accession_count l - next) (k + 4)
    turn-put e {part} q {next} n =
        let at = i - 1 in
        let put = record_copied l at out k (omega (arith, inside)) (turn-room e) (q ∙ its_numbers) in
        let told = put_one l at out k (is_of_map l number at) (of_lem e) in
        subst (λ j. Putting l number old (put_mid k (k + 4 - k) out part) j (k + 4)) (next_place n)
        (putting_next l number old fits i (omega (arith, inside)) P (put ∙ told.1) told.0)

    pub turn-left : (get_or r 1 0 ≡ number → ⊥) → {next : ℕ} → next ≡ done + 1 → Putting l number old out (accession_count l - next) k
    turn-left d {next} n =
        let told = put_none l (i - 1) out k (is_of_map l number (i - 1)) (not_lem d) in
        subst (λ j. Putting l number old out j k) (next_place n) (putting_next l number old fits i (omega (arith, inside)) P told.1 told.0)

module _ (l : List ℕ) {chunks : List (List ℕ)} (E : chunks ≡ first_chunks 4 (length l / 4) l) where
  -- no record is left
  pub none_left : {done : ℕ} → done ≡ length (reverse chunks) → accession_count l - done ≤ 0
  none_left e = omega (arith, e, length-reverse chunks, ap length E, chunk-count 4 (length l / 4) l)
