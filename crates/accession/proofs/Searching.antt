-- What chains over records in chunks of four give: a record with an own number, or that there is none (`found`), and how many are of a map (`counted`). Assumes
-- nothing.
use Prim.Native.Nat.{ℕ, suc, ◌+◌, ◌/◌, ◌<◌}
use native.Mathlib.Omega.{arith}
use mathlib.Core.Path.{◌≡◌, sym, ap, ◌∙◌}
use mathlib.Core.Bool.{Bool, true, false}
use mathlib.Core.List.{List, [], ◌∷◌}
use lib.ListN.{length, get_or}
use lib.Dec.{eqb}
use denote.Ref.{Bor}
use Rattle.std.specs.Prelude.{Option, None, Some, MatchOption}
use Rattle.std.specs.List.{filter, AllWithin, HoldsAt}
use Rattle.std.specs.Simd.{first_chunks}
use Rattle.definitions.specs.Scan.{bit, count_below}
use Rattle.laws.specs.ListLaws.ScanSteps.{count_next}
use Rattle.catalogue.specs.Accession.{accession_count}
use Rattle.catalogue.specs.AccessionLaws.MapLine.{is_of_map}
use Rattle.catalogue.proofs.Chunks.{record-at}
use Rattle.accession.specs.Contract.{Finds}

module _ (l : List ℕ) {chunks : List (List ℕ)} (E : chunks ≡ first_chunks 4 (length l / 4) l) (many : length chunks ≡ length l / 4) where
  pub found : (own : ℕ) (r : Option (Bor (List ℕ)))
      → MatchOption r (AllWithin (λ e. get_or e 0 0 ≡ own → ⊥) chunks 0 (length chunks))
      (λ x. (get_or x.now 0 0 ≡ own) × (i : ℕ) × (i < length chunks) × HoldsAt (λ y. y ≡ x.now) chunks i × AllWithin (λ e. get_or e 0 0 ≡ own → ⊥) chunks 0 i)
      → Finds l own r
  found own None h = λ j b e. h j [] (omega arith) (omega (arith, b, many)) (ap (λ r. r.own) (record-at l j [] E b) ∙ e)
  found own (Some x) (own_is, i, below, at, before) =
      let inside : i < accession_count l = omega (arith, below, many) in
      let same = record-at l i [] E inside in (
        i,
        inside,
        sym (ap (λ r. r.own) same) ∙ ap (λ e. get_or e 0 0) (at []) ∙ own_is,
        sym (ap (λ e. get_or e 1 0) (at [])) ∙ ap (λ r. r.on_map) same,
      )

  pub counted : (number : ℕ) → length (filter (λ e. eqb (get_or e 1 0) number) chunks) ≡ count_below (accession_count l) (is_of_map l number)
  unfolding is_of_map count_below
  counted number =
      go chunks (λ i b. ap (λ r. eqb r.on_map number) (record-at l i [] E (omega (arith, b, many)))) ∙ ap (λ n. count_below n (is_of_map l number)) many
    where
      one : (b : Bool) (x : List ℕ) (xs : List (List ℕ)) → b ≡ eqb (get_or x 1 0) number
          → length (filter (λ e. eqb (get_or e 1 0) number) (x ∷ xs)) ≡ bit b + length (filter (λ e. eqb (get_or e 1 0) number) xs)
      one true x xs e = rw (sym e) (omega arith)
      one false x xs e = rw (sym e) (omega arith)

      from : (a : ℕ) (xs : List (List ℕ)) → ((i : ℕ) → i < length xs → eqb (get_or (get_or xs i []) 1 0) number ≡ is_of_map l number (a + i))
          → count_below a (is_of_map l number) + length (filter (λ e. eqb (get_or e 1 0) number) xs) ≡ count_below (a + length xs) (is_of_map l number)
      from a [] h = let same : a ≡ a + 0 = omega arith in omega (arith, ap (λ n. count_below n (is_of_map l number)) same)
      from a (x ∷ xs) h =
          let here : a + 0 ≡ a = omega arith in
          let more : a + 1 + length xs ≡ a + suc (length xs) = omega arith in
          let step : (i : ℕ) → a + suc i ≡ a + 1 + i = λ i. omega arith in
          let rest = from (a + 1) xs (λ i b. h (suc i) (omega arith) ∙ ap (is_of_map l number) (step i)) in
          let first = one (is_of_map l number a) x xs (sym (h 0 (omega arith) ∙ ap (is_of_map l number) here)) in
          omega (arith, rest, first, count_next (is_of_map l number) a, ap (λ n. count_below n (is_of_map l number)) more)

      go : (xs : List (List ℕ)) → ((i : ℕ) → i < length xs → eqb (get_or (get_or xs i []) 1 0) number ≡ is_of_map l number i)
          → length (filter (λ e. eqb (get_or e 1 0) number) xs) ≡ count_below (length xs) (is_of_map l number)
      go xs h =
          let plain : (i : ℕ) → i ≡ 0 + i = λ i. omega arith in
          let all = from 0 xs (λ i b. h i b ∙ ap (is_of_map l number) (plain i)) in
          let end : 0 + length xs ≡ length xs = omega arith in
          omega (arith, all, ap (λ n. count_below n (is_of_map l number)) end)
