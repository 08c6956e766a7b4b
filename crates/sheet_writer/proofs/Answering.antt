-- What the writer answers at each of its returns: the checks in their order. Assumes nothing.
use Prim.Native.Nat.{ℕ, ◌*◌, ◌≤◌}
use native.Mathlib.Omega.{arith}
use mathlib.Core.Path.{◌≡◌, refl, sym, ap, ◌∙◌}
use mathlib.Core.Bool.{Bool, true, false, ◌&&◌}
use mathlib.Core.List.{List, [], ◌∷◌}
use lib.Dec.{leb, eqb}
use lib.ListN.{length}
use borrow.Author.Tests.{leb-true}
use Rattle.definitions.specs.Limits.{is_side, numbers_per_boundary, numbers_per_anchor}
use Rattle.definitions.specs.Refusals.{unless, is_whole}
use Rattle.definitions.specs.Verdict.{Answer, refusal, first_refusal}
use Rattle.definitions.specs.Sheet.{Sheet}
use Rattle.laws.specs.ListLaws.Overwritten.{sets_overwrite}
use Rattle.map_sheets.specs.SheetBytes.{sheet_bytes}
use Rattle.map_sheets.specs.Writing.{write_verdict, Writes}
use Rattle.byte_writer.specs.Contract.{Put}

abbrev answer : ℕ → ℕ → Answer
answer number value = record { number = number; value = value }

-- the four tests
module _ (s : Sheet) (lent : List ℕ) where
  size : ℕ
  size = length (sheet_bytes 3 s)

  filled₀ : Bool
  filled₀ = eqb (length s.cells) (s.width * s.height)

  whole₀ : Bool
  whole₀ = is_whole numbers_per_boundary s.boundaries && is_whole numbers_per_anchor s.anchors

  room₀ : Bool
  room₀ = leb size (length lent)

  by_tests : (a b c d : Bool) → Answer
  by_tests a b c d = first_refusal (refusal 1 (unless a) ∷ refusal 2 (unless b) ∷ refusal 3 (unless c) ∷ refusal 10 (unless d) ∷ []) size

  verdict_is : {a b c d : Bool} → a ≡ (is_side s.width && is_side s.height) → b ≡ eqb (length s.cells) (s.width * s.height)
      → c ≡ (is_whole numbers_per_boundary s.boundaries && is_whole numbers_per_anchor s.anchors) → d ≡ leb size (length lent)
      → write_verdict s (length lent) ≡ by_tests a b c d
  unfolding write_verdict by_tests size
  verdict_is p q r t = (λ i. by_tests (sym p i) (sym q i) (sym r i) (sym t i))

  module _ {a : Bool} (p : a ≡ (is_side s.width && is_side s.height)) where
    pub writes_1 : a ≡ false → Writes s lent (answer 1 0) lent
    unfolding by_tests filled₀ whole₀ room₀
    writes_1 e = record { said = sym (verdict_is p refl refl refl ∙ ap (λ t. by_tests t filled₀ whole₀ room₀) e); left = refl }

    module _ (sides : a ≡ true) {b : Bool} (q : b ≡ eqb (length s.cells) (s.width * s.height)) where
      pub writes_2 : b ≡ false → Writes s lent (answer 2 0) lent
      unfolding by_tests whole₀ room₀
      writes_2 e = record { said = sym (verdict_is p q refl refl ∙ (λ i. by_tests (sides i) (e i) whole₀ room₀)); left = refl }

      module _ (filled : b ≡ true) {c : Bool} (r : c ≡ (is_whole numbers_per_boundary s.boundaries && is_whole numbers_per_anchor s.anchors)) where
        pub writes_3 : c ≡ false → Writes s lent (answer 3 0) lent
        unfolding by_tests room₀
        writes_3 e = record { said = sym (verdict_is p q r refl ∙ (λ i. by_tests (sides i) (filled i) (e i) room₀)); left = refl }

        module _ (whole : c ≡ true) {d : Bool} (t : d ≡ leb (length (sheet_bytes 3 s)) (length lent)) where
          pub writes_10 : d ≡ false → Writes s lent (answer 10 0) lent
          unfolding by_tests size
          writes_10 e = record { said = sym (verdict_is p q r t ∙ (λ i. by_tests (sides i) (filled i) (whole i) (e i))); left = refl }

          pub writes_0 : d ≡ true → {new : List ℕ} {put : ℕ} → Put lent 0 (sheet_bytes 3 s) new put → Writes s lent (answer 0 put) new
          unfolding by_tests size
          writes_0 e {new} {put} P =
              let fits : length (sheet_bytes 3 s) ≤ length lent = leb-true (length (sheet_bytes 3 s)) (length lent) (sym t ∙ e) in
              let all : put ≡ length (sheet_bytes 3 s) = omega (arith, P.next_is) in
              record {
                said = ap (answer 0) all ∙ sym (verdict_is p q r t ∙ (λ i. by_tests (sides i) (filled i) (whole i) (e i)));
                left = P.stored ∙ sets_overwrite lent (sheet_bytes 3 s) fits;
              }
