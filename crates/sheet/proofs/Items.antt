-- Numbers of at most so much: what `up_to` gives after `number`, that it is `number` at the largest bound and `cell` at 255, and the bound on what it
-- finds. Assumes nothing.
use Prim.Native.Nat.{ℕ, ◌≤◌, ◌<◌}
use mathlib.Core.Path.{◌≡◌, refl, sym, ap, ◌∙◌}
use mathlib.Core.Bool.{Bool, true, false}
use mathlib.Core.List.{List}
use native.Mathlib.Omega.{arith}
use lib.Dec.{leb}
use borrow.Author.Tests.{leb-true, le-leb, lt-leb}
use Rattle.definitions.specs.SheetNumber.{Read, found, failed, number}
use Rattle.definitions.specs.Sheet.{and_then, check, judged, cell}
use Rattle.laws.specs.SheetReading.SheetLaws.{Keeps, not_found, judged-all, keeps-judged}
use Rattle.sheet.specs.Numbers.{up_to}

pub up_to-all : up_to 0xffff_ffff_ffff_ffff ≡ number
unfolding up_to
up_to-all = judged-all

pub up_to-cell : up_to 255 ≡ cell
unfolding up_to cell
up_to-cell = refl

module _ (at : ℕ) (bytes : List ℕ) {r : Read ℕ} where
  pub as_number : up_to 0xffff_ffff_ffff_ffff at bytes ≡ r → number at bytes ≡ r
  as_number h = ap (λ item. item at bytes) (sym up_to-all) ∙ h

  pub as_cell : up_to 255 at bytes ≡ r → cell at bytes ≡ r
  as_cell h = ap (λ item. item at bytes) (sym up_to-cell) ∙ h

pub keeps-up_to : (most : ℕ) → Keeps (up_to most)
unfolding up_to
keeps-up_to most = keeps-judged (λ value. leb value most)

module _ (most at : ℕ) (bytes : List ℕ) where
  pub up_to-allowed : {value next : ℕ} {rest : List ℕ} → number at bytes ≡ found value next rest → value ≤ most → up_to most at bytes ≡ found value next rest
  unfolding up_to judged
  up_to-allowed {value} h k = rw (h, le-leb value most k)

  pub up_to-over : {value next : ℕ} {rest : List ℕ} → number at bytes ≡ found value next rest → most < value → up_to most at bytes ≡ failed 14 at
  unfolding up_to judged
  up_to-over {value} h k = rw (h, lt-leb value most k)

  pub up_to-failed : {refusal place : ℕ} → number at bytes ≡ failed refusal place → up_to most at bytes ≡ failed refusal place
  unfolding up_to judged
  up_to-failed h = rw h

  pub up_to_most : {value next : ℕ} {rest : List ℕ} → up_to most at bytes ≡ found value next rest → value ≤ most
  unfolding up_to judged
  up_to_most {value} {next} {rest} h = outer (number at bytes) h
    where
      inner : (v o : ℕ) (r : List ℕ) (t : Bool) → leb v most ≡ t → check t 14 at v o r ≡ found value next rest → value ≤ most
      inner v o r true e q = omega (arith, leb-true v most e, (let s : v ≡ value = cc in s))
      inner v o r false e q = absurd (not_found q)

      outer : (r : Read ℕ) → and_then r (λ v. check (leb v most) 14 at v) ≡ found value next rest → value ≤ most
      outer (found v o r) q = inner v o r (leb v most) refl q
      outer (failed refusal place) q = absurd (not_found q)

pub keeps-cell : Keeps cell
keeps-cell = rw (← up_to-cell) (keeps-up_to 255)
