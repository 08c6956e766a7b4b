-- Numbers one behind the other, and as many numbers twice. Assumes nothing.
use Prim.Native.Nat.{ℕ, suc, ◌+◌, ◌-◌, ◌*◌, ◌≤◌, ◌<◌}
use native.Mathlib.Numerals.{add-one}
use native.Mathlib.Omega.{arith}
use mathlib.Core.Path.{◌≡◌, refl, sym, ap, ◌∙◌}
use mathlib.Core.List.{List, [], ◌∷◌, ◌++◌}
use lib.ListN.{length, take, drop, set, length-set}
use lib.Seq.{take-suc-set}
use Rattle.definitions.specs.SheetNumber.{found, failed, number}
use Rattle.definitions.specs.Sheet.{give, and_then, times}
use Rattle.laws.specs.SheetReading.SheetLaws.{keeps-number, keeps-times, ends-inside, times-failed, then_found, then-failed}
use Rattle.sheet.specs.Numbers.{up_to, items_at, Told}
use Rattle.std.specs.Prelude.{Result, Ok, Err}
use Rattle.refusals.specs.declared.Refusal.{Refusal}
use Rattle.sheet.proofs.Judging.{told, told-numbers}
use Rattle.result_reader.proofs.Flat.{times-add}

-- ---- what stands behind a number

pub item-inside : (bytes : List ℕ) (at : ℕ) {value next : ℕ} → at ≤ length bytes → number at (drop at bytes) ≡ found value next (drop next bytes) → next ≤ length bytes
item-inside bytes at h e = ends-inside keeps-number bytes at h e

-- ---- a few numbers

module _ (at : ℕ) (bytes : List ℕ) where
  pub one_found : {a next : ℕ} {rest : List ℕ} → number at bytes ≡ found a next rest → times 1 number at bytes ≡ found (a ∷ []) next rest
  unfolding times
  one_found h = rw h

  pub one_fails : {refusal place : ℕ} → number at bytes ≡ failed refusal place → times 1 number at bytes ≡ failed refusal place
  one_fails h = times-failed number 0 at bytes h

  pub first_fails : (n : ℕ) {refusal place : ℕ} → number at bytes ≡ failed refusal place → times (1 + n) number at bytes ≡ failed refusal place
  first_fails n h =
      let e : 1 + n ≡ suc n = omega arith in
      ap (λ m. times m number at bytes) e ∙ times-failed number n at bytes h

  -- m numbers and then n more
  module _ (m n : ℕ) where
    pub both_found : {l k r rest : List ℕ} {o next : ℕ} → times m number at bytes ≡ found l o r → times n number o r ≡ found k next rest → times (m + n) number at bytes ≡ found (l ++ k) next rest
    both_found {l} g h = times-add number m n at bytes ∙ then_found (λ l o r. and_then (times n number o r) (λ k. give (l ++ k))) g ∙ then_found (λ k. give (l ++ k)) h

    pub both-fails : {l r : List ℕ} {o refusal place : ℕ} → times m number at bytes ≡ found l o r → times n number o r ≡ failed refusal place → times (m + n) number at bytes ≡ failed refusal place
    both-fails {l} g h = times-add number m n at bytes ∙ then_found (λ l o r. and_then (times n number o r) (λ k. give (l ++ k))) g ∙ then-failed (λ k. give (l ++ k)) h

    pub former_fails : {refusal place : ℕ} → times m number at bytes ≡ failed refusal place → times (m + n) number at bytes ≡ failed refusal place
    former_fails g = times-add number m n at bytes ∙ then-failed (λ l o r. and_then (times n number o r) (λ k. give (l ++ k))) g

pub times-inside : (n : ℕ) (bytes : List ℕ) (at : ℕ) {l : List ℕ} {next : ℕ} → at ≤ length bytes → times n number at (drop at bytes) ≡ found l next (drop next bytes) → next ≤ length bytes
times-inside n bytes at h e = ends-inside (keeps-times number keeps-number n) bytes at h e

-- ---- the first i of n numbers, while they are read into an array

pub record Reading (n at : ℕ) (bytes values : List ℕ) (next i : ℕ) : Type 0 where
  pub few : i ≤ n
  pub long : length values ≡ n
  pub inside : next ≤ length bytes
  pub read : times i number at (drop at bytes) ≡ found (take i values) next (drop next bytes)

pub reading_starts : (n at : ℕ) (bytes values : List ℕ) → length values ≡ n → at ≤ length bytes → Reading n at bytes values at 0
unfolding times
reading_starts n at bytes values l h = record { few = omega arith; long = l; inside = h; read = refl }

module _ {n at : ℕ} {bytes values : List ℕ} {next i : ℕ} (R : Reading n at bytes values next i) (h : i < n) where
  pub reading_goes_on : {value behind : ℕ} → number next (drop next bytes) ≡ found value behind (drop behind bytes) → Reading n at bytes (set values i value) behind (i + 1)
  reading_goes_on {value} {behind} e =
      let within : i < length values = omega (arith, R.long) in
      let one = one_found next (drop next bytes) e in
      let both = both_found at (drop at bytes) i 1 R.read one in
      let here = set-take values i value within in
      record {
        few = omega arith;
        long = length-set values i value ∙ R.long;
        inside = item-inside bytes next R.inside e;
        read = both ∙ ap (λ l. found l behind (drop behind bytes)) here;
      }
    where
      set-take : (l : List ℕ) (i v : ℕ) → i < length l → take i l ++ (v ∷ []) ≡ take (i + 1) (set l i v)
      set-take l i v k = rw (add-one i) (sym (take-suc-set l i v k))

  pub reading_fails : {refusal place : ℕ} → number next (drop next bytes) ≡ failed refusal place → times n number at (drop at bytes) ≡ failed refusal place
  reading_fails {refusal} {place} e =
      let rest : i + (1 + (n - (i + 1))) ≡ n = omega arith in
      sym (ap (λ k. times k number at (drop at bytes)) rest)
      ∙ both-fails at (drop at bytes) i (1 + (n - (i + 1))) R.read (first_fails next (drop next bytes) (n - (i + 1)) e)

-- ---- as many twice

module _ (bytes : List ℕ) (at count : ℕ) where
  double : count * 2 ≡ count + count
  double = omega arith

  pub twice-stops : (refusal : Refusal) → Told bytes (items_at (up_to 0xffff_ffff_ffff_ffff) bytes at count) (Err refusal) → Told bytes (items_at number bytes at (count * 2)) (Err refusal)
  unfolding items_at
  twice-stops refusal t = ap (λ n. times n number at (drop at bytes)) double ∙ former_fails at (drop at bytes) count count (told-numbers bytes at count (Err refusal) t)

  module _ {middle : ℕ} (t : Told bytes (items_at (up_to 0xffff_ffff_ffff_ffff) bytes at count) (Ok middle)) where
    pub twice-inside : at ≤ length bytes → middle ≤ length bytes
    unfolding items_at
    twice-inside h = times-inside count bytes at h (told-numbers bytes at count (Ok middle) t)

    pub twice-goes_on : (s : Result ℕ Refusal) → Told bytes (items_at (up_to 0xffff_ffff_ffff_ffff) bytes middle count) s → Told bytes (items_at number bytes at (count * 2)) s
    unfolding items_at
    twice-goes_on (Ok next) u =
        told (ap (λ n. times n number at (drop at bytes)) double ∙ both_found at (drop at bytes) count count (told-numbers bytes at count (Ok middle) t) (told-numbers bytes middle count (Ok next) u))
    twice-goes_on (Err refusal) u =
        ap (λ n. times n number at (drop at bytes)) double ∙ both-fails at (drop at bytes) count count (told-numbers bytes at count (Ok middle) t) (told-numbers bytes middle count (Err refusal) u)
