-- Cells that were judged, walked in the bytes (`Walking`): those from here on are what is left of them all. Assumes nothing.
use Prim.Native.Nat.{ℕ, suc, ◌+◌, ◌-◌, ◌≤◌, ◌<◌}
use native.Mathlib.Omega.{arith}
use native.Mathlib.Nat.{add-zero}
use mathlib.Core.Path.{◌≡◌, refl, sym, ap, ◌∙◌}
use mathlib.Core.Bool.{true, false}
use mathlib.Core.List.{List, ◌∷◌}
use lib.ListN.{drop, get_or}
use lib.Seq.{drop-drop, get_or-drop}
use Rattle.definitions.specs.SheetNumber.{Read, found, failed}
use Rattle.definitions.specs.Sheet.{and_then, give, times, cell}
use Rattle.laws.specs.SheetReading.SheetLaws.{ends-inside, times-found, times-failed}
use Rattle.refusals.specs.declared.Refusal.{Refusal}
use Rattle.std.specs.Prelude.{Result, Ok, Err, IsOk}
use Rattle.sheet.specs.declared.Found.{Found}
use Rattle.sheet.specs.Numbers.{read_of, items_at, values_in, is_found, values_at, Held}
use Rattle.sheet.proofs.Items.{keeps-cell}

pub record Walking (bytes : List ℕ) (at count next i : ℕ) : Type 0 where
  pub few : i ≤ count
  pub held : Held cell bytes next (count - i)
  pub left : drop i (values_at cell bytes at count) ≡ values_at cell bytes next (count - i)

pub walking_starts : {bytes : List ℕ} {at count : ℕ} → Held cell bytes at count → Walking bytes at count at 0
walking_starts {bytes} {at} {count} H =
    let e : count - 0 ≡ count = omega arith in
    record { few = omega arith; held = rw e H; left = ap (values_at cell bytes at) (sym e) }

module _ {bytes : List ℕ} {at count next i : ℕ} (W : Walking bytes at count next i) (h : i < count) where
  one_more : suc (count - (i + 1)) ≡ count - i
  one_more = omega arith

  -- what was judged is not refused
  walking_never-stops : {refusal place : ℕ} → cell next (drop next bytes) ≡ failed refusal place → ⊥
  unfolding items_at
  walking_never-stops e =
      let q : is_found (times (count - i) cell next (drop next bytes)) ≡ false =
      ap (λ n. is_found (times n cell next (drop next bytes))) (sym one_more) ∙ ap is_found (times-failed cell (count - (i + 1)) next (drop next bytes) e) in
      let z : ◌≡◌ {A = ℕ} 0 1 = cc W.held.all in
      omega arith

  pub walking_unwraps : (r : Result (Found ℕ) Refusal) → cell next (drop next bytes) ≡ read_of bytes r → IsOk r
  walking_unwraps (Ok read) e = refl
  walking_unwraps (Err refusal) e = absurd (walking_never-stops e)

  module _ {value behind : ℕ} (e : cell next (drop next bytes) ≡ found value behind (drop behind bytes)) where
    begun : times (count - i) cell next (drop next bytes) ≡ and_then (times (count - (i + 1)) cell behind (drop behind bytes)) (λ values. give (value ∷ values))
    begun = ap (λ n. times n cell next (drop next bytes)) (sym one_more) ∙ times-found cell (count - (i + 1)) next (drop next bytes) e

    record Next : Type 0 where
      pub there : is_found (times (count - (i + 1)) cell behind (drop behind bytes)) ≡ true
      pub values : values_in (times (count - i) cell next (drop next bytes)) ≡ value ∷ values_in (times (count - (i + 1)) cell behind (drop behind bytes))

    next_there : Next
    unfolding items_at
    next_there = go (times (count - (i + 1)) cell behind (drop behind bytes)) refl
      where
        go : (r : Read (List ℕ)) → times (count - (i + 1)) cell behind (drop behind bytes) ≡ r → Next
        go (found values last rest) q =
            record {
              there = ap is_found q;
              values = ap values_in (begun ∙ ap (λ r. and_then r (λ values. give (value ∷ values))) q) ∙ ap (λ r. value ∷ values_in r) (sym q);
            }
        go (failed refusal place) q =
            let v : is_found (times (count - i) cell next (drop next bytes)) ≡ false = ap is_found (begun ∙ ap (λ r. and_then r (λ values. give (value ∷ values))) q) in
            absurd (let z : ◌≡◌ {A = ℕ} 0 1 = cc W.held.all in omega arith)

    ahead : drop i (values_at cell bytes at count) ≡ value ∷ values_at cell bytes behind (count - (i + 1))
    unfolding items_at
    ahead = W.left ∙ next_there.values

    -- it is the cell at i
    pub walking_cell : get_or (values_at cell bytes at count) i 0 ≡ value
    walking_cell =
        let all = values_at cell bytes at count in
        ap (λ n. get_or all n 0) (sym (add-zero i)) ∙ sym (get_or-drop i all 0 0) ∙ ap (λ l. get_or l 0 0) ahead

    pub walking_goes_on : Walking bytes at count behind (i + 1)
    unfolding items_at
    walking_goes_on =
        record {
          few = omega arith;
          held = record { inside = ends-inside keeps-cell bytes next W.held.inside e; all = next_there.there };
          left = sym (drop-drop 1 i (values_at cell bytes at count)) ∙ ap (drop 1) ahead;
        }
