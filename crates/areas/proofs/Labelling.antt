-- What labelling asks holds of the masks as the spans marked them in cleared ones, and what it promises of every map whose cut steps they hold it promises of every
-- map with these cells and spans. Assumes nothing.
use Prim.Native.Nat.{ℕ, ◌*◌, ◌≤◌, ◌<◌}
use native.Mathlib.Omega.{arith}
use mathlib.Core.Path.{◌≡◌, refl, ap, ◌∙◌}
use mathlib.Core.List.{List, [], ◌++◌}
use lib.ListN.{length, get_or, drop, replicate, length-replicate, get_or-replicate, get_or-append}
use lib.Seq.{drop_at}
use Rattle.definitions.specs.Grid.{Map, map_of}
use Rattle.definitions.specs.Lists.{zeroed}
use Rattle.definitions.specs.Partition.{cut_all_lem}
use Rattle.cut_steps.specs.Contract.{SpanMap, Checked}
use Rattle.cut_steps.specs.Marking.{SpansMarked}
use Rattle.grid_steps.specs.Contract.{CutMap}
use Rattle.grid_steps.proofs.OnwardMasks.{onward-marks}
use Rattle.row_runs.specs.Contract.{Room, OnwardCut, Labelled}
use Rattle.areas.specs.Labelled.{LabelledAs}

-- ---- a cleared list

pub zeroed_at : (n : ℕ) (l : List ℕ) (c : ℕ) → c < n → get_or (zeroed n l) c 0 ≡ 0
zeroed_at n l c h = get_or-append (replicate n 0) (drop n l) 0 c (let e : length (replicate {A = ℕ} n 0) ≡ n = length-replicate {A = ℕ} n 0 in omega (arith, e)) ∙ get_or-replicate n c 0 0 h

pub zeroed_rest : (n : ℕ) (l : List ℕ) → drop n (zeroed n l) ≡ drop n l
zeroed_rest n l = drop_at (replicate n 0) (drop n l) n (length-replicate {A = ℕ} n 0)

-- clearing what was cleared or written over the same length
pub zeroed-again : (n : ℕ) (l l' : List ℕ) → drop n l' ≡ drop n l → zeroed n l' ≡ zeroed n l
zeroed-again n l l' e = ap (λ r. replicate n 0 ++ r) e

-- masks for the spans to mark
pub cleared : (n : ℕ) (m : List ℕ) {m₁ : List ℕ} → m₁ ≡ zeroed n m → length m₁ ≡ length m → n ≤ length m → (n ≤ length m₁) × ((c : ℕ) → c < n → get_or m₁ c 0 ≡ 0)
cleared n m e long h = (omega (arith, long), λ c k. ap (λ z. get_or z c 0) e ∙ zeroed_at n m c k)

-- ---- what the labelling is lent, and what it leaves

module _ (w h : ℕ) (cells spans : List ℕ) where
  -- the map of these cells and spans alone
  pub spans-alone : SpanMap w h cells spans (map_of w h cells spans [] [])
  unfolding map_of
  spans-alone = record { width = refl; height = refl; cells = refl; spans = refl }

  pub labels-room : Checked w h cells spans → {l m q : List ℕ} → h * w ≤ length l → h * w ≤ length m → h * w ≤ length q → Room w h cells m l q
  labels-room K a b c = record { narrow = K.narrow; short = K.short; cells_long = K.cells_long; masks_long = b; labels_long = a; queue_long_lem = c }

  -- the masks say of each step, at its smaller cell, whether it is cut
  onward : {masks : List ℕ} {M : Map} → CutMap w h cells masks M → OnwardCut w h cells masks M
  onward {masks} {M} C = record { width = C.width; height = C.height; cells = C.cells; marks = onward-marks M masks (cut_all_lem M) C.bits }

  pub labelled : {l m m₁ m' q l' q' : List ℕ} {r : ℕ} → m₁ ≡ zeroed (h * w) m → SpansMarked w h cells spans m₁ m' → ((M : Map) → OnwardCut w h cells m' M → Labelled M l q l' q' r) → LabelledAs w h cells spans l m q l' m' q' r
  labelled {m = m} f S F =
      record {
        maps = λ M K. F M (onward (S.maps M K));
        shown = S.shown;
        rest = S.rest ∙ ap (drop (h * w)) f ∙ zeroed_rest (h * w) m;
      }
