-- Two maps that are alike on an island restrict to one map: sides, cells, boundaries and anchors agree by the premises, and spans are the endpoints of
-- the boundaries. Assumes `Alike`.
use Prim.Native.Nat.{ℕ, ◌*◌, ◌<◌}
use Rattle.std.specs.Prelude.{◌≡◌, refl, Bool, true, false, ◌&&◌}
use Rattle.std.proofs.Math.Path.{ap, ap₂, sym}
use Rattle.std.proofs.Common.{◌∙◌}
use Rattle.std.proofs.Math.Bool.{cond}
use mathlib.Core.List.{map}
use Rattle.definitions.specs.Scan.{run, collect, only_if}
use Rattle.definitions.specs.Grid.{Map, cell_count, cell_at, span_count, span_of, boundary_of}
use Rattle.laws.specs.ListLaws.Scans.{picked, picked-map, tab_ext, collect_ext}
use Rattle.island.specs.Premises.{cuts_island, has_anchor, cutting, Island, Alike}
use Rattle.island.specs.Restrict.{restrict}

spans-are : (M : Map) (isl : ℕ → Bool) → Island M isl → picked (cuts_island M isl) (span_of M) (span_count M) ≡ map (λ b. b.endpoints) (cutting M isl)
unfolding cutting
spans-are M isl I = picked-map (cuts_island M isl) (span_of M) (λ b. b.endpoints) (boundary_of M) (span_count M) I.same_endpoints

module _ (M M' : Map) (isl : ℕ → Bool) (A : Alike M M' isl) where
  size : cell_count M ≡ cell_count M'
  unfolding cell_count
  size = ap₂ ◌*◌ A.height A.width

  cell : (c : ℕ) → c < cell_count M → cond (isl c) (cell_at M c) 0 ≡ cond (isl c) (cell_at M' c) 0
  cell c h = go (isl c) refl
    where
      go : (b : Bool) → isl c ≡ b → cond b (cell_at M c) 0 ≡ cond b (cell_at M' c) 0
      go true i = A.cells c h i
      go false i = refl

  anchor : (c : ℕ) → c < cell_count M → (isl c && has_anchor M c) ≡ (isl c && has_anchor M' c)
  anchor c h = go (isl c) refl
    where
      go : (b : Bool) → isl c ≡ b → (b && has_anchor M c) ≡ (b && has_anchor M' c)
      go true i = A.anchors c h i
      go false i = refl

  pub restrict_same : restrict M isl ≡ restrict M' isl
  unfolding cutting
  restrict_same =
      λ i.
      record {
        width = A.width i;
        height = A.height i;
        cells = (tab_ext (λ c. cond (isl c) (cell_at M c) 0) (λ c. cond (isl c) (cell_at M' c) 0) (cell_count M) cell ∙ ap (λ n. map (λ c. cond (isl c) (cell_at M' c) 0) (run 0 n)) size) i;
        spans = (spans-are M isl A.island ∙ ap (map (λ b. b.endpoints)) A.counterparts ∙ sym (spans-are M' isl A.island')) i;
        boundaries = A.counterparts i;
        anchors =
            (collect_ext (cell_count M) _ (λ c. only_if (isl c && has_anchor M' c) c) (λ c h. ap (λ b. only_if b c) (anchor c h))
            ∙ ap (λ n. collect n (λ c. only_if (isl c && has_anchor M' c) c)) size)
            i;
      }
