-- One row more of a grid: once it is cut into stretches the names of the rows before it are as they were, and steps to the row above join what they had.
-- Assumes nothing.
use Prim.Native.Nat.{ℕ, ◌+◌, ◌*◌, ◌-◌, ◌≤◌, ◌<◌}
use native.Mathlib.Omega.{arith}
use native.Mathlib.Nat.{suc-mul}
use mathlib.Core.Path.{◌≡◌, refl, sym, ap, ◌∙◌, subst}
use mathlib.Core.Bool.{Bool, true, false}
use mathlib.Core.List.{List}
use lib.ListN.{get_or}
use lib.Dec.{eqb, ltb}
use borrow.Author.Count.{below_more}
use borrow.Author.Tests.{eqb-true, eqb-false, ltb-true, ltb-false}
use Rattle.laws.specs.ListLaws.Beyond.{Beyond, beyond-then}
use Rattle.parents.specs.Forest.{Forest}
use Rattle.row_runs.specs.Stretch.{Clear}
use Rattle.row_runs.specs.Names.{Fresh, Tiles, none, more, EastLevel, RowScanned}
use Rattle.row_runs.specs.South.{SouthLevel, Kept}
use Rattle.row_runs.specs.Corners.{CornersLevel}
use Rattle.row_runs.specs.Cells.{Level, PairAsked, PairJoined, Done, RowAsked, RowDone}
use Rattle.row_runs.proofs.RowNames.{tiles-le}
use Rattle.row_runs.proofs.CornerNames.{corner-coarser}
use Rattle.row_runs.proofs.PairNames.{Pairs}
use Rattle.row_runs.proofs.RowPlaces.{row_in, row_next, beyond_more, beyond_at_lem, forest-fewer}

-- ---- a row's stretches are found

-- tiles of a row are of the queue's entries in that row
tiles_same : {cells masks q q' : List ℕ} {end from to : ℕ} → ((c : ℕ) → c < to → get_or q' c 0 ≡ get_or q c 0) → Tiles cells masks end q from to → Tiles cells masks end q' from to
tiles_same same none = none
tiles_same same (more {from} S e t) = more S (same from (omega (arith, S.more, tiles-le t)) ∙ e) (tiles_same same t)

-- names after a row is cut into stretches: no step to the row above is done
pub record Scanned (w n y : ℕ) (cells masks was waited p q : List ℕ) : Type 0 where
  pub name : ℕ → ℕ
  pub forest : Forest n name p
  pub fresh : Fresh n (y * w + w) p
  pub joins : Level w y cells masks name
  pub east : EastLevel cells masks (y * w) (y * w + w) name
  pub sound : (g : ℕ → Bool) → Level w y cells masks g → EastLevel cells masks (y * w) (y * w + w) g → Kept n name g
  pub tiles : (x : ℕ) → x < y + 1 → Tiles cells masks (x * w + w) q (x * w) (x * w + w)
  pub parents : Beyond n was p
  pub queue : Beyond n waited q

-- what `scan_row` promises
abbrev Scans : List ℕ → List ℕ → ℕ → ℕ → List ℕ → List ℕ → List ℕ → List ℕ → Type 0
Scans cells masks from end was waited p q =
    (n : ℕ) (name : ℕ → ℕ) → Forest n name was → Fresh n from was → end ≤ n → RowScanned cells masks n name from end was waited p q

module _ {w n y : ℕ} {marked : Bool} {cells masks was waited p q : List ℕ} (ends : y * w + w ≤ n) (D : Done w n y marked cells masks was waited) (S : Scans cells masks (y * w) (y * w + w) was waited p q) where
  R : RowScanned cells masks n D.name (y * w) (y * w + w) was waited p q
  R = S n D.name D.forest D.fresh ends

  -- names of cells of earlier rows are as they were
  as_it_was : {c d : ℕ} → c < y * w → d < y * w → D.name c ≡ D.name d → R.after c ≡ R.after d
  unfolding R
  as_it_was {c} {d} i k e = R.before c i ∙ e ∙ sym (R.before d k)

  earlier-rows : Level w y cells masks R.after
  earlier-rows =
      record {
        east = λ x h c i k a b s. let below = row_in w h in as_it_was (omega arith) (omega arith) (D.joins.east x h c i k a b s);
        south = λ x h c i k a b s.
            let below = row_in w h in
            let next = suc-mul x w in
            as_it_was (omega arith) (omega arith) (D.joins.south x h c i k a b s);
        corners = λ x h c i k.
            let below = row_in w h in
            let next = suc-mul x w in
            record {
              south_east_lem = λ a s. as_it_was (omega arith) (omega arith) ((D.joins.corners x h c i k).south_east_lem a s);
              south_west_lem = λ a s. as_it_was (omega arith) (omega arith) ((D.joins.corners x h c i k).south_west_lem a s);
            };
      }

  kept : (g : ℕ → Bool) → Level w y cells masks g → EastLevel cells masks (y * w) (y * w + w) g → Kept n R.after g
  unfolding R
  kept g level east c h = go (ltb c (y * w)) refl (ltb c (y * w + w)) refl
    where
      go : (a : Bool) → ltb c (y * w) ≡ a → (b : Bool) → ltb c (y * w + w) ≡ b → g (R.after c) ≡ g c
      go true a b _ = ap g (R.before c (ltb-true c (y * w) a)) ∙ D.sound g level c h
      go false a true b = R.named.sound g east c (ltb-false c (y * w) a) (ltb-true c (y * w + w) b)
      go false a false b = ap g ((R.left.forest.parent c h).top (R.fresh c (ltb-false c (y * w + w) b) h))

  tiled : (x : ℕ) → x < y + 1 → Tiles cells masks (x * w + w) q (x * w) (x * w + w)
  unfolding R
  tiled x h = go (eqb x y) refl
    where
      go : (b : Bool) → eqb x y ≡ b → Tiles cells masks (x * w + w) q (x * w) (x * w + w)
      go true e = subst (λ r. Tiles cells masks (r * w + w) q (r * w) (r * w + w)) (sym (eqb-true x y e)) R.tiles
      go false e =
          let less : x < y = omega (arith, eqb-false x y e) in
          let below = row_in w less in
          tiles_same (λ c i. R.earlier c (omega arith)) (D.tiles x less)

  pub scanned : Scanned w n y cells masks was waited p q
  unfolding R
  scanned =
      record {
        name = R.after;
        forest = R.left.forest;
        fresh = R.fresh;
        joins = earlier-rows;
        east = R.named.joins;
        sound = kept;
        tiles = tiled;
        parents = R.left.beyond;
        queue = beyond_more ends (record { long = R.queue_long_lem; rest = R.beyond });
      }

-- ---- the first row, and every other

-- the levels of the rows before, of a row, and of the steps between it and the row above
module _ {X : Type 0} {w : ℕ} {cells masks : List ℕ} {g : ℕ → X} where
  pub fewer : {y z : ℕ} → y ≤ z → Level w z cells masks g → Level w y cells masks g
  fewer h level =
      record {
        east = λ x i. level.east x (omega arith);
        south = λ x i. level.south x (omega arith);
        corners = λ x i. level.corners x (omega arith);
      }

module _ {w n y : ℕ} {marked : Bool} {cells masks was waited p q : List ℕ} (S : Scanned w n y cells masks was waited p q) (C : marked ≡ false → Clear masks (y * w) (y * w + w)) where
  next_row : (y + 1) * w ≡ y * w + w
  next_row = row_next w y (y + 1) refl

  clear_next : marked ≡ false → (x : ℕ) → x + 1 ≡ y + 1 → Clear masks (x * w) (x * w + w)
  clear_next m x e = let is : y ≡ x = omega arith in subst (λ r. Clear masks (r * w) (r * w + w)) is (C m)

  pub first-row : y ≡ 0 → RowDone w n y marked cells masks was waited p q
  first-row z =
      record {
        done =
            record {
              name = S.name;
              forest = S.forest;
              fresh = λ c i k. S.fresh c (omega (arith, next_row)) k;
              joins =
                  record {
                    east = below_more (λ x. EastLevel cells masks (x * w) (x * w + w) S.name) y S.joins.east S.east;
                    south = λ x h. absurd (omega arith);
                    corners = λ x h. absurd (omega arith);
                  };
              sound = λ g level. S.sound g (fewer (omega arith) level) (level.east y (omega arith));
              tiles = S.tiles;
              clear = clear_next;
            };
        parents = S.parents;
        queue = S.queue;
      }

  -- row x stands above
  module _ (x : ℕ) (e : x + 1 ≡ y) (ends : y * w + w ≤ n) {p' : List ℕ} (J : Pairs w cells masks (x * w) p p') where
    row : y * w ≡ x * w + w
    row = row_next w x y e

    -- in the first m cells, which have both rows
    in_first : (m : ℕ) → x * w + w + w ≤ m → Forest m S.name p → PairJoined w cells masks m S.name (x * w) p p'
    in_first m h F = J m S.name F h (S.joins.east x (omega arith)) (λ c i k. S.east c (omega (arith, row)) (omega (arith, row)))

    P : PairJoined w cells masks n S.name (x * w) p p'
    P = in_first n (omega (arith, row)) S.forest

    -- as nothing is promised of more cells than these two rows have, nothing behind them is written
    fresh : Fresh n ((y + 1) * w) p'
    fresh c i k =
        let past : x * w + w + w ≤ c = omega (arith, row, next_row) in
        let F : Forest (x * w + w + w) S.name p = forest-fewer (omega (arith, row)) S.forest in
        beyond_at_lem (in_first (x * w + w + w) (omega arith) F).left.beyond c past ∙ S.fresh c (omega (arith, row)) k

    all-rows : Level w (y + 1) cells masks P.after
    unfolding P
    all-rows =
        record {
          east =
              below_more (λ z. EastLevel cells masks (z * w) (z * w + w) P.after) y (λ z h c i k a b s. P.coarser (c + 1) c (S.joins.east z h c i k a b s))
              (λ c i k a b s. P.coarser (c + 1) c (S.east c i k a b s));
          south = λ z h.
              below_more (λ z. SouthLevel w cells masks (z * w) (z * w + w) P.after) x
              (λ z h c i k a b s. P.coarser (c + w) c (S.joins.south z (omega arith) c i k a b s)) P.south z (omega arith);
          corners = λ z h.
              below_more (λ z. CornersLevel w cells masks (z * w) (z * w + w) P.after) x
              (λ z h c i k. corner-coarser P.coarser (S.joins.corners z (omega arith) c i k)) P.corners z (omega arith);
        }

    pub other_row : RowDone w n y marked cells masks was waited p' q
    unfolding P
    other_row =
        record {
          done =
              record {
                name = P.after;
                forest = P.left.forest;
                fresh = fresh;
                joins = all-rows;
                sound = λ g level.
                    P.sound g (level.south x (omega arith)) (level.corners x (omega arith))
                    (S.sound g (fewer (omega arith) level) (level.east y (omega arith)));
                tiles = S.tiles;
                clear = clear_next;
              };
          parents = beyond-then S.parents P.left.beyond;
          queue = S.queue;
        }

-- ---- what the calls of a row ask

module _ {w y : ℕ} {above : Bool} {cells masks was waited : List ℕ} (A : RowAsked w cells masks was waited y above) where
  module _ {p q : List ℕ} (S : Scanned w A.n y cells masks was waited p q) (x : ℕ) (e : x + 1 ≡ y) where
    pub pair-asked : PairAsked w cells masks p q (x * w) above
    pair-asked =
        let row = row_next w x y e in
        record {
          rows =
              record {
                cells_long = omega (arith, row, A.cells_long);
                masks_long = omega (arith, row, A.masks_long);
                queue_long_lem = omega (arith, row, A.queue_long_lem, S.queue.long);
                upper = S.tiles x (omega arith);
                lower = subst (λ r. Tiles cells masks (r + w) q r (r + w)) row (S.tiles y (omega arith));
                n = A.n;
                name = S.name;
                forest = S.forest;
                ends = omega (arith, row, A.ends);
                east_upper = S.joins.east x (omega arith);
                east_lower = λ c i k. S.east c (omega (arith, row)) (omega (arith, row));
              };
          clear = λ m. A.done.clear m x e;
        }

-- ---- the code's place of the row above

-- what `join_row` promises
abbrev pub RowDoes : ℕ → ℕ → Bool → Bool → List ℕ → List ℕ → List ℕ → List ℕ → List ℕ → List ℕ → Type 0
RowDoes w y above marked cells masks was waited p q =
    (n : ℕ) → y * w + w ≤ n → Done w n y above cells masks was waited → RowDone w n y marked cells masks was waited p q

module _ (w : ℕ) {y : ℕ} (some : y ≡ 0 → ⊥) where
  above_is : (y - 1) * w ≡ y * w - w
  above_is = omega (arith, row_next w (y - 1) y (omega (arith, some)))

module _ {w y : ℕ} {above marked : Bool} {cells masks was waited p q : List ℕ} (clear : marked ≡ false → Clear masks (y * w) (y * w + w)) (S : Scans cells masks (y * w) (y * w + w) was waited p q) where
  pub first_done : y ≡ 0 → RowDoes w y above marked cells masks was waited p q
  first_done z n ends D = first-row (scanned ends D S) clear z

  pub other-asked : (y ≡ 0 → ⊥) → RowAsked w cells masks was waited y above → PairAsked w cells masks p q (y * w - w) above
  other-asked some A =
      subst (λ up. PairAsked w cells masks p q up above) (above_is w some) (pair-asked A (scanned A.ends A.done S) (y - 1) (omega (arith, some)))

  pub other-done : {p' : List ℕ} → (y ≡ 0 → ⊥) → Pairs w cells masks (y * w - w) p p' → RowDoes w y above marked cells masks was waited p' q
  other-done {p'} some J n ends D =
      other_row (scanned ends D S) clear (y - 1) (omega (arith, some)) ends (subst (λ up. Pairs w cells masks up p p') (sym (above_is w some)) J)
