-- What the calls of `label_cells` ask of one another, and what they leave: the labels that `number` gives to the names of all rows are the labels of definitions, and the queue has a chain of stretches, each of one label. Said of every
-- map with the lent sides and cells whose cut steps the masks hold. Assumes nothing.
use Prim.Native.Nat.{ℕ, suc, ◌+◌, ◌-◌, ◌*◌, ◌/◌, ◌≤◌, ◌<◌}
use native.Mathlib.Omega.{arith}
use mathlib.Core.Path.{◌≡◌, refl, sym, ap, ap₂, ◌∙◌, subst}
use mathlib.Core.Bool.{Bool, true, false, ◌&&◌, cond}
use mathlib.Core.List.{List, ◌++◌}
use lib.ListN.{length, get_or, take, drop, take-append-drop}
use lib.Seq.{length-take-le, get_or-take, ext_get_or}
use lib.Arith.{digits_div}
use lib.Dec.{eqb}
use Rattle.definitions.specs.Scan.{count_below}
use Rattle.definitions.specs.Grid.{Map, cell_count}
use Rattle.definitions.specs.Lists.{overwrite}
use Rattle.definitions.specs.Partition.{cut_all_lem, roots, labels, region_count, walkable_at, is_root}
use Rattle.laws.specs.ListLaws.Below.{count_ext}
use Rattle.laws.specs.RegionLaws.Regions.{root, label-walkable, label-blocked, labels_length, root-label}
use Rattle.laws.specs.ListLaws.Beyond.{Beyond, beyond-then}
use Rattle.grid_steps.specs.Masks.{OnwardMarks}
use Rattle.grid_steps.proofs.Onward.{next_row}
use Rattle.parents.specs.Forest.{Left}
use Rattle.parents.specs.ForestLaws.{name-low}
use Rattle.row_runs.specs.Stretch.{Stretch}
use Rattle.row_runs.specs.Cells.{CellsJoined}
use Rattle.row_runs.specs.Numbered.{is_named, Named, NumberAsked, Numbered}
use Rattle.row_runs.specs.Contract.{Room, OnwardCut, Link, Chain, ended, linked, Labelled}
use Rattle.row_runs.proofs.SameRoots.{same_root}
use Rattle.row_runs.proofs.RowPlaces.{row_in}
use Rattle.row_runs.proofs.EveryStretch.{run-alike, all-rows, named-cells}

-- what the three calls leave, of a grid
pub record Finished (w h : ℕ) (cells masks lent waited l q : List ℕ) (r : ℕ) : Type 0 where
  pub was : List ℕ
  pub p : List ℕ
  pub alone : Beyond (h * w) lent was
  pub joined : CellsJoined w h cells masks was waited p q
  pub numbered : Numbered cells (h * w) joined.after p l r

-- ---- what each call asks, and what is left behind the last

module _ {w h : ℕ} {cells masks lent waited : List ℕ} (R : Room w h cells masks lent waited) where
  pub number-asked : {was p q : List ℕ} → CellsJoined w h cells masks was waited p q → NumberAsked cells p q (h * w)
  number-asked J =
      record { cells_long = omega (arith, R.cells_long); queue_long_lem = omega (arith, R.queue_long_lem, J.queue_long_lem); name = J.after; named = named-cells J }

pub finished : {w h : ℕ} {cells masks lent was waited p q l : List ℕ} {r : ℕ} → Left (h * w) (λ c. c) lent was → (J : CellsJoined w h cells masks was waited p q) → ((name : ℕ → ℕ) → Named cells p q (h * w) name → Numbered cells (h * w) name p l r) → Finished w h cells masks lent waited l q r
finished {was = was} {p = p} A J N = record { was = was; p = p; alone = A.beyond; joined = J; numbered = N J.after (named-cells J) }

pub finished-beyond : {w h : ℕ} {cells masks lent waited l q : List ℕ} {r : ℕ} → Finished w h cells masks lent waited l q r → Beyond (h * w) lent l
finished-beyond D = beyond-then D.alone (beyond-then D.joined.left.beyond D.numbered.beyond)

-- ---- of a map

module _ (M : Map) (masks : List ℕ) (marks : OnwardMarks M masks (cut_all_lem M)) {lent waited l q : List ℕ} {r : ℕ} (D : Finished M.width M.height M.cells masks lent waited l q r) where
  abbrev n : ℕ
  n = M.height * M.width

  abbrev name : ℕ → ℕ
  name = D.joined.after

  is_root_lem : (c : ℕ) → c < n → name c ≡ root M c
  unfolding cell_count
  is_root_lem = same_root M masks marks D.joined

  same_names : (c : ℕ) → c < n → is_named M.cells name c ≡ is_root M (roots M) c
  same_names c h = ap (λ x. walkable_at M c && eqb x c) (is_root_lem c h)

  -- ---- labels

  label_at : (c : ℕ) → c < n → get_or l c 0 ≡ get_or (labels M) c 0
  unfolding cell_count
  label_at c h = D.numbered.labels c h ∙ go (walkable_at M c) refl
    where
      go : (b : Bool) → walkable_at M c ≡ b → cond b (suc (count_below (name c) (is_named M.cells name))) 0 ≡ get_or (labels M) c 0
      go true w =
          ap suc (count_ext (name c) (is_named M.cells name) (is_root M (roots M)) (λ j b. same_names j (omega (arith, name-low D.joined.left.forest c h))) ∙ ap (λ x. count_below x (is_root M (roots M))) (is_root_lem c h))
          ∙ sym (label-walkable M c h w)
      go false w = sym (label-blocked M c h w)

  labels-taken : take n l ≡ labels M
  unfolding cell_count
  labels-taken = ext_get_or 0 (take n l) (labels M) (taken ∙ sym (labels_length M)) (λ c h. let i : c < n = omega (arith, taken) in get_or-take n l c 0 i ∙ label_at c i)
    where
      taken : length (take n l) ≡ n
      taken = length-take-le n l (omega (arith, D.joined.left.forest.long, D.numbered.beyond.long))

  labels-whole : l ≡ overwrite (labels M) lent
  unfolding cell_count
  labels-whole = sym (take-append-drop n l) ∙ ap₂ ◌++◌ labels-taken ((finished-beyond D).rest ∙ ap (λ k. drop k lent) (sym (labels_length M)))

  count_is : r ≡ region_count M
  unfolding region_count cell_count
  count_is = D.numbered.count ∙ count_ext n (is_named M.cells name) (is_root M (roots M)) same_names

  -- ---- the chain

  -- a stretch of row y has one label
  one_label : (y c e : ℕ) → y < M.height → y * M.width ≤ c → Stretch M.cells masks (y * M.width + M.width) c e → (d : ℕ) → c ≤ d → d < e → get_or (labels M) d 0 ≡ get_or (labels M) c 0
  unfolding cell_count
  one_label y c e i low S d a b = go (walkable_at M c) refl
    where
      inside : d < n
      inside = omega (arith, S.ends, row_in M.width i)

      first : c < n
      first = omega (arith, inside)

      go : (t : Bool) → walkable_at M c ≡ t → get_or (labels M) d 0 ≡ get_or (labels M) c 0
      go true w =
          (root-label M d c inside first (S.alike d a b ∙ w) w).1
          (sym (is_root_lem d inside) ∙ run-alike S (y * M.width) name low (D.joined.joins.east y i) w d a b ∙ is_root_lem c first)
      go false w = label-blocked M d inside (S.alike d a b ∙ w) ∙ sym (label-blocked M c first w)

  row_of : (y c : ℕ) → y * M.width ≤ c → c < y * M.width + M.width → c / M.width ≡ y
  row_of y c low high =
      let x : ℕ = c - y * M.width in
      let in_x : x < M.width = omega arith in
      ap (λ k. k / M.width) (omega arith) ∙ digits_div y in_x

  link : (y c e : ℕ) → y < M.height → y * M.width ≤ c → Stretch M.cells masks (y * M.width + M.width) c e → get_or q c 0 ≡ e → Link M q c e
  unfolding cell_count
  link y c e i low S is =
      record {
        next = is;
        more = S.more;
        inside = omega (arith, S.ends, row_in M.width i);
        row = omega (arith, S.ends, next_row y M.width {k = c / M.width + 1} (omega (arith, row_of y c low (omega (arith, S.more, S.ends)))));
        alike = one_label y c e i low S;
      }

  chain : Chain M q 0
  unfolding cell_count
  chain = all-rows M.width M.height D.joined.tiles (Chain M q) ended (λ y c e i low S is rest. linked (link y c e i low S is) rest)

  labelled-map : Labelled M lent waited l q r
  unfolding cell_count
  labelled-map = record { labels = labels-whole; count = count_is; chain = chain; beyond = D.joined.beyond }

-- what the calls leave, said of any such map
pub labelled-all : {w h : ℕ} {cells masks lent waited l q : List ℕ} {r : ℕ} → Finished w h cells masks lent waited l q r → (M : Map) → OnwardCut w h cells masks M → Labelled M lent waited l q r
labelled-all {w} {h} {cells} {masks} {lent} {waited} {l} {q} {r} D M C =
    labelled-map M masks C.marks
    (subst (λ x. Finished x M.height M.cells masks lent waited l q r) (sym C.width)
    (subst (λ x. Finished w x M.cells masks lent waited l q r) (sym C.height) (subst (λ x. Finished w h x masks lent waited l q r) (sym C.cells) D)))
