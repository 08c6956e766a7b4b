-- Which steps a span cuts, cell by cell: they depend on the map's sides and cells alone (`is_cut_onward-grid`), and are those of the candidate positions, joined
-- (`cut_steps-cells`). Assumes nothing.
use Prim.Native.Nat.{ℕ, ◌+◌, ◌*◌, ◌/◌, ◌<◌}
use mathlib.Core.Path.{◌≡◌, refl, ap, ◌∙◌}
use mathlib.Core.Bool.{Bool, true, false, ◌&&◌, cond}
use mathlib.Core.List.{List, [], ◌∷◌, ◌++◌, map}
use lib.ListN.{length, get_or, length-map}
use lib.Dec.{ltb}
use Rattle.definitions.specs.Limits.{numbers_per_span}
use Rattle.definitions.specs.Scan.{filter, concat_map, gather, run}
use Rattle.definitions.specs.Grid.{Map, Position, Segment, canonical, segment_at, map_of, no_segment, span_count, span_of, index, edge, toward, directions, walkable, is_step, neighbors, onward}
use Rattle.definitions.specs.Spans.{cuts, candidate_positions, cut_steps}
use Rattle.definitions.specs.Partition.{cut_all_lem}
use Rattle.laws.specs.ListLaws.Lists.{length_run, get_d_tab}
use Rattle.grid_steps.specs.Walk.{grid_of}
use Rattle.cut_steps.specs.Contract.{SpanMap}
use Rattle.cut_steps.specs.CutSteps.{is_cut_onward, cut_from, cut_span, cut_toward}
use Rattle.cut_steps.specs.Prefixes.{gather_ext}

-- a map's own grid
same_grid : (M : Map) (g : Segment) (p d : Position) → is_cut_onward M g p d ≡ is_cut_onward (grid_of M.width M.height M.cells) g p d
unfolding is_cut_onward is_step walkable
same_grid M g p d = refl

pub is_cut_onward-grid : {w h : ℕ} {bytes list : List ℕ} {M : Map} → SpanMap w h bytes list M → (g : Segment) (p d : Position) → is_cut_onward M g p d ≡ is_cut_onward (grid_of w h bytes) g p d
is_cut_onward-grid {M = M} S g p d = same_grid M g p d ∙ (λ i. is_cut_onward (grid_of (S.width i) (S.height i) (S.cells i)) g p d)

pub cut_from-grid : {w h : ℕ} {bytes list : List ℕ} {M : Map} → SpanMap w h bytes list M → (g : Segment) (p : Position) → cut_from M g p ≡ cut_from (grid_of w h bytes) g p
unfolding cut_from
cut_from-grid {w} {h} {bytes} {M = M} S g p =
    λ i. map (λ d. record { lo = p.y * S.width i + p.x; hi = (toward p d).y * S.width i + (toward p d).x }) (filter (λ d. is_cut_onward-grid S g p d i) directions)

-- three filters, the later two behind a map, are one
three-filters :
    {A B C : Type 0} (t : A → B) (e : B → C) (first : A → Bool) (second third : B → Bool) (l : List A)
    → map e (filter third (filter second (map t (filter first l)))) ≡ map (λ a. e (t a)) (filter (λ a. first a && second (t a) && third (t a)) l)
unfolding filter
three-filters t e first second third [] = refl
three-filters {A} {B} {C} t e first second third (a ∷ l) = go (first a) (second (t a)) refl (third (t a)) refl (three-filters t e first second third l)
  where
    left : List B
    left = map t (filter first l)

    right : List A
    right = filter (λ a. first a && second (t a) && third (t a)) l

    go :
        (x y : Bool) → second (t a) ≡ y → (z : Bool) → third (t a) ≡ z → map e (filter third (filter second left)) ≡ map (λ a. e (t a)) right
        → map e (filter third (filter second (map t (cond x (a ∷ filter first l) (filter first l))))) ≡ map (λ a. e (t a)) (cond (x && y && z) (a ∷ right) right)
    go false y q z r ih = ih
    go true false q z r ih = rw q ih
    go true true q false r ih = rw (q, r) ih
    go true true q true r ih = rw (q, r) (ap {B = List C} (λ m. e (t a) ∷ m) ih)

pub cut_from_is : (M : Map) (g : Segment) (p : Position) → map (edge M p) (filter (cuts g p) (onward M p)) ≡ cut_from M g p
unfolding cut_from is_cut_onward onward neighbors
cut_from_is M g p = three-filters (toward p) (edge M p) (is_step M p) (λ q. ltb (index M p) (index M q)) (cuts g p) directions

-- a map of a filtered list, element by element
filtered_joined : {A B : Type 0} (f : A → Bool) (e : A → B) (l : List A) → map e (filter f l) ≡ concat_map (λ a. cond (f a) (e a ∷ []) []) l
unfolding filter concat_map
filtered_joined f e [] = refl
filtered_joined {A} {B} f e (a ∷ l) = go (f a) (filtered_joined f e l)
  where
    go : (t : Bool) → map e (filter f l) ≡ concat_map (λ a. cond (f a) (e a ∷ []) []) l → map e (cond t (a ∷ filter f l) (filter f l)) ≡ cond t (e a ∷ []) [] ++ concat_map (λ a. cond (f a) (e a ∷ []) []) l
    go true ih = ap {B = List B} (λ r. e a ∷ r) ih
    go false ih = ih

pub cut_from-directions : (M : Map) (g : Segment) (p : Position) → cut_from M g p ≡ concat_map (cut_toward M g p) directions
unfolding cut_from cut_toward
cut_from-directions M g p = filtered_joined (is_cut_onward M g p) (λ d. edge M p (toward p d)) directions

pub cut_steps-cells : (M : Map) (s : ℕ) → cut_steps M s ≡ concat_map (cut_from M (canonical (span_of M s))) (candidate_positions M.width M.height (canonical (span_of M s)))
unfolding cut_steps
cut_steps-cells M s = λ i. concat_map (λ p. cut_from_is M (canonical (span_of M s)) p i) (candidate_positions M.width M.height (canonical (span_of M s)))

-- ---- of the spans as lent

module _ {w h : ℕ} {bytes list : List ℕ} {M : Map} (S : SpanMap w h bytes list M) where
  pub span_count_lem : span_count M ≡ length list / numbers_per_span
  unfolding span_count
  span_count_lem = ap length S.spans ∙ length-map (run 0 (length list / numbers_per_span)) (λ i. segment_at list (numbers_per_span * i)) ∙ length_run 0 (length list / numbers_per_span)

  pub span_at_lem : (i : ℕ) → i < length list / numbers_per_span → span_of M i ≡ segment_at list (numbers_per_span * i)
  unfolding span_of
  span_at_lem i l = ap (λ s. get_or s i no_segment) S.spans ∙ get_d_tab (λ i. segment_at list (numbers_per_span * i)) no_segment (length list / numbers_per_span) i l

  pub cut_span-grid : (g : Segment) → cut_span M g ≡ cut_span (grid_of w h bytes) g
  cut_span-grid g = λ i. concat_map (λ p. cut_from-grid S g p i) (candidate_positions (S.width i) (S.height i) g)

  pub cut_steps-span : (i : ℕ) → i < length list / numbers_per_span → cut_steps M i ≡ cut_span (grid_of w h bytes) (canonical (segment_at list (numbers_per_span * i)))
  cut_steps-span i l = cut_steps-cells M i ∙ cut_span-grid (canonical (span_of M i)) ∙ ap (λ s. cut_span (grid_of w h bytes) (canonical s)) (span_at_lem i l)

  -- the steps that some span cuts
  pub cut_all-spans : cut_all_lem M ≡ gather (length list / numbers_per_span) (λ i. cut_span (grid_of w h bytes) (canonical (segment_at list (numbers_per_span * i))))
  unfolding cut_all_lem
  cut_all-spans = ap (λ n. gather n (cut_steps M)) span_count_lem ∙ gather_ext (length list / numbers_per_span) (cut_steps M) _ cut_steps-span

-- the map that a call is lent is such a map
pub span-map : (w h : ℕ) (bytes list boundaries anchors : List ℕ) → SpanMap w h bytes list (map_of w h bytes list boundaries anchors)
unfolding map_of
span-map w h bytes list boundaries anchors = record { width = refl; height = refl; cells = refl; spans = refl }
