-- Places beyond a span have no cut step (`far-x`, `far-y`), so that a range without them has all cut steps of a column (`near_of`), and the columns without those beyond
-- the span all of the span (`parts-joined`). Assumes nothing.
use Prim.Native.Nat.{ℕ, ◌+◌, ◌-◌, ◌*◌, ◌/◌, ◌≤◌, ◌<◌, min, max}
use native.Mathlib.Omega.{arith}
use mathlib.Core.Path.{◌≡◌, refl, sym, ap, ◌∙◌, subst, subst⁻¹}
use mathlib.Core.Logic.{inl, inr, ⊎_elim}
use mathlib.Core.Bool.{Bool, true, false, cond}
use mathlib.Core.List.{List, [], ◌∷◌, ◌++◌}
use lib.Dec.{leb}
use borrow.Author.Tests.{leb-true, leb-false}
use Rattle.definitions.specs.Scan.{concat_map}
use Rattle.definitions.specs.Grid.{Map, Position, at, Segment, toward}
use Rattle.definitions.specs.Spans.{middle_of, candidate_axis_range, candidate_minor_range}
use Rattle.span_geometry.specs.declared.strips.CandidateRange.{CandidateRange}
use Rattle.span_geometry.specs.declared.strips.Strip.{Strip}
use Rattle.span_geometry.specs.Strips.{Walks, by_columns, strip_by_columns, strip_of, line_of}
use Rattle.span_geometry.specs.Candidates.{cell_of, major_side, minor_side}
use Rattle.laws.specs.NumberLaws.Comparisons.{le_or_lt}
use Rattle.line_crossings.proofs.Extents.{Apart, cut-apart-x, cut-apart-y}
use Rattle.grid_steps.specs.Masks.{bit_of}
use Rattle.cut_steps.specs.CutSteps.{cut_from, cut_span}
use Rattle.cut_steps.specs.Cell.{CutBits, Far}
use Rattle.cut_steps.specs.Prefixes.{up_to, concat_map_lem}
use Rattle.cut_steps.specs.Extents.{Beyond, Covers, Narrows, last_reached, NearAxis}
use Rattle.cut_steps.specs.Columns.{cut_across, cut_column, Near, columns_of, columns-joined}
use Rattle.cut_steps.proofs.Onward.{not-onward, clear_of, zero_bit}
use Rattle.cut_steps.proofs.Marks.{no_cut}
use Rattle.cut_steps.proofs.Trimmed.{narrow}

-- ---- cells beyond a span

-- a place beyond pixels that have both ends, and one beside it
beside : {l h a b m : ℕ} (n : ℕ) → l ≤ a → l ≤ b → a ≤ h → b ≤ h → Beyond l h m → n ≤ m + 1 → m ≤ n + 1 → Apart a b (middle_of m) (middle_of n)
beside n i j k o (inl p) q r = inl (omega arith)
beside n i j k o (inr p) q r = inr (omega arith)

beside-south : (h : ℕ) {l a b m : ℕ} (n : ℕ) → l ≤ a → l ≤ b → a ≤ h + 8 → b ≤ h + 8 → Beyond l h m → n ≤ m + 1 → m ≤ n → Apart a b (middle_of m) (middle_of n)
beside-south h n i j k o (inl p) q r = inl (omega arith)
beside-south h n i j k o (inr p) q r = inr (omega arith)

module _ (s : Segment) (p : Position) {l : ℕ} where
  far-x : {h : ℕ} → l ≤ s.a.x → l ≤ s.b.x → s.a.x ≤ h → s.b.x ≤ h → Beyond l h p.x → Far s p
  far-x i j k o b d dx dy c e f = cut-apart-x s p (toward p d) (beside (p.x + d.x - 1) i j k o b (omega arith) (omega arith))

  -- steps to cells of larger number lead to no row before their own
  far-y : (h : ℕ) → l ≤ s.a.y → l ≤ s.b.y → s.a.y ≤ h + 8 → s.b.y ≤ h + 8 → Beyond l h p.y → Far s p
  far-y h i j k o b d dx dy c e f = cut-apart-y s p (toward p d) (beside-south h (p.y + d.y - 1) i j k o b (omega arith) (omega (arith, c, dx)))

no_cut-far : (M : Map) (s : Segment) (p : Position) → Far s p → cut_from M s p ≡ []
no_cut-far M s p far = no_cut M s p bits
  where
    bits : CutBits M s p 0
    bits d a b = zero_bit (bit_of d) ∙ ⊎_elim (λ h. not-onward M s p d h) (λ h. clear_of M s p d (far d a b h)) (le_or_lt (bit_of d) 4)

-- ---- a narrower range

pub narrows : (least greatest : ℕ) (all near : CandidateRange) → near.first ≡ max all.first ((least - 5) / 8) → near.last ≡ min all.last ((greatest + 4) / 8) → Narrows least greatest all near
narrows least greatest all near e f =
    record {
      below = omega (arith, f);
      covers = λ g none. narrow g all.first all.last near.first near.last (omega (arith, e)) (omega (arith, f)) (λ m a b o. none m (⊎_elim (λ i. inl (before all.first near.first m e a i)) (λ i. inr (after all.last near.last m f b i)) o));
    }
  where
    before : (first near m : ℕ) → near ≡ max first ((least - 5) / 8) → first ≤ m → m < near → 8 * m + 12 < least
    before first near m e a i = omega arith

    after : (last near m : ℕ) → near ≡ min last ((greatest + 4) / 8) → m ≤ last → near < m → greatest + 4 < 8 * m
    after last near m e a i = omega arith

-- ---- the cells of a column, or row

-- the least pixel of a segment across columns, or rows, and the last one for places behind it
abbrev least_across : Bool → Segment → ℕ
least_across v s = cond v (min s.a.y s.b.y) (min s.a.x s.b.x)

abbrev greatest_across : Bool → Segment → ℕ
greatest_across v s = cond v (max s.a.y s.b.y - 8) (max s.a.x s.b.x)

across_none : (M : Map) (s : Segment) (v : Bool) (k m : ℕ) → Beyond (least_across v s) (greatest_across v s) m → cut_across M s v k m ≡ []
across_none M s true k m b = no_cut-far M s (at k m) (far-y s (at k m) (max s.a.y s.b.y - 8) (omega arith) (omega arith) (omega arith) (omega arith) b)
across_none M s false k m b = no_cut-far M s (at m k) (far-x s (at m k) (omega arith) (omega arith) (omega arith) (omega arith) b)

pub near_of :
    (s : Segment) (t : Strip) (k limit : ℕ) {all near : CandidateRange} (v : Bool) {least greatest : ℕ} → t.columns ≡ v → Walks all (candidate_minor_range (line_of t k) limit) limit
    → Narrows least greatest all near → least ≡ least_across v s → greatest ≡ greatest_across v s → Near s t k limit near
near_of s t k limit {all} {near} v {least} {greatest} c W N e f =
    record { inside = omega (arith, N.below, W.inside); cut = λ M. N.covers (cut_across M s t.columns k) (none M) ∙ ap (concat_map (cut_across M s t.columns k)) W.numbers }
  where
    none : (M : Map) (m : ℕ) → Beyond least greatest m → cut_across M s t.columns k m ≡ []
    none M m b = ap (λ v. cut_across M s v k m) c ∙ across_none M s v k m (subst (λ g. Beyond (least_across v s) g m) f (subst (λ l. Beyond l greatest m) e b))

-- ---- the columns, or rows, of a span

-- the strip of a segment, by columns or by rows, and in rows whether a is the end above
abbrev strip_in : Bool → Bool → Segment → Strip
strip_in v u s =
    cond v (strip_by_columns s) (record { columns = false; major0 = (cond u s.a s.b).y; minor0 = (cond u s.a s.b).x; major1 = (cond u s.b s.a).y; minor1 = (cond u s.b s.a).x })

column-far : (s : Segment) → s.a.x ≤ s.b.x → (k m : ℕ) → Beyond (strip_of s).major0 (last_reached (strip_of s)) k → Far s (cell_of (strip_of s) k m)
column-far s o k m = go (by_columns s) (leb s.a.y s.b.y) (leb-true s.a.y s.b.y) (leb-false s.a.y s.b.y)
  where
    go : (v u : Bool) → (u ≡ true → s.a.y ≤ s.b.y) → (u ≡ false → s.b.y < s.a.y) → Beyond (strip_in v u s).major0 (last_reached (strip_in v u s)) k → Far s (cell_of (strip_in v u s) k m)
    go true u c d b = far-x s (at k m) (omega arith) o o (omega arith) b
    go false true c d b = let i = c refl in far-y s (at m k) (s.b.y - 8) (omega arith) i (omega (arith, i)) (omega arith) b
    go false false c d b = let i = d refl in far-y s (at m k) (s.a.y - 8) (omega (arith, i)) (omega arith) (omega arith) (omega (arith, i)) b

pub near-axis-of :
    (t : Strip) (limit : ℕ) {all near : CandidateRange} {greatest : ℕ} → Walks all (candidate_axis_range t.major0 t.major1 limit) limit → Narrows t.major0 greatest all near
    → greatest ≡ last_reached t → NearAxis t limit near
near-axis-of t limit {all} {near} W N e =
    record { below = omega (arith, N.below, W.inside); covers = λ f none. N.covers f (λ m b. none m (subst (λ g. Beyond t.major0 g m) e b)) ∙ ap (concat_map f) W.numbers }

-- nothing joined over any numbers
concat-nothing : {A B : Type 0} (f : A → List B) (l : List A) → ((x : A) → f x ≡ []) → concat_map f l ≡ []
unfolding concat_map
concat-nothing f [] h = refl
concat-nothing f (x ∷ l) h = ap (λ r. r ++ concat_map f l) (h x) ∙ concat-nothing f l h

column_none : (M : Map) (s : Segment) → s.a.x ≤ s.b.x → (k : ℕ) → Beyond (strip_of s).major0 (last_reached (strip_of s)) k → cut_column M s (strip_of s) k ≡ []
column_none M s o k b =
    let cells = candidate_minor_range (line_of (strip_of s) k) (minor_side (strip_of s) M.width M.height) in
    concat_map_lem (cut_from M s) (cell_of (strip_of s) k) cells ∙ concat-nothing (λ m. cut_from M s (cell_of (strip_of s) k m)) cells (λ m. no_cut-far M s (cell_of (strip_of s) k m) (column-far s o k m b))

-- the columns near a span, from a first one up to one
pub parts-joined :
    (M : Map) (g : Segment) (first end : ℕ) → g.a.x ≤ g.b.x → {t : Strip} {limit : ℕ} → t ≡ strip_of g → limit ≡ major_side t M.width M.height
    → Covers t.major0 (last_reached t) (up_to first end) (candidate_axis_range t.major0 t.major1 limit) → concat_map (cut_column M g t) (up_to first end) ≡ cut_span M g
parts-joined M g first end o {t} e f h =
    h (cut_column M g t) (subst⁻¹ (λ t. (k : ℕ) → Beyond t.major0 (last_reached t) k → cut_column M g t k ≡ []) e (column_none M g o))
    ∙ ap (λ n. concat_map (cut_column M g t) (candidate_axis_range t.major0 t.major1 n)) f ∙ ap (columns_of M g) e ∙ sym (columns-joined M g o)
