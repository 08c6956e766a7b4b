-- The parts of a span's walk: columns, or rows, near its ends and between them (`parted`), what is asked of each, the first places past the line between them
-- (`between_of`, `follows-in`), and a part of one column, or row (`part-single`). Assumes nothing.
use Prim.Native.Nat.{ℕ, suc, ◌+◌, ◌-◌, ◌*◌, ◌/◌, ◌≤◌, ◌<◌, min, max}
use native.Mathlib.Omega.{arith}
use mathlib.Core.Path.{◌≡◌, sym, ap, ◌∙◌, subst, subst⁻¹}
use mathlib.Core.Logic.{inl, inr}
use mathlib.Core.Bool.{Bool, true, false, cond}
use mathlib.Core.List.{◌++◌}
use Rattle.definitions.specs.Limits.{max_side}
use Rattle.definitions.specs.Scan.{run, concat_map}
use Rattle.definitions.specs.Grid.{Map, Segment}
use Rattle.definitions.specs.Spans.{range_inclusive}
use Rattle.span_geometry.specs.declared.strips.CandidateRange.{CandidateRange}
use Rattle.span_geometry.specs.declared.strips.Strip.{Strip}
use Rattle.span_geometry.specs.Strips.{Usable, strip_of}
use Rattle.span_geometry.specs.Candidates.{major_side}
use Rattle.line_crossings.specs.Crossings.{Between, tie_of, Crossing, Gentle, Close}
use Rattle.line_crossings.proofs.NearLine.{strip_gentle}
use Rattle.cut_steps.specs.Columns.{ColumnAsked, cut_column}
use Rattle.cut_steps.specs.Prefixes.{concat_none, concat_more}
use Rattle.cut_steps.specs.Extents.{NearAxis}
use Rattle.cut_steps.specs.Crossed.{Follows, FollowsIn, Inside, BetweenAsked, ColumnsAsked, cut_columns, Parted, EndsPart, PartAsked}

-- ---- the parts

-- by numbers alone
middle-part : (first end least from : ℕ) → first ≤ end → first ≤ least → from ≡ min least end → (first ≤ from) × (from ≤ end)
middle-part first end least from a b c = (omega arith, omega arith)

last_part : (from end less o to : ℕ) → from ≤ end → o ≡ min (less / 8) end → to ≡ max from o → (from ≤ to) × (to ≤ end)
last_part from end less o to a b c = (omega arith, omega arith)

is_inside_lem : (k from end least less o to : ℕ) → from ≡ min least end → o ≡ min (less / 8) end → to ≡ max from o → from ≤ k → k < to → (least ≤ k) × (k < less / 8)
is_inside_lem k from end least less o to a b c d e =
    let f : k < o = omega (arith, c) in
    let g : k < end = omega (arith, b) in
    (omega (arith, a), omega (arith, b))

pub parted :
    (t : Strip) (limit : ℕ) (r : CandidateRange) → NearAxis t limit r → {end least from less o to : ℕ} → end ≡ max r.first (r.last + 1)
    → least ≡ max r.first ((t.major0 + 11) / 8) → from ≡ min least end → less ≡ t.major1 - 4 → o ≡ min (less / 8) end → to ≡ max from o → Parted t limit r.first from to end
unfolding range_inclusive
parted t limit r N {end} {least} {from} {less} {o} {to} e f g h i j =
    record {
      first_from = middle.0;
      from_to_lem = last.0;
      to_end = last.1;
      numbers = λ s none. ap (λ n. concat_map s (run r.first n)) (count r.first r.last end e) ∙ N.covers s none;
      below = λ k a b. below r.first r.last end k limit e N.below a b;
      inside = λ k a b. let p = is_inside_lem k from end least less o to g i j a b in (after t.major0 r.first least k f p.0, before t.major1 less k h p.1);
    }
  where
    count : (first last end : ℕ) → end ≡ max first (last + 1) → end - first ≡ suc last - first
    count first last end e = omega arith

    below : (first last end k limit : ℕ) → end ≡ max first (last + 1) → last < limit → first ≤ k → k < end → k < limit
    below first last end k limit e l a b = omega arith

    after : (major0 first least k : ℕ) → least ≡ max first ((major0 + 11) / 8) → least ≤ k → major0 + 4 ≤ 8 * k
    after major0 first least k e a = omega arith

    before : (major1 less k : ℕ) → less ≡ major1 - 4 → k < less / 8 → 8 * k + 12 ≤ major1
    before major1 less k e a = omega arith

    up : (first last end : ℕ) → end ≡ max first (last + 1) → first ≤ end
    up first last end e = omega arith

    over : (first n least : ℕ) → least ≡ max first n → first ≤ least
    over first n least e = omega arith

    middle : (r.first ≤ from) × (from ≤ end)
    middle = middle-part r.first end least from (up r.first r.last end e) (over r.first ((t.major0 + 11) / 8) least f) g

    last : (from ≤ to) × (to ≤ end)
    last = last_part from end less o to middle.1 i j

-- ---- what is asked of them

-- the two sides of a map, either first
pub side-small : (t : Bool) {w h : ℕ} → w ≤ max_side → h ≤ max_side → cond t w h ≤ max_side
side-small true a b = a
side-small false a b = b

pub limit-small : (t : Strip) {w h n : ℕ} → w ≤ max_side → h ≤ max_side → n ≡ major_side t w h → n ≤ max_side
limit-small t a b e = subst⁻¹ (λ n. n ≤ max_side) e (side-small t.columns a b)

pub columns-asked : {w h : ℕ} {t : Strip} {limit first end from to : ℕ} → Usable t → limit ≡ major_side t w h → 0 < cond t.columns h w → ((k : ℕ) → first ≤ k → k < end → k < limit) → first ≤ from → to ≤ end → ColumnsAsked w h t from to
columns-asked {w} {h} {t} U e s below a b = record { usable = U; columns = λ k i j. subst (λ n. k < n) e (below k (omega arith) (omega arith)); some = s }

pub column-asked : {w h : ℕ} {t : Strip} {from to : ℕ} → ColumnsAsked w h t from to → {k : ℕ} → from ≤ k → k < to → ColumnAsked w h t k
column-asked C a b = record { usable = C.usable; column = C.columns _ a b; some = C.some }

-- ---- between the ends

module _ (t : Strip) (from to : ℕ) (I : Inside t from to) (some : from < to) where
  pub from_some : 1 ≤ from
  from_some = omega (arith, I from (omega arith) some)

  between_of : (k : ℕ) → from ≤ k + 1 → k ≤ to → Between t k
  between_of k a b =
      let p = I from (omega arith) some in
      let q = I (to - 1) (omega arith) (omega arith) in
      record { from = omega (arith, p.0); to = omega (arith, q.1) }

  -- the one before the first, the first, each of them, and the one behind it
  pub between-before : Between t (from - 1)
  between-before = between_of (from - 1) (omega arith) (omega arith)

  pub between_first : Between t (from - 1 + 1)
  between_first = between_of (from - 1 + 1) (omega arith) (omega (arith, from_some))

  pub between_at : {k : ℕ} → from ≤ k → k < to → Between t k
  between_at {k} a b = between_of k (omega arith) (omega arith)

  pub between-after : {k : ℕ} → from ≤ k → k < to → Between t (k + 1)
  between-after {k} a b = between_of (k + 1) (omega arith) (omega arith)

-- the number before k, and a bound
pub one_before : {k n : ℕ} → k < n → k - 1 < n
one_before h = omega arith

pub gentle_of : (g : Segment) {t : Strip} → t ≡ strip_of g → g.a.x ≤ g.b.x → Gentle t
gentle_of g e o = subst⁻¹ Gentle e (strip_gentle g o)

pub next_from : {t : Strip} {tie from m r : ℕ} → 1 ≤ from → Crossing t tie (from - 1 + 1) m r → Crossing t tie from m r
next_from {t} {tie} {from} {m} {r} h c =
    let e : from - 1 + 1 ≡ from = omega arith in
    subst (λ k. Crossing t tie k m r) e c

pub now-before : {t : Strip} {tie k m r : ℕ} → Crossing t tie k m r → Crossing t tie (k + 1 - 1) m r
now-before {t} {tie} {k} {m} {r} c =
    let e : k ≡ k + 1 - 1 = omega arith in
    subst (λ k. Crossing t tie k m r) e c

pub follows-in :
    {g : Segment} {t : Strip} {from to : ℕ} → BetweenAsked g t from to → Usable t → {tie k b x h y a z : ℕ} → tie ≡ tie_of g → from ≤ k → k < to → Crossing t tie (k - 1) b x → Crossing t tie k h y
    → Crossing t tie (k + 1) a z → Close b h → Close h a → FollowsIn t g k b h a
follows-in {g} {t} {from} {to} B U {tie} {k} {b} {x} {h} {y} {a} {z} e l m P Q R c d =
    let some : from < to = omega arith in
    let I = B.inside in
    let one = from_some t from to I some in
    record {
      strip = B.strip;
      follows = subst (λ tie. Follows t tie k b h a) e (record {
        usable = U;
        some = omega arith;
        between-before = between_of t from to I some (k - 1) (omega arith) (omega arith);
        between = between_of t from to I some k (omega arith) (omega arith);
        between-after = between_of t from to I some (k + 1) (omega arith) (omega arith);
        was = (x, P);
        is = (y, Q);
        next = (z, R);
        close-before = c;
        close-after = d;
      });
    }

-- ---- joined

-- a part of one column, or row
pub part-single : (M : Map) (g : Segment) (t : Strip) {k next : ℕ} → k < next → next ≤ k + 1 → cut_column M g t k ≡ cut_columns M g t k next
part-single M g t {k} {next} a b =
    let e : k + 1 ≡ next = omega arith in
    ap (λ l. l ++ cut_column M g t k) (sym (concat_none (cut_column M g t) k)) ∙ sym (concat_more (cut_column M g t) k k (omega arith)) ∙ ap (cut_columns M g t k) e

-- a part is not empty, and ends where the parts end or before
pub part-within : {t : Strip} {limit first from to end : ℕ} → Parted t limit first from to end → {k next : ℕ} → k < end → EndsPart from to k next → (k < next) × (next ≤ end)
part-within P h (inl e) = (omega arith, omega arith)
part-within P h (inr e) = (omega arith, omega (arith, P.to_end))

pub part-asked : {g : Segment} {t : Strip} {limit first from to end : ℕ} → t ≡ strip_of g → Parted t limit first from to end → {k next : ℕ} → EndsPart from to k next → k < next → PartAsked g t k next
part-asked {g} {t} s P {k} {next} (inl e) h = record { some = h; between = λ m. absurd (omega arith) }
part-asked {g} {t} {from = from} {to} s P {k} {next} (inr e) h =
    record { some = h; between = λ m. record { strip = s; inside = λ j a b. P.inside j (omega arith) (omega arith) } }
