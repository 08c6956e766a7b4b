-- `ramp_geometry::is_nearby_parallel_representative` meets its contract: its four tests are the definition's, of canonical endpoints. Assumes nothing.
use mathlib.Core.Path.{◌≡◌, refl, sym, ◌∙◌}
use mathlib.Core.Bool.{Bool, false, not, ◌&&◌}
use lib.Ieee.{Float, binary64, mul, div, lt, le}
use Rattle.definitions.specs.Grid.{Segment, canonical}
use Rattle.definitions.specs.Geometry.{float, point, distance}
use Rattle.definitions.specs.RampGeometry.{max_representative_offset, min_parallel_cosine, fabs, is_nearby_parallel_representative}
use Rattle.laws.specs.FloatLaws.Pixels.{PixelSegment}
use Rattle.geometry.specs.Forms.{segment_form}
use Rattle.geometry.specs.Representatives.{length_of, dot_of}
use Rattle.geometry.proofs.Literals.{zero_is, max_representative_offset_is, min_parallel_cosine_is}
use Rattle.geometry.proofs.Ends.{limits, made-canonical}
use Rattle.geometry.proofs.ramp_geometry.is_nearby_parallel_representative.Goals as goal

-- the definition's tests, of canonical segments
abbrev far_starts : Segment → Segment → Bool
far_starts s t = lt max_representative_offset (distance (point s.a) (point t.a))

abbrev far_ends : Segment → Segment → Bool
far_ends s t = lt max_representative_offset (distance (point s.b) (point t.b))

abbrev lengths : Segment → Segment → Float
lengths s t = mul binary64 (length_of s) (length_of t)

abbrev parallel : Segment → Segment → Bool
parallel s t = le min_parallel_cosine (div binary64 (fabs (dot_of s t)) (lengths s t))

by_tests : (left right : Segment) {s t : Segment} {p q u v : Bool} → s ≡ canonical left → t ≡ canonical right → p ≡ far_starts s t → q ≡ far_ends s t
    → u ≡ lt (float 0) (lengths s t) → v ≡ parallel s t → (not p && not q && u && v) ≡ is_nearby_parallel_representative left right
unfolding is_nearby_parallel_representative
by_tests left right d e f g h k =
    (λ i. not (f i) && not (g i) && h i && k i)
    ∙ (λ i. not (far_starts (d i) (e i)) && not (far_ends (d i) (e i)) && lt (float 0) (lengths (d i) (e i)) && parallel (d i) (e i))

pub offset-requires : goal.offset-requires
offset-requires c =
    let S : Segment = segment_form c.canonical-s.result in
    let T : Segment = segment_form c.canonical-t.result in
    let s_in : PixelSegment S = made-canonical c.canonical-s.ensures c.requires.0 in
    let t_in : PixelSegment T = made-canonical c.canonical-t.ensures c.requires.1 in
    (limits s_in.first, limits t_in.first)

pub returns-then-offset : goal.returns-then-offset
returns-then-offset c =
    let S : Segment = segment_form c.canonical-s.result in
    let T : Segment = segment_form c.canonical-t.result in
    by_tests (segment_form c.args.left) (segment_form c.args.right) c.canonical-s.ensures c.canonical-t.ensures (sym c.if-offset.true ∙ (λ i. lt (max_representative_offset_is i) (c.offset.ensures i))) refl refl refl

pub offset-requires-2 : goal.offset-requires-2
offset-requires-2 c =
    let S : Segment = segment_form c.canonical-s.result in
    let T : Segment = segment_form c.canonical-t.result in
    let s_in : PixelSegment S = made-canonical c.canonical-s.ensures c.requires.0 in
    let t_in : PixelSegment T = made-canonical c.canonical-t.ensures c.requires.1 in
    (limits s_in.second, limits t_in.second)

pub returns-then-offset-2 : goal.returns-then-offset-2
returns-then-offset-2 c =
    let S : Segment = segment_form c.canonical-s.result in
    let T : Segment = segment_form c.canonical-t.result in
    let near-starts : false ≡ far_starts S T = sym c.if-offset.false ∙ (λ i. lt (max_representative_offset_is i) (c.offset.ensures i)) in
    by_tests (segment_form c.args.left) (segment_form c.args.right) c.canonical-s.ensures c.canonical-t.ensures near-starts (sym c.if-offset-2.true ∙ (λ i. lt (max_representative_offset_is i) (c.offset-2.ensures i))) refl refl

pub length-requires : goal.length-requires
length-requires c =
    let S : Segment = segment_form c.canonical-s.result in
    let s_in : PixelSegment S = made-canonical c.canonical-s.ensures c.requires.0 in
    s_in

pub length-requires-2 : goal.length-requires-2
length-requires-2 c =
    let T : Segment = segment_form c.canonical-t.result in
    let t_in : PixelSegment T = made-canonical c.canonical-t.ensures c.requires.1 in
    t_in

pub cosine-requires : goal.cosine-requires
cosine-requires c =
    let S : Segment = segment_form c.canonical-s.result in
    let T : Segment = segment_form c.canonical-t.result in
    let s_in : PixelSegment S = made-canonical c.canonical-s.ensures c.requires.0 in
    let t_in : PixelSegment T = made-canonical c.canonical-t.ensures c.requires.1 in
    (s_in, t_in)

pub returns : goal.returns
returns c =
    let S : Segment = segment_form c.canonical-s.result in
    let T : Segment = segment_form c.canonical-t.result in
    let near-starts : false ≡ far_starts S T = sym c.if-offset.false ∙ (λ i. lt (max_representative_offset_is i) (c.offset.ensures i)) in
    let product : mul binary64 c.length.result c.length-2.result ≡ lengths S T = λ i. mul binary64 (c.length.ensures i) (c.length-2.ensures i) in
    by_tests (segment_form c.args.left) (segment_form c.args.right) c.canonical-s.ensures c.canonical-t.ensures near-starts (sym c.if-offset-2.false ∙ (λ i. lt (max_representative_offset_is i) (c.offset-2.ensures i))) (λ i. lt (zero_is i) (product i))
    ((λ i. le (min_parallel_cosine_is i) (c.cosine.ensures i)) ∙ (λ i. le min_parallel_cosine (div binary64 (fabs (dot_of S T)) (product i))))
