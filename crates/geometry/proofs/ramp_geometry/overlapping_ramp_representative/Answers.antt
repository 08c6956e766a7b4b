-- `ramp_geometry::overlapping_ramp_representative` meets its contract: its five tests are the definition's, of canonical endpoints. Assumes nothing.
use mathlib.Core.Path.{◌≡◌, refl, sym, ◌∙◌}
use mathlib.Core.Bool.{Bool, false, not, ◌&&◌}
use lib.Ieee.{binary64, mul, div, lt, le, eq, of_bits}
use Rattle.definitions.specs.Grid.{Segment, canonical}
use Rattle.definitions.specs.Geometry.{float}
use Rattle.definitions.specs.RampGeometry.{max_overlay_normal_offset, min_overlay_fraction, min_parallel_cosine, fabs, fmin, overlapping_ramp_representative}
use Rattle.laws.specs.FloatLaws.Pixels.{PixelSegment}
use Rattle.geometry.specs.Forms.{segment_form}
use Rattle.geometry.specs.Representatives.{length_of, dot_of, max_offset, overlap_of}
use Rattle.geometry.proofs.Literals.{zero_is, max_overlay_normal_offset_is, min_overlay_fraction_is, min_parallel_cosine_is}
use Rattle.geometry.proofs.Ends.{made-canonical}
use Rattle.geometry.proofs.ramp_geometry.overlapping_ramp_representative.Goals as goal
use Rattle.geometry.proofs.ramp_geometry.overlapping_ramp_representative.Goals.{then-ramp_length-via-then-ramp_length, then-ramp_length-via-else-ramp_length+then-candidate_length}

-- the definition's tests, of canonical segments: s is the candidate, t the ramp
abbrev is_point : Segment → Bool
is_point s = eq (length_of s) (float 0)

abbrev askew : Segment → Segment → Bool
askew s t = lt (div binary64 (fabs (dot_of t s)) (mul binary64 (length_of t) (length_of s))) min_parallel_cosine

abbrev aside : Segment → Segment → Bool
aside s t = lt max_overlay_normal_offset (max_offset s t (length_of t))

abbrev beside : Segment → Segment → Bool
beside s t = le (mul binary64 min_overlay_fraction (fmin (length_of t) (length_of s))) (overlap_of s t (length_of t))

by_tests : (candidate ramp : Segment) {s t : Segment} {p q u v w : Bool} → s ≡ canonical candidate → t ≡ canonical ramp → p ≡ is_point t → q ≡ is_point s → u ≡ askew s t
    → v ≡ aside s t → w ≡ beside s t → (not p && not q && not u && not v && w) ≡ overlapping_ramp_representative candidate ramp
unfolding overlapping_ramp_representative
by_tests candidate ramp d e f g h k l =
    (λ i. not (f i) && not (g i) && not (h i) && not (k i) && l i)
    ∙ (λ i. not (is_point (e i)) && not (is_point (d i)) && not (askew (d i) (e i)) && not (aside (d i) (e i)) && beside (d i) (e i))

pub length-ramp_length-requires : goal.length-ramp_length-requires
length-ramp_length-requires c =
    let T : Segment = segment_form c.canonical-t.result in
    let t_in : PixelSegment T = made-canonical c.canonical-t.ensures c.requires.1 in
    t_in

pub length-candidate_length-requires : goal.length-candidate_length-requires
length-candidate_length-requires c =
    let S : Segment = segment_form c.canonical-s.result in
    let s_in : PixelSegment S = made-canonical c.canonical-s.ensures c.requires.0 in
    s_in

pub returns-then-ramp_length : goal.returns-then-ramp_length
returns-then-ramp_length c =
    let S : Segment = segment_form c.canonical-s.result in
    let T : Segment = segment_form c.canonical-t.result in
    elim c.then-ramp_length.branch [
      | then-ramp_length-via-then-ramp_length w ↦ by_tests (segment_form c.args.candidate) (segment_form c.args.ramp) c.canonical-s.ensures c.canonical-t.ensures (sym w.if-ramp_length.true ∙ (λ i. eq (c.length-ramp_length.ensures i) (zero_is i))) refl refl refl refl
      | then-ramp_length-via-else-ramp_length+then-candidate_length w ↦
          let long-ramp : false ≡ is_point T = sym w.if-ramp_length.false ∙ (λ i. eq (c.length-ramp_length.ensures i) (zero_is i)) in
          by_tests (segment_form c.args.candidate) (segment_form c.args.ramp) c.canonical-s.ensures c.canonical-t.ensures long-ramp (sym w.if-candidate_length.true ∙ (λ i. eq (c.length-candidate_length.ensures i) (zero_is i))) refl refl refl
    ]

pub cosine-requires : goal.cosine-requires
cosine-requires c =
    let S : Segment = segment_form c.canonical-s.result in
    let T : Segment = segment_form c.canonical-t.result in
    let s_in : PixelSegment S = made-canonical c.canonical-s.ensures c.requires.0 in
    let t_in : PixelSegment T = made-canonical c.canonical-t.ensures c.requires.1 in
    (t_in, s_in)

pub returns-then-cosine : goal.returns-then-cosine
returns-then-cosine c =
    let S : Segment = segment_form c.canonical-s.result in
    let T : Segment = segment_form c.canonical-t.result in
    let long-ramp : false ≡ is_point T = sym c.if-ramp_length.false ∙ (λ i. eq (c.length-ramp_length.ensures i) (zero_is i)) in
    let long-candidate : false ≡ is_point S = sym c.if-candidate_length.false ∙ (λ i. eq (c.length-candidate_length.ensures i) (zero_is i)) in
    let ramp-length_is : c.length-ramp_length.result ≡ length_of T = c.length-ramp_length.ensures in
    let candidate-length_is : c.length-candidate_length.result ≡ length_of S = c.length-candidate_length.ensures in
    let askew_is : lt c.cosine.result (of_bits binary64 4606875505927962389) ≡ askew S T = (λ i. lt (c.cosine.ensures i) (min_parallel_cosine_is i))
    ∙ (λ i. lt (div binary64 (fabs (dot_of T S)) (mul binary64 (ramp-length_is i) (candidate-length_is i))) min_parallel_cosine) in
    by_tests (segment_form c.args.candidate) (segment_form c.args.ramp) c.canonical-s.ensures c.canonical-t.ensures long-ramp long-candidate (sym c.if-cosine.true ∙ askew_is) refl refl

pub max_offset-requires : goal.max_offset-requires
max_offset-requires c =
    let S : Segment = segment_form c.canonical-s.result in
    let T : Segment = segment_form c.canonical-t.result in
    let s_in : PixelSegment S = made-canonical c.canonical-s.ensures c.requires.0 in
    let t_in : PixelSegment T = made-canonical c.canonical-t.ensures c.requires.1 in
    (s_in, t_in)

pub returns-then-max_offset : goal.returns-then-max_offset
returns-then-max_offset c =
    let S : Segment = segment_form c.canonical-s.result in
    let T : Segment = segment_form c.canonical-t.result in
    let long-ramp : false ≡ is_point T = sym c.if-ramp_length.false ∙ (λ i. eq (c.length-ramp_length.ensures i) (zero_is i)) in
    let long-candidate : false ≡ is_point S = sym c.if-candidate_length.false ∙ (λ i. eq (c.length-candidate_length.ensures i) (zero_is i)) in
    let ramp-length_is : c.length-ramp_length.result ≡ length_of T = c.length-ramp_length.ensures in
    let candidate-length_is : c.length-candidate_length.result ≡ length_of S = c.length-candidate_length.ensures in
    let askew_is : lt c.cosine.result (of_bits binary64 4606875505927962389) ≡ askew S T = (λ i. lt (c.cosine.ensures i) (min_parallel_cosine_is i))
    ∙ (λ i. lt (div binary64 (fabs (dot_of T S)) (mul binary64 (ramp-length_is i) (candidate-length_is i))) min_parallel_cosine) in
    let aside_is : lt (of_bits binary64 0x4050000000000000) c.max_offset.result ≡ aside S T = (λ i. lt (max_overlay_normal_offset_is i) (c.max_offset.ensures i)) ∙ (λ i. lt max_overlay_normal_offset (max_offset S T (ramp-length_is i))) in
    by_tests (segment_form c.args.candidate) (segment_form c.args.ramp) c.canonical-s.ensures c.canonical-t.ensures long-ramp long-candidate (sym c.if-cosine.false ∙ askew_is) (sym c.if-max_offset.true ∙ aside_is) refl

pub overlap-requires : goal.overlap-requires
overlap-requires c =
    let S : Segment = segment_form c.canonical-s.result in
    let T : Segment = segment_form c.canonical-t.result in
    let s_in : PixelSegment S = made-canonical c.canonical-s.ensures c.requires.0 in
    let t_in : PixelSegment T = made-canonical c.canonical-t.ensures c.requires.1 in
    (s_in, t_in)

pub returns : goal.returns
returns c =
    let S : Segment = segment_form c.canonical-s.result in
    let T : Segment = segment_form c.canonical-t.result in
    let long-ramp : false ≡ is_point T = sym c.if-ramp_length.false ∙ (λ i. eq (c.length-ramp_length.ensures i) (zero_is i)) in
    let long-candidate : false ≡ is_point S = sym c.if-candidate_length.false ∙ (λ i. eq (c.length-candidate_length.ensures i) (zero_is i)) in
    let ramp-length_is : c.length-ramp_length.result ≡ length_of T = c.length-ramp_length.ensures in
    let candidate-length_is : c.length-candidate_length.result ≡ length_of S = c.length-candidate_length.ensures in
    let askew_is : lt c.cosine.result (of_bits binary64 4606875505927962389) ≡ askew S T = (λ i. lt (c.cosine.ensures i) (min_parallel_cosine_is i))
    ∙ (λ i. lt (div binary64 (fabs (dot_of T S)) (mul binary64 (ramp-length_is i) (candidate-length_is i))) min_parallel_cosine) in
    let aside_is : lt (of_bits binary64 0x4050000000000000) c.max_offset.result ≡ aside S T = (λ i. lt (max_overlay_normal_offset_is i) (c.max_offset.ensures i)) ∙ (λ i. lt max_overlay_normal_offset (max_offset S T (ramp-length_is i))) in
    by_tests (segment_form c.args.candidate) (segment_form c.args.ramp) c.canonical-s.ensures c.canonical-t.ensures long-ramp long-candidate (sym c.if-cosine.false ∙ askew_is) (sym c.if-max_offset.false ∙ aside_is)
    ((λ i. le (mul binary64 (min_overlay_fraction_is i) (c.fmin.ensures i)) (c.overlap.ensures i))
    ∙ (λ i. le (mul binary64 min_overlay_fraction (fmin (ramp-length_is i) (candidate-length_is i))) (overlap_of S T (ramp-length_is i))))
