-- `put_pair` meets its contract: the row is the definition's, as its two parts are; a separation is no NaN, and its bits are all zero just where the two share
-- a point. Assumes nothing.
use mathlib.Core.Path.{◌≡◌, sym, ap, ◌∙◌, subst}
use mathlib.Core.List.{List, [], ◌∷◌}
use Prim.Native.Nat.{ℕ, ◌+◌, ◌-◌, ◌<◌}
use native.Mathlib.Omega.{arith}
use lib.Dec.{eqb}
use lib.Seq.{sets}
use lib.Ieee.{Float, binary64, to_bits}
use borrow.Rule.Slice.PartMut.{put_mid}
use Rattle.definitions.specs.Grid.{Segment}
use Rattle.laws.specs.ListLaws.Stores.{part_stored}
use Rattle.laws.specs.FloatLaws.Pixels.{PixelSegment}
use Rattle.separations.specs.Listing.{boundary_count, ends_of_lem}
use Rattle.separations.proofs.Theorem.{zero_test}
use Rattle.separation_list.specs.Contract.{OnPixels}
use Rattle.separation_list.proofs.Storing.{row_is, no_nan}
use Rattle.separation_list.proofs.put_pair.Goals as goal

on_pixels : {boundaries : List ℕ} {i : ℕ} {s : Segment} → OnPixels boundaries → i < boundary_count boundaries → s ≡ ends_of_lem boundaries i → PixelSegment s
on_pixels {i = i} h l e = subst PixelSegment (sym e) (h.ends i l)

pub float_to_bits-bits : goal.float_to_bits-bits
float_to_bits-bits c =
    let left = on_pixels c.requires.pixels c.requires.first c.segment_of-left.ensures in
    no_nan left (on_pixels c.requires.pixels c.requires.second c.segment_of-right.ensures) c.segment_distance-separation.ensures

pub exact_square-square-requires : goal.exact_square-square-requires
exact_square-square-requires c =
    let left = on_pixels c.requires.pixels c.requires.first c.segment_of-left.ensures in
    let right = on_pixels c.requires.pixels c.requires.second c.segment_of-right.ensures in
    (left, right, ap (λ (x : Float). eqb (to_bits binary64 x) 0) c.segment_distance-separation.ensures ∙ zero_test left right)

pub returns : goal.returns
returns c =
    let a = c.args in
    let row = a.i ∷ a.j ∷ to_bits binary64 c.segment_distance-separation.result ∷ c.exact_square-square.result.num ∷ c.exact_square-square.result.den ∷ [] in
    ap (put_mid a.k (a.k + 5 - a.k) a.output.now) c.copy_from_slice.ensures.after
    ∙ part_stored a.output.now row a.k (a.k + 5) (omega arith) (omega (arith, c.requires.room))
    ∙ ap (λ l. sets a.output.now a.k l)
    (row_is a.i a.j c.segment_distance-separation.ensures c.exact_square-square.ensures.0 c.segment_of-left.ensures c.segment_of-right.ensures)
