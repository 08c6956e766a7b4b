-- `read_full` meets its contract: what a read gave stands behind what there was. Assumes nothing.
use Rattle.std.proofs.Common.{◌≡◌, ℕ, ◌+◌, ◌-◌, ◌≤◌, List, ◌++◌, rules, length, take, sym, ap, ◌∙◌, subst, le_refl, drop_at, length-take-le}
use Rattle.std.proofs.lemmas.Slice.{take-put_mid_below}
use Rattle.std.specs.Io.KnownBytes.{Consumes}
use Rattle.std.proofs.KnownBytes.{Consumes-trans}
use borrow.Rule.Slice.PartMut.{put_mid, post_of}
use lib.Seq.{take-add, take-append-le}
use Rattle.streams.proofs.read_full.Goals as goal

-- the first a + n entries of a list whose part from a on was written
written : (a k n : ℕ) (xs ys : List ℕ) → a ≤ length xs → n ≤ length ys → take a xs ++ take n ys ≡ take (a + n) (put_mid a k xs ys)
written a k n xs ys within fits =
    let whole = put_mid a k xs ys in
    let part = ap (take n) (drop_at (take a xs) (ys ++ post_of a k xs) a (length-take-le a xs within)) ∙ take-append-le n ys (post_of a k xs) fits in
    ap (λ l. l ++ take n ys) (sym (take-put_mid_below a k xs ys a (le_refl a) within)) ∙ ap (λ l. take a whole ++ l) (sym part) ∙ sym (take-add a n whole)

pub loop-count-preserved : goal.loop-count-preserved
loop-count-preserved g c =
    let at = c.loop-count in
    record {
      kept = search rules;
      within = search rules;
      bytes = subst (Consumes _ _) (written at.count (length at.list - at.count) c.in_ok-got.got at.list c.read.new.buf at.invariant.within c.in_ok-got.ensures.bound.0) (Consumes-trans _ _ _ _ _ at.invariant.bytes c.in_ok-got.ensures.bytes.0);
    }
