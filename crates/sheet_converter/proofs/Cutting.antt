-- In shortest form a sheet of kind 1 is its new one with another kind and its spans: an accepted sheet is the shortest form of what it states, part by part, so that
-- what stands before the spans and what stands behind them is known (`cut_is`). What is assumed: the bytes are below 256.
use Prim.Native.Nat.{ℕ, suc, ◌+◌, ◌-◌, ◌*◌, ◌≤◌, ◌<◌}
use native.Mathlib.Omega.{arith}
use mathlib.Core.Path.{◌≡◌, refl, sym, ap, subst, ◌∙◌}
use mathlib.Core.Bool.{◌&&◌}
use mathlib.Core.List.{List, [], ◌∷◌, ◌++◌, append_assoc}
use lib.Dec.{leb}
use lib.ListN.{length, take, drop, get_or, length-append, length-drop}
use lib.Seq.{take-append_seam, drop-append_seam}
use Rattle.definitions.specs.Limits.{is_side, numbers_per_boundary, numbers_per_anchor}
use Rattle.definitions.specs.Scan.{concat_map}
use Rattle.definitions.specs.SheetNumber.{number}
use Rattle.definitions.specs.Sheet.{give, kind, has_spans, plain_cell_limit}
use Rattle.laws.specs.ListLaws.Lists.{done, more, all_split}
use Rattle.results.specs.Shortest.{shortest_within, shortest, list_bytes}
use Rattle.sheet.specs.declared.Plan.{Plan}
use Rattle.sheet.specs.declared.Extent.{Extent}
use Rattle.sheet.specs.Parts.{kind_number, Opening, opening, sides, part_of, cells_in, sheet_of, SheetHeld}
use Rattle.map_sheets.specs.SheetBytes.{spans_bytes, sheet_bytes}
use Rattle.sheets_equal.specs.NumberBytes.{Bytes}
use Rattle.sheets_equal.proofs.ReaderBytes.{Reads, reads-number, reads-give, reads_then, reads-check-then, reads_times}
use Rattle.sheets_equal.proofs.SheetsEqual.{reads-cell, reads-kind, reads-spans, kind_of, read-written}
use Rattle.sheet_converter.specs.Contract.{cut_out, Cut}
use Rattle.sheet_converter.proofs.FirstNumber.{opening-number}

-- numbers of a slice of bytes are bytes
pub bytes-known : (l : List ℕ) → ((i : ℕ) → get_or l i 0 < 256) → Bytes l
bytes-known [] h = done
bytes-known (x ∷ l) h = more (h 0) (bytes-known l (λ i. h (suc i)))

-- ---- what stands before the cells

reads-opening : Reads [] opening (λ o. shortest o.kind ++ shortest o.pass)
unfolding opening
reads-opening =
    reads_then [] kind _ shortest (λ (o : Opening). shortest o.kind ++ shortest o.pass) reads-kind
    (λ written. reads_then _ number _ shortest (λ (o : Opening). shortest o.kind ++ shortest o.pass) reads-number
    (λ pass. reads-give _ (λ (o : Opening). shortest o.kind ++ shortest o.pass) (record { kind = written; pass = pass }) refl))

reads-sides : (limit : ℕ) → Reads [] (sides limit) (λ e. shortest e.width ++ shortest e.height)
unfolding sides
reads-sides limit =
    reads_then [] number _ shortest (λ (e : Extent). shortest e.width ++ shortest e.height) reads-number
    (λ width. reads_then _ number _ shortest (λ (e : Extent). shortest e.width ++ shortest e.height) reads-number
    (λ height. reads-check-then _ (is_side width && is_side height && leb (width * height) limit) 1 0 (width * height)
    (λ count. give (record { width = width; height = height; cells = count })) (λ (e : Extent). shortest e.width ++ shortest e.height)
    (λ fits. reads-give _ (λ (e : Extent). shortest e.width ++ shortest e.height) (record { width = width; height = height; cells = width * height }) refl)))

-- ---- parts in other brackets

as_parts : (k p w h c r : List ℕ) → (k ++ p) ++ ((w ++ h) ++ (c ++ r)) ≡ k ++ ((p ++ (w ++ (h ++ c))) ++ r)
as_parts k p w h c r = simp append_assoc refl

as_sheet : (k p w h c s n z : List ℕ) → k ++ p ++ w ++ h ++ c ++ s ++ n ++ z ≡ k ++ ((p ++ (w ++ (h ++ c))) ++ (s ++ (n ++ z)))
as_sheet k p w h c s n z = simp append_assoc refl

as_new : (k p w h c n z : List ℕ) → k ++ (p ++ (w ++ (h ++ c))) ++ (n ++ z) ≡ k ++ p ++ w ++ h ++ c ++ [] ++ n ++ z
as_new k p w h c n z = simp append_assoc refl

module _ {bytes : List ℕ} {plan : Plan} (B : Bytes bytes) (S : SheetHeld plain_cell_limit bytes plan) (k : kind_number plan.kind ≡ 1) where
  front : ℕ
  front = plan.parts.front

  back : ℕ
  back = plan.parts.back

  -- between the kind and the spans
  middle : List ℕ
  middle = shortest plan.pass ++ (shortest plan.width ++ (shortest plan.height ++ concat_map shortest (cells_in bytes plan.parts)))

  spans : List ℕ
  spans = spans_bytes (has_spans (kind_number plan.kind)) (part_of bytes plan.parts.spans)

  -- behind them
  lists : List ℕ
  lists = list_bytes numbers_per_boundary (part_of bytes plan.parts.boundaries) ++ list_bytes numbers_per_anchor (part_of bytes plan.parts.anchors)

  record Split : Type 0 where
    pub whole : bytes ≡ shortest (kind_number plan.kind) ++ (middle ++ drop front bytes)
    pub cut : drop front bytes ≡ spans ++ drop back bytes

  split : Split
  unfolding front back middle spans
  split =
      let T = S.stands in
      let o₁ = T.behind-pass in
      let o₂ = T.cells_first in
      let e₁ : bytes ≡ shortest (kind_number plan.kind) ++ shortest plan.pass ++ drop o₁ bytes = reads-opening.whole 0 bytes B T.opened in
      let B₁ = (all_split (shortest (kind_number plan.kind) ++ shortest plan.pass) (subst Bytes e₁ B)).1 in
      let e₂ : drop o₁ bytes ≡ shortest plan.width ++ shortest plan.height ++ drop o₂ bytes = (reads-sides plain_cell_limit).whole o₁ (drop o₁ bytes) B₁ T.sided in
      let B₂ = (all_split (shortest plan.width ++ shortest plan.height) (subst Bytes e₂ B₁)).1 in
      let cells = cells_in bytes plan.parts in
      let e₃ : drop o₂ bytes ≡ concat_map shortest cells ++ drop front bytes =
      (reads_times _ shortest reads-cell (plan.width * plan.height)).whole o₂ (drop o₂ bytes) B₂ T.spans_stand.cells-end in
      let B₃ = (all_split (concat_map shortest cells) (subst Bytes e₃ B₂)).1 in
      let e₄ = (reads-spans (has_spans (kind_number plan.kind))).whole front (drop front bytes) B₃ T.spans_stand.spans-end in
      record {
        whole =
            e₁
            ∙ ap (λ l. shortest (kind_number plan.kind) ++ shortest plan.pass ++ l) (e₂ ∙ ap (λ l. shortest plan.width ++ shortest plan.height ++ l) e₃)
            ∙ as_parts (shortest (kind_number plan.kind)) (shortest plan.pass) (shortest plan.width) (shortest plan.height) (concat_map shortest cells) (drop front bytes);
        cut = e₄;
      }

  -- kind 1 is one byte
  one_byte : shortest (kind_number plan.kind) ≡ 1 ∷ []
  unfolding shortest shortest_within
  one_byte = ap shortest k

  begins : bytes ≡ 1 ∷ (middle ++ drop front bytes)
  begins = split.whole ∙ ap (λ l. l ++ (middle ++ drop front bytes)) one_byte

  middle-long : front ≡ 1 + length middle
  unfolding front
  middle-long =
      omega (arith, S.stands.spans_stand.cells-inside, ap length begins, length-append middle (drop front bytes), length-drop front bytes)

  spans-long : back ≡ front + length spans
  unfolding front back
  spans-long =
      omega (arith, S.stands.spans_stand.cells-inside, S.stands.spans_stand.spans-inside, ap length split.cut, length-append spans (drop back bytes), length-drop front bytes, length-drop back bytes)

  -- what the sheet states, written, is the bytes
  stated : bytes ≡ shortest (kind_number plan.kind) ++ (middle ++ (spans ++ lists))
  unfolding middle spans lists sheet_bytes kind_of
  stated =
      read-written plain_cell_limit bytes B S.same
      ∙ ap (λ n. sheet_bytes n (sheet_of bytes plan)) (opening-number bytes S.stands.opened)
      ∙ as_sheet (shortest (kind_number plan.kind)) (shortest plan.pass) (shortest plan.width) (shortest plan.height) (concat_map shortest (cells_in bytes plan.parts))
      (spans_bytes (has_spans (kind_number plan.kind)) (sheet_of bytes plan).spans) (list_bytes numbers_per_boundary (part_of bytes plan.parts.boundaries))
      (list_bytes numbers_per_anchor (part_of bytes plan.parts.anchors))
      ∙ ap (λ l. shortest (kind_number plan.kind) ++ (middle ++ (l ++ lists))) same_spans
    where
      same_spans : spans_bytes (has_spans (kind_number plan.kind)) (sheet_of bytes plan).spans ≡ spans
      same_spans = rw k refl

  -- so behind the spans stand the other lists
  behind : drop back bytes ≡ lists
  behind =
      let x = shortest (kind_number plan.kind) in
      let both : x ++ (middle ++ (spans ++ drop back bytes)) ≡ x ++ (middle ++ (spans ++ lists)) =
      ap (λ l. x ++ (middle ++ l)) (sym split.cut) ∙ sym split.whole ∙ stated in
      let one = sym (drop-append_seam x (middle ++ (spans ++ drop back bytes))) ∙ ap (drop (length x)) both ∙ drop-append_seam x (middle ++ (spans ++ lists)) in
      let two = sym (drop-append_seam middle (spans ++ drop back bytes)) ∙ ap (drop (length middle)) one ∙ drop-append_seam middle (spans ++ lists) in
      sym (drop-append_seam spans (drop back bytes)) ∙ ap (drop (length spans)) two ∙ drop-append_seam spans lists

  kept : take (front - 1) (drop 1 bytes) ≡ middle
  kept =
      let n : front - 1 ≡ length middle = omega (arith, middle-long) in
      ap (λ l. take (front - 1) (drop 1 l)) begins ∙ ap (λ m. take m (middle ++ drop front bytes)) n ∙ take-append_seam middle (drop front bytes)

  pub cut_is : cut_out plan.parts.front plan.parts.back bytes ≡ sheet_bytes 3 (sheet_of bytes plan)
  unfolding cut_out sheet_bytes front back middle lists
  cut_is =
      (λ i. shortest 3 ++ kept i ++ behind i)
      ∙ as_new (shortest 3) (shortest plan.pass) (shortest plan.width) (shortest plan.height) (concat_map shortest (cells_in bytes plan.parts))
      (list_bytes numbers_per_boundary (part_of bytes plan.parts.boundaries)) (list_bytes numbers_per_anchor (part_of bytes plan.parts.anchors))

  pub cut-long : length (sheet_bytes 3 (sheet_of bytes plan)) ≡ plan.parts.front + (length bytes - plan.parts.back)
  unfolding cut_out front back shortest shortest_within
  cut-long =
      sym (ap length cut_is)
      ∙ length-append (shortest 3 ++ take (front - 1) (drop 1 bytes)) (drop back bytes)
      ∙ omega (arith, length-append (shortest 3) (take (front - 1) (drop 1 bytes)), ap length kept, middle-long, length-drop back bytes)

  pub cut-ordered : plan.parts.front ≤ plan.parts.back
  unfolding front back
  cut-ordered = omega (arith, spans-long)

  pub cut-known : {room : ℕ} → plan.parts.front + (length bytes - plan.parts.back) ≤ room → Cut plan.parts.front plan.parts.back bytes room
  unfolding front back
  cut-known h =
      record {
        begun = omega (arith, middle-long);
        ordered = cut-ordered;
        inside = S.stands.spans_stand.spans-inside;
        fits = h;
      }
