-- The contract of the call once its pass has marked what it removes: the rows of the boundaries without a mark are the pass's, and with the records filled
-- every list is as the table says of success. Where spans and boundaries differ in number no mark is set. Assumes nothing.
use Prim.Native.Nat.{ℕ, ◌*◌, ◌/◌, ◌<◌}
use native.Mathlib.Omega.{arith}
use mathlib.Core.Path.{◌≡◌, sym, ap, ap₂, ◌∙◌}
use mathlib.Core.Bool.{Bool, false, not, cond}
use mathlib.Core.List.{List, []}
use lib.ListN.{length, get_or, drop}
use borrow.Author.Tests.{eq-eqb, ne_eqb}
use Rattle.definitions.specs.Limits.{numbers_per_span, numbers_per_boundary}
use Rattle.definitions.specs.Scan.{member, any, only_if}
use Rattle.definitions.specs.Lists.{overwrite}
use Rattle.definitions.specs.Sort.{sort, list_lt}
use Rattle.definitions.specs.Grid.{Map, Boundary, map_of, canonical, boundary_of, span_count}
use Rattle.definitions.specs.RegionRecord.{Region}
use Rattle.definitions.specs.Context.{context_of}
use Rattle.definitions.specs.Rows.{row_key, rows_from, removed_by, removed_of, rows_of, flat_rows}
use Rattle.definitions.specs.AtExit.{records_of}
use Rattle.laws.specs.ListLaws.Scans.{collect_ext}
use Rattle.areas.proofs.Labelling.{zeroed-again}
use Rattle.rows.specs.Contract.{not_removed, kept_rows}
use Rattle.call_partition.specs.Early.{early_refusal}
use Rattle.call_partition.specs.Contract.{given, Ran}
use Rattle.call_partition.specs.Prepared.{ReadyAs}
use Rattle.call_partition.proofs.Exits.{ran_complete}
use Rattle.pass_lists.specs.Finished.{Finished, MarkedBy, Marked}
use Rattle.pass_lists.proofs.AfterPartition.{spans-lent, boundaries-lent, boundary-lent}

-- ---- the rows

-- the boundaries below n alone decide
pub rows_same : (n : ℕ) (b c : ℕ → Boundary) (f g : ℕ → Bool) → ((i : ℕ) → i < n → b i ≡ c i) → ((i : ℕ) → i < n → f i ≡ g i) → rows_from n b f ≡ rows_from n c g
unfolding rows_from
rows_same n b c f g same kept =
    ap (sort (λ r s. list_lt (row_key r) (row_key s)))
    (collect_ext n (λ i. only_if (f i) (record { number = i; line = canonical (b i).endpoints })) (λ i. only_if (g i) (record { number = i; line = canonical (c i).endpoints }))
    (λ i l. ap₂ (λ t s. only_if t (record { number = i; line = canonical s.endpoints })) (kept i l) (same i l)))

module _ (pass w h : ℕ) (cells spans boundaries anchors : List ℕ) where
  abbrev M : Map
  M = map_of w h cells spans boundaries anchors

  pub kept_rows_lem : (removed : List Bool) → Marked pass M removed → kept_rows boundaries (length boundaries / numbers_per_boundary) removed ≡ rows_of pass M
  unfolding rows_of
  kept_rows_lem removed K =
      let n = boundaries-lent w h cells spans boundaries anchors in
      rows_same (length boundaries / numbers_per_boundary) _ (boundary_of M) (not_removed removed) (λ i. not (member i (removed_of pass M))) (λ i l. sym (boundary-lent w h cells spans boundaries anchors i l))
      (λ i l. ap not (K i (omega (arith, n, l))))
      ∙ ap (λ n. rows_from n (boundary_of M) (λ i. not (member i (removed_of pass M)))) (sym n)

  -- ---- the marks

  spans-counted : span_count M ≡ length spans / numbers_per_span
  unfolding context_of
  spans-counted = spans-lent w h cells spans boundaries anchors

  -- of equal numbers of spans and boundaries: what the pass marked over the context
  pub marked-equal : length boundaries / numbers_per_boundary ≡ length spans / numbers_per_span → (removed : List Bool) → MarkedBy pass (context_of M) removed → Marked pass M removed
  unfolding removed_of
  marked-equal same removed K i l =
      K i (omega (arith, spans-lent w h cells spans boundaries anchors, boundaries-lent w h cells spans boundaries anchors, same, l))
      ∙ ap (λ b. member i (cond b (removed_by pass (context_of M)) [])) (sym (eq-eqb (length M.boundaries) (span_count M) (boundaries-lent w h cells spans boundaries anchors ∙ same ∙ sym spans-counted)))

  -- of different numbers: none
  pub marked_none : (length boundaries / numbers_per_boundary ≡ length spans / numbers_per_span → ⊥) → (removed : List Bool) → ((i : ℕ) → i < length boundaries / numbers_per_boundary → get_or removed i false ≡ false) → Marked pass M removed
  unfolding removed_of member any
  marked_none differ removed K i l =
      K i (omega (arith, boundaries-lent w h cells spans boundaries anchors, l))
      ∙ ap (λ b. member i (cond b (removed_by pass (context_of M)) [])) (sym (ne_eqb (length M.boundaries) (span_count M) (λ e. differ (sym (boundaries-lent w h cells spans boundaries anchors) ∙ e ∙ spans-counted))))

-- ---- the whole call

module _ {pass w h : ℕ} {cells spans boundaries anchors : List ℕ} {room output : ℕ} {l m q t p : List ℕ} {regions rows : ℕ} {l' m' q' t' p' : List ℕ}
    (R : ReadyAs pass w h cells spans boundaries anchors room output l m q t p regions rows l' m' q' t' p') where
  -- Records s and output o were lent. Masks and queue have become m₂ and q₂ since they were prepared, over the needed length alone, and `finish` has marks
  -- that say what the pass removes.
  pub ran-kept : (s : List Region) (o : List ℕ) {removed : List Bool} {m₂ q₂ m₃ q₃ o₃ : List ℕ} {s' : List Region} {n : ℕ} → length s ≡ room → length o ≡ output
      → s' ≡ overwrite (records_of (context_of (map_of w h cells spans boundaries anchors))) s → drop (h * w) m₂ ≡ drop (h * w) m' → drop (h * w) q₂ ≡ drop (h * w) q'
      → Marked pass (map_of w h cells spans boundaries anchors) removed → Finished (h * w) (length boundaries / numbers_per_boundary) boundaries removed m₂ q₂ o m₃ q₃ o₃ n
      → Ran (given pass w h cells spans boundaries anchors l m q t p s o) (record { number = 0; value = n }) l' m₃ q₃ t' p' s' o₃
  ran-kept s o {removed} {m₂} {q₂} long wide filled em eq K F =
      let k = kept_rows_lem pass w h cells spans boundaries anchors removed K in
      ran_complete pass w h cells spans boundaries anchors l m q t p s o
      (R.accepted ∙ ap (early_refusal pass w h cells spans boundaries anchors (length l) (length m) (length q) (length t)) (sym wide))
      (record { filled = R.filled; masks = F.masks ∙ zeroed-again (h * w) m m₂ (em ∙ R.masks); queue = F.queue ∙ zeroed-again (h * w) q q₂ (eq ∙ R.queue) })
      (omega (arith, R.enough, long)) R.tallied R.fits R.paired filled (F.output ∙ ap (λ r. overwrite (flat_rows r) o) k) _ (F.rows ∙ ap length k)
