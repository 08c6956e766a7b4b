-- Spans compared with the boundaries one by one, where both stand: one span more that is a boundary's endpoints, and what holds of spans that are all endpoints.
-- Assumes nothing.
use Prim.Native.Nat.{ℕ, zero, suc, ◌+◌, ◌-◌, ◌*◌, ◌≤◌, ◌<◌}
use native.Mathlib.Omega.{arith}
use mathlib.Core.Path.{◌≡◌, refl, sym, ap, ap₂, ◌∙◌}
use mathlib.Core.Bool.{Bool, true, false, not, true≢false}
use mathlib.Core.List.{List, ◌++◌}
use lib.ListN.{length, take, drop}
use lib.Seq.{take_all, take-add, take-take}
use borrow.Author.Tests.{not-true, not-false}
use Rattle.std.specs.Str.{bytes_eq}
use Rattle.std.proofs.lemmas.Slice.Eq.{bytes_eq-Decides}
use Rattle.std.proofs.lemmas.List.{append_cancel_left, take-append-le}
use Rattle.definitions.specs.Scan.{gather}
use Rattle.definitions.specs.Grid.{segment_at}
use Rattle.definitions.specs.Sheet.{endpoints, endpoints_in}
use Rattle.laws.specs.OrderLaws.ListOrder.{Three, less, same, over, three}
use Rattle.laws.specs.SheetReading.Endpoints.{endpoints-long, endpoints_more}
use Rattle.sheet.proofs.Endpoints.{endpoints-taken}

-- the first numbers of a list from k on, at most four, are the first of a segment there
part-of-segment : (l : List ℕ) (k n : ℕ) → k + 4 ≤ length l → n ≤ 4 → take n (drop k l) ≡ take n (endpoints (segment_at l k))
part-of-segment l k n h few =
    let four : 4 ≡ k + 4 - k = omega arith in
    sym (take-take n 4 (drop k l) few) ∙ ap (take n) (ap (λ m. take m (drop k l)) four ∙ endpoints-taken l k h)

-- the span behind the first ones
span-behind : (i : ℕ) (spans : List ℕ) → 4 * i + 4 ≤ length spans → take (4 * (i + 1)) spans ≡ take (4 * i) spans ++ endpoints (segment_at spans (4 * i))
span-behind i spans h =
    let next : 4 * (i + 1) ≡ 4 * i + 4 = omega arith in
    ap (λ n. take n spans) next ∙ take-add (4 * i) 4 spans ∙ ap (λ r. take (4 * i) spans ++ r) (part-of-segment spans (4 * i) 4 h (omega arith))

pub span_more : (i : ℕ) (spans boundaries : List ℕ) → 4 * i + 4 ≤ length spans → endpoints_in i boundaries ≡ take (4 * i) spans
    → endpoints (segment_at spans (4 * i)) ≡ endpoints (segment_at boundaries (9 * i)) → endpoints_in (i + 1) boundaries ≡ take (4 * (i + 1)) spans
span_more i spans boundaries h before e =
    endpoints_more i boundaries ∙ ap (λ l. l ++ endpoints (segment_at boundaries (9 * i))) before ∙ ap (λ r. take (4 * i) spans ++ r) (sym e)
    ∙ sym (span-behind i spans h)

-- the endpoints of the first boundaries begin those of more
begins : (i n : ℕ) (boundaries : List ℕ) → i ≤ n → take (4 * i) (endpoints_in n boundaries) ≡ endpoints_in i boundaries
unfolding endpoints_in gather
begins zero zero boundaries h = refl
begins (suc i) zero boundaries h = absurd (omega arith)
begins i (suc n) boundaries h = go (three i (suc n)) (begins i n boundaries)
  where
    go : Three i (suc n) → (i ≤ n → take (4 * i) (endpoints_in n boundaries) ≡ endpoints_in i boundaries)
        → take (4 * i) (endpoints_in (suc n) boundaries) ≡ endpoints_in i boundaries
    go (less p) before = take-append-le (4 * i) _ _ (omega (arith, p, endpoints-long n boundaries)) ∙ before (omega (arith, p))
    go (same p) before = take_all _ _ (omega (arith, endpoints-long (suc n) boundaries)) ∙ ap (λ k. endpoints_in k boundaries) (sym p)
    go (over p) before = absurd (omega arith)

-- the first numbers of a span and of a boundary, at most four, compared where they stand
module _ {differ : Bool} (spans boundaries : List ℕ) (k j : ℕ) {n m : ℕ} (h : k + 4 ≤ length spans) (g : j + 4 ≤ length boundaries) (p : n ≤ 4) (q : m ≤ 4)
    (e : differ ≡ not (bytes_eq (take n (drop k spans)) (take m (drop j boundaries)))) where
  abbrev pub span : List ℕ
  span = endpoints (segment_at spans k)

  abbrev pub ends : List ℕ
  ends = endpoints (segment_at boundaries j)

  of-segments : differ ≡ not (bytes_eq (take n span) (take m ends))
  of-segments = e ∙ (λ t. not (bytes_eq (part-of-segment spans k n h p t) (part-of-segment boundaries j m g q t)))

  pub agreeing : n ≡ 4 → m ≡ 4 → differ ≡ false → span ≡ ends
  agreeing all all' f =
      sym (take_all n span (omega (arith, all))) ∙ (bytes_eq-Decides (take n span) (take m ends)).0 (not-false _ (sym of-segments ∙ f)) ∙ take_all m ends (omega (arith, all'))

  pub differing : n ≡ m → differ ≡ true → span ≡ ends → ⊥
  differing as_many f s =
      true≢false (sym ((bytes_eq-Decides (take n span) (take m ends)).1 (ap₂ take as_many s)) ∙ not-true _ (sym of-segments ∙ f))

-- where all spans are endpoints, each is those of its boundary
pub span_is : (i n : ℕ) (spans boundaries : List ℕ) → i < n → spans ≡ endpoints_in n boundaries
    → endpoints (segment_at spans (4 * i)) ≡ endpoints (segment_at boundaries (9 * i))
span_is i n spans boundaries h e =
    let long : length spans ≡ 4 * n = ap length e ∙ endpoints-long n boundaries in
    let front : take (4 * i) spans ≡ endpoints_in i boundaries = ap (take (4 * i)) e ∙ begins i n boundaries (omega arith) in
    let more : take (4 * (i + 1)) spans ≡ endpoints_in (i + 1) boundaries = ap (take (4 * (i + 1))) e ∙ begins (i + 1) n boundaries (omega arith) in
    append_cancel_left (take (4 * i) spans) _ _
    (sym (span-behind i spans (omega (arith, long, h))) ∙ more ∙ endpoints_more i boundaries ∙ ap (λ l. l ++ endpoints (segment_at boundaries (9 * i))) (sym front))
