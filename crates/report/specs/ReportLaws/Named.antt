-- Request 13: the boundaries that a pass removes are those whose number no row names. So they can be counted from the rows alone. The argument: the rows are those of the boundaries
-- that are not among the removed, in another order. Assumes nothing.
use Prim.Native.Nat.{ℕ, zero, suc, ◌≤◌, ◌<◌}
use native.Mathlib.Omega.{arith}
use Rattle.std.specs.Prelude.{◌≡◌, Bool, not, ◌&&◌, List, length, ltb}
use Rattle.std.proofs.Math.Path.{refl, ap, ap₂}
use Rattle.std.proofs.Common.{sym, ◌∙◌, ltb-true, ltb-false, eq-eqb, ne_eqb}
use Rattle.std.proofs.Math.Bool.{true, false, ◌||◌, or-false, not-not}
use Rattle.std.proofs.Math.Dec.{eqb}
use Rattle.definitions.specs.Scan.{any, count_below, collect, to_list, only_if, member}
use Rattle.definitions.specs.Sort.{list_lt}
use Rattle.definitions.specs.Grid.{Map, canonical, boundary_of}
use Rattle.definitions.specs.Rows.{Row, row_key, rows_from, removed_of, rows_of}
use Rattle.laws.specs.ListLaws.Below.{count_ext}
use Rattle.laws.specs.ListLaws.Lists.{any_append}
use Rattle.laws.specs.ListLaws.SortedMembers.{any-sort}
use Rattle.report.specs.Runs.{figures_from, figures_of}

-- a row has this number
unfoldable pub named : List Row → ℕ → Bool
unfolding any
named rows i = any (λ r. eqb r.number i) rows

-- how many numbers below n no row has
unfoldable pub unnamed_below : ℕ → List Row → ℕ
unfolding count_below named
unnamed_below n rows = count_below n (λ i. not (named rows i))

module _ (keep : ℕ → Bool) (row : ℕ → Row) (own : (i : ℕ) → (row i).number ≡ i) where
  abbrev picked : ℕ → List Row
  picked n = collect n (λ i. only_if (keep i) (row i))

  last_named : (n i : ℕ) → any (λ r. eqb r.number i) (to_list (only_if (keep n) (row n))) ≡ (keep n && eqb n i)
  unfolding any
  last_named n i = go (keep n)
    where
      go : (b : Bool) → any (λ r. eqb r.number i) (to_list (only_if b (row n))) ≡ (b && eqb n i)
      go true = or-false (eqb (row n).number i) ∙ ap (λ k. eqb k i) (own n)
      go false = refl

  named_next : (n i : ℕ) → named (picked (suc n)) i ≡ (named (picked n) i || (keep n && eqb n i))
  unfolding named collect
  named_next n i = any_append (λ r. eqb r.number i) (picked n) (to_list (only_if (keep n) (row n))) ∙ ap (λ b. named (picked n) i || b) (last_named n i)

  no_and : (b : Bool) → (b && false) ≡ false
  no_and true = refl
  no_and false = refl

  and_yes : (b : Bool) → (b && true) ≡ b
  and_yes true = refl
  and_yes false = refl

  none_above : (n i : ℕ) → n ≤ i → named (picked n) i ≡ false
  unfolding named any collect
  none_above zero i h = refl
  none_above (suc n) i h =
      let other : n ≡ i → ⊥ = λ e. omega arith in
      named_next n i ∙ ap₂ ◌||◌ (none_above n i (omega arith)) (ap (λ b. keep n && b) (ne_eqb n i other) ∙ no_and (keep n))

  named-picked : (n i : ℕ) → i < n → named (picked n) i ≡ keep i
  named-picked zero i h = absurd (omega arith)
  named-picked (suc n) i h = named_next n i ∙ go (ltb i n) refl (named-picked n i)
    where
      go : (b : Bool) → ltb i n ≡ b → (i < n → named (picked n) i ≡ keep i) → (named (picked n) i || (keep n && eqb n i)) ≡ keep i
      go true e ih =
          let l = ltb-true i n e in
          let other : n ≡ i → ⊥ = λ s. omega arith in
          ap₂ ◌||◌ (ih l) (ap (λ b. keep n && b) (ne_eqb n i other) ∙ no_and (keep n)) ∙ or-false (keep i)
      go false e ih =
          let l = ltb-false i n e in
          let same : n ≡ i = omega arith in
          ap₂ ◌||◌ (none_above n i l) (ap (λ b. keep n && b) (eq-eqb n i same) ∙ and_yes (keep n)) ∙ ap keep same

pub removed-unnamed : (pass : ℕ) (M : Map) → (figures_of pass M).removed ≡ unnamed_below (length M.boundaries) (rows_of pass M)
unfolding figures_of figures_from unnamed_below named rows_of rows_from
removed-unnamed pass M =
    let gone : ℕ → Bool = λ i. member i (removed_of pass M) in
    let row : ℕ → Row = λ i. record { number = i; line = canonical (boundary_of M i).endpoints } in
    let kept : List Row = collect (length M.boundaries) (λ i. only_if (not (gone i)) (row i)) in
    count_ext (length M.boundaries) gone (λ i. not (named (rows_of pass M) i))
    (λ i l.
    sym (not-not (gone i))
    ∙ ap not (sym (any-sort (λ r s. list_lt (row_key r) (row_key s)) (λ r. eqb r.number i) kept ∙ named-picked (λ i. not (gone i)) row (λ i. refl) (length M.boundaries) i l)))
