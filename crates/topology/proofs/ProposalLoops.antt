-- The loop of `allow_proposals`: what `is_allowed` asks is at hand, and one mark more. And what the parts of pass 3 ask of one another. Assumes nothing.
use Prim.Native.Nat.{ℕ, ◌+◌, ◌-◌, ◌≤◌, ◌<◌}
use native.Mathlib.Omega.{arith}
use mathlib.Core.Path.{◌≡◌, sym, ap, ◌∙◌, subst}
use mathlib.Core.Logic.{⊎_elim}
use mathlib.Core.Bool.{Bool, false}
use Rattle.std.specs.Prelude.{Option, Some}
use mathlib.Core.List.{List}
use lib.ListN.{length, take, get_or, set, length-set}
use lib.Seq.{get_or-set_same, get_or-set_other, get_or-take, length-take-le}
use Rattle.definitions.specs.Scan.{collect, filter}
use Rattle.definitions.specs.Context.{Context}
use Rattle.laws.specs.ListLaws.Scans.{collect_ext}
use Rattle.laws.specs.NumberLaws.Comparisons.{last_or}
use Rattle.context.specs.declared.Region.{Region}
use Rattle.region_pairs.specs.declared.Pair.{Pair}
use Rattle.junction_proposals.specs.declared.proposals.Candidate.{Candidate}
use Rattle.junction_proposals.specs.Rows.{max_proposals, nothing, form, row_at, rows_of, RowFits, is_allowed}
use Rattle.junction_selection.specs.Taken.{Judged, removed_at}
use Rattle.junction_selection.proofs.Passing.{pass-removed}
use Rattle.junction_regions.specs.Asked.{Asked}
use Rattle.topology.specs.Held.{record_is}
use Rattle.topology.specs.Proposals.{Allows, Allowed, Passes, Proposed, Unmarked, Removes}

-- the records of row k's regions were read at i and j
pub asked : {C : Context} {records : List Region} {boundaries marks : List ℕ} {rows : List Candidate} {n k i j : ℕ} {first second : Region} → Allows C records boundaries marks rows n → k < n
    → i ≡ (row_at rows k).first - 1 → ((d : Region) → first ≡ get_or records i d) → j ≡ (row_at rows k).second - 1 → ((d : Region) → second ≡ get_or records j d)
    → Asked C boundaries marks (get_or rows k nothing) first second
asked {k = k} h l p a q b =
    record {
      told = h.told;
      fits = h.fits k l;
      first_is = record_is h.held p (h.fits k l).first_from (h.fits k l).first_to a;
      second_is = record_is h.held q (h.fits k l).second_from (h.fits k l).second_to b;
    }

pub allowed_more : {C : Context} {rows : List Candidate} {k : ℕ} {allowed : List Bool} (r : Bool) → k < length allowed → Allowed C rows k allowed → r ≡ is_allowed C (row_at rows k)
    → Allowed C rows (k + 1) (set allowed k r)
allowed_more {C} {rows} {k} {allowed} r l h e = record { long = length-set allowed k r ∙ h.long; at = λ j m. ⊎_elim (here j) (there j) (last_or j k (omega arith)) }
  where
    here : (j : ℕ) → j ≡ k → get_or (set allowed k r) j false ≡ is_allowed C (row_at rows j)
    here j s = rw s (get_or-set_same allowed k r false l ∙ e)

    there : (j : ℕ) → j < k → get_or (set allowed k r) j false ≡ is_allowed C (row_at rows j)
    there j b = get_or-set_other allowed k j r false (λ s. omega (arith, s)) ∙ h.at j b

module _ {C : Context} {records : List Region} {boundaries : List ℕ} {full : List (Option Pair)} {counts marks : List ℕ} {rows : List Candidate} {count regions n : ℕ} (h : Passes C records boundaries full counts marks count regions)
    (few : n ≤ max_proposals) (room : max_proposals ≤ length rows) (fits : (k : ℕ) → k < n → RowFits count regions (row_at rows k)) where
  pub pass_allows : Allows C records boundaries marks rows n
  pass_allows =
      record {
        held = h.held;
        told = record { bounds = h.shown.bounds; anchored = h.shown.anchored; pixels = h.shown.pixels; counted = h.counted };
        few = few;
        whole = omega arith;
        fits = λ k l. rw (h.shown.counted, h.shown.labelled) (fits k l);
      }

-- what is asked of the first n rows is asked of them as a list of their own, and what is answered of that list is answered of them
pub allows-front : {C : Context} {records : List Region} {boundaries marks : List ℕ} {rows : List Candidate} {n : ℕ} → Allows C records boundaries marks rows n
    → Allows C records boundaries marks (take n rows) (length (take n rows))
allows-front {C} {rows = rows} {n = n} h =
    let size = length-take-le n rows h.whole in
    record {
      held = h.held;
      told = h.told;
      few = omega (arith, size, h.few);
      whole = omega arith;
      fits = λ k b. subst (λ r. RowFits C.count C.regions (form r)) (sym (get_or-take n rows k nothing (omega (arith, b, size)))) (h.fits k (omega (arith, b, size)));
    }

pub allowed-front : {C : Context} {rows : List Candidate} {n : ℕ} {allowed : List Bool} → n ≤ length rows → Allowed C (take n rows) (length (take n rows)) allowed → Allowed C rows n allowed
allowed-front {C} {rows} {n} l a =
    record {
      long = a.long;
      at = λ k b. a.at k (omega (arith, b, length-take-le n rows l)) ∙ ap (λ r. is_allowed C (form r)) (get_or-take n rows k nothing b);
    }

-- of the first n rows the same is said as of the list that they are cut off from
pub proposed-front : {C : Context} {rows : List Candidate} {allowed : List Bool} {count regions n : ℕ} → n ≤ length rows → Proposed C count regions rows allowed n
    → Proposed C count regions (take n rows) allowed (length (take n rows))
unfolding rows_of
proposed-front {C} {rows} {allowed} {count} {regions} {n} l p =
    record {
      few = omega (arith, size, p.few);
      fits = λ k b. subst (λ r. RowFits count regions (form r)) (sym (row k (omega (arith, b, size)))) (p.fits k (omega (arith, b, size)));
      are =
          ap (λ m. filter (is_allowed C) (collect m (λ k. Some (row_at (take n rows) k)))) size
          ∙ ap (filter (is_allowed C)) (collect_ext n (λ k. Some (row_at (take n rows) k)) (λ k. Some (row_at rows k)) (λ k b. ap (λ r. Some (form r)) (row k b))) ∙ p.are;
      judged = record { long = p.judged.long; at = λ k b. p.judged.at k (omega (arith, b, size)) ∙ ap (λ r. is_allowed C (form r)) (sym (row k (omega (arith, b, size)))) };
    }
  where
    size : length (take n rows) ≡ n
    size = length-take-le n rows l

    row : (k : ℕ) → k < n → get_or (take n rows) k nothing ≡ get_or rows k nothing
    row k b = get_or-take n rows k nothing b

-- the rows are what pass 3 proposes
module _ {C : Context} {records : List Region} {boundaries : List ℕ} {full : List (Option Pair)} {counts marks : List ℕ} {rows : List Candidate} {allowed : List Bool} {count regions n : ℕ}
    (h : Passes C records boundaries full counts marks count regions) (p : Proposed C count regions rows allowed n) where
  pub pass-judged : {marked : List Bool} → n ≡ length rows → Unmarked marked count → Judged boundaries rows allowed marked count
  pass-judged whole u =
      record {
        few = omega (arith, p.few, whole);
        long = omega (arith, h.shown.bounds.long, h.shown.counted);
        small = omega (arith, h.shown.bounds.few, h.shown.counted);
        below = λ k l. (p.fits k (omega (arith, l, whole))).index_in;
        judged = omega (arith, p.few, p.judged.long, whole);
        removed-long = u.long;
        clear = u.clear;
      }

  pub pass-removes : {marked : List Bool} → ((j : ℕ) → j < count → get_or marked j false ≡ removed_at boundaries full rows allowed count n j) → Removes C count marked
  pass-removes {marked} selected = record { at = pass-removed boundaries full counts marks rows allowed marked count regions n C h.shown p.are p.judged.at selected }
