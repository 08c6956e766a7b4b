-- The rows that are found, of which the records allow some, are the proposals of the context that the lists show; and what a caller has to show of those lists. Assumes nothing.
use Prim.Native.Nat.{ℕ, zero, suc, ◌≤◌, ◌<◌}
use native.Mathlib.Omega.{arith}
use mathlib.Core.Path.{◌≡◌, refl, sym, ap, ap₂, ◌∙◌}
use mathlib.Core.Bool.{Bool, true, false}
use Rattle.std.specs.Prelude.{Option, None, Some, IfSome}
use mathlib.Core.List.{List, ◌++◌}
use lib.Dec.{ltb}
use borrow.Author.Tests.{ltb-true, ltb-false}
use Rattle.definitions.specs.Scan.{collect, filter, to_list}
use Rattle.definitions.specs.Context.{Context, full_pair}
use Rattle.definitions.specs.Junctions.{union_proposal, bridge_proposal, proposals}
use Rattle.laws.specs.ListLaws.Lists.{All, done, more, all_append, all_split, filter-append}
use Rattle.laws.specs.ListLaws.ScansOfAll.{collect-below}
use Rattle.laws.specs.ListLaws.Options.{on_list, on_only}
use Rattle.laws.specs.RustJunctions.FormedProposals.{full-all}
use Rattle.junction_proposals.specs.Lent.{LentPairs, Lent, Shows}
use Rattle.definitions.specs.Grid.{Pair}
use Rattle.junction_proposals.specs.Ports.{pair_of}
use Rattle.junction_proposals.specs.Unions.{shape_at}
use Rattle.junction_proposals.specs.Bridges.{is_bridge_at}
use Rattle.junction_proposals.specs.Rows.{row_at, rows_of, union_of, union_at, is_allowed, RowFits}
use Rattle.junction_proposals.specs.declared.proposals.Candidate.{Candidate}
use Rattle.junction_proposals.proofs.UnionRows.{of_some, union-row}
use Rattle.junction_proposals.proofs.BridgeRows.{bridge-row}
use Rattle.junction_proposals.proofs.BridgeIndex.{bridge_fits_lem}
use Rattle.region_pairs.specs.declared.Pair as declared

-- ---- what is collected

pub collect-filter : {A : Type 0} (f : A → Bool) (n : ℕ) (g h : ℕ → Option A) → ((i : ℕ) → i < n → filter f (to_list (g i)) ≡ to_list (h i)) → filter f (collect n g) ≡ collect n h
unfolding collect filter
collect-filter f zero g h e = refl
collect-filter f (suc n) g h e = filter-append f (collect n g) (to_list (g n)) ∙ ap₂ ◌++◌ (collect-filter f n g h (λ i l. e i (omega arith))) (e n (omega arith))

collected_at : {A : Type 0} {P : A → Type 0} (g : ℕ → A) (n : ℕ) → All P (collect n (λ k. Some (g k))) → (k : ℕ) → k < n → P (g k)
unfolding collect
collected_at g zero a k l = absurd (omega arith)
collected_at {A} {P} g (suc n) a k l = go (all_split (collect n (λ k. Some (g k))) a) (ltb k n) refl (λ b. collected_at g n b k)
  where
    one : {x : A} → All P (to_list (Some x)) → P x
    one (more h done) = h

    go : All P (collect n (λ k. Some (g k))) × All P (to_list (Some (g n))) → (b : Bool) → ltb k n ≡ b → (All P (collect n (λ k. Some (g k))) → k < n → P (g k)) → P (g k)
    go s true e ih = ih s.0 (ltb-true k n e)
    go s false e ih = rw last (one s.1)
      where
        last : k ≡ n
        last = omega (arith, ltb-false k n e)

-- ---- the rows

-- the lists, at the context's own counts
pub shows-own : {boundaries : List ℕ} {full : List (Option declared.Pair)} {counts marks : List ℕ} {count regions : ℕ} {C : Context} → Shows boundaries full counts marks count regions C → Shows boundaries full counts marks C.count C.regions C
shows-own s =
    record {
      counted = refl;
      labelled = refl;
      labels = omega (arith, s.labels, s.labelled);
      bounds = s.bounds;
      pairs = s.pairs;
      incidents = s.incidents;
      anchored = s.anchored;
      sound = s.sound;
      pixels = s.pixels;
    }

module _ (boundaries : List ℕ) (full : List (Option declared.Pair)) (counts marks : List ℕ) (rows : List Candidate) (count regions n : ℕ) (are : rows_of rows n ≡ collect count (union_at boundaries full counts marks count) ++ collect regions (λ k. is_bridge_at boundaries full marks (suc k) counts count)) where
  pub rows-proposed : (C : Context) → Shows boundaries full counts marks count regions C → filter (is_allowed C) (rows_of rows n) ≡ proposals C
  unfolding proposals
  rows-proposed C s =
      ap (filter (is_allowed C)) (are ∙ (λ t. collect (sym s.counted t) (union_at boundaries full counts marks (sym s.counted t)) ++ collect (sym s.labelled t) (λ k. is_bridge_at boundaries full marks (suc k) counts (sym s.counted t))))
      ∙ filter-append (is_allowed C) (collect C.count (union_at boundaries full counts marks C.count)) (collect C.regions (λ k. is_bridge_at boundaries full marks (suc k) counts C.count))
      ∙ ap₂ ◌++◌ (collect-filter (is_allowed C) C.count _ (union_proposal C) (union-row boundaries full counts marks C (shows-own s)))
      (collect-filter (is_allowed C) C.regions _ (λ k. bridge_proposal C (suc k)) (λ k l. bridge-row boundaries full counts marks C (shows-own s) (suc k) (omega arith) (omega arith)))

  union-fits : LentPairs full count regions → (i : ℕ) → i < count → All (RowFits count regions) (to_list (union_at boundaries full counts marks count i))
  unfolding union_at
  union-fits pairs i l = go (pair_of full i) (pairs.named i l)
    where
      go : (o : Option Pair) → IfSome o (λ p. (1 ≤ p.lo) × ((p.lo < p.hi) × (p.hi ≤ regions))) → All (RowFits count regions) (to_list (union_of boundaries full counts marks count i o))
      go None h = done
      go (Some p) h = on_list (on_only (shape_at boundaries full count i p counts marks) (record { index = i; kind = 0; first = p.lo; second = p.hi }) (record { index_in = l; kind_in_lem = omega arith; first_from = h.0; first_to = omega (arith, h); second_from = omega (arith, h); second_to = h.1.1 }))

  pub rows_fit : LentPairs full count regions → (k : ℕ) → k < n → RowFits count regions (row_at rows k)
  unfolding rows_of
  rows_fit pairs =
      collected_at {P = RowFits count regions} (row_at rows) n
      (rw are (all_append (collect-below (RowFits count regions) (union_at boundaries full counts marks count) count (union-fits pairs))
      (collect-below (RowFits count regions) (λ k. is_bridge_at boundaries full marks (suc k) counts count) regions (λ k l. on_list (bridge_fits_lem boundaries full marks (suc k) count regions pairs (omega arith) (omega arith) counts)))))

-- ---- what a caller has to show of the lists, from that they show a context

pub shows-lent : {boundaries : List ℕ} {full : List (Option declared.Pair)} {counts marks : List ℕ} {count regions : ℕ} {C : Context} → Shows boundaries full counts marks count regions C → Lent boundaries full counts marks count regions
shows-lent {boundaries} {full} {count} {regions} {C} S =
    record {
      bounds =
          record {
            few = omega (arith, S.bounds.few, S.counted);
            long = omega (arith, S.bounds.long, S.counted);
            pixels = λ i l. rw (ap (λ b. b.endpoints) (S.bounds.at i (within i l))) at (S.pixels.ends i);
            finite = λ i l. omega (arith, ap (λ b. b.width_bits) (S.bounds.at i (within i l)), S.sound.finite i (within i l));
          };
      pairs = record { named = λ i l. named i (within i l) (pair_of full i) refl };
      counts_long = omega (arith, S.incidents.long, S.labelled);
      marks_long = omega (arith, S.anchored.long, S.labelled);
      labels = S.labels;
    }
  where
    within : (i : ℕ) → i < count → i < C.count
    within i l = omega (arith, S.counted)

    named : (i : ℕ) → i < C.count → (o : Option Pair) → pair_of full i ≡ o → IfSome o (λ p. (1 ≤ p.lo) × ((p.lo < p.hi) × (p.hi ≤ regions)))
    named i l None e = tt
    named i l (Some p) e =
        let own : full_pair C i ≡ Some p = sym (S.pairs.at i l) ∙ e in
        let ordered = of_some (full-all C (λ q. q.lo < q.hi) i (S.sound.ordered i)) own in
        let labelled = of_some (full-all C (λ q. (1 ≤ q.lo) × (q.hi ≤ C.regions)) i (S.sound.labelled i)) own in
        (labelled.0, (ordered, omega (arith, labelled.1, S.labelled)))
