-- The parts of `mark_removed`: of the viewed lists, as much as there are regions is what the pass is lent, and what stands beyond is as it was, since a map
-- has no more regions than cells. Assumes nothing.
use Prim.Native.Nat.{ℕ, ◌+◌, ◌-◌, ◌/◌, ◌%◌, ◌≤◌}
use native.Mathlib.Omega.{arith}
use mathlib.Core.Path.{◌≡◌, refl, sym, ap, ◌∙◌}
use mathlib.Core.Bool.{Bool}
use mathlib.Core.List.{List, ◌++◌}
use Rattle.std.specs.Prelude.{Option}
use lib.ListN.{length, get_or, take, drop}
use lib.Dec.{eqb}
use lib.Seq.{length-take-le, length_front, get_or-take, drop-drop, drop_at}
use Rattle.definitions.specs.Limits.{numbers_per_boundary}
use Rattle.definitions.specs.Grid.{Map}
use Rattle.definitions.specs.Context.{Context, context_of}
use Rattle.laws.specs.ListLaws.Beyond.{Beyond}
use Rattle.context.specs.declared.Region.{Region}
use Rattle.region_pairs.specs.declared.Pair.{Pair}
use Rattle.pass_lists.specs.Contract.{Viewed}
use Rattle.pass_lists.proofs.Viewing.{regions-within}
use Rattle.topology.specs.Marks.{Shows, Removed, Lent, MarkedFor}

-- a change up to n, and then one of the first k, which have become l
beyond-both : {n k : ℕ} {a b : List ℕ} (l : List ℕ) → Beyond n a b → length l ≡ length (take k b) → k ≤ n → k ≤ length b → Beyond n a (l ++ drop k b)
beyond-both {n} {k} {a} {b} l f same h room =
    let s : k + (n - k) ≡ n = omega arith in
    let first : drop k (l ++ drop k b) ≡ drop k b = drop_at l (drop k b) k (same ∙ length-take-le k b room) in
    record {
      long = length_front b l k same ∙ f.long;
      rest = ap (λ i. drop i (l ++ drop k b)) (sym s) ∙ sym (drop-drop (n - k) k (l ++ drop k b)) ∙ ap (drop (n - k)) first ∙ drop-drop (n - k) k b ∙ ap (λ i. drop i b) s ∙ f.rest;
    }

module _ (M : Map) {records : List Region} {w needed : ℕ} {labels anchors : List ℕ} {regions rows count : ℕ} {boundaries tallies pairs : List ℕ} {masks queue : ℕ}
    (L : Lent M records w needed labels anchors regions rows count boundaries tallies pairs masks queue) where
  abbrev C : Context
  C = context_of M

  labelled : C.regions ≡ regions
  unfolding context_of
  labelled = sym L.partitioned.regions_are

  -- the pass does not run
  pub unmarked_lent : {pass : ℕ} {m q : List ℕ} {was : List Bool} → (length boundaries / numbers_per_boundary ≡ count → ⊥) → MarkedFor pass M needed count boundaries m q m q was was
  unmarked_lent d = record { equal = λ e. absurd (d e); differ = λ _. refl; masks = record { long = refl; rest = refl }; queue = record { long = refl; rest = refl } }

  module _ {m q m' q' starts : List ℕ} {full : List (Option Pair)} (same : length boundaries / numbers_per_boundary ≡ count) (S : Viewed M needed pairs m q m' q' starts full) where
    pub marks_long_lem : regions ≤ length m'
    marks_long_lem = omega (arith, labelled, S.shown_anchored.long)

    pub counts_long_lem : regions ≤ length q'
    counts_long_lem = omega (arith, labelled, S.shown_incidents.long)

    pub lent-shows : Shows C records regions count boundaries tallies pairs starts full (take regions m') (take regions q')
    lent-shows =
        record {
          on_map = L.on_map;
          labelled = labelled;
          counted = L.partitioned.paired.counted;
          held = L.held;
          bounds = L.bounds same;
          tallied = L.partitioned.tallied;
          paired = S.shown_pairs;
          shown_full = S.shown_full;
          anchored =
              record {
                long = omega (arith, labelled, length-take-le regions m' marks_long_lem);
                at = λ r from upto. S.shown_anchored.at r from upto ∙ ap (λ v. eqb (v % 2) 1) (sym (first m' r from upto));
              };
          fresh = λ r from upto. omega (arith, first m' r from upto, S.fresh r from upto);
          incidents =
              record {
                long = omega (arith, labelled, length-take-le regions q' counts_long_lem);
                at = λ r from upto. S.shown_incidents.at r from upto ∙ sym (first q' r from upto);
              };
        }
      where
        first : (l : List ℕ) (r : ℕ) → 1 ≤ r → r ≤ C.regions → get_or (take regions l) (r - 1) 0 ≡ get_or l (r - 1) 0
        first l r from upto = get_or-take regions l (r - 1) 0 (omega (arith, labelled))

    -- the pass leaves m'' and q'' of what it is lent
    pub marked-lent : {pass : ℕ} (m'' q'' : List ℕ) {was removed : List Bool} → length m'' ≡ length (take regions m') → length q'' ≡ length (take regions q') → Removed pass C removed
        → MarkedFor pass M needed count boundaries m q (m'' ++ drop regions m') (q'' ++ drop regions q') was removed
    marked-lent m'' q'' lm lq r =
        record {
          equal = λ _. r.marked;
          differ = λ d. absurd (d same);
          masks = beyond-both m'' S.masks lm (regions-within M L.partitioned) marks_long_lem;
          queue = beyond-both q'' S.queue lq (regions-within M L.partitioned) counts_long_lem;
        }
