-- What the loop of `prepare` leaves is what its contract says; and what the lists say of the rows of an ordinary full cut. Assumes nothing.
use Prim.Native.Nat.{ℕ, suc, ◌+◌, ◌-◌, ◌%◌, ◌≤◌, ◌<◌}
use native.Mathlib.Omega.{arith}
use mathlib.Core.Path.{◌≡◌, refl, sym, ap, ap₂, subst, ◌∙◌}
use native.Mathlib.Numerals.{add-one}
use mathlib.Core.Bool.{Bool, true, false, cond}
use mathlib.Core.List.{List, [], ◌++◌}
use lib.ListN.{length, get_or, take, drop, length-drop}
use lib.Seq.{drop-append_seam}
use Rattle.std.proofs.Common.{length-append}
use Rattle.std.proofs.Math.ListN.{get_or-append}
use Rattle.std.proofs.lemmas.List.{get_or-take}
use lib.Dec.{eqb}
use Rattle.definitions.specs.Scan.{gather}
use Rattle.definitions.specs.Grid.{Pair}
use Rattle.definitions.specs.Partition.{merge_all}
use Rattle.definitions.specs.Context.{Context}
use Rattle.definitions.specs.RampInteriors.{is_ordinary, links, components}
use Rattle.laws.specs.ListLaws.Lists.{All, length_run}
use Rattle.laws.specs.RegionLaws.Merging.{run_at, merge_all-length}
use Rattle.laws.specs.ListLaws.Beyond.{Beyond}
use Rattle.context.specs.Shown.{ShownAnchored, ShownIncidents, ShownPairs, pair_at, pairs_between}
use Rattle.parents.specs.Forest.{Forest}
use Rattle.interior_proposals.specs.Forest.{class_of, Parented, Rows, Merged}
use Rattle.interior_proposals.specs.Given.{flags_of, alone, links_of, Prepared}
use Rattle.interior_proposals.proofs.RowScans.{between_at}
use Rattle.interior_proposals.proofs.Stored.{Stored}
use Rattle.interior_proposals.proofs.Forests.{renamed, merged-start, merged-then}

-- the mark to be stored at k
abbrev pub flags_at : List ℕ → List ℕ → ℕ → ℕ
flags_at marks counts k = flags_of (eqb (get_or marks k 0 % 2) 1) (eqb (get_or counts k 0) 1) false

pub size-alone : (C : Context) → length (alone C) ≡ suc C.regions
size-alone C = length_run 0 (suc C.regions)

module _ (C : Context) where
  named-alone : (x : ℕ) → x < length (alone C) → get_or (alone C) x 0 ≡ x
  named-alone x l = run_at (suc C.regions) x (subst (λ n. x < n) (size-alone C) l)

  -- each number is a class of its own
  pub parented-alone : {parents : List ℕ} → Forest C.regions (λ c. c) parents → Parented (alone C) parents
  parented-alone {parents} F =
      record {
        named = λ x a l. omega (arith, named-alone x l);
        classes = subst (λ n. Forest n (class_of (alone C)) parents) same (renamed {f = λ c. c} (λ c l. omega (arith, named-alone (suc c) (omega (arith, l, size-alone C)))) F);
      }
    where
      same : C.regions ≡ length (alone C) - 1
      same = omega (arith, size-alone C)

  pub prepared : {marks₀ counts₀ marks counts : List ℕ} → ((j : ℕ) → j < C.regions → get_or marks j 0 ≡ flags_at marks₀ counts₀ j) → Forest C.regions (λ c. c) counts → C.regions ≤ length marks
      → ShownAnchored C marks₀ → ShownIncidents C counts₀ → Prepared C marks counts
  prepared m F a A I =
      record {
        marked = record { long = a; at = λ x h u. m (x - 1) (omega arith) ∙ ap₂ (λ s t. flags_of s t false) (sym (A.at x h u)) (sym (ap (λ n. eqb n 1) (I.at x h u))) };
        parented = parented-alone F;
      }

-- the marks that the loop has stored before those that it leaves as they are
pub stored-front : (marks₀ counts₀ : List ℕ) {marks : List ℕ} {n k : ℕ} → n ≤ length marks₀ → length marks ≡ n → n ≤ k → Stored (flags_at (take n marks₀) counts₀) (take n marks₀) marks k
    → (j : ℕ) → j < n → get_or (marks ++ drop n marks₀) j 0 ≡ flags_at marks₀ counts₀ j
stored-front marks₀ counts₀ {marks} {n} room long all S j h =
    get_or-append marks (drop n marks₀) 0 j (omega (arith, h, long)) ∙ S.done j (omega (arith, h, all)) ∙ ap (λ m. flags_of (eqb (m % 2) 1) (eqb (get_or counts₀ j 0) 1) false) (get_or-take n marks₀ j 0 h)

pub front-length : (n : ℕ) (was l : List ℕ) → n ≤ length was → length l ≡ n → length (l ++ drop n was) ≡ length was
front-length n was l room long = omega (arith, length-append l (drop n was), length-drop n was, long, room)

pub front-beyond : (n : ℕ) (was l : List ℕ) → n ≤ length was → length l ≡ n → Beyond n was (l ++ drop n was)
front-beyond n was l room long = record { long = front-length n was l room long; rest = ap (λ k. drop k (l ++ drop n was)) (sym long) ∙ drop-append_seam l (drop n was) }

-- ---- rows

module _ {C : Context} {rows starts : List ℕ} (P : ShownPairs C rows starts) (i : ℕ) (l : i < C.count) where
  -- what holds of the pairs of boundary i holds of its rows
  pub shown-rows : {Q : Pair → Type 0} → All Q (C.pairs i) → (k : ℕ) → get_or starts i 0 ≤ k → k < get_or starts (i + 1) 0 → Q (pair_at rows k)
  shown-rows {Q} a = between_at rows (get_or starts i 0) (get_or starts (i + 1) 0) (subst (All Q) (P.at i l) a)

  pub rows-placed : (n : ℕ) → n ≡ suc C.regions → Rows n rows (get_or starts i 0) (get_or starts (i + 1) 0)
  rows-placed n e k a b =
      let w = shown-rows (P.named i l) k a b in
      record { low_from = w.0; low_upto = omega (arith, w.1.0, w.1.1); high_from = omega (arith, w.0, w.1.0); high_upto = omega (arith, w.1.1) }

-- ---- the links of a boundary

module _ (C : Context) {cs was now : List ℕ} (i : ℕ) where
  -- t is what `is_ordinary` returned
  pub cut-joins : {t : Bool} {rows starts : List ℕ} → ShownPairs C rows starts → i < C.count → t ≡ is_ordinary C i → t ≡ true → Merged cs was (pairs_between rows (get_or starts i 0) (get_or starts (i + 1) 0)) now → Merged cs was (links_of C i) now
  cut-joins P l e h m = subst (λ q. Merged cs was q now) (sym (ap (λ b. cond b (C.pairs i) []) (sym e ∙ h) ∙ P.at i l)) m

  pub cut-idle : {t : Bool} → t ≡ is_ordinary C i → t ≡ false → Merged cs was [] now → Merged cs was (links_of C i) now
  cut-idle e h m = subst (λ q. Merged cs was q now) (sym (ap (λ b. cond b (C.pairs i) []) (sym e ∙ h))) m

module _ (C : Context) {was : List ℕ} where
  pub cuts-start : Parented (alone C) was → Merged (alone C) was (gather 0 (links_of C)) was
  unfolding gather
  cuts-start P = merged-start P

  module _ (i : ℕ) {mid : List ℕ} (m : Merged (alone C) was (gather i (links_of C)) mid) where
    pub cuts-size : length (merge_all (alone C) (gather i (links_of C))) ≡ suc C.regions
    cuts-size = merge_all-length (alone C) (gather i (links_of C)) ∙ size-alone C

    pub cuts_more : {now : List ℕ} → Merged (merge_all (alone C) (gather i (links_of C))) mid (links_of C i) now → Merged (alone C) was (gather (i + 1) (links_of C)) now
    unfolding gather
    cuts_more {now} n = subst (λ l. Merged (alone C) was l now) (sym next) (merged-then m n)
      where
        next : gather (i + 1) (links_of C) ≡ gather i (links_of C) ++ links_of C i
        next = rw add-one refl

    pub cuts-end : {count : ℕ} → C.count ≡ count → i ≤ count → count ≤ i → Merged (alone C) was (links C) mid
    unfolding links
    cuts-end e a b = subst (λ k. Merged (alone C) was (gather k (links_of C)) mid) same m
      where
        same : i ≡ C.count
        same = omega arith

-- ---- together

pub components-size : (C : Context) → length (components C) ≡ suc C.regions
unfolding components
components-size C = merge_all-length (alone C) (links C) ∙ size-alone C

module _ (C : Context) {was ps : List ℕ} (m : Merged (alone C) was (links C) ps) where
  pub components-parented : Parented (components C) ps
  unfolding components
  components-parented = m.parented

  pub components-beyond : {regions : ℕ} → C.regions ≡ regions → Beyond regions was ps
  components-beyond {regions} e = subst (λ n. Beyond n was ps) same m.beyond
    where
      same : length (alone C) - 1 ≡ regions
      same = omega (arith, size-alone C)
