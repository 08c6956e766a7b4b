-- The list of the boundaries that name a region of a union: how it is filled, boundary by boundary, and what a chain over it says of all boundaries. Assumes nothing.
use Prim.Native.Nat.{ℕ, zero, suc, ◌+◌, ◌<◌}
use native.Mathlib.Omega.{arith}
use native.Mathlib.Numerals.{add-one}
use mathlib.Core.Path.{◌≡◌, refl, sym, ap, ap₂, ◌∙◌}
use mathlib.Core.Bool.{Bool, true, false, not, ◌&&◌, ◌||◌, and-false, and-true, or-false}
use Rattle.std.specs.Prelude.{Option}
use mathlib.Core.List.{List, ◌++◌, append-nil}
use lib.ListN.{length, get_or, set, length-set, length-append}
use lib.Seq.{take-suc-set}
use lib.Dec.{eqb}
use Rattle.std.specs.List.{list_any, list_all, filter}
use Rattle.std.proofs.lemmas.List.Folds.{list_any-append, list_all-append}
use Rattle.std.proofs.lemmas.List.Elements.{filter-append}
use Rattle.definitions.specs.Scan.{any_below_lem, all_below, count_below, collect, to_list, only_if, bit}
use Rattle.definitions.specs.Grid.{Pair}
use Rattle.region_pairs.specs.declared.Pair as declared
use Rattle.laws.specs.ListLaws.ScanSteps.{collect_next}
use Rattle.laws.specs.ListLaws.Scans.{picked, picked-length, picked_at}
use Rattle.laws.specs.ListLaws.Below.{rank-taken}
use Rattle.junction_proposals.specs.Ports.{names_either, is_port, incidents_of, Listed}

-- ---- chains over the numbers that pass f

module _ (f t : ℕ → Bool) where
  abbrev those : ℕ → List ℕ
  those n = picked f (λ j. j) n

  any_picked : (n : ℕ) → list_any t (those n) ≡ any_below_lem n (λ j. f j && t j)
  unfolding any_below_lem collect
  any_picked zero = refl
  any_picked (suc n) = list_any-append t (those n) (to_list (only_if (f n) n)) ∙ ap₂ ◌||◌ (any_picked n) (go (f n))
    where
      go : (b : Bool) → list_any t (to_list (only_if b n)) ≡ (b && t n)
      go true = or-false (t n)
      go false = refl

  all_picked : (n : ℕ) → list_all t (those n) ≡ all_below n (λ j. not (f j) || t j)
  unfolding all_below collect
  all_picked zero = refl
  all_picked (suc n) = list_all-append t (those n) (to_list (only_if (f n) n)) ∙ ap₂ ◌&&◌ (all_picked n) (go (f n))
    where
      go : (b : Bool) → list_all t (to_list (only_if b n)) ≡ (not b || t n)
      go true = and-true (t n)
      go false = refl

  count_picked : (n : ℕ) → length (filter t (those n)) ≡ count_below n (λ j. f j && t j)
  unfolding count_below collect
  count_picked zero = refl
  count_picked (suc n) =
      ap length (filter-append t (those n) (to_list (only_if (f n) n))) ∙ length-append (filter t (those n)) (filter t (to_list (only_if (f n) n)))
      ∙ ap₂ ◌+◌ (count_picked n) (go (f n) (t n) refl)
    where
      go : (b c : Bool) → t n ≡ c → length (filter t (to_list (only_if b n))) ≡ bit (b && c)
      go true true e = rw e refl
      go true false e = rw e refl
      go false c e = refl

module _ (full : List (Option declared.Pair)) (p : Pair) where
  abbrev named : ℕ → Bool
  named = names_either full p

  -- what names neither region is no port
  pub no_port_lem : (i j : ℕ) → named j ≡ false → is_port full i p j ≡ false
  unfolding is_port
  no_port_lem i j h = ap (λ b. not (eqb j i) && b) h ∙ and-false (not (eqb j i))

  -- ---- chains over the list

  pub any_listed : (t : ℕ → Bool) (n : ℕ) → list_any t (incidents_of full n p) ≡ any_below_lem n (λ j. named j && t j)
  unfolding incidents_of
  any_listed t n = any_picked named t n

  pub all_listed : (t : ℕ → Bool) (n : ℕ) → list_all t (incidents_of full n p) ≡ all_below n (λ j. not (named j) || t j)
  unfolding incidents_of
  all_listed t n = all_picked named t n

  pub count_listed : (t : ℕ → Bool) (n : ℕ) → length (filter t (incidents_of full n p)) ≡ count_below n (λ j. named j && t j)
  unfolding incidents_of
  count_listed t n = count_picked named t n

  -- what stands in the list
  pub listed_below : (n k d : ℕ) {l : List ℕ} → l ≡ incidents_of full n p → k < length l → get_or l k d < n
  unfolding incidents_of
  listed_below n k d {l} e h =
      let r = rank-taken named n k (omega (arith, ap length e, picked-length named (λ j. j) n)) in
      omega (arith, ap (λ l. get_or l k d) e ∙ ap (λ i. get_or (picked named (λ j. j) n) i d) (sym r.rank_is) ∙ picked_at named (λ j. j) d n r.place r.below r.is_inside, r.below)

  -- ---- how the list is filled

  pub listed_start : (incidents : List ℕ) → Listed full 0 p incidents 0
  unfolding incidents_of collect
  listed_start incidents = record { few = omega arith; long = omega arith; each = refl }

  pub listing_next : {b : Bool} (j : ℕ) → named j ≡ b → incidents_of full (j + 1) p ≡ incidents_of full j p ++ to_list (only_if b j)
  unfolding incidents_of
  listing_next j h = collect_next (λ i. only_if (named i) i) j ∙ ap (λ b. incidents_of full j p ++ to_list (only_if b j)) h

  pub listed-other : {j n : ℕ} {incidents : List ℕ} → Listed full j p incidents n → named j ≡ false → Listed full (j + 1) p incidents n
  listed-other {j} s h =
      record { few = omega (arith, s.few); long = s.long; each = s.each ∙ sym (listing_next j h ∙ append-nil (incidents_of full j p)) }

  pub listed-named : {j n : ℕ} {incidents : List ℕ} → Listed full j p incidents n → n < length incidents → named j ≡ true → Listed full (j + 1) p (set incidents n j) (n + 1)
  listed-named {j} {n} {incidents} s l h =
      record {
        few = omega (arith, s.few);
        long = omega (arith, length-set incidents n j);
        each = rw add-one (take-suc-set incidents n j l) ∙ ap (λ r. r ++ to_list (only_if true j)) s.each ∙ sym (listing_next j h);
      }
