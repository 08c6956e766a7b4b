-- Full cuts and full pairs, read off the tallies and the rows of a span. Assumes nothing.
use Prim.Native.Nat.{ℕ, ◌+◌, ◌-◌, ◌*◌, ◌<◌}
use mathlib.Core.Path.{◌≡◌, refl, sym, ap, ap₂, ◌∙◌}
use mathlib.Core.Bool.{Bool, true, false, ◌&&◌}
use Rattle.std.specs.Prelude.{Option, None, Some}
use mathlib.Core.List.{List, [], ◌∷◌, map}
use lib.ListN.{length, get_or, length-map}
use lib.Dec.{eqb, ltb}
use Rattle.definitions.specs.Limits.{tallies_per_span}
use Rattle.definitions.specs.Scan.{run}
use Rattle.definitions.specs.Grid.{Pair}
use Rattle.definitions.specs.Context.{Context, only_pair, full_cut, full_pair}
use Rattle.laws.specs.ListLaws.Lists.{length_run}
use Rattle.region_pairs.specs.declared.Pair as declared
use Rattle.context.specs.Shown.{pair_at, pairs_between, ShownTallies, ShownPairs}
use Rattle.std.specs.Bool.{then_some}
use Rattle.context.specs.Rows.{pair_form, full_pair_of}

-- ---- one boundary

only_one : (cut : Bool) (l : List Pair) → (length l ≡ 1 → ⊥) → None ≡ only_pair cut l
only_one true [] h = refl
only_one true (p ∷ []) h = absurd (h refl)
only_one true (p ∷ q ∷ l) h = refl
only_one false l h = refl

pub between-length : (rows : List ℕ) (first end : ℕ) → length (pairs_between rows first end) ≡ end - first
unfolding pairs_between
between-length rows first end = length-map (run first (end - first)) (pair_at rows) ∙ length_run first (end - first)

pub between_one : (rows : List ℕ) (first end : ℕ) → end - first ≡ 1 → pairs_between rows first end ≡ pair_at rows first ∷ []
unfolding pairs_between run
between_one rows first end h = ap (λ n. map (pair_at rows) (run first n)) h

module _ (C : Context) {tallies : List ℕ} {i : ℕ} (T : ShownTallies C tallies) (l : i < C.count) where
  pub cut-shown : (ltb 0 (get_or tallies (tallies_per_span * i) 0) && eqb (get_or tallies (tallies_per_span * i) 0) (get_or tallies (tallies_per_span * i + 1) 0)) ≡ full_cut C i
  unfolding full_cut
  cut-shown = ap₂ (λ r s. ltb 0 r && eqb r s) (sym (T.removed i l)) (sym (T.separated i l))

module _ (C : Context) {rows starts : List ℕ} {i : ℕ} (P : ShownPairs C rows starts) (l : i < C.count) where
  -- the number of its rows is not 1
  pub pair_none : (get_or starts (i + 1) 0 - get_or starts i 0 ≡ 1 → ⊥) → None ≡ full_pair C i
  unfolding full_pair
  pair_none h =
      only_one (full_cut C i) (C.pairs i)
      (λ e. h (sym (between-length rows (get_or starts i 0) (get_or starts (i + 1) 0)) ∙ ap length (sym (P.at i l)) ∙ e))

  pair-uncut : false ≡ full_cut C i → None ≡ full_pair C i
  unfolding full_pair
  pair-uncut h = ap (λ b. only_pair b (C.pairs i)) h

  pair_one : get_or starts (i + 1) 0 - get_or starts i 0 ≡ 1 → true ≡ full_cut C i → Some (pair_at rows (get_or starts i 0)) ≡ full_pair C i
  unfolding full_pair
  pair_one h k =
      ap₂ only_pair k (sym (between_one rows (get_or starts i 0) (get_or starts (i + 1) 0) h) ∙ sym (P.at i l))

  pub pair_when : get_or starts (i + 1) 0 - get_or starts i 0 ≡ 1 → (cut : Bool) → cut ≡ full_cut C i → (p : declared.Pair) → pair_form p ≡ pair_at rows (get_or starts i 0) → full_pair_of (then_some cut p) ≡ full_pair C i
  pair_when h true k p e = ap Some e ∙ pair_one h k
  pair_when h false k p e = pair-uncut k

-- ---- all boundaries below i

abbrev pub Stored : Context → List (Option declared.Pair) → ℕ → Type 0
Stored C full i = (j : ℕ) → j < i → full_pair_of (get_or full j None) ≡ full_pair C j
