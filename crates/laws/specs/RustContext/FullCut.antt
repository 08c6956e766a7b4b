-- Full cuts as the Rust writes them (context.rs), and that in a sound context they are the definitions' full cuts. The argument: if the two counts are equal
-- and above 0 there is a separated step, so there is a pair; and the labels of every pair differ. Assumes a sound context.
use Rattle.std.specs.Prelude.{ℕ, suc, ◌<◌, ◌≡◌, Bool, ◌&&◌, length, ltb, Option, None, Some}
use Rattle.std.proofs.Common.{arith}
use Rattle.std.proofs.Math.Path.{refl}
use Rattle.std.proofs.Math.Bool.{true, false, not, cond}
use mathlib.Core.List.{List, [], ◌∷◌}
use Rattle.std.proofs.Math.Dec.{eqb}
use borrow.Author.Tests.{ltb-true, eqb-true, ne_eqb}
use Rattle.definitions.specs.Scan.{all}
use Rattle.definitions.specs.Grid.{Pair}
use Rattle.definitions.specs.Context.{Context, only_pair, full_cut, full_pair}
use Rattle.laws.specs.ListLaws.Lists.{All, done, more}
use Rattle.laws.specs.ListLaws.Tests.{both}
use Rattle.laws.specs.RustContext.SoundContext.{Sound}

-- ---- as the Rust writes it

abbrev pub is_empty : {A : Type 0} → List A → Bool
is_empty [] = true
is_empty (x ∷ l) = false

--     entry.removed_edge_count > 0
--         && entry.removed_edge_count == entry.separated_edge_count
--         && !entry.region_pairs.is_empty()
--         && entry.region_pairs.iter().all(|p| p[0] != p[1])
unfoldable pub full_cut_rust : ℕ → ℕ → List Pair → Bool
unfolding all
full_cut_rust removed separated pairs = ltb 0 removed && eqb removed separated && not (is_empty pairs) && all (λ p. not (eqb p.lo p.hi)) pairs

abbrev pub first_of : List Pair → Option Pair
first_of [] = None
first_of (p ∷ l) = Some p

--     (full_cut(entry) && entry.region_pairs.len() == 1).then(|| entry.region_pairs[0])
unfoldable pub full_pair_rust : ℕ → ℕ → List Pair → Option Pair
unfolding full_cut_rust
full_pair_rust removed separated pairs = cond (full_cut_rust removed separated pairs && eqb (length pairs) 1) (first_of pairs) None

-- ---- and that it is the same

module _ (C : Context) (sound : Sound C) where
  differ : {l : List Pair} → All (λ p. p.lo < p.hi) l → all (λ p. not (eqb p.lo p.hi)) l ≡ true
  unfolding all
  differ done = refl
  differ (more {x = p} h a) = rw (ne_eqb p.lo p.hi (λ e. omega arith), differ a) refl

  some_separated : (i : ℕ) → full_cut C i ≡ true → C.separated_edges i ≡ 0 → ⊥
  unfolding full_cut
  some_separated i h e =
      let tests = both (ltb 0 (C.removed_edges i)) (eqb (C.removed_edges i) (C.separated_edges i)) h in
      omega (arith, ltb-true 0 (C.removed_edges i) tests.0, eqb-true (C.removed_edges i) (C.separated_edges i) tests.1)

  some_pair : (i : ℕ) → full_cut C i ≡ true → is_empty (C.pairs i) ≡ false
  some_pair i h = go (C.pairs i) refl
    where
      go : (l : List Pair) → C.pairs i ≡ l → is_empty l ≡ false
      go [] e = absurd (some_separated i h (sound.paired i e))
      go (p ∷ l) e = refl

  pub full_cut_lem : (i : ℕ) → full_cut C i ≡ full_cut_rust (C.removed_edges i) (C.separated_edges i) (C.pairs i)
  unfolding full_cut full_cut_rust
  full_cut_lem i = rw (differ (sound.ordered i)) (go (full_cut C i) refl)
    where
      go : (b : Bool) → full_cut C i ≡ b → b ≡ (b && not (is_empty (C.pairs i)) && true)
      go true e = rw (some_pair i e) refl
      go false e = refl

  pub full_pair_lem : (i : ℕ) → full_pair C i ≡ full_pair_rust (C.removed_edges i) (C.separated_edges i) (C.pairs i)
  unfolding full_pair full_pair_rust
  full_pair_lem i = rw (← (full_cut_lem i)) (go (full_cut C i) (C.pairs i))
    where
      go : (b : Bool) (l : List Pair) → only_pair b l ≡ cond (b && eqb (length l) 1) (first_of l) None
      go true [] = refl
      go true (p ∷ []) = refl
      go true (p ∷ q ∷ l) = rw (ne_eqb (suc (suc (length l))) 1 (λ e. omega arith)) refl
      go false l = refl
