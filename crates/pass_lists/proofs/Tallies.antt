-- The tallies of a context at the front of a lent list, two numbers a span, show it. Assumes nothing.
use Prim.Native.Nat.{ℕ, zero, suc, ◌+◌, ◌*◌, ◌≤◌, ◌<◌}
use native.Mathlib.Omega.{arith}
use mathlib.Core.Path.{◌≡◌, refl, sym, ap, ◌∙◌}
use mathlib.Core.Bool.{Bool, true, false}
use mathlib.Core.List.{List, [], ◌∷◌}
use lib.ListN.{length, get_or, drop, length-append, get_or-append}
use lib.Seq.{get_or-append-add}
use lib.Dec.{ltb}
use borrow.Author.Tests.{ltb-true, ltb-false}
use Rattle.definitions.specs.Limits.{max_entries, tallies_per_span}
use Rattle.definitions.specs.Scan.{gather}
use Rattle.definitions.specs.Lists.{overwrite}
use Rattle.definitions.specs.Context.{Context}
use Rattle.definitions.specs.AtExit.{tallies_of}
use Rattle.laws.specs.RegionLaws.Tallies.{tallies-length}
use Rattle.context.specs.Shown.{ShownTallies}

module _ (f g : ℕ → ℕ) where
  abbrev twos : ℕ → List ℕ
  twos n = gather n (λ s. f s ∷ g s ∷ [])

  twos-length : (n : ℕ) → length (twos n) ≡ 2 * n
  unfolding gather
  twos-length zero = refl
  twos-length (suc n) = length-append (twos n) (f n ∷ g n ∷ []) ∙ omega (arith, twos-length n)

  twos_at : (n i : ℕ) → i < n → (get_or (twos n) (2 * i) 0 ≡ f i) × (get_or (twos n) (2 * i + 1) 0 ≡ g i)
  unfolding gather
  twos_at zero i l = absurd (omega arith)
  twos_at (suc n) i l = go (ltb i n) refl (twos_at n i)
    where
      last : n ≤ i → i ≡ n
      last h = omega arith

      go : (b : Bool) → ltb i n ≡ b → (i < n → (get_or (twos n) (2 * i) 0 ≡ f i) × (get_or (twos n) (2 * i + 1) 0 ≡ g i)) → (get_or (twos (suc n)) (2 * i) 0 ≡ f i) × (get_or (twos (suc n)) (2 * i + 1) 0 ≡ g i)
      go true e ih =
          let k : i < n = ltb-true i n e in (
            get_or-append (twos n) (f n ∷ g n ∷ []) 0 (2 * i) (omega (arith, twos-length n, k)) ∙ (ih k).0,
            get_or-append (twos n) (f n ∷ g n ∷ []) 0 (2 * i + 1) (omega (arith, twos-length n, k)) ∙ (ih k).1,
          )
      go false e ih =
          let q : i ≡ n = last (ltb-false i n e) in
          let first : 2 * i ≡ length (twos n) + 0 = omega (arith, twos-length n, q) in
          let second : 2 * i + 1 ≡ length (twos n) + 1 = omega (arith, twos-length n, q) in (
            ap (λ k. get_or (twos (suc n)) k 0) first ∙ get_or-append-add (twos n) (f n ∷ g n ∷ []) 0 0 ∙ ap f (sym q),
            ap (λ k. get_or (twos (suc n)) k 0) second ∙ get_or-append-add (twos n) (f n ∷ g n ∷ []) 1 0 ∙ ap g (sym q),
          )

module _ (C : Context) (old : List ℕ) {tallies : List ℕ} (filled : tallies ≡ overwrite (tallies_of C) old) where
  front : (k : ℕ) → k < tallies_per_span * C.count → get_or tallies k 0 ≡ get_or (tallies_of C) k 0
  front k l = ap (λ t. get_or t k 0) filled ∙ get_or-append (tallies_of C) (drop (length (tallies_of C)) old) 0 k (omega (arith, tallies-length C, l))

  pub tallies-shown : C.count ≤ max_entries → ShownTallies C tallies
  unfolding tallies_of
  tallies-shown few =
      record {
        few = few;
        long = omega (arith, ap length filled, length-append (tallies_of C) (drop (length (tallies_of C)) old), tallies-length C);
        removed = λ i l. sym (front (tallies_per_span * i) (omega (arith, l)) ∙ (twos_at C.removed_edges C.separated_edges C.count i l).0);
        separated = λ i l. sym (front (tallies_per_span * i + 1) (omega (arith, l)) ∙ (twos_at C.removed_edges C.separated_edges C.count i l).1);
      }
