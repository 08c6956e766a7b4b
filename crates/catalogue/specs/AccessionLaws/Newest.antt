-- The records of a list that pass a test, newest first: what one record more adds, how many they are, which they are, and how they stand as numbers.
-- Assumes nothing.
use Prim.Native.Nat.{ℕ, zero, suc, ◌+◌, ◌*◌, ◌≤◌, ◌<◌}
use Rattle.std.proofs.Common.{arith, sym, ◌∙◌, eqb-true, ltb-true, ltb-false}
use Rattle.std.specs.Prelude.{◌≡◌, Bool, eqb, ltb}
use Rattle.std.proofs.Math.Path.{refl, ap}
use Rattle.std.proofs.Math.Bool.{true, false}
use mathlib.Core.List.Memᴰ
use mathlib.Core.List.{List, [], ◌∷◌, ◌++◌, append-nil, append_assoc, Memᴰ}
use Rattle.std.proofs.Math.ListN.{length}
use Rattle.std.proofs.lemmas.Bool.{eqb-false}
use Rattle.definitions.specs.Scan.{count_below, bit, only_if, to_list, collect, concat_map}
use Rattle.laws.specs.ListLaws.Scans.{collect_ext}
use Rattle.catalogue.specs.Accession.{Accession, numbers_per_accession, flat_accession, accession_at, accession_count}
use Rattle.catalogue.specs.Line.{reversed, on_line_of, line_of, flat_line}

reversed-append : {A : Type 0} (l m : List A) → reversed (l ++ m) ≡ reversed m ++ reversed l
unfolding reversed
reversed-append [] m = sym (append-nil (reversed m))
reversed-append (x ∷ l) m = ap (λ r. r ++ (x ∷ [])) (reversed-append l m) ∙ append_assoc (reversed m) (reversed l) (x ∷ [])

-- record i, if it passes
abbrev pub one : Bool → List ℕ → ℕ → List Accession
one b l i = to_list (only_if b (accession_at l i))

-- of the first n records those that pass, newest first
unfoldable pub newest_first : List ℕ → (ℕ → Bool) → ℕ → List Accession
unfolding reversed collect accession_at
newest_first l p n = reversed (collect n (λ i. only_if (p i) (accession_at l i)))

pub line_is : (l : List ℕ) (own : ℕ) → line_of l own ≡ newest_first l (on_line_of l own) (accession_count l)
unfolding line_of newest_first
line_is l own = refl

module _ (l : List ℕ) (p : ℕ → Bool) where
  pub newest_next : (n : ℕ) → newest_first l p (suc n) ≡ one (p n) l n ++ newest_first l p n
  unfolding newest_first collect reversed
  newest_next n = reversed-append (collect n (λ i. only_if (p i) (accession_at l i))) (one (p n) l n) ∙ ap (λ r. r ++ reversed (collect n (λ i. only_if (p i) (accession_at l i)))) (alone (p n))
    where
      alone : (b : Bool) → reversed (one b l n) ≡ one b l n
      alone true = refl
      alone false = refl

  pub newest_in : (n : ℕ) → p n ≡ true → newest_first l p (suc n) ≡ accession_at l n ∷ newest_first l p n
  newest_in n h = newest_next n ∙ ap (λ b. one b l n ++ newest_first l p n) h

  pub newest-out : (n : ℕ) → p n ≡ false → newest_first l p (suc n) ≡ newest_first l p n
  newest-out n h = newest_next n ∙ ap (λ b. one b l n ++ newest_first l p n) h

  pub newest-length : (n : ℕ) → length (newest_first l p n) ≡ count_below n p
  unfolding newest_first collect reversed count_below
  newest-length zero = refl
  newest-length (suc n) = ap length (newest_next n) ∙ go (p n) (newest-length n)
    where
      go : (b : Bool) → length (newest_first l p n) ≡ count_below n p → length (one b l n ++ newest_first l p n) ≡ count_below n p + bit b
      go true h = omega (arith, h)
      go false h = omega (arith, h)

  -- those that do not pass add nothing
  pub newest-skip : (i n : ℕ) → i ≤ n → ((k : ℕ) → i ≤ k → k < n → p k ≡ false) → newest_first l p n ≡ newest_first l p i
  newest-skip i zero h none =
      let e : 0 ≡ i = omega arith in
      ap (newest_first l p) e
  newest-skip i (suc n) h none = go (eqb i (suc n)) refl (λ k. newest-skip i n k (λ j a b. none j a (omega arith)))
    where
      go : (b : Bool) → eqb i (suc n) ≡ b → (i ≤ n → newest_first l p n ≡ newest_first l p i) → newest_first l p (suc n) ≡ newest_first l p i
      go true e ih = ap (newest_first l p) (sym (eqb-true i (suc n) e))
      go false e ih =
          let d : (i ≡ suc n → ⊥) = eqb-false i (suc n) e in
          newest-out n (none n (omega arith) (omega arith)) ∙ ih (omega arith)

  -- ---- which they are

  pub newest_has : (n i : ℕ) → i < n → p i ≡ true → Memᴰ (accession_at l i) (newest_first l p n)
  newest_has zero i h e = absurd (omega arith)
  newest_has (suc n) i h e = go (ltb i n) refl (λ k. newest_has n i k e)
    where
      later : (b : Bool) → Memᴰ (accession_at l i) (newest_first l p n) → Memᴰ (accession_at l i) (one b l n ++ newest_first l p n)
      later true m = Memᴰ.tail m
      later false m = m

      go : (b : Bool) → ltb i n ≡ b → (i < n → Memᴰ (accession_at l i) (newest_first l p n)) → Memᴰ (accession_at l i) (newest_first l p (suc n))
      go true t ih = rw (newest_next n) (later (p n) (ih (ltb-true i n t)))
      go false t ih =
          let q : i ≡ n = omega (arith, ltb-false i n t) in
          rw (newest_in n (sym (ap p q) ∙ e)) (Memᴰ.head (ap (accession_at l) q))

  pub newest_from : (n : ℕ) (x : Accession) → Memᴰ x (newest_first l p n) → (i : ℕ) × (i < n) × (p i ≡ true) × (x ≡ accession_at l i)
  unfolding newest_first collect reversed
  newest_from zero x m = absurd (Memᴰ.not-nil m)
  newest_from (suc n) x m = go (p n) refl (rw (newest_next n) at m) (newest_from n x)
    where
      wider : (i : ℕ) × (i < n) × (p i ≡ true) × (x ≡ accession_at l i) → (i : ℕ) × (i < suc n) × (p i ≡ true) × (x ≡ accession_at l i)
      wider r = (r.0, omega (arith, r.1), r.2, r.3)

      go : (b : Bool) → p n ≡ b → Memᴰ x (one b l n ++ newest_first l p n)
          → (Memᴰ x (newest_first l p n) → (i : ℕ) × (i < n) × (p i ≡ true) × (x ≡ accession_at l i)) → (i : ℕ) × (i < suc n) × (p i ≡ true) × (x ≡ accession_at l i)
      go true e (Memᴰ.head q) ih = (n, omega arith, e, q)
      go true e (Memᴰ.tail m) ih = wider (ih m)
      go false e m ih = wider (ih m)

-- two tests that agree
pub newest_ext : (l : List ℕ) (p q : ℕ → Bool) (n : ℕ) → ((i : ℕ) → i < n → p i ≡ q i) → newest_first l p n ≡ newest_first l q n
unfolding newest_first
newest_ext l p q n h =
    ap reversed (collect_ext n (λ i. only_if (p i) (accession_at l i)) (λ i. only_if (q i) (accession_at l i)) (λ i k. ap (λ b. only_if b (accession_at l i)) (h i k)))

-- ---- as numbers

pub flat_line-append : (x y : List Accession) → flat_line (x ++ y) ≡ flat_line x ++ flat_line y
unfolding flat_line concat_map
flat_line-append [] y = refl
flat_line-append (r ∷ x) y = ap (λ t. flat_accession r ++ t) (flat_line-append x y)

pub flat_line-length : (x : List Accession) → length (flat_line x) ≡ numbers_per_accession * length x
unfolding flat_line concat_map
flat_line-length [] = refl
flat_line-length (r ∷ x) = omega (arith, flat_line-length x)
