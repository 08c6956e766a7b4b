-- What the line of an own number is in a list that keeps the rules: every record of the map, by own numbers that descend, the current record first.
-- Assumes nothing.
use Prim.Native.Nat.{ℕ, zero, suc, ◌≤◌, ◌<◌}
use Rattle.std.proofs.Common.{arith, sym, ap, ◌∙◌, true≢false}
use Rattle.std.specs.Prelude.{◌≡◌, refl, ◌↔◌, Bool, not, ◌&&◌, ltb, None}
use Rattle.std.proofs.Math.Bool.{true, false}
use mathlib.Core.List.{List, [], ◌∷◌, ◌++◌, Memᴰ}
use Rattle.std.proofs.Math.Dec.{eqb}
use borrow.Author.Tests.{eqb-true, eq-eqb, lt-ltb, ltb-true, not-true}
use Rattle.definitions.specs.Scan.{collect}
use Rattle.laws.specs.ListLaws.Lists.{All, done, more}
use Rattle.laws.specs.ListLaws.Below.{below_none}
use Rattle.laws.specs.ListLaws.ScanSteps.{any-fails_at}
use Rattle.catalogue.specs.Accession.{Accession, accession_at, accession_count, on_same_map, accessions_fault, is_current}
use Rattle.catalogue.specs.Line.{reversed, on_line_of, line_of}
use Rattle.catalogue.proofs.AccessionLaws.Current.{kept, later_below, own_ascends_lem, own_unique, current_last}
use Rattle.catalogue.specs.AccessionLaws.Last.{last_below, last_within, last_passes, none_behind}
use Rattle.catalogue.specs.AccessionLaws.Newest.{one, newest_first, line_is, newest_next, newest_in, newest-skip, newest_has, newest_from}
use Rattle.catalogue.specs.AccessionLaws.MapLine.{is_of_map}
use Rattle.catalogue.proofs.AccessionLaws.MapLine.{on_line}

-- own numbers descend: each is above all that follow
pub data Descends : List Accession → Type 0 where
  ended : Descends []
  above : {x : Accession} {l : List Accession} → All (λ y. y.own < x.own) l → Descends l → Descends (x ∷ l)

module _ (l : List ℕ) (own : ℕ) (h : accessions_fault l ≡ None) where
  -- "every record of its map"
  pub line_members : (i : ℕ) → i < accession_count l → Memᴰ (accession_at l i) (line_of l own) ↔ (on_line_of l own i ≡ true)
  line_members i k = (there, back)
    where
      there : Memᴰ (accession_at l i) (line_of l own) → on_line_of l own i ≡ true
      there m =
          let r = newest_from l (on_line_of l own) (accession_count l) (accession_at l i) (rw (line_is l own) at m) in
          let same : i ≡ r.0 = own_unique l (accession_count l) (kept l h) i r.0 k r.1 (ap (λ a. a.own) r.3) in
          ap (on_line_of l own) same ∙ r.2

      back : on_line_of l own i ≡ true → Memᴰ (accession_at l i) (line_of l own)
      back e = rw (line_is l own) (newest_has l (on_line_of l own) (accession_count l) i k e)

  -- the same of the map of the record that has the own number
  pub line_of-map : (j : ℕ) → j < accession_count l → (accession_at l j).own ≡ own → (i : ℕ) → i < accession_count l
      → Memᴰ (accession_at l i) (line_of l own) ↔ ((accession_at l i).on_map ≡ (accession_at l j).on_map)
  unfolding is_of_map
  line_of-map j n e i k = (there, back)
    where
      same : on_line_of l own i ≡ eqb (accession_at l i).on_map (accession_at l j).on_map
      same = on_line l own h j n e i

      there : Memᴰ (accession_at l i) (line_of l own) → (accession_at l i).on_map ≡ (accession_at l j).on_map
      there m = eqb-true (accession_at l i).on_map (accession_at l j).on_map (sym same ∙ (line_members i k).0 m)

      back : (accession_at l i).on_map ≡ (accession_at l j).on_map → Memᴰ (accession_at l i) (line_of l own)
      back q = (line_members i k).1 (same ∙ eq-eqb (accession_at l i).on_map (accession_at l j).on_map q)

  -- "newest first"
  module _ (p : ℕ → Bool) where
    all_below_lem : (n : ℕ) → n < accession_count l → (k : ℕ) → k ≤ n → All (λ y. y.own < (accession_at l n).own) (newest_first l p k)
    unfolding newest_first collect reversed
    all_below_lem n b zero c = done
    all_below_lem n b (suc k) c = rw (newest_next l p k) (go (p k) (all_below_lem n b k (omega arith)))
      where
        go : (t : Bool) → All (λ y. y.own < (accession_at l n).own) (newest_first l p k) → All (λ y. y.own < (accession_at l n).own) (one t l k ++ newest_first l p k)
        go true a = more (own_ascends_lem l (accession_count l) (kept l h) n k (omega arith) b) a
        go false a = a

    newest_descends : (n : ℕ) → n ≤ accession_count l → Descends (newest_first l p n)
    unfolding newest_first collect reversed
    newest_descends zero b = ended
    newest_descends (suc n) b = rw (newest_next l p n) (go (p n) (newest_descends n (omega arith)))
      where
        go : (t : Bool) → Descends (newest_first l p n) → Descends (one t l n ++ newest_first l p n)
        go true d = above (all_below_lem n (omega arith) n (omega arith)) d
        go false d = d

  pub line_descends : Descends (line_of l own)
  line_descends = rw (line_is l own) (newest_descends (on_line_of l own) (accession_count l) (omega arith))

  -- ---- the current record

  -- it is the line's first
  pub line_first :
      (j : ℕ) → j < accession_count l → (accession_at l j).own ≡ own
      → (i : ℕ) → i < accession_count l → (accession_at l i).on_map ≡ (accession_at l j).on_map → is_current l i ≡ true
      → line_of l own ≡ accession_at l i ∷ newest_first l (on_line_of l own) i
  unfolding is_of_map later_below on_same_map
  line_first j n e i k q c =
      line_is l own ∙ newest-skip l (on_line_of l own) (suc i) (accession_count l) (omega arith) off
      ∙ newest_in l (on_line_of l own) i (on_line l own h j n e i ∙ eq-eqb (accession_at l i).on_map (accession_at l j).on_map q)
    where
      last : later_below l (accession_count l) i ≡ false
      last = not-true _ (sym (current_last l h i k) ∙ c)

      off : (m : ℕ) → suc i ≤ m → m < accession_count l → on_line_of l own m ≡ false
      off m a b =
          let f : (ltb i m && eqb (accession_at l m).on_map (accession_at l i).on_map) ≡ false = any-fails_at (λ j. ltb i j && on_same_map l i j) (accession_count l) last m b in
          let g : eqb (accession_at l m).on_map (accession_at l i).on_map ≡ false = sym (ap (λ t. t && eqb (accession_at l m).on_map (accession_at l i).on_map) (lt-ltb i m a)) ∙ f in
          on_line l own h j n e m ∙ ap (eqb (accession_at l m).on_map) (sym q) ∙ g

-- each map that occurs has a current record, its last
pub record Current (l : List ℕ) (number : ℕ) : Type 0 where
  pub place : ℕ
  pub within : place < accession_count l
  pub of_map : (accession_at l place).on_map ≡ number
  pub current : is_current l place ≡ true
  pub last : (j : ℕ) → place < j → j < accession_count l → is_of_map l number j ≡ false

pub current-found : (l : List ℕ) → accessions_fault l ≡ None → (j : ℕ) → j < accession_count l → Current l (accession_at l j).on_map
unfolding is_of_map later_below on_same_map
current-found l h j k = go (last_below (accession_count l) p) refl
  where
    number : ℕ
    number = (accession_at l j).on_map

    p : ℕ → Bool
    p i = eqb (accession_at l i).on_map (accession_at l j).on_map

    go : (n : ℕ) → last_below (accession_count l) p ≡ n → Current l (accession_at l j).on_map
    go zero e = absurd (true≢false (sym (eq-eqb number number refl) ∙ none_behind p (accession_count l) j (omega arith) k))
    go (suc i) e =
        let m : i < accession_count l = omega (arith, last_within p (accession_count l)) in
        let q : (accession_at l i).on_map ≡ number = eqb-true (accession_at l i).on_map number (last_passes p (accession_count l) i e) in
        record {
          place = i;
          within = m;
          of_map = q;
          current = current_last l h i m ∙ ap not (below_none (accession_count l) (λ b. ltb i b && eqb (accession_at l b).on_map (accession_at l i).on_map) (λ b c. later i e q b c (ltb i b) refl));
          last = λ b a c. none_behind p (accession_count l) b (omega arith) c;
        }
      where
        later : (i : ℕ) → last_below (accession_count l) p ≡ suc i → (accession_at l i).on_map ≡ number → (b : ℕ) → b < accession_count l → (t : Bool) → ltb i b ≡ t
            → (t && eqb (accession_at l b).on_map (accession_at l i).on_map) ≡ false
        later i e q b c false t = refl
        later i e q b c true t = ap (eqb (accession_at l b).on_map) q ∙ none_behind p (accession_count l) b (omega (arith, ltb-true i b t)) c
