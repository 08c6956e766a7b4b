-- In a list that keeps the rules a record is superseded exactly when a later one of its map follows, so each map that occurs has one current record, its last.
-- The argument goes record by record: among the records below i, one is superseded exactly when a later one of its map is below i; the next record of a map can
-- supersede none but the one that has no later one. Only the first n records are asked to keep the rules, so that a check may lean on it on its way. Assumes
-- nothing.
use Prim.Native.Nat.{ℕ, zero, suc, ◌<◌, ◌≤◌}
use native.Mathlib.Omega.{arith}
use Rattle.std.specs.Prelude.{◌≡◌, ◌&&◌, ◌||◌, cond, List, None}
use Rattle.std.proofs.Math.Path.{refl}
use Rattle.std.proofs.Common.{sym, ap, ◌∙◌}
use Rattle.std.proofs.Math.Bool.{Bool, true, false, not}
use Rattle.std.proofs.lemmas.Bool.{false≢true}
use Rattle.std.proofs.Math.Dec.{eqb, ltb}
use borrow.Author.Tests.{eqb-true, eqb-false, eq-eqb, ne_eqb, ltb-true, ltb-false, lt-ltb, le-ltb, not-true}
use Rattle.definitions.specs.Scan.{any_below_lem}
use Rattle.laws.specs.ListLaws.Tests.{both}
use Rattle.laws.specs.ListLaws.Below.{below_none, below_first}
use Rattle.laws.specs.ListLaws.ScanSteps.{any-fails_at}
use Rattle.laws.specs.ListLaws.NoFault.{none_faulty}
use Rattle.catalogue.specs.Accession.{accession_at, accession_count, on_same_map, own_ascends, day_stands, is_first, supersedes_freely, keeps_rules, accessions_fault, is_current}

-- the first n records keep the rules
abbrev pub Keep : List ℕ → ℕ → Type 0
Keep l n = (i : ℕ) → i < n → keeps_rules l i ≡ true

-- of the records below i: one supersedes record a; one of its map is later
unfoldable pub superseded_below : List ℕ → ℕ → ℕ → Bool
unfolding any_below_lem accession_at
superseded_below l i a = any_below_lem i (λ j. eqb (accession_at l j).superseded (accession_at l a).own)

unfoldable pub later_below : List ℕ → ℕ → ℕ → Bool
unfolding any_below_lem on_same_map
later_below l i a = any_below_lem i (λ j. ltb a j && on_same_map l a j)

joined : (s t u v : Bool) → s ≡ t → (t ≡ false → u ≡ v) → (s || u) ≡ (t || v)
joined true true u v e f = refl
joined false false u v e f = f refl
joined true false u v e f = absurd (false≢true (sym e))
joined false true u v e f = absurd (false≢true e)

module _ (l : List ℕ) (n : ℕ) (ok : Keep l n) where
  last_rule : (i : ℕ) → i < n → cond (eqb (accession_at l i).superseded 0) (is_first l i) (supersedes_freely l i) ≡ true
  unfolding keeps_rules
  last_rule i h = (both (own_ascends l i && day_stands l i) (cond (eqb (accession_at l i).superseded 0) (is_first l i) (supersedes_freely l i)) (ok i h)).1

  own_rule : (i : ℕ) → i < n → own_ascends l i ≡ true
  unfolding keeps_rules
  own_rule i h =
      (both (own_ascends l i) (day_stands l i)
      (both (own_ascends l i && day_stands l i) (cond (eqb (accession_at l i).superseded 0) (is_first l i) (supersedes_freely l i)) (ok i h)).0).0

  own_next : (i : ℕ) → suc i < n → (accession_at l i).own < (accession_at l (suc i)).own
  unfolding own_ascends
  own_next i h = ltb-true (accession_at l i).own (accession_at l (suc i)).own (own_rule (suc i) h)

  pub own-above : (i : ℕ) → i < n → 0 < (accession_at l i).own
  unfolding own_ascends
  own-above zero h = ltb-true 0 (accession_at l 0).own (own_rule 0 h)
  own-above (suc i) h = omega (arith, own_next i h)

  pub own_ascends_lem : (i k : ℕ) → k < i → i < n → (accession_at l k).own < (accession_at l i).own
  own_ascends_lem zero k h m = absurd (omega arith)
  own_ascends_lem (suc i) k h m = go (eqb k i) refl (λ p. own_ascends_lem i k p (omega arith))
    where
      go : (t : Bool) → eqb k i ≡ t → (k < i → (accession_at l k).own < (accession_at l i).own) → (accession_at l k).own < (accession_at l (suc i)).own
      go true e ih = rw (eqb-true k i e) (own_next i m)
      go false e ih =
          let d : (k ≡ i → ⊥) = eqb-false k i e in
          omega (arith, ih (omega arith), own_next i m)

  -- so a record is known by its own number
  pub own_unique : (i k : ℕ) → i < n → k < n → (accession_at l i).own ≡ (accession_at l k).own → i ≡ k
  own_unique i k h m e = go (ltb i k) refl (ltb k i) refl
    where
      go : (t : Bool) → ltb i k ≡ t → (u : Bool) → ltb k i ≡ u → i ≡ k
      go true f u g = absurd (omega (arith, own_ascends_lem k i (ltb-true i k f) m))
      go false f true g = absurd (omega (arith, own_ascends_lem i k (ltb-true k i g) h))
      go false f false g = omega (arith, ltb-false i k f, ltb-false k i g)

  -- ---- what a record supersedes

  record Target (i : ℕ) : Type 0 where
    pub place : ℕ
    pub before : place < i
    pub map : (accession_at l place).on_map ≡ (accession_at l i).on_map
    pub own : (accession_at l place).own ≡ (accession_at l i).superseded
    pub free : any_below_lem i (λ j. eqb (accession_at l j).superseded (accession_at l i).superseded) ≡ false

  target : (i : ℕ) → i < n → ((accession_at l i).superseded ≡ 0 → ⊥) → Target i
  unfolding supersedes_freely on_same_map
  target i h z =
      let s = (accession_at l i).superseded in
      let f : ℕ → Bool = λ j. on_same_map l i j && eqb (accession_at l j).own s in
      let g : ℕ → Bool = λ j. eqb (accession_at l j).superseded s in
      let r : (any_below_lem i f && not (any_below_lem i g)) ≡ true = rw (ne_eqb s 0 z) at (last_rule i h) in
      let p = both (any_below_lem i f) (not (any_below_lem i g)) r in
      let F = below_first f i p.0 in
      let q = both (on_same_map l i F.place) (eqb (accession_at l F.place).own s) F.found in
      record {
        place = F.place;
        before = F.below;
        map = eqb-true (accession_at l F.place).on_map (accession_at l i).on_map q.0;
        own = eqb-true (accession_at l F.place).own s q.1;
        free = not-true _ p.1;
      }

  -- a record with 0 has no earlier one of its map
  no_earlier : (i : ℕ) → i < n → (accession_at l i).superseded ≡ 0 → (j : ℕ) → j < i → (accession_at l j).on_map ≡ (accession_at l i).on_map → ⊥
  unfolding is_first on_same_map
  no_earlier i h z j k e =
      let r : not (any_below_lem i (on_same_map l i)) ≡ true = rw (eq-eqb (accession_at l i).superseded 0 z) at (last_rule i h) in
      let f : eqb (accession_at l j).on_map (accession_at l i).on_map ≡ false = any-fails_at (on_same_map l i) i (not-true _ r) j k in
      eqb-false (accession_at l j).on_map (accession_at l i).on_map f e

  -- what is superseded came before
  target-own : (i : ℕ) → i < n → (a : ℕ) → a < n → (accession_at l i).superseded ≡ (accession_at l a).own → a < i
  target-own i h a k e =
      let T = target i h (λ z. omega (arith, own-above a k)) in
      let s : T.place ≡ a = own_unique T.place a (omega (arith, T.before)) k (T.own ∙ e) in
      omega (arith, T.before)

  -- ---- a record is superseded exactly when a later one of its map follows

  -- a record among those below i that has no later one of its map there is the one
  pub one_last : (i a k : ℕ) → a < i → k < i → (accession_at l a).on_map ≡ (accession_at l k).on_map → later_below l i a ≡ false → later_below l i k ≡ false → a ≡ k
  unfolding later_below on_same_map
  one_last i a k h m e f g = go (ltb a k) refl (ltb k a) refl
    where
      go : (t : Bool) → ltb a k ≡ t → (u : Bool) → ltb k a ≡ u → a ≡ k
      go true p u q =
          let r : (ltb a k && eqb (accession_at l k).on_map (accession_at l a).on_map) ≡ false = any-fails_at (λ j. ltb a j && on_same_map l a j) i f k m in
          absurd (false≢true (sym r ∙ rw (p, eq-eqb (accession_at l k).on_map (accession_at l a).on_map (sym e)) refl))
      go false p true q =
          let r : (ltb k a && eqb (accession_at l a).on_map (accession_at l k).on_map) ≡ false = any-fails_at (λ j. ltb k j && on_same_map l k j) i g a h in
          absurd (false≢true (sym r ∙ rw (q, eq-eqb (accession_at l a).on_map (accession_at l k).on_map e) refl))
      go false p false q = omega (arith, ltb-false a k p, ltb-false k a q)

  -- of a record that none below i supersedes, and none of its map below i follows: i supersedes it exactly when i is of its map
  one_more : (i : ℕ) → i < n → ((a : ℕ) → a < i → superseded_below l i a ≡ later_below l i a) → (a : ℕ) → a < i → later_below l i a ≡ false
      → eqb (accession_at l i).superseded (accession_at l a).own ≡ eqb (accession_at l i).on_map (accession_at l a).on_map
  unfolding superseded_below
  one_more i h ih a k f = go (eqb (accession_at l i).superseded (accession_at l a).own) refl (eqb (accession_at l i).on_map (accession_at l a).on_map) refl
    where
      s : ℕ
      s = (accession_at l i).superseded

      go : (t : Bool) → eqb (accession_at l i).superseded (accession_at l a).own ≡ t → (u : Bool) → eqb (accession_at l i).on_map (accession_at l a).on_map ≡ u → t ≡ u
      go true e true g = refl
      go false e false g = refl
      go true e false g =
          let q : (accession_at l i).superseded ≡ (accession_at l a).own = eqb-true (accession_at l i).superseded (accession_at l a).own e in
          let T = target i h (λ z. omega (arith, own-above a (omega arith))) in
          let same : T.place ≡ a = own_unique T.place a (omega (arith, T.before)) (omega arith) (T.own ∙ q) in
          absurd (eqb-false (accession_at l i).on_map (accession_at l a).on_map g (sym T.map ∙ ap (λ j. (accession_at l j).on_map) same))
      go false e true g =
          let m : (accession_at l i).on_map ≡ (accession_at l a).on_map = eqb-true (accession_at l i).on_map (accession_at l a).on_map g in
          let T = target i h (λ z. no_earlier i h z a k (sym m)) in
          let unsuperseded : superseded_below l i T.place ≡ false = rw T.own T.free in
          let last : later_below l i T.place ≡ false = sym (ih T.place T.before) ∙ unsuperseded in
          let same : a ≡ T.place = one_last i a T.place k T.before (sym m ∙ sym T.map) f last in
          absurd (eqb-false (accession_at l i).superseded (accession_at l a).own e (sym T.own ∙ ap (λ j. (accession_at l j).own) (sym same)))

  -- the newest: none of those before it, nor itself, supersedes it, and none of them is later
  newest-free : (i : ℕ) → i < n → superseded_below l (suc i) i ≡ false
  unfolding superseded_below
  newest-free i h = below_none (suc i) (λ j. eqb (accession_at l j).superseded (accession_at l i).own) (λ j k. ne_eqb (accession_at l j).superseded (accession_at l i).own (λ e. go j k e))
    where
      go : (j : ℕ) → j < suc i → (accession_at l j).superseded ≡ (accession_at l i).own → ⊥
      go j k e =
          let b : i < j = target-own j (omega arith) i h e in
          omega arith

  newest_last : (i : ℕ) → later_below l (suc i) i ≡ false
  unfolding later_below
  newest_last i = below_none (suc i) (λ j. ltb i j && on_same_map l i j) (λ j k. rw (le-ltb i j (omega arith)) refl)

  superseded_next : (i a : ℕ) → superseded_below l (suc i) a ≡ (superseded_below l i a || eqb (accession_at l i).superseded (accession_at l a).own)
  unfolding superseded_below any_below_lem
  superseded_next i a = refl

  later_next : (i a : ℕ) → a < i → later_below l (suc i) a ≡ (later_below l i a || eqb (accession_at l i).on_map (accession_at l a).on_map)
  unfolding later_below any_below_lem on_same_map
  later_next i a c = rw (lt-ltb a i c) refl

  pub superseded-later : (i : ℕ) → i ≤ n → (a : ℕ) → a < i → superseded_below l i a ≡ later_below l i a
  superseded-later zero h a k = absurd (omega arith)
  superseded-later (suc i) h a k = go (eqb a i) refl (λ b c. superseded-later i (omega arith) b c)
    where
      go : (t : Bool) → eqb a i ≡ t → ((b : ℕ) → b < i → superseded_below l i b ≡ later_below l i b) → superseded_below l (suc i) a ≡ later_below l (suc i) a
      go true e ih = rw (eqb-true a i e) (newest-free i (omega arith) ∙ sym (newest_last i))
      go false e ih =
          let d : (a ≡ i → ⊥) = eqb-false a i e in
          let c : a < i = omega arith in
          superseded_next i a
          ∙ joined (superseded_below l i a) (later_below l i a) (eqb (accession_at l i).superseded (accession_at l a).own) (eqb (accession_at l i).on_map (accession_at l a).on_map) (ih a c) (one_more i (omega arith) ih a c)
          ∙ sym (later_next i a c)

pub kept : (l : List ℕ) → accessions_fault l ≡ None → Keep l (accession_count l)
unfolding accessions_fault
kept l h = none_faulty (keeps_rules l) (accession_count l) h

-- "its one record that nothing supersedes": the record of its map that no later one of the map follows
pub current_last : (l : List ℕ) → accessions_fault l ≡ None → (a : ℕ) → a < accession_count l → is_current l a ≡ not (later_below l (accession_count l) a)
unfolding is_current superseded_below
current_last l h a k = ap not (superseded-later l (accession_count l) (kept l h) (accession_count l) (omega arith) a k)

-- and there is no other
pub current-unique :
    (l : List ℕ) → accessions_fault l ≡ None → (a b : ℕ) → a < accession_count l → b < accession_count l → (accession_at l a).on_map ≡ (accession_at l b).on_map
    → is_current l a ≡ true → is_current l b ≡ true → a ≡ b
current-unique l h a b k m e f g =
    one_last l (accession_count l) (kept l h) (accession_count l) a b k m e (not-true _ (sym (current_last l h a k) ∙ f)) (not-true _ (sym (current_last l h b m) ∙ g))
