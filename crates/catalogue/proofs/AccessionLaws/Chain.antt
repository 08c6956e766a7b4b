-- Each map's records form one chain. After records that keep the rules, the next one keeps them exactly when its own number ascends and it supersedes the last
-- record of its map before it, no earlier by its day, or has 0 where there is none: the one record of the map that is still free is its last (Current.antt),
-- and the last has the latest day. So a check may look for the last record of the map alone. Assumes nothing.
use Prim.Native.Nat.{ℕ, zero, suc, ◌<◌, ◌≤◌}
use Rattle.std.proofs.Common.{arith, ap₂, ◌∙◌, true≢false}
use Rattle.std.specs.Prelude.{◌≡◌, ◌&&◌, List, leb, None}
use Rattle.std.proofs.Math.Path.{refl, sym, ap}
use Rattle.std.proofs.Math.Bool.{Bool, true, false, not, cond}
use Rattle.std.proofs.Math.Dec.{eqb, ltb}
use borrow.Author.Tests.{eqb-true, eqb-false, eq-eqb, ne_eqb, ltb-true, ltb-false, le-ltb, le-leb, leb-true, not-true}
use Rattle.definitions.specs.Scan.{any_below_lem}
use Rattle.laws.specs.ListLaws.Tests.{both, same_test}
use Rattle.laws.specs.ListLaws.Below.{below_at, below_none, below_first}
use Rattle.laws.specs.ListLaws.ScanSteps.{any-fails_at}
use Rattle.catalogue.specs.Accession.{accession_at, accession_count, on_same_map, own_ascends, day_stands, is_first, supersedes_freely, keeps_rules, accessions_fault}
use Rattle.catalogue.proofs.AccessionLaws.Current.{Keep, kept, superseded_below, later_below, own-above, one_last, superseded-later}
use Rattle.catalogue.specs.AccessionLaws.Last.{last_within, last_passes, none_behind}
use Rattle.catalogue.specs.AccessionLaws.Chain.{previous, follows, true_not, and_right, Link, starts, goes_on}

module _ (l : List ℕ) (i : ℕ) where
  abbrev s : ℕ
  s = (accession_at l i).superseded

  -- the map's first record
  module _ (alone : (j : ℕ) → j < i → on_same_map l i j ≡ false) where
    first_alone : is_first l i ≡ true
    unfolding is_first
    first_alone = true_not (below_none i (on_same_map l i) alone)

    day-alone : day_stands l i ≡ true
    unfolding day_stands
    day-alone = true_not (below_none i (λ j. on_same_map l i j && ltb (accession_at l i).day (accession_at l j).day) (λ j h. ap (λ b. b && ltb (accession_at l i).day (accession_at l j).day) (alone j h)))

    free-alone : supersedes_freely l i ≡ false
    unfolding supersedes_freely
    free-alone =
        ap (λ b. b && not (any_below_lem i (λ j. eqb (accession_at l j).superseded s)))
        (below_none i (λ j. on_same_map l i j && eqb (accession_at l j).own s) (λ j h. ap (λ b. b && eqb (accession_at l j).own s) (alone j h)))

    rules-alone : keeps_rules l i ≡ (own_ascends l i && eqb s 0)
    unfolding keeps_rules
    rules-alone = rw (day-alone, first_alone, free-alone) (go (own_ascends l i) (eqb s 0))
      where
        go : (a b : Bool) → (a && true && cond b true false) ≡ (a && b)
        go true true = refl
        go true false = refl
        go false b = refl

  -- a record that goes on from record k, the last of its map before it
  module _
      (ok : Keep l i) (k : ℕ) (h : k < i) (same : (accession_at l k).on_map ≡ (accession_at l i).on_map)
      (behind : (j : ℕ) → k < j → j < i → on_same_map l i j ≡ false) where
    same_test-k : on_same_map l i k ≡ true
    unfolding on_same_map
    same_test-k = eq-eqb (accession_at l k).on_map (accession_at l i).on_map same

    not_first : is_first l i ≡ false
    unfolding is_first
    not_first = ap not (below_at i (on_same_map l i) k h same_test-k)

    day_rule : day_stands l k ≡ true
    unfolding keeps_rules
    day_rule =
        (both (own_ascends l k) (day_stands l k)
        (both (own_ascends l k && day_stands l k) (cond (eqb (accession_at l k).superseded 0) (is_first l k) (supersedes_freely l k)) (ok k h)).0).1

    -- no record of the map before it is of a later day than the last
    latest : (j : ℕ) → j < i → on_same_map l i j ≡ true → (accession_at l j).day ≤ (accession_at l k).day
    unfolding day_stands on_same_map
    latest j m e = go (ltb k j) refl (ltb j k) refl
      where
        at_k : j < k → eqb (accession_at l j).on_map (accession_at l k).on_map ≡ true
        at_k p = eq-eqb (accession_at l j).on_map (accession_at l k).on_map (eqb-true (accession_at l j).on_map (accession_at l i).on_map e ∙ sym same)

        go : (t : Bool) → ltb k j ≡ t → (u : Bool) → ltb j k ≡ u → (accession_at l j).day ≤ (accession_at l k).day
        go true p u q = absurd (true≢false (sym e ∙ behind j (ltb-true k j p) m))
        go false p true q =
            let f = any-fails_at (λ j. on_same_map l k j && ltb (accession_at l k).day (accession_at l j).day) k (not-true _ day_rule) j (ltb-true j k q) in
            ltb-false (accession_at l k).day (accession_at l j).day (and_right f (at_k (ltb-true j k q)))
        go false p false q =
            let d : j ≡ k = omega (arith, ltb-false k j p, ltb-false j k q) in
            rw d (omega arith)

    day_last : day_stands l i ≡ leb (accession_at l k).day (accession_at l i).day
    unfolding day_stands
    day_last = same_test there back
      where
        f : ℕ → Bool
        f j = on_same_map l i j && ltb (accession_at l i).day (accession_at l j).day

        there : day_stands l i ≡ true → leb (accession_at l k).day (accession_at l i).day ≡ true
        there d = le-leb (accession_at l k).day (accession_at l i).day (ltb-false (accession_at l i).day (accession_at l k).day (and_right (any-fails_at f i (not-true _ d) k h) same_test-k))

        none_later : leb (accession_at l k).day (accession_at l i).day ≡ true → (j : ℕ) → j < i → (b : Bool) → on_same_map l i j ≡ b → (b && ltb (accession_at l i).day (accession_at l j).day) ≡ false
        none_later d j m false e = refl
        none_later d j m true e = le-ltb (accession_at l i).day (accession_at l j).day (omega (arith, latest j m e, leb-true (accession_at l k).day (accession_at l i).day d))

        back : leb (accession_at l k).day (accession_at l i).day ≡ true → day_stands l i ≡ true
        back d = true_not (below_none i f (λ j m. none_later d j m (on_same_map l i j) refl))

    last_k : later_below l i k ≡ false
    unfolding later_below on_same_map
    last_k = below_none i (λ j. ltb k j && on_same_map l k j) (λ j m. go j m (ltb k j) refl)
      where
        go : (j : ℕ) → j < i → (t : Bool) → ltb k j ≡ t → (t && eqb (accession_at l j).on_map (accession_at l k).on_map) ≡ false
        go j m true p = ap (eqb (accession_at l j).on_map) same ∙ behind j (ltb-true k j p) m
        go j m false p = refl

    -- the one record that is free is the last
    free_last : supersedes_freely l i ≡ eqb s (accession_at l k).own
    unfolding supersedes_freely superseded_below on_same_map
    free_last = same_test there back
      where
        f : ℕ → Bool
        f j = on_same_map l i j && eqb (accession_at l j).own s

        g : ℕ → Bool
        g j = eqb (accession_at l j).superseded s

        there : (any_below_lem i f && not (any_below_lem i g)) ≡ true → eqb s (accession_at l k).own ≡ true
        there q =
            let p = both (any_below_lem i f) (not (any_below_lem i g)) q in
            let F = below_first f i p.0 in
            let r = both (on_same_map l i F.place) (eqb (accession_at l F.place).own s) F.found in
            let m : (accession_at l F.place).on_map ≡ (accession_at l i).on_map = eqb-true (accession_at l F.place).on_map (accession_at l i).on_map r.0 in
            let o : (accession_at l F.place).own ≡ s = eqb-true (accession_at l F.place).own s r.1 in
            let unsuperseded : superseded_below l i F.place ≡ false = rw o (not-true _ p.1) in
            let last : later_below l i F.place ≡ false = sym (superseded-later l i ok i (omega arith) F.place F.below) ∙ unsuperseded in
            let here : F.place ≡ k = one_last l i ok i F.place k F.below h (m ∙ sym same) last last_k in
            eq-eqb s (accession_at l k).own (sym o ∙ ap (λ j. (accession_at l j).own) here)

        back : eqb s (accession_at l k).own ≡ true → (any_below_lem i f && not (any_below_lem i g)) ≡ true
        back q =
            let e : s ≡ (accession_at l k).own = eqb-true s (accession_at l k).own q in
            let found : any_below_lem i f ≡ true = below_at i f k h (ap₂ ◌&&◌ same_test-k (eq-eqb (accession_at l k).own s (sym e))) in
            let free : any_below_lem i g ≡ false =
            ap (λ t. any_below_lem i (λ j. eqb (accession_at l j).superseded t)) e ∙ superseded-later l i ok i (omega arith) k h ∙ last_k
            in
            ap₂ (λ a b. a && not b) found free

    rules_last : keeps_rules l i ≡ (own_ascends l i && (leb (accession_at l k).day (accession_at l i).day && eqb s (accession_at l k).own))
    unfolding keeps_rules
    rules_last = rw (day_last, not_first, free_last) (go (own_ascends l i) (leb (accession_at l k).day (accession_at l i).day) (eqb s 0) refl)
      where
        above : eqb s 0 ≡ true → eqb s (accession_at l k).own ≡ false
        above e = ne_eqb s (accession_at l k).own (λ q. omega (arith, eqb-true s 0 e, own-above l i ok k h))

        go : (a b t : Bool) → eqb s 0 ≡ t → (a && b && cond t false (eqb s (accession_at l k).own)) ≡ (a && (b && eqb s (accession_at l k).own))
        go false b t e = refl
        go true false t e = refl
        go true true true e = sym (above e)
        go true true false e = refl

pub chain : (l : List ℕ) (i : ℕ) → Keep l i → keeps_rules l i ≡ (own_ascends l i && follows l i (previous l i))
unfolding previous follows on_same_map
chain l i ok = go (previous l i) refl
  where
    go : (p : ℕ) → previous l i ≡ p → keeps_rules l i ≡ (own_ascends l i && follows l i p)
    go zero e = rules-alone l i (λ j h. none_behind (on_same_map l i) i j (omega arith) h)
    go (suc k) e =
        rules_last l i ok k (omega (arith, last_within (on_same_map l i) i))
        (eqb-true (accession_at l k).on_map (accession_at l i).on_map (last_passes (on_same_map l i) i k e)) (λ j h m. none_behind (on_same_map l i) i j (omega arith) m)

pub each_linked : (l : List ℕ) → accessions_fault l ≡ None → (i : ℕ) → i < accession_count l → Link l i
unfolding previous follows on_same_map
each_linked l f i h = go (previous l i) refl (both (own_ascends l i) (follows l i (previous l i)) (sym (chain l i (λ j k. ok j (omega arith))) ∙ ok i h)).1
  where
    ok : Keep l (accession_count l)
    ok = kept l f

    no : (j : ℕ) → eqb (accession_at l j).on_map (accession_at l i).on_map ≡ false → (accession_at l j).on_map ≡ (accession_at l i).on_map → ⊥
    no j = eqb-false (accession_at l j).on_map (accession_at l i).on_map

    go : (p : ℕ) → previous l i ≡ p → follows l i (previous l i) ≡ true → Link l i
    go zero e q =
        starts (eqb-true (accession_at l i).superseded 0 (rw e at q)) (λ j k. no j (none_behind (on_same_map l i) i j (omega arith) k))
    go (suc k) e q =
        let r = both (leb (accession_at l k).day (accession_at l i).day) (eqb (accession_at l i).superseded (accession_at l k).own) (rw e at q) in
        goes_on k (omega (arith, last_within (on_same_map l i) i))
        (eqb-true (accession_at l k).on_map (accession_at l i).on_map (last_passes (on_same_map l i) i k e))
        (eqb-true (accession_at l i).superseded (accession_at l k).own r.1)
        (leb-true (accession_at l k).day (accession_at l i).day r.0)
        (λ j a b. no j (none_behind (on_same_map l i) i j (omega arith) b))
