-- "each once": where the terms keep the rules, a map has at most one term with a given day. Assumes nothing.
use Rattle.std.specs.Prelude.{ℕ, ◌<◌, ◌≡◌, refl, Bool, true, false, ◌&&◌, ◌||◌, List, eqb, ltb, leb, Option, None, Some}
use Rattle.std.proofs.Common.{arith, sym, ap, ◌∙◌, leb-true, ltb-true, lt-ltb, eq-eqb}
use Rattle.std.proofs.lemmas.Bool.{false≢true}
use Rattle.definitions.specs.Scan.{only_if}
use Rattle.laws.specs.ListLaws.Tests.{both, neither}
use Rattle.laws.specs.ListLaws.ScanSteps.{any-fails_at}
use Rattle.laws.specs.ListLaws.NoFault.{none_at}
use Rattle.catalogue.specs.Terms.{term_at, term_count, Days, days_of, is_empty, overlap, contains, overlaps_earlier, term_fault, terms_refusal}

not-kept : {A : Type 0} (b : Bool) (a : A) → only_if b a ≡ None → b ≡ false
not-kept true a h = absurd (some_none h)
  where
    some_none : {A : Type 0} {a : A} → Some a ≡ None → ⊥
    some_none h = let z : ◌≡◌ {A = ℕ} 0 1 = cc in omega arith
not-kept false a h = refl

-- two terms with a day in common share that day
share : (day : ℕ) (d e : Days) → contains day (Some d) ≡ true → contains day (Some e) ≡ true → overlap d (Some e) ≡ true
share day d e h k =
    let p = both (leb d.from day) (ltb day d.to) h in
    let q = both (leb e.from day) (ltb day e.to) k in
    let a : d.from < e.to = omega (arith, leb-true d.from day p.0, ltb-true day e.to q.1) in
    let b : e.from < d.to = omega (arith, leb-true e.from day q.0, ltb-true day d.to p.1) in
    rw (lt-ltb d.from e.to a, lt-ltb e.from d.to b) refl

pub each_once : (l : List ℕ) → terms_refusal l ≡ None → (day i j : ℕ) → i < j → j < term_count l → (term_at l i).on_map ≡ (term_at l j).on_map
    → contains day (days_of (term_at l i)) ≡ true → contains day (days_of (term_at l j)) ≡ true → ⊥
unfolding terms_refusal overlaps_earlier
each_once l h day i j b n m p q = later (days_of (term_at l j)) refl q (none_at (λ k. term_fault l k (days_of (term_at l k))) (term_count l) h j n)
  where
    later : (D : Option Days) → days_of (term_at l j) ≡ D → contains day D ≡ true → term_fault l j D ≡ None → ⊥
    later None e q f = false≢true q
    later (Some d) e q f = earlier (days_of (term_at l i)) refl p
      where
        free : overlaps_earlier l j d ≡ false
        free = (neither (is_empty d) (overlaps_earlier l j d) (not-kept (is_empty d || overlaps_earlier l j d) (record { number = 19; place = j }) f)).1

        apart : (eqb (term_at l i).on_map (term_at l j).on_map && overlap d (days_of (term_at l i))) ≡ false
        apart = any-fails_at (λ k. eqb (term_at l k).on_map (term_at l j).on_map && overlap d (days_of (term_at l k))) j free i b

        earlier : (E : Option Days) → days_of (term_at l i) ≡ E → contains day E ≡ true → ⊥
        earlier None e p = false≢true p
        earlier (Some c) e p =
            let together : (eqb (term_at l i).on_map (term_at l j).on_map && overlap d (days_of (term_at l i))) ≡ true =
            rw (eq-eqb (term_at l i).on_map (term_at l j).on_map m) (ap (overlap d) e ∙ share day d c q p) in
            false≢true (sym apart ∙ together)
