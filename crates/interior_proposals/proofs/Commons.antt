-- Which component owns a boundary, from the names of the regions of its pairs. Assumes nothing.
use Prim.Native.Nat.{ℕ, suc, ◌+◌, ◌-◌, ◌≤◌, ◌<◌}
use native.Mathlib.Omega.{arith}
use mathlib.Core.Path.{◌≡◌, refl, sym, ap, ap₂, subst, ◌∙◌}
use mathlib.Core.Bool.{Bool, true, false, ◌&&◌, ◌||◌, and-false, true≢false, false≢true}
use mathlib.Core.List.{List, []}
use lib.ListN.{length, get_or}
use lib.Dec.{eqb}
use borrow.Author.Tests.{eq-eqb, eqb-true, eqb-false}
use Rattle.std.specs.Prelude.{MatchBool}
use Rattle.definitions.specs.Scan.{any, all}
use Rattle.definitions.specs.Grid.{Pair}
use Rattle.definitions.specs.Context.{Context}
use Rattle.definitions.specs.RampInteriors.{is_ordinary, components, component_of, is_edge}
use Rattle.laws.specs.ListLaws.Lists.{All, done, more, all_map}
use Rattle.laws.specs.ListLaws.Members.{all_at, any_found}
use Rattle.context.specs.Shown.{pair_at, pairs_between, ShownPairs}
use Rattle.interior_proposals.specs.Forest.{Names}
use Rattle.context.specs.declared.found_regions.FoundRegions.{FoundRegions}
use Rattle.context.specs.declared.found_regions.FoundRegions.TheVariants as owner-is
use Rattle.interior_proposals.proofs.RowScans.{all-holds, any-rows_at, all-rows_is}
use Rattle.interior_proposals.specs.Owners.{entry_at, low_named, nobody, one_owner, several, is_one, owned_by, name_of, Common, none, one, several_names, all_in_lem, edge, Owned}

-- ---- tests of lists that agree on what stands there

pub any_same : {A : Type 0} (f g : A → Bool) {l : List A} → All (λ x. f x ≡ g x) l → any f l ≡ any g l
unfolding any
any_same f g done = refl
any_same f g (more h a) = ap₂ ◌||◌ h (any_same f g a)

all_same : {A : Type 0} (f g : A → Bool) {l : List A} → All (λ x. f x ≡ g x) l → all f l ≡ all g l
unfolding all
all_same f g done = refl
all_same f g (more h a) = ap₂ ◌&&◌ h (all_same f g a)

-- ---- owners that are of two kinds

one-owned : (r : ℕ) → owned_by r (one_owner r) ≡ true
one-owned r = eq-eqb r r refl

pub nobody_one : {r : ℕ} → nobody ≡ one_owner r → ⊥
nobody_one {r} e = false≢true (ap (owned_by r) e ∙ one-owned r)

pub several_one : {r : ℕ} → several ≡ one_owner r → ⊥
several_one {r} e = false≢true (ap (owned_by r) e ∙ one-owned r)

pub nobody_several : nobody ≡ several → ⊥
nobody_several e =
    let z : ◌≡◌ {A = ℕ} 0 1 = cc in
    omega arith

pub one_named : (o : FoundRegions) → is_one o ≡ true → o ≡ one_owner (name_of o)
one_named owner-is.None e = absurd (false≢true e)
one_named (owner-is.One r) e = refl
one_named owner-is.Several e = absurd (false≢true e)

pub owned_one : (r : ℕ) (o : FoundRegions) → owned_by r o ≡ true → o ≡ one_owner r
owned_one r owner-is.None e = absurd (false≢true e)
owned_one r (owner-is.One n) e = ap one_owner (eqb-true n r e)
owned_one r owner-is.Several e = absurd (false≢true e)

-- ---- what a chain over rows gives, of which the first has the name n

module _ (names rows : List ℕ) (first end : ℕ) (some_row : first < end) {n : ℕ} (named : n ≡ entry_at names (pair_at rows first).lo) where
  first_named : any (low_named names n) (pairs_between rows first end) ≡ true
  first_named = any-rows_at (low_named names n) rows first first end (omega arith) some_row (eq-eqb _ n (sym named))

  abbrev Asked : Bool → Type 0
  Asked r = MatchBool r ((k : ℕ) → first ≤ k → k < end → low_named names n (pair_at rows k) ≡ true) ((k : ℕ) × (first ≤ k) × (k < end) × (low_named names n (pair_at rows k) ≡ false))

  pub common_one : (r : Bool) → Asked r → r ≡ true → Common names (pairs_between rows first end) (one_owner n)
  common_one true h e = one n (sym (all-rows_is (low_named names n) rows first end (omega arith) true h)) first_named
  common_one false h e = absurd (false≢true e)

  pub common-several : (r : Bool) → Asked r → r ≡ false → Common names (pairs_between rows first end) several
  common-several true h e = absurd (true≢false e)
  common-several false (k, a, b, e) q =
      let other = entry_at names (pair_at rows k).lo in
      several_names n other (λ d. true≢false (sym (eq-eqb other n (sym d)) ∙ e)) first_named (any-rows_at (low_named names other) rows first k end a b (eq-eqb other other refl))

-- ---- numbers f of the elements of a list

module _ {A : Type 0} (f : A → ℕ) (l : List A) where
  -- all are n, and one is r
  one_of_lem : (n r : ℕ) → all (λ p. eqb (f p) n) l ≡ true → any (λ p. eqb (f p) r) l ≡ true → n ≡ r
  one_of_lem n r a b =
      let w = any_found (λ p. eqb (f p) r) l b in
      sym (eqb-true (f w.0) n (all_at (all-holds (λ p. eqb (f p) n) l a) w.1)) ∙ eqb-true (f w.0) r w.2

module _ (C : Context) (i : ℕ) where
  abbrev name : Pair → ℕ
  name p = component_of C (components C) p.lo

  abbrev low_in : ℕ → Pair → Bool
  low_in r p = eqb (name p) r

  -- a boundary that is no ordinary full cut
  pub owned_none : is_ordinary C i ≡ false → Owned C i nobody
  unfolding is_edge
  owned_none o =
      record {
        range = λ r e. absurd (nobody_one e);
        whole = λ r a b. sym (ap (λ t. t && any (low_in r) (C.pairs i) && all_in_lem C r i) o);
        part = λ r a b e n. absurd (false≢true (sym (ap (λ t. t && any (low_in r) (C.pairs i)) o) ∙ e));
        ordinary = λ e. absurd (nobody_several e);
      }

  module _ (o : is_ordinary C i ≡ true) where
    edge-any : (r : ℕ) → edge C r i ≡ any (low_in r) (C.pairs i)
    unfolding is_edge
    edge-any r = ap (λ t. t && any (low_in r) (C.pairs i)) o

    owned-empty : C.pairs i ≡ [] → Owned C i nobody
    unfolding any
    owned-empty e =
        record {
          range = λ r q. absurd (nobody_one q);
          whole = λ r a b. sym (ap (λ t. t && all_in_lem C r i) (edge-any r ∙ ap (any (low_in r)) e));
          part = λ r a b q n. absurd (false≢true (sym (ap (any (low_in r)) e) ∙ sym (edge-any r) ∙ q));
          ordinary = λ q. absurd (nobody_several q);
        }

    owned_named : (n : ℕ) → 1 ≤ n → n ≤ C.regions → all (low_in n) (C.pairs i) ≡ true → any (low_in n) (C.pairs i) ≡ true → Owned C i (one_owner n)
    owned_named n a b h k =
        record {
          range = λ r e. subst (λ x. (1 ≤ x) × (x ≤ C.regions)) {x = n} {y = r} (ap name_of e) (a, b);
          whole = λ r c e. go r (eqb n r) refl;
          part = λ r c e q m. subst (λ x. all (low_in x) (C.pairs i) ≡ true) (one_of_lem name (C.pairs i) n r h (sym (edge-any r) ∙ q)) h;
          ordinary = λ q. absurd (several_one (sym q));
        }
      where
        none_of : (r : ℕ) → (n ≡ r → ⊥) → (t : Bool) → any (low_in r) (C.pairs i) ≡ t → t ≡ false
        none_of r q true e = absurd (q (one_of_lem name (C.pairs i) n r h e))
        none_of r q false e = refl

        go : (r : ℕ) (t : Bool) → eqb n r ≡ t → t ≡ (edge C r i && all_in_lem C r i)
        go r true e =
            sym (ap₂ ◌&&◌ (edge-any r ∙ subst (λ x. any (low_in x) (C.pairs i) ≡ true) (eqb-true n r e) k) (subst (λ x. all (low_in x) (C.pairs i) ≡ true) (eqb-true n r e) h))
        go r false e = sym (ap (λ t. t && all_in_lem C r i) (edge-any r ∙ none_of r (eqb-false n r e) (any (low_in r) (C.pairs i)) refl))

    owned-several : (m n : ℕ) → (m ≡ n → ⊥) → any (low_in m) (C.pairs i) ≡ true → any (low_in n) (C.pairs i) ≡ true → Owned C i several
    owned-several m n d h k =
        record {
          range = λ r e. absurd (several_one e);
          whole = λ r a b. sym (ap (λ t. edge C r i && t) (apart r (all_in_lem C r i) refl) ∙ and-false (edge C r i));
          part = λ r a b q e. absurd (e refl);
          ordinary = λ e. o;
        }
      where
        apart : (r : ℕ) (t : Bool) → all_in_lem C r i ≡ t → t ≡ false
        apart r true e = absurd (d (sym (one_of_lem name (C.pairs i) r m e h) ∙ one_of_lem name (C.pairs i) r n e k))
        apart r false e = refl

  -- ---- from the list of names

  module _ {names rows starts : List ℕ} (N : Names (components C) names) (size : length (components C) ≡ suc C.regions) (P : ShownPairs C rows starts) (l : i < C.count) where
    pub name-shown : (r : ℕ) → All (λ p. low_named names r p ≡ low_in r p) (C.pairs i)
    name-shown r = all_map (λ p w. ap (λ n. eqb n r) (N.at p.lo w.0 (omega (arith, w.1.0, w.1.1)))) (P.named i l)

    low-name : (r : ℕ) → any (low_in r) (C.pairs i) ≡ true → (1 ≤ r) × (r ≤ C.regions)
    low-name r e =
        let w = any_found (low_in r) (C.pairs i) e in
        let p = all_at (P.named i l) w.1 in
        let in_names : w.0.lo < length (components C) = omega (arith, p.1.0, p.1.1) in
        let q : get_or names (w.0.lo - 1) 0 ≡ r = N.at w.0.lo p.0 in_names ∙ eqb-true (name w.0) r w.2 in
        (omega (arith, N.low w.0.lo p.0 in_names), omega (arith, N.high w.0.lo p.0 in_names, p.1.0, p.1.1))

    -- v is what `common_name` returned
    pub owned : {v : FoundRegions} → is_ordinary C i ≡ true → Common names (pairs_between rows (get_or starts i 0) (get_or starts (i + 1) 0)) v → Owned C i v
    owned {v} o q = go (subst (λ ps. Common names ps v) (sym (P.at i l)) q)
      where
        shown-any : (r : ℕ) → any (low_named names r) (C.pairs i) ≡ true → any (low_in r) (C.pairs i) ≡ true
        shown-any r e = sym (any_same (low_named names r) (low_in r) (name-shown r)) ∙ e

        go : {u : FoundRegions} → Common names (C.pairs i) u → Owned C i u
        go (none e) = owned-empty o e
        go (one n a b) =
            let w = low-name n (shown-any n b) in
            owned_named o n w.0 w.1 (sym (all_same (low_named names n) (low_in n) (name-shown n)) ∙ a) (shown-any n b)
        go (several_names m n d a b) = owned-several o m n d (shown-any m a) (shown-any n b)
