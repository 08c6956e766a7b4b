-- Labels in place of parents, stretch by stretch: before cell c the entries are labels, from c on parents, and as many labels are given as there are names
-- before c. Assumes nothing.
use Prim.Native.Nat.{ℕ, zero, suc, ◌+◌, ◌-◌, ◌≤◌, ◌<◌, max}
use native.Mathlib.Omega.{arith}
use mathlib.Core.Path.{◌≡◌, refl, sym, ap, ap₂, ◌∙◌, subst}
use mathlib.Core.Bool.{Bool, true, false, ◌&&◌, cond, and-false}
use mathlib.Core.List.{List}
use lib.ListN.{length, get_or}
use lib.Dec.{eqb, ltb}
use borrow.Author.Tests.{eqb-true, eqb-false, eq-eqb, ne_eqb, ltb-true, ltb-false}
use Rattle.definitions.specs.Scan.{count_below}
use Rattle.laws.specs.ListLaws.ScanSteps.{count_in, count-out, count-le}
use Rattle.laws.specs.ListLaws.Beyond.{Beyond, beyond_same, beyond-then}
use Rattle.parents.specs.ForestLaws.{name-low, name-own}
use Rattle.row_runs.specs.Stretch.{walks}
use Rattle.row_runs.specs.Numbered.{NamedRuns, ended, more, is_named, Named, NumberAsked, Numbered, label_at, LabelAsked, Filled}

-- ---- the label of a stretch, by its tests

module _ (cells l : List ℕ) (c id : ℕ) where
  pub label-gap : walks cells c ≡ false → 0 ≡ label_at cells l c id
  label-gap w = rw w refl

  pub label-new : walks cells c ≡ true → get_or l c 0 ≡ c → id + 1 ≡ label_at cells l c id
  label-new w e = rw (w, eq-eqb (get_or l c 0) c e) refl

  pub label-known : walks cells c ≡ true → (get_or l c 0 ≡ c → ⊥) → get_or l (get_or l c 0) 0 ≡ label_at cells l c id
  label-known w e = rw (w, ne_eqb (get_or l c 0) c e) refl

-- ---- counts

module _ (f : ℕ → Bool) where
  -- where none of the places from c up to e is counted, no more are
  count-still : (c k : ℕ) → ((d : ℕ) → c ≤ d → d < c + k → f d ≡ false) → count_below (c + k) f ≡ count_below c f
  count-still c zero h = ap (λ x. count_below x f) (omega arith)
  count-still c (suc k) h =
      let next : c + suc k ≡ c + k + 1 = omega arith in
      ap (λ x. count_below x f) next ∙ count-out f (c + k) (h (c + k) (omega arith) (omega arith)) ∙ count-still c k (λ d i j. h d i (omega arith))

  count_same : (c e : ℕ) → c ≤ e → ((d : ℕ) → c ≤ d → d < e → f d ≡ false) → count_below e f ≡ count_below c f
  count_same c e h off =
      let there : c + (e - c) ≡ e = omega arith in
      ap (λ x. count_below x f) (sym there) ∙ count-still c (e - c) (λ d i j. off d i (omega arith))

  -- one that is counted is behind those before it
  count_below_lem : (m k : ℕ) → f m ≡ true → count_below m f < count_below (m + 1 + k) f
  count_below_lem m zero t = let is : m + 1 + zero ≡ m + 1 = omega arith in omega (arith, ap (λ x. count_below x f) is, count_in f m t)
  count_below_lem m (suc k) t =
      let is : m + 1 + suc k ≡ m + 1 + k + 1 = omega arith in
      go (f (m + 1 + k)) refl (ap (λ x. count_below x f) is) (count_below_lem m k t)
    where
      go : (b : Bool) → f (m + 1 + k) ≡ b → count_below (m + 1 + suc k) f ≡ count_below (m + 1 + k + 1) f → count_below m f < count_below (m + 1 + k) f → count_below m f < count_below (m + 1 + suc k) f
      go true e s ih = omega (arith, count_in f (m + 1 + k) e)
      go false e s ih = omega (arith, count-out f (m + 1 + k) e)

  count-before : (m c : ℕ) → m < c → f m ≡ true → count_below m f < count_below c f
  count-before m c h t =
      let there : m + 1 + (c - m - 1) ≡ c = omega arith in
      subst (λ x. count_below m f < count_below x f) there (count_below_lem m (c - m - 1) t)

-- ---- the loop

-- the label of the name x, and that of a cell by its name
abbrev pub numbered : List ℕ → (ℕ → ℕ) → ℕ → ℕ
numbered cells name x = suc (count_below x (is_named cells name))

abbrev pub label_of : List ℕ → (ℕ → ℕ) → ℕ → ℕ
label_of cells name d = cond (walks cells d) (numbered cells name (name d)) 0

pub record Half (cells q : List ℕ) (n : ℕ) (name : ℕ → ℕ) (was l : List ℕ) (id c : ℕ) : Type 0 where
  labels : (d : ℕ) → d < c → get_or l d 0 ≡ label_of cells name d
  parents : (d : ℕ) → c ≤ d → d < n → get_or l d 0 ≡ get_or was d 0
  count : id ≡ count_below c (is_named cells name)
  runs : NamedRuns cells q name n c
  beyond : Beyond n was l

pub record Numbering (cells q : List ℕ) (n : ℕ) (was l : List ℕ) (id c : ℕ) : Type 0 where
  pub ends : c ≤ n
  pub all : (name : ℕ → ℕ) → Named cells was q n name → Half cells q n name was l id c

pub numbering_starts : (cells q : List ℕ) (n : ℕ) (was : List ℕ) → Numbering cells q n was was 0 0
unfolding count_below
numbering_starts cells q n was =
    record {
      ends = omega arith;
      all = λ name N.
          record { labels = λ d i. absurd (omega arith); parents = λ d i k. refl; count = refl; runs = N.runs; beyond = beyond_same n was };
    }

-- the stretch at c
record Turn (cells q : List ℕ) (name : ℕ → ℕ) (n c e : ℕ) : Type 0 where
  more : c < e
  ends : e ≤ n
  alike : (d : ℕ) → c ≤ d → d < e → walks cells d ≡ walks cells c
  one : walks cells c ≡ true → (d : ℕ) → c ≤ d → d < e → name d ≡ name c
  rest : NamedRuns cells q name n e

turn : {cells q : List ℕ} {name : ℕ → ℕ} {n c : ℕ} → NamedRuns cells q name n c → c < n → Turn cells q name n c (get_or q c 0)
turn ended h = absurd (omega arith)
turn {cells} {q} {name} {n} {c} (more h k e alike one rest) _ = subst (Turn cells q name n c) (sym e) (record { more = h; ends = k; alike = alike; one = one; rest = rest })

module _ {cells q : List ℕ} {n : ℕ} {name : ℕ → ℕ} {was l : List ℕ} {id c : ℕ} (N : Named cells was q n name) (H : Half cells q n name was l id c) (h : c < n) where
  as_was : get_or l c 0 ≡ get_or was c 0
  as_was = H.parents c (omega arith) h

  parent_low_lem : get_or l c 0 ≤ c
  parent_low_lem = omega (arith, as_was, (N.forest.parent c h).low)

  -- the label of c is that of its name
  label_is : label_at cells l c id ≡ label_of cells name c
  label_is = go (walks cells c) refl (eqb (get_or l c 0) c) refl
    where
      go : (b : Bool) → walks cells c ≡ b → (t : Bool) → eqb (get_or l c 0) c ≡ t → label_at cells l c id ≡ label_of cells name c
      go false w t e = sym (label-gap cells l c id w) ∙ rw w refl
      go true w true e =
          let own : name c ≡ c = (N.forest.parent c h).top (sym as_was ∙ eqb-true (get_or l c 0) c e) in
          let next : id + 1 ≡ numbered cells name c = omega (arith, H.count) in
          sym (label-new cells l c id w (eqb-true (get_or l c 0) c e)) ∙ next ∙ ap (numbered cells name) (sym own) ∙ rw w refl
      go true w false e =
          let p = get_or l c 0 in
          let less : p < c = omega (arith, parent_low_lem, eqb-false (get_or l c 0) c e) in
          let same : name p ≡ name c = ap name as_was ∙ (N.forest.parent c h).same in
          let walked : walks cells p ≡ true = sym (N.walkable p (omega arith)) ∙ ap (walks cells) same ∙ N.walkable c h ∙ w in
          sym (label-known cells l c id w (eqb-false (get_or l c 0) c e)) ∙ H.labels p less
          ∙ ap (λ b. cond b (numbered cells name (name p)) 0) walked ∙ ap (numbered cells name) same ∙ rw w refl

  -- as many names are found up to the stretch's end as the greatest label then given
  count_is : {e : ℕ} → Turn cells q name n c e → count_below e (is_named cells name) ≡ max id (label_of cells name c)
  count_is {e} T = go (walks cells c) refl (eqb (name c) c) refl
    where
      -- no cell of a run is its own name, but its first may be
      behind : walks cells c ≡ true → (d : ℕ) → c ≤ d → d < e → (d ≡ name c → ⊥) → is_named cells name d ≡ false
      behind w d i k off = ap (λ b. walks cells d && b) (ne_eqb (name d) d (λ s. off (sym s ∙ T.one w d i k))) ∙ and-false (walks cells d)

      go : (b : Bool) → walks cells c ≡ b → (t : Bool) → eqb (name c) c ≡ t → count_below e (is_named cells name) ≡ max id (label_of cells name c)
      go false w t s =
          let f = is_named cells name in
          let gap : count_below e f ≡ count_below c f = count_same f c e (omega (arith, T.more)) (λ d i k. ap (λ b. b && eqb (name d) d) (T.alike d i k ∙ w)) in
          gap ∙ sym H.count ∙ most ∙ ap (max id) (sym zero-label)
        where
          zero-label : label_of cells name c ≡ 0
          zero-label = rw w refl

          most : id ≡ max id 0
          most = omega arith
      go true w true s =
          let f = is_named cells name in
          let own : name c ≡ c = eqb-true (name c) c s in
          let is : count_below (c + 1) f ≡ count_below c f + 1 = count_in f c (ap₂ ◌&&◌ w s) in
          let none : count_below e f ≡ count_below (c + 1) f = count_same f (c + 1) e (omega (arith, T.more)) (λ d i k. behind w d (omega arith) k (λ x. omega (arith, own))) in
          let new : label_of cells name c ≡ suc (count_below c f) = (rw w refl) ∙ ap (λ x. suc (count_below x f)) own in
          omega (arith, none, is, new, H.count)
      go true w false s =
          let f = is_named cells name in
          let less : name c < c = omega (arith, name-low N.forest c h, eqb-false (name c) c s) in
          let none : count_below e f ≡ count_below c f = count_same f c e (omega (arith, T.more)) (λ d i k. behind w d i k (λ x. omega arith)) in
          let known : f (name c) ≡ true = ap₂ ◌&&◌ (N.walkable c h ∙ w) (eq-eqb (name (name c)) (name c) (name-own N.forest c h)) in
          let old : label_of cells name c ≡ suc (count_below (name c) f) = rw w refl in
          omega (arith, none, old, H.count, count-before f (name c) c less known)

  half-goes_on : {l' : List ℕ} {e v id' : ℕ} → Turn cells q name n c e → v ≡ label_at cells l c id → id' ≡ max id v → Filled c e v l l' → Half cells q n name was l' id' e
  half-goes_on {l'} {e} {v} {id'} T is most F =
      record {
        labels = λ d i. go d i (ltb d c) refl;
        parents = λ d i k. F.behind d i ∙ H.parents d (omega (arith, T.more)) k;
        count = most ∙ ap (max id) (is ∙ label_is) ∙ sym (count_is T);
        runs = T.rest;
        beyond = beyond-then H.beyond (record { long = F.long; rest = F.rest n T.ends });
      }
    where
      -- one label throughout
      like : (d : ℕ) → c ≤ d → d < e → (b : Bool) → walks cells c ≡ b → label_of cells name c ≡ label_of cells name d
      like d i k false w = (rw w refl) ∙ sym (ap (λ b. cond b (numbered cells name (name d)) 0) (T.alike d i k ∙ w))
      like d i k true w =
          ap₂ (λ b x. cond b (numbered cells name x) 0) (sym (T.alike d i k)) (sym (T.one w d i k))

      go : (d : ℕ) → d < e → (b : Bool) → ltb d c ≡ b → get_or l' d 0 ≡ label_of cells name d
      go d i true k = F.before d (ltb-true d c k) ∙ H.labels d (ltb-true d c k)
      go d i false k = let past = ltb-false d c k in F.inside d past i ∙ is ∙ label_is ∙ like d past i (walks cells c) refl

module _ {cells q : List ℕ} {n : ℕ} {was l : List ℕ} {id c : ℕ} (I : Numbering cells q n was l id c) where
  module _ (A : NumberAsked cells was q n) where
    half : Half cells q n A.name was l id c
    half = I.all A.name A.named

    pub labels_long_lem : length l ≡ length was
    labels_long_lem = half.beyond.long

    few : id ≤ 1048576
    few = omega (arith, half.count, count-le (is_named cells A.name) c, I.ends, A.named.forest.few)

    module _ (h : c < n) where
      pub end_more : c < get_or q c 0
      end_more = (turn half.runs h).more

      pub end-inside : get_or q c 0 ≤ n
      end-inside = (turn half.runs h).ends

      pub room : n ≤ length l
      room = omega (arith, labels_long_lem, A.named.forest.long)

      pub label-asked : LabelAsked cells l c id
      label-asked =
          record { cells_long = omega (arith, A.cells_long); labels_long = omega (arith, room); parent_low = parent_low_lem A.named half h; few = few }

      pub numbering_goes_on : {l' : List ℕ} {e v id' : ℕ} → e ≡ get_or q c 0 → v ≡ label_at cells l c id → Filled c e v l l' → id' ≡ max id v → Numbering cells q n was l' id' e
      numbering_goes_on {l'} {e} is label F most =
          record {
            ends = omega (arith, is, end-inside);
            all = λ name N. let H = I.all name N in half-goes_on N H h (subst (Turn cells q name n c) (sym is) (turn H.runs h)) label most F;
          }

  pub numbering_ends : n ≤ c → {r : ℕ} → r ≡ id → (name : ℕ → ℕ) → Named cells was q n name → Numbered cells n name was l r
  numbering_ends h {r} is name N =
      let H = I.all name N in
      let done : c ≡ n = omega (arith, I.ends) in
      record {
        labels = λ d i. H.labels d (omega (arith, done));
        count = is ∙ H.count ∙ ap (λ x. count_below x (is_named cells name)) done;
        beyond = H.beyond;
      }
