-- The Rust's BTreeMap from a number to a set of numbers, as its entries by ascending key: what an insertion changes, and that two maps without empty entries which
-- hold the same at every key are one. Assumes nothing.
use Prim.Native.Nat.{ℕ, ◌<◌}
use Rattle.std.proofs.Common.{arith, sym, ap, ◌∙◌, subst}
use Rattle.std.specs.Prelude.{◌≡◌, Bool, true, false, eqb, ltb}
use Rattle.std.proofs.Math.Path.{refl}
use Rattle.std.proofs.Math.Bool.{cond}
use Rattle.std.proofs.lemmas.Bool.{false≢true}
use mathlib.Core.List.{List, [], ◌∷◌}
use borrow.Author.Tests.{lt-ltb, le-ltb, eqb-true, eq-eqb, ne_eqb}
use Rattle.laws.specs.ListLaws.Lists.{All, done, more, all_map}
use Rattle.laws.specs.OrderLaws.ListOrder.{Three, less, same, over, three}
use Rattle.laws.specs.SetLaws.Sets.{set_insert}

pub record Entry : Type 0 where
  pub region : ℕ
  pub boundaries : List ℕ

--     incidents.entry(*region).or_default().insert(index);
unfoldable pub insert_at : List Entry → ℕ → ℕ → List Entry
insert_at [] r j = record { region = r; boundaries = set_insert [] j } ∷ []
insert_at (e ∷ es) r j =
    cond (ltb r e.region) (record { region = r; boundaries = set_insert [] j } ∷ e ∷ es)
    (cond (eqb r e.region) (record { region = e.region; boundaries = set_insert e.boundaries j } ∷ es) (e ∷ insert_at es r j))

-- `incidents.get(&r)`, where no entry is an empty set
unfoldable pub boundaries_at : List Entry → ℕ → List ℕ
boundaries_at [] r = []
boundaries_at (e ∷ es) r = cond (eqb r e.region) e.boundaries (boundaries_at es r)

-- ---- maps that are ascending

-- by ascending key
pub data Rising : List Entry → Type 0 where
  ends : Rising []
  rises : {e : Entry} {es : List Entry} → All (λ f. e.region < f.region) es → Rising es → Rising (e ∷ es)

abbrev pub is_filled : List ℕ → Bool
is_filled [] = false
is_filled (x ∷ l) = true

abbrev pub Filled : List Entry → Type 0
Filled es = All (λ e. is_filled e.boundaries ≡ true) es

-- a key that is below every key
pub at_above : (r : ℕ) {es : List Entry} → All (λ e. r < e.region) es → boundaries_at es r ≡ []
unfolding boundaries_at
at_above r done = refl
at_above r (more {x = e} h a) = rw (ne_eqb r e.region (λ q. omega arith)) (at_above r a)

head_at : (e : Entry) (es : List Entry) → boundaries_at (e ∷ es) e.region ≡ e.boundaries
unfolding boundaries_at
head_at e es = rw (eq-eqb e.region e.region refl) refl

below_at : (r : ℕ) (e : Entry) {es : List Entry} → r < e.region → All (λ f. e.region < f.region) es → boundaries_at (e ∷ es) r ≡ []
below_at r e h a = at_above r (more h (all_map (λ f k. omega arith) a))

empty-filled : (l : List ℕ) → is_filled l ≡ true → l ≡ [] → ⊥
empty-filled l h e = false≢true (sym (ap is_filled e) ∙ h)

tails-agree : (e f : Entry) {es fs : List Entry} → e.region ≡ f.region → All (λ g. e.region < g.region) es → All (λ g. f.region < g.region) fs → ((x : ℕ) → boundaries_at (e ∷ es) x ≡ boundaries_at (f ∷ fs) x) → (x : ℕ) → boundaries_at es x ≡ boundaries_at fs x
unfolding boundaries_at
tails-agree e f {es} {fs} k a b h x = go (eqb x e.region) refl (h x)
  where
    go : (c : Bool) → eqb x e.region ≡ c → cond (eqb x e.region) e.boundaries (boundaries_at es x) ≡ cond (eqb x f.region) f.boundaries (boundaries_at fs x) → boundaries_at es x ≡ boundaries_at fs x
    go true c g = rw (eqb-true x e.region c) (at_above e.region a ∙ sym (rw k (at_above f.region b)))
    go false c g = sym (ap (λ t. cond t e.boundaries (boundaries_at es x)) c) ∙ g ∙ ap (λ t. cond t f.boundaries (boundaries_at fs x)) (ap (eqb x) (sym k) ∙ c)

-- two maps that hold the same at every key
pub same_map : {es fs : List Entry} → Rising es → Rising fs → Filled es → Filled fs → ((x : ℕ) → boundaries_at es x ≡ boundaries_at fs x) → es ≡ fs
unfolding boundaries_at
same_map ends ends p q h = refl
same_map ends (rises {e = f} {es = fs} b t) p (more k q) h = absurd (empty-filled f.boundaries k (sym (head_at f fs) ∙ sym (h f.region)))
same_map (rises {e = e} {es = es} a s) ends (more k p) q h = absurd (empty-filled e.boundaries k (sym (head_at e es) ∙ h e.region))
same_map (rises {e = e} {es = es} a s) (rises {e = f} {es = fs} b t) (more k p) (more l q) h = go (three e.region f.region) (same_map s t p q)
  where
    go : Three e.region f.region → (((x : ℕ) → boundaries_at es x ≡ boundaries_at fs x) → es ≡ fs) → e ∷ es ≡ f ∷ fs
    go (less m) ih = absurd (empty-filled e.boundaries k (sym (head_at e es) ∙ h e.region ∙ below_at e.region f m b))
    go (same m) ih = λ i. record { region = m i; boundaries = held i } ∷ ih (tails-agree e f m a b h) i
      where
        held : e.boundaries ≡ f.boundaries
        held = sym (head_at e es) ∙ h e.region ∙ ap (boundaries_at (f ∷ fs)) m ∙ head_at f fs
    go (over m) ih = absurd (empty-filled f.boundaries l (sym (head_at f fs) ∙ sym (h f.region) ∙ below_at f.region e m a))

-- ---- one more boundary

pub insert-filled : (l : List ℕ) (j : ℕ) → is_filled (set_insert l j) ≡ true
unfolding set_insert
insert-filled [] j = refl
insert-filled (y ∷ l) j = go (ltb j y) (eqb j y)
  where
    go : (a b : Bool) → is_filled (cond a (j ∷ y ∷ l) (cond b (y ∷ l) (y ∷ set_insert l j))) ≡ true
    go true b = refl
    go false true = refl
    go false false = refl

module _ (r j : ℕ) where
  abbrev fresh : Entry
  fresh = record { region = r; boundaries = set_insert [] j }

  abbrev grown : Entry → Entry
  grown e = record { region = e.region; boundaries = set_insert e.boundaries j }

  -- by how r compares with the first key
  module _ (e : Entry) (es : List Entry) where
    insert_less : r < e.region → insert_at (e ∷ es) r j ≡ fresh ∷ e ∷ es
    unfolding insert_at
    insert_less h = rw (lt-ltb r e.region h) refl

    insert_same : r ≡ e.region → insert_at (e ∷ es) r j ≡ grown e ∷ es
    unfolding insert_at
    insert_same h = rw (le-ltb r e.region (omega arith), eq-eqb r e.region h) refl

    insert-over : e.region < r → insert_at (e ∷ es) r j ≡ e ∷ insert_at es r j
    unfolding insert_at
    insert-over h = rw (le-ltb r e.region (omega arith), ne_eqb r e.region (λ q. omega arith)) refl

  pub at_insert : (x : ℕ) {es : List Entry} → Rising es → boundaries_at (insert_at es r j) x ≡ cond (eqb x r) (set_insert (boundaries_at es x) j) (boundaries_at es x)
  unfolding boundaries_at
  at_insert x ends = first
    where
      first : boundaries_at (insert_at [] r j) x ≡ cond (eqb x r) (set_insert [] j) []
      first = unfold insert_at in refl
  at_insert x (rises {e = e} {es = es} a s) = go (three r e.region) (at_insert x s)
    where
      was : List ℕ
      was = cond (eqb x e.region) e.boundaries (boundaries_at es x)

      go : Three r e.region → boundaries_at (insert_at es r j) x ≡ cond (eqb x r) (set_insert (boundaries_at es x) j) (boundaries_at es x) → boundaries_at (insert_at (e ∷ es) r j) x ≡ cond (eqb x r) (set_insert was j) was
      go (less h) ih = ap (λ l. boundaries_at l x) (insert_less e es h) ∙ at (eqb x r) refl
        where
          at : (b : Bool) → eqb x r ≡ b → cond b (set_insert [] j) was ≡ cond b (set_insert was j) was
          at true q = ap (λ l. set_insert l j) (sym (rw (eqb-true x r q) (below_at r e h a)))
          at false q = refl
      go (same h) ih = ap (λ l. boundaries_at l x) (insert_same e es h) ∙ at (eqb x e.region) ∙ ap (λ c. cond c (set_insert was j) was) (ap (eqb x) (sym h))
        where
          at : (b : Bool) → cond b (set_insert e.boundaries j) (boundaries_at es x) ≡ cond b (set_insert (cond b e.boundaries (boundaries_at es x)) j) (cond b e.boundaries (boundaries_at es x))
          at true = refl
          at false = refl
      go (over h) ih = ap (λ l. boundaries_at l x) (insert-over e es h) ∙ at (eqb x e.region) refl
        where
          at : (b : Bool) → eqb x e.region ≡ b → cond b e.boundaries (boundaries_at (insert_at es r j) x) ≡ cond (eqb x r) (set_insert (cond b e.boundaries (boundaries_at es x)) j) (cond b e.boundaries (boundaries_at es x))
          at true q = rw (ne_eqb x r (λ f. omega (arith, eqb-true x e.region q))) refl
          at false q = ih

  pub all_inserted : (P : Entry → Type 0) {es : List Entry} → ((l : List ℕ) → P (record { region = r; boundaries = set_insert l j })) → All P es → All P (insert_at es r j)
  all_inserted P h done = first
    where
      first : All P (insert_at [] r j)
      first = unfold insert_at in (more (h []) done)
  all_inserted P h (more {x = e} {l = es} k a) = go (three r e.region) (all_inserted P h a)
    where
      go : Three r e.region → All P (insert_at es r j) → All P (insert_at (e ∷ es) r j)
      go (less m) ih = rw (insert_less e es m) (more (h []) (more k a))
      go (same m) ih = rw (insert_same e es m) (more {x = grown e} (subst (λ n. P (record { region = n; boundaries = set_insert e.boundaries j })) m (h e.boundaries)) a)
      go (over m) ih = rw (insert-over e es m) (more k ih)

  pub insert-rising : {es : List Entry} → Rising es → Rising (insert_at es r j)
  insert-rising ends = first
    where
      first : Rising (insert_at [] r j)
      first = unfold insert_at in (rises done ends)
  insert-rising (rises {e = e} {es = es} a s) = go (three r e.region) (insert-rising s)
    where
      go : Three r e.region → Rising (insert_at es r j) → Rising (insert_at (e ∷ es) r j)
      go (less m) ih = rw (insert_less e es m) (rises (more m (all_map (λ f k. omega arith) a)) (rises a s))
      go (same m) ih = rw (insert_same e es m) (rises a s)
      go (over m) ih = rw (insert-over e es m) (rises (all_inserted (λ f. e.region < f.region) (λ l. m) a) ih)
