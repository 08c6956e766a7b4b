-- No two proposals meet: a region of one is no region of another. Components are apart; a leaf has a port for its only incident, and a region of a component has
-- an edge; and where two components have a port in common, a leaf of both beyond it would give a pair of that port two regions inside. Assumes Sound.
use Prim.Native.Nat.{ℕ, zero, suc, ◌+◌, ◌≤◌, ◌<◌}
use native.Mathlib.Omega.{arith}
use mathlib.Core.Path.{◌≡◌, refl, sym, ap, subst, ◌∙◌}
use mathlib.Core.Bool.{Bool, true, false, not, ◌&&◌, ◌||◌, cond, or-false, or-true, true≢false, false≢true}
use mathlib.Core.Logic.{◌⊎◌, inl, inr, ⊎_elim}
use mathlib.Core.List.Memᴰ
use mathlib.Core.List.{List, [], ◌∷◌, ◌++◌, Memᴰ}
use lib.Dec.{eqb, ltb, leb}
use borrow.Author.Tests.{eq-eqb, eqb-true, eqb-false}
use lib.Arith.{lt_of_le-ne}
use Rattle.definitions.specs.Scan.{any, all, member, count_below, any_below_lem, bit, concat_map}
use Rattle.definitions.specs.Grid.{Pair, contains}
use Rattle.definitions.specs.Context.{Context, is_incident, incident_count}
use Rattle.definitions.specs.RampInteriors.{Expansion, inside_count, pair_exterior, exteriors, invalid, add_leaf, expand_pair, expand_pairs, expand_port}
use Rattle.laws.specs.ListLaws.Tests.{both}
use Rattle.laws.specs.ListLaws.Members.{all_at, any-member}
use Rattle.laws.specs.ListLaws.Below.{below_at}
use Rattle.laws.specs.ListLaws.NumberLists.{member-append}
use Rattle.laws.specs.NumberLaws.Comparisons.{last_or}
use Rattle.laws.specs.RegionLaws.OneMore.{any-counted}
use Rattle.interior_proposals.specs.Leaves.{Single}
use Rattle.interior_proposals.proofs.RowScans.{all-holds}

-- ---- a pair and its two regions

-- the regions of p are x and y
abbrev pub Ends : Pair → ℕ → ℕ → Type 0
Ends p x y = ((p.lo ≡ x) × (p.hi ≡ y)) ⊎ ((p.lo ≡ y) × (p.hi ≡ x))

pub record Beside (l : List Pair) (x y : ℕ) : Type 0 where
  pub pair : Pair
  pub stands : Memᴰ pair l
  pub ends : Ends pair x y

beside-later : {p : Pair} {l : List Pair} {x y : ℕ} → Beside l x y → Beside (p ∷ l) x y
beside-later b = record { pair = b.pair; stands = Memᴰ.tail b.stands; ends = b.ends }

member_or : (x : ℕ) (l m : List ℕ) → member x (l ++ m) ≡ true → (member x l ≡ true) ⊎ (member x m ≡ true)
member_or x l m h = go (member x l) refl (sym (member-append x l m) ∙ h)
  where
    go : (b : Bool) → member x l ≡ b → (b || member x m) ≡ true → (member x l ≡ true) ⊎ (member x m ≡ true)
    go true e k = inl e
    go false e k = inr k

member_one : (x y : ℕ) → member x (y ∷ []) ≡ true → x ≡ y
unfolding member any
member_one x y h = eqb-true x y (sym (or-false (eqb x y)) ∙ h)

-- ---- exteriors

pub exterior-beside : (rs : List ℕ) (z : ℕ) (l : List Pair) → member z (exteriors rs l) ≡ true → (y : ℕ) × ((member y rs ≡ true) × Beside l y z)
unfolding exteriors concat_map member any pair_exterior
exterior-beside rs z [] h = absurd (false≢true h)
exterior-beside rs z (p ∷ l) h =
    ⊎_elim (λ k. here (member p.lo rs) refl (member p.hi rs) refl k)
    (λ k.
    let w = exterior-beside rs z l k in
    (w.0, (w.1.0, beside-later w.1.1)))
    (member_or z (pair_exterior rs p) (exteriors rs l) h)
  where
    here : (a : Bool) → member p.lo rs ≡ a → (b : Bool) → member p.hi rs ≡ b → member z (cond a (cond b [] (p.hi ∷ [])) (cond b (p.lo ∷ []) [])) ≡ true → (y : ℕ) × ((member y rs ≡ true) × Beside (p ∷ l) y z)
    here true e true d k = absurd (false≢true k)
    here true e false d k = (p.lo, (e, record { pair = p; stands = Memᴰ.head refl; ends = inl (refl, sym (member_one z p.hi k)) }))
    here false e true d k = (p.hi, (d, record { pair = p; stands = Memᴰ.head refl; ends = inr (sym (member_one z p.lo k), refl) }))
    here false e false d k = absurd (false≢true k)

-- ---- leaves

module _ (C : Context) (i : ℕ) (es : List ℕ) where
  -- x is a leaf beside an exterior
  pub record Hung (l : List Pair) (x : ℕ) : Type 0 where
    pub single : Single C i x
    pub exterior : ℕ
    pub marked : member exterior es ≡ true
    pub beside : Beside l x exterior

  pair-leaf : (s : Expansion) (p : Pair) (x : ℕ) → member x (expand_pair C i es s p).regions ≡ true → (member x s.regions ≡ true) ⊎ Hung (p ∷ []) x
  unfolding expand_pair inside_count add_leaf
  pair-leaf s p x h = go (ltb 0 (bit (member p.lo s.regions) + bit (member p.hi s.regions))) (member p.lo es) refl (member p.hi es) refl h
    where
      add : (leaf z : ℕ) → member z es ≡ true → Ends p leaf z → member x (add_leaf C i s leaf).regions ≡ true → (member x s.regions ≡ true) ⊎ Hung (p ∷ []) x
      add leaf z m e k = bad (C.anchored leaf || not (eqb (incident_count C leaf) 1 && is_incident C i leaf)) refl k
        where
          bad : (b : Bool) → (C.anchored leaf || not (eqb (incident_count C leaf) 1 && is_incident C i leaf)) ≡ b → member x (cond b s.regions (s.regions ++ (leaf ∷ []))) ≡ true → (member x s.regions ≡ true) ⊎ Hung (p ∷ []) x
          bad true q n = inl n
          bad false q n =
              ⊎_elim (λ u. inl u)
              (λ u.
              let t = good (C.anchored leaf) (eqb (incident_count C leaf) 1) (is_incident C i leaf) q in
              let w = member_one x leaf u in
              inr (record {
                single = record { one = ap (incident_count C) w ∙ eqb-true (incident_count C leaf) 1 t.0; mine = ap (is_incident C i) w ∙ t.1 };
                exterior = z;
                marked = m;
                beside = record { pair = p; stands = Memᴰ.head refl; ends = subst (λ y. Ends p y z) (sym w) e };
              }))
              (member_or x s.regions (leaf ∷ []) n)
            where
              good : (a b c : Bool) → (a || not (b && c)) ≡ false → (b ≡ true) × (c ≡ true)
              good true b c e = absurd (true≢false e)
              good false true true e = (refl, refl)
              good false true false e = absurd (true≢false e)
              good false false c e = absurd (true≢false e)

      go : (t a : Bool) → member p.lo es ≡ a → (b : Bool) → member p.hi es ≡ b → member x (cond t s (cond (eqb (bit a + bit b) 1) (add_leaf C i s (cond a p.hi p.lo)) (invalid s))).regions ≡ true → (member x s.regions ≡ true) ⊎ Hung (p ∷ []) x
      go true a e b d k = inl k
      go false true e true d k = inl k
      go false true e false d k = add p.hi p.lo e (inr (refl, refl)) k
      go false false e true d k = add p.lo p.hi d (inl (refl, refl)) k
      go false false e false d k = inl k

  hung_later : {p : Pair} {l : List Pair} {x : ℕ} → Hung l x → Hung (p ∷ l) x
  hung_later h = record { single = h.single; exterior = h.exterior; marked = h.marked; beside = beside-later h.beside }

  hung_first : {p : Pair} {l : List Pair} {x : ℕ} → Hung (p ∷ []) x → Hung (p ∷ l) x
  hung_first {p} {l} {x} h = record { single = h.single; exterior = h.exterior; marked = h.marked; beside = record { pair = h.beside.pair; stands = first h.beside.stands; ends = h.beside.ends } }
    where
      first : {q : Pair} → Memᴰ q (p ∷ []) → Memᴰ q (p ∷ l)
      first (Memᴰ.head e) = Memᴰ.head e
      first (Memᴰ.tail m) = absurd (Memᴰ.not-nil m)

  pairs-leaf : (l : List Pair) (s : Expansion) (x : ℕ) → member x (expand_pairs C i es s l).regions ≡ true → (member x s.regions ≡ true) ⊎ Hung l x
  unfolding expand_pairs
  pairs-leaf [] s x h = inl h
  pairs-leaf (p ∷ l) s x h =
      ⊎_elim (λ k. ⊎_elim (λ m. inl m) (λ m. inr (hung_first m)) (pair-leaf s p x k)) (λ k. inr (hung_later k)) (pairs-leaf l (expand_pair C i es s p) x h)

module _ (C : Context) (i : ℕ) (s : Expansion) where
  -- x is a leaf beyond port i of the regions of s
  abbrev pub Leaf : ℕ → Type 0
  Leaf x = Hung C i (exteriors s.regions (C.pairs i)) (C.pairs i) x

  pub port-leaf : (x : ℕ) → member x (expand_port C s i).regions ≡ true → (member x s.regions ≡ true) ⊎ Leaf x
  unfolding expand_port
  port-leaf x h = pairs-leaf C i (exteriors s.regions (C.pairs i)) (C.pairs i) s x h

-- ---- a valid port

module _ (C : Context) (i : ℕ) where
  pair-valid : (es : List ℕ) (s : Expansion) (p : Pair) → (expand_pair C i es s p).valid ≡ true → s.valid ≡ true
  unfolding expand_pair add_leaf
  pair-valid es s p h = go (ltb 0 (inside_count s.regions p)) (eqb (inside_count es p) 1) h
    where
      go : (a b : Bool) → (cond a s (cond b (add_leaf C i s (cond (member p.lo es) p.hi p.lo)) (invalid s))).valid ≡ true → s.valid ≡ true
      go true b k = k
      go false true k = (both s.valid _ k).0
      go false false k = absurd (false≢true k)

  pairs-valid : (es : List ℕ) (l : List Pair) (s : Expansion) → (expand_pairs C i es s l).valid ≡ true → s.valid ≡ true
  unfolding expand_pairs
  pairs-valid es [] s h = h
  pairs-valid es (p ∷ l) s h = pair-valid es s p (pairs-valid es l (expand_pair C i es s p) h)

  module _ (s : Expansion) (h : (expand_port C s i).valid ≡ true) where
    parts : (((expand_pairs C i (exteriors s.regions (C.pairs i)) s (C.pairs i)).valid && all (λ p. leb (inside_count s.regions p) 1) (C.pairs i)) ≡ true) × (all (λ p. eqb (inside_count (expand_port C s i).regions p) 1) (C.pairs i) ≡ true)
    unfolding expand_port
    parts = both ((expand_pairs C i (exteriors s.regions (C.pairs i)) s (C.pairs i)).valid && all (λ p. leb (inside_count s.regions p) 1) (C.pairs i)) (all (λ p. eqb (inside_count (expand_port C s i).regions p) 1) (C.pairs i)) h

    -- so were the regions before
    pub port-valid : s.valid ≡ true
    port-valid = pairs-valid (exteriors s.regions (C.pairs i)) (C.pairs i) s (both (expand_pairs C i (exteriors s.regions (C.pairs i)) s (C.pairs i)).valid (all (λ p. leb (inside_count s.regions p) 1) (C.pairs i)) parts.0).0

    -- of two regions beside each other exactly one is inside
    module _ {x y : ℕ} (b : Beside (C.pairs i) x y) where
      one_inside : eqb (bit (member x (expand_port C s i).regions) + bit (member y (expand_port C s i).regions)) 1 ≡ true
      unfolding inside_count
      one_inside = ⊎_elim (λ e. turn e.0 e.1 at) (λ e. swap (member y R) (member x R) (turn e.0 e.1 at)) b.ends
        where
          R : List ℕ
          R = (expand_port C s i).regions

          at : eqb (bit (member b.pair.lo R) + bit (member b.pair.hi R)) 1 ≡ true
          at = all_at (all-holds (λ p. eqb (inside_count R p) 1) (C.pairs i) parts.1) b.stands

          turn : {u v : ℕ} → b.pair.lo ≡ u → b.pair.hi ≡ v → eqb (bit (member b.pair.lo R) + bit (member b.pair.hi R)) 1 ≡ true → eqb (bit (member u R) + bit (member v R)) 1 ≡ true
          turn d e k = sym (λ t. eqb (bit (member (d t) R) + bit (member (e t) R)) 1) ∙ k

          swap : (u v : Bool) → eqb (bit u + bit v) 1 ≡ true → eqb (bit v + bit u) 1 ≡ true
          swap true true k = absurd (false≢true k)
          swap true false k = refl
          swap false true k = refl
          swap false false k = absurd (false≢true k)

      pub not_both_lem : member x (expand_port C s i).regions ≡ true → member y (expand_port C s i).regions ≡ true → ⊥
      not_both_lem d e = false≢true (sym (λ t. eqb (bit (d t) + bit (e t)) 1) ∙ one_inside)

      pub other-inside : member x (expand_port C s i).regions ≡ false → member y (expand_port C s i).regions ≡ true
      other-inside d = go (member y (expand_port C s i).regions) refl
        where
          go : (t : Bool) → member y (expand_port C s i).regions ≡ t → t ≡ true
          go true e = refl
          go false e = absurd (false≢true (sym (λ t. eqb (bit (d t) + bit (e t)) 1) ∙ one_inside))

-- ---- a single incident

count_some : (f : ℕ → Bool) (n : ℕ) → any_below_lem n f ≡ true → 1 ≤ count_below n f
count_some f n h = go (eqb (count_below n f) 0) refl
  where
    go : (b : Bool) → eqb (count_below n f) 0 ≡ b → 1 ≤ count_below n f
    go true e = absurd (true≢false (sym e ∙ any-counted f n ∙ ap not h))
    go false e = omega (arith, lt_of_le-ne {i = 0} {k = count_below n f} (omega arith) (λ q. eqb-false (count_below n f) 0 e (sym q)))

count_one : (f : ℕ → Bool) (n i j : ℕ) → i < n → j < n → f i ≡ true → f j ≡ true → count_below n f ≤ 1 → i ≡ j
unfolding count_below
count_one f zero i j k l a b h = absurd (omega arith)
count_one f (suc n) i j k l a b h = ⊎_elim
    (λ e. ⊎_elim (λ d. e ∙ sym d) (λ d. absurd (last j d b (ap f (sym e) ∙ a))) (last_or j n l))
    (λ e. ⊎_elim (λ d. absurd (last i e a (ap f (sym d) ∙ b))) (λ d. count_one f n i j e d a b (omega (arith, h))) (last_or j n l))
    (last_or i n k)
  where
    some : (m c : ℕ) → c < m → f c ≡ true → 1 ≤ count_below m f
    some m c u v = count_some f m (below_at m f c u v)

    last : (c : ℕ) → c < n → f c ≡ true → f n ≡ true → ⊥
    last c u v w = omega (arith, some n c u v, subst (λ t. count_below n f + bit t ≤ 1) w h)

module _ (C : Context) {x i j : ℕ} (S : Single C i x) where
  -- the only incident
  pub single_same : i < C.count → j < C.count → is_incident C j x ≡ true → i ≡ j
  unfolding incident_count
  single_same k l h = count_one (λ b. is_incident C b x) C.count i j k l S.mine h (omega (arith, S.one))

-- what stands beside something is an incident
pub beside_incident : (C : Context) (i : ℕ) {x y : ℕ} → Beside (C.pairs i) x y → is_incident C i x ≡ true
unfolding is_incident
beside_incident C i {x} b = any-member (contains x) b.stands (⊎_elim
    (λ e. ap (λ t. t || eqb b.pair.hi x) (eq-eqb b.pair.lo x e.0))
    (λ e. ap (λ t. eqb b.pair.lo x || t) (eq-eqb b.pair.hi x e.1) ∙ or-true (eqb b.pair.lo x))
    b.ends)
