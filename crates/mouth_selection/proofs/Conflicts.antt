-- What conflicts with a taken proposal is what the marks refuse. The argument goes region by region: a region of p that a taken proposal q names keeps p out unless it
-- lies outside both, and neither is a triangle. Assumes nothing.
use Prim.Native.Nat.{ℕ, ◌+◌}
use mathlib.Core.Path.{◌≡◌, refl, sym, ap, ap₂, ◌∙◌}
use mathlib.Core.Bool.{Bool, true, false, ◌&&◌, ◌||◌, cond, or-true, true≢false}
use mathlib.Core.List.{List, [], ◌∷◌, map}
use lib.Dec.{eqb, leb}
use borrow.Author.Tests.{eq-eqb}
use Rattle.definitions.specs.Scan.{any, member}
use Rattle.definitions.specs.Context.{Context}
use Rattle.definitions.specs.RampMouths.{MouthProposal, union_of, meet, conflict}
use Rattle.laws.specs.ListLaws.Lists.{any_append, any_false}
use Rattle.laws.specs.ListLaws.ListsAsSets.{any_or}
use Rattle.laws.specs.ListLaws.NumberLists.{member-append}
use Rattle.laws.specs.OrderLaws.ListOrder.{eqb_sym}
use Rattle.laws.specs.RustInteriors.ComponentRegions.{any_swap}
use Rattle.mouth_selection.specs.Held.{held, is_used, is_held, is_refused}

any-cond : {A : Type 0} (b : Bool) (f g : A → Bool) (l : List A) → any (λ x. cond b (f x) (g x)) l ≡ cond b (any f l) (any g l)
any-cond true f g l = refl
any-cond false f g l = refl

any_and : {A : Type 0} (b : Bool) (f : A → Bool) (l : List A) → any (λ x. b && f x) l ≡ (b && any f l)
any_and true f l = refl
any_and false f l = any_false l

-- ---- one taken proposal

-- q keeps p from region r of p, where it lies outside p
abbrev outside : MouthProposal → MouthProposal → ℕ → Bool
outside p q r = cond p.is_triangle (member r (union_of q)) (member r q.inner || q.is_triangle && member r (union_of q))

-- the regions of a conflict
abbrev regions : MouthProposal → MouthProposal → Bool
regions q p = meet p.outer q.inner || meet p.inner q.inner || meet p.inner q.outer || (p.is_triangle || q.is_triangle) && meet (union_of p) (union_of q)

module _ (q p : MouthProposal) where
  meet-union : (l : List ℕ) → any (λ r. member r (union_of q)) l ≡ (meet l q.outer || meet l q.inner)
  unfolding meet
  meet-union l = (λ i. any (λ r. member-append r q.outer q.inner i) l) ∙ any_or (λ r. member r q.outer) (λ r. member r q.inner) l

  by_region : regions q p ≡ (any (outside p q) p.outer || any (λ r. member r (union_of q)) p.inner)
  unfolding meet
  by_region =
      ap (λ b. meet p.outer q.inner || meet p.inner q.inner || meet p.inner q.outer || (p.is_triangle || q.is_triangle) && b) both
      ∙ order p.is_triangle q.is_triangle (meet p.outer q.inner) (meet p.inner q.inner) (meet p.inner q.outer) (meet p.outer q.outer)
      ∙ sym (ap₂ ◌||◌ out (meet-union p.inner))
    where
      both : meet (union_of p) (union_of q) ≡ ((meet p.outer q.outer || meet p.outer q.inner) || (meet p.inner q.outer || meet p.inner q.inner))
      both = any_append (λ r. member r (union_of q)) p.outer p.inner ∙ ap₂ ◌||◌ (meet-union p.outer) (meet-union p.inner)

      out : any (outside p q) p.outer ≡ cond p.is_triangle (meet p.outer q.outer || meet p.outer q.inner) (meet p.outer q.inner || q.is_triangle && (meet p.outer q.outer || meet p.outer q.inner))
      out =
          any-cond p.is_triangle (λ r. member r (union_of q)) (λ r. member r q.inner || q.is_triangle && member r (union_of q)) p.outer
          ∙ ap₂ (cond p.is_triangle) (meet-union p.outer)
          (any_or (λ r. member r q.inner) (λ r. q.is_triangle && member r (union_of q)) p.outer
          ∙ ap (λ b. meet p.outer q.inner || b) (any_and q.is_triangle (λ r. member r (union_of q)) p.outer ∙ ap (λ b. q.is_triangle && b) (meet-union p.outer)))

      order : (s t a b c d : Bool) → (a || b || c || (s || t) && ((d || a) || (c || b))) ≡ (cond s (d || a) (a || t && (d || a)) || (c || b))
      order true t true b c true = refl
      order true t true b c false = refl
      order false t true b c d = refl
      order true t false true c true = refl
      order true t false true true false = refl
      order true t false true false false = refl
      order false true false true c true = refl
      order false true false true true false = refl
      order false true false true false false = refl
      order false false false true true d = refl
      order false false false true false d = refl
      order true t false false true true = refl
      order true t false false true false = refl
      order false true false false true true = refl
      order false true false false true false = refl
      order false false false false true d = refl
      order true t false false false true = refl
      order true t false false false false = refl
      order false true false false false true = refl
      order false true false false false false = refl
      order false false false false false d = refl

-- ---- all taken proposals

mouth-member : (m : ℕ) (l : List MouthProposal) → any (λ q. eqb q.mouth_index m) l ≡ member m (map (λ q. q.mouth_index) l)
unfolding member any
mouth-member m [] = refl
mouth-member m (q ∷ l) = ap₂ ◌||◌ (eqb_sym q.mouth_index m) (mouth-member m l)

-- held hard, it is named
hard-named : (r : ℕ) (l : List MouthProposal) → any (λ q. member r q.inner || q.is_triangle && member r (union_of q)) l ≡ true → any (λ q. member r (union_of q)) l ≡ true
unfolding any
hard-named r [] e = e
hard-named r (q ∷ l) e = go (member r q.inner) refl (member r (union_of q)) (member-append r q.outer q.inner) q.is_triangle (hard-named r l) e
  where
    go : (i : Bool) → member r q.inner ≡ i → (u : Bool) → u ≡ (member r q.outer || member r q.inner) → (t : Bool)
        → (any (λ q. member r q.inner || q.is_triangle && member r (union_of q)) l ≡ true → any (λ q. member r (union_of q)) l ≡ true)
        → ((i || t && u) || any (λ q. member r q.inner || q.is_triangle && member r (union_of q)) l) ≡ true → (u || any (λ q. member r (union_of q)) l) ≡ true
    go i d true k t ih e = refl
    go true d false k t ih e = absurd (true≢false (sym (ap (λ b. member r q.outer || b) d ∙ or-true (member r q.outer)) ∙ sym k))
    go false d false k true ih e = ih e
    go false d false k false ih e = ih e

module _ (taken : List MouthProposal) where
  abbrev hard : ℕ → Bool
  hard r = any (λ q. member r q.inner || q.is_triangle && member r (union_of q)) taken

  abbrev named : ℕ → Bool
  named r = any (λ q. member r (union_of q)) taken

  held-named : (r : ℕ) → leb 1 (held taken r) ≡ named r
  unfolding held
  held-named r = go (hard r) refl (named r) refl
    where
      go : (b : Bool) → hard r ≡ b → (c : Bool) → named r ≡ c → leb 1 (cond b 2 (cond c 1 0)) ≡ c
      go true e true f = refl
      go true e false f = absurd (true≢false (sym (hard-named r taken e) ∙ f))
      go false e true f = refl
      go false e false f = refl

  held-outside : (t : Bool) (r : ℕ) → leb 3 (held taken r + cond t 2 1) ≡ cond t (named r) (hard r)
  unfolding held
  held-outside t r = go t (hard r) refl (named r) refl
    where
      go : (t b : Bool) → hard r ≡ b → (c : Bool) → named r ≡ c → leb 3 (cond b 2 (cond c 1 0) + cond t 2 1) ≡ cond t c b
      go true true e true f = refl
      go true true e false f = absurd (true≢false (sym (hard-named r taken e) ∙ f))
      go true false e true f = refl
      go true false e false f = refl
      go false true e c f = refl
      go false false e true f = refl
      go false false e false f = refl

  regions_are_lem : (p : MouthProposal) → any (λ q. regions q p) taken ≡ is_held taken p
  unfolding is_held
  regions_are_lem p =
      (λ i. any (λ q. by_region q p i) taken) ∙ any_or (λ q. any (outside p q) p.outer) (λ q. any (λ r. member r (union_of q)) p.inner) taken
      ∙ ap₂ ◌||◌ (any_swap (outside p) taken p.outer ∙ (λ i. any (λ r. out r i) p.outer)) (any_swap (λ q r. member r (union_of q)) taken p.inner ∙ sym (λ i. any (λ r. held-named r i) p.inner))
    where
      out : (r : ℕ) → any (λ q. outside p q r) taken ≡ leb 3 (held taken r + cond p.is_triangle 2 1)
      out r = any-cond p.is_triangle (λ q. member r (union_of q)) (λ q. member r q.inner || q.is_triangle && member r (union_of q)) taken ∙ sym (held-outside p.is_triangle r)

  pub refused_is : (C : Context) (p : MouthProposal) → any (λ q. conflict C q p) taken ≡ is_refused C taken p
  unfolding conflict is_refused is_used
  refused_is C p =
      (λ i. any (λ q. order (eqb q.mouth_index p.mouth_index) (eqb (C.boundary q.ramp_index).ramp_id (C.boundary p.ramp_index).ramp_id && eqb (C.boundary q.ramp_index).kind (C.boundary p.ramp_index).kind) (meet p.outer q.inner) (meet p.inner q.inner) (meet p.inner q.outer) ((p.is_triangle || q.is_triangle) && meet (union_of p) (union_of q)) i) taken)
      ∙ any_or (λ q. eqb q.mouth_index p.mouth_index) (λ q. ramp q || regions q p) taken ∙ ap₂ ◌||◌ (mouth-member p.mouth_index taken) (any_or ramp (λ q. regions q p) taken ∙ ap (λ b. any ramp taken || b) (regions_are_lem p))
    where
      ramp : MouthProposal → Bool
      ramp q = eqb (C.boundary q.ramp_index).ramp_id (C.boundary p.ramp_index).ramp_id && eqb (C.boundary q.ramp_index).kind (C.boundary p.ramp_index).kind

      order : (x y a b c d : Bool) → (x || y || a || b || c || d) ≡ (x || (y || (a || b || c || d)))
      order true y a b c d = refl
      order false true a b c d = refl
      order false false true b c d = refl
      order false false false b c d = refl

-- a proposal conflicts with itself
pub conflicts-itself : (C : Context) (p : MouthProposal) → conflict C p p ≡ true
unfolding conflict
conflicts-itself C p = ap (λ b. b || eqb (C.boundary p.ramp_index).ramp_id (C.boundary p.ramp_index).ramp_id && eqb (C.boundary p.ramp_index).kind (C.boundary p.ramp_index).kind || meet p.outer p.inner || meet p.inner p.inner || meet p.inner p.outer || (p.is_triangle || p.is_triangle) && meet (union_of p) (union_of p)) (eq-eqb p.mouth_index p.mouth_index refl)
