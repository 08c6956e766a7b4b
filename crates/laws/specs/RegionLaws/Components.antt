-- The components of pass 2, of a context whose pairs name labels up to the number of regions. Two labels have one component exactly when ordinary full cuts join
-- them; the component of r is the least set of labels that has r and is closed under ordinary full cuts (`component-closed`, `component_least`), which is what
-- the Rust's depth-first search fills; and its name is its least label. All from the laws on merging (Chains). Assumes that premise alone.
use Rattle.std.specs.Prelude.{ℕ, suc, ◌≤◌, ◌<◌, ◌≡◌, refl, ◌↔◌, Bool, [], eqb}
use Rattle.std.proofs.Common.{arith, sym, ◌∙◌, eqb-true}
use Rattle.std.proofs.Math.Bool.{true, false, cond}
use Rattle.std.proofs.lemmas.Bool.{eqb-false}
use Rattle.definitions.specs.Grid.{Pair}
use Rattle.definitions.specs.Partition.{Joined}
use Rattle.definitions.specs.Context.{Context}
use Rattle.definitions.specs.RampInteriors.{is_ordinary, links, components, component_of}
use Rattle.laws.specs.ListLaws.Lists.{All, done}
use Rattle.laws.specs.RegionLaws.Merging.{Within, rooted, step-joins}
use Rattle.laws.specs.ListLaws.Below.{gather-below, gather_at}
use Rattle.laws.specs.RegionLaws.Chains.{same_name, class_least}

-- ---- what holds of every link is what holds of every pair of every ordinary full cut

module _ (C : Context) {P : Pair → Type 0} where
  pub links-all : ((i : ℕ) → i < C.count → is_ordinary C i ≡ true → All P (C.pairs i)) → All P (links C)
  unfolding links
  links-all h = gather-below _ C.count (λ i l. go i l (is_ordinary C i) refl)
    where
      go : (i : ℕ) → i < C.count → (b : Bool) → is_ordinary C i ≡ b → All P (cond b (C.pairs i) [])
      go i l true e = h i l e
      go i l false e = done

  pub links_at : All P (links C) → (i : ℕ) → i < C.count → is_ordinary C i ≡ true → All P (C.pairs i)
  unfolding links
  links_at a i l e = rw e at (gather_at (λ i. cond (is_ordinary C i) (C.pairs i) []) C.count a i l)

-- ---- components

abbrev pub component : Context → ℕ → ℕ
component C r = component_of C (components C) r

module _ (C : Context) (within : (i : ℕ) → All (Within (suc C.regions)) (C.pairs i)) where
  links-within : All (Within (suc C.regions)) (links C)
  links-within = links-all C (λ i l e. within i)

  pub component-joined : (a b : ℕ) → a ≤ C.regions → b ≤ C.regions → (component C a ≡ component C b) ↔ Joined (links C) a b
  unfolding components
  component-joined a b h k = same_name (suc C.regions) links-within a b (omega arith) (omega arith)

  -- the two regions of a link are in one component
  pub component-closed : All (λ p. component C p.lo ≡ component C p.hi) (links C)
  unfolding components
  component-closed = step-joins (suc C.regions) links-within

  -- whatever has r and is closed under links has the component of r
  pub component_least : (P : ℕ → Bool) → All (λ p. P p.lo ≡ P p.hi) (links C) → (r x : ℕ) → r ≤ C.regions → x ≤ C.regions → component C x ≡ component C r → P r ≡ true → P x ≡ true
  unfolding components
  component_least P s r x h k e t = class_least (suc C.regions) links-within P s r x (omega arith) (omega arith) e t

  -- so a set within the component of r that has r and is closed under links is that component
  pub component-set : (P : ℕ → Bool) → All (λ p. P p.lo ≡ P p.hi) (links C) → (r : ℕ) → r ≤ C.regions → P r ≡ true → ((x : ℕ) → x ≤ C.regions → P x ≡ true → component C x ≡ component C r) → (x : ℕ) → x ≤ C.regions → P x ≡ eqb (component C x) (component C r)
  component-set P s r h t inside x k = go (eqb (component C x) (component C r)) refl (P x) refl
    where
      go : (b : Bool) → eqb (component C x) (component C r) ≡ b → (c : Bool) → P x ≡ c → c ≡ b
      go true e c q = sym q ∙ component_least P s r x h k (eqb-true _ _ e) t
      go false e true q = absurd (eqb-false _ _ e (inside x k q))
      go false e false q = refl

  -- ---- the name of a component is its least label

  pub component-low : (r : ℕ) → r ≤ C.regions → component C r ≤ r
  unfolding components
  component-low r h = (rooted (suc C.regions) links-within).low r (omega arith)

  pub component-own : (r : ℕ) → r ≤ C.regions → component C (component C r) ≡ component C r
  unfolding components
  component-own r h = (rooted (suc C.regions) links-within).own r (omega arith)
