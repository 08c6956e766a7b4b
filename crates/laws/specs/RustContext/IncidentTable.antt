-- The map `incidents` of context.rs, entry by entry: it is the regions in ascending order, each with the boundaries about it, and without those that have none. So a walk over
-- the map is a walk over the regions. The argument: both are ascending maps without empty entries that hold the same at every key. Assumes a sound context.
use Prim.Native.Nat.{ℕ, zero, suc, ◌<◌, ◌≤◌}
use Rattle.std.proofs.Common.{arith, ◌∙◌}
use Rattle.std.specs.Prelude.{◌≡◌, Bool, ◌&&◌, Option, None, Some}
use Rattle.std.proofs.Math.Path.{refl, sym, ap, ap₂}
use Rattle.std.proofs.Math.Bool.{true, false, ◌||◌, cond}
use mathlib.Core.List.{List, [], ◌∷◌, ◌++◌, append-nil}
use Rattle.std.proofs.Math.Dec.{eqb, ltb}
use borrow.Author.Tests.{ltb-true, ltb-false, lt-ltb, le-ltb, eqb-true, eq-eqb, ne_eqb}
use Rattle.definitions.specs.Scan.{collect, to_list}
use Rattle.definitions.specs.Grid.{Pair, contains}
use Rattle.definitions.specs.Context.{Context, is_incident}
use Rattle.definitions.specs.Junctions.{ports_of}
use Rattle.laws.specs.ListLaws.Lists.{All, done, more, all_append, all_map, all_both}
use Rattle.laws.specs.OrderLaws.ListOrder.{Three, less, same, over, three}
use Rattle.laws.specs.ListLaws.Members.{any-fails}
use Rattle.laws.specs.RustContext.SoundContext.{Sound}
use Rattle.laws.specs.SetLaws.Sets.{below-nothing}
use Rattle.laws.specs.SetLaws.Entries.{Entry, boundaries_at, Rising, ends, rises, Filled, same_map}
use Rattle.laws.specs.RustContext.IncidentMap.{incidents, incidents-below, incidents-rising, incidents-filled, incidents_get}

-- a region and its boundaries, if it has any
abbrev pub entry_of : ℕ → List ℕ → Option Entry
entry_of r [] = None
entry_of r (x ∷ l) = Some (record { region = r; boundaries = x ∷ l })

-- ---- an entry behind all others

module _ (r : ℕ) where
  at_below : {es : List Entry} → All (λ e. e.region < r) es → boundaries_at es r ≡ []
  unfolding boundaries_at
  at_below done = refl
  at_below (more {x = e} h a) = rw (ne_eqb r e.region (λ q. omega arith)) (at_below a)

  at_last : (l : List ℕ) (x : ℕ) {es : List Entry} → All (λ e. e.region < r) es → boundaries_at (es ++ to_list (entry_of r l)) x ≡ cond (eqb x r) l (boundaries_at es x)
  unfolding boundaries_at
  at_last [] x {es} a = ap (λ m. boundaries_at m x) (append-nil es) ∙ go (eqb x r) refl
    where
      go : (b : Bool) → eqb x r ≡ b → boundaries_at es x ≡ cond b [] (boundaries_at es x)
      go true q = rw (eqb-true x r q) (at_below a)
      go false q = refl
  at_last (y ∷ l) x done = refl
  at_last (y ∷ l) x (more {x = e} {l = es} h a) = go (eqb x e.region) refl (at_last (y ∷ l) x a)
    where
      go : (b : Bool) → eqb x e.region ≡ b → boundaries_at (es ++ to_list (entry_of r (y ∷ l))) x ≡ cond (eqb x r) (y ∷ l) (boundaries_at es x) → cond b e.boundaries (boundaries_at (es ++ to_list (entry_of r (y ∷ l))) x) ≡ cond (eqb x r) (y ∷ l) (cond b e.boundaries (boundaries_at es x))
      go true q ih = rw (ne_eqb x r (λ f. omega (arith, eqb-true x e.region q))) refl
      go false q ih = ih

  rising_last : (l : List ℕ) {es : List Entry} → All (λ e. e.region < r) es → Rising es → Rising (es ++ to_list (entry_of r l))
  rising_last [] {es} a s = rw append-nil s
  rising_last (y ∷ l) done ends = rises done ends
  rising_last (y ∷ l) (more h a) (rises b s) = rises (all_append b (more h done)) (rising_last (y ∷ l) a s)

-- ---- the regions below n, from 1

module _ (g : ℕ → List ℕ) where
  abbrev table : ℕ → List Entry
  table n = collect n (λ k. entry_of (suc k) (g (suc k)))

  table-keys : (n : ℕ) → All (λ e. e.region < suc n) (table n)
  unfolding collect
  table-keys zero = done
  table-keys (suc n) = all_append (all_map (λ e h. omega arith) (table-keys n)) (last (g (suc n)))
    where
      last : (l : List ℕ) → All (λ e. e.region < suc (suc n)) (to_list (entry_of (suc n) l))
      last [] = done
      last (x ∷ l) = more {x = record { region = suc n; boundaries = x ∷ l }} (omega arith) done

  table_filled : (n : ℕ) → Filled (table n)
  unfolding collect
  table_filled zero = done
  table_filled (suc n) = all_append (table_filled n) (last (g (suc n)))
    where
      last : (l : List ℕ) → Filled (to_list (entry_of (suc n) l))
      last [] = done
      last (x ∷ l) = more refl done

  table-rising : (n : ℕ) → Rising (table n)
  unfolding collect
  table-rising zero = ends
  table-rising (suc n) = rising_last (suc n) (g (suc n)) (table-keys n) (table-rising n)

  table_at : (n x : ℕ) → boundaries_at (table n) x ≡ cond (ltb 0 x && ltb x (suc n)) (g x) []
  unfolding collect boundaries_at
  table_at zero x = go (ltb 0 x) refl
    where
      go : (b : Bool) → ltb 0 x ≡ b → [] ≡ cond (b && ltb x 1) (g x) []
      go true q = rw (le-ltb x 1 (ltb-true 0 x q)) refl
      go false q = refl
  table_at (suc n) x = at_last (suc n) (g (suc n)) x (table-keys n) ∙ ap (cond (eqb x (suc n)) (g (suc n))) (table_at n x) ∙ go (three x (suc n))
    where
      go : Three x (suc n) → cond (eqb x (suc n)) (g (suc n)) (cond (ltb 0 x && ltb x (suc n)) (g x) []) ≡ cond (ltb 0 x && ltb x (suc (suc n))) (g x) []
      go (less h) = rw (ne_eqb x (suc n) (λ e. omega arith), lt-ltb x (suc n) h, lt-ltb x (suc (suc n)) (omega arith)) refl
      go (same h) = rw (eq-eqb x (suc n) h, lt-ltb 0 x (omega arith), lt-ltb x (suc (suc n)) (omega arith)) (ap g (sym h))
      go (over h) = rw (ne_eqb x (suc n) (λ e. omega arith), le-ltb x (suc n) (omega arith), le-ltb x (suc (suc n)) (omega arith)) refl

-- ---- the map

outside : (x n : ℕ) → (ltb 0 x && ltb x (suc n)) ≡ false → (y : ℕ) → 1 ≤ y → y ≤ n → y ≡ x → ⊥
outside x n h y l m e = go (ltb 0 x) refl h
  where
    go : (b : Bool) → ltb 0 x ≡ b → (b && ltb x (suc n)) ≡ false → ⊥
    go true q k = omega (arith, ltb-false x (suc n) k)
    go false q k = omega (arith, ltb-false 0 x q)

module _ (C : Context) (sound : Sound C) where
  -- pairs name regions only
  not_incident : (x j : ℕ) → (ltb 0 x && ltb x (suc C.regions)) ≡ false → is_incident C j x ≡ false
  unfolding is_incident
  not_incident x j h = any-fails (contains x) (all_map each (all_both (sound.ordered j) (sound.labelled j)))
    where
      each : (p : Pair) → (p.lo < p.hi) × ((1 ≤ p.lo) × (p.hi ≤ C.regions)) → contains x p ≡ false
      each p k =
          ap₂ ◌||◌ (ne_eqb p.lo x (outside x C.regions h p.lo k.1.0 (omega (arith, k.0, k.1.1)))) (ne_eqb p.hi x (outside x C.regions h p.hi (omega (arith, k.0)) k.1.1))

  ports-in_range : (x : ℕ) → cond (ltb 0 x && ltb x (suc C.regions)) (ports_of C x) [] ≡ ports_of C x
  ports-in_range x = go (ltb 0 x && ltb x (suc C.regions)) refl
    where
      go : (b : Bool) → (ltb 0 x && ltb x (suc C.regions)) ≡ b → cond b (ports_of C x) [] ≡ ports_of C x
      go true q = refl
      go false q = sym (incidents-below C x ∙ below-nothing (λ j. is_incident C j x) C.count (λ j. not_incident x j q))

  pub incidents-are : incidents C ≡ collect C.regions (λ k. entry_of (suc k) (ports_of C (suc k)))
  unfolding incidents
  incidents-are =
      same_map (incidents-rising C C.count) (table-rising (ports_of C) C.regions) (incidents-filled C C.count) (table_filled (ports_of C) C.regions)
      (λ x. incidents_get C x ∙ sym (table_at (ports_of C) C.regions x ∙ ports-in_range x))
