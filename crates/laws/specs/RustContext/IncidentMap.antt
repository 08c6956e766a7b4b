-- The map `incidents` of context.rs as it is filled there, boundary by boundary, pair by pair; at a region it holds the boundaries about that region. The argument: what
-- it holds there grows by a boundary where one of the boundary's pairs names the region. Assumes nothing.
use Prim.Native.Nat.{ℕ, zero, suc}
use Rattle.std.specs.Prelude.{◌≡◌, Bool, true, false, ◌||◌, List, [], ◌∷◌, eqb}
use Rattle.std.proofs.Math.Path.{refl, sym, ap}
use Rattle.std.proofs.Common.{ap₂, ◌∙◌}
use Rattle.std.proofs.Math.Bool.{cond}
use Rattle.definitions.specs.Scan.{any, collect}
use Rattle.definitions.specs.Grid.{Pair, contains}
use Rattle.definitions.specs.Context.{Context, is_incident}
use Rattle.definitions.specs.Junctions.{ports_of}
use Rattle.laws.specs.ListLaws.Lists.{done}
use Rattle.laws.specs.OrderLaws.ListOrder.{eqb_sym}
use Rattle.laws.specs.SetLaws.Entries.{Entry, insert_at, boundaries_at, Rising, ends, is_filled, Filled, insert-filled, at_insert, all_inserted, insert-rising}
use Rattle.laws.specs.SetLaws.Sets.{set_insert, numbers_below, below-insert, insert-again}

-- ---- as the Rust writes it

--     for pair in &boundary.region_pairs { for region in pair { .. } }
unfoldable pub insert_pairs : List Entry → ℕ → List Pair → List Entry
insert_pairs es j [] = es
insert_pairs es j (p ∷ ps) = insert_pairs (insert_at (insert_at es p.lo j) p.hi j) j ps

module _ (C : Context) where
  --     for (index, boundary) in partition.boundaries().iter().enumerate() { .. }
  unfoldable pub incidents_of : ℕ → List Entry
  incidents_of zero = []
  incidents_of (suc n) = insert_pairs (incidents_of n) n (C.pairs n)

  unfoldable pub incidents : List Entry
  incidents = incidents_of C.count

-- ---- what it holds

-- put in for one reason and again for another
insert_if : (j : ℕ) (l : List ℕ) (c d : Bool) → cond d (set_insert (cond c (set_insert l j) l) j) (cond c (set_insert l j) l) ≡ cond (c || d) (set_insert l j) l
insert_if j l true true = insert-again j l
insert_if j l true false = refl
insert_if j l false true = refl
insert_if j l false false = refl

-- one region of a pair and the other
at_two : (j x a b : ℕ) {es : List Entry} → Rising es → boundaries_at (insert_at (insert_at es a j) b j) x ≡ cond (eqb a x || eqb b x) (set_insert (boundaries_at es x) j) (boundaries_at es x)
at_two j x a b {es} s =
    at_insert b j x (insert-rising a j s) ∙ ap (λ l. cond (eqb x b) (set_insert l j) l) (at_insert a j x s) ∙ insert_if j (boundaries_at es x) (eqb x a) (eqb x b)
    ∙ ap₂ (λ c d. cond (c || d) (set_insert (boundaries_at es x) j) (boundaries_at es x)) (eqb_sym x a) (eqb_sym x b)

at_pairs : (j x : ℕ) (ps : List Pair) {es : List Entry} → Rising es → boundaries_at (insert_pairs es j ps) x ≡ cond (any (contains x) ps) (set_insert (boundaries_at es x) j) (boundaries_at es x)
unfolding insert_pairs any
at_pairs j x [] s = refl
at_pairs j x (p ∷ ps) {es} s =
    at_pairs j x ps (insert-rising p.hi j (insert-rising p.lo j s)) ∙ ap (λ l. cond (any (contains x) ps) (set_insert l j) l) (at_two j x p.lo p.hi s) ∙ insert_if j (boundaries_at es x) (contains x p) (any (contains x) ps)

pairs-rising : (j : ℕ) (ps : List Pair) {es : List Entry} → Rising es → Rising (insert_pairs es j ps)
unfolding insert_pairs
pairs-rising j [] s = s
pairs-rising j (p ∷ ps) s = pairs-rising j ps (insert-rising p.hi j (insert-rising p.lo j s))

pairs-filled : (j : ℕ) (ps : List Pair) {es : List Entry} → Filled es → Filled (insert_pairs es j ps)
unfolding insert_pairs
pairs-filled j [] a = a
pairs-filled j (p ∷ ps) a = pairs-filled j ps (grows p.hi (grows p.lo a))
  where
    grows : (r : ℕ) {es : List Entry} → Filled es → Filled (insert_at es r j)
    grows r a = all_inserted r j (λ e. is_filled e.boundaries ≡ true) (λ l. insert-filled l j) a

pub incidents-below : (C : Context) (r : ℕ) → ports_of C r ≡ numbers_below C.count (λ j. is_incident C j r)
unfolding ports_of numbers_below
incidents-below C r = refl

module _ (C : Context) where
  pub incidents-rising : (n : ℕ) → Rising (incidents_of C n)
  unfolding incidents_of
  incidents-rising zero = ends
  incidents-rising (suc n) = pairs-rising n (C.pairs n) (incidents-rising n)

  pub incidents-filled : (n : ℕ) → Filled (incidents_of C n)
  unfolding incidents_of
  incidents-filled zero = done
  incidents-filled (suc n) = pairs-filled n (C.pairs n) (incidents-filled n)

  incidents_at : (x n : ℕ) → boundaries_at (incidents_of C n) x ≡ numbers_below n (λ j. is_incident C j x)
  unfolding incidents_of boundaries_at numbers_below collect is_incident
  incidents_at x zero = refl
  incidents_at x (suc n) =
      at_pairs n x (C.pairs n) (incidents-rising n) ∙ ap (λ l. cond (any (contains x) (C.pairs n)) (set_insert l n) l) (incidents_at x n) ∙ sym (below-insert (λ j. is_incident C j x) n)

  -- `ctx.incidents.get(&r)`
  pub incidents_get : (r : ℕ) → boundaries_at (incidents C) r ≡ ports_of C r
  unfolding incidents
  incidents_get r = incidents_at r C.count ∙ sym (incidents-below C r)
