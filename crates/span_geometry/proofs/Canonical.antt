-- Laws of a canonical segment, whose lesser endpoint is first: its first x is at most its second, and its endpoints differ where those of the segment
-- that it was made of do. Assumes nothing.
use mathlib.Core.Path.{◌≡◌, refl, sym}
use mathlib.Core.Bool.{Bool, true, false, not, ◌&&◌, ◌||◌, cond}
use Prim.Native.Nat.{ℕ, ◌≤◌, ◌<◌}
use native.Mathlib.Nat.{le_of_lt, le_of_eq}
use lib.Dec.{eqb, ltb}
use borrow.Author.Tests.{ltb-true, ltb-false, eqb-true}
use Rattle.definitions.specs.Grid.{Position, position_lt, Segment, canonical}
use Rattle.definitions.specs.Refusals.{endpoints_differ}
use Rattle.laws.specs.ListLaws.Tests.{both, eqb_same}

pub before-x : (p q : Position) → position_lt p q ≡ true → p.x ≤ q.x
before-x p q h = go (ltb p.x q.x) (ltb-true p.x q.x) h
  where
    go : (t : Bool) → (t ≡ true → p.x < q.x) → (t || (eqb p.x q.x && ltb p.y q.y)) ≡ true → p.x ≤ q.x
    go true f h = le_of_lt (f refl)
    go false f h = le_of_eq (eqb-true p.x q.x (both (eqb p.x q.x) (ltb p.y q.y) h).0)

pub not-before-x : (p q : Position) → position_lt p q ≡ false → q.x ≤ p.x
not-before-x p q h = ltb-false p.x q.x (first (ltb p.x q.x) (eqb p.x q.x && ltb p.y q.y) h)
  where
    first : (s t : Bool) → (s || t) ≡ false → s ≡ false
    first true t h = h
    first false t h = refl

pub canonical-differ : (s : Segment) → endpoints_differ (canonical s) ≡ endpoints_differ s
unfolding canonical
canonical-differ s = go (position_lt s.b s.a)
  where
    turned : (m n : ℕ) → eqb m n ≡ eqb n m
    turned m n = eqb_same m n n m (sym, sym)

    go : (t : Bool) → endpoints_differ (cond t (record { a = s.b; b = s.a }) s) ≡ endpoints_differ s
    go true = λ i. not (turned s.b.x s.a.x i && turned s.b.y s.a.y i)
    go false = refl
