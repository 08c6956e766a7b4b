-- The order of positions is strict, and canonical endpoints are their own canonical ones. Assumes nothing.
use Rattle.std.specs.Prelude.{◌≡◌, refl, Bool, true, false, cond}
use Rattle.definitions.specs.Grid.{Position, Segment, position_lt, canonical}
use Rattle.laws.specs.OrderLaws.PairOrder.{pair-weak}

pub position-asym : (p q : Position) → position_lt p q ≡ true → position_lt q p ≡ false
position-asym p q h = pair-weak.asym (record { lo = p.x; hi = p.y }) (record { lo = q.x; hi = q.y }) h

pub canonical-twice : (s : Segment) → canonical (canonical s) ≡ canonical s
unfolding canonical
canonical-twice s = go (position_lt s.b s.a) refl
  where
    go : (t : Bool) → position_lt s.b s.a ≡ t → canonical (cond t (record { a = s.b; b = s.a }) s) ≡ cond t (record { a = s.b; b = s.a }) s
    go true e = rw (position-asym s.b s.a e)
    go false e = rw e
