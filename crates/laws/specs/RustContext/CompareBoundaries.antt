-- `compare_boundaries` of context.rs as the Rust writes it: the two endpoints sorted, and compared position by position. It is the order of `endpoints_key`.
-- Assumes nothing.
use Prim.Native.Nat.{compare, Ordering}
use Rattle.std.proofs.Common.{arith, sym, ap, ap₂, ◌∙◌, lt-ltb, le-ltb}
use Rattle.std.specs.Prelude.{◌≡◌, refl, cond, [], ◌∷◌}
use Rattle.definitions.specs.Grid.{Position, Segment, position_lt, canonical}
use Rattle.definitions.specs.Context.{endpoints_key}
use Rattle.laws.specs.OrderLaws.ListOrder.{Three, less, same, over, three}
use Rattle.laws.specs.OrderLaws.Orderings.{is_less, then_with, list_compare, compare_less, compare_same, compare_over, compare_ltb, list-pair, list-append}

-- ---- as the Rust writes it

-- `Ord` of PixelPosition, derived: x, then y
abbrev pub compare_positions : Position → Position → Ordering
compare_positions p q = then_with (compare p.x q.x) (compare p.y q.y)

--     endpoints.sort();
unfoldable pub sort_endpoints : Segment → Segment
sort_endpoints s = cond (is_less (compare_positions s.b s.a)) (record { a = s.b; b = s.a }) s

--     canonical(left.endpoints).cmp(&canonical(right.endpoints))
-- (of the endpoints of the two boundaries)
unfoldable pub compare_boundaries : Segment → Segment → Ordering
compare_boundaries left right =
    then_with (compare_positions (sort_endpoints left).a (sort_endpoints right).a) (compare_positions (sort_endpoints left).b (sort_endpoints right).b)

-- ---- and that it is the same

position_less : (p q : Position) → is_less (compare_positions p q) ≡ position_lt p q
position_less p q = go (three p.x q.x)
  where
    go : Three p.x q.x → is_less (compare_positions p q) ≡ position_lt p q
    go (less h) = rw (compare_less p.x q.x h, lt-ltb p.x q.x h) refl
    go (same h) = rw (compare_same p.x q.x h, le-ltb p.x q.x (omega arith)) (compare_ltb p.y q.y)
    go (over h) = rw (compare_over p.x q.x h, le-ltb p.x q.x (omega arith)) refl

pub sorted_is : (s : Segment) → sort_endpoints s ≡ canonical s
unfolding sort_endpoints canonical
sorted_is s = ap (λ t. cond t (record { a = s.b; b = s.a }) s) (position_less s.b s.a)

pub endpoints_compare : (s t : Segment) → compare_boundaries s t ≡ list_compare (endpoints_key s) (endpoints_key t)
unfolding compare_boundaries endpoints_key
endpoints_compare s t =
    (λ i. then_with (compare_positions (sorted_is s i).a (sorted_is t i).a) (compare_positions (sorted_is s i).b (sorted_is t i).b)) ∙ sym (both_ends (canonical s) (canonical t))
  where
    both_ends : (s t : Segment) → list_compare (s.a.x ∷ s.a.y ∷ s.b.x ∷ s.b.y ∷ []) (t.a.x ∷ t.a.y ∷ t.b.x ∷ t.b.y ∷ []) ≡ then_with (compare_positions s.a t.a) (compare_positions s.b t.b)
    both_ends s t =
        list-append (s.a.x ∷ s.a.y ∷ []) (t.a.x ∷ t.a.y ∷ []) (s.b.x ∷ s.b.y ∷ []) (t.b.x ∷ t.b.y ∷ []) refl
        ∙ ap₂ then_with (list-pair s.a.x t.a.x s.a.y t.a.y) (list-pair s.b.x t.b.x s.b.y t.b.y)
