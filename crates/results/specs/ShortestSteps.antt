-- The shortest form group by group, as a loop writes or counts it. Assumes nothing.
use Rattle.std.specs.Prelude.{ℕ, suc, ◌+◌, ◌/◌, ◌%◌, ◌<◌, ◌≤◌, ◌≡◌, refl, Bool, true, false, [], ◌∷◌, ltb, length}
use Rattle.std.proofs.Common.{arith, ap, lt-ltb, le-ltb, ltb-true, ltb-false}
use Rattle.results.specs.Shortest.{shortest_within}

pub one_group : (m n : ℕ) → n < 128 → shortest_within (suc m) n ≡ n ∷ []
unfolding shortest_within
one_group m n h = rw (lt-ltb n 128 h) refl

pub more_groups : (m n : ℕ) → 128 ≤ n → shortest_within (suc m) n ≡ (128 + n % 128) ∷ shortest_within m (n / 128)
unfolding shortest_within
more_groups m n h = rw (le-ltb n 128 h) refl

pub some_groups : (m n : ℕ) → 1 ≤ length (shortest_within (suc m) n)
some_groups m n = go (ltb n 128) refl
  where
    go : (t : Bool) → ltb n 128 ≡ t → 1 ≤ length (shortest_within (suc m) n)
    go true e = omega (arith, ap length (one_group m n (ltb-true n 128 e)))
    go false e = omega (arith, ap length (more_groups m n (ltb-false n 128 e)))
