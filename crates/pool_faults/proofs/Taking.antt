-- The keys of the terms that are taken, as the loop goes, and the first terms of a list as a list of their own. Assumes nothing.
use Prim.Native.Nat.{ℕ, ◌+◌, ◌*◌, ◌/◌, ◌≤◌, ◌<◌}
use native.Mathlib.Omega.{arith}
use mathlib.Core.Path.{◌≡◌, subst}
use mathlib.Core.Bool.{false, ◌&&◌}
use mathlib.Core.List.{List}
use lib.ListN.{length, get_or, take}
use lib.Seq.{get_or-take, length-take-le}
use lib.Dec.{eqb}
use Rattle.catalogue.specs.Terms.{Term, Days, term_at, days_of, overlap}
use Rattle.pool_faults.specs.Apart.{Apart, ApartTo}
use Rattle.std.specs.Prelude.{Some}

-- ---- all maps, from the lowest on

-- the first n terms whose maps are below low are apart
abbrev pub ApartBelow : List ℕ → ℕ → ℕ → Type 0
ApartBelow l low n = (i j : ℕ) → j < i → i < n → (term_at l i).on_map < low → Apart l i j

-- ---- the first terms, as a list of their own

term_of-front : (l : List ℕ) (m i : ℕ) → 7 * (i + 1) ≤ m → term_at (take m l) i ≡ term_at l i
unfolding term_at
term_of-front l m i h =
    let at : (k : ℕ) → k < 7 → get_or (take m l) (7 * i + k) 0 ≡ get_or l (7 * i + k) 0 = λ k b. get_or-take m l (7 * i + k) 0 (omega arith) in
    let map : get_or (take m l) (7 * i) 0 ≡ get_or l (7 * i) 0 = get_or-take m l (7 * i) 0 (omega arith) in
    λ t. record {
      on_map = map t;
      first = record { year = at 1 (omega arith) t; month = at 2 (omega arith) t; day = at 3 (omega arith) t };
      end = record { year = at 4 (omega arith) t; month = at 5 (omega arith) t; day = at 6 (omega arith) t };
    }

pub front-count : (l : List ℕ) (n : ℕ) → 7 * n ≤ length l → length (take (7 * n) l) / 7 ≡ n
front-count l n h = omega (arith, length-take-le (7 * n) l h)

-- two terms are apart
abbrev Terms-apart : Term → Term → Type 0
Terms-apart a b = (d : Days) → days_of a ≡ Some d → (eqb b.on_map a.on_map && overlap d (days_of b)) ≡ false

pub apart-front : (l : List ℕ) (n r : ℕ) → r ≤ n → ApartTo (take (7 * n) l) r → ApartTo l r
apart-front l n r h A i j a b =
    let first = term_of-front l (7 * n) i (omega arith) in
    let second = term_of-front l (7 * n) j (omega arith) in
    subst (λ x. Terms-apart x (term_at l j)) first (subst (Terms-apart (term_at (take (7 * n) l) i)) second (A i j a b))
