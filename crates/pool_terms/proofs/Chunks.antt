-- A term as a chunk of seven numbers. Assumes nothing.
use Prim.Native.Nat.{ℕ, ◌+◌, ◌*◌, ◌/◌, ◌<◌}
use native.Mathlib.Omega.{arith}
use mathlib.Core.Path.{◌≡◌, ap, ◌∙◌}
use mathlib.Core.List.{List, []}
use lib.ListN.{length, get_or}
use Rattle.std.specs.Simd.{first_chunks}
use Rattle.catalogue.specs.Terms.{term_at}
use Rattle.catalogue.proofs.Chunks.{number_at}
use Rattle.pool_terms.specs.Contract.{term_in}

-- chunk i is term i
pub term_in-chunk : (l : List ℕ) (i : ℕ) {chunks : List (List ℕ)} → chunks ≡ first_chunks 7 (length l / 7) l → i < length l / 7 → term_in (get_or chunks i []) ≡ term_at l i
unfolding term_at
term_in-chunk l i {chunks} E h =
    let at : (j : ℕ) → j < 7 → get_or (get_or chunks i []) j 0 ≡ get_or l (7 * i + j) 0 =
    λ j b. ap (λ t. get_or (get_or t i []) j 0) E ∙ number_at 7 (length l / 7) l i j [] h b in
    let front : 7 * i + 0 ≡ 7 * i = omega arith in
    let map = at 0 (omega arith) ∙ ap (λ j. get_or l j 0) front in
    λ t. record {
      on_map = map t;
      first = record { year = at 1 (omega arith) t; month = at 2 (omega arith) t; day = at 3 (omega arith) t };
      end = record { year = at 4 (omega arith) t; month = at 5 (omega arith) t; day = at 6 (omega arith) t };
    }
