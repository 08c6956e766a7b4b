-- A list in chunks of the same length: a chunk by its place in the list, number j of it, and a record as a chunk of four (`record-at`). Assumes nothing.
use Prim.Native.Nat.{ℕ, zero, suc, ◌+◌, ◌*◌, ◌/◌, ◌<◌}
use native.Mathlib.Omega.{arith}
use mathlib.Core.Path.{◌≡◌, refl, ap, ◌∙◌}
use mathlib.Core.List.{List}
use lib.ListN.{length, get_or, take, drop}
use lib.Seq.{get_or-take, drop-drop}
use Rattle.std.specs.Simd.{first_chunks}
use Rattle.std.proofs.lemmas.List.{get_or-drop}
use Rattle.catalogue.specs.Accession.{Accession, accession_at, accession_count}

-- chunk i, of m chunks of n numbers
pub chunk-at : (n m : ℕ) (l : List ℕ) (i : ℕ) (d : List ℕ) → i < m → get_or (first_chunks n m l) i d ≡ take n (drop (n * i) l)
chunk-at n zero l i d h = absurd (omega arith)
chunk-at n (suc m) l zero d h =
    let front : 0 ≡ n * 0 = omega arith in
    ap (λ k. take n (drop k l)) front
chunk-at n (suc m) l (suc i) d h =
    let next : n + n * i ≡ n * suc i = omega arith in
    chunk-at n m (drop n l) i d (omega arith) ∙ ap (take n) (drop-drop (n * i) n l ∙ ap (λ k. drop k l) next)

-- number j of it
pub number_at : (n m : ℕ) (l : List ℕ) (i j : ℕ) (d : List ℕ) → i < m → j < n → get_or (get_or (first_chunks n m l) i d) j 0 ≡ get_or l (n * i + j) 0
number_at n m l i j d h b = ap (λ t. get_or t j 0) (chunk-at n m l i d h) ∙ get_or-take n (drop (n * i) l) j 0 b ∙ get_or-drop (n * i) l j 0

pub chunk-count : (n m : ℕ) (l : List ℕ) → length (first_chunks n m l) ≡ m
chunk-count n zero l = refl
chunk-count n (suc m) l = ap suc (chunk-count n m (drop n l))

-- a record as its four numbers stand in a list
abbrev four_in : List ℕ → Accession
four_in l = record { own = get_or l 0 0; on_map = get_or l 1 0; day = get_or l 2 0; superseded = get_or l 3 0 }

-- chunk i is record i
pub record-at : (l : List ℕ) (i : ℕ) (d : List ℕ) {chunks : List (List ℕ)} → chunks ≡ first_chunks 4 (length l / 4) l → i < accession_count l → four_in (get_or chunks i d) ≡ accession_at l i
unfolding accession_at
record-at l i d {chunks} E h =
    let at : (j : ℕ) → j < 4 → get_or (get_or chunks i d) j 0 ≡ get_or l (4 * i + j) 0 =
    λ j b. ap (λ t. get_or (get_or t i d) j 0) E ∙ number_at 4 (length l / 4) l i j d h b in
    let front : 4 * i + 0 ≡ 4 * i = omega arith in
    let own = at 0 (omega arith) ∙ ap (λ j. get_or l j 0) front in
    λ t. record { own = own t; on_map = at 1 (omega arith) t; day = at 2 (omega arith) t; superseded = at 3 (omega arith) t }
