-- Rows as the output holds them, five numbers a row: reading them back, from the numbers one behind the other or from a list for each row. Assumes nothing.
use Rattle.std.specs.Prelude.{ℕ, zero, suc, ◌+◌, ◌*◌, ◌≤◌, ◌<◌, ◌≡◌, refl, List, [], ◌∷◌, ◌++◌, length, map, get_or, take, drop}
use Rattle.std.proofs.Common.{arith, ap, ap₂, ◌∙◌, get_or-drop}
use Rattle.std.proofs.lemmas.List.{get_or-take}
use Rattle.std.specs.Simd.{first_chunks}
use Rattle.definitions.specs.Grid.{at}
use Rattle.definitions.specs.Rows.{Row, flat_rows}

pub flat_append : (l m : List Row) → flat_rows (l ++ m) ≡ flat_rows l ++ flat_rows m
unfolding flat_rows
flat_append [] m = refl
flat_append (r ∷ l) m = ap {B = List ℕ} (λ t. r.number ∷ r.line.a.x ∷ r.line.a.y ∷ r.line.b.x ∷ r.line.b.y ∷ t) (flat_append l m)

pub flat-length : (l : List Row) → length (flat_rows l) ≡ 5 * length l
unfolding flat_rows
flat-length [] = refl
flat-length (r ∷ l) = omega (arith, flat-length l)

-- the row whose five numbers stand at k and behind it
abbrev pub row_at : List ℕ → ℕ → Row
row_at l k = record { number = get_or l k 0; line = record { a = at (get_or l (k + 1) 0) (get_or l (k + 2) 0); b = at (get_or l (k + 3) 0) (get_or l (k + 4) 0) } }

-- rows, of whose numbers each list has one behind the other
abbrev pub rows_held : List (List ℕ) → List Row
rows_held rows = map (λ row. row_at row 0) rows

-- the first k rows
unfoldable pub rows_in_lem : ℕ → List ℕ → List Row
rows_in_lem zero l = []
rows_in_lem (suc k) l = row_at l 0 ∷ rows_in_lem k (drop 5 l)

pub rows-length : (k : ℕ) (l : List ℕ) → length (rows_in_lem k l) ≡ k
unfolding rows_in_lem
rows-length zero l = refl
rows-length (suc k) l = ap suc (rows-length k (drop 5 l))

-- a row behind the first
row-further : (l : List ℕ) (k : ℕ) → row_at (drop 5 l) (5 * k) ≡ row_at l (5 * suc k)
row-further l k = λ i. record { number = first i; line = record { a = at (place 1 i) (place 2 i); b = at (place 3 i) (place 4 i) } }
  where
    place : (j : ℕ) → get_or (drop 5 l) (5 * k + j) 0 ≡ get_or l (5 * suc k + j) 0
    place j =
        let e : 5 + (5 * k + j) ≡ 5 * suc k + j = omega arith in
        get_or-drop 5 l (5 * k + j) 0 ∙ ap (λ n. get_or l n 0) e

    first : get_or (drop 5 l) (5 * k) 0 ≡ get_or l (5 * suc k) 0
    first =
        let e : 5 + 5 * k ≡ 5 * suc k = omega arith in
        get_or-drop 5 l (5 * k) 0 ∙ ap (λ n. get_or l n 0) e

-- one row more
pub rows_next : (k : ℕ) (l : List ℕ) → rows_in_lem (suc k) l ≡ rows_in_lem k l ++ (row_at l (5 * k) ∷ [])
unfolding rows_in_lem
rows_next zero l = refl
rows_next (suc k) l = ap {B = List Row} (λ t. row_at l 0 ∷ t) (rows_next k (drop 5 l) ∙ ap (λ r. rows_in_lem k (drop 5 l) ++ (r ∷ [])) (row-further l k))

-- what rows were written is read
pub rows_of-flat : (l : List Row) (rest : List ℕ) → rows_in_lem (length l) (flat_rows l ++ rest) ≡ l
unfolding rows_in_lem flat_rows
rows_of-flat [] rest = refl
rows_of-flat (r ∷ l) rest = ap {B = List Row} (λ t. r ∷ t) (rows_of-flat l rest)

-- and what is read is what stands there
pub flat_of_rows : (k : ℕ) (l : List ℕ) → 5 * k ≤ length l → l ≡ flat_rows (rows_in_lem k l) ++ drop (5 * k) l
unfolding rows_in_lem flat_rows
flat_of_rows zero l h = refl
flat_of_rows (suc k) [] h = absurd (omega arith)
flat_of_rows (suc k) (a ∷ []) h = absurd (omega arith)
flat_of_rows (suc k) (a ∷ b ∷ []) h = absurd (omega arith)
flat_of_rows (suc k) (a ∷ b ∷ c ∷ []) h = absurd (omega arith)
flat_of_rows (suc k) (a ∷ b ∷ c ∷ d ∷ []) h = absurd (omega arith)
flat_of_rows (suc k) (a ∷ b ∷ c ∷ d ∷ e ∷ l) h =
    let five : 5 * suc k ≡ suc (suc (suc (suc (suc (5 * k))))) = omega arith in
    rw five (ap {B = List ℕ} (λ t. a ∷ b ∷ c ∷ d ∷ e ∷ t) (flat_of_rows k l (omega arith)))

-- row i of them
pub row_in : (k : ℕ) (l : List ℕ) (d : Row) (i : ℕ) → i < k → get_or (rows_in_lem k l) i d ≡ row_at l (5 * i)
unfolding rows_in_lem
row_in zero l d i h = absurd (omega arith)
row_in (suc k) l d zero h = refl
row_in (suc k) l d (suc i) h = row_in k (drop 5 l) d i (omega arith) ∙ row-further l i

-- ---- a list for each row

-- a row cut off behind its numbers
row_alone : (l : List ℕ) → row_at (take 5 l) 0 ≡ row_at l 0
row_alone l =
    λ i. record {
      number = one 0 (omega arith) i;
      line = record { a = at (one 1 (omega arith) i) (one 2 (omega arith) i); b = at (one 3 (omega arith) i) (one 4 (omega arith) i) };
    }
  where
    one : (j : ℕ) → j < 5 → get_or (take 5 l) j 0 ≡ get_or l j 0
    one j h = get_or-take 5 l j 0 h

-- the first of n rows
pub held_are : (k n : ℕ) (l : List ℕ) → k ≤ n → rows_held (take k (first_chunks 5 n l)) ≡ rows_in_lem k l
unfolding rows_in_lem
held_are zero n l h = refl
held_are (suc k) zero l h = absurd (omega arith)
held_are (suc k) (suc n) l h = ap₂ {C = List Row} (λ r t. r ∷ t) (row_alone l) (held_are k n (drop 5 l) (omega arith))
