-- Endpoints of boundaries stored as spans: four stores, one behind the other, and one span more. Assumes nothing.
use Prim.Native.Nat.{ℕ, zero, suc, ◌+◌, ◌-◌, ◌*◌, ◌/◌, ◌≤◌, ◌<◌}
use native.Mathlib.Omega.{arith}
use native.Mathlib.Numerals.{add-one}
use mathlib.Core.Path.{◌≡◌, sym, ap, ◌∙◌}
use mathlib.Core.List.{List, [], ◌∷◌}
use lib.ListN.{length, take, drop, get_or}
use lib.Seq.{sets, drop-cons}
use Rattle.std.proofs.Common.{get_or-drop, get_or-take}
use Rattle.std.specs.Simd.{first_chunks}
use Rattle.definitions.specs.Lists.{overwrite}
use Rattle.definitions.specs.Grid.{segment_at}
use Rattle.definitions.specs.Sheet.{endpoints, endpoints_in}
use Rattle.laws.specs.ListLaws.Overwritten.{overwrite_more}
use Rattle.laws.specs.SheetReading.Endpoints.{endpoints-long, endpoints_more}

-- four numbers of a list, one by one
pub endpoints-taken : (l : List ℕ) (k : ℕ) → k + 4 ≤ length l → take (k + 4 - k) (drop k l) ≡ endpoints (segment_at l k)
endpoints-taken l k h =
    let four : k + 4 - k ≡ 4 = omega arith in
    ap (λ n. take n (drop k l)) four ∙ ap (take 4) (next k (omega arith)) ∙ ap (λ m. get_or l k 0 ∷ take 3 m) (next (k + 1) (omega arith) ∙ ap (λ m. get_or l (k + 1) 0 ∷ m) (again (k + 1) (k + 2) (omega arith) (omega arith)))
    ∙ ap (λ m. get_or l k 0 ∷ get_or l (k + 1) 0 ∷ get_or l (k + 2) 0 ∷ take 1 m) (again (k + 2) (k + 3) (omega arith) (omega arith))
  where
    next : (j : ℕ) → j < length l → drop j l ≡ get_or l j 0 ∷ drop (j + 1) l
    next j g = drop-cons l j 0 g ∙ ap (λ n. get_or l j 0 ∷ drop n l) (sym (add-one j))

    again : (i j : ℕ) → i + 1 ≡ j → j < length l → drop (i + 1) l ≡ get_or l j 0 ∷ drop (j + 1) l
    again i j e g = ap (λ n. drop n l) e ∙ next j g

-- a boundary among those that the list is read as
nine_at : (k i j : ℕ) (l : List ℕ) → i < k → j < 9 → get_or (get_or (first_chunks 9 k l) i []) j 0 ≡ get_or l (9 * i + j) 0
nine_at zero i j l h m = absurd (omega arith)
nine_at (suc k) zero j l h m = get_or-take 9 l j 0 m ∙ ap (λ n. get_or l n 0) (omega arith)
nine_at (suc k) (suc i) j l h m = nine_at k i j (drop 9 l) (omega arith) m ∙ get_or-drop 9 l (9 * i + j) 0 ∙ ap (λ n. get_or l n 0) (omega arith)

pub endpoints-read : (boundaries : List ℕ) {chunks : List (List ℕ)} (i : ℕ) → chunks ≡ first_chunks 9 (length boundaries / 9) boundaries → i < length boundaries / 9
    → endpoints (segment_at (get_or chunks i []) 0) ≡ endpoints (segment_at boundaries (9 * i))
endpoints-read boundaries {chunks} i e h =
    let number : (j : ℕ) → j < 9 → get_or (get_or chunks i []) j 0 ≡ get_or boundaries (9 * i + j) 0 =
    λ j m. ap (λ l. get_or (get_or l i []) j 0) e ∙ nine_at (length boundaries / 9) i j boundaries h m in
    let first : 9 * i + 0 ≡ 9 * i = omega arith in
    λ t. (number 0 (omega arith) ∙ ap (λ n. get_or boundaries n 0) first) t ∷ number 1 (omega arith) t ∷ number 2 (omega arith) t ∷ number 3 (omega arith) t ∷ []

pub endpoints-stored : (i : ℕ) (boundaries old : List ℕ) → 4 * i + 4 ≤ length old
    → sets (overwrite (endpoints_in i boundaries) old) (4 * i) (endpoints (segment_at boundaries (9 * i))) ≡ overwrite (endpoints_in (i + 1) boundaries) old
endpoints-stored i boundaries old h =
    let before = endpoints_in i boundaries in
    let span = endpoints (segment_at boundaries (9 * i)) in
    let long : length before ≡ 4 * i = endpoints-long i boundaries in
    ap (λ n. sets (overwrite before old) n span) (sym long)
    ∙ overwrite_more before span old (omega arith)
    ∙ ap (λ l. overwrite l old) (sym (endpoints_more i boundaries))
