-- Where the rows of a grid stand in its lists, and what is known of a list behind such a place. Assumes nothing.
use Prim.Native.Nat.{ℕ, ◌+◌, ◌*◌, ◌-◌, ◌≤◌, ◌<◌}
use native.Mathlib.Omega.{arith}
use native.Mathlib.Nat.{suc-mul, mul-le-mul_right}
use mathlib.Core.Path.{◌≡◌, sym, ap, ◌∙◌}
use mathlib.Core.List.{List}
use lib.ListN.{get_or, drop}
use lib.Seq.{drop-drop, get_or-drop}
use Rattle.laws.specs.ListLaws.Beyond.{Beyond}
use Rattle.parents.specs.Forest.{Forest}

-- ---- numbers of rows

pub row_in : (w : ℕ) {x y : ℕ} → x < y → x * w + w ≤ y * w
row_in w {x} h = omega (arith, suc-mul x w, mul-le-mul_right w h)

pub row_next : (w x y : ℕ) → x + 1 ≡ y → y * w ≡ x * w + w
row_next w x y e = ap (λ r. r * w) (sym e ∙ omega arith) ∙ suc-mul x w

-- ---- lists

-- a list that is as it was from m on is so from n on
pub beyond_more : {m n : ℕ} {was p : List ℕ} → m ≤ n → Beyond m was p → Beyond n was p
beyond_more {m} {n} {was} {p} h b =
    let is : m + (n - m) ≡ n = omega arith in
    record {
      long = b.long;
      rest =
          ap (λ k. drop k p) (sym is) ∙ sym (drop-drop (n - m) m p) ∙ ap (drop (n - m)) b.rest ∙ drop-drop (n - m) m was ∙ ap (λ k. drop k was) is;
    }

-- an entry there is as it was
pub beyond_at_lem : {n : ℕ} {was p : List ℕ} → Beyond n was p → (c : ℕ) → n ≤ c → get_or p c 0 ≡ get_or was c 0
beyond_at_lem {n} {was} {p} b c h =
    let is : n + (c - n) ≡ c = omega arith in
    ap (λ k. get_or p k 0) (sym is) ∙ sym (get_or-drop n p (c - n) 0) ∙ ap (λ l. get_or l (c - n) 0) b.rest ∙ get_or-drop n was (c - n) 0 ∙ ap (λ k. get_or was k 0) is

-- parents of fewer numbers
pub forest-fewer : {m n : ℕ} {name : ℕ → ℕ} {p : List ℕ} → m ≤ n → Forest n name p → Forest m name p
forest-fewer h F = record { few = omega (arith, F.few); long = omega (arith, F.long); parent = λ c i. F.parent c (omega arith) }
