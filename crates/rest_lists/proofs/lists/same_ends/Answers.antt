-- `rest_lists::lists::same_ends` meets its contract: four numbers are equal as a list where each is. Assumes nothing.
use Rattle.std.proofs.Common.{arith, ap, refl, ◌∙◌, ◌≡◌, ◌&&◌, ◌+◌, ◌<◌, ◌≤◌, length, ℕ, ◌-◌, Bool, true, false, nat_eq, List, [], ◌∷◌, get_or-drop}
use lib.ListN.{get_or, take, drop}
use lib.Pointwise.{pointwise}
use Rattle.std.proofs.lemmas.List.{length-drop}
use Rattle.rest_lists.proofs.lists.same_ends.Goals as goal

four : (l : List ℕ) → 4 ≤ length l → take 4 l ≡ get_or l 0 0 ∷ get_or l 1 0 ∷ get_or l 2 0 ∷ get_or l 3 0 ∷ []
four [] h = absurd (omega (arith, h))
four (a ∷ []) h = absurd (omega (arith, h))
four (a ∷ b ∷ []) h = absurd (omega (arith, h))
four (a ∷ b ∷ c ∷ []) h = absurd (omega (arith, h))
four (a ∷ b ∷ c ∷ d ∷ l) h = refl

from : (l : List ℕ) (k : ℕ) → k + 3 < length l
    → take (k + 4 - k) (drop k l) ≡ get_or l k 0 ∷ get_or l (k + 1) 0 ∷ get_or l (k + 2) 0 ∷ get_or l (k + 3) 0 ∷ []
from l k h =
    ap (λ n. take n (drop k l)) long ∙ four (drop k l) (omega (arith, h, length-drop k l))
    ∙ (λ i. (get_or-drop k l 0 0 ∙ ap (λ x. get_or l x 0) first) i ∷ get_or-drop k l 1 0 i ∷ get_or-drop k l 2 0 i ∷ get_or-drop k l 3 0 i ∷ [])
  where
    long : k + 4 - k ≡ 4
    long = omega arith

    first : k + 0 ≡ k
    first = omega arith

grouped : (p q r s : Bool) → (p && (q && (r && (s && true)))) ≡ ((p && q) && (r && s))
grouped false q r s = refl
grouped true false r s = refl
grouped true true false s = refl
grouped true true true false = refl
grouped true true true true = refl

pub returns : goal.returns
returns c =
    let xs = c.args.spans.now in
    let ys = c.args.boundaries.now in
    let same : ℕ → Bool = λ i. nat_eq (get_or xs (c.args.k + i) 0) (get_or ys (c.args.j + i) 0) in
    c.eq.ensures
    ∙ (λ i. pointwise nat_eq (from xs c.args.k c.requires.0 i) (from ys c.args.j c.requires.1 i))
    ∙ grouped (nat_eq (get_or xs c.args.k 0) (get_or ys c.args.j 0)) (same 1) (same 2) (same 3)
