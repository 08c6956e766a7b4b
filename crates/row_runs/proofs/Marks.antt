-- The marks of a row put together: they are zero only if each is, since neither of two numbers has a bit that both together have not. Assumes nothing.
use Prim.Native.Nat.{ℕ, ◌+◌, ◌-◌, ◌≤◌, ◌<◌}
use native.Mathlib.Omega.{arith}
use mathlib.Core.Path.{◌≡◌, refl, sym, ap, ◌∙◌}
use mathlib.Core.Bool.{Bool, true, false}
use mathlib.Core.List.{List, [], ◌∷◌, ◌++◌}
use lib.ListN.{length, get_or, take, drop}
use lib.Bits.{bit_or, or_add_and, and_le_l, and_le_r}
use lib.Dec.{ltb}
use borrow.Author.Tests.{ltb-true, ltb-false}
use Rattle.std.proofs.lemmas.List.{get_or_append_left, get_or-append-add, get_or-drop, get_or-take, length-append, length-take, length-drop}
use Rattle.row_runs.specs.Stretch.{Clear}

pub or_none : (a b : ℕ) → bit_or a b ≡ 0 → (a ≡ 0) × (b ≡ 0)
or_none a b e = (omega (arith, e, or_add_and a b, and_le_r a b), omega (arith, e, or_add_and a b, and_le_l a b))

-- all of a list put together: if that is zero, each is
abbrev pub Gathered : List ℕ → ℕ → Type 0
Gathered masks all = all ≡ 0 → (k : ℕ) → k < length masks → get_or masks k 0 ≡ 0

pub gathered_none : Gathered [] 0
gathered_none e k h = absurd (omega arith)

pub gathered_more : (masks : List ℕ) (all mask more : ℕ) → Gathered masks all → more ≡ bit_or all mask → Gathered (masks ++ (mask ∷ [])) more
gathered_more masks all mask more G e z k h = go (ltb k (length masks)) refl
  where
    none : (all ≡ 0) × (mask ≡ 0)
    none = or_none all mask (sym e ∙ z)

    go : (b : Bool) → ltb k (length masks) ≡ b → get_or (masks ++ (mask ∷ [])) k 0 ≡ 0
    go true l = get_or_append_left masks (mask ∷ []) 0 k (ltb-true k (length masks) l) ∙ G none.0 k (ltb-true k (length masks) l)
    go false l =
        let last : k ≡ length masks + 0 = omega (arith, h, length-append masks (mask ∷ []), ltb-false k (length masks) l) in
        ap (λ i. get_or (masks ++ (mask ∷ [])) i 0) last ∙ get_or-append-add masks (mask ∷ []) 0 0 ∙ none.1

-- of a part of a list
pub gathered-clear : (masks : List ℕ) (from end : ℕ) {all : ℕ} → end ≤ length masks → Gathered (take (end - from) (drop from masks)) all → all ≡ 0 → Clear masks from end
gathered-clear masks from end room G e c low high =
    let inside : c - from < end - from = omega arith in
    let long : length (take (end - from) (drop from masks)) ≡ end - from = length-take (end - from) (drop from masks) ∙ omega (arith, length-drop from masks) in
    let place : from + (c - from) ≡ c = omega arith in
    ap (λ i. get_or masks i 0) (sym place)
    ∙ sym (get_or-drop from masks (c - from) 0)
    ∙ sym (get_or-take (end - from) (drop from masks) (c - from) 0 inside)
    ∙ G e (c - from) (omega (arith, long))
