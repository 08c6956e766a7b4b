-- What a list holds that was filled from an input whose bytes are known, and what is left of them. Assumes nothing.
use Rattle.std.proofs.Common.{refl, [], ℕ, zero, suc, ◌+◌, ◌-◌, Bool, true, false, arith, sym, ap, subst, ◌≤◌, ◌<◌, ◌≡◌, ◌∙◌, List, ◌++◌, length, take, drop, take_all, take_at, drop_at, length-append, length-take-le}
use Rattle.std.proofs.lemmas.List.{drop_all}
use Rattle.std.specs.Prelude.{Option, None, Some, IfSome, nat_le}
use Rattle.std.specs.Io.KnownBytes.{Consumes, IsAtEnd}
use mathlib.Core.Logic.{inl, inr}
use native.Mathlib.Nat.{eq-or-lt_of_le}
use native.Mathlib.Numerals.{add-one}
use lib.Dec.{leb}
use borrow.Author.Tests.{le-leb, leb-false}
use Rattle.replay_lists.specs.declared.Opening.{Opening}
use Rattle.replay_lists.specs.Openings.{opening_of, next_opening, behind_case, behind_cases}

module _ (list : List ℕ) (n size : ℕ) (long : length list ≡ size) where
  pub left_behind : (old new : Option (List ℕ)) → n ≤ length list → Consumes old new (take n list) → (n < length list → IsAtEnd new) → IfSome old (λ xs. new ≡ Some (drop size xs))
  left_behind None new h c e = tt
  left_behind (Some xs) None h c e = absurd c
  left_behind (Some xs) (Some ys) h c e =
      elim (eq-or-lt_of_le h) [
        | inl q ↦ (let full : take n list ≡ list = take_all n list (omega (arith, q)) in ap Some (sym (ap (drop size) c ∙ drop_at (take n list) ys size (ap length full ∙ long))))
        | inr lt ↦ (let none : length xs ≤ size = omega (arith, ap length c, ap length (e lt), length-append (take n list) ys, length-take-le n list h, lt, long) in ap Some (e lt ∙ sym (drop_all size xs none)))
      ]

  read_whole : (old new : Option (List ℕ)) → size ≤ n → Consumes old new (take n list) → IfSome old (λ xs. (size ≤ length xs) × (list ≡ take size xs))
  read_whole None new h c = tt
  read_whole (Some xs) None h c = absurd c
  read_whole (Some xs) (Some ys) h c =
      let full : take n list ≡ list = take_all n list (omega (arith, long, h)) in
      let joined : xs ≡ list ++ ys = c ∙ ap (λ l. l ++ ys) full in
      (omega (arith, ap length joined, length-append list ys, long), sym (ap (take size) joined ∙ take_at list ys size long))

-- thirty bytes are an opening
pub whole_opening : (list : List ℕ) (n : ℕ) → length list ≡ 30 → (old new : Option (List ℕ)) → 30 ≤ n → Consumes old new (take n list) → IfSome old (λ xs. Some (opening_of list) ≡ next_opening xs)
whole_opening list n long None new h c = tt
whole_opening list n long (Some xs) new h c =
    let (many, same) = read_whole list n 30 long (Some xs) new h c in
    rw (le-leb 30 (length xs) many) (ap (λ l. Some (opening_of l)) same)

-- ---- case after case

-- no case is left
pub none_behind : (o : Option Opening) (old new : Option (List ℕ)) → o ≡ None → IfSome old (λ xs. o ≡ next_opening xs) → IfSome old (λ xs. new ≡ Some (drop 30 xs)) → IfSome old (λ xs. new ≡ Some (behind_case xs))
none_behind o None new z e d = tt
none_behind o (Some xs) new z e d = go (leb 30 (length xs)) refl
  where
    go : (b : Bool) → leb 30 (length xs) ≡ b → new ≡ Some (behind_case xs)
    go true t = let e' : o ≡ Some (opening_of (take 30 xs)) = rw t at e in absurd (cc)
    go false t = rw t (d ∙ ap Some (drop_all 30 xs (omega (arith, leb-false 30 (length xs) t))))

stays_empty : (xs : List ℕ) (n k : ℕ) → behind_cases n xs ≡ [] → behind_cases (k + n) xs ≡ []
unfolding behind_cases
stays_empty xs n zero e = subst (λ k. behind_cases k xs ≡ []) {x = n} {y = 0 + n} (omega arith) e
stays_empty xs n (suc k) e = subst (λ j. behind_cases j xs ≡ []) {x = suc (k + n)} {y = suc k + n} (omega arith) (ap behind_case (stays_empty xs n k e))

abbrev Behind : ℕ → Option (List ℕ) → Option (List ℕ) → Type 0
Behind n old new = IfSome old (λ xs. new ≡ Some (behind_cases n xs))

pub before_all : (old : Option (List ℕ)) → Behind 0 old old
unfolding behind_cases
before_all None = tt
before_all (Some xs) = refl

pub one_behind : (n : ℕ) (old mid new : Option (List ℕ)) → Behind n old mid → IfSome mid (λ xs. new ≡ Some (behind_case xs)) → Behind (n + 1) old new
unfolding behind_cases
one_behind n None mid new m b = tt
one_behind n (Some xs) mid new m b = rw (add-one n) (subst (λ o. IfSome o (λ ys. new ≡ Some (behind_case ys))) m b)

pub all_behind : (limit n : ℕ) (old mid new : Option (List ℕ)) (more : Bool) → n < limit → more ≡ false → Behind n old mid → IfSome mid (λ xs. more ≡ nat_le 30 (length xs)) → IfSome mid (λ xs. new ≡ Some (behind_case xs)) → Behind limit old new
unfolding behind_cases
all_behind limit n None mid new more h z m none b = tt
all_behind limit n (Some xs) mid new more h z m none b =
    let ys : List ℕ = behind_cases n xs in
    let over : nat_le 30 (length ys) ≡ false = sym (subst (λ o. IfSome o (λ zs. more ≡ nat_le 30 (length zs))) m none) ∙ z in
    let next : new ≡ Some (behind_case ys) = subst (λ o. IfSome o (λ zs. new ≡ Some (behind_case zs))) m b in
    let empty : behind_case ys ≡ [] = rw over refl in
    let reached : (limit - suc n) + suc n ≡ limit = omega (arith, h) in
    let rest : behind_cases limit xs ≡ [] = sym (ap (λ k. behind_cases k xs) reached) ∙ stays_empty xs (suc n) (limit - suc n) empty in
    next ∙ ap Some (empty ∙ sym rest)
