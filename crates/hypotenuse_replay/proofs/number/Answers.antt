-- `number` meets its contract: i digits stand for less than 16 ^ i. Assumes nothing.
use mathlib.Core.Path.{◌≡◌, refl, sym, ap, ◌∙◌}
use mathlib.Core.List.{List, [], ◌∷◌, ◌++◌}
use Prim.Native.Nat.{ℕ, ◌+◌, ◌*◌, ◌^◌, ◌≤◌, ◌<◌}
use native.Mathlib.Nat.{mul-le-mul_left}
use native.Mathlib.Omega.{arith}
use lib.ListN.{length, length-append}
use Rattle.std.specs.Prelude.{Some}
use Rattle.std.proofs.lemmas.Bool.Decides.{nat_tests}
use Rattle.std.proofs.lemmas.Iterator.{YieldsList-from_slice}
use Rattle.std.proofs.lemmas.Iterator.Consumers.{YieldsList-turn}
use lib.Pow.{pow-add, pow_mono}
use borrow.Author.Rules.{rules}
use Rattle.std.proofs.lemmas.Fn.{fold_over, slice_gives, fronts, serves_by}
use Rattle.hypotenuse_replay.specs.Lines.{digit_of, digits_after}
use Rattle.hypotenuse_replay.proofs.number.Goals as goal

grows : (n base d i : ℕ) → n < 2 ^ (4 * i) → base ≤ 16 → d < 16 → n * base + d < 2 ^ (4 * (i + 1))
grows n base d i h b l =
    let more : 2 ^ (4 * (i + 1)) ≡ 2 ^ (4 * i) * 16 = ap (λ (x : ℕ). 2 ^ x) (four i) ∙ pow-add 2 (4 * i) 4 in
    let less : n * base ≤ n * 16 = mul-le-mul_left n b in
    omega arith
  where
    four : (i : ℕ) → 4 * (i + 1) ≡ 4 * i + 4
    four i = omega arith

word : (i : ℕ) → i ≤ 16 → 2 ^ (4 * i) ≤ 2 ^ 64
word i h = pow_mono (four i h)
  where
    four : (i : ℕ) → i ≤ 16 → 4 * i ≤ 64
    four i h = omega arith

digits-push : (base n b : ℕ) (s : List ℕ) → digits_after base n (s ++ (b ∷ [])) ≡ digits_after base n s * base + digit_of b
digits-push base n b [] = refl
digits-push base n b (x ∷ s) = digits-push base (n * base + digit_of x) b s

below : (b : ℕ) → digit_of b < 16
below b = grind (arith, nat_tests)

length-push : {A : Type 0} (xs : List A) (x : A) → length (xs ++ (x ∷ [])) ≡ length xs + 1
length-push xs x = length-append xs (x ∷ [])

pub fold-requires-clause-callable : goal.fold-requires-clause-callable
fold-requires-clause-callable c =
    serves_by _ (λ xs q. (q.0.0.now ≡ c.args.base) × (q.1 < 2 ^ (4 * length xs)))
    (λ xs q x v j k.
    let same : v.0.0.now ≡ q.0.0.now = search rules in
    let d : v.1 ≡ q.1 * q.0.0.now + digit_of x.now = search rules in
    let few : q.1 * q.0.0.now + digit_of x.now < 2 ^ (4 * (length xs + 1)) = grows q.1 q.0.0.now (digit_of x.now) (length xs) j.1 (omega (arith, c.requires.1, j.0)) (below x.now) in
    (same ∙ j.0, rw (length-push xs x) (omega (arith, d, few)))) _ _ c.iter.result _ (refl, omega arith)
    (λ xs t q x u y s j.
    let turn = YieldsList-turn (YieldsList-from_slice c.args.s.now c.iter.ensures.rest) xs t y (Some x) u x refl s in
    let most = grows q.1 q.0.0.now 15 (length xs) j.1 (omega (arith, c.requires.1, j.0)) (omega arith) in
    let room = word (length xs + 1) (omega (arith, turn.0, c.requires.0)) in
    (λ κs p n a r f g. omega (arith, most, room), λ κs p n a r f g d. omega (arith, most, room, d.ensures.1)))

pub returns : goal.returns
returns c =
    fold_over fronts (λ y. y.now) _ (λ ys a. a ≡ digits_after c.args.base 0 ys) _
    (λ ys a x b f' j k.
    let d : b ≡ a * c.args.base + digit_of x.now = search rules in
    (d ∙ ap (λ n. n * c.args.base + digit_of x.now) j ∙ sym (digits-push c.args.base 0 x.now ys), search rules)) c.iter.result _ 0 _ (slice_gives c.iter.result) refl c.fold.ensures.ran
    ∙ ap (digits_after c.args.base 0) c.iter.ensures.rest
