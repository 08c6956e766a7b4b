-- Tests: both parts of a test by `&&` hold where it does, one of a test by `||`, two tests for equality agree where the equations are equivalent, and laws of `Bool.beq`, `not` and `false`. Assumes nothing.
use Rattle.std.specs.Prelude.{ℕ, ◌≡◌, refl, ◌↔◌, ◌⊎◌, Bool, true, false, not, ◌&&◌, ◌||◌, eqb}
use Rattle.std.proofs.Common.{sym, inl, inr, eqb-true, eq-eqb, ne_eqb}
use Rattle.std.specs.Bool.{beq}
use Rattle.std.proofs.lemmas.Bool.{false≢true, eqb-false}

pub both : (a b : Bool) → (a && b) ≡ true → (a ≡ true) × (b ≡ true)
both true b h = (refl, h)
both false b h = absurd (false≢true h)

pub neither : (a b : Bool) → (a || b) ≡ false → (a ≡ false) × (b ≡ false)
neither true b h = absurd (false≢true (sym h))
neither false b h = (refl, h)

pub eqb_same : (a b c d : ℕ) → (a ≡ b) ↔ (c ≡ d) → eqb a b ≡ eqb c d
eqb_same a b c d f = go (eqb a b) refl
  where
    go : (t : Bool) → eqb a b ≡ t → t ≡ eqb c d
    go true e = sym (eq-eqb c d (f.0 (eqb-true a b e)))
    go false e = sym (ne_eqb c d (λ q. eqb-false a b e (f.1 q)))

pub beq_same : (a b : Bool) → beq a b ≡ true → a ≡ b
beq_same true true h = refl
beq_same true false h = absurd (false≢true h)
beq_same false true h = absurd (false≢true h)
beq_same false false h = refl

pub not_and : (a b : Bool) → (not a || not b) ≡ not (a && b)
not_and true b = refl
not_and false b = refl

pub and_fails : (a b : Bool) → false ≡ (a && false && b)
and_fails true b = refl
and_fails false b = refl

-- two tests that hold together
pub same_test : {a b : Bool} → (a ≡ true → b ≡ true) → (b ≡ true → a ≡ true) → a ≡ b
same_test {a} {b} f g = go a b f g
  where
    go : (a b : Bool) → (a ≡ true → b ≡ true) → (b ≡ true → a ≡ true) → a ≡ b
    go true b f g = sym (f refl)
    go false true f g = g refl
    go false false f g = refl

pub or_split : (a b : Bool) → (a || b) ≡ true → (a ≡ true) ⊎ (b ≡ true)
or_split true b h = inl refl
or_split false b h = inr h

pub or_right : (a b : Bool) → b ≡ true → (a || b) ≡ true
or_right true b h = refl
or_right false b h = h
