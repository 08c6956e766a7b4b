-- What holds of every four flags, by its sixteen cases, computed; and four flags as the digits of a number. Assumes nothing.
use Rattle.std.specs.Prelude.{ℕ, ◌+◌, ◌*◌, ◌≡◌, Bool, true, false, ◌&&◌}
use Rattle.definitions.specs.Scan.{bit}
use Rattle.laws.specs.ListLaws.Tests.{both}

unfoldable pub every_bool : (Bool → Bool) → Bool
every_bool f = f true && f false

every_at : (f : Bool → Bool) → every_bool f ≡ true → (b : Bool) → f b ≡ true
unfolding every_bool
every_at f h true = (both (f true) (f false) h).0
every_at f h false = (both (f true) (f false) h).1

-- all sixteen cases, computed
unfoldable pub every_four : (Bool → Bool → Bool → Bool → Bool) → Bool
unfolding every_bool
every_four f = every_bool (λ a. every_bool (λ b. every_bool (λ c. every_bool (λ d. f a b c d))))

pub four_at : (f : Bool → Bool → Bool → Bool → Bool) → every_four f ≡ true → (a b c d : Bool) → f a b c d ≡ true
unfolding every_four
four_at f h a b c d =
    every_at (λ d. f a b c d) (every_at (λ c. every_bool (λ d. f a b c d)) (every_at (λ b. every_bool (λ c. every_bool (λ d. f a b c d))) (every_at (λ a. every_bool (λ b. every_bool (λ c. every_bool (λ d. f a b c d)))) h a) b) c) d

-- four digits
abbrev pub mask_of_bits : Bool → Bool → Bool → Bool → ℕ
mask_of_bits a b c d = bit a + 2 * bit b + 4 * bit c + 8 * bit d
