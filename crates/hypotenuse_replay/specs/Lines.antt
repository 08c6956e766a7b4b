-- Stored answers as text: what a line says, whether it is what the definition says, and how many lines of a text are. Definitions only.
use Rattle.std.specs.Prelude.{ℕ, ◌+◌, ◌-◌, ◌*◌, Bool, cond, ◌&&◌, List, [], ◌∷◌, ◌++◌, leb, ltb, eqb, length, take, drop}
use Rattle.std.specs.Float.{binary64}
use Rattle.std.specs.Float.Ieee.{of_bits, to_bits}
use Rattle.definitions.specs.Scan.{bit}
use Rattle.definitions.specs.Hypotenuse.{hypot_number, hypot_value}

-- a digit from 0 to 9 or a to f by its ASCII code, and 0 for any other byte
abbrev pub digit_of : ℕ → ℕ
digit_of b = cond (ltb b 48) 0 (cond (ltb b 58) (b - 48) (cond (ltb b 97) 0 (cond (ltb b 103) (b - 87) 0)))

-- the number that digits stand for, the first one highest, behind a number that was read before them
abbrev pub digits_after : ℕ → ℕ → List ℕ → ℕ
digits_after base n [] = n
digits_after base n (b ∷ s) = digits_after base (n * base + digit_of b) s

-- the answer of the definition to the doubles of the bits x and y
unfoldable pub number_of_bits : ℕ → ℕ → ℕ
number_of_bits x y = hypot_number (of_bits binary64 x) (of_bits binary64 y)

unfoldable pub root_of_bits : ℕ → ℕ → ℕ
root_of_bits x y = to_bits binary64 (hypot_value (of_bits binary64 x) (of_bits binary64 y))

-- the part of a list from place a up to before place e
abbrev pub part : ℕ → ℕ → List ℕ → List ℕ
part a e l = take (e - a) (drop a l)

-- A line 'X Y NUMBER ROOT' has the definition's answer. X, Y and ROOT are sixteen hexadecimal digits each, and NUMBER is decimal.
unfoldable pub is_answer_line : List ℕ → Bool
unfolding number_of_bits root_of_bits
is_answer_line l =
    let n = length l in
    let x = digits_after 16 0 (part 0 16 l) in
    let y = digits_after 16 0 (part 17 33 l) in
    leb 52 n && leb n 60 && eqb (number_of_bits x y) (digits_after 10 0 (part 34 (n - 17) l)) && eqb (root_of_bits x y) (digits_after 16 0 (part (n - 16) n l))

-- how many lines end in a text, and how many of them are answers of the definition, where `line` is what stands before it
abbrev pub lines_in : List ℕ → ℕ
lines_in [] = 0
lines_in (b ∷ s) = cond (eqb b 10) (1 + lines_in s) (lines_in s)

unfoldable pub answers_in : List ℕ → List ℕ → ℕ
unfolding is_answer_line
answers_in line [] = 0
answers_in line (b ∷ s) = cond (eqb b 10) (bit (is_answer_line line) + answers_in [] s) (answers_in (line ++ (b ∷ [])) s)
