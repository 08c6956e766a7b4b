-- How much room the functions that write bytes ask for, and what they promise. Definitions only; assumes nothing.
use Rattle.std.specs.Prelude.{ℕ, ◌-◌, ◌^◌, ◌≤◌, ◌<◌, ◌≡◌, List, length}
use Rattle.definitions.specs.Lists.{overwrite}
use Rattle.definitions.specs.Scan.{concat_map}
use Rattle.definitions.specs.Printed.{row_line}
use Rattle.laws.specs.ListLaws.FlatRows.{row_at}

-- the digits of a number of 64 bits
abbrev pub most_digits : ℕ
most_digits = 20

-- how many digits a number has
pub record DigitCount (n count : ℕ) : Type 0 where
  pub some : 1 ≤ count
  pub most : count ≤ most_digits
  pub enough : n < 10 ^ count
  pub no_more : 2 ≤ count → 10 ^ (count - 1) ≤ n

-- room for five numbers, each with a byte behind it
abbrev pub row_room : ℕ
row_room = 105

-- room for a refusal, or for the first line of the kept list, with bytes to spare
abbrev pub line_room : ℕ
line_room = 64

-- the list begins with the bytes, and the answer is how many they are
pub record Printed (bytes old new : List ℕ) (answer : ℕ) : Type 0 where
  pub stored : new ≡ overwrite bytes old
  pub length_is : answer ≡ length bytes

-- the lines of rows, of whose numbers each list has one behind the other
abbrev pub row_lines : List (List ℕ) → List ℕ
row_lines rows = concat_map (λ row. row_line (row_at row 0)) rows
