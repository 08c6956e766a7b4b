-- One number of the sheet, read at an offset; quotations are of document 01, 'The sheet and the printed list', where no request is named.
-- Bytes are numbers below 256. Assumes nothing.
use Rattle.std.specs.Prelude.{ℕ, ◌+◌, ◌*◌, ◌%◌, ◌^◌, Bool, ◌&&◌, ◌||◌, cond, List, [], ◌∷◌, leb, ltb, eqb}

-- What a reader gives: a value, with the offset behind it and the bytes from there on; or a refusal, its number and its place.
pub data Read (A : Type 0) : Type 0 where
  found : A → ℕ → List ℕ → Read A
  failed : ℕ → ℕ → Read A

-- "groups of seven bits, least first": the value of the g groups before, and of the group in byte b
abbrev pub with_group : ℕ → ℕ → ℕ → ℕ
with_group value g b = value + b % 128 * 2 ^ (7 * g)

-- "the top bit set on all but the last"
abbrev pub continued : ℕ → Bool
continued b = leb 128 b

-- "at most ten groups and 64 bits"; "A tenth byte above 1 already makes a number too long."
-- Nine groups have 63 bits: the tenth byte, with g = 9 before it, has one bit to give, and none may follow it.
abbrev pub too_long_lem : ℕ → ℕ → Bool
too_long_lem g b = eqb g 9 && ltb 1 b

-- Request 3 of document 02: "the shortest form only", in the place of "Groups of zero at the end are allowed". A number of two bytes or more whose last byte
-- is 0 is padded; a group of zero that is continued is not its last. "Zero is the single byte 0."
abbrev pub padded : ℕ → ℕ → Bool
padded g b = ltb 0 g && eqb b 0

-- what byte b, with g groups before it, shows of a number that is refused at its first byte
abbrev pub ill_formed : ℕ → ℕ → Bool
ill_formed g b = too_long_lem g b || padded g b

-- The number whose first byte is at offset `first`, from its group g on, at `offset`; `value` is that of the groups before.
-- "An early end is refused 14 at the sheet's length": where no byte is left, the offset is the length. What the number would have been does not count.
-- "A number over ten groups or 64 bits [..] refused 14 at [its] first byte."
-- Request 3: "a padded number is refused as 14 at its first byte". Until its last byte is there it is an early end.
unfoldable pub groups : ℕ → ℕ → ℕ → ℕ → List ℕ → Read ℕ
groups first g value offset [] = failed 14 offset
groups first g value offset (b ∷ rest) =
    let onward = groups first (g + 1) (with_group value g b) (offset + 1) rest in
    cond (ill_formed g b) (failed 14 first) (cond (continued b) onward (found (with_group value g b) (offset + 1) rest))

-- "Each number": at this offset, where these bytes stand
unfoldable pub number : ℕ → List ℕ → Read ℕ
unfolding groups
number offset bytes = groups offset 0 0 offset bytes
