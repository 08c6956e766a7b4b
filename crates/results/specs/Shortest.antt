-- Numbers of a sheet in shortest form ("Write, in shortest form", document 02, request 1). Assumes nothing.
use Rattle.std.specs.Prelude.{ℕ, zero, suc, ◌+◌, ◌/◌, ◌%◌, cond, List, [], ◌∷◌, ◌++◌, length, ltb}
use Rattle.definitions.specs.Scan.{concat_map}

-- groups of seven bits, least first, the top bit set on all but the last, and no last group of 0 but for zero itself; of at most so many groups
unfoldable pub shortest_within : ℕ → ℕ → List ℕ
shortest_within zero n = []
shortest_within (suc most) n =
    let above = shortest_within most (n / 128) in
    cond (ltb n 128) (n ∷ []) ((128 + n % 128) ∷ above)

-- ten groups are enough for 64 bits
unfoldable pub shortest : ℕ → List ℕ
unfolding shortest_within
shortest n = shortest_within 10 n

-- a count of entries of this size, and their numbers
unfoldable pub list_bytes : ℕ → List ℕ → List ℕ
unfolding shortest concat_map
list_bytes size l = shortest (length l / size) ++ concat_map shortest l
