-- The words of the contracts over lists in blocks of one size. Definitions only; assumes nothing.
use Rattle.std.specs.Prelude.{ℕ, ◌*◌, Bool, false, not, cond, List, [], get_or, take, drop}
use Rattle.definitions.specs.Scan.{gather, count_below}

-- so many numbers of a list, from `at` on
abbrev pub part : ℕ → ℕ → List ℕ → List ℕ
part at size l = take size (drop at l)

-- the mark of k is not set
abbrev pub is_left : List Bool → ℕ → Bool
is_left removed k = not (get_or removed k false)

-- block k, if it is left
abbrev pub left_block : List Bool → ℕ → List ℕ → ℕ → List ℕ
left_block removed size l k = cond (is_left removed k) (part (size * k) size l) []

-- the blocks that are left of the first n, one behind the other, and how many there are
unfoldable pub left_blocks : List Bool → ℕ → List ℕ → ℕ → List ℕ
unfolding gather
left_blocks removed size l n = gather n (left_block removed size l)

unfoldable pub left_count : List Bool → ℕ → ℕ
unfolding count_below
left_count removed n = count_below n (is_left removed)
