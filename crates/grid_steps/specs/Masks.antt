-- Cut masks: a number for each cell, whose bit for a direction says whether the step in that direction is cut. Definitions only; assumes nothing.
use Rattle.std.specs.Prelude.{ℕ, ◌+◌, ◌-◌, ◌*◌, ◌/◌, ◌%◌, ◌^◌, ◌≤◌, ◌<◌, min, max, ◌≡◌, Bool, true, ◌&&◌, List, get_or, set, eqb, ltb}
use Rattle.std.specs.Int.Bits.{bit_or}
use Rattle.definitions.specs.Scan.{any}
use Rattle.definitions.specs.Grid.{Map, Position, at, Pair, pair_eq, cell_count, index, position_of, toward, is_step}

-- the bit of a direction: `edge_bit` of areas.rs, whose direction is moved by (1, 1) as ours
abbrev pub bit_of : Position → ℕ
bit_of d = d.y * 3 + d.x

-- the direction back. Its bit is 8 less the bit of d.
abbrev pub opposite : Position → Position
opposite d = at (2 - d.x) (2 - d.y)

-- bit k of a mask is set
abbrev pub is_set : ℕ → ℕ → Bool
is_set mask k = eqb (mask / 2 ^ k % 2) 1

-- bit k of the mask of cell c is set
unfoldable pub cut_bit : List ℕ → ℕ → ℕ → Bool
cut_bit masks c k = eqb (get_or masks c 0 / 2 ^ k % 2) 1

-- the masks with bit k of cell c set
unfoldable pub with_bit : List ℕ → ℕ → ℕ → List ℕ
with_bit masks c k = set masks c (bit_or (get_or masks c 0) (2 ^ k))

-- the cell in direction d of cell c
abbrev pub reached : Map → ℕ → Position → ℕ
reached M c d = index M (toward (position_of M c) d)

-- the two cells of that step, the smaller first
abbrev pub step_pair : Map → ℕ → Position → Pair
step_pair M c d = record { lo = min c (reached M c d); hi = max c (reached M c d) }

-- At every step of the grid, the bit says whether the step is among E: so it is in the Rust, which sets both bits of a step. (Direction (1, 1) is a step from a cell to
-- itself, which is no cut step, so that its bit is not set.)
abbrev pub Marks : Map → List ℕ → List Pair → Type 0
Marks M masks E = (c : ℕ) (d : Position) → c < cell_count M → is_step M (position_of M c) d ≡ true → cut_bit masks c (bit_of d) ≡ any (pair_eq (step_pair M c d)) E

-- The same at the smaller cell of each step alone.
abbrev pub OnwardMarks : Map → List ℕ → List Pair → Type 0
OnwardMarks M masks E =
    (c : ℕ) (d : Position) → c < cell_count M → is_step M (position_of M c) d ≡ true → c < reached M c d → cut_bit masks c (bit_of d) ≡ any (pair_eq (step_pair M c d)) E

-- the step from cell c in direction d leads to a larger cell
abbrev pub is_onward : Map → ℕ → Position → Bool
is_onward M c d = is_step M (position_of M c) d && ltb c (reached M c d)

-- and it is among E
abbrev pub is_onward_in : Map → List Pair → ℕ → Position → Bool
is_onward_in M E c d = is_onward M c d && any (pair_eq (step_pair M c d)) E

-- Each step among E has its bit set at its smaller cell, and no other bit is set.
abbrev pub OnwardBits : Map → List ℕ → List Pair → Type 0
OnwardBits M masks E = (c : ℕ) (d : Position) → c < cell_count M → d.x ≤ 2 → d.y ≤ 2 → cut_bit masks c (bit_of d) ≡ is_onward_in M E c d
