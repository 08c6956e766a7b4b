-- `row_runs::words::open_flags` meets its contract: the lowest bits of a word's bytes are those of the cells. Assumes nothing.
use native.Mathlib.Omega.{arith}
use lib.Bits.{bit_and}
use mathlib.Core.Path.{ap, ◌∙◌}
use Rattle.row_runs.proofs.WordLaws.{open_flags_are}
use Rattle.row_runs.proofs.words.open_flags.Goals as goal

pub returns : goal.returns
returns c =
    let a = c.args in
    ap (λ w. bit_and w 72340172838076673) c.from_le_bytes.ensures
    ∙ open_flags_are a.cells.now (λ d. omega (arith, c.shared_slice_known-1.given d)) a.c
