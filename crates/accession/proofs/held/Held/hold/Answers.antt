-- `accession::held::Held::hold` meets its contract: `holds_more` of Holding.antt. Assumes nothing.
use Prim.Native.Nat.{◌%◌}
use native.Mathlib.Omega.{arith}
use mathlib.Core.Path.{ap, ◌∙◌}
use borrow.Author.Rules.{rules}
use Rattle.accession.proofs.Holding.{holds_more}
use Rattle.accession.proofs.held.Held.hold.Goals as goal

pub returns : goal.returns
returns g c =
    let slot = c.slot_of-slot in (
      omega arith,
      holds_more c.args.records.now c.requires.table c.requires.sizes.0 (search rules) slot.result
          (slot.ensures.0 ∙ ap (λ r. r.on_map % g.row.SLOTS) c.accession_at.ensures) slot.ensures.1,
    )
