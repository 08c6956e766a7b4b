-- `result_reader::keys_list` meets its contract: a count, and the entries behind it. Assumes nothing.
use Rattle.std.proofs.Common.{◌∙◌, arith}
use Rattle.sheet.proofs.Passed.{passed}
use Rattle.result_reader.proofs.Numbers.{item-inside}
use Rattle.result_reader.proofs.Lists.{count-fails, keys_found, keys-stopped, ascent_behind}
use Rattle.result_reader.proofs.keys_list.Goals as goal

pub returns-in_err-count : goal.returns-in_err-count
returns-in_err-count g c = rw (passed _ c.from_residual.ensures.1) (count-fails _ _ _ c.in_err-count.ensures)

pub walk_keys-requires : goal.walk_keys-requires
walk_keys-requires g c = (omega (arith, c.requires.2), (item-inside _ _ c.requires.0 c.in_ok-count.ensures, c.requires.1, c.requires.2))

pub returns-in_err-keys : goal.returns-in_err-keys
returns-in_err-keys g c = rw (passed _ c.from_residual-in_err-keys.ensures.1) (keys-stopped _ _ c.in_ok-count.ensures _ c.args.last _ c.in_err-keys.ensures)

pub returns : goal.returns
returns g c = keys_found _ _ c.in_ok-count.ensures _ _ c.requires.0 c.in_ok-keys.ensures (c.err.ensures.value ∙ ascent_behind _ _)
