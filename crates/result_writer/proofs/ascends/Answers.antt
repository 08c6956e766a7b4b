-- `result_writer::ascends` meets its contract: the keys are compared as lists. Assumes nothing.
use Rattle.std.proofs.Common.{arith, ◌<◌, [], List, ℕ, length, get_or, ap, ap₂, ◌∙◌, ◌≡◌}
use Rattle.std.proofs.lemmas.List.{get_or_default}
use Rattle.definitions.specs.Sort.{list_lt}
use Rattle.result_writer.specs.Contract.{key_in}
use Rattle.result_writer.proofs.ListOrder.{less_is}
use Rattle.result_writer.proofs.ascends.Goals as goal

pub returns : goal.returns
returns g c =
    let entries = c.args.entries.now in
    let read : (i : ℕ) (l x : List ℕ) → i < length entries → x ≡ key_in c.args.last l → l ≡ get_or entries i l → x ≡ key_in c.args.last (get_or entries i [])
    = λ i l x h e f. e ∙ ap (key_in c.args.last) (f ∙ get_or_default entries i l [] h) in
    less_is c.key.result c.key-2.result _ c.lt.ensures
    ∙ ap₂ list_lt (read _ _ _ (omega (arith, c.requires.1)) c.key.ensures c.index-entries-i.is) (read _ _ _ c.requires.1 c.key-2.ensures c.index-entries-i-2.is)
