-- `call_partition::checked::check_sizes` meets its contract: the refusals of checks 1 to 3, and behind them check 4. Assumes nothing.
use Rattle.std.proofs.Common.{rules, sym, ◌≡◌, ◌∙◌, ℕ}
use Rattle.std.specs.Prelude.{Option, None, Some}
use Rattle.definitions.specs.Refusals.{Refusal, pass_fault}
use Rattle.definitions.specs.Verdict.{refusal}
use Rattle.refusals.specs.Refusals.{refusal_in, refusal_of}
use Rattle.refusals.proofs.Steps.{here, next}
use Rattle.call_partition.specs.declared.asked.Asked.{Asked}
use Rattle.call_partition.specs.Asking.{of_asked}
use Rattle.call_partition.specs.Early.{whole_refusal, sizes_refusal}
use Rattle.call_partition.proofs.SizesPassed.{sizes-parts}
use Rattle.call_partition.proofs.checked.check_sizes.Goals as goal

-- where 1 to 3 refuse nothing, 1 to 4 say what 4 says
by_fourth : (pass : ℕ) (x : Asked) {o : Option Refusal} → None ≡ of_asked whole_refusal x → o ≡ refusal 4 (pass_fault pass) → of_asked (sizes_refusal pass) x ≡ o
by_fourth pass x e f = sizes-parts pass x.width x.height x.cells.now x.spans.now x.boundaries.now x.anchors.now ∙ sym (next (sym e) f)

pub returns-in_err-check_whole-clause-refused : goal.returns-in_err-check_whole-clause-refused
returns-in_err-check_whole-clause-refused c =
    let a = c.args.asked in
    let r : refusal_in c.from_residual.result ≡ Some (refusal_of c.in_err-check_whole.field-0.0) = search rules in
    r ∙ here _ (sym c.in_err-check_whole.ensures) ∙ sym (sizes-parts c.args.pass a.width a.height a.cells.now a.spans.now a.boundaries.now a.anchors.now)

pub returns-clause-refused : goal.returns-clause-refused
returns-clause-refused c = sym (by_fourth c.args.pass c.args.asked c.in_ok-check_whole.ensures c.try_from.ensures.0)
