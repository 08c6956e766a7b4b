-- `runs::run_sheet` meets its contract, by what the reader and the call answer. Assumes nothing.
use Rattle.std.proofs.Common.{◌≡◌, ℕ, rules, refl, sym, ap, subst, arith, ◌∙◌}
use Rattle.std.specs.Prelude.{Err}
use Rattle.refusals.specs.Answers.{answer_of}
use Rattle.sheet_answer.specs.Contract.{keptlist_reading, kept_of, reading_answer, sheet_in, RunOf}
use Rattle.sheet_answer.proofs.Calling.{same_run}
use Rattle.sheet_answer.proofs.Reading.{not_read, sheet_read}
use Rattle.sheet_answer.proofs.runs.run_sheet.Goals as goal

pub returns-in_err-header : goal.returns-in_err-header
unfolding reading_answer
returns-in_err-header c =
    let refusal = c.in_err-header.field-0.0 in
    let given : c.from_residual.result ≡ Err refusal = search rules in
    record {
      answer = ap (λ r. answer_of (kept_of r)) given ∙ sym (ap reading_answer (not_read c.args.bytes.now (search rules) c.in_err-header.ensures refusal refl));
      run_of = λ run e. absurd (let q = sym given ∙ e in let z : ◌≡◌ {A = ℕ} 0 1 = cc q in omega arith);
    }

pub call_held-requires-clause-sheet_held : goal.call_held-requires-clause-sheet_held
call_held-requires-clause-sheet_held c = (sheet_read c.args.bytes.now (search rules) c.in_ok-header.ensures refl).held

pub returns-in_err-kept : goal.returns-in_err-kept
unfolding reading_answer
returns-in_err-kept c =
    let refusal = c.in_err-kept.field-0.0 in
    let given : c.from_residual-in_err-kept.result ≡ Err refusal = search rules in
    let read = sheet_read c.args.bytes.now (search rules) c.in_ok-header.ensures refl in
    record {
      answer = ap (λ r. answer_of (kept_of r)) given ∙ c.in_err-kept.ensures.answer ∙ sym (ap reading_answer read.is);
      run_of = λ run e. absurd (let q = sym given ∙ e in let z : ◌≡◌ {A = ℕ} 0 1 = cc q in omega arith);
    }

pub returns : goal.returns
unfolding reading_answer
returns c =
    let header = c.in_ok-header.header in
    let left = c.read_limited.new in
    let read = sheet_read c.args.bytes.now (search rules) c.in_ok-header.ensures refl in
    record {
      answer = c.in_ok-kept.ensures.answer ∙ sym (ap reading_answer read.is);
      run_of = λ run e.
          subst (λ r. RunOf (keptlist_reading c.args.bytes.now) r c.call_held.new.output) (same_run e)
          (record {
            sheet = sheet_in header left.cells left.spans left.boundaries left.anchors;
            read = read.is;
            pass_is = refl;
            counted = omega (arith, read.held.boundaries-inside.1);
            called = c.in_ok-kept.ensures;
          });
    }
