-- `list_separations` meets its contract: an accepted call has its boundaries on pixels and room for the rows. Assumes nothing.
use Rattle.std.proofs.Common.{rules, sym, ap, refl, ◌≡◌, ◌∙◌, ℕ, ◌≤◌, List, length, le_refl, le_trans, le_of_eq, arith}
use Rattle.std.specs.Prelude.{Err}
use Rattle.definitions.specs.Verdict.{Answer}
use Rattle.separations.specs.Listing.{boundary_count, separation_rows, list_verdict}
use Rattle.separations.specs.ListingLaws.{rows-length, listed-pixel, listed-room}
use Rattle.refusals.proofs.Steps.{positive}
use Rattle.refusals.specs.Answers.{answer_of}
use Rattle.separation_list.proofs.Answering.{few_entries, at_success, at_refusal}
use Rattle.separation_list.proofs.list_separations.Goals as goal

-- where there is a count of rows, they have room
rows_fit : (w h : ℕ) (boundaries output : List ℕ) → (list_verdict w h boundaries (length output)).number ≡ 0
    → length (separation_rows boundaries (boundary_count boundaries)) ≤ length output
rows_fit w h boundaries output success = le_trans (le_of_eq (rows-length boundaries (boundary_count boundaries))) (listed-room w h boundaries (length output) success)

pub returns-in_err-count : goal.returns-in_err-count
returns-in_err-count c =
    let a = c.args in
    let given : c.from_residual.result ≡ Err c.in_err-count.field-0.0 = search rules in
    record {
      answer = ap answer_of given ∙ c.in_err-count.ensures;
      at_exit = at_refusal a.boundaries.now a.output.now (λ z. omega (arith, positive c.in_err-count.field-0.0.cause, ap (λ r. (answer_of r).number) given, z));
    }

pub put_rows-requires : goal.put_rows-requires
put_rows-requires c =
    let a = c.args in
    let success = sym (ap (λ (x : Answer). x.number) c.in_ok-count.ensures) in
    record {
      pixels = record { ends = listed-pixel a.width a.height a.boundaries.now (length a.output.now) success };
      listed = le_refl _;
      few = few_entries a.width a.height a.boundaries.now (length a.output.now) success;
      room = rows_fit a.width a.height a.boundaries.now a.output.now success;
    }

pub returns : goal.returns
returns c =
    let a = c.args in
    let success = sym (ap (λ (x : Answer). x.number) c.in_ok-count.ensures) in
    let room = rows_fit a.width a.height a.boundaries.now a.output.now success in
    record { answer = c.in_ok-count.ensures; at_exit = at_success a.boundaries.now a.output.now refl room c.put_rows.ensures }
