-- `accession::line::report_kept` meets its contract: where a record has the own number, the line is that of its map. Assumes nothing.
use Prim.Native.Nat.{ℕ}
use mathlib.Core.Path.{sym, ap, ◌∙◌}
use mathlib.Core.List.{List}
use lib.ListN.{length}
use Rattle.catalogue.specs.AccessionLaws.MapLine.{map_line}
use Rattle.catalogue.proofs.AccessionLaws.MapLine.{line-of-record, line-unknown}
use Rattle.refusals.specs.Answers.{answer_of}
use Rattle.accession.specs.Contract.{room_verdict}
use Rattle.accession.proofs.Reporting.{ten-left, unknown, exit-left, exit-unknown}
use Rattle.accession.proofs.line.report_kept.Goals as goal

pub returns-in-None : goal.returns-in-None
returns-in-None c =
    let l = c.args.records.now in
    let own = c.args.own in
    let none = line-unknown l own c.in-None.ensures in
    record {
      answer = unknown l own c.args.output.now c.requires.0 c.requires.1 none;
      left = exit-unknown l own c.args.output.now none;
    }

pub returns-in-Some : goal.returns-in-Some
returns-in-Some c =
    let known_at = c.in-Some.ensures in
    let i : ℕ = known_at.0 in
    let list : List ℕ = c.args.records.now in
    let own : ℕ = c.args.own in
    let out : List ℕ = c.args.output.now in
    let line = line-of-record list own c.requires.1 i known_at.1 known_at.2 ∙ ap (map_line list) (sym known_at.3) in
    let said = c.report_map in
    let room = length out in
    record {
      answer = said.ensures.answer ∙ ap (λ line. room_verdict line room) (sym line) ∙ ten-left list own out c.requires.0 c.requires.1;
      left = said.ensures.left ∙ exit-left list own out (answer_of said.result).number line;
    }
