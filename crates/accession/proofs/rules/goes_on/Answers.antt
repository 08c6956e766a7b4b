-- `accession::rules::goes_on` meets its contract. Assumes nothing.
use mathlib.Core.Path.{sym, ap, ap₂, ◌∙◌}
use mathlib.Core.Bool.{◌&&◌}
use lib.Dec.{eqb, leb}
use Rattle.catalogue.specs.AccessionLaws.Chain.{follows}
use Rattle.accession.specs.Contract.{one_more}
use Rattle.accession.proofs.rules.goes_on.Goals as goal

pub returns-in-None : goal.returns-in-None
unfolding follows
returns-in-None c = ap (λ r. eqb r.superseded 0) c.accession_at-record.ensures ∙ ap (λ k. follows c.args.records.now c.args.i (one_more k)) (sym c.in-None.is)

pub returns-in-Some : goal.returns-in-Some
unfolding follows
returns-in-Some c =
    ap₂ (λ before r. leb before.day r.day && eqb r.superseded before.own) c.accession_at-before.ensures c.accession_at-record.ensures ∙ ap (λ k. follows c.args.records.now c.args.i (one_more k)) (sym c.in-Some.is)
