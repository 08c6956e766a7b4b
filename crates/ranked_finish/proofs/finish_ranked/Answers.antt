-- `ranked_finish::finish_ranked` meets its contract: the test says which of the two ends it is, and the rows that are written are all that were listed.
-- Written so that a wrong body is refused sooner. Assumes nothing.
use Rattle.std.proofs.Common.{arith, refl, sym, ap, ◌∙◌}
use Rattle.std.proofs.lemmas.Grind.{common_steps}
use Rattle.definitions.specs.Lists.{overwrite}
use Rattle.ranked_finish.proofs.Flat.{all_numbers}
use Rattle.ranked_finish.proofs.finish_ranked.Goals as goal

pub returns-then-room-listed : goal.returns-then-room-listed
returns-then-room-listed c = grind (arith, common_steps)

pub returns : goal.returns
returns c =
    record {
      short = λ h. absurd (omega (arith, h, c.if-room-listed.false));
      enough = λ _.
          record {
            kept = c.finish-kept.result;
            answer = refl;
            finished = c.finish-kept.ensures;
            list = c.put_listed.ensures ∙ ap (λ l. overwrite l c.args.lent.now) (sym (all_numbers c.args.listed.now));
          };
    }
