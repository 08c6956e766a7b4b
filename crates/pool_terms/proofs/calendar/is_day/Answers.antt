-- `calendar::is_day` meets its contract. Assumes nothing.
use Rattle.std.proofs.Common.{rules, tests, sym, ap, ◌≡◌, ◌∙◌, leb, ◌&&◌}
use Rattle.catalogue.specs.Dates.{is_day, month_days}
use Rattle.pool_terms.proofs.calendar.is_day.Goals as goal
use Rattle.pool_terms.proofs.calendar.is_day.Goals.{then-contains, else-contains}

pub returns-then-contains-2 : goal.returns-then-contains-2
unfolding is_day
returns-then-contains-2 c =
    let d = c.args.date in
    let year : c.contains.result ≡ (leb 2000 d.year && leb d.year 2099) = search (rules, tests) in
    let day : c.contains-then-contains-2.result ≡ (leb 1 d.day && leb d.day c.month_days.result) = search (rules, tests) in
    let known : c.if-contains.value ≡ (leb 2000 d.year && leb d.year 2099 && leb 1 d.month && leb d.month 12) =
    elim c.if-contains.branch [
      | then-contains w ↦
          let month : w.contains-then-contains.result ≡ (leb 1 d.month && leb d.month 12) = search (rules, tests) in
          w.value-is ∙ month ∙ sym (ap (λ t. t && leb 1 d.month && leb d.month 12) (sym year ∙ w.if-contains.true))
      | else-contains w ↦ w.value-is ∙ w.if-contains.false ∙ sym (ap (λ t. t && leb 1 d.month && leb d.month 12) (sym year ∙ w.if-contains.false))
    ] in
    day ∙ ap (λ n. leb 1 d.day && leb d.day n) c.month_days.ensures
    ∙ sym (ap (λ t. t && leb 1 d.day && leb d.day (month_days d.year d.month)) (sym known ∙ c.if-contains-2.true))

pub returns-else-contains-2 : goal.returns-else-contains-2
unfolding is_day
returns-else-contains-2 c =
    let d = c.args.date in
    let year : c.contains.result ≡ (leb 2000 d.year && leb d.year 2099) = search (rules, tests) in
    let known : c.if-contains.value ≡ (leb 2000 d.year && leb d.year 2099 && leb 1 d.month && leb d.month 12) =
    elim c.if-contains.branch [
      | then-contains w ↦
          let month : w.contains-then-contains.result ≡ (leb 1 d.month && leb d.month 12) = search (rules, tests) in
          w.value-is ∙ month ∙ sym (ap (λ t. t && leb 1 d.month && leb d.month 12) (sym year ∙ w.if-contains.true))
      | else-contains w ↦ w.value-is ∙ w.if-contains.false ∙ sym (ap (λ t. t && leb 1 d.month && leb d.month 12) (sym year ∙ w.if-contains.false))
    ] in
    c.if-contains-2.false ∙ sym (ap (λ t. t && leb 1 d.day && leb d.day (month_days d.year d.month)) (sym known ∙ c.if-contains-2.false))
