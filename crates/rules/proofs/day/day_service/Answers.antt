use Rattle.std.proofs.Common.{◌∙◌, arith}
use Rattle.rules.proofs.DayHours.{marks_counted, day_service_most}
use Rattle.rules.proofs.day.day_service.Goals as goal

pub returns-clause-value : goal.returns-clause-value
returns-clause-value c =
    let d = c.args.d in
    let known = simp (c.or_known-date.ensures, c.date_of.ensures, c.day_hour.ensures) at c.or_known-date.result.hours_known in
    c.from.ensures ∙ c.hour_count.ensures ∙ marks_counted c.args.year d known

pub returns-clause-most : goal.returns-clause-most
returns-clause-most c = omega (arith, returns-clause-value c, day_service_most c.args.year c.args.d)
