use Rattle.std.proofs.Common.{◌∙◌, sym}
use Rattle.records.proofs.FirstRecords.{day_found, no_day}
use Rattle.records.proofs.decode.first_day.Goals as goal

pub returns-then-begins_with : goal.returns-then-begins_with
returns-then-begins_with c = rw c.day_fields.ensures (day_found c.args.s.now (sym c.begins_with.ensures ∙ c.if-begins_with.true))

pub returns-else-begins_with : goal.returns-else-begins_with
returns-else-begins_with c = no_day c.args.s.now (sym c.begins_with.ensures ∙ c.if-begins_with.false)
