use Rattle.std.proofs.Common.{◌∙◌, sym}
use Rattle.records.proofs.FirstRecords.{hour_found, no_hour}
use Rattle.records.proofs.decode.first_hour.Goals as goal

pub returns-then-begins_with : goal.returns-then-begins_with
returns-then-begins_with c = rw c.hour_fields.ensures (hour_found c.args.s.now (sym c.begins_with.ensures ∙ c.if-begins_with.true))

pub returns-else-begins_with : goal.returns-else-begins_with
returns-else-begins_with c = no_hour c.args.s.now (sym c.begins_with.ensures ∙ c.if-begins_with.false)
