-- What is written is read.
use Rattle.std.proofs.Common.{◌≡◌, ℕ, Ok, zero-add}
use Rattle.records.specs.declared.format.HourRecord.{HourRecord}
use Rattle.records.specs.declared.format.Record.TheVariants.{Hour}
use Rattle.records.specs.Format.{number_at}
use Rattle.records.specs.Decoded.{is_broken, of_length, framed, decoded}
use Rattle.records.specs.Written.{written_hour}

-- an Hour without derating
pub hour_written : (u m d h k : ℕ) → let x : HourRecord = record { unit = u; month = m; day = d; hour = h; kind = k; derating = 0 } in decoded (written_hour x) ≡ Ok (Hour x)
unfolding decoded framed is_broken of_length number_at
hour_written u m d h k = rw (zero-add u, zero-add m, zero-add d, zero-add h, zero-add k)
