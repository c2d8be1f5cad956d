-- How a string is written; Format, on its own, says how it is read.
use Rattle.std.specs.Prelude.{List, [], ◌∷◌, ◌++◌, ℕ, zero, suc, ◌/◌, ◌%◌, length}
use Rattle.records.specs.declared.format.HourRecord.{HourRecord}

-- A number in so many bytes, high byte first, and a record: one tag byte, a two-byte length, then the value.
abbrev pub bytes : ℕ → ℕ → List ℕ
bytes zero n = []
bytes (suc width) n = bytes width (n / 256) ++ (n % 256 ∷ [])

abbrev pub tagged : ℕ → List ℕ → List ℕ
tagged tag value = tag ∷ bytes 2 (length value) ++ value

-- unit; month, day, hour ending; kind; derating
abbrev pub written_hour : HourRecord → List ℕ
written_hour h = tagged 5 (h.unit ∷ h.month ∷ h.day ∷ h.hour ∷ h.kind ∷ bytes 4 h.derating)
