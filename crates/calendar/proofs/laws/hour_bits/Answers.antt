use Rattle.calendar.proofs.HourBits.{lowest_bit, highest_bit, last_byte, middle_byte, first_byte, bits_of_hours, no_other_hour}
use Rattle.calendar.proofs.laws.hour_bits.Goals as goal

pub returns : goal.returns
returns c =
    record {
      lowest_bit = lowest_bit;
      highest_bit = highest_bit;
      last_byte = last_byte;
      middle_byte = λ a b c h few inside. middle_byte a b c h inside few;
      first_byte = λ a b c h fb fc inside. first_byte a b c h inside fb fc;
      bits_of_hours = bits_of_hours;
      no_other_hour = no_other_hour;
    }
