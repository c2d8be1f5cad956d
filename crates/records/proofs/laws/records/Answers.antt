use Rattle.records.proofs.FormatLaws.{fields_adjoin, whole_not_broken, broken_stays, partial_broken}
use Rattle.records.proofs.Strings.{strings_joined}
use Rattle.records.proofs.laws.records.Goals as goal

pub returns : goal.returns
returns c =
    record {
      fields_adjoin = fields_adjoin;
      whole_not_broken = whole_not_broken;
      broken_stays = broken_stays;
      partial_broken = partial_broken;
      strings_joined = strings_joined;
    }
