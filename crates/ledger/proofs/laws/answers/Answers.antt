use Rattle.records.specs.Stream.{strings_of}
use Rattle.ledger.proofs.Entries.{all_answered, all_printed}
use Rattle.ledger.proofs.laws.answers.Goals as goal

pub returns : goal.returns
returns c = record { printed = all_printed; state = λ r s. all_answered (strings_of s) r }
