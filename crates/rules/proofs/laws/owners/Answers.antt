use Rattle.rules.proofs.Owners as owners
use Rattle.rules.proofs.laws.owners.Goals as goal

pub returns : goal.returns
returns c =
    record {
      owner_no_part = owners.owner_no_part;
      committed_no_excess = owners.committed_no_excess;
      no_shares = owners.no_shares;
      no_excess_of_shortfall = owners.no_excess_of_shortfall;
      withdrawn = owners.withdrawn;
      own_area = owners.own_area;
      own_party = owners.own_party;
      unowned = owners.unowned;
    }
