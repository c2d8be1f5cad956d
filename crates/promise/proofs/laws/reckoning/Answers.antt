use Rattle.promise.proofs.OneMore.{hour_counts_once, commitment_replaces, load_replaces, owner_replaces, record_joins, hours_join, list_kept, refused_lines, post_accepted, post_adds}
use Rattle.promise.proofs.laws.reckoning.Goals as goal

pub returns : goal.returns
returns c =
    record {
      hour_counts_once = hour_counts_once;
      commitment_replaces = commitment_replaces;
      load_replaces = load_replaces;
      owner_replaces = owner_replaces;
      record_joins = record_joins;
      hours_join = hours_join;
      list_kept = list_kept;
      refused_lines = refused_lines;
      post_accepted = post_accepted;
      post_adds = post_adds;
    }
