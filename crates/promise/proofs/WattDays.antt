-- The sixteen parties' parts of a unit's V add up to V: every accepted Commitment has one of the sixteen parties.
use Rattle.std.proofs.Common.{[]}
use Rattle.rules.proofs.WattDays as rules
use Rattle.book.specs.Books.{empty_book}
use Rattle.promise.specs.Reckoning.{latest_commitment, facts_of_list, accepted_of}
use Rattle.promise.specs.Laws.{PartsAddUp}
use Rattle.promise.proofs.Meeting.{meets_none, all_meet}

pub parts_add_up : PartsAddUp
unfolding facts_of_list
parts_add_up ss u = rules.parts_add_up (latest_commitment (accepted_of [] ss)) (all_meet empty_book [] meets_none ss).kept.parties u
