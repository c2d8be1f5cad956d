use Rattle.report.proofs.Joined.{pieces_joined, run_at_end}
use Rattle.report.proofs.Through.{gets_through}
use Rattle.report.proofs.laws.pieces.Goals as goal

pub returns : goal.returns
returns c = record { joined = pieces_joined; at_end = run_at_end; gets_through = λ size i n large enough. gets_through size large i n enough }
