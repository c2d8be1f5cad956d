use Rattle.promise.proofs.WholeLogs.{every_log}
use Rattle.promise.proofs.laws.logs.Goals as goal

pub returns : goal.returns
returns c = every_log
