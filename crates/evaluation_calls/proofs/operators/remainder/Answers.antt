use Rattle.std.proofs.Common.{◌∙◌}
use Rattle.evaluation_calls.proofs.Words.{remainder_is}
use Rattle.evaluation_calls.proofs.operators.remainder.Goals as goal

pub returns : goal.returns
returns c = c.unwrap_or.ensures ∙ remainder_is c.checked_rem.result c.args.x c.args.y c.checked_rem.ensures
