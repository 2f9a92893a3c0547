use Rattle.std.proofs.Common.{◌∙◌}
use Rattle.evaluation_calls.proofs.Words.{quotient_is}
use Rattle.evaluation_calls.proofs.operators.quotient.Goals as goal

pub returns : goal.returns
returns c = c.unwrap_or.ensures ∙ quotient_is c.checked_div.result c.args.x c.args.y c.checked_div.ensures
