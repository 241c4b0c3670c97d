use Rattle.std.proofs.Common.{◌∙◌}
use Rattle.code_language.specs.Code.{instr_of}
use Rattle.code_language.proofs.FaultLemmas.{before_others, alone}
use Rattle.code_language.proofs.faults.last_returns.Goals as goal

pub returns-then-behind-gt0 : goal.returns-then-behind-gt0
returns-then-behind-gt0 c = λ rest len. before_others (instr_of c.args.instr.now) rest c.args.behind len c.if-behind-gt0.true

pub returns-else-behind-gt0 : goal.returns-else-behind-gt0
returns-else-behind-gt0 c = λ rest len.
    c.is_ret.ensures ∙ alone (instr_of c.args.instr.now) rest c.args.behind len c.if-behind-gt0.false
