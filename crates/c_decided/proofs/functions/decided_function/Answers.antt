use Rattle.std.proofs.Common.{refl}
use Rattle.c_decided.specs.Views.{plan_of}
use Rattle.c_decided.proofs.Making.{function_made}
use Rattle.c_decided.proofs.functions.decided_function.Goals as goal

pub returns : goal.returns
returns c = λ g is.
    function_made (plan_of c.args.plan.now) c.args.number c.args.function g _ refl refl
    (c.in_ok-lines.ensures g.body is.lines) is
