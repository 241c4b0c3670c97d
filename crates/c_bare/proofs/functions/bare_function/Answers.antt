use Rattle.c_bare.proofs.Written.{bare-is}
use Rattle.c_bare.proofs.functions.bare_function.Goals as goal
use Rattle.std.proofs.Common.{◌∙◌, ap, cond, []}
use Rattle.flow_base.specs.Lists.{items_of}

pub returns : goal.returns
returns c =
    λ g h. bare-is c.args.flags.now c.args.number c.args.function g c.kept-parameters.result c.in_ok-lines.lines
    (c.kept-parameters.ensures ∙ ap (λ b. cond b [] (items_of c.args.function.parameters)) c.is_bare.ensures)
    c.in_ok-lines.ensures h
