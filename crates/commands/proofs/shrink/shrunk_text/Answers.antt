use Rattle.std.proofs.lemmas.Result.{IfOk-weaker}
use Rattle.commands.proofs.shrink.shrunk_text.Goals as goal

-- the smaller code is printed
pub returns : goal.returns
returns c =
    IfOk-weaker c.print_code.result _ _
    (λ text is. record { smaller = c.in_ok-smaller.smaller; is_smaller = c.in_ok-smaller.ensures; text_is = is })
    c.print_code.ensures.text
