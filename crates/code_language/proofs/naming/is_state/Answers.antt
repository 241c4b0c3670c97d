use Rattle.std.proofs.Common.{nat_lt, length, sym, ap, ◌∙◌}
use Rattle.flow_base.specs.Lists.{items_of}
use Rattle.code_language.proofs.FaultLemmas.{states_counted}
use Rattle.code_language.proofs.naming.is_state.Goals as goal

pub returns : goal.returns
returns c =
    ap (λ l. nat_lt c.args.state (length l)) c.items.ensures
    ∙ sym (ap (nat_lt c.args.state) (states_counted (items_of c.args.raw.now.states)))
