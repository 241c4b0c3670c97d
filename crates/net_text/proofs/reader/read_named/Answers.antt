use Rattle.std.proofs.Common.{◌≤◌, List, length, sym, subst}
use Rattle.net_text.specs.declared.net.NetChart.{NetChart}
use Rattle.net_text.specs.NetTexts.{net_text_of}
use Rattle.net_text.proofs.LimitLemmas.{outcome_of-within}
use Rattle.net_text.proofs.reader.read_named.Goals as goal

pub first_repeat-requires : goal.first_repeat-requires
first_repeat-requires c =
    let within = outcome_of-within c.args.text.now (net_text_of c.in-Ok.net) c.in-Ok.ensures in
    subst (λ (charts : List NetChart). length charts ≤ 16) (sym c.items.ensures) within.few
