use Rattle.checked_chart.specs.Kept.{chart_of}
use Rattle.std.proofs.Common.{sym, subst}
use Rattle.actions.specs.Names.{Names}
use Rattle.commands.specs.Trace.{HasShortNames}
use Rattle.commands.proofs.NameLemmas.{names_short}
use Rattle.commands.proofs.schedule.word_of.Goals as goal

-- the names of a valid chart are short
pub of-requires : goal.of-requires
of-requires c =
    subst (λ (n : Names). HasShortNames n) (sym c.names.ensures.names)
    (names_short (chart_of c.in-Some.chart.now).names c.names.ensures.valid.names.declared)
