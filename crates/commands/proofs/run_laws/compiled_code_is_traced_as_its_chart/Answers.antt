use Rattle.commands.proofs.SameTraces.{traced_to_rules, traced_to_code}
use Rattle.commands.proofs.run_laws.compiled_code_is_traced_as_its_chart.Goals as goal

pub returns : goal.returns
returns c = λ chart bounds call second end valid.
    (traced_to_rules chart valid bounds call second end, traced_to_code chart valid bounds call second end)
