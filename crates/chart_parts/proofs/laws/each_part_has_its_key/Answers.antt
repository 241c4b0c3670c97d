use Rattle.chart_parts.proofs.KeyLemmas.{all_same, as_many}
use Rattle.chart_parts.proofs.laws.each_part_has_its_key.Goals as goal

pub returns-clause-count : goal.returns-clause-count
returns-clause-count c chart = as_many chart

pub returns-clause-keys : goal.returns-clause-keys
returns-clause-keys c chart = all_same chart
