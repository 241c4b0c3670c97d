use Rattle.std.specs.Prelude.{string_bytes}
use Rattle.chart_tree.specs.Views.{chart_of}
use Rattle.chart_format.proofs.Formatted.{is_formatted}
use Rattle.chart_format.proofs.format_text.Goals as goal

-- what is written is the canonical text of the chart that was read
pub returns-in-Ok-clause-formatted : goal.returns-in-Ok-clause-formatted
returns-in-Ok-clause-formatted c =
    is_formatted c.args.text.now (string_bytes c.in-Ok.canonical)
    (chart_of c.in_ok-chart.chart) c.in_ok-chart.ensures.found c.in-Ok.ensures
