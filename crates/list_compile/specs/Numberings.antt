-- A numbering as contracts see it.
use Rattle.checked_chart.specs.Chart.{Chart}
use Rattle.checked_chart.specs.Kept.{chart_of}
use Rattle.list_compile.specs.declared.numbering.Numbering.{Numbering}

-- the chart that is numbered
abbrev pub chart_in : Numbering → Chart
chart_in n = chart_of n.chart.now
