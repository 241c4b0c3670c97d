use Rattle.std.specs.Prelude.{string_bytes}
use Rattle.chart_gen.specs.Cases.{text_of, chart_head}
use Rattle.chart_gen.proofs.TextLemmas.{appended}
use Rattle.chart_gen.proofs.chart.print_head.Goals as goal

-- the text of five lines
pub returns : goal.returns
unfolding text_of
returns c =
    appended c.push_str.result (string_bytes c.args.out.now) (string_bytes c.push_str.new.self) (text_of chart_head)
    c.push_str.ensures.bytes
