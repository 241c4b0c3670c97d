use Rattle.chart_tree.specs.declared.limits.TheConstants.{CHART_TEXT_LIMIT}
use Rattle.commands.specs.Accepted.{RefusesAccepted}
use Rattle.commands.specs.Call.{sources_of, call_of}
use Rattle.commands.proofs.ReadingLemmas.{one_named, others_kept}
use Rattle.commands.proofs.TextLemmas.{text_ends}
use Rattle.c_program.specs.Seen.{asked_seen}
use Rattle.c_program.specs.Texts.{HasC}
use Rattle.c_program.proofs.files.write_file.Goals as goal

pub returns-clause-ends : goal.returns-clause-ends
returns-clause-ends g c =
    text_ends CHART_TEXT_LIMIT (HasC c.args.file (asked_seen c.args.asked)) RefusesAccepted
    (call_of g.I.Inputs g.O.Sink c.args.inputs.now c.read_file-text.new.inputs c.args.out.now c.write_made.new.out)
    c.args.first.now c.read_file-text.result c.write_made.result c.read_file-text.ensures c.write_made.ensures

pub returns-clause-others : goal.returns-clause-others
returns-clause-others g c =
    one_named (sources_of g.I.Inputs c.args.inputs.now) (sources_of g.I.Inputs c.read_file-text.new.inputs)
    c.args.first.now
    (others_kept CHART_TEXT_LIMIT _ RefusesAccepted _ _ c.args.first.now c.read_file-text.result
    c.read_file-text.ensures)
