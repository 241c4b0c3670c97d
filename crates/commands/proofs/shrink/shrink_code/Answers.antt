use Rattle.code_text.specs.declared.limits.TheConstants.{TEXT_LIMIT}
use Rattle.commands.specs.Call.{sources_of, call_of}
use Rattle.commands.proofs.ReadingLemmas.{one_named, others_kept}
use Rattle.commands.proofs.TextLemmas.{text_ends}
use Rattle.commands.specs.CodeText.{RefusesCode}
use Rattle.commands.specs.Shrink.{HasShrunkText}
use Rattle.commands.proofs.shrink.shrink_code.Goals as goal

pub returns-clause-ends : goal.returns-clause-ends
returns-clause-ends g c =
    text_ends TEXT_LIMIT HasShrunkText RefusesCode
    (call_of g.I.Inputs g.O.Sink c.args.inputs.now c.read_shrunk-shrunk.new.inputs c.args.out.now c.write_made.new.out)
    c.args.code_file.now c.read_shrunk-shrunk.result c.write_made.result c.read_shrunk-shrunk.ensures
    c.write_made.ensures

pub returns-clause-others : goal.returns-clause-others
returns-clause-others g c =
    one_named (sources_of g.I.Inputs c.args.inputs.now) (sources_of g.I.Inputs c.read_shrunk-shrunk.new.inputs)
    c.args.code_file.now
    (others_kept TEXT_LIMIT _ RefusesCode _ _ c.args.code_file.now c.read_shrunk-shrunk.result
    c.read_shrunk-shrunk.ensures)
