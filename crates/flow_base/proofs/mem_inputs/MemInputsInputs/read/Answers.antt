use Rattle.flow_base.proofs.MemoryReads.{others_kept, has_cause, none_falls, all_stay}
use Rattle.flow_base.proofs.mem_inputs.MemInputsInputs.read.Goals as goal

pub returns-clause-others : goal.returns-clause-others
returns-clause-others c = others_kept _ c.args.name.now c.args.self.now c.read_first.new.self c.read_first.ensures.state

pub returns-clause-cause : goal.returns-clause-cause
returns-clause-cause c =
    has_cause _ c.args.name.now c.args.self.now c.read_first.new.self c.read_first.result c.read_first.ensures.state c.read_first.ensures.count

pub returns-clause-counts : goal.returns-clause-counts
returns-clause-counts c = none_falls _ c.args.name.now c.args.self.now c.read_first.new.self c.read_first.ensures.state

pub returns-clause-ok : goal.returns-clause-ok
returns-clause-ok c =
    all_stay _ c.args.name.now c.args.self.now c.read_first.new.self c.read_first.result c.read_first.ensures.state c.read_first.ensures.count
