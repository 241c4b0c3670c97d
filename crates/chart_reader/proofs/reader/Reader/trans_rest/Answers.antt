use Rattle.std.specs.Option.{option_map}
use Rattle.chart_tree.specs.Views.{guard_of}
use Rattle.chart_reader.proofs.reader.Reader.trans_rest.Goals as goal

pub returns-in-Ok : goal.returns-in-Ok
returns-in-Ok c = c.in-Ok.ensures c.args.at c.args.event (option_map guard_of c.args.guard)

pub returns-in-Err : goal.returns-in-Err
returns-in-Err c = c.in-Err.ensures c.args.at c.args.event (option_map guard_of c.args.guard)
