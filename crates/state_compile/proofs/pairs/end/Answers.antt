use Rattle.std.proofs.Common.{arith}
use Rattle.chart_code.proofs.EndsLemmas.{end_is, end_after}
use Rattle.list_compile.specs.Numberings.{chart_in}
use Rattle.state_compile.proofs.pairs.end.Goals as goal

pub returns : goal.returns
returns c =
    let t = (chart_in c.args.numbering.now).tree in
    let s = c.args.state in
    let after = end_after t c.states.ensures.valid.tree s c.requires in
    let within = (end_is t c.states.ensures.valid.tree s c.requires).within in
    record {
      end = omega (arith, after, c.below.ensures.below);
      within = omega (arith, after, within, c.below.ensures.below);
      few = omega (arith, after, within, c.below.ensures.below, c.states.ensures.states, c.states.ensures.few);
    }
