use Rattle.std.proofs.Common.{◌<◌, ◌+◌, ◌-◌, ◌++◌, sym, ap, ◌∙◌, arith}
use Rattle.std.specs.List.{range_with_len}
use Rattle.flow_base.specs.Lists.{items_of}
use Rattle.active_config.specs.Tree.{state_count}
use Rattle.c_subset.specs.Lines.{lines_in, lines_of}
use Rattle.c_functions.specs.Files.{home_body}
use Rattle.c_shape.specs.FileShapes.{shape_seen}
use Rattle.c_writer.specs.Homes.{test_at}
use Rattle.c_writer.proofs.ProcedureLemmas.{home_more}
use Rattle.c_writer.proofs.helpers.home_lines.Goals as goal

pub loop-state-preserved : goal.loop-state-preserved
loop-state-preserved c =
    let K = shape_seen c.args.shape.now in
    let test = test_at K c.args.home in
    let s = c.loop-state.state in
    let n = state_count K.tree in
    let lt : s < n = omega (arith, c.len-state-end.ensures.count) in
    c.in_ok-put_home_case.ensures (home_body test (range_with_len (s + 1) (n - (s + 1))))
    ∙ sym (ap (λ b. lines_in (items_of c.loop-state.lines) ++ lines_of b) (home_more test s n lt))
    ∙ c.loop-state.invariant
