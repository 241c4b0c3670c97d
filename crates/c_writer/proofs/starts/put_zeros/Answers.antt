use Rattle.std.proofs.Common.{◌+◌, ◌-◌, ◌++◌, replicate, sym, ap, ◌∙◌}
use Rattle.flow_base.specs.Lists.{items_of}
use Rattle.c_subset.specs.Lines.{lines_in, lines_of}
use Rattle.c_functions.specs.Starts.{store_all}
use Rattle.c_writer.specs.Starting.{nothing_of}
use Rattle.c_writer.proofs.StoreLemmas.{zeros_more}
use Rattle.c_writer.proofs.starts.put_zeros.Goals as goal

pub loop-place-preserved : goal.loop-place-preserved
loop-place-preserved c = λ rest.
    let i = c.loop-place.place in
    let n = c.args.count in
    let later = replicate (n - (i + 1)) (nothing_of c.args.kind) in
    c.in_ok-put_store.ensures (store_all (c.args.first + (i + 1)) later rest)
    ∙ ap (λ b. lines_in (items_of c.loop-place.lines) ++ lines_of b)
    (sym (zeros_more c.args.first i n c.args.kind rest c.loop-place-test.true))
    ∙ c.loop-place.invariant rest
