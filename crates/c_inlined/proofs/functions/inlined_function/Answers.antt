use Rattle.std.proofs.Common.{rules, ◌≡◌, ◌∙◌, ap}
use Rattle.c_subset.specs.Lines.{lines_in}
use Rattle.c_trees.specs.Blocks.{block_of}
use Rattle.c_inlined.proofs.Making.{made-of}
use Rattle.c_inlined.proofs.ReplacingLemmas.{found}
use Rattle.c_inlined.proofs.functions.inlined_function.Goals as goal

pub returns : goal.returns
returns c =
    let look = c.in-Some.ensures.lookup in
    λ gs are. made-of c.args.functions.now gs c.args.number c.in-Some-base_of.base c.in-Some.function.now
    (block_of c.in-Ok.tree.value) (block_of c.inline.new.tree) c.in_ok-parameters.parameters c.in_ok-lines.lines are
    (found c.args.functions.now c.args.number c.in-Some.function.now look.3.0 look.1)
    (λ b e. c.in-Ok.ensures b (ap lines_in c.items.ensures ∙ e)) (search rules)
    (search (rules, c.in_ok-inline.ensures gs are)) (search rules) (search rules)
