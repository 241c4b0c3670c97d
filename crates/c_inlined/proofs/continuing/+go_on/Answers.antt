use Rattle.std.proofs.Common.{rules, ◌≡◌, true, sym, ap, ◌∙◌, subst}
use Rattle.std.proofs.lemmas.Result.{on_ok_weaker}
use Rattle.c_subset.specs.Trees.{Block}
use Rattle.c_subset.specs.Lines.{expr_of}
use Rattle.c_trees.specs.Blocks.{block_of}
use Rattle.c_trees.specs.declared.trees.Tree.{Tree}
use Rattle.c_inlined.specs.Inlined.{set_result}
use Rattle.c_inlined.proofs.ContinuedLemmas.{whole-first, whole-second}
use Rattle.c_inlined.proofs.continuing.+go_on.Goals as goal

pub returns-then-always_returns : goal.returns-then-always_returns
returns-then-always_returns t c =
    let next = set_result c.args.target.result c.args.target.of c.args.target.local in
    on_ok_weaker c.go_on-then-always_returns-2.result
    (λ second. whole-first next (expr_of c.in-If.field-0) c.in-If.first.value c.in-If.second.value c.in-If.rest.value
    (block_of c.go_on-then-always_returns.new.tree) (block_of c.go_on-then-always_returns-2.new.tree)
    (block_of c.replace-last.new.dest.value) c.args.tree.now c.in_ok-none-in-If.none.value c.replace-last.result.value
    (block_of c.args.after.value) (block_of c.go_on-in-If.new.tree)
    (search rules) (search rules) (search rules) (search rules) (search rules) (search rules) (search rules)
    (search rules) (search rules))
    c.go_on-then-always_returns-2.ensures

pub returns-in_ok-go_on-in-If-3 : goal.returns-in_ok-go_on-in-If-3
returns-in_ok-go_on-in-If-3 t c =
    let next = set_result c.args.target.result c.args.target.of c.args.target.local in
    on_ok_weaker c.go_on-in-If-3.result
    (λ second. whole-second next (expr_of c.in-If.field-0) c.in-If.first.value c.in-If.second.value c.in-If.rest.value
    (block_of c.go_on-in-If-2.new.tree) (block_of c.go_on-in-If-3.new.tree)
    (block_of c.replace-last.new.dest.value) c.args.tree.now c.in_ok-none-in-If.none.value c.replace-last.result.value
    (block_of c.args.after.value) (block_of c.go_on-in-If.new.tree)
    (search rules) (search rules) (search rules) (search rules) (search rules) (search rules) (search rules)
    (search rules) (search rules) (search rules))
    c.go_on-in-If-3.ensures
