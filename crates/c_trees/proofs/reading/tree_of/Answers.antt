use Rattle.std.proofs.Common.{◌≡◌, ap, ◌∙◌}
use Rattle.std.proofs.lemmas.Result.{IfOk-weaker}
use Rattle.flow_base.specs.Lists.{items_of}
use Rattle.c_subset.specs.Trees.{Block}
use Rattle.c_subset.specs.Lines.{lines_in, lines_of}
use Rattle.c_trees.specs.Blocks.{block_of}
use Rattle.c_trees.specs.declared.trees.Tree.TheVariants.{End}
use Rattle.c_trees.specs.Reading.{opens_of}
use Rattle.c_trees.proofs.ReadLemmas.{read-is}
use Rattle.c_trees.proofs.reading.tree_of.Goals as goal

pub returns-in-Empty : goal.returns-in-Empty
returns-in-Empty c =
    IfOk-weaker c.boxed.result (λ t. t.value ≡ End) (λ t. (b : Block) → lines_in (items_of c.args.lines) ≡ lines_of b
    → block_of t.value ≡ b)
    (λ t is b h. ap block_of is ∙ rw c.in-Empty.is at (read-is b (lines_in (items_of c.args.lines))
    (opens_of c.in_ok-read_lines.field-0) (rw c.into_items.ensures at c.in_ok-read_lines.ensures) h))
    c.boxed.ensures

pub returns : goal.returns
returns c =
    λ b h. rw c.in-Top.is at (read-is b (lines_in (items_of c.args.lines)) (opens_of c.in_ok-read_lines.field-0)
    (rw c.into_items.ensures at c.in_ok-read_lines.ensures) h)
