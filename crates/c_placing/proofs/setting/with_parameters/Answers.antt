use Rattle.std.proofs.Common.{◌≡◌, length, take, ap, ◌∙◌, arith}
use Rattle.c_subset.specs.Lines.{exprs_of}
use Rattle.c_trees.specs.Blocks.{block_of}
use Rattle.c_trees.specs.declared.trees.Tree.{Tree}
use Rattle.c_placing.specs.Placing.{set_parameters}
use Rattle.c_placing.proofs.PlacedLemmas.{step-set}
use Rattle.c_placing.proofs.setting.with_parameters.Goals as goal

pub each-preserved : goal.each-preserved
each-preserved c =
    let here : c.len-number.result ≡ length c.pop.new.self.items =
    omega (arith, c.len-number.ensures, c.pop.new.self.ok) in
    record {
      few = omega (arith, c.each.invariant.few, ap length c.in-Some.ensures.items);
      same = ap (λ (t : Tree). set_parameters c.args.base 0 (take (length c.pop.new.self.items) c.args.types.now)
          (exprs_of c.pop.new.self.items) (block_of t)) c.in_ok-tree.ensures
          ∙ step-set c.args.base c.args.types.now c.each.left.items c.pop.new.self.items c.in-Some.arg c.len-number.result _
          (block_of c.each.tree.value) _ here c.in-Some.ensures.items c.each.invariant.few
          c.each.invariant.same;
    }
