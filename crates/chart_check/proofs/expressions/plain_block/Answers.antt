use Rattle.std.proofs.Common.{◌≡◌, ◌<◌, length, map, get_or, sym, ap, ◌∙◌, subst, arith}
use Rattle.std.proofs.lemmas.List.{take_all}
use Rattle.flow_base.specs.Lists.{items_of}
use Rattle.actions.specs.Trees as seen
use Rattle.resolved_tree.specs.Plain as plain
use Rattle.resolved_tree.specs.Promise.{IsStmt}
use Rattle.resolved_tree.specs.Views.{stmt_of, block_of}
use Rattle.chart_check.proofs.MapLemmas.{map_map}
use Rattle.chart_check.proofs.PartLemmas.{all_at}
use Rattle.chart_check.proofs.expressions.plain_block.Goals as goal

pub plain_stmt-requires : goal.plain_stmt-requires
plain_stmt-requires c =
    let r = c.requires.0 in
    let xs = items_of c.args.block.now in
    let i = c.loop-stmt.stmt-index in
    let same : c.items-stmt-items.result.now ≡ xs = c.items-stmt-items.ensures in
    let within : i < length xs = omega (arith, ap length same) in (
      r,
      subst (λ x. IsStmt r (stmt_of x))
          (sym (c.stmt-item.is ∙ ap (λ ys. get_or ys i c.stmt-item.result) same))
          (all_at (IsStmt r) stmt_of xs i c.stmt-item.result within c.requires.1),
    )

pub returns : goal.returns
returns c =
    let xs = c.items-stmt-items.result.now in
    ap (map seen.stmt_of) c.of.ensures
    ∙ c.loop-stmt.invariant
    ∙ ap (map (λ x. plain.plain_stmt (stmt_of x))) (take_all c.loop-stmt.stmt-index xs (omega arith))
    ∙ sym (map_map stmt_of plain.plain_stmt xs)
    ∙ ap (λ ys. plain.plain_block (block_of ys)) c.items-stmt-items.ensures
