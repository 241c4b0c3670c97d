use Rattle.std.proofs.Common.{◌∷◌, ap, refl}
use Rattle.std.proofs.lemmas.List.{nil_from_length}
use Rattle.actions.specs.Trees.{stmt_of}
use Rattle.checked_chart.specs.Views.{block_seen}
use Rattle.range_blocks.specs.declared.blocks.Ran.{Ran}
use Rattle.range_blocks.specs.Ends.{life_of}
use Rattle.range_blocks.proofs.BlockLemmas.{block_same, no_block, next_block}
use Rattle.range_blocks.proofs.blocks.+block.Goals as goal

pub returns-in-None : goal.returns-in-None
returns-in-None t c =
    block_same _ _ (life_of c.args.life) _ _ c.args.now c.done.result
    (ap block_seen (nil_from_length c.args.stmts.now c.in-None.ensures.cases))
    (no_block _ _ (life_of c.args.life) c.args.now c.done.result c.done.ensures.done)

pub returns-in_ok-cut-in-Some : goal.returns-in_ok-cut-in-Some
returns-in_ok-cut-in-Some t c =
    let all : Ran = record { done = c.in_ok-after-in-Some.after.done; cut = c.in_ok-cut-in-Some.cut } in
    block_same _ _ (life_of c.args.life) (block_seen c.args.stmts.now)
    (stmt_of c.in-Some.first.now ∷ block_seen c.in-Some.rest.now) c.args.now all
    (ap block_seen c.in-Some.ensures.cases.0)
    (next_block _ _ (life_of c.args.life) (stmt_of c.in-Some.first.now) (block_seen c.in-Some.rest.now) c.args.now
    c.in_ok-ran-in-Some.ran c.in_ok-after-in-Some.after all refl c.in_ok-cut-in-Some.ensures
    c.in_ok-ran-in-Some.ensures c.in_ok-after-in-Some.ensures)
