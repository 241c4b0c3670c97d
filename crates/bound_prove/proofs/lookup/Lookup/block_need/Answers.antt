use Rattle.std.proofs.Common.{refl, arith}
use Rattle.actions.specs.Trees.{stmt_of}
use Rattle.bound_prove.specs.Lookups.{MayLook}
use Rattle.bound_prove.specs.Uses.{StmtUses}
use Rattle.bound_prove.proofs.Evaluations.{rest_seen, rest_none, first_has}
use Rattle.bound_prove.proofs.Pieces.{block_begins, block_goes_on, block_ends}
use Rattle.bound_prove.proofs.lookup.Lookup.block_need.Goals as goal

pub loop-stmt-init : goal.loop-stmt-init
loop-stmt-init c = block_begins c.args.self.now _ _ _ refl c.requires

pub stmt_need-requires : goal.stmt_need-requires
stmt_need-requires c =
    first_has (StmtUses (MayLook c.args.self.now)) _ _ _
    (rest_seen stmt_of c.args.stmts.now c.loop-stmt.stmt-index c.stmt-item.result (omega arith) c.stmt-item.is)
    c.loop-stmt.invariant.may

pub loop-stmt-preserved : goal.loop-stmt-preserved
loop-stmt-preserved c =
    block_goes_on c.args.self.now _ _ _ _ _ _ _ _ _ _ c.loop-stmt.invariant
    (rest_seen stmt_of c.args.stmts.now c.loop-stmt.stmt-index c.stmt-item.result (omega arith) c.stmt-item.is)
    c.in_ok-own.ensures c.then-need.ensures

pub returns : goal.returns
returns c =
    block_ends c.args.self.now _ _ _ _ _ c.loop-stmt.invariant
    (rest_none stmt_of c.args.stmts.now c.loop-stmt.stmt-index (omega arith))
