use Rattle.std.proofs.Common.{rules, ◌≡◌}
use Rattle.std.proofs.lemmas.Result.{on_ok_weaker}
use Rattle.flow_base.specs.Lists.{items_of}
use Rattle.c_subset.specs.Lines.{expr_of, exprs_of}
use Rattle.c_trees.specs.Blocks.{block_of}
use Rattle.c_inlined.proofs.ReplacingLemmas.{sets, stores, stores-at, selects, asks, turns, ends, returns}
use Rattle.c_inlined.proofs.inlining.+inline.Goals as goal

pub returns-in-Set : goal.returns-in-Set
returns-in-Set t c =
    on_ok_weaker c.inline.result
    (λ is gs are. sets gs c.args.caller.number c.args.caller.result c.args.caller.base c.in-Set.field-0 c.in-Set.field-1
    (expr_of c.in-Set.field-2)
    _ (block_of c.inline.new.tree) (block_of c.args.tree.now) (is gs are) (search rules)) c.inline.ensures

pub returns-in-Store : goal.returns-in-Store
returns-in-Store t c =
    on_ok_weaker c.inline-in-Store.result
    (λ is gs are. stores gs c.args.caller.number c.args.caller.result c.args.caller.base c.in-Store.field-0
    (expr_of c.in-Store.field-1)
    _ (block_of c.inline-in-Store.new.tree) (block_of c.args.tree.now) (is gs are) (search rules)) c.inline-in-Store.ensures

pub returns-in-StoreAt : goal.returns-in-StoreAt
returns-in-StoreAt t c =
    on_ok_weaker c.inline-in-StoreAt.result
    (λ is gs are. stores-at gs c.args.caller.number c.args.caller.result c.args.caller.base c.in-StoreAt.field-0
    (expr_of c.in-StoreAt.field-1) (expr_of c.in-StoreAt.field-2)
    _ (block_of c.inline-in-StoreAt.new.tree) (block_of c.args.tree.now) (is gs are) (search rules)) c.inline-in-StoreAt.ensures

pub returns-in-Select : goal.returns-in-Select
returns-in-Select t c =
    on_ok_weaker c.inline-in-Select.result
    (λ is gs are. selects gs c.args.caller.number c.args.caller.result c.args.caller.base c.in-Select.field-0
    c.in-Select.field-1 (expr_of c.in-Select.field-2) (items_of c.in-Select.field-3)
    (exprs_of (items_of c.in-Select.field-4))
    _ (block_of c.inline-in-Select.new.tree) (block_of c.args.tree.now) (is gs are) (search rules)) c.inline-in-Select.ensures

pub returns-in_ok-inline-in-If-2 : goal.returns-in_ok-inline-in-If-2
returns-in_ok-inline-in-If-2 t c =
    on_ok_weaker c.inline-in-If-3.result
    (λ is gs are. asks gs c.args.caller.number c.args.caller.result c.args.caller.base (expr_of c.in-If.field-0) _ _ _
    (block_of c.inline-in-If.new.tree) (block_of c.inline-in-If-2.new.tree) (block_of c.inline-in-If-3.new.tree)
    (block_of c.args.tree.now) (c.in_ok-inline-in-If.ensures gs are) (c.in_ok-inline-in-If-2.ensures gs are)
    (is gs are) (search rules)) c.inline-in-If-3.ensures

pub returns-in_ok-inline-in-While : goal.returns-in_ok-inline-in-While
returns-in_ok-inline-in-While t c =
    on_ok_weaker c.inline-in-While-2.result
    (λ is gs are. turns gs c.args.caller.number c.args.caller.result c.args.caller.base (expr_of c.in-While.field-0) _ _
    (block_of c.inline-in-While.new.tree) (block_of c.inline-in-While-2.new.tree) (block_of c.args.tree.now)
    (c.in_ok-inline-in-While.ensures gs are) (is gs are) (search rules)) c.inline-in-While-2.ensures

pub returns-in-End : goal.returns-in-End
returns-in-End t c =
    λ gs are. ends gs c.args.caller.number c.args.caller.result c.args.caller.base (block_of c.args.tree.now)
    (search rules)

pub returns-in-Return : goal.returns-in-Return
returns-in-Return t c =
    λ gs are. returns gs c.args.caller.number c.args.caller.result c.args.caller.base (expr_of c.in-Return.field-0)
    (block_of c.args.tree.now) (search rules)
