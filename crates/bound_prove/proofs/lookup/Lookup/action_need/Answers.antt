use Rattle.std.proofs.Common.{refl, sym, ap, subst, ◌∙◌}
use Rattle.actions.specs.Trees.{stmt_of}
use Rattle.checked_chart.specs.Views.{block_seen}
use Rattle.bound_prove.specs.Lookups.{cells_in, IsKnown}
use Rattle.bound_prove.specs.Needs.{in_turn}
use Rattle.bound_prove.specs.Uses.{BlockUses}
use Rattle.bound_prove.proofs.Evaluations.{nothing_looked, as_evaluated, step_evaluated}
use Rattle.bound_prove.proofs.Pieces.{action_none, action_some, empty_is, not_empty}
use Rattle.bound_prove.proofs.lookup.Lookup.action_need.Goals as goal

pub returns-then-is_empty : goal.returns-then-is_empty
returns-then-is_empty c =
    let l = c.args.self.now in
    let e = ap block_seen (empty_is c.args.stmts.now (sym c.is_empty.ensures ∙ c.if-is_empty.true)) in
    nothing_looked l _ _ _ (λ m. BlockUses (IsKnown l m) (block_seen c.args.stmts.now))
    (c.nothing_needed.ensures ∙ action_none (cells_in l) (block_seen c.args.stmts.now) e)
    (λ m. subst (BlockUses (IsKnown l m)) (sym e) tt)

pub returns : goal.returns
returns c =
    let l = c.args.self.now in
    as_evaluated l _ _ _ _ _ _ _
    (step_evaluated l _ _ _ _ _ _ c.in_ok-block.ensures
    (c.then.ensures ∙ ap (λ z. in_turn z c.in_ok-block.block) c.one_step.ensures)) refl
    (action_some (cells_in l) (block_seen c.args.stmts.now)
    (not_empty stmt_of c.args.stmts.now (sym c.is_empty.ensures ∙ c.if-is_empty.false)))
