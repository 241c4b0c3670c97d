use Rattle.std.proofs.Common.{List, map, refl, ap, ◌∙◌, arith}
use Rattle.std.proofs.lemmas.List.{take_all}
use Rattle.chart_tree.specs.declared.chart.VarText.{VarText}
use Rattle.chart_tree.specs.Trees as trees
use Rattle.chart_tree.specs.Views.{var_of}
use Rattle.chart_scope.proofs.LoopLemmas.{one_more_listed}
use Rattle.chart_scope.proofs.declarations.inits.Goals as goal

-- one more first value is listed
pub loop-text-preserved : goal.loop-text-preserved
loop-text-preserved c =
    one_more_listed (λ (v : trees.Var). v.init) var_of _ _ _ c.args.texts.now c.text-item.result c.loop-text.text-index
    (omega arith) c.text-item.is c.in_ok-push.ensures.items refl c.loop-text.invariant

-- in the end all are listed
pub returns : goal.returns
returns c =
    c.of.ensures ∙ c.loop-text.invariant
    ∙ ap (λ (ts : List VarText). map (λ (v : trees.Var). v.init) (map var_of ts))
    (take_all c.loop-text.text-index c.args.texts.now (omega arith))
