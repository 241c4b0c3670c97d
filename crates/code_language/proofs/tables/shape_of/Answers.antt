use Rattle.code_language.proofs.TableLemmas.{shape_ok, shape_err}
use Rattle.code_language.proofs.tables.shape_of.Goals as goal

pub returns-clause-shape : goal.returns-clause-shape
returns-clause-shape c =
    shape_ok c.args.states.now c.in_ok-parents.parents.items c.in_ok-comps.comps.items c.make.result c.requires.parents
    c.in_ok-parents.ensures c.in_ok-comps.ensures c.make.ensures.shape c.make.ensures.tree

pub returns-clause-not_a_tree : goal.returns-clause-not_a_tree
returns-clause-not_a_tree c = λ e tree.
    shape_err c.args.states.now c.in_ok-parents.parents.items c.in_ok-comps.comps.items c.requires.parents
    c.in_ok-parents.ensures c.in_ok-comps.ensures (c.make.ensures.not_a_tree.0 e) tree
