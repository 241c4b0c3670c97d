-- Pieces of the functions that are called from outside, which have no name there.
use Rattle.std.specs.Prelude.{pos, false}
use Rattle.actions.specs.declared.names.Var.{Var}
use Rattle.c_subset.specs.Trees.{CExpr, Block}
use Rattle.c_subset.specs.Trees as c
use Rattle.c_subset.specs.declared.trees.CType.{CType}
use Rattle.c_subset.specs.Meaning.{CValue}
use Rattle.c_functions.specs.Claims.{field_type}
use Rattle.c_functions.specs.Starts.{answer_c}

-- the first value of a datum
abbrev pub value_of : Var → CValue
value_of v = record { type = field_type v.sort; value = v.init }

-- 0 of a type
abbrev pub nothing_of : CType → CValue
nothing_of t = record { type = t; value = pos 0 }

-- if (test) { return false; }
abbrev pub refused_where : CExpr → Block → Block
refused_where test rest = c.If test (answer_c false) c.End rest
