use Rattle.std.proofs.Common.{Option, IfSome, Vec, subst}
use Rattle.std.specs.declared.alloc.Global.{Global}
use Rattle.code_language.specs.Code.{code_of}
use Rattle.c_shape.specs.FileShapes.{shape_seen}
use Rattle.c_subset.specs.declared.trees.Function.{Function}
use Rattle.c_subset.specs.Trees.{File}
use Rattle.c_passes.specs.Passed.{ArePassed, written_file}
use Rattle.c_passes.proofs.chain.begun_functions.Goals as goal

pub returns-in-Some : goal.returns-in-Some
returns-in-Some c =
    let K = shape_seen c.args.shape.now in
    subst (λ (found : Option (Vec Function Global)). IfSome found (λ made. (file : File)
    → ArePassed K file c.in_ok-looped.looped.items → ArePassed K file made.items)) c.in-Some.is
    c.in_ok-made.ensures (written_file K (code_of c.args.code.now)) c.in_ok-looped.ensures
