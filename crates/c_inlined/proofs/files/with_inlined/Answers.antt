use Rattle.std.proofs.Common.{rules, ◌≡◌, List, Option, IfSome, sym, subst}
use Rattle.c_subset.specs.declared.trees.Function.{Function}
use Rattle.c_subset.specs.Trees as trees
use Rattle.c_bare.specs.Bare.{AreFunctions}
use Rattle.c_inlined.specs.Inlined.{IsMadeOf}
use Rattle.c_inlined.proofs.FileLemmas.{as-they-are, one-made, put-back}
use Rattle.c_inlined.proofs.files.with_inlined.Goals as goal

pub returns-then-place-len : goal.returns-then-place-len
returns-then-place-len c = λ file are. as-they-are file c.args.functions.items are

pub returns-in-Some : goal.returns-in-Some
returns-in-Some c =
    λ file are. one-made file c.args.functions.items c.args.number c.in-Some.function _ are
    (subst (λ (o : Option Function). IfSome o (λ f. (gs : List trees.Function) → AreFunctions c.deref.result.now gs
    → IsMadeOf gs c.args.number f)) c.in-Some.is c.in_ok-inlined.ensures file.functions
    (subst (λ (fs : List Function). AreFunctions fs file.functions) (sym c.deref.ensures.value) are))
    (put-back c.args.functions.len c.args.number c.in-Some.function c.args.functions.items c.deref_mut.result.now
    c.put.new.functions (search rules) c.deref_mut.ensures.value c.put.ensures)

pub returns-in-None : goal.returns-in-None
returns-in-None c = λ file are. as-they-are file c.args.functions.items are
