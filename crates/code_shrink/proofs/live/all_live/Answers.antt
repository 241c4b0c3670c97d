use Rattle.std.proofs.Common.{◌≡◌, [], refl, arith}
use Rattle.std.proofs.lemmas.List.{nil_from_length}
use Rattle.code_language.specs.Code.{code_of}
use Rattle.code_shrink.specs.Search.{items_in}
use Rattle.code_shrink.proofs.LiveLemmas.{popped_there, search_step, search_end}
use Rattle.code_shrink.proofs.live.all_live.Goals as goal

pub look_at-requires-clause-there : goal.look_at-requires-clause-there
look_at-requires-clause-there c =
    popped_there (code_of c.args.code.now).procedures (items_in c.args.flags.now) c.loop-proc.search _ c.in-Some.proc
    c.loop-proc.invariant c.in-Some.ensures.items

pub loop-proc-preserved : goal.loop-proc-preserved
loop-proc-preserved c =
    search_step (code_of c.args.code.now).procedures (items_in c.args.flags.now) c.requires.flags c.loop-proc.search _ _
    c.in-Some.proc c.loop-proc.invariant refl c.in-Some.ensures.items c.in_ok-look_at.ensures

pub returns : goal.returns
returns c =
    let empty : c.loop-proc.search.todo.items ≡ [] =
    nil_from_length _ (omega (arith, c.in_default.ensures.cases, c.loop-proc.search.todo.ok.0)) in
    search_end (code_of c.args.code.now).procedures (items_in c.args.flags.now) c.requires.flags c.loop-proc.search
    c.loop-proc.invariant empty
