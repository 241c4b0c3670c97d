use Rattle.std.proofs.Common.{inl, inr, refl, sym, subst, arith}
use Rattle.code_language.specs.Code.{instr_of}
use Rattle.code_shrink.specs.Neat.{Names}
use Rattle.code_shrink.proofs.SearchLemmas.{called}
use Rattle.code_shrink.proofs.search.Search.find_named.Goals as goal

pub find-requires : goal.find-requires
find-requires c =
    c.requires c.in-SendTo.proc (subst (λ i. Names (instr_of i) c.in-SendTo.proc) (sym c.in-SendTo.is) refl)

pub find-requires-in-Call : goal.find-requires-in-Call
find-requires-in-Call c =
    let p = c.in-Call.proc in
    c.requires p ((called c.args.instr.now p c.in-Call.note c.in-Call.is p).0 (inl refl))

pub find_note-requires : goal.find_note-requires
find_note-requires c q note =
    let below = c.requires q ((called c.args.instr.now c.in-Call.proc c.in-Call.note c.in-Call.is q).0 (inr note)) in
    omega (arith, below, c.in_ok-find-in-Call.ensures.size)
