use Rattle.std.proofs.Common.{length, sym, ap, ◌∙◌, subst, arith}
use Rattle.std.proofs.lemmas.List.{length-map}
use Rattle.flow_base.specs.Lists.{items_of}
use Rattle.code_language.specs.Code.{code_of, instr_of, instrs_of, instructions}
use Rattle.code_shrink.specs.Search.{items_in, AllNameBelow}
use Rattle.code_shrink.proofs.LiveLemmas.{written, own_is, names_there, reached_of, straight_length, flags_at}
use Rattle.code_shrink.proofs.LiveLemmas.{flags_there, looked}
use Rattle.code_shrink.proofs.live.look_at.Goals as goal

pub bounds-items-proc : goal.bounds-items-proc
bounds-items-proc c =
    let there = c.requires.there in
    omega (arith, there, length-map (items_of c.args.code.now.procs) written, ap length c.items.ensures)

pub bounds-flags-proc : goal.bounds-flags-proc
bounds-flags-proc c =
    let k = (code_of c.args.code.now).procedures in
    flags_there k.procs c.args.flags.now c.args.proc c.requires.flags c.requires.there

pub find_all-requires-clause-size : goal.find_all-requires-clause-size
find_all-requires-clause-size c =
    let raw = c.args.code.now in
    let k = (code_of raw).procedures in
    let p = c.args.proc in
    let x = c.index-items-proc.result in
    let own = own_is raw c.items.result.now p x c.items.ensures c.requires.there c.index-items-proc.is in
    let reached = reached_of k (items_in c.args.flags.now) c.requires.flags p c.requires.there in
    let flags = c.deref.ensures.value ∙ flags_at k.procs c.args.flags.now p c.index-flags-proc.result c.requires.flags
    c.requires.there c.index-flags-proc.is in
    ap length flags ∙ reached.size ∙ straight_length (instructions k p) ∙ ap length own
    ∙ length-map (items_of x) instr_of ∙ sym (ap length c.items-instrs.ensures)

pub find_all-requires-clause-below : goal.find_all-requires-clause-below
find_all-requires-clause-below c =
    let raw = c.args.code.now in
    let k = code_of raw in
    let p = c.args.proc in
    let x = c.index-items-proc.result in
    let own = own_is raw c.items.result.now p x c.items.ensures c.requires.there c.index-items-proc.is in
    subst (λ n. AllNameBelow n (instrs_of c.items-instrs.result.now)) (sym c.requires.size)
    (subst (λ is. AllNameBelow (length k.procedures.procs) is) (own ∙ sym (ap instrs_of c.items-instrs.ensures))
    (names_there k p c.requires.code c.requires.there))

pub returns : goal.returns
returns c =
    let raw = c.args.code.now in
    let k = (code_of raw).procedures in
    let p = c.args.proc in
    let x = c.index-items-proc.result in
    let own = own_is raw c.items.result.now p x c.items.ensures c.requires.there c.index-items-proc.is in
    let flags = c.deref.ensures.value ∙ flags_at k.procs c.args.flags.now p c.index-flags-proc.result c.requires.flags
    c.requires.there c.index-flags-proc.is in
    looked k (items_in c.args.flags.now) p c.items-instrs.result.now c.deref.result.now c.args.search.now
    c.find_all.new.self c.find_all.result (ap instrs_of c.items-instrs.ensures ∙ sym own) flags c.find_all.ensures
