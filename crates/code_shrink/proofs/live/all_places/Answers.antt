use Rattle.std.proofs.Common.{◌<◌, ◌+◌, [], length, take, sym, ap, ◌∙◌, subst, arith}
use Rattle.std.specs.Prelude.{slice_index_or}
use Rattle.std.proofs.lemmas.List.{take_all}
use Rattle.code_shrink.specs.Search.{items_in, EachReached}
use Rattle.code_shrink.specs.Smaller.{straight}
use Rattle.code_shrink.proofs.LiveLemmas.{items_at, items_more, reached_more, ways_at, ways_size}
use Rattle.code_shrink.proofs.live.all_places.Goals as goal

pub loop-own-preserved : goal.loop-own-preserved
loop-own-preserved c procs same =
    let n = c.loop-own.own-index in
    let xs = c.args.ways.now in
    let below = c.loop-own-test.true in
    let size = ways_size procs xs same in
    let lt : n < length procs = omega (arith, below, size) in
    let own = c.deref.ensures.value ∙ items_at xs n c.own-item.result below c.own-item.is in
    let reached = c.in_ok-flags.ensures (straight (slice_index_or procs n [])) (ways_at procs xs n same lt ∙ sym own) in
    subst (λ fs. EachReached (take (n + 1) procs) fs)
    (sym (ap items_in c.in_ok-push.ensures.items ∙ items_more c.loop-own.all.items c.in_ok-flags.flags))
    (reached_more procs (items_in c.loop-own.all.items) n c.in_ok-flags.flags.items (c.loop-own.invariant procs same) lt
    reached)

pub returns : goal.returns
returns c procs same =
    let past = c.loop-own-test.false in
    let size = ways_size procs c.args.ways.now same in
    subst (λ ps. EachReached ps (items_in c.loop-own.all.items))
    (take_all c.loop-own.own-index procs (omega (arith, past, size))) (c.loop-own.invariant procs same)
