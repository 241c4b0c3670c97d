use Rattle.std.proofs.Common.{◌<◌, length, map, sym, ap, ◌∙◌, subst, arith}
use Rattle.std.proofs.lemmas.List.{length-map, take_all}
use Rattle.flow_base.specs.Lists.{items_of}
use Rattle.code_language.specs.Code.{code_of, instrs_of}
use Rattle.code_language.specs.WellFormed.{IsCode}
use Rattle.code_shrink.specs.Slides.{straight_ways, IsProcedure}
use Rattle.code_shrink.proofs.LiveLemmas.{procedure_at, written, own_is, written_map}
use Rattle.code_shrink.proofs.live.all_ways.Goals as goal

pub ways_of-requires : goal.ways_of-requires
ways_of-requires c =
    let raw = c.raw-raw.result.now in
    let well = subst (λ r. IsCode (code_of r)) (sym c.raw-raw.ensures.raw) c.raw-raw.ensures.well_formed in
    let p = c.loop-procedure.procedure-index in
    let below = c.loop-procedure-test.true in
    let same = c.items-procedure-items.ensures in
    let lt : p < length (map written (items_of raw.procs)) =
    omega (arith, below, ap length same, length-map (items_of raw.procs) written) in
    let own = own_is raw c.items-procedure-items.result.now p c.procedure-item.result same lt c.procedure-item.is in
    subst IsProcedure (own ∙ sym (ap instrs_of c.items.ensures)) (procedure_at (code_of raw) p well lt)

pub returns : goal.returns
returns c =
    let xs = c.items-procedure-items.result.now in
    let past = c.loop-procedure-test.false in
    let all = take_all c.loop-procedure.procedure-index xs past ∙ c.items-procedure-items.ensures in
    c.loop-procedure.invariant ∙ ap (map (λ x. straight_ways (written x))) all
    ∙ written_map straight_ways (items_of c.raw-raw.result.now.procs)
    ∙ ap (λ r. map straight_ways (code_of r).procedures.procs) c.raw-raw.ensures.raw
