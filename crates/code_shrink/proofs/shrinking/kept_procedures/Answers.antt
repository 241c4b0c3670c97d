use Rattle.std.proofs.Common.{Bool, Vec, ℕ, List, map, ◌∙◌, ap, arith}
use Rattle.std.specs.declared.alloc.Global.{Global}
use Rattle.flow_base.specs.Lists.{items_of}
use Rattle.flow_base.specs.declared.list.List.{List as Seq}
use Rattle.code_language.specs.Acceptance.{procs_of}
use Rattle.code_language.specs.Code.{code_of}
use Rattle.code_language.specs.declared.code.RawCode.{RawCode}
use Rattle.code_language.specs.declared.instr.Instr.{Instr}
use Rattle.code_shrink.specs.Numbers.{number_by}
use Rattle.code_shrink.specs.Origins.{kept_from}
use Rattle.code_shrink.specs.Search.{flags_of}
use Rattle.code_shrink.specs.Whole.{collected, number_in}
use Rattle.code_shrink.proofs.OriginLemmas.{made_had_numbers}
use Rattle.code_shrink.proofs.WholeLemmas.{few_and_short, reached_sizes}
use Rattle.code_shrink.proofs.shrinking.kept_procedures.Goals as goal

-- there are few enough procedures
pub origins_of-requires : goal.origins_of-requires
origins_of-requires c =
    let k = code_of c.args.code.now in let live = c.in_ok-live.live in
    let few = (few_and_short k c.raw-raw.ensures.well_formed).0 in
    let sizes = reached_sizes live.live.items (map (λ (bs : Vec Bool Global). bs.items) live.flags.items)
    k.procedures.procs
    c.in_ok-live.ensures.exact.places in
    let size = sizes.0 in rw c.deref.ensures.value (omega (arith, few, size))

pub numbers_of-requires : goal.numbers_of-requires
numbers_of-requires c =
    let k = code_of c.args.code.now in let live = c.in_ok-live.live in
    let few = (few_and_short k c.raw-raw.ensures.well_formed).0 in
    let sizes = reached_sizes live.live.items (map (λ (bs : Vec Bool Global). bs.items) live.flags.items)
    k.procedures.procs
    c.in_ok-live.ensures.exact.places in
    let size = sizes.0 in rw c.deref-2.ensures.value (omega (arith, few, size))

-- the kept procedures had the numbers of those that are kept
pub returns : goal.returns
returns c =
    let k = (code_of c.args.code.now).procedures in
    let live = c.in_ok-live.live.live.items in
    let flags = flags_of c.in_ok-live.live in
    let numbers = c.in_ok-numbers.numbers.items in
    let raw = c.raw-raw.ensures.raw in
    made_had_numbers live flags k numbers _ _ _ _ c.in_ok-live.ensures.exact
    (λ p. c.in_ok-numbers.ensures.numbers p ∙ ap (λ (l : List Bool). number_in l p) c.deref-2.ensures.value)
    (c.in_ok-procs.ensures
    ∙ ap (λ (ns : List ℕ). collected (number_by ns) live flags (procs_of c.items.result.now)) c.deref-3.ensures.value
    ∙ ap (λ (is : List (Seq Instr)). collected (number_by numbers) live flags (procs_of is))
    (c.items.ensures ∙ ap (λ (code : RawCode). items_of code.procs) raw))
    (c.number_at.ensures ∙ ap (λ (ns : List ℕ). number_by ns c.raw-raw.result.now.start) c.deref-4.ensures.value
    ∙ ap (λ (code : RawCode). number_by numbers code.start) raw)
    (c.number_at-2.ensures ∙ ap (λ (ns : List ℕ). number_by ns c.raw-raw.result.now.react) c.deref-5.ensures.value
    ∙ ap (λ (code : RawCode). number_by numbers code.react) raw)
    (c.in_ok-origins.ensures ∙ ap (kept_from 0) c.deref.ensures.value)
