use Rattle.std.proofs.Common.{◌≡◌, Some, length, subst}
use Rattle.std.specs.Prelude.{slice_get, nat_lt}
use Rattle.code_language.proofs.ListLemmas.{or_false}
use Rattle.code_language.specs.Code.{code_of}
use Rattle.code_language.specs.declared.limits.TheConstants.{PROC_LIMIT}
use Rattle.code_shrink.proofs.LiveLemmas.{ways_short}
use Rattle.code_shrink.proofs.live.live_procedures.Goals as goal

pub all_places-requires : goal.all_places-requires
all_places-requires c p own there =
    let k = code_of c.args.code.now in
    let well = c.raw-raw.ensures.well_formed in
    ways_short k.procedures.procs c.in_ok-ways.ways.items p own
    (or_false (nat_lt PROC_LIMIT (length k.procedures.procs)) _ well.few).1 c.in_ok-ways.ensures
    (subst (λ ws. slice_get ws p ≡ Some own) c.deref.ensures.value there)
