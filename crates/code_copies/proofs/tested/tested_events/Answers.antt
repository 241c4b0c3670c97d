use Rattle.std.proofs.Common.{◌≡◌, ◌∙◌, ℕ, Vec, ap}
use Rattle.std.specs.declared.alloc.Global.{Global}
use Rattle.std.proofs.lemmas.Result.{IfOk-weaker}
use Rattle.code_shrink.specs.Origins.{kept_from}
use Rattle.code_copies.proofs.TestedLemmas.{flags_few, are_tested}
use Rattle.code_copies.proofs.tested.tested_events.Goals as goal

-- there are few enough events
pub numbers_of-requires : goal.numbers_of-requires
numbers_of-requires c =
    rw c.deref.ensures.value
    (flags_few c.args.code.now c.raw.result.now c.raw.ensures.raw c.raw.ensures.well_formed c.in_ok-flags.flags.items
    c.in_ok-flags.ensures)

-- the events whose flags are set are those for which the code tests
pub returns : goal.returns
returns c =
    IfOk-weaker c.numbers_of.result (λ (v : Vec ℕ Global). v.items ≡ kept_from 0 c.deref.result.now) _
    (λ (v : Vec ℕ Global) is.
    are_tested c.args.code.now c.raw.result.now c.raw.ensures.raw c.raw.ensures.well_formed c.in_ok-flags.flags.items
    c.in_ok-flags.ensures v.items (is ∙ ap (kept_from 0) c.deref.ensures.value)) c.numbers_of.ensures
