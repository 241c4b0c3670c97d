use Rattle.std.proofs.Common.{ap}
use Rattle.code_language.specs.Code.{code_of}
use Rattle.code_notes.specs.Views.{plan_of}
use Rattle.code_notes.proofs.Facts.{noteless_as_made}
use Rattle.code_notes.proofs.noteless.without_notes.Goals as goal

-- the code that is made has no notes
pub returns-in-Ok : goal.returns-in-Ok
returns-in-Ok c =
    let plan = c.in-Some.plan in
    noteless_as_made (plan_of plan) (code_of c.args.code.now) (code_of c.raw-raw.result.now) (code_of c.in-Ok.code)
    plan.played.items (ap code_of c.raw-raw.ensures.raw) (c.is_right.ensures c.if-not-is_right.false)
    (c.are_played.ensures.size c.if-not-are_played.false) (c.are_played.ensures.each c.if-not-are_played.false)
    (c.are_played.ensures.alone c.if-not-are_played.false)
    c.in-Ok.ensures.by_plan c.in-Ok.ensures.well_formed
