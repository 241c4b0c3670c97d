use Rattle.std.proofs.Common.{◌≡◌, ◌+◌, ap, ◌∙◌, sym, arith}
use Rattle.std.proofs.lemmas.Bool.Decides.{nat_tests}
use Rattle.actions.specs.World.{World}
use Rattle.actions.specs.Work.{Ended}
use Rattle.sos_interpreter.proofs.Worlds.{pay_spent, pay_left}
use Rattle.sos_interpreter.proofs.world.LiveWorld.pay.Goals as goal

pub returns-then-self-bounds-clause-does : goal.returns-then-self-bounds-clause-does
returns-then-self-bounds-clause-does c =
    let e : c.self.inside.used ≡ c.args.self.now.used = ap (λ (w : World). w.used) c.self.view_is in
    pay_spent c.args.bounds c.args.self.now (grind (arith, nat_tests))

pub returns-clause-does : goal.returns-clause-does
returns-clause-does c =
    let e : c.self.inside.used ≡ c.args.self.now.used = ap (λ (w : World). w.used) c.self.view_is in
    pay_left c.args.bounds c.args.self.now (grind (arith, nat_tests))
    ∙ ap (λ (w : World). Ended tt (record w { used = w.used + 1 })) (sym c.self.view_is)
