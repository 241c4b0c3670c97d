use Rattle.std.proofs.Common.{length}
use Rattle.std.proofs.Common.{subst}
use Rattle.std.specs.Prelude.{IsTrue, nat_lt}
use Rattle.code_copies.proofs.CheckLemmas.{home_there}
use Rattle.code_copies.proofs.checking.is_home_state.Goals as goal

-- the home is one of the states
pub returns-in-Some : goal.returns-in-Some
returns-in-Some c below sets s same =
    home_there c.args.code.now.states.items.items c.args.facts.home c.in-Some.home s c.in-Some.is
    (subst (λ xs. IsTrue (nat_lt c.in-Some.home (length xs))) c.items.ensures below) same
