use Rattle.std.proofs.Common.{sym, subst}
use Rattle.c_bare.specs.Bare.{AreNeedless}
use Rattle.c_bare.proofs.Written.{none-needless}
use Rattle.c_bare.proofs.search.bare_functions.Goals as goal

pub returns-clause-needless : goal.returns-clause-needless
returns-clause-needless c =
    λ gs are. subst (λ flags. AreNeedless flags gs) (sym c.new.ensures.items) (none-needless gs)
