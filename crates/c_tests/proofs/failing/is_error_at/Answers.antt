use Rattle.std.proofs.Common.{◌∙◌, sym, ap}
use Rattle.code_language.specs.Code.{code_of}
use Rattle.c_functions.specs.Failing.{is_error}
use Rattle.c_tests.proofs.ModeLemmas.{mode_there}
use Rattle.c_tests.proofs.failing.is_error_at.Goals as goal

-- the datum is there
pub returns-in-Some : goal.returns-in-Some
returns-in-Some c =
    let look = c.in-Some.ensures.lookup in
    c.is_error.ensures
    ∙ ap is_error (sym (mode_there (code_of c.args.raw.now).names c.items.result.now c.args.datum c.in-Some.var.now
    c.items.ensures look.3.0 look.1))
