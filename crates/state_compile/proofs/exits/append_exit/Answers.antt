use Rattle.std.proofs.Common.{◌∙◌, [], ◌∷◌, ◌++◌, ap}
use Rattle.code_language.specs.Code.{instrs_of}
use Rattle.chart_code.specs.StateProcedures.{exit_code}
use Rattle.chart_code.specs.Places.{numbers}
use Rattle.list_compile.specs.Drafts.{procs_of}
use Rattle.list_compile.specs.Numberings.{chart_in}
use Rattle.state_compile.proofs.exits.append_exit.Goals as goal

pub returns : goal.returns
returns c =
    let code = exit_code (numbers (chart_in c.args.numbering.now)) c.args.state in
    c.in_ok-append.ensures.ok
    ∙ ap (λ is. procs_of c.args.draft.now ++ is ∷ []) (c.in_ok-put_exit.ensures
    ∙ ap (λ is. is ++ code) (ap instrs_of (c.of-code.ensures ∙ c.new.ensures.items)))
