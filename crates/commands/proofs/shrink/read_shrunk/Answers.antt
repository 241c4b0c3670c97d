use Rattle.std.proofs.lemmas.Result.{err_from_is_err_and}
use Rattle.code_text.specs.declared.limits.TheConstants.{TEXT_LIMIT}
use Rattle.commands.proofs.ReadingLemmas.{ran_out_after}
use Rattle.commands.specs.CodeText.{RefusesCode}
use Rattle.commands.proofs.shrink.read_shrunk.Goals as goal

-- nothing comes of the file
pub returns-in_err-code : goal.returns-in_err-code
returns-in_err-code g c =
    let p = err_from_is_err_and c.from_residual.result c.from_residual.ensures.1 in
    rw (p.1, p.2) c.in_err-code.ensures

-- the code is printed
pub returns-in-Ok : goal.returns-in-Ok
returns-in-Ok g c =
    let given = c.in_ok-code.ensures in
    record {
      text = given.text;
      read = given.read;
      means = record { raw = c.in_ok-code.code; code = given.means; made = c.in-Ok.ensures };
    }

-- memory runs out
pub returns : goal.returns
returns g c =
    let given = c.in_ok-code.ensures in
    ran_out_after TEXT_LIMIT RefusesCode _ _ c.args.code_file.now given.text given.read given.means.short
