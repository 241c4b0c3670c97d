use Rattle.std.proofs.lemmas.Result.{err_from_is_err_and}
use Rattle.commands.proofs.accepted_file.read_accepted.Goals as goal

-- nothing comes of the file
pub returns-in_err-read_checked : goal.returns-in_err-read_checked
returns-in_err-read_checked g c =
    let p = err_from_is_err_and c.from_residual.result c.from_residual.ensures.1 in
    rw (p.1, p.2) c.in_err-read_checked.ensures

-- the chart without the number of its pairs
pub returns : goal.returns
returns g c =
    let given = c.in_ok-read_checked.ensures in
    record { text = given.text; read = given.read; means = given.means.accepted }
