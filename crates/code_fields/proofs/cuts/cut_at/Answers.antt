use Rattle.std.proofs.Common.{◌+◌}
use Rattle.std.proofs.Math.Seq.{take-length}
use Rattle.std.proofs.lemmas.List.{length-drop}
use Rattle.code_fields.proofs.CutLemmas.{parts_at-found, parts_at-missing}
use Rattle.code_fields.proofs.cuts.cut_at.Goals as goal

pub returns-in_err-place-clause-parts : goal.returns-in_err-place-clause-parts
returns-in_err-place-clause-parts c =
    rw c.from_residual.ensures (parts_at-missing c.args.byte c.args.text.now c.in_err-place.ensures)

pub returns-clause-parts : goal.returns-clause-parts
returns-clause-parts c =
    rw (← length-drop (c.in_ok-place.place + 1) c.args.text.now, take-length)
    (parts_at-found c.args.byte c.args.text.now c.in_ok-place.place c.in_ok-place.ensures)
