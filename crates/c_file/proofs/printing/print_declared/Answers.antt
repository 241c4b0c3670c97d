use Rattle.c_text.specs.Labels.{labels_of}
use Rattle.c_file.proofs.PrintLemmas.{declared_as}
use Rattle.c_file.proofs.printing.print_declared.Goals as goal

pub returns : goal.returns
returns c =
    λ g there. declared_as (labels_of c.args.made.now.labels) c.args.number _ _ c.function-function.result.now g _ _ _
    c.only_reads-reads.ensures c.items-parameters.ensures (c.function-function.ensures g there)
    c.in_ok-print_prototype.ensures
