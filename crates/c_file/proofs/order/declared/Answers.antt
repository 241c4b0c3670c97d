use Rattle.std.proofs.Common.{ℕ, ◌<◌, ◌++◌, List, length, ap, arith}
use Rattle.std.proofs.lemmas.List.Elements.{All-get_or}
use Rattle.c_text.specs.Labels.{labels_of}
use Rattle.c_file.specs.Made.{functions_of}
use Rattle.c_file.proofs.OrderLemmas.{those, next_declared, all_declared}
use Rattle.c_file.proofs.order.declared.Goals as goal

pub loop-number-init : goal.loop-number-init
loop-number-init c =
    ap (λ (fs : List ℕ). fs
    ++ those (labels_of c.args.made.now.labels) (functions_of c.args.made.now) c.args.order.now c.args.order.now)
    c.new-declared.ensures.items

pub loop-number-preserved : goal.loop-number-preserved
loop-number-preserved c =
    next_declared (labels_of c.args.made.now.labels) (functions_of c.args.made.now) c.args.order.now c.args.early.now
    c.requires.early c.args.order.now c.loop-number.number-index _ (omega arith)
    (All-get_or (λ (f : ℕ). f < length (functions_of c.args.made.now)) c.args.order.now c.loop-number.number-index _
    (omega arith) c.requires.within) _ c.loop-number.invariant _ c.in_ok-declare.ensures

pub returns : goal.returns
returns c =
    all_declared (labels_of c.args.made.now.labels) (functions_of c.args.made.now) c.args.order.now c.args.order.now
    c.loop-number.number-index (omega arith) _ c.loop-number.invariant
