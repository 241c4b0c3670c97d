use Rattle.std.proofs.Common.{subst, sym}
use Rattle.checked_chart.specs.Reached.{Meets, Itself}
use Rattle.chart_structure.specs.Net.{list_of}
use Rattle.chart_structure.specs.Reached.{links_of}
use Rattle.chart_structure.proofs.PassLemmas.{kind_passed, kind_pairs}
use Rattle.chart_structure.proofs.pass.with_kind.Goals as goal

pub with_list-own-requires-clause-met : goal.with_list-own-requires-clause-met
with_list-own-requires-clause-met c =
    subst (Meets (links_of c.args.net.now) (list_of c.args.net.now c.args.state c.args.kind))
    (sym c.list-list.ensures.list) Itself

pub returns-clause-new : goal.returns-clause-new
returns-clause-new c =
    let e = c.with_junctions-fault.ensures in
    kind_passed _ _ _ _ _ _ _ _ c.list-list.ensures.list c.in_ok-reach.ensures.walk c.in_ok-reach.ensures.all
    _ _ _ c.deref.ensures.value c.with_list-own.ensures.new e.old e.new e.empty

pub returns-clause-pairs : goal.returns-clause-pairs
returns-clause-pairs c =
    kind_pairs _ _ _ _ _ _ _ _ c.list-list.ensures.list c.in_ok-reach.ensures.walk c.in_ok-reach.ensures.all
    _ _ c.saturating_add.ensures
