use Rattle.std.proofs.Common.{◌+◌, ◌≤◌, arith}
use Rattle.active_config.specs.Tree.{state_count}
use Rattle.code_language.specs.Instrs.{Unless, Result, Ret}
use Rattle.chart_code.proofs.ListResults.{results_below}
use Rattle.chart_code.proofs.layout_laws.the_results_of_code_are_few.Goals as goal

pub returns-clause-returned : goal.returns-clause-returned
returns-clause-returned x c p i r valid e =
    let all : 3 + state_count c.tree ≤ 3 + state_count c.tree = omega arith in
    results_below c valid (3 + state_count c.tree) all p i (Ret r) e

pub returns-clause-tested : goal.returns-clause-tested
returns-clause-tested x c p i n r valid e =
    let all : 3 + state_count c.tree ≤ 3 + state_count c.tree = omega arith in
    results_below c valid (3 + state_count c.tree) all p i (Unless n (Result r)) e
