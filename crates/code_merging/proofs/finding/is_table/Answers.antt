use Rattle.std.proofs.Common.{arith}
use Rattle.std.proofs.lemmas.List.{length-map}
use Rattle.flow_base.specs.Lists.{items_of}
use Rattle.flow_base.specs.declared.list.List.{List as Seq}
use Rattle.code_language.specs.Code.{instrs_of}
use Rattle.code_language.specs.declared.instr.Instr.{Instr}
use Rattle.code_merging.proofs.MergedWhole.{some_there}
use Rattle.code_merging.proofs.finding.is_table.Goals as goal

-- there is a procedure, and so a number
pub are_equal-requires-clause-some : goal.are_equal-requires-clause-some
are_equal-requires-clause-some c =
    let all = length-map (items_of c.args.code.now.procs) (λ (is : Seq Instr). instrs_of (items_of is)) in
    let size = c.requires.size in
    omega (arith, some_there c.args.code.now c.raw.ensures.well_formed, all, size)

pub returns-then-not-are_own-clause-some : goal.returns-then-not-are_own-clause-some
returns-then-not-are_own-clause-some c holds =
    let all = length-map (items_of c.args.code.now.procs) (λ (is : Seq Instr). instrs_of (items_of is)) in
    let size = c.requires.size in
    omega (arith, some_there c.args.code.now c.raw.ensures.well_formed, all, size)
