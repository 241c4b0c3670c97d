use Rattle.std.proofs.Common.{arith}
use Rattle.code_language.specs.Code.{instrs_of}
use Rattle.c_writer.proofs.PlaceLemmas.{join_before}
use Rattle.c_writer.proofs.places.end_of_fork.Goals as goal

pub join_of-requires-clause-fits : goal.join_of-requires-clause-fits
join_of-requires-clause-fits c =
    let le = join_before (instrs_of c.args.instrs.now) c.args.rest c.args.over c.args.to c.requires.within
    c.requires.stays in omega (arith, le)

pub overflow_add-join : goal.overflow_add-join
overflow_add-join c =
    let le = join_before (instrs_of c.args.instrs.now) c.args.rest c.args.over c.args.to c.requires.within
    c.requires.stays in omega (arith, le, c.join_of.ensures)

pub stays_within-requires : goal.stays_within-requires
stays_within-requires c =
    let le = join_before (instrs_of c.args.instrs.now) c.args.rest c.args.over c.args.to c.requires.within
    c.requires.stays in omega (arith, le, c.join_of.ensures)
