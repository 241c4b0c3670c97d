use Rattle.std.proofs.Common.{sym, arith}
use Rattle.std.specs.Prelude.{nat_eq}
use Rattle.event_file.proofs.SearchLemmas.{found_first, found_nowhere}
use Rattle.event_file.proofs.cuts.first_length.Goals as goal

pub returns-in-Some-clause-length : goal.returns-in-Some-clause-length
returns-in-Some-clause-length c = sym (found_first (λ b. nat_eq b 10) c.args.text.now c.in-Some.place c.in-Some.ensures)

pub returns-in-Some-clause-within : goal.returns-in-Some-clause-within
returns-in-Some-clause-within c = omega (arith, c.in-Some.ensures.0.high)

pub returns-in-None-clause-length : goal.returns-in-None-clause-length
returns-in-None-clause-length c = sym (found_nowhere (λ b. nat_eq b 10) c.args.text.now c.in-None.ensures)
