use Rattle.std.proofs.Common.{arith}
use Rattle.active_config.proofs.MarksLemmas.{last_of-with_last_same, last_of-with_last_other}
use Rattle.active_config.proofs.MarksLemmas.{is_on-with_last, last_of-with_mark}
use Rattle.active_config.proofs.laws.keeping_changes_one_entry.Goals as goal

pub returns : goal.returns
returns c = record {
  here = λ t marks s p k lt up. last_of-with_last_same t s p marks up (omega (arith, k.entries));
  others = λ t marks s p x up ne. last_of-with_last_other t s p x marks up ne;
  active = λ t marks s x. is_on-with_last t s x marks;
  marking = λ marks s x on. last_of-with_mark x s on marks;
}
