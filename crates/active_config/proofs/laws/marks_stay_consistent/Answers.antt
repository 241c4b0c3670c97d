use Rattle.active_config.proofs.MarksLemmas.{marked, cleared, remembered, is_on-with_mark_same, is_on-with_mark_other}
use Rattle.active_config.proofs.laws.marks_stay_consistent.Goals as goal

pub returns : goal.returns
returns c = record {
  mark = λ t marks s k can. marked t marks k s can;
  clear = λ t marks s k bare. cleared t marks k s bare;
  here = λ marks s on lt. is_on-with_mark_same s on marks lt;
  others = λ marks s x on ne. is_on-with_mark_other s x on marks ne;
  keep = λ t marks s p k up is_or. remembered t marks k s p up is_or;
}
