use Rattle.std.proofs.Common.{refl, lit<}
use Rattle.std.proofs.lemmas.Fmt.{decimal_digit}
use Rattle.fixed_point.specs.Text.{decimal_text, first_from, last_digits}
use Rattle.active_config.specs.Marks.{is_on}
use Rattle.active_config.specs.Tree.{tree_of, state_count, parent_of, ancestors_within, ancestors}
use Rattle.trace_text.specs.Trace.{line_front, line_of, path_of}
use Rattle.library_tests.proofs.worked.a_trace_line.Goals as goal

pub returns-clause-event : goal.returns-clause-event
unfolding line_of line_front path_of decimal_text first_from last_digits is_on tree_of state_count parent_of ancestors_within ancestors
returns-clause-event c = λ scale e. rw (e, decimal_digit 1 (lit< tt), decimal_digit 0 (lit< tt)) refl

pub returns-clause-fault : goal.returns-clause-fault
unfolding line_of line_front path_of decimal_text first_from last_digits is_on tree_of state_count parent_of ancestors_within ancestors
returns-clause-fault c = λ scale e. rw (e, decimal_digit 0 (lit< tt)) refl
