use Rattle.std.proofs.Common.{◌≡◌, ◌+◌, ◌≤◌, length}
use Rattle.code_fields.specs.Lines.{cut_of}
use Rattle.code_text.specs.Reading.{nothing_read, outcome_from}
use Rattle.code_text.specs.Views.{partial_of}
use Rattle.code_text.proofs.reader.read_raw.Given as goal

-- from here on the outcome is that of the whole text, and no line's number is too great
abbrev pub invariant-loop-parts : goal.invariant-loop-parts
invariant-loop-parts l = record {
  outcome : outcome_from (partial_of l.partial) l.number (cut_of l.rest).lines (cut_of l.rest).rest
      ≡ outcome_from nothing_read 1 (cut_of l.text).lines (cut_of l.text).rest;
  few : l.number + length l.rest ≤ 268435457;
}

abbrev pub decreases-loop-parts : goal.decreases-loop-parts
decreases-loop-parts l = length l.rest
