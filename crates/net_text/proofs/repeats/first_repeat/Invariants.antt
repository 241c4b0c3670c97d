use Rattle.std.proofs.Common.{◌≡◌, [], take, drop}
use Rattle.net_text.specs.NetTexts.{names_of, first_repeat}
use Rattle.net_text.proofs.repeats.first_repeat.Given as goal

-- the first repeat among the charts that are left is that of all
abbrev pub invariant-loop-number : goal.invariant-loop-number
invariant-loop-number l =
    first_repeat (names_of (take l.number l.charts)) (names_of (drop l.number l.charts))
    ≡ first_repeat [] (names_of l.charts)
