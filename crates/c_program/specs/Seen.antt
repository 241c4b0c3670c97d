-- A command of the code as contracts see it.
use Rattle.std.specs.Prelude.{Option, option_map}
use Rattle.flow_base.specs.declared.bounds.Bounds.{Bounds}
use Rattle.command_words.specs.Commands.{RunBounds}
use Rattle.command_words.specs.Seen.{bounds_seen}
use Rattle.c_program.specs.declared.words.CCommand.{CCommand}
use Rattle.c_program.specs.declared.words.CCommand.TheVariants as commands
use Rattle.c_program.specs.Commands as words

-- the numbers of the bounds that are asked for
abbrev pub asked_seen : Option Bounds → Option RunBounds
asked_seen asked = option_map bounds_seen asked

-- the name that it refers to, and the numbers of its bounds
abbrev pub command_seen : CCommand → words.Command
command_seen (commands.Header first asked) = words.Header first.now (asked_seen asked)
command_seen (commands.Source first asked) = words.Source first.now (asked_seen asked)
command_seen commands.Version = words.Version
