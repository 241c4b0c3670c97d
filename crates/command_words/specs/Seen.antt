-- A command of the code as contracts see it.
use Rattle.flow_base.specs.declared.bounds.Bounds.{Bounds}
use Rattle.command_words.specs.declared.words.Command.{Command}
use Rattle.command_words.specs.declared.words.Command.TheVariants as commands
use Rattle.command_words.specs.Commands as words

-- the numbers of its bounds
abbrev pub bounds_seen : Bounds → words.RunBounds
bounds_seen bounds = record { depth = bounds.depth; steps = bounds.steps }

-- the names that it refers to, and its numbers
abbrev pub command_seen : Command → words.Command
command_seen (commands.Check first) = words.Check first.now
command_seen (commands.Fmt first) = words.Fmt first.now
command_seen (commands.Rules first second bounds) = words.Rules first.now second.now (bounds_seen bounds)
command_seen (commands.Compile first) = words.Compile first.now
command_seen (commands.Exec first second bounds) = words.Exec first.now second.now (bounds_seen bounds)
command_seen (commands.Run first second bounds) = words.Run first.now second.now (bounds_seen bounds)
command_seen (commands.Upgrade first) = words.Upgrade first.now
command_seen (commands.Bound first) = words.Bound first.now
command_seen (commands.Shrink first) = words.Shrink first.now
command_seen (commands.Net first second bounds) = words.Net first.now second.now (bounds_seen bounds)
command_seen (commands.Selftest number) = words.Selftest number
