use Rattle.std.specs.Box.{box_value}
use Rattle.clap.specs.Words.{found_of, rows_of}
use Rattle.clap.specs.declared.parser.matches.ArgMatches.TheViews.{out-ArgMatches, out-SubCommand}
use Rattle.c_program.specs.Asked.{found_named}
use Rattle.command_words.proofs.ParseLemmas.{found_of_met}
use Rattle.c_program.proofs.words.command_in.Goals as goal

-- the command of the name that was met
pub returns : goal.returns
returns c =
    found_of_met found_named (out-ArgMatches c.args.matches.now).subcommand
    (λ b. (out-SubCommand (box_value b)).name.now) (λ b. rows_of (found_of (out-SubCommand (box_value b)).matches))
    c.in_ok-name.name.now (rows_of (found_of c.in_ok-name.given.now)) _ c.in_ok-name.ensures.name
    c.in_ok-name.ensures.rows c.named.ensures
