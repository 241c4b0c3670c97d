use Rattle.std.proofs.Common.{◌≡◌, ◌∙◌, ap}
use Rattle.std.proofs.lemmas.Result.{IfOk-weaker}
use Rattle.clap.specs.Words.{AddsSubcommand, App, app_of, with_subcommand}
use Rattle.clap.specs.declared.builder.command.Command.{Command}
use Rattle.command_words.specs.Parser.{Builds}
use Rattle.command_words.proofs.parser.with_command.Goals as goal

-- a program with one more command
added : (old sub new : Command) (app : App) → Builds app sub → AddsSubcommand old sub new
    → app_of new ≡ with_subcommand (app_of old) app.top
added old sub new app builds adds = adds.shape builds.1 ∙ ap (λ (x : App). with_subcommand (app_of old) x.top) builds.0

pub returns-in-Ok : goal.returns-in-Ok
returns-in-Ok c = λ app builds.
    let built = rw c.in-Ok.is at builds in
    IfOk-weaker c.subcommand.result _ _ (λ more adds. added _ _ more app built adds) c.subcommand.ensures
