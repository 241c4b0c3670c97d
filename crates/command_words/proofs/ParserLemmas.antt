-- A parser with one more command.
use Rattle.std.proofs.Common.{◌≡◌, ◌∙◌, ap, Result}
use Rattle.std.specs.Prelude.{IfOk}
use Rattle.std.proofs.lemmas.Result.{IfOk-weaker}
use Rattle.clap.specs.Words.{App, app_of, with_subcommand}
use Rattle.clap.specs.declared.builder.command.Command.{Command}

-- a parser of that form with one more command
pub further : (old new : Command) (app sub : App) → app_of old ≡ app → app_of new ≡ with_subcommand (app_of old) sub.top
    → app_of new ≡ with_subcommand app sub.top
further old new app sub is more = more ∙ ap (λ (x : App). with_subcommand x sub.top) is

-- the same, where there was memory for it
pub further_if_ok : {E : Type 0} (old : Command) (r : Result Command E) (app sub : App) → app_of old ≡ app
    → IfOk r (λ more. app_of more ≡ with_subcommand (app_of old) sub.top)
    → IfOk r (λ more. app_of more ≡ with_subcommand app sub.top)
further_if_ok old r app sub is h = IfOk-weaker r _ _ (λ more e. further old more app sub is e) h
