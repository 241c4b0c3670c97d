-- A call ends as Usage only where the words are none of the program's.
use Rattle.std.proofs.Common.{◌≡◌, ◌⊎◌, ◌∙◌, Option, Some, None, inl, inr, refl, sym, ap, subst}
use Rattle.flow_base.specs.declared.status.Status.TheVariants as statuses
use Rattle.commands.specs.declared.file.FileEnd.{FileEnd}
use Rattle.commands.specs.declared.file.FileEnd.TheVariants as files
use Rattle.commands.specs.declared.text.TextEnd.{TextEnd}
use Rattle.commands.specs.declared.text.TextEnd.TheVariants as texts
use Rattle.commands.specs.declared.refusal.Refusal.{Refusal}
use Rattle.commands.specs.Call.{Call}
use Rattle.c_program.specs.Commands.{Command, Header, Source, Version}
use Rattle.c_program.specs.declared.ending.Ending.{Ending}
use Rattle.c_program.specs.declared.ending.Ending.TheVariants as endings
use Rattle.c_program.specs.Ending.{of_chart_file, of_text, status_of}
use Rattle.c_program.specs.Answer.{Ends, CallEnds}

-- a chart file of which nothing comes ends no call so
file : (end : FileEnd Refusal) → endings.Usage ≡ of_chart_file end → ⊥
file (files.Refused refusal) e = absurd cc
file files.Read e = absurd cc
file files.Memory e = absurd cc

-- nor does a command that writes a text
text : (end : TextEnd Refusal) → endings.Usage ≡ of_text end → ⊥
text texts.Done e = absurd cc
text (texts.Unread end) e = file end e
text texts.Write e = absurd cc

-- the status Usage is that of one ending
usage_ending : (ending : Ending) → status_of ending ≡ statuses.Usage → ending ≡ endings.Usage
usage_ending endings.Done e = absurd cc
usage_ending (endings.Chart refusal) e = absurd cc
usage_ending endings.Usage e = refl
usage_ending endings.Read e = absurd cc
usage_ending endings.Write e = absurd cc
usage_ending endings.Memory e = absurd cc

-- a command of the program doesn't end so
never : (command : Command) (call : Call) → Ends (Some command) call endings.Usage → ⊥
never (Header first asked) call h = text h.end h.ending_is
never (Source first asked) call h = text h.end h.ending_is
never Version call h = text h.end h.ending_is

-- a call ends as Usage only where its words ask for no command
pub usage_only : (command : Option Command) (call : Call) (ending : Ending) → CallEnds command call ending
    → status_of ending ≡ statuses.Usage → command ≡ None
usage_only None call ending h e = refl
usage_only (Some command) call ending (inl h) e =
    absurd (never command call (subst (Ends (Some command) call) (usage_ending ending e) h))
usage_only (Some command) call ending (inr m) e = absurd (let bad = sym (ap status_of m.is_that) ∙ e in cc)

-- where they ask for none it ends so, unless memory ran out
pub no_command : (call : Call) (ending : Ending) → CallEnds None call ending
    → (status_of ending ≡ statuses.Usage) ⊎ (status_of ending ≡ statuses.Memory)
no_command call ending (inl h) = inl (ap status_of h.is_that)
no_command call ending (inr m) = inr (ap status_of m.is_that)
