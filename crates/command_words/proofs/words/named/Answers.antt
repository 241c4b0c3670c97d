use Rattle.std.proofs.Common.{◌≡◌, ◌∙◌, refl, codes, Bool, true, false, List, Option, None, Some, option_map}
use Rattle.std.specs.Prelude.{if◌then◌else◌, option_and_then}
use Rattle.std.specs.Str.{bytes_eq}
use Rattle.clap.specs.Words.{Row, first_of, found_of, rows_of}
use Rattle.command_words.specs.Commands.{Command, Check, Fmt, Compile, Upgrade, Bound, Shrink}
use Rattle.command_words.specs.Numbers.{Text}
use Rattle.command_words.specs.Asked.{file_command, file_found_named, found_named}
use Rattle.command_words.proofs.ParseLemmas.{differs}
use Rattle.command_words.proofs.words.named.Goals as goal

-- none either way is none
none_either : (b : Bool) (o : Option Command) → None ≡ o → None ≡ (if b then None else o)
none_either true o e = refl
none_either false o e = e

-- the command of one file of that name, or what the name alone says that it may be
by_file : (name : Text) (o : Option Text) → option_and_then (file_command name) o ≡ (
    if bytes_eq (codes "check") name then option_map Check o else
    if bytes_eq (codes "fmt") name then option_map Fmt o else
    if bytes_eq (codes "compile") name then option_map Compile o else
    if bytes_eq (codes "upgrade") name then option_map Upgrade o else
    if bytes_eq (codes "bounds") name then option_map Bound o else
    if bytes_eq (codes "shrink") name then option_map Shrink o else None)
by_file name (Some first) = refl
by_file name None =
    none_either (bytes_eq (codes "check") name) _ (none_either (bytes_eq (codes "fmt") name) _
    (none_either (bytes_eq (codes "compile") name) _ (none_either (bytes_eq (codes "upgrade") name) _
    (none_either (bytes_eq (codes "bounds") name) _ (none_either (bytes_eq (codes "shrink") name) _ refl)))))

-- the name is none of a run, of a net or of a test
of_file : (name : Text) (rows : List Row) → (name ≡ codes "rules" → ⊥) → (name ≡ codes "exec" → ⊥)
    → (name ≡ codes "run" → ⊥) → (name ≡ codes "net" → ⊥) → (name ≡ codes "selftest" → ⊥)
    → file_found_named name rows ≡ found_named name rows
of_file name rows a b c d e =
    rw (
      differs (codes "rules") name a,
      differs (codes "exec") name b,
      differs (codes "run") name c,
      differs (codes "net") name d,
      differs (codes "selftest") name e,
    ) (by_file name (first_of (codes "first") rows))

-- the name is one of a command of one file, or none of the program's
pub returns-in_default : goal.returns-in_default
returns-in_default c =
    c.file_named.ensures
    ∙ of_file c.args.name.now (rows_of (found_of c.args.given.now)) c.in_default.not-rules c.in_default.not-exec
    c.in_default.not-run c.in_default.not-net c.in_default.not-selftest
