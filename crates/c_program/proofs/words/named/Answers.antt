use Rattle.std.proofs.Common.{◌≡◌, refl, sym, codes, List, None}
use Rattle.clap.specs.Words.{Row, found_of, rows_of}
use Rattle.command_words.specs.Numbers.{Text}
use Rattle.command_words.proofs.ParseLemmas.{differs}
use Rattle.c_program.specs.Asked.{found_named}
use Rattle.c_program.proofs.words.named.Goals as goal

-- no command has this name
no_command : (name : Text) (rows : List Row) → (name ≡ codes "header" → ⊥) → (name ≡ codes "source" → ⊥)
    → found_named name rows ≡ None
no_command name rows a b = rw (differs (codes "header") name a, differs (codes "source") name b) refl

-- the name is none of the program's
pub returns-in_default : goal.returns-in_default
returns-in_default c =
    sym (no_command c.args.name.now (rows_of (found_of c.args.given.now)) c.in_default.not-header
    c.in_default.not-source)
