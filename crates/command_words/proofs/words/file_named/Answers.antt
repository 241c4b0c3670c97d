use Rattle.std.proofs.Common.{◌≡◌, refl, sym, subst, codes, Option, None}
use Rattle.std.specs.Prelude.{option_and_then}
use Rattle.command_words.specs.Numbers.{Text}
use Rattle.command_words.specs.Asked.{file_command}
use Rattle.command_words.proofs.ParseLemmas.{differs}
use Rattle.command_words.proofs.words.file_named.Goals as goal

-- no command of one file has this name
no_command : (name first : Text) → (name ≡ codes "check" → ⊥) → (name ≡ codes "fmt" → ⊥)
    → (name ≡ codes "compile" → ⊥) → (name ≡ codes "upgrade" → ⊥) → (name ≡ codes "bounds" → ⊥)
    → (name ≡ codes "shrink" → ⊥) → file_command name first ≡ None
no_command name first a b c d e f =
    rw (
      differs (codes "check") name a,
      differs (codes "fmt") name b,
      differs (codes "compile") name c,
      differs (codes "upgrade") name d,
      differs (codes "bounds") name e,
      differs (codes "shrink") name f,
    ) refl

-- the name is none of these
pub returns-in_default : goal.returns-in_default
returns-in_default c =
    let name = c.args.name.now in
    let none = no_command name c.in_ok-first.first.now c.in_default.not-check c.in_default.not-fmt
    c.in_default.not-compile c.in_default.not-upgrade c.in_default.not-bounds c.in_default.not-shrink in
    subst (λ (o : Option Text). None ≡ option_and_then (file_command name) o) c.in_ok-first.ensures (sym none)
