use Rattle.std.proofs.Common.{◌≡◌, ◌∙◌, inl, inr, ap, subst, [], map, string_bytes}
use Rattle.clap.specs.Words.{App, HasKind, Kinds, fault_of, is_simple, is_simple_and_free, subcommand_of}
use Rattle.c_program.specs.Words.{command_of_texts}
use Rattle.c_program.specs.Parser.{program_app}
use Rattle.c_program.specs.Asked.{command_found}
use Rattle.command_words.proofs.ParseLemmas.{are_utf8, found_is, none_is}
use Rattle.c_program.proofs.Agreement.{agreed, is_free, is_plain}
use Rattle.c_program.proofs.words.parsed.Goals as goal

-- the parse found a command
pub returns-in-Ok-try_get_matches_from : goal.returns-in-Ok-try_get_matches_from
returns-in-Ok-try_get_matches_from c =
    let words = map string_bytes c.args.words.now in
    let app = c.in-Ok.ensures in
    let passes =
    subst (λ (a : App). fault_of a words ≡ []) app
    (c.in-Ok-try_get_matches_from.ensures.kinds (ap is_simple_and_free app ∙ is_free)) in
    let rows =
    (c.in-Ok-try_get_matches_from.ensures.matches (ap is_simple app ∙ is_plain)).1
    ∙ ap (λ (a : App). subcommand_of a words) app in
    c.command_in.ensures ∙ ap command_found rows
    ∙ found_is (command_of_texts words) (fault_of program_app words) (command_found (subcommand_of program_app words))
    (agreed words (are_utf8 c.args.words.now)) passes

-- the parse failed by another kind than want of memory
pub returns : goal.returns
returns c =
    let words = map string_bytes c.args.words.now in
    let app = c.in-Ok.ensures in
    let fails =
    subst (λ (a : App). HasKind (fault_of a words) c.in-Err.error) app
    (c.in-Err.ensures.kinds (ap is_simple_and_free app ∙ is_free)) in
    none_is (command_of_texts words) (fault_of program_app words) (command_found (subcommand_of program_app words))
    (agreed words (are_utf8 c.args.words.now))
    (λ e. let kinds = subst (λ (k : Kinds). HasKind k c.in-Err.error) e fails in elim kinds [
      | inl h ↦ c.in_default-kind.not-OutOfMemory (c.kind.ensures ∙ h)
      | inr h ↦ h
    ])
