-- Where no file was read, all files keep what they have left.
use Rattle.std.proofs.Common.{◌≡◌, ℕ, List, [], Option, Some, None, refl, ap}
use Rattle.command_words.specs.Commands.{Command, Check, Fmt, Rules, Compile, Exec, Run, Upgrade, Bound, Shrink, Net}
use Rattle.command_words.specs.Commands.{Selftest, files_named}
use Rattle.commands.specs.Call.{Sources, Call, OthersStay}
use Rattle.commands.specs.Reading.{IsTold}
use Rattle.flow_program.specs.Answer.{OthersKeep}

-- a text that a file may have
told : (o : Option (List ℕ)) → (text : List ℕ) × IsTold o text
told None = ([], tt)
told (Some t) = (t, refl)

-- files of any names
all_stay : (names : List (List ℕ)) (before after : Sources) → after ≡ before → OthersStay names before after
all_stay names before after same = λ other h. ap (λ (s : Sources). s.left other) same

-- those of a command
pub none_read : (command : Option Command) (call : Call) → call.sources_after ≡ call.sources_before → OthersKeep command call
none_read None call same = all_stay [] _ _ same
none_read (Some (Check first)) call same = all_stay (files_named (Check first)) _ _ same
none_read (Some (Fmt first)) call same = all_stay (files_named (Fmt first)) _ _ same
none_read (Some (Rules first second given)) call same = all_stay (files_named (Rules first second given)) _ _ same
none_read (Some (Compile first)) call same = all_stay (files_named (Compile first)) _ _ same
none_read (Some (Exec first second given)) call same = all_stay (files_named (Exec first second given)) _ _ same
none_read (Some (Run first second given)) call same = all_stay (files_named (Run first second given)) _ _ same
none_read (Some (Upgrade first)) call same = all_stay (files_named (Upgrade first)) _ _ same
none_read (Some (Bound first)) call same = all_stay (files_named (Bound first)) _ _ same
none_read (Some (Shrink first)) call same = all_stay (files_named (Shrink first)) _ _ same
none_read (Some (Net first second given)) call same =
    let t = told (call.sources_before.left first) in
    record { text = t.0; is_told = t.1; others = λ other h. ap (λ (s : Sources). s.left other) same }
none_read (Some (Selftest number)) call same = all_stay (files_named (Selftest number)) _ _ same
