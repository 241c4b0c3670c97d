-- Where no file was read, all files keep what they have left.
use Rattle.std.proofs.Common.{◌≡◌, ℕ, List, [], Option, Some, None, ap}
use Rattle.commands.specs.Call.{Sources, Call, OthersStay}
use Rattle.c_program.specs.Commands.{Command, Header, Source, Version, files_named}
use Rattle.c_program.specs.Answer.{OthersKeep}

-- files of any names
all_stay : (names : List (List ℕ)) (before after : Sources) → after ≡ before → OthersStay names before after
all_stay names before after same = λ other h. ap (λ (s : Sources). s.left other) same

-- those of a command
pub none_read : (command : Option Command) (call : Call) → call.sources_after ≡ call.sources_before
    → OthersKeep command call
none_read None call same = all_stay [] _ _ same
none_read (Some (Header first asked)) call same = all_stay (files_named (Header first asked)) _ _ same
none_read (Some (Source first asked)) call same = all_stay (files_named (Source first asked)) _ _ same
none_read (Some Version) call same = all_stay (files_named Version) _ _ same
