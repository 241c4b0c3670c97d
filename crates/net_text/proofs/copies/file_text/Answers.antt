use Rattle.std.proofs.lemmas.Str.{IsUtf8-from_ascii}
use Rattle.net_text.proofs.FileLemmas.{is_file_name-ascii}
use Rattle.net_text.proofs.copies.file_text.Goals as goal

pub unreachable-requires : goal.unreachable-requires
unreachable-requires c =
    c.in-Err.ensures.cases.0 (IsUtf8-from_ascii c.args.file.now (is_file_name-ascii c.args.file.now c.requires))
