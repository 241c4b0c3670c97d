use Rattle.std.proofs.lemmas.Str.{IsUtf8-from_ascii}
use Rattle.chart_lexer.proofs.Names.{name_ascii}
use Rattle.chart_lexer.proofs.words.name_text.Goals as goal

-- a name is ASCII, so it is UTF-8
pub unreachable-requires : goal.unreachable-requires
unreachable-requires c =
    c.in-Err.ensures.cases.0 (IsUtf8-from_ascii c.args.name.now (name_ascii c.args.name.now c.requires))
