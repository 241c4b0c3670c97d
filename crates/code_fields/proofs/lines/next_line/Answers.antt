use Rattle.std.proofs.Common.{◌≡◌, ℕ, List, [], Option, Some, None}
use Rattle.std.specs.Prelude.{option_map, MatchOption}
use Rattle.code_fields.specs.Lines.{cut_of, line_then}
use Rattle.code_fields.specs.Cuts.{parts_at}
use Rattle.code_fields.specs.Views.{parts_of}
use Rattle.code_fields.specs.declared.cuts.Parts.{Parts}
use Rattle.code_fields.proofs.LineCuts.{cut_of-line, cut_of-rest}
use Rattle.code_fields.proofs.lines.next_line.Goals as goal

-- the first line is what stands before the first newline
first_line : (text : List ℕ) (o : Option Parts) → option_map parts_of o ≡ parts_at 10 text
    → MatchOption o (cut_of text ≡ record { lines = []; rest = text })
    (λ parts. cut_of text ≡ line_then parts.front.now (cut_of parts.rest.now))
first_line text None e = cut_of-rest text e
first_line text (Some parts) e = cut_of-line text (parts_of parts) e

pub returns-clause-line : goal.returns-clause-line
returns-clause-line c = first_line c.args.text.now c.cut_at.result c.cut_at.ensures.parts
