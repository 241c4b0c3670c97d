use Rattle.std.proofs.Common.{◌≡◌, ◌∙◌, nat_le, length, map, sym, ap}
use Rattle.std.proofs.lemmas.List.{length-map}
use Rattle.c_subset.specs.Lines.{line_of}
use Rattle.c_trees.proofs.sizes.is_short.Goals as goal

pub returns : goal.returns
returns c = λ b e. ap (λ n. nat_le n 1000) (sym (length-map c.args.lines.now line_of) ∙ ap length e)
