use Rattle.std.proofs.Common.{[], ◌∷◌, map, sym, ap, ◌∙◌}
use Rattle.std.proofs.lemmas.List.{map-append}
use Rattle.c_subset.specs.Lines.{line_of, lines_in}
use Rattle.c_trees.specs.Reading.{opens_of, read_lines}
use Rattle.c_trees.proofs.ReadLemmas.{read-last}
use Rattle.c_trees.proofs.reading.read_lines.Goals as goal

pub lines-preserved : goal.lines-preserved
lines-preserved c =
    let left = c.pop.new.self.items in
    let line = c.in-Some.line in
    ap (read_lines (lines_in left)) c.in_ok-stack-2.ensures
    ∙ sym (read-last (lines_in left) (line_of line) (opens_of c.lines.stack))
    ∙ ap (λ xs. read_lines xs (opens_of c.lines.stack))
    (sym (map-append line_of left (line ∷ [])) ∙ ap (map line_of) (sym c.in-Some.ensures.items))
    ∙ c.lines.invariant
