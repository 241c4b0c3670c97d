use Rattle.std.proofs.Common.{Bool, Some, None, cond, sym, ap, ◌∙◌}
use Rattle.c_subset.specs.declared.trees.Line.{Line}
use Rattle.c_subset.specs.Lines.{line_of, lines_in}
use Rattle.c_text.specs.Reading.{has_cases, read_local}
use Rattle.c_text.specs.Functions.{local_set}
use Rattle.c_text.proofs.functions.local_set.Goals as goal

pub returns-in-Set : goal.returns-in-Set
returns-in-Set c =
    ap Some c.local_of.ensures ∙ ap (λ (x : Line). local_set (lines_in c.args.lines.now) (line_of x)) (sym c.in-Set.is)

pub returns-in-Call : goal.returns-in-Call
returns-in-Call c =
    c.read_local.ensures ∙ ap (λ (x : Line). local_set (lines_in c.args.lines.now) (line_of x)) (sym c.in-Call.is)

pub returns-then-has_cases : goal.returns-then-has_cases
returns-then-has_cases c =
    c.read_local-then-has_cases.ensures
    ∙ ap (λ (b : Bool). cond b (read_local (lines_in c.args.lines.now) c.in-Select.of c.in-Select.number) None)
    (sym c.if-has_cases.true ∙ c.has_cases.ensures ∙ ap has_cases c.items.ensures)
    ∙ ap (λ (x : Line). local_set (lines_in c.args.lines.now) (line_of x)) (sym c.in-Select.is)
