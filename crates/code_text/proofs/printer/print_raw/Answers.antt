use Rattle.std.proofs.Common.{ℕ, List, ◌∷◌, [], ◌++◌, sym, ap, ◌∙◌}
use Rattle.std.specs.Prelude.{codes}
use Rattle.code_lines.specs.declared.format.Format.TheVariants.{Two}
use Rattle.code_text.specs.Written.{written_of}
use Rattle.code_text.specs.Spelling.{states_part, vars_part, events_part, procs_part, end_line, text_of}
use Rattle.code_text.proofs.TextLemmas.{body_parts, code_text-first, appended}
use Rattle.code_text.proofs.printer.print_raw.Goals as goal

pub returns-clause-text : goal.returns-clause-text
returns-clause-text c =
    let w = written_of c.args.raw.now in
    appended _ _ _ _ _ _ _ (codes "flowcode 2\n") (text_of (states_part w.states)) (text_of (vars_part w.vars))
    (text_of (events_part w.events)) (text_of (procs_part w.procedures)) (text_of (end_line ∷ []))
    c.new-out.ensures.bytes c.in_ok-push_str.ensures.bytes
    (rw c.items.ensures at c.in_ok-print_states.ensures.text) (rw c.items-2.ensures at c.in_ok-print_vars.ensures) (rw c.items-3.ensures at c.in_ok-print_events.ensures)
    c.in_ok-print_procs.ensures.text c.in_ok-push_str-2.ensures.bytes
    ∙ sym (code_text-first Two w ∙ ap (λ (t : List ℕ). codes "flowcode 2" ++ 10 ∷ t) (body_parts w))
