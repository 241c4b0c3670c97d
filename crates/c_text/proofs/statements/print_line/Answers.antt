use Rattle.std.proofs.Common.{◌≡◌, ◌++◌, ℕ, List, Option, Result, sym, ap, ◌∙◌, subst}
use Rattle.std.specs.Prelude.{OnOk}
use Rattle.flow_base.specs.Lists.{items_of}
use Rattle.c_subset.specs.declared.trees.CExpr.{CExpr}
use Rattle.c_subset.specs.declared.trees.Case.{Case}
use Rattle.c_subset.specs.declared.trees.Line.{Line}
use Rattle.c_subset.specs.Lines.{expr_of, exprs_of, line_of, lines_in}
use Rattle.c_text.specs.declared.locals.LocalName.{LocalName}
use Rattle.c_text.specs.Labels.{labels_of}
use Rattle.c_text.specs.Reading.{read_local}
use Rattle.c_text.specs.Statements.{set_text, call_text, switch_text, line_text}
use Rattle.c_text.proofs.statements.print_line.Goals as goal

-- what was printed is an equal text
printed_as : {E : Type 0} (r : Result (Unit {0}) E) (old new text other : List ℕ) → OnOk r (new ≡ old ++ text)
    → text ≡ other → OnOk r (new ≡ old ++ other)
printed_as r old new text other printed same = subst (λ (t : List ℕ). OnOk r (new ≡ old ++ t)) same printed

pub returns-in-Set : goal.returns-in-Set
unfolding line_text
returns-in-Set c =
    printed_as _ _ _ _ _ c.print_set.ensures
    (ap (λ (x : LocalName). set_text (labels_of c.args.labels.now) c.args.kind c.args.depth x.of x.number
    (expr_of c.in-Set.expr))
    c.local_of.ensures
    ∙ ap (λ (x : Line). line_text (labels_of c.args.labels.now) c.args.kind (lines_in c.args.lines.now)
    c.args.result_type c.args.depth (line_of x)) (sym c.in-Set.is))

pub returns-in-Call : goal.returns-in-Call
unfolding line_text
returns-in-Call c =
    printed_as _ _ _ _ _ c.print_call.ensures
    (ap (λ (x : Option LocalName). call_text (labels_of c.args.labels.now) c.args.kind c.args.depth x
    c.in-Call.function (exprs_of c.items.result.now))
    c.read_local-local.ensures
    ∙ ap (λ (es : List CExpr). call_text (labels_of c.args.labels.now) c.args.kind c.args.depth
    (read_local (lines_in c.args.lines.now) c.in-Call.of c.in-Call.number) c.in-Call.function (exprs_of es))
    c.items.ensures
    ∙ ap (λ (x : Line). line_text (labels_of c.args.labels.now) c.args.kind (lines_in c.args.lines.now)
    c.args.result_type c.args.depth (line_of x)) (sym c.in-Call.is))

pub returns-in-Select : goal.returns-in-Select
unfolding line_text
returns-in-Select c =
    printed_as _ _ _ _ _ c.print_switch.ensures
    (ap (λ (x : Option LocalName). switch_text (labels_of c.args.labels.now) c.args.kind c.args.depth x
    (expr_of c.in-Select.expr) c.items-cases.result.now (exprs_of c.items-in-Select.result.now))
    c.read_local-local-in-Select.ensures
    ∙ ap (λ (cs : List Case). switch_text (labels_of c.args.labels.now) c.args.kind c.args.depth
    (read_local (lines_in c.args.lines.now) c.in-Select.of c.in-Select.number) (expr_of c.in-Select.expr) cs
    (exprs_of c.items-in-Select.result.now))
    c.items-cases.ensures
    ∙ ap (λ (es : List CExpr). switch_text (labels_of c.args.labels.now) c.args.kind c.args.depth
    (read_local (lines_in c.args.lines.now) c.in-Select.of c.in-Select.number) (expr_of c.in-Select.expr)
    (items_of c.in-Select.cases) (exprs_of es)) c.items-in-Select.ensures
    ∙ ap (λ (x : Line). line_text (labels_of c.args.labels.now) c.args.kind (lines_in c.args.lines.now)
    c.args.result_type c.args.depth (line_of x)) (sym c.in-Select.is))
