use Rattle.std.proofs.Common.{ℕ, List, refl, sym, ap, ◌∙◌, subst}
use Rattle.std.specs.List.{All}
use Rattle.checked_chart.specs.Kept.{chart_of}
use Rattle.chart_parts.specs.Parts.{parts_of}
use Rattle.code_language.specs.Code.{code_of}
use Rattle.code_passes.specs.declared.tag.Tag.{Tag}
use Rattle.c_text.specs.Labels.{Labels}
use Rattle.c_shape.specs.FileShapes.{shape_seen, tests_seen}
use Rattle.c_file.specs.Comments.{comments_for, IsTagOf}
use Rattle.c_file.proofs.SourceLemmas.{names_are, own_shape}
use Rattle.c_file.proofs.file.made_of.Goals as goal

pub make-requires-clause-names : goal.make-requires-clause-names
make-requires-clause-names c = c.names-names.ensures.names ∙ sym c.requires.code.names

pub make-requires-clause-tree : goal.make-requires-clause-tree
make-requires-clause-tree c = c.shape-tree.ensures.shape ∙ sym c.requires.code.tree

pub make-requires-3 : goal.make-requires-3
make-requires-3 c =
    subst (All (IsTagOf (chart_of c.args.chart.now))) (sym c.deref-2.ensures.value) c.requires.tags

pub returns : goal.returns
returns c =
    let w = c.args.written.now in
    let chart = chart_of c.args.chart.now in
    record {
      is_made = record {
        named = ap (λ (L : Labels). L.chart) c.make-2.ensures;
        parts = c.in_ok-make.ensures.parts;
        shape =
            own_shape (code_of w.code) (tests_seen w.tests) w.limits w.outputs
            (shape_seen c.in_ok-shape.shape) c.in_ok-shape.ensures.shape;
        passed = c.in_ok-functions.ensures;
      };
      code = refl;
      shape = c.in_ok-shape.ensures.shape;
      names =
          names_are chart (tests_seen w.tests) w.limits w.outputs (code_of w.code)
          (shape_seen c.in_ok-shape.shape) c.in_ok-shape.ensures.shape _ _ _ _
          c.make-2.ensures c.name_of-name.ensures c.names-names.ensures.names c.shape-tree.ensures.shape;
      said =
          c.in_ok-make.ensures.said
          ∙ ap (λ (xs : List ℕ). comments_for chart.tree chart.names (parts_of chart) xs c.deref-2.result.now)
          c.deref.ensures.value
          ∙ ap (λ (ts : List Tag). comments_for chart.tree chart.names (parts_of chart) w.origins.items ts)
          c.deref-2.ensures.value;
    }
