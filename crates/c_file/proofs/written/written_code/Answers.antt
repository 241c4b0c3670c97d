use Rattle.std.proofs.Common.{Bool, sym, subst}
use Rattle.checked_chart.specs.Kept.{chart_of}
use Rattle.code_language.specs.Code.{code_of}
use Rattle.code_counts.specs.declared.numbers.Counted.TheVariants.{Steps, Depth}
use Rattle.code_counts.specs.Needed as needed
use Rattle.c_shape.specs.FileShapes.{tests_seen}
use Rattle.c_file.specs.Files.{IsWritten}
use Rattle.c_file.proofs.CodeLemmas.{written_fits, written_alike, written_tags}
use Rattle.c_file.proofs.ServeLemmas.{limits_serve}
use Rattle.c_file.proofs.SizeLemmas.{has_sizes}
use Rattle.c_file.proofs.written.written_code.Goals as goal

pub returns : goal.returns
returns c =
    let is : IsWritten (chart_of c.args.chart.now) c.args.bounds (code_of c.in_ok-code.code)
    c.in_ok-faster.faster.tags.items c.in_ok-shrunk.shrunk.origins.items = record {
      smaller = code_of c.in_ok-shrunk.shrunk.code;
      is_code = c.in_ok-shrunk.ensures;
      faster = code_of c.in_ok-faster.faster.code;
      is_faster = c.in_ok-faster.ensures;
      is_cut = c.in_ok-code.ensures.cut;
    } in
    record {
      is_written = is;
      fits = written_fits is c.in_ok-code.ensures.well_formed;
      tags = written_tags is;
      serves =
          limits_serve (chart_of c.args.chart.now) c.args.bounds (code_of c.in_ok-code.code) _ c.in_ok-found.found
          c.shape.ensures.valid (written_fits is c.in_ok-code.ensures.well_formed).names
          (written_alike is c.in_ok-code.ensures.well_formed) c.in_ok-found.ensures
          c.in_ok-tests.ensures.steps c.in_ok-tests.ensures.depth;
      limits_are = record {
        steps =
            subst (λ (tested : Bool). needed.Serves Steps (code_of c.in_ok-code.code) c.args.bounds.steps
            c.in_ok-found.found.bounds.steps tested) (sym c.in_ok-tests.ensures.steps) c.in_ok-found.ensures.steps;
        depth =
            subst (λ (tested : Bool). needed.Serves Depth (code_of c.in_ok-code.code) c.args.bounds.depth
            c.in_ok-found.found.bounds.depth tested) (sym c.in_ok-tests.ensures.depth) c.in_ok-found.ensures.depth;
        outputs = c.in_ok-found.ensures.outputs;
      };
      sizes =
          has_sizes (code_of c.in_ok-code.code) (tests_seen c.in_ok-tests.tests) c.in_ok-found.found.bounds
          c.in_ok-found.found.outputs c.in_ok-code.ensures.well_formed c.in_ok-found.ensures.outputs;
      after = c.in_ok-tests.ensures.right;
    }
