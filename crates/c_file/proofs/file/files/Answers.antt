use Rattle.std.proofs.Common.{sym, subst}
use Rattle.std.proofs.lemmas.Result.{IfOk-weaker}
use Rattle.actions.specs.Names.{Names}
use Rattle.actions.specs.Runs.{AreInputValues}
use Rattle.checked_chart.specs.Kept.{chart_of}
use Rattle.code_language.specs.Code.{code_of}
use Rattle.c_functions.specs.Writer.{plans_of}
use Rattle.c_functions.specs.Files.{shape_of}
use Rattle.c_functions.specs.Starts.{AllGiven, file_of}
use Rattle.c_shape.specs.FileShapes.{tests_seen}
use Rattle.c_runs.specs.Claims.{FileRunsAsRules}
use Rattle.c_passes.specs.Standing.{StandsFor}
use Rattle.c_file.specs.Files.{IsMadeFor}
use Rattle.c_file.proofs.SourceLemmas.{file_made, passed, facts_hold, may_change, header_is, same_lines, source_is}
use Rattle.c_file.proofs.file.files.Goals as goal

pub returns : goal.returns
returns c =
    let w = c.in_ok-written.written in
    let is = c.in_ok-written.ensures in
    let made : IsMadeFor (chart_of c.args.chart.now) w c.in_ok-made.made = c.in_ok-made.ensures in
    let identity = c.args.identity in
    let K = shape_of (code_of w.code) (tests_seen w.tests) w.limits w.outputs in
    let file = file_of (code_of w.code) (tests_seen w.tests) w.limits w.outputs (plans_of (code_of w.code)) in
    let standing : StandsFor K file (file_made made) =
    c.passed_files_stand_for_it.ensures.stand K file (file_made made) (passed made) in
    let rules_run : FileRunsAsRules (chart_of c.args.chart.now) identity.bounds K file =
    c.files_of_code_that_serves_run_as_charts.ensures (chart_of c.args.chart.now) identity.bounds (code_of w.code)
    (tests_seen w.tests) w.limits w.outputs c.shape.ensures.valid is.fits is.serves is.after in
    IfOk-weaker c.printed_files.result _ _
    (λ files printed. record {
      code = code_of w.code;
      tags = w.tags.items;
      origins = w.origins.items;
      tests = tests_seen w.tests;
      limits = w.limits;
      room = w.outputs;
      file = file_made made;
      written = printed.written;
      changing = printed.changing;
      order = printed.order;
      facts = printed.facts;
      is_written = is.is_written;
      limits_are = is.limits_are;
      sizes = is.sizes;
      passed = passed made;
      hold = facts_hold made printed.written printed.facts printed.hold;
      may_change = may_change made printed.changing printed.may_change;
      is_order = printed.is_order;
      header_is = same_lines _ _ _ (header_is made printed.facts identity) printed.header_is;
      source_is =
          same_lines _ _ _ (source_is made printed.written printed.changing printed.order printed.facts identity)
          printed.source_is;
      runs = record {
        runs = λ int s given events moments small has values all rules.
            standing.runs int s given events moments has
            (subst (λ (n : Names). AreInputValues n 0 given) (sym is.fits.names) values)
            (subst (λ (n : Names). AllGiven n events) (sym is.fits.names) all)
            (rules_run.runs int s given events moments small has values all rules);
        refuses = λ int small.
            c.passed_files_stand_for_it.ensures.refuse (code_of w.code) (tests_seen w.tests) w.limits w.outputs
            (file_made made) int is.fits.well_formed small (passed made);
      };
    }) c.printed_files.ensures
