use Rattle.std.proofs.Common.{sym, ap, Bool, option_map}
use Rattle.std.specs.Str.{bytes_eq}
use Rattle.checked_chart.specs.Kept.{chart_of}
use Rattle.commands.proofs.NetChartLemmas.{found_at, unfound}
use Rattle.commands.proofs.net_charts.chart_of_file.Goals as goal
use Rattle.commands.specs.declared.net_charts.ReadFile.{ReadFile}

-- no file has that name
pub returns-in_err-place : goal.returns-in_err-place
returns-in_err-place c =
    let p : ReadFile → Bool = λ f. bytes_eq f.file c.args.chart_file.now in
    rw c.from_residual.ensures
    (ap (option_map (λ (f : ReadFile). chart_of f.chart)) (sym (unfound p c.args.files.now
    c.in_err-place.ensures.place)))

-- the first file of that name
pub returns : goal.returns
returns c =
    let p : ReadFile → Bool = λ f. bytes_eq f.file c.args.chart_file.now in
    let found =
    found_at p c.args.files.now c.in_ok-place.place c.index-files-place.result c.in_ok-place.ensures.place
    c.in_ok-place.ensures.within c.index-files-place.is in
    rw (← c.index-files-place.is) (ap (option_map (λ (f : ReadFile). chart_of f.chart)) (sym found))
