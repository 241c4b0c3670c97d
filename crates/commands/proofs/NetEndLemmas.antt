-- How a net's files were read, and what is left of them.
use Rattle.std.proofs.Common.{◌≡◌, ◌≢◌, ◌∙◌, ℕ, Bool, true, false, cond, List, [], ◌∷◌, ◌++◌, Option, Some, None}
use Rattle.std.proofs.Common.{Result, Ok, Err, length, refl, sym, ap, subst, inl, inr, option_map}
use Rattle.std.specs.Prelude.{slice_get}
use Rattle.std.specs.Io.KnownBytes.{IsAtEnd}
use Rattle.std.specs.List.{find, AllByRecursion}
use Rattle.std.specs.Option.{option_map_or}
use Rattle.std.specs.Str.{bytes_eq}
use Rattle.std.proofs.lemmas.Bool.{cases_Bool}
use Rattle.std.proofs.lemmas.Slice.Eq.{bytes_eq-Decides}
use Rattle.flow_base.specs.Causes.{OthersKept}
use Rattle.checked_chart.specs.Chart.{Chart}
use Rattle.chart_tree.specs.declared.limits.TheConstants.{CHART_TEXT_LIMIT}
use Rattle.chart_net.specs.Nets.{Net}
use Rattle.chart_net.specs.NetDriving.{NetDrives}
use Rattle.chart_net.specs.declared.driver.NetEnd.{NetEnd}
use Rattle.chart_net.specs.declared.driver.NetEnd.TheVariants as answers
use Rattle.net_text.specs.NetTexts.{NetText}
use Rattle.net_text.specs.declared.fault.NetFault.{NetFault}
use Rattle.net_text.specs.declared.limits.TheConstants.{NET_TEXT_LIMIT}
use Rattle.net_text.specs.declared.net.NetChart.{NetChart}
use Rattle.net_text.specs.declared.net.RouteText.{RouteText}
use Rattle.commands.specs.Accepted.{RefusesAccepted}
use Rattle.commands.specs.Call.{Sources, Call, OthersStay}
use Rattle.commands.specs.NetCharts.{SaysNet, RefusesNet, LoadedChart, loaded_as, chart_known, name_at, GivesChart}
use Rattle.commands.specs.NetCharts.{ReadsCharts, ChartUnread, loaded_in}
use Rattle.commands.specs.NetCommand.{files_of_charts, files_said, NetOthersStay, NetRead}
use Rattle.commands.specs.NetRoutes.{bad_route}
use Rattle.commands.specs.Reading.{IsTold, ReadWhole, Gives, Unread}
use Rattle.commands.specs.Schedule.{ScheduleEnds, Driven, NotBegun, end_with}
use Rattle.commands.specs.Trace.{seen_of}
use Rattle.commands.specs.declared.file.FileEnd.{FileEnd}
use Rattle.commands.specs.declared.net_charts.ReadFile.{ReadFile}
use Rattle.commands.specs.declared.refusal.Refusal.{Refusal}
use Rattle.commands.specs.declared.schedule.ScheduleEnd.{ScheduleEnd}
use Rattle.commands.specs.declared.schedule.ScheduleEnd.TheVariants as runs
use Rattle.commands.proofs.NetChartLemmas.{reads_others}
use Rattle.commands.proofs.ReadingLemmas.{read_out-IsAtEnd, unread_others}

-- ---- other files

-- a text that a file may have
told : (o : Option (List ℕ)) → (text : List ℕ) × IsTold o text
told None = ([], tt)
told (Some t) = (t, refl)

-- where nothing comes of the file of the net, no other file was read
pub no_net_others : (call : Call) (first second : List ℕ) (end : FileEnd NetFault)
    → Unread NET_TEXT_LIMIT RefusesNet call.sources_before call.sources_after first end
    → NetOthersStay call first second
no_net_others call first second end unread =
    let t = told (call.sources_before.left first) in
    record {
      text = t.0;
      is_told = t.1;
      others = λ other h. unread_others NET_TEXT_LIMIT RefusesNet call.sources_before call.sources_after first end
          unread other h.0;
    }

-- of a list of names, those of another list with more
more_names : (other : List ℕ) (ahead later : List (List ℕ)) → AllByRecursion (λ name. other ≢ name) (ahead ++ later)
    → AllByRecursion (λ name. other ≢ name) ahead × AllByRecursion (λ name. other ≢ name) later
more_names other [] later h = (tt, h)
more_names other (n ∷ ahead) later h = let rest = more_names other ahead later h.1 in ((h.0, rest.0), rest.1)

-- the files of two lists of charts
files_join : (ahead later : List NetChart) → files_of_charts (ahead ++ later) ≡ files_of_charts ahead ++
    files_of_charts later
files_join [] later = refl
files_join (c ∷ ahead) later = ap (λ (files : List (List ℕ)). c.file ∷ files) (files_join ahead later)

-- where nothing comes of the file of a chart, only the files of charts were read
pub no_chart_others : (before after : Sources) (charts : List NetChart) (number : ℕ) (end : FileEnd Refusal)
    → ChartUnread before after charts number end → OthersStay (files_of_charts charts) before after
no_chart_others before after charts number end u other h =
    let names = subst (λ (cs : List NetChart). AllByRecursion (λ name. other ≢ name) (files_of_charts cs)) u.parts h in
    let cut = more_names other (files_of_charts u.ahead) (files_of_charts (u.chart ∷ u.later))
    (subst (AllByRecursion (λ name. other ≢ name)) (files_join u.ahead (u.chart ∷ u.later)) names) in
    unread_others CHART_TEXT_LIMIT RefusesAccepted u.between after u.chart.file end u.unread other cut.1.0
    ∙ reads_others [] before u.between u.ahead u.loaded u.ahead_read other cut.0

-- the net was read, then files of its charts, and then the schedule
pub net_others : (call : Call) (first second : List ℕ) (net : NetText) (between middle : Sources)
    → Gives SaysNet call.sources_before between first net → OthersStay (files_of_charts net.charts) between middle
    → OthersKept second middle.left call.sources_after.left → NetOthersStay call first second
net_others call first second net between middle given charts schedule = record {
  text = given.text;
  is_told = given.read.is_told;
  others = λ other h.
      schedule other h.1.0
      ∙ (charts other (subst (λ (o : Result NetText NetFault). AllByRecursion (λ name. other ≢ name)
      (files_said o)) given.means h.1.1)
      ∙ given.read.others other h.0);
}

-- a run over the schedule reads no other file
pub schedule_others : (net : Net) (call : Call) (second : List ℕ) (end : ScheduleEnd) → ScheduleEnds net call second end
    → OthersKept second call.sources_before.left call.sources_after.left
schedule_others net call second end (Driven d) = d.others
schedule_others net call second end (NotBegun e same out) = λ other ne. ap (λ (s : Sources). s.left other) same

-- ---- the name of the chart that isn't read

-- the chart after the first ones
chart_after : (ahead : List NetChart) (c : NetChart) (later : List NetChart) → slice_get (ahead ++ c ∷ later)
    (length ahead) ≡ Some c
chart_after [] c later = refl
chart_after (a ∷ ahead) c later = chart_after ahead c later

-- its name
pub unread_name : (before after : Sources) (net : NetText) (number : ℕ) (end : FileEnd Refusal)
    (u : ChartUnread before after net.charts number end) → name_at net number ≡ u.chart.name
unread_name before after net number end u =
    ap (λ (o : Option NetChart). option_map_or (λ (c : NetChart). c.name) o [])
    (ap (λ (cs : List NetChart). slice_get cs number) u.parts
    ∙ ap (slice_get (u.ahead ++ u.chart ∷ u.later)) u.number_is ∙ chart_after u.ahead u.chart u.later)

-- ---- the end of the files

-- nothing is left of a file after another was read whole, where nothing was left before
read_still : (before after : Sources) (name text other : List ℕ) → ReadWhole before after name text
    → IsAtEnd (before.left other) → IsAtEnd (after.left other)
read_still before after name text other read end =
    elim (cases_Bool (bytes_eq other name)) [
      | inl same ↦ rw ((bytes_eq-Decides other name).0 same, read.at_end) (read_out-IsAtEnd _)
      | inr differs ↦ rw (read.others other (λ e. let bad = sym ((bytes_eq-Decides other name).1 e)
          ∙ differs in cc)) end
    ]

-- nothing is left of a file that was read whole
read_end : (before after : Sources) (name text : List ℕ) → ReadWhole before after name text → IsAtEnd (after.left name)
read_end before after name text read = rw read.at_end (read_out-IsAtEnd _)

-- nothing is left of the file of a chart that is known
known_end : (file : List ℕ) (earlier : List LoadedChart) (now : Sources) (chart : Chart)
    → chart_known file earlier ≡ Some chart
    → AllByRecursion (λ (l : LoadedChart). IsAtEnd (now.left l.file)) earlier → IsAtEnd (now.left file)
known_end file [] now chart e all = absurd cc
known_end file (l ∷ earlier) now chart e all =
    go (bytes_eq l.file file) refl e (λ rest. known_end file earlier now chart rest all.1)
  where
    go : (b : Bool) → bytes_eq l.file file ≡ b
        → option_map (λ (c : LoadedChart). c.chart) (cond b (Some l) (find
        (λ (c : LoadedChart). bytes_eq c.file file) earlier)) ≡ Some chart
        → (chart_known file earlier ≡ Some chart → IsAtEnd (now.left file)) → IsAtEnd (now.left file)
    go true same e rest = subst (λ (t : List ℕ). IsAtEnd (now.left t)) ((bytes_eq-Decides l.file file).0 same) all.0
    go false same e rest = rest e

-- what is left of each is as said before, after one was given
given_still : (o : Option Chart) (before after : Sources) (file : List ℕ) (chart : Chart)
    → GivesChart o before after file chart
    → (other : List ℕ) → IsAtEnd (before.left other) → IsAtEnd (after.left other)
given_still None before after file chart gives other end = read_still before after file gives.text other gives.read end
given_still (Some known) before after file chart gives other end =
    subst (λ (s : Sources). IsAtEnd (s.left other)) (sym gives.1) end

-- nothing is left of the file that was given
given_end : (before after : Sources) (c : NetChart) (chart : Chart) (earlier : List LoadedChart)
    → AllByRecursion (λ (l : LoadedChart). IsAtEnd (before.left l.file)) earlier
    → GivesChart (chart_known c.file earlier) before after c.file chart → IsAtEnd (after.left c.file)
given_end before after c chart earlier all gives = go (chart_known c.file earlier) refl gives
  where
    go : (o : Option Chart) → chart_known c.file earlier ≡ o → GivesChart o before after c.file chart → IsAtEnd
        (after.left c.file)
    go None e gives = read_end before after c.file gives.text gives.read
    go (Some known) e gives =
        subst (λ (s : Sources). IsAtEnd (s.left c.file)) (sym gives.1) (known_end c.file earlier before known e all)

-- nothing is left of the files of earlier charts and of one more
all_with : (before after : Sources) (earlier : List LoadedChart) (l : LoadedChart)
    → ((other : List ℕ) → IsAtEnd (before.left other) → IsAtEnd (after.left other)) → IsAtEnd (after.left l.file)
    → AllByRecursion (λ (l : LoadedChart). IsAtEnd (before.left l.file)) earlier
    → AllByRecursion (λ (l : LoadedChart). IsAtEnd (after.left l.file)) (earlier ++ l ∷ [])
all_with before after [] l still end all = (end, tt)
all_with before after (e ∷ earlier) l still end all = (
  still e.file all.0,
  all_with before after earlier l still end
      all.1,
)

-- after all charts were read nothing is left of their files, nor of a file of which nothing was left before
pub reads_end : (earlier : List LoadedChart) (before after : Sources) (charts : List NetChart)
    (loaded : List LoadedChart)
    → AllByRecursion (λ (l : LoadedChart). IsAtEnd (before.left l.file)) earlier
    → ReadsCharts earlier before after charts loaded
    → AllByRecursion (λ file. IsAtEnd (after.left file)) (files_of_charts charts)
    × ((other : List ℕ) → IsAtEnd (before.left other) → IsAtEnd (after.left other))
reads_end earlier before after [] loaded all reads =
    (tt, λ other end. subst (λ (s : Sources). IsAtEnd (s.left other)) (sym reads.1) end)
reads_end earlier before after (c ∷ charts) loaded all reads =
    let still = given_still (chart_known c.file earlier) before reads.2 c.file reads.0 reads.4 in
    let end = given_end before reads.2 c reads.0 earlier all reads.4 in
    let rest = reads_end (earlier ++ loaded_as c reads.0 ∷ []) reads.2 after charts reads.1
    (all_with before reads.2 earlier (loaded_as c reads.0) still end all) reads.5 in
    ((rest.1 c.file end, rest.0), λ other before_end. rest.1 other (still other before_end))

-- a run that ended well leaves nothing of the schedule
driven_end : (net : Net) (call : Call) (second : List ℕ) (answer : Result (Unit {0}) NetEnd)
    → NetDrives net (seen_of call second) answer → runs.Done ≡ end_with net.declared answer → IsAtEnd
    (call.sources_after.left second)
driven_end net call second (Ok done) d e = d.1
driven_end net call second (Err (answers.Line number fault)) d e = absurd cc
driven_end net call second (Err (answers.Fault p c fault)) d e = absurd cc
driven_end net call second (Err answers.Read) d e = absurd cc
driven_end net call second (Err answers.Write) d e = absurd cc
driven_end net call second (Err answers.TooManyLines) d e = absurd cc
driven_end net call second (Err answers.FileTooLong) d e = absurd cc
driven_end net call second (Err answers.Memory) d e = absurd cc
driven_end net call second (Err (answers.Full p r)) d e = absurd cc
driven_end net call second (Err (answers.Empty p r)) d e = absurd cc

-- so does a run over it
schedule_end : (net : Net) (call : Call) (second : List ℕ) (end : ScheduleEnd) → ScheduleEnds net call second end
    → end ≡ runs.Done
    → IsAtEnd (call.sources_after.left second)
schedule_end net call second end (Driven d) e = driven_end net call second d.answer d.drives (sym e ∙ d.end_is)
schedule_end net call second end (NotBegun m same out) e = absurd (let bad = sym e ∙ m in cc)

-- nothing is left of a file after the schedule was read, where nothing was left before
schedule_still : (net : Net) (call : Call) (second : List ℕ) (end : ScheduleEnd) → ScheduleEnds net call second end
    → end ≡ runs.Done
    → (other : List ℕ) → IsAtEnd (call.sources_before.left other) → IsAtEnd (call.sources_after.left other)
schedule_still net call second end ends e other before =
    elim (cases_Bool (bytes_eq other second)) [
      | inl same ↦ rw ((bytes_eq-Decides other second).0 same) (schedule_end net call second end ends e)
      | inr differs ↦
          rw (schedule_others net call second end ends other (λ same. let bad = sym
          ((bytes_eq-Decides other second).1 same) ∙ differs in cc))
          before
    ]

-- each of all is so afterwards
all_still : (before after : Sources) (names : List (List ℕ)) → ((other : List ℕ) → IsAtEnd (before.left other)
    → IsAtEnd (after.left other))
    → AllByRecursion (λ name. IsAtEnd (before.left name)) names → AllByRecursion
    (λ name. IsAtEnd (after.left name)) names
all_still before after [] still all = tt
all_still before after (n ∷ names) still all = (still n all.0, all_still before after names still all.1)

-- after a run that ended well nothing is left of any of the files
pub all_ended : (net : Net) (call : Call) (first second : List ℕ) (text : NetText) (loaded : List LoadedChart)
    (between : Sources)
    (end : ScheduleEnd) → NetRead call.sources_before between first text loaded
    → ScheduleEnds net (record call { sources_before = between }) second end → end ≡ runs.Done
    → AllByRecursion (λ file. IsAtEnd (call.sources_after.left file)) (first ∷ second ∷ files_of_charts text.charts)
all_ended net call first second text loaded between end read ends e =
    let later : Call = record call { sources_before = between } in
    let still = schedule_still net later second end ends e in
    let charts = reads_end [] read.between between text.charts loaded tt read.charts_read in (
      still first (charts.1 first (read_end call.sources_before read.between first read.net_read.text
          read.net_read.read)),
      (
        schedule_end net later second end ends e,
        all_still between call.sources_after (files_of_charts text.charts) still charts.0,
      ),
    )

-- no route is refused, by what is shown of files, charts and routes
pub good_as : (fs files : List ReadFile) (cs charts : List NetChart) (ts texts : List RouteText) (line : Option ℕ)
    → fs ≡ files
    → cs ≡ charts → ts ≡ texts → line ≡ bad_route (loaded_in fs cs) ts → line ≡ None → bad_route
    (loaded_in files charts) texts ≡ None
good_as fs files cs charts ts texts line f c t is none =
    let same : bad_route (loaded_in fs cs) ts ≡ bad_route (loaded_in files charts) texts =
    λ i. bad_route (loaded_in (f i) (c i)) (t i) in
    sym same ∙ sym is ∙ none
