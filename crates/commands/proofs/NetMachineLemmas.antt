-- The machines of the charts of a net, added one after another.
use Rattle.std.proofs.Common.{◌≡◌, ◌∙◌, ℕ, ◌≤◌, Bool, true, false, not, refl, sym, ap, subst, arith, List, [], ◌∷◌}
use Rattle.std.proofs.Common.{◌++◌}
use Rattle.std.proofs.Common.{Option, Some, None, is_some, map, length, cond, append_assoc, option_map}
use Rattle.std.specs.List.{find, list_any, AllByRecursion}
use Rattle.std.specs.Str.{bytes_eq}
use Rattle.std.proofs.lemmas.List.{map-append, length-map}
use Rattle.flow_base.specs.declared.bounds.Bounds.{Bounds}
use Rattle.checked_chart.specs.Chart.{Chart}
use Rattle.checked_chart.specs.Valid.{IsValid}
use Rattle.chart_net.specs.Nets.{ChartOf}
use Rattle.code_machine.specs.Engine.{Program}
use Rattle.net_text.specs.NetTexts.{first_repeat, names_of}
use Rattle.net_text.specs.declared.net.NetChart.{NetChart}
use Rattle.net_text.specs.declared.net.RouteText.{RouteText}
use Rattle.net_text.specs.declared.route.Route.{Route}
use Rattle.commands.specs.NetCharts.{LoadedChart, loaded_as, AllRead, before_charts, chart_in, loaded_in}
use Rattle.commands.specs.NetMachines.{MachineNet, machine_charts, program_of_chart, IsMachineNet, IsMachineAdded}
use Rattle.commands.specs.NetRoutes.{bad_route, before_routes, route_in, routes_in}
use Rattle.commands.specs.declared.net_charts.ReadFile.{ReadFile}
use Rattle.commands.proofs.NetChartLemmas.{loaded_more}

-- ---- of lists

-- a later one of all
all_at : {A : Type 0} (P : A → Type 0) (ahead : List A) (x : A) (later : List A) → AllByRecursion P
    (ahead ++ x ∷ later) → P x
all_at P [] x later all = all.0
all_at P (a ∷ ahead) x later all = all_at P ahead x later all.1

-- all of some, and one more
all_also : {A : Type 0} (P : A → Type 0) (xs : List A) (x : A) → AllByRecursion P xs → P x → AllByRecursion P
    (xs ++ x ∷ [])
all_also P [] x all more = (more, tt)
all_also P (a ∷ xs) x all more = (all.0, all_also P xs x all.1 more)

-- where nothing is found, no later one passes
none_later : {A : Type 0} (p : A → Bool) (ahead : List A) (x : A) (later : List A) → find p (ahead ++ x ∷ later) ≡ None
    → p x ≡ false
none_later p [] x later e = go (p x) e
  where
    go : (b : Bool) → cond b (Some x) (find p later) ≡ None → b ≡ false
    go true e = absurd cc
    go false e = refl
none_later p (a ∷ ahead) x later e = go (p a) e (none_later p ahead x later)
  where
    go : (b : Bool) → cond b (Some a) (find p (ahead ++ x ∷ later)) ≡ None
        → (find p (ahead ++ x ∷ later) ≡ None → p x ≡ false) → p x ≡ false
    go true e rest = absurd cc
    go false e rest = rest e

-- ---- the charts

-- the file of a later chart was read
pub read_at : (files : List ReadFile) (ahead : List NetChart) (c : NetChart) (later : List NetChart)
    → AllRead files (ahead ++ c ∷ later) → is_some (chart_in files c.file) ≡ true
read_at files ahead c later all = all_at (λ (x : NetChart). is_some (chart_in files x.file) ≡ true) ahead c later all

-- a name that is in no repeat is new
new_name : (before names : List (List ℕ)) (name : List ℕ) (later : List (List ℕ))
    → first_repeat before (names ++ name ∷ later) ≡ None → list_any (bytes_eq name) (before ++ names) ≡ false
new_name before [] name later e =
    subst (λ (all : List (List ℕ)). list_any (bytes_eq name) all ≡ false) (sym (append_nil before))
    (go (list_any (bytes_eq name) before) e)
  where
    append_nil : (xs : List (List ℕ)) → xs ++ [] ≡ xs
    append_nil [] = refl
    append_nil (x ∷ xs) = ap (λ (ys : List (List ℕ)). x ∷ ys) (append_nil xs)

    go : (b : Bool) → cond b (Some (length before)) (first_repeat (before ++ name ∷ []) later) ≡ None → b ≡ false
    go true e = absurd cc
    go false e = refl
new_name before (n ∷ names) name later e =
    subst (λ (all : List (List ℕ)). list_any (bytes_eq name) all ≡ false) (append_assoc before (n ∷ []) names)
    (new_name (before ++ n ∷ []) names name later (go (list_any (bytes_eq n) before) e))
  where
    go : (b : Bool) → cond b (Some (length before)) (first_repeat (before ++ n ∷ []) (names ++ name ∷ later)) ≡ None
        → first_repeat (before ++ n ∷ []) (names ++ name ∷ later) ≡ None
    go true e = absurd cc
    go false e = e

-- the names of charts that were all read
loaded_names : (files : List ReadFile) (charts : List NetChart) → AllRead files charts
    → map (λ (l : LoadedChart). l.name) (loaded_in files charts) ≡ names_of charts
loaded_names files [] all = refl
loaded_names files (c ∷ charts) all = go (chart_in files c.file) all.0 (loaded_names files charts all.1)
  where
    go : (o : Option Chart) → is_some o ≡ true → map (λ (l : LoadedChart). l.name)
        (loaded_in files charts) ≡ names_of charts
        → map (λ (l : LoadedChart). l.name) (before_charts c o (loaded_in files charts)) ≡ c.name ∷ names_of charts
    go None some e = absurd cc
    go (Some chart) some e = ap (λ (names : List (List ℕ)). c.name ∷ names) e

-- no more charts were loaded than there are
loaded_few : (files : List ReadFile) (charts : List NetChart) → length (loaded_in files charts) ≤ length charts
loaded_few files [] = omega arith
loaded_few files (c ∷ charts) = go (chart_in files c.file) (loaded_few files charts)
  where
    go : (o : Option Chart) → length (loaded_in files charts) ≤ length charts
        → length (before_charts c o (loaded_in files charts)) ≤ length (c ∷ charts)
    go None le = omega (arith, le)
    go (Some chart) le = omega (arith, le)

-- all of the first were read
all_ahead : (files : List ReadFile) (ahead later : List NetChart) → AllRead files (ahead ++ later) → AllRead files ahead
all_ahead files [] later all = tt
all_ahead files (c ∷ ahead) later all = (all.0, all_ahead files ahead later all.1)

-- the names of the net's charts, by what it shows
names_shown : (bounds : Bounds) (loaded : List LoadedChart)
    → map (λ (c : ChartOf Program). c.name) (map (program_of_chart bounds) loaded) ≡ map
    (λ (l : LoadedChart). l.name) loaded
names_shown bounds [] = refl
names_shown bounds (l ∷ loaded) = ap (λ (names : List (List ℕ)). l.name ∷ names) (names_shown bounds loaded)

-- the names of the first charts, as a list of names
names_ahead : (ahead : List NetChart) (c : NetChart) (later : List NetChart)
    → names_of (ahead ++ c ∷ later) ≡ names_of ahead ++ c.name ∷ names_of later
names_ahead [] c later = refl
names_ahead (a ∷ ahead) c later = ap (λ (names : List (List ℕ)). a.name ∷ names) (names_ahead ahead c later)

module _ (bounds : Bounds) (files : List ReadFile) where
  -- there is room for one chart more
  pub few_charts : (ahead : List NetChart) (net : MachineNet) → IsMachineNet bounds (loaded_in files ahead) [] net
      → length (machine_charts net) ≤ length ahead
  few_charts ahead net is =
      let count = ap length is.charts ∙ length-map (loaded_in files ahead) (program_of_chart bounds) in
      omega (arith, count, loaded_few files ahead)

  -- and its name is new
  pub is_new : (ahead : List NetChart) (c : NetChart) (later : List NetChart) (net : MachineNet)
      → IsMachineNet bounds (loaded_in files ahead) [] net → AllRead files (ahead ++ c ∷ later)
      → first_repeat [] (names_of (ahead ++ c ∷ later)) ≡ None
      → list_any (bytes_eq c.name) (map (λ (chart : ChartOf Program). chart.name) (machine_charts net)) ≡ false
  is_new ahead c later net is all named =
      let shown = ap (map (λ (chart : ChartOf Program). chart.name)) is.charts
      ∙ names_shown bounds (loaded_in files ahead) ∙ loaded_names files ahead (all_ahead files ahead (c ∷ later) all) in
      subst (λ (names : List (List ℕ)). list_any (bytes_eq c.name) names ≡ false) (sym shown)
      (new_name [] (names_of ahead) c.name (names_of later)
      (subst (λ (names : List (List ℕ)). first_repeat [] names ≡ None) (names_ahead ahead c later) named))

  -- one chart more was added
  pub one_added : (ahead : List NetChart) (c : NetChart) (old new : MachineNet)
      → IsMachineNet bounds (loaded_in files ahead) [] old → IsMachineAdded bounds c (chart_in files c.file) old new
      → IsMachineNet bounds (loaded_in files (ahead ++ c ∷ [])) [] new
  one_added ahead c old new is added =
      let more = loaded_more files ahead c added.chart added.is in
      let one = loaded_as c added.chart in
      record {
        whole = added.whole;
        charts = added.charts ∙ ap (λ (charts : List (ChartOf Program)). charts ++ program_of_chart bounds one ∷ [])
            is.charts
            ∙ sym (map-append (program_of_chart bounds) (loaded_in files ahead) (one ∷ []))
            ∙ ap (map (program_of_chart bounds)) (sym more);
        routes_are = added.routes ∙ is.routes_are;
        valid = subst (AllByRecursion (λ (l : LoadedChart). IsValid l.chart)) (sym more)
            (all_also (λ (l : LoadedChart). IsValid l.chart) (loaded_in files ahead) one is.valid added.valid);
      }

-- ---- the routes

-- each text names a route
pub good_at : (loaded : List LoadedChart) (ahead : List RouteText) (text : RouteText) (later : List RouteText)
    → bad_route loaded (ahead ++ text ∷ later) ≡ None → is_some (route_in loaded text) ≡ true
good_at loaded ahead text later e =
    go (is_some (route_in loaded text)) (none_later p ahead text later (none (find p (ahead ++ text ∷ later)) e))
  where
    p : RouteText → Bool
    p t = not (is_some (route_in loaded t))

    none : (o : Option RouteText) → option_map (λ (t : RouteText). t.line) o ≡ None → o ≡ None
    none None e = refl
    none (Some t) e = absurd cc

    go : (b : Bool) → not b ≡ false → b ≡ true
    go true e = refl
    go false e = absurd cc

-- one route more
pub routes_more : (loaded : List LoadedChart) (ahead : List RouteText) (text : RouteText) (route : Route)
    → route_in loaded text ≡ Some route → routes_in loaded (ahead ++ text ∷ []) ≡ routes_in loaded ahead ++ route ∷ []
routes_more loaded [] text route e = ap (λ (o : Option Route). before_routes o []) e
routes_more loaded (a ∷ ahead) text route e = go (route_in loaded a) (routes_more loaded ahead text route e)
  where
    go : (o : Option Route) → routes_in loaded (ahead ++ text ∷ []) ≡ routes_in loaded ahead ++ route ∷ []
        → before_routes o (routes_in loaded (ahead ++ text ∷ [])) ≡ before_routes o
        (routes_in loaded ahead) ++ route ∷ []
    go None e = e
    go (Some r) e = ap (λ (routes : List Route). r ∷ routes) e

-- no more routes than texts
pub few_routes : (loaded : List LoadedChart) (texts : List RouteText) → length (routes_in loaded texts) ≤ length texts
few_routes loaded [] = omega arith
few_routes loaded (text ∷ texts) = go (route_in loaded text) (few_routes loaded texts)
  where
    go : (o : Option Route) → length (routes_in loaded texts) ≤ length texts
        → length (before_routes o (routes_in loaded texts)) ≤ length (text ∷ texts)
    go None le = omega (arith, le)
    go (Some r) le = omega (arith, le)
