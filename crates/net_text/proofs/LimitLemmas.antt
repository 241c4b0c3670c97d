-- What is read of a net text keeps to the limits.
use Rattle.std.proofs.Common.{◌≡◌, ℕ, zero, suc, ◌+◌, ◌<◌, ◌≤◌, Bool, true, false, ◌&&◌, nat_eq, nat_lt, nat_le, List}
use Rattle.std.proofs.Common.{[], ◌∷◌, length, All, Option, Some, None, Result, Ok, Err, IfOk, refl, ap, subst, arith}
use Rattle.std.specs.Prelude.{not, codes, option_and_then, if◌then◌else◌}
use Rattle.std.specs.Str.{bytes_eq}
use Rattle.std.proofs.lemmas.Bool.Decides.{nat_tests}
use Rattle.std.proofs.lemmas.List.{length-append}
use Rattle.std.proofs.lemmas.List.Elements.{All-nil, All-push}
use Rattle.std.proofs.lemmas.Option.{same_Some, option_and_then_some}
use Rattle.code_fields.specs.Cuts.{Parts, parts_at}
use Rattle.code_fields.specs.Fields.{kept, number_of, behind, name_of, word_then}
use Rattle.code_fields.proofs.CutLemmas.{option_map_some}
use Rattle.net_text.specs.declared.expected.Expected.{Expected}
use Rattle.net_text.specs.declared.expected.Expected.TheVariants as expects
use Rattle.net_text.specs.declared.fault.NetFault.{NetFault}
use Rattle.net_text.specs.declared.fault.NetFault.TheVariants as faults
use Rattle.net_text.specs.declared.net.NetChart.{NetChart}
use Rattle.net_text.specs.declared.net.RouteText.{RouteText}
use Rattle.net_text.specs.Fields.{number_within, chart_number, count_behind, EventFront, event_with, event_front}
use Rattle.net_text.specs.Fields.{DataNames, data_names, route_with_cap, route_with_taken, route_with_sent}
use Rattle.net_text.specs.Fields.{route_of_line, chart_of_line}
use Rattle.net_text.specs.NetTexts.{NetText, names_of, first_repeat, IsRouteWithin, IsNetText, net_text_of}
use Rattle.net_text.specs.Views.{Answers}
use Rattle.net_text.specs.declared.net.NetText as declared
use Rattle.code_fields.specs.Lines.{cut_of}
use Rattle.net_text.specs.Reading.{Partial, nothing_read, chart_next, route_next, with_chart_count, with_route_count}
use Rattle.net_text.specs.Reading.{with_chart, with_route, next_at, next, or_refuse, refusal, has_ended, all_read}
use Rattle.net_text.specs.Reading.{outcome_from, outcome_of, unless_repeated, with_own_names, net_of_text}

-- ---- numbers

-- a value that was kept passes the test
kept_passes : {A : Type 0} (test : A → Bool) (x y : A) (b : Bool) → test x ≡ b → (if b then Some x else None) ≡ Some y
    → test y ≡ true
kept_passes test x y true e h = subst (λ z. test z ≡ true) (same_Some x y h) e
kept_passes test x y false e h = absurd cc

-- a number of that range
within_of : (least most n : ℕ) → (nat_le least n && nat_le n most) ≡ true → (least ≤ n) × (n ≤ most)
within_of least most n h = (grind (arith, nat_tests), grind (arith, nat_tests))

-- a number below another
below_of : (n end : ℕ) → nat_lt n end ≡ true → n < end
below_of n end h = grind (arith, nat_tests)

-- what is read as a number of that range is one
number_within-is : (least most n : ℕ) (text : List ℕ) → number_within least most text ≡ Some n
    → (least ≤ n) × (n ≤ most)
number_within-is least most n text h =
    let test : ℕ → Bool = λ m. nat_le least m && nat_le m most in
    option_and_then_some (kept test) (number_of text) n h
    (λ m e g. within_of least most n (kept_passes test m n (test m) refl g))

-- what is read as the number of a chart is one
chart_number-is : (charts n : ℕ) (text : List ℕ) → chart_number charts text ≡ Some n → n < charts
chart_number-is charts n text h =
    let test : ℕ → Bool = λ m. nat_lt m charts in
    option_and_then_some (kept test) (number_of text) n h
    (λ m e g. below_of n charts (kept_passes test m n (test m) refl g))

-- a count after words
count_behind-is : (words : List ℕ) (least most n : ℕ) (line : List ℕ) → count_behind words least most line ≡ Some n
    → (least ≤ n) × (n ≤ most)
unfolding count_behind
count_behind-is words least most n line h =
    option_and_then_some (number_within least most) (behind words line) n h
    (λ text e g. number_within-is least most n text g)

-- ---- routes

-- what a word and what follows it say
word_then-is : {A B P : Type 0} (reads : List ℕ → Option A) (go : A → List ℕ → Option B) (text : List ℕ) (y : B)
    → word_then reads go text ≡ Some y
    → ((x : A) (word rest : List ℕ) → reads word ≡ Some x → go x rest ≡ Some y → P) → P
word_then-is reads go text y h k =
    option_and_then_some (λ (parts : Parts). option_and_then (λ x. go x parts.rest) (reads parts.front))
    (parts_at 32 text) y h (λ parts e g.
    option_and_then_some (λ x. go x parts.rest) (reads parts.front) y g (λ x f i. k x parts.front parts.rest f i))

-- the event of a chart
event_front-is : (charts : ℕ) (text : List ℕ) (front : EventFront) → event_front charts text ≡ Some front
    → front.chart < charts
event_front-is charts text front h =
    word_then-is (chart_number charts) event_with text front h (λ chart word rest is more.
    word_then-is name_of (λ event after. Some (record { chart = chart; event = event; rest = after })) rest front more
    (λ event name after named same.
    let one : chart ≡ front.chart =
    ap (λ (f : EventFront). f.chart) (same_Some (record { chart = chart; event = event; rest = after }) front same) in
    subst (λ c. c < charts) one (chart_number-is charts chart word is)))

-- a route, from its data on
route_with_cap-is : (charts line : ℕ) (sent taken : EventFront) (cap : ℕ) (text : List ℕ) (route : RouteText)
    → sent.chart < charts → taken.chart < charts → 1 ≤ cap → cap ≤ 1024
    → route_with_cap line sent taken cap text ≡ Some route
    → IsRouteWithin charts route
route_with_cap-is charts line sent taken cap text route s t some few h =
    let made : DataNames → RouteText = λ pair. record {
      line = line;
      from = sent.chart;
      emit = sent.event;
      to = taken.chart;
      event = taken.event;
      cap = cap;
      source = pair.source;
      target = pair.target;
    } in
    option_map_some made (data_names text) route h (λ pair is same.
    subst (IsRouteWithin charts) same (record { from = s; to = t; some = some; few = few }))

-- from its number of items on
route_with_taken-is : (charts line : ℕ) (sent taken : EventFront) (route : RouteText)
    → sent.chart < charts → taken.chart < charts
    → route_with_taken line sent taken ≡ Some route → IsRouteWithin charts route
route_with_taken-is charts line sent taken route s t h =
    word_then-is (number_within 1 1024) (route_with_cap line sent taken) taken.rest route h (λ cap word rest is more.
    let within = number_within-is 1 1024 cap word is in
    route_with_cap-is charts line sent taken cap rest route s t within.0 within.1 more)

-- the route of a line
route_of_line-is : (charts line : ℕ) (text : List ℕ) (route : RouteText) → route_of_line charts line text ≡ Some route
    → IsRouteWithin charts route
unfolding route_of_line
route_of_line-is charts line text route h =
    option_and_then_some (λ rest. option_and_then (route_with_sent charts line) (event_front charts rest))
    (behind (codes "r ") text) route h (λ rest begun g.
    option_and_then_some (route_with_sent charts line) (event_front charts rest) route g (λ sent first more.
    option_and_then_some (route_with_taken line sent) (event_front charts sent.rest) route more (λ taken second last.
    route_with_taken-is charts line sent taken route (event_front-is charts rest sent first)
    (event_front-is charts sent.rest taken second) last)))

-- ---- lines

-- there are 1 to 16 charts
record HasCharts (charts : List NetChart) : Type 0 where
  some : 1 ≤ length charts
  few : length charts ≤ 16

-- what was read before a line keeps to the limits, and so it will with what is still to come
abbrev KeepsTo : Expected → Partial → Type 0
KeepsTo expects.Version p = (p.charts ≡ []) × (p.routes ≡ [])
KeepsTo expects.ChartCount p = (p.charts ≡ []) × (p.routes ≡ [])
KeepsTo (expects.Chart more) p = (length p.charts + more < 16) × (p.routes ≡ [])
KeepsTo expects.RouteCount p = HasCharts p.charts × (p.routes ≡ [])
KeepsTo (expects.Route more) p =
    HasCharts p.charts × (length p.routes + more < 64) × All (IsRouteWithin (length p.charts)) p.routes
KeepsTo expects.End p = HasCharts p.charts × (length p.routes ≤ 64) × All (IsRouteWithin (length p.charts)) p.routes
KeepsTo expects.Nothing p =
    HasCharts p.charts × (length p.routes ≤ 64) × All (IsRouteWithin (length p.charts)) p.routes

-- a line of given words
words_keep : (expected : Expected) (p q : Partial) (b : Bool) → KeepsTo expected (record p { expected = expected })
    → (if b then Some (record p { expected = expected }) else None) ≡ Some q → KeepsTo q.expected q
words_keep expected p q true k h =
    subst (λ (r : Partial). KeepsTo r.expected r) (same_Some (record p { expected = expected }) q h) k
words_keep expected p q false k h = absurd cc

-- with so many charts to come
charts_keep : (p : Partial) (n : ℕ) → (p.charts ≡ []) × (p.routes ≡ []) → 1 ≤ n → n ≤ 16
    → KeepsTo (chart_next n) (with_chart_count p n)
charts_keep p zero k some few = absurd (omega arith)
charts_keep p (suc n) k some few = (rw (k.0) (omega arith), k.1)

-- with so many routes to come
routes_keep : (p : Partial) (n : ℕ) → HasCharts p.charts → p.routes ≡ [] → n ≤ 64
    → KeepsTo (route_next n) (with_route_count p n)
routes_keep p zero k none few = (k, rw none (omega arith), rw none (All-nil (IsRouteWithin (length p.charts))))
routes_keep p (suc n) k none few = (k, rw none (omega arith), rw none (All-nil (IsRouteWithin (length p.charts))))

-- one chart more
chart_keeps : (p : Partial) (more : ℕ) (chart : NetChart) → length p.charts + more < 16 → p.routes ≡ []
    → KeepsTo (chart_next more) (with_chart p more chart)
chart_keeps p zero chart few none =
    let one_more = length-append p.charts (chart ∷ []) in
    (record { some = omega (arith, one_more); few = omega (arith, one_more) }, none)
chart_keeps p (suc more) chart few none = (omega (arith, length-append p.charts (chart ∷ [])), none)

-- one route more
route_keeps : (p : Partial) (more : ℕ) (route : RouteText) → HasCharts p.charts → length p.routes + more < 64
    → All (IsRouteWithin (length p.charts)) p.routes → IsRouteWithin (length p.charts) route
    → KeepsTo (route_next more) (with_route p more route)
route_keeps p zero route k few all within =
    let one_more = length-append p.routes (route ∷ []) in
    (k, omega (arith, one_more), All-push (IsRouteWithin (length p.charts)) p.routes route all within)
route_keeps p (suc more) route k few all within =
    let one_more = length-append p.routes (route ∷ []) in
    (k, omega (arith, one_more), All-push (IsRouteWithin (length p.charts)) p.routes route all within)

-- one line more
next_at-keeps : (expected : Expected) (p : Partial) (number : ℕ) (line : List ℕ) (q : Partial) → KeepsTo expected p
    → next_at expected p number line ≡ Some q → KeepsTo q.expected q
next_at-keeps expects.Version p number line q k h =
    words_keep expects.ChartCount p q (bytes_eq line (codes "flownet 1")) k h
next_at-keeps expects.ChartCount p number line q k h =
    option_map_some (with_chart_count p) (count_behind (codes "charts ") 1 16 line) q h (λ n is same.
    let within = count_behind-is (codes "charts ") 1 16 n line is in
    subst (λ (r : Partial). KeepsTo r.expected r) same (charts_keep p n k within.0 within.1))
next_at-keeps (expects.Chart more) p number line q k h =
    option_map_some (with_chart p more) (chart_of_line line) q h (λ chart is same.
    subst (λ (r : Partial). KeepsTo r.expected r) same (chart_keeps p more chart k.0 k.1))
next_at-keeps expects.RouteCount p number line q k h =
    option_map_some (with_route_count p) (count_behind (codes "routes ") 0 64 line) q h (λ n is same.
    let within = count_behind-is (codes "routes ") 0 64 n line is in
    subst (λ (r : Partial). KeepsTo r.expected r) same (routes_keep p n k.0 k.1 within.1))
next_at-keeps (expects.Route more) p number line q k h =
    option_map_some (with_route p more) (route_of_line (length p.charts) number line) q h (λ route is same.
    subst (λ (r : Partial). KeepsTo r.expected r) same
    (route_keeps p more route k.0 k.1 k.2 (route_of_line-is (length p.charts) number line route is)))
next_at-keeps expects.End p number line q k h = words_keep expects.Nothing p q (bytes_eq line (codes "end")) k h
next_at-keeps expects.Nothing p number line q k h = absurd cc

-- the next line
next-keeps : (p : Partial) (number : ℕ) (line : List ℕ) (q : Partial) → KeepsTo p.expected p
    → next p number line ≡ Some q
    → KeepsTo q.expected q
unfolding next
next-keeps p number line q k h = next_at-keeps p.expected p number line q k h

-- ---- texts

-- there are 1 to 16 charts, and at most 64 routes between them
pub record IsWithin (net : NetText) : Type 0 where
  pub some : 1 ≤ length net.charts
  pub few : length net.charts ≤ 16
  pub few_routes : length net.routes ≤ 64
  pub routes : All (IsRouteWithin (length net.charts)) net.routes

-- what was read to its end
whole_within : (expected : Expected) (p : Partial) → has_ended expected ≡ true → KeepsTo expected p
    → IsWithin (all_read p)
whole_within expects.Version p w k = absurd cc
whole_within expects.ChartCount p w k = absurd cc
whole_within (expects.Chart more) p w k = absurd cc
whole_within expects.RouteCount p w k = absurd cc
whole_within (expects.Route more) p w k = absurd cc
whole_within expects.End p w k = absurd cc
whole_within expects.Nothing p w k = record { some = k.0.some; few = k.0.few; few_routes = k.1; routes = k.2 }

-- the end of a text
ended : (whole empty : Bool) (p : Partial) (number : ℕ) (net : NetText) → has_ended p.expected ≡ whole
    → KeepsTo p.expected p
    → (if not whole then Err faults.Truncated else if empty then Ok (all_read p) else Err (faults.Trailing number))
    ≡ Ok net
    → IsWithin net
ended false empty p number net w k h = absurd cc
ended true false p number net w k h = absurd cc
ended true true p number net w k h =
    let same : all_read p ≡ net = cc in subst IsWithin same (whole_within p.expected p w k)

-- the net of one line more
line_within : (o : Option Partial) (fault : NetFault) (go : Partial → Result NetText NetFault) (net : NetText)
    → ((q : Partial) → o ≡ Some q → go q ≡ Ok net → IsWithin net) → or_refuse o fault go ≡ Ok net → IsWithin net
line_within None fault go net k h = absurd cc
line_within (Some q) fault go net k h = k q refl h

-- the net of lines
outcome_from-within : (p : Partial) (number : ℕ) (lines : List (List ℕ)) (rest : List ℕ) (net : NetText)
    → KeepsTo p.expected p
    → outcome_from p number lines rest ≡ Ok net → IsWithin net
outcome_from-within p number [] rest net k h =
    ended (has_ended p.expected) (nat_eq (length rest) 0) p number net refl k h
outcome_from-within p number (line ∷ lines) rest net k h =
    line_within (next p number line) (refusal p.expected number) (λ q. outcome_from q (number + 1) lines rest) net
    (λ q e g. outcome_from-within q (number + 1) lines rest net (next-keeps p number line q k e) g) h

-- the net of the lines of a text
pub outcome_of-within : (text : List ℕ) (net : NetText) → outcome_of text ≡ Ok net → IsWithin net
outcome_of-within text net h =
    outcome_from-within nothing_read 1 (cut_of text).lines (cut_of text).rest net (refl, refl) h

-- a net without a fault
named_is : (read : Result NetText NetFault) (net : NetText) → ((made : NetText) → read ≡ Ok made → IsWithin made)
    → with_own_names read ≡ Ok net → IsNetText net
named_is (Err fault) net k h = absurd cc
named_is (Ok made) net k h = unless (first_repeat [] (names_of made.charts)) refl h
  where
    unless : (o : Option ℕ) → first_repeat [] (names_of made.charts) ≡ o → unless_repeated made o ≡ Ok net
        → IsNetText net
    unless (Some chart) e g = absurd cc
    unless None e g =
        let within = k made refl in
        let is : IsNetText made = record {
          some = within.some;
          few = within.few;
          named = e;
          few_routes = within.few_routes;
          routes = within.routes;
        } in
        let same : made ≡ net = cc in
        subst IsNetText same is

-- a text, by whether it is too long
by_length : (long : Bool) (text : List ℕ) (net : NetText)
    → (if long then Err faults.TextTooLong else with_own_names (outcome_of text)) ≡ Ok net → IsNetText net
by_length true text net h = absurd cc
by_length false text net h = named_is (outcome_of text) net (λ made e. outcome_of-within text made e) h

-- a text without a fault
pub net_of_text-within : (text : List ℕ) (net : NetText) → net_of_text text ≡ Ok net → IsNetText net
net_of_text-within text net h = by_length (nat_lt 65536 (length text)) text net h

-- the answer of the reader
pub answer_within : (text : List ℕ) (r : Result declared.NetText NetFault) → Answers r (net_of_text text)
    → IfOk r (λ net. IsNetText (net_text_of net))
answer_within text (Ok net) h = net_of_text-within text (net_text_of net) h
answer_within text (Err fault) h = tt
