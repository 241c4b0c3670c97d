-- The newlines of a trace: one for each moment.
use Rattle.std.proofs.Common.{◌≡◌, ℕ, zero, suc, ◌+◌, ◌/◌, ◌%◌, ◌<◌, ◌==◌, Bool, true, false, not, ◌&&◌, nat_eq}
use Rattle.std.proofs.Common.{nat_lt, cond, List, [], ◌∷◌, ◌++◌, map, drop, reverse}
use Rattle.std.proofs.Common.{length, get_or, Option, Some, None, refl, sym, ap, ◌∙◌, arith, if◌then◌else◌}
use Rattle.std.specs.Prelude.{codes, decimal, ℤ, pos, negsuc, unsigned_abs, slice_get, slice_index_or}
use Rattle.std.specs.Fmt.{digit_glyph, digits_onto, digits}
use Rattle.std.specs.List.{list_all, AllByRecursion, join_with_byte}
use Rattle.std.specs.Option.{option_map_or}
use Rattle.std.proofs.lemmas.Bool.{and_parts, eqb-true}
use Rattle.std.proofs.lemmas.Bool.Decides.{nat_tests}
use Rattle.std.proofs.lemmas.List.Folds.{list_all-append}
use Rattle.std.proofs.lemmas.List.Sums.{sum_by-append, sum_by-cons, prefix_len_passes}
use Rattle.flow_base.specs.declared.fault.Fault.{Fault}
use Rattle.flow_base.specs.declared.fault.Fault.TheVariants as run_faults
use Rattle.fixed_point.specs.Text.{last_digits, places_of, behind_point, sign_of, decimal_text}
use Rattle.chart_lexer.specs.Bytes.{is_letter, is_name_byte, begins}
use Rattle.chart_lexer.specs.Words.{name_length, is_name}
use Rattle.active_config.specs.Tree.{Tree, ancestors}
use Rattle.actions.specs.Data.{Datum, value_of_datum}
use Rattle.actions.specs.Names.{Names}
use Rattle.actions.specs.Runs.{EventWithInputs, Moment, StartRelation, ReactionRelation, ReactsWithInputs}
use Rattle.actions.specs.Runs.{UnlessFaulted, GoesOn, Runs}
use Rattle.actions.specs.World.{World}
use Rattle.actions.specs.declared.event.Event.{Event}
use Rattle.actions.specs.declared.event.Event.TheVariants as events
use Rattle.actions.specs.declared.expr.Value.{Value}
use Rattle.actions.specs.declared.expr.Value.TheVariants as values
use Rattle.actions.specs.declared.names.EventDecl.{EventDecl}
use Rattle.actions.specs.declared.names.Var.{Var}
use Rattle.checked_chart.specs.Valid.{HasNames}
use Rattle.event_file.specs.Lines.{IsPlain}
use Rattle.trace_text.specs.Trace.{state_name, datum_name, event_name, event_word, path_of, active_states, value_text}
use Rattle.trace_text.specs.Trace.{value_texts, listed}
use Rattle.trace_text.specs.Trace.{result_word, line_front, line_of, trace_line}
use Rattle.step_driver.specs.Traces.{trace, trace_from}
use Rattle.flow_program.specs.Newlines.{newlines}

-- ---- texts without a newline

-- two texts without a newline, one after the other
plain-append : (a b : List ℕ) → IsPlain a → IsPlain b → IsPlain (a ++ b)
plain-append [] b h g = g
plain-append (x ∷ a) b h g = (h.0, plain-append a b h.1 g)

-- a byte that the test tells from a newline
differs : (b : ℕ) → not (nat_eq b 10) ≡ true → nat_eq b 10 ≡ false
differs b h = grind (arith, nat_tests)

-- a text that passes the test
tested : (text : List ℕ) → list_all (λ b. not (nat_eq b 10)) text ≡ true → IsPlain text
tested [] h = tt
tested (b ∷ text) h =
    let both = and_parts (not (nat_eq b 10)) (list_all (λ c. not (nat_eq c 10)) text) h in
    (differs b both.0, tested text both.1)

-- either of two texts
either_plain : (b : Bool) (x y : List ℕ) → IsPlain x → IsPlain y → IsPlain (if b then x else y)
either_plain true x y h g = h
either_plain false x y h g = g

-- texts with a byte between them that is no newline
join_plain : (c : ℕ) (parts : List (List ℕ)) → nat_eq c 10 ≡ false → AllByRecursion IsPlain parts
    → IsPlain (join_with_byte c parts)
join_plain c [] h all = tt
join_plain c (x ∷ []) h all = all.0
join_plain c (x ∷ (y ∷ parts)) h all =
    plain-append x (c ∷ join_with_byte c (y ∷ parts)) all.0 (h, join_plain c (y ∷ parts) h all.1)

-- the texts of numbers
map_plain : (f : ℕ → List ℕ) (xs : List ℕ) → ((x : ℕ) → IsPlain (f x)) → AllByRecursion IsPlain (map f xs)
map_plain f [] h = tt
map_plain f (x ∷ xs) h = (h x, map_plain f xs h)

-- ---- numbers

-- a digit is no newline
glyph_at : (d : ℕ) (below : Bool) → nat_eq (if below then 48 + d else 87 + d) 10 ≡ false
glyph_at d true = grind (arith, nat_tests)
glyph_at d false = grind (arith, nat_tests)

-- digits in front of a text
digits_plain : (k n : ℕ) (acc : List ℕ) → IsPlain acc → IsPlain (digits_onto k 10 false n acc)
digits_plain zero n acc h = h
digits_plain (suc k) n acc h =
    let glyph = digit_glyph false (n % 10) in
    let more : IsPlain (glyph ∷ acc) = (glyph_at (n % 10) (nat_lt (n % 10) 10), h) in
    either_plain (n / 10 == 0) (glyph ∷ acc) (digits_onto k 10 false (n / 10) (glyph ∷ acc)) more
    (digits_plain k (n / 10) (glyph ∷ acc) more)

-- a number
decimal_plain : (n : ℕ) → IsPlain (decimal n)
unfolding digits
decimal_plain n = digits_plain 64 n [] tt

-- the last digits of a number
last_plain : (k n : ℕ) → IsPlain (last_digits k n)
unfolding last_digits
last_plain zero n = tt
last_plain (suc k) n =
    plain-append (last_digits k (n / 10)) ((48 + n % 10) ∷ []) (last_plain k (n / 10)) (glyph_at (n % 10) true, tt)

-- a sign
sign_plain : (m : ℤ) → IsPlain (sign_of m)
sign_plain (pos n) = tt
sign_plain (negsuc n) = (refl, tt)

-- a number with digits after the point
number_plain : (m : ℤ) (frac : ℕ) → IsPlain (decimal_text m frac)
unfolding decimal_text
number_plain m frac =
    let n = unsigned_abs m in
    plain-append (sign_of m ++ decimal _) (behind_point n frac)
    (plain-append (sign_of m) (decimal _) (sign_plain m) (decimal_plain _))
    (either_plain _ [] (46 ∷ last_digits (places_of n frac) _) tt (refl, last_plain (places_of n frac) _))

-- a value
value_plain : (v : Value) → IsPlain (value_text v)
value_plain (values.Flag b) = either_plain b (codes "true") (codes "false") (tested (codes "true") refl)
    (tested (codes "false") refl)
value_plain (values.Number x) = number_plain x.mantissa x.frac

-- ---- names

-- a name byte is no newline
name_byte_differs : (b : ℕ) → is_name_byte b ≡ true → nat_eq b 10 ≡ false
name_byte_differs b h = grind (arith, nat_tests)

bytes_plain : (name : List ℕ) → ((k : ℕ) → k < length name → is_name_byte (get_or name k 0) ≡ true) → IsPlain name
bytes_plain [] h = tt
bytes_plain (b ∷ name) h = (name_byte_differs b (h 0 (omega arith)), bytes_plain name (λ k lt. h (suc k) (omega arith)))

-- a name
name_plain : (w : List ℕ) → is_name w ≡ true → IsPlain w
name_plain w h =
    let front = (and_parts (begins is_letter w && nat_eq (name_length w) (length w)) _ h).0 in
    let all : name_length w ≡ length w = eqb-true _ _ (and_parts (begins is_letter w)
    (nat_eq (name_length w) (length w)) front).1 in
    bytes_plain w (λ k lt. prefix_len_passes is_name_byte w k 0 (omega arith))

-- a name among names, and nothing past their end
names_plain : (names : List (List ℕ)) (s : ℕ) → list_all is_name names ≡ true → IsPlain (slice_index_or names s [])
names_plain [] s h = tt
names_plain (w ∷ names) zero h = name_plain w (and_parts (is_name w) (list_all is_name names) h).0
names_plain (w ∷ names) (suc s) h = names_plain names s (and_parts (is_name w) (list_all is_name names) h).1

data_plain : (vars : List Var) (v : ℕ) → list_all is_name (map (λ (x : Var). x.name) vars) ≡ true
    → IsPlain (option_map_or (λ (x : Var). x.name) (slice_get vars v) [])
data_plain [] v h = tt
data_plain (x ∷ vars) zero h = name_plain x.name (and_parts (is_name x.name) _ h).0
data_plain (x ∷ vars) (suc v) h = data_plain vars v (and_parts (is_name x.name) _ h).1

events_plain : (decls : List EventDecl) (e : ℕ) → list_all is_name (map (λ (x : EventDecl). x.name) decls) ≡ true
    → IsPlain (option_map_or (λ (x : EventDecl). x.name) (slice_get decls e) [])
events_plain [] e h = tt
events_plain (x ∷ decls) zero h = name_plain x.name (and_parts (is_name x.name) _ h).0
events_plain (x ∷ decls) (suc e) h = events_plain decls e (and_parts (is_name x.name) _ h).1

-- data with their values
values_plain : (vars : List Var) (vals : List Datum) → list_all is_name (map (λ (x : Var). x.name) vars) ≡ true
    → AllByRecursion IsPlain (value_texts vars vals)
values_plain [] vals h = tt
values_plain (x ∷ vars) [] h = tt
values_plain (x ∷ vars) (d ∷ vals) h =
    let both = and_parts (is_name x.name) _ h in (
      plain-append (x.name ++ codes "=") (value_text (value_of_datum d))
          (plain-append x.name (codes "=") (name_plain x.name both.0) (tested (codes "=") refl))
          (value_plain (value_of_datum d)),
      values_plain vars vals both.1,
    )

-- all names of declarations are NAMEs
pub record AreNames (n : Names) : Type 0 where
  pub states : list_all is_name n.states ≡ true
  pub vars : list_all is_name (map (λ (x : Var). x.name) n.vars) ≡ true
  pub events : list_all is_name (map (λ (x : EventDecl). x.name) n.events) ≡ true

-- those of a valid chart
pub are_names : (t : Tree) (n : Names) → HasNames t n → AreNames n
are_names t n h =
    let vars = map (λ (x : Var). x.name) n.vars in
    let decls = map (λ (x : EventDecl). x.name) n.events in
    let both = and_parts (list_all is_name vars) (list_all is_name decls) (sym (list_all-append is_name vars decls)
    ∙ h.declared) in
    record { states = h.states; vars = both.0; events = both.1 }

-- ---- a line of a trace

-- an event
event_plain : (n : Names) (e : Event) → AreNames n → IsPlain (event_word n e)
event_plain n events.Start h = tested (codes "start") refl
event_plain n events.Tick h = tested (codes "tick") refl
event_plain n (events.Named e) h = events_plain n.events e h.events

-- how an event ended
result_plain : (n : Names) (f : Option Fault) → AreNames n → IsPlain (result_word n f)
result_plain n None h = tested (codes "ok") refl
result_plain n (Some run_faults.Depth) h = tested (codes "depth") refl
result_plain n (Some run_faults.Steps) h = tested (codes "steps") refl
result_plain n (Some (run_faults.Overflow v)) h =
    plain-append (codes "overflow ") (datum_name n v) (tested (codes "overflow ") refl) (data_plain n.vars v h.vars)
result_plain n (Some run_faults.Zero) h = tested (codes "zero") refl

-- texts in a list
listed_plain : (parts : List (List ℕ)) → AllByRecursion IsPlain parts → IsPlain (listed parts)
listed_plain [] all = tested (codes "-") refl
listed_plain (x ∷ parts) all = join_plain 44 (x ∷ parts) refl all

-- a path
path_plain : (t : Tree) (n : Names) (s : ℕ) → AreNames n → IsPlain (path_of t n s)
unfolding path_of
path_plain t n s h =
    let above = drop 1 (reverse (s ∷ ancestors t s)) in
    join_plain 47 (map (state_name n) above) refl (map_plain (state_name n) above
    (λ x. names_plain n.states x h.states))

-- the newlines of two texts, one after the other
newlines-append : (a b : List ℕ) → newlines (a ++ b) ≡ newlines a + newlines b
newlines-append a b = sum_by-append (λ (c : ℕ). cond (nat_eq c 10) 1 0) a b

-- a text without a newline has none
newlines_none : (a : List ℕ) → IsPlain a → newlines a ≡ 0
newlines_none [] h = refl
newlines_none (b ∷ a) h =
    let here : cond {A = ℕ} (nat_eq b 10) 1 0 ≡ 0 = ap (λ (c : Bool). cond {A = ℕ} c 1 0) h.0 in
    sum_by-cons (λ (c : ℕ). cond (nat_eq c 10) 1 0) b a ∙ omega (arith, here, newlines_none a h.1)

-- a line has one newline
line_one : (t : Tree) (n : Names) (w : World) (index : ℕ) (e : Event) (f : Option Fault) → AreNames n
    → newlines (trace_line t n w index e f) ≡ 1
unfolding line_front line_of
line_one t n w index e f h =
    let states = join_with_byte 44 (map (path_of t n) (active_states t w.marks)) in
    let vals = listed (value_texts n.vars w.vals) in
    let outputs = listed (map (event_name n) w.outputs) in
    let p1 = decimal index ++ codes " " in
    let p2 = p1 ++ event_word n e in
    let p3 = p2 ++ codes " [" in
    let p4 = p3 ++ states in
    let p5 = p4 ++ codes "] " in
    let p6 = p5 ++ vals in
    let p7 = p6 ++ codes " " in
    let p8 = p7 ++ outputs in
    let p9 = p8 ++ codes " " in
    let p10 = p9 ++ result_word n f in
    let states_are = join_plain 44 (map (path_of t n) (active_states t w.marks)) refl
    (map_plain (path_of t n) (active_states t w.marks) (λ s. path_plain t n s h)) in
    let h1 = plain-append (decimal index) (codes " ") (decimal_plain index) (tested (codes " ") refl) in
    let h2 = plain-append p1 (event_word n e) h1 (event_plain n e h) in
    let h3 = plain-append p2 (codes " [") h2 (tested (codes " [") refl) in
    let h4 = plain-append p3 states h3 states_are in
    let h5 = plain-append p4 (codes "] ") h4 (tested (codes "] ") refl) in
    let h6 = plain-append p5 vals h5 (listed_plain (value_texts n.vars w.vals) (values_plain n.vars w.vals h.vars)) in
    let h7 = plain-append p6 (codes " ") h6 (tested (codes " ") refl) in
    let h8 = plain-append p7 outputs h7
    (listed_plain (map (event_name n) w.outputs) (map_plain (event_name n) w.outputs
    (λ x. events_plain n.events x h.events))) in
    let h9 = plain-append p8 (codes " ") h8 (tested (codes " ") refl) in
    let h10 = plain-append p9 (result_word n f) h9 (result_plain n f h) in
    newlines-append p10 (codes "\n") ∙ ap (λ (x : ℕ). x + 1) (newlines_none p10 h10)

-- ---- a trace

-- one line more
one_more : (line text : List ℕ) (count : ℕ) → newlines line ≡ 1 → newlines text ≡ count → newlines (line ++ text)
    ≡ suc count
one_more line text count one more = newlines-append line text ∙ omega (arith, one, more)

-- the lines of the moments after one
from_lines : (react : ReactionRelation) (t : Tree) (n : Names) (h : AreNames n) (index : ℕ) (m : Moment)
    (given : List EventWithInputs)
    (moments : List Moment) → GoesOn react m given moments → newlines (trace_from t n index given moments)
    ≡ length moments
from_lines react t n h index m [] moments goes = rw goes refl
from_lines react t n h index m (event ∷ given) moments goes =
    by_fault m.fault (λ next later go. from_lines react t n h (index + 1) next given later go) goes
  where
    by_fault : (f : Option Fault)
        → ((next : Moment) (later : List Moment) → GoesOn react next given later
        → newlines (trace_from t n (index + 1) given later) ≡ length later)
        → UnlessFaulted f moments ((next : Moment) × (later : List Moment) × (moments ≡ next ∷ later)
        × ReactsWithInputs react m.world event next.world next.fault × GoesOn react next given later)
        → newlines (trace_from t n index (event ∷ given) moments) ≡ length moments
    by_fault None rest (next, later, is, reacts, go) =
        rw is (one_more (trace_line t n next.world index event.event next.fault)
        (trace_from t n (index + 1) given later) (length later)
        (line_one t n next.world index event.event next.fault h) (rest next later go))
    by_fault (Some fault) rest none = rw none refl

-- a trace has a line for each moment
pub trace_lines : (start : StartRelation) (react : ReactionRelation) (t : Tree) (n : Names) → AreNames n
    → (given : List EventWithInputs)
    (moments : List Moment) → Runs start react given moments → newlines (trace t n given moments) ≡ length moments
trace_lines start react t n h given [] runs = absurd runs
trace_lines start react t n h given (m ∷ moments) runs =
    one_more (trace_line t n m.world 0 events.Start m.fault) (trace_from t n 1 given moments) (length moments)
    (line_one t n m.world 0 events.Start m.fault h) (from_lines react t n h 1 m given moments runs.1)
