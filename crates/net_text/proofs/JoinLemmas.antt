-- What the route of a text joins.
use Rattle.std.proofs.Common.{◌≡◌, ℕ, Bool, true, false, ◌&&◌, nat_eq, List, [], ◌∷◌, get_or, position, slice_get}
use Rattle.std.proofs.Common.{Option, Some, None, IfSome, refl, sym, ap, subst}
use Rattle.std.specs.Prelude.{option_map, option_and_then, if◌then◌else◌}
use Rattle.std.specs.Str.{bytes_eq}
use Rattle.std.proofs.lemmas.Bool.{and_parts, eqb-true}
use Rattle.std.proofs.lemmas.List.Quantifiers.{position-Some}
use Rattle.std.proofs.lemmas.Option.{same_Some, option_and_then_some, slice_get-get_or}
use Rattle.actions.specs.Engines.{IsInputEvent}
use Rattle.actions.specs.Names.{Names}
use Rattle.actions.specs.declared.names.EventKind.{EventKind}
use Rattle.actions.specs.declared.names.EventKind.TheVariants as event_kinds
use Rattle.actions.specs.declared.names.Sort.{Sort}
use Rattle.actions.specs.declared.names.Sort.TheVariants as sorts
use Rattle.actions.specs.declared.names.Var.{Var}
use Rattle.actions.specs.declared.names.VarKind.{VarKind}
use Rattle.actions.specs.declared.names.VarKind.TheVariants as var_kinds
use Rattle.code_fields.proofs.CutLemmas.{option_map_some}
use Rattle.code_fields.proofs.ScaleLemmas.{same_scale as one_scale}
use Rattle.net_text.specs.declared.net.RouteText.{RouteText}
use Rattle.net_text.specs.declared.route.Route.{Route}
use Rattle.event_file.specs.EventLines as lines
use Rattle.event_file.specs.InputValues.{is_input}
use Rattle.net_text.specs.Routes.{is_emitted, is_output_event, is_input_event}
use Rattle.net_text.specs.Routes.{output_event, input_event, is_set_by_chart, is_output_datum}
use Rattle.net_text.specs.Routes.{is_input_datum, output_datum, input_datum, same_sign, same_sort, have_same_sort}
use Rattle.net_text.specs.Routes.{DataNumbers, numbers_with, numbers_named, data_numbers, IsOutputEvent, AreJoined}
use Rattle.net_text.specs.Routes.{DataJoined, Joins, HasSameNumbers, route_with, route_of}

-- what stands at a place that was found passes the test
found_at : {X : Type 0} (p : X → Bool) (xs : List X) (i : ℕ) → position p xs ≡ Some i
    → (x : X) × (slice_get xs i ≡ Some x) × (p x ≡ true)
found_at p [] i h = absurd cc
found_at p (x ∷ xs) i h =
    let is = position-Some p (x ∷ xs) i x h in
    (get_or (x ∷ xs) i x, slice_get-get_or (x ∷ xs) i x is.0, is.1)

-- ---- events

-- an output event
emitted_kind : (kind : EventKind) → is_emitted kind ≡ true → kind ≡ event_kinds.Output
emitted_kind event_kinds.Input h = absurd cc
emitted_kind event_kinds.Local h = absurd cc
emitted_kind event_kinds.Output h = refl

-- an input event
input_event_kind : (kind : EventKind) → lines.is_input_event kind ≡ true → kind ≡ event_kinds.Input
input_event_kind event_kinds.Input h = refl
input_event_kind event_kinds.Local h = absurd cc
input_event_kind event_kinds.Output h = absurd cc

-- what was found as an output event is one
output_event-is : (name : List ℕ) (n : Names) (e : ℕ) → output_event name n ≡ Some e → IsOutputEvent n e
output_event-is name n e h =
    let at = found_at (is_output_event name) n.events e h in
    let both = and_parts (bytes_eq at.0.name name) (is_emitted at.0.kind) at.2 in
    (at.0, at.1, emitted_kind at.0.kind both.1)

-- what was found as an input event is one
input_event-is : (name : List ℕ) (n : Names) (e : ℕ) → input_event name n ≡ Some e → IsInputEvent n e
input_event-is name n e h =
    let at = found_at (is_input_event name) n.events e h in
    let both = and_parts (bytes_eq at.0.name name) (lines.is_input_event at.0.kind) at.2 in
    (at.0, at.1, input_event_kind at.0.kind both.1)

-- ---- data

-- an output datum
set_by_chart : (kind : VarKind) → is_set_by_chart kind ≡ true → kind ≡ var_kinds.Output
set_by_chart var_kinds.Input h = absurd cc
set_by_chart var_kinds.Output h = refl
set_by_chart var_kinds.Local h = absurd cc

-- an input
input_kind : (kind : VarKind) → is_input kind ≡ true → kind ≡ var_kinds.Input
input_kind var_kinds.Input h = refl
input_kind var_kinds.Output h = absurd cc
input_kind var_kinds.Local h = absurd cc

-- both are signed, or neither is
same_sign-is : (a b : Bool) → same_sign a b ≡ true → a ≡ b
same_sign-is true b h = sym h
same_sign-is false true h = absurd cc
same_sign-is false false h = refl

-- sorts that pass the test are one
same_sort-is : (a b : Sort) → same_sort a b ≡ true → a ≡ b
same_sort-is sorts.Flag sorts.Flag h = refl
same_sort-is sorts.Flag (sorts.Number b) h = absurd cc
same_sort-is (sorts.Number a) sorts.Flag h = absurd cc
same_sort-is (sorts.Number a) (sorts.Number b) h =
    let outer = and_parts (same_sign a.signed b.signed) (nat_eq a.width b.width && nat_eq a.frac b.frac) h in
    let inner = and_parts (nat_eq a.width b.width) (nat_eq a.frac b.frac) outer.1 in
    let sign = same_sign-is a.signed b.signed outer.0 in
    ap (λ s. sorts.Number s)
    (one_scale a b sign (eqb-true a.width b.width inner.0) (eqb-true a.frac b.frac inner.1))

-- data whose sorts were compared
joined_if : (from to : Names) (s t : ℕ) (source target : Var) (o q : Option Var) (pair : DataNumbers) (b : Bool)
    → o ≡ Some source → q ≡ Some target → have_same_sort o q ≡ b
    → slice_get from.vars s ≡ Some source → slice_get to.vars t ≡ Some target
    → source.kind ≡ var_kinds.Output → target.kind ≡ var_kinds.Input
    → (if b then Some (record { source = Some s; target = Some t }) else None) ≡ Some pair
    → DataJoined from to pair.source pair.target
joined_if from to s t source target o q pair false eo eq same a b out inp h = absurd cc
joined_if from to s t source target o q pair true eo eq same a b out inp h =
    let first : have_same_sort (Some source) q ≡ true = subst (λ r. have_same_sort r q ≡ true) eo same in
    let both : same_sort source.sort target.sort ≡ true =
    subst (λ r. have_same_sort (Some source) r ≡ true) eq first in
    let joined : AreJoined from to s t = record {
      source = source;
      target = target;
      sent = a;
      given = b;
      output = out;
      input = inp;
      sorts = same_sort-is source.sort target.sort both;
    } in
    subst (λ (p : DataNumbers). DataJoined from to p.source p.target)
    (same_Some (record { source = Some s; target = Some t }) pair h) joined

-- data by their names
numbers_named-joined : (from to : Names) (source target : List ℕ) (pair : DataNumbers)
    → numbers_named from to source target ≡ Some pair
    → DataJoined from to pair.source pair.target
numbers_named-joined from to source target pair h =
    option_and_then_some (λ s. option_and_then (numbers_with from to s) (input_datum target to))
    (output_datum source from) pair h (λ s sent g.
    option_and_then_some (numbers_with from to s) (input_datum target to) pair g (λ t given more.
    let a = found_at (is_output_datum source) from.vars s sent in
    let b = found_at (is_input_datum target) to.vars t given in
    let out = and_parts (bytes_eq a.0.name source) (is_set_by_chart a.0.kind) a.2 in
    let inp = and_parts (bytes_eq b.0.name target) (is_input b.0.kind) b.2 in
    joined_if from to s t a.0 b.0 (slice_get from.vars s) (slice_get to.vars t) pair
    (have_same_sort (slice_get from.vars s) (slice_get to.vars t)) a.1 b.1 refl a.1 b.1 (set_by_chart a.0.kind out.1)
    (input_kind b.0.kind inp.1) more))

-- the data of a route
data_numbers-joined : (from to : Names) (source target : Option (List ℕ)) (pair : DataNumbers)
    → data_numbers from to source target ≡ Some pair
    → DataJoined from to pair.source pair.target
data_numbers-joined from to None None pair h =
    subst (λ (p : DataNumbers). DataJoined from to p.source p.target)
    (same_Some (record { source = None; target = None }) pair h) tt
data_numbers-joined from to None (Some target) pair h = absurd cc
data_numbers-joined from to (Some source) None pair h = absurd cc
data_numbers-joined from to (Some source) (Some target) pair h = numbers_named-joined from to source target pair h

-- ---- routes

-- a route by its names
route_of-is : (text : RouteText) (from to : Names) (route : Route) → route_of text from to ≡ Some route
    → Joins from to route × HasSameNumbers text route
unfolding route_of
route_of-is text from to route h =
    let numbers = data_numbers from to text.source text.target in
    let with_events : ℕ → ℕ → Option Route = λ emit event. option_map (route_with text emit event) numbers in
    let with_emit : ℕ → Option Route = λ emit. option_and_then (with_events emit) (input_event text.event to) in
    option_and_then_some with_emit (output_event text.emit from) route h (λ emit sent g.
    option_and_then_some (with_events emit) (input_event text.event to) route g (λ event taken more.
    option_map_some (route_with text emit event) numbers route more (λ pair named same.
    let joins : Joins from to (route_with text emit event pair) = record {
      emit = output_event-is text.emit from emit sent;
      event = input_event-is text.event to event taken;
      pair = data_numbers-joined from to text.source text.target pair named;
    } in
    let numbers_same : HasSameNumbers text (route_with text emit event pair) =
    record { from = refl; to = refl; cap = refl } in
    subst (λ (r : Route). Joins from to r × HasSameNumbers text r) same (joins, numbers_same))))

-- the route that is answered, if there is one, joins events and data as it should
pub route_joins : (text : RouteText) (from to : Names) (o : Option Route) → o ≡ route_of text from to
    → IfSome o (Joins from to)
route_joins text from to None e = tt
route_joins text from to (Some route) e = (route_of-is text from to route (sym e)).0

-- and has the charts and the number of items of the text
pub route_same : (text : RouteText) (from to : Names) (o : Option Route) → o ≡ route_of text from to
    → IfSome o (HasSameNumbers text)
route_same text from to None e = tt
route_same text from to (Some route) e = (route_of-is text from to route (sym e)).1
