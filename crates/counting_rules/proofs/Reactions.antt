-- A chart with its counters written out starts and reacts as the rules with counters say, and only so.
use Rattle.std.proofs.Common.{◌↔◌, ◌≡◌, ℕ, ◌≤◌, max, Option, Some, None, subst, arith, List, [], ◌∷◌}
use Rattle.flow_base.specs.declared.fault.Fault.{Fault}
use Rattle.flow_base.specs.declared.bounds.Bounds.{Bounds}
use Rattle.active_config.specs.Tree.{IsTree}
use Rattle.actions.specs.declared.event.Event.{Event}
use Rattle.actions.specs.declared.event.Event.TheVariants.{Start}
use Rattle.actions.specs.Runs.{Moment, EventWithInputs, StartRelation, ReactionRelation, Runs, GoesOn, UnlessFaulted}
use Rattle.actions.specs.World.{World, world_before, begun}
use Rattle.actions.specs.Work.{Run, from_outside}
use Rattle.checked_chart.specs.Chart.{Chart, Node}
use Rattle.sos_rules.specs.Reactions.{moment_of, Gives, start_upto, react_upto, HasOne, Starts, Reacts}
use Rattle.sos_rules.proofs.Extends.{Extends, later, same}
use Rattle.sos_rules.proofs.Reactions.{one_start, one_reaction}
use Rattle.counting_rules.specs.Counters.{Counters, no_counters}
use Rattle.counting_rules.specs.Reactions.{counting_start_upto, counting_react_upto, CountingStarts, CountingReacts}
use Rattle.counting_rules.specs.Written.{with_nodes}
use Rattle.counting_rules.proofs.Written.{WritesOut}
use Rattle.counting_rules.proofs.Grows.{counting_grows}
use Rattle.counting_rules.proofs.Counts.{written_below}
use Rattle.counting_rules.proofs.Plain.{plain_below}

-- a run that extends one that is over is over in the same way
same_moment : {A : Type 0} {r s : Run A} → Extends r s → (x : Moment) → moment_of r ≡ Some x → moment_of s ≡ Some x
same_moment later x e = absurd cc
same_moment same x e = e

-- work that a greater height doesn't change leads to one moment
one_moment : {A : Type 0} (m : ℕ → Run A) → ((i j : ℕ) → i ≤ j → Extends (m i) (m j))
    → (r s : Moment) → Gives m r → Gives m s → r ≡ s
one_moment m up r s x y =
    let n = max x.height y.height in
    let a = same_moment (up x.height n (omega arith)) r x.gives in
    let b = same_moment (up y.height n (omega arith)) s y.gives in
    cc

-- work that extends other work leads where that leads, and nowhere else where that leads to one moment
forth : {A : Type 0} (m n : ℕ → Run A) → ((i : ℕ) → Extends (m i) (n i)) → (r : Moment) → Gives m r → Gives n r
forth m n up r x = record { height = x.height; gives = same_moment (up x.height) r x.gives }

back : {A : Type 0} (m n : ℕ → Run A) → ((i : ℕ) → Extends (m i) (n i))
    → ((i j : ℕ) → i ≤ j → Extends (n i) (n j)) → HasOne (Gives m) → (r : Moment) → Gives n r → Gives m r
back m n up grows one r y =
    subst (Gives m) (one_moment n grows one.moment r (forth m n up one.moment one.holds) y) one.holds

module _ (c : Chart) (k : Counters) (way : ℕ) (ns : List Node) (h : WritesOut c k way ns) (b : Bounds) where
  start_up : (i : ℕ) → Extends (start_upto (with_nodes c ns) b i) (counting_start_upto c k b i)
  start_up i = (written_below c k way ns h b i).enter 0 0 (from_outside Start) (world_before c.tree c.names)

  start_grows : (i j : ℕ) → i ≤ j → Extends (counting_start_upto c k b i) (counting_start_upto c k b j)
  start_grows i j le = (counting_grows c k b i j le).enter 0 0 (from_outside Start) (world_before c.tree c.names)

  react_up : (w : World) (e : Event) (i : ℕ)
      → Extends (react_upto (with_nodes c ns) b w e i) (counting_react_upto c k b w e i)
  react_up w e i = (written_below c k way ns h b i).process 0 (from_outside e) (begun w)

  react_grows : (w : World) (e : Event) (i j : ℕ) → i ≤ j
      → Extends (counting_react_upto c k b w e i) (counting_react_upto c k b w e j)
  react_grows w e i j le = (counting_grows c k b i j le).process 0 (from_outside e) (begun w)

  pub start_counts : (r : Moment) → Gives (start_upto (with_nodes c ns) b) r → Gives (counting_start_upto c k b) r
  start_counts r x = forth _ _ start_up r x

  pub reaction_counts : (w : World) (e : Event) (r : Moment) → Gives (react_upto (with_nodes c ns) b w e) r
      → Gives (counting_react_upto c k b w e) r
  reaction_counts w e r x = forth _ _ (react_up w e) r x

  pub start_is_counted : IsTree c.tree → (r : Moment) → Gives (counting_start_upto c k b) r
      → Gives (start_upto (with_nodes c ns) b) r
  start_is_counted tree r y = back _ _ start_up start_grows (one_start (with_nodes c ns) b tree) r y

  pub reaction_is_counted : IsTree c.tree → (w : World) (e : Event) (r : Moment)
      → Gives (counting_react_upto c k b w e) r → Gives (react_upto (with_nodes c ns) b w e) r
  reaction_is_counted tree w e r y =
      back _ _ (react_up w e) (react_grows w e) (one_reaction (with_nodes c ns) b tree w e) r y

-- ---- runs

-- each start and each reaction of the first kind is one of the second
pub record Leads (start start' : StartRelation) (react react' : ReactionRelation) : Type 0 where
  pub starts : (w : World) (f : Option Fault) → start w f → start' w f
  pub reacts : (w : World) (e : Event) (v : World) (f : Option Fault) → react w e v f → react' w e v f

unless : {A B : Type 0} (f : Option Fault) (moments : List Moment) → (A → B) → UnlessFaulted f moments A
    → UnlessFaulted f moments B
unless None moments g x = g x
unless (Some fault) moments g x = x

module _ (start start' : StartRelation) (react react' : ReactionRelation) (l : Leads start start' react react') where
  goes_on : (m : Moment) (events : List EventWithInputs) (moments : List Moment)
      → GoesOn react m events moments → GoesOn react' m events moments
  goes_on m [] moments g = g
  goes_on m (given ∷ events) moments g =
      unless m.fault moments (λ x.
      let r = x.3 in (x.0, x.1, x.2, (r.0, r.1, l.reacts _ _ _ _ r.2), goes_on x.0 events x.1 x.4)) g

  pub runs_lead : (events : List EventWithInputs) (moments : List Moment)
      → Runs start react events moments → Runs start' react' events moments
  runs_lead events [] r = r
  runs_lead events (m ∷ moments) r = (l.starts _ _ r.0, goes_on m events moments r.1)

module _ (c : Chart) (k : Counters) (way : ℕ) (ns : List Node) (h : WritesOut c k way ns) (b : Bounds) where
  pub run_counts : (events : List EventWithInputs) (moments : List Moment)
      → Runs (Starts (with_nodes c ns) b) (Reacts (with_nodes c ns) b) events moments
      → Runs (CountingStarts c k b) (CountingReacts c k b) events moments
  run_counts events moments r =
      runs_lead _ _ _ _
      (record {
        starts = λ w f x. start_counts c k way ns h b _ x;
        reacts = λ w e v f x. reaction_counts c k way ns h b w e _ x;
      }) events moments r

  pub run_is_counted : IsTree c.tree → (events : List EventWithInputs) (moments : List Moment)
      → Runs (CountingStarts c k b) (CountingReacts c k b) events moments
      → Runs (Starts (with_nodes c ns) b) (Reacts (with_nodes c ns) b) events moments
  run_is_counted tree events moments r =
      runs_lead _ _ _ _
      (record {
        starts = λ w f x. start_is_counted c k way ns h b tree _ x;
        reacts = λ w e v f x. reaction_is_counted c k way ns h b tree w e _ x;
      }) events moments r

-- ---- without counters

module _ (c : Chart) (b : Bounds) where
  plain_start_up : (i : ℕ) → Extends (start_upto c b i) (counting_start_upto c no_counters b i)
  plain_start_up i = (plain_below c b i).enter 0 0 (from_outside Start) (world_before c.tree c.names)

  plain_start_grows : (i j : ℕ) → i ≤ j
      → Extends (counting_start_upto c no_counters b i) (counting_start_upto c no_counters b j)
  plain_start_grows i j le =
      (counting_grows c no_counters b i j le).enter 0 0 (from_outside Start) (world_before c.tree c.names)

  plain_react_up : (w : World) (e : Event) (i : ℕ)
      → Extends (react_upto c b w e i) (counting_react_upto c no_counters b w e i)
  plain_react_up w e i = (plain_below c b i).process 0 (from_outside e) (begun w)

  plain_react_grows : (w : World) (e : Event) (i j : ℕ) → i ≤ j
      → Extends (counting_react_upto c no_counters b w e i) (counting_react_upto c no_counters b w e j)
  plain_react_grows w e i j le = (counting_grows c no_counters b i j le).process 0 (from_outside e) (begun w)

  pub plain_start : IsTree c.tree → (r : Moment)
      → Gives (start_upto c b) r ↔ Gives (counting_start_upto c no_counters b) r
  plain_start tree r =
      (forth _ _ plain_start_up r, back _ _ plain_start_up plain_start_grows (one_start c b tree) r)

  pub plain_reaction : IsTree c.tree → (w : World) (e : Event) (r : Moment)
      → Gives (react_upto c b w e) r ↔ Gives (counting_react_upto c no_counters b w e) r
  plain_reaction tree w e r = (
    forth _ _ (plain_react_up w e) r,
    back _ _ (plain_react_up w e) (plain_react_grows w e) (one_reaction c b tree w e) r,
  )

  pub plain_run : IsTree c.tree → (events : List EventWithInputs) (moments : List Moment)
      → Runs (Starts c b) (Reacts c b) events moments
      ↔ Runs (CountingStarts c no_counters b) (CountingReacts c no_counters b) events moments
  plain_run tree events moments = (
    runs_lead _ _ _ _
        (record {
          starts = λ w f. (plain_start tree _).0;
          reacts = λ w e v f. (plain_reaction tree w e _).0;
        }) events moments,
    runs_lead _ _ _ _
        (record {
          starts = λ w f. (plain_start tree _).1;
          reacts = λ w e v f. (plain_reaction tree w e _).1;
        }) events moments,
  )
