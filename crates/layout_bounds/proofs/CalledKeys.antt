-- What lists call: the firings of their transitions, and what stands at the numbers of guards and condition actions.
use Rattle.std.proofs.Common.{◌≡◌, ℕ, ◌<◌, true, List, [], ◌∷◌, Option, Some, None}
use Rattle.std.specs.Prelude.{IfSome}
use Rattle.active_config.specs.Tree.{Tree, state_count}
use Rattle.actions.specs.Exprs.{Expr, Stmt}
use Rattle.checked_chart.specs.declared.parts.Dest.{Dest}
use Rattle.checked_chart.specs.declared.parts.Dest.TheVariants.{State, Junction}
use Rattle.checked_chart.specs.declared.parts.ListKind.{ListKind}
use Rattle.checked_chart.specs.declared.parts.ListKind.TheVariants.{Outer, Inner, Default}
use Rattle.checked_chart.specs.Chart.{Chart, Trans, list_of, junction}
use Rattle.checked_chart.specs.Homes.{home_of}
use Rattle.checked_chart.specs.Reached.{links_of, Reached}
use Rattle.checked_chart.specs.Valid.{IsValid}
use Rattle.code_language.specs.Code.{Procedures}
use Rattle.chart_code.specs.Compiled.{GuardBy, PartBy, ListCompiled}
use Rattle.chart_code.specs.Kinds.{IsDestination}
use Rattle.chart_code.specs.ListProcedures.{Search, context_of, search_of}
use Rattle.chart_code.specs.Numbers.{Numbers, TransNumbers, ListNumbers, condition_of, first_of_parts}
use Rattle.chart_code.specs.Numbers.{other_parts}
use Rattle.chart_code.proofs.Known.{Meaning, DestBy, EachBy, meaning_of}
use Rattle.chart_code.proofs.Validity.{list_by, junction_by}
use Rattle.chart_code.specs.Keys.{Key, Guard, ConditionOn, ConditionBare, Arrive, Take}
use Rattle.chart_code.specs.Places.{numbers, list_numbers}
use Rattle.chart_code.specs.ReachedJunctions.{has, reached}
use Rattle.chart_code.specs.Bodies.{procedures_of}
use Rattle.chart_code.proofs.EndsLemmas.{path_range}
use Rattle.chart_code.proofs.PartStands.{PartsStand, EachStands, list_parts_stand, junction_list_stands}
use Rattle.chart_code.proofs.ReachedLemmas.{are_reached, reached_within, list_valid}
use Rattle.chart_code.proofs.StateStands.{StandsAt, take_stands, arrive_stands}
use Rattle.chart_code.proofs.Whole.{lists_compiled}
use Rattle.layout_bounds.specs.Calls.{EachTrans, FiringCalls, ListCalls}

-- what a list calls for a destination: an outer or an inner list takes a firing, a default list arrives
abbrev pub fire_key : Tree → ℕ → ListKind → ℕ → Key
fire_key t s Outer d = Take (home_of t s Outer d) d
fire_key t s Inner d = Take s d
fire_key t s Default d = Arrive s d

-- what a condition action is of in a list
abbrev pub condition_key : ListKind → List Stmt → Key
condition_key Outer ss = ConditionOn ss
condition_key Inner ss = ConditionOn ss
condition_key Default ss = ConditionBare ss

-- ---- the parts of a transition

-- what holds where a guard stands holds of a guard's number
pub guard_if : (c : Chart) (P : ℕ → Type 0) → ((p : ℕ) (e : Expr) → StandsAt c p (Guard e) → P p) → (o : Option Expr)
    (q : Option ℕ) → GuardBy (λ p e. StandsAt c p (Guard e)) o q → IfSome q P
guard_if c P f None None h = tt
guard_if c P f None (Some q) h = absurd h
guard_if c P f (Some e) None h = absurd h
guard_if c P f (Some e) (Some q) h = f q e h

-- what holds where a key of statements stands holds of an action's number
pub part_if : (c : Chart) (P : ℕ → Type 0) (key : List Stmt → Key)
    → ((p : ℕ) (ss : List Stmt) → StandsAt c p (key ss) → P p) → (ss : List Stmt)
    (q : Option ℕ) → PartBy (λ p ss. StandsAt c p (key ss)) ss q → IfSome q P
part_if c P key f [] None h = tt
part_if c P key f [] (Some q) h = absurd h
part_if c P key f (s ∷ ss) None h = absurd h
part_if c P key f (s ∷ ss) (Some q) h = f q (s ∷ ss) h

-- the condition action of a transition stands at the number for the kind of list
pub condition_stands : (c : Chart) (kind : ListKind) (t : Trans) (q : TransNumbers) → PartsStand c t q
    → PartBy (λ p ss. StandsAt c p (condition_key kind ss)) t.condition (condition_of kind q)
condition_stands c Outer t q h = h.condition_on
condition_stands c Inner t q h = h.condition_on
condition_stands c Default t q h = h.condition_bare

module _ (c : Chart) (valid : IsValid c) where
  abbrev N : Numbers
  N = numbers c

  abbrev M : ListNumbers
  M = list_numbers c

  abbrev K : Procedures
  K = procedures_of c

  -- ---- firings

  -- what a list calls for a destination stands at its number
  pub fire_stands : (s : ℕ) (kind : ListKind) (d : ℕ) → IsDestination c.tree s kind d
      → StandsAt c ((context_of N c.tree s kind).fire d) (fire_key c.tree s kind d)
  fire_stands s Outer d to =
      let range = path_range c.tree valid.tree (home_of c.tree s Outer d) d to.path in
      take_stands c (home_of c.tree s Outer d) to.path.state valid.tree d range.0 range.1
  fire_stands s Inner d to =
      let range = path_range c.tree valid.tree s d to.path in
      take_stands c s to.path.state valid.tree d range.0 range.1
  fire_stands s Default d to =
      let range = path_range c.tree valid.tree s d to.path in
      arrive_stands c s to.path.state valid.tree d range.0 range.1

  -- a listed junction is reached
  pub is_reached : (s : ℕ) (kind : ListKind) (j : ℕ) → has (reached c (list_of c s kind)) j ≡ true
      → Reached (links_of c) (list_of c s kind) j
  is_reached s kind j h = ((are_reached c valid (list_of c s kind) (list_valid c valid s kind)).exact j).0 h

  module _ (s : ℕ) (kind : ListKind) (lt : s < state_count c.tree) (P : ℕ → Type 0)
      (fires : (d : ℕ) → IsDestination c.tree s kind d → P ((context_of N c.tree s kind).fire d)) where
    -- what the procedures of the list share
    abbrev S : Search
    S = search_of N M c.tree s kind

    -- what is known of its parts
    abbrev W : Meaning
    W = meaning_of c.tree K N s kind (Reached (links_of c) (list_of c s kind))

    -- the procedures of the list stand at their numbers
    abbrev L : ListCompiled c K N M s kind S
    L = (lists_compiled c valid).by s kind lt

    -- where a transition leads to a state, P holds of its firing
    dest_fires : (d : Dest) → DestBy W.dest W.junction d → FiringCalls S P d
    dest_fires (State d) to = fires d to
    dest_fires (Junction j) to = tt

    -- of all firings of the list
    each_fires : (ts : List Trans) (qs : List TransNumbers) → EachBy W kind ts qs
        → EachTrans (λ t q. FiringCalls S P t.dest) ts qs
    each_fires [] qs h = tt
    each_fires (t ∷ ts) qs h = (dest_fires t.dest h.0.dest, each_fires ts (other_parts qs) h.1)

    -- the firings of the list
    pub list_fires : EachTrans (λ t q. FiringCalls S P t.dest) (list_of c s kind) (M.parts s kind)
    list_fires = each_fires (list_of c s kind) (M.parts s kind) (list_by c valid K N M s kind lt L)

    -- those of a junction that is reached from it
    pub junction_fires : (j : ℕ) → Reached (links_of c) (list_of c s kind) j
        → EachTrans (λ t q. FiringCalls S P t.dest) (junction c j) (M.junction_parts j)
    junction_fires j r =
        each_fires (junction c j) (M.junction_parts j) (junction_by c valid K N M s kind lt L j r).parts

    -- ---- all that is called

    module _ (guards : (p : ℕ) (e : Expr) → StandsAt c p (Guard e) → P p)
        (conditions : (p : ℕ) (ss : List Stmt) → StandsAt c p (condition_key kind ss) → P p) where
      -- of the transitions of a list
      each_calls : (ts : List Trans) (qs : List TransNumbers) → EachStands c ts qs
          → EachTrans (λ t q. FiringCalls S P t.dest) ts qs → ListCalls S P ts qs
      each_calls [] qs h k = tt
      each_calls (t ∷ ts) qs h k = (
        record {
          guard = guard_if c P guards t.guard (first_of_parts qs).guard h.0.guard;
          condition = part_if c P (condition_key kind) conditions t.condition (condition_of kind (first_of_parts qs))
              (condition_stands c kind t (first_of_parts qs) h.0);
          firing = k.0;
        },
        each_calls ts (other_parts qs) h.1 k.1,
      )

      -- what the list calls
      pub list_calls : ListCalls S P (list_of c s kind) (M.parts s kind)
      list_calls = each_calls (list_of c s kind) (M.parts s kind) (list_parts_stand c s kind lt) list_fires

      -- what a junction calls that is reached from it
      pub junction_calls : (j : ℕ) → Reached (links_of c) (list_of c s kind) j
          → ListCalls S P (junction c j) (M.junction_parts j)
      junction_calls j r =
          let there = reached_within c valid (list_of c s kind) (list_valid c valid s kind) j r in
          each_calls (junction c j) (M.junction_parts j) (junction_list_stands c j there) (junction_fires j r)
