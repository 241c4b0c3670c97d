-- What one transition does to the whole search that has come to it.
use Rattle.std.proofs.Common.{◌≡◌, ℕ, Bool, true, false, List, [], ◌∷◌, ◌++◌, length, map, sym, ap, ◌∙◌, subst}
use Rattle.std.specs.List.{AllByRecursion}
use Rattle.flow_base.specs.Lists.{items_of}
use Rattle.flow_base.specs.declared.bounds.Bounds.{Bounds}
use Rattle.flow_base.specs.declared.fault.Fault.{Fault}
use Rattle.actions.specs.declared.expr.Stmt.{Stmt}
use Rattle.actions.specs.Exprs as exprs
use Rattle.actions.specs.World.{World, Life}
use Rattle.actions.specs.Work.{Run, Ended, Faulted, Now}
use Rattle.sos_interpreter.proofs.Halts.{ended_as}
use Rattle.sos_interpreter.proofs.Paths.{search_guard_fault, search_block_fault, search_stop, search_goes, dest_state}
use Rattle.sos_interpreter.proofs.Paths.{dest_fault, dest_dead_end}
use Rattle.sos_interpreter.proofs.Places.{Leads, leads_fault, leads_stop, leads_dead_end, leads_fire, leads_pop}
use Rattle.sos_interpreter.proofs.Places.{leads_push, leads_none, leads_init, leads_skip}
use Rattle.sos_interpreter.proofs.Turns.{empty_is, all_front, all_more, all_seen}
use Rattle.sos_interpreter.specs.Settled.{Settled}
use Rattle.sos_interpreter.specs.Views.{end_of}
use Rattle.sos_interpreter.specs.declared.blocks.End.{End}
use Rattle.sos_interpreter.specs.declared.blocks.End.TheVariants as ends
use Rattle.sos_interpreter.specs.declared.searches.Place.{Place}
use Rattle.sos_rules.specs.Finds.{AreActions}
use Rattle.sos_rules.specs.Parts.{Found, Fire, DeadEnd, No, Stop}
use Rattle.sos_rules.specs.Rules.{upto}
use Rattle.sos_rules.specs.Searches.{is_enabled, pay, at_dest}
use Rattle.checked_chart.specs.Chart as charts
use Rattle.checked_chart.specs.Valid.{AreStmts}
use Rattle.checked_chart.specs.Views.{block_seen, list_seen, trans_seen}
use Rattle.checked_chart.specs.declared.parts.Dest.{Dest}
use Rattle.checked_chart.specs.declared.parts.Dest.TheVariants.{State, Junction}
use Rattle.checked_chart.specs.declared.parts.Trans.{Trans}

-- what is asked of every element holds of an empty list
pub of_none : {A : Type 0} (P : A → Type 0) {all : List A} → all ≡ [] → AllByRecursion P all
of_none P none = subst (AllByRecursion P) (sym none) tt

module _ {A : Type 0} (P : A → Type 0) {all : List A} (front : List A) (last : A)
    (parts : all ≡ front ++ last ∷ []) where
  -- what holds of every element holds of the front of the list and of its last element
  pub of_parts : AllByRecursion P all → AllByRecursion P front × P last
  of_parts each = all_front P front last (subst (AllByRecursion P) parts each)

  -- what holds of the front of a list and of its last element holds of every element
  pub of_all : AllByRecursion P front → P last → AllByRecursion P all
  of_all each holds = subst (AllByRecursion P) (sym parts) (all_more P front last each holds)

-- the actions at the places of a search
abbrev pub actions_at : List Place → List (List exprs.Stmt)
actions_at places = map (λ p. block_seen p.action.now) places

-- the collected actions are those at the places, and then the last one
pub collected : {actions : List (List exprs.Stmt)} {places same : List Place} {last action : List Stmt}
    → actions ≡ actions_at places ++ block_seen last ∷ [] → places ≡ same → last ≡ action
    → actions ≡ actions_at same ++ block_seen action ∷ []
collected {same = same} {last = last} e places action =
    e ∙ ap (λ ps. actions_at ps ++ block_seen last ∷ []) places
    ∙ ap (λ z. actions_at same ++ z ∷ []) (ap block_seen action)

-- the actions at the places and the action of the transition are actions of the chart
pub collected_are : (c : charts.Chart) (places : List Place) (action : List exprs.Stmt)
    → AllByRecursion (λ p. AreStmts c (block_seen p.action.now)) places → AreStmts c action
    → AreActions c (actions_at places ++ action ∷ [])
collected_are c places action each stmts =
    all_more (AreStmts c) (actions_at places) action
    (all_seen (λ p. block_seen p.action.now) (AreStmts c) (λ p. AreStmts c (block_seen p.action.now)) places (λ p h. h)
    each) stmts

module _ (c : charts.Chart) (b : Bounds) {life : Life} {now : Now} {stmts block : List Stmt} {w u : World} where
  -- a block of the same statements ends in the same way
  pub block_ended : {e end : End} → stmts ≡ block → e ≡ end
      → Settled (λ n. (upto c b n).block life (block_seen stmts) now w) (Ended (end_of e) u)
      → Settled (λ n. (upto c b n).block life (block_seen block) now w) (Ended (end_of end) u)
  block_ended {e} same is h =
      ended_as end_of is
      (subst (λ z. Settled (λ n. (upto c b n).block life (block_seen z) now w) (Ended (end_of e) u)) same h)

  -- a block of the same statements faults in the same way
  block_faulted : {x : Fault} → stmts ≡ block
      → Settled (λ n. (upto c b n).block life (block_seen stmts) now w) (Faulted x u)
      → Settled (λ n. (upto c b n).block life (block_seen block) now w) (Faulted x u)
  block_faulted {x} same h =
      subst (λ z. Settled (λ n. (upto c b n).block life (block_seen z) now w) (Faulted x u)) same h

module _ {c : charts.Chart} {b : Bounds} {life : Life} {now : Now} {places : List Place} {w : World}
    {list : List charts.Trans} where
  -- a search begins with no place
  pub leads_begin : places ≡ [] → Leads c b life now places list w list w
  leads_begin none = subst (λ ps. Leads c b life now ps list w list w) (sym none) (leads_init c b life now list w)

module _ {c : charts.Chart} {b : Bounds} {life : Life} {now : Now} {places : List Place} {w : World}
    {list : List charts.Trans} {first : World} where
  -- a search stands at the end of a list
  pub at_end : (rest : List Trans) → length rest ≡ 0 → Leads c b life now places (list_seen rest) w list first
      → Leads c b life now places [] w list first
  at_end rest none leads =
      subst (λ xs. Leads c b life now places (list_seen xs) w list first) (empty_is rest none) leads

  -- at the end of a list with no place left the search finds nothing
  pub finds_nothing : length places ≡ 0 → Leads c b life now places [] w list first
      → Settled (λ n. (upto c b n).search life list now first) (Ended No w)
  finds_nothing none leads =
      leads_none c b life now w list first
      (subst (λ ps. Leads c b life now ps [] w list first) (empty_is places none) leads)

  -- at the end of a list the search goes back to the newest place
  pub goes_back : {front : List Place} (place : Place) → places ≡ front ++ place ∷ []
      → Leads c b life now places [] w list first → Leads c b life now front (list_seen place.rest.now) w list first
  goes_back {front} place parts leads =
      leads_pop c b life now front w list first place (subst (λ ps. Leads c b life now ps [] w list first) parts leads)

  module _ {left others : List Trans} {t : Trans} (split : left ≡ t ∷ others)
      (leads : Leads c b life now places (list_seen left) w list first) where
    -- a search stands at the first of the transitions that are left
    at_first : Leads c b life now places (trans_seen t ∷ list_seen others) w list first
    at_first = subst (λ xs. Leads c b life now places (list_seen xs) w list first) split leads

    -- a guard that faults ends the search
    pub guard_faults : {x : Fault} {u : World} → is_enabled (trans_seen t) now w ≡ Faulted x u
        → Settled (λ n. (upto c b n).search life list now first) (Faulted x u)
    guard_faults e = leads_fault c b life now _ _ _ _ _ _ at_first _ _ (search_guard_fault c b now e)

    module _ {answer : Bool} (asked : is_enabled (trans_seen t) now w ≡ Ended answer w) where
      -- a transition that isn't enabled is passed over
      pub passes_over : answer ≡ false → Leads c b life now places (list_seen others) w list first
      passes_over off = leads_skip c b life now _ _ _ _ _ _ at_first (asked ∙ ap (λ z. Ended z w) off)

      module _ (yes : answer ≡ true) {stmts : List Stmt} (same : stmts ≡ items_of t.cond) where
        -- a condition action that faults ends the search
        pub condition_faults : {x : Fault} {u : World}
            → Settled (λ n. (upto c b n).block life (block_seen stmts) now w) (Faulted x u)
            → Settled (λ n. (upto c b n).search life list now first) (Faulted x u)
        condition_faults h =
            leads_fault c b life now _ _ _ _ _ _ at_first _ _
            (search_block_fault c b now (asked ∙ ap (λ z. Ended z w) yes) (block_faulted c b same h))

        -- a condition action after which the life is over stops the search
        pub condition_cut : {end : End} {u : World} → end ≡ ends.Cut
            → Settled (λ n. (upto c b n).block life (block_seen stmts) now w) (Ended (end_of end) u)
            → Settled (λ n. (upto c b n).search life list now first) (Ended Stop u)
        condition_cut is h =
            leads_stop c b life now _ _ _ _ _ _ at_first _
            (search_stop c b now (asked ∙ ap (λ z. Ended z w) yes) (block_ended c b same is h))

        module _ {end : End} (is : end ≡ ends.Done) {v : World}
            (ran : Settled (λ n. (upto c b n).block life (block_seen stmts) now w) (Ended (end_of end) v)) where
          -- after its condition action an enabled transition leads to its destination
          goes : {d : Dest} {r : Run Found} → d ≡ t.dest
              → Settled (λ n. at_dest c b (upto c b n) life (block_seen (items_of t.act)) (list_seen others) now d v) r
              → Settled (λ n. (upto c b n).search life (trans_seen t ∷ list_seen others) now w) r
          goes to h =
              search_goes c b now (asked ∙ ap (λ z. Ended z w) yes) (block_ended c b same is ran) to h

          -- the step for a junction that can't be paid ends the search
          pub junction_faults : {j : ℕ} {x : Fault} {u : World} → Junction j ≡ t.dest → pay b v ≡ Faulted x u
              → Settled (λ n. (upto c b n).search life list now first) (Faulted x u)
          junction_faults {j} {x} {u} to e =
              leads_fault c b life now _ _ _ _ _ _ at_first _ _ (goes to (dest_fault c b now life _ _ j v u x e))

          -- a junction with no transitions is a dead end of the whole search
          pub at_dead_end : {j : ℕ} {u : World} → Junction j ≡ t.dest → pay b v ≡ Ended tt u → [] ≡ charts.junction c j
              → Settled (λ n. (upto c b n).search life list now first) (Ended DeadEnd u)
          at_dead_end {j} {u} to e none =
              leads_dead_end c b life now _ _ _ _ _ _ at_first _
              (goes to (dest_dead_end c b now life (block_seen (items_of t.act)) (list_seen others) j v u e none))

          -- a state is found with the actions on the way to it
          pub at_state : {d : ℕ} {actions : List (List exprs.Stmt)} → State d ≡ t.dest
              → actions ≡ actions_at places ++ block_seen (items_of t.act) ∷ []
              → Settled (λ n. (upto c b n).search life list now first) (Ended (Fire d actions) v)
          at_state {d} to are =
              subst (λ a. Settled (λ n. (upto c b n).search life list now first) (Ended (Fire d a) v)) (sym are)
              (leads_fire c b life now _ _ _ _ _ _ at_first d v
              (goes to (dest_state c b now life (block_seen (items_of t.act)) (list_seen others) d v)))

          -- a junction with transitions is searched first, and its place is kept
          pub at_junction : {all : List Place} (place : Place) {j : ℕ} {next : List charts.Trans} {u : World}
              → all ≡ places ++ place ∷ [] → list_seen place.rest.now ≡ list_seen others
              → block_seen place.action.now ≡ block_seen (items_of t.act) → Junction j ≡ t.dest
              → pay b v ≡ Ended tt u → next ≡ charts.junction c j → (next ≡ [] → ⊥)
              → Leads c b life now all next u list first
          at_junction place {j} {next} {u} parts rest action to e list_is some =
              subst (λ ps. Leads c b life now ps next u list first) (sym parts)
              (leads_push c b life now places w list first _ _ at_first place j next v u rest action
              (asked ∙ ap (λ z. Ended z w) yes) (block_ended c b same is ran) to e list_is some)
