-- What searches may find, and where they end so.
use Rattle.std.specs.Prelude.{◌≡◌, ℕ, List, [], ◌∷◌, Some, map, slice_get}
use Rattle.flow_base.specs.declared.bounds.Bounds.{Bounds}
use Rattle.actions.specs.Exprs.{Stmt}
use Rattle.actions.specs.Work.{Work, Now, give, ◌>>=◌, ◌>>◌}
use Rattle.actions.specs.World.{World, Life}
use Rattle.checked_chart.specs.declared.parts.Dest.{Dest}
use Rattle.checked_chart.specs.declared.parts.Dest.TheVariants.{State, Junction}
use Rattle.checked_chart.specs.Chart.{Chart, Trans, junction}
use Rattle.checked_chart.specs.Views.{block_seen}
use Rattle.sos_rules.specs.Parts.{Found, Fire, DeadEnd, No, Stop, Parts}
use Rattle.sos_rules.specs.Searches.{pay}
use Rattle.range_blocks.specs.declared.searches.Firing.{Firing}
use Rattle.range_blocks.specs.declared.searches.Onward.{Onward}
use Rattle.range_blocks.specs.declared.searches.Searched.{Searched}
use Rattle.range_rules.specs.declared.cert.Around.{Around}
use Rattle.range_worlds.specs.declared.setting.Setting.{Setting}
use Rattle.range_worlds.specs.Leads.{Among}

-- one of the firings has that destination and these actions, and the world is among its own
pub record IsFired (s : Setting) (fires : List Firing) (d : ℕ) (actions : List (List Stmt)) (w : World) : Type 0 where
  pub place : ℕ
  pub firing : Firing
  pub is : slice_get fires place ≡ Some firing
  pub target_is : firing.target ≡ d
  pub actions_are : map (λ a. block_seen a.now) firing.actions.items ≡ actions
  pub at : Among s firing.worlds.items w

-- where a search ends with an answer
abbrev pub found_ends : Setting → Searched → Found → World → Type 0
found_ends s r (Fire d actions) w = IsFired s r.fires.items d actions w
found_ends s r DeadEnd w = Among s r.dead.items w
found_ends s r No w = Among s r.no.items w
found_ends s r Stop w = Among s r.stop.items w

-- all that one search may find another may find there, too
pub record Includes (s : Setting) (a b : Searched) : Type 0 where
  pub finds : (f : Found) (w : World) → found_ends s a f w → found_ends s b f w

-- the firings of two lists are in a third
pub record Gathers (s : Setting) (xs ys all : List Firing) : Type 0 where
  pub left : (d : ℕ) (actions : List (List Stmt)) (w : World) → IsFired s xs d actions w → IsFired s all d actions w
  pub right : (d : ℕ) (actions : List (List Stmt)) (w : World) → IsFired s ys d actions w → IsFired s all d actions w

-- each firing of a list is in another with an action before its own
pub record Extends (s : Setting) (action : List Stmt) (xs all : List Firing) : Type 0 where
  pub extends : (d : ℕ) (actions : List (List Stmt)) (w : World) → IsFired s xs d actions w
      → IsFired s all d (action ∷ actions) w

-- an action is put before those of a firing
abbrev pub put_first : List Stmt → Found → Found
put_first action (Fire d actions) = Fire d (action ∷ actions)
put_first action DeadEnd = DeadEnd
put_first action No = No
put_first action Stop = Stop

-- the list of a junction alone is searched; an empty one ends the search
abbrev pub visit_alone : Parts → Life → List Stmt → Now → List Trans → Work Found
visit_alone p life action now [] = give DeadEnd
visit_alone p life action now (t ∷ ts) = p.search life (t ∷ ts) now >>= (λ f. give (put_first action f))

-- where a transition leads, without the rest of its list, which is searched where this finds nothing
abbrev pub to_dest : Chart → Bounds → Parts → Life → List Stmt → Now → Dest → Work Found
to_dest c b p life action now (State d) = give (Fire d (action ∷ []))
to_dest c b p life action now (Junction j) = pay b >> visit_alone p life action now (junction c j)

-- what a search of a junction's list finds another has with an action before those of its firings
pub record Leaves (s : Setting) (action : List Stmt) (found r : Searched) : Type 0 where
  pub leaves : (f : Found) (w : World) → found_ends s found f w → found_ends s r (put_first action f) w

-- behind a transition: what it leads to is found, but where it leads to nothing or isn't enabled, the rest of the list
-- is searched, and where its condition action was cut the search stops
pub record Passes (s : Setting) (there : Searched) (off cut : List Around) (r : Onward) : Type 0 where
  pub disabled : (w : World) → Among s off w → Among s r.left.items w
  pub returned : (w : World) → Among s cut w → Among s r.found.stop.items w
  pub nothing : (w : World) → Among s there.no.items w → Among s r.left.items w
  pub fires : (d : ℕ) (actions : List (List Stmt)) (w : World) → IsFired s there.fires.items d actions w
      → IsFired s r.found.fires.items d actions w
  pub dead : (w : World) → Among s there.dead.items w → Among s r.found.dead.items w
  pub stop : (w : World) → Among s there.stop.items w → Among s r.found.stop.items w
