-- Where processing may end.
use Rattle.std.specs.Prelude.{◌≡◌, ◌==◌, ℕ, List, Some, slice_get, if◌then◌else◌}
use Rattle.actions.specs.declared.event.Event.{Event}
use Rattle.actions.specs.Exprs.{Stmt}
use Rattle.actions.specs.Work.{Work, Now, look, if_some, give, ◌>>=◌}
use Rattle.actions.specs.World.{World}
use Rattle.std.specs.List.{find}
use Rattle.active_config.specs.Marks.{is_on}
use Rattle.checked_chart.specs.declared.parts.ListKind.TheVariants.{Outer}
use Rattle.checked_chart.specs.Homes.{home_of}
use Rattle.sos_rules.specs.Parts.{Parts, Went, Stay, Out}
use Rattle.sos_rules.specs.Processing.{from_child}
use Rattle.range_blocks.specs.declared.searches.Firing.{Firing}
use Rattle.range_blocks.specs.Ends.{rules_in}
use Rattle.range_blocks.specs.Finds.{IsFired}
use Rattle.range_check.specs.declared.processing.Processed.{Processed}
use Rattle.range_check.specs.declared.processing.Way.{Way}
use Rattle.range_rules.specs.declared.cert.Around.{Around}
use Rattle.range_worlds.specs.declared.setting.Setting.{Setting}
use Rattle.range_worlds.specs.Leads.{Among, Leads, chart_in, now_at}

-- one of the ways out has that home, and the world is among its own
pub record IsOut (s : Setting) (ways : List Way) (h : ℕ) (w : World) : Type 0 where
  pub place : ℕ
  pub way : Way
  pub is : slice_get ways place ≡ Some way
  pub home_is : way.home ≡ h
  pub at : Among s way.worlds.items w

-- where processing ends with an answer
abbrev pub went_ends : Setting → Processed → Went → World → Type 0
went_ends s r Stay w = Among s r.stay.items w
went_ends s r (Out h) w = IsOut s r.outs.items h w

-- all ways in which one processing may end another may end, too
pub record Includes (s : Setting) (a b : Processed) : Type 0 where
  pub ends : (went : Went) (w : World) → went_ends s a went w → went_ends s b went w

-- the answer of an OR, by that of its child
abbrev pub at_or : ℕ → Went → Went
at_or s Stay = Stay
at_or s (Out h) = if h == s then Stay else Out h

-- the first active state of a list is processed, if there is one
abbrev pub process_found : Parts → ℕ → List ℕ → Now → Work Went
process_found p s states now = do
  x ← look (λ w. find (λ x. is_on x w.marks) states)
  if_some x (give Stay) (λ x. p.process x now >>= from_child s)

-- after the search of an inner list that ended with one of the firings, worlds are among some
pub record TakesInner (s : Setting) (fires : List Firing) (state : ℕ) (now : Event) (ys : List Around) : Type 0 where
  pub takes : (d : ℕ) (actions : List (List Stmt)) → Leads s (IsFired s fires d actions)
      (λ b n depth. (rules_in s b n).take state d actions (now_at now depth)) (λ _ w. Among s ys w)

-- after the search of an outer list that ended with one of the firings, it is a way out of the state
pub record TakesOuter (s : Setting) (fires : List Firing) (state : ℕ) (now : Event) (ways : List Way) : Type 0 where
  pub takes : (d : ℕ) (actions : List (List Stmt)) → Leads s (IsFired s fires d actions)
      (λ b n depth. (rules_in s b n).take (home_of (chart_in s).tree state Outer d) d actions (now_at now depth))
      (λ _ w. IsOut s ways (home_of (chart_in s).tree state Outer d) w)

-- the ways of two lists are in a third
pub record PutsTogether (s : Setting) (xs ys all : List Way) : Type 0 where
  pub left : (h : ℕ) (w : World) → IsOut s xs h w → IsOut s all h w
  pub right : (h : ℕ) (w : World) → IsOut s ys h w → IsOut s all h w

-- an OR stays where its child does, and where the home of a firing that left the child is the OR; other ways out of the
-- child are ways out of the OR
pub record FromChild (s : Setting) (state : ℕ) (inner r : Processed) : Type 0 where
  pub from : (a : Went) (w : World) → went_ends s inner a w → went_ends s r (at_or state a) w

-- a way out of a child of an OR was put to where the OR stays, or to the ways out of it
pub record PassesOn (s : Setting) (state : ℕ) (way : Way) (old new : Processed) : Type 0 where
  pub kept : (a : Went) (w : World) → went_ends s old a w → went_ends s new a w
  pub has : (w : World) → Among s way.worlds.items w → went_ends s new (at_or state (Out way.home)) w
