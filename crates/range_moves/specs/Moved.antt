-- Parts of the rules for leaving and entering states.
use Rattle.std.specs.Prelude.{ℕ, List, false}
use Rattle.std.specs.List.{find}
use Rattle.active_config.specs.Marks.{is_on, is_last}
use Rattle.actions.specs.declared.event.Event.{Event}
use Rattle.actions.specs.Exprs.{Stmt}
use Rattle.actions.specs.Changes.{set_mark}
use Rattle.actions.specs.World.{Bare}
use Rattle.actions.specs.Work.{Work, ◌>>=◌, nothing, look, change, if_some, if_done, Now}
use Rattle.checked_chart.specs.Chart.{Chart, node}
use Rattle.sos_rules.specs.Moves.{if_bare, default_search, after_default}
use Rattle.sos_rules.specs.Parts.{Parts, Fire}
use Rattle.range_blocks.specs.declared.searches.Firing.{Firing}
use Rattle.range_blocks.specs.Ends.{rules_in}
use Rattle.range_blocks.specs.Finds.{IsFired}
use Rattle.range_rules.specs.declared.cert.Around.{Around}
use Rattle.range_worlds.specs.declared.setting.Setting.{Setting}
use Rattle.range_worlds.specs.Leads.{Among, Leads, chart_in, now_at}

-- a state whose children are left: the exit rule from there on
abbrev pub leave_rule : Chart → Parts → ℕ → Now → Work (Unit {0})
leave_rule c p s now = if_bare c.tree s (do
  end ← p.block (Bare s) (node c s).exit now
  if_done end tt (if_bare c.tree s (change (set_mark s false))))

-- the first active state of a list is left, if there is one
abbrev pub exit_found : Parts → List ℕ → Now → Work (Unit {0})
exit_found p states now = do
  x ← look (λ w. find (λ x. is_on x w.marks) states)
  if_some x nothing (λ x. p.exit x now)

-- the first state of a list that its parent remembers is entered by default; where there is none, the default list of s
-- decides
abbrev pub return_found : Chart → Parts → ℕ → List ℕ → Now → Work (Unit {0})
return_found c p s states now = do
  x ← look (λ w. find (λ x. is_last c.tree x w.marks) states)
  if_some x (default_search c p s now) (λ x. p.enter x x now)

-- after the search of a default list that ended with one of the firings, worlds are among some
pub record Enters (s : Setting) (fires : List Firing) (state : ℕ) (now : Event) (ys : List Around) : Type 0 where
  pub enters : (d : ℕ) (actions : List (List Stmt)) → Leads s (IsFired s fires d actions)
      (λ b n depth. after_default (chart_in s) (rules_in s b n) state (now_at now depth) (Fire d actions))
      (λ _ w. Among s ys w)
