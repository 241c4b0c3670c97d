-- The rules for processing an active state.
use Rattle.std.specs.Prelude.{◌==◌, ℕ, List, [], ◌∷◌}
use Rattle.active_config.specs.declared.comp.Comp.{Comp}
use Rattle.active_config.specs.declared.comp.Comp.TheVariants.{Leaf, Or, And}
use Rattle.active_config.specs.Marks.{is_on, active_child}
use Rattle.active_config.specs.Tree.{comp_of, children_of}
use Rattle.actions.specs.World.{On}
use Rattle.actions.specs.Work.{Work, ◌>>=◌, ◌>>◌, give, test, look, choose, if_some, if_done, Now}
use Rattle.checked_chart.specs.declared.parts.ListKind.TheVariants.{Outer}
use Rattle.checked_chart.specs.Chart.{Chart, node}
use Rattle.checked_chart.specs.Homes.{home_of}
use Rattle.sos_rules.specs.Parts.{Found, Fire, DeadEnd, No, Stop, Went, Stay, Out, Parts}

-- an answer of a child of an OR: a firing whose home is the OR ends at the OR, and any other is passed on
abbrev pub from_child : ℕ → Went → Work Went
from_child s Stay = give Stay
from_child s (Out h) = choose (h == s) (give Stay) (give (Out h))

module _ (c : Chart) where
  -- the children: of an OR the active one, if any, of an AND each in order
  abbrev pub process_children : Parts → ℕ → Now → Comp → Work Went
  process_children p s now Leaf = give Stay
  process_children p s now Or = do
    x ← look (λ w. active_child c.tree s w.marks)
    if_some x (give Stay) (λ x. p.process x now >>= from_child s)
  process_children p s now And = p.process_each (children_of c.tree s) now

  -- after the inner list: a firing is taken with the state as its home, and ends the processing
  abbrev pub after_inner : Parts → ℕ → Now → Found → Work Went
  after_inner p s now (Fire d actions) = p.take s d actions now >> give Stay
  after_inner p s now DeadEnd = process_children p s now (comp_of c.tree s)
  after_inner p s now No = process_children p s now (comp_of c.tree s)
  after_inner p s now Stop = give Stay

  -- the during action, and where it wasn't cut, the inner list
  abbrev pub go_on_inside : Parts → ℕ → Now → Work Went
  go_on_inside p s now = do
    end ← p.block (On s) (node c s).during now
    if_done end Stay (p.search (On s) (node c s).inner now >>= after_inner p s now)

  -- after the outer list: a firing is taken with its home, and leads out of the state
  abbrev pub after_outer : Parts → ℕ → Now → Found → Work Went
  after_outer p s now (Fire d actions) =
      p.take (home_of c.tree s Outer d) d actions now >> give (Out (home_of c.tree s Outer d))
  after_outer p s now DeadEnd = go_on_inside p s now
  after_outer p s now No = go_on_inside p s now
  after_outer p s now Stop = give Stay

  -- an active state: first its outer list
  abbrev pub process_rule : Parts → ℕ → Now → Work Went
  process_rule p s now = p.search (On s) (node c s).outer now >>= after_outer p s now

  -- after a region: a firing that led out of it ends the processing of the AND
  abbrev pub after_region : Parts → List ℕ → Now → Went → Work Went
  after_region p xs now Stay = p.process_each xs now
  after_region p xs now (Out h) = give (Out h)

  -- each region that is active when its turn comes
  abbrev pub process_each_rule : Parts → List ℕ → Now → Work Went
  process_each_rule p [] now = give Stay
  process_each_rule p (x ∷ xs) now = do
    on ← test (λ w. is_on x w.marks)
    choose on (p.process x now >>= after_region p xs now) (p.process_each xs now)
