-- The rules of a run with counters: those of a run, but for two in which counters have a part.
use Rattle.std.specs.Prelude.{ℕ, zero, suc}
use Rattle.flow_base.specs.declared.bounds.Bounds.{Bounds}
use Rattle.active_config.specs.Marks.{can_mark}
use Rattle.active_config.specs.Tree.{comp_of}
use Rattle.actions.specs.World.{On, Bare}
use Rattle.actions.specs.Work.{Work, ◌>>=◌, ◌>>◌, give, nothing, test, change, choose, if_done, Now}
use Rattle.checked_chart.specs.declared.parts.ListKind.TheVariants.{Outer}
use Rattle.checked_chart.specs.Chart.{Chart, node}
use Rattle.checked_chart.specs.Homes.{home_of}
use Rattle.sos_rules.specs.Moves.{entered_in, enter_inside}
use Rattle.sos_rules.specs.Parts.{Found, Fire, DeadEnd, No, Stop, Went, Stay, Out, Parts, no_parts}
use Rattle.sos_rules.specs.Processing.{after_inner}
use Rattle.sos_rules.specs.Rules.{rules}
use Rattle.counting_rules.specs.Counters.{Counters, reset, count, of_root}

module _ (c : Chart) (k : Counters) (b : Bounds) where
  -- ---- entering

  -- A state that can become active does so, and its parent remembers it where the parent has history. Its counters
  -- become 0. Then its entry action runs while it is bare, and where that wasn't cut, what is inside is entered.
  abbrev pub counting_enter : Parts → ℕ → ℕ → Now → Work (Unit {0})
  counting_enter p s d now = do
    can ← test (λ w. can_mark c.tree s w.marks)
    choose can (do
      change (entered_in c s)
      reset (k.resets s)
      end ← p.block (Bare s) (node c s).entry now
      if_done end tt (enter_inside c p s d now (comp_of c.tree s))) nothing

  -- ---- processing

  -- the during action, and where it wasn't cut, the counters of the current event count it if the state is the chart
  -- itself, and then the inner list is searched
  abbrev pub counting_inside : Parts → ℕ → Now → Work Went
  counting_inside p s now = do
    end ← p.block (On s) (node c s).during now
    if_done end Stay (do
      of_root s (count b k.counted now) nothing
      p.search (On s) (node c s).inner now >>= after_inner c p s now)

  -- after the outer list: a firing is taken with its home, and leads out of the state
  abbrev pub counting_outer : Parts → ℕ → Now → Found → Work Went
  counting_outer p s now (Fire d actions) =
      p.take (home_of c.tree s Outer d) d actions now >> give (Out (home_of c.tree s Outer d))
  counting_outer p s now DeadEnd = counting_inside p s now
  counting_outer p s now No = counting_inside p s now
  counting_outer p s now Stop = give Stay

  -- an active state: first its outer list
  abbrev pub counting_process : Parts → ℕ → Now → Work Went
  counting_process p s now = p.search (On s) (node c s).outer now >>= counting_outer p s now

  -- ---- all

  -- each piece of work, defined by its rule over the pieces of work that the rules call: all but those of entering and
  -- of processing a state are as they are without counters
  abbrev pub counting_rules : Parts → Parts
  counting_rules p = let r = rules c b p in record {
    block = r.block;
    send = r.send;
    search = r.search;
    exit = r.exit;
    exit_each = r.exit_each;
    enter = counting_enter p;
    enter_each = r.enter_each;
    defaults = r.defaults;
    play = r.play;
    take = r.take;
    process = counting_process p;
    process_each = r.process_each;
  }

  -- what derivations of at most a height give: each rule uses parts of a lower height
  abbrev pub counting_upto : ℕ → Parts
  counting_upto zero = no_parts
  counting_upto (suc n) = counting_rules (counting_upto n)
