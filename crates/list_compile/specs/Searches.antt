-- Searches as contracts see them.
use Rattle.std.specs.Prelude.{◌≡◌, ◌<◌, ◌≤◌, length}
use Rattle.flow_base.specs.declared.chart_limits.TheConstants.{JUNCTION_LIMIT}
use Rattle.active_config.specs.Tree.{state_count}
use Rattle.checked_chart.specs.declared.parts.ListKind.{ListKind}
use Rattle.checked_chart.specs.declared.parts.ListKind.TheVariants.{Outer, Inner, Default}
use Rattle.checked_chart.specs.Chart.{Chart, list_of}
use Rattle.chart_code.specs.ListProcedures as templates
use Rattle.chart_code.specs.Places.{numbers, list_numbers, list_at}
use Rattle.chart_code.specs.ReachedJunctions.{reached}
use Rattle.list_compile.specs.declared.blocks.Lasting.{Lasting}
use Rattle.list_compile.specs.declared.blocks.Lasting.TheVariants.{On, Bare}
use Rattle.list_compile.specs.declared.number_limits.TheConstants.{SEARCH_LIMIT}
use Rattle.list_compile.specs.declared.searches.Search.{Search}

-- what the procedures of a list share
abbrev pub search_seen : Chart → Search → templates.Search
search_seen c S = templates.search_of (numbers c) (list_numbers c) c.tree S.state S.kind

-- how long a search of a list goes on
abbrev pub lasting_seen : ListKind → Lasting
lasting_seen Outer = On
lasting_seen Inner = On
lasting_seen Default = Bare

-- a list of a state, its number, and the junctions that are reached from it
pub record IsSearch (c : Chart) (S : Search) : Type 0 where
  pub state : S.state < state_count c.tree
  pub first : S.first ≡ list_at c S.state S.kind
  pub found : S.found.now ≡ reached c (list_of c S.state S.kind)
  pub few : length S.found.now ≤ JUNCTION_LIMIT
  pub low : S.first ≤ SEARCH_LIMIT
