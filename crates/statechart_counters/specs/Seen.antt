-- Counted events of the code as definitions see them.
use Rattle.std.specs.Prelude.{ℕ, List, map, ◌++◌}
use Rattle.chart_tree.specs.declared.name.NameText.{NameText}
use Rattle.statechart_meaning.specs.Names.{named}
use Rattle.statechart_meaning.specs.Counting.{without}
use Rattle.statechart_counters.specs.declared.counted.Counted.{Counted}

-- an event that is counted of the code
abbrev pub counted_seen : Counted → NameText
counted_seen c = named c.name.now.text c.at

-- the texts of names
abbrev pub texts : List NameText → List (List ℕ)
texts xs = map (λ (x : NameText). x.text) xs

-- names, and behind them the others that aren't among them, each once
unfoldable pub gathered : List NameText → List NameText → List NameText
gathered xs ys = xs ++ without (texts xs) ys
