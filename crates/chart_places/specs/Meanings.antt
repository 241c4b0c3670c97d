-- A meaning of the code as contracts see it.
use Rattle.chart_places.specs.declared.scopes.Meaning as code
use Rattle.chart_places.specs.declared.scopes.Meaning.TheVariants as meanings
use Rattle.chart_places.specs.Scopes.{Meaning, Event, Datum}

-- a meaning of the code
abbrev pub meaning_seen : code.Meaning → Meaning
meaning_seen (meanings.Event e) = Event e
meaning_seen (meanings.Datum v) = Datum v
