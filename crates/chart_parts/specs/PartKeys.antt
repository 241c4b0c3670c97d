-- The key that a part has in the layout.
use Rattle.std.specs.Prelude.{List, Option, Some, option_map, option_and_then, slice_get}
use Rattle.checked_chart.specs.declared.parts.BlockKind.TheVariants.{Entry, During, Exit}
use Rattle.checked_chart.specs.Chart.{Chart, Trans, list_of, junction}
use Rattle.chart_code.specs.Keys.{Key}
use Rattle.chart_code.specs.Keys as keys
use Rattle.chart_parts.specs.declared.part.Owner.{Owner}
use Rattle.chart_parts.specs.declared.part.Owner.TheVariants as owners
use Rattle.chart_parts.specs.declared.part.Part.{Part}
use Rattle.chart_parts.specs.declared.part.Part.TheVariants as parts
use Rattle.chart_parts.specs.declared.part.Toward.TheVariants.{Arrive, Take, Enter}
use Rattle.chart_parts.specs.declared.part.TransPart.{TransPart}
use Rattle.chart_parts.specs.declared.part.TransPart.TheVariants.{Guard, ConditionOn, ConditionBare, Action}

-- the list in which a transition stands
abbrev pub transitions : Chart → Owner → List Trans
transitions c (owners.State s kind) = list_of c s kind
transitions c (owners.Junction j) = junction c j

-- the key of a part of a transition, if it has this part
abbrev pub trans_key : TransPart → Trans → Option Key
trans_key Guard t = option_map keys.Guard t.guard
trans_key ConditionOn t = Some (keys.ConditionOn t.condition)
trans_key ConditionBare t = Some (keys.ConditionBare t.condition)
trans_key Action t = Some (keys.Action t.action)

-- the key of a part of a chart, if there is its transition
abbrev pub key_of : Chart → Part → Option Key
key_of c parts.EndMark = Some keys.EndMark
key_of c (parts.Block s Entry) = Some (keys.Entry s)
key_of c (parts.Block s During) = Some (keys.During s)
key_of c (parts.Block s Exit) = Some (keys.ExitAction s)
key_of c (parts.Transition part o i) = option_and_then (trans_key part) (slice_get (transitions c o) i)
key_of c (parts.Leave s) = Some (keys.Leave s)
key_of c (parts.Exit s) = Some (keys.Exit s)
key_of c (parts.Way Arrive s d) = Some (keys.Arrive s d)
key_of c (parts.Way Take s d) = Some (keys.Take s d)
key_of c (parts.Way Enter s d) = Some (keys.Enter s d)
key_of c (parts.Search s kind) = Some (keys.ListOf s kind)
key_of c (parts.Junction s kind j) = Some (keys.JunctionOf s kind j)
key_of c (parts.Defaults s) = Some (keys.Defaults s)
key_of c (parts.Process s) = Some (keys.Process s)
