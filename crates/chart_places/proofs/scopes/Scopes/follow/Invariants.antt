use Rattle.std.proofs.Common.{◌≡◌, drop}
use Rattle.chart_places.specs.Scopes.{follow}
use Rattle.chart_places.proofs.scopes.Scopes.follow.Given as goal

-- the names that are left lead on to where all names lead
abbrev pub invariant-loop-name : goal.invariant-loop-name
invariant-loop-name l = follow l.self l.found (drop l.name-index l.names) ≡ follow l.self l.state l.names
