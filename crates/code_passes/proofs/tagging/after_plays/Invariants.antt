use Rattle.std.proofs.Common.{◌≡◌, map, take}
use Rattle.code_passes.specs.Tags.{with_plays}
use Rattle.code_passes.proofs.tagging.after_plays.Given as goal

-- those so far are made
abbrev pub invariant-loop-tag : goal.invariant-loop-tag
invariant-loop-tag l = l.all.items ≡ map with_plays (take l.tag-index l.front)
