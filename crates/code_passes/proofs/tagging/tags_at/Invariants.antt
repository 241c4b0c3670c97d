use Rattle.std.proofs.Common.{◌≡◌, map, take, Some, slice_get}
use Rattle.code_passes.proofs.tagging.tags_at.Given as goal

-- those so far are found
abbrev pub invariant-loop-origin : goal.invariant-loop-origin
invariant-loop-origin l = map Some l.found.items ≡ map (slice_get l.tags) (take l.origin-index l.origins)
