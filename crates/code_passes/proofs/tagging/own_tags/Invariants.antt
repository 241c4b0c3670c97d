use Rattle.std.proofs.Common.{◌≡◌, map}
use Rattle.code_merging.specs.Merged.{numbers_from}
use Rattle.code_passes.specs.Tags.{own_tag}
use Rattle.code_passes.proofs.tagging.own_tags.Given as goal

-- those so far are there
abbrev pub invariant-loop-proc : goal.invariant-loop-proc
invariant-loop-proc l = l.tags.items ≡ map own_tag (numbers_from 0 l.proc)
