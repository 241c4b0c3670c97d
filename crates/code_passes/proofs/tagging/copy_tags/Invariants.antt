use Rattle.std.proofs.Common.{◌≡◌, map, take, Some}
use Rattle.code_copies.specs.Views.{key_of}
use Rattle.code_copies.specs.declared.plan.ProcedureCopy.{ProcedureCopy}
use Rattle.code_passes.specs.Tags.{tag_for_key}
use Rattle.code_passes.proofs.tagging.copy_tags.Given as goal

-- those so far are made
abbrev pub invariant-loop-copy : goal.invariant-loop-copy
invariant-loop-copy l =
    map Some l.made.items
    ≡ map (λ (c : ProcedureCopy). tag_for_key l.tags (key_of l.plan.sets.items c.key))
    (take l.copy-index l.plan.copies.items)
