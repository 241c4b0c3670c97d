use Rattle.std.proofs.Common.{take}
use Rattle.std.specs.List.{All}
use Rattle.code_language.specs.Code.{code_of}
use Rattle.code_copies.specs.Views.{key_of}
use Rattle.code_copies.specs.declared.plan.ProcedureCopy.{ProcedureCopy}
use Rattle.code_passes.specs.Tags.{IsKeyOf}
use Rattle.code_passes.proofs.keys.are_keys_of.Given as goal

-- those so far are of the code
abbrev pub invariant-loop-copy : goal.invariant-loop-copy
invariant-loop-copy l =
    All (λ (c : ProcedureCopy). IsKeyOf (code_of l.code) (key_of l.plan.sets.items c.key))
    (take l.copy-index l.plan.copies.items)
