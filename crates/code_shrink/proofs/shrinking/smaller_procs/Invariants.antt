use Rattle.std.proofs.Common.{Bool, Vec, map}
use Rattle.std.specs.declared.alloc.Global.{Global}
use Rattle.flow_base.specs.Lists.{items_of}
use Rattle.code_language.specs.Acceptance.{procs_of}
use Rattle.code_shrink.specs.Numbers.{number_by}
use Rattle.code_shrink.proofs.WholeLemmas.{MadeTo}
use Rattle.code_shrink.proofs.shrinking.smaller_procs.Given as goal

-- what is made so far, with what is still to be made, is all
abbrev pub invariant-loop-p : goal.invariant-loop-p
invariant-loop-p l =
    MadeTo (number_by l.numbers) l.live.live.items (map (λ (bs : Vec Bool Global). bs.items) l.live.flags.items)
    (procs_of l.procs) l.p (procs_of (items_of l.smaller))
