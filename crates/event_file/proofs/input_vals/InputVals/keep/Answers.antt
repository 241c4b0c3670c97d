use Rattle.std.proofs.Common.{length, Some, ap, arith}
use Rattle.event_file.specs.LineValues.{LineValues}
use Rattle.event_file.proofs.NamedLemmas.{named_next}
use Rattle.event_file.proofs.input_vals.InputVals.keep.Goals as goal

pub invariant_of-self : goal.invariant_of-self
invariant_of-self c =
    let inside = c.self.inside in
    let count = ap (λ (vals : LineValues). length vals.values) c.self.view_is in (
      omega arith,
      named_next inside.values.items inside.named inside.count inside.more c.args.v (Some c.args.value) c.self.invariant.1
          (omega (arith, c.requires)) (omega (arith, c.self.told, c.if-self-lt-NAMED_LIMIT.true)),
    )
