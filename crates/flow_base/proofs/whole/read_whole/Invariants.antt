use Rattle.std.proofs.Common.{◌+◌, ◌-◌, ◌≤◌, ◌≡◌, vec_len}
use Rattle.std.specs.Io.KnownBytes.{prepend_known}
use Rattle.flow_base.specs.Causes.{OthersKept, AllStay}
use Rattle.flow_base.proofs.whole.read_whole.Given as goal

-- the text so far, then what is left; and no read failed
abbrev pub invariant-pieces : goal.invariant-pieces
invariant-pieces g l = record {
  known : g.I.Inputs.left l.fn.inputs l.name ≡ prepend_known l.text.items (g.I.Inputs.left l.inputs l.name);
  within : vec_len l.text ≤ l.limit + 1;
  others : OthersKept l.name (g.I.Inputs.left l.fn.inputs) (g.I.Inputs.left l.inputs);
  counts : AllStay (g.I.Inputs.faults l.fn.inputs) (g.I.Inputs.faults l.inputs);
}

abbrev pub decreases-pieces : goal.decreases-pieces
decreases-pieces g l = l.limit + 1 - vec_len l.text
