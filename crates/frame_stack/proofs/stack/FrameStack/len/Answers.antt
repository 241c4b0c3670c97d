use Rattle.frame_stack.proofs.CallLemmas.{len_is}
use Rattle.frame_stack.proofs.stack.FrameStack.len.Goals as goal

pub returns : goal.returns
returns c = len_is c.self.invariant.0 c.self.view_is
