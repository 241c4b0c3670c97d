use Rattle.frame_stack.proofs.CallLemmas.{chunks_are_free}
use Rattle.frame_stack.proofs.stack.FrameStack.free.Goals as goal

pub give_all_back-requires : goal.give_all_back-requires
give_all_back-requires c = chunks_are_free c.self.invariant.0 c.self.view_is c.requires
