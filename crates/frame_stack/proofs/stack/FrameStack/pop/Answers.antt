use Rattle.std.proofs.Common.{arith}
use Rattle.frame_stack.proofs.CallLemmas.{frame_within, frame_small, frame_chunk, frame_filled, top_below, pop_stack}
use Rattle.frame_stack.proofs.CallLemmas.{pop_frames, len_is, counted_again}
use Rattle.frame_stack.proofs.stack.FrameStack.pop.Goals as goal

pub index_mut-requires : goal.index_mut-requires
index_mut-requires c =
    let top = top_below c.self.invariant.0 c.self.view_is c.requires in
    omega (arith, frame_within c.self.invariant.0 c.self.view_is _ top, c.self.inside.chunks.ok.0)

pub empty-requires-clause-chunk : goal.empty-requires-clause-chunk
empty-requires-clause-chunk c =
    let top = top_below c.self.invariant.0 c.self.view_is c.requires in
    frame_chunk c.self.invariant.0 c.self.view_is _ top _ c.index_mut.ensures.value

pub empty-requires-clause-place : goal.empty-requires-clause-place
empty-requires-clause-place c =
    frame_small c.self.invariant.0 c.self.view_is _ (top_below c.self.invariant.0 c.self.view_is c.requires)

pub empty-requires-clause-filled : goal.empty-requires-clause-filled
empty-requires-clause-filled c =
    let top = top_below c.self.invariant.0 c.self.view_is c.requires in
    frame_filled c.self.invariant.0 c.self.view_is _ top _ c.index_mut.ensures.value

pub invariant_of-self : goal.invariant_of-self
invariant_of-self c =
    let some = c.requires in let count = len_is c.self.invariant.0 c.self.view_is in let within = c.self.invariant.1 in
    let is = pop_stack c.self.invariant.0 c.self.view_is c.requires _ c.index_mut.ensures.value c.empty.new.self
    c.empty.ensures.chunk c.empty.ensures.slots in
    (counted_again is (omega (arith, some, count, within)), omega (arith, within))

pub returns-clause-frames : goal.returns-clause-frames
returns-clause-frames c =
    pop_frames c.self.invariant.0 c.self.view_is c.requires _ c.index_mut.ensures.value c.empty.new.self
    c.empty.ensures.chunk c.empty.ensures.slots
