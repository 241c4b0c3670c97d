use Rattle.std.proofs.Common.{arith}
use Rattle.frame_stack.proofs.CallLemmas.{next_within, next_small, next_chunk, next_empty, push_stack, push_frames}
use Rattle.frame_stack.proofs.CallLemmas.{slots_fit, left, counted_again}
use Rattle.frame_stack.proofs.stack.FrameStack.push.Goals as goal

pub index_mut-requires : goal.index_mut-requires
index_mut-requires c =
    omega (arith, next_within c.self.invariant.0 c.self.view_is c.requires.spare, c.self.inside.chunks.ok.0)

pub fill-requires-clause-chunk : goal.fill-requires-clause-chunk
fill-requires-clause-chunk c =
    next_chunk c.self.invariant.0 c.self.view_is c.requires.spare _ c.index_mut.ensures.value

pub fill-requires-clause-place : goal.fill-requires-clause-place
fill-requires-clause-place c = next_small c.self.invariant.0 c.self.view_is c.requires.spare

pub fill-requires-clause-empty : goal.fill-requires-clause-empty
fill-requires-clause-empty c =
    next_empty c.self.invariant.0 c.self.view_is c.requires.spare _ c.index_mut.ensures.value

pub overflow_add-self : goal.overflow_add-self
overflow_add-self c = record { fits = omega (arith, slots_fit c.self.invariant.0, c.self.invariant.0.few) }

pub invariant_of-self : goal.invariant_of-self
invariant_of-self c =
    let some = left c.self.invariant.0 c.self.view_is c.requires.spare in
    let is = push_stack c.self.invariant.0 c.self.view_is c.requires.spare _ c.index_mut.ensures.value c.fill.new.self
    c.of.result c.fill.ensures.chunk c.fill.ensures.slots c.of.ensures.slot in
    (counted_again is (omega arith), omega (arith, some))

pub returns-clause-frames : goal.returns-clause-frames
returns-clause-frames c =
    push_frames c.self.invariant.0 c.self.view_is c.requires.spare _ c.index_mut.ensures.value c.fill.new.self
    c.of.result
    c.fill.ensures.chunk c.fill.ensures.slots c.of.ensures.slot _ c.of.ensures.words
