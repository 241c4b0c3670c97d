use Rattle.std.proofs.Common.{arith}
use Rattle.frame_stack.proofs.CallLemmas.{frame_within, frame_small, frame_chunk, frame_filled, word_small, set_stack}
use Rattle.frame_stack.proofs.CallLemmas.{set_frames}
use Rattle.frame_stack.proofs.stack.FrameStack.set.Goals as goal

pub index_mut-requires : goal.index_mut-requires
index_mut-requires c =
    omega (arith, frame_within c.self.invariant.0 c.self.view_is c.args.i c.requires.frame, c.self.inside.chunks.ok.0)

pub set_word-requires-clause-chunk : goal.set_word-requires-clause-chunk
set_word-requires-clause-chunk c =
    frame_chunk c.self.invariant.0 c.self.view_is c.args.i c.requires.frame _ c.index_mut.ensures.value

pub set_word-requires-clause-place : goal.set_word-requires-clause-place
set_word-requires-clause-place c = frame_small c.self.invariant.0 c.self.view_is c.args.i c.requires.frame

pub set_word-requires-clause-filled : goal.set_word-requires-clause-filled
set_word-requires-clause-filled c =
    frame_filled c.self.invariant.0 c.self.view_is c.args.i c.requires.frame _ c.index_mut.ensures.value

pub set_word-requires-clause-word : goal.set_word-requires-clause-word
set_word-requires-clause-word c =
    word_small c.self.invariant.0 c.self.view_is c.args.i c.requires.frame c.args.w c.requires.word

pub invariant_of-self : goal.invariant_of-self
invariant_of-self c = (
  set_stack c.self.invariant.0 c.self.view_is c.args.i c.requires.frame _ c.index_mut.ensures.value c.set_word.new.self
      c.args.w c.args.value c.set_word.ensures.chunk c.requires.word c.set_word.ensures.slots,
  c.self.invariant.1,
)

pub returns-clause-frames : goal.returns-clause-frames
returns-clause-frames c =
    set_frames c.self.invariant.0 c.self.view_is c.args.i c.requires.frame _ c.index_mut.ensures.value c.set_word.new.self
    c.args.w c.args.value c.set_word.ensures.chunk c.requires.word c.set_word.ensures.slots
