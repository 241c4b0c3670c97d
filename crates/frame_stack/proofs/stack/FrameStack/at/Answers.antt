use Rattle.std.proofs.Common.{◌∙◌, arith}
use Rattle.frame_stack.proofs.CallLemmas.{frame_within, frame_small, frame_chunk, frame_filled, frame_good, frame_words}
use Rattle.frame_stack.proofs.stack.FrameStack.at.Goals as goal

pub index-requires : goal.index-requires
index-requires c =
    omega (arith, frame_within c.self.invariant.0 c.self.view_is c.args.i c.requires, c.self.inside.chunks.ok.0)

pub slot-requires-clause-chunk : goal.slot-requires-clause-chunk
slot-requires-clause-chunk c =
    frame_chunk c.self.invariant.0 c.self.view_is c.args.i c.requires c.index.result.now c.index.ensures

pub slot-requires-clause-place : goal.slot-requires-clause-place
slot-requires-clause-place c = frame_small c.self.invariant.0 c.self.view_is c.args.i c.requires

pub slot-requires-clause-filled : goal.slot-requires-clause-filled
slot-requires-clause-filled c =
    frame_filled c.self.invariant.0 c.self.view_is c.args.i c.requires c.index.result.now c.index.ensures

pub words-requires : goal.words-requires
words-requires c =
    frame_good c.self.invariant.0 c.self.view_is c.args.i c.requires c.index.result.now c.index.ensures
    c.slot.result.now
    c.slot.ensures

pub returns-clause-words : goal.returns-clause-words
returns-clause-words c =
    c.words.ensures.words
    ∙ frame_words c.self.invariant.0 c.self.view_is c.args.i c.requires c.index.result.now c.index.ensures
    c.slot.result.now c.slot.ensures
