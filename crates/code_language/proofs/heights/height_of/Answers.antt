use Rattle.std.proofs.Common.{◌+◌, ◌∙◌, max, drop, sym, ap}
use Rattle.std.specs.Prelude.{slice_index}
use Rattle.code_language.specs.Code.{instrs_of}
use Rattle.code_language.specs.Measures.{height_by}
use Rattle.code_language.proofs.MeasureLemmas.{height_step, height_end}
use Rattle.code_language.proofs.heights.height_of.Goals as goal

pub loop-instr-preserved : goal.loop-instr-preserved
loop-instr-preserved c =
    let h = slice_index c.args.heights.now in
    let xs = c.args.instrs.now in
    let turn = height_step h xs c.loop-instr.instr-index c.instr-item.result c.loop-instr.height c.loop-instr-test.true c.instr-item.is in
    let more = c.max-height.ensures ∙ ap (max c.loop-instr.height) c.rise.ensures in
    ap (λ m. max m (height_by h (drop (c.loop-instr.instr-index + 1) (instrs_of xs)))) more ∙ sym turn ∙ c.loop-instr.invariant

pub returns : goal.returns
returns c =
    let h = slice_index c.args.heights.now in
    let xs = c.args.instrs.now in
    height_end h xs c.loop-instr.instr-index c.loop-instr.height c.loop-instr-test.false ∙ c.loop-instr.invariant
