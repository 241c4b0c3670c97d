use Rattle.std.proofs.Common.{◌≡◌, ◌++◌, ◌∷◌, [], ap, ◌∙◌, append_assoc, arith, List, ℕ}
use Rattle.code_language.specs.Code.{instr_of}
use Rattle.code_lines.specs.Spelling.{instr_line, HasNumbers}
use Rattle.code_text.proofs.LoopLemmas.{view_printed, holds_from}
use Rattle.code_text.proofs.printer.print_instrs.Goals as goal

-- a line and its newline
ended : (before middle now line : List ℕ) → middle ≡ before ++ line → now ≡ middle ++ 10 ∷ []
    → now ≡ before ++ (line ++ 10 ∷ [])
ended before middle now line e g = g ∙ (ap (λ (t : List ℕ). t ++ 10 ∷ []) e ∙ append_assoc before line (10 ∷ []))

pub loop-instr-preserved : goal.loop-instr-preserved
loop-instr-preserved c =
    record {
      text = view_printed instr_line instr_of c.args.instrs.now c.loop-instr.instr-index c.instr-item.result _ _ _ c.instr-item.is (omega arith)
          (ended _ _ _ (instr_line (instr_of c.instr-item.result)) c.in_ok-print_instr.ensures.line c.in_ok-push_str.ensures.bytes) c.loop-instr.invariant.text;
      numbers = holds_from HasNumbers instr_of c.args.instrs.now c.loop-instr.instr-index c.instr-item.result
          c.instr-item.is (omega arith) c.in_ok-print_instr.ensures.numbers c.loop-instr.invariant.numbers;
    }
