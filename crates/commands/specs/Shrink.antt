-- How `shrink` ends.
use Rattle.std.specs.Prelude.{◌≡◌, ℕ, List}
use Rattle.code_language.specs.declared.code.RawCode.{RawCode}
use Rattle.code_language.specs.Code.{code_of}
use Rattle.code_shrink.specs.Shrunk.{IsShrunk}
use Rattle.commands.specs.declared.text.TextEnd.{TextEnd}
use Rattle.commands.specs.Call.{Call}
use Rattle.commands.specs.Texts.{TextEnds}
use Rattle.code_text.specs.declared.fault.CodeTextFault.{CodeTextFault}
use Rattle.code_text.specs.declared.limits.TheConstants.{TEXT_LIMIT}
use Rattle.code_lines.specs.declared.format.Format.TheVariants.{Two}
use Rattle.code_text.specs.Spelling.{code_text}
use Rattle.code_text.specs.Written.{written_of}
use Rattle.commands.specs.CodeText.{IsCodeText, RefusesCode}

-- the text is that of format 2 of smaller code of the same meaning
pub record IsShrunkText (raw : RawCode) (text : List ℕ) : Type 0 where
  pub smaller : RawCode
  pub is_smaller : IsShrunk (code_of raw) (code_of smaller)
  pub text_is : text ≡ code_text Two (written_of smaller)

-- the first text is that of accepted code, and the second that of smaller code of the same meaning
pub record HasShrunkText (text shrunk : List ℕ) : Type 0 where
  pub raw : RawCode
  pub code : IsCodeText text raw
  pub made : IsShrunkText raw shrunk

-- how `shrink` ends, and when: it writes the text of format 2 of smaller code of the same meaning
abbrev pub ShrinkEnds : Call → List ℕ → TextEnd CodeTextFault → Type 0
ShrinkEnds = TextEnds TEXT_LIMIT HasShrunkText RefusesCode
