-- Which texts are those of accepted code, and for what another text is refused.
use Rattle.std.specs.Prelude.{◌≡◌, ◌≢◌, ◌≤◌, ℕ, List, length}
use Rattle.code_language.specs.declared.code.RawCode.{RawCode}
use Rattle.code_language.specs.Code.{code_of}
use Rattle.code_language.specs.WellFormed.{IsCode}
use Rattle.code_lines.specs.declared.format.Format.{Format}
use Rattle.code_text.specs.declared.fault.CodeTextFault.{CodeTextFault}
use Rattle.code_text.specs.declared.fault.CodeTextFault.TheVariants as faults
use Rattle.code_text.specs.declared.limits.TheConstants.{TEXT_LIMIT}
use Rattle.code_text.specs.Reading.{IsCause}
use Rattle.code_text.specs.Spelling.{code_text, IsSpellable}
use Rattle.code_text.specs.Written.{written_of}

-- the text spells this code in one of the formats, each byte of it, within its limit, and the code is well formed
pub record IsCodeText (text : List ℕ) (raw : RawCode) : Type 0 where
  pub format : Format
  pub text_is : text ≡ code_text format (written_of raw)
  pub spellable : IsSpellable format (written_of raw)
  pub well_formed : IsCode (code_of raw)
  pub short : length text ≤ TEXT_LIMIT

-- the text isn't that of accepted code, and that is its first fault, or the first of the code that it spells
pub record RefusesCode (text : List ℕ) (fault : CodeTextFault) : Type 0 where
  pub cause : IsCause text fault
  pub of_text : fault ≢ faults.Memory
