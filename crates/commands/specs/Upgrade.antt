-- How `upgrade` ends.
use Rattle.std.specs.Prelude.{◌≡◌, ℕ, List}
use Rattle.code_language.specs.declared.code.RawCode.{RawCode}
use Rattle.commands.specs.declared.text.TextEnd.{TextEnd}
use Rattle.commands.specs.Call.{Call}
use Rattle.commands.specs.Texts.{TextEnds}
use Rattle.code_text.specs.declared.fault.CodeTextFault.{CodeTextFault}
use Rattle.code_text.specs.declared.limits.TheConstants.{TEXT_LIMIT}
use Rattle.code_lines.specs.declared.format.Format.TheVariants.{Two}
use Rattle.code_text.specs.Spelling.{code_text}
use Rattle.code_text.specs.Written.{written_of}
use Rattle.commands.specs.CodeText.{IsCodeText, RefusesCode}

-- the text is that of accepted code, and this is the code's text of format 2
pub record IsUpgraded (text upgraded : List ℕ) : Type 0 where
  pub raw : RawCode
  pub code : IsCodeText text raw
  pub text_is : upgraded ≡ code_text Two (written_of raw)

-- how `upgrade` ends, and when: it writes the text of format 2 of accepted code
abbrev pub UpgradeEnds : Call → List ℕ → TextEnd CodeTextFault → Type 0
UpgradeEnds = TextEnds TEXT_LIMIT IsUpgraded RefusesCode
