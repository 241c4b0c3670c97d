-- Texts that are too long to be those of code.
use Rattle.std.proofs.Common.{◌≡◌, ℕ, true, ◌<◌, List, length, Err, refl, rules}
use Rattle.std.specs.Prelude.{nat_lt}
use Rattle.code_text.specs.declared.fault.CodeTextFault.TheVariants as faults
use Rattle.code_text.specs.declared.limits.TheConstants.{TEXT_LIMIT}
use Rattle.code_text.specs.Reading.{spelled}
use Rattle.commands.specs.CodeText.{RefusesCode}

-- a text that passes the limit spells nothing
spells_none : (text : List ℕ) → TEXT_LIMIT < length text → spelled text ≡ Err faults.TextTooLong
spells_none text h = let long : nat_lt TEXT_LIMIT (length text) ≡ true = search rules in rw long refl

-- a text that passes the limit is refused as such
pub too_long_refused : (text : List ℕ) → TEXT_LIMIT < length text → RefusesCode text faults.TextTooLong
too_long_refused text h = record { cause = spells_none text h; of_text = λ e. absurd cc }
