-- Numbers are read with their literals.
use Rattle.std.proofs.Common.{◌≡◌, ℕ, ◌+◌, ◌≤◌, Bool, List, [], ◌∷◌, ◌++◌, length}
use Rattle.std.proofs.Common.{Option, Result, Ok, Err, inl, inr}
use Rattle.std.proofs.Common.{refl, sym, ap, ◌∙◌}
use Rattle.std.proofs.lemmas.Bool.{cases_Bool}
use Rattle.token_grammar.specs.declared.token.Kind.TheVariants as kinds
use Rattle.token_grammar.specs.declared.fault.TokenFault.{TokenFault}
use Rattle.token_grammar.specs.Token.{Lexeme, kind_eq}
use Rattle.token_grammar.specs.Grammar.{token, unless_refused}
use Rattle.fixed_point.specs.declared.reading.TheConstants.{DIGIT_LIMIT}
use Rattle.fixed_point.specs.declared.num.Num.{Num}
use Rattle.fixed_point.specs.declared.reading.NumFault.{NumFault}
use Rattle.fixed_point.specs.declared.reading.NumFault.TheVariants as num_faults
use Rattle.fixed_point.specs.Reading.{number_read, number_told, number_of, frac_of, value_after, value_of}
use Rattle.fixed_point.proofs.Values.{number_told-is, value_after-append}
use Rattle.chart_tree.specs.declared.name.LitText.{LitText}
use Rattle.chart_grammar.specs.Limits.{usual, unless_lifted}
use Rattle.chart_grammar.specs.Words.{lit_of}
use Rattle.statechart_grammar.specs.Words.{fault_of_length, number}
use Rattle.statechart_tokens.specs.Numbers.{or_fault, lit_told, first_literal}
use Rattle.statechart_tokens.proofs.WordLemmas.{value_or}

-- ---- the text of a number

-- the literal of at most DIGIT_LIMIT digits, or the fault of its number
pub told_few : (negative : Bool) (whole behind : List ℕ) (bits frac : Option ℕ) (units places : ℕ)
    (number : Result Num NumFault) (said : Option TokenFault)
    → length whole + length behind ≤ DIGIT_LIMIT → units ≡ value_after (value_after 0 whole) behind
    → places ≡ length behind → frac ≡ frac_of bits units places → number ≡ number_of negative units places frac
    → said ≡ fault_of_length number
    → or_fault said (record { units = units; places = places; q = bits })
    ≡ or_fault (fault_of_length (number_told negative whole behind bits)) (lit_told whole behind bits)
told_few negative whole behind bits frac units places number said few units_is places_is frac_is number_is said_is =
    let read : number ≡ number_told negative whole behind bits =
    number_is ∙ ap (number_of negative units places) frac_is
    ∙ ap (λ n. number_of negative units n (frac_of bits units n)) places_is
    ∙ ap (λ u. number_of negative u (length behind) (frac_of bits u (length behind))) units_is
    ∙ sym (number_told-is negative whole behind bits few) in
    let value : units ≡ value_of (whole ++ behind) = units_is ∙ sym (value_after-append 0 whole behind) in
    ap (λ o. or_fault o (record { units = units; places = places; q = bits })) (said_is ∙ ap fault_of_length read)
    ∙ ap (λ u. or_fault (fault_of_length (number_told negative whole behind bits))
    (record { units = u; places = places; q = bits })) value
    ∙ ap (λ n. or_fault (fault_of_length (number_told negative whole behind bits))
    (record { units = value_of (whole ++ behind); places = n; q = bits })) places_is

-- ---- number tokens

-- the fault of a first token that spells no literal
pub number_fails : (s : List Lexeme) (fault : TokenFault) → first_literal s ≡ Err fault
    → (number usual).reads s ≡ Err (fault, s)
unfolding number token
number_fails [] fault e = cc
number_fails (t ∷ s) fault e =
    elim (cases_Bool (kind_eq t.kind kinds.Number)) [
      | inl is_so ↦ let said = rw is_so at e in rw is_so (refused (number_read t.text) said)
      | inr not_so ↦ let said = rw not_so at e in rw not_so cc
    ]
  where
    refused : (read : Result Num NumFault) → or_fault (fault_of_length read) (lit_of t.text) ≡ Err fault
        → unless_refused (unless_lifted usual (fault_of_length read)) (t ∷ s) (Ok (t, s)) ≡ Err (fault, t ∷ s)
    refused (Ok n) said = absurd cc
    refused (Err num_faults.NotNumber) said = cc
    refused (Err num_faults.TooLong) said = cc
    refused (Err num_faults.NotBinary) said = absurd cc

-- what is read of a first token that spells a literal
pub number_given : (s : List Lexeme) (lit : LitText) → first_literal s ≡ Ok lit
    → (number usual).reads s ≡ (token kinds.Number).reads s
unfolding number token
number_given [] lit e = refl
number_given (t ∷ s) lit e =
    elim (cases_Bool (kind_eq t.kind kinds.Number)) [
      | inl is_so ↦ let said = rw is_so at e in rw is_so (passes (number_read t.text) said)
      | inr not_so ↦ let said = rw not_so at e in absurd cc
    ]
  where
    passes : (read : Result Num NumFault) → or_fault (fault_of_length read) (lit_of t.text) ≡ Ok lit
        → unless_refused (unless_lifted usual (fault_of_length read)) (t ∷ s) (Ok (t, s)) ≡ Ok (t, s)
    passes (Ok n) said = refl
    passes (Err num_faults.NotNumber) said = absurd cc
    passes (Err num_faults.TooLong) said = absurd cc
    passes (Err num_faults.NotBinary) said = refl

-- the literal of the number token that is read
pub literal_given : (s r : List Lexeme) (t : Lexeme) (lit : LitText) → first_literal s ≡ Ok lit
    → (token kinds.Number).reads s ≡ Ok (t, r) → lit ≡ lit_of t.text
unfolding token
literal_given [] r t lit said e = absurd cc
literal_given (u ∷ s) r t lit said e =
    elim (cases_Bool (kind_eq u.kind kinds.Number)) [
      | inl is_so ↦
          let read = rw is_so at e in
          let told = rw is_so at said in
          let same : u ≡ t = ap (value_or u) read in
          rw (sym same) (it_is (number_read u.text) told)
      | inr not_so ↦ let read = rw not_so at e in absurd cc
    ]
  where
    it_is : (read : Result Num NumFault) → or_fault (fault_of_length read) (lit_of u.text) ≡ Ok lit
        → lit ≡ lit_of u.text
    it_is (Ok n) told = cc
    it_is (Err num_faults.NotNumber) told = absurd cc
    it_is (Err num_faults.TooLong) told = absurd cc
    it_is (Err num_faults.NotBinary) told = cc
