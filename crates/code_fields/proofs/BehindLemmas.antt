-- Words, and what stands after them.
use Rattle.std.proofs.Common.{◌≡◌, ℕ, ◌^◌, true, nat_eq, List, [], ◌∷◌, ◌++◌}
use Rattle.std.proofs.Common.{length, drop, Option, Some, None, refl, ap}
use Rattle.std.proofs.Common.{◌∙◌, subst, arith}
use Rattle.std.specs.Prelude.{decimal, option_and_then}
use Rattle.std.specs.List.{starts_with}
use Rattle.std.proofs.lemmas.Bool.Decides.{Decides-eqb}
use Rattle.std.proofs.lemmas.Option.{cond_some, option_and_then_some}
use Rattle.std.proofs.lemmas.Slice.Eq.{starts_is}
use Rattle.chart_lexer.specs.Words.{is_name}
use Rattle.code_fields.specs.Spelling.{IsNumber, IsName}
use Rattle.code_fields.specs.Fields.{number_of, behind, number_behind, name_of}
use Rattle.code_fields.proofs.NumberLemmas.{numeral-some, numeral-decimal}

-- what stands after the words
drop_front : (words text : List ℕ) → drop (length words) (words ++ text) ≡ text
drop_front [] text = refl
drop_front (w ∷ words) text = drop_front words text

-- words and what is after them
pub behind-append : (words text : List ℕ) → behind words (words ++ text) ≡ Some text
unfolding behind
behind-append words text =
    let starts : starts_with nat_eq (words ++ text) words ≡ true = (starts_is Decides-eqb (words ++ text) words (starts_with nat_eq (words ++ text) words) refl).1 text refl in
    rw (starts, drop_front words text) refl

-- only a text that begins with the words has something after them
pub behind-some : (words text rest : List ℕ) → behind words text ≡ Some rest → text ≡ words ++ rest
unfolding behind
behind-some words text rest h =
    let got = cond_some (starts_with nat_eq text words) (drop (length words) text) rest h in
    (starts_is Decides-eqb text words (starts_with nat_eq text words) refl).0 got.0
    ∙ ap (λ (t : List ℕ). words ++ t) got.1

-- a number of a line is read
pub number_of-decimal : (n : ℕ) → IsNumber n → number_of (decimal n) ≡ Some n
number_of-decimal n h = numeral-decimal (2 ^ 32) n h (omega arith)

-- words and a number
pub number_behind-line : (words : List ℕ) (n : ℕ) → IsNumber n → number_behind words (words ++ decimal n) ≡ Some n
unfolding number_behind
number_behind-line words n h = rw (behind-append words (decimal n)) (number_of-decimal n h)

-- only that number, in its one spelling
pub number_behind-some : (words text : List ℕ) (n : ℕ) → number_behind words text ≡ Some n
    → (text ≡ words ++ decimal n) × IsNumber n
unfolding number_behind
number_behind-some words text n h =
    option_and_then_some number_of (behind words text) n h (λ rest e g.
    let got = numeral-some (2 ^ 32) rest n g in
    (behind-some words text rest e ∙ ap (λ (t : List ℕ). words ++ t) got.1, got.0))

-- a name
pub name_of-name : (name : List ℕ) → IsName name → name_of name ≡ Some name
name_of-name name h = rw h refl

-- and no other text
pub name_of-some : (text name : List ℕ) → name_of text ≡ Some name → (text ≡ name) × IsName name
name_of-some text name h =
    let got = cond_some (is_name text) text name h in
    (got.1, subst IsName got.1 got.0)
