-- Operands without operators, in both directions.
use Rattle.std.proofs.Common.{◌≡◌, ℕ, ◌+◌, ◌^◌, ◌<◌, ◌≤◌, Bool, true, false}
use Rattle.std.proofs.Common.{nat_lt, List, [], ◌∷◌, ◌++◌, Option, Some, None}
use Rattle.std.proofs.Common.{refl, sym, ap, ◌∙◌, subst, arith}
use Rattle.std.specs.Prelude.{codes, decimal, option_map, option_and_then, pos}
use Rattle.std.specs.Fmt.{signed_decimal}
use Rattle.std.specs.Str.{bytes_eq}
use Rattle.std.proofs.lemmas.Bool.Decides.{nat_tests}
use Rattle.std.proofs.lemmas.Option.{cond_some, option_and_then_some}
use Rattle.fixed_point.specs.declared.num.Num.{Num}
use Rattle.actions.specs.Exprs.{Expr, Lit, Flag, Read, Active}
use Rattle.checked_chart.specs.Expressions.{IsLiteral, operator_count}
use Rattle.code_fields.specs.Cuts.{Parts, parts_at}
use Rattle.code_fields.specs.Spelling.{IsNumber, HasNumbers, flag_word, literal_word, expr_words}
use Rattle.code_fields.specs.Fields.{kept, or_else, numeral, number_of, number_behind, behind}
use Rattle.code_fields.specs.Expressions.{frac_of, literal_with, literal_parts, literal_of, atom_of, operator_of}
use Rattle.code_fields.proofs.CutLemmas.{option_map_some, parts_at-some, parts_at-front}
use Rattle.code_fields.proofs.NumberLemmas.{numeral-some, numeral-decimal, decimal-lacks, colon}
use Rattle.code_fields.proofs.BehindLemmas.{behind-append, behind-some, number_of-decimal}
use Rattle.code_fields.proofs.BehindLemmas.{number_behind-line, number_behind-some}
use Rattle.code_fields.proofs.WordLemmas.{tested}
use Rattle.code_fields.proofs.ScaleLemmas.{or_else_some}
use Rattle.code_fields.proofs.NewlineLemmas.{IsWord, word_tested, word-append, number_word}

-- ---- literals

-- a fraction of at most 32 passes the test
few_places : (n : ℕ) → n ≤ 32 → nat_lt n 33 ≡ true
few_places n h = grind (arith, nat_tests)

-- and no other does
places_few : (n : ℕ) → nat_lt n 33 ≡ true → n ≤ 32
places_few n h = grind (arith, nat_tests)

-- a fraction is read
frac_of-decimal : (n : ℕ) → n ≤ 32 → frac_of (decimal n) ≡ Some n
frac_of-decimal n h =
    ap (λ (o : Option ℕ). option_and_then (kept (λ m. nat_lt m 33)) o) (number_of-decimal n (omega arith)) ∙ rw (few_places n h) refl

-- and only a fraction
frac_of-some : (token : List ℕ) (n : ℕ) → frac_of token ≡ Some n → (token ≡ decimal n) × (n ≤ 32)
frac_of-some token n h =
    option_and_then_some (kept (λ m. nat_lt m 33)) (number_of token) n h (λ m e g.
    let got = cond_some (nat_lt m 33) m n g in
    let P : ℕ → Type 0 = λ k. (token ≡ decimal k) × (k ≤ 32) in
    subst P got.1 ((numeral-some (2 ^ 32) token m e).1, places_few m got.0))

-- a literal of whole steps
abbrev literal : ℕ → ℕ → Num
literal units frac = record { mantissa = pos units; frac = frac }

-- a literal is read
literal_read : (units frac : ℕ) → units < 2 ^ 99 → frac ≤ 32
    → literal_of (decimal units ++ 58 ∷ decimal frac) ≡ Some (literal units frac)
unfolding literal_of
literal_read units frac small short =
    ap (λ (o : Option Parts). option_and_then literal_parts o) (parts_at-front 58 (decimal units) (decimal frac) (decimal-lacks 58 units colon (omega arith)))
    ∙ (ap (λ (o : Option ℕ). option_and_then (literal_with (decimal frac)) o) (numeral-decimal (2 ^ 99) units small (omega arith))
    ∙ ap (λ (o : Option ℕ). option_map (λ f. literal units f) o) (frac_of-decimal frac short))

-- a number by its mantissa and its fraction
whole_steps : (n : Num) (units : ℕ) → n.mantissa ≡ pos units → n ≡ literal units n.frac
whole_steps n units e = ap (λ m. record { mantissa = m; frac = n.frac }) e

-- so is one with a mantissa in range
literal_of-words : (n : Num) → IsLiteral n → literal_of (signed_decimal n.mantissa ++ 58 ∷ decimal n.frac) ≡ Some n
literal_of-words n h =
    ap (λ m. literal_of (signed_decimal m ++ 58 ∷ decimal n.frac)) h.mantissa
    ∙ (literal_read h.units n.frac h.small h.short ∙ ap (λ m. Some m) (sym (whole_steps n h.units h.mantissa)))

-- the words of a literal without its sign
abbrev IsLiteralOf : List ℕ → Num → Type 0
IsLiteralOf text n = (text ≡ signed_decimal n.mantissa ++ 58 ∷ decimal n.frac) × IsLiteral n

-- and only such a literal
literal_of-some : (text : List ℕ) (n : Num) → literal_of text ≡ Some n → IsLiteralOf text n
unfolding literal_of
literal_of-some text n h =
    option_and_then_some literal_parts (parts_at 58 text) n h (λ parts e g.
    option_and_then_some (literal_with parts.rest) (numeral (2 ^ 99) parts.front) n g (λ units is k.
    option_map_some (λ f. literal units f) (frac_of parts.rest) n k (λ f fe made.
    let front = numeral-some (2 ^ 99) parts.front units is in
    let back = frac_of-some parts.rest f fe in
    let text_is : text ≡ decimal units ++ 58 ∷ decimal f =
    parts_at-some 58 text parts e ∙ (ap (λ (t : List ℕ). t ++ 58 ∷ parts.rest) front.1 ∙ ap (λ (t : List ℕ). decimal units ++ 58 ∷ t) back.0) in
    let is_literal : IsLiteral (literal units f) = record { units = units; mantissa = refl; small = front.0; short = back.1 } in
    subst (IsLiteralOf text) made (text_is, is_literal))))

-- ---- operands

-- an expression of one token
pub record IsAtom (x : Expr) : Type 0 where
  pub word : IsWord (expr_words x)
  pub none : operator_of (expr_words x) ≡ None
  pub read : atom_of (expr_words x) ≡ Some x

-- a literal
pub lit_atom : (n : Num) → IsLiteral n → IsAtom (Lit n)
unfolding atom_of operator_of number_behind behind
lit_atom n h =
    let digits : IsWord (signed_decimal n.mantissa) = subst (λ m. IsWord (signed_decimal m)) (sym h.mantissa) (number_word h.units (omega (arith, h.small))) in
    record {
      word = word-append (codes "#") (signed_decimal n.mantissa ++ 58 ∷ decimal n.frac) (word_tested (codes "#") refl refl)
          (word-append (signed_decimal n.mantissa) (58 ∷ decimal n.frac) digits
          (word-append (codes ":") (decimal n.frac) (word_tested (codes ":") refl refl) (number_word n.frac (omega (arith, h.short)))));
      none = refl;
      read = ap (λ (o : Option Num). option_map (λ m. Lit m) o) (literal_of-words n h);
    }

-- a flag
pub flag_atom : (b : Bool) → IsAtom (Flag b)
unfolding atom_of operator_of
flag_atom true = record { word = word_tested (codes "T") refl refl; none = refl; read = refl }
flag_atom false = record { word = word_tested (codes "F") refl refl; none = refl; read = refl }

-- a datum
pub read_atom : (v : ℕ) → IsNumber v → IsAtom (Read v)
unfolding atom_of operator_of
read_atom v h =
    record {
      word = word-append (codes "d") (decimal v) (word_tested (codes "d") refl refl) (number_word v (omega arith));
      none = refl;
      read = ap (λ (o : Option ℕ). or_else (option_map (λ n. Read n) o)
          (or_else (option_map (λ s. Active s) (number_behind (codes "in") (codes "d" ++ decimal v)))
          (option_map (λ n. Lit n) (option_and_then literal_of (behind (codes "#") (codes "d" ++ decimal v))))))
          (number_behind-line (codes "d") v h);
    }

-- a state
pub active_atom : (s : ℕ) → IsNumber s → IsAtom (Active s)
unfolding atom_of operator_of number_behind behind
active_atom s h =
    record {
      word = word-append (codes "in") (decimal s) (word_tested (codes "in") refl refl) (number_word s (omega arith));
      none = refl;
      read = ap (λ (o : Option ℕ). or_else (option_map (λ n. Active n) o)
          (option_map (λ n. Lit n) (option_and_then literal_of (behind (codes "#") (codes "in" ++ decimal s)))))
          (number_behind-line (codes "in") s h);
    }

-- a token that spells an expression without operators
pub record IsAtomOf (token : List ℕ) (x : Expr) : Type 0 where
  pub is : token ≡ expr_words x
  pub numbers : HasNumbers x
  pub none : operator_count x ≡ 0

-- only such a token is read as an operand
pub atom_of-some : (token : List ℕ) (x : Expr) → atom_of token ≡ Some x → IsAtomOf token x
unfolding atom_of
atom_of-some token x h =
    tested token (codes "T") (Flag true) x _ h (λ e made. subst (IsAtomOf token) made (record { is = e; numbers = tt; none = refl })) (λ h1.
    tested token (codes "F") (Flag false) x _ h1 (λ e made. subst (IsAtomOf token) made (record { is = e; numbers = tt; none = refl })) (λ h2.
    or_else_some (option_map (λ v. Read v) (number_behind (codes "d") token)) _ x h2 (λ g.
    option_map_some (λ v. Read v) (number_behind (codes "d") token) x g (λ v e made.
    let got = number_behind-some (codes "d") token v e in
    subst (IsAtomOf token) made (record { is = got.0; numbers = got.1; none = refl }))) (λ h3.
    or_else_some (option_map (λ s. Active s) (number_behind (codes "in") token)) _ x h3 (λ g.
    option_map_some (λ s. Active s) (number_behind (codes "in") token) x g (λ s e made.
    let got = number_behind-some (codes "in") token s e in
    subst (IsAtomOf token) made (record { is = got.0; numbers = got.1; none = refl }))) (λ h4.
    option_map_some (λ n. Lit n) (option_and_then literal_of (behind (codes "#") token)) x h4 (λ n e made.
    option_and_then_some literal_of (behind (codes "#") token) n e (λ rest r k.
    let got = literal_of-some rest n k in
    subst (IsAtomOf token) made (record { is = behind-some (codes "#") token rest r ∙ ap (λ (t : List ℕ). 35 ∷ t) got.0; numbers = got.1; none = refl })))))))
