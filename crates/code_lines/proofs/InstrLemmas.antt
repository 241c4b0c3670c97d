-- The lines of instructions, in both directions.
use Rattle.std.proofs.Common.{◌≡◌, ℕ, ◌+◌, ◌^◌, ◌<◌, Bool, true, false, List}
use Rattle.std.proofs.Common.{◌∷◌, ◌++◌, Option, Some, None, refl, sym, ap}
use Rattle.std.proofs.Common.{◌∙◌, subst, arith}
use Rattle.std.specs.Prelude.{codes, decimal, option_map, option_and_then}
use Rattle.std.proofs.lemmas.Option.{none-some, cond_some, option_and_then_some}
use Rattle.actions.specs.Exprs.{Expr}
use Rattle.code_language.specs.Instrs.{Cond, Instr, Assign, Emit, Mark, Clear, Keep}
use Rattle.code_language.specs.Instrs.{Unless, Skip, Call, Visit, Send, SendTo}
use Rattle.code_language.specs.Instrs.{Play, Home, Begin, Pass, Ret}
use Rattle.code_fields.specs.Cuts.{Parts, parts_at}
use Rattle.code_fields.specs.Spelling.{IsNumber, expr_words}
use Rattle.code_fields.specs.Fields.{kept, number_of, word_then}
use Rattle.code_fields.specs.Expressions.{expr_of}
use Rattle.code_fields.proofs.CutLemmas.{option_map_some, parts_at-some, word_then-line, word_then-some}
use Rattle.code_fields.proofs.NumberLemmas.{numeral-some}
use Rattle.code_fields.proofs.BehindLemmas.{number_of-decimal}
use Rattle.code_fields.proofs.WordLemmas.{tested}
use Rattle.code_fields.proofs.ExprLemmas.{expr_of-words, expr_of-some, expr_words-line}
use Rattle.code_fields.proofs.NewlineLemmas.{IsLine, IsWord, line_tested, line_then}
use Rattle.code_fields.proofs.NewlineLemmas.{word_tested, number_word, word_line}
use Rattle.code_lines.specs.declared.format.Format.{Format}
use Rattle.code_lines.specs.declared.words.PlainWord.{PlainWord}
use Rattle.code_lines.specs.declared.words.PlainWord.TheVariants as plain
use Rattle.code_lines.specs.declared.words.Word.{Word}
use Rattle.code_lines.specs.declared.words.Word.TheVariants as words
use Rattle.code_lines.specs.Spelling.{note_word, cond_words, instr_line, HasNote, HasNumbers, HasWords, is_in, IsInstr}
use Rattle.code_lines.specs.Fields.{note_of, cond_of, bare_instr, word_of, set_with, unless_with, call_with, visit_with}
use Rattle.code_lines.specs.Fields.{send_to_with, send_with, plain_with, instr_with, instr_at, instr_of, instr_in}
use Rattle.code_lines.proofs.WordLemmas.{plain_word, first_word, word_of-some, made_of}
use Rattle.code_lines.proofs.WordLemmas.{made_some, note_of-word, note_of-some}
use Rattle.code_lines.proofs.CondLemmas.{cond_of-words, cond_of-some, number_line, cond_words-line}

-- a number is a word
pub number_is_word : (n : ℕ) → IsNumber n → IsWord (decimal n)
number_is_word n h = number_word n (omega arith)

-- a number that a space ends goes on
pub number_then : {B : Type 0} (go : ℕ → List ℕ → Option B) (n : ℕ) (rest : List ℕ) → IsNumber n
    → word_then number_of go (decimal n ++ 32 ∷ rest) ≡ go n rest
number_then go n rest h = word_then-line number_of go (decimal n) rest n (number_is_word n h).0 (number_of-decimal n h)

-- the line of an instruction is read as it
instr_of-line : (x : Instr) → HasNumbers x → HasWords x → instr_of (instr_line x) ≡ Some x
unfolding instr_of word_of
instr_of-line (Assign v x) h g =
    number_then set_with v (expr_words x) h ∙ ap (λ (o : Option Expr). option_map (λ y. Assign v y) o) (expr_of-words x g)
instr_of-line (Emit e) h g = made_of (λ n. Emit n) e h
instr_of-line (Mark s) h g = made_of (λ n. Mark n) s h
instr_of-line (Clear s) h g = made_of (λ n. Clear n) s h
instr_of-line (Keep s) h g = made_of (λ n. Keep n) s h
instr_of-line (Unless k c) h g =
    number_then unless_with k (cond_words c) h.0 ∙ ap (λ (o : Option Cond). option_map (λ d. Unless k d) o) (cond_of-words c h.1 g)
instr_of-line (Skip k) h g = made_of (λ n. Skip n) k h
instr_of-line (Call p tag) h g =
    number_then call_with p (note_word tag) h.0 ∙ ap (λ (o : Option (Option ℕ)). option_map (λ t. Call p t) o) (note_of-word tag h.1)
instr_of-line (Visit p tag) h g =
    number_then visit_with p (note_word tag) h.0 ∙ ap (λ (o : Option (Option ℕ)). option_map (λ t. Visit p t) o) (note_of-word tag h.1)
instr_of-line (Send e) h g = made_of (λ n. Send n) e h
instr_of-line (SendTo e s p) h g =
    number_then send_with e (decimal s ++ 32 ∷ decimal p) h.0
    ∙ (number_then (send_to_with e) s (decimal p) h.1.0 ∙ made_of (λ n. SendTo e s n) p h.1.1)
instr_of-line Play h g = refl
instr_of-line (Home s) h g = made_of (λ n. Home n) s h
instr_of-line Begin h g = refl
instr_of-line Pass h g = refl
instr_of-line (Ret r) h g = made_of (λ n. Ret n) r h

-- a line that spells the instruction
record IsInstrOf (line : List ℕ) (x : Instr) : Type 0 where
  is : line ≡ instr_line x
  numbers : HasNumbers x
  words : HasWords x

-- an instruction of one word
bare_some : (line : List ℕ) (x : Instr) → bare_instr line ≡ Some x → IsInstrOf line x
bare_some line x h =
    tested line (codes "play") Play x _ h (λ e same. subst (IsInstrOf line) same (record { is = e; numbers = tt; words = tt })) (λ h1.
    tested line (codes "begin") Begin x _ h1 (λ e same. subst (IsInstrOf line) same (record { is = e; numbers = tt; words = tt })) (λ h2.
    tested line (codes "pass") Pass x _ h2 (λ e same. subst (IsInstrOf line) same (record { is = e; numbers = tt; words = tt })) (λ h3. absurd (none-some x h3))))

-- an instruction of a word and a number
number_some : (f : ℕ → Instr) (word line args : List ℕ) (x : Instr) → line ≡ word ++ 32 ∷ args
    → ((n : ℕ) → IsNumber n → IsInstrOf (word ++ 32 ∷ decimal n) (f n))
    → option_map f (number_of args) ≡ Some x → IsInstrOf line x
number_some f word line args x is each h =
    made_some f args x h (λ n fits e same.
    let line_is : line ≡ word ++ 32 ∷ decimal n = is ∙ ap (λ (t : List ℕ). word ++ 32 ∷ t) e in
    subst (IsInstrOf line) same (subst (λ (t : List ℕ). IsInstrOf t (f n)) (sym line_is) (each n fits)))

-- a word, a number and what follows it
number_then_some : {B P : Type 0} (go : ℕ → List ℕ → Option B) (word line args : List ℕ) (y : B)
    → line ≡ word ++ 32 ∷ args → word_then number_of go args ≡ Some y
    → ((n : ℕ) (rest : List ℕ) → IsNumber n → line ≡ word ++ 32 ∷ (decimal n ++ 32 ∷ rest) → go n rest ≡ Some y → P) → P
number_then_some go word line args y is h k =
    word_then-some number_of go args y h (λ w rest n split read goes.
    let got = numeral-some (2 ^ 32) w n read in
    let args_are : args ≡ decimal n ++ 32 ∷ rest = split ∙ ap (λ (t : List ℕ). t ++ 32 ∷ rest) got.1 in
    k n rest got.0 (is ∙ ap (λ (t : List ℕ). word ++ 32 ∷ t) args_are) goes)

-- a `call` and a `visit`
noted : (f : ℕ → Option ℕ → Instr) (word line rest : List ℕ) (p : ℕ) (x : Instr)
    → line ≡ word ++ 32 ∷ (decimal p ++ 32 ∷ rest)
    → ((tag : Option ℕ) → HasNote tag → IsInstrOf (word ++ 32 ∷ (decimal p ++ 32 ∷ note_word tag)) (f p tag))
    → option_map (f p) (note_of rest) ≡ Some x → IsInstrOf line x
noted f word line rest p x is each h =
    option_map_some (f p) (note_of rest) x h (λ tag e same.
    let got = note_of-some rest tag e in
    let line_is : line ≡ word ++ 32 ∷ (decimal p ++ 32 ∷ note_word tag) = is ∙ ap (λ (t : List ℕ). word ++ 32 ∷ (decimal p ++ 32 ∷ t)) got.0 in
    subst (IsInstrOf line) same (subst (λ (t : List ℕ). IsInstrOf t (f p tag)) (sym line_is) (each tag got.1)))

-- an instruction without expression, by its first word
plain_some : (line args : List ℕ) (w : PlainWord) (x : Instr) → line ≡ plain_word w ++ 32 ∷ args
    → plain_with args w ≡ Some x → IsInstrOf line x
plain_some line args plain.Emit x is h = number_some (λ n. Emit n) (codes "emit") line args x is (λ n fits. record { is = refl; numbers = fits; words = tt }) h
plain_some line args plain.Mark x is h = number_some (λ n. Mark n) (codes "mark") line args x is (λ n fits. record { is = refl; numbers = fits; words = tt }) h
plain_some line args plain.Clear x is h = number_some (λ n. Clear n) (codes "clear") line args x is (λ n fits. record { is = refl; numbers = fits; words = tt }) h
plain_some line args plain.Keep x is h = number_some (λ n. Keep n) (codes "keep") line args x is (λ n fits. record { is = refl; numbers = fits; words = tt }) h
plain_some line args plain.Skip x is h = number_some (λ n. Skip n) (codes "skip") line args x is (λ n fits. record { is = refl; numbers = fits; words = tt }) h
plain_some line args plain.Call x is h =
    number_then_some call_with (codes "call") line args x is h (λ p rest fits line_is g.
    noted (λ n tag. Call n tag) (codes "call") line rest p x line_is (λ tag has. record { is = refl; numbers = (fits, has); words = tt }) g)
plain_some line args plain.Visit x is h =
    number_then_some visit_with (codes "visit") line args x is h (λ p rest fits line_is g.
    noted (λ n tag. Visit n tag) (codes "visit") line rest p x line_is (λ tag has. record { is = refl; numbers = (fits, has); words = tt }) g)
plain_some line args plain.Send x is h = number_some (λ n. Send n) (codes "send") line args x is (λ n fits. record { is = refl; numbers = fits; words = tt }) h
plain_some line args plain.SendTo x is h =
    number_then_some send_with (codes "sendto") line args x is h (λ e rest fits line_is g.
    word_then-some number_of (send_to_with e) rest x g (λ w more s split read goes.
    made_some (λ p. SendTo e s p) more x goes (λ p last more_is same.
    let state = numeral-some (2 ^ 32) w s read in
    let rest_is : rest ≡ decimal s ++ 32 ∷ decimal p =
    split ∙ (ap (λ (t : List ℕ). t ++ 32 ∷ more) state.1 ∙ ap (λ (t : List ℕ). decimal s ++ 32 ∷ t) more_is) in
    subst (IsInstrOf line) same
    (record { is = line_is ∙ ap (λ (t : List ℕ). codes "sendto" ++ 32 ∷ (decimal e ++ 32 ∷ t)) rest_is; numbers = (fits, (state.0, last)); words = tt }))))
plain_some line args plain.Home x is h = number_some (λ n. Home n) (codes "home") line args x is (λ n fits. record { is = refl; numbers = fits; words = tt }) h
plain_some line args plain.Ret x is h = number_some (λ n. Ret n) (codes "ret") line args x is (λ n fits. record { is = refl; numbers = fits; words = tt }) h

-- an instruction by its first word
with_some : (line args : List ℕ) (w : Word) (x : Instr) → line ≡ first_word w ++ 32 ∷ args → instr_with args w ≡ Some x
    → IsInstrOf line x
with_some line args words.Assign x is h =
    number_then_some set_with (codes "set") line args x is h (λ v rest fits line_is g.
    option_map_some (λ y. Assign v y) (expr_of rest) x g (λ y e same.
    let got = expr_of-some rest y e in
    subst (IsInstrOf line) same
    (record { is = line_is ∙ ap (λ (t : List ℕ). codes "set" ++ 32 ∷ (decimal v ++ 32 ∷ t)) got.0; numbers = fits; words = got.1 })))
with_some line args words.Unless x is h =
    number_then_some unless_with (codes "unless") line args x is h (λ k rest fits line_is g.
    option_map_some (λ c. Unless k c) (cond_of rest) x g (λ c e same.
    let got = cond_of-some rest c e in
    subst (IsInstrOf line) same
    (record { is = line_is ∙ ap (λ (t : List ℕ). codes "unless" ++ 32 ∷ (decimal k ++ 32 ∷ t)) got.is; numbers = (fits, got.numbers); words = got.words })))
with_some line args (words.Plain w) x is h = plain_some line args w x is h

-- an instruction by the parts of its line
at_some : (line : List ℕ) (o : Option Parts) (x : Instr) → parts_at 32 line ≡ o → instr_at line o ≡ Some x → IsInstrOf line x
at_some line None x e h = bare_some line x h
at_some line (Some parts) x e h =
    option_and_then_some (instr_with parts.rest) (word_of parts.front) x h (λ w is g.
    with_some line parts.rest w x (parts_at-some 32 line parts e ∙ ap (λ (t : List ℕ). t ++ 32 ∷ parts.rest) (word_of-some parts.front w is)) g)

-- only its line is read as the instruction
instr_of-some : (line : List ℕ) (x : Instr) → instr_of line ≡ Some x → IsInstrOf line x
unfolding instr_of
instr_of-some line x h = at_some line (parts_at 32 line) x refl h

-- in a format that has it
pub instr_in-line : (format : Format) (x : Instr) → IsInstr format x → instr_in format (instr_line x) ≡ Some x
unfolding instr_in
instr_in-line format x h =
    ap (λ (o : Option Instr). option_and_then (kept (is_in format)) o) (instr_of-line x h.numbers h.words) ∙ rw h.format_has refl

-- and only its line
pub instr_in-some : (format : Format) (line : List ℕ) (x : Instr) → instr_in format line ≡ Some x
    → (line ≡ instr_line x) × IsInstr format x
unfolding instr_in
instr_in-some format line x h =
    option_and_then_some (kept (is_in format)) (instr_of line) x h (λ y e g.
    let got = instr_of-some line y e in
    let test = cond_some (is_in format y) y x g in
    let P : Instr → Type 0 = λ z. (line ≡ instr_line z) × IsInstr format z in
    subst P test.1 (got.is, record { numbers = got.numbers; words = got.words; format_has = test.0 }))

-- a note is a word
pub note_is_word : (tag : Option ℕ) → HasNote tag → IsWord (note_word tag)
note_is_word None h = word_tested (codes "-") refl refl
note_is_word (Some p) h = number_is_word p h

-- the line of an instruction has no newline in it
pub instr_line-is : (x : Instr) → HasNumbers x → HasWords x → IsLine (instr_line x)
instr_line-is (Assign v x) h g = line_then (codes "set ") (decimal v ++ 32 ∷ expr_words x) refl (word_line (decimal v) (expr_words x) (number_is_word v h) (expr_words-line x g.numbers))
instr_line-is (Emit e) h g = line_then (codes "emit ") (decimal e) refl (number_line e h)
instr_line-is (Mark s) h g = line_then (codes "mark ") (decimal s) refl (number_line s h)
instr_line-is (Clear s) h g = line_then (codes "clear ") (decimal s) refl (number_line s h)
instr_line-is (Keep s) h g = line_then (codes "keep ") (decimal s) refl (number_line s h)
instr_line-is (Unless k c) h g = line_then (codes "unless ") (decimal k ++ 32 ∷ cond_words c) refl (word_line (decimal k) (cond_words c) (number_is_word k h.0) (cond_words-line c h.1 g))
instr_line-is (Skip k) h g = line_then (codes "skip ") (decimal k) refl (number_line k h)
instr_line-is (Call p tag) h g = line_then (codes "call ") (decimal p ++ 32 ∷ note_word tag) refl (word_line (decimal p) (note_word tag) (number_is_word p h.0) (note_is_word tag h.1).1)
instr_line-is (Visit p tag) h g = line_then (codes "visit ") (decimal p ++ 32 ∷ note_word tag) refl (word_line (decimal p) (note_word tag) (number_is_word p h.0) (note_is_word tag h.1).1)
instr_line-is (Send e) h g = line_then (codes "send ") (decimal e) refl (number_line e h)
instr_line-is (SendTo e s p) h g =
    line_then (codes "sendto ") (decimal e ++ 32 ∷ (decimal s ++ 32 ∷ decimal p)) refl
    (word_line (decimal e) (decimal s ++ 32 ∷ decimal p) (number_is_word e h.0) (word_line (decimal s) (decimal p) (number_is_word s h.1.0) (number_line p h.1.1)))
instr_line-is Play h g = line_tested (codes "play") refl
instr_line-is (Home s) h g = line_then (codes "home ") (decimal s) refl (number_line s h)
instr_line-is Begin h g = line_tested (codes "begin") refl
instr_line-is Pass h g = line_tested (codes "pass") refl
instr_line-is (Ret r) h g = line_then (codes "ret ") (decimal r) refl (number_line r h)
