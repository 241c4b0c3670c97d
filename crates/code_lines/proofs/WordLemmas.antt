-- The first words of instructions and conditions, and numbers after them.
use Rattle.std.proofs.Common.{◌≡◌, ℕ, ◌^◌, ◌<◌, false, List, [], ◌∷◌, ◌++◌, Option}
use Rattle.std.proofs.Common.{Some, None, refl, sym, ap, ◌∙◌, subst, arith}
use Rattle.std.specs.Prelude.{codes, decimal, option_map, option_and_then, if◌then◌else◌}
use Rattle.std.specs.Str.{bytes_eq}
use Rattle.std.proofs.lemmas.Option.{none-some}
use Rattle.code_fields.specs.Spelling.{IsNumber}
use Rattle.code_fields.specs.Fields.{number_of}
use Rattle.code_fields.proofs.CutLemmas.{Lacks, option_map_some}
use Rattle.code_fields.proofs.NumberLemmas.{numeral-some, decimal-lacks, minus}
use Rattle.code_fields.proofs.BehindLemmas.{number_of-decimal}
use Rattle.code_fields.proofs.WordLemmas.{tested}
use Rattle.code_lines.specs.declared.words.CondWord.{CondWord}
use Rattle.code_lines.specs.declared.words.CondWord.TheVariants as cond
use Rattle.code_lines.specs.declared.words.PlainWord.{PlainWord}
use Rattle.code_lines.specs.declared.words.PlainWord.TheVariants as plain
use Rattle.code_lines.specs.declared.words.Word.{Word}
use Rattle.code_lines.specs.declared.words.Word.TheVariants as words
use Rattle.code_lines.specs.Spelling.{note_word, HasNote}
use Rattle.code_lines.specs.Fields.{note_of, cond_word_of, word_of}

-- the word of a plain instruction
abbrev pub plain_word : PlainWord → List ℕ
plain_word plain.Emit = codes "emit"
plain_word plain.Mark = codes "mark"
plain_word plain.Clear = codes "clear"
plain_word plain.Keep = codes "keep"
plain_word plain.Skip = codes "skip"
plain_word plain.Call = codes "call"
plain_word plain.Visit = codes "visit"
plain_word plain.Send = codes "send"
plain_word plain.SendTo = codes "sendto"
plain_word plain.Home = codes "home"
plain_word plain.Ret = codes "ret"

-- the first word of an instruction
abbrev pub first_word : Word → List ℕ
first_word words.Assign = codes "set"
first_word words.Unless = codes "unless"
first_word (words.Plain word) = plain_word word

-- the first word of a condition
abbrev pub cond_word : CondWord → List ℕ
cond_word cond.On = codes "on"
cond_word cond.Bare = codes "bare"
cond_word cond.Current = codes "event"
cond_word cond.Result = codes "result"
cond_word cond.Test = codes "expr"
cond_word cond.Last = codes "last"

-- one more test of a word
tested_next : {A : Type 0} (spell : A → List ℕ) (word : List ℕ) (x o : A) (other : Option A)
    → (if bytes_eq word (spell x) then Some x else other) ≡ Some o
    → (other ≡ Some o → word ≡ spell o) → word ≡ spell o
tested_next spell word x o other h later = tested word (spell x) x o other h (λ e same. e ∙ ap spell same) later

-- only the first word of the instruction is read so
pub word_of-some : (word : List ℕ) (w : Word) → word_of word ≡ Some w → word ≡ first_word w
unfolding word_of
word_of-some word w h =
    tested_next first_word word words.Assign w _ h (λ h1.
    tested_next first_word word words.Unless w _ h1 (λ h2.
    tested_next first_word word (words.Plain plain.Emit) w _ h2 (λ h3.
    tested_next first_word word (words.Plain plain.Mark) w _ h3 (λ h4.
    tested_next first_word word (words.Plain plain.Clear) w _ h4 (λ h5.
    tested_next first_word word (words.Plain plain.Keep) w _ h5 (λ h6.
    tested_next first_word word (words.Plain plain.Skip) w _ h6 (λ h7.
    tested_next first_word word (words.Plain plain.Call) w _ h7 (λ h8.
    tested_next first_word word (words.Plain plain.Visit) w _ h8 (λ h9.
    tested_next first_word word (words.Plain plain.Send) w _ h9 (λ h10.
    tested_next first_word word (words.Plain plain.SendTo) w _ h10 (λ h11.
    tested_next first_word word (words.Plain plain.Home) w _ h11 (λ h12.
    tested_next first_word word (words.Plain plain.Ret) w _ h12 (λ h13. absurd (none-some w h13))))))))))))))

-- and that of the condition
pub cond_word_of-some : (word : List ℕ) (w : CondWord) → cond_word_of word ≡ Some w → word ≡ cond_word w
unfolding cond_word_of
cond_word_of-some word w h =
    tested_next cond_word word cond.On w _ h (λ h1.
    tested_next cond_word word cond.Bare w _ h1 (λ h2.
    tested_next cond_word word cond.Current w _ h2 (λ h3.
    tested_next cond_word word cond.Result w _ h3 (λ h4.
    tested_next cond_word word cond.Test w _ h4 (λ h5.
    tested_next cond_word word cond.Last w _ h5 (λ h6. absurd (none-some w h6)))))))

-- what a number makes is read
pub made_of : {A : Type 0} (f : ℕ → A) (n : ℕ) → IsNumber n → option_map f (number_of (decimal n)) ≡ Some (f n)
made_of f n h = ap (λ (o : Option ℕ). option_map f o) (number_of-decimal n h)

-- and only from its text
pub made_some : {A P : Type 0} (f : ℕ → A) (text : List ℕ) (x : A) → option_map f (number_of text) ≡ Some x
    → ((n : ℕ) → IsNumber n → text ≡ decimal n → f n ≡ x → P) → P
made_some f text x h k =
    option_map_some f (number_of text) x h (λ n e made. let got = numeral-some (2 ^ 32) text n e in k n got.0 got.1 made)

-- ---- notes

-- a text without a minus sign isn't one
no_sign : (text : List ℕ) → Lacks 45 text → bytes_eq text (codes "-") ≡ false
no_sign [] h = refl
no_sign (b ∷ text) h = rw h.0 refl

-- a note is read
pub note_of-word : (tag : Option ℕ) → HasNote tag → note_of (note_word tag) ≡ Some tag
note_of-word None h = refl
note_of-word (Some p) h = rw (no_sign (decimal p) (decimal-lacks 45 p minus (omega arith))) (made_of (λ n. Some n) p h)

-- and only from its text
pub note_of-some : (text : List ℕ) (tag : Option ℕ) → note_of text ≡ Some tag → (text ≡ note_word tag) × HasNote tag
note_of-some text tag h =
    let P : Option ℕ → Type 0 = λ o. (text ≡ note_word o) × HasNote o in
    tested text (codes "-") None tag _ h (λ e same. subst P same (e, tt)) (λ g.
    made_some (λ p. Some p) text tag g (λ n fits is same. subst P same (is, fits)))
