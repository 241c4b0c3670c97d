-- The words of conditions, in both directions.
use Rattle.std.proofs.Common.{◌≡◌, ℕ, ◌+◌, ◌^◌, ◌<◌, List, ◌∷◌, ◌++◌, Option}
use Rattle.std.proofs.Common.{Some, None, refl, sym, ap, ◌∙◌, subst, arith}
use Rattle.std.specs.Prelude.{codes, decimal, option_map, option_and_then}
use Rattle.std.proofs.lemmas.Option.{none-some, option_and_then_some}
use Rattle.actions.specs.Exprs.{Expr}
use Rattle.code_language.specs.Instrs.{Cond, On, Bare, OnHome, BareHome, Current, Result, Test, Last}
use Rattle.code_fields.specs.Cuts.{Parts, parts_at}
use Rattle.code_fields.specs.Spelling.{IsNumber, IsExpr, expr_words}
use Rattle.code_fields.specs.Fields.{number_of}
use Rattle.code_fields.specs.Expressions.{expr_of}
use Rattle.code_fields.proofs.CutLemmas.{option_map_some, parts_at-some}
use Rattle.code_fields.proofs.WordLemmas.{tested}
use Rattle.code_fields.proofs.ExprLemmas.{expr_of-words, expr_of-some, expr_words-line}
use Rattle.code_fields.proofs.NewlineLemmas.{IsLine, line_tested, line_then, number_word}
use Rattle.code_lines.specs.declared.words.CondWord.{CondWord}
use Rattle.code_lines.specs.declared.words.CondWord.TheVariants as cond
use Rattle.code_lines.specs.Spelling.{cond_words, CondHasNumbers, CondHasWords}
use Rattle.code_lines.specs.Fields.{bare_cond, cond_word_of, cond_with, cond_at, cond_of}
use Rattle.code_lines.proofs.WordLemmas.{cond_word, cond_word_of-some, made_of, made_some}

-- a condition is read from its words
pub cond_of-words : (c : Cond) → CondHasNumbers c → CondHasWords c → cond_of (cond_words c) ≡ Some c
unfolding cond_of cond_word_of
cond_of-words (On s) h g = made_of (λ n. On n) s h
cond_of-words (Bare s) h g = made_of (λ n. Bare n) s h
cond_of-words OnHome h g = refl
cond_of-words BareHome h g = refl
cond_of-words (Current e) h g = made_of (λ n. Current n) e h
cond_of-words (Result r) h g = made_of (λ n. Result n) r h
cond_of-words (Test x) h g = ap (λ (o : Option Expr). option_map (λ y. Test y) o) (expr_of-words x g)
cond_of-words (Last s) h g = made_of (λ n. Last n) s h

-- a text that spells the condition
pub record IsCondOf (text : List ℕ) (c : Cond) : Type 0 where
  pub is : text ≡ cond_words c
  pub numbers : CondHasNumbers c
  pub words : CondHasWords c

-- a condition of one word
bare_some : (text : List ℕ) (c : Cond) → bare_cond text ≡ Some c → IsCondOf text c
bare_some text c h =
    tested text (codes "onhome") OnHome c _ h (λ e same. subst (IsCondOf text) same (record { is = e; numbers = tt; words = tt })) (λ h1.
    tested text (codes "barehome") BareHome c _ h1 (λ e same. subst (IsCondOf text) same (record { is = e; numbers = tt; words = tt })) (λ h2. absurd (none-some c h2)))

-- a condition of a word and a number
number_some : (f : ℕ → Cond) (word text args : List ℕ) (c : Cond) → text ≡ word ++ 32 ∷ args
    → ((n : ℕ) → IsNumber n → IsCondOf (word ++ 32 ∷ decimal n) (f n))
    → option_map f (number_of args) ≡ Some c → IsCondOf text c
number_some f word text args c is each h =
    made_some f args c h (λ n fits e same.
    let text_is : text ≡ word ++ 32 ∷ decimal n = is ∙ ap (λ (t : List ℕ). word ++ 32 ∷ t) e in
    subst (IsCondOf text) same (subst (λ (t : List ℕ). IsCondOf t (f n)) (sym text_is) (each n fits)))

-- a condition by its first word
with_some : (text args : List ℕ) (w : CondWord) (c : Cond) → text ≡ cond_word w ++ 32 ∷ args → cond_with args w ≡ Some c
    → IsCondOf text c
with_some text args cond.On c is h = number_some (λ n. On n) (codes "on") text args c is (λ n fits. record { is = refl; numbers = fits; words = tt }) h
with_some text args cond.Bare c is h = number_some (λ n. Bare n) (codes "bare") text args c is (λ n fits. record { is = refl; numbers = fits; words = tt }) h
with_some text args cond.Current c is h = number_some (λ n. Current n) (codes "event") text args c is (λ n fits. record { is = refl; numbers = fits; words = tt }) h
with_some text args cond.Result c is h = number_some (λ n. Result n) (codes "result") text args c is (λ n fits. record { is = refl; numbers = fits; words = tt }) h
with_some text args cond.Test c is h =
    option_map_some (λ x. Test x) (expr_of args) c h (λ x e same.
    let got = expr_of-some args x e in
    subst (IsCondOf text) same (record { is = is ∙ ap (λ (t : List ℕ). codes "expr" ++ 32 ∷ t) got.0; numbers = tt; words = got.1 }))
with_some text args cond.Last c is h = number_some (λ n. Last n) (codes "last") text args c is (λ n fits. record { is = refl; numbers = fits; words = tt }) h

-- a condition by the parts of its words
at_some : (text : List ℕ) (o : Option Parts) (c : Cond) → parts_at 32 text ≡ o → cond_at text o ≡ Some c → IsCondOf text c
at_some text None c e h = bare_some text c h
at_some text (Some parts) c e h =
    option_and_then_some (cond_with parts.rest) (cond_word_of parts.front) c h (λ w is g.
    with_some text parts.rest w c (parts_at-some 32 text parts e ∙ ap (λ (t : List ℕ). t ++ 32 ∷ parts.rest) (cond_word_of-some parts.front w is)) g)

-- only its words are read as the condition
pub cond_of-some : (text : List ℕ) (c : Cond) → cond_of text ≡ Some c → IsCondOf text c
unfolding cond_of
cond_of-some text c h = at_some text (parts_at 32 text) c refl h

-- a number of a line is one without a newline
pub number_line : (n : ℕ) → IsNumber n → IsLine (decimal n)
number_line n h = (number_word n (omega arith)).1

-- the words of a condition have no newline in them
pub cond_words-line : (c : Cond) → CondHasNumbers c → CondHasWords c → IsLine (cond_words c)
cond_words-line (On s) h g = line_then (codes "on ") (decimal s) refl (number_line s h)
cond_words-line (Bare s) h g = line_then (codes "bare ") (decimal s) refl (number_line s h)
cond_words-line OnHome h g = line_tested (codes "onhome") refl
cond_words-line BareHome h g = line_tested (codes "barehome") refl
cond_words-line (Current e) h g = line_then (codes "event ") (decimal e) refl (number_line e h)
cond_words-line (Result r) h g = line_then (codes "result ") (decimal r) refl (number_line r h)
cond_words-line (Test x) h g = line_then (codes "expr ") (expr_words x) refl (expr_words-line x g.numbers)
cond_words-line (Last s) h g = line_then (codes "last ") (decimal s) refl (number_line s h)
