-- Keywords and symbols, one before what is spelled.
use Rattle.std.proofs.Common.{◌≡◌, true, false, ◌∷◌, List, Bool, Option, None, refl, ap}
use Rattle.token_grammar.specs.declared.token.Kind.{Kind}
use Rattle.token_grammar.specs.declared.token.Kind.TheVariants as kinds
use Rattle.token_grammar.specs.declared.fault.TokenFault.{TokenFault}
use Rattle.token_grammar.specs.Token.{Lexeme}
use Rattle.token_grammar.specs.Grammar.{Grammar, is, token, one_of, allowed, ◌>>=◌, ◌>>◌}
use Rattle.chart_grammar.specs.Expressions.{flag_heads}
use Rattle.chart_print.specs.Pieces.{kind_bytes}
use Rattle.chart_print.specs.Expressions.{flag_kind}
use Rattle.canonical_text.specs.Words.{Word, WordsSpell}
use Rattle.canonical_text.proofs.Words.{keyword}
use Rattle.canonical_text.proofs.Spelled.{spell_token, spell_one_of, spell_then, spell_allowed}

-- a keyword or a symbol, and then what its place and bytes don't matter for
pub spell_word : {Y B : Type 0} {h : Grammar Y} {view : Y → B} {b : List Word} {y : B} (k : Kind)
    → WordsSpell h view b y → WordsSpell (token k >> h) view (keyword k ∷ b) y
spell_word k p = spell_then (spell_token k (kind_bytes k)) (λ v e. p)

-- the same where the keyword is allowed
pub spell_allowed_word : {Y B : Type 0} {h : Grammar Y} {view : Y → B} {b : List Word} {y : B} (k : Kind)
    {said : Option TokenFault}
    → said ≡ None → WordsSpell h view b y
    → WordsSpell (allowed (is k) (λ t. said) (token k) >> h) view (keyword k ∷ b) y
spell_allowed_word k free p = spell_then (spell_allowed (is k) free (spell_token k (kind_bytes k))) (λ v e. p)

-- one of several keywords, whose kind matters for what stands after it
pub spell_kind : {Y B : Type 0} {h : Lexeme → Grammar Y} {view : Y → B} {b : List Word} {y : B} (set : Kind → Bool)
    (k : Kind)
    → set k ≡ true → ((t : Lexeme) → t.kind ≡ k → WordsSpell (h t) view b y)
    → WordsSpell (one_of set >>= h) view (keyword k ∷ b) y
spell_kind set k there p =
    spell_then (spell_one_of set k (kind_bytes k) there) (λ t e. p t (ap (λ (z : Word). z.kind) e))

-- the same where it is allowed
pub spell_allowed_kind : {Y B : Type 0} {h : Lexeme → Grammar Y} {view : Y → B} {b : List Word} {y : B}
    (set : Kind → Bool) (k : Kind)
    {said : Option TokenFault} → set k ≡ true → said ≡ None → ((t : Lexeme) → t.kind ≡ k → WordsSpell (h t) view b y)
    → WordsSpell (allowed set (λ t. said) (one_of set) >>= h) view (keyword k ∷ b) y
spell_allowed_kind set k there free p =
    spell_then (spell_allowed set free (spell_one_of set k (kind_bytes k) there))
    (λ t e. p t (ap (λ (z : Word). z.kind) e))

-- the keyword of a flag may stand for one, and tells it
pub flag_there : (value : Bool) → flag_heads (flag_kind value) ≡ true
flag_there true = refl
flag_there false = refl

-- the keyword of a flag tells it
pub flag_told : (value : Bool) → is kinds.True (flag_kind value) ≡ value
flag_told true = refl
flag_told false = refl
