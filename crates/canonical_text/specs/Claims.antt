-- What is proved of numbers, expressions, transitions and charts, each by lemmas of its own.
use Rattle.std.specs.Prelude.{◌≡◌, ℕ, IsTrue, List, ◌∷◌, ◌++◌, Some, None, codes, if◌then◌else◌}
use Rattle.std.specs.List.{AllByRecursion}
use Rattle.token_grammar.specs.declared.token.Kind.{Kind}
use Rattle.token_grammar.specs.Token.{Lexeme}
use Rattle.token_grammar.specs.Grammar.{is}
use Rattle.fixed_point.specs.Reading.{number_read}
use Rattle.chart_lexer.specs.Words.{is_name}
use Rattle.chart_tree.specs.declared.name.NameText.{NameText}
use Rattle.chart_tree.specs.declared.name.LitText.{LitText}
use Rattle.chart_tree.specs.declared.chart.EventText.{EventText}
use Rattle.chart_tree.specs.Trees.{ScaleParts, Var, Path, Expr, Stmt, Trans, Junction, Chart}
use Rattle.chart_grammar.specs.Limits.{Counts, Counted, usual, after_event, after_variable}
use Rattle.chart_grammar.specs.Words.{name, path, number, lit_of, fault_of_number}
use Rattle.chart_grammar.specs.Expressions.{expr}
use Rattle.chart_grammar.specs.Types.{FlagWord, ScaleWord, type_word}
use Rattle.chart_grammar.specs.Transitions.{block, keyword_trans}
use Rattle.chart_grammar.specs.Declarations.{event, variable, zero_lit}
use Rattle.chart_grammar.specs.States.{junction, chart}
use Rattle.chart_print.specs.Pieces.{kind_bytes}
use Rattle.chart_print.specs.Words.{name_pieces, path_pieces, literal_pieces, digits_bytes, bits_bytes, is_int}
use Rattle.chart_print.specs.Words.{int_bytes, fix_bytes}
use Rattle.chart_print.specs.Expressions.{expr_pieces}
use Rattle.chart_print.specs.Transitions.{block_pieces, trans_pieces}
use Rattle.chart_print.specs.Declarations.{event_pieces, var_pieces}
use Rattle.chart_print.specs.Canonical.{junction_pieces, chart_pieces}
use Rattle.chart_print.specs.Places.{unplaced_name, unplaced_path, unplaced_expr, unplaced_block, unplaced_trans}
use Rattle.chart_print.specs.Places.{unplaced_junction, unplaced_event, unplaced_var, without_places}
use Rattle.canonical_text.specs.Words.{words_in, IsNumber, IsCut, WordsSpell}
use Rattle.canonical_text.specs.Sizes.{◌⊕◌, size_of_block, size_of_trans, size_of_junction, IsWithin}
use Rattle.canonical_text.specs.Terms.{IsNamed, IsPath, IsLiteral, IsScale, IsExpr, IsBlock, IsTrans, IsJunction}
use Rattle.canonical_text.specs.Terms.{IsVar, IsChart}

-- each of the tokens is cut from some text
abbrev pub AreCut : List Lexeme → Type 0
AreCut u = AllByRecursion IsCut u

-- ---- numbers and types

-- the canonical bytes of a number
abbrev pub literal_bytes : LitText → List ℕ
literal_bytes lit = digits_bytes lit.units lit.places ++ bits_bytes lit.q

-- these bytes are one number without a fault, and are read as the same literal
pub record LiteralIsRead (lit : LitText) : Type 0 where
  pub number : IsNumber (literal_bytes lit)
  pub sound : fault_of_number (number_read (literal_bytes lit)) ≡ None
  pub told : lit_of (literal_bytes lit) ≡ lit

-- the canonical bytes of a scale
abbrev pub scale_bytes : ScaleParts → List ℕ
scale_bytes scale = if is_int scale then int_bytes scale else fix_bytes scale

-- these bytes are a NAME and, as a type, this scale
pub record ScaleIsRead (scale : ScaleParts) : Type 0 where
  pub named : IsTrue (is_name (scale_bytes scale))
  pub told : type_word (scale_bytes scale) ≡ Some (ScaleWord scale)

-- numbers and types: their canonical bytes are read as the same numbers and types
pub record NumberClaims : Type 0 where
  pub literal_is_read : (lit : LitText) → IsLiteral lit → LiteralIsRead lit
  pub zero_is_literal : IsLiteral zero_lit
  pub scale_is_read : (scale : ScaleParts) → IsScale scale → ScaleIsRead scale
  -- a word that names a scale names one within its bounds
  pub scale_is_told : (text : List ℕ) (scale : ScaleParts) → type_word text ≡ Some (ScaleWord scale) → IsScale scale
  -- `bool` is a name, and as a type it is the flags
  pub flag_is_named : IsTrue (is_name (codes "bool"))
  pub flag_is_told : type_word (codes "bool") ≡ Some FlagWord

-- ---- names, paths and expressions

-- names, paths, numbers and expressions: what some tokens spell meets the conditions of Terms, and what meets them is
-- spelled by its canonical words
pub record ExpressionClaims : Type 0 where
  pub name_has : (u : List Lexeme) (x : NameText) → AreCut u → name.spells u x → IsNamed x
  -- whatever its text, since only the kind of the word counts here
  pub name_spelled : (x : NameText) → WordsSpell name unplaced_name (words_in (name_pieces x)) (unplaced_name x)
  pub path_has : (u : List Lexeme) (x : Path) → AreCut u → path.spells u x → IsPath x
  pub path_spelled : (x : Path) → IsPath x → WordsSpell path unplaced_path (words_in (path_pieces x)) (unplaced_path x)
  -- a number is spelled as a token, and `lit_of` gives its literal
  pub number_has : (u : List Lexeme) (t : Lexeme) → AreCut u → (number usual).spells u t → IsLiteral (lit_of t.text)
  pub number_spelled : (lit : LitText) → IsLiteral lit
      → WordsSpell (number usual) (λ t. lit_of t.text) (words_in (literal_pieces lit)) lit
  pub expr_has : (u : List Lexeme) (x : Expr) → AreCut u → (expr usual).spells u x → IsExpr x
  pub expr_spelled : (x : Expr) → IsExpr x
      → WordsSpell (expr usual) unplaced_expr (words_in (expr_pieces x)) (unplaced_expr x)

-- ---- blocks, transitions, junctions and declarations

-- a part of this size raises the counts from n to after, within the limits
pub record Adds (n size after : Counts) : Type 0 where
  pub count : after ≡ n ⊕ size
  pub within : IsWithin n → IsWithin after

-- a counted value, with the view of its value in place of the value
abbrev pub counted : {X Y : Type 0} → (X → Y) → Counted X → Counted Y
counted view x = record { value = view x.value; counts = x.counts }

-- a value with the counts after it
abbrev pub behind : {X : Type 0} → X → Counts → Counted X
behind x n = record { value = x; counts = n }

-- blocks, transitions, junctions and declarations: the same claims, where the counts before are n and the sizes are
-- added within the limits
pub record TransitionClaims : Type 0 where
  pub block_has : (n : Counts) (u : List Lexeme) (x : List Stmt) → AreCut u → (block usual n).spells u x
      → IsBlock x × (IsWithin n → IsWithin (n ⊕ size_of_block x))
  pub block_spelled : (n : Counts) (x : List Stmt) → IsBlock x → IsWithin (n ⊕ size_of_block x)
      → WordsSpell (block usual n) unplaced_block (words_in (block_pieces x)) (unplaced_block x)
  -- a transition with the keyword of kind k before it
  pub trans_has : (k : Kind) (n : Counts) (u : List Lexeme) (x : Counted Trans) → AreCut u
      → (keyword_trans usual (is k) n).spells u x → IsTrans x.value × Adds n (size_of_trans x.value) x.counts
  pub trans_spelled : (k : Kind) (n : Counts) (x : Trans) → IsTrans x → IsWithin (n ⊕ size_of_trans x)
      → WordsSpell (keyword_trans usual (is k) n) (counted unplaced_trans)
      (record { kind = k; text = kind_bytes k } ∷ words_in (trans_pieces x))
      (behind (unplaced_trans x) (n ⊕ size_of_trans x))
  pub junction_has : (n : Counts) (u : List Lexeme) (x : Counted Junction) → AreCut u
      → (junction usual n).spells u x → IsJunction x.value × Adds n (size_of_junction x.value) x.counts
  -- at any level of indentation
  pub junction_spelled : (level : ℕ) (n : Counts) (x : Junction) → IsJunction x → IsWithin (n ⊕ size_of_junction x)
      → WordsSpell (junction usual n) (counted unplaced_junction)
      (words_in (junction_pieces level x)) (behind (unplaced_junction x) (n ⊕ size_of_junction x))
  pub event_has : (n : Counts) (u : List Lexeme) (x : EventText) → AreCut u → (event usual n).spells u x
      → IsNamed x.name × (IsWithin n → IsWithin (after_event n))
  pub event_spelled : (n : Counts) (x : EventText) → IsNamed x.name → IsWithin (after_event n)
      → WordsSpell (event usual n) unplaced_event (words_in (event_pieces x)) (unplaced_event x)
  pub variable_has : (n : Counts) (u : List Lexeme) (x : Var) → AreCut u → (variable usual n).spells u x
      → IsVar x × (IsWithin n → IsWithin (after_variable n))
  pub variable_spelled : (n : Counts) (x : Var) → IsVar x → IsWithin (after_variable n)
      → WordsSpell (variable usual n) unplaced_var (words_in (var_pieces x)) (unplaced_var x)

-- ---- charts

-- charts: a chart that some tokens spell meets the conditions of Terms, and one that meets them is spelled by its
-- canonical words
pub record ChartClaims : Type 0 where
  pub chart_has : (u : List Lexeme) (x : Chart) → AreCut u → (chart usual).spells u x → IsChart x
  pub chart_spelled : (x : Chart) → IsChart x
      → WordsSpell (chart usual) without_places (words_in (chart_pieces x)) (without_places x)
