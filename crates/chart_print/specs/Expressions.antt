-- Expressions, with the parentheses that their trees need and no others.
use Rattle.std.specs.Prelude.{ℕ, ◌+◌, ◌==◌, nat_lt, Bool, true, false, if◌then◌else◌, List, ◌++◌}
use Rattle.token_grammar.specs.declared.token.Kind.{Kind}
use Rattle.token_grammar.specs.declared.token.Kind.TheVariants as kinds
use Rattle.chart_tree.specs.declared.expr.UnWord.{UnWord}
use Rattle.chart_tree.specs.declared.expr.UnWord.TheVariants as un_words
use Rattle.chart_tree.specs.declared.expr.BinWord.{BinWord}
use Rattle.chart_tree.specs.declared.expr.BinWord.TheVariants as bin_words
use Rattle.chart_tree.specs.Trees.{Expr, Lit, Flag, Name, Active, Unary, Binary}
use Rattle.chart_print.specs.Pieces.{Piece, key, space}
use Rattle.chart_print.specs.Words.{name_pieces, path_pieces, literal_pieces}

-- ---- operators

-- the symbol of a unary operator
abbrev pub un_kind : UnWord → Kind
un_kind un_words.Neg = kinds.Minus
un_kind un_words.Not = kinds.Not

-- the symbol of a binary operator
abbrev pub bin_kind : BinWord → Kind
bin_kind bin_words.Or = kinds.OrOr
bin_kind bin_words.And = kinds.AndAnd
bin_kind bin_words.Eq = kinds.EqualEqual
bin_kind bin_words.Ne = kinds.NotEqual
bin_kind bin_words.Lt = kinds.Less
bin_kind bin_words.Le = kinds.LessEqual
bin_kind bin_words.Gt = kinds.Greater
bin_kind bin_words.Ge = kinds.GreaterEqual
bin_kind bin_words.Add = kinds.Plus
bin_kind bin_words.Sub = kinds.Minus
bin_kind bin_words.Mul = kinds.Star
bin_kind bin_words.Div = kinds.Slash

-- the precedence of comparisons
abbrev pub comparison : ℕ
comparison = 3

-- the precedence of an expression without a binary operator
abbrev pub tightest : ℕ
tightest = 6

-- the precedence of a binary operator: the higher, the tighter it binds
abbrev pub precedence : BinWord → ℕ
precedence bin_words.Or = 1
precedence bin_words.And = 2
precedence bin_words.Eq = comparison
precedence bin_words.Ne = comparison
precedence bin_words.Lt = comparison
precedence bin_words.Le = comparison
precedence bin_words.Gt = comparison
precedence bin_words.Ge = comparison
precedence bin_words.Add = 4
precedence bin_words.Sub = 4
precedence bin_words.Mul = 5
precedence bin_words.Div = 5

-- the precedence of an expression: that of its binary operator
abbrev pub expr_precedence : Expr → ℕ
expr_precedence (Lit lit at) = tightest
expr_precedence (Flag value at) = tightest
expr_precedence (Name name) = tightest
expr_precedence (Active path at) = tightest
expr_precedence (Unary word e at) = tightest
expr_precedence (Binary word l r at) = precedence word

-- the least precedence of a left operand without parentheses: a comparison isn't an operand of a comparison
abbrev pub left_least : BinWord → ℕ
left_least word = if precedence word == comparison then comparison + 1 else precedence word

-- the least precedence of a right operand without parentheses: operators group from the left
abbrev pub right_least : BinWord → ℕ
right_least word = precedence word + 1

-- ---- expressions

-- an operand, in parentheses where it needs them
unfoldable pub enclosed : Bool → List Piece → List Piece
enclosed true pieces = key kinds.OpenParen ++ pieces ++ key kinds.CloseParen
enclosed false pieces = pieces

-- the keyword of a flag: 'true' | 'false'
abbrev pub flag_kind : Bool → Kind
flag_kind true = kinds.True
flag_kind false = kinds.False

-- an expression on one line: a binary operator has a space on each side
unfoldable pub expr_pieces : Expr → List Piece
expr_pieces (Lit lit at) = literal_pieces lit
expr_pieces (Flag value at) = key (flag_kind value)
expr_pieces (Name name) = name_pieces name
expr_pieces (Active path at) =
    key kinds.In ++ key kinds.OpenParen ++ path_pieces path ++ key kinds.CloseParen
expr_pieces (Unary word e at) =
    key (un_kind word) ++ enclosed (nat_lt (expr_precedence e) tightest) (expr_pieces e)
expr_pieces (Binary word l r at) =
    enclosed (nat_lt (expr_precedence l) (left_least word)) (expr_pieces l)
    ++ space ++ key (bin_kind word) ++ space
    ++ enclosed (nat_lt (expr_precedence r) (right_least word)) (expr_pieces r)
