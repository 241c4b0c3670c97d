-- A line has at most 40 bytes with its newline, and one with an expression at most 2,506.
use Rattle.std.proofs.Common.{◌≡◌, ℕ, ◌+◌, ◌*◌, ◌^◌, ◌<◌, ◌≤◌, Bool, true, false}
use Rattle.std.proofs.Common.{List, ◌∷◌, ◌++◌, length, codes, decimal, Option, Some, None, ap, arith, length-append}
use Rattle.std.specs.Fmt.{signed_decimal}
use Rattle.std.proofs.lemmas.Fmt.{length-decimal-le_wide}
use Rattle.fixed_point.specs.declared.num.Num.{Num}
use Rattle.actions.specs.declared.expr.Op.{Op}
use Rattle.actions.specs.declared.expr.Op.TheVariants as ops
use Rattle.actions.specs.Exprs.{Expr, Lit, Flag, Read, Active, Neg, Not, Bin}
use Rattle.checked_chart.specs.Expressions.{IsLiteral, operator_count}
use Rattle.code_language.specs.Instrs.{Cond, On, Bare, OnHome, BareHome, Current}
use Rattle.code_language.specs.Instrs.{Result, Test, Last, Instr, Assign, Emit}
use Rattle.code_language.specs.Instrs.{Mark, Clear, Keep, Unless, Skip, Call, Visit}
use Rattle.code_language.specs.Instrs.{Send, SendTo, Play, Home, Begin, Pass}
use Rattle.code_language.specs.Instrs.{Ret}
use Rattle.code_fields.specs.Spelling.{IsNumber, IsExpr, op_word, flag_word, literal_word, expr_words}
use Rattle.code_fields.specs.Spelling.{HasNumbers as ExprHasNumbers}
use Rattle.code_lines.specs.declared.format.Format.{Format}
use Rattle.code_lines.specs.Spelling.{note_word, cond_words, instr_line, CondHasNumbers, HasNote, HasNumbers}
use Rattle.code_lines.specs.Spelling.{CondHasWords, HasWords, IsInstr}
use Rattle.layout_text.specs.Sizes.{cond_limit, line_limit}

-- ---- numbers

-- a number of a text has at most 10 digits
pub number_size : (n : ℕ) → IsNumber n → length (decimal n) ≤ 10
number_size n h = length-decimal-le_wide 10 n (omega arith) (omega arith) (omega arith)

-- a number below 2^99 has at most 30
mantissa_size : (n : ℕ) → n < 2 ^ 99 → length (decimal n) ≤ 30
mantissa_size n h = length-decimal-le_wide 30 n (omega arith) (omega arith) (omega arith)

-- a number of at most 32 has at most 2
places_size : (n : ℕ) → n ≤ 32 → length (decimal n) ≤ 2
places_size n h = length-decimal-le_wide 2 n (omega arith) (omega arith) (omega arith)

-- a note
note_size : (o : Option ℕ) → HasNote o → length (note_word o) ≤ 10
note_size None h = omega arith
note_size (Some p) h = number_size p h

-- ---- expressions

-- a literal
literal_size : (n : Num) → IsLiteral n → length (literal_word n) ≤ 34
literal_size n h =
    let front = signed_decimal n.mantissa in
    let same : length (signed_decimal n.mantissa) ≡ length (decimal h.units) =
    ap (λ z. length (signed_decimal z)) h.mantissa in
    omega (
      arith,
      same,
      length-append front (58 ∷ decimal n.frac),
      mantissa_size h.units h.small,
      places_size n.frac h.short,
    )

-- an operator
op_size : (op : Op) → length (op_word op) ≤ 2
op_size ops.Or = omega arith
op_size ops.And = omega arith
op_size ops.Eq = omega arith
op_size ops.Ne = omega arith
op_size ops.Lt = omega arith
op_size ops.Le = omega arith
op_size ops.Gt = omega arith
op_size ops.Ge = omega arith
op_size ops.Add = omega arith
op_size ops.Sub = omega arith
op_size ops.Mul = omega arith
op_size ops.Div = omega arith

-- a flag
flag_size : (b : Bool) → length (flag_word b) ≤ 1
flag_size true = omega arith
flag_size false = omega arith

-- an operator adds at most 38 bytes
words_size : (x : Expr) → ExprHasNumbers x → length (expr_words x) ≤ 34 + 38 * operator_count x
words_size (Lit n) h = omega (arith, literal_size n h)
words_size (Flag b) h = omega (arith, flag_size b)
words_size (Read v) h = omega (arith, length-append (codes "d") (decimal v), number_size v h)
words_size (Active s) h = omega (arith, length-append (codes "in") (decimal s), number_size s h)
words_size (Neg a) h = omega (arith, length-append (codes "~") (32 ∷ expr_words a), words_size a h)
words_size (Not a) h = omega (arith, length-append (codes "!") (32 ∷ expr_words a), words_size a h)
words_size (Bin op a b) h =
    omega (
      arith,
      length-append (op_word op) (32 ∷ (expr_words a ++ (32 ∷ expr_words b))),
      length-append (expr_words a) (32 ∷ expr_words b),
      op_size op,
      words_size a h.0,
      words_size b h.1,
    )

-- an expression of a line
pub expr_size : (x : Expr) → IsExpr x → length (expr_words x) ≤ 2466
expr_size x h = omega (arith, words_size x h.numbers, h.few)

-- ---- lines

-- a word with a number after it
with_number : (word : List ℕ) (n : ℕ) → IsNumber n → length (word ++ decimal n) ≤ length word + 10
with_number word n h = omega (arith, length-append word (decimal n), number_size n h)

-- the condition after `unless K `, and the newline
cond_size : (c : Cond) → CondHasNumbers c → CondHasWords c → length (cond_words c) + 19 ≤ cond_limit c
cond_size (On s) h w = omega (arith, with_number (codes "on ") s h)
cond_size (Bare s) h w = omega (arith, with_number (codes "bare ") s h)
cond_size OnHome h w = omega arith
cond_size BareHome h w = omega arith
cond_size (Current e) h w = omega (arith, with_number (codes "event ") e h)
cond_size (Result r) h w = omega (arith, with_number (codes "result ") r h)
cond_size (Test x) h w = omega (arith, length-append (codes "expr ") (expr_words x), expr_size x w)
cond_size (Last s) h w = omega (arith, with_number (codes "last ") s h)

-- a word, a number and more after it
with_more : (word more : List ℕ) (n : ℕ) → IsNumber n
    → length (word ++ (decimal n ++ (32 ∷ more))) ≤ length word + 11 + length more
with_more word more n h =
    omega (arith, length-append word (decimal n ++ (32 ∷ more)), length-append (decimal n) (32 ∷ more), number_size n h)

-- a line with its newline
line_size : (x : Instr) → HasNumbers x → HasWords x → length (instr_line x) + 1 ≤ line_limit x
line_size (Assign v x) h w = omega (arith, with_more (codes "set ") (expr_words x) v h, expr_size x w)
line_size (Emit e) h w = omega (arith, with_number (codes "emit ") e h)
line_size (Mark s) h w = omega (arith, with_number (codes "mark ") s h)
line_size (Clear s) h w = omega (arith, with_number (codes "clear ") s h)
line_size (Keep s) h w = omega (arith, with_number (codes "keep ") s h)
line_size (Unless k c) h w = omega (arith, with_more (codes "unless ") (cond_words c) k h.0, cond_size c h.1 w)
line_size (Skip k) h w = omega (arith, with_number (codes "skip ") k h)
line_size (Call p tag) h w = omega (arith, with_more (codes "call ") (note_word tag) p h.0, note_size tag h.1)
line_size (Visit p tag) h w = omega (arith, with_more (codes "visit ") (note_word tag) p h.0, note_size tag h.1)
line_size (Send e) h w = omega (arith, with_number (codes "send ") e h)
line_size (SendTo e s p) h w =
    omega (
      arith,
      with_more (codes "sendto ") (decimal s ++ (32 ∷ decimal p)) e h.0,
      length-append (decimal s) (32 ∷ decimal p),
      number_size s h.1.0,
      number_size p h.1.1,
    )
line_size Play h w = omega arith
line_size (Home s) h w = omega (arith, with_number (codes "home ") s h)
line_size Begin h w = omega arith
line_size Pass h w = omega arith
line_size (Ret r) h w = omega (arith, with_number (codes "ret ") r h)

-- an instruction of a text
pub instr_size : (format : Format) (x : Instr) → IsInstr format x → length (instr_line x) + 1 ≤ line_limit x
instr_size format x h = line_size x h.numbers h.words
