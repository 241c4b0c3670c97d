-- Expressions, in both directions.
use Rattle.std.proofs.Common.{◌≡◌, ℕ, zero, suc, ◌+◌, ◌-◌, ◌^◌, ◌<◌, ◌≤◌, true}
use Rattle.std.proofs.Common.{false, List, [], ◌∷◌, ◌++◌, Option, Some, None}
use Rattle.std.proofs.Common.{refl, sym, ap, ◌∙◌, subst, append_assoc, arith}
use Rattle.std.specs.Prelude.{codes, option_map, option_and_then}
use Rattle.std.proofs.lemmas.Option.{none-some, same_Some, option_and_then_some}
use Rattle.flow_base.specs.declared.chart_limits.TheConstants.{OPERATOR_LIMIT}
use Rattle.actions.specs.declared.expr.Op.{Op}
use Rattle.actions.specs.Exprs.{Expr, Lit, Flag, Read, Active, Neg, Not, Bin}
use Rattle.checked_chart.specs.Expressions.{operator_count}
use Rattle.code_fields.specs.declared.operators.Operator.{Operator}
use Rattle.code_fields.specs.declared.operators.Operator.TheVariants as operators
use Rattle.code_fields.specs.Cuts.{Field, field_of, joined}
use Rattle.code_fields.specs.Spelling.{HasNumbers, IsExpr, op_word, expr_words}
use Rattle.code_fields.specs.Expressions.{operator_of, atom_of, ReadExpr, with_second}
use Rattle.code_fields.specs.Expressions.{negated, denied, with_first, operands}
use Rattle.code_fields.specs.Expressions.{operand, by_operator, front_of, alone, expr_of}
use Rattle.code_fields.proofs.CutLemmas.{option_map_some, field_of-joined, field_of-is}
use Rattle.code_fields.proofs.WordLemmas.{operator_word, operator_of-word, operator_of-some, operator_word-lacks}
use Rattle.code_fields.proofs.NewlineLemmas.{IsLine, lacks-append, word_line}
use Rattle.code_fields.proofs.AtomLemmas.{IsAtom, lit_atom, flag_atom, read_atom, active_atom, IsAtomOf, atom_of-some}

-- words in front of a text
joined_more : (words text : List ℕ) (rest : Option (List ℕ)) → joined (words ++ text) rest ≡ words ++ joined text rest
joined_more words text None = refl
joined_more words text (Some r) = append_assoc words text (32 ∷ r)

-- an operand at the front of a text
atom_front : (depth left : ℕ) (x : Expr) (rest : Option (List ℕ)) → IsAtom x
    → front_of (suc depth) left (joined (expr_words x) rest) ≡ Some (record { expr = x; left = left; rest = rest })
unfolding front_of
atom_front depth left x rest h =
    let word = expr_words x in
    let go = front_of depth in
    ap (λ (f : Field). by_operator go left f (operator_of f.word)) (field_of-joined word rest h.word.0)
    ∙ (ap (λ (o : Option Operator). by_operator go left (record { word = word; rest = rest }) o) h.none
    ∙ ap (λ (o : Option Expr). option_map (λ y. record { expr = y; left = left; rest = rest }) o) h.read)

-- an operator at the front of a text
operator_front : (depth left : ℕ) (o : Operator) (text : List ℕ)
    → front_of (suc depth) (suc left) (operator_word o ++ 32 ∷ text) ≡ option_and_then (with_first (front_of depth) o) (front_of depth left text)
unfolding front_of
operator_front depth left o text =
    let go = front_of depth in
    ap (λ (f : Field). by_operator go (suc left) f (operator_of f.word)) (field_of-joined (operator_word o) (Some text) (operator_word-lacks o).0)
    ∙ ap (λ (p : Option Operator). by_operator go (suc left) (record { word = operator_word o; rest = Some text }) p) (operator_of-word o)

-- what a reader gives for the words of an expression
abbrev IsRead : Expr → Type 0
IsRead x = (depth left more : ℕ) (rest : Option (List ℕ)) → operator_count x < depth → left ≡ operator_count x + more
    → front_of depth left (joined (expr_words x) rest) ≡ Some (record { expr = x; left = more; rest = rest })

-- an operand is read
atom_read : (x : Expr) → operator_count x ≡ 0 → IsAtom x → IsRead x
atom_read x none atom zero left more rest deep few = absurd (omega arith)
atom_read x none atom (suc depth) left more rest deep few =
    let same : left ≡ more = omega arith in
    atom_front depth left x rest atom ∙ ap (λ (n : ℕ). Some (record { expr = x; left = n; rest = rest })) same

-- an operator with one operand is read
unary_read : (o : Operator) (x a : Expr) → ((f : ReadExpr) (depth : ℕ) → f.expr ≡ a → with_first (front_of depth) o f ≡ Some (record { expr = x; left = f.left; rest = f.rest }))
    → expr_words x ≡ operator_word o ++ 32 ∷ expr_words a → operator_count x ≡ 1 + operator_count a → IsRead a → IsRead x
unary_read o x a first words count read zero left more rest deep few = absurd (omega arith)
unary_read o x a first words count read (suc depth) left more rest deep few =
    let less : left ≡ suc (operator_count a + more) = omega arith in
    let text : joined (expr_words x) rest ≡ operator_word o ++ 32 ∷ joined (expr_words a) rest =
    ap (λ (w : List ℕ). joined w rest) words ∙ (joined_more (operator_word o) (32 ∷ expr_words a) rest ∙ ap (λ (t : List ℕ). operator_word o ++ t) (joined_more (32 ∷ []) (expr_words a) rest)) in
    let inner = read depth (operator_count a + more) more rest (omega arith) refl in
    ap (λ (n : ℕ). front_of (suc depth) n (joined (expr_words x) rest)) less
    ∙ (ap (λ (t : List ℕ). front_of (suc depth) (suc (operator_count a + more)) t) text
    ∙ (operator_front depth (operator_count a + more) o (joined (expr_words a) rest)
    ∙ (ap (λ (f : Option ReadExpr). option_and_then (with_first (front_of depth) o) f) inner
    ∙ first (record { expr = a; left = more; rest = rest }) depth refl)))

-- an operator with two operands is read
binary_read : (op : Op) (a b : Expr) → IsRead a → IsRead b → IsRead (Bin op a b)
binary_read op a b first second zero left more rest deep few = absurd (omega arith)
binary_read op a b first second (suc depth) left more rest deep few =
    let wa = expr_words a in
    let wb = expr_words b in
    let after = operator_count b + more in
    let less : left ≡ suc (operator_count a + after) = omega arith in
    let text : joined (expr_words (Bin op a b)) rest ≡ op_word op ++ 32 ∷ joined wa (Some (joined wb rest)) =
    joined_more (op_word op) (32 ∷ (wa ++ 32 ∷ wb)) rest
    ∙ ap (λ (t : List ℕ). op_word op ++ t)
    (joined_more (32 ∷ []) (wa ++ 32 ∷ wb) rest ∙ ap (λ (t : List ℕ). 32 ∷ t)
    (joined_more wa (32 ∷ wb) rest ∙ ap (λ (t : List ℕ). wa ++ t) (joined_more (32 ∷ []) wb rest))) in
    ap (λ (n : ℕ). front_of (suc depth) n (joined (expr_words (Bin op a b)) rest)) less
    ∙ (ap (λ (t : List ℕ). front_of (suc depth) (suc (operator_count a + after)) t) text
    ∙ (operator_front depth (operator_count a + after) (operators.Bin op) (joined wa (Some (joined wb rest)))
    ∙ (ap (λ (f : Option ReadExpr). option_and_then (with_first (front_of depth) (operators.Bin op)) f) (first depth (operator_count a + after) after (Some (joined wb rest)) (omega arith) refl)
    ∙ ap (λ (f : Option ReadExpr). option_map (with_second op a) f) (second depth after more rest (omega arith) refl))))

-- every expression with numbers of a text is read
expr_read : (x : Expr) → HasNumbers x → IsRead x
expr_read (Lit n) h = atom_read (Lit n) refl (lit_atom n h)
expr_read (Flag b) h = atom_read (Flag b) refl (flag_atom b)
expr_read (Read v) h = atom_read (Read v) refl (read_atom v h)
expr_read (Active s) h = atom_read (Active s) refl (active_atom s h)
expr_read (Neg a) h = unary_read operators.Neg (Neg a) a (λ f depth e. ap (λ y. Some (record { expr = Neg y; left = f.left; rest = f.rest })) e) refl refl (expr_read a h)
expr_read (Not a) h = unary_read operators.Not (Not a) a (λ f depth e. ap (λ y. Some (record { expr = Not y; left = f.left; rest = f.rest })) e) refl refl (expr_read a h)
expr_read (Bin op a b) h = binary_read op a b (expr_read a h.0) (expr_read b h.1)

-- the words of an expression are read as it
pub expr_of-words : (x : Expr) → IsExpr x → expr_of (expr_words x) ≡ Some x
unfolding expr_of
expr_of-words x h =
    ap (λ (f : Option ReadExpr). option_and_then (λ front. alone front front.rest) f)
    (expr_read x h.numbers (OPERATOR_LIMIT + 1) OPERATOR_LIMIT (OPERATOR_LIMIT - operator_count x) None (omega (arith, h.few)) (omega (arith, h.few)))

-- ---- the other way

-- a text whose front spells the expression, with the operators that it has
record IsFront (left : ℕ) (text : List ℕ) (f : ReadExpr) : Type 0 where
  is : text ≡ joined (expr_words f.expr) f.rest
  numbers : HasNumbers f.expr
  count : left ≡ operator_count f.expr + f.left

-- what a reader says
abbrev IsSoundReader : (ℕ → List ℕ → Option ReadExpr) → Type 0
IsSoundReader go = (left : ℕ) (text : List ℕ) (f : ReadExpr) → go left text ≡ Some f → IsFront left text f

-- the text of an operator and what follows it
behind_operator : (o : Operator) (text word r rest : List ℕ) (after : Option (List ℕ)) → text ≡ joined word after → after ≡ Some r
    → word ≡ operator_word o → r ≡ rest → text ≡ operator_word o ++ 32 ∷ rest
behind_operator o text word r rest after is e w same =
    is ∙ (ap (λ (q : Option (List ℕ)). joined word q) e ∙ (ap (λ (v : List ℕ). v ++ 32 ∷ r) w ∙ ap (λ (v : List ℕ). operator_word o ++ 32 ∷ v) same))

-- an operand
operand_sound : (left : ℕ) (text : List ℕ) (token : Field) (f : ReadExpr) → text ≡ joined token.word token.rest
    → operand left token ≡ Some f → IsFront left text f
operand_sound left text token f is h =
    option_map_some (λ x. record { expr = x; left = left; rest = token.rest }) (atom_of token.word) f h (λ x e made.
    let atom = atom_of-some token.word x e in
    let count : left ≡ operator_count x + left = omega (arith, atom.none) in
    subst (IsFront left text) made (record { is = is ∙ ap (λ (w : List ℕ). joined w token.rest) atom.is; numbers = atom.numbers; count = count }))

-- the first operand of an operator, and what comes of it
first_sound : (go : ℕ → List ℕ → Option ReadExpr) → IsSoundReader go → (o : Operator) (left : ℕ) (text r : List ℕ) (a f : ReadExpr)
    → text ≡ operator_word o ++ 32 ∷ r → IsFront left r a → with_first go o a ≡ Some f → IsFront (suc left) text f
first_sound go sound operators.Neg left text r a f is first h =
    let count : suc left ≡ 1 + operator_count a.expr + a.left = omega (arith, first.count) in
    let text_is : text ≡ joined (expr_words (Neg a.expr)) a.rest =
    is ∙ (ap (λ (t : List ℕ). codes "~" ++ 32 ∷ t) first.is ∙ sym (joined_more (codes "~ ") (expr_words a.expr) a.rest)) in
    subst (IsFront (suc left) text) (same_Some (negated a) f h) (record { is = text_is; numbers = first.numbers; count = count })
first_sound go sound operators.Not left text r a f is first h =
    let count : suc left ≡ 1 + operator_count a.expr + a.left = omega (arith, first.count) in
    let text_is : text ≡ joined (expr_words (Not a.expr)) a.rest =
    is ∙ (ap (λ (t : List ℕ). codes "!" ++ 32 ∷ t) first.is ∙ sym (joined_more (codes "! ") (expr_words a.expr) a.rest)) in
    subst (IsFront (suc left) text) (same_Some (denied a) f h) (record { is = text_is; numbers = first.numbers; count = count })
first_sound go sound (operators.Bin op) left text r a f is first h =
    option_map_some (with_second op a.expr) (option_and_then (go a.left) a.rest) f h (λ b e made.
    option_and_then_some (go a.left) a.rest b e (λ s rest_is g.
    let second = sound a.left s b g in
    let wa = expr_words a.expr in
    let wb = expr_words b.expr in
    let count : suc left ≡ 1 + operator_count a.expr + operator_count b.expr + b.left = omega (arith, first.count, second.count) in
    let r_is : r ≡ wa ++ 32 ∷ joined wb b.rest = first.is ∙ (ap (λ (q : Option (List ℕ)). joined wa q) rest_is ∙ ap (λ (t : List ℕ). wa ++ 32 ∷ t) second.is) in
    let back : op_word op ++ 32 ∷ (wa ++ 32 ∷ joined wb b.rest) ≡ joined (expr_words (Bin op a.expr b.expr)) b.rest =
    sym (joined_more (op_word op) (32 ∷ (wa ++ 32 ∷ wb)) b.rest
    ∙ ap (λ (t : List ℕ). op_word op ++ t)
    (joined_more (32 ∷ []) (wa ++ 32 ∷ wb) b.rest ∙ ap (λ (t : List ℕ). 32 ∷ t)
    (joined_more wa (32 ∷ wb) b.rest ∙ ap (λ (t : List ℕ). wa ++ t) (joined_more (32 ∷ []) wb b.rest)))) in
    subst (IsFront (suc left) text) made
    (record { is = is ∙ (ap (λ (t : List ℕ). op_word op ++ 32 ∷ t) r_is ∙ back); numbers = (first.numbers, second.numbers); count = count })))

-- an operator and its operands
operands_sound : (go : ℕ → List ℕ → Option ReadExpr) → IsSoundReader go → (o : Operator) (left : ℕ) (text : List ℕ) (token : Field)
    (f : ReadExpr) → text ≡ joined token.word token.rest → token.word ≡ operator_word o
    → operands go o left token.rest ≡ Some f → IsFront left text f
operands_sound go sound o zero text token f is w h = absurd (none-some f h)
operands_sound go sound o (suc left) text token f is w h =
    option_and_then_some (with_first go o) (option_and_then (go left) token.rest) f h (λ a e g.
    option_and_then_some (go left) token.rest a e (λ r rest_is k.
    first_sound go sound o left text r a f (behind_operator o text token.word r r token.rest is rest_is w refl) (sound left r a k) g))

-- by the operator of the first token
by_operator_sound : (go : ℕ → List ℕ → Option ReadExpr) → IsSoundReader go → (left : ℕ) (text : List ℕ) (token : Field)
    (o : Option Operator) (f : ReadExpr) → text ≡ joined token.word token.rest → operator_of token.word ≡ o
    → by_operator go left token o ≡ Some f → IsFront left text f
by_operator_sound go sound left text token None f is e h = operand_sound left text token f is h
by_operator_sound go sound left text token (Some o) f is e h =
    operands_sound go sound o left text token f is (operator_of-some token.word o e) h

-- what is read at the front of a text is spelled so
front_sound : (depth : ℕ) → IsSoundReader (front_of depth)
unfolding front_of
front_sound zero left text f h = absurd (none-some f h)
front_sound (suc depth) left text f h =
    let token = field_of text in
    by_operator_sound (front_of depth) (front_sound depth) left text token (operator_of token.word) f (field_of-is text) refl h

-- an expression with nothing after it
alone_is : (left : ℕ) (text : List ℕ) (f : ReadExpr) (rest : Option (List ℕ)) (x : Expr) → f.rest ≡ rest → left ≤ OPERATOR_LIMIT
    → IsFront left text f → alone f rest ≡ Some x → (text ≡ expr_words x) × IsExpr x
alone_is left text f None x e few front h =
    let text_is : text ≡ expr_words f.expr = front.is ∙ ap (λ (q : Option (List ℕ)). joined (expr_words f.expr) q) e in
    let P : Expr → Type 0 = λ y. (text ≡ expr_words y) × IsExpr y in
    let count : operator_count f.expr ≤ OPERATOR_LIMIT = omega (arith, front.count) in
    subst P (same_Some f.expr x h) (text_is, record { numbers = front.numbers; few = count })
alone_is left text f (Some r) x e few front h = absurd (none-some x h)

-- only the words of the expression are read so
pub expr_of-some : (text : List ℕ) (x : Expr) → expr_of text ≡ Some x → (text ≡ expr_words x) × IsExpr x
unfolding expr_of
expr_of-some text x h =
    option_and_then_some (λ front. alone front front.rest) (front_of (OPERATOR_LIMIT + 1) OPERATOR_LIMIT text) x h (λ f e g.
    alone_is OPERATOR_LIMIT text f f.rest x refl (omega arith) (front_sound (OPERATOR_LIMIT + 1) OPERATOR_LIMIT text f e) g)

-- two texts without newlines, with a space between them
lines_joined : (a b : List ℕ) → IsLine a → IsLine b → IsLine (a ++ 32 ∷ b)
lines_joined a b h g = lacks-append 10 a (32 ∷ b) h (refl, g)

-- its words have no newline in them
pub expr_words-line : (x : Expr) → HasNumbers x → IsLine (expr_words x)
expr_words-line (Lit n) h = (lit_atom n h).word.1
expr_words-line (Flag b) h = (flag_atom b).word.1
expr_words-line (Read v) h = (read_atom v h).word.1
expr_words-line (Active s) h = (active_atom s h).word.1
expr_words-line (Neg a) h = word_line (codes "~") (expr_words a) (operator_word-lacks operators.Neg) (expr_words-line a h)
expr_words-line (Not a) h = word_line (codes "!") (expr_words a) (operator_word-lacks operators.Not) (expr_words-line a h)
expr_words-line (Bin op a b) h =
    word_line (op_word op) (expr_words a ++ 32 ∷ expr_words b) (operator_word-lacks (operators.Bin op))
    (lines_joined (expr_words a) (expr_words b) (expr_words-line a h.0) (expr_words-line b h.1))

-- an operator between two operands that are read one after the other
pub both_read : (depth d left l : ℕ) (text : List ℕ) (op : Op) (token : Field) (rest rest' : List ℕ)
    (first second : ReadExpr) → depth ≡ suc d → left ≡ suc l → token ≡ field_of text
    → operator_of token.word ≡ Some (operators.Bin op) → token.rest ≡ Some rest → front_of d l rest ≡ Some first
    → first.rest ≡ Some rest' → front_of d first.left rest' ≡ Some second
    → front_of depth left text ≡ Some (with_second op first.expr second)
unfolding front_of
both_read depth d left l text op token rest rest' first second ed el et eo er ef er' es =
    rw (ed, el, ← et, eo, er, ef, er', es) refl
