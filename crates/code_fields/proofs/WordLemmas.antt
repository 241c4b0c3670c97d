-- Words of kinds, modes and operators.
use Rattle.std.proofs.Common.{◌≡◌, ℕ, Bool, true, false, List, [], ◌∷◌, Option, Some, None, refl, ap, ◌∙◌, sym}
use Rattle.std.specs.Prelude.{codes, if◌then◌else◌}
use Rattle.std.specs.Str.{bytes_eq}
use Rattle.std.proofs.lemmas.Option.{none-some, same_Some}
use Rattle.std.proofs.lemmas.Slice.Eq.{bytes_eq-Decides}
use Rattle.fixed_point.specs.declared.fitting.Mode.{Mode}
use Rattle.fixed_point.specs.declared.fitting.Mode.TheVariants as modes
use Rattle.active_config.specs.declared.comp.Comp.{Comp}
use Rattle.active_config.specs.declared.comp.Comp.TheVariants as comps
use Rattle.actions.specs.declared.expr.Op.{Op}
use Rattle.actions.specs.declared.expr.Op.TheVariants as ops
use Rattle.actions.specs.declared.names.EventKind.{EventKind}
use Rattle.actions.specs.declared.names.EventKind.TheVariants as event_kinds
use Rattle.actions.specs.declared.names.VarKind.{VarKind}
use Rattle.actions.specs.declared.names.VarKind.TheVariants as var_kinds
use Rattle.code_fields.specs.declared.operators.Operator.{Operator}
use Rattle.code_fields.specs.declared.operators.Operator.TheVariants as operators
use Rattle.code_fields.specs.Spelling.{comp_word, var_kind_word, event_kind_word, mode_word, op_word}
use Rattle.code_fields.specs.Fields.{comp_of, var_kind_of, event_kind_of, mode_of}
use Rattle.code_fields.specs.Expressions.{operator_of}
use Rattle.code_fields.proofs.CutLemmas.{Lacks}

-- what a test of a word gives, or what comes after it
pub tested : {A P : Type 0} (word want : List ℕ) (x y : A) (other : Option A)
    → (if bytes_eq word want then Some x else other) ≡ Some y
    → (word ≡ want → x ≡ y → P) → (other ≡ Some y → P) → P
tested {P = P} word want x y other h here later = by_test (bytes_eq word want) refl h
  where
    by_test : (b : Bool) → bytes_eq word want ≡ b → (if b then Some x else other) ≡ Some y → P
    by_test true e g = here ((bytes_eq-Decides word want).0 e) (same_Some x y g)
    by_test false e g = later g

-- a word by what it names
spelt : {A : Type 0} (spell : A → List ℕ) (word want : List ℕ) (x y : A) → spell x ≡ want → word ≡ want → x ≡ y
    → word ≡ spell y
spelt spell word want x y is e same = e ∙ (sym is ∙ ap spell same)

-- the word of each is read as it
pub comp_of-word : (c : Comp) → comp_of (comp_word c) ≡ Some c
unfolding comp_of
comp_of-word comps.Leaf = refl
comp_of-word comps.Or = refl
comp_of-word comps.And = refl

-- and no other word is
pub comp_of-some : (word : List ℕ) (c : Comp) → comp_of word ≡ Some c → word ≡ comp_word c
unfolding comp_of
comp_of-some word c h =
    tested word (codes "leaf") comps.Leaf c _ h (spelt comp_word word (codes "leaf") comps.Leaf c refl) (λ h1.
    tested word (codes "or") comps.Or c _ h1 (spelt comp_word word (codes "or") comps.Or c refl) (λ h2.
    tested word (codes "and") comps.And c _ h2 (spelt comp_word word (codes "and") comps.And c refl) (λ h3. absurd (none-some c h3))))

-- who sets a datum
pub var_kind_of-word : (k : VarKind) → var_kind_of (var_kind_word k) ≡ Some k
unfolding var_kind_of
var_kind_of-word var_kinds.Input = refl
var_kind_of-word var_kinds.Output = refl
var_kind_of-word var_kinds.Local = refl

-- and no other word
pub var_kind_of-some : (word : List ℕ) (k : VarKind) → var_kind_of word ≡ Some k → word ≡ var_kind_word k
unfolding var_kind_of
var_kind_of-some word k h =
    tested word (codes "input") var_kinds.Input k _ h (spelt var_kind_word word (codes "input") var_kinds.Input k refl) (λ h1.
    tested word (codes "output") var_kinds.Output k _ h1 (spelt var_kind_word word (codes "output") var_kinds.Output k refl) (λ h2.
    tested word (codes "local") var_kinds.Local k _ h2 (spelt var_kind_word word (codes "local") var_kinds.Local k refl) (λ h3. absurd (none-some k h3))))

-- who raises an event
pub event_kind_of-word : (k : EventKind) → event_kind_of (event_kind_word k) ≡ Some k
unfolding event_kind_of
event_kind_of-word event_kinds.Input = refl
event_kind_of-word event_kinds.Local = refl
event_kind_of-word event_kinds.Output = refl

-- and no other word
pub event_kind_of-some : (word : List ℕ) (k : EventKind) → event_kind_of word ≡ Some k → word ≡ event_kind_word k
unfolding event_kind_of
event_kind_of-some word k h =
    tested word (codes "input") event_kinds.Input k _ h (spelt event_kind_word word (codes "input") event_kinds.Input k refl) (λ h1.
    tested word (codes "local") event_kinds.Local k _ h1 (spelt event_kind_word word (codes "local") event_kinds.Local k refl) (λ h2.
    tested word (codes "output") event_kinds.Output k _ h2 (spelt event_kind_word word (codes "output") event_kinds.Output k refl) (λ h3. absurd (none-some k h3))))

-- what is done with a number out of range
pub mode_of-word : (m : Mode) → mode_of (mode_word m) ≡ Some m
unfolding mode_of
mode_of-word modes.Saturate = refl
mode_of-word modes.Wrap = refl
mode_of-word modes.Error = refl

-- and no other word
pub mode_of-some : (word : List ℕ) (m : Mode) → mode_of word ≡ Some m → word ≡ mode_word m
unfolding mode_of
mode_of-some word m h =
    tested word (codes "saturate") modes.Saturate m _ h (spelt mode_word word (codes "saturate") modes.Saturate m refl) (λ h1.
    tested word (codes "wrap") modes.Wrap m _ h1 (spelt mode_word word (codes "wrap") modes.Wrap m refl) (λ h2.
    tested word (codes "error") modes.Error m _ h2 (spelt mode_word word (codes "error") modes.Error m refl) (λ h3. absurd (none-some m h3))))

-- ---- operators

-- the token of an operator
abbrev pub operator_word : Operator → List ℕ
operator_word operators.Neg = codes "~"
operator_word operators.Not = codes "!"
operator_word (operators.Bin op) = op_word op

-- it is read as the operator
pub operator_of-word : (o : Operator) → operator_of (operator_word o) ≡ Some o
unfolding operator_of
operator_of-word operators.Neg = refl
operator_of-word operators.Not = refl
operator_of-word (operators.Bin ops.Or) = refl
operator_of-word (operators.Bin ops.And) = refl
operator_of-word (operators.Bin ops.Eq) = refl
operator_of-word (operators.Bin ops.Ne) = refl
operator_of-word (operators.Bin ops.Lt) = refl
operator_of-word (operators.Bin ops.Le) = refl
operator_of-word (operators.Bin ops.Gt) = refl
operator_of-word (operators.Bin ops.Ge) = refl
operator_of-word (operators.Bin ops.Add) = refl
operator_of-word (operators.Bin ops.Sub) = refl
operator_of-word (operators.Bin ops.Mul) = refl
operator_of-word (operators.Bin ops.Div) = refl

-- one more test of a token
tested_next : (token : List ℕ) (x o : Operator) (other : Option Operator)
    → (if bytes_eq token (operator_word x) then Some x else other) ≡ Some o
    → (other ≡ Some o → token ≡ operator_word o) → token ≡ operator_word o
tested_next token x o other h later =
    tested token (operator_word x) x o other h (λ e same. e ∙ ap operator_word same) later

-- and no other token is
pub operator_of-some : (token : List ℕ) (o : Operator) → operator_of token ≡ Some o → token ≡ operator_word o
unfolding operator_of
operator_of-some token o h =
    tested_next token operators.Neg o _ h (λ h1.
    tested_next token operators.Not o _ h1 (λ h2.
    tested_next token (operators.Bin ops.Or) o _ h2 (λ h3.
    tested_next token (operators.Bin ops.And) o _ h3 (λ h4.
    tested_next token (operators.Bin ops.Eq) o _ h4 (λ h5.
    tested_next token (operators.Bin ops.Ne) o _ h5 (λ h6.
    tested_next token (operators.Bin ops.Lt) o _ h6 (λ h7.
    tested_next token (operators.Bin ops.Le) o _ h7 (λ h8.
    tested_next token (operators.Bin ops.Gt) o _ h8 (λ h9.
    tested_next token (operators.Bin ops.Ge) o _ h9 (λ h10.
    tested_next token (operators.Bin ops.Add) o _ h10 (λ h11.
    tested_next token (operators.Bin ops.Sub) o _ h11 (λ h12.
    tested_next token (operators.Bin ops.Mul) o _ h12 (λ h13.
    tested_next token (operators.Bin ops.Div) o _ h13 (λ h14. absurd (none-some o h14)))))))))))))))

-- no operator has a space or a newline
pub operator_word-lacks : (o : Operator) → Lacks 32 (operator_word o) × Lacks 10 (operator_word o)
operator_word-lacks operators.Neg = ((refl, tt), (refl, tt))
operator_word-lacks operators.Not = ((refl, tt), (refl, tt))
operator_word-lacks (operators.Bin ops.Or) = ((refl, (refl, tt)), (refl, (refl, tt)))
operator_word-lacks (operators.Bin ops.And) = ((refl, (refl, tt)), (refl, (refl, tt)))
operator_word-lacks (operators.Bin ops.Eq) = ((refl, (refl, tt)), (refl, (refl, tt)))
operator_word-lacks (operators.Bin ops.Ne) = ((refl, (refl, tt)), (refl, (refl, tt)))
operator_word-lacks (operators.Bin ops.Lt) = ((refl, tt), (refl, tt))
operator_word-lacks (operators.Bin ops.Le) = ((refl, (refl, tt)), (refl, (refl, tt)))
operator_word-lacks (operators.Bin ops.Gt) = ((refl, tt), (refl, tt))
operator_word-lacks (operators.Bin ops.Ge) = ((refl, (refl, tt)), (refl, (refl, tt)))
operator_word-lacks (operators.Bin ops.Add) = ((refl, tt), (refl, tt))
operator_word-lacks (operators.Bin ops.Sub) = ((refl, tt), (refl, tt))
operator_word-lacks (operators.Bin ops.Mul) = ((refl, tt), (refl, tt))
operator_word-lacks (operators.Bin ops.Div) = ((refl, tt), (refl, tt))
