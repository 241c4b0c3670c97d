-- Expressions whose code is nothing.
use Rattle.std.proofs.Common.{◌≡◌, ◌<◌, ◌++◌, ℕ, ℤ, Bool, true, false, List, Ok, Err}
use Rattle.std.proofs.Common.{IsOk, pos, refl, ap, ◌∙◌, if◌then◌else◌, unsigned_abs}
use Rattle.fixed_point.specs.declared.num.Num.{Num}
use Rattle.actions.specs.declared.sort.ExprSort.{ExprSort}
use Rattle.actions.specs.declared.sort.ExprSort.TheVariants as kinds
use Rattle.actions.specs.declared.sort.ExprFault.TheVariants as faults
use Rattle.actions.specs.Exprs as exprs
use Rattle.actions.specs.Sorts.{Sorted, IsNarrow, is_wide, number_within, least_size}
use Rattle.actions.specs.Sorts.{literal_sort, datum_sort, state_sort, scope_of, sort_of}
use Rattle.std.specs.Prelude.{slice_get, nat_lt}
use Rattle.std.proofs.Common.{sym, arith}
use Rattle.std.proofs.lemmas.Bool.Decides.{nat_tests}
use Rattle.actions.specs.Sorts as sorts
use Rattle.c_subset.specs.Lines.{expr_of, lines_in, lines_of}
use Rattle.c_subset.specs.Trees.{Const, Field}
use Rattle.c_subset.specs.declared.trees.Line.{Line}
use Rattle.c_subset.specs.declared.trees.Width.{Width}
use Rattle.c_subset.specs.declared.trees.CType.TheVariants.{Signed, Truth}
use Rattle.c_functions.specs.Code.{CCode, Nothing, Then, written}
use Rattle.c_functions.specs.Translation.{Flat, flat, sort_in, width_for}
use Rattle.c_functions.specs.Layout.{on_c}
use Rattle.c_functions.specs.Plans.{Shape, layout, helper, faulted}
use Rattle.c_expression_writer.specs.declared.operand.Operand.{Operand}
use Rattle.c_expression_writer.specs.Written.{IsWritten, flat_at, sort_at, literal_width}

-- nothing is appended for it
pub nothing_written : (K : Shape) (o : List Line) (f : Flat) (sort : ExprSort) (x : Operand) → f.code ≡ Nothing
    → expr_of x.expr ≡ f.expr → x.next ≡ f.next → x.sort ≡ sort → IsNarrow x.sort → IsWritten K o o f sort x
unfolding written
nothing_written K o f sort x code expr next sort_is narrow = record {
  lines = λ rest. ap (λ (q : CCode). lines_in o ++ lines_of (written (helper K) (faulted K) q rest)) (sym code);
  expr = expr;
  next = next;
  sort_is = sort_is;
  narrow = narrow;
}

-- nor for two operands whose code was written before
pub nothing_twice : (K : Shape) (o : List Line) (f : Flat) (sort : ExprSort) (x : Operand)
    → f.code ≡ Then Nothing Nothing
    → expr_of x.expr ≡ f.expr → x.next ≡ f.next → x.sort ≡ sort → IsNarrow x.sort → IsWritten K o o f sort x
unfolding written
nothing_twice K o f sort x code expr next sort_is narrow = record {
  lines = λ rest. ap (λ (q : CCode). lines_in o ++ lines_of (written (helper K) (faulted K) q rest)) (sym code);
  expr = expr;
  next = next;
  sort_is = sort_is;
  narrow = narrow;
}

-- a literal with a sort has the width of its size
within_width : (b : Bool) (frac size : ℕ) → IsOk (if b then Err faults.Wide else Ok (kinds.Number frac size))
    → literal_width (sort_in (if b then Err faults.Wide else Ok (kinds.Number frac size))) ≡ width_for size
within_width true frac size h = cc
within_width false frac size h = refl

-- a literal
pub literal_written : (K : Shape) (o : List Line) (n : ℕ) (x : Num) (sort : ExprSort) (w : Width) (m : ℤ) (y : Operand)
    → IsOk (literal_sort x) → sort ≡ sort_in (literal_sort x) → w ≡ literal_width sort → m ≡ x.mantissa
    → expr_of y.expr ≡ Const (Signed w) m → y.sort ≡ sort → y.next ≡ n → IsNarrow y.sort
    → IsWritten K o o (flat_at K n (exprs.Lit x)) (sort_at K (exprs.Lit x)) y
unfolding flat sort_of
literal_written K o n x sort w m y ok is width mantissa expr sorted next narrow =
    let size = least_size (unsigned_abs x.mantissa) in
    let same : w ≡ width_for size =
    width ∙ ap literal_width is ∙ within_width (is_wide x.frac size) x.frac size ok in
    nothing_written K o (flat_at K n (exprs.Lit x)) (sort_at K (exprs.Lit x)) y refl
    (expr ∙ ap (λ v. Const (Signed v) m) same ∙ ap (λ z. Const (Signed (width_for size)) z) mantissa) next (sorted ∙ is)
    narrow

-- a flag
pub flag_written : (K : Shape) (o : List Line) (n : ℕ) (b : Bool) (m : ℤ) (y : Operand)
    → m ≡ (if b then pos 1 else pos 0) → expr_of y.expr ≡ Const Truth m → y.sort ≡ kinds.Flag → y.next ≡ n
    → IsNarrow y.sort
    → IsWritten K o o (flat_at K n (exprs.Flag b)) (sort_at K (exprs.Flag b)) y
unfolding flat sort_of
flag_written K o n b m y is expr sort next narrow =
    nothing_written K o (flat_at K n (exprs.Flag b)) (sort_at K (exprs.Flag b)) y refl
    (expr ∙ ap (λ z. Const Truth z) is) next sort narrow

-- the value of a datum
pub datum_written : (K : Shape) (o : List Line) (n v : ℕ) (y : Operand) → expr_of y.expr ≡ Field v
    → y.sort ≡ sort_in (datum_sort (slice_get (scope_of K.names).sorts v)) → y.next ≡ n → IsNarrow y.sort
    → IsWritten K o o (flat_at K n (exprs.Read v)) (sort_at K (exprs.Read v)) y
unfolding flat sort_of
datum_written K o n v y expr sort next narrow =
    nothing_written K o (flat_at K n (exprs.Read v)) (sort_at K (exprs.Read v)) y refl expr next sort narrow

-- whether a state is active is a flag
state_flag : (b : Bool) → kinds.Flag ≡ sort_in (if b then Ok kinds.Flag else Err faults.Range)
state_flag true = refl
state_flag false = refl

-- whether a state is active
pub active_written : (K : Shape) (o : List Line) (n q : ℕ) (y : Operand)
    → expr_of y.expr ≡ on_c K.tree (layout K) K.numbers q → y.sort ≡ kinds.Flag → y.next ≡ n → IsNarrow y.sort
    → IsWritten K o o (flat_at K n (exprs.Active q)) (sort_at K (exprs.Active q)) y
unfolding flat sort_of
active_written K o n q y expr sort next narrow =
    nothing_written K o (flat_at K n (exprs.Active q)) (sort_at K (exprs.Active q)) y refl expr next
    (sort ∙ state_flag (nat_lt q (scope_of K.names).states)) narrow

-- a state of a test with a sort is there
within_scope : (b : Bool) → IsOk (if b then Ok kinds.Flag else Err faults.Range) → b ≡ true
within_scope true h = refl
within_scope false h = h

-- a state that is named by an expression with a sort is there
pub state_there : (c : sorts.Scope) (q : ℕ) → IsOk (sort_of c (exprs.Active q)) → q < c.states
unfolding sort_of
state_there c q ok = let e = within_scope (nat_lt q c.states) ok in grind (arith, nat_tests)
