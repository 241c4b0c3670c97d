-- How the code of operands and of their operator make the code of an expression.
use Rattle.std.proofs.Common.{◌≡◌, ◌≢◌, ℕ, ◌+◌, ◌==◌, Bool, true, false, not, List}
use Rattle.std.proofs.Common.{[], ◌∷◌, ◌++◌, refl, sym, ap, ◌∙◌, append_assoc, arith}
use Rattle.std.proofs.lemmas.Grind.{common_steps}
use Rattle.std.proofs.lemmas.Bool.{not-false, not-true}
use Rattle.flow_base.specs.declared.fault.Fault.{Fault}
use Rattle.flow_base.specs.declared.fault.Fault.TheVariants.{Zero as ZeroDivisor}
use Rattle.actions.specs.declared.expr.Op.{Op}
use Rattle.actions.specs.declared.expr.Op.TheVariants as ops
use Rattle.actions.specs.declared.sort.ExprSort.{ExprSort}
use Rattle.actions.specs.declared.sort.ExprSort.TheVariants as kinds
use Rattle.actions.specs.Sorts.{IsNarrow}
use Rattle.c_subset.specs.Lines.{Appends, expr_of, lines_of, lines_in}
use Rattle.c_subset.specs.Lines as lines
use Rattle.c_subset.specs.Trees.{CExpr, Block, Local}
use Rattle.c_subset.specs.Trees as c
use Rattle.c_subset.specs.declared.trees.Line.{Line}
use Rattle.c_subset.specs.declared.trees.Width.{Width}
use Rattle.c_subset.specs.declared.trees.CType.TheVariants.{Signed, Truth}
use Rattle.c_functions.specs.Code.{CCode, Then, Set, Divide, FaultIf, If, written}
use Rattle.c_functions.specs.Translation.{Flat, is_nothing, operator_c, operator_flat}
use Rattle.c_functions.specs.Translation.{eager_flat, quotient_flat, lazy_flat}
use Rattle.c_functions.specs.Translation.{division_width, dividend_c, is_zero_c}
use Rattle.c_functions.specs.Plans.{Shape, helper, faulted}
use Rattle.c_expression_writer.specs.declared.operand.Operand.{Operand}
use Rattle.c_expression_writer.specs.Locals.{is_lazy, going_on}
use Rattle.c_expression_writer.specs.Written.{IsWritten, seen}

-- ---- operands that are both evaluated

-- the same operands give the same expression
same_operator : (op : Op) (la lb ra rb : ExprSort) (xa xb ya yb : CExpr) → la ≡ lb → ra ≡ rb → xa ≡ xb → ya ≡ yb
    → operator_c op la ra xa ya ≡ operator_c op lb rb xb yb
same_operator op la lb ra rb xa xb ya yb p q r s =
    ap (λ l. operator_c op l ra xa ya) p ∙ ap (λ l. operator_c op lb l xa ya) q ∙ ap (λ e. operator_c op lb rb e ya) r
    ∙ ap (λ e. operator_c op lb rb xb e) s

-- the operator of two operands after their code
pub eager_written : (K : Shape) (o0 o1 o2 o3 : List Line) (op : Op) (sa sb s : ExprSort) (fa fb : Flat)
    (xa xb x : Operand)
    → IsWritten K o0 o1 fa sa xa → IsWritten K o1 o2 fb sb xb
    → IsWritten K o2 o3 (eager_flat op xa.sort xb.sort (seen xa) (seen xb)) s x
    → IsWritten K o0 o3 (eager_flat op sa sb fa fb) s x
unfolding written
eager_written K o0 o1 o2 o3 op sa sb s fa fb xa xb x a b own = record {
  lines = λ rest. own.lines rest ∙ b.lines rest ∙ a.lines (written (helper K) (faulted K) fb.code rest);
  expr = own.expr ∙ same_operator op xa.sort sa xb.sort sb (expr_of xa.expr) fa.expr (expr_of xb.expr) fb.expr
      a.sort_is b.sort_is a.expr b.expr;
  next = own.next ∙ b.next;
  sort_is = own.sort_is;
  narrow = own.narrow;
}

-- ---- a quotient

-- the code of a quotient after that of its operands
quotient_code : ExprSort → ExprSort → CExpr → CExpr → ℕ → CCode
quotient_code l r a b n =
    Then (Set (Signed (division_width l r)) n b)
    (Then (FaultIf ZeroDivisor (is_zero_c (Signed (division_width l r)) (Local (Signed (division_width l r)) n)))
    (Divide (division_width l r) (n + 1) (dividend_c l r a) (Local (Signed (division_width l r)) n)))

-- the same operands give the same code
same_quotient : (la lb ra rb : ExprSort) (xa xb ya yb : CExpr) (n m : ℕ) → la ≡ lb → ra ≡ rb → xa ≡ xb → ya ≡ yb → n ≡ m
    → quotient_code la ra xa ya n ≡ quotient_code lb rb xb yb m
same_quotient la lb ra rb xa xb ya yb n m p q r s e =
    ap (λ l. quotient_code l ra xa ya n) p ∙ ap (λ l. quotient_code lb l xa ya n) q ∙ ap
    (λ x. quotient_code lb rb x ya n) r
    ∙ ap (λ y. quotient_code lb rb xb y n) s ∙ ap (λ k. quotient_code lb rb xb yb k) e

-- the local of a quotient
same_local : (la lb ra rb : ExprSort) (n m : ℕ) → la ≡ lb → ra ≡ rb → n ≡ m
    → Local (Signed (division_width la ra)) (n + 1) ≡ Local (Signed (division_width lb rb)) (m + 1)
same_local la lb ra rb n m p q e =
    ap (λ l. Local (Signed (division_width l ra)) (n + 1)) p ∙ ap (λ l. Local (Signed (division_width lb l)) (n + 1)) q
    ∙ ap (λ k. Local (Signed (division_width lb rb)) (k + 1)) e

-- the quotient of two operands after their code
pub quotient_written : (K : Shape) (o0 o1 o2 o3 : List Line) (sa sb s : ExprSort) (fa fb : Flat) (xa xb x : Operand)
    → IsWritten K o0 o1 fa sa xa → IsWritten K o1 o2 fb sb xb
    → IsWritten K o2 o3 (quotient_flat xa.sort xb.sort (seen xa) (seen xb)) s x
    → IsWritten K o0 o3 (quotient_flat sa sb fa fb) s x
unfolding written quotient_code
quotient_written K o0 o1 o2 o3 sa sb s fa fb xa xb x a b own =
    let now = quotient_code xa.sort xb.sort (expr_of xa.expr) (expr_of xb.expr) xb.next in
    let last = quotient_code sa sb fa.expr fb.expr fb.next in
    let same = same_quotient xa.sort sa xb.sort sb (expr_of xa.expr) fa.expr (expr_of xb.expr) fb.expr xb.next fb.next
    a.sort_is b.sort_is a.expr b.expr b.next in
    record {
      lines = λ rest. own.lines rest
          ∙ ap (λ (q : CCode). lines_in o2 ++ lines_of (written (helper K) (faulted K) q rest)) same
          ∙ b.lines (written (helper K) (faulted K) last rest)
          ∙ a.lines (written (helper K) (faulted K) fb.code (written (helper K) (faulted K) last rest));
      expr = own.expr ∙ same_local xa.sort sa xb.sort sb xb.next fb.next a.sort_is b.sort_is b.next;
      next = own.next ∙ ap (λ n. n + 2) b.next;
      sort_is = own.sort_is;
      narrow = own.narrow;
    }

-- ---- an operator that isn't lazy

-- an operator after the code of both operands
pub join_written : (K : Shape) (o0 o1 o2 o3 : List Line) (op : Op) (n : ℕ) (sa sb s : ExprSort) (fa fb : Flat)
    (xa xb x : Operand) → is_lazy op n ≡ false → is_nothing fb.code ≡ (n == 0)
    → IsWritten K o0 o1 fa sa xa → IsWritten K o1 o2 fb sb xb
    → IsWritten K o2 o3 (operator_flat op xa.sort xb.sort (seen xa) (seen xb)) s x
    → IsWritten K o0 o3 (operator_flat op sa sb fa fb) s x
join_written K o0 o1 o2 o3 ops.Or n sa sb s fa fb xa xb x z e a b own =
    rw (e ∙ not-false (n == 0) z) (eager_written K o0 o1 o2 o3 ops.Or sa sb s fa fb xa xb x a b own)
join_written K o0 o1 o2 o3 ops.And n sa sb s fa fb xa xb x z e a b own =
    rw (e ∙ not-false (n == 0) z) (eager_written K o0 o1 o2 o3 ops.And sa sb s fa fb xa xb x a b own)
join_written K o0 o1 o2 o3 ops.Eq n sa sb s fa fb xa xb x z e a b own =
    eager_written K o0 o1 o2 o3 ops.Eq sa sb s fa fb xa xb x a b own
join_written K o0 o1 o2 o3 ops.Ne n sa sb s fa fb xa xb x z e a b own =
    eager_written K o0 o1 o2 o3 ops.Ne sa sb s fa fb xa xb x a b own
join_written K o0 o1 o2 o3 ops.Lt n sa sb s fa fb xa xb x z e a b own =
    eager_written K o0 o1 o2 o3 ops.Lt sa sb s fa fb xa xb x a b own
join_written K o0 o1 o2 o3 ops.Le n sa sb s fa fb xa xb x z e a b own =
    eager_written K o0 o1 o2 o3 ops.Le sa sb s fa fb xa xb x a b own
join_written K o0 o1 o2 o3 ops.Gt n sa sb s fa fb xa xb x z e a b own =
    eager_written K o0 o1 o2 o3 ops.Gt sa sb s fa fb xa xb x a b own
join_written K o0 o1 o2 o3 ops.Ge n sa sb s fa fb xa xb x z e a b own =
    eager_written K o0 o1 o2 o3 ops.Ge sa sb s fa fb xa xb x a b own
join_written K o0 o1 o2 o3 ops.Add n sa sb s fa fb xa xb x z e a b own =
    eager_written K o0 o1 o2 o3 ops.Add sa sb s fa fb xa xb x a b own
join_written K o0 o1 o2 o3 ops.Sub n sa sb s fa fb xa xb x z e a b own =
    eager_written K o0 o1 o2 o3 ops.Sub sa sb s fa fb xa xb x a b own
join_written K o0 o1 o2 o3 ops.Mul n sa sb s fa fb xa xb x z e a b own =
    eager_written K o0 o1 o2 o3 ops.Mul sa sb s fa fb xa xb x a b own
join_written K o0 o1 o2 o3 ops.Div n sa sb s fa fb xa xb x z e a b own =
    quotient_written K o0 o1 o2 o3 sa sb s fa fb xa xb x a b own

-- ---- an operator that is

-- the two lines before the right side, and what follows
lazy_begins : (h : Width → ℕ) (f : Fault → Block) (cb : CCode) (k : ℕ) (ea eb test : CExpr) (rest : Block)
    → (lines.Set Truth k ea ∷ lines.If test ∷ [])
    ++ (lines_of (written h f cb (c.Set Truth k eb c.End)) ++ lines.Close ∷ lines_of rest)
    ≡ lines_of (c.Set Truth k ea (c.If test (written h f cb (c.Set Truth k eb c.End)) c.End rest))
unfolding lines_of
lazy_begins h f cb k ea eb test rest = grind (arith, common_steps)

-- the lines round the right side are those of its code under the test
lazy_lines : (h : Width → ℕ) (f : Fault → Block) (l0 l1 l2 l3 l4 : List lines.Line) (ca cb : CCode) (k : ℕ)
    (ea eb test : CExpr) → ((rest : Block) → l1 ++ lines_of rest ≡ l0 ++ lines_of (written h f ca rest))
    → l2 ≡ l1 ++ lines.Set Truth k ea ∷ lines.If test ∷ []
    → ((rest : Block) → l3 ++ lines_of rest ≡ l2 ++ lines_of (written h f cb rest))
    → l4 ≡ l3 ++ lines.Set Truth k eb ∷ lines.Close ∷ [] → (rest : Block)
    → l4 ++ lines_of rest
    ≡ l0 ++ lines_of (written h f (Then ca (Then (Set Truth k ea) (If test (Then cb (Set Truth k eb))))) rest)
unfolding written lines_of
lazy_lines h f l0 l1 l2 l3 l4 ca cb k ea eb test p q r s rest =
    let inner = lines_of (written h f cb (c.Set Truth k eb c.End)) in
    let end = lines.Close ∷ lines_of rest in
    ap (λ l. l ++ lines_of rest) s ∙ append_assoc l3 (lines.Set Truth k eb ∷ lines.Close ∷ []) (lines_of rest)
    ∙ sym (append_assoc l3 (lines.Set Truth k eb ∷ []) end)
    ∙ ap (λ l. l ++ end) (r (c.Set Truth k eb c.End) ∙ ap (λ l. l ++ inner) q)
    ∙ append_assoc (l1 ++ lines.Set Truth k ea ∷ lines.If test ∷ []) inner end
    ∙ append_assoc l1 (lines.Set Truth k ea ∷ lines.If test ∷ []) (inner ++ end)
    ∙ ap (λ l. l1 ++ l) (lazy_begins h f cb k ea eb test rest)
    ∙ p (c.Set Truth k ea (c.If test (written h f cb (c.Set Truth k eb c.End)) c.End rest))

-- a lazy operator decides by code
lazy_is : (op : Op) (n : ℕ) (l r : ExprSort) (fa fb : Flat) → is_lazy op n ≡ true → is_nothing fb.code ≡ (n == 0)
    → operator_flat op l r fa fb ≡ lazy_flat (λ e. going_on op e) fa fb
lazy_is ops.Or n l r fa fb z e = rw (e ∙ not-true (n == 0) z) refl
lazy_is ops.And n l r fa fb z e = rw (e ∙ not-true (n == 0) z) refl
lazy_is ops.Eq n l r fa fb z e = cc
lazy_is ops.Ne n l r fa fb z e = cc
lazy_is ops.Lt n l r fa fb z e = cc
lazy_is ops.Le n l r fa fb z e = cc
lazy_is ops.Gt n l r fa fb z e = cc
lazy_is ops.Ge n l r fa fb z e = cc
lazy_is ops.Add n l r fa fb z e = cc
lazy_is ops.Sub n l r fa fb z e = cc
lazy_is ops.Mul n l r fa fb z e = cc
lazy_is ops.Div n l r fa fb z e = cc

-- what && and || give, as a local
pub record IsDecided (k : ℕ) (x : Operand) : Type 0 where
  pub expr : expr_of x.expr ≡ Local Truth k
  pub sort : x.sort ≡ kinds.Flag
  pub next : x.next ≡ k + 1

-- what is written round the right side is the code of the decision
flat_lazily : (K : Shape) (o0 o1 o2 o3 o4 : List Line) (op : Op) (sa sb : ExprSort) (fa fb : Flat)
    (xa xb x : Operand) (k : ℕ) → k ≡ fb.next → IsWritten K o0 o1 fa sa xa
    → lines_in o2 ≡ lines_in o1 ++ lines.Set Truth k (expr_of xa.expr) ∷ lines.If (going_on op (Local Truth k)) ∷ []
    → IsWritten K o2 o3 fb sb xb
    → lines_in o4 ≡ lines_in o3 ++ lines.Set Truth k (expr_of xb.expr) ∷ lines.Close ∷ []
    → IsDecided k x → IsWritten K o0 o4 (lazy_flat (λ e. going_on op e) fa fb) kinds.Flag x
flat_lazily K o0 o1 o2 o3 o4 op sa sb fa fb xa xb x k e a begin b end own =
    let code = λ (i : ℕ) (y z : CExpr). Then fa.code (Then (Set Truth i y) (If (going_on op (Local Truth i))
    (Then fb.code (Set Truth i z)))) in
    record {
      lines = λ rest.
          lazy_lines (helper K) (faulted K) (lines_in o0) (lines_in o1) (lines_in o2) (lines_in o3)
          (lines_in o4) fa.code
          fb.code k (expr_of xa.expr) (expr_of xb.expr) (going_on op (Local Truth k)) a.lines begin b.lines end rest
          ∙ ap (λ (q : CCode). lines_in o0 ++ lines_of (written (helper K) (faulted K) q rest))
          (ap (λ i. code i (expr_of xa.expr) (expr_of xb.expr)) e ∙ ap (λ y. code fb.next y (expr_of xb.expr)) a.expr
          ∙ ap (λ z. code fb.next fa.expr z) b.expr);
      expr = own.expr ∙ ap (λ i. Local Truth i) e;
      next = own.next ∙ ap (λ i. i + 1) e;
      sort_is = own.sort;
      narrow = rw own.sort tt;
    }

-- the same of a lazy operator
pub lazy_written : (K : Shape) (o0 o1 o2 o3 o4 : List Line) (op : Op) (n : ℕ) (sa sb l r : ExprSort) (fa fb : Flat)
    (xa xb x : Operand) (k : ℕ) → is_lazy op n ≡ true → is_nothing fb.code ≡ (n == 0) → k ≡ fb.next
    → IsWritten K o0 o1 fa sa xa
    → lines_in o2 ≡ lines_in o1 ++ lines.Set Truth k (expr_of xa.expr) ∷ lines.If (going_on op (Local Truth k)) ∷ []
    → IsWritten K o2 o3 fb sb xb
    → lines_in o4 ≡ lines_in o3 ++ lines.Set Truth k (expr_of xb.expr) ∷ lines.Close ∷ []
    → IsDecided k x → IsWritten K o0 o4 (operator_flat op l r fa fb) kinds.Flag x
lazy_written K o0 o1 o2 o3 o4 op n sa sb l r fa fb xa xb x k z nothing e a begin b end own =
    rw (lazy_is op n l r fa fb z nothing)
    (flat_lazily K o0 o1 o2 o3 o4 op sa sb fa fb xa xb x k e a begin b end own)

-- ---- steps

-- the lines of a quotient after those of its operands
pub quotient_step : (K : Shape) (o0 o1 o2 : List Line) (l r s : ExprSort) (xa xb x : Operand) (w : Width) (d : CExpr)
    → w ≡ division_width l r
    → Appends o0 o1 (written (helper K) (faulted K) (Then (Set (Signed w) xb.next (expr_of xb.expr))
    (FaultIf ZeroDivisor (is_zero_c (Signed w) (Local (Signed w) xb.next)))))
    → d ≡ dividend_c l r (expr_of xa.expr)
    → Appends o1 o2 (written (helper K) (faulted K) (Divide w (xb.next + 1) d (Local (Signed w) xb.next)))
    → expr_of x.expr ≡ Local (Signed w) (xb.next + 1) → x.next ≡ xb.next + 2 → x.sort ≡ s → IsNarrow x.sort
    → IsWritten K o0 o2 (quotient_flat l r (seen xa) (seen xb)) s x
unfolding written
quotient_step K o0 o1 o2 l r s xa xb x w d width p dividend q expr next sort narrow =
    let n = xb.next in let b = expr_of xb.expr in
    let code = λ (v : Width) (y : CExpr). Then (Set (Signed v) n b)
    (Then (FaultIf ZeroDivisor (is_zero_c (Signed v) (Local (Signed v) n))) (Divide v (n + 1) y (Local
    (Signed v) n))) in
    record {
      lines = λ rest.
          q rest ∙ p (written (helper K) (faulted K) (Divide w (n + 1) d (Local (Signed w) n)) rest)
          ∙ ap (λ (c : CCode). lines_in o0 ++ lines_of (written (helper K) (faulted K) c rest))
          (ap (λ v. code v d) width ∙ ap (λ y. code (division_width l r) y) dividend);
      expr = expr ∙ ap (λ v. Local (Signed v) (n + 1)) width;
      next = next;
      sort_is = sort;
      narrow = narrow;
    }

-- of operands whose code was written before, each operator but / is written by an operator
pub seen_eager : (op : Op) (l r : ExprSort) (xa xb : Operand) → op ≢ ops.Div
    → operator_flat op l r (seen xa) (seen xb) ≡ eager_flat op l r (seen xa) (seen xb)
seen_eager ops.Or l r xa xb h = refl
seen_eager ops.And l r xa xb h = refl
seen_eager ops.Eq l r xa xb h = refl
seen_eager ops.Ne l r xa xb h = refl
seen_eager ops.Lt l r xa xb h = refl
seen_eager ops.Le l r xa xb h = refl
seen_eager ops.Gt l r xa xb h = refl
seen_eager ops.Ge l r xa xb h = refl
seen_eager ops.Add l r xa xb h = refl
seen_eager ops.Sub l r xa xb h = refl
seen_eager ops.Mul l r xa xb h = refl
seen_eager ops.Div l r xa xb h = absurd (h refl)
