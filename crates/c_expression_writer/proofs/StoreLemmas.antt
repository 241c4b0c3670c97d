-- What is appended for an assignment, piece by piece.
use Rattle.std.proofs.lemmas.Bool.Decides.{nat_tests}
use Rattle.std.proofs.Common.{◌≡◌, ℕ, Bool, true, false, nat_le, pos, ◌^◌, ◌*◌, arith, ◌+◌, ◌-◌, ◌<◌, ◌≤◌, List, []}
use Rattle.std.proofs.Common.{◌∷◌, ◌++◌, length, get_or, refl, sym, ap, subst, ◌∙◌, append_assoc, if◌then◌else◌}
use Rattle.std.proofs.lemmas.List.{get_or-map}
use Rattle.flow_base.specs.declared.fault.Fault.{Fault}
use Rattle.flow_base.specs.declared.fault.Fault.TheVariants.{Overflow as Overflows}
use Rattle.fixed_point.specs.declared.scale.Scale.{Scale}
use Rattle.fixed_point.specs.declared.fitting.Mode.{Mode}
use Rattle.fixed_point.specs.declared.fitting.Mode.TheVariants.{Saturate, Wrap, Error}
use Rattle.actions.specs.declared.names.Sort.{Sort}
use Rattle.actions.specs.declared.names.Sort.TheVariants as sorts
use Rattle.actions.specs.declared.names.Var.{Var}
use Rattle.actions.specs.declared.sort.ExprSort.{ExprSort}
use Rattle.actions.specs.declared.sort.ExprSort.TheVariants as kinds
use Rattle.actions.specs.Exprs.{Expr}
use Rattle.actions.specs.Names.{Names}
use Rattle.actions.specs.Sorts.{scope_of, size_at}
use Rattle.actions.specs.World.{Declaration}
use Rattle.c_subset.specs.Lines.{Appends, expr_of, lines_of, lines_in}
use Rattle.c_subset.specs.Lines as lines
use Rattle.c_subset.specs.Trees.{CExpr, Block, Const, Local}
use Rattle.c_subset.specs.Trees as c
use Rattle.c_subset.specs.declared.trees.Line.{Line}
use Rattle.c_subset.specs.declared.trees.Width.{Width}
use Rattle.c_subset.specs.declared.trees.Width.TheVariants.{W64}
use Rattle.c_subset.specs.declared.trees.CType.{CType}
use Rattle.c_subset.specs.declared.trees.CType.TheVariants.{Signed, Unsigned}
use Rattle.c_functions.specs.Assigning.{assigned_block, stores_of}
use Rattle.c_functions.specs.Code.{Nothing, Set, Divide, FaultIf, written}
use Rattle.c_functions.specs.Storing.{Stores, stored_c, floored_code, floored_width, saturated_c, out_c, low_bits_c}
use Rattle.c_functions.specs.Storing.{rest_c, signed_c}
use Rattle.c_functions.specs.Translation.{Flat, brought}
use Rattle.c_functions.specs.Plans.{Shape, layout, helper, faulted, declared_at, first_free, expression_c, assign_c}
use Rattle.c_functions.specs.Layout.{on_c}
use Rattle.checked_chart.specs.Expressions.{operator_count}
use Rattle.c_expression_writer.specs.declared.operand.Operand.{Operand}
use Rattle.c_expression_writer.specs.Written.{IsWritten, flat_at, sort_at, seen}
use Rattle.c_expression_writer.proofs.LocalLemmas.{flat_next}
use Rattle.c_expression_writer.proofs.Steps.{locals_few}

-- one piece after another
pub appends_then : (a b c : List Line) (f g : Block → Block) → Appends a b f → Appends b c g
    → Appends a c (λ rest. f (g rest))
appends_then a b c f g p q rest = q rest ∙ p (g rest)

-- a line that stores
pub appends_store : (a b : List Line) (v : ℕ) (e : CExpr) → lines_in b ≡ lines_in a ++ lines.Store v e ∷ []
    → Appends a b (λ rest. c.Store v e rest)
unfolding lines_of
appends_store a b v e p rest = ap (λ l. l ++ lines_of rest) p ∙ append_assoc (lines_in a) (lines.Store v e ∷ [])
    (lines_of rest)

-- a line that sets
pub appends_set : (a b : List Line) (t : CType) (k : ℕ) (e : CExpr) → lines_in b ≡ lines_in a ++ lines.Set t k e ∷ []
    → Appends a b (λ rest. c.Set t k e rest)
unfolding lines_of
appends_set a b t k e p rest = ap (λ l. l ++ lines_of rest) p ∙ append_assoc (lines_in a) (lines.Set t k e ∷ [])
    (lines_of rest)

-- ---- a number

-- the quotient where bits are dropped
pub floored_divided : (K : Shape) (o0 o1 : List Line) (k frac size t : ℕ) (e d : CExpr) (w : Width) → t < frac
    → w ≡ floored_width frac size t → d ≡ Const (Signed w) (pos (2 ^ (frac - t)))
    → Appends o0 o1 (written (helper K) (faulted K) (Divide w k e d))
    → Appends o0 o1 (written (helper K) (faulted K) (floored_code k frac size t e))
floored_divided K o0 o1 k frac size t e d w lt width divisor q =
    let drops : nat_le frac t ≡ false = grind (arith, nat_tests) in
    rw drops (subst (λ (y : Width). Appends o0 o1 (written (helper K) (faulted K)
    (Divide y k e (Const (Signed y) (pos (2 ^ (frac - t))))))) width
    (subst (λ (z : CExpr). Appends o0 o1 (written (helper K) (faulted K) (Divide w k e z))) divisor q))

-- a test of a fault, and then a line that stores
pub checked_store : (K : Shape) (a b d : List Line) (v : ℕ) (x y p q : CExpr) → x ≡ y → p ≡ q
    → Appends a b (written (helper K) (faulted K) (FaultIf (Overflows v) x))
    → lines_in d ≡ lines_in b ++ lines.Store v p ∷ []
    → Appends a d (λ rest. written (helper K) (faulted K) (FaultIf (Overflows v) y) (c.Store v q rest))
checked_store K a b d v x y p q same alike fault store =
    subst (λ (z : CExpr). Appends a d (λ rest. written (helper K) (faulted K) (FaultIf (Overflows v) z)
    (c.Store v q rest))) same
    (subst (λ (z : CExpr). Appends a d (λ rest. written (helper K) (faulted K) (FaultIf (Overflows v) x)
    (c.Store v z rest)))
    alike
    (appends_then a b d (written (helper K) (faulted K) (FaultIf (Overflows v) x)) (λ rest. c.Store v p rest) fault
    (appends_store b d v p store)))

-- what is set where no bits are dropped
pub floored_set : (K : Shape) (o0 o1 : List Line) (k frac size t : ℕ) (e v : CExpr) (w : Width) → frac ≤ t
    → w ≡ floored_width frac size t → v ≡ brought w (t - frac) e
    → lines_in o1 ≡ lines_in o0 ++ lines.Set (Signed w) k v ∷ []
    → Appends o0 o1 (written (helper K) (faulted K) (floored_code k frac size t e))
unfolding written
floored_set K o0 o1 k frac size t e v w le width value p =
    let fits : nat_le frac t ≡ true = grind (arith, nat_tests) in
    rw fits (appends_set o0 o1 (Signed (floored_width frac size t)) k (brought (floored_width frac size t) (t - frac) e)
    (p ∙ ap (λ z. lines_in o0 ++ lines.Set (Signed w) k z ∷ []) value
    ∙ ap (λ z. lines_in o0 ++ lines.Set (Signed z) k (brought z (t - frac) e) ∷ []) width))

module _ (K : Shape) (o0 o1 o2 : List Line) (v frac size t : ℕ) (scale : Scale) (x : Operand) where
  -- the number is brought to the fraction
  abbrev pub Floored : ℕ → Type 0
  Floored i = Appends o0 o1 (written (helper K) (faulted K) (floored_code x.next frac size i (expr_of x.expr)))

  -- what is appended for each mode
  abbrev pub saturate : ℕ → Width → Block → Block
  saturate s w rest = c.Store v (saturated_c scale s w (Local (Signed w) x.next)) rest

  abbrev pub check : ℕ → Width → Block → Block
  check s w rest = written (helper K) (faulted K) (FaultIf (Overflows v) (out_c scale s w (Local (Signed w) x.next)))
      (c.Store v (Local (Signed w) x.next) rest)

  abbrev pub low : CExpr
  low = Local (Unsigned W64) (x.next + 1)

  abbrev pub more : CExpr
  more = Local (Unsigned W64) (x.next + 2)

  abbrev pub wrap_low : ℕ → Width → Block → Block
  wrap_low s w rest = c.Set (Unsigned W64) (x.next + 1) (low_bits_c scale (Local (Signed w) x.next)) (c.Store v low rest)

  abbrev pub wrap_signed : ℕ → Width → Block → Block
  wrap_signed s w rest = c.Set (Unsigned W64) (x.next + 1) (low_bits_c scale (Local (Signed w) x.next))
      (c.Set (Unsigned W64) (x.next + 2) (rest_c scale low) (c.Store v (signed_c scale low more) rest))

  abbrev pub wrap : Bool → ℕ → Width → Block → Block
  wrap b s w rest = c.Set (Unsigned W64) (x.next + 1) (low_bits_c scale (Local (Signed w) x.next))
      (written (helper K) (faulted K) (if b then Set (Unsigned W64) (x.next + 2) (rest_c scale low) else Nothing)
      (c.Store v (if b then signed_c scale low more else low) rest))

  -- the same at the size and the width that the fraction of the scale gives
  placed : (piece : ℕ → Width → Block → Block) (s : ℕ) (w : Width) → t ≡ scale.frac → s ≡ size_at t frac size
      → w ≡ floored_width frac size t → Appends o1 o2 (piece s w)
      → Appends o1 o2 (piece (size_at scale.frac frac size) (floored_width frac size scale.frac))
  placed piece s w et es ew q =
      subst (λ (y : Width). Appends o1 o2 (piece (size_at scale.frac frac size) y))
      (ew ∙ ap (λ i. floored_width frac size i) et)
      (subst (λ (z : ℕ). Appends o1 o2 (piece z w)) (es ∙ ap (λ i. size_at i frac size) et) q)

  -- the nearest number in range is stored
  pub saturate_stored : (s : ℕ) (w : Width) (mode : Mode) → mode ≡ Saturate → t ≡ scale.frac → s ≡ size_at t frac size
      → w ≡ floored_width frac size t → Floored t → Appends o1 o2 (saturate s w)
      → Appends o0 o2 (assigned_block (helper K) (faulted K) v (stored_c v frac size scale mode (seen x)))
  unfolding written
  saturate_stored s w mode m et es ew p q =
      rw m (appends_then o0 o1 o2 _ _ (subst Floored et p) (placed saturate s w et es ew q))

  -- the number is stored, or the fault is met
  pub check_stored : (s : ℕ) (w : Width) (mode : Mode) → mode ≡ Error → t ≡ scale.frac → s ≡ size_at t frac size
      → w ≡ floored_width frac size t → Floored t → Appends o1 o2 (check s w)
      → Appends o0 o2 (assigned_block (helper K) (faulted K) v (stored_c v frac size scale mode (seen x)))
  unfolding written
  check_stored s w mode m et es ew p q =
      rw m (appends_then o0 o1 o2 _ _ (subst Floored et p) (placed check s w et es ew q))

  wrap_stored : (s : ℕ) (w : Width) (mode : Mode) → mode ≡ Wrap → t ≡ scale.frac → s ≡ size_at t frac size
      → w ≡ floored_width frac size t → Floored t → Appends o1 o2 (wrap scale.signed s w)
      → Appends o0 o2 (assigned_block (helper K) (faulted K) v (stored_c v frac size scale mode (seen x)))
  unfolding written
  wrap_stored s w mode m et es ew p q =
      rw m (appends_then o0 o1 o2 _ _ (subst Floored et p) (placed (wrap scale.signed) s w et es ew q))

  -- the number that differs by a multiple is stored in a datum with a sign
  pub signed_stored : (s : ℕ) (w : Width) (mode : Mode) → mode ≡ Wrap → scale.signed ≡ true → t ≡ scale.frac
      → s ≡ size_at t frac size → w ≡ floored_width frac size t → Floored t → Appends o1 o2 (wrap_signed s w)
      → Appends o0 o2 (assigned_block (helper K) (faulted K) v (stored_c v frac size scale mode (seen x)))
  unfolding written
  signed_stored s w mode m sign et es ew p q =
      wrap_stored s w mode m et es ew p (subst (λ (b : Bool). Appends o1 o2 (wrap b s w)) (sym sign) q)

  -- and in one without
  pub low_stored : (s : ℕ) (w : Width) (mode : Mode) → mode ≡ Wrap → scale.signed ≡ false → t ≡ scale.frac
      → s ≡ size_at t frac size → w ≡ floored_width frac size t → Floored t → Appends o1 o2 (wrap_low s w)
      → Appends o0 o2 (assigned_block (helper K) (faulted K) v (stored_c v frac size scale mode (seen x)))
  unfolding written
  low_stored s w mode m sign et es ew p q =
      wrap_stored s w mode m et es ew p (subst (λ (b : Bool). Appends o1 o2 (wrap b s w)) (sym sign) q)

-- ---- an operand

-- a datum that is a flag takes the operand as it is
pub flag_stored : (K : Shape) (o0 o1 : List Line) (v : ℕ) (sort : Sort) (mode : Mode) (x : Operand) → sort ≡ sorts.Flag
    → lines_in o1 ≡ lines_in o0 ++ lines.Store v (expr_of x.expr) ∷ []
    → Appends o0 o1 (assigned_block (helper K) (faulted K) v (stores_of v sort mode x.sort (seen x)))
unfolding written
flag_stored K o0 o1 v sort mode x is p = rw is (appends_store o0 o1 v (expr_of x.expr) p)

-- ---- the whole

-- the code of the operand comes first
stores_front : (h : Width → ℕ) (f : Fault → Block) (v : ℕ) (sort : Sort) (mode : Mode) (given : ExprSort) (x : Flat)
    (rest : Block)
    → assigned_block h f v (stores_of v sort mode given x) rest
    ≡ written h f x.code (assigned_block h f v (stores_of v sort mode given (record x { code = Nothing })) rest)
unfolding written
stores_front h f v sorts.Flag mode given x rest = refl
stores_front h f v (sorts.Number scale) mode kinds.Flag x rest = refl
stores_front h f v (sorts.Number scale) Saturate (kinds.Number frac size) x rest = refl
stores_front h f v (sorts.Number scale) Wrap (kinds.Number frac size) x rest = refl
stores_front h f v (sorts.Number scale) Error (kinds.Number frac size) x rest = refl

-- equal operands are stored alike
same_stores : (v : ℕ) (sort : Sort) (mode : Mode) (given : ExprSort) (x : Operand) (y : Flat) → x.sort ≡ given
    → expr_of x.expr ≡ y.expr → x.next ≡ y.next
    → stores_of v sort mode x.sort (seen x) ≡ stores_of v sort mode given (record y { code = Nothing })
same_stores v sort mode given x y s e n =
    ap (λ z. stores_of v sort mode z (seen x)) s
    ∙ ap (λ z. stores_of v sort mode given (record { code = Nothing; expr = z; next = x.next })) e
    ∙ ap (λ z. stores_of v sort mode given (record { code = Nothing; expr = y.expr; next = z })) n

-- what is stored of an operand after its code
pub assigned_written : (K : Shape) (o0 o1 o2 : List Line) (v : ℕ) (sort : Sort) (mode : Mode) (given : ExprSort)
    (y : Flat)
    (x : Operand) → IsWritten K o0 o1 y given x
    → Appends o1 o2 (assigned_block (helper K) (faulted K) v (stores_of v sort mode x.sort (seen x)))
    → Appends o0 o2 (assigned_block (helper K) (faulted K) v (stores_of v sort mode given y))
assigned_written K o0 o1 o2 v sort mode given y x is own rest =
    own rest
    ∙ ap (λ (z : Stores). lines_in o1 ++ lines_of (assigned_block (helper K) (faulted K) v z rest))
    (same_stores v sort mode given x y is.sort_is is.expr is.next)
    ∙ is.lines (assigned_block (helper K) (faulted K) v (stores_of v sort mode given
    (record y { code = Nothing })) rest)
    ∙ ap (λ (b : Block). lines_in o0 ++ lines_of b) (sym (stores_front (helper K) (faulted K) v sort mode given y rest))

-- what is declared of a datum
pub declared_is : (n : Names) (v : ℕ) (x : Var) → v < length n.vars → x ≡ get_or n.vars v x
    → declared_at n v ≡ record { sort = x.sort; mode = x.mode }
declared_is n v x lt is =
    get_or-map (λ (d : Var). let r : Declaration = record { sort = d.sort; mode = d.mode } in r) n.vars v x
    (record { sort = sorts.Flag; mode = Saturate }) lt
    ∙ ap (λ (d : Var). let r : Declaration = record { sort = d.sort; mode = d.mode } in r) (sym is)

-- the same with what is declared of the datum
pub assigned_result : (K : Shape) (o0 o1 o2 : List Line) (v : ℕ) (e : Expr) (x : Var) (operand : Operand)
    → v < length K.names.vars → x ≡ get_or K.names.vars v x
    → IsWritten K o0 o1 (flat_at K first_free e) (sort_at K e) operand
    → Appends o1 o2 (assigned_block (helper K) (faulted K) v (stores_of v x.sort x.mode operand.sort (seen operand)))
    → Appends o0 o2 (assign_c K v e)
assigned_result K o0 o1 o2 v e x operand lt is written own =
    subst (λ (d : Declaration). Appends o0 o2 (assigned_block (helper K) (faulted K) v
    (stores_of v d.sort d.mode (sort_at K e) (expression_c K e))))
    (sym (declared_is K.names v x lt is))
    (assigned_written K o0 o1 o2 v x.sort x.mode (sort_at K e) (flat_at K first_free e) operand written own)

-- three more numbers after the locals of an expression
pub assigned_room : (K : Shape) (o0 o1 : List Line) (n : ℕ) (e : Expr) (x : Operand)
    → IsWritten K o0 o1 (flat_at K n e) (sort_at K e) x → n + 2 * operator_count e + 2 < 2 ^ 32 → x.next + 2 < 2 ^ 32
assigned_room K o0 o1 n e x is room =
    let at = is.next ∙ flat_next (scope_of K.names) (on_c K.tree (layout K) K.numbers) n e in
    let few = locals_few e in omega (arith, at, few, room)
