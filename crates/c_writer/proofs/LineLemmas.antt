-- Which plans have lines, and which play.
use Rattle.std.proofs.Common.{◌≡◌, ◌<◌, ◌+◌, ℕ, Bool, true, false, List, [], ◌∷◌, ◌++◌, drop, Option, Some, None}
use Rattle.std.proofs.Common.{sym, ap, ◌∙◌, subst, refl, append_assoc, append-nil}
use Rattle.std.specs.Prelude.{◌||◌, if◌then◌else◌}
use Rattle.flow_base.specs.declared.fault.Fault.{Fault}
use Rattle.active_config.specs.Tree.{parent_of}
use Rattle.code_language.specs.declared.instr.Cond as declared_cond
use Rattle.code_language.specs.declared.instr.Instr as declared
use Rattle.code_language.specs.declared.instr.Instr.TheVariants as instrs
use Rattle.code_language.specs.Code.{cond_of, instr_of}
use Rattle.code_language.specs.Instrs.{Instr}
use Rattle.code_language.specs.Instrs as i
use Rattle.code_language.specs.WellFormed.{instr_keeps, can_be_kept}
use Rattle.c_subset.specs.Trees.{CExpr, Block}
use Rattle.c_subset.specs.Trees as c
use Rattle.c_subset.specs.declared.trees.Width.{Width}
use Rattle.c_subset.specs.Lines.{Line, If, Else, Close, else_lines, lines_of}
use Rattle.c_functions.specs.Assigning.{stores_of}
use Rattle.c_functions.specs.Code.{CCode, Nothing, Then, Set, Divide, FaultIf, written}
use Rattle.c_functions.specs.Code as code
use Rattle.c_functions.specs.Translation.{sort_in}
use Rattle.actions.specs.Sorts.{scope_of, sort_of}
use Rattle.c_functions.specs.States.{or_parent}
use Rattle.c_functions.specs.Statements.{Test}
use Rattle.c_functions.specs.Statements as plan
use Rattle.c_functions.specs.Written.{straight, set_block, unset_block, keep_block, noted_call, test_of, on_check}
use Rattle.c_functions.specs.Plans.{Shape, helper, faulted, declared_at, expression_c, pay_c, deep_c, if_c, plan_c}
use Rattle.c_functions.specs.Plans.{plays}
use Rattle.c_writer.specs.Fine.{known_in}
use Rattle.c_writer.specs.Parts.{HasLines, StaysWithin, is_play, part}
use Rattle.c_writer.specs.Pieces.{tested_step, tested_depth}
use Rattle.c_writer.proofs.PartLemmas.{IsPlain, part_ret, part_straight, forks}

-- there is a line of the statements
abbrev pub Has : Block → Type 0
Has b = else_lines (lines_of b) ≡ Else ∷ lines_of b

-- code before statements that have a line
written_has : (helper : Width → ℕ) (faulted : Fault → Block) (code : CCode) (rest : Block) → Has rest
    → Has (written helper faulted code rest)
unfolding written lines_of
written_has helper faulted Nothing rest h = h
written_has helper faulted (Then a b) rest h =
    written_has helper faulted a (written helper faulted b rest) (written_has helper faulted b rest h)
written_has helper faulted (Set t k e) rest h = refl
written_has helper faulted (Divide w k a b) rest h = refl
written_has helper faulted (FaultIf x e) rest h = refl
written_has helper faulted (code.If e inner) rest h = refl

-- an `if`
if_has : (K : Shape) (t : Test) (x y rest : Block) → Has (if_c K t x y rest)
unfolding lines_of
if_has K (plan.Simple a) x y rest = refl
if_has K plan.HomeOn x y rest = refl
if_has K plan.HomeBare x y rest = refl
if_has K (plan.Arithmetic e) x y rest =
    written_has (helper K) (faulted K) (expression_c K e).code (c.If (expression_c K e).expr x y rest) refl

-- one of two that both have a line
one_has : (b : Bool) (x y : Block) → Has x → Has y → Has (if b then x else y)
one_has true x y p q = p
one_has false x y p q = q

-- a step that is paid before statements that have a line
pay_has : (K : Shape) (rest : Block) → Has rest → Has (pay_c K rest)
unfolding lines_of
pay_has K rest h = one_has K.tests.steps (tested_step K rest) rest refl h

-- a send that nests before such statements
deep_has : (K : Shape) (rest : Block) → Has rest → Has (deep_c K rest)
unfolding lines_of
deep_has K rest h = one_has K.tests.depth (tested_depth K rest) rest refl h

-- a parent that remembers
keep_has : (K : Shape) (s : ℕ) (o : Option ℕ) → parent_of K.tree s ≡ o → can_be_kept K.tree s ≡ true
    → (a : plan.Block) → HasLines K (keep_block K.numbers s o a)
unfolding plan_c lines_of
keep_has K s None up kept a =
    let none : false ≡ true = rw up at kept in absurd cc
keep_has K s (Some p) up kept a = refl

-- a call
call_has : (K : Shape) (p : ℕ) (tag : Option ℕ) (a : plan.Block) → HasLines K (noted_call p tag a)
unfolding plan_c lines_of
call_has K p None a = refl
call_has K p (Some b) a = refl

-- an instruction that neither jumps nor returns
straight_has : (K : Shape) (react : ℕ) (x : Instr) → instr_keeps (known_in K) x ≡ true
    → IsPlain x → (a : plan.Block) → HasLines K (straight K.tree K.numbers react x a)
unfolding straight plan_c lines_of instr_keeps
straight_has K react (i.Assign v x) keeps p a =
    let s = stores_of v (declared_at K.names v).sort (declared_at K.names v).mode
    (sort_in (sort_of (scope_of K.names) x)) (expression_c K x) in
    written_has (helper K) (faulted K) s.code (c.Store v s.kept (plan_c K a)) refl
straight_has K react (i.Emit e) keeps p a = pay_has K (plan_c K (plan.Put e a)) refl
straight_has K react (i.Mark s) keeps p a = refl
straight_has K react (i.Clear s) keeps p a = refl
straight_has K react (i.Keep s) keeps p a = keep_has K s (parent_of K.tree s) refl keeps a
straight_has K react (i.Unless k x) keeps p a = absurd p
straight_has K react (i.Skip j) keeps p a = absurd p
straight_has K react (i.Call q tag) keeps p a = call_has K q tag a
straight_has K react (i.Visit q tag) keeps p a = pay_has K (plan_c K (noted_call q tag a)) (call_has K q tag a)
straight_has K react (i.Send e) keeps p a =
    let sent = plan_c K (plan.Send e react a) in deep_has K (pay_c K sent) (pay_has K sent refl)
straight_has K react (i.SendTo e s q) keeps p a =
    let sent =
    plan_c K (plan.If (plan.Simple (on_check K.tree K.numbers s)) (plan.Send e q plan.End) plan.End a) in
    deep_has K (pay_c K sent) (pay_has K sent refl)
straight_has K react i.Play keeps p a = refl
straight_has K react (i.Home s) keeps p a = refl
straight_has K react i.Begin keeps p a = refl
straight_has K react i.Pass keeps p a = refl
straight_has K react (i.Ret r) keeps p a = absurd p

-- an instruction that is none of three kinds neither jumps nor returns
pub plain_of : (x : declared.Instr) → ((r : ℕ) → x ≡ instrs.Ret r → ⊥) → ((j : ℕ) → x ≡ instrs.Skip j → ⊥)
    → ((k : ℕ) (y : declared_cond.Cond) → x ≡ instrs.Unless k y → ⊥) → IsPlain (instr_of x)
plain_of (instrs.Assign v x) ret skip test = tt
plain_of (instrs.Emit e) ret skip test = tt
plain_of (instrs.Mark s) ret skip test = tt
plain_of (instrs.Clear s) ret skip test = tt
plain_of (instrs.Keep s) ret skip test = tt
plain_of (instrs.Unless k y) ret skip test = test k y refl
plain_of (instrs.Skip j) ret skip test = skip j refl
plain_of (instrs.Call p tag) ret skip test = tt
plain_of (instrs.Visit p tag) ret skip test = tt
plain_of (instrs.Send e) ret skip test = tt
plain_of (instrs.SendTo e s p) ret skip test = tt
plain_of instrs.Play ret skip test = tt
plain_of (instrs.Home s) ret skip test = tt
plain_of instrs.Begin ret skip test = tt
plain_of instrs.Pass ret skip test = tt
plain_of (instrs.Ret r) ret skip test = ret r refl

-- ---- which plans play

set_plays : (n : ℕ → ℕ) (s : ℕ) (o : Option ℕ) → plays (set_block n s o) ≡ false
unfolding plays
set_plays n s None = refl
set_plays n s (Some p) = refl

unset_plays : (s : ℕ) (o : Option ℕ) → plays (unset_block s o) ≡ false
unfolding plays
unset_plays s None = refl
unset_plays s (Some p) = refl

keep_plays : (n : ℕ → ℕ) (s : ℕ) (o : Option ℕ) (a : plan.Block) → plays (keep_block n s o a) ≡ plays a
unfolding plays
keep_plays n s None a = refl
keep_plays n s (Some p) a = refl

call_plays : (p : ℕ) (tag : Option ℕ) (a : plan.Block) → plays (noted_call p tag a) ≡ plays a
unfolding plays
call_plays p None a = refl
call_plays p (Some b) a = refl

-- an instruction before a plan
pub straight_plays : (K : Shape) (react : ℕ) (x : Instr) (a : plan.Block)
    → plays (straight K.tree K.numbers react x a) ≡ (is_play x || plays a)
unfolding straight plays
straight_plays K react (i.Assign v x) a = refl
straight_plays K react (i.Emit e) a = refl
straight_plays K react (i.Mark s) a =
    ap (λ b. b || plays a) (set_plays K.numbers s (or_parent K.tree (parent_of K.tree s)))
straight_plays K react (i.Clear s) a = ap (λ b. b || plays a) (unset_plays s (or_parent K.tree (parent_of K.tree s)))
straight_plays K react (i.Keep s) a = keep_plays K.numbers s (parent_of K.tree s) a
straight_plays K react (i.Unless k x) a = refl
straight_plays K react (i.Skip j) a = refl
straight_plays K react (i.Call p tag) a = call_plays p tag a
straight_plays K react (i.Visit p tag) a = call_plays p tag a
straight_plays K react (i.Send e) a = refl
straight_plays K react (i.SendTo e s p) a = refl
straight_plays K react i.Play a = refl
straight_plays K react (i.Home s) a = refl
straight_plays K react i.Begin a = refl
straight_plays K react i.Pass a = refl
straight_plays K react (i.Ret r) a = refl

-- ---- parts

module _ (K : Shape) (react : ℕ) (xs : List Instr) (from to : ℕ) (lt : from < to)
    (stays : StaysWithin xs from to) where
  -- of an instruction that is no skip something is written
  part_has_by : (x : declared.Instr) → drop from xs ≡ instr_of x ∷ drop (from + 1) xs
      → instr_keeps (known_in K) (instr_of x) ≡ true → IsPlain (instr_of x)
      → HasLines K (part K react xs from to)
  part_has_by x at keeps p =
      subst (λ a. HasLines K a) (sym (part_straight K react xs from to (instr_of x) lt at stays p))
      (straight_has K react (instr_of x) keeps p (part K react xs (from + 1) to))

  pub part_has : (x : declared.Instr) → drop from xs ≡ instr_of x ∷ drop (from + 1) xs
      → instr_keeps (known_in K) (instr_of x) ≡ true
      → ((j : ℕ) → x ≡ instrs.Skip j → ⊥) → HasLines K (part K react xs from to)
  unfolding plan_c lines_of
  part_has (instrs.Assign v x) at keeps no_skip = part_has_by (instrs.Assign v x) at keeps tt
  part_has (instrs.Emit e) at keeps no_skip = part_has_by (instrs.Emit e) at keeps tt
  part_has (instrs.Mark s) at keeps no_skip = part_has_by (instrs.Mark s) at keeps tt
  part_has (instrs.Clear s) at keeps no_skip = part_has_by (instrs.Clear s) at keeps tt
  part_has (instrs.Keep s) at keeps no_skip = part_has_by (instrs.Keep s) at keeps tt
  part_has (instrs.Unless k x) at keeps no_skip =
      let f = forks K react xs from to k (cond_of x) lt at stays in
      subst (λ a. HasLines K a) (sym f.is) (if_has K (test_of K.tree K.numbers (cond_of x)) _ _ _)
  part_has (instrs.Skip j) at keeps no_skip = absurd (no_skip j refl)
  part_has (instrs.Call p tag) at keeps no_skip = part_has_by (instrs.Call p tag) at keeps tt
  part_has (instrs.Visit p tag) at keeps no_skip = part_has_by (instrs.Visit p tag) at keeps tt
  part_has (instrs.Send e) at keeps no_skip = part_has_by (instrs.Send e) at keeps tt
  part_has (instrs.SendTo e s p) at keeps no_skip = part_has_by (instrs.SendTo e s p) at keeps tt
  part_has instrs.Play at keeps no_skip = part_has_by instrs.Play at keeps tt
  part_has (instrs.Home s) at keeps no_skip = part_has_by (instrs.Home s) at keeps tt
  part_has instrs.Begin at keeps no_skip = part_has_by instrs.Begin at keeps tt
  part_has instrs.Pass at keeps no_skip = part_has_by instrs.Pass at keeps tt
  part_has (instrs.Ret r) at keeps no_skip =
      subst (λ a. HasLines K a) (sym (part_ret K react xs from to r lt at stays)) refl

-- ---- lines

-- where nothing is written there is no `else`
pub no_else : (K : Shape) (ls : List Line) (a : plan.Block) → a ≡ plan.End
    → ls ≡ ls ++ else_lines (lines_of (plan_c K a))
unfolding plan_c lines_of
no_else K ls a e = sym (append-nil ls) ∙ sym (ap (λ b. ls ++ else_lines (lines_of (plan_c K b))) e)

-- the lines of an `if`, one after another
if_lines : (l1 l2 l3 l4 l5 : List Line) (e : CExpr) (x y rest : Block) → l2 ≡ l1 ++ If e ∷ []
    → l3 ≡ l2 ++ lines_of x → l4 ≡ l3 ++ else_lines (lines_of y) → l5 ≡ l4 ++ Close ∷ []
    → l5 ++ lines_of rest ≡ l1 ++ lines_of (c.If e x y rest)
unfolding lines_of
if_lines l1 l2 l3 l4 l5 e x y rest a b d f =
    ap (λ l. l ++ lines_of rest) (f ∙ ap (λ l. l ++ Close ∷ []) (d ∙ ap (λ l. l ++ else_lines (lines_of y))
    (b ∙ ap (λ l. l ++ lines_of x) a)))
    ∙ simp append_assoc

-- and those after what its test needs
pub if_written : (K : Shape) (t : Test) (l0 l1 l2 l3 l4 l5 : List Line) (e : CExpr) (x y rest : Block)
    → ((a b d : Block) → l1 ++ lines_of (c.If e a b d) ≡ l0 ++ lines_of (if_c K t a b d)) → l2 ≡ l1 ++ If e ∷ []
    → l3 ≡ l2 ++ lines_of x → l4 ≡ l3 ++ else_lines (lines_of y) → l5 ≡ l4 ++ Close ∷ []
    → l5 ++ lines_of rest ≡ l0 ++ lines_of (if_c K t x y rest)
if_written K t l0 l1 l2 l3 l4 l5 e x y rest test a b d f =
    if_lines l1 l2 l3 l4 l5 e x y rest a b d f ∙ test x y rest
