-- How statements are written, a line for each.
use Rattle.std.specs.Prelude.{ℕ, zero, suc, ◌+◌, ◌-◌, nat_lt, ◌||◌, List, [], ◌∷◌, ◌++◌, codes}
use Rattle.std.specs.Prelude.{decimal, if◌then◌else◌, Option, Some, None}
use Rattle.c_subset.specs.Trees.{CExpr}
use Rattle.c_subset.specs.declared.trees.Case.{Case}
use Rattle.c_subset.specs.declared.trees.CType.{CType}
use Rattle.c_subset.specs.declared.trees.Width.TheVariants.{W32}
use Rattle.c_subset.specs.declared.trees.CType.TheVariants.{Signed, Unsigned}
use Rattle.c_subset.specs.Lines.{Line, Set, Store, StoreAt, Call, Select, If, Else, While, Close, Return}
use Rattle.c_text.specs.declared.kinds.Kind.{Kind}
use Rattle.c_text.specs.declared.kinds.Kind.TheVariants.{Procedure, Home, Noted, Floor, Outside}
use Rattle.c_text.specs.declared.locals.LocalName.{LocalName}
use Rattle.c_text.specs.Labels.{Labels, type_of_field, field_label, row_label, function_label, function_kind}
use Rattle.c_text.specs.Labels.{takes_struct, local_label}
use Rattle.c_text.specs.Expressions.{bare, brought, is_truth}
use Rattle.c_text.specs.Reading.{has_cases, read_local}

-- four blanks for each depth
abbrev pub indent : ℕ → List ℕ
indent zero = []
indent (suc d) = codes "    " ++ indent d

-- a comma after an argument before, which is the struct or one with a number below
abbrev pub comma : Kind → ℕ → List ℕ
comma kind k = if takes_struct kind || nat_lt 0 k then codes ", " else []

-- the struct as an argument
abbrev pub struct_argument : Kind → List ℕ
struct_argument kind = if takes_struct kind then codes "m" else []

-- the depth after a line
abbrev pub depth_after : ℕ → Line → ℕ
depth_after d (Set t k e) = d
depth_after d (Store f e) = d
depth_after d (StoreAt a i e) = d
depth_after d (Call t k f args) = d
depth_after d (Select t k e cases args) = d
depth_after d (If e) = d + 1
depth_after d Else = d
depth_after d (While e) = d + 1
depth_after d Close = d - 1
depth_after d (Return e) = d

-- default: break; }, with a comment
unfoldable pub default_text : ℕ → List ℕ
default_text d =
    (indent d ++ codes "default: /* Nothing is done for another number. */\n")
    ++ ((indent (d + 1) ++ codes "break;\n") ++ (indent d ++ codes "}\n"))

-- what stands before a call: x = where x is read, or (void) since no line reads what is returned
abbrev pub given_text : Kind → Option LocalName → List ℕ
given_text kind None = codes "(void)"
given_text kind (Some x) = local_label kind x.of x.number ++ codes " = "

module _ (L : Labels) (kind : Kind) where
  -- what is stored in an object of that type; anything is brought to `bool` without a cast
  unfoldable pub stored : CType → CExpr → List ℕ
  stored t e = if is_truth t then bare L kind e else brought L kind t e

  -- an argument of a function: those of a division are brought to its type, all others are words
  abbrev pub passed : Kind → CExpr → List ℕ
  passed Procedure e = bare L kind e
  passed Home e = bare L kind e
  passed Noted e = bare L kind e
  passed (Floor w) e = brought L kind (Signed w) e
  passed Outside e = bare L kind e

  -- an argument after those before it
  unfoldable pub argument_text : Kind → ℕ → CExpr → List ℕ
  argument_text callee k e = comma callee k ++ passed callee e

  -- the arguments from number k on
  abbrev pub arguments_text : Kind → ℕ → List CExpr → List ℕ
  arguments_text callee k [] = []
  arguments_text callee k (e ∷ es) = argument_text callee k e ++ arguments_text callee (k + 1) es

  -- x = e;
  unfoldable pub set_text : ℕ → CType → ℕ → CExpr → List ℕ
  set_text d t k e =
      indent d ++ (local_label kind t k ++ (codes " = " ++ (stored t e ++ (codes ";" ++ 10 ∷ []))))

  -- x = f(m, e, ..);
  unfoldable pub call_text : ℕ → Option LocalName → ℕ → List CExpr → List ℕ
  call_text d x f args =
      indent d ++ (given_text kind x ++ (function_label L f ++ (codes "("
      ++ (struct_argument (function_kind L f) ++ (arguments_text (function_kind L f) 0 args
      ++ (codes ");" ++ 10 ∷ []))))))

  -- case C: x = f(m, e, ..); break;
  unfoldable pub case_text : ℕ → Option LocalName → List CExpr → Case → List ℕ
  case_text d x args c =
      indent d ++ (codes "case " ++ (decimal c.label ++ (codes "u:" ++ 10 ∷ (call_text (d + 1) x c.function args
      ++ (indent (d + 1) ++ (codes "break;" ++ 10 ∷ []))))))

  -- cases, one after the other
  abbrev pub cases_text : ℕ → Option LocalName → List CExpr → List Case → List ℕ
  cases_text d x args [] = []
  cases_text d x args (c ∷ cases) = case_text d x args c ++ cases_text d x args cases

  -- if (e) { and the like
  unfoldable pub opening_text : ℕ → List ℕ → CExpr → List ℕ
  opening_text d word e = indent d ++ (word ++ (bare L kind e ++ (codes ") {" ++ 10 ∷ [])))

  -- switch (e) { case C: .. default: break; }
  unfoldable pub switch_text : ℕ → Option LocalName → CExpr → List Case → List CExpr → List ℕ
  switch_text d x e cases args =
      if has_cases cases
      then opening_text d (codes "switch (") e ++ (cases_text d x args cases ++ default_text d)
      else []

module _ (L : Labels) (kind : Kind) (lines : List Line) where
  -- A line of these lines at a depth, in a function with that result
  unfoldable pub line_text : CType → ℕ → Line → List ℕ
  line_text result d (Set t k e) = set_text L kind d t k e
  line_text result d (Store f e) =
      indent d ++ (codes "m->" ++ (field_label L f ++ (codes " = " ++ (stored L kind (type_of_field L f) e
      ++ (codes ";" ++ 10 ∷ [])))))
  line_text result d (StoreAt a i e) =
      indent d ++ (codes "m->" ++ (row_label a ++ (codes "[" ++ (bare L kind i ++ (codes "] = "
      ++ (stored L kind (Unsigned W32) e ++ (codes ";" ++ 10 ∷ [])))))))
  line_text result d (Call t k f args) = call_text L kind d (read_local lines t k) f args
  line_text result d (Select t k e cases args) = switch_text L kind d (read_local lines t k) e cases args
  line_text result d (If e) = opening_text L kind d (codes "if (") e
  line_text result d Else = indent (d - 1) ++ (codes "} else {" ++ 10 ∷ [])
  line_text result d (While e) = opening_text L kind d (codes "while (") e
  line_text result d Close = indent (d - 1) ++ (codes "}" ++ 10 ∷ [])
  line_text result d (Return e) = indent d ++ (codes "return " ++ (stored L kind result e ++ (codes ";" ++ 10 ∷ [])))

  -- lines from a depth on
  abbrev pub lines_text : CType → ℕ → List Line → List ℕ
  lines_text result d [] = []
  lines_text result d (x ∷ xs) = line_text result d x ++ lines_text result (depth_after d x) xs
