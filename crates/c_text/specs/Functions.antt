-- How functions are written.
use Rattle.std.specs.Prelude.{ℕ, ◌+◌, ◌&&◌, ◌||◌, Bool, true, false, not, List, [], ◌∷◌, ◌++◌, length, drop}
use Rattle.std.specs.Prelude.{codes, if◌then◌else◌, Option, Some, None}
use Rattle.std.specs.List.{list_any}
use Rattle.c_subset.specs.Trees.{CExpr, Const, Field, Element, Local, Cast, Minus, Bang, Calc, Divide, Bits, Compare}
use Rattle.c_subset.specs.Trees.{Both, Either, Choose}
use Rattle.c_subset.specs.declared.trees.Case.{Case}
use Rattle.c_subset.specs.declared.trees.CType.{CType}
use Rattle.c_subset.specs.Lines.{Line, Set, Store, StoreAt, Call, Select, If, Else, While, Close, Return}
use Rattle.c_names.specs.Stems.{name_of_chart}
use Rattle.c_text.specs.declared.kinds.Kind.{Kind}
use Rattle.c_text.specs.declared.kinds.Kind.TheVariants.{Procedure, Home, Noted, Floor, Outside}
use Rattle.c_text.specs.declared.locals.LocalName.{LocalName}
use Rattle.c_text.specs.Labels.{Labels, function_kind, function_label, takes_struct, local_label}
use Rattle.c_text.specs.Types.{type_text}
use Rattle.c_text.specs.Reading.{same_local, has_cases, line_reads, read_local}
use Rattle.c_text.specs.Statements.{comma, lines_text}

-- ---- heads

-- all but what is called from outside is static
abbrev pub linkage_text : Kind → List ℕ
linkage_text Procedure = codes "static "
linkage_text Home = codes "static "
linkage_text Noted = codes "static "
linkage_text (Floor w) = codes "static "
linkage_text Outside = []

-- what stands before the struct of a function that only reads it (6.7.3 p5)
abbrev pub const_text : Bool → List ℕ
const_text true = codes "const "
const_text false = []

-- the struct as a parameter, of a function that only reads it or that may change it
abbrev pub struct_parameter : Labels → Kind → Bool → List ℕ
struct_parameter L kind only_reads =
    if takes_struct kind then const_text only_reads ++ (name_of_chart L.chart (codes "chart") ++ codes " *m") else []

-- T x
abbrev pub local_text : Labels → Kind → CType → ℕ → List ℕ
local_text L kind t k = type_text L.chart t ++ (32 ∷ local_label kind t k)

-- a parameter
unfoldable pub parameter_text : Labels → Kind → ℕ → CType → List ℕ
parameter_text L kind k t = comma kind k ++ local_text L kind t k

-- the parameters from number k on
abbrev pub parameters_text : Labels → Kind → ℕ → List CType → List ℕ
parameters_text L kind k [] = []
parameters_text L kind k (t ∷ ts) = parameter_text L kind k t ++ parameters_text L kind (k + 1) ts

-- (CHART_chart *m, T x, ..)
unfoldable pub list_text : Labels → Kind → Bool → List CType → List ℕ
list_text L kind only_reads ts =
    codes "(" ++ (struct_parameter L kind only_reads ++ (parameters_text L kind 0 ts ++ codes ")"))

-- static T f(CHART_chart *m, T x, ..)
unfoldable pub head_text : Labels → ℕ → Bool → CType → List CType → List ℕ
head_text L f only_reads result ts =
    linkage_text (function_kind L f) ++ (type_text L.chart result ++ (32 ∷ (function_label L f
    ++ list_text L (function_kind L f) only_reads ts)))

-- the declaration of the function with that number, which only reads the struct or may change it
abbrev pub prototype_text : Labels → ℕ → Bool → CType → List CType → List ℕ
prototype_text L f only_reads result ts = head_text L f only_reads result ts ++ (codes ";" ++ 10 ∷ [])

-- ---- the locals that are declared

-- the local that a line gives a value, of a call where one of the lines reads it
abbrev pub local_set : List Line → Line → Option LocalName
local_set lines (Set t k e) = Some (record { of = t; number = k })
local_set lines (Store f e) = None
local_set lines (StoreAt a i e) = None
local_set lines (Call t k f args) = read_local lines t k
local_set lines (Select t k e cases args) = if has_cases cases then read_local lines t k else None
local_set lines (If e) = None
local_set lines Else = None
local_set lines (While e) = None
local_set lines Close = None
local_set lines (Return e) = None

-- one more local, where it isn't there
abbrev pub with_local : List LocalName → Option LocalName → List LocalName
with_local seen None = seen
with_local seen (Some x) = if list_any (same_local x) seen then seen else seen ++ x ∷ []

-- the locals, then those that lines give a value, in the order in which they are given one first
abbrev pub with_locals : List Line → List LocalName → List Line → List LocalName
with_locals lines seen [] = seen
with_locals lines seen (x ∷ xs) = with_locals lines (with_local seen (local_set lines x)) xs

-- the parameters from number k on
abbrev pub parameters_from : ℕ → List CType → List LocalName
parameters_from k [] = []
parameters_from k (t ∷ ts) = record { of = t; number = k } ∷ parameters_from (k + 1) ts

-- the locals that the lines of a function give a value, without its parameters
unfoldable pub locals_set : List CType → List Line → List LocalName
locals_set ts lines = drop (length ts) (with_locals lines (parameters_from 0 ts) lines)

-- T x;
unfoldable pub declaration_text : Labels → Kind → LocalName → List ℕ
declaration_text L kind x = codes "    " ++ (local_text L kind x.of x.number ++ (codes ";" ++ 10 ∷ []))

-- the declarations of locals
abbrev pub declarations_text : Labels → Kind → List LocalName → List ℕ
declarations_text L kind [] = []
declarations_text L kind (x ∷ xs) = declaration_text L kind x ++ declarations_text L kind xs

-- ---- what is used

-- an expression reads the struct
abbrev pub reads_struct : CExpr → Bool
reads_struct (Const t z) = false
reads_struct (Field f) = true
reads_struct (Element a e) = true
reads_struct (Local t k) = false
reads_struct (Cast t e) = reads_struct e
reads_struct (Minus e) = reads_struct e
reads_struct (Bang e) = reads_struct e
reads_struct (Calc op a b) = reads_struct a || reads_struct b
reads_struct (Divide op a b) = reads_struct a || reads_struct b
reads_struct (Bits op a b) = reads_struct a || reads_struct b
reads_struct (Compare op a b) = reads_struct a || reads_struct b
reads_struct (Both a b) = reads_struct a || reads_struct b
reads_struct (Either a b) = reads_struct a || reads_struct b
reads_struct (Choose t e a b) = reads_struct e || (reads_struct a || reads_struct b)

-- a call of a function has the struct as an argument
abbrev pub passes_struct : Labels → ℕ → Bool
passes_struct L f = takes_struct (function_kind L f)

-- a line uses the struct
abbrev pub line_uses_struct : Labels → Line → Bool
line_uses_struct L (Set t k e) = reads_struct e
line_uses_struct L (Store f e) = true
line_uses_struct L (StoreAt a i e) = true
line_uses_struct L (Call t k f args) = passes_struct L f || list_any reads_struct args
line_uses_struct L (Select t k e cases args) =
    has_cases cases
    && (reads_struct e || (list_any (λ (c : Case). passes_struct L c.function) cases || list_any reads_struct args))
line_uses_struct L (If e) = reads_struct e
line_uses_struct L Else = false
line_uses_struct L (While e) = reads_struct e
line_uses_struct L Close = false
line_uses_struct L (Return e) = reads_struct e

-- (void)x; where no line reads the local, so that a compiler doesn't warn of it
unfoldable pub unread_line : Kind → List Line → LocalName → List ℕ
unread_line kind lines x =
    if list_any (line_reads x) lines then []
    else codes "    (void)" ++ (local_label kind x.of x.number ++ (codes ";" ++ 10 ∷ []))

-- the same for each of these locals
abbrev pub unread_text : Kind → List Line → List LocalName → List ℕ
unread_text kind lines [] = []
unread_text kind lines (x ∷ xs) = unread_line kind lines x ++ unread_text kind lines xs

-- (void)m; where no line uses the struct
abbrev pub unused_text : Labels → Kind → List Line → List ℕ
unused_text L kind lines =
    if takes_struct kind && not (list_any (line_uses_struct L) lines) then codes "    (void)m;" ++ 10 ∷ [] else []

-- ---- a function

-- The function with that number, which only reads the struct or may change it
unfoldable pub function_text : Labels → ℕ → Bool → CType → List CType → List Line → List ℕ
function_text L f only_reads result ts lines = let kind = function_kind L f in
    head_text L f only_reads result ts ++ (10 ∷ 123 ∷ 10 ∷ (declarations_text L kind (locals_set ts lines)
    ++ (unread_text kind lines (parameters_from 0 ts)
    ++ (unused_text L kind lines ++ (lines_text L kind lines result 1 lines ++ (codes "}" ++ 10 ∷ []))))))
