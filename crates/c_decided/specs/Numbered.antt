-- What is done with what is known by a number, and with facts.
use Rattle.std.specs.Prelude.{◌&&◌, ◌==◌, not, nat_lt, ℕ, ℤ, pos, Bool, true, false, List, [], ◌∷◌}
use Rattle.std.specs.Prelude.{Option, Some, None, if◌then◌else◌}
use Rattle.c_subset.specs.declared.trees.CType.{CType}
use Rattle.c_subset.specs.declared.trees.CType.TheVariants.{Signed, Unsigned, Truth}
use Rattle.c_subset.specs.Trees.{CExpr, Const, Field, Element, Local, Cast, Minus, Bang, Calc, Divide, Bits, Compare}
use Rattle.c_subset.specs.Trees.{Both, Either, Choose}
use Rattle.c_subset.specs.Meaning.{bits}
use Rattle.c_facts.specs.Known.{Known, Never}
use Rattle.c_facts.specs.Facts.{agrees, is_never, joined, covers}
use Rattle.c_facts.specs.Asking.{limit, constant_of, equality}
use Rattle.c_facts.specs.declared.known.Constant.{Constant}
-- the question whether a local is a number, or whether it isn't
pub use Rattle.c_decided.specs.declared.inquiries.Inquiry.{Inquiry}
-- a local of an unsigned type
pub use Rattle.c_decided.specs.declared.inquiries.Word.{Word}
use Rattle.c_decided.specs.Facts.{Numbered, ByNumber, is_value, at, Facts, alone, is_local}

-- ---- by numbers

-- of each number something else
abbrev pub each_case : (Known → Known) → List Numbered → List Numbered
each_case f [] = []
each_case f (c ∷ cs) = record { number = c.number; known = f c.known } ∷ each_case f cs

-- of each number, and of the others, something else
abbrev pub each : (Known → Known) → ByNumber → ByNumber
each f b = record { cases = each_case f b.cases; others = f b.others }

-- what is known whatever the number is
abbrev pub all_cases : List Numbered → Known → Known
all_cases [] others = others
all_cases (c ∷ cs) others = joined c.known (all_cases cs others)

-- what is known whatever the value is
abbrev pub all_of : ByNumber → Known
all_of b = all_cases b.cases b.others

-- no run comes here
abbrev pub are_never : List Numbered → Bool
are_never [] = true
are_never (c ∷ cs) = if is_never c.known then are_never cs else false

-- no run comes here, whatever the value is
abbrev pub is_nowhere : ByNumber → Bool
is_nowhere b = if is_never b.others then are_never b.cases else false

-- one of these names the value
abbrev pub names : Option ℤ → List Numbered → Bool
names v [] = false
names v (c ∷ cs) = if is_value v c.number then true else names v cs

-- ---- both ways

-- the second ones whose numbers the first ones don't name
abbrev pub added : List Numbered → Known → List Numbered → List Numbered
added cs others [] = []
added cs others (d ∷ ds) =
    if names (Some (pos d.number)) cs then added cs others ds
    else record { number = d.number; known = joined others d.known } ∷ added cs others ds

-- for each of the numbers what holds in one of both, and more
abbrev pub joined_cases : List Numbered → ByNumber → List Numbered → List Numbered
joined_cases [] b more = more
joined_cases (c ∷ cs) b more =
    record { number = c.number; known = joined c.known (at b (Some (pos c.number))) } ∷ joined_cases cs b more

-- by the number, what holds in one of both
abbrev pub joined_by : ByNumber → ByNumber → ByNumber
joined_by a b = record {
  cases = joined_cases a.cases b (added a.cases a.others b.cases);
  others = joined a.others b.others;
}

-- what holds if one of both holds: by the number of the local, where it is the same one
abbrev pub joined_both : Facts → Facts → Facts
joined_both F G =
    if is_local F.type F.local G then record { type = F.type; local = F.local; by = joined_by F.by G.by }
    else alone (joined (all_of F.by) (all_of G.by))

-- what holds if one of both holds, where a run comes to that one
abbrev pub joined_facts : Facts → Facts → Facts
joined_facts F G = if is_nowhere F.by then G else (if is_nowhere G.by then F else joined_both F G)

-- ---- implication

-- for each of these numbers the second one holds where the first one does
abbrev pub cases_cover : List Numbered → ByNumber → Bool
cases_cover [] b = true
cases_cover (c ∷ cs) b = if covers c.known (at b (Some (pos c.number))) then cases_cover cs b else false

-- for each number of the second ones the second one holds where the first one does
abbrev pub cover_cases : ByNumber → List Numbered → Bool
cover_cases a [] = true
cover_cases a (d ∷ ds) = if covers (at a (Some (pos d.number))) d.known then cover_cases a ds else false

-- for each number what is known by the second one holds where what is known by the first one does
abbrev pub covers_by : ByNumber → ByNumber → Bool
covers_by a b =
    if covers a.others b.others then (if cases_cover a.cases b then cover_cases a b.cases else false) else false

-- ---- brought to a type

-- a number that is one of the type
abbrev pub fits : CType → ℕ → Bool
fits (Signed w) n = false
fits (Unsigned w) n = nat_lt n (limit w)
fits Truth n = nat_lt n 2

-- each of the numbers is one of the type
abbrev pub all_fit : CType → List Numbered → Bool
all_fit t [] = true
all_fit t (c ∷ cs) = if fits t c.number then all_fit t cs else false

-- by the value that is brought to the type: another one may become one of these numbers
abbrev pub brought : CType → ByNumber → ByNumber
brought t b =
    if all_fit t b.cases
    then record { cases = each_case (λ k. joined k b.others) b.cases; others = b.others }
    else record { cases = []; others = all_of b }

-- ---- tests of locals

-- the local of that type and number, if the type is an unsigned one
abbrev pub word_in : CType → ℕ → Option Word
word_in (Signed w) i = None
word_in (Unsigned w) i = Some (record { width = w; local = i })
word_in Truth i = None

-- the local that an expression is
abbrev pub word_of : CExpr → Option Word
word_of (Const t z) = None
word_of (Field f) = None
word_of (Element a e) = None
word_of (Local t i) = word_in t i
word_of (Cast t e) = None
word_of (Minus e) = None
word_of (Bang e) = None
word_of (Calc op a b) = None
word_of (Divide op a b) = None
word_of (Bits op a b) = None
word_of (Compare op a b) = None
word_of (Both a b) = None
word_of (Either a b) = None
word_of (Choose t c a b) = None

-- the question whether it is a constant, if that is one
abbrev pub with_constant : Bool → Word → Option Constant → Option Inquiry
with_constant eq x None = None
with_constant eq x (Some c) =
    if bits c.width == bits x.width
    then Some (record { of = Unsigned x.width; local = x.local; is = eq; number = c.number })
    else None

-- what a comparison of that kind asks
abbrev pub compares : Option Bool → Option Word → CExpr → Option Inquiry
compares None x e = None
compares (Some eq) None e = None
compares (Some eq) (Some x) e = with_constant eq x (constant_of e)

-- the question the other way round
abbrev pub opposite : Option Inquiry → Option Inquiry
opposite None = None
opposite (Some q) = Some (record { of = q.of; local = q.local; is = not q.is; number = q.number })

-- what an expression asks
unfoldable pub asks : CExpr → Option Inquiry
asks (Const t z) = None
asks (Field f) = None
asks (Element a e) = None
asks (Local t i) = Some (record { of = t; local = i; is = false; number = 0 })
asks (Cast t e) = None
asks (Minus e) = None
asks (Bang e) = opposite (asks e)
asks (Calc op a b) = None
asks (Divide op a b) = None
asks (Bits op a b) = None
asks (Compare op a b) = compares (equality op) (word_of a) b
asks (Both a b) = None
asks (Either a b) = None
asks (Choose t c a b) = None

-- where a value of the type is that number, or isn't it
abbrev pub narrowed_case : CType → Bool → ℕ → ℕ → Known → Known
narrowed_case t way n c k = if fits t c && not (agrees way (c == n)) then Never else k

-- so for each of the numbers
abbrev pub narrowed : CType → Bool → ℕ → List Numbered → List Numbered
narrowed t way n [] = []
narrowed t way n (c ∷ cs) =
    record { number = c.number; known = narrowed_case t way n c.number c.known } ∷ narrowed t way n cs
