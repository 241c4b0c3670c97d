-- Well-formed code has a text that can be read.
use Rattle.std.proofs.Common.{◌≡◌, ℕ, zero, suc, ◌+◌, ◌-◌, ◌^◌, ◌<◌, ◌≤◌, Bool}
use Rattle.std.proofs.Common.{true, false, cond, ◌&&◌, ◌||◌, not, nat_lt}
use Rattle.std.proofs.Common.{List, [], ◌∷◌, ◌++◌, length, map, Option, Some, None, refl, ap, subst, arith}
use Rattle.std.specs.Prelude.{ℤ, pos, negsuc, neg_ℤ, int_le, int_lt, unsigned_abs, IsTrue, IsSomeAnd, is_some, is_none}
use Rattle.std.specs.Prelude.{slice_index_or}
use Rattle.std.specs.List.{list_all, list_any, AllByRecursion}
use Rattle.std.proofs.lemmas.Bool.{and_parts, ltb-true, false≢true}
use Rattle.std.proofs.lemmas.Bool.Decides.{nat_tests}
use Rattle.std.proofs.lemmas.Int.{ints}
use Rattle.std.proofs.lemmas.List.{get_or-map, length-map}
use Rattle.std.proofs.lemmas.List.Elements.{recursion_from_All}
use Rattle.std.proofs.Math.Nat.{pow-le-pow_right}
use Rattle.flow_base.specs.declared.chart_limits.TheConstants.{OPERATOR_LIMIT}
use Rattle.fixed_point.specs.declared.num.Num.{Num}
use Rattle.chart_lexer.specs.Words.{is_name}
use Rattle.active_config.specs.Tree.{Tree, IsTree, state_count, parent_of}
use Rattle.active_config.proofs.PathLemmas.{parent_lt}
use Rattle.actions.specs.declared.names.EventDecl.{EventDecl}
use Rattle.actions.specs.declared.names.Sort.{Sort}
use Rattle.actions.specs.declared.names.Sort.TheVariants as sorts
use Rattle.actions.specs.declared.names.Var.{Var}
use Rattle.actions.specs.Data.{is_mantissa_of}
use Rattle.actions.specs.Exprs.{Expr, Lit, Flag, Read, Active, Neg, Not, Bin}
use Rattle.checked_chart.specs.Expressions.{IsLiteral, operator_count}
use Rattle.checked_chart.specs.Valid.{HasFlagMode}
use Rattle.code_language.specs.declared.code.RawCode.{RawCode}
use Rattle.code_language.specs.declared.code.RawState.{RawState}
use Rattle.code_language.specs.declared.fault.CodeFault.{CodeFault}
use Rattle.code_language.specs.declared.fault.CodeKind.{CodeKind}
use Rattle.code_language.specs.declared.limits.TheConstants.{PROC_LIMIT, INSTR_LIMIT}
use Rattle.code_language.specs.Code.{Code, Procedures, code_of, tree_of_states}
use Rattle.code_language.specs.Tables.{IsTable}
use Rattle.code_language.specs.Instrs.{Cond, On, Bare, OnHome, BareHome, Current}
use Rattle.code_language.specs.Instrs.{Result, Test, Last, Instr, Assign, Emit}
use Rattle.code_language.specs.Instrs.{Mark, Clear, Keep, Unless, Skip, Call, Visit}
use Rattle.code_language.specs.Instrs.{Send, SendTo, Play, Home, Begin, Pass, Ret}
use Rattle.code_language.specs.WellFormed.{Known, first_of, unless, expr_known, cond_known, instr_known, has_literals}
use Rattle.code_language.specs.WellFormed.{is_plain, cond_typed, instr_typed, instr_fault}
use Rattle.code_language.specs.WellFormed.{instrs_fault, proc_fault, procs_fault}
use Rattle.code_language.specs.WellFormed.{too_many, starts_known, later_fault, known_of, IsCode}
use Rattle.code_fields.specs.Spelling.{IsNumber, IsVar, IsEvent, is_init_of, HasNumbers as ExprHasNumbers, IsExpr}
use Rattle.code_lines.specs.declared.format.Format.TheVariants as formats
use Rattle.code_lines.specs.Spelling.{HasParent, CondHasWords, HasWords, HasNumbers, cond_is_in, is_in, IsInstr}
use Rattle.code_lines.specs.Fields.{parent_stands}
use Rattle.code_text.specs.Written.{Written, written_of, code_written}
use Rattle.code_text.specs.Spelling.{HasItsParent, StandsAt, AreStates, IsProc, IsSpellable}

-- ---- data

-- mantissas of a signed scale
signed_small : (x : ℕ) (m : ℤ) → x ≤ 2 ^ 63 → (int_le (neg_ℤ (pos x)) m && int_le m (pos (x - 1))) ≡ true
    → unsigned_abs m ≤ 2 ^ 64
signed_small x (pos n) few h = let both = and_parts (int_le (neg_ℤ (pos x)) (pos n)) _ h in grind (arith, ints)
signed_small x (negsuc n) few h = let both = and_parts (int_le (neg_ℤ (pos x)) (negsuc n)) _ h in grind (arith, ints)

-- and of an unsigned one
unsigned_small : (x : ℕ) (m : ℤ) → x ≤ 2 ^ 64 → (int_le (pos 0) m && int_le m (pos (x - 1))) ≡ true
    → unsigned_abs m ≤ 2 ^ 64
unsigned_small x (pos n) few h = let both = and_parts (int_le (pos 0) (pos n)) _ h in grind (arith, ints)
unsigned_small x (negsuc n) few h = absurd (false≢true h)

-- a power of two that isn't greater
powers : (k n : ℕ) → k ≤ n → 2 ^ k ≤ 2 ^ n
powers k n h = let some : zero < 2 = omega arith in pow-le-pow_right some h

-- the mantissas of a scale are small
in_range_small : (signed : Bool) (width : ℕ) (m : ℤ) → width ≤ 64
    → (int_le (cond signed (neg_ℤ (pos (2 ^ (width - 1)))) (pos 0)) m && int_le m (cond signed (pos (2 ^ (width - 1) - 1)) (pos (2 ^ width - 1)))) ≡ true
    → unsigned_abs m ≤ 2 ^ 64
in_range_small true width m few h = signed_small (2 ^ (width - 1)) m (powers (width - 1) 63 (omega arith)) h
in_range_small false width m few h = unsigned_small (2 ^ width) m (powers width 64 few) h

-- a flag is 0 or 1
flag_small : (m : ℤ) → (int_le (pos 0) m && int_le m (pos 1)) ≡ true → unsigned_abs m ≤ 2 ^ 64
flag_small (pos n) h = let both = and_parts (int_le (pos 0) (pos n)) _ h in grind (arith, ints)
flag_small (negsuc n) h = absurd (false≢true h)

-- a first value of a sort is one that a line can have
init_fits : (s : Sort) (m : ℤ) → is_mantissa_of s m ≡ true → (is_init_of s m ≡ true) × (unsigned_abs m ≤ 2 ^ 64)
init_fits sorts.Flag m h = (h, flag_small m h)
init_fits (sorts.Number scale) m h = (refl, in_range_small scale.signed scale.width m scale.bits_within h)

-- data with names and first values have lines
vars_fit : (vars : List Var) (others : List (List ℕ)) → list_all is_name (map (λ (v : Var). v.name) vars ++ others) ≡ true
    → AllByRecursion (λ (v : Var). IsTrue (is_mantissa_of v.sort v.init)) vars → AllByRecursion HasFlagMode vars
    → AllByRecursion IsVar vars × (list_all is_name others ≡ true)
vars_fit [] others names inits modes_are = (tt, names)
vars_fit (v ∷ vars) others names inits modes_are =
    let both = and_parts (is_name v.name) _ names in
    let value = init_fits v.sort v.init inits.0 in
    let rest = vars_fit vars others both.1 inits.1 modes_are.1 in
    ((record { named = both.0; mode = modes_are.0; init = value.0; small = value.1 }, rest.0), rest.1)

-- events with names have lines
events_fit : (events : List EventDecl) → list_all is_name (map (λ (e : EventDecl). e.name) events) ≡ true
    → AllByRecursion IsEvent events
events_fit [] h = tt
events_fit (e ∷ events) h = let both = and_parts (is_name e.name) _ h in (both.0, events_fit events both.1)

-- ---- expressions

-- what an expression may name has small numbers
pub record FewKnown (K : Known) : Type 0 where
  pub states : (s : ℕ) → nat_lt s (state_count K.tree) ≡ true → IsNumber s
  pub vars : length K.names.vars ≤ 1024

-- a literal that code may have
literal_fits : (n : Num) (z : ℤ) → n.mantissa ≡ z → (int_le (pos 0) z && (int_lt z (pos (2 ^ 99)) && nat_lt n.frac 33)) ≡ true → IsLiteral n
literal_fits n (pos units) e h =
    let both = and_parts (int_le (pos 0) (pos units)) (int_lt (pos units) (pos (2 ^ 99)) && nat_lt n.frac 33) h in
    let rest = and_parts (int_lt (pos units) (pos (2 ^ 99))) (nat_lt n.frac 33) both.1 in
    let small : units < 2 ^ 99 = grind (arith, ints) in
    let short : n.frac ≤ 32 = grind (arith, nat_tests) in
    record { units = units; mantissa = e; small = small; short = short }
literal_fits n (negsuc units) e h =
    let both = and_parts (int_le (pos 0) (negsuc units)) (int_lt (negsuc units) (pos (2 ^ 99)) && nat_lt n.frac 33) h in
    absurd (grind (arith, ints))

-- the numbers of an expression whose names are known
expr_fits : (K : Known) → FewKnown K → (x : Expr) → expr_known K x ≡ true → has_literals x ≡ true → ExprHasNumbers x
unfolding expr_known has_literals
expr_fits K few (Lit n) known plain = literal_fits n n.mantissa refl plain
expr_fits K few (Flag b) known plain = tt
expr_fits K few (Read v) known plain = let lt : v < length K.names.vars = ltb-true v (length K.names.vars) known in omega (arith, few.vars)
expr_fits K few (Active s) known plain = few.states s known
expr_fits K few (Neg a) known plain = expr_fits K few a known plain
expr_fits K few (Not a) known plain = expr_fits K few a known plain
expr_fits K few (Bin op a b) known plain =
    let names = and_parts (expr_known K a) (expr_known K b) known in
    let both = and_parts (has_literals a) (has_literals b) plain in
    (expr_fits K few a names.0 both.0, expr_fits K few b names.1 both.1)

-- few operators
few_operators : (n : ℕ) → not (nat_lt OPERATOR_LIMIT n) ≡ true → n ≤ OPERATOR_LIMIT
few_operators n h = grind (arith, nat_tests)

-- an expression of code has words
expr_has_words : (K : Known) → FewKnown K → (x : Expr) → expr_known K x ≡ true → is_plain x ≡ true → IsExpr x
expr_has_words K few x known plain =
    let both = and_parts (not (nat_lt OPERATOR_LIMIT (operator_count x))) (has_literals x) plain in
    record { numbers = expr_fits K few x known both.1; few = few_operators (operator_count x) both.0 }

-- ---- instructions

-- a condition of code has words
cond_has_words : (K : Known) → FewKnown K → (c : Cond) → cond_known K c ≡ true → cond_typed K c ≡ true → CondHasWords c
unfolding cond_known cond_typed
cond_has_words K few (On s) known typed = tt
cond_has_words K few (Bare s) known typed = tt
cond_has_words K few OnHome known typed = tt
cond_has_words K few BareHome known typed = tt
cond_has_words K few (Current e) known typed = tt
cond_has_words K few (Result r) known typed = tt
cond_has_words K few (Test x) known typed = expr_has_words K few x known (and_parts (is_plain x) _ typed).0
cond_has_words K few (Last s) known typed = tt

-- and so has an instruction
instr_has_words : (K : Known) → FewKnown K → (x : Instr) → instr_known K x ≡ true → instr_typed K x ≡ true → HasWords x
unfolding instr_known instr_typed
instr_has_words K few (Assign v x) known typed =
    expr_has_words K few x (and_parts (nat_lt v (length K.names.vars)) (expr_known K x) known).1 (and_parts (is_plain x) _ typed).0
instr_has_words K few (Emit e) known typed = tt
instr_has_words K few (Mark s) known typed = tt
instr_has_words K few (Clear s) known typed = tt
instr_has_words K few (Keep s) known typed = tt
instr_has_words K few (Unless k c) known typed = cond_has_words K few c known typed
instr_has_words K few (Skip k) known typed = tt
instr_has_words K few (Call p tag) known typed = tt
instr_has_words K few (Visit p tag) known typed = tt
instr_has_words K few (Send e) known typed = tt
instr_has_words K few (SendTo e s p) known typed = tt
instr_has_words K few Play known typed = tt
instr_has_words K few (Home s) known typed = tt
instr_has_words K few Begin known typed = tt
instr_has_words K few Pass known typed = tt
instr_has_words K few (Ret r) known typed = tt

-- format 2 has every condition
cond_in_two : (c : Cond) → cond_is_in formats.Two c ≡ true
cond_in_two (On s) = refl
cond_in_two (Bare s) = refl
cond_in_two OnHome = refl
cond_in_two BareHome = refl
cond_in_two (Current e) = refl
cond_in_two (Result r) = refl
cond_in_two (Test x) = refl
cond_in_two (Last s) = refl

-- and every instruction
in_two : (x : Instr) → is_in formats.Two x ≡ true
in_two (Assign v x) = refl
in_two (Emit e) = refl
in_two (Mark s) = refl
in_two (Clear s) = refl
in_two (Keep s) = refl
in_two (Unless k c) = cond_in_two c
in_two (Skip k) = refl
in_two (Call p tag) = refl
in_two (Visit p tag) = refl
in_two (Send e) = refl
in_two (SendTo e s p) = refl
in_two Play = refl
in_two (Home s) = refl
in_two Begin = refl
in_two Pass = refl
in_two (Ret r) = refl

-- where neither of two faults is there
neither : (a b : Option CodeFault) → first_of a b ≡ None → (a ≡ None) × (b ≡ None)
neither None b h = (refl, h)
neither (Some fault) b h = absurd cc

-- where a test has no fault it passed
passed : (good : Bool) (kind : CodeKind) (p i : ℕ) → unless good kind p i ≡ None → good ≡ true
passed true kind p i h = refl
passed false kind p i h = absurd cc

-- an instruction without a fault has words
faultless : (K : Known) → FewKnown K → (p i : ℕ) (x : Instr) (rest : List Instr) → instr_fault K p i x rest ≡ None → HasWords x
unfolding instr_fault
faultless K few p i x rest h =
    let known = neither _ _ h in
    let within = neither _ _ known.1 in
    let lower = neither _ _ within.1 in
    let typed = neither _ _ lower.1 in
    instr_has_words K few x (passed (instr_known K x) _ p i known.0) (passed (instr_typed K x) _ p i typed.0)

-- instructions without a fault have lines
instrs_fit : (K : Known) → FewKnown K → (p i : ℕ) (is : List Instr) → instrs_fault K p i is ≡ None → AllByRecursion HasNumbers is
    → AllByRecursion (IsInstr formats.Two) is
unfolding instrs_fault
instrs_fit K few p i [] h g = tt
instrs_fit K few p i (x ∷ rest) h g =
    let both = neither (instr_fault K p i x rest) (instrs_fault K p (i + 1) rest) h in
    (record { numbers = g.0; words = faultless K few p i x rest both.0; format_has = in_two x }, instrs_fit K few p (i + 1) rest both.1 g.1)

-- the instructions of a procedure without a fault
proc_fits : (K : Known) → FewKnown K → (p : ℕ) (is : List Instr) → proc_fault K p is ≡ None → AllByRecursion HasNumbers is
    → AllByRecursion (IsInstr formats.Two) is
unfolding proc_fault
proc_fits K few p [] h g = tt
proc_fits K few p (x ∷ rest) h g = instrs_fit K few p 0 (x ∷ rest) h g

-- a procedure that isn't longer than the limit has a count of a line
count_fits : (is : List Instr) (procs : List (List Instr))
    → list_any (λ (js : List Instr). nat_lt INSTR_LIMIT (length js)) (is ∷ procs) ≡ false
    → (length is ≤ INSTR_LIMIT) × (list_any (λ (js : List Instr). nat_lt INSTR_LIMIT (length js)) procs ≡ false)
count_fits is procs h = by_test (nat_lt INSTR_LIMIT (length is)) refl h
  where
    by_test : (long : Bool) → nat_lt INSTR_LIMIT (length is) ≡ long
        → (long || list_any (λ (js : List Instr). nat_lt INSTR_LIMIT (length js)) procs) ≡ false
        → (length is ≤ INSTR_LIMIT) × (list_any (λ (js : List Instr). nat_lt INSTR_LIMIT (length js)) procs ≡ false)
    by_test true e g = absurd cc
    by_test false e g = (grind (arith, nat_tests), g)

-- procedures without a fault have lines
procs_fit : (K : Known) → FewKnown K → (p : ℕ) (procs : List (List Instr)) → procs_fault K p procs ≡ None
    → list_any (λ (js : List Instr). nat_lt INSTR_LIMIT (length js)) procs ≡ false
    → AllByRecursion (AllByRecursion HasNumbers) procs → AllByRecursion (IsProc formats.Two) procs
unfolding procs_fault
procs_fit K few p [] h short g = tt
procs_fit K few p (is ∷ procs) h short g =
    let both = neither (proc_fault K p is) (procs_fault K (p + 1) procs) h in
    let fits = count_fits is procs short in
    (record { count = omega (arith, fits.0); instrs = proc_fits K few p is both.0 g.0 }, procs_fit K few (p + 1) procs both.1 fits.1 g.1)

-- ---- states

-- a state of a tree: the first has no parent, and each other one has one
others_fit : (states : List RawState) → list_all is_name (map (λ (s : RawState). s.name) states) ≡ true
    → AllByRecursion HasItsParent states
    → ((i : ℕ) → i < length states → is_some (slice_index_or (map (λ (s : RawState). s.parent) states) i None) ≡ true)
    → AllByRecursion (StandsAt false) states
others_fit [] names parents some = tt
others_fit (s ∷ states) names parents some =
    let both = and_parts (is_name s.name) _ names in
    ((record { parent = parents.0; named = both.0 }, some 0 (omega arith)), others_fit states both.1 parents.1 (λ i lt. some (suc i) (omega arith)))

-- the first state and the others
states_fit : (states : List RawState) → list_all is_name (map (λ (s : RawState). s.name) states) ≡ true
    → AllByRecursion HasItsParent states
    → slice_index_or (map (λ (s : RawState). s.parent) states) 0 None ≡ None
    → ((i : ℕ) → suc i < length states → is_some (slice_index_or (map (λ (s : RawState). s.parent) states) (suc i) None) ≡ true)
    → AreStates states
states_fit [] names parents first more = tt
states_fit (root ∷ others) names parents first more =
    let both = and_parts (is_name root.name) _ names in
    let stands : parent_stands true root.parent ≡ true = ap is_none first in
    ((record { parent = parents.0; named = both.0 }, stands), others_fit others both.1 parents.1 (λ i lt. more i (omega arith)))

-- an option of which something holds is there
is_there : (o : Option ℕ) (Q : ℕ → Type 0) → IsSomeAnd o Q → is_some o ≡ true
is_there None Q h = absurd h
is_there (Some p) Q h = refl

-- the states of a tree
tree_fits : (states : List RawState) → IsTree (tree_of_states states)
    → list_all is_name (map (λ (s : RawState). s.name) states) ≡ true → AllByRecursion HasItsParent states → AreStates states
unfolding parent_of state_count
tree_fits states tree names parents =
    let count : length (map (λ (s : RawState). s.parent) states) ≡ length states = length-map states (λ (s : RawState). s.parent) in
    states_fit states names parents tree.pre_order.root (λ i lt.
    let next : i + 1 ≡ suc i = omega arith in
    let there = is_there _ _ (tree.pre_order.others i (omega arith)) in
    subst (λ (k : ℕ). is_some (slice_index_or (map (λ (s : RawState). s.parent) states) k None) ≡ true) next there)

-- ---- code

-- a number of a state
states_few : (states : List RawState) → state_count (tree_of_states states) ≤ 1024 → length states ≤ 1024
unfolding state_count
states_few states h = omega (arith, length-map states (λ (s : RawState). s.parent))

-- the parent of a state of a small tree is a number of a text
parent_fits : (t : Tree) (s : ℕ) → IsTree t → s < state_count t → state_count t ≤ 1024 → (o : Option ℕ)
    → parent_of t s ≡ o → HasParent o
parent_fits t s tree lt few None e = tt
parent_fits t s tree lt few (Some p) e =
    let below = parent_lt t (state_count t) tree.pre_order s p lt e in omega arith

-- so are all parents
parents_fit : (states : List RawState) → IsTree (tree_of_states states) → state_count (tree_of_states states) ≤ 1024
    → AllByRecursion HasItsParent states
unfolding parent_of state_count
parents_fit states tree few = recursion_from_All HasItsParent states (λ k d lt.
    let count = length-map states (λ (s : RawState). s.parent) in
    parent_fits (tree_of_states states) k tree (omega arith) few (slice_index_or states k d).parent
    (get_or-map (λ (s : RawState). s.parent) states k d None lt))

-- what well-formed code may name has small numbers
known_few : (k : Code) → IsTable k.tree k.names → FewKnown (known_of k)
known_few k table =
    record {
      states = λ s lt. let below : s < state_count k.tree = ltb-true s (state_count k.tree) lt in omega (arith, table.states);
      vars = table.vars;
    }

-- what is not too much
few_procs : (procs : List (List Instr)) → too_many procs ≡ false
    → (length procs ≤ PROC_LIMIT) × (list_any (λ (is : List Instr). nat_lt INSTR_LIMIT (length is)) procs ≡ false)
few_procs procs h = by_test (nat_lt PROC_LIMIT (length procs)) refl h
  where
    by_test : (long : Bool) → nat_lt PROC_LIMIT (length procs) ≡ long
        → (long || list_any (λ (is : List Instr). nat_lt INSTR_LIMIT (length is)) procs) ≡ false
        → (length procs ≤ PROC_LIMIT) × (list_any (λ (is : List Instr). nat_lt INSTR_LIMIT (length is)) procs ≡ false)
    by_test true e g = absurd cc
    by_test false e g = (grind (arith, nat_tests), g)

-- the procedures of the start and of a reaction
starts_few : (k : Procedures) → starts_known k ≡ true → length k.procs ≤ PROC_LIMIT → IsNumber k.start × IsNumber k.react
starts_few k h few =
    let both = and_parts (nat_lt k.start (length k.procs)) (nat_lt k.react (length k.procs)) h in
    let start : k.start < length k.procs = ltb-true k.start (length k.procs) both.0 in
    let react : k.react < length k.procs = ltb-true k.react (length k.procs) both.1 in
    (omega arith, omega arith)

-- what is written is spellable in format 2 where its tables are right, its procedures have no fault and aren't too many,
-- and its numbers are those of a text
pub right_spellable : (w : Written) → IsTable (code_written w).tree (code_written w).names
    → too_many w.procedures.procs ≡ false → starts_known w.procedures ≡ true
    → procs_fault (known_of (code_written w)) 0 w.procedures.procs ≡ None → AllByRecursion HasItsParent w.states
    → AllByRecursion (AllByRecursion HasNumbers) w.procedures.procs → IsSpellable formats.Two w
right_spellable w table few starts sound parents numbers =
    let k = code_written w in
    let procs = few_procs w.procedures.procs few in
    let first = starts_few w.procedures starts procs.0 in
    let vars = vars_fit w.vars (map (λ (e : EventDecl). e.name) w.events) table.names.declared table.inits table.flags in
    let known = known_few k table in
    record {
      states = let small = states_few w.states table.states in omega (arith, small);
      vars = omega (arith, table.vars);
      events = omega (arith, table.events);
      procs = omega (arith, procs.0);
      start = first.0;
      react = first.1;
      are_states = tree_fits w.states table.tree table.names.states parents;
      are_vars = vars.0;
      are_events = events_fit w.events vars.1;
      are_procs = procs_fit (known_of k) known 0 w.procedures.procs sound procs.1 numbers;
    }

-- well-formed code is spellable in format 2 where its numbers are those of a text
spellable : (w : Written) → IsCode (code_written w) → AllByRecursion HasItsParent w.states
    → AllByRecursion (AllByRecursion HasNumbers) w.procedures.procs → IsSpellable formats.Two w
unfolding later_fault
spellable w code parents numbers =
    let first = neither _ _ code.sound in
    let second = neither _ _ first.1 in
    right_spellable w code.table code.few (passed (starts_known w.procedures) _ 0 0 first.0) second.0 parents numbers

-- the parents of its states are such numbers
pub formed_spellable : (w : Written) → IsCode (code_written w)
    → AllByRecursion (AllByRecursion HasNumbers) w.procedures.procs → IsSpellable formats.Two w
formed_spellable w code numbers = spellable w code (parents_fit w.states code.table.tree code.table.states) numbers

-- so is what is kept as code
pub code_spellable : (raw : RawCode) → IsCode (code_of raw) → AllByRecursion HasItsParent (written_of raw).states
    → AllByRecursion (AllByRecursion HasNumbers) (written_of raw).procedures.procs → IsSpellable formats.Two (written_of raw)
code_spellable raw code parents numbers = spellable (written_of raw) code parents numbers
