-- The bytes of the lines of states, data and events.
use Rattle.std.proofs.Common.{◌≡◌, ℕ, suc, ◌+◌, ◌*◌, ◌^◌, ◌≤◌, Bool, true, false, ◌&&◌, ℤ, pos, negsuc, unsigned_abs}
use Rattle.std.proofs.Common.{nat_eq, nat_le, List, [], ◌∷◌, ◌++◌, length, map, codes, decimal, Option, Some, None}
use Rattle.std.proofs.Common.{arith, length-append, suc-mul, leb-true}
use Rattle.std.specs.Fmt.{signed_decimal}
use Rattle.std.specs.List.{AllByRecursion}
use Rattle.std.proofs.lemmas.Bool.{and_parts}
use Rattle.std.proofs.lemmas.Fmt.{length-decimal-le_wide}
use Rattle.fixed_point.specs.declared.fitting.Mode.{Mode}
use Rattle.fixed_point.specs.declared.fitting.Mode.TheVariants as modes
use Rattle.chart_lexer.specs.Bytes.{is_letter, begins}
use Rattle.chart_lexer.specs.declared.words.TheConstants.{NAME_LIMIT}
use Rattle.chart_lexer.specs.Words.{name_length}
use Rattle.active_config.specs.declared.comp.Comp.{Comp}
use Rattle.active_config.specs.declared.comp.Comp.TheVariants as comps
use Rattle.actions.specs.declared.names.EventDecl.{EventDecl}
use Rattle.actions.specs.declared.names.EventKind.{EventKind}
use Rattle.actions.specs.declared.names.EventKind.TheVariants as event_kinds
use Rattle.actions.specs.declared.names.Sort.{Sort}
use Rattle.actions.specs.declared.names.Sort.TheVariants as sorts
use Rattle.actions.specs.declared.names.Var.{Var}
use Rattle.actions.specs.declared.names.VarKind.{VarKind}
use Rattle.actions.specs.declared.names.VarKind.TheVariants as var_kinds
use Rattle.code_language.specs.declared.code.RawState.{RawState}
use Rattle.code_fields.specs.Spelling.{IsName, IsVar, IsEvent, comp_word, var_kind_word, event_kind_word, mode_word}
use Rattle.code_fields.specs.Spelling.{sign_word, sort_word, mode_in, var_line, event_line}
use Rattle.code_lines.specs.Spelling.{parent_word, HasParent, IsState, state_line}
use Rattle.code_text.specs.Spelling.{text_of, StandsAt, AreStates}
use Rattle.layout_text.proofs.Lines.{number_size}

-- ---- words

-- a name
name_size : (name : List ℕ) → IsName name → length name ≤ 63
name_size name h =
    let front = begins is_letter name && nat_eq (name_length name) (length name) in
    let both = and_parts front _ h in
    let small = and_parts (nat_le (length name) NAME_LIMIT) _ both.1 in
    leb-true (length name) NAME_LIMIT small.0

-- a parent
parent_size : (o : Option ℕ) → HasParent o → length (parent_word o) ≤ 10
parent_size None h = omega arith
parent_size (Some p) h = number_size p h

-- how a state is composed
comp_size : (k : Comp) → length (comp_word k) ≤ 4
comp_size comps.Leaf = omega arith
comp_size comps.Or = omega arith
comp_size comps.And = omega arith

-- who sets a datum
var_kind_size : (k : VarKind) → length (var_kind_word k) ≤ 6
var_kind_size var_kinds.Input = omega arith
var_kind_size var_kinds.Output = omega arith
var_kind_size var_kinds.Local = omega arith

-- who raises an event
event_kind_size : (k : EventKind) → length (event_kind_word k) ≤ 6
event_kind_size event_kinds.Input = omega arith
event_kind_size event_kinds.Local = omega arith
event_kind_size event_kinds.Output = omega arith

-- a mode
mode_size : (m : Mode) → length (mode_word m) ≤ 8
mode_size modes.Saturate = omega arith
mode_size modes.Wrap = omega arith
mode_size modes.Error = omega arith

-- that of a datum
mode_in_size : (s : Sort) (m : Mode) → length (mode_in s m) ≤ 8
mode_in_size sorts.Flag m = omega arith
mode_in_size (sorts.Number scale) m = mode_size m

-- signed or unsigned
sign_size : (b : Bool) → length (sign_word b) ≤ 4
sign_size true = omega arith
sign_size false = omega arith

-- the bits of a scale
bits_size : (n : ℕ) → n ≤ 64 → length (decimal n) ≤ 2
bits_size n h = length-decimal-le_wide 2 n (omega arith) (omega arith) (omega arith)

-- the values of a datum
sort_size : (s : Sort) → length (sort_word s) ≤ 11
sort_size sorts.Flag = omega arith
sort_size (sorts.Number scale) =
    omega (
      arith,
      length-append (sign_word scale.signed) (decimal scale.width ++ (codes "_En" ++ decimal scale.frac)),
      length-append (decimal scale.width) (codes "_En" ++ decimal scale.frac),
      length-append (codes "_En") (decimal scale.frac),
      sign_size scale.signed,
      bits_size scale.width (omega (arith, scale.bits_within)),
      bits_size scale.frac (omega (arith, scale.frac_within)),
    )

-- a first value
init_size : (z : ℤ) → unsigned_abs z ≤ 2 ^ 64 → length (signed_decimal z) ≤ 21
init_size (pos n) h =
    let small : n ≤ 2 ^ 64 = h in
    omega (arith, length-decimal-le_wide 20 n (omega arith) (omega arith) (omega arith))
init_size (negsuc n) h =
    let small : suc n ≤ 2 ^ 64 = h in
    omega (arith, length-decimal-le_wide 20 (suc n) (omega arith) (omega arith) (omega arith))

-- ---- lines

-- a word with a space and more after it
word_size : (word more : List ℕ) → length (word ++ (32 ∷ more)) ≡ length word + 1 + length more
word_size word more = omega (arith, length-append word (32 ∷ more))

-- a state with its newline
pub state_size : (s : RawState) → IsState s → length (state_line s) + 1 ≤ 82
state_size s h =
    let name = comp_word s.comp ++ (32 ∷ s.name) in
    omega (
      arith,
      length-append (codes "s ") (parent_word s.parent ++ (32 ∷ name)),
      word_size (parent_word s.parent) name,
      word_size (comp_word s.comp) s.name,
      parent_size s.parent h.parent,
      comp_size s.comp,
      name_size s.name h.named,
    )

-- a datum
pub var_size : (v : Var) → IsVar v → length (var_line v) + 1 ≤ 118
var_size v h =
    let init = signed_decimal v.init ++ (32 ∷ v.name) in
    let mode = mode_in v.sort v.mode ++ (32 ∷ init) in
    let sort = sort_word v.sort ++ (32 ∷ mode) in
    omega (
      arith,
      length-append (codes "d ") (var_kind_word v.kind ++ (32 ∷ sort)),
      word_size (var_kind_word v.kind) sort,
      word_size (sort_word v.sort) mode,
      word_size (mode_in v.sort v.mode) init,
      word_size (signed_decimal v.init) v.name,
      var_kind_size v.kind,
      sort_size v.sort,
      mode_in_size v.sort v.mode,
      init_size v.init h.small,
      name_size v.name h.named,
    )

-- an event
pub event_size : (e : EventDecl) → IsEvent e → length (event_line e) + 1 ≤ 73
event_size e h =
    omega (
      arith,
      length-append (codes "e ") (event_kind_word e.kind ++ (32 ∷ e.name)),
      word_size (event_kind_word e.kind) e.name,
      event_kind_size e.kind,
      name_size e.name h,
    )

-- ---- all lines

-- lines that aren't too long
each_size : {A : Type 0} (line : A → List ℕ) (Q : A → Type 0) (most : ℕ) → ((x : A) → Q x → length (line x) + 1 ≤ most)
    → (xs : List A) → AllByRecursion Q xs → length (text_of (map line xs)) ≤ length xs * most
each_size line Q most each [] h = omega arith
each_size line Q most each (x ∷ xs) h =
    omega (
      arith,
      length-append (line x) (10 ∷ text_of (map line xs)),
      each x h.0,
      each_size line Q most each xs h.1,
      suc-mul (length xs) most,
    )

-- the states
pub states_size : (states : List RawState) → AreStates states
    → length (text_of (map state_line states)) ≤ length states * 82
states_size [] h = omega arith
states_size (root ∷ others) h =
    omega (
      arith,
      length-append (state_line root) (10 ∷ text_of (map state_line others)),
      state_size root h.0.0,
      each_size state_line (StandsAt false) 82 (λ s stands. state_size s stands.0) others h.1,
      suc-mul (length others) 82,
    )

-- the data
pub vars_size : (vars : List Var) → AllByRecursion IsVar vars → length (text_of (map var_line vars)) ≤ length vars * 118
vars_size vars h = each_size var_line IsVar 118 var_size vars h

-- the events
pub events_size : (events : List EventDecl) → AllByRecursion IsEvent events
    → length (text_of (map event_line events)) ≤ length events * 73
events_size events h = each_size event_line IsEvent 73 event_size events h
