-- What the fields of a line say: numbers, names, words, data and events.
use Rattle.std.specs.Prelude.{◌≡◌, ℕ, zero, suc, ◌+◌, ◌^◌, nat_eq, nat_lt, ℤ, pos}
use Rattle.std.specs.Prelude.{negsuc, Bool, true, false, ◌&&◌, List, length, drop}
use Rattle.std.specs.Prelude.{Option, Some, None, option_and_then, option_map, if◌then◌else◌, codes, decimal}
use Rattle.std.specs.List.{starts_with}
use Rattle.std.specs.Str.{bytes_eq}
use Rattle.std.specs.Str.Parse.{digits_value}
use Rattle.fixed_point.specs.declared.fitting.Mode.{Mode}
use Rattle.fixed_point.specs.declared.fitting.Mode.TheVariants as modes
use Rattle.chart_lexer.specs.Words.{is_name}
use Rattle.active_config.specs.declared.comp.Comp.{Comp}
use Rattle.active_config.specs.declared.comp.Comp.TheVariants as comps
use Rattle.actions.specs.declared.names.EventDecl.{EventDecl}
use Rattle.actions.specs.declared.names.EventKind.{EventKind}
use Rattle.actions.specs.declared.names.EventKind.TheVariants as event_kinds
use Rattle.actions.specs.declared.names.Sort.{Sort}
use Rattle.actions.specs.declared.names.Sort.TheVariants as sorts
use Rattle.actions.specs.declared.names.Var.{Var}
use Rattle.actions.specs.declared.names.VarKind.{VarKind}
use Rattle.actions.specs.declared.names.VarKind.TheVariants as var_kinds
use Rattle.code_fields.specs.Cuts.{Parts, parts_at}
use Rattle.code_fields.specs.Scales.{scale_of_parts}
use Rattle.code_fields.specs.Spelling.{is_init_of}

-- a value that passes a test
abbrev pub kept : {A : Type 0} → (A → Bool) → A → Option A
kept test x = if test x then Some x else None

-- the first, or else the other
abbrev pub or_else : {A : Type 0} → Option A → Option A → Option A
or_else (Some x) other = Some x
or_else None other = other

-- ---- numbers

-- the number below a limit of which a text is the decimal form
unfoldable pub numeral : ℕ → List ℕ → Option ℕ
numeral limit token =
    if nat_lt (digits_value 10 token) limit && bytes_eq (decimal (digits_value 10 token)) token
    then Some (digits_value 10 token) else None

-- the number of a line
abbrev pub number_of : List ℕ → Option ℕ
number_of token = numeral (2 ^ 32) token

-- what stands after those words, where the text begins with them
unfoldable pub behind : List ℕ → List ℕ → Option (List ℕ)
behind words text = if starts_with nat_eq text words then Some (drop (length words) text) else None

-- the number after those words, and nothing after it
unfoldable pub number_behind : List ℕ → List ℕ → Option ℕ
number_behind words text = option_and_then number_of (behind words text)

-- a text that is a name
abbrev pub name_of : List ℕ → Option (List ℕ)
name_of text = if is_name text then Some text else None

-- reads the word at the front of a text, ended by a space, and goes on with what it says and what stands after it
abbrev pub word_then : {A B : Type 0} → (List ℕ → Option A) → (A → List ℕ → Option B) → List ℕ → Option B
word_then reads go text =
    option_and_then (λ (parts : Parts). option_and_then (λ x. go x parts.rest) (reads parts.front)) (parts_at 32 text)

-- ---- words

-- how a state is composed
unfoldable pub comp_of : List ℕ → Option Comp
comp_of word =
    if bytes_eq word (codes "leaf") then Some comps.Leaf else
    if bytes_eq word (codes "or") then Some comps.Or else
    if bytes_eq word (codes "and") then Some comps.And else
    None

-- who sets a datum
unfoldable pub var_kind_of : List ℕ → Option VarKind
var_kind_of word =
    if bytes_eq word (codes "input") then Some var_kinds.Input else
    if bytes_eq word (codes "output") then Some var_kinds.Output else
    if bytes_eq word (codes "local") then Some var_kinds.Local else
    None

-- who raises an event
unfoldable pub event_kind_of : List ℕ → Option EventKind
event_kind_of word =
    if bytes_eq word (codes "input") then Some event_kinds.Input else
    if bytes_eq word (codes "local") then Some event_kinds.Local else
    if bytes_eq word (codes "output") then Some event_kinds.Output else
    None

-- what is done with a number out of range
unfoldable pub mode_of : List ℕ → Option Mode
mode_of word =
    if bytes_eq word (codes "saturate") then Some modes.Saturate else
    if bytes_eq word (codes "wrap") then Some modes.Wrap else
    if bytes_eq word (codes "error") then Some modes.Error else
    None

-- the mode of a number; a flag has none, and saturates
abbrev pub mode_for : Sort → List ℕ → Option Mode
mode_for sorts.Flag word = if bytes_eq word (codes "-") then Some modes.Saturate else None
mode_for (sorts.Number scale) word = mode_of word

-- a scale whose width is read, from the words `En` and its fraction
abbrev pub scale_with : Bool → ℕ → List ℕ → Option Sort
scale_with signed width text =
    option_map (λ scale. sorts.Number scale) (option_and_then (scale_of_parts signed width) (number_behind (codes "En") text))

-- a scale, from its width on
abbrev pub scale_parts : Bool → Parts → Option Sort
scale_parts signed parts = option_and_then (λ width. scale_with signed width parts.rest) (number_of parts.front)

-- a scale after its sign
abbrev pub scale_behind : Bool → List ℕ → Option Sort
scale_behind signed text = option_and_then (scale_parts signed) (parts_at 95 text)

-- a signed scale
abbrev pub signed_sort : List ℕ → Option Sort
signed_sort word = option_and_then (scale_behind true) (behind (codes "sfix") word)

-- an unsigned one
abbrev pub unsigned_sort : List ℕ → Option Sort
unsigned_sort word = option_and_then (scale_behind false) (behind (codes "ufix") word)

-- the values of a datum
unfoldable pub sort_of : List ℕ → Option Sort
sort_of word =
    if bytes_eq word (codes "bool") then Some sorts.Flag else or_else (signed_sort word) (unsigned_sort word)

-- ---- first values

-- a magnitude of at most 2^64
abbrev pub magnitude_of : List ℕ → Option ℕ
magnitude_of token = numeral (2 ^ 64 + 1) token

-- a number with a minus sign; 0 has none
abbrev pub negative : ℕ → Option ℤ
negative zero = None
negative (suc n) = Some (negsuc n)

-- a number by what stands after its minus sign, if it has one
abbrev pub signed_by : List ℕ → Option (List ℕ) → Option ℤ
signed_by token None = option_map (λ n. pos n) (magnitude_of token)
signed_by token (Some rest) = option_and_then negative (magnitude_of rest)

-- a whole number of at most 2^64 in magnitude
unfoldable pub signed_of : List ℕ → Option ℤ
signed_of token = signed_by token (behind (codes "-") token)

-- the first value of a datum
abbrev pub init_for : Sort → List ℕ → Option ℤ
init_for sort token = option_and_then (kept (is_init_of sort)) (signed_of token)

-- ---- lines

-- a datum, from its name on
abbrev pub var_with_init : VarKind → Sort → Mode → ℤ → List ℕ → Option Var
var_with_init kind sort mode init text =
    option_map (λ name. record { name = name; kind = kind; sort = sort; mode = mode; init = init }) (name_of text)

-- from its first value on
abbrev pub var_with_mode : VarKind → Sort → Mode → List ℕ → Option Var
var_with_mode kind sort mode text = word_then (init_for sort) (var_with_init kind sort mode) text

-- from its mode on
abbrev pub var_with_sort : VarKind → Sort → List ℕ → Option Var
var_with_sort kind sort text = word_then (mode_for sort) (var_with_mode kind sort) text

-- from its sort on
abbrev pub var_with_kind : VarKind → List ℕ → Option Var
var_with_kind kind text = word_then sort_of (var_with_sort kind) text

-- the datum of a line
unfoldable pub var_of : List ℕ → Option Var
var_of line = option_and_then (word_then var_kind_of var_with_kind) (behind (codes "d ") line)

-- an event, from its name on
abbrev pub event_with_kind : EventKind → List ℕ → Option EventDecl
event_with_kind kind text = option_map (λ name. record { name = name; kind = kind }) (name_of text)

-- the event of a line
unfoldable pub event_of : List ℕ → Option EventDecl
event_of line = option_and_then (word_then event_kind_of event_with_kind) (behind (codes "e ") line)
