-- The values that the tokens `NAME=VALUE` of an event line give to inputs.
use Rattle.std.specs.Prelude.{ℕ, ℤ, ◌+◌, nat_eq, Bool, true, false, List, [], ◌∷◌, length, take}
use Rattle.std.specs.Prelude.{drop, replicate, codes, Option, Some, None, is_some, Result, Ok}
use Rattle.std.specs.Prelude.{Err, if◌then◌else◌, slice_get, slice_set, slice_index_or}
use Rattle.std.specs.List.{list_any, position}
use Rattle.std.specs.Option.{option_map}
use Rattle.std.specs.Str.{bytes_eq}
use Rattle.fixed_point.specs.Reading.{number_read}
use Rattle.fixed_point.specs.Scales.{exact_mantissa}
use Rattle.fixed_point.specs.declared.num.Num.{Num}
use Rattle.fixed_point.specs.declared.reading.NumFault.{NumFault}
use Rattle.fixed_point.specs.declared.scale.Scale.{Scale}
use Rattle.actions.specs.Names.{Names}
use Rattle.actions.specs.declared.expr.Value.{Value}
use Rattle.actions.specs.declared.expr.Value.TheVariants as values
use Rattle.actions.specs.declared.names.Sort.{Sort}
use Rattle.actions.specs.declared.names.Sort.TheVariants as sorts
use Rattle.actions.specs.declared.names.Var.{Var}
use Rattle.actions.specs.declared.names.VarKind.{VarKind}
use Rattle.actions.specs.declared.names.VarKind.TheVariants as kinds
use Rattle.event_file.specs.declared.fault.LineFault.{LineFault}
use Rattle.event_file.specs.declared.fault.LineFault.TheVariants as faults

-- no datum is given a value
abbrev pub no_inputs : Names → List (Option Value)
no_inputs n = replicate (length n.vars) None

-- goes on with what was read, or ends in its fault
abbrev pub and_then : {A B : Type 0} → Result A LineFault → (A → Result B LineFault) → Result B LineFault
and_then (Ok x) next = next x
and_then (Err fault) next = Err fault

-- ---- a VALUE

-- a flag's value
abbrev pub flag_value : List ℕ → Option Value
flag_value text =
    if bytes_eq text (codes "true") then Some (values.Flag true)
    else (if bytes_eq text (codes "false") then Some (values.Flag false) else None)

-- the value of the scale that a number equals, if there is one
abbrev pub value_at_scale : Scale → Result Num NumFault → Option Value
value_at_scale scale (Ok num) =
    option_map (λ m. values.Number (record { mantissa = m; frac = scale.frac })) (exact_mantissa num scale)
value_at_scale scale (Err fault) = None

-- a number's value: decimal text without a `q`, which equals a value of the scale
abbrev pub number_value : Scale → List ℕ → Option Value
number_value scale text =
    if list_any (λ b. nat_eq b 113) text then None else value_at_scale scale (number_read text)

-- the mantissa of the value of the scale that a number equals
abbrev pub mantissa_at_scale : Scale → Result Num NumFault → Option ℤ
mantissa_at_scale scale (Ok num) = exact_mantissa num scale
mantissa_at_scale scale (Err fault) = None

-- the mantissa of the value of the scale that a text spells
abbrev pub mantissa_of_text : Scale → List ℕ → Option ℤ
mantissa_of_text scale text =
    if list_any (λ b. nat_eq b 113) text then None else mantissa_at_scale scale (number_read text)

-- the value of a sort that a text spells
abbrev pub value_of_text : Sort → List ℕ → Option Value
value_of_text sorts.Flag text = flag_value text
value_of_text (sorts.Number scale) text = number_value scale text

-- ---- a token NAME=VALUE

-- the datum is an input
abbrev pub is_input : VarKind → Bool
is_input kinds.Input = true
is_input kinds.Output = false
is_input kinds.Local = false

-- the datum is given the value, if there is one
abbrev pub with_input : List (Option Value) → ℕ → Option Value → Result (List (Option Value)) LineFault
with_input inputs v None = Err faults.BadValue
with_input inputs v (Some value) = Ok (slice_set inputs v (Some value))

-- the text after the `=`, for the datum of that number and declaration
abbrev pub given_to : List (Option Value) → ℕ → Option Var → List ℕ → Result (List (Option Value)) LineFault
given_to inputs v None text = Err faults.UnknownInput
given_to inputs v (Some decl) text =
    if is_input decl.kind
    then (if is_some (slice_index_or inputs v None) then Err faults.InputTwice
    else with_input inputs v (value_of_text decl.sort text))
    else Err faults.UnknownInput

-- for the datum of that number, if the name has one
abbrev pub given_by_name : Names → List (Option Value) → Option ℕ → List ℕ → Result (List (Option Value)) LineFault
given_by_name n inputs None text = Err faults.UnknownInput
given_by_name n inputs (Some v) text = given_to inputs v (slice_get n.vars v) text

-- for a token with its first `=` at that place, if there is one; a name is that of the first datum that has it
abbrev pub given_at : Names → List (Option Value) → List ℕ → Option ℕ → Result (List (Option Value)) LineFault
given_at n inputs token None = Err faults.UnknownInput
given_at n inputs token (Some k) =
    given_by_name n inputs (position (λ (v : Var). bytes_eq v.name (take k token)) n.vars) (drop (k + 1) token)

-- what the inputs are given after one more token
abbrev pub given : Names → List (Option Value) → List ℕ → Result (List (Option Value)) LineFault
given n inputs token = given_at n inputs token (position (λ b. nat_eq b 61) token)

-- what the inputs are given after all further tokens, or the first fault of one
abbrev pub all_given : Names → List (Option Value) → List (List ℕ) → Result (List (Option Value)) LineFault
all_given n inputs [] = Ok inputs
all_given n inputs (token ∷ tokens) = and_then (given n inputs token) (λ more. all_given n more tokens)
