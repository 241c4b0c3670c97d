-- The fields of the struct, each with a comment.
use Rattle.std.specs.Prelude.{ℕ, zero, suc, ◌+◌, ◌%◌, ◌==◌, Bool, true, false, List, [], ◌∷◌, ◌++◌, codes, decimal}
use Rattle.std.specs.Prelude.{if◌then◌else◌}
use Rattle.std.specs.Fmt.{signed_decimal}
use Rattle.fixed_point.specs.declared.scale.Scale.{Scale}
use Rattle.fixed_point.specs.Scales.{least, greatest}
use Rattle.active_config.specs.Tree.{state_count, comp_of, is_child, is_or}
use Rattle.actions.specs.declared.names.Sort.{Sort}
use Rattle.actions.specs.declared.names.Sort.TheVariants as sorts
use Rattle.actions.specs.declared.names.Var.{Var}
use Rattle.code_fields.specs.Spelling.{sort_word, var_kind_word}
use Rattle.c_functions.specs.Plans.{Shape, layout}
use Rattle.c_text.specs.Labels.{Labels, field_label, type_of_field}
use Rattle.c_text.specs.Types.{type_text}
use Rattle.c_header.specs.Paths.{state_name, place_text}

-- the texts of the numbers below n, in order
abbrev pub texts_below : (ℕ → List ℕ) → ℕ → List ℕ
texts_below text zero = []
texts_below text (suc n) = texts_below text n ++ text n

-- T f; /*
unfoldable pub field_start : Labels → ℕ → List ℕ
field_start L f = codes "    " ++ (type_text L.chart (type_of_field L f) ++ (32 ∷ (field_label L f ++ codes "; /* ")))

-- T f; /* comment */
abbrev pub field_line : Labels → ℕ → List ℕ → List ℕ
field_line L f comment = field_start L f ++ (comment ++ codes " */\n")

-- ---- data

-- the unit of a number with a fraction
abbrev pub unit_text : ℕ → List ℕ
unit_text frac = if frac == 0 then [] else codes ", in units of 2^-" ++ decimal frac

-- the least and the greatest mantissa
unfoldable pub limits_text : Scale → List ℕ
limits_text scale =
    codes ": " ++ (signed_decimal (least scale) ++ (codes " to " ++ signed_decimal (greatest scale)))

-- the values of a datum; those of a flag are its type's
unfoldable pub values_text : Sort → List ℕ
values_text sorts.Flag = []
values_text (sorts.Number scale) =
    codes " " ++ (sort_word (sorts.Number scale) ++ (limits_text scale ++ unit_text scale.frac))

-- the field of a datum: who sets it, and its values
abbrev pub datum_line : Labels → ℕ → Var → List ℕ
datum_line L f v = field_line L f (var_kind_word v.kind ++ values_text v.sort)

-- the fields of data from number f on
abbrev pub data_text : Labels → ℕ → List Var → List ℕ
data_text L f [] = []
data_text L f (v ∷ vars) = datum_line L f v ++ data_text L (f + 1) vars

-- ---- counters

-- what the field of the used steps is: whether steps are counted
abbrev pub used_words : Bool → List ℕ
used_words true = codes "steps of the last event"
used_words false = codes "not used: no event can overrun the bound of steps"

-- the fields between those of data and those of states
unfoldable pub counters_text : Labels → Bool → ℕ → List ℕ
counters_text L counted f =
    field_line L f (used_words counted)
    ++ (field_line L (f + 1) (codes "how many events it emitted")
    ++ (field_line L (f + 2) (codes "how many entries of note[] are in use")
    ++ (field_line L (f + 3) (codes "its fault")
    ++ (field_line L (f + 4) (codes "the datum that overflowed, by its number from 0")
    ++ field_line L (f + 5) (codes "whether a run goes on: 0 before it and after a fault")))))

-- ---- states

-- what stands before a child, which has a line of its own: the first child of a state has the number after its own
abbrev pub child_lead : ℕ → ℕ → List ℕ
child_lead p x = if x == p + 1 then codes ":\n        " else codes ",\n        "

-- a child of an OR, after the number that stands for it in the field
abbrev pub child_text : Shape → ℕ → ℕ → List ℕ
child_text K p x =
    if is_child K.tree p x
    then child_lead p x ++ (decimal (K.numbers x) ++ (32 ∷ state_name K.names x))
    else []

-- all children of an OR
unfoldable pub children_text : Shape → ℕ → List ℕ
children_text K p = texts_below (child_text K p) (state_count K.tree)

-- the field of the active child of an OR
unfoldable pub active_field : List ℕ → Labels → Shape → ℕ → List ℕ
active_field chart L K p =
    field_start L ((layout K).chosen p)
    ++ (codes "the active child of " ++ (place_text chart K.tree K.names p ++ (children_text K p ++ codes " */\n")))

-- the field of the child that an OR remembers
unfoldable pub last_field : List ℕ → Labels → Shape → ℕ → List ℕ
last_field chart L K p =
    field_start L ((layout K).kept p)
    ++ (codes "the child that " ++ (place_text chart K.tree K.names p ++ codes " remembers */\n"))

-- what is written for an OR alone
abbrev pub for_or : Shape → ℕ → List ℕ → List ℕ
for_or K p text = if is_or (comp_of K.tree p) then text else []

-- a word of bits, with the first of its states
unfoldable pub bits_line : Labels → Shape → ℕ → List ℕ
bits_line L K x =
    if x % 32 == 0 then field_line L ((layout K).word x) (codes "bits of the other states") else []
