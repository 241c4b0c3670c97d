-- When a store shows a world's data, and when C ends as a value does.
use Rattle.std.specs.Prelude.{◌≡◌, ℕ, ◌<◌, ℤ, List, length, Some, Ok, Err, nat_le, slice_get, if◌then◌else◌}
use Rattle.active_config.specs.Marks.{Configuration, is_on, mark_count}
use Rattle.actions.specs.declared.expr.Value.{Value}
use Rattle.actions.specs.declared.expr.Value.TheVariants as values
use Rattle.actions.specs.declared.names.Sort.{Sort}
use Rattle.actions.specs.declared.names.Sort.TheVariants as sorts
use Rattle.actions.specs.Data.{Datum, datum}
use Rattle.actions.specs.Values.{Valued}
use Rattle.c_subset.specs.Trees.{CExpr}
use Rattle.c_subset.specs.declared.trees.Width.{Width}
use Rattle.c_subset.specs.declared.trees.Width.TheVariants.{W8, W16, W32, W64}
use Rattle.c_subset.specs.declared.trees.CType.{CType}
use Rattle.c_subset.specs.declared.trees.CType.TheVariants.{Signed, Unsigned, Truth}
use Rattle.c_subset.specs.Meaning.{Object, Store, Locals, meaning, gives, one_if}
use Rattle.c_functions.specs.Code.{ending, Goes, Faults}
use Rattle.c_functions.specs.Translation.{Flat}

-- the least width that holds so many bits
abbrev pub least_width : ℕ → Width
least_width n = if nat_le n 8 then W8 else (if nat_le n 16 then W16 else (if nat_le n 32 then W32 else W64))

-- the type of a datum's field
abbrev pub field_type : Sort → CType
field_type sorts.Flag = Truth
field_type (sorts.Number scale) =
    if scale.signed then Signed (least_width scale.width) else Unsigned (least_width scale.width)

-- the field of a datum: its mantissa, in the type of its sort
abbrev pub field_of : Datum → Object
field_of d = record { type = field_type d.sort; value = Some d.mantissa }

-- the struct shows the data: the field with the number of a datum is its field
abbrev pub ShowsData : List Datum → Store → Type 0
ShowsData vals s = (v : ℕ) → v < length vals → slice_get s.fields v ≡ Some (field_of (datum vals v))

-- the whole number by which C shows a value: the mantissa of a number, 1 or 0 of a flag
abbrev pub shown : Value → ℤ
shown (values.Flag b) = one_if b
shown (values.Number n) = n.mantissa

-- the expression gives that whole number, in whatever type
abbrev pub Has : Width → Store → Locals → CExpr → ℤ → Type 0
Has int s l e z = (t : CType) × (meaning int s l e ≡ gives t z)

-- the tests of states give whether they are active
abbrev pub ShowsActive : Width → (ℕ → CExpr) → Configuration → Store → Type 0
ShowsActive int tests marks s = (q : ℕ) (l : Locals) → q < mark_count marks → Has int s l (tests q)
    (one_if (is_on q marks))

-- the locals below k are the same
abbrev pub AgreeBelow : ℕ → Locals → Locals → Type 0
AgreeBelow k l m = (t : CType) (i : ℕ) → i < k → m t i ≡ l t i

-- The code ends as the value does: in its fault, or with locals, of which those below n are as before, and then the
-- expression gives the value, whatever later code sets.
abbrev pub EndsAs : Width → Store → ℕ → Flat → Locals → Valued → Type 0
EndsAs int s n f l (Err fault) = ending int s l f.code ≡ Faults fault
EndsAs int s n f l (Ok value) = (after : Locals) × (ending int s l f.code ≡ Goes after) × AgreeBelow n l after
    × ((later : Locals) → AgreeBelow f.next after later → Has int s later f.expr (shown value))
