-- The names of what stands in a file: fields, arrays, functions and locals.
use Rattle.std.specs.Prelude.{ℕ, ◌+◌, ◌-◌, ◌/◌, nat_lt, Bool, true, false, List, [], ◌∷◌, ◌++◌, map, replicate}
use Rattle.std.specs.Prelude.{codes, decimal, slice_index_or, if◌then◌else◌}
use Rattle.std.specs.List.{range_with_len}
use Rattle.active_config.specs.Tree.{Tree, state_count}
use Rattle.actions.specs.declared.names.Var.{Var}
use Rattle.actions.specs.declared.names.VarKind.{VarKind}
use Rattle.actions.specs.declared.names.VarKind.TheVariants as var_kinds
use Rattle.actions.specs.Names.{Names, names_of}
use Rattle.c_subset.specs.declared.trees.Width.TheVariants.{W8, W16, W32, W64, W128}
use Rattle.c_subset.specs.declared.trees.CType.{CType}
use Rattle.c_subset.specs.declared.trees.CType.TheVariants.{Signed, Unsigned, Truth}
use Rattle.c_subset.specs.Running.{same_type}
use Rattle.c_functions.specs.Claims.{field_type}
use Rattle.c_functions.specs.Layout.{or_count}
use Rattle.c_names.specs.Stems.{name_of_chart}
use Rattle.c_text.specs.declared.kinds.Kind.{Kind}
use Rattle.c_text.specs.declared.kinds.Kind.TheVariants.{Procedure, Home, Noted, Floor, Outside}
use Rattle.c_text.specs.declared.labels.Labels.{Labels as LabelsAt}

-- what names are made of: the chart's name, what it declares, how many ORs there are, how many words of bits, and how
-- many procedures
pub record Labels : Type 0 where
  pub chart : List ℕ
  pub names : Names
  pub ors : ℕ
  pub words : ℕ
  pub procs : ℕ

-- those of a chart of that name with that tree
abbrev pub labels_for : List ℕ → Names → Tree → ℕ → Labels
labels_for chart names t procs =
    record { chart = chart; names = names; ors = or_count t; words = (state_count t + 31) / 32; procs = procs }

-- those that the program has
abbrev pub labels_of : LabelsAt → Labels
labels_of l = record {
  chart = l.chart.now;
  names = names_of l.names.now;
  ors = l.ors;
  words = l.words;
  procs = l.procs;
}

-- a word with each number below the count after it
abbrev pub numbered_labels : List ℕ → ℕ → List (List ℕ)
numbered_labels word count = map (λ k. word ++ decimal k) (range_with_len 0 count)

-- ---- fields and arrays

-- what stands before the name of a datum
abbrev pub kind_word : VarKind → List ℕ
kind_word var_kinds.Input = codes "in_"
kind_word var_kinds.Output = codes "out_"
kind_word var_kinds.Local = codes "loc_"

-- the name of a datum's field
abbrev pub datum_label : Var → List ℕ
datum_label v = kind_word v.kind ++ v.name

-- the fields between those of data and those of states
abbrev pub counter_labels : List (List ℕ)
counter_labels =
    codes "used" ∷ codes "outs" ∷ codes "noted" ∷ codes "fault" ∷ codes "fault_datum" ∷ codes "ready" ∷ []

-- the fields of states: of each OR the active child and the one that it remembers, and words of bits
abbrev pub state_labels : Labels → List (List ℕ)
state_labels L =
    numbered_labels (codes "child_") L.ors
    ++ (numbered_labels (codes "last_") L.ors ++ numbered_labels (codes "flags_") L.words)

-- the names of all fields, in their order
unfoldable pub field_labels : Labels → List (List ℕ)
field_labels L = map datum_label L.names.vars ++ (counter_labels ++ state_labels L)

-- the name of a field, empty where there is none
unfoldable pub field_label : Labels → ℕ → List ℕ
field_label L f = slice_index_or (field_labels L) f []

-- the types of all fields, in the same order
unfoldable pub field_types : Labels → List CType
field_types L =
    map (λ (v : Var). field_type v.sort) L.names.vars
    ++ (replicate 6 (Unsigned W32)
    ++ (replicate (L.ors + L.ors) (Unsigned W16) ++ replicate L.words (Unsigned W32)))

-- the type of a field
unfoldable pub type_of_field : Labels → ℕ → CType
type_of_field L f = slice_index_or (field_types L) f (Unsigned W32)

-- the names of the arrays, in their order
abbrev pub row_labels : List (List ℕ)
row_labels = codes "out" ∷ codes "note" ∷ []

-- the name of an array, empty where there is none
unfoldable pub row_label : ℕ → List ℕ
row_label a = slice_index_or row_labels a []

-- ---- functions

-- the functions after those of procedures
abbrev pub other_kinds : List Kind
other_kinds =
    Home ∷ Home ∷ Noted ∷ Floor W8 ∷ Floor W16 ∷ Floor W32 ∷ Floor W64 ∷ Floor W128 ∷ Outside
    ∷ Outside ∷ Outside ∷ []

-- what a function is for, by its number
unfoldable pub function_kind : Labels → ℕ → Kind
function_kind L f = if nat_lt f L.procs then Procedure else slice_index_or other_kinds (f - L.procs) Outside

-- the words of the functions after those of procedures
abbrev pub other_words : List (List ℕ)
other_words =
    codes "is_on" ∷ codes "is_bare" ∷ codes "noted" ∷ codes "div8" ∷ codes "div16" ∷ codes "div32" ∷ codes "div64"
    ∷ codes "div128" ∷ codes "init" ∷ codes "start" ∷ codes "react" ∷ []

-- the words of all functions, in their order
abbrev pub function_words : ℕ → List (List ℕ)
function_words procs = numbered_labels (codes "p") procs ++ other_words

-- the names of all functions: the chart's name and a word
unfoldable pub function_labels : Labels → List (List ℕ)
function_labels L = map (name_of_chart L.chart) (function_words L.procs)

-- the name of a function, empty where there is none
unfoldable pub function_label : Labels → ℕ → List ℕ
function_label L f = slice_index_or (function_labels L) f []

-- a function has the struct as its first argument, but for those that divide
abbrev pub takes_struct : Kind → Bool
takes_struct Procedure = true
takes_struct Home = true
takes_struct Noted = true
takes_struct (Floor w) = false
takes_struct Outside = true

-- ---- locals

-- what stands before the number of a local
abbrev pub type_short : CType → List ℕ
type_short (Signed W8) = codes "i8_"
type_short (Signed W16) = codes "i16_"
type_short (Signed W32) = codes "i32_"
type_short (Signed W64) = codes "i64_"
type_short (Signed W128) = codes "i128_"
type_short (Unsigned W8) = codes "u8_"
type_short (Unsigned W16) = codes "u16_"
type_short (Unsigned W32) = codes "u32_"
type_short (Unsigned W64) = codes "u64_"
type_short (Unsigned W128) = codes "u128_"
type_short Truth = codes "b_"

-- the names of the first words of procedures, and of what is called from outside
abbrev pub word_labels : List (List ℕ)
word_labels =
    codes "event" ∷ codes "depth" ∷ codes "base" ∷ codes "home" ∷ codes "result" ∷ codes "cursor" ∷ []

-- those of the function that calls noted procedures, by the number of one
abbrev pub noted_labels : List (List ℕ)
noted_labels =
    codes "event" ∷ codes "depth" ∷ codes "base" ∷ codes "home" ∷ codes "result" ∷ codes "note" ∷ []

-- the names of the first locals of that type
abbrev pub first_labels : Kind → CType → List (List ℕ)
first_labels Procedure t = if same_type t (Unsigned W32) then word_labels else []
first_labels Home t = if same_type t (Unsigned W32) then codes "state" ∷ [] else []
first_labels Noted t = if same_type t (Unsigned W32) then noted_labels else []
first_labels (Floor w) t = if same_type t (Signed w) then codes "a" ∷ codes "b" ∷ [] else []
first_labels Outside t = if same_type t (Unsigned W32) then word_labels else []

-- the name of a local: that of one of the first, else its type and its number
unfoldable pub local_label : Kind → CType → ℕ → List ℕ
local_label kind t k = slice_index_or (first_labels kind t) k (type_short t ++ decimal k)
