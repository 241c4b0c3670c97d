-- How a chart's name stands in names of C. Each name that the files of a chart give at file scope begins with it.
use Rattle.std.specs.Prelude.{ℕ, ◌==◌, ◌||◌, Bool, List, [], ◌∷◌, ◌++◌, nat_eq, bytes_eq, codes, chars, encode_utf8}
use Rattle.std.specs.Prelude.{if◌then◌else◌}
use Rattle.std.specs.List.{flat_map, list_any, starts_with}
use Rattle.c_names.specs.Reserved.{begins_reserved}

-- a letter of a name in C: two `_` for each
abbrev pub letter_text : ℕ → List ℕ
letter_text c = if c == 95 then codes "__" else encode_utf8 c

-- a name with each `_` doubled
unfoldable pub doubled : List ℕ → List ℕ
doubled name = flat_map letter_text (chars name)

-- names of charts that would be, with `_` and a word after them, a name of the library (7.15), begin as such a name
-- (7.26.5, 7.26.6, 7.6, 7.12), or be the field of a datum
abbrev pub taken_names : List (List ℕ)
taken_names =
    codes "va" ∷ codes "LC" ∷ codes "SIG" ∷ codes "FE" ∷ codes "FP" ∷ codes "in" ∷ codes "out" ∷ codes "loc" ∷ []

-- whether more stands before a chart's name: where it is one of these, begins as a name of the library, or looks as
-- though more stood before it
unfoldable pub is_taken : List ℕ → Bool
is_taken name = list_any (bytes_eq name) taken_names || (begins_reserved name || starts_with nat_eq name (codes "flow_"))

-- a chart's name in names of C, as though a chart `va` was called `flow_va`
unfoldable pub stem : List ℕ → List ℕ
stem chart = if is_taken chart then codes "flow__" ++ doubled chart else doubled chart

-- a name that the files of a chart give at file scope: the chart's, `_` and a word, which doesn't begin with `_`
unfoldable pub name_of_chart : List ℕ → List ℕ → List ℕ
name_of_chart chart word = stem chart ++ (95 ∷ word)

-- the name that the first lines of a chart's header define: all `_` in it are doubled, so that it is unlike all of these
unfoldable pub guard_of_chart : List ℕ → List ℕ
guard_of_chart chart = codes "FLOW__" ++ (stem chart ++ codes "__H")
