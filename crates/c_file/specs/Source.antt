-- The text of a source: what is written of a file, and in which order.
use Rattle.std.specs.Prelude.{ℕ, ◌+◌, ◌-◌, ◌||◌, ◌&&◌, Bool, true, false, List, [], ◌∷◌, ◌++◌, length, codes}
use Rattle.std.specs.Prelude.{decimal, slice_get, slice_index_or}
use Rattle.std.specs.Option.{option_map_or}
use Rattle.flow_base.specs.declared.bounds.Bounds.{Bounds}
use Rattle.c_subset.specs.Trees.{Function}
use Rattle.c_subset.specs.Lines.{lines_of}
use Rattle.c_text.specs.Labels.{Labels}
use Rattle.c_text.specs.Functions.{prototype_text, function_text}
use Rattle.c_header.specs.Header.{named_text}
use Rattle.c_header.specs.Identity.{identity_text, sum_numbers}
use Rattle.c_header.specs.declared.identity.Identity.{Identity}
use Rattle.c_file.specs.Changing.{only_reads}
use Rattle.c_file.specs.Order.{declared_in}
use Rattle.c_file.specs.Reached.{is_written}
use Rattle.c_file.specs.Uses.{is_wide}

-- ---- what is written

-- one of the functions that are written, from number f on, names a type of 128 bits
abbrev pub any_wide : List Bool → ℕ → List Function → Bool
any_wide written f [] = false
any_wide written f (g ∷ gs) = (is_written written f && is_wide g) || any_wide written (f + 1) gs

-- ---- comments

-- what the functions after those of procedures do
abbrev pub other_comments : List (List ℕ)
other_comments =
    codes "whether a state is active" ∷ codes "whether a state is active and has no active child"
    ∷ codes "calls a noted action" ∷ codes "the greatest whole number that is at most a / b"
    ∷ codes "the greatest whole number that is at most a / b"
    ∷ codes "the greatest whole number that is at most a / b"
    ∷ codes "the greatest whole number that is at most a / b"
    ∷ codes "the greatest whole number that is at most a / b" ∷ codes "the first values of all data"
    ∷ codes "the start" ∷ codes "a reaction" ∷ []

-- what a function does: what is said of a procedure, and of one after those what it is
unfoldable pub comment_of : List (List ℕ) → ℕ → List ℕ
comment_of said f = slice_index_or said f (slice_index_or other_comments (f - length said) [])

-- a blank line, and the comment above a function
unfoldable pub comment_text : List (List ℕ) → ℕ → List ℕ
comment_text said f = codes "\n/* " ++ (comment_of said f ++ codes " */\n")

-- ---- the text

-- a comment that says what the file is, and the header of the chart
unfoldable pub opening_text : List ℕ → Identity → List ℕ
opening_text chart identity =
    identity_text chart identity
    ++ ((codes "   " ++ chart) ++ ((codes ".h says how it is used. */\n#include \"" ++ chart) ++ codes ".h\"\n\n"))

-- CHART_NAME == NUMBER, after other words
unfoldable pub number_is : List ℕ → List ℕ → List ℕ → ℕ → List ℕ
number_is front chart name number = named_text front chart name ++ decimal number

-- that the header has these bounds, and these numbers of outputs, notes and calls
unfoldable pub sizes_fit : List ℕ → Bounds → ℕ → ℕ → ℕ → List ℕ
sizes_fit chart bounds outputs notes calls =
    named_text (codes "/* C refuses this type where the header has another of these numbers. */\ntypedef char ") chart
    (codes "header_fits[((")
    ++ (number_is [] chart (codes "DEPTH == ") bounds.depth
    ++ (number_is (codes ")\n    && (") chart (codes "STEPS == ") bounds.steps
    ++ (number_is (codes ")\n    && (") chart (codes "OUTPUTS == ") outputs
    ++ (number_is (codes ")\n    && (") chart (codes "NOTES == ") notes
    ++ number_is (codes ")\n    && (") chart (codes "CALLS == ") calls))))

-- A type that C refuses where the header has other bounds, other numbers of outputs, notes or calls, or the sum of
-- another chart than the source: its size would be negative. So the struct of the header is that of the source.
unfoldable pub fits_text : List ℕ → Identity → Bounds → ℕ → ℕ → ℕ → List ℕ
fits_text chart identity bounds outputs notes calls =
    sizes_fit chart bounds outputs notes calls
    ++ (sum_numbers (codes ")\n    && (") (codes ")\n    && (") chart (codes " == ") identity.sum
    ++ codes ")) ? 1 : -1];\n")

-- the types of 128 bits, where one is named
abbrev pub wide_text : List ℕ → Bool → List ℕ
wide_text chart true =
    named_text (codes "\n__extension__ typedef __int128 ") chart (codes "int128;\n")
    ++ named_text (codes "__extension__ typedef unsigned __int128 ") chart (codes "uint128;\n")
wide_text chart false = []

-- the declaration of the function that has a number in the file; changing has a flag for each function, whether it may
-- change the struct
unfoldable pub declared_text : Labels → List Bool → List Function → ℕ → List ℕ
declared_text L changing functions f =
    option_map_or (λ (g : Function). prototype_text L f (only_reads changing f) g.result g.parameters)
    (slice_get functions f) []

-- those of functions with numbers
abbrev pub each_declared : Labels → List Bool → List Function → List ℕ → List ℕ
each_declared L changing functions [] = []
each_declared L changing functions (f ∷ fs) =
    declared_text L changing functions f ++ each_declared L changing functions fs

-- the same under a blank line, where there are any
abbrev pub declarations_text : Labels → List Bool → List Function → List ℕ → List ℕ
declarations_text L changing functions [] = []
declarations_text L changing functions (f ∷ fs) = 10 ∷ each_declared L changing functions (f ∷ fs)

-- a function under its comment
abbrev pub commented_text : Labels → List (List ℕ) → List Bool → ℕ → Function → List ℕ
commented_text L said changing f g =
    comment_text said f ++ function_text L f (only_reads changing f) g.result g.parameters (lines_of g.body)

-- the function that has a number in the file
unfoldable pub numbered_text : Labels → List (List ℕ) → List Bool → List Function → ℕ → List ℕ
numbered_text L said changing functions f =
    option_map_or (commented_text L said changing f) (slice_get functions f) []

-- functions with numbers
abbrev pub functions_text : Labels → List (List ℕ) → List Bool → List Function → List ℕ → List ℕ
functions_text L said changing functions [] = []
functions_text L said changing functions (f ∷ fs) =
    numbered_text L said changing functions f ++ functions_text L said changing functions fs

-- what stands before the functions, which are written in that order
abbrev pub front_text : Labels → Identity → Bounds → ℕ → ℕ → ℕ → List Function → List Bool → List Bool → List ℕ
    → List ℕ
front_text L identity bounds outputs notes calls functions written changing order =
    opening_text L.chart identity
    ++ (fits_text L.chart identity bounds outputs notes calls
    ++ (wide_text L.chart (any_wide written 0 functions)
    ++ declarations_text L changing functions (declared_in L functions order)))

-- the source of this making, of those of the functions that are written, in that order, of which those may change the
-- struct, for these bounds, a struct with room for so many outputs and notes, and a header that has this number of calls
unfoldable pub source_text : Labels → List (List ℕ) → Identity → Bounds → ℕ → ℕ → ℕ → List Function → List Bool
    → List Bool → List ℕ → List ℕ
source_text L said identity bounds outputs notes calls functions written changing order =
    front_text L identity bounds outputs notes calls functions written changing order
    ++ functions_text L said changing functions order
