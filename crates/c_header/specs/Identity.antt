-- What both files of a chart say of their making: by which program, under which bounds, and of which chart.
use Rattle.std.specs.Prelude.{ℕ, ◌+◌, List, [], ◌∷◌, ◌++◌, codes, decimal, slice_index}
use Rattle.hex.specs.Hex.{encode_lower}
use Rattle.c_names.specs.Stems.{name_of_chart}
use Rattle.c_header.specs.declared.identity.Identity.{Identity}

-- the version of the program
abbrev pub version : List ℕ
version = codes "1.0.0"

-- how both files begin: the chart's name, the program, the bounds and the sum
unfoldable pub identity_text : List ℕ → Identity → List ℕ
identity_text chart identity =
    (codes "/* The C of the chart " ++ (chart ++ codes ", written by chart_to_c "))
    ++ (version
    ++ ((codes " with --depth " ++ decimal identity.bounds.depth)
    ++ ((codes " --steps " ++ decimal identity.bounds.steps)
    ++ (codes ". Do not edit.\n   The sum of the chart is "
    ++ (encode_lower identity.sum ++ codes ", the first 64 bits of the MD5 of its canonical text.\n")))))

-- 16 bits of the sum, the highest ones first: those at place k from 0 to 3
abbrev pub sum_part : List ℕ → ℕ → List ℕ
sum_part sum k = encode_lower (slice_index sum (k + k) ∷ slice_index sum (k + k + 1) ∷ [])

-- X_SUM_K of a chart X, and these bits, with words before and between
unfoldable pub sum_number : List ℕ → List ℕ → List ℕ → List ℕ → ℕ → List ℕ
sum_number front chart between sum k =
    (front ++ name_of_chart chart (codes "SUM_")) ++ (decimal k ++ ((between ++ codes "0x") ++ sum_part sum k))

-- all four, with words before the first and words before each other one
unfoldable pub sum_numbers : List ℕ → List ℕ → List ℕ → List ℕ → List ℕ → List ℕ
sum_numbers front next chart between sum =
    sum_number front chart between sum 0 ++ (sum_number next chart between sum 1
    ++ (sum_number next chart between sum 2 ++ sum_number next chart between sum 3))

-- the numbers in the header, which are those of the sum
unfoldable pub sums_text : List ℕ → Identity → List ℕ
sums_text chart identity =
    codes "\n/* The sum of the chart, by 16 bits: the source compares it. */\n"
    ++ (sum_numbers (codes "enum { ") (codes ", ") chart (codes " = ") identity.sum ++ codes " };\n\n")
