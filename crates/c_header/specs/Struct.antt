-- That a text declares a struct: its fields and arrays, in their order, with their types and sizes.
use Rattle.std.specs.Prelude.{◌≡◌, ℕ, nat_eq, false, List, [], ◌∷◌, ◌++◌, length, map, codes, decimal}
use Rattle.std.specs.List.{AllByRecursion}
use Rattle.c_subset.specs.Trees.{Row}
use Rattle.c_subset.specs.declared.trees.CType.{CType}
use Rattle.c_subset.specs.Meaning.{CValue}
use Rattle.c_names.specs.Stems.{name_of_chart}
use Rattle.c_functions.specs.Plans.{Shape, word}
use Rattle.c_functions.specs.Starts.{first_values}
use Rattle.c_text.specs.Labels.{Labels, field_labels, row_labels}
use Rattle.c_text.specs.Types.{type_text}

-- the types of the fields of the struct of a file (c_functions/specs/Starts.antt: file_of)
abbrev pub struct_fields : Shape → List CType
struct_fields K = map (λ (x : CValue). x.type) (first_values K)

-- the types and sizes of its arrays
abbrev pub struct_rows : Shape → List Row
struct_rows K = record { type = word; size = K.outputs } ∷ record { type = word; size = K.notes } ∷ []

-- T DECLARATOR; /* COMMENT */
unfoldable pub member_text : List ℕ → CType → List ℕ → List ℕ → List ℕ
member_text chart t declarator comment =
    codes "    " ++ (type_text chart t ++ (32 ∷ (declarator ++ (codes "; /* " ++ (comment ++ codes " */\n")))))

-- fields of these types and names, with comments
abbrev pub members_text : List ℕ → List CType → List (List ℕ) → List (List ℕ) → List ℕ
members_text chart [] names comments = []
members_text chart (t ∷ ts) [] comments = []
members_text chart (t ∷ ts) (name ∷ names) [] = []
members_text chart (t ∷ ts) (name ∷ names) (comment ∷ comments) =
    member_text chart t name comment ++ members_text chart ts names comments

-- NAME[SIZE]
abbrev pub array_declarator : List ℕ → ℕ → List ℕ
array_declarator name size = name ++ (codes "[" ++ (decimal size ++ codes "]"))

-- arrays of these types, sizes and names, with comments
abbrev pub arrays_text : List ℕ → List Row → List (List ℕ) → List (List ℕ) → List ℕ
arrays_text chart [] names comments = []
arrays_text chart (row ∷ rows) [] comments = []
arrays_text chart (row ∷ rows) (name ∷ names) [] = []
arrays_text chart (row ∷ rows) (name ∷ names) (comment ∷ comments) =
    member_text chart row.type (array_declarator name row.size) comment ++ arrays_text chart rows names comments

-- any text
abbrev pub IsAny : List ℕ → Type 0
IsAny text = Unit {0}

-- no comment of C ends in a text
abbrev pub IsInside : List ℕ → Type 0
IsInside text = AllByRecursion (λ b. nat_eq b 42 ≡ false) text

-- The text declares a struct of these fields and arrays, with a name for each, and a comment of this kind: `IsInside`
-- where no comment of C ends in it
pub record DeclaresStruct (IsComment : List ℕ → Type 0) (L : Labels) (fields : List CType) (rows : List Row)
    (text : List ℕ) : Type 0 where
  pub comments : List (List ℕ)
  pub row_comments : List (List ℕ)
  pub names_size : length (field_labels L) ≡ length fields
  pub comments_size : length comments ≡ length fields
  pub row_names_size : length row_labels ≡ length rows
  pub row_comments_size : length row_comments ≡ length rows
  pub are_comments : AllByRecursion IsComment comments
  pub are_row_comments : AllByRecursion IsComment row_comments
  pub is_text : text ≡ codes "typedef struct {\n" ++ (members_text L.chart fields (field_labels L) comments
      ++ (arrays_text L.chart rows row_labels row_comments ++ (codes "} " ++ name_of_chart L.chart (codes "chart;\n\n"))))
