-- How states are named: in the names of C, and in comments.
use Rattle.std.specs.Prelude.{ℕ, ◌==◌, nat_lt, List, [], ◌∷◌, length, map, drop, reverse, slice_index_or, decimal, if◌then◌else◌}
use Rattle.std.specs.List.{join_with_byte}
use Rattle.active_config.specs.Tree.{Tree, ancestors}
use Rattle.actions.specs.Names.{Names}
use Rattle.c_names.specs.Stems.{doubled}
use Rattle.c_header.specs.declared.paths.Form.{Form}
use Rattle.c_header.specs.declared.paths.Form.TheVariants.{Words, Label}

-- the name of a state
abbrev pub state_name : Names → ℕ → List ℕ
state_name n s = slice_index_or n.states s []

-- what stands between two names: `/` in words, `_` in C
abbrev pub separator : Form → ℕ
separator Words = 47
separator Label = 95

-- a name of a path
abbrev pub part_text : Form → List ℕ → List ℕ
part_text Words name = name
part_text Label name = doubled name

-- the path of a state: the names of the states above it but the root, the highest first, and then its own
unfoldable pub path_text : Form → Tree → Names → ℕ → List ℕ
path_text form t n s =
    join_with_byte (separator form)
    (map (λ x. part_text form (state_name n x)) (drop 1 (reverse (s ∷ ancestors t s))))

-- how long a path is at most in a name of C
abbrev pub longest_path : ℕ
longest_path = 200

-- a state in a name of C: its path, and where that is too long its number, which begins with a digit, as no path does
unfoldable pub state_label : Tree → Names → ℕ → List ℕ
state_label t n s =
    if nat_lt longest_path (length (path_text Label t n s)) then decimal s else path_text Label t n s

-- a state in a comment: the root is the chart
abbrev pub place_text : List ℕ → Tree → Names → ℕ → List ℕ
place_text chart t n s = if s == 0 then chart else path_text Words t n s
