-- Declarations of events and data.
use Rattle.std.specs.Prelude.{◌==◌, Bool, true, false, not, ◌&&◌, if◌then◌else◌, List, [], ◌++◌, is_none}
use Rattle.token_grammar.specs.declared.token.Kind.{Kind}
use Rattle.token_grammar.specs.declared.token.Kind.TheVariants as kinds
use Rattle.chart_tree.specs.declared.name.NameText.{NameText}
use Rattle.chart_tree.specs.declared.name.LitText.{LitText}
use Rattle.chart_tree.specs.declared.sort.InitText.{InitText}
use Rattle.chart_tree.specs.declared.sort.InitText.TheVariants as inits
use Rattle.chart_tree.specs.declared.chart.EventText.{EventText}
use Rattle.chart_tree.specs.declared.chart.EventWord.{EventWord}
use Rattle.chart_tree.specs.declared.chart.EventWord.TheVariants as event_words
use Rattle.chart_tree.specs.declared.chart.VarWord.{VarWord}
use Rattle.chart_tree.specs.declared.chart.VarWord.TheVariants as var_words
use Rattle.chart_tree.specs.Trees.{Sort, FlagSort, NumberSort, Var}
use Rattle.chart_print.specs.Pieces.{Piece, key, space}
use Rattle.chart_print.specs.Words.{name_pieces, literal_pieces, sort_pieces}
use Rattle.chart_print.specs.Expressions.{flag_kind}

-- ---- events

-- the keyword of who raises an event
abbrev pub event_kind : EventWord → Kind
event_kind event_words.Input = kinds.Input
event_kind event_words.Local = kinds.Local
event_kind event_words.Output = kinds.Output

-- an event: 'event' ('input' | 'local' | 'output') NAME ';'
unfoldable pub event_pieces : EventText → List Piece
event_pieces event =
    key kinds.Event ++ space ++ key (event_kind event.kind) ++ space ++ name_pieces event.name
    ++ key kinds.Semicolon

-- ---- first values

-- the number 0, with no sign, no digits after the point and no `q`
abbrev pub is_plain_zero : Bool → LitText → Bool
is_plain_zero negative lit =
    not negative && (lit.units == 0 && (lit.places == 0 && is_none lit.q))

-- the first value that a datum of the sort has where none is written
abbrev pub is_missing_init : Sort → InitText → Bool
is_missing_init FlagSort (inits.Number negative lit at) = false
is_missing_init FlagSort (inits.Flag value at) = not value
is_missing_init (NumberSort scale mode) (inits.Number negative lit at) = is_plain_zero negative lit
is_missing_init (NumberSort scale mode) (inits.Flag value at) = false

-- a minus sign where there is one
unfoldable pub sign_pieces : Bool → List Piece
sign_pieces true = key kinds.Minus
sign_pieces false = []

-- a first value: '-'? NUMBER | 'true' | 'false'
unfoldable pub value_pieces : InitText → List Piece
value_pieces (inits.Number negative lit at) = sign_pieces negative ++ literal_pieces lit
value_pieces (inits.Flag value at) = key (flag_kind value)

-- '=' and a value, after a space, unless it is the first value that a datum has where none is written
unfoldable pub init_pieces : Sort → InitText → List Piece
init_pieces sort init =
    if is_missing_init sort init then []
    else space ++ key kinds.Assign ++ space ++ value_pieces init

-- ---- data

-- the keyword of who sets a datum
abbrev pub var_kind : VarWord → Kind
var_kind var_words.Input = kinds.Input
var_kind var_words.Output = kinds.Output
var_kind var_words.Local = kinds.Local

-- a name with its type: NAME ':' sort
unfoldable pub typed_pieces : NameText → Sort → List Piece
typed_pieces name sort = name_pieces name ++ space ++ key kinds.Colon ++ space ++ sort_pieces sort

-- a datum: ('input' | 'output' | 'local') NAME ':' sort ('=' value)? ';'
unfoldable pub var_pieces : Var → List Piece
var_pieces var =
    key (var_kind var.kind) ++ space ++ typed_pieces var.name var.sort
    ++ init_pieces var.sort var.init ++ key kinds.Semicolon
