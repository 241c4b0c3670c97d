-- Statements, blocks and transitions. A missing part is left out with the space after it.
use Rattle.std.specs.Prelude.{List, [], ◌∷◌, ◌++◌, Option, Some, None}
use Rattle.std.specs.List.{flat_map}
use Rattle.token_grammar.specs.declared.token.Kind.TheVariants as kinds
use Rattle.chart_tree.specs.declared.name.NameText.{NameText}
use Rattle.chart_tree.specs.Trees.{Path, Stmt, Assign, Send, Emit, Dest, ToState, ToJunction, Guard, Trans}
use Rattle.chart_print.specs.Pieces.{Piece, key, space}
use Rattle.chart_print.specs.Words.{name_pieces, path_pieces}
use Rattle.chart_print.specs.Expressions.{expr_pieces}

-- ---- statements

-- the destination of a sent event, after a space: 'to' path
unfoldable pub target_pieces : Option Path → List Piece
target_pieces None = []
target_pieces (Some path) = space ++ key kinds.To ++ space ++ path_pieces path

-- a statement: NAME '=' expr ';' | 'send' NAME ('to' path)? ';' | 'emit' NAME ';'
unfoldable pub stmt_pieces : Stmt → List Piece
stmt_pieces (Assign name value) =
    name_pieces name ++ space ++ key kinds.Assign ++ space ++ expr_pieces value
    ++ key kinds.Semicolon
stmt_pieces (Send name to) =
    key kinds.Send ++ space ++ name_pieces name ++ target_pieces to ++ key kinds.Semicolon
stmt_pieces (Emit name) = key kinds.Emit ++ space ++ name_pieces name ++ key kinds.Semicolon

-- a statement of a block, after a space
unfoldable pub block_stmt_pieces : Stmt → List Piece
block_stmt_pieces stmt = space ++ stmt_pieces stmt

-- a block on one line: '{' stmt* '}'
unfoldable pub block_pieces : List Stmt → List Piece
block_pieces stmts =
    key kinds.OpenBrace ++ flat_map block_stmt_pieces stmts ++ space ++ key kinds.CloseBrace

-- these pieces, where the block isn't empty
abbrev pub unless_empty : List Stmt → List Piece → List Piece
unless_empty [] pieces = []
unless_empty (stmt ∷ stmts) pieces = pieces

-- ---- transitions

-- the event of a transition, with a space after it: NAME
unfoldable pub trigger_pieces : Option NameText → List Piece
trigger_pieces None = []
trigger_pieces (Some name) = name_pieces name ++ space

-- the guard, with a space after it: '[' expr ']'
unfoldable pub guard_pieces : Option Guard → List Piece
guard_pieces None = []
guard_pieces (Some guard) =
    key kinds.OpenBracket ++ expr_pieces guard.expr ++ key kinds.CloseBracket ++ space

-- the condition action, with a space after it, where it has a statement: block
unfoldable pub condition_pieces : List Stmt → List Piece
condition_pieces stmts = unless_empty stmts (block_pieces stmts ++ space)

-- the transition action, with a space after it, where it has a statement: '/' block
unfoldable pub action_pieces : List Stmt → List Piece
action_pieces stmts =
    unless_empty stmts (key kinds.Slash ++ space ++ block_pieces stmts ++ space)

-- where a transition leads: path | '@' NAME
unfoldable pub dest_pieces : Dest → List Piece
dest_pieces (ToState path) = path_pieces path
dest_pieces (ToJunction name) = key kinds.At ++ name_pieces name

-- the end of a transition: '->' dest ';'
unfoldable pub arrow_pieces : Dest → List Piece
arrow_pieces dest = key kinds.Arrow ++ space ++ dest_pieces dest ++ key kinds.Semicolon

-- a transition: NAME? ('[' expr ']')? block? ('/' block)? '->' dest ';'
unfoldable pub trans_pieces : Trans → List Piece
trans_pieces trans =
    trigger_pieces trans.event ++ guard_pieces trans.guard ++ condition_pieces trans.cond
    ++ action_pieces trans.act ++ arrow_pieces trans.dest
