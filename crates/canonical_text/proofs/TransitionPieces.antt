-- The pieces of statements, transitions and declarations stay apart.
-- `on_x` says that the pieces of x stay apart, and from the pieces after them, where these stay apart after x.
use Rattle.std.proofs.Common.{◌≡◌, Bool, true, false, List, [], ◌∷◌, ◌++◌, Option, Some, None, refl, append_assoc, cond}
use Rattle.token_grammar.specs.declared.token.Kind.TheVariants as kinds
use Rattle.chart_tree.specs.declared.name.NameText.{NameText}
use Rattle.chart_tree.specs.declared.sort.InitText.{InitText}
use Rattle.chart_tree.specs.declared.sort.InitText.TheVariants as inits
use Rattle.chart_tree.specs.declared.chart.EventText.{EventText}
use Rattle.chart_tree.specs.declared.chart.EventWord.{EventWord}
use Rattle.chart_tree.specs.declared.chart.EventWord.TheVariants as event_words
use Rattle.chart_tree.specs.declared.chart.VarWord.{VarWord}
use Rattle.chart_tree.specs.declared.chart.VarWord.TheVariants as var_words
use Rattle.chart_tree.specs.Trees.{Sort, Var, Path, Stmt, Assign, Send, Emit, Dest, ToState, ToJunction, Guard, Trans}
use Rattle.chart_print.specs.Pieces.{Piece, key, space}
use Rattle.chart_print.specs.Transitions.{target_pieces, stmt_pieces, block_stmt_pieces, block_pieces, unless_empty}
use Rattle.chart_print.specs.Transitions.{trigger_pieces, guard_pieces, condition_pieces, action_pieces, dest_pieces}
use Rattle.chart_print.specs.Transitions.{arrow_pieces, trans_pieces}
use Rattle.chart_print.specs.Declarations.{event_kind, event_pieces, sign_pieces, value_pieces, is_missing_init}
use Rattle.chart_print.specs.Declarations.{init_pieces, var_kind, typed_pieces, var_pieces}
use Rattle.canonical_text.specs.Terms.{IfThere, IsNamed, IsPath, IsExpr, IsStmt, IsBlock, IsDest, IsTrans, IsInit}
use Rattle.canonical_text.specs.Terms.{IsVar}
use Rattle.canonical_text.specs.Claims.{NumberClaims}
use Rattle.canonical_text.proofs.Seams.{Seam, AfterBlank, AfterWord, AfterSymbol, AfterToken, fits, Apart, loosen}
use Rattle.canonical_text.proofs.Seams.{on_key, on_space, on_each}
use Rattle.canonical_text.proofs.ExpressionPieces.{on_name, on_path, on_literal, on_flag, on_sort, on_expr}

-- ---- statements

on_semicolon : (s : Seam) (rest : List Piece) → fits s kinds.Semicolon ≡ true → Apart AfterSymbol rest
    → Apart s (key kinds.Semicolon ++ rest)
on_semicolon s rest fit h = on_key kinds.Semicolon s rest refl fit h

on_target : (to : Option Path) (rest : List Piece) → IfThere IsPath to → Apart AfterWord rest
    → Apart AfterWord (target_pieces to ++ rest)
unfolding target_pieces
on_target None rest has h = h
on_target (Some path) rest has h =
    simp append_assoc
    (on_space AfterWord _
    (on_key kinds.To AfterBlank _ refl refl (on_space AfterWord _ (on_path path AfterBlank rest has refl h))))

on_stmt : NumberClaims → (stmt : Stmt) (rest : List Piece) → IsStmt stmt → Apart AfterSymbol rest
    → Apart AfterBlank (stmt_pieces stmt ++ rest)
unfolding stmt_pieces
on_stmt claims (Assign name value) rest has h =
    simp append_assoc
    (on_name name AfterBlank _ has.0 refl
    (on_space AfterWord _ (on_key kinds.Assign AfterBlank _ refl refl (on_space AfterSymbol _
    (loosen AfterSymbol _ (on_expr claims value _ has.1.terms (on_semicolon AfterToken rest refl h)))))))
on_stmt claims (Send name to) rest has h =
    simp append_assoc
    (on_key kinds.Send AfterBlank _ refl refl (on_space AfterWord _ (on_name name AfterBlank _ has.0 refl
    (on_target to _ has.1 (on_semicolon AfterWord rest refl h)))))
on_stmt claims (Emit name) rest has h =
    simp append_assoc
    (on_key kinds.Emit AfterBlank _ refl refl (on_space AfterWord _ (on_name name AfterBlank _ has refl
    (on_semicolon AfterWord rest refl h))))

on_block_stmt : NumberClaims → (stmt : Stmt) → IsStmt stmt → (rest : List Piece) → Apart AfterSymbol rest
    → Apart AfterSymbol (block_stmt_pieces stmt ++ rest)
unfolding block_stmt_pieces
on_block_stmt claims stmt has rest h = simp append_assoc (on_space AfterSymbol _ (on_stmt claims stmt rest has h))

pub on_block : NumberClaims → (stmts : List Stmt) (rest : List Piece) → IsBlock stmts → Apart AfterSymbol rest
    → Apart AfterBlank (block_pieces stmts ++ rest)
unfolding block_pieces
on_block claims stmts rest has h =
    simp append_assoc (on_key kinds.OpenBrace AfterBlank _ refl refl
    (on_each block_stmt_pieces IsStmt AfterSymbol stmts _ (on_block_stmt claims) has.each
    (on_space AfterSymbol _ (on_key kinds.CloseBrace AfterBlank rest refl refl h))))

-- what belongs to a block
pub on_unless : (stmts : List Stmt) (s : Seam) (pieces rest : List Piece) → Apart s (pieces ++ rest) → Apart s rest
    → Apart s (unless_empty stmts pieces ++ rest)
on_unless [] s pieces rest some none = none
on_unless (stmt ∷ stmts) s pieces rest some none = some

-- ---- transitions

on_trigger : (event : Option NameText) (rest : List Piece) → IfThere IsNamed event → Apart AfterBlank rest
    → Apart AfterBlank (trigger_pieces event ++ rest)
unfolding trigger_pieces
on_trigger None rest has h = h
on_trigger (Some name) rest has h = simp append_assoc (on_name name AfterBlank _ has refl (on_space AfterWord rest h))

on_guard : NumberClaims → (guard : Option Guard) (rest : List Piece) → IfThere (λ (g : Guard). IsExpr g.expr) guard
    → Apart AfterBlank rest
    → Apart AfterBlank (guard_pieces guard ++ rest)
unfolding guard_pieces
on_guard claims None rest has h = h
on_guard claims (Some guard) rest has h =
    simp append_assoc (on_key kinds.OpenBracket AfterBlank _ refl refl (on_expr claims guard.expr _ has.terms
    (on_key kinds.CloseBracket AfterToken _ refl refl (on_space AfterSymbol rest h))))

on_condition : NumberClaims → (stmts : List Stmt) (rest : List Piece) → IsBlock stmts → Apart AfterBlank rest
    → Apart AfterBlank (condition_pieces stmts ++ rest)
unfolding condition_pieces
on_condition claims stmts rest has h =
    on_unless stmts AfterBlank _ rest (simp append_assoc (on_block claims stmts _ has (on_space AfterSymbol rest h))) h

on_action : NumberClaims → (stmts : List Stmt) (rest : List Piece) → IsBlock stmts → Apart AfterBlank rest
    → Apart AfterBlank (action_pieces stmts ++ rest)
unfolding action_pieces
on_action claims stmts rest has h =
    on_unless stmts AfterBlank _ rest
    (simp append_assoc
    (on_key kinds.Slash AfterBlank _ refl refl
    (on_space AfterSymbol _ (on_block claims stmts _ has (on_space AfterSymbol rest h))))) h

on_dest : (dest : Dest) (rest : List Piece) → IsDest dest → Apart AfterWord rest
    → Apart AfterBlank (dest_pieces dest ++ rest)
unfolding dest_pieces
on_dest (ToState path) rest has h = on_path path AfterBlank rest has refl h
on_dest (ToJunction name) rest has h =
    simp append_assoc (on_key kinds.At AfterBlank _ refl refl (on_name name AfterSymbol rest has refl h))

on_arrow : (dest : Dest) (rest : List Piece) → IsDest dest → Apart AfterSymbol rest
    → Apart AfterBlank (arrow_pieces dest ++ rest)
unfolding arrow_pieces
on_arrow dest rest has h =
    simp append_assoc
    (on_key kinds.Arrow AfterBlank _ refl refl
    (on_space AfterSymbol _ (on_dest dest _ has (on_semicolon AfterWord rest refl h))))

pub on_trans : NumberClaims → (trans : Trans) (rest : List Piece) → IsTrans trans → Apart AfterSymbol rest
    → Apart AfterBlank (trans_pieces trans ++ rest)
unfolding trans_pieces
on_trans claims trans rest has h =
    simp append_assoc
    (on_trigger trans.event _ has.event
    (on_guard claims trans.guard _ has.guard (on_condition claims trans.cond _ has.cond
    (on_action claims trans.act _ has.act (on_arrow trans.dest rest has.dest h)))))

-- ---- declarations

on_event_kind : (word : EventWord) (rest : List Piece) → Apart AfterWord rest
    → Apart AfterBlank (key (event_kind word) ++ rest)
on_event_kind event_words.Input rest h = on_key kinds.Input AfterBlank rest refl refl h
on_event_kind event_words.Local rest h = on_key kinds.Local AfterBlank rest refl refl h
on_event_kind event_words.Output rest h = on_key kinds.Output AfterBlank rest refl refl h

pub on_event : (event : EventText) (rest : List Piece) → IsNamed event.name → Apart AfterSymbol rest
    → Apart AfterBlank (event_pieces event ++ rest)
unfolding event_pieces
on_event event rest has h =
    simp append_assoc
    (on_key kinds.Event AfterBlank _ refl refl
    (on_space AfterWord _ (on_event_kind event.kind _ (on_space AfterWord _
    (on_name event.name AfterBlank _ has refl (on_semicolon AfterWord rest refl h))))))

on_sign : (negative : Bool) (rest : List Piece) → Apart AfterSymbol rest
    → Apart AfterBlank (sign_pieces negative ++ rest)
unfolding sign_pieces
on_sign true rest h = on_key kinds.Minus AfterBlank rest refl refl h
on_sign false rest h = loosen AfterSymbol rest h

on_value : NumberClaims → (init : InitText) (rest : List Piece) → IsInit init → Apart AfterWord rest
    → Apart AfterBlank (value_pieces init ++ rest)
unfolding value_pieces
on_value claims (inits.Number negative lit at) rest has h =
    simp append_assoc (on_sign negative _ (on_literal claims lit AfterSymbol rest has.literal refl h))
on_value claims (inits.Flag value at) rest has h = on_flag value AfterBlank rest refl refl h

on_init : NumberClaims → (sort : Sort) (init : InitText) (rest : List Piece) → IsInit init → Apart AfterWord rest
    → Apart AfterWord (init_pieces sort init ++ rest)
unfolding init_pieces
on_init claims sort init rest has h = given (is_missing_init sort init)
  where
    some : List Piece
    some = space ++ key kinds.Assign ++ space ++ value_pieces init

    given : (missing : Bool) → Apart AfterWord (cond missing [] some ++ rest)
    given true = h
    given false =
        simp append_assoc
        (on_space AfterWord _
        (on_key kinds.Assign AfterBlank _ refl refl (on_space AfterSymbol _ (on_value claims init rest has h))))

on_var_kind : (word : VarWord) (rest : List Piece) → Apart AfterWord rest
    → Apart AfterBlank (key (var_kind word) ++ rest)
on_var_kind var_words.Input rest h = on_key kinds.Input AfterBlank rest refl refl h
on_var_kind var_words.Output rest h = on_key kinds.Output AfterBlank rest refl refl h
on_var_kind var_words.Local rest h = on_key kinds.Local AfterBlank rest refl refl h

pub on_var : NumberClaims → (var : Var) (rest : List Piece) → IsVar var → Apart AfterSymbol rest
    → Apart AfterBlank (var_pieces var ++ rest)
unfolding var_pieces typed_pieces
on_var claims var rest has h =
    simp append_assoc
    (on_var_kind var.kind _ (on_space AfterWord _ (on_name var.name AfterBlank _ has.name refl (on_space AfterWord _
    (on_key kinds.Colon AfterBlank _ refl refl (on_space AfterSymbol _ (on_sort claims var.sort _ has.sort
    (on_init claims var.sort var.init _ has.init (on_semicolon AfterWord rest refl h)))))))))
