-- A canonical text is cut into the words of its pieces.
-- `on_x` says that the pieces of x stay apart, and from the pieces after them, where these stay apart after x.
use Rattle.std.proofs.Common.{◌≡◌, ℕ, zero, suc, ◌+◌, true, List, [], ◌++◌, Option, Some, None, refl, append_assoc}
use Rattle.std.proofs.lemmas.List.{append-nil}
use Rattle.std.specs.List.{AllByRecursion, flat_map}
use Rattle.token_grammar.specs.declared.token.Kind.{Kind}
use Rattle.token_grammar.specs.declared.token.Kind.TheVariants as kinds
use Rattle.token_grammar.specs.declared.token.Span.{Span}
use Rattle.chart_tree.specs.declared.name.NameText.{NameText}
use Rattle.chart_tree.specs.declared.chart.EventText.{EventText}
use Rattle.chart_tree.specs.declared.state.CompText.{CompText}
use Rattle.chart_tree.specs.declared.state.CompText.TheVariants as comps
use Rattle.chart_tree.specs.Trees.{Stmt, Trans, Junction, Parts, State, StateOf, States, NoState, MoreStates, Var}
use Rattle.chart_tree.specs.Trees.{Chart}
use Rattle.chart_grammar.specs.Limits.{usual}
use Rattle.chart_print.specs.Pieces.{Piece}
use Rattle.chart_print.specs.Canonical.{action_line, history_line, trans_line, junction_trans_line, end_line}
use Rattle.chart_print.specs.Canonical.{comp_pieces, head_pieces, head_line, junction_pieces, actions_pieces}
use Rattle.chart_print.specs.Canonical.{transitions_pieces, parts_pieces, parts_in, states_in, state_pieces}
use Rattle.chart_print.specs.Canonical.{states_pieces, event_line, var_line, chart_pieces, canonical}
use Rattle.canonical_text.specs.Terms.{IsNamed, IsBlock, IsTrans, IsJunction, IsVar, IsParts, IsState, IsStates}
use Rattle.canonical_text.specs.Terms.{IsChart}
use Rattle.canonical_text.specs.Claims.{NumberClaims}
use Rattle.canonical_text.proofs.Seams.{AfterBlank, AfterWord, AfterSymbol, is_fixed, seam_of, Apart, on_key}
use Rattle.canonical_text.proofs.Seams.{on_space, on_newline, on_line, on_each}
use Rattle.canonical_text.proofs.ExpressionPieces.{on_name}
use Rattle.canonical_text.proofs.TransitionPieces.{on_block, on_unless, on_trans, on_event, on_var}
use Rattle.canonical_text.proofs.PiecesCut.{WordsAreCut, words_cut}

-- ---- lines

on_action_line : NumberClaims → (level : ℕ) (k : Kind) (stmts : List Stmt) (rest : List Piece) → is_fixed k ≡ true
    → IsBlock stmts
    → Apart AfterBlank rest → Apart AfterBlank (action_line level k stmts ++ rest)
unfolding action_line
on_action_line claims level k stmts rest fixed has h =
    on_unless stmts AfterBlank _ rest (on_line level _ rest (simp append_assoc
    (on_key k AfterBlank _ fixed refl
    (on_space (seam_of k) _ (on_block claims stmts _ has (on_newline AfterSymbol rest h)))))) h

on_history_line : (level : ℕ) (history : Option Span) (rest : List Piece) → Apart AfterBlank rest
    → Apart AfterBlank (history_line level history ++ rest)
unfolding history_line
on_history_line level None rest h = h
on_history_line level (Some at) rest h =
    on_line level _ rest (simp append_assoc
    (on_key kinds.History AfterBlank _ refl refl
    (on_key kinds.Semicolon AfterWord _ refl refl (on_newline AfterSymbol rest h))))

on_trans_line : NumberClaims → (level : ℕ) (k : Kind) → is_fixed k ≡ true → (trans : Trans) → IsTrans trans
    → (rest : List Piece)
    → Apart AfterBlank rest → Apart AfterBlank (trans_line level k trans ++ rest)
unfolding trans_line
on_trans_line claims level k fixed trans has rest h =
    on_line level _ rest (simp append_assoc
    (on_key k AfterBlank _ fixed refl
    (on_space (seam_of k) _ (on_trans claims trans _ has (on_newline AfterSymbol rest h)))))

on_junction_line : NumberClaims → (level : ℕ) (trans : Trans) → IsTrans trans → (rest : List Piece)
    → Apart AfterBlank rest
    → Apart AfterBlank (junction_trans_line level trans ++ rest)
unfolding junction_trans_line
on_junction_line claims level trans has rest h =
    on_line level _ rest (on_trans claims trans _ has (on_newline AfterSymbol rest h))

on_end : (level : ℕ) (rest : List Piece) → Apart AfterBlank rest → Apart AfterBlank (end_line level ++ rest)
unfolding end_line
on_end level rest h =
    on_line level _ rest (on_key kinds.CloseBrace AfterBlank _ refl refl (on_newline AfterSymbol rest h))

-- ---- junctions and states

on_comp : (comp : CompText) (rest : List Piece) → Apart AfterWord rest → Apart AfterWord (comp_pieces comp ++ rest)
unfolding comp_pieces
on_comp comps.None rest h = h
on_comp comps.Or rest h = simp append_assoc (on_space AfterWord _ (on_key kinds.Or AfterBlank rest refl refl h))
on_comp comps.And rest h = simp append_assoc (on_space AfterWord _ (on_key kinds.And AfterBlank rest refl refl h))

on_head : (level : ℕ) (k : Kind) (name : NameText) (comp : CompText) (rest : List Piece) → is_fixed k ≡ true
    → IsNamed name
    → Apart AfterBlank rest → Apart AfterBlank (head_line level k name comp ++ rest)
unfolding head_line head_pieces
on_head level k name comp rest fixed named h =
    on_line level _ rest
    (simp append_assoc
    (on_key k AfterBlank _ fixed refl (on_space (seam_of k) _ (on_name name AfterBlank _ named refl
    (on_comp comp _
    (on_space AfterWord _ (on_key kinds.OpenBrace AfterBlank _ refl refl (on_newline AfterSymbol rest h))))))))

on_junction : NumberClaims → (level : ℕ) (junction : Junction) → IsJunction junction → (rest : List Piece)
    → Apart AfterBlank rest
    → Apart AfterBlank (junction_pieces level junction ++ rest)
unfolding junction_pieces
on_junction claims level junction has rest h =
    simp append_assoc (on_head level kinds.Junction junction.name comps.None _ refl has.name
    (on_each (junction_trans_line (level + 1)) IsTrans AfterBlank junction.list _
    (on_junction_line claims (level + 1)) has.list (on_end level rest h)))

on_trans_lines : NumberClaims → (level : ℕ) (k : Kind) (list : List Trans) (rest : List Piece) → is_fixed k ≡ true
    → AllByRecursion IsTrans list
    → Apart AfterBlank rest → Apart AfterBlank (flat_map (trans_line level k) list ++ rest)
on_trans_lines claims level k list rest fixed has h =
    on_each (trans_line level k) IsTrans AfterBlank list rest (on_trans_line claims level k fixed) has h

on_parts : NumberClaims → (level : ℕ) (parts : Parts) (rest : List Piece) → IsParts parts → Apart AfterBlank rest
    → Apart AfterBlank (parts_pieces level parts ++ rest)
unfolding parts_pieces actions_pieces transitions_pieces
on_parts claims level parts rest has h =
    simp append_assoc
    (on_action_line claims level kinds.Entry parts.entry _ refl has.entry
    (on_action_line claims level kinds.During parts.during _ refl has.during
    (on_action_line claims level kinds.Exit parts.exit _ refl has.exit
    (on_history_line level parts.history _
    (on_trans_lines claims level kinds.Default parts.default _ refl has.default
    (on_trans_lines claims level kinds.Inner parts.inner _ refl has.inner
    (on_trans_lines claims level kinds.Outer parts.outer _ refl has.outer
    (on_each (junction_pieces level) IsJunction AfterBlank parts.junctions rest
    (on_junction claims level) has.junctions h))))))))

mutual
  unfolding state_pieces

  on_state : NumberClaims → (level deep : ℕ) (state : State) (rest : List Piece) → IsState deep state
      → Apart AfterBlank rest
      → Apart AfterBlank (state_pieces level state ++ rest)
  on_state claims level deep (StateOf parts states) rest has h =
      simp append_assoc (on_head level kinds.State parts.name parts.comp _ refl has.0.name
      (on_parts claims (level + 1) parts _ has.0
      (on_states claims (level + 1) deep states _ has.2 (on_end level rest h))))

  on_states : NumberClaims → (level deep : ℕ) (states : States) (rest : List Piece) → IsStates deep states
      → Apart AfterBlank rest
      → Apart AfterBlank (states_pieces level states ++ rest)
  on_states claims level deep NoState rest has h = h
  on_states claims level zero (MoreStates state others) rest has h = absurd has
  on_states claims level (suc deeper) (MoreStates state others) rest has h =
      simp append_assoc
      (on_state claims level deeper state _ has.0 (on_states claims level (suc deeper) others rest has.1 h))

-- ---- charts

on_event_line : (event : EventText) → IsNamed event.name → (rest : List Piece) → Apart AfterBlank rest
    → Apart AfterBlank (event_line event ++ rest)
unfolding event_line
on_event_line event has rest h = on_line 1 _ rest (on_event event _ has (on_newline AfterSymbol rest h))

on_var_line : NumberClaims → (var : Var) → IsVar var → (rest : List Piece) → Apart AfterBlank rest
    → Apart AfterBlank (var_line var ++ rest)
unfolding var_line
on_var_line claims var has rest h = on_line 1 _ rest (on_var claims var _ has (on_newline AfterSymbol rest h))

-- the pieces of a chart stay apart
pub on_chart : NumberClaims → (c : Chart) → IsChart c → Apart AfterBlank (chart_pieces c)
unfolding chart_pieces
on_chart claims c has =
    let last : Apart AfterBlank (end_line 0) = rw (append-nil (end_line 0)) at (on_end 0 [] tt) in
    simp append_assoc (on_head 0 kinds.Chart (parts_in c.root).name (parts_in c.root).comp _ refl has.parts.name
    (on_each event_line (λ (event : EventText). IsNamed event.name) AfterBlank c.events _ on_event_line has.events
    (on_each var_line IsVar AfterBlank c.vars _ (on_var_line claims) has.vars
    (on_parts claims 1 (parts_in c.root) _ has.parts
    (on_states claims 1 usual.depth (states_in c.root) (end_line 0) has.states last)))))

-- a canonical text is cut into the words of its pieces
pub words_are_cut : NumberClaims → (c : Chart) → IsChart c → WordsAreCut (canonical c) (chart_pieces c)
unfolding canonical
words_are_cut claims c has = words_cut (chart_pieces c) (on_chart claims c has)
