-- The words of one item of a state or a chart spell it where it may stand.
-- `x_spelled` says that the canonical words of x spell it.
use Rattle.std.proofs.Common.{◌≡◌, ℕ, Bool, true, List, ◌∷◌, ◌++◌, refl, ap, sym, ◌∙◌, arith}
use Rattle.token_grammar.specs.declared.token.Kind.{Kind}
use Rattle.token_grammar.specs.declared.token.Kind.TheVariants as kinds
use Rattle.token_grammar.specs.Grammar.{Grammar}
use Rattle.chart_tree.specs.Trees.{Stmt, Trans, Junction, Var}
use Rattle.chart_tree.specs.declared.chart.EventText.{EventText}
use Rattle.chart_grammar.specs.Limits.{Counts, Counted, usual, after_event, after_variable}
use Rattle.chart_grammar.specs.Transitions.{after_stmts}
use Rattle.chart_grammar.specs.States.{Item, History, JunctionItem, EventItem, VarItem, counted_as, action_item}
use Rattle.chart_grammar.specs.States.{history_item, trans_item, junction_item, event_item, variable_item, unexpected}
use Rattle.chart_grammar.specs.States.{beginning}
use Rattle.chart_print.specs.Pieces.{Piece, kind_bytes}
use Rattle.chart_print.specs.Transitions.{block_pieces, trans_pieces}
use Rattle.chart_print.specs.Declarations.{event_pieces, var_pieces}
use Rattle.chart_print.specs.Canonical.{junction_pieces}
use Rattle.chart_print.specs.Places.{nowhere, unplaced_block, unplaced_trans, unplaced_junction, unplaced_event}
use Rattle.chart_print.specs.Places.{unplaced_var}
use Rattle.canonical_text.specs.Words.{Word, words_in, WordsSpell}
use Rattle.canonical_text.specs.Sizes.{◌⊕◌, size_of_block, size_of_trans, size_of_junction, IsWithin}
use Rattle.canonical_text.specs.Terms.{IsNamed, IsBlock, IsTrans, IsJunction, IsVar}
use Rattle.canonical_text.specs.Claims.{TransitionClaims, counted, behind}
use Rattle.canonical_text.proofs.Words.{words_in-append, keyword}
use Rattle.canonical_text.proofs.Counts.{same_length, same_counts}
use Rattle.canonical_text.proofs.Spelled.{spell_give, spell_token, spell_then, spell_tested, spell_as, spell_made}
use Rattle.canonical_text.proofs.Keywords.{spell_word}
use Rattle.canonical_text.proofs.ItemLists.{unplaced_item}
use Rattle.canonical_text.proofs.PartsSpelled.{keyed, history_words}

-- ---- in general

-- words that begin with a keyword
pub record Leads (k : Kind) (w : List Word) : Type 0 where
  pub rest : List Word
  pub is : w ≡ keyword k ∷ rest

-- more words after them change no first word
pub leads_more : (k : Kind) (a b : List Piece) → Leads k (words_in a) → Leads k (words_in (a ++ b))
leads_more k a b l =
    record { rest = l.rest ++ words_in b; is = words_in-append a b ∙ ap (λ (w : List Word). w ++ words_in b) l.is }

-- a keyword leads its words
pub keyed_leads : (k : Kind) (pieces : List Piece) → Leads k (keyed k pieces)
keyed_leads k pieces = record { rest = words_in pieces; is = refl }

-- an item where it may stand
pub spell_beginning : {X Y : Type 0} {g : Grammar X} {view : X → Y} {y : Y} (set : Kind → Bool) (k : Kind)
    (w : List Word) → Leads k w → set k ≡ true
    → WordsSpell g view w y → WordsSpell (beginning set g) view w y
spell_beginning set k w l there p =
    spell_as l.is
    (spell_tested (λ j. true) (unexpected set) k (kind_bytes k) (λ t kind _. rw (kind, there) refl)
    (spell_as (sym l.is) p))

-- ---- items

-- the word `history`
pub history_item_spelled : (n : Counts)
    → WordsSpell (history_item n) (counted unplaced_item) history_words (behind (History nowhere) n)
unfolding history_item
history_item_spelled n =
    spell_then (spell_token kinds.History (kind_bytes kinds.History)) (λ t e.
    spell_word kinds.Semicolon (spell_give _ refl))

-- it leads its words
pub history_leads : Leads kinds.History history_words
history_leads = record { rest = _; is = refl }

module _ (t : TransitionClaims) where
  -- a keyword and a block
  pub action_item_spelled : (k : Kind) (item : List Stmt → Item)
      → ((b : List Stmt) → unplaced_item (item b) ≡ item (unplaced_block b))
      → (n : Counts) (b : List Stmt) → IsBlock b → IsWithin (n ⊕ size_of_block b)
      → WordsSpell (action_item usual k item n) (counted unplaced_item) (keyed k (block_pieces b))
      (behind (item (unplaced_block b)) (n ⊕ size_of_block b))
  unfolding action_item
  action_item_spelled k item unplaced n b h within = spell_word k (spell_made (t.block_spelled n b h within) looks)
    where
      looks : (found : List Stmt) → unplaced_block found ≡ unplaced_block b
          → counted unplaced_item (record { value = item found; counts = after_stmts n found }) ≡ behind
          (item (unplaced_block b)) (n ⊕ size_of_block b)
      looks found e =
          let long = same_length found b e in
          let counts : after_stmts n found ≡ n ⊕ size_of_block b = same_counts _ _ (omega arith) in
          rw (unplaced found, e, counts) refl

  -- a keyword and a transition
  pub trans_item_spelled : (k : Kind) (item : Trans → Item)
      → ((x : Trans) → unplaced_item (item x) ≡ item (unplaced_trans x))
      → (n : Counts) (x : Trans) → IsTrans x → IsWithin (n ⊕ size_of_trans x)
      → WordsSpell (trans_item usual k item n) (counted unplaced_item) (keyed k (trans_pieces x))
      (behind (item (unplaced_trans x)) (n ⊕ size_of_trans x))
  unfolding trans_item
  trans_item_spelled k item unplaced n x h within = spell_made (t.trans_spelled k n x h within) looks
    where
      looks : (found : Counted Trans) → counted unplaced_trans found ≡ behind (unplaced_trans x) (n ⊕ size_of_trans x)
          → counted unplaced_item (counted_as item found) ≡ behind (item (unplaced_trans x)) (n ⊕ size_of_trans x)
      looks found e = rw (unplaced found.value) (ap (λ (y : Counted Trans). counted_as item y) e)

  pub junction_item_spelled : (level : ℕ) (n : Counts) (x : Junction) → IsJunction x → IsWithin (n ⊕ size_of_junction x)
      → WordsSpell (junction_item usual n) (counted unplaced_item) (words_in (junction_pieces level x))
      (behind (JunctionItem (unplaced_junction x)) (n ⊕ size_of_junction x))
  unfolding junction_item
  junction_item_spelled level n x h within =
      spell_made (t.junction_spelled level n x h within)
      (λ found e. ap (λ (y : Counted Junction). counted_as JunctionItem y) e)

  pub event_item_spelled : (n : Counts) (x : EventText) → IsNamed x.name → IsWithin (after_event n)
      → WordsSpell (event_item usual n) (counted unplaced_item) (words_in (event_pieces x))
      (behind (EventItem (unplaced_event x)) (after_event n))
  unfolding event_item
  event_item_spelled n x h within =
      spell_made (t.event_spelled n x h within)
      (λ found e. ap (λ (y : EventText). behind (EventItem y) (after_event n)) e)

  pub variable_item_spelled : (n : Counts) (x : Var) → IsVar x → IsWithin (after_variable n)
      → WordsSpell (variable_item usual n) (counted unplaced_item) (words_in (var_pieces x))
      (behind (VarItem (unplaced_var x)) (after_variable n))
  unfolding variable_item
  variable_item_spelled n x h within =
      spell_made (t.variable_spelled n x h within)
      (λ found e. ap (λ (y : Var). behind (VarItem y) (after_variable n)) e)
