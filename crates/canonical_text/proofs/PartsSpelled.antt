-- The words of the canonical items of a state or a chart, from the actions to the child states.
-- `x_spelled` says that the canonical words of x spell it.
use Rattle.std.proofs.Common.{◌≡◌, ℕ, zero, suc, false, List, [], ◌∷◌, ◌++◌, map, append_assoc, append-nil, arith}
use Rattle.std.proofs.Common.{Option, Some, None, refl, ap, sym, ◌∙◌, subst}
use Rattle.std.specs.List.{AllByRecursion, flat_map}
use Rattle.token_grammar.specs.declared.token.Kind.{Kind}
use Rattle.token_grammar.specs.declared.token.Kind.TheVariants as kinds
use Rattle.token_grammar.specs.declared.token.Span.{Span}
use Rattle.chart_tree.specs.Trees.{Stmt, Trans, Junction, Parts, State, States, NoState, MoreStates}
use Rattle.chart_grammar.specs.Limits.{Counts}
use Rattle.chart_grammar.specs.States.{Item, Entry, During, Exit, History, Outer, Inner, Default, JunctionItem}
use Rattle.chart_grammar.specs.States.{StateItem, Seen, after_item, Sorted, no_items, put}
use Rattle.chart_print.specs.Pieces.{Piece, key, space, line}
use Rattle.chart_print.specs.Transitions.{block_pieces, trans_pieces}
use Rattle.chart_print.specs.Canonical.{action_line, history_line, trans_line, junction_pieces, actions_pieces}
use Rattle.chart_print.specs.Canonical.{transitions_pieces, parts_pieces, state_pieces, states_pieces}
use Rattle.chart_print.specs.Places.{nowhere, unplaced_block, unplaced_trans, unplaced_junction, unplaced_history}
use Rattle.chart_print.specs.Places.{unplaced_parts}
use Rattle.chart_print.specs.Places.{unplaced_state, unplaced_states}
use Rattle.canonical_text.specs.Words.{Word, words_in}
use Rattle.canonical_text.specs.Sizes.{◌⊕◌, sizes, size_of_block, size_of_trans, size_of_junction, size_of_parts}
use Rattle.canonical_text.specs.Sizes.{size_of_state, size_of_states, IsWithin}
use Rattle.canonical_text.specs.Terms.{IsBlock, IsTrans, IsJunction, IsStates, IsState}
use Rattle.canonical_text.specs.Claims.{behind}
use Rattle.canonical_text.proofs.Words.{words_line, words_in-append, keyword}
use Rattle.canonical_text.proofs.Counts.{same_counts, sum-none, within_front}
use Rattle.canonical_text.proofs.ItemLists.{Place, Tail, tail_end, tail_next, after_counts, ItemWords, Rest, segment}

-- ---- words of lines

-- a word of a keyword or a symbol in front of the words of pieces
abbrev pub keyed : Kind → List Piece → List Word
keyed k pieces = keyword k ∷ words_in pieces

-- a line that begins with a keyword
keyed_line : (level : ℕ) (k : Kind) (content : List Piece)
    → words_in (line level (key k ++ space ++ content)) ≡ keyed k content
unfolding key space
keyed_line level k content = words_line level _

-- the words of a transition's line
trans_line_words : (level : ℕ) (k : Kind) (t : Trans) → words_in (trans_line level k t) ≡ keyed k (trans_pieces t)
unfolding trans_line
trans_line_words level k t = keyed_line level k (trans_pieces t)

-- ---- an action in front

-- what is not empty has it
abbrev pub IfAny : (List Stmt → Type 0) → List Stmt → Type 0
IfAny has [] = Unit {0}
IfAny has (x ∷ xs) = has (x ∷ xs)

-- a block is one wherever there is one
pub any_block : (b : List Stmt) → IsBlock b → IfAny IsBlock b
any_block [] h = record {}
any_block (x ∷ xs) h = h

module _ (p : Place) (first seen : Seen → Type 0) (has : List Stmt → Type 0) (item : List Stmt → Item) (level : ℕ)
    (k : Kind)
    (fill : List Stmt → Sorted)
    (puts : (b : List Stmt) → put (item b) (fill []) ≡ fill b)
    (weaker : (z : Seen) → first z → seen z)
    (keeps : (z : Seen) (b : List Stmt) (n : Counts) → first z → seen (after_item z (behind (item b) n)))
    (reads : (z : Seen) → first z → (b : List Stmt) → has b → IsWithin (z.counts ⊕ size_of_block b)
    → ItemWords p z (keyed k (block_pieces b)) (item (unplaced_block b)) (z.counts ⊕ size_of_block b)) where
  -- the line of an action, or none, and what stands after it
  action : (b : List Stmt) → IfAny has b → (n : Counts) → IsWithin (n ⊕ size_of_block b) → (w : List Word) (m : Counts)
      → Rest p seen (n ⊕ size_of_block b) w (fill []) m
      → Rest p first n (words_in (action_line level k b) ++ w) (fill (unplaced_block b)) m
  unfolding action_line
  action [] h n within w m rest z q counts = rest z (weaker z q) (counts ∙ sym (sum-none n))
  action (x ∷ xs) h n within w m rest z q counts =
      let b : List Stmt = x ∷ xs in
      let room : IsWithin (z.counts ⊕ size_of_block b) = rw counts within in
      let y : Item = item (unplaced_block b) in
      let all : Counts = z.counts ⊕ size_of_block b in
      let behind_it : Seen = after_item z (behind y all) in
      let counted_so : behind_it.counts ≡ n ⊕ size_of_block b = after_counts z y all ∙ rw counts refl in
      rw (keyed_line level k (block_pieces b), ← puts (unplaced_block b))
      (tail_next p z (keyed k (block_pieces b)) w y all (fill []) m (reads z q b h room)
      (rest behind_it (keeps z (unplaced_block b) all q) counted_so))

-- ---- the word `history` in front

-- the words of its line
abbrev pub history_words : List Word
history_words = keyword kinds.History ∷ keyword kinds.Semicolon ∷ []

-- `history` wasn't seen
abbrev pub NoHistory : Seen → Type 0
NoHistory z = z.history ≡ false

-- whatever was seen
abbrev pub Anything : Seen → Type 0
Anything z = Unit {0}

history_line_words : (level : ℕ) (at : Span) → words_in (history_line level (Some at)) ≡ history_words
unfolding history_line key
history_line_words level at = words_line level _

module _ (p : Place) (level : ℕ) (fill : Option Span → Sorted)
    (puts : put (History nowhere) (fill None) ≡ fill (Some nowhere))
    (reads : (z : Seen) → NoHistory z → ItemWords p z history_words (History nowhere) z.counts) where
  -- the line of the word, or none, and what stands after it
  history_front : (history : Option Span) (n : Counts) (w : List Word) (m : Counts)
      → Rest p Anything n w (fill None) m
      → Rest p NoHistory n (words_in (history_line level history) ++ w) (fill (unplaced_history history)) m
  unfolding history_line
  history_front None n w m rest z q counts = rest z (tt {0}) counts
  history_front (Some at) n w m rest z q counts =
      rw (history_line_words level at, ← puts)
      (tail_next p z history_words w (History nowhere) z.counts (fill None) m (reads z q)
      (rest (after_item z (behind (History nowhere) z.counts)) (tt {0}) counts))

-- ---- child states as a list

-- states as a list
abbrev pub listed : States → List State
listed NoState = []
listed (MoreStates state others) = state ∷ listed others

-- and back
abbrev pub unlisted : List State → States
unlisted [] = NoState
unlisted (state ∷ others) = MoreStates state (unlisted others)

-- the list has the same view, words and size, and the states are nested as deep
listed_view : (states : States) → unlisted (map unplaced_state (listed states)) ≡ unplaced_states states
listed_view NoState = refl
listed_view (MoreStates state others) = ap (λ (s : States). MoreStates (unplaced_state state) s) (listed_view others)

-- they have the same pieces
listed_pieces : (level : ℕ) (states : States)
    → flat_map (state_pieces level) (listed states) ≡ states_pieces level states
unfolding states_pieces
listed_pieces level NoState = refl
listed_pieces level (MoreStates state others) =
    ap (λ (w : List Piece). state_pieces level state ++ w) (listed_pieces level others)

-- and the same sizes
pub listed_sizes : (states : States) → sizes size_of_state (listed states) ≡ size_of_states states
listed_sizes NoState = refl
listed_sizes (MoreStates state others) = ap (λ (n : Counts). size_of_state state ⊕ n) (listed_sizes others)

-- a state that may stand where `deep` levels are left
abbrev pub IsNested : ℕ → State → Type 0
IsNested zero state = ⊥
IsNested (suc deeper) state = IsState deeper state

-- and are nested as deep
pub listed_nested : (deep : ℕ) (states : States) → IsStates deep states → AllByRecursion (IsNested deep) (listed states)
listed_nested deep NoState h = record {}
listed_nested zero (MoreStates state others) h = absurd h
listed_nested (suc deeper) (MoreStates state others) h = (h.0, listed_nested (suc deeper) others h.1)

-- ---- all items but declarations

-- no action and no `history` has been seen; and all these are before the others
abbrev pub NoAction : Seen → Type 0
NoAction z = (z.entry ≡ false) × (z.during ≡ false) × (z.exit ≡ false) × NoHistory z

-- at most an entry action was seen
abbrev pub EntryAtMost : Seen → Type 0
EntryAtMost z = (z.during ≡ false) × (z.exit ≡ false) × NoHistory z

-- no exit action was seen
abbrev pub NoExit : Seen → Type 0
NoExit z = (z.exit ≡ false) × NoHistory z

-- what is spelled as an item of a place: exit actions and outer transitions are not everywhere, and child states are
-- these
pub record Readers (p : Place) (level : ℕ) (has_exit : List Stmt → Type 0) (has_outer : Trans → Type 0)
    (nested : State → Type 0) : Type 0 where
  pub entry : (z : Seen) → z.entry ≡ false → (b : List Stmt) → IsBlock b → IsWithin (z.counts ⊕ size_of_block b)
      → ItemWords p z (keyed kinds.Entry (block_pieces b)) (Entry (unplaced_block b)) (z.counts ⊕ size_of_block b)
  pub during : (z : Seen) → z.during ≡ false → (b : List Stmt) → IsBlock b → IsWithin (z.counts ⊕ size_of_block b)
      → ItemWords p z (keyed kinds.During (block_pieces b)) (During (unplaced_block b)) (z.counts ⊕ size_of_block b)
  pub exit : (z : Seen) → z.exit ≡ false → (b : List Stmt) → has_exit b → IsWithin (z.counts ⊕ size_of_block b)
      → ItemWords p z (keyed kinds.Exit (block_pieces b)) (Exit (unplaced_block b)) (z.counts ⊕ size_of_block b)
  pub history : (z : Seen) → NoHistory z → ItemWords p z history_words (History nowhere) z.counts
  pub default : (z : Seen) (t : Trans) → IsTrans t → IsWithin (z.counts ⊕ size_of_trans t)
      → ItemWords p z (keyed kinds.Default (trans_pieces t)) (Default (unplaced_trans t)) (z.counts ⊕ size_of_trans t)
  pub inner : (z : Seen) (t : Trans) → IsTrans t → IsWithin (z.counts ⊕ size_of_trans t)
      → ItemWords p z (keyed kinds.Inner (trans_pieces t)) (Inner (unplaced_trans t)) (z.counts ⊕ size_of_trans t)
  pub outer : (z : Seen) (t : Trans) → has_outer t → IsWithin (z.counts ⊕ size_of_trans t)
      → ItemWords p z (keyed kinds.Outer (trans_pieces t)) (Outer (unplaced_trans t)) (z.counts ⊕ size_of_trans t)
  pub junction : (z : Seen) (j : Junction) → IsJunction j → IsWithin (z.counts ⊕ size_of_junction j)
      → ItemWords p z (words_in (junction_pieces level j)) (JunctionItem (unplaced_junction j))
      (z.counts ⊕ size_of_junction j)
  pub state : (z : Seen) (s : State) → nested s → IsWithin (z.counts ⊕ size_of_state s)
      → ItemWords p z (words_in (state_pieces level s)) (StateItem (unplaced_state s)) (z.counts ⊕ size_of_state s)

-- what a state of these parts and states has
pub record HasItems (has_exit : List Stmt → Type 0) (has_outer : Trans → Type 0) (nested : State → Type 0)
    (parts : Parts) (children : States) : Type 0 where
  pub entry : IsBlock parts.entry
  pub during : IsBlock parts.during
  pub exit : IfAny has_exit parts.exit
  pub default : AllByRecursion IsTrans parts.default
  pub inner : AllByRecursion IsTrans parts.inner
  pub outer : AllByRecursion has_outer parts.outer
  pub junctions : AllByRecursion IsJunction parts.junctions
  pub states : AllByRecursion nested (listed children)

-- the counts after all of them, one kind after the other
abbrev pub behind_actions : Counts → Parts → Counts
behind_actions n parts = ((n ⊕ size_of_block parts.entry) ⊕ size_of_block parts.during) ⊕ size_of_block parts.exit

-- the counts after the transitions
abbrev pub behind_transitions : Counts → Parts → Counts
behind_transitions n parts =
    ((n ⊕ sizes size_of_trans parts.default) ⊕ sizes size_of_trans parts.inner) ⊕ sizes size_of_trans parts.outer

-- the counts after all items
abbrev pub behind_all : Counts → Parts → States → Counts
behind_all n parts states =
    (behind_transitions
    (behind_actions n parts) parts ⊕ sizes size_of_junction parts.junctions) ⊕ sizes size_of_state (listed states)

-- they are those before, and those of all the rest
pub behind_rest : (n : Counts) (parts : Parts) (states : States)
    → behind_all n parts states ≡ n ⊕ (size_of_parts parts ⊕ sizes size_of_state (listed states))
behind_rest n parts states = same_counts _ _ (omega arith)

module _ {p : Place} {level : ℕ} {has_exit : List Stmt → Type 0} {has_outer : Trans → Type 0} {nested : State → Type 0}
    (r : Readers p level has_exit has_outer nested) where
  -- the child states, and the end
  states_tail : (states : States) → AllByRecursion nested (listed states) → (n : Counts)
      → IsWithin (n ⊕ sizes size_of_state (listed states))
      → Rest p Anything n (words_in (states_pieces level states))
      (record (no_items p.name p.comp) { states = unplaced_states states })
      (n ⊕ sizes size_of_state (listed states))
  states_tail states all n within =
      let m : Counts = n ⊕ sizes size_of_state (listed states) in
      let end : Rest p Anything m [] (no_items p.name p.comp) m =
      λ z q e. subst (λ (k : Counts). Tail p z [] (no_items p.name p.comp) k) e (tail_end p z) in
      let front =
      segment p Anything nested (state_pieces level) size_of_state unplaced_state StateItem
      (λ ys. record (no_items p.name p.comp) { states = unlisted ys }) (λ y ys. refl) (λ z y k q. q)
      (λ z q s. r.state z s)
      (listed states) all n within [] m end in
      rw (
        ← listed_pieces level states,
        ← append-nil
            (words_in (flat_map (state_pieces level) (listed states))),
        ← listed_view states,
      ) front

  -- all items and the end
  pub parts_tail : (parts : Parts) (states : States) → HasItems has_exit has_outer nested parts states → (n : Counts)
      → IsWithin (behind_all n parts states)
      → Rest p NoAction n (words_in (parts_pieces level parts ++ states_pieces level states))
      (record (no_items p.name p.comp) {
        parts = record
            (unplaced_parts parts) { name = p.name; comp = p.comp };
        states = unplaced_states states;
      })
      (behind_all n parts states)
  unfolding parts_pieces actions_pieces transitions_pieces
  parts_tail parts states h n within =
      let n1 : Counts = n ⊕ size_of_block parts.entry in
      let n2 : Counts = n1 ⊕ size_of_block parts.during in
      let n3 : Counts = n2 ⊕ size_of_block parts.exit in
      let n4 : Counts = n3 ⊕ sizes size_of_trans parts.default in
      let n5 : Counts = n4 ⊕ sizes size_of_trans parts.inner in
      let n6 : Counts = n5 ⊕ sizes size_of_trans parts.outer in
      let n7 : Counts = n6 ⊕ sizes size_of_junction parts.junctions in
      let m : Counts = n7 ⊕ sizes size_of_state (listed states) in
      let within7 : IsWithin n7 = within_front n7 (sizes size_of_state (listed states)) within in
      let within6 : IsWithin n6 = within_front n6 (sizes size_of_junction parts.junctions) within7 in
      let within5 : IsWithin n5 = within_front n5 (sizes size_of_trans parts.outer) within6 in
      let within4 : IsWithin n4 = within_front n4 (sizes size_of_trans parts.inner) within5 in
      let within3 : IsWithin n3 = within_front n3 (sizes size_of_trans parts.default) within4 in
      let within2 : IsWithin n2 = within_front n2 (size_of_block parts.exit) within3 in
      let within1 : IsWithin n1 = within_front n1 (size_of_block parts.during) within2 in
      let base : Sorted = record (no_items p.name p.comp) { states = unplaced_states states } in
      let base6 : Sorted =
      record base { parts = record base.parts { junctions = map unplaced_junction parts.junctions } } in
      let base5 : Sorted = record base { parts = record base6.parts { outer = map unplaced_trans parts.outer } } in
      let base4 : Sorted = record base { parts = record base5.parts { inner = map unplaced_trans parts.inner } } in
      let base3 : Sorted = record base { parts = record base4.parts { default = map unplaced_trans parts.default } } in
      let base_history : Sorted =
      record base { parts = record base3.parts { history = unplaced_history parts.history } } in
      let base2 : Sorted = record base { parts = record base_history.parts { exit = unplaced_block parts.exit } } in
      let base1 : Sorted = record base { parts = record base2.parts { during = unplaced_block parts.during } } in
      let s8 = states_tail states h.states n7 within in
      let s7 =
      segment p Anything IsJunction (junction_pieces level) size_of_junction unplaced_junction JunctionItem
      (λ ys. record base { parts = record base.parts { junctions = ys } }) (λ y ys. refl) (λ z y k q. q)
      (λ z q. r.junction z)
      parts.junctions h.junctions n6 within7 _ m s8 in
      let s6 =
      segment p Anything has_outer (trans_line level kinds.Outer) size_of_trans unplaced_trans Outer
      (λ ys. record base { parts = record base6.parts { outer = ys } }) (λ y ys. refl) (λ z y k q. q)
      (λ z q t. rw (trans_line_words level kinds.Outer t) (r.outer z t))
      parts.outer h.outer n5 within6 _ m s7 in
      let s5 =
      segment p Anything IsTrans (trans_line level kinds.Inner) size_of_trans unplaced_trans Inner
      (λ ys. record base { parts = record base5.parts { inner = ys } }) (λ y ys. refl) (λ z y k q. q)
      (λ z q t. rw (trans_line_words level kinds.Inner t) (r.inner z t))
      parts.inner h.inner n4 within5 _ m s6 in
      let s4 =
      segment p Anything IsTrans (trans_line level kinds.Default) size_of_trans unplaced_trans Default
      (λ ys. record base { parts = record base4.parts { default = ys } }) (λ y ys. refl) (λ z y k q. q)
      (λ z q t. rw (trans_line_words level kinds.Default t) (r.default z t))
      parts.default h.default n3 within4 _ m s5 in
      let s_history =
      history_front p level (λ x. record base { parts = record base3.parts { history = x } }) refl r.history
      parts.history n3 _ m s4 in
      let s3 =
      action p NoExit NoHistory has_exit Exit level kinds.Exit
      (λ b. record base { parts = record base_history.parts { exit = b } })
      (λ b. refl) (λ z q. q.1) (λ z b k q. q.1) (λ z q. r.exit z q.0)
      parts.exit h.exit n2 within3 _ m s_history in
      let s2 =
      action p EntryAtMost NoExit IsBlock During level kinds.During
      (λ b. record base { parts = record base2.parts { during = b } })
      (λ b. refl) (λ z q. (q.1, q.2)) (λ z b k q. (q.1, q.2)) (λ z q. r.during z q.0)
      parts.during (any_block parts.during h.during) n1 within2 _ m s3 in
      let s1 =
      action p NoAction EntryAtMost IsBlock Entry level kinds.Entry
      (λ b. record base { parts = record base1.parts { entry = b } })
      (λ b. refl) (λ z q. (q.1, q.2, q.3)) (λ z b k q. (q.1, q.2, q.3)) (λ z q. r.entry z q.0)
      parts.entry (any_block parts.entry h.entry) n within1 _ m s2 in
      simp (words_in-append, append_assoc) s1
