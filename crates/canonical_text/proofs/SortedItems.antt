-- Items that were spelled one after the other: what they have and how many they are, once they are sorted.
use Rattle.std.proofs.Common.{◌≡◌, ℕ, zero, suc, true, false, List, [], ◌∷◌, length, refl, ap, sym, ◌∙◌, arith}
use Rattle.std.specs.List.{AllByRecursion}
use Rattle.token_grammar.specs.Token.{Lexeme}
use Rattle.token_grammar.specs.Grammar.{many_from_spells}
use Rattle.chart_tree.specs.declared.name.NameText.{NameText}
use Rattle.chart_tree.specs.declared.state.CompText.{CompText}
use Rattle.chart_tree.specs.declared.chart.EventText.{EventText}
use Rattle.chart_tree.specs.Trees.{Parts, State, States, MoreStates, Var}
use Rattle.chart_grammar.specs.Limits.{Counts, Counted, after_event, after_variable}
use Rattle.chart_grammar.specs.States.{values, counts_behind, Item, Entry, During, Exit, History, Outer, Inner, Default}
use Rattle.chart_grammar.specs.States.{JunctionItem, StateItem, EventItem, VarItem, Seen, after_item, Sorted, put}
use Rattle.chart_grammar.specs.States.{sorted}
use Rattle.canonical_text.specs.Sizes.{none, ◌⊕◌, sizes, size_of_block, size_of_trans, size_of_junction}
use Rattle.canonical_text.specs.Sizes.{size_of_parts, size_of_state, size_of_states, IsWithin}
use Rattle.canonical_text.specs.Terms.{IsNamed, IsBlock, IsTrans, IsJunction, IsVar, IsParts, IsStates}
use Rattle.canonical_text.specs.Claims.{AreCut, Adds, behind}
use Rattle.canonical_text.proofs.Counts.{same_counts, sum-none, sum-assoc}
use Rattle.canonical_text.proofs.Cut.{cut_item, cut_rest}
use Rattle.canonical_text.proofs.ItemLists.{after_counts}
use Rattle.canonical_text.proofs.PartsSpelled.{IsNested}

-- ---- one item

-- what an item adds
abbrev pub size_of_item : Item → Counts
size_of_item (Entry block) = size_of_block block
size_of_item (During block) = size_of_block block
size_of_item (Exit block) = size_of_block block
size_of_item (History at) = none
size_of_item (Outer t) = size_of_trans t
size_of_item (Inner t) = size_of_trans t
size_of_item (Default t) = size_of_trans t
size_of_item (JunctionItem j) = size_of_junction j
size_of_item (StateItem s) = size_of_state s
size_of_item (EventItem e) = after_event none
size_of_item (VarItem v) = after_variable none

-- an item, with states nested in it `deep` levels at most
abbrev pub IsItem : ℕ → Item → Type 0
IsItem deep (Entry block) = IsBlock block
IsItem deep (During block) = IsBlock block
IsItem deep (Exit block) = IsBlock block
IsItem deep (History at) = Unit {0}
IsItem deep (Outer t) = IsTrans t
IsItem deep (Inner t) = IsTrans t
IsItem deep (Default t) = IsTrans t
IsItem deep (JunctionItem j) = IsJunction j
IsItem deep (StateItem s) = IsNested deep s
IsItem deep (EventItem e) = IsNamed e.name
IsItem deep (VarItem v) = IsVar v

-- an action has not been seen
abbrev pub IsNew : Seen → Item → Type 0
IsNew z (Entry block) = z.entry ≡ false
IsNew z (During block) = z.during ≡ false
IsNew z (Exit block) = z.exit ≡ false
IsNew z (History at) = Unit {0}
IsNew z (Outer t) = Unit {0}
IsNew z (Inner t) = Unit {0}
IsNew z (Default t) = Unit {0}
IsNew z (JunctionItem j) = Unit {0}
IsNew z (StateItem s) = Unit {0}
IsNew z (EventItem e) = Unit {0}
IsNew z (VarItem v) = Unit {0}

-- an item after what was seen, with the counts after it
pub record IsNextItem (deep : ℕ) (may : Item → Type 0) (z : Seen) (x : Counted Item) : Type 0 where
  pub fine : IsItem deep x.value
  pub place : may x.value
  pub adds : Adds z.counts (size_of_item x.value) x.counts
  pub once : IsNew z x.value

-- ---- sorted items

-- how many there are
abbrev pub size_of_sorted : Sorted → Counts
size_of_sorted s =
    sizes (λ (e : EventText). after_event none) s.events ⊕
    (sizes (λ (v : Var). after_variable none) s.vars ⊕ (size_of_parts s.parts ⊕ size_of_states s.states))

-- what they have
pub record AreSorted (deep : ℕ) (s : Sorted) : Type 0 where
  pub parts : IsParts s.parts
  pub states : IsStates deep s.states
  pub events : AllByRecursion (λ (e : EventText). IsNamed e.name) s.events
  pub vars : AllByRecursion IsVar s.vars

-- an action that is put replaces none
abbrev pub IsFree : Item → Sorted → Type 0
IsFree (Entry block) s = s.parts.entry ≡ []
IsFree (During block) s = s.parts.during ≡ []
IsFree (Exit block) s = s.parts.exit ≡ []
IsFree (History at) s = Unit {0}
IsFree (Outer t) s = Unit {0}
IsFree (Inner t) s = Unit {0}
IsFree (Default t) s = Unit {0}
IsFree (JunctionItem j) s = Unit {0}
IsFree (StateItem t) s = Unit {0}
IsFree (EventItem e) s = Unit {0}
IsFree (VarItem v) s = Unit {0}

-- an item in front adds its size
put_size : (x : Item) (s : Sorted) → IsFree x s → size_of_item x ⊕ size_of_sorted s ≡ size_of_sorted (put x s)
put_size (Entry block) s free = let none_there = ap length free in same_counts _ _ (omega arith)
put_size (During block) s free = let none_there = ap length free in same_counts _ _ (omega arith)
put_size (Exit block) s free = let none_there = ap length free in same_counts _ _ (omega arith)
put_size (History at) s free = same_counts _ _ (omega arith)
put_size (Outer t) s free = same_counts _ _ (omega arith)
put_size (Inner t) s free = same_counts _ _ (omega arith)
put_size (Default t) s free = same_counts _ _ (omega arith)
put_size (JunctionItem j) s free = same_counts _ _ (omega arith)
put_size (StateItem t) s free = same_counts _ _ (omega arith)
put_size (EventItem e) s free = same_counts _ _ (omega arith)
put_size (VarItem v) s free = same_counts _ _ (omega arith)

-- a state in front of others
one_state : (deep : ℕ) (state : State) (others : States) → IsNested deep state → IsStates deep others
    → IsStates deep (MoreStates state others)
one_state zero state others h others_too = absurd h
one_state (suc deeper) state others h others_too = (h, others_too)

-- what parts have, field by field
pub made_parts : (p : Parts) → IsNamed p.name → IsBlock p.entry → IsBlock p.during → IsBlock p.exit
    → AllByRecursion IsTrans p.outer
    → AllByRecursion IsTrans p.inner → AllByRecursion IsTrans p.default → AllByRecursion IsJunction p.junctions
    → IsParts p
made_parts p name entry during exit outer inner default junctions = record {
  name = name;
  entry = entry;
  during = during;
  exit = exit;
  outer = outer;
  inner = inner;
  default = default;
  junctions = junctions;
}

-- other parts that are right leave all else as it is
new_parts : (deep : ℕ) (s : Sorted) (p : Parts) → AreSorted deep s → IsParts p → AreSorted deep (record s { parts = p })
new_parts deep s p a parts = record { parts = parts; states = a.states; events = a.events; vars = a.vars }

-- an item in front of others that have what they should
put_sorted : (deep : ℕ) (x : Item) (s : Sorted) → IsItem deep x → AreSorted deep s → AreSorted deep (put x s)
put_sorted deep (Entry block) s h a =
    let o = a.parts in
    new_parts deep s _ a (made_parts _ o.name h o.during o.exit o.outer o.inner o.default o.junctions)
put_sorted deep (During block) s h a =
    let o = a.parts in new_parts deep s _ a (made_parts _ o.name o.entry h o.exit o.outer o.inner o.default o.junctions)
put_sorted deep (Exit block) s h a =
    let o = a.parts in
    new_parts deep s _ a (made_parts _ o.name o.entry o.during h o.outer o.inner o.default o.junctions)
put_sorted deep (History at) s h a =
    let o = a.parts in
    new_parts deep s _ a (made_parts _ o.name o.entry o.during o.exit o.outer o.inner o.default o.junctions)
put_sorted deep (Outer t) s h a =
    let o = a.parts in
    new_parts deep s _ a (made_parts _ o.name o.entry o.during o.exit (h, o.outer) o.inner o.default o.junctions)
put_sorted deep (Inner t) s h a =
    let o = a.parts in
    new_parts deep s _ a (made_parts _ o.name o.entry o.during o.exit o.outer (h, o.inner) o.default o.junctions)
put_sorted deep (Default t) s h a =
    let o = a.parts in
    new_parts deep s _ a (made_parts _ o.name o.entry o.during o.exit o.outer o.inner (h, o.default) o.junctions)
put_sorted deep (JunctionItem j) s h a =
    let o = a.parts in
    new_parts deep s _ a (made_parts _ o.name o.entry o.during o.exit o.outer o.inner o.default (h, o.junctions))
put_sorted deep (StateItem t) s h a =
    record { parts = a.parts; states = one_state deep t s.states h a.states; events = a.events; vars = a.vars }
put_sorted deep (EventItem e) s h a =
    record { parts = a.parts; states = a.states; events = (h, a.events); vars = a.vars }
put_sorted deep (VarItem v) s h a = record { parts = a.parts; states = a.states; events = a.events; vars = (h, a.vars) }

-- ---- the flags of actions

-- an action that is new replaces none, where none stands after one of its kind
is_free : (z : Seen) (x : Item) (n : Counts) (s : Sorted)
    → ((after_item z (behind x n)).entry ≡ true → s.parts.entry ≡ [])
    → ((after_item z (behind x n)).during ≡ true → s.parts.during ≡ [])
    → ((after_item z (behind x n)).exit ≡ true → s.parts.exit ≡ []) → IsFree x s
is_free z (Entry block) n s e d q = e refl
is_free z (During block) n s e d q = d refl
is_free z (Exit block) n s e d q = q refl
is_free z x n s e d q = record {}

-- after an action that has been seen none of its kind comes
no_entry : (z : Seen) (x : Item) (n : Counts) (s : Sorted) → IsNew z x
    → ((after_item z (behind x n)).entry ≡ true → s.parts.entry ≡ [])
    → z.entry ≡ true → (put x s).parts.entry ≡ []
no_entry z (Entry block) n s once rest seen = absurd cc
no_entry z x n s once rest seen = rest seen

-- what has no during action yet has none among its items
no_during : (z : Seen) (x : Item) (n : Counts) (s : Sorted) → IsNew z x
    → ((after_item z (behind x n)).during ≡ true → s.parts.during ≡ [])
    → z.during ≡ true → (put x s).parts.during ≡ []
no_during z (During block) n s once rest seen = absurd cc
no_during z x n s once rest seen = rest seen

-- and likewise of the exit action
no_exit : (z : Seen) (x : Item) (n : Counts) (s : Sorted) → IsNew z x
    → ((after_item z (behind x n)).exit ≡ true → s.parts.exit ≡ [])
    → z.exit ≡ true → (put x s).parts.exit ≡ []
no_exit z (Exit block) n s once rest seen = absurd cc
no_exit z x n s once rest seen = rest seen

-- ---- all items

-- what items have that are spelled after what was seen
pub record Gathered (deep : ℕ) (may : Item → Type 0) (name : NameText) (comp : CompText) (z : Seen)
    (xs : List (Counted Item)) : Type 0 where
  pub fine : AreSorted deep (sorted name comp (values xs))
  pub places : AllByRecursion may (values xs)
  pub count : counts_behind z.counts xs ≡ z.counts ⊕ size_of_sorted (sorted name comp (values xs))
  pub within : IsWithin z.counts → IsWithin (counts_behind z.counts xs)
  pub no_entry_again : z.entry ≡ true → (sorted name comp (values xs)).parts.entry ≡ []
  pub no_during_again : z.during ≡ true → (sorted name comp (values xs)).parts.during ≡ []
  pub no_exit_again : z.exit ≡ true → (sorted name comp (values xs)).parts.exit ≡ []

-- no items
nothing_gathered : (deep : ℕ) (may : Item → Type 0) (name : NameText) (comp : CompText) → IsNamed name → (z : Seen)
    → Gathered deep may name comp z []
nothing_gathered deep may name comp named z = record {
  fine = record {
    parts = made_parts _ named no_block no_block no_block (record {}) (record {}) (record {}) (record {});
    states = record {};
    events = record {};
    vars = record {};
  };
  places = record {};
  count = sym (sum-none z.counts);
  within = λ h. h;
  no_entry_again = λ seen. refl;
  no_during_again = λ seen. refl;
  no_exit_again = λ seen. refl;
}
  where
    no_block : IsBlock []
    no_block = record { each = record {}; few = omega arith }

-- an item in front
one_gathered : (deep : ℕ) (may : Item → Type 0) (name : NameText) (comp : CompText) (z : Seen) (x : Counted Item)
    (xs : List (Counted Item))
    → IsNextItem deep may z x → Gathered deep may name comp (after_item z x) xs → Gathered deep may name comp z (x ∷ xs)
one_gathered deep may name comp z x xs f g =
    let s : Sorted = sorted name comp (values xs) in
    let there : (after_item z x).counts ≡ x.counts = after_counts z x.value x.counts in
    let free : IsFree x.value s = is_free z x.value x.counts s g.no_entry_again g.no_during_again g.no_exit_again in
    let front : counts_behind x.counts xs ≡ x.counts ⊕ size_of_sorted s = rw there at g.count in
    let behind_it : IsWithin x.counts → IsWithin (counts_behind x.counts xs) = rw there at g.within in
    record {
      fine = put_sorted deep x.value s f.fine g.fine;
      places = (f.place, g.places);
      count =
          front ∙ ap (λ (n : Counts). n ⊕ size_of_sorted s) f.adds.count
          ∙ sum-assoc z.counts (size_of_item x.value) (size_of_sorted s)
          ∙ ap (λ (n : Counts). z.counts ⊕ n) (put_size x.value s free);
      within = λ h. behind_it (f.adds.within h);
      no_entry_again = no_entry z x.value x.counts s f.once g.no_entry_again;
      no_during_again = no_during z x.value x.counts s f.once g.no_during_again;
      no_exit_again = no_exit z x.value x.counts s f.once g.no_exit_again;
    }

module _ (deep : ℕ) (may : Item → Type 0) (name : NameText) (comp : CompText)
    (spells : Seen → List Lexeme → Counted Item → Type 0)
    (has : (z : Seen) (u : List Lexeme) (x : Counted Item) → AreCut u → spells z u x → IsNextItem deep may z x) where
  -- all of them, where each item has what it should
  pub gathered : (z : Seen) (u : List Lexeme) (xs : List (Counted Item)) → IsNamed name → AreCut u
      → many_from_spells spells after_item z u xs
      → Gathered deep may name comp z xs
  gathered z u [] named cut w = nothing_gathered deep may name comp named z
  gathered z u (x ∷ xs) named cut w =
      one_gathered deep may name comp z x xs (has z w.p x (cut_item w cut) w.first)
      (gathered (after_item z x) w.q xs named (cut_rest w cut) w.second)
