-- Items of a state or a chart one after the other: which words spell them from some item on.
use Rattle.std.proofs.Common.{◌≡◌, Bool, List, [], ◌∷◌, ◌++◌, map, append_assoc, refl, ap, sym, ◌∙◌, subst}
use Rattle.std.specs.List.{AllByRecursion, flat_map}
use Rattle.token_grammar.specs.declared.token.Kind.{Kind}
use Rattle.token_grammar.specs.Grammar.{Grammar, many_from}
use Rattle.chart_tree.specs.declared.name.NameText.{NameText}
use Rattle.chart_tree.specs.declared.state.CompText.{CompText}
use Rattle.chart_grammar.specs.Limits.{Counts, Counted}
use Rattle.chart_grammar.specs.States.{values, counts_behind, Item, Entry, During, Exit, History, Outer, Inner, Default}
use Rattle.chart_grammar.specs.States.{JunctionItem, StateItem, EventItem, VarItem, Seen, after_item, beginning}
use Rattle.chart_grammar.specs.States.{Sorted, no_items, put, sorted}
use Rattle.chart_print.specs.Pieces.{Piece}
use Rattle.chart_print.specs.Places.{nowhere, unplaced_block, unplaced_trans, unplaced_junction, unplaced_state}
use Rattle.chart_print.specs.Places.{unplaced_event, unplaced_var}
use Rattle.canonical_text.specs.Words.{Word, words_in, WordsSpell}
use Rattle.canonical_text.specs.Sizes.{◌⊕◌, sizes, IsWithin}
use Rattle.canonical_text.specs.Claims.{counted, behind}
use Rattle.canonical_text.proofs.Words.{words_in-append}
use Rattle.canonical_text.proofs.Counts.{sum-none, sum-assoc, within_front}
use Rattle.canonical_text.proofs.Spelled.{split}

-- an item without its places
abbrev pub unplaced_item : Item → Item
unplaced_item (Entry block) = Entry (unplaced_block block)
unplaced_item (During block) = During (unplaced_block block)
unplaced_item (Exit block) = Exit (unplaced_block block)
unplaced_item (History at) = History nowhere
unplaced_item (Outer t) = Outer (unplaced_trans t)
unplaced_item (Inner t) = Inner (unplaced_trans t)
unplaced_item (Default t) = Default (unplaced_trans t)
unplaced_item (JunctionItem j) = JunctionItem (unplaced_junction j)
unplaced_item (StateItem s) = StateItem (unplaced_state s)
unplaced_item (EventItem e) = EventItem (unplaced_event e)
unplaced_item (VarItem v) = VarItem (unplaced_var v)

-- where items stand: what may come next, how it is spelled, and the name and composition of what has the items
pub record Place : Type 1 where
  pub set : Seen → Kind → Bool
  pub item : Seen → Grammar (Counted Item)
  pub name : NameText
  pub comp : CompText

-- the next item there
abbrev pub next_of : Place → Seen → Grammar (Counted Item)
next_of p z = beginning (p.set z) (p.item z)

-- all items from there on
abbrev pub items_of : Place → Seen → Grammar (List (Counted Item))
items_of p z = many_from p.set (next_of p) after_item z

-- items sorted and without places, and the counts after them
abbrev pub left : Place → Counts → List (Counted Item) → Sorted × Counts
left p n xs = (sorted p.name p.comp (map unplaced_item (values xs)), counts_behind n xs)

-- after what was seen, the words spell items that sort so and leave these counts
abbrev pub Tail : Place → Seen → List Word → Sorted → Counts → Type 0
Tail p z words s m = WordsSpell (items_of p z) (left p z.counts) words (s, m)

-- the words spell one such item
abbrev pub ItemWords : Place → Seen → List Word → Item → Counts → Type 0
ItemWords p z words y m = WordsSpell (next_of p z) (counted unplaced_item) words (behind y m)

-- ---- one item in front

-- what an item leaves seen doesn't depend on its places
after_same : (z : Seen) (x : Item) (n : Counts) → after_item z (behind x n) ≡ after_item z (behind (unplaced_item x) n)
after_same z (Entry block) n = refl
after_same z (During block) n = refl
after_same z (Exit block) n = refl
after_same z (History at) n = refl
after_same z (Outer t) n = refl
after_same z (Inner t) n = refl
after_same z (Default t) n = refl
after_same z (JunctionItem j) n = refl
after_same z (StateItem s) n = refl
after_same z (EventItem e) n = refl
after_same z (VarItem v) n = refl

-- and its counts are those after it
pub after_counts : (z : Seen) (x : Item) (n : Counts) → (after_item z (behind x n)).counts ≡ n
after_counts z (Entry block) n = refl
after_counts z (During block) n = refl
after_counts z (Exit block) n = refl
after_counts z (History at) n = refl
after_counts z (Outer t) n = refl
after_counts z (Inner t) n = refl
after_counts z (Default t) n = refl
after_counts z (JunctionItem j) n = refl
after_counts z (StateItem s) n = refl
after_counts z (EventItem e) n = refl
after_counts z (VarItem v) n = refl

-- no more items
pub tail_end : (p : Place) (z : Seen) → Tail p z [] (no_items p.name p.comp) z.counts
unfolding many_from
tail_end p z [] h = record { value = []; spelled = refl; looks = refl }
tail_end p z (t ∷ u) h = absurd cc

-- one item, and those after it
pub tail_next : (p : Place) (z : Seen) (a b : List Word) (y : Item) (n : Counts) (s : Sorted) (m : Counts)
    → ItemWords p z a y n
    → Tail p (after_item z (behind y n)) b s m → Tail p z (a ++ b) (put y s) m
unfolding many_from
tail_next p z a b y n s m one others u e =
    let c = split u a b e in
    let l = one c.front c.first in
    let r = others c.back c.second in
    let value : unplaced_item l.value.value ≡ y = ap (λ (x : Counted Item). x.value) l.looks in
    let counts : l.value.counts ≡ n = ap (λ (x : Counted Item). x.counts) l.looks in
    let after : after_item z (behind y n) ≡ after_item z l.value =
    sym (after_same z l.value.value l.value.counts ∙ ap (λ (x : Counted Item). after_item z x) l.looks) in
    let same : left p (after_item z (behind y n)).counts r.value ≡ (s, m) = r.looks in
    let put_so : sorted p.name p.comp (map unplaced_item (values r.value)) ≡ s =
    ap (λ (x : Sorted × Counts). x.0) same in
    let counted_so : counts_behind (after_item z (behind y n)).counts r.value ≡ m =
    ap (λ (x : Sorted × Counts). x.1) same in
    let from_there : counts_behind l.value.counts r.value ≡ m = rw (counts, ← after_counts z y n) counted_so in
    record {
      value = l.value ∷ r.value;
      spelled = record {
        p = c.front;
        q = c.back;
        parts = c.parts;
        first = l.spelled;
        second = subst (λ (v : Seen). (items_of p v).spells c.back r.value) after r.spelled;
      };
      looks = rw (value, put_so, from_there) refl;
    }

-- ---- any number of items of one kind in front

-- wherever n things have been counted, and what was seen is so, the words spell the items from there on
abbrev pub Rest : Place → (Seen → Type 0) → Counts → List Word → Sorted → Counts → Type 0
Rest p seen n words s m = (z : Seen) → seen z → z.counts ≡ n → Tail p z words s m

module _ {T U : Type 0} (p : Place) (seen : Seen → Type 0) (has : T → Type 0) (pieces : T → List Piece)
    (size : T → Counts)
    (view : T → U) (item : U → Item) (fill : List U → Sorted)
    (puts : (y : U) (ys : List U) → put (item y) (fill ys) ≡ fill (y ∷ ys))
    (keeps : (z : Seen) (y : U) (n : Counts) → seen z → seen (after_item z (behind (item y) n)))
    (reads : (z : Seen) → seen z → (t : T) → has t → IsWithin (z.counts ⊕ size t)
    → ItemWords p z (words_in (pieces t)) (item (view t)) (z.counts ⊕ size t)) where
  -- their words, and the words of what stands after them
  pub segment : (ts : List T) → AllByRecursion has ts → (n : Counts) → IsWithin (n ⊕ sizes size ts)
      → (w : List Word) (m : Counts)
      → Rest p seen (n ⊕ sizes size ts) w (fill []) m
      → Rest p seen n (words_in (flat_map pieces ts) ++ w) (fill (map view ts)) m
  segment [] all n within w m rest z q counts = rest z q (counts ∙ sym (sum-none n))
  segment (t ∷ ts) all n within w m rest z q counts =
      let others : List Word = words_in (flat_map pieces ts) ++ w in
      let all_within : IsWithin ((n ⊕ size t) ⊕ sizes size ts) = rw (sum-assoc n (size t) (sizes size ts)) within in
      let room : IsWithin (z.counts ⊕ size t) = rw counts (within_front (n ⊕ size t) (sizes size ts) all_within) in
      let y : Item = item (view t) in
      let behind_it : Seen = after_item z (behind y (z.counts ⊕ size t)) in
      let counted_so : behind_it.counts ≡ n ⊕ size t = after_counts z y (z.counts ⊕ size t) ∙ rw counts refl in
      let tail : Tail p behind_it others (fill (map view ts)) m =
      segment ts all.1 (n ⊕ size t) all_within w m
      (λ v k e. rest v k (e ∙ sum-assoc n (size t) (sizes size ts))) behind_it
      (keeps z (view t) (z.counts ⊕ size t) q) counted_so in
      rw (
        words_in-append (pieces t) (flat_map pieces ts),
        append_assoc (words_in (pieces t)),
        ← puts (view t)
            (map view ts),
      )
      (tail_next p z (words_in (pieces t)) others y (z.counts ⊕ size t) (fill (map view ts)) m
      (reads z q t all.0 room) tail)
