-- What resets and counts a counter is the same on both sides.
use Rattle.std.proofs.Common.{◌≡◌, ℕ, List, [], ◌∷◌, ◌++◌, map, Bool, true, false, refl, ap, ap₂, ◌∙◌, sym, is_some}
use Rattle.std.proofs.Common.{if◌then◌else◌}
use Rattle.std.specs.Prelude.{bytes_eq}
use Rattle.std.specs.List.{flat_map, filter}
use Rattle.std.proofs.lemmas.List.{map-append}
use Rattle.flow_base.specs.Names.{index_of}
use Rattle.token_grammar.specs.declared.token.Span.{Span}
use Rattle.chart_tree.specs.declared.name.NameText.{NameText}
use Rattle.chart_tree.specs.Trees.{Stmt, Trans, Var}
use Rattle.statechart_tree.specs.declared.declarations.SourceEvent.{SourceEvent}
use Rattle.statechart_meaning.specs.Counting as statechart_counting
use Rattle.statechart_meaning.specs.Counters as statechart_counters
use Rattle.statechart_meaning.specs.Declared as statecharts
use Rattle.statechart_meaning.specs.Declared.{Placed, counters_in}
use Rattle.counting_trees.specs.Counters.{Counter, counter_var, reset_stmt, count_stmt, count_trans, without, events_of}
use Rattle.counting_trees.specs.Counting.{all_of}
use Rattle.statechart_counting.specs.Counters.{counter_of, counters_of_states}

-- one map behind another one
pub map_twice : {A B C : Type 0} (f : B → C) (g : A → B) (h : A → C) → ((x : A) → f (g x) ≡ h x) → (xs : List A)
    → map f (map g xs) ≡ map h xs
map_twice f g h same [] = refl
map_twice f g h same (x ∷ xs) = ap₂ (λ y ys. y ∷ ys) (same x) (map_twice f g h same xs)

pub map_same : {A B : Type 0} (f g : A → B) → ((x : A) → f x ≡ g x) → (xs : List A) → map f xs ≡ map g xs
map_same f g same [] = refl
map_same f g same (x ∷ xs) = ap₂ (λ y ys. y ∷ ys) (same x) (map_same f g same xs)

-- counters become 0, and are declared
pub resets_same : (ks : List statecharts.Counter)
    → map statechart_counters.reset ks ≡ map reset_stmt (map counter_of ks)
resets_same ks = sym (map_twice reset_stmt counter_of statechart_counters.reset (λ k. refl) ks)

pub vars_same : (ks : List statecharts.Counter)
    → map statecharts.counter_var ks ≡ map counter_var (map counter_of ks)
vars_same ks = sym (map_twice counter_var counter_of statecharts.counter_var (λ k. refl) ks)

-- each text once
without_same : (others : List (List ℕ)) (xs : List NameText)
    → statechart_counting.without others xs ≡ without others xs
without_same others [] = refl
without_same others (x ∷ xs) =
    ap₂ (λ (l r : List NameText). if is_some (index_of x.text others) then l else r) (without_same others xs)
    (ap (λ (l : List NameText). x ∷ l) (without_same (x.text ∷ others) xs))

events_same : (ks : List statecharts.Counter) → statechart_counters.events_of ks ≡ events_of (map counter_of ks)
events_same ks =
    without_same [] (map (λ (k : statecharts.Counter). k.event) ks)
    ∙ ap (without [])
    (sym (map_twice (λ (k : Counter). k.event) counter_of (λ (k : statecharts.Counter). k.event) (λ k. refl) ks))

-- those that count an event become one more
counted_by : (at : Span) (text : List ℕ) (b : Bool) (k : statecharts.Counter) (mine : List statecharts.Counter)
    (theirs : List Counter)
    → map (statechart_counters.count_up at) mine ≡ map (count_stmt at) theirs
    → map (statechart_counters.count_up at) (if b then k ∷ mine else mine)
    ≡ map (count_stmt at) (if b then counter_of k ∷ theirs else theirs)
counted_by at text true k mine theirs same = ap (λ (l : List Stmt). statechart_counters.count_up at k ∷ l) same
counted_by at text false k mine theirs same = same

counts_same : (at : Span) (text : List ℕ) (ks : List statecharts.Counter)
    → map (statechart_counters.count_up at) (filter (λ (k : statecharts.Counter). bytes_eq k.event.text text) ks)
    ≡ map (count_stmt at) (filter (λ (k : Counter). bytes_eq k.event.text text) (map counter_of ks))
counts_same at text [] = refl
counts_same at text (k ∷ ks) = counted_by at text (bytes_eq k.event.text text) k _ _ (counts_same at text ks)

trans_same : (ks : List statecharts.Counter) (e : NameText)
    → statechart_counters.counting ks e ≡ count_trans (map counter_of ks) e
trans_same ks e = ap (statechart_counters.counting_trans e) (counts_same e.at e.text ks)

-- the transitions that count
pub counting_same : (ks : List statecharts.Counter)
    → map (statechart_counters.counting ks) (statechart_counters.events_of ks)
    ≡ map (count_trans (map counter_of ks)) (events_of (map counter_of ks))
counting_same ks =
    map_same (statechart_counters.counting ks) (count_trans (map counter_of ks)) (trans_same ks) _
    ∙ ap (map (count_trans (map counter_of ks))) (events_same ks)

-- all counters of states
pub all_same : (es : List SourceEvent) (states : List Placed)
    → all_of (counters_of_states es states) ≡ map counter_of (flat_map (counters_in es) states)
all_same es [] = refl
all_same es (p ∷ states) =
    ap (λ (l : List Counter). map counter_of (counters_in es p) ++ l) (all_same es states)
    ∙ sym (map-append counter_of (counters_in es p) (flat_map (counters_in es) states))
