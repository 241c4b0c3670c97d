-- Sums of counts, and limits of the whole, which are limits of a part.
use Rattle.std.proofs.Common.{◌≡◌, ℕ, List, length, ap, arith}
use Rattle.std.proofs.lemmas.List.{length-map}
use Rattle.chart_tree.specs.Trees.{Stmt}
use Rattle.chart_grammar.specs.Limits.{Counts, after_state, after_junction, after_transition, after_event}
use Rattle.chart_grammar.specs.Limits.{after_variable}
use Rattle.chart_grammar.specs.Transitions.{after_stmts}
use Rattle.chart_print.specs.Places.{unplaced_block}
use Rattle.canonical_text.specs.Sizes.{none, ◌⊕◌, size_of_block, IsWithin}

-- as many of each thing
abbrev pub AsMany : Counts → Counts → Type 0
AsMany n m =
    (n.states ≡ m.states) × (n.junctions ≡ m.junctions) × (n.transitions ≡ m.transitions)
    × (n.variables ≡ m.variables) × (n.events ≡ m.events) × (n.items ≡ m.items)

-- counts are the same where there are as many of each thing
pub same_counts : (n m : Counts) → AsMany n m → n ≡ m
same_counts n m e = made _ _ _ _ _ _ _ _ _ _ _ _ e.0 e.1 e.2 e.3 e.4 e.5
  where
    counts_of : ℕ → ℕ → ℕ → ℕ → ℕ → ℕ → Counts
    counts_of s j t v e i = record { states = s; junctions = j; transitions = t; variables = v; events = e; items = i }

    made : (s s' j j' t t' v v' e e' i i' : ℕ) → s ≡ s' → j ≡ j' → t ≡ t' → v ≡ v' → e ≡ e' → i ≡ i'
        → counts_of s j t v e i ≡ counts_of s' j' t' v' e' i'
    made s s' j j' t t' v v' e e' i i' p q r x y z = cc

-- nothing added changes nothing
pub sum-none : (n : Counts) → n ⊕ none ≡ n
sum-none n = same_counts _ _ (omega arith)

-- sums may be grouped in any way
pub sum-assoc : (n m k : Counts) → (n ⊕ m) ⊕ k ≡ n ⊕ (m ⊕ k)
sum-assoc n m k = same_counts _ _ (omega arith)

-- what is within the limits with more is so without it
pub within_front : (n m : Counts) → IsWithin (n ⊕ m) → IsWithin n
within_front n m h = omega arith

-- blocks that look alike are equally long
pub same_length : (v x : List Stmt) → unplaced_block v ≡ unplaced_block x → length v ≡ length x
same_length v x e = simp length-map at (ap length e)

-- ---- one more of a thing

-- an event or a datum adds one to what was before
pub one_event : (n : Counts) → after_event n ≡ n ⊕ after_event none
one_event n = same_counts _ _ (omega arith)

-- one more datum is a sum
pub one_variable : (n : Counts) → after_variable n ≡ n ⊕ after_variable none
one_variable n = same_counts _ _ (omega arith)

-- what comes after one more is counted after it
pub one_junction : (n m : Counts) → after_junction n ⊕ m ≡ n ⊕ (after_junction none ⊕ m)
one_junction n m = same_counts _ _ (omega arith)

-- one more state in front of a sum
pub one_state : (n m : Counts) → after_state n ⊕ m ≡ n ⊕ (after_state none ⊕ m)
one_state n m = same_counts _ _ (omega arith)

-- statements are counted after what was before
pub one_block : (n : Counts) (stmts : List Stmt) → after_stmts n stmts ≡ n ⊕ size_of_block stmts
one_block n stmts = same_counts _ _ (omega arith)

-- a transition is counted with the statements of its two blocks
pub one_transition : (n : Counts) (cond act : List Stmt)
    → after_stmts (after_stmts (after_transition n) cond) act ≡ n ⊕
    (after_transition none ⊕ (size_of_block cond ⊕ size_of_block act))
one_transition n cond act = same_counts _ _ (omega arith)
