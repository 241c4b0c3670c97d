-- The lines of refusals.
use Rattle.std.proofs.Common.{◌≡◌, ◌≢◌, ◌++◌, ℕ, nat_eq, Bool, true, false, cond, refl, arith, List, [], ◌∷◌, sym, ap, ◌∙◌, append_assoc, append-nil}
use Rattle.std.proofs.lemmas.Bool.Decides.{nat_tests}
use Rattle.c_subset.specs.Trees.{CExpr, Field, Compare, Block}
use Rattle.c_subset.specs.Trees as c
use Rattle.c_subset.specs.declared.trees.Comparison.TheVariants.{IsAtLeast}
use Rattle.c_subset.specs.declared.trees.Line as declared_line
use Rattle.c_subset.specs.Lines.{Line, If, Close, Appends, lines_in, lines_of}
use Rattle.c_functions.specs.Events.{all_inputs, leading_events}
use Rattle.c_functions.specs.Plans.{Shape, event_local, ready_field}
use Rattle.c_functions.specs.Starts.{not_running_c, no_event_c, refusals_c, late_refusals_c, refuse_c}

-- an `if` whose part is these statements
pub part_lines : (old l1 l2 new : List declared_line.Line) (e : CExpr) (part : Block)
    → lines_in l1 ≡ lines_in old ++ If e ∷ [] → lines_in l2 ≡ lines_in l1 ++ lines_of part
    → lines_in new ≡ lines_in l2 ++ Close ∷ [] → Appends old new (c.If e part c.End)
unfolding lines_of
part_lines old l1 l2 new e part opened within closed = λ rest.
    ap (λ (l : List Line). l ++ lines_of rest)
    (closed ∙ ap (λ (l : List Line). l ++ Close ∷ [])
    (within ∙ ap (λ (l : List Line). l ++ lines_of part) opened))
    ∙ simp append_assoc

-- no lines are left
none_left : (l : List Line) → l ≡ l ++ lines_of c.End
unfolding lines_of
none_left l = simp append-nil

-- where not all events are inputs, the refusals of a number that isn't below `ready` are those that test it
pub late_lines : (K : Shape) (old new : List declared_line.Line) → all_inputs K.names.events ≡ false
    → Appends old new (refusals_c K) → lines_in new ≡ lines_in old ++ lines_of (late_refusals_c K)
late_lines K old new some h =
    none_left (lines_in new) ∙ h c.End
    ∙ ap (λ (b : Bool). lines_in old ++ lines_of (cond b (not_running_c K (no_event_c K)) (refusals_c K c.End)))
    (sym some)

-- the refusals that an event below `ready` passes by
pub refuse_lines : (K : Shape) (old new : List declared_line.Line) (n : ℕ) (e : CExpr)
    → n ≡ leading_events K.names.events → n ≢ 0
    → e ≡ Compare IsAtLeast event_local (Field (ready_field K))
    → Appends old new (c.If e (late_refusals_c K) c.End) → Appends old new (refuse_c K)
refuse_lines K old new n e same some is h = λ rest.
    let after : CExpr → Block = λ e. c.If e (late_refusals_c K) c.End rest in
    h rest ∙ ap (λ (e : CExpr). lines_in old ++ lines_of (after e)) is
    ∙ ap (λ (b : Bool). lines_in old ++ lines_of (cond b (refusals_c K rest)
    (after (Compare IsAtLeast event_local (Field (ready_field K))))))
    (sym (sym (ap (λ (n : ℕ). nat_eq n 0) same) ∙ not_zero (nat_eq n 0) refl))
  where
    not_zero : (b : Bool) → nat_eq n 0 ≡ b → nat_eq n 0 ≡ false
    not_zero true zero = absurd (some (grind (arith, nat_tests)))
    not_zero false zero = zero
