-- The faults of what is assigned, sent, emitted and waited for, by its number.
use Rattle.std.proofs.Common.{◌≡◌, ℕ, ◌<◌, ◌≤◌, ◌⊎◌, inl, inr, List, [], length, get_or, Option, Some, None}
use Rattle.std.proofs.Common.{refl, sym, ap, ◌∙◌, rules}
use Rattle.std.specs.Prelude.{slice_get}
use Rattle.std.proofs.lemmas.Option.{slice_get_read, slice_get_past}
use Rattle.token_grammar.specs.declared.token.Span.{Span}
use Rattle.actions.specs.declared.names.EventDecl.{EventDecl}
use Rattle.actions.specs.declared.names.EventKind.TheVariants as events
use Rattle.actions.specs.declared.names.Var.{Var}
use Rattle.actions.specs.Sorts.{Sorted}
use Rattle.chart_tree.specs.declared.fault.FormKind.TheVariants as kinds
use Rattle.chart_tree.specs.declared.first.FaultAt.{FaultAt}
use Rattle.chart_tree.specs.First.{kept, at_place}
use Rattle.resolved_tree.specs.Faults.{first_with}
use Rattle.resolved_tree.proofs.FirstLemmas.{first_with_both}
use Rattle.chart_types.specs.Types.{to_input, unfit_value, assignment_faults, unless_local, unless_output, if_output}

module _ {X : Type 0} (faults : Option X → List FaultAt) (found : Option FaultAt) (xs ys : List X) (n : ℕ) where
  -- past the end there is no fault
  pub past_end : faults None ≡ [] → xs ≡ ys → length xs ≤ n → found ≡ first_with found (faults (slice_get ys n))
  unfolding first_with
  past_end none same past =
      let nothing : slice_get ys n ≡ None =
      ap (λ (zs : List X). slice_get zs n) (sym same) ∙ slice_get_past xs n past in
      sym (ap (λ (o : Option X). first_with found (faults o)) nothing
      ∙ ap (λ (fs : List FaultAt). first_with found fs) none)

  -- within the list the faults are those of the item
  pub at_item : (r : Option FaultAt) (x : X) → r ≡ first_with found (faults (Some x)) → xs ≡ ys → n < length xs
      → x ≡ get_or xs n x → r ≡ first_with found (faults (slice_get ys n))
  at_item r x here same within at =
      let item : slice_get ys n ≡ Some x =
      ap (λ (zs : List X). slice_get zs n) (sym same) ∙ slice_get_read xs (length xs) n x refl within at in
      here ∙ sym (ap (λ (o : Option X). first_with found (faults o)) item)

-- a local event may be sent
pub sent_local : (found : Option FaultAt) (e : EventDecl) (at : Span) → e.kind ≡ events.Local
    → found ≡ first_with found (unless_local (Some e) at)
unfolding first_with
sent_local found e at kind = search rules

-- another one may not
pub sent_other : (found r : Option FaultAt) (e : EventDecl) (at : Span)
    → (e.kind ≡ events.Input) ⊎ (e.kind ≡ events.Output) → r ≡ kept found (at_place kinds.EventKind at)
    → r ≡ first_with found (unless_local (Some e) at)
unfolding first_with
sent_other found r e at (inl kind) fault = search rules
sent_other found r e at (inr kind) fault = search rules

-- an output event may be emitted
pub emitted_output : (found : Option FaultAt) (e : EventDecl) (at : Span) → e.kind ≡ events.Output
    → found ≡ first_with found (unless_output (Some e) at)
unfolding first_with
emitted_output found e at kind = search rules

-- another one may not
pub emitted_other : (found r : Option FaultAt) (e : EventDecl) (at : Span)
    → (e.kind ≡ events.Input) ⊎ (e.kind ≡ events.Local) → r ≡ kept found (at_place kinds.EventKind at)
    → r ≡ first_with found (unless_output (Some e) at)
unfolding first_with
emitted_other found r e at (inl kind) fault = search rules
emitted_other found r e at (inr kind) fault = search rules

-- an output event is no trigger
pub trigger_output : (found r : Option FaultAt) (e : EventDecl) (at : Span) → e.kind ≡ events.Output
    → r ≡ kept found (at_place kinds.EventKind at) → r ≡ first_with found (if_output (Some e) at)
unfolding first_with
trigger_output found r e at kind fault = search rules

-- another one is
pub trigger_other : (found : Option FaultAt) (e : EventDecl) (at : Span)
    → (e.kind ≡ events.Input) ⊎ (e.kind ≡ events.Local) → found ≡ first_with found (if_output (Some e) at)
unfolding first_with
trigger_other found e at (inl kind) = search rules
trigger_other found e at (inr kind) = search rules

-- the faults of a datum that is assigned to, and then those of the value
pub assigned : (found first r : Option FaultAt) (v : Var) (given : Sorted) (at : Span)
    → first ≡ first_with found (to_input v.kind at) → r ≡ first_with first (unfit_value v.sort given at)
    → r ≡ first_with found (assignment_faults (Some v) given at)
assigned found first r v given at by_kind by_value =
    by_value ∙ ap (λ (f : Option FaultAt). first_with f (unfit_value v.sort given at)) by_kind
    ∙ sym (first_with_both found (to_input v.kind at) (unfit_value v.sort given at))
