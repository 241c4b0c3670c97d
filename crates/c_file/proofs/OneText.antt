-- The source for code of a chart is one.
use Rattle.std.proofs.Common.{◌≡◌, ℕ, Bool, false, List, slice_index_or, sym, ap, ◌∙◌}
use Rattle.std.proofs.lemmas.List.{ext_get_or}
use Rattle.flow_base.specs.declared.bounds.Bounds.{Bounds}
use Rattle.c_subset.specs.Trees.{Function}
use Rattle.c_text.specs.Labels.{Labels}
use Rattle.c_header.specs.declared.facts.SourceFacts.{SourceFacts}
use Rattle.c_header.specs.declared.identity.Identity.{Identity}
use Rattle.c_header.specs.Header.{calls_number}
use Rattle.c_file.specs.Facts.{AreFacts}
use Rattle.c_file.specs.declared.calls.FunctionCall.{FunctionCall}
use Rattle.c_file.specs.Changing.{AreChanging}
use Rattle.c_file.specs.Reached.{AreExactly}
use Rattle.c_file.specs.Source.{source_text}
use Rattle.c_file.proofs.OneCode.{same_truth}

-- what is reached has one list of flags
same_flags : {count : ℕ} {outside : ℕ → Bool} {calls : List FunctionCall} (x y : List Bool)
    → AreExactly count outside calls x → AreExactly count outside calls y → x ≡ y
same_flags x y a b =
    ext_get_or false x y (a.size ∙ sym b.size)
    (λ f within. same_truth (slice_index_or x f false) (slice_index_or y f false)
    (λ h. b.complete f (a.sound f h)) (λ h. a.complete f (b.sound f h)))

module _ (L : Labels) (functions : List Function) where
  -- so there is one text for one order and one number of calls
  pub one_text : (said : List (List ℕ)) (identity : Identity) (bounds : Bounds) (outputs notes : ℕ)
      (facts facts' : SourceFacts) (x y v w : List Bool) (order : List ℕ) → AreFacts L functions x facts → AreFacts L functions y facts'
      → AreChanging L functions v → AreChanging L functions w → calls_number facts.calls ≡ calls_number facts'.calls
      → source_text L said identity bounds outputs notes (calls_number facts.calls) functions x v order
      ≡ source_text L said identity bounds outputs notes (calls_number facts'.calls) functions y w order
  one_text said identity bounds outputs notes facts facts' x y v w order a b d e calls =
      ap (λ (written : List Bool).
      source_text L said identity bounds outputs notes (calls_number facts.calls) functions written v order)
      (same_flags x y a.reached b.reached)
      ∙ ap (λ (changing : List Bool).
      source_text L said identity bounds outputs notes (calls_number facts.calls) functions y changing order)
      (same_flags v w d e)
      ∙ ap (λ (n : ℕ). source_text L said identity bounds outputs notes n functions y w order) calls
