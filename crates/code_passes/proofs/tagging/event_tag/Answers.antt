use Rattle.std.proofs.Common.{length, sym, ap, ◌∙◌}
use Rattle.std.proofs.lemmas.Bool.{eqb-true, eqb-false}
use Rattle.code_copies.specs.Facts.{IsNoneOf}
use Rattle.code_copies.specs.Views.{event_fact_of}
use Rattle.code_copies.specs.declared.known.EventFact.{EventFact}
use Rattle.code_passes.specs.Tags.{event_tag}
use Rattle.code_passes.proofs.TagLemmas.{any_tag, other_tag}
use Rattle.code_passes.proofs.tagging.event_tag.Goals as goal

-- no event is ruled out
pub returns-then-is_empty : goal.returns-then-is_empty
returns-then-is_empty c =
    let events = c.events_of.result.now in
    sym (any_tag events (eqb-true (length events) 0 (sym c.is_empty.ensures ∙ c.if-is_empty.true)))
    ∙ ap (λ l. event_tag (IsNoneOf l)) c.events_of.ensures
    ∙ ap (λ (e : EventFact). event_tag (event_fact_of c.args.sets.now e)) (sym c.in-NoneOf.is)

-- some events are
pub returns-else-is_empty : goal.returns-else-is_empty
returns-else-is_empty c =
    let events = c.events_of.result.now in
    sym (other_tag events (eqb-false (length events) 0 (sym c.is_empty.ensures ∙ c.if-is_empty.false)))
    ∙ ap (λ l. event_tag (IsNoneOf l)) c.events_of.ensures
    ∙ ap (λ (e : EventFact). event_tag (event_fact_of c.args.sets.now e)) (sym c.in-NoneOf.is)
