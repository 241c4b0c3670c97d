-- The words for copies are plain.
use Rattle.std.proofs.Common.{◌≡◌, ℕ, zero, suc, Bool, true, false, List, [], ◌∷◌, codes, Option, Some, None}
use Rattle.std.proofs.Common.{refl, slice_get}
use Rattle.std.specs.List.{list_all}
use Rattle.std.specs.Option.{option_map_or}
use Rattle.std.proofs.lemmas.Bool.{and_parts}
use Rattle.active_config.specs.Tree.{Tree}
use Rattle.actions.specs.Names.{Names}
use Rattle.actions.specs.declared.event.Event.TheVariants.{Start, Tick, Named}
use Rattle.actions.specs.declared.names.EventDecl.{EventDecl}
use Rattle.chart_lexer.specs.Words.{is_name}
use Rattle.code_fields.proofs.NameLemmas.{is_name-bytes}
use Rattle.chart_parts.specs.PartText.{state_words}
use Rattle.chart_parts.specs.Plain.{IsPlain}
use Rattle.chart_parts.proofs.PlainLemmas.{tested, plain_append, bytes_plain, state_plain}
use Rattle.code_passes.specs.declared.tag.EventTag.{EventTag}
use Rattle.code_passes.specs.declared.tag.EventTag.TheVariants.{Any, Is, Other}
use Rattle.code_passes.specs.declared.tag.Tag.{Tag}
use Rattle.trace_text.specs.Trace.{event_name}
use Rattle.c_file.specs.Comments.{event_words, home_start, home_words, shared_words, play_words, copy_words}

-- the event has a name
abbrev is_named : EventDecl → Bool
is_named e = is_name e.name

-- the name of one of many events, or nothing
event_at : (events : List EventDecl) → list_all is_named events ≡ true → (e : ℕ)
    → IsPlain (option_map_or (λ (x : EventDecl). x.name) (slice_get events e) [])
event_at [] h e = tt
event_at (x ∷ events) h zero =
    bytes_plain x.name (is_name-bytes x.name (and_parts (is_named x) (list_all is_named events) h).0)
event_at (x ∷ events) h (suc e) = event_at events (and_parts (is_named x) (list_all is_named events) h).1 e

-- what stands before a home
start_plain : (events : EventTag) → IsPlain (home_start events)
start_plain Any = tested (codes ", where the home is ") refl
start_plain (Is e) = tested (codes " and the home is ") refl
start_plain Other = tested (codes " and the home is ") refl

-- whether there are others
shared_plain : (b : Bool) → IsPlain (shared_words b)
shared_plain true = tested (codes ", and what is equal to it") refl
shared_plain false = tt

-- whether it calls what is noted
play_plain : (b : Bool) → IsPlain (play_words b)
play_plain true = tested (codes ", the actions noted there") refl
play_plain false = tt

module _ (t : Tree) (n : Names) (states : list_all is_name n.states ≡ true)
    (events : list_all is_named n.events ≡ true) where
  -- for which events
  events_plain : (tag : EventTag) → IsPlain (event_words n tag)
  events_plain Any = tt
  events_plain (Is Start) = tested (codes ", where the event is the start") refl
  events_plain (Is Tick) = tested (codes ", where the event is a tick") refl
  events_plain (Is (Named e)) =
      plain_append (codes ", where the event is ") (event_name n e) (tested (codes ", where the event is ") refl)
      (event_at n.events events e)
  events_plain Other = tested (codes ", where the event is another one") refl

  -- for which home
  home_plain : (tag : EventTag) (home : Option ℕ) → IsPlain (home_words t n tag home)
  home_plain tag None = tt
  home_plain tag (Some s) =
      plain_append (home_start tag) (state_words t n s) (start_plain tag) (state_plain t n states s)

  -- for what a copy is
  pub copy_plain : (tag : Tag) → IsPlain (copy_words t n tag)
  copy_plain tag =
      plain_append (play_words tag.plays) _ (play_plain tag.plays)
      (plain_append (event_words n tag.event) _ (events_plain tag.event)
      (plain_append (home_words t n tag.event tag.home) (shared_words tag.shared) (home_plain tag.event tag.home)
      (shared_plain tag.shared)))
