-- A text that is refused is answered with that refusal, so it has no other, and spells no chart.
use Rattle.std.proofs.Common.{◌≡◌, ◌≢◌, ℕ, ◌≤◌, List, [], ◌∷◌, ◌++◌, length, Result, Ok, Err, ◌⊎◌, inl, inr}
use Rattle.std.proofs.Common.{refl, sym, subst, ◌∙◌, append_assoc, arith}
use Rattle.std.proofs.lemmas.Bool.{cases_lt}
use Rattle.token_grammar.specs.declared.token.Span.{Span}
use Rattle.token_grammar.specs.declared.fault.TokenFault.{TokenFault}
use Rattle.token_grammar.specs.Token.{Lexeme, Outcome}
use Rattle.token_grammar.specs.Grammar.{Continues, FirstFault, whole_reads}
use Rattle.chart_lexer.specs.declared.front.Stop.{Stop}
use Rattle.chart_lexer.specs.declared.front.Stop.TheVariants as stops
use Rattle.chart_lexer.specs.Lex.{cut_of, begin}
use Rattle.chart_tree.specs.declared.fault.FormKind.{FormKind}
use Rattle.chart_tree.specs.declared.fault.FormKind.TheVariants as forms
use Rattle.chart_tree.specs.declared.fault.FormFault.{FormFault}
use Rattle.chart_tree.specs.declared.fault.FormFault.TheVariants as faults
use Rattle.chart_tree.specs.declared.limits.TheConstants.{CHART_TEXT_LIMIT}
use Rattle.chart_tree.specs.Form.{kind_of, IsTooLong}
use Rattle.chart_tree.specs.Trees.{Chart}
use Rattle.chart_grammar.specs.Limits.{usual}
use Rattle.chart_grammar.specs.States.{chart}
use Rattle.chart_grammar.proofs.TextLaws.{text_found, text_stops, text_one_fault, front_continues, one_stop}
use Rattle.chart_reader.specs.Answer.{end_kind, chart_at, answer}
use Rattle.chart_reader.specs.Text.{tokens_of, Spells, EndsEarly, StopsAt, Stops, NoToken, ReadingStops}
use Rattle.chart_reader.specs.Text.{IsRefusal}
use Rattle.chart_reader.proofs.TextLemmas.{text_answer, spelled_is_read, is_spelled, refuses}

-- ---- one chart

-- a text spells one chart, since it has one answer
pub one_chart : (text : List ℕ) (c d : Chart) → Spells text c → Spells text d → c ≡ d
one_chart text c d a b =
    let same : Ok c ≡ Ok d = sym (spelled_is_read text c a) ∙ spelled_is_read text d b in
    cc

-- the answer that is a refusal
abbrev pub refused_as : FormKind → Span → Result Chart FormFault
refused_as kind at = Err (faults.At kind at)

-- ---- where the text isn't too long

module _ (text : List ℕ) where
  -- a chart that took all tokens is refused by what stands after them
  chart_cut : (x : Chart) (stop : Stop) (at : Span) → stop ≢ stops.End
      → chart_at x stop at ≡ refused_as (end_kind stop) at
  chart_cut x stops.End at more = absurd (more refl)
  chart_cut x stops.BadByte at more = refl
  chart_cut x stops.BadToken at more = refl

  -- all tokens continue, and no token begins after them
  no_token_answered : (kind : FormKind) (at : Span) → NoToken text kind at → text_answer text ≡ refused_as kind at
  no_token_answered kind at none = by_read (whole_reads (chart usual) (tokens_of text)) refl
    where
      told : refused_as (end_kind (cut_of text).stop) (cut_of text).at ≡ refused_as kind at
      told = rw (none.kind_is, none.place) refl

      by_read : (o : Outcome Chart) → whole_reads (chart usual) (tokens_of text) ≡ o
          → answer (cut_of text).stop (cut_of text).at o ≡ refused_as kind at
      by_read (Ok x) w = chart_cut x.0 (cut_of text).stop (cut_of text).at none.cut_short ∙ told
      by_read (Err (f, [])) w = told
      by_read (Err (f, t ∷ r)) w =
          let stops = text_stops (tokens_of text) (t ∷ r) f w in
          let whole : tokens_of text ≡ (stops.before ++ t ∷ []) ++ r =
          stops.parts ∙ sym (append_assoc stops.before (t ∷ []) r) in
          absurd (stops.ends t r refl
          (front_continues (chart usual) (stops.before ++ t ∷ []) r
          (subst (Continues (chart usual)) whole none.continues)))

  -- reading stops where a fault of reading comes
  read_stops : (r : List Lexeme) → FirstFault (chart usual) (tokens_of text) r → (o : Outcome Chart)
      → whole_reads (chart usual) (tokens_of text) ≡ o
      → (f : TokenFault) × (whole_reads (chart usual) (tokens_of text) ≡ Err (f, r))
  read_stops r stops (Ok x) w = absurd (stops.unfinished x.0 (text_found (tokens_of text) x.0 x.1 w))
  read_stops r stops (Err (f, q)) w =
      let same = one_stop (chart usual) (tokens_of text) q r (text_stops (tokens_of text) q f w) stops in
      (f, subst (λ z. whole_reads (chart usual) (tokens_of text) ≡ Err (f, z)) same w)

  -- a token that doesn't continue is answered with its fault
  token_answered : (fault : TokenFault) (at : Span) → StopsAt text fault at
      → text_answer text ≡ refused_as (kind_of fault) at
  token_answered fault at h =
      let found = read_stops (h.first ∷ h.others) h.stops (whole_reads (chart usual) (tokens_of text)) refl in
      let same : found.0 ≡ fault =
      text_one_fault (tokens_of text) h.first h.others found.0 found.1 h.stops fault h.kind in
      rw (found.1, same, h.place) refl

  -- a text that ends too early is answered as Expected
  end_answered : (at : Span) → EndsEarly text at → text_answer text ≡ refused_as forms.Expected at
  end_answered at h =
      let found = read_stops [] h.fault (whole_reads (chart usual) (tokens_of text)) refl in
      rw (found.1, h.whole, h.place) refl

  -- a fault of reading is answered with its kind
  stops_answered : (fault : TokenFault) (at : Span) → Stops text fault at → text_answer text ≡ refused_as (kind_of fault) at
  stops_answered fault at (inl token) = token_answered fault at token
  stops_answered fault at (inr ended) = rw ended.0 (end_answered at ended.1)

  -- a refusal of a text that isn't too long is its answer
  within_answered : (kind : FormKind) (at : Span) → NoToken text kind at ⊎ ReadingStops text kind at
      → text_answer text ≡ refused_as kind at
  within_answered kind at (inl none) = no_token_answered kind at none
  within_answered kind at (inr h) = rw h.kind_is (stops_answered h.fault at h.stops)

-- ---- any text

-- what a text is answered with
abbrev pub Answered : List ℕ → FormKind → Span → Type 0
Answered text kind at = (length text ≤ CHART_TEXT_LIMIT) × (text_answer text ≡ refused_as kind at)

-- a refusal of a text is that of one that is too long, or what it is answered with
refusal_cases : (text : List ℕ) (kind : FormKind) (at : Span) → IsRefusal text (faults.At kind at)
    → IsTooLong text kind at ⊎ Answered text kind at
refusal_cases text kind at (inl long) = inl long
refusal_cases text kind at (inr h) = inr (h.0, within_answered text kind at h.1)

-- a text that is refused spells no chart
pub refused_spells_none : (text : List ℕ) (kind : FormKind) (at : Span) (c : Chart)
    → IsRefusal text (faults.At kind at) → Spells text c → ⊥
refused_spells_none text kind at c refused spells =
    elim (refusal_cases text kind at refused) [
      | inl long ↦ omega (arith, long.long, spells.short)
      | inr answered ↦ let both = sym (spelled_is_read text c spells) ∙ answered.1 in cc
    ]

-- and has no other refusal
pub one_refusal : (text : List ℕ) (kind other : FormKind) (at there : Span)
    → IsRefusal text (faults.At kind at) → IsRefusal text (faults.At other there) → (kind ≡ other) × (at ≡ there)
one_refusal text kind other at there a b = by_cases (refusal_cases text kind at a) (refusal_cases text other there b)
  where
    by_cases : IsTooLong text kind at ⊎ Answered text kind at → IsTooLong text other there ⊎ Answered text other there
        → (kind ≡ other) × (at ≡ there)
    by_cases (inl x) (inl y) = (x.kind_is ∙ sym y.kind_is, x.place ∙ sym y.place)
    by_cases (inl x) (inr y) = absurd (omega (arith, x.long, y.0))
    by_cases (inr x) (inl y) = absurd (omega (arith, y.long, x.0))
    by_cases (inr x) (inr y) =
        let same : refused_as kind at ≡ refused_as other there = sym x.1 ∙ y.1 in
        let kinds : kind ≡ other = cc in
        let places : at ≡ there = cc in
        (kinds, places)

-- each text spells a chart, or is refused
pub spells_or_refused : (text : List ℕ)
    → ((c : Chart) × Spells text c) ⊎ ((kind : FormKind) × (at : Span) × IsRefusal text (faults.At kind at))
spells_or_refused text =
    elim (cases_lt CHART_TEXT_LIMIT (length text)) [
      | inl long ↦ inr (forms.TextTooLong, begin, inl (record { kind_is = refl; long = long; place = refl }))
      | inr short ↦ by_answer short (text_answer text) refl
    ]
  where
    by_answer : length text ≤ CHART_TEXT_LIMIT → (a : Result Chart FormFault) → text_answer text ≡ a
        → ((c : Chart) × Spells text c) ⊎ ((kind : FormKind) × (at : Span) × IsRefusal text (faults.At kind at))
    by_answer short (Ok c) e = inl (c, is_spelled text c short e)
    by_answer short (Err (faults.At kind at)) e = inr (kind, at, refuses text (faults.At kind at) short e)
    by_answer short (Err faults.Memory) e = absurd (never_memory (whole_reads (chart usual) (tokens_of text)) e)
      where
        never_stop : (c : Chart) (stop : Stop) (at : Span) → chart_at c stop at ≡ Err faults.Memory → ⊥
        never_stop c stops.End at e = cc
        never_stop c stops.BadByte at e = cc
        never_stop c stops.BadToken at e = cc

        never_memory : (o : Outcome Chart) → answer (cut_of text).stop (cut_of text).at o ≡ Err faults.Memory → ⊥
        never_memory (Ok x) e = never_stop x.0 (cut_of text).stop (cut_of text).at e
        never_memory (Err (f, [])) e = cc
        never_memory (Err (f, t ∷ r)) e = cc
