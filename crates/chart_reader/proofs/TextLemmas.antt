-- What the answer of reading says of the text.
use Rattle.std.proofs.Common.{◌≡◌, ◌≢◌, ℕ, IfOk, IfErr, ◌≤◌, Bool, true, false, not, List, [], ◌∷◌, length, suc, Ok}
use Rattle.std.proofs.Common.{Err, Result, All, refl, sym, ap, subst, ◌∙◌, inl, inr, arith}
use Rattle.std.proofs.lemmas.Bool.{and_from}
use Rattle.std.specs.List.{filter, list_all}
use Rattle.token_grammar.specs.declared.token.Kind.TheVariants as kinds
use Rattle.token_grammar.specs.declared.token.Span.{Span}
use Rattle.token_grammar.specs.declared.fault.TokenFault.{TokenFault}
use Rattle.token_grammar.specs.declared.fault.TokenFault.TheVariants as reading
use Rattle.token_grammar.specs.declared.token.Token.{Token}
use Rattle.token_grammar.specs.Token.{Lexeme, lexemes, Outcome, kind_eq}
use Rattle.token_grammar.specs.Grammar.{Continues, FirstFault, whole_reads}
use Rattle.token_grammar.proofs.Tokens.{kind_eq-true}
use Rattle.chart_lexer.specs.declared.front.Stop.{Stop}
use Rattle.chart_lexer.specs.declared.front.Stop.TheVariants as stops
use Rattle.chart_lexer.specs.Words.{is_name}
use Rattle.chart_lexer.specs.declared.lexer.Lexed.{Lexed}
use Rattle.chart_lexer.specs.Lex.{Lexemes, cut_of, seen}
use Rattle.chart_lexer.proofs.TokenNames.{has_names}
use Rattle.chart_tree.specs.declared.fault.FormKind.TheVariants as forms
use Rattle.chart_tree.specs.declared.fault.FormFault.{FormFault}
use Rattle.chart_tree.specs.declared.fault.FormFault.TheVariants as faults
use Rattle.chart_tree.specs.declared.chart.ChartText.{ChartText}
use Rattle.chart_tree.specs.declared.limits.TheConstants.{CHART_TEXT_LIMIT}
use Rattle.chart_tree.specs.Trees.{Chart}
use Rattle.chart_tree.specs.Views.{chart_of}
use Rattle.chart_grammar.specs.Limits.{usual}
use Rattle.chart_grammar.specs.States.{chart}
use Rattle.chart_grammar.proofs.TextLaws.{text_found, text_only, text_stops, text_fault, found_continues}
use Rattle.chart_grammar.proofs.TextLaws.{ended_continues}
use Rattle.chart_reader.specs.Named.{is_named, AreNamed}
use Rattle.chart_reader.specs.Answer.{end_kind, fault_at, chart_at, answer, IsAnswer}
use Rattle.chart_reader.specs.Text.{tokens_of, Spells, StopsAt, IsRefusal, IsReadAs}

-- ---- names

-- a token that has a name where its kind is Name
named_token : (t : Lexeme) → (t.kind ≡ kinds.Name → is_name t.text ≡ true) → is_named t ≡ true
named_token t h = either_kind (kind_eq t.kind kinds.Name) refl
  where
    either_kind : (b : Bool) → kind_eq t.kind kinds.Name ≡ b → is_named t ≡ true
    either_kind true e = rw (e, h (kind_eq-true t.kind kinds.Name e)) refl
    either_kind false e = rw e refl

-- what is kept of named tokens is named
kept_named : (keeps : Lexeme → Bool) (ts : List Lexeme)
    → All (λ (t : Lexeme). t.kind ≡ kinds.Name → is_name t.text ≡ true) ts
    → list_all is_named (filter keeps ts) ≡ true
kept_named keeps [] h = refl
kept_named keeps (t ∷ ts) h =
    one (keeps t) refl (named_token t (h 0 t (omega arith))) (kept_named keeps ts (λ k d lt. h (suc k) d (omega arith)))
  where
    one : (b : Bool) → keeps t ≡ b → is_named t ≡ true → list_all is_named (filter keeps ts) ≡ true
        → list_all is_named (filter keeps (t ∷ ts)) ≡ true
    one true e here rest = rw e (and_from _ _ here rest)
    one false e here rest = rw e rest

-- the tokens of a text
pub tokens_named : (text : List ℕ) → AreNamed (tokens_of text)
unfolding tokens_of
tokens_named text = kept_named (λ t. not (kind_eq t.kind kinds.Comment)) (cut_of text).tokens (has_names text)

-- ---- what is read

-- the chart that was answered took all tokens, and the text ends after them
pub is_spelled : (text : List ℕ) (c : Chart) → length text ≤ CHART_TEXT_LIMIT
    → answer (cut_of text).stop (cut_of text).at (whole_reads (chart usual) (tokens_of text)) ≡ Ok c → Spells text c
is_spelled text c short e = by_read (whole_reads (chart usual) (tokens_of text)) refl e
  where
    by_stop : (x : Chart) (r : List Lexeme) (stop : Stop) → (cut_of text).stop ≡ stop
        → whole_reads (chart usual) (tokens_of text) ≡ Ok (x, r)
        → chart_at x stop (cut_of text).at ≡ Ok c → Spells text c
    by_stop x r stops.End s w h =
        let same : x ≡ c = cc in
        record {
          short = short;
          whole = s;
          spelled = subst ((chart usual).spells (tokens_of text)) same
              (text_found (tokens_of text) x r w);
        }
    by_stop x r stops.BadByte s w h = absurd cc
    by_stop x r stops.BadToken s w h = absurd cc

    by_read : (o : Outcome Chart) → whole_reads (chart usual) (tokens_of text) ≡ o
        → answer (cut_of text).stop (cut_of text).at o ≡ Ok c → Spells text c
    by_read (Ok x) w h = by_stop x.0 x.1 (cut_of text).stop refl w h
    by_read (Err f) w h = absurd cc

-- the chart that a text spells is answered
pub spelled_is_read : (text : List ℕ) (c : Chart) → Spells text c
    → answer (cut_of text).stop (cut_of text).at (whole_reads (chart usual) (tokens_of text)) ≡ Ok c
spelled_is_read text c spells = rw (spells.whole, text_only (tokens_of text) c spells.spelled) refl

-- ---- refusals

-- where a token is left
stops_at : (text : List ℕ) (fault : TokenFault) (t : Lexeme) (r : List Lexeme)
    → whole_reads (chart usual) (tokens_of text) ≡ Err (fault, t ∷ r)
    → StopsAt text fault t.at
stops_at text fault t r w =
    let stops = text_stops (tokens_of text) (t ∷ r) fault w in
    record { first = t; others = r; stops = stops; kind = text_fault (tokens_of text) t r fault w stops; place = refl }

-- it is refused with its fault
token_refused : (text : List ℕ) (fault : TokenFault) (t : Lexeme) (r : List Lexeme) (stop : Stop) (at : Span)
    → length text ≤ CHART_TEXT_LIMIT → StopsAt text fault t.at → IsRefusal text (fault_at fault (t ∷ r) stop at)
token_refused text fault t r stop at short h =
    inr (short, inr (record { fault = fault; kind_is = refl; stops = inl h }))

-- after tokens that continue, a text that doesn't end there is refused by what stands there
none_refused : (text : List ℕ) (stop : Stop) → length text ≤ CHART_TEXT_LIMIT → (cut_of text).stop ≡ stop
    → stop ≢ stops.End
    → Continues (chart usual) (tokens_of text) → IsRefusal text (faults.At (end_kind stop) (cut_of text).at)
none_refused text stop short s more continues =
    inr (
      short,
      inl (record {
        cut_short = λ e. more (sym s ∙ e);
        kind_is = ap end_kind (sym s);
        continues = continues;
        place = refl;
      }),
    )

-- no token is left
end_refused : (text : List ℕ) (fault : TokenFault) (stop : Stop) → length text ≤ CHART_TEXT_LIMIT → (cut_of text).stop ≡ stop
    → whole_reads (chart usual) (tokens_of text) ≡ Err (fault, [])
    → IsRefusal text (fault_at fault [] stop (cut_of text).at)
end_refused text fault stop short s w = by_stop stop s
  where
    stopped : FirstFault (chart usual) (tokens_of text) []
    stopped = text_stops (tokens_of text) [] fault w

    by_stop : (z : Stop) → (cut_of text).stop ≡ z → IsRefusal text (faults.At (end_kind z) (cut_of text).at)
    by_stop stops.End e =
        inr (
          short,
          inr (record {
            fault = reading.Expected;
            kind_is = refl;
            stops = inr (refl, record { whole = e; fault = stopped; place = refl });
          }),
        )
    by_stop stops.BadByte e =
        none_refused text stops.BadByte short e (λ end. cc) (ended_continues (tokens_of text) stopped)
    by_stop stops.BadToken e =
        none_refused text stops.BadToken short e (λ end. cc) (ended_continues (tokens_of text) stopped)

-- a chart was read, and something else than the end stands after it
chart_refused : (text : List ℕ) (x : Chart) (r : List Lexeme) (stop : Stop) (e : FormFault)
    → length text ≤ CHART_TEXT_LIMIT
    → (cut_of text).stop ≡ stop → whole_reads (chart usual) (tokens_of text) ≡ Ok (x, r)
    → chart_at x stop (cut_of text).at ≡ Err e → IsRefusal text e
chart_refused text x r stops.End e short s w h = absurd cc
chart_refused text x r stops.BadByte e short s w h =
    let same : faults.At forms.BadByte (cut_of text).at ≡ e = cc in
    let refused = none_refused text stops.BadByte short s (λ end. cc) (found_continues (tokens_of text) x r w) in
    subst (IsRefusal text) same refused
chart_refused text x r stops.BadToken e short s w h =
    let same : faults.At forms.BadToken (cut_of text).at ≡ e = cc in
    let refused = none_refused text stops.BadToken short s (λ end. cc) (found_continues (tokens_of text) x r w) in
    subst (IsRefusal text) same refused

-- the fault that was answered has its cause and its place
pub refuses : (text : List ℕ) (e : FormFault) → length text ≤ CHART_TEXT_LIMIT
    → answer (cut_of text).stop (cut_of text).at (whole_reads (chart usual) (tokens_of text)) ≡ Err e → IsRefusal text e
refuses text e short h = by_read (whole_reads (chart usual) (tokens_of text)) refl h
  where
    by_rest : (fault : TokenFault) (r : List Lexeme) → whole_reads (chart usual) (tokens_of text) ≡ Err (fault, r)
        → IsRefusal text (fault_at fault r (cut_of text).stop (cut_of text).at)
    by_rest fault [] w = end_refused text fault (cut_of text).stop short refl w
    by_rest fault (t ∷ r) w =
        token_refused text fault t r (cut_of text).stop (cut_of text).at short (stops_at text fault t r w)

    by_read : (o : Outcome Chart) → whole_reads (chart usual) (tokens_of text) ≡ o
        → answer (cut_of text).stop (cut_of text).at o ≡ Err e → IsRefusal text e
    by_read (Ok x) w a = chart_refused text x.0 x.1 (cut_of text).stop e short refl w a
    by_read (Err f) w a =
        let same : fault_at f.0 f.1 (cut_of text).stop (cut_of text).at ≡ e = cc in
        subst (IsRefusal text) same (by_rest f.0 f.1 w)

-- ---- what the code returns

-- what the text answers
abbrev pub text_answer : List ℕ → Result Chart FormFault
text_answer text = answer (cut_of text).stop (cut_of text).at (whole_reads (chart usual) (tokens_of text))

-- the tokens that are read are those of the text
pub tokens_are : (l : Lexed) (text : List ℕ) (cut kept given : List Token) → seen l ≡ cut_of text → cut ≡ l.tokens.items
    → lexemes kept ≡ filter (λ t. not (kind_eq t.kind kinds.Comment)) (lexemes cut) → given ≡ kept
    → lexemes given ≡ tokens_of text
unfolding tokens_of
tokens_are l text cut kept given seen_is cut_is kept_is given_is =
    ap (λ (ts : List Token). lexemes ts) given_is ∙ kept_is
    ∙ ap (λ (ts : List Token). filter (λ t. not (kind_eq t.kind kinds.Comment)) (lexemes ts)) cut_is
    ∙ ap (λ (z : Lexemes). filter (λ t. not (kind_eq t.kind kinds.Comment)) z.tokens) seen_is

-- and so is what was answered
pub answer_is : (l : Lexed) (text : List ℕ) (result : Result ChartText FormFault) (s : List Lexeme)
    → seen l ≡ cut_of text → s ≡ tokens_of text
    → IsAnswer result (answer l.stop l.at (whole_reads (chart usual) s)) → IsAnswer result (text_answer text)
answer_is l text result s seen_is same h =
    let e : answer l.stop l.at (whole_reads (chart usual) s) ≡ text_answer text =
    ap (λ (z : Lexemes). answer z.stop z.at (whole_reads (chart usual) s)) seen_is
    ∙ ap (λ (ts : List Lexeme). answer (cut_of text).stop (cut_of text).at (whole_reads (chart usual) ts)) same in
    subst (IsAnswer result) e h

-- a chart that is returned is spelled
pub returns_found : (text : List ℕ) (result : Result ChartText FormFault) → length text ≤ CHART_TEXT_LIMIT
    → IsAnswer result (text_answer text)
    → IfOk result (λ c. Spells text (chart_of c))
returns_found text (Ok c) short h = is_spelled text (chart_of c) short h
returns_found text (Err e) short h = tt

-- a chart that is spelled is returned
pub returns_only : (text : List ℕ) (result : Result ChartText FormFault) → IsAnswer result (text_answer text)
    → (c : Chart) → Spells text c → IsReadAs c result
returns_only text (Ok d) h c spells = let same = sym h ∙ spelled_is_read text c spells in cc
returns_only text (Err faults.Memory) h c spells = tt
returns_only text (Err (faults.At kind at)) h c spells = let bad = sym h ∙ spelled_is_read text c spells in cc

-- a fault that is returned is a refusal
pub returns_refused : (text : List ℕ) (result : Result ChartText FormFault) → length text ≤ CHART_TEXT_LIMIT
    → IsAnswer result (text_answer text)
    → IfErr result (IsRefusal text)
returns_refused text (Ok c) short h = tt
returns_refused text (Err faults.Memory) short h = tt
returns_refused text (Err (faults.At kind at)) short h = refuses text (faults.At kind at) short h
