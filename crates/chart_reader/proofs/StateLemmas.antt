-- States and charts read from their items.
use Rattle.std.proofs.Common.{◌≡◌, List, Ok, Err, refl, ◌∙◌}
use Rattle.token_grammar.specs.declared.fault.ReadError.{ReadError}
use Rattle.token_grammar.specs.declared.fault.ReadError.TheVariants as errors
use Rattle.token_grammar.specs.declared.token.Kind.TheVariants as kinds
use Rattle.token_grammar.specs.Token.{Lexeme, Outcome, Fails}
use Rattle.token_grammar.specs.Grammar.{and_then, token}
use Rattle.chart_tree.specs.declared.name.NameText.{NameText}
use Rattle.chart_tree.specs.declared.state.CompText.{CompText}
use Rattle.chart_tree.specs.Trees.{State, Chart}
use Rattle.chart_grammar.specs.Limits.{Counts, Counted, usual}
use Rattle.chart_grammar.specs.Words.{name}
use Rattle.chart_grammar.specs.States.{StateGrammar, Item, nothing_seen, items, chart_items, sorted, state_with}
use Rattle.chart_grammar.specs.States.{chart_with, maybe_comp, state_body, state, at_begin, chart, values}
use Rattle.chart_grammar.specs.States.{counts_behind}
use Rattle.chart_reader.specs.Parts.{closed_by, counted, head}
use Rattle.chart_reader.specs.Told.{told}
use Rattle.chart_reader.proofs.ToldLoop.{told_more}

-- ---- what stands before the items, and then more

-- the name and how it is composed
abbrev as_head : NameText → CompText → List Lexeme → Outcome (NameText × CompText)
as_head called comp r = Ok ((called, comp), r)

-- the brace, and then more
brace_then : {Y : Type 0} (called : NameText) (comp : CompText) (read : Outcome Lexeme)
    (more : NameText → CompText → List Lexeme → Outcome Y)
    → and_then read (λ t r. more called comp r)
    ≡ and_then (and_then read (λ t r. as_head called comp r)) (λ h r. more h.0 h.1 r)
brace_then called comp (Ok x) more = refl
brace_then called comp (Err e) more = refl

-- the same after the name
comp_then : {Y : Type 0} (called : NameText) (read : Outcome CompText) (brace : List Lexeme → Outcome Lexeme)
    (more : NameText → CompText → List Lexeme → Outcome Y)
    → and_then read (λ comp q. and_then (brace q) (λ t r. more called comp r))
    ≡ and_then (and_then read (λ comp q. and_then (brace q) (λ t r. as_head called comp r))) (λ h r. more h.0 h.1 r)
comp_then called (Ok x) brace more = brace_then called x.0 (brace x.1) more
comp_then called (Err e) brace more = refl

-- the same with the name
name_then : {Y : Type 0} (read : Outcome NameText) (comp : List Lexeme → Outcome CompText)
    (brace : List Lexeme → Outcome Lexeme) (more : NameText → CompText → List Lexeme → Outcome Y)
    → and_then read (λ called p. and_then (comp p) (λ c q. and_then (brace q) (λ t r. more called c r)))
    ≡ and_then (and_then read (λ called p. and_then (comp p) (λ c q. and_then (brace q) (λ t r. as_head called c r))))
    (λ h r. more h.0 h.1 r)
name_then (Ok x) comp brace more = comp_then x.0 (comp x.1) brace more
name_then (Err e) comp brace more = refl

-- the same of the tokens
head_then : {Y : Type 0} (s : List Lexeme) (more : NameText → CompText → List Lexeme → Outcome Y)
    → and_then (name.reads s)
    (λ called p. and_then (maybe_comp.reads p)
    (λ c q. and_then ((token kinds.OpenBrace).reads q) (λ t r. more called c r)))
    ≡ and_then (head.reads s) (λ h r. more h.0 h.1 r)
unfolding head
head_then s more = name_then (name.reads s) maybe_comp.reads (token kinds.OpenBrace).reads more

-- what fails, fails with more behind it
pub fails_then : {X Y : Type 0} (err : ReadError) (r : List Lexeme) (read : Outcome X)
    (more : X → List Lexeme → Outcome Y) → Fails err r read → Fails err r (and_then read more)
fails_then errors.Memory r read more h = tt
fails_then (errors.Fault f) r read more h = rw h refl

-- ---- states

-- what is made of a state's items, after their brace
abbrev state_ended : NameText → CompText → Counted (List Item) → List Lexeme → Outcome (Counted State)
state_ended called comp y r =
    (closed_by kinds.CloseBrace (counted y.counts (state_with (sorted called comp y.value)))).reads r

-- what stands behind the first brace of a state
abbrev state_behind : StateGrammar → Counts → NameText → CompText → List Lexeme → Outcome (Counted State)
state_behind st n called comp r =
    and_then ((items usual st (nothing_seen n)).reads r)
    (λ found q. state_ended called comp (record { value = values found; counts = counts_behind n found }) q)

-- a state's parts, one after the other
body_parts : (st : StateGrammar) (n : Counts) (s : List Lexeme)
    → (state_body usual st n).reads s ≡ and_then (head.reads s) (λ h r. state_behind st n h.0 h.1 r)
unfolding state_body
body_parts st n s = head_then s (state_behind st n)

-- a state fails where what stands before its items does
pub body_unopened : (st : StateGrammar) (n : Counts) (err : ReadError) (s r : List Lexeme) → Fails err r (head.reads s)
    → Fails err r ((state_body usual st n).reads s)
body_unopened st n err s r h =
    rw (body_parts st n s) (fails_then err r (head.reads s) (λ h r. state_behind st n h.0 h.1 r) h)

module _ (st : StateGrammar) (n k : Counts) (same : k ≡ n) (s p : List Lexeme) (called : NameText) (comp : CompText)
    (opened : head.reads s ≡ Ok ((called, comp), p)) where
  -- after them come the items
  body_opened : (state_body usual st n).reads s
      ≡ and_then (told k ((items usual st (nothing_seen k)).reads p)) (λ y r. state_ended called comp y r)
  body_opened =
      body_parts st n s
      ∙ rw (opened, same) (told_more n ((items usual st (nothing_seen n)).reads p) (λ y r. state_ended called comp y r))

  -- a state fails where its items do
  pub body_fails : (err : ReadError) (r : List Lexeme)
      → Fails err r (told k ((items usual st (nothing_seen k)).reads p))
      → Fails err r ((state_body usual st n).reads s)
  body_fails err r h =
      rw body_opened
      (fails_then err r (told k ((items usual st (nothing_seen k)).reads p)) (λ y r. state_ended called comp y r) h)

  -- after its items a state is closed
  pub body_closed : (q : List Lexeme) (xs : List Item) (m : Counts)
      → told k ((items usual st (nothing_seen k)).reads p) ≡ Ok (record { value = xs; counts = m }, q)
      → (state_body usual st n).reads s
      ≡ (closed_by kinds.CloseBrace (counted m (state_with (sorted called comp xs)))).reads q
  body_closed q xs m e = body_opened ∙ rw e refl

  -- after its last brace a state is read
  pub body_read : (q : List Lexeme) (xs : List Item) (m : Counts)
      → told k ((items usual st (nothing_seen k)).reads p) ≡ Ok (record { value = xs; counts = m }, q)
      → (r : List Lexeme) (v : State) (j : Counts) → j ≡ m
      → (closed_by kinds.CloseBrace (counted m (state_with (sorted called comp xs)))).reads q ≡ Ok (counted m v, r)
      → (state_body usual st n).reads s ≡ Ok (counted j v, r)
  body_read q xs m e r v j kept closed = rw (body_closed q xs m e, closed, kept) refl

-- ---- charts

-- what is made of a chart's items, after their brace
abbrev chart_ended : NameText → CompText → Counted (List Item) → List Lexeme → Outcome Chart
chart_ended called comp y r = (closed_by kinds.CloseBrace (chart_with (sorted called comp y.value))).reads r

-- what stands behind the first brace of a chart
abbrev chart_behind : NameText → CompText → List Lexeme → Outcome Chart
chart_behind called comp r =
    and_then ((chart_items usual (state usual usual.depth) (nothing_seen at_begin)).reads r)
    (λ found q. chart_ended called comp (record { value = values found; counts = counts_behind at_begin found }) q)

module _ (s r0 : List Lexeme) (t : Lexeme) (begun : (token kinds.Chart).reads s ≡ Ok (t, r0)) where
  -- a chart's parts, one after the other, behind its word
  chart_parts : (chart usual).reads s ≡ and_then (head.reads r0) (λ h r. chart_behind h.0 h.1 r)
  unfolding chart
  chart_parts = rw begun (head_then r0 chart_behind)

  -- a chart fails where what stands before its items does
  pub chart_unopened : (err : ReadError) (r : List Lexeme) → Fails err r (head.reads r0)
      → Fails err r ((chart usual).reads s)
  chart_unopened err r h =
      rw chart_parts (fails_then err r (head.reads r0) (λ h r. chart_behind h.0 h.1 r) h)

  module _ (n : Counts) (same : n ≡ at_begin) (p : List Lexeme) (called : NameText) (comp : CompText)
      (opened : head.reads r0 ≡ Ok ((called, comp), p)) where
    -- after them come the items
    chart_opened : (chart usual).reads s
        ≡ and_then (told n ((chart_items usual (state usual usual.depth) (nothing_seen n)).reads p))
        (λ y r. chart_ended called comp y r)
    chart_opened =
        chart_parts
        ∙ rw (opened, same) (told_more at_begin
        ((chart_items usual (state usual usual.depth) (nothing_seen at_begin)).reads p)
        (λ y r. chart_ended called comp y r))

    -- a chart fails where its items do
    pub chart_fails : (err : ReadError) (r : List Lexeme)
        → Fails err r (told n ((chart_items usual (state usual usual.depth) (nothing_seen n)).reads p))
        → Fails err r ((chart usual).reads s)
    chart_fails err r h =
        rw chart_opened
        (fails_then err r (told n ((chart_items usual (state usual usual.depth) (nothing_seen n)).reads p))
        (λ y r. chart_ended called comp y r) h)

    -- after its items a chart is closed
    pub chart_closed : (q : List Lexeme) (xs : List Item) (m : Counts)
        → told n ((chart_items usual (state usual usual.depth) (nothing_seen n)).reads p)
        ≡ Ok (record { value = xs; counts = m }, q)
        → (chart usual).reads s ≡ (closed_by kinds.CloseBrace (chart_with (sorted called comp xs))).reads q
    chart_closed q xs m e = chart_opened ∙ rw e refl
