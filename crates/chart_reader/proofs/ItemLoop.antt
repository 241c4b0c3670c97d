-- Reading the items of a state or the chart, as the loops do.
use Rattle.std.proofs.Common.{◌≡◌, ◌≤◌, ℕ, zero, suc, ◌<◌, Bool, true, false, List, [], ◌∷◌, ◌++◌, map, length}
use Rattle.std.proofs.Common.{get_or, Ok, Err, Some, refl, sym, ap, subst, ◌∙◌, arith}
use Rattle.std.proofs.lemmas.List.{map-append}
use Rattle.token_grammar.specs.declared.token.Kind.{Kind}
use Rattle.token_grammar.specs.declared.token.Kind.TheVariants as kinds
use Rattle.token_grammar.specs.declared.token.Token.{Token}
use Rattle.token_grammar.specs.declared.fault.ReadError.{ReadError}
use Rattle.token_grammar.specs.declared.fault.TokenFault.TheVariants as faults
use Rattle.token_grammar.specs.Token.{Lexeme, lexemes, Outcome, Fails}
use Rattle.token_grammar.specs.Grammar.{Grammar, heads, is, many_from}
use Rattle.token_grammar.proofs.Good.{Set, Good}
use Rattle.token_grammar.proofs.Loop.{fewer}
use Rattle.token_grammar.proofs.Allowed.{refused_always}
use Rattle.chart_grammar.specs.Limits.{Limits, Counts, Counted}
use Rattle.chart_grammar.specs.States as grammar
use Rattle.chart_grammar.specs.States.{Seen, nothing_seen, after_item, beginning, no_state, state}
use Rattle.chart_grammar.proofs.ReadingLaws.{beginning_read}
use Rattle.chart_reader.specs.declared.content.Item.{Item}
use Rattle.chart_reader.specs.declared.content.Seen as code
use Rattle.chart_reader.specs.Items.{item_of, seen_of}
use Rattle.chart_reader.specs.Told.{told}
use Rattle.chart_reader.proofs.TokenLemmas.{token_refused}
use Rattle.chart_reader.proofs.ToldLoop.{behind, told_begins, told_goes_on, told_fails, told_ends}

-- the set of the first token
pub first_in : (ts : List Token) (d : Token) (set : Kind → Bool) (r : Bool) → 1 ≤ length ts
    → r ≡ set (get_or ts 0 d).kind → r ≡ heads set (lexemes ts)
first_in [] d set r long e = absurd (omega arith)
first_in (t ∷ ts) d set r long e = e

-- ---- states at the bottom

-- where no state may be nested, one is refused at its keyword
pub no_state_at : (n : Counts) (s : List Lexeme) → heads (is kinds.State) s ≡ true
    → (no_state n).reads s ≡ Err (faults.NestTooDeep, s)
unfolding no_state
no_state_at n s h = rw (refused_always (is kinds.State) (Some faults.NestTooDeep) s, h) refl

-- and anything else is Expected
pub no_state_other : (n : Counts) (s : List Lexeme) → heads (is kinds.State) s ≡ false
    → (no_state n).reads s ≡ Err (faults.Expected, s)
unfolding no_state
no_state_other n s h =
    rw (refused_always (is kinds.State) (Some faults.NestTooDeep) s, h, token_refused s kinds.State h) refl

-- at depth 0 there is no state
pub state_none : (l : Limits) (d : ℕ) (n : Counts) (s : List Lexeme) → d ≡ 0
    → (state l d n).reads s ≡ (no_state n).reads s
unfolding state
state_none l zero n s e = refl
state_none l (suc d) n s e = absurd (omega arith)

-- ---- any number of items

module _ (set : Seen → Set) (inner : Seen → Grammar (Counted grammar.Item)) {m : Set}
    (good : (z : Seen) → Good (beginning (set z) (inner z)) (set z) false m)
    (plain : (z : Seen) (s : List Lexeme) → (inner z).reads s ≡ (inner (nothing_seen z.counts)).reads s) where
  -- an item where it may stand
  abbrev pub next : Seen → Grammar (Counted grammar.Item)
  next z = beginning (set z) (inner z)

  -- items one after the other
  abbrev pub all : Seen → Grammar (List (Counted grammar.Item))
  all z = many_from set next after_item z

  -- an item that may stand there is read as any
  next_read : (seen : code.Seen) (n : Counts) (s : List Lexeme) → heads (set (seen_of seen n)) s ≡ true
      → (next (seen_of seen n)).reads s ≡ (inner (nothing_seen n)).reads s
  next_read seen n s here =
      beginning_read (inner (seen_of seen n)) (set (seen_of seen n)) s here ∙ plain (seen_of seen n) s

  -- before the first item nothing is counted
  pub items_begin : (seen : code.Seen) (n : Counts) (found : List Item) (s : List Lexeme)
      → seen_of seen n ≡ nothing_seen n → found ≡ []
      → behind (map item_of found) (told n ((all (seen_of seen n)).reads s)) ≡ told n ((all (nothing_seen n)).reads s)
  items_begin seen n found s none empty =
      ap (λ (z : Seen). behind (map item_of found) (told n ((all z).reads s))) none
      ∙ ap (λ (xs : List Item). behind (map item_of xs) (told n ((all (nothing_seen n)).reads s))) empty
      ∙ told_begins (told n ((all (nothing_seen n)).reads s))

  -- one more item was read
  pub items_go_on : (seen after : code.Seen) (n n' : Counts) (found : List Item) (x : Item) (pushed : List Item)
      (s r : List Lexeme)
      (total : Outcome (Counted (List grammar.Item)))
      → heads (set (seen_of seen n)) s ≡ true
      → (inner (nothing_seen n)).reads s ≡ Ok (record { value = item_of x; counts = n' }, r)
      → behind (map item_of found) (told n ((all (seen_of seen n)).reads s)) ≡ total
      → seen_of after n' ≡ after_item (seen_of seen n) (record { value = item_of x; counts = n' })
      → pushed ≡ found ++ x ∷ []
      → behind (map item_of pushed) (told n' ((all (seen_of after n')).reads r)) ≡ total
  items_go_on seen after n n' found x pushed s r total here one so_far later pushed_is =
      let more : map item_of pushed ≡ map item_of found ++ item_of x ∷ [] =
      ap (map item_of) pushed_is ∙ map-append item_of found (x ∷ []) in
      ap (λ (z : Seen). behind (map item_of pushed) (told n' ((all z).reads r))) later
      ∙ ap (λ (xs : List grammar.Item). behind xs
      (told n' ((all (after_item (seen_of seen n) (record { value = item_of x; counts = n' }))).reads r))) more
      ∙ told_goes_on set next after_item good (seen_of seen n) n (map item_of found) s
      (record { value = item_of x; counts = n' }) r total here
      (next_read seen n s here ∙ one) so_far

  -- an item has a fault, and so have the items
  pub items_fail : (err : ReadError) (seen : code.Seen) (n : Counts) (found : List Item) (s r : List Lexeme)
      (total : Outcome (Counted (List grammar.Item)))
      → heads (set (seen_of seen n)) s ≡ true → Fails err r ((inner (nothing_seen n)).reads s)
      → behind (map item_of found) (told n ((all (seen_of seen n)).reads s)) ≡ total → Fails err r total
  items_fail err seen n found s r total here one so_far =
      told_fails set next after_item good err (seen_of seen n) n (map item_of found) s r total here
      (subst (Fails err r) (sym (next_read seen n s here)) one) so_far

  -- no item is at hand
  pub items_end : (seen : code.Seen) (n : Counts) (found : List Item) (s : List Lexeme)
      (total : Outcome (Counted (List grammar.Item)))
      → heads (set (seen_of seen n)) s ≡ false
      → behind (map item_of found) (told n ((all (seen_of seen n)).reads s)) ≡ total
      → total ≡ Ok (record { value = map item_of found; counts = n }, s)
  items_end seen n found s total none so_far =
      told_ends set next after_item good (seen_of seen n) n (map item_of found) s total none so_far

  -- an item takes a token at least
  pub items_fewer : (seen : code.Seen) (n : Counts) (x : Counted grammar.Item) (old new : List Token)
      → heads (set (seen_of seen n)) (lexemes old) ≡ true
      → (inner (nothing_seen n)).reads (lexemes old) ≡ Ok (x, lexemes new) → length new < length old
  items_fewer seen n x old new here one =
      fewer (good (seen_of seen n)) old new x (next_read seen n (lexemes old) here ∙ one)
