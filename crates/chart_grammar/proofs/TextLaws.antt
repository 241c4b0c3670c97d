-- A whole chart text: what is read is spelled so, what is spelled is read, and which fault stops another text.
use Rattle.std.proofs.Common.{◌≡◌, ◌≢◌, ℕ, ◌+◌, ◌≤◌, ◌<◌, ◌==◌, if◌then◌else◌, Bool, true, false, List, [], ◌∷◌, ◌++◌}
use Rattle.std.proofs.Common.{Ok, Err, refl, sym, ap, subst, ◌∙◌, append_assoc, inl, inr, ◌⊎◌, arith}
use Rattle.std.proofs.lemmas.List.{append-nil, append_cancel_right}
use Rattle.std.proofs.lemmas.Bool.{le-leb, lt-leb, cases_lt}
use Rattle.token_grammar.specs.declared.fault.TokenFault.{TokenFault}
use Rattle.token_grammar.specs.declared.fault.TokenFault.TheVariants as faults
use Rattle.token_grammar.specs.declared.fault.Thing.TheVariants as things
use Rattle.token_grammar.specs.Token.{Lexeme}
use Rattle.token_grammar.specs.Grammar.{Grammar, Continues, FirstFault, whole_reads}
use Rattle.token_grammar.proofs.Faults.{whole_found, whole_only, whole_fault}
use Rattle.token_grammar.proofs.LiftedTexts.{whole_lifted, whole_ends, whole_kept}
use Rattle.chart_tree.specs.Trees.{Chart}
use Rattle.chart_grammar.specs.Limits.{Limits, usual, rank, lifts_from, LiftedBound, LiftedFrom}
use Rattle.chart_grammar.specs.States.{chart}
use Rattle.chart_grammar.specs.Refusals.{IsFaultOf}
use Rattle.chart_grammar.proofs.StateLaws.{fine_chart}
use Rattle.chart_grammar.proofs.LiftedStates.{eased_chart}

-- ---- ranks

-- a fault of a limit has a rank of its own
limit_rank : (f : TokenFault) → f ≢ faults.Expected → 1 ≤ rank f
limit_rank faults.Expected other = absurd (other refl)
limit_rank faults.LiteralTooLong other = omega arith
limit_rank faults.LiteralNotBinary other = omega arith
limit_rank faults.NestTooDeep other = omega arith
limit_rank (faults.TooMany things.States) other = omega arith
limit_rank (faults.TooMany things.Junctions) other = omega arith
limit_rank (faults.TooMany things.Transitions) other = omega arith
limit_rank (faults.TooMany things.Variables) other = omega arith
limit_rank (faults.TooMany things.Events) other = omega arith
limit_rank (faults.TooMany things.Statements) other = omega arith
limit_rank (faults.TooMany things.Operators) other = omega arith
limit_rank (faults.TooMany things.Items) other = omega arith

-- the fault of a rank
abbrev of_rank : ℕ → TokenFault
of_rank n =
    if n == 0 then faults.Expected else
    if n == 1 then faults.LiteralTooLong else
    if n == 2 then faults.LiteralNotBinary else
    if n == 3 then faults.NestTooDeep else
    if n == 4 then faults.TooMany things.States else
    if n == 5 then faults.TooMany things.Junctions else
    if n == 6 then faults.TooMany things.Transitions else
    if n == 7 then faults.TooMany things.Variables else
    if n == 8 then faults.TooMany things.Events else
    if n == 9 then faults.TooMany things.Statements else
    if n == 10 then faults.TooMany things.Operators else
    faults.TooMany things.Items

-- each fault is that of its rank
of_rank-rank : (f : TokenFault) → of_rank (rank f) ≡ f
of_rank-rank faults.Expected = refl
of_rank-rank faults.LiteralTooLong = refl
of_rank-rank faults.LiteralNotBinary = refl
of_rank-rank faults.NestTooDeep = refl
of_rank-rank (faults.TooMany things.States) = refl
of_rank-rank (faults.TooMany things.Junctions) = refl
of_rank-rank (faults.TooMany things.Transitions) = refl
of_rank-rank (faults.TooMany things.Variables) = refl
of_rank-rank (faults.TooMany things.Events) = refl
of_rank-rank (faults.TooMany things.Statements) = refl
of_rank-rank (faults.TooMany things.Operators) = refl
of_rank-rank (faults.TooMany things.Items) = refl

-- two faults don't share a rank
rank_one : (f g : TokenFault) → rank f ≡ rank g → f ≡ g
rank_one f g e = sym (of_rank-rank f) ∙ ap of_rank e ∙ of_rank-rank g

-- a fault of a rank above 0 isn't Expected
other_than_expected : (f : TokenFault) → 1 ≤ rank f → f ≢ faults.Expected
other_than_expected f some e = let zero : rank f ≡ 0 = ap rank e in omega arith

-- the limits from a fault's rank on have its own
lifts_own : (f : TokenFault) → lifts_from (rank f) f ≡ true
lifts_own f = le-leb (rank f) (rank f) (omega arith)

-- Expected has the rank 0
keeps_expected : (k : ℕ) → 1 ≤ k → lifts_from k faults.Expected ≡ false
keeps_expected k some = lt-leb k 0 (omega arith)

-- ---- limits of which some don't count

-- one more where it is lifted
abbrev raised : Bool → ℕ → ℕ
raised true most = most + 1
raised false most = most

-- which is a bound of limits that are lifted
raised_bound : (lifted : Bool) (most : ℕ) → LiftedBound lifted most (raised lifted most)
raised_bound true most = omega arith
raised_bound false most = refl

-- limits of which those from a rank on don't count
abbrev pub limits_from : ℕ → Limits
limits_from k = record {
  depth = raised (lifts_from k faults.NestTooDeep) usual.depth;
  nesting = raised (lifts_from k (faults.TooMany things.Operators)) usual.nesting;
  lifted_from = k;
}

-- which is what they are
pub lifted_limits : (k : ℕ) → LiftedFrom k (limits_from k)
lifted_limits k = record { from = refl; depth = raised_bound _ usual.depth; nesting = raised_bound _ usual.nesting }

-- ---- what is read

-- what is read is spelled
pub text_found : (s : List Lexeme) (x : Chart) (r : List Lexeme) → whole_reads (chart usual) s ≡ Ok (x, r)
    → (chart usual).spells s x
text_found s x r e = whole_found (fine_chart usual).good s x r e

-- what is spelled is read, to the end
pub text_only : (s : List Lexeme) (x : Chart) → (chart usual).spells s x → whole_reads (chart usual) s ≡ Ok (x, [])
text_only s x w = whole_only (fine_chart usual).good s x w

-- ---- tokens that continue

-- tokens that spell a chart continue
pub found_continues : (s : List Lexeme) (x : Chart) (r : List Lexeme) → whole_reads (chart usual) s ≡ Ok (x, r)
    → Continues (chart usual) s
found_continues s x r e = record { rest = []; value = x; spelled = rw append-nil (text_found s x r e) }

-- they end too early
pub ended_continues : (s : List Lexeme) → FirstFault (chart usual) s [] → Continues (chart usual) s
ended_continues s stops = subst (Continues (chart usual)) (sym (stops.parts ∙ append-nil stops.before)) stops.continues

-- ---- refusals

-- the front before the rest is the same
continues_front : {X : Type 0} (g : Grammar X) (u v : List Lexeme) (t : Lexeme) (q : List Lexeme)
    → u ++ t ∷ q ≡ v ++ t ∷ q
    → Continues g (u ++ t ∷ []) → Continues g (v ++ t ∷ [])
continues_front g u v t q e c = subst (λ z. Continues g (z ++ t ∷ [])) (append_cancel_right u v (t ∷ q) e) c

module _ (s : List Lexeme) (t : Lexeme) (q : List Lexeme) (f : TokenFault) (e : whole_reads (chart usual) s ≡ Err (f, t ∷ q))
    (stops : FirstFault (chart usual) s (t ∷ q)) where
  -- where limits up to that of the fault don't count, the token goes on
  passes_lifted : (k : ℕ) (l : Limits) → 1 ≤ k → k ≤ rank f → LiftedFrom k l
      → Continues (chart l) (stops.before ++ t ∷ [])
  passes_lifted k l some low from =
      whole_lifted (eased_chart k l some from).lifted (keeps_expected k some) s stops.before t q f stops.parts e
      (le-leb k (rank f) low)

  -- where only later ones don't count, it doesn't
  stays_refused : (k : ℕ) (l : Limits) → rank f < k → LiftedFrom k l → Continues (chart l) (stops.before ++ t ∷ []) → ⊥
  stays_refused k l high from c =
      let other = whole_kept (eased_chart k l (omega arith) from).lifted (fine_chart l) s (t ∷ q) f e
      (lt-leb k (rank f) high) in
      other.ends t q refl (continues_front (chart l) stops.before other.before t q (sym stops.parts ∙ other.parts) c)

  -- the first token that doesn't continue has that fault
  pub text_fault : IsFaultOf stops.before t f
  text_fault = record {
    stays = λ l from c. stays_refused (rank f + 1) l (omega arith) from c;
    lifted = λ other l from. passes_lifted (rank f) l (limit_rank f other) (omega arith) from;
  }

  -- and no other
  pub text_one_fault : (g : TokenFault) → IsFaultOf stops.before t g → f ≡ g
  text_one_fault g is =
      elim (cases_lt (rank f) (rank g)) [
        | inl high ↦
            let limits = limits_from (rank g) in
            absurd (stays_refused (rank g) limits high (lifted_limits (rank g))
            (is.lifted (other_than_expected g (omega arith)) limits (lifted_limits (rank g))))
        | inr low ↦ elim (cases_lt (rank g) (rank f)) [
          | inl lower ↦
              let limits = limits_from (rank g + 1) in
              absurd (is.stays limits (lifted_limits (rank g + 1))
              (passes_lifted (rank g + 1) limits (omega arith) (omega arith) (lifted_limits (rank g + 1))))
          | inr not_lower ↦ rank_one f g (omega arith)
        ]
      ]

-- where reading stops is the first fault
pub text_stops : (s r : List Lexeme) (f : TokenFault) → whole_reads (chart usual) s ≡ Err (f, r)
    → FirstFault (chart usual) s r
text_stops s r f e = whole_fault (fine_chart usual) s r f e

-- a text that ends too early is at no limit
not_at_limit : (s : List Lexeme) (f : TokenFault) → whole_reads (chart usual) s ≡ Err (f, []) → f ≢ faults.Expected → ⊥
not_at_limit s f e other =
    let some = limit_rank f other in
    let eased = eased_chart (rank f) (limits_from (rank f)) some (lifted_limits (rank f)) in
    whole_ends eased.lifted (keeps_expected (rank f) some) s f e (lifts_own f)

-- at the end of a text the fault is Expected
pub text_ends : (s : List Lexeme) (f : TokenFault) → whole_reads (chart usual) s ≡ Err (f, []) → f ≡ faults.Expected
text_ends s f e =
    elim (expected_or_not f) [
      | inl same ↦ same
      | inr other ↦ absurd (not_at_limit s f e other)
    ]
  where
    expected_or_not : (f : TokenFault) → (f ≡ faults.Expected) ⊎ (f ≢ faults.Expected)
    expected_or_not faults.Expected = inl refl
    expected_or_not faults.LiteralTooLong = inr (λ e. cc)
    expected_or_not faults.LiteralNotBinary = inr (λ e. cc)
    expected_or_not faults.NestTooDeep = inr (λ e. cc)
    expected_or_not (faults.TooMany thing) = inr (λ e. cc)

-- ---- a text stops in one place

-- of two fronts of the same tokens one is the other with tokens after it, which the rests tell too
abbrev Longer : List Lexeme → List Lexeme → List Lexeme → List Lexeme → Type 0
Longer u r v q = (d : List Lexeme) × (v ≡ u ++ d) × (r ≡ d ++ q)

-- one of two fronts is the longer
two_fronts : (u r v q : List Lexeme) → u ++ r ≡ v ++ q → Longer u r v q ⊎ Longer v q u r
two_fronts [] r v q e = inl (v, refl, e)
two_fronts (t ∷ u) r [] q e = inr (t ∷ u, refl, sym e)
two_fronts (t ∷ u) r (t' ∷ v) q e =
    let first : t ≡ t' = cc in
    let others : u ++ r ≡ v ++ q = cc in
    elim (two_fronts u r v q others) [
      | inl h ↦ inl (h.0, (rw (first, h.1) refl), h.2)
      | inr h ↦ inr (h.0, (rw (← first, h.1) refl), h.2)
    ]

-- a front of tokens that continue continues
pub front_continues : {X : Type 0} (g : Grammar X) (u v : List Lexeme) → Continues g (u ++ v) → Continues g u
front_continues {X} g u v c =
    record {
      rest = v ++ c.rest;
      value = c.value;
      spelled = subst (λ z. g.spells z c.value)
          (append_assoc u v c.rest) c.spelled;
    }

-- the rest of a later stop is that of the first
no_later : {X : Type 0} (g : Grammar X) (s r q : List Lexeme) (a : FirstFault g s r) (b : FirstFault g s q)
    → Longer a.before r b.before q → r ≡ q
no_later {X} g s r q a b h = by_rest h.0 h.1 h.2
  where
    by_rest : (d : List Lexeme) → b.before ≡ a.before ++ d → r ≡ d ++ q → r ≡ q
    by_rest [] longer rest = rest
    by_rest (t ∷ d) longer rest =
        let whole : b.before ≡ (a.before ++ t ∷ []) ++ d = longer ∙ sym (append_assoc a.before (t ∷ []) d) in
        absurd (a.ends t (d ++ q) rest
        (front_continues g (a.before ++ t ∷ []) d (subst (Continues g) whole b.continues)))

-- so a text has one first fault
pub one_stop : {X : Type 0} (g : Grammar X) (s r q : List Lexeme) → FirstFault g s r → FirstFault g s q → r ≡ q
one_stop g s r q a b =
    elim (two_fronts a.before r b.before q (sym a.parts ∙ b.parts)) [
      | inl h ↦ no_later g s r q a b h
      | inr h ↦ sym (no_later g s q r b a h)
    ]
