-- The reading under a limit, compared: what is refused on the left may pass on the right.
use Rattle.std.proofs.Common.{◌≡◌, Bool, true, false, cond, List, [], ◌∷◌, ◌++◌, Ok, Err}
use Rattle.std.proofs.Common.{Option, Some, None, refl, sym, ap, subst, ◌∙◌, inl, inr}
use Rattle.std.proofs.lemmas.Bool.{cases_Bool}
use Rattle.token_grammar.specs.declared.fault.TokenFault.{TokenFault}
use Rattle.token_grammar.specs.declared.fault.TokenFault.TheVariants as faults
use Rattle.token_grammar.specs.Token.{Lexeme}
use Rattle.token_grammar.specs.Grammar.{Grammar, heads, first_refused, unless_lifted, allowed, Continues}
use Rattle.token_grammar.proofs.Good.{Set, Takes, stopped_is}
use Rattle.token_grammar.proofs.Allowed.{said_cases, takes_allowed, allowed_begun, forbidden}
use Rattle.token_grammar.proofs.Lifted.{Lifted, GoesPast}
use Rattle.token_grammar.proofs.Starts.{Starts, Expects}

-- ---- what two tests say of the first token

-- the second says what the first does, where that isn't lifted
abbrev pub Milder : Set → (TokenFault → Bool) → (Lexeme → Option TokenFault) → (Lexeme → Option TokenFault) → Type 0
Milder set lifts test test' = (t : Lexeme) → set t.kind ≡ true → test' t ≡ unless_lifted lifts (test t)

-- the same of the first token of a list
milder_first : (set : Set) (lifts : TokenFault → Bool) (test test' : Lexeme → Option TokenFault) → Milder set lifts test test'
    → (s : List Lexeme)
    → first_refused set test' s ≡ unless_lifted lifts (first_refused set test s)
milder_first set lifts test test' milder [] = refl
milder_first set lifts test test' milder (t ∷ s) =
    elim (cases_Bool (set t.kind)) [
      | inl there ↦ rw there (milder t there)
      | inr away ↦ rw away refl
    ]

-- what is refused begins with a token of the set, which the test refuses
refused_head : (set : Set) (test : Lexeme → Option TokenFault) (d : TokenFault) (s : List Lexeme)
    → first_refused set test s ≡ Some d
    → (t : Lexeme) × (q : List Lexeme) × (s ≡ t ∷ q) × (set t.kind ≡ true) × (test t ≡ Some d)
refused_head set test d [] full = absurd cc
refused_head set test d (t ∷ s) full =
    elim (cases_Bool (set t.kind)) [
      | inl there ↦ (t, s, refl, there, rw there at full)
      | inr away ↦ absurd (let bad = rw away at full in cc)
    ]

-- the token at hand goes on in what begins with it
past_at_hand : {X : Type 0} {g : Grammar X} (s : List Lexeme) (t : Lexeme) (q : List Lexeme) → s ≡ t ∷ q
    → Continues g (t ∷ []) → GoesPast g s s
past_at_hand s t q e c = record { used = []; parts = refl; first = t; others = q; at = e; continues = c }

-- ---- allowed

-- what continues after a first token that passes continues under the limit
allowed_on : {X : Type 0} {g : Grammar X} (set : Set) (test : Lexeme → Option TokenFault) (used : List Lexeme) (t : Lexeme)
    (q : List Lexeme)
    → first_refused set test (used ++ t ∷ q) ≡ None → Continues g (used ++ t ∷ [])
    → Continues (allowed set test g) (used ++ t ∷ [])
allowed_on set test [] t q passes c = allowed_begun set test t [] passes c
allowed_on set test (x ∷ used) t q passes c = allowed_begun set test x (used ++ t ∷ []) passes c

-- what goes past a fault goes past it under the limit
past_allowed : {X : Type 0} {g : Grammar X} (set : Set) (test : Lexeme → Option TokenFault) (s r : List Lexeme)
    → first_refused set test s ≡ None
    → GoesPast g s r → GoesPast (allowed set test g) s r
past_allowed {X} {g} set test s r passes p =
    let whole : s ≡ p.used ++ p.first ∷ p.others = p.parts ∙ ap (λ z. p.used ++ z) p.at in
    record {
      used = p.used;
      parts = p.parts;
      first = p.first;
      others = p.others;
      at = p.at;
      continues =
          allowed_on set test p.used p.first p.others (ap (first_refused set test) (sym whole) ∙ passes) p.continues;
    }

module _ {X : Type 0} {lifts : TokenFault → Bool} {g g' : Grammar X} (set : Set) (test test' : Lexeme → Option TokenFault)
    (a : Lifted lifts g g') (milder : Milder set lifts test test') where
  -- what passes on the left passes on the right
  passes_too : (s : List Lexeme) → first_refused set test s ≡ None → first_refused set test' s ≡ None
  passes_too s passes = milder_first set lifts test test' milder s ∙ ap (unless_lifted lifts) passes

  -- what is refused on the left, and the fault isn't lifted
  kept_too : (s : List Lexeme) (d : TokenFault) → first_refused set test s ≡ Some d → lifts d ≡ false
      → first_refused set test' s ≡ Some d
  kept_too s d full kept = milder_first set lifts test test' milder s ∙ ap (unless_lifted lifts) full ∙ rw kept refl

  -- and the fault is lifted
  lifted_too : (s : List Lexeme) (d : TokenFault) → first_refused set test s ≡ Some d → lifts d ≡ true
      → first_refused set test' s ≡ None
  lifted_too s d full lift = milder_first set lifts test test' milder s ∙ ap (unless_lifted lifts) full ∙ rw lift refl

  -- what is read on the left is read on the right
  takes_too : (s : List Lexeme) (x : X) (r : List Lexeme) → (allowed set test g).reads s ≡ Ok (x, r)
      → Takes (allowed set test' g') s x r
  takes_too s x r e =
      elim (said_cases (first_refused set test s)) [
        | inl passes ↦ takes_allowed set test' s x r (passes_too s passes) (a.takes s x r (rw passes at e))
        | inr full ↦ absurd (let bad = rw full.1 at e in cc)
      ]

  -- a fault that isn't lifted stays
  stays_too : (s r : List Lexeme) (f : TokenFault) → (allowed set test g).reads s ≡ Err (f, r) → lifts f ≡ false
      → (allowed set test' g').reads s ≡ Err (f, r)
  stays_too s r f e kept =
      elim (said_cases (first_refused set test s)) [
        | inl passes ↦ rw (passes_too s passes) (a.stays s r f (rw passes at e) kept)
        | inr full ↦
            let i = stopped_is {X = X} full.0 f s r (rw full.1 at e) in
            rw (kept_too s full.0 full.1 (ap lifts i.fault ∙ kept)) (rw full.1 at e)
      ]

  -- what is refused on the left by a lifted fault begins a spelling on the right
  pub lifted_allowed_where :
      ((t : Lexeme) (d : TokenFault) → set t.kind ≡ true → test t ≡ Some d → lifts d ≡ true → Continues g' (t ∷ []))
      → Lifted lifts (allowed set test g) (allowed set test' g')
  lifted_allowed_where begun = record {
    takes = takes_too;
    stays = stays_too;
    passes = λ s r f e lift.
        elim (said_cases (first_refused set test s)) [
          | inl passes ↦ past_allowed set test' s r (passes_too s passes) (a.passes s r f (rw passes at e) lift)
          | inr full ↦
              let i = stopped_is {X = X} full.0 f s r (rw full.1 at e) in
              let lift' : lifts full.0 ≡ true = ap lifts i.fault ∙ lift in
              let h = refused_head set test full.0 s full.1 in
              subst (λ z. GoesPast (allowed set test' g') s z) i.rest
              (past_allowed set test' s s (lifted_too s full.0 full.1 lift') (past_at_hand s h.0 h.1 h.2 (begun h.0 full.0 h.3 h.4 lift')))
        ];
  }

  -- each token of the set begins a spelling on the right
  pub lifted_allowed : Starts set g' → Lifted lifts (allowed set test g) (allowed set test' g')
  lifted_allowed starts = lifted_allowed_where (λ t d there full lift. starts.each t there)

  -- no fault of the test is lifted
  pub lifted_allowed_kept : ((t : Lexeme) (d : TokenFault) → test t ≡ Some d → lifts d ≡ false)
      → Lifted lifts (allowed set test g) (allowed set test' g')
  lifted_allowed_kept kept =
      lifted_allowed_where (λ t d there full lift. let bad = sym (kept t d full) ∙ lift in absurd cc)

-- ---- forbidden

-- what is forbidden on the left by a lifted fault is there on the right
pub lifted_forbidden : {X : Type 0} {lifts : TokenFault → Bool} {g' : Grammar X} → lifts faults.Expected ≡ false
    → (set : Set) (fault : TokenFault) → lifts fault ≡ true
    → Starts set g' → Expects set g' → Lifted lifts (forbidden set fault) g'
unfolding forbidden
lifted_forbidden {X} {lifts} {g'} expected set fault lift starts expects = record {
  takes = λ s x r e. absurd cc;
  stays = λ s r f e kept.
      let i = stopped_is {X = X} (cond (heads set s) fault faults.Expected) f s r e in
      elim (cases_Bool (heads set s)) [
        | inl here ↦ absurd (let bad : fault ≡ f = rw here at i.fault in let worse = sym lift ∙ ap lifts bad ∙ kept in cc)
        | inr away ↦ expects.other s away ∙ rw away at e
      ];
  passes = λ s r f e lifted.
      let i = stopped_is {X = X} (cond (heads set s) fault faults.Expected) f s r e in
      elim (cases_Bool (heads set s)) [
        | inl here ↦
            let h = at_hand s here in
            subst (λ z. GoesPast g' s z) i.rest (past_at_hand s h.0 h.1 h.2 (starts.each h.0 h.3))
        | inr away ↦ absurd (let bad : faults.Expected ≡ f = rw away at i.fault in let worse = sym expected ∙ ap lifts bad ∙ lifted in cc)
      ];
}
  where
    at_hand : (s : List Lexeme) → heads set s ≡ true
        → (t : Lexeme) × (q : List Lexeme) × (s ≡ t ∷ q) × (set t.kind ≡ true)
    at_hand [] here = absurd cc
    at_hand (t ∷ s) here = (t, s, refl, here)
