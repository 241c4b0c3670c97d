-- What the usual limits refuse, and what is refused where those from a rank on don't count.
use Rattle.std.proofs.Common.{◌≡◌, ℕ, zero, suc, ◌≤◌, ◌<◌, Bool, true, false, Option, Some, None, inl, inr, refl, sym}
use Rattle.std.proofs.Common.{subst, ltb, arith}
use Rattle.std.proofs.lemmas.Bool.{cases_Bool, leb-true, le-leb, lt-leb}
use Rattle.token_grammar.specs.declared.fault.TokenFault.{TokenFault}
use Rattle.token_grammar.specs.declared.fault.TokenFault.TheVariants as faults
use Rattle.token_grammar.specs.declared.fault.Thing.{Thing}
use Rattle.token_grammar.specs.declared.fault.Thing.TheVariants as things
use Rattle.token_grammar.specs.Token.{Lexeme}
use Rattle.token_grammar.specs.Grammar.{unless_lifted as unless_out}
use Rattle.fixed_point.specs.Reading.{number_read}
use Rattle.chart_grammar.specs.Limits.{Limits, usual, rank, is_lifted, most, unless_lifted, one_more, first_of}
use Rattle.chart_grammar.specs.Limits.{Counts, one_more_item, lifts_from, LiftedBound, LiftedFrom}
use Rattle.chart_grammar.specs.Words.{fault_of_number, literal_refused}

-- limits compared with the usual ones: those of rank k and above don't count, and k isn't 0
pub record Comparison (k : ℕ) (l : Limits) : Type 0 where
  pub some : 1 ≤ k
  pub from : LiftedFrom k l

-- Expected is no limit, so it is never lifted
pub expected : {k : ℕ} {l : Limits} → Comparison k l → lifts_from k faults.Expected ≡ false
expected {k} c = lt-leb k 0 (omega (arith, c.some))

-- ---- one fault

-- all of the usual limits count
pub usual_kept : (f : TokenFault) → is_lifted usual f ≡ false
usual_kept faults.Expected = refl
usual_kept faults.LiteralTooLong = refl
usual_kept faults.LiteralNotBinary = refl
usual_kept faults.NestTooDeep = refl
usual_kept (faults.TooMany things.States) = refl
usual_kept (faults.TooMany things.Junctions) = refl
usual_kept (faults.TooMany things.Transitions) = refl
usual_kept (faults.TooMany things.Variables) = refl
usual_kept (faults.TooMany things.Events) = refl
usual_kept (faults.TooMany things.Statements) = refl
usual_kept (faults.TooMany things.Operators) = refl
usual_kept (faults.TooMany things.Items) = refl

-- what is refused usually is refused, unless it is lifted
pub said_alike : {k : ℕ} {l : Limits} → Comparison k l → (said : Option TokenFault)
    → unless_lifted l said ≡ unless_out (lifts_from k) (unless_lifted usual said)
said_alike c None = refl
said_alike c (Some f) = rw (usual_kept f, c.from.from) refl

-- a fault of a number is refused unless it is lifted
pub literal_alike : {k : ℕ} {l : Limits} → Comparison k l → (t : Lexeme)
    → literal_refused l t ≡ unless_out (lifts_from k) (literal_refused usual t)
literal_alike c t = said_alike c (fault_of_number (number_read t.text))

-- one more of a thing is refused as usual, unless it is lifted
pub one_more_alike : {k : ℕ} {l : Limits} → Comparison k l → (thing : Thing) (count : ℕ)
    → one_more l thing count ≡ unless_out (lifts_from k) (one_more usual thing count)
one_more_alike c thing count =
    elim (cases_Bool (ltb count (most thing))) [
      | inl room ↦ rw room refl
      | inr full ↦ rw full (said_alike c (Some (faults.TooMany thing)))
    ]

-- where its limit is lifted, no count is too many
pub one_more_free : {k : ℕ} {l : Limits} → Comparison k l → (thing : Thing) (count : ℕ)
    → lifts_from k (faults.TooMany thing) ≡ true
    → one_more l thing count ≡ None
one_more_free c thing count lift =
    elim (cases_Bool (ltb count (most thing))) [
      | inl room ↦ rw room refl
      | inr full ↦ rw (full, c.from.from, lift) refl
    ]

-- ---- the first of two faults

-- where the second is lifted with the first
first_alike : (lifts : TokenFault → Bool) (a b : Option TokenFault)
    → ((f g : TokenFault) → a ≡ Some f → b ≡ Some g → lifts f ≡ true → lifts g ≡ true)
    → first_of (unless_out lifts a) (unless_out lifts b) ≡ unless_out lifts (first_of a b)
first_alike lifts None b h = refl
first_alike lifts (Some f) None h =
    elim (cases_Bool (lifts f)) [
      | inl lift ↦ rw lift refl
      | inr kept ↦ rw kept refl
    ]
first_alike lifts (Some f) (Some g) h =
    elim (cases_Bool (lifts f)) [
      | inl lift ↦ rw (lift, h f g refl refl lift) refl
      | inr kept ↦ rw kept refl
    ]

-- the limit of items has the last rank
ranks_below : (thing : Thing) → rank (faults.TooMany thing) ≤ 11
ranks_below things.States = omega arith
ranks_below things.Junctions = omega arith
ranks_below things.Transitions = omega arith
ranks_below things.Variables = omega arith
ranks_below things.Events = omega arith
ranks_below things.Statements = omega arith
ranks_below things.Operators = omega arith
ranks_below things.Items = omega arith

-- where the limit of a thing is lifted, so is that of all items
pub items_too : (k : ℕ) (thing : Thing) → lifts_from k (faults.TooMany thing) ≡ true
    → lifts_from k (faults.TooMany things.Items) ≡ true
items_too k thing lift =
    let low = leb-true k (rank (faults.TooMany thing)) lift in
    let high = ranks_below thing in
    le-leb k 11 (omega arith)

-- the limit of states has a later rank than that of their depth
pub states_too : (k : ℕ) → lifts_from k faults.NestTooDeep ≡ true → lifts_from k (faults.TooMany things.States) ≡ true
states_too k lift = let low = leb-true k 3 lift in le-leb k 4 (omega arith)

-- one more of a thing has the fault of that thing
one_more_says : (thing : Thing) (count : ℕ) (f : TokenFault) → one_more usual thing count ≡ Some f → faults.TooMany thing ≡ f
one_more_says thing count f e =
    elim (cases_Bool (ltb count (most thing))) [
      | inl room ↦ absurd (let bad = rw room at e in cc)
      | inr full ↦ let said : Some (faults.TooMany thing) ≡ Some f =
          rw (full, usual_kept (faults.TooMany thing)) at e in cc
    ]

-- one more item is refused as usual, unless it is lifted
pub item_alike : {k : ℕ} {l : Limits} → Comparison k l → (thing : Thing) (count : ℕ) (n : Counts)
    → one_more_item l thing count n ≡ unless_out (lifts_from k) (one_more_item usual thing count n)
item_alike {k} c thing count n =
    rw (one_more_alike c thing count, one_more_alike c things.Items n.items)
    (first_alike (lifts_from k) (one_more usual thing count) (one_more usual things.Items n.items)
    (λ f g a b lift.
    let one = one_more_says thing count f a in
    let other = one_more_says things.Items n.items g b in
    let first = subst (λ z. lifts_from k z ≡ true) (sym one) lift in
    subst (λ z. lifts_from k z ≡ true) other (items_too k thing first)))

-- where the limit of a thing is lifted, one more of it as an item is free
pub item_free : {k : ℕ} {l : Limits} → Comparison k l → (thing : Thing) (count : ℕ) (n : Counts)
    → lifts_from k (faults.TooMany thing) ≡ true
    → one_more_item l thing count n ≡ None
item_free {k} c thing count n lift =
    rw (one_more_free c thing count lift, one_more_free c things.Items n.items (items_too k thing lift)) refl

-- ---- depths

-- one depth is another, or a greater one where it is lifted
abbrev pub Deeper : Bool → ℕ → ℕ → Type 0
Deeper lifted zero zero = lifted ≡ false
Deeper lifted zero (suc e) = lifted ≡ true
Deeper lifted (suc d) zero = ⊥
Deeper lifted (suc d) (suc e) = Deeper lifted d e

-- a greater depth is deeper where depth is lifted
deeper_more : (d e : ℕ) → d < e → Deeper true d e
deeper_more zero zero h = absurd (omega arith)
deeper_more zero (suc e) h = refl
deeper_more (suc d) zero h = absurd (omega arith)
deeper_more (suc d) (suc e) h = deeper_more d e (omega arith)

-- the same depth is as deep where it isn't
deeper_same : (d : ℕ) → Deeper false d d
deeper_same zero = refl
deeper_same (suc d) = deeper_same d

-- a bound on nesting is as deep as it says
pub bound_deeper : (lifted : Bool) (d e : ℕ) → LiftedBound lifted d e → Deeper lifted d e
bound_deeper true d e h = deeper_more d e h
bound_deeper false d e h = rw h (deeper_same d)
