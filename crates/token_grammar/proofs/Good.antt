-- What holds of every LL(1) grammar: whether it is nullable, its FIRST, what must not follow it, and how it is read.
use Rattle.std.proofs.Common.{◌≡◌, Bool, true, false, List, [], ◌∷◌, ◌++◌, length, ◌<◌, Ok, Err, ◌⊎◌}
use Rattle.std.proofs.Common.{inl, inr, refl, sym, ap, subst, ◌∙◌, append_assoc, ◌||◌, ◌&&◌, arith}
use Rattle.std.proofs.lemmas.List.{length-append}
use Rattle.token_grammar.specs.declared.token.Kind.{Kind}
use Rattle.token_grammar.specs.declared.fault.TokenFault.{TokenFault}
use Rattle.token_grammar.specs.Token.{Lexeme, Outcome}
use Rattle.token_grammar.specs.Grammar.{Grammar, and_then, heads, Continues}

-- a set of kinds, as FIRST and FOLLOW are
abbrev pub Set : Type 0
Set = Kind → Bool

-- the empty set
abbrev pub nothing : Set
nothing k = false

-- FIRST of two grammars, one after the other: that of the first, and of the second too where the first is nullable
abbrev pub also : Set → Bool → Set → Set
also f n g k = f k || (n && g k)

-- no token is in both
abbrev pub Apart : Set → Set → Type 0
Apart f m = (k : Kind) → f k ≡ true → m k ≡ false

-- a is within b
abbrev pub Within : Set → Set → Type 0
Within a b = (k : Kind) → a k ≡ true → b k ≡ true

-- ---- the first token alone

-- they begin with the same token, or both are empty
abbrev pub SameHead : List Lexeme → List Lexeme → Type 0
SameHead [] [] = Unit {0}
SameHead [] (t ∷ s) = ⊥
SameHead (t ∷ s) [] = ⊥
SameHead (t ∷ s) (t' ∷ s') = t ≡ t'

-- no token of the set begins them: with a set that goes on with a spelling, what FOLLOW asks
abbrev pub Clear : Set → List Lexeme → Type 0
Clear set s = heads set s ≡ false

-- they begin with a token of the set, or are empty, which only what is nullable may be
abbrev pub Begins : Set → Bool → List Lexeme → Type 0
Begins set nullable [] = nullable ≡ true
Begins set nullable (t ∷ s) = set t.kind ≡ true

-- ---- what reading did

-- reading took these tokens, which spell the value; the choice rests on no token past the first of the rest
pub record Takes {X : Type 0} (g : Grammar X) (s : List Lexeme) (x : X) (r : List Lexeme) : Type 0 where
  pub used : List Lexeme
  pub parts : s ≡ used ++ r
  pub spelled : g.spells used x
  pub same : (r' : List Lexeme) → SameHead r r' → g.reads (used ++ r') ≡ Ok (x, r')

-- reading stopped, by whatever fault, at the first token of the rest, because of no token past it; what stands before it
-- continues, or nothing stands before it
pub record Stops {X : Type 0} (g : Grammar X) (f : TokenFault) (s r : List Lexeme) : Type 0 where
  pub used : List Lexeme
  pub parts : s ≡ used ++ r
  pub continues : Continues g used ⊎ (used ≡ [])
  pub same : (r' : List Lexeme) → SameHead r r' → g.reads (used ++ r') ≡ Err (f, r')

-- g is LL(1). Its FIRST is in first, and only a nullable g spells a value with no token. A token of followlast may go on
-- with what is a spelling already, so FOLLOW must have no token of it.
pub record Good {X : Type 0} (g : Grammar X) (first : Set) (nullable : Bool) (followlast : Set) : Type 0 where
  -- what is spelled begins so
  pub begins : (u : List Lexeme) (x : X) → g.spells u x → Begins first nullable u
  -- what is spelled is read, where no token of followlast comes after it
  pub again : (u : List Lexeme) (x : X) (r : List Lexeme) → g.spells u x → Clear followlast r → g.reads (u ++ r) ≡ Ok (x, r)
  -- what is read is spelled
  pub takes : (s : List Lexeme) (x : X) (r : List Lexeme) → g.reads s ≡ Ok (x, r) → Takes g s x r
  -- what stands before a fault continues
  pub stops : (s r : List Lexeme) (f : TokenFault) → g.reads s ≡ Err (f, r) → Stops g f s r

-- some value has a spelling
pub record Sample {X : Type 0} (g : Grammar X) : Type 0 where
  pub tokens : List Lexeme
  pub value : X
  pub spelled : g.spells tokens value

-- ---- heads

-- after the same tokens they begin alike
pub same-append : (u r r' : List Lexeme) → SameHead r r' → SameHead (u ++ r) (u ++ r')
same-append [] r r' h = h
same-append (t ∷ u) r r' h = refl

-- a list begins as it does
pub same-refl : (r : List Lexeme) → SameHead r r
same-refl [] = tt
same-refl (t ∷ s) = refl

-- whether the first token is in a set depends on that token alone
pub heads-same : (set : Set) (r r' : List Lexeme) → SameHead r r' → heads set r ≡ heads set r'
heads-same set [] [] h = refl
heads-same set [] (t ∷ s) h = absurd h
heads-same set (t ∷ s) [] h = absurd h
heads-same set (t ∷ s) (t' ∷ s') h = ap (λ (x : Lexeme). set x.kind) h

-- a list that begins as the empty one is empty
pub same_nil : (r : List Lexeme) → SameHead [] r → r ≡ []
same_nil [] h = refl
same_nil (t ∷ r) h = absurd h

-- a rest that begins as t ∷ s begins with t
pub same_cons : (t : Lexeme) (s r : List Lexeme) → SameHead (t ∷ s) r → (s' : List Lexeme) × (r ≡ t ∷ s')
same_cons t s [] h = absurd h
same_cons t s (t' ∷ s') h = (s', ap (λ (y : Lexeme). y ∷ s') (sym h))

-- what follows the tokens may change after its first
pub carried : (s used r r' : List Lexeme) → s ≡ used ++ r → SameHead r r' → SameHead s (used ++ r')
carried s used r r' e h = subst (λ z. SameHead z (used ++ r')) (sym e) (same-append used r r' h)

-- the same, where what follows the tokens changes after its first
pub heads_carried : (set : Set) (b : Bool) (s used r r' : List Lexeme) → s ≡ used ++ r → SameHead r r' → heads set s ≡ b
    → heads set (used ++ r') ≡ b
heads_carried set b s used r r' e h here = sym (heads-same set s (used ++ r') (carried s used r r' e h)) ∙ here

-- tokens taken twice are taken together
pub joined : (s u m v r : List Lexeme) → s ≡ u ++ m → m ≡ v ++ r → s ≡ (u ++ v) ++ r
joined s u m v r a b = a ∙ ap (λ (z : List Lexeme). u ++ z) b ∙ sym (append_assoc u v r)

-- ---- sets

-- where neither holds, the first doesn't
or_false_left : (a b : Bool) → (a || b) ≡ false → a ≡ false
or_false_left true b h = h
or_false_left false b h = refl

-- and the second doesn't
or_false_right : (a b : Bool) → (a || b) ≡ false → b ≡ false
or_false_right true b h = absurd cc
or_false_right false b h = h

-- whatever the first, one of two holds where the second does
pub or_true : (a : Bool) → (a || true) ≡ true
or_true true = refl
or_true false = refl

-- clear of a union
pub clear_left : (a b : Set) (n : Bool) (r : List Lexeme) → Clear (also a n b) r → Clear a r
clear_left a b n [] h = refl
clear_left a b n (t ∷ r) h = or_false_left _ _ h

-- and of the second set, where the first grammar is nullable
pub clear_right : (a b : Set) (n : Bool) (r : List Lexeme) → Clear (also a n b) r → n ≡ true → Clear b r
clear_right a b n [] h e = refl
clear_right a b n (t ∷ r) h e =
    let k : (n && b t.kind) ≡ false = or_false_right (a t.kind) (n && b t.kind) h in rw e at k

-- what begins so, or else goes on clear of the set, is clear of it
pub begins_clear : (f m : Set) (n : Bool) (q r : List Lexeme) → Begins f n q → Apart f m → (n ≡ true → Clear m r)
    → Clear m (q ++ r)
begins_clear f m n [] r a apart clear = clear a
begins_clear f m n (t ∷ q) r a apart clear = apart t.kind a

-- what begins with a token of FIRST begins with one of a greater set
pub begins_heads : (f set : Set) (u r : List Lexeme) → Begins f false u → Within f set → heads set (u ++ r) ≡ true
begins_heads f set [] r h within = absurd cc
begins_heads f set (t ∷ u) r h within = within t.kind h

-- ---- outcomes

-- an answer of the reading
abbrev done : {X : Type 0} → X → List Lexeme → Outcome X
done x r = Ok (x, r)

-- a fault of the reading
abbrev stopped : {X : Type 0} → TokenFault → List Lexeme → Outcome X
stopped f r = Err (f, r)

-- the values and the rests are the same
pub record IsDone {X : Type 0} (x y : X) (r q : List Lexeme) : Type 0 where
  pub value : x ≡ y
  pub rest : r ≡ q

-- equal answers have equal parts
pub done_is : {X : Type 0} (x y : X) (r q : List Lexeme) → done x r ≡ done y q → IsDone x y r q
done_is x y r q e =
    let p : (x, r) ≡ (y, q) = cc in
    record { value = ap (λ (z : _ × List Lexeme). z.0) p; rest = ap (λ (z : _ × List Lexeme). z.1) p }

-- the faults and the rests are the same
pub record IsStopped (f d : TokenFault) (r q : List Lexeme) : Type 0 where
  pub fault : f ≡ d
  pub rest : r ≡ q

-- equal faults have equal parts
pub stopped_is : {X : Type 0} (f d : TokenFault) (r q : List Lexeme) → stopped {X = X} f r ≡ stopped d q → IsStopped f d r q
stopped_is f d r q e =
    let p : (f, r) ≡ (d, q) = cc in
    record { fault = ap (λ (z : TokenFault × List Lexeme). z.0) p; rest = ap (λ (z : TokenFault × List Lexeme). z.1) p }

-- two readings, one after the other, that were both done
pub record BindOk {X Y : Type 0} (o : Outcome X) (f : X → List Lexeme → Outcome Y) (y : Y)
    (q : List Lexeme) : Type 0 where
  pub x : X
  pub r : List Lexeme
  pub first : o ≡ Ok (x, r)
  pub second : f x r ≡ Ok (y, q)

-- where both together are done, each is
pub bind_ok : {X Y : Type 0} (o : Outcome X) (f : X → List Lexeme → Outcome Y) (y : Y) (q : List Lexeme)
    → and_then o f ≡ Ok (y, q)
    → BindOk o f y q
bind_ok (Ok p) f y q e = record { x = p.0; r = p.1; first = refl; second = e }
bind_ok (Err d) f y q e = absurd cc

-- the first part stopped, or the second
pub bind_err : {X Y : Type 0} (o : Outcome X) (f : X → List Lexeme → Outcome Y) (d : TokenFault × List Lexeme)
    → and_then o f ≡ Err d
    → (o ≡ Err d) ⊎ ((x : X) × (r : List Lexeme) × (o ≡ Ok (x, r)) × (f x r ≡ Err d))
bind_err (Ok p) f d e = inr (p.0, p.1, refl, e)
bind_err (Err d') f d e = inl cc

-- ---- what follows from the laws

-- reading stops at the token at hand, whatever follows it
pub stops_at_hand : {X : Type 0} (g : Grammar X) (d : TokenFault) (s : List Lexeme)
    → ((r' : List Lexeme) → SameHead s r' → g.reads r' ≡ Err (d, r'))
    → (r : List Lexeme) (f : TokenFault) → g.reads s ≡ Err (f, r) → Stops g f s r
stops_at_hand {X} g d s at_hand r f e =
    let i = stopped_is {X = X} d f s r (sym (at_hand s (same-refl s)) ∙ e) in
    record {
      used = [];
      parts = i.rest;
      continues = inr refl;
      same =
          λ r' h. subst (λ z. g.reads r' ≡ Err (z, r')) i.fault (at_hand r' (subst (λ z. SameHead z r') (sym i.rest) h));
    }

-- where some value has a spelling, what stands before a fault continues
pub surely : {X : Type 0} {g : Grammar X} (u : List Lexeme) → Sample g → Continues g u ⊎ (u ≡ []) → Continues g u
surely u z (inl c) = c
surely u z (inr none) = rw none (record { rest = z.tokens; value = z.value; spelled = z.spelled })

-- what isn't nullable takes a token
shorter : (f : Set) (u r : List Lexeme) → Begins f false u → length r < length (u ++ r)
shorter f [] r h = absurd cc
shorter f (t ∷ u) r h = omega (arith, length-append u r)

-- what was read took a token
pub took : {X : Type 0} {g : Grammar X} {f m : Set} → Good g f false m → (s : List Lexeme) (x : X) (r : List Lexeme)
    → g.reads s ≡ Ok (x, r)
    → length r < length s
took {X} {g} {f} {m} a s x r e =
    let t = a.takes s x r e in
    rw t.parts (shorter f t.used r (a.begins t.used x t.spelled))

-- FIRST may be made greater
pub begins_wider : (f f' : Set) (n : Bool) (u : List Lexeme) → Within f f' → Begins f n u → Begins f' n u
begins_wider f f' n [] w h = h
begins_wider f f' n (t ∷ u) w h = w t.kind h

-- what isn't in the greater set isn't in the smaller
not_there : (a b : Bool) → (a ≡ true → b ≡ true) → b ≡ false → a ≡ false
not_there true b i h = absurd (let e = i refl in cc)
not_there false b i h = refl

-- what is clear of a set is clear of each smaller one
pub clear_within : (m m' : Set) (r : List Lexeme) → Within m m' → Clear m' r → Clear m r
clear_within m m' [] w h = refl
clear_within m m' (t ∷ r) w h = not_there (m t.kind) (m' t.kind) (w t.kind) h

-- the same with greater sets
pub good_wider : {X : Type 0} {g : Grammar X} {f m f' m' : Set} {n : Bool} → Within f f' → Within m m' → Good g f n m
    → Good g f' n m'
good_wider {X} {g} {f} {m} {f'} {m'} {n} wf wm a = record {
  begins = λ u x h. begins_wider f f' n u wf (a.begins u x h);
  again = λ u x r h clear. a.again u x r h (clear_within m m' r wm clear);
  takes = a.takes;
  stops = a.stops;
}
