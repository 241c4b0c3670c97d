-- One grammar after the other, and one or the other: nullable, FIRST and the reading of both.
use Rattle.std.proofs.Common.{◌≡◌, Bool, true, false, List, [], ◌∷◌, ◌++◌, Ok, Err}
use Rattle.std.proofs.Common.{inl, inr, refl, sym, append_assoc, ⊎_elim, ◌&&◌}
use Rattle.std.proofs.lemmas.Bool.{cases_Bool}
use Rattle.token_grammar.specs.declared.fault.TokenFault.{TokenFault}
use Rattle.token_grammar.specs.Token.{Lexeme}
use Rattle.token_grammar.specs.Grammar.{Grammar, heads, Both, ◌>>=◌, ◌>>◌, either, Continues}
use Rattle.token_grammar.proofs.Good.{Set, also, Apart, Within, Clear, Begins, Takes, Stops, Good, Sample}
use Rattle.token_grammar.proofs.Good.{or_true, clear_left, clear_right, begins_clear, begins_heads}
use Rattle.token_grammar.proofs.Good.{carried, heads_carried, joined, bind_ok, bind_err, surely}

-- ---- one after the other: how it continues

-- what continues the first part continues the whole
pub then_begun : {X Y : Type 0} {g : Grammar X} {h : X → Grammar Y} (u : List Lexeme) → Continues g u
    → ((x : X) → Sample (h x)) → Continues (g >>= h) u
then_begun u c samples =
    let z = samples c.value in
    record {
      rest = c.rest ++ z.tokens;
      value = z.value;
      spelled = record {
        p = u ++ c.rest;
        q = z.tokens;
        x = c.value;
        parts = sym (append_assoc u c.rest z.tokens);
        first = c.spelled;
        second = z.spelled;
      };
    }

-- after the first part, what continues the second continues the whole
pub then_behind : {X Y : Type 0} (g : Grammar X) (h : X → Grammar Y) (p u : List Lexeme) (x : X) → g.spells p x
    → Continues (h x) u
    → Continues (g >>= h) (p ++ u)
then_behind g h p u x w c = record {
  rest = c.rest;
  value = c.value;
  spelled = record { p = p; q = u ++ c.rest; x = x; parts = append_assoc p u c.rest; first = w; second = c.spelled };
}

-- a spelling of the first, and one of the second
pub sample_then : {X Y : Type 0} {g : Grammar X} {h : X → Grammar Y} → Sample g → ((x : X) → Sample (h x))
    → Sample (g >>= h)
sample_then a b =
    let z = b a.value in
    record {
      tokens = a.tokens ++ z.tokens;
      value = z.value;
      spelled = record { p = a.tokens; q = z.tokens; x = a.value; parts = refl; first = a.spelled; second = z.spelled };
    }

-- a spelling ends in one of the second part
pub sample_rest : {X Y : Type 0} (g : Grammar X) {h : Grammar Y} → Sample (g >> h) → Sample h
sample_rest g a = record { tokens = a.spelled.q; value = a.value; spelled = a.spelled.second }

-- ---- one after the other: how it reads

-- where both take their tokens, the whole takes them all
pub takes_both : {X Y : Type 0} {g : Grammar X} (h : X → Grammar Y) (s : List Lexeme) (x : X) (m : List Lexeme)
    (y : Y) (r : List Lexeme)
    → Takes g s x m → Takes (h x) m y r → Takes (g >>= h) s y r
takes_both h s x m y r t1 t2 = record {
  used = t1.used ++ t2.used;
  parts = joined s t1.used m t2.used r t1.parts t2.parts;
  spelled = record { p = t1.used; q = t2.used; x = x; parts = refl; first = t1.spelled; second = t2.spelled };
  same = λ r' hd.
      let e1 = t1.same (t2.used ++ r') (carried m t2.used r r' t2.parts hd) in
      rw (append_assoc, e1) (t2.same r' hd);
}

-- the whole stops where the first part stops
stops_first : {X Y : Type 0} {g : Grammar X} {h : X → Grammar Y} (f : TokenFault) (s r : List Lexeme) → Stops g f s r
    → ((x : X) → Sample (h x))
    → Stops (g >>= h) f s r
stops_first f s r t samples = record {
  used = t.used;
  parts = t.parts;
  continues = elim t.continues [ inl c ↦ inl (then_begun t.used c samples) | inr none ↦ inr none ];
  same = λ r' hd. rw (t.same r' hd) refl;
}

-- or where the second stops, after what the first took
stops_second : {X Y : Type 0} (g : Grammar X) (h : X → Grammar Y) (f : TokenFault) (s : List Lexeme) (x : X)
    (m r : List Lexeme)
    → Takes g s x m → Stops (h x) f m r → Sample (h x) → Stops (g >>= h) f s r
stops_second g h f s x m r t1 t2 sample = record {
  used = t1.used ++ t2.used;
  parts = joined s t1.used m t2.used r t1.parts t2.parts;
  continues = inl (then_behind g h t1.used t2.used x t1.spelled (surely t2.used sample t2.continues));
  same = λ r' hd.
      let e1 = t1.same (t2.used ++ r') (carried m t2.used r r' t2.parts hd) in
      rw (append_assoc, e1) (t2.same r' hd);
}

-- FIRST of the whole: that of the first, and of the second where the first is nullable
begins-append : (f g : Set) (n m : Bool) (p q : List Lexeme) → Begins f n p → Begins g m q
    → Begins (also f n g) (n && m) (p ++ q)
begins-append f g n m [] [] a b = rw (a, b) refl
begins-append f g n m [] (t ∷ q) a b = rw (a, b) (or_true (f t.kind))
begins-append f g n m (t ∷ p) q a b = rw a refl

-- what is spelled is read, where FIRST of the second is none of what goes on with the first
then_again : {X Y : Type 0} {g : Grammar X} {h : X → Grammar Y} {f1 m1 f2 m2 : Set} {n1 n2 : Bool}
    → Good g f1 n1 m1 → ((x : X) → Good (h x) f2 n2 m2) → Apart f2 m1
    → (u : List Lexeme) (y : Y) (r : List Lexeme) → Both g.spells (λ x. (h x).spells) u y → Clear (also m2 n2 m1) r
    → (g >>= h).reads (u ++ r) ≡ Ok (y, r)
then_again {X} {Y} {g} {h} {f1} {m1} {f2} {m2} {n1} {n2} a b apart u y r w clear =
    let next = b w.x in
    let clear1 = begins_clear f2 m1 n2 w.q r (next.begins w.q y w.second) apart (clear_right m2 m1 n2 r clear) in
    let e1 : g.reads (u ++ r) ≡ Ok (w.x, w.q ++ r) =
    rw (w.parts, append_assoc) (a.again w.p w.x (w.q ++ r) w.first clear1) in
    rw e1 (next.again w.q y r w.second (clear_left m2 m1 n2 r clear))

-- what is read is spelled
then_takes : {X Y : Type 0} {g : Grammar X} {h : X → Grammar Y} {f1 m1 f2 m2 : Set} {n1 n2 : Bool}
    → Good g f1 n1 m1 → ((x : X) → Good (h x) f2 n2 m2)
    → (s : List Lexeme) (y : Y) (r : List Lexeme) → (g >>= h).reads s ≡ Ok (y, r) → Takes (g >>= h) s y r
then_takes {X} {Y} {g} {h} a b s y r e =
    let k = bind_ok (g.reads s) (λ x q. (h x).reads q) y r e in
    takes_both h s k.x k.r y r (a.takes s k.x k.r k.first) ((b k.x).takes k.r y r k.second)

-- what stands before a fault continues
then_stops : {X Y : Type 0} {g : Grammar X} {h : X → Grammar Y} {f1 m1 f2 m2 : Set} {n1 n2 : Bool}
    → Good g f1 n1 m1 → ((x : X) → Good (h x) f2 n2 m2) → ((x : X) → Sample (h x))
    → (s r : List Lexeme) (f : TokenFault) → (g >>= h).reads s ≡ Err (f, r) → Stops (g >>= h) f s r
then_stops {X} {Y} {g} {h} a b samples s r f e =
    elim (bind_err (g.reads s) (λ x q. (h x).reads q) (f, r) e) [
      | inl e1 ↦ stops_first f s r (a.stops s r f e1) samples
      | inr k ↦ stops_second g h f s k.0 k.1 r (a.takes s k.0 k.1 k.2) ((b k.0).stops k.1 r f k.3) (samples k.0)
    ]

-- the laws of one after the other
pub then_good : {X Y : Type 0} {g : Grammar X} {h : X → Grammar Y} {f1 m1 f2 m2 : Set} {n1 n2 : Bool}
    → Good g f1 n1 m1 → ((x : X) → Good (h x) f2 n2 m2) → ((x : X) → Sample (h x)) → Apart f2 m1
    → Good (g >>= h) (also f1 n1 f2) (n1 && n2) (also m2 n2 m1)
then_good {X} {Y} {g} {h} {f1} {m1} {f2} {m2} {n1} {n2} a b samples apart = record {
  begins =
      λ u y w. rw w.parts (begins-append f1 f2 n1 n2 w.p w.q (a.begins w.p w.x w.first) ((b w.x).begins w.q y w.second));
  again = then_again a b apart;
  takes = then_takes a b;
  stops = then_stops a b samples;
}

-- ---- one or the other

-- what continues the first of two continues the whole
pub either_left : {X : Type 0} {g h : Grammar X} (set : Set) (u : List Lexeme) → Continues g u
    → Continues (either set g h) u
either_left set u c = record { rest = c.rest; value = c.value; spelled = inl c.spelled }

-- and so does what continues the second
pub either_right : {X : Type 0} {g h : Grammar X} (set : Set) (u : List Lexeme) → Continues h u
    → Continues (either set g h) u
either_right set u c = record { rest = c.rest; value = c.value; spelled = inr c.spelled }

-- by a token of the set, what the first takes is taken
pub takes_left : {X : Type 0} {g h : Grammar X} (set : Set) (s : List Lexeme) (x : X) (r : List Lexeme)
    → heads set s ≡ true → Takes g s x r
    → Takes (either set g h) s x r
takes_left set s x r left t = record {
  used = t.used;
  parts = t.parts;
  spelled = inl t.spelled;
  same = λ r' hd. rw (heads_carried set true s t.used r r' t.parts hd left) (t.same r' hd);
}

-- by another, what the second takes
pub takes_right : {X : Type 0} {g h : Grammar X} (set : Set) (s : List Lexeme) (x : X) (r : List Lexeme)
    → heads set s ≡ false → Takes h s x r
    → Takes (either set g h) s x r
takes_right set s x r right t = record {
  used = t.used;
  parts = t.parts;
  spelled = inr t.spelled;
  same = λ r' hd. rw (heads_carried set false s t.used r r' t.parts hd right) (t.same r' hd);
}

-- by a token of the set, the whole stops where the first does
stops_left : {X : Type 0} {g h : Grammar X} (set : Set) (f : TokenFault) (s r : List Lexeme) → heads set s ≡ true
    → Stops g f s r
    → Stops (either set g h) f s r
stops_left set f s r left t = record {
  used = t.used;
  parts = t.parts;
  continues = elim t.continues [ inl c ↦ inl (either_left set t.used c) | inr none ↦ inr none ];
  same = λ r' hd. rw (heads_carried set true s t.used r r' t.parts hd left) (t.same r' hd);
}

-- by another, where the second does
stops_right : {X : Type 0} {g h : Grammar X} (set : Set) (f : TokenFault) (s r : List Lexeme) → heads set s ≡ false
    → Stops h f s r
    → Stops (either set g h) f s r
stops_right set f s r right t = record {
  used = t.used;
  parts = t.parts;
  continues = elim t.continues [ inl c ↦ inl (either_right set t.used c) | inr none ↦ inr none ];
  same = λ r' hd. rw (heads_carried set false s t.used r r' t.parts hd right) (t.same r' hd);
}

-- FIRST of the first is in FIRST of the whole
begins-left : (f g : Set) (m : Bool) (u : List Lexeme) → Begins f false u → Begins (also f true g) m u
begins-left f g m [] h = absurd cc
begins-left f g m (t ∷ u) h = rw h refl

-- and so is that of the second
begins-right : (f g : Set) (m : Bool) (u : List Lexeme) → Begins g m u → Begins (also f true g) m u
begins-right f g m [] h = h
begins-right f g m (t ∷ u) h = rw h (or_true (f t.kind))

-- the laws of one or the other
pub either_good : {X : Type 0} {g h : Grammar X} {f1 m1 f2 m2 : Set} {n2 : Bool} (set : Set)
    → Good g f1 false m1 → Good h f2 n2 m2 → Within f1 set → Apart f2 set
    → Good (either set g h) (also f1 true f2) n2 (also (also m1 true m2) n2 set)
either_good {X} {g} {h} {f1} {m1} {f2} {m2} {n2} set a b within apart = record {
  begins =
      λ u x w. ⊎_elim (λ l. begins-left f1 f2 n2 u (a.begins u x l)) (λ r. begins-right f1 f2 n2 u (b.begins u x r)) w;
  again = λ u x r w clear.
      let both = clear_left (also m1 true m2) set n2 r clear in
      ⊎_elim
      (λ l. rw (begins_heads f1 set u r (a.begins u x l) within) (a.again u x r l (clear_left m1 m2 true r both)))
      (λ q.
      rw (begins_clear f2 set n2 u r (b.begins u x q) apart (clear_right (also m1 true m2) set n2 r clear))
      (b.again u x r q (clear_right m1 m2 true r both refl)))
      w;
  takes = λ s x r e.
      elim (cases_Bool (heads set s)) [
        | inl left ↦ takes_left set s x r left (a.takes s x r (rw left at e))
        | inr right ↦ takes_right set s x r right (b.takes s x r (rw right at e))
      ];
  stops = λ s r f e.
      elim (cases_Bool (heads set s)) [
        | inl left ↦ stops_left set f s r left (a.stops s r f (rw left at e))
        | inr right ↦ stops_right set f s r right (b.stops s r f (rw right at e))
      ];
}
