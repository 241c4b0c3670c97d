-- Two equivalent grammars, which spell and read the same: FIRST, nullable and the reading laws of one are those of
-- the other.
use Rattle.std.proofs.Common.{◌≡◌, Bool, List, ◌++◌, inl, inr, sym, ◌∙◌}
use Rattle.token_grammar.specs.declared.fault.TokenFault.{TokenFault}
use Rattle.token_grammar.specs.Token.{Lexeme}
use Rattle.token_grammar.specs.Grammar.{Grammar, Continues}
use Rattle.token_grammar.proofs.Good.{Set, Takes, Stops, Good}

-- two grammars that spell and read the same
pub record Alike {X : Type 0} (g h : Grammar X) : Type 0 where
  pub read : (s : List Lexeme) → g.reads s ≡ h.reads s
  pub spelled : (u : List Lexeme) (x : X) → g.spells u x → h.spells u x
  pub back : (u : List Lexeme) (x : X) → h.spells u x → g.spells u x

-- what one takes, the other takes
pub takes_alike : {X : Type 0} {g h : Grammar X} → Alike g h → (s : List Lexeme) (x : X) (r : List Lexeme)
    → Takes h s x r → Takes g s x r
takes_alike a s x r t = record {
  used = t.used;
  parts = t.parts;
  spelled = a.back t.used x t.spelled;
  same = λ r' hd. a.read (t.used ++ r') ∙ t.same r' hd;
}

-- what continues in one continues in the other
pub continues_alike : {X : Type 0} {g h : Grammar X} (u : List Lexeme) → Alike g h → Continues h u → Continues g u
continues_alike u a c = record { rest = c.rest; value = c.value; spelled = a.back (u ++ c.rest) c.value c.spelled }

-- where one stops, the other stops
stops_alike : {X : Type 0} {g h : Grammar X} → Alike g h → (f : TokenFault) (s r : List Lexeme) → Stops h f s r
    → Stops g f s r
stops_alike a f s r t = record {
  used = t.used;
  parts = t.parts;
  continues = elim t.continues [ inl c ↦ inl (continues_alike t.used a c) | inr none ↦ inr none ];
  same = λ r' hd. a.read (t.used ++ r') ∙ t.same r' hd;
}

-- the laws hold of both or of neither
pub good_alike : {X : Type 0} {g h : Grammar X} {f m : Set} {n : Bool} → Alike g h → Good h f n m → Good g f n m
good_alike a good = record {
  begins = λ u x w. good.begins u x (a.spelled u x w);
  again = λ u x r w clear. a.read (u ++ r) ∙ good.again u x r (a.spelled u x w) clear;
  takes = λ s x r e. takes_alike a s x r (good.takes s x r (sym (a.read s) ∙ e));
  stops = λ s r f e. stops_alike a f s r (good.stops s r f (sym (a.read s) ∙ e));
}
