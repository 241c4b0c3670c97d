-- What words spell, put together: what the parts spell, the whole does.
use Rattle.std.proofs.Common.{◌≡◌, ℕ, Bool, true, false, List, [], ◌∷◌, ◌++◌, map, Option, Some, None, refl, ap, sym}
use Rattle.std.proofs.Common.{◌∙◌, inl, inr, eq-eqb, append-nil, if◌then◌else◌}
use Rattle.std.specs.Option.{option_map}
use Rattle.token_grammar.specs.declared.token.Kind.{Kind}
use Rattle.token_grammar.specs.declared.token.Span.{Span}
use Rattle.token_grammar.specs.declared.fault.TokenFault.{TokenFault}
use Rattle.token_grammar.specs.Token.{Lexeme, kind_eq}
use Rattle.token_grammar.specs.Grammar.{Grammar, token, one_of, give, ◌>>=◌, either, optional, allowed, at_first}
use Rattle.token_grammar.specs.Grammar.{many, many_from, first_refused}
use Rattle.canonical_text.specs.Words.{Word, word_of, words_of, WordsSpell}
use Rattle.canonical_text.proofs.Words.{one}

-- ---- tokens of two lists of words

-- tokens whose words are a and then b
pub record Split (u : List Lexeme) (a b : List Word) : Type 0 where
  pub front : List Lexeme
  pub back : List Lexeme
  pub parts : u ≡ front ++ back
  pub first : words_of front ≡ a
  pub second : words_of back ≡ b

-- any tokens of these words are
pub split : (u : List Lexeme) (a b : List Word) → words_of u ≡ a ++ b → Split u a b
split u [] b h = record { front = []; back = u; parts = refl; first = refl; second = h }
split [] (w ∷ a) b h = absurd cc
split (t ∷ u) (w ∷ a) b h =
    let one : word_of t ≡ w = cc in
    let others : words_of u ≡ a ++ b = cc in
    let s = split u a b others in
    record {
      front = t ∷ s.front;
      back = s.back;
      parts = ap (λ (v : List Lexeme). t ∷ v) s.parts;
      first = rw (one, s.first) refl;
      second = s.second;
    }

-- no words are no tokens
no_words : (u : List Lexeme) → words_of u ≡ [] → u ≡ []
no_words [] h = refl
no_words (t ∷ u) h = absurd cc

-- ---- the same in another way

-- the same words, written otherwise
pub spell_as : {X Y : Type 0} {g : Grammar X} {view : X → Y} {a b : List Word} {y : Y} → b ≡ a
    → WordsSpell g view a y → WordsSpell g view b y
spell_as e p u h = p u (h ∙ e)

-- what looks like that one way looks like this the other way
pub spell_seen : {X A B : Type 0} {g : Grammar X} {first : X → A} {view : X → B} {w : List Word} {x : A} {y : B}
    → WordsSpell g first w x → ((v : X) → first v ≡ x → view v ≡ y) → WordsSpell g view w y
spell_seen p same u e = let s = p u e in record { value = s.value; spelled = s.spelled; looks = same s.value s.looks }

-- ---- one token, and none

-- one token of a kind
pub spell_token : (k : Kind) (text : List ℕ)
    → WordsSpell (token k) word_of (one k text) (record { kind = k; text = text })
unfolding token
spell_token k text [] h = absurd cc
spell_token k text (t ∷ []) h =
    let is : word_of t ≡ record { kind = k; text = text } = cc in
    let kind : t.kind ≡ k = ap (λ (w : Word). w.kind) is in
    let same : kind_eq k k ≡ true = eq-eqb _ _ refl in
    record { value = t; spelled = (refl, rw kind same); looks = is }
spell_token k text (t ∷ v ∷ u) h = absurd cc

-- one token of a kind in the set
pub spell_one_of : (set : Kind → Bool) (k : Kind) (text : List ℕ) → set k ≡ true
    → WordsSpell (one_of set) word_of (one k text) (record { kind = k; text = text })
unfolding one_of
spell_one_of set k text there [] h = absurd cc
spell_one_of set k text there (t ∷ []) h =
    let is : word_of t ≡ record { kind = k; text = text } = cc in
    let kind : t.kind ≡ k = ap (λ (w : Word). w.kind) is in
    record { value = t; spelled = (refl, rw kind there); looks = is }
spell_one_of set k text there (t ∷ v ∷ u) h = absurd cc

-- no words give a value
pub spell_give : {X Y : Type 0} {view : X → Y} {y : Y} (x : X) → view x ≡ y → WordsSpell (give x) view [] y
spell_give x looks u h = record { value = x; spelled = (no_words u h, refl); looks = looks }

-- ---- one after the other

-- what is spelled first, and what is spelled after it whatever that was
pub spell_then : {X Y A B : Type 0} {g : Grammar X} {h : X → Grammar Y} {first : X → A} {view : Y → B}
    {a b : List Word} {x : A} {y : B}
    → WordsSpell g first a x → ((v : X) → first v ≡ x → WordsSpell (h v) view b y)
    → WordsSpell (g >>= h) view (a ++ b) y
spell_then {a = a} {b = b} p q u e =
    let s = split u a b e in
    let l = p s.front s.first in
    let r = q l.value l.looks s.back s.second in
    record {
      value = r.value;
      spelled = record { p = s.front; q = s.back; x = l.value; parts = s.parts; first = l.spelled; second = r.spelled };
      looks = r.looks;
    }

-- what is spelled is made into another value
pub spell_made : {X Y A B : Type 0} {g : Grammar X} {f : X → Y} {first : X → A} {view : Y → B} {w : List Word}
    {x : A} {y : B}
    → WordsSpell g first w x → ((v : X) → first v ≡ x → view (f v) ≡ y) → WordsSpell (g >>= λ v. give (f v)) view w y
spell_made {f = f} p same u e =
    let s = p u e in
    record {
      value = f s.value;
      spelled =
          record { p = u; q = []; x = s.value; parts = sym (append-nil u); first = s.spelled; second = (refl, refl) };
      looks = same s.value s.looks;
    }

-- ---- one or the other

-- the first of two grammars
pub spell_left : {X Y : Type 0} {g h : Grammar X} {view : X → Y} {w : List Word} {y : Y} (set : Kind → Bool)
    → WordsSpell g view w y → WordsSpell (either set g h) view w y
spell_left set p u e = let s = p u e in record { value = s.value; spelled = inl s.spelled; looks = s.looks }

-- or the second
pub spell_right : {X Y : Type 0} {g h : Grammar X} {view : X → Y} {w : List Word} {y : Y} (set : Kind → Bool)
    → WordsSpell h view w y → WordsSpell (either set g h) view w y
spell_right set p u e = let s = p u e in record { value = s.value; spelled = inr s.spelled; looks = s.looks }

-- ---- what may be missing

-- no words, where nothing is there
pub spell_none : {X Y : Type 0} {view : X → Y} (set : Kind → Bool) (g : Grammar X)
    → WordsSpell (optional set g) (option_map view) [] None
spell_none set g = spell_right set (spell_give None refl)

-- and the words of what is there
pub spell_some : {X Y : Type 0} {g : Grammar X} {view : X → Y} {w : List Word} {y : Y} (set : Kind → Bool)
    → WordsSpell g view w y → WordsSpell (optional set g) (option_map view) w (Some y)
spell_some set p = spell_left set (spell_made p (λ v l. ap Some l))

-- ---- where a token is allowed

-- what refuses nothing of a token refuses nothing, whether the token is looked at or not
none_refused : (looked : Bool) {said : Option TokenFault} → said ≡ None → (if looked then said else None) ≡ None
none_refused true free = free
none_refused false free = refl

-- where the test says the same of each token
pub spell_allowed : {X Y : Type 0} {g : Grammar X} {view : X → Y} {w : List Word} {y : Y} (set : Kind → Bool)
    {said : Option TokenFault}
    → said ≡ None → WordsSpell g view w y → WordsSpell (allowed set (λ t. said) g) view w y
spell_allowed set {said} free p u e = let s =
    p u e in record { value = s.value; spelled = (passes u, s.spelled); looks = s.looks }
  where
    passes : (u : List Lexeme) → first_refused set (λ t. said) u ≡ None
    passes [] = refl
    passes (t ∷ u) = none_refused (set t.kind) free

-- where it looks at the first word
pub spell_tested : {X Y : Type 0} {g : Grammar X} {view : X → Y} {w : List Word} {y : Y} (set : Kind → Bool)
    (test : Lexeme → Option TokenFault)
    (k : Kind) (text : List ℕ) → ((t : Lexeme) → t.kind ≡ k → t.text ≡ text → test t ≡ None)
    → WordsSpell g view (record { kind = k; text = text } ∷ w) y
    → WordsSpell (allowed set test g) view (record { kind = k; text = text } ∷ w) y
spell_tested {w = w} set test k text free p u e =
    let s = p u e in record { value = s.value; spelled = (passes u e, s.spelled); looks = s.looks }
  where
    passes : (u : List Lexeme) → words_of u ≡ record { kind = k; text = text } ∷ w → first_refused set test u ≡ None
    passes [] e = absurd cc
    passes (t ∷ u) e =
        let first : word_of t ≡ record { kind = k; text = text } = cc in
        none_refused (set t.kind) (free t (ap (λ (v : Word). v.kind) first) (ap (λ (v : Word). v.text) first))

-- the place of the first token
pub spell_at_first : {X Y : Type 0} {g : Span → Grammar X} {view : X → Y} {w : List Word} {y : Y}
    → ((p : Span) → WordsSpell (g p) view w y) → WordsSpell (at_first g) view w y
spell_at_first p u e = let s = p _ u e in record { value = s.value; spelled = s.spelled; looks = s.looks }

-- ---- any number

-- none
pub spell_no_more : {X Y : Type 0} {view : X → Y} (set : Kind → Bool) (g : Grammar X)
    → WordsSpell (many set g) (λ xs. map view xs) [] []
unfolding many
spell_no_more set g u e = record { value = []; spelled = no_words u e; looks = refl }

-- one, and those after it
pub spell_more : {X Y : Type 0} {g : Grammar X} {view : X → Y} {a b : List Word} {y : Y} {ys : List Y}
    (set : Kind → Bool)
    → WordsSpell g view a y → WordsSpell (many set g) (λ xs. map view xs) b ys
    → WordsSpell (many set g) (λ xs. map view xs) (a ++ b) (y ∷ ys)
unfolding many
spell_more {a = a} {b = b} set p q u e =
    let s = split u a b e in
    let l = p s.front s.first in
    let r = q s.back s.second in
    record {
      value = l.value ∷ r.value;
      spelled = record { p = s.front; q = s.back; parts = s.parts; first = l.spelled; second = r.spelled };
      looks = rw (l.looks, r.looks) refl;
    }

-- ---- any number, where what may come next depends on what came

-- none
pub spell_end : {S X Y : Type 0} {view : X → Y} (set : S → Kind → Bool) (g : S → Grammar X) (next : S → X → S) (s : S)
    → WordsSpell (many_from set g next s) (λ xs. map view xs) [] []
unfolding many_from
spell_end set g next s u e = record { value = []; spelled = no_words u e; looks = refl }

-- one, and those after it
pub spell_next : {S X Y : Type 0} {view : X → Y} {a b : List Word} {y : Y} {ys : List Y}
    (set : S → Kind → Bool) (g : S → Grammar X) (next : S → X → S) (s : S)
    → WordsSpell (g s) view a y
    → ((x : X) → view x ≡ y → WordsSpell (many_from set g next (next s x)) (λ xs. map view xs) b ys)
    → WordsSpell (many_from set g next s) (λ xs. map view xs) (a ++ b) (y ∷ ys)
unfolding many_from
spell_next {a = a} {b = b} set g next s p q u e =
    let c = split u a b e in
    let l = p c.front c.first in
    let r = q l.value l.looks c.back c.second in
    record {
      value = l.value ∷ r.value;
      spelled = record { p = c.front; q = c.back; parts = c.parts; first = l.spelled; second = r.spelled };
      looks = rw (l.looks, r.looks) refl;
    }
