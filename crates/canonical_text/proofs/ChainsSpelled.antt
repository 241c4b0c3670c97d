-- Words that spell a chain of operators, put together from those of its parts.
-- `x_spelled` says that the canonical words of x spell it.
use Rattle.std.proofs.Common.{◌≡◌, ℕ, ◌+◌, ◌<◌, Bool, true, List, [], ◌∷◌, ◌++◌, Some, None, refl, ap, sym, ◌∙◌}
use Rattle.std.proofs.Common.{subst, inl, inr, append-nil, append_assoc}
use Rattle.std.proofs.lemmas.Bool.{lt-ltb}
use Rattle.flow_base.specs.declared.chart_limits.TheConstants.{OPERATOR_LIMIT}
use Rattle.token_grammar.specs.declared.token.Kind.{Kind}
use Rattle.token_grammar.specs.Token.{Lexeme}
use Rattle.token_grammar.specs.Grammar.{many_from, many_from_spells}
use Rattle.chart_tree.specs.Trees.{Binary}
use Rattle.chart_grammar.specs.Limits.{usual}
use Rattle.chart_grammar.specs.Expressions.{Operand, Tail, Operands, bin_word, operator, tail, tails, with_tail}
use Rattle.chart_grammar.specs.Expressions.{joined, chain, pair}
use Rattle.chart_print.specs.Pieces.{kind_bytes}
use Rattle.chart_print.specs.Places.{nowhere, unplaced_expr}
use Rattle.canonical_text.specs.Words.{Word, word_of, WordsSpell}
use Rattle.canonical_text.proofs.Words.{keyword}
use Rattle.canonical_text.proofs.Spelled.{split, spell_allowed, spell_one_of, spell_then, spell_made}

-- an operand without its places
abbrev pub unplaced : Operand → Operand
unplaced o = record { expr = unplaced_expr o.expr; operators = o.operators }

-- an operator with the operand after it, without their places
abbrev pub unplaced_tail : Tail → Tail
unplaced_tail t = record { word = t.word; at = nowhere; right = unplaced t.right }

-- with an operator and another operand after it, without the place of the operator
abbrev pub joined_bare : Operand → Tail → Operand
joined_bare y t = record { expr = Binary t.word y.expr t.right.expr nowhere; operators = t.right.operators }

-- ---- one operator

pub operator_spelled : (set : Kind → Bool) (k : Kind) (n : ℕ) → set k ≡ true → n < OPERATOR_LIMIT
    → WordsSpell (operator usual set n) word_of (keyword k ∷ []) (record { kind = k; text = kind_bytes k })
unfolding operator
operator_spelled set k n there room =
    spell_allowed set (rw (lt-ltb n OPERATOR_LIMIT room) refl) (spell_one_of set k (kind_bytes k) there)

-- with the operand after it
tail_spelled : (set : Kind → Bool) (operand : Operands) (k : Kind) (n : ℕ) {b : List Word} {y : Operand}
    → set k ≡ true → n < OPERATOR_LIMIT
    → WordsSpell (operand (n + 1)) unplaced b y
    → WordsSpell (tail usual set operand n) unplaced_tail (keyword k ∷ b)
    (record { word = bin_word k; at = nowhere; right = y })
unfolding tail
tail_spelled set operand k n there room p =
    spell_then (operator_spelled set k n there room) (λ t is.
    let kind = ap (λ (w : Word). w.kind) is in
    spell_made p (λ right same. rw (kind, same) refl))

-- ---- chains

-- one operator more is joined last
joined-append : (e : Operand) (ts : List Tail) (t : Tail) → joined e (ts ++ t ∷ []) ≡ with_tail (joined e ts) t
joined-append e [] t = refl
joined-append e (s ∷ ts) t = joined-append (with_tail e s) ts t

module _ (set : Kind → Bool) (operand : Operands) where
  -- one more after them
  tails_append : (e : Operand) (u v : List Lexeme) (ts : List Tail) (t : Tail)
      → many_from_spells (λ z. (tail usual set operand z).spells) (λ z t. t.right.operators) e.operators u ts
      → (tail usual set operand (joined e ts).operators).spells v t
      → many_from_spells (λ z. (tail usual set operand z).spells) (λ z t. t.right.operators) e.operators (u ++ v)
      (ts ++ t ∷ [])
  tails_append e u v [] t none s =
      record { p = v; q = []; parts = rw none (sym (append-nil v)); first = s; second = refl }
  tails_append e u v (x ∷ ts) t c s = record {
    p = c.p;
    q = c.q ++ v;
    parts = rw c.parts (append_assoc c.p c.q v);
    first = c.first;
    second = tails_append (with_tail e x) c.q v ts t c.second s;
  }

  pub chain_alone : (n : ℕ) {w : List Word} {y : Operand} → WordsSpell (operand n) unplaced w y
      → WordsSpell (chain usual set operand n) unplaced w y
  unfolding chain tails many_from
  chain_alone n p u e =
      let s = p u e in
      record {
        value = s.value;
        spelled = record {
          p = u;
          q = [];
          x = s.value;
          parts = sym (append-nil u);
          first = s.spelled;
          second = record { p = []; q = []; x = []; parts = refl; first = refl; second = (refl, refl) };
        };
        looks = s.looks;
      }

  pub pair_alone : (n : ℕ) {w : List Word} {y : Operand} → WordsSpell (operand n) unplaced w y
      → WordsSpell (pair usual set operand n) unplaced w y
  unfolding pair
  pair_alone n p u e =
      let s = p u e in
      record {
        value = s.value;
        spelled = record {
          p = u;
          q = [];
          x = s.value;
          parts = sym (append-nil u);
          first = s.spelled;
          second = record { p = []; q = []; x = None; parts = refl; first = inr (refl, refl); second = (refl, refl) };
        };
        looks = s.looks;
      }

  -- a chain with one more operator and operand after it
  chain_more : (n : ℕ) {a b : List Word} {y : Operand} {t : Tail} → WordsSpell (chain usual set operand n) unplaced a y
      → WordsSpell (tail usual set operand y.operators) unplaced_tail b t
      → WordsSpell (chain usual set operand n) unplaced (a ++ b) (joined_bare y t)
  unfolding chain tails many_from
  chain_more n {a} {b} {y} {t} f g u e =
      let s = split u a b e in
      let l = f s.front s.first in
      let r = g s.back s.second in
      let c = l.spelled in
      let d = c.second in
      let front : s.front ≡ c.p ++ d.p =
      c.parts ∙ ap (λ (v : List Lexeme). c.p ++ v)
      (d.parts ∙ ap (λ (v : List Lexeme). d.p ++ v) d.second.0 ∙ append-nil d.p) in
      let same : unplaced (joined c.x d.x) ≡ y = ap unplaced (sym d.second.1) ∙ l.looks in
      let before : y.operators ≡ (joined c.x d.x).operators = sym (ap (λ (o : Operand). o.operators) same) in
      let last = subst (λ (z : ℕ). (tail usual set operand z).spells s.back r.value) before r.spelled in
      record {
        value = joined c.x (d.x ++ r.value ∷ []);
        spelled = record {
          p = c.p;
          q = d.p ++ s.back;
          x = c.x;
          parts = s.parts ∙ ap (λ (v : List Lexeme). v ++ s.back) front ∙ append_assoc c.p d.p s.back;
          first = c.first;
          second = record {
            p = d.p ++ s.back;
            q = [];
            x = d.x ++ r.value ∷ [];
            parts = sym (append-nil (d.p ++ s.back));
            first = tails_append c.x d.p s.back d.x r.value d.first last;
            second = (refl, refl);
          };
        };
        looks =
            ap unplaced (joined-append c.x d.x r.value)
            ∙ ap (λ (z : Operand). joined_bare z (unplaced_tail r.value)) same
            ∙ ap (λ (z : Tail). joined_bare y z) r.looks;
      }

  -- an operand with an operator and another operand after it
  pair_more : (n : ℕ) {a b : List Word} {y : Operand} {t : Tail} → WordsSpell (operand n) unplaced a y
      → WordsSpell (tail usual set operand y.operators) unplaced_tail b t
      → WordsSpell (pair usual set operand n) unplaced (a ++ b) (joined_bare y t)
  unfolding pair
  pair_more n {a} {b} {y} {t} f g u e =
      let s = split u a b e in
      let l = f s.front s.first in
      let r = g s.back s.second in
      let before : y.operators ≡ l.value.operators = sym (ap (λ (o : Operand). o.operators) l.looks) in
      let last = subst (λ (z : ℕ). (tail usual set operand z).spells s.back r.value) before r.spelled in
      record {
        value = with_tail l.value r.value;
        spelled = record {
          p = s.front;
          q = s.back;
          x = l.value;
          parts = s.parts;
          first = l.spelled;
          second = record {
            p = s.back;
            q = [];
            x = Some r.value;
            parts = sym (append-nil s.back);
            first = inl
                (record {
                  p = s.back;
                  q = [];
                  x = r.value;
                  parts = sym (append-nil s.back);
                  first = last;
                  second =
                      (refl, refl);
                });
            second = (refl, refl);
          };
        };
        looks = ap (λ (z : Operand). joined_bare z (unplaced_tail r.value)) l.looks
            ∙ ap (λ (z : Tail). joined_bare y z) r.looks;
      }

  -- an operator between two operands
  pub chain_binary : (k : Kind) (n : ℕ) {a b : List Word} {y z : Operand} → set k ≡ true → y.operators < OPERATOR_LIMIT
      → WordsSpell (chain usual set operand n) unplaced a y → WordsSpell (operand (y.operators + 1)) unplaced b z
      → WordsSpell (chain usual set operand n) unplaced (a ++ (keyword k ∷ b))
      (record { expr = Binary (bin_word k) y.expr z.expr nowhere; operators = z.operators })
  chain_binary k n {y = y} there room f g = chain_more n f (tail_spelled set operand k y.operators there room g)

  pub pair_binary : (k : Kind) (n : ℕ) {a b : List Word} {y z : Operand} → set k ≡ true → y.operators < OPERATOR_LIMIT
      → WordsSpell (operand n) unplaced a y → WordsSpell (operand (y.operators + 1)) unplaced b z
      → WordsSpell (pair usual set operand n) unplaced (a ++ (keyword k ∷ b))
      (record { expr = Binary (bin_word k) y.expr z.expr nowhere; operators = z.operators })
  pair_binary k n {y = y} there room f g = pair_more n f (tail_spelled set operand k y.operators there room g)
