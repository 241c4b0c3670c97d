-- Statements without sets that nothing reads.
use Rattle.std.proofs.Common.{◌≡◌, ◌==◌, ◌&&◌, ◌||◌, not, ℕ, Bool, true, false, cond, List, [], ◌∷◌, Option, Some, slice_get}
use Rattle.std.proofs.Common.{inr, refl, sym, ap, ◌∙◌, subst, ℤ}
use Rattle.std.specs.List.{list_any}
use Rattle.c_subset.specs.declared.trees.Width.{Width}
use Rattle.c_subset.specs.declared.trees.CType.{CType}
use Rattle.c_subset.specs.declared.trees.Case.{Case}
use Rattle.c_subset.specs.Trees.{CExpr}
use Rattle.c_subset.specs.Trees.{Block, End, Set, Store as PutField, StoreAt, Call, Select, If, While, Return}
use Rattle.c_subset.specs.Meaning.{CValue, Meaning, Gives, Wrong, with_meaning, converted, promoted, is_true, Store}
use Rattle.c_subset.specs.Meaning.{element, Locals, meaning}
use Rattle.c_subset.specs.Running.{Outcome, Falls, Returns, Starves, GoesWrong, with_value, and_on, with_local, brought_to, with_field}
use Rattle.c_subset.specs.Running.{with_element, Calls, with_values, called, same_type, turns, selected, outcome}
use Rattle.c_bare.specs.Needs.{is_it, reads}
use Rattle.c_bare.specs.Bare.{calls_bare}
use Rattle.c_bare.proofs.Clearer.{with-clearer}
use Rattle.c_bare.proofs.Truth.{left, right}
use Rattle.c_bare.proofs.Keeping.{Sub, Keeps, Alike, means, value-keeps, on-keeps, cond-keeps, values-keep}
use Rattle.c_bare.proofs.Keeping.{turns-keep, selected-keeps}
use Rattle.c_unread.specs.Live.{LocalName, is_live, without, unread_number, taken_by, united, with_read, with_all_read}
use Rattle.c_unread.specs.Live.{with_named}
use Rattle.c_unread.specs.Unread.{Trimmed, set_before, trimmed}
use Rattle.c_unread.proofs.LiveLemmas.{it-live, others-stay, none-comes, united-is, read-is, all-read-is}
use Rattle.c_unread.proofs.Within.{names, name-is, trim-within, by-either}

-- these locals
abbrev pub Live : List LocalName → CType → ℕ → Bool
Live live t i = is_live t i live

-- ---- locals

more-left : (a b c : Bool) → c ≡ (a || b) → a ≡ true → c ≡ true
more-left a b c e is = e ∙ left a b is

more-right : (a b c : Bool) → c ≡ (a || b) → b ≡ true → c ≡ true
more-right a b c e is = e ∙ right a b is

module _ (l m : Locals) where
  -- locals that hold what an expression and a list need hold what each needs
  read-part : (e : CExpr) (live : List LocalName) → Sub (Live (with_read e live)) l m → Sub (λ t i. reads t i e) l m
  read-part e live h t i z r w =
      h t i z (more-left (reads t i e) (is_live t i live) (is_live t i (with_read e live)) (read-is t i e live) r) w

  list-part : (e : CExpr) (live : List LocalName) → Sub (Live (with_read e live)) l m → Sub (Live live) l m
  list-part e live h t i z r w =
      h t i z (more-right (reads t i e) (is_live t i live) (is_live t i (with_read e live)) (read-is t i e live) r) w

  all-read-part : (es : List CExpr) (live : List LocalName) → Sub (Live (with_all_read es live)) l m
      → Sub (λ t i. list_any (reads t i) es) l m
  all-read-part es live h t i z r w =
      h t i z (more-left (list_any (reads t i) es) (is_live t i live) (is_live t i (with_all_read es live))
      (all-read-is t i es live) r) w

  all-list-part : (es : List CExpr) (live : List LocalName) → Sub (Live (with_all_read es live)) l m
      → Sub (Live live) l m
  all-list-part es live h t i z r w =
      h t i z (more-right (list_any (reads t i) es) (is_live t i live) (is_live t i (with_all_read es live))
      (all-read-is t i es live) r) w

  first-part : (xs live : List LocalName) → Sub (Live (united xs live)) l m → Sub (Live xs) l m
  first-part xs live h t i z r w =
      h t i z (more-left (is_live t i xs) (is_live t i live) (is_live t i (united xs live)) (united-is t i xs live) r) w

  second-part : (xs live : List LocalName) → Sub (Live (united xs live)) l m → Sub (Live live) l m
  second-part xs live h t i z r w =
      h t i z (more-right (is_live t i xs) (is_live t i live) (is_live t i (united xs live)) (united-is t i xs live) r) w

  -- with one local set in both
  set-both : (u : CType) (j : ℕ) (y : ℤ) (live : List LocalName) → Sub (Live (without u j live)) l m
      → Sub (Live live) (with_local l u j y) (with_local m u j y)
  set-both u j y live h t i z r w =
      at (is_it t i u j) refl (λ other. h t i z (others-stay t u i j live other r)) w
    where
      at : (b : Bool) → is_it t i u j ≡ b → (is_it t i u j ≡ false → l t i ≡ Some z → m t i ≡ Some z)
          → cond b (Some y) (l t i) ≡ Some z → cond b (Some y) (m t i) ≡ Some z
      at true e h w = w
      at false e h w = h e w

  -- with one set in the first, which isn't read
  set-first : (u : CType) (j : ℕ) (y : ℤ) (live : List LocalName) → is_live u j live ≡ false → Sub (Live live) l m
      → Sub (Live live) (with_local l u j y) m
  set-first u j y live none h t i z r w =
      at (is_it t i u j) (λ e. it-live t u i j live e) (h t i z r) w
    where
      at : (b : Bool) → (b ≡ true → is_live t i live ≡ is_live u j live) → (l t i ≡ Some z → m t i ≡ Some z)
          → cond b (Some y) (l t i) ≡ Some z → m t i ≡ Some z
      at true same h w = absurd (clash (sym r ∙ same refl ∙ none)) where
        clash : true ≡ false → ⊥
        clash e = absurd cc
      at false same h w = h w

-- what is one of a list is no local that isn't
other-than : (t u : CType) (i k : ℕ) (live : List LocalName) → is_live t i live ≡ true → is_live u k live ≡ false
    → is_it t i u k ≡ false
other-than t u i k live r none = at (is_it t i u k) refl
  where
    at : (b : Bool) → is_it t i u k ≡ b → b ≡ false
    at true e = sym r ∙ it-live t u i k live e ∙ none
    at false e = refl

-- with what a call returns, in a local of the first and in the one that takes it in the second
set-taken : (u : CType) (j : ℕ) (y : ℤ) (live : List LocalName) (l m : Locals) → Sub (Live (without u j live)) l m
    → Sub (Live live) (with_local l u j y) (with_local m u (taken_by u j live) y)
set-taken u j y live l m h = at (is_live u j live) (is_live u unread_number live) refl refl
  where
    at : (b c : Bool) → is_live u j live ≡ b → is_live u unread_number live ≡ c
        → Sub (Live live) (with_local l u j y) (with_local m u (cond (b || c) j unread_number) y)
    at true c e f = set-both l m u j y live h
    at false true e f = set-both l m u j y live h
    at false false e f = λ t i z r w.
        let own : is_it t i u j ≡ false = other-than t u i j live r e in
        let taker : is_it t i u unread_number ≡ false = other-than t u i unread_number live r f in
        ap (λ (b : Bool). cond b (Some y) (m t i)) taker
        ∙ h t i z (others-stay t u i j live own r) (sym (ap (λ (b : Bool). cond b (Some y) (l t i)) own) ∙ w)

-- locals that hold what a list needs hold what it needs but for one
held-without : (u : CType) (j : ℕ) (live : List LocalName) (l m : Locals) → Sub (Live live) l m
    → Sub (Live (without u j live)) l m
held-without u j live l m h t i z r w = h t i z (none-comes t u i j live r) w

-- locals that hold what a list needs hold what a turn needs of which the list has all names
turn-part : (e : CExpr) (a : Block) (after : List LocalName) (l m : Locals)
    → Sub (Live (with_named a (with_read e after))) l m
    → Sub (Live (trimmed a (with_named a (with_read e after))).live) l m
turn-part e a after l m h t i z r w =
    h t i z (by-either (names t i a) (is_live t i (with_named a (with_read e after)))
    (is_live t i (with_named a (with_read e after))) (trim-within t i a (with_named a (with_read e after)) r)
    (λ n. more-left (names t i a) (is_live t i (with_read e after)) (is_live t i (with_named a (with_read e after)))
    (name-is t i a (with_read e after)) n) (λ n. n)) w

named-part : (a : Block) (live : List LocalName) (l m : Locals) → Sub (Live (with_named a live)) l m
    → Sub (Live live) l m
named-part a live l m h t i z r w =
    h t i z (more-right (names t i a) (is_live t i live) (is_live t i (with_named a live)) (name-is t i a live) r) w

-- ---- a value that nothing needs

gone : (r : CType → ℕ → Bool) (a : Meaning) (f : CValue → Outcome) (o : Outcome) → ((x : CValue) → Keeps r (f x) o)
    → Keeps r (with_value a f) o
gone r (Gives x) f o h = h x
gone r Wrong f o h = tt

-- x = f(m, e, ..);, where another local takes what is returned in the second
taken-keeps : (r : CType → ℕ → Bool) (o p : Outcome) (t : CType) (i j : ℕ) (l m : Locals)
    (f g : Store → Locals → Outcome) → Alike o p
    → ((s : Store) (z : ℤ) → Keeps r (f s (with_local l t i z)) (g s (with_local m t j z)))
    → Keeps r (called o t i l f) (called p t j m g)
taken-keeps r (Falls s n) p t i j l m f g e h = tt
taken-keeps r (Returns s x) p t i j l m f g e h =
    subst (λ (o : Outcome). Keeps r (called (Returns s x) t i l f) (called o t j m g)) (sym (e s x refl))
    (value-keeps r (converted t x.value) (converted t x.value) (λ y. f s (with_local l t i y.value))
    (λ y. g s (with_local m t j y.value)) (inr refl) (λ y. h s y.value))
taken-keeps r Starves p t i j l m f g e h = tt
taken-keeps r GoesWrong p t i j l m f g e h = tt

none-bare : (cases : List Case) → not (calls_bare [] cases) ≡ true
none-bare [] = refl
none-bare (x ∷ cases) = none-bare cases

-- ---- statements

module _ (int : Width) (c d : Calls) (alike : (f : ℕ) (xs : List CValue) (s : Store) → Alike (c f xs s) (d f xs s))
    (k : ℕ) where
  -- x = e; before others
  set-keeps : (u : CType) (j : ℕ) (e : CExpr) (rest : Block) (after : Trimmed) (r : CType → ℕ → Bool) (s : Store)
      (l m : Locals) (b : Bool) → is_live u j after.live ≡ b → Sub (Live (set_before b u j e after).live) l m
      → ((l m : Locals) → Sub (Live after.live) l m → Keeps r (outcome int c k rest s l) (outcome int d k after.block s m))
      → Keeps r (outcome int c k (Set u j e rest) s l) (outcome int d k (set_before b u j e after).block s m)
  unfolding outcome
  set-keeps u j e rest after r s l m true is h keep =
      value-keeps r (with_meaning (meaning int s l e) (λ x. converted u x.value))
      (with_meaning (meaning int s m e) (λ x. converted u x.value))
      (λ y. outcome int c k rest s (with_local l u j y.value))
      (λ y. outcome int d k after.block s (with_local m u j y.value))
      (with-clearer (meaning int s l e) (meaning int s m e) (λ x. converted u x.value) (λ x. converted u x.value)
      (means int s l m e (read-part l m e (without u j after.live) h)) (λ x. inr refl))
      (λ y. keep (with_local l u j y.value) (with_local m u j y.value)
      (set-both l m u j y.value after.live (list-part l m e (without u j after.live) h)))
  set-keeps u j e rest after r s l m false is h keep =
      gone r (with_meaning (meaning int s l e) (λ x. converted u x.value))
      (λ y. outcome int c k rest s (with_local l u j y.value)) (outcome int d k after.block s m)
      (λ y. keep (with_local l u j y.value) m (set-first l m u j y.value after.live is h))

  pub trim-keeps : (a : Block) (live : List LocalName) (s : Store) (l m : Locals)
      → Sub (Live (trimmed a live).live) l m
      → Keeps (Live live) (outcome int c k a s l) (outcome int d k (trimmed a live).block s m)
  unfolding outcome trimmed
  trim-keeps End live s l m h = (m, refl, h)
  trim-keeps (Set u j e rest) live s l m h =
      set-keeps u j e rest (trimmed rest live) (Live live) s l m (is_live u j (trimmed rest live).live) refl h
      (λ l m. trim-keeps rest live s l m)
  trim-keeps (PutField f e rest) live s l m h =
      let after = trimmed rest live in
      value-keeps (Live live) (with_meaning (meaning int s l e) (λ x. brought_to (slice_get s.fields f) x.value))
      (with_meaning (meaning int s m e) (λ x. brought_to (slice_get s.fields f) x.value))
      (λ y. outcome int c k rest (with_field s f y) l) (λ y. outcome int d k after.block (with_field s f y) m)
      (with-clearer (meaning int s l e) (meaning int s m e) (λ x. brought_to (slice_get s.fields f) x.value)
      (λ x. brought_to (slice_get s.fields f) x.value) (means int s l m e (read-part l m e after.live h))
      (λ x. inr refl))
      (λ y. trim-keeps rest live (with_field s f y) l m (list-part l m e after.live h))
  trim-keeps (StoreAt a x e rest) live s l m h =
      let after = trimmed rest live in
      let both = list-part l m e (with_read x after.live) h in
      value-keeps (Live live) (meaning int s l x) (meaning int s m x)
      (λ n. with_value (with_meaning (meaning int s l e)
      (λ x. brought_to (element (slice_get s.rows a) n.value) x.value))
      (λ y. outcome int c k rest (with_element s a n.value y) l))
      (λ n. with_value (with_meaning (meaning int s m e)
      (λ x. brought_to (element (slice_get s.rows a) n.value) x.value))
      (λ y. outcome int d k after.block (with_element s a n.value y) m))
      (means int s l m x (read-part l m x after.live both))
      (λ n. value-keeps (Live live)
      (with_meaning (meaning int s l e) (λ x. brought_to (element (slice_get s.rows a) n.value) x.value))
      (with_meaning (meaning int s m e) (λ x. brought_to (element (slice_get s.rows a) n.value) x.value))
      (λ y. outcome int c k rest (with_element s a n.value y) l)
      (λ y. outcome int d k after.block (with_element s a n.value y) m)
      (with-clearer (meaning int s l e) (meaning int s m e)
      (λ x. brought_to (element (slice_get s.rows a) n.value) x.value)
      (λ x. brought_to (element (slice_get s.rows a) n.value) x.value)
      (means int s l m e (read-part l m e (with_read x after.live) h)) (λ x. inr refl))
      (λ y. trim-keeps rest live (with_element s a n.value y) l m (list-part l m x after.live both)))
  trim-keeps (Call u j f args rest) live s l m h =
      let after = trimmed rest live in
      values-keep [] int s (Live live) l m args
      (λ xs. called (c f xs s) u j l (λ v n. outcome int c k rest v n))
      (λ xs. called (d f xs s) u (taken_by u j after.live) m (λ v n. outcome int d k after.block v n))
      (all-read-part l m args (without u j after.live) h)
      (λ xs. taken-keeps (Live live) (c f xs s) (d f xs s) u j (taken_by u j after.live) l m
      (λ v n. outcome int c k rest v n) (λ v n. outcome int d k after.block v n) (alike f xs s)
      (λ v y. trim-keeps rest live v (with_local l u j y) (with_local m u (taken_by u j after.live) y)
      (set-taken u j y after.live l m (all-list-part l m args (without u j after.live) h))))
  trim-keeps (Select u j e cases args rest) live s l m h =
      let after = trimmed rest live in
      let taker : ℕ = taken_by u j after.live in
      let under = all-list-part l m args (with_read e after.live) h in
      let kept = list-part l m e after.live under in
      value-keeps (Live live) (meaning int s l e) (meaning int s m e)
      (λ n. with_value (converted (promoted int n.type) n.value) (λ p. with_values int s l args (λ xs.
      selected p.type p.value cases (λ f. called (c f xs s) u j l (λ v n. outcome int c k rest v n))
      (outcome int c k rest s l))))
      (λ n. with_value (converted (promoted int n.type) n.value) (λ p. with_values int s m args (λ xs.
      selected p.type p.value cases (λ f. called (d f xs s) u taker m (λ v n. outcome int d k after.block v n))
      (outcome int d k after.block s m))))
      (means int s l m e (read-part l m e after.live under))
      (λ n. value-keeps (Live live) (converted (promoted int n.type) n.value) (converted (promoted int n.type) n.value)
      (λ p. with_values int s l args (λ xs.
      selected p.type p.value cases (λ f. called (c f xs s) u j l (λ v n. outcome int c k rest v n))
      (outcome int c k rest s l)))
      (λ p. with_values int s m args (λ xs.
      selected p.type p.value cases (λ f. called (d f xs s) u taker m (λ v n. outcome int d k after.block v n))
      (outcome int d k after.block s m))) (inr refl)
      (λ p. values-keep [] int s (Live live) l m args
      (λ xs. selected p.type p.value cases (λ f. called (c f xs s) u j l (λ v n. outcome int c k rest v n))
      (outcome int c k rest s l))
      (λ xs. selected p.type p.value cases
      (λ f. called (d f xs s) u taker m (λ v n. outcome int d k after.block v n))
      (outcome int d k after.block s m))
      (all-read-part l m args (with_read e after.live) h)
      (λ xs. selected-keeps [] (Live live) p.type p.value cases
      (λ f. called (c f xs s) u j l (λ v n. outcome int c k rest v n))
      (λ f. called (d f xs s) u taker m (λ v n. outcome int d k after.block v n)) (outcome int c k rest s l)
      (outcome int d k after.block s m) (none-bare cases)
      (λ f is. taken-keeps (Live live) (c f xs s) (d f xs s) u j taker l m (λ v n. outcome int c k rest v n)
      (λ v n. outcome int d k after.block v n) (alike f xs s)
      (λ v y. trim-keeps rest live v (with_local l u j y) (with_local m u taker y)
      (set-taken u j y after.live l m (held-without u j after.live l m kept))))
      (trim-keeps rest live s l m kept))))
  trim-keeps (If e a b rest) live s l m h =
      let after = trimmed rest live in
      let parts = list-part l m e (united (trimmed a after.live).live (trimmed b after.live).live) h in
      value-keeps (Live live) (meaning int s l e) (meaning int s m e)
      (λ x. and_on (cond (is_true x.value) (outcome int c k a s l) (outcome int c k b s l))
      (λ v n. outcome int c k rest v n))
      (λ x. and_on (cond (is_true x.value) (outcome int d k (trimmed a after.live).block s m)
      (outcome int d k (trimmed b after.live).block s m))
      (λ v n. outcome int d k after.block v n))
      (means int s l m e (read-part l m e (united (trimmed a after.live).live (trimmed b after.live).live) h))
      (λ x. on-keeps (Live after.live) (Live live)
      (cond (is_true x.value) (outcome int c k a s l) (outcome int c k b s l))
      (cond (is_true x.value) (outcome int d k (trimmed a after.live).block s m)
      (outcome int d k (trimmed b after.live).block s m))
      (λ v n. outcome int c k rest v n) (λ v n. outcome int d k after.block v n)
      (cond-keeps (Live after.live) (is_true x.value) (outcome int c k a s l) (outcome int c k b s l)
      (outcome int d k (trimmed a after.live).block s m) (outcome int d k (trimmed b after.live).block s m)
      (trim-keeps a after.live s l m (first-part l m (trimmed a after.live).live (trimmed b after.live).live parts))
      (trim-keeps b after.live s l m (second-part l m (trimmed a after.live).live (trimmed b after.live).live parts)))
      (λ v n o sub. trim-keeps rest live v n o sub))
  trim-keeps (While e a rest) live s l m h =
      let after = trimmed rest live in
      let turn = with_named a (with_read e after.live) in
      on-keeps (Live after.live) (Live live)
      (turns k (λ v m. meaning int v m e) (λ v m. outcome int c k a v m) s l)
      (turns k (λ v m. meaning int v m e) (λ v m. outcome int d k (trimmed a turn).block v m) s m)
      (λ v n. outcome int c k rest v n) (λ v n. outcome int d k after.block v n)
      (turns-keep (Live turn) (Live after.live) k (λ v m. meaning int v m e) (λ v m. outcome int c k a v m)
      (λ v m. outcome int d k (trimmed a turn).block v m)
      (λ v n o sub. means int v n o e (read-part n o e after.live (named-part a (with_read e after.live) n o sub)))
      (λ v n o sub. trim-keeps a turn v n o (turn-part e a after.live n o sub))
      (λ n o sub. list-part n o e after.live (named-part a (with_read e after.live) n o sub)) s l m h)
      (λ v n o sub. trim-keeps rest live v n o sub)
  trim-keeps (Return e) live s l m h =
      value-keeps (Live live) (meaning int s l e) (meaning int s m e) (λ x. Returns s x) (λ x. Returns s x)
      (means int s l m e (read-part l m e [] h)) (λ x. refl)
