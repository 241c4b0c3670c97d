-- Statements end alike where more locals have a value, more calls return, and there is more fuel.
use Rattle.std.proofs.Common.{◌≡◌, ℕ, zero, suc, ◌≤◌, ℤ, pos, int_le, ◌&&◌, Bool, true, false, cond, List, [], ◌∷◌}
use Rattle.std.proofs.Common.{Option, Some, None, slice_get, refl, sym, ap, ◌∙◌, subst, arith, inl, inr}
use Rattle.c_subset.specs.declared.trees.Width.{Width}
use Rattle.c_subset.specs.declared.trees.CType.{CType}
use Rattle.c_subset.specs.declared.trees.Case.{Case}
use Rattle.c_subset.specs.Trees.{CExpr, Function}
use Rattle.c_subset.specs.Trees.{Block, End, Set, Store as PutField, StoreAt, Call, Select, If, While, Return}
use Rattle.c_subset.specs.Meaning.{CValue, Meaning, Gives, Wrong, with_meaning, converted, promoted, is_true, Store}
use Rattle.c_subset.specs.Meaning.{element, Locals, meaning}
use Rattle.c_subset.specs.Running.{Outcome, Falls, Returns, Starves, GoesWrong, with_value, and_on, and_with, no_locals}
use Rattle.c_subset.specs.Running.{with_local, brought_to, with_field, with_element, Calls, with_values, called}
use Rattle.c_subset.specs.Running.{selected, turns, outcome, with_arguments, returned, run}
use Rattle.c_loops.proofs.Locals.{More, AreTyped, Fits, none-typed, put-typed, put-fits, converted-again, Clearer}
use Rattle.c_loops.proofs.Locals.{means-more, brought-more, brought-from}

-- the second is the first, with locals of which more may have a value, unless that doesn't end
abbrev pub Keeps : Outcome → Outcome → Type 0
Keeps (Falls s l) o = (m : Locals) × (o ≡ Falls s m) × Fits l m
Keeps (Returns s x) o = o ≡ Returns s x
Keeps Starves o = Unit {0}
Keeps GoesWrong o = Unit {0}

-- what the first returns the second does
abbrev pub ReturnsAlike : Outcome → Outcome → Type 0
ReturnsAlike o p = (s : Store) (x : CValue) → o ≡ Returns s x → p ≡ Returns s x

-- ---- a relation that holds where the first goes wrong or starves

module _ (P : Outcome → Outcome → Type 0) (wrong : (o : Outcome) → P GoesWrong o)
    (starved : (o : Outcome) → P Starves o) where
  pub value-both : (a b : Meaning) (f g : CValue → Outcome) → Clearer a b
      → ((x : CValue) → a ≡ Gives x → P (f x) (g x)) → P (with_value a f) (with_value b g)
  value-both Wrong b f g e h = wrong (with_value b g)
  value-both (Gives x) b f g (inl e) h = absurd cc
  value-both (Gives x) b f g (inr e) h = subst (λ (c : Meaning). P (f x) (with_value c g)) (sym e) (h x refl)

  with-both : (o p : Outcome) (f g : Store → CValue → Outcome) → ReturnsAlike o p
      → ((s : Store) (x : CValue) → P (f s x) (g s x)) → P (and_with o f) (and_with p g)
  with-both (Falls s l) p f g e h = wrong (and_with p g)
  with-both (Returns s x) p f g e h =
      subst (λ (q : Outcome). P (f s x) (and_with q g)) (sym (e s x refl)) (h s x)
  with-both Starves p f g e h = starved (and_with p g)
  with-both GoesWrong p f g e h = wrong (and_with p g)

  pub called-both : (o p : Outcome) (t : CType) (i : ℕ) (l m : Locals) (f g : Store → Locals → Outcome)
      → ReturnsAlike o p → Fits l m → ((s : Store) (l m : Locals) → Fits l m → P (f s l) (g s m))
      → P (called o t i l f) (called p t i m g)
  called-both o p t i l m f g e fits h =
      with-both o p (λ s x. with_value (converted t x.value) (λ y. f s (with_local l t i y.value)))
      (λ s x. with_value (converted t x.value) (λ y. g s (with_local m t i y.value))) e
      (λ s x. value-both (converted t x.value) (converted t x.value) (λ y. f s (with_local l t i y.value))
      (λ y. g s (with_local m t i y.value)) (inr refl)
      (λ y is. h s (with_local l t i y.value) (with_local m t i y.value) (put-fits l m t i x.value y is fits)))

  pub values-both : (int : Width) (s : Store) (l m : Locals) → More l m → (es : List CExpr)
      (f g : List CValue → Outcome) → ((xs : List CValue) → P (f xs) (g xs))
      → P (with_values int s l es f) (with_values int s m es g)
  unfolding with_values
  values-both int s l m more [] f g h = h []
  values-both int s l m more (e ∷ es) f g h =
      value-both (meaning int s l e) (meaning int s m e) (λ x. with_values int s l es (λ xs. f (x ∷ xs)))
      (λ x. with_values int s m es (λ xs. g (x ∷ xs))) (means-more int s l m more e)
      (λ x is. values-both int s l m more es (λ xs. f (x ∷ xs)) (λ xs. g (x ∷ xs)) (λ xs. h (x ∷ xs)))

  pub cond-both : (b : Bool) (o p o' p' : Outcome) → P o o' → P p p' → P (cond b o p) (cond b o' p')
  cond-both true o p o' p' h i = h
  cond-both false o p o' p' h i = i

  pub selected-both : (t : CType) (z : ℤ) (cases : List Case) (f g : ℕ → Outcome) (o p : Outcome)
      → ((q : ℕ) → P (f q) (g q)) → P o p → P (selected t z cases f o) (selected t z cases g p)
  selected-both t z [] f g o p h e = e
  selected-both t z (c ∷ cases) f g o p h e =
      value-both (converted t (pos c.label)) (converted t (pos c.label))
      (λ y. cond (int_le y.value z && int_le z y.value) (f c.function) (selected t z cases f o))
      (λ y. cond (int_le y.value z && int_le z y.value) (g c.function) (selected t z cases g p)) (inr refl)
      (λ y is. cond-both (int_le y.value z && int_le z y.value) (f c.function) (selected t z cases f o)
      (g c.function) (selected t z cases g p) (h c.function) (selected-both t z cases f g o p h e))

-- ---- what keeps

-- no ending is kept by anything
nothing-kept : (o : Outcome) → Unit {0}
nothing-kept o = tt

value-keeps : (a b : Meaning) (f g : CValue → Outcome) → Clearer a b
    → ((x : CValue) → a ≡ Gives x → Keeps (f x) (g x)) → Keeps (with_value a f) (with_value b g)
value-keeps = value-both (λ o p. Keeps o p) nothing-kept nothing-kept

on-keeps : (o p : Outcome) (f g : Store → Locals → Outcome) → Keeps o p
    → ((s : Store) (l m : Locals) → Fits l m → Keeps (f s l) (g s m)) → Keeps (and_on o f) (and_on p g)
on-keeps (Falls s l) p f g e h = subst (λ (q : Outcome). Keeps (f s l) (and_on q g)) (sym e.1) (h s l e.0 e.2)
on-keeps (Returns s x) p f g e h = ap (λ (q : Outcome). and_on q g) e
on-keeps Starves p f g e h = tt
on-keeps GoesWrong p f g e h = tt

called-keeps : (o p : Outcome) (t : CType) (i : ℕ) (l m : Locals) (f g : Store → Locals → Outcome)
    → ReturnsAlike o p → Fits l m → ((s : Store) (l m : Locals) → Fits l m → Keeps (f s l) (g s m))
    → Keeps (called o t i l f) (called p t i m g)
called-keeps = called-both (λ o p. Keeps o p) nothing-kept nothing-kept

values-keep : (int : Width) (s : Store) (l m : Locals) → More l m → (es : List CExpr)
    (f g : List CValue → Outcome) → ((xs : List CValue) → Keeps (f xs) (g xs))
    → Keeps (with_values int s l es f) (with_values int s m es g)
values-keep = values-both (λ o p. Keeps o p) nothing-kept nothing-kept

pub cond-keeps : (b : Bool) (o p o' p' : Outcome) → Keeps o o' → Keeps p p' → Keeps (cond b o p) (cond b o' p')
cond-keeps = cond-both (λ o p. Keeps o p) nothing-kept nothing-kept

selected-keeps : (t : CType) (z : ℤ) (cases : List Case) (f g : ℕ → Outcome) (o p : Outcome)
    → ((q : ℕ) → Keeps (f q) (g q)) → Keeps o p → Keeps (selected t z cases f o) (selected t z cases g p)
selected-keeps = selected-both (λ o p. Keeps o p) nothing-kept nothing-kept

pub turns-keep : (k j : ℕ) → k ≤ j → (test : Store → Locals → Meaning) (f g : Store → Locals → Outcome)
    → ((s : Store) (l m : Locals) → Fits l m → Clearer (test s l) (test s m))
    → ((s : Store) (l m : Locals) → Fits l m → Keeps (f s l) (g s m)) → (s : Store) (l m : Locals) → Fits l m
    → Keeps (turns k test f s l) (turns j test g s m)
unfolding turns
turns-keep zero j le test f g c h s l m fits = tt
turns-keep (suc k) zero le test f g c h s l m fits = absurd (omega arith)
turns-keep (suc k) (suc j) le test f g c h s l m fits =
    value-keeps (test s l) (test s m) (λ x. cond (is_true x.value) (and_on (f s l) (turns k test f)) (Falls s l))
    (λ x. cond (is_true x.value) (and_on (g s m) (turns j test g)) (Falls s m)) (c s l m fits)
    (λ x is. cond-keeps (is_true x.value) (and_on (f s l) (turns k test f)) (Falls s l)
    (and_on (g s m) (turns j test g)) (Falls s m)
    (on-keeps (f s l) (g s m) (turns k test f) (turns j test g) (h s l m fits)
    (λ v l m fits. turns-keep k j (omega arith) test f g c h v l m fits)) (m, refl, fits))

-- ---- statements

module _ (int : Width) (c d : Calls)
    (alike : (f : ℕ) (xs : List CValue) (s : Store) → ReturnsAlike (c f xs s) (d f xs s)) (k j : ℕ) (le : k ≤ j) where
  pub outcome-keeps : (a : Block) (s : Store) (l m : Locals) → Fits l m
      → Keeps (outcome int c k a s l) (outcome int d j a s m)
  unfolding outcome
  outcome-keeps End s l m fits = (m, refl, fits)
  outcome-keeps (Set t i e rest) s l m fits =
      value-keeps (with_meaning (meaning int s l e) (λ x. converted t x.value))
      (with_meaning (meaning int s m e) (λ x. converted t x.value))
      (λ y. outcome int c k rest s (with_local l t i y.value))
      (λ y. outcome int d j rest s (with_local m t i y.value))
      (brought-more int s l m fits.more e (λ x. converted t x.value))
      (λ y is. let from = brought-from (meaning int s l e) t y is in
      outcome-keeps rest s (with_local l t i y.value) (with_local m t i y.value)
      (put-fits l m t i from.0 y from.1 fits))
  outcome-keeps (PutField f e rest) s l m fits =
      value-keeps (with_meaning (meaning int s l e) (λ x. brought_to (slice_get s.fields f) x.value))
      (with_meaning (meaning int s m e) (λ x. brought_to (slice_get s.fields f) x.value))
      (λ y. outcome int c k rest (with_field s f y) l) (λ y. outcome int d j rest (with_field s f y) m)
      (brought-more int s l m fits.more e (λ x. brought_to (slice_get s.fields f) x.value))
      (λ y is. outcome-keeps rest (with_field s f y) l m fits)
  outcome-keeps (StoreAt a i e rest) s l m fits =
      value-keeps (meaning int s l i) (meaning int s m i)
      (λ n. with_value (with_meaning (meaning int s l e) (λ x. brought_to (element (slice_get s.rows a) n.value) x.value))
      (λ y. outcome int c k rest (with_element s a n.value y) l))
      (λ n. with_value (with_meaning (meaning int s m e) (λ x. brought_to (element (slice_get s.rows a) n.value) x.value))
      (λ y. outcome int d j rest (with_element s a n.value y) m)) (means-more int s l m fits.more i)
      (λ n is. value-keeps
      (with_meaning (meaning int s l e) (λ x. brought_to (element (slice_get s.rows a) n.value) x.value))
      (with_meaning (meaning int s m e) (λ x. brought_to (element (slice_get s.rows a) n.value) x.value))
      (λ y. outcome int c k rest (with_element s a n.value y) l)
      (λ y. outcome int d j rest (with_element s a n.value y) m)
      (brought-more int s l m fits.more e (λ x. brought_to (element (slice_get s.rows a) n.value) x.value))
      (λ y is. outcome-keeps rest (with_element s a n.value y) l m fits))
  outcome-keeps (Call t i f args rest) s l m fits =
      values-keep int s l m fits.more args (λ xs. called (c f xs s) t i l (λ v n. outcome int c k rest v n))
      (λ xs. called (d f xs s) t i m (λ v n. outcome int d j rest v n))
      (λ xs. called-keeps (c f xs s) (d f xs s) t i l m (λ v n. outcome int c k rest v n)
      (λ v n. outcome int d j rest v n) (alike f xs s) fits (λ v l m fits. outcome-keeps rest v l m fits))
  outcome-keeps (Select t i e cases args rest) s l m fits =
      value-keeps (meaning int s l e) (meaning int s m e)
      (λ n. with_value (converted (promoted int n.type) n.value) (λ p. with_values int s l args (λ xs.
      selected p.type p.value cases (λ f. called (c f xs s) t i l (λ v n. outcome int c k rest v n))
      (outcome int c k rest s l))))
      (λ n. with_value (converted (promoted int n.type) n.value) (λ p. with_values int s m args (λ xs.
      selected p.type p.value cases (λ f. called (d f xs s) t i m (λ v n. outcome int d j rest v n))
      (outcome int d j rest s m)))) (means-more int s l m fits.more e)
      (λ n is. value-keeps (converted (promoted int n.type) n.value) (converted (promoted int n.type) n.value)
      (λ p. with_values int s l args (λ xs.
      selected p.type p.value cases (λ f. called (c f xs s) t i l (λ v n. outcome int c k rest v n))
      (outcome int c k rest s l)))
      (λ p. with_values int s m args (λ xs.
      selected p.type p.value cases (λ f. called (d f xs s) t i m (λ v n. outcome int d j rest v n))
      (outcome int d j rest s m))) (inr refl)
      (λ p is. values-keep int s l m fits.more args
      (λ xs. selected p.type p.value cases (λ f. called (c f xs s) t i l (λ v n. outcome int c k rest v n))
      (outcome int c k rest s l))
      (λ xs. selected p.type p.value cases (λ f. called (d f xs s) t i m (λ v n. outcome int d j rest v n))
      (outcome int d j rest s m))
      (λ xs. selected-keeps p.type p.value cases
      (λ f. called (c f xs s) t i l (λ v n. outcome int c k rest v n))
      (λ f. called (d f xs s) t i m (λ v n. outcome int d j rest v n)) (outcome int c k rest s l)
      (outcome int d j rest s m)
      (λ f. called-keeps (c f xs s) (d f xs s) t i l m (λ v n. outcome int c k rest v n)
      (λ v n. outcome int d j rest v n) (alike f xs s) fits (λ v l m fits. outcome-keeps rest v l m fits))
      (outcome-keeps rest s l m fits))))
  outcome-keeps (If e a b rest) s l m fits =
      value-keeps (meaning int s l e) (meaning int s m e)
      (λ x. and_on (cond (is_true x.value) (outcome int c k a s l) (outcome int c k b s l))
      (λ v n. outcome int c k rest v n))
      (λ x. and_on (cond (is_true x.value) (outcome int d j a s m) (outcome int d j b s m))
      (λ v n. outcome int d j rest v n)) (means-more int s l m fits.more e)
      (λ x is. on-keeps (cond (is_true x.value) (outcome int c k a s l) (outcome int c k b s l))
      (cond (is_true x.value) (outcome int d j a s m) (outcome int d j b s m))
      (λ v n. outcome int c k rest v n) (λ v n. outcome int d j rest v n)
      (cond-keeps (is_true x.value) (outcome int c k a s l) (outcome int c k b s l) (outcome int d j a s m)
      (outcome int d j b s m) (outcome-keeps a s l m fits) (outcome-keeps b s l m fits))
      (λ v l m fits. outcome-keeps rest v l m fits))
  outcome-keeps (While e a rest) s l m fits =
      on-keeps (turns k (λ v n. meaning int v n e) (λ v n. outcome int c k a v n) s l)
      (turns j (λ v n. meaning int v n e) (λ v n. outcome int d j a v n) s m)
      (λ v n. outcome int c k rest v n) (λ v n. outcome int d j rest v n)
      (turns-keep k j le (λ v n. meaning int v n e) (λ v n. outcome int c k a v n) (λ v n. outcome int d j a v n)
      (λ v l m fits. means-more int v l m fits.more e) (λ v l m fits. outcome-keeps a v l m fits) s l m fits)
      (λ v l m fits. outcome-keeps rest v l m fits)
  outcome-keeps (Return e) s l m fits =
      value-keeps (meaning int s l e) (meaning int s m e) (λ x. Returns s x) (λ x. Returns s x)
      (means-more int s l m fits.more e) (λ x is. refl)

-- ---- calls

pub returned-alike : (t : CType) (o p : Outcome) → Keeps o p → ReturnsAlike (returned t o) (returned t p)
returned-alike t (Falls s l) p h = λ v x e. absurd cc
returned-alike t (Returns s y) p h = λ v x e. ap (returned t) h ∙ e
returned-alike t Starves p h = λ v x e. absurd cc
returned-alike t GoesWrong p h = λ v x e. absurd cc

value-alike : (m : Meaning) (f g : CValue → Outcome) → ((x : CValue) → m ≡ Gives x → ReturnsAlike (f x) (g x))
    → ReturnsAlike (with_value m f) (with_value m g)
value-alike (Gives x) f g h = h x refl
value-alike Wrong f g h = λ v x e. absurd cc

pub arguments-alike : (ts : List CType) (xs : List CValue) (k : ℕ) (l : Locals) (f g : Locals → Outcome) → AreTyped l
    → ((l : Locals) → AreTyped l → ReturnsAlike (f l) (g l))
    → ReturnsAlike (with_arguments ts xs k l f) (with_arguments ts xs k l g)
unfolding with_arguments
arguments-alike [] [] k l f g typed h = h l typed
arguments-alike [] (x ∷ xs) k l f g typed h = λ v x e. absurd cc
arguments-alike (t ∷ ts) [] k l f g typed h = λ v x e. absurd cc
arguments-alike (t ∷ ts) (x ∷ xs) k l f g typed h =
    value-alike (converted t x.value) (λ y. with_arguments ts xs (suc k) (with_local l t k y.value) f)
    (λ y. with_arguments ts xs (suc k) (with_local l t k y.value) g)
    (λ y is. arguments-alike ts xs (suc k) (with_local l t k y.value) f g
    (put-typed l t k y.value typed (converted-again t x.value y is)) h)

pub run-alike : (int : Width) (c d : Calls) (k j : ℕ) (o : Option Function) (xs : List CValue) (s : Store)
    → ((f : ℕ) (xs : List CValue) (s : Store) → ReturnsAlike (c f xs s) (d f xs s)) → k ≤ j
    → ReturnsAlike (run int c k o xs s) (run int d j o xs s)
run-alike int c d k j None xs s alike le = λ v x e. absurd cc
run-alike int c d k j (Some f) xs s alike le =
    arguments-alike f.parameters xs 0 no_locals (λ l. returned f.result (outcome int c k f.body s l))
    (λ l. returned f.result (outcome int d j f.body s l)) none-typed
    (λ l typed. returned-alike f.result (outcome int c k f.body s l) (outcome int d j f.body s l)
    (outcome-keeps int c d alike k j le f.body s l l (record { more = λ t i z e. e; typed = typed })))
