-- Statements in which calls are replaced by bodies do what they did.
use Rattle.std.proofs.Common.{◌≡◌, ◌==◌, ℕ, zero, suc, ◌+◌, ◌<◌, ◌≤◌, ℤ, pos, int_le, ◌&&◌, Bool, true, false, cond}
use Rattle.std.proofs.Common.{List, [], ◌∷◌, length, Option, Some, None, slice_get, refl, sym, ap, ◌∙◌, subst, arith}
use Rattle.std.specs.List.{list_all}
use Rattle.std.proofs.lemmas.Cmp.{nat_eq_equiv}
use Rattle.c_subset.specs.declared.trees.Width.{Width}
use Rattle.c_subset.specs.declared.trees.CType.{CType}
use Rattle.c_subset.specs.declared.trees.Case.{Case}
use Rattle.c_subset.specs.Trees.{CExpr, Cast, Local, Function, File}
use Rattle.c_subset.specs.Trees.{Block, End, Set, Store as PutField, StoreAt, Call, Select, If, While, Return}
use Rattle.c_subset.specs.Meaning.{CValue, Meaning, Gives, Wrong, with_meaning, converted, promoted, is_true, Store}
use Rattle.c_subset.specs.Meaning.{element, Locals, meaning, read_as}
use Rattle.c_subset.specs.Running.{Outcome, Falls, Returns, Starves, GoesWrong, with_value, and_on, no_locals}
use Rattle.c_subset.specs.Running.{with_local, brought_to, with_field, with_element, Calls, with_values, called}
use Rattle.c_subset.specs.Running.{same_type, turns, selected, outcome, with_arguments, returned, run, call}
use Rattle.c_subset.proofs.TypeLemmas.{same_type-itself}
use Rattle.c_subset.proofs.Fuel.{enough-fuel}
use Rattle.c_placing.specs.Placing.{placed, set_parameters, HasPlaced, AgreeBelow, ReturnAlike}
use Rattle.c_placing.proofs.Doing.{put-placed, Places, placed-places}
use Rattle.c_placing.proofs.Staying.{put-above}
use Rattle.c_inlined.specs.Continued.{before, can_go_on, continued}
use Rattle.c_inlined.specs.Inlined.{reads_below, all_read_below, block_reads_below, brought, set_result, opened}
use Rattle.c_inlined.specs.Inlined.{handed_on, IsInlined, Ends, Sets, Stores, StoresAt, Calls as StaysCall, Selects}
use Rattle.c_inlined.specs.Inlined.{Asks, Turns, Returning, Opened, HandedOn}
use Rattle.c_inlined.proofs.Converting.{value-of, converted-stays, type-is}
use Rattle.c_inlined.proofs.GoingOn.{both, before-on, Goes, goes-on}
use Rattle.c_inlined.proofs.Meanings.{means-same}

-- ---- locals

-- the same local is set in both
put-same : (n : ℕ) (l m : Locals) (t : CType) (j : ℕ) (z : ℤ) → AgreeBelow n l m
    → AgreeBelow n (with_local l t j z) (with_local m t j z)
put-same n l m t j z agree u i below = at ((i == j) && same_type u t)
  where
    at : (b : Bool) → cond b (Some z) (l u i) ≡ cond b (Some z) (m u i)
    at true = refl
    at false = agree u i below

-- ---- endings

-- The second ending is the first one, with locals that agree below n, or with a value that is the same once it is brought
-- to a type, unless the first one doesn't end
abbrev pub Keeps : ℕ → CType → Outcome → Outcome → Type 0
Keeps n q (Falls s l) o = (m : Locals) × (o ≡ Falls s m) × AgreeBelow n l m
Keeps n q (Returns s x) o = (y : CValue) × (o ≡ Returns s y) × (converted q y.value ≡ converted q x.value)
Keeps n q Starves o = Unit {0}
Keeps n q GoesWrong o = Unit {0}

module _ (n : ℕ) (q : CType) where
  value-keeps : (a b : Meaning) (f g : CValue → Outcome) → a ≡ b → ((x : CValue) → Keeps n q (f x) (g x))
      → Keeps n q (with_value a f) (with_value b g)
  value-keeps a b f g e h = subst (λ (m : Meaning). Keeps n q (with_value a f) (with_value m g)) e (at a)
    where
      at : (m : Meaning) → Keeps n q (with_value m f) (with_value m g)
      at (Gives x) = h x
      at Wrong = tt

  -- whatever the values are
  values-gone : (int : Width) (s : Store) (l : Locals) (es : List CExpr) (f : List CValue → Outcome) (o : Outcome)
      → ((xs : List CValue) → Keeps n q (f xs) o) → Keeps n q (with_values int s l es f) o
  unfolding with_values
  values-gone int s l [] f o h = h []
  values-gone int s l (e ∷ es) f o h =
      gone (meaning int s l e) (λ x. with_values int s l es (λ xs. f (x ∷ xs)))
      (λ x. values-gone int s l es (λ xs. f (x ∷ xs)) o (λ xs. h (x ∷ xs)))
    where
      gone : (m : Meaning) (f : CValue → Outcome) → ((x : CValue) → Keeps n q (f x) o) → Keeps n q (with_value m f) o
      gone (Gives x) f h = h x
      gone Wrong f h = tt

  on-keeps : (o p : Outcome) (f g : Store → Locals → Outcome) → Keeps n q o p
      → ((s : Store) (l m : Locals) → AgreeBelow n l m → Keeps n q (f s l) (g s m)) → Keeps n q (and_on o f) (and_on p g)
  on-keeps (Falls s l) p f g e h =
      subst (λ (o : Outcome). Keeps n q (f s l) (and_on o g)) (sym e.1) (h s l e.0 e.2)
  on-keeps (Returns s x) p f g e h = (e.0, ap (λ (o : Outcome). and_on o g) e.1, e.2)
  on-keeps Starves p f g e h = tt
  on-keeps GoesWrong p f g e h = tt

  cond-keeps : (b : Bool) (o p o' p' : Outcome) → Keeps n q o o' → Keeps n q p p'
      → Keeps n q (cond b o p) (cond b o' p')
  cond-keeps true o p o' p' h i = h
  cond-keeps false o p o' p' h i = i

  called-keeps : (o p : Outcome) (t : CType) (i : ℕ) (l m : Locals) (f g : Store → Locals → Outcome)
      → ((s : Store) (x : CValue) → o ≡ Returns s x → p ≡ Returns s x) → AgreeBelow n l m
      → ((s : Store) (l m : Locals) → AgreeBelow n l m → Keeps n q (f s l) (g s m))
      → Keeps n q (called o t i l f) (called p t i m g)
  called-keeps (Falls s w) p t i l m f g e agree h = tt
  called-keeps (Returns s x) p t i l m f g e agree h =
      subst (λ (o : Outcome). Keeps n q (called (Returns s x) t i l f) (called o t i m g)) (sym (e s x refl))
      (value-keeps (converted t x.value) (converted t x.value) (λ y. f s (with_local l t i y.value))
      (λ y. g s (with_local m t i y.value)) refl
      (λ y. h s (with_local l t i y.value) (with_local m t i y.value) (put-same n l m t i y.value agree)))
  called-keeps Starves p t i l m f g e agree h = tt
  called-keeps GoesWrong p t i l m f g e agree h = tt

  values-keep : (int : Width) (s : Store) (l m : Locals) (es : List CExpr) (f g : List CValue → Outcome)
      → AgreeBelow n l m → all_read_below n es ≡ true → ((xs : List CValue) → Keeps n q (f xs) (g xs))
      → Keeps n q (with_values int s l es f) (with_values int s m es g)
  unfolding with_values
  values-keep int s l m [] f g agree below h = h []
  values-keep int s l m (e ∷ es) f g agree below h =
      let p = both (reads_below n e) (all_read_below n es) below in
      value-keeps (meaning int s l e) (meaning int s m e) (λ x. with_values int s l es (λ xs. f (x ∷ xs)))
      (λ x. with_values int s m es (λ xs. g (x ∷ xs))) (means-same n int s l m agree e p.0)
      (λ x. values-keep int s l m es (λ xs. f (x ∷ xs)) (λ xs. g (x ∷ xs)) agree p.1 (λ xs. h (x ∷ xs)))

  turns-keep : (k : ℕ) (test : Store → Locals → Meaning) (f g : Store → Locals → Outcome)
      → ((s : Store) (l m : Locals) → AgreeBelow n l m → test s l ≡ test s m)
      → ((s : Store) (l m : Locals) → AgreeBelow n l m → Keeps n q (f s l) (g s m))
      → (s : Store) (l m : Locals) → AgreeBelow n l m → Keeps n q (turns k test f s l) (turns k test g s m)
  unfolding turns
  turns-keep zero test f g c h s l m agree = tt
  turns-keep (suc k) test f g c h s l m agree =
      value-keeps (test s l) (test s m) (λ x. cond (is_true x.value) (and_on (f s l) (turns k test f)) (Falls s l))
      (λ x. cond (is_true x.value) (and_on (g s m) (turns k test g)) (Falls s m)) (c s l m agree)
      (λ x. cond-keeps (is_true x.value) (and_on (f s l) (turns k test f)) (Falls s l)
      (and_on (g s m) (turns k test g)) (Falls s m)
      (on-keeps (f s l) (g s m) (turns k test f) (turns k test g) (h s l m agree)
      (λ s l m agree. turns-keep k test f g c h s l m agree)) (m, refl, agree))

  selected-keeps : (t : CType) (z : ℤ) (cases : List Case) (f g : ℕ → Outcome) (o p : Outcome)
      → ((f' : ℕ) → Keeps n q (f f') (g f')) → Keeps n q o p
      → Keeps n q (selected t z cases f o) (selected t z cases g p)
  selected-keeps t z [] f g o p h e = e
  selected-keeps t z (x ∷ cases) f g o p h e =
      value-keeps (converted t (pos x.label)) (converted t (pos x.label))
      (λ y. cond (int_le y.value z && int_le z y.value) (f x.function) (selected t z cases f o))
      (λ y. cond (int_le y.value z && int_le z y.value) (g x.function) (selected t z cases g p)) refl
      (λ y. cond-keeps (int_le y.value z && int_le z y.value) (f x.function) (selected t z cases f o) (g x.function)
      (selected t z cases g p) (h x.function) (selected-keeps t z cases f g o p h e))

  -- ---- parameters

  -- one parameter is set, and then the others
  one-set : (int : Width) (d : Calls) (j : ℕ) (s : Store) (l m : Locals) (t u : CType) (i : ℕ)
      (go : Store → Locals → Outcome) (es : List CExpr) (rest : List CValue → CValue → Outcome)
      (others : CValue → Outcome) (w : Meaning)
      → ((y : CValue) → Keeps n q (with_values int s l es (λ xs. called (rest xs y) t i l go)) (others y))
      → Keeps n q (with_value w (λ x. with_values int s l es (λ xs.
      called (with_value (converted u x.value) (rest xs)) t i l go)))
      (with_value (with_meaning w (λ x. converted u x.value)) others)
  one-set int d j s l m t u i go es rest others Wrong h = tt
  one-set int d j s l m t u i go es rest others (Gives x) h = at (converted u x.value)
    where
      at : (c : Meaning) → Keeps n q (with_values int s l es (λ xs. called (with_value c (rest xs)) t i l go))
          (with_value c others)
      at (Gives y) = h y
      at Wrong = values-gone int s l es (λ xs. called GoesWrong t i l go) GoesWrong (λ xs. tt)

  -- parameters are set to what a call hands over
  set-keeps : (int : Width) (d : Calls) (j : ℕ) (rest : Block) (s : Store) (l : Locals) (t : CType) (i : ℕ)
      (go : Store → Locals → Outcome) (G : Locals → Outcome) (ts : List CType) (es : List CExpr) (a : ℕ) (own m : Locals)
      → length es ≡ length ts → all_read_below n es ≡ true → AgreeBelow n l m → HasPlaced n own m
      → ((own m : Locals) → AgreeBelow n l m → HasPlaced n own m
      → Keeps n q (called (G own) t i l go) (outcome int d j rest s m))
      → Keeps n q (with_values int s l es (λ xs. called (with_arguments ts xs a own G) t i l go))
      (outcome int d j (set_parameters n a ts es rest) s m)
  unfolding outcome with_values with_arguments set_parameters
  set-keeps int d j rest s l t i go G [] [] a own m same below agree has h = h own m agree has
  set-keeps int d j rest s l t i go G [] (e ∷ es) a own m same below agree has h = absurd (omega (arith, same))
  set-keeps int d j rest s l t i go G (u ∷ ts) [] a own m same below agree has h = absurd (omega (arith, same))
  set-keeps int d j rest s l t i go G (u ∷ ts) (e ∷ es) a own m same below agree has h =
      let p = both (reads_below n e) (all_read_below n es) below in
      subst (λ (w : Meaning). Keeps n q (with_value (meaning int s l e) (λ x. with_values int s l es (λ xs.
      called (with_value (converted u x.value) (λ y. with_arguments ts xs (suc a) (with_local own u a y.value) G)) t i l
      go))) (with_value (with_meaning w (λ x. converted u x.value)) (λ y. outcome int d j
      (set_parameters n (suc a) ts es rest) s (with_local m u (n + a) y.value)))) (means-same n int s l m agree e p.0)
      (one-set int d j s l m t u i go es (λ xs y. with_arguments ts xs (suc a) (with_local own u a y.value) G)
      (λ y. outcome int d j (set_parameters n (suc a) ts es rest) s (with_local m u (n + a) y.value))
      (meaning int s l e)
      (λ y. set-keeps int d j rest s l t i go G ts es (suc a) (with_local own u a y.value)
      (with_local m u (n + a) y.value) (omega (arith, same)) p.1 (put-above n l m u a y.value agree)
      (put-placed n own m u a y.value has) h))

-- ---- results

-- the local has what is returned, brought to the function's type and to its own
result-set : (r t : CType) (x y z : CValue) (m : Meaning) → m ≡ Gives x → converted r x.value ≡ Gives y
    → converted t y.value ≡ Gives z → (b : Bool) → same_type r t ≡ b
    → with_meaning (cond b m (with_meaning m (λ x. converted r x.value))) (λ x. converted t x.value) ≡ Gives z
result-set r t x y z m is first second true same =
    let types : r ≡ t = type-is r t same in
    let own : converted t x.value ≡ Gives y =
    subst (λ (u : CType). converted u x.value ≡ Gives y) types first in
    ap (λ (w : Meaning). with_meaning w (λ x. converted t x.value)) is ∙ own
    ∙ sym (converted-stays t x.value y own) ∙ second
result-set r t x y z m is first second false same =
    ap (λ (w : Meaning). with_meaning (with_meaning w (λ x. converted r x.value)) (λ x. converted t x.value)) is
    ∙ ap (λ (w : Meaning). with_meaning w (λ x. converted t x.value)) first ∙ second

module _ (int : Width) (s : Store) (l : Locals) (r t : CType) (e : CExpr) where
  meaning-brought : (b : Bool) → meaning int s l (cond b e (Cast r e))
      ≡ cond b (meaning int s l e) (with_meaning (meaning int s l e) (λ x. converted r x.value))
  unfolding meaning
  meaning-brought true = refl
  meaning-brought false = refl

-- so the statement that sets it falls through
set-ends : (int : Width) (d : Calls) (k : ℕ) (v : Store) (own : Locals) (r t : CType) (i : ℕ) (e : CExpr) (z : CValue)
    → with_meaning (meaning int v own (brought r t e)) (λ x. converted t x.value) ≡ Gives z
    → outcome int d k (set_result r t i e) v own ≡ Falls v (with_local own t i z.value)
unfolding outcome
set-ends int d k v own r t i e z is =
    ap (λ (w : Meaning). with_value w (λ y. Falls v (with_local own t i y.value))) is

module _ (n : ℕ) (q : CType) (int : Width) (d : Calls) (k : ℕ) where
  -- after the body of a call, which goes on with the statement that sets its result, come those after the call
  after-body : (t r : CType) (i : ℕ) (body rest : Block) (s : Store) (l m : Locals) (go : Store → Locals → Outcome)
      (o : Outcome) → can_go_on (placed n body) ≡ true → AgreeBelow n l m
      → ((v : Store) (x : CValue) → o ≡ Returns v x → outcome int d k (placed n body) s m ≡ Returns v x)
      → ((v : Store) (l m : Locals) → AgreeBelow n l m → Keeps n q (go v l) (outcome int d k rest v m))
      → Keeps n q (called (returned r o) t i l go)
      (outcome int d k (before (continued (set_result r t i) (placed n body) End) rest) s m)
  after-body t r i body rest s l m go (Falls v w) can agree does h = tt
  after-body t r i body rest s l m go Starves can agree does h = tt
  after-body t r i body rest s l m go GoesWrong can agree does h = tt
  after-body t r i body rest s l m go (Returns v x) can agree does h =
      at (converted r x.value) refl
    where
      goes : Goes n (set_result r t i) int d k m End (Returns v x)
          (outcome int d k (continued (set_result r t i) (placed n body) End) s m)
      goes = subst (λ (o : Outcome). Goes n (set_result r t i) int d k m End o
          (outcome int d k (continued (set_result r t i) (placed n body) End) s m)) (does v x refl)
          (goes-on n (set_result r t i) int d k m body End can s m (λ t i below. refl))

      second : (y : CValue) → converted r x.value ≡ Gives y → (c : Meaning) → converted t y.value ≡ c
          → Keeps n q (with_value c (λ z. go v (with_local l t i z.value)))
          (outcome int d k (before (continued (set_result r t i) (placed n body) End) rest) s m)
      second y first (Gives z) is =
          let e : CExpr = goes.0 in
          let own : Locals = goes.1 in
          let set : with_meaning (meaning int v own (brought r t e)) (λ x. converted t x.value) ≡ Gives z =
          ap (λ (w : Meaning). with_meaning w (λ x. converted t x.value))
          (meaning-brought int v own r t e (same_type r t))
          ∙ result-set r t x y z (meaning int v own e) goes.3 first is (same_type r t) refl in
          let ends : outcome int d k (continued (set_result r t i) (placed n body) End) s m
          ≡ Falls v (with_local own t i z.value) =
          goes.4 ∙ set-ends int d k v own r t i e z set in
          subst (λ (o : Outcome). Keeps n q (go v (with_local l t i z.value)) o)
          (sym (before-on int d k rest (continued (set_result r t i) (placed n body) End) s m
          ∙ ap (λ (o : Outcome). and_on o (λ v m. outcome int d k rest v m)) ends))
          (h v (with_local l t i z.value) (with_local own t i z.value)
          (put-same n l own t i z.value (λ u j below. agree u j below ∙ goes.2 u j below)))
      second y first Wrong is = tt

      at : (c : Meaning) → converted r x.value ≡ c
          → Keeps n q (called (with_value c (λ y. Returns v y)) t i l go)
          (outcome int d k (before (continued (set_result r t i) (placed n body) End) rest) s m)
      at (Gives y) first = second y first (converted t y.value) refl
      at Wrong first = tt

  -- a body that returns in place of a call whose result is returned
  in-place : (i : ℕ) (body : Block) (s : Store) (l m : Locals) (o : Outcome)
      → ((v : Store) (x : CValue) → o ≡ Returns v x → outcome int d k (placed n body) s m ≡ Returns v x)
      → (c : Calls) → Keeps n q (called (returned q o) q i l (λ v m. outcome int c k (Return (Local q i)) v m))
      (outcome int d k (placed n body) s m)
  unfolding outcome meaning
  in-place i body s l m (Falls v w) does c = tt
  in-place i body s l m Starves does c = tt
  in-place i body s l m GoesWrong does c = tt
  in-place i body s l m (Returns v x) does c = at (converted q x.value) refl
    where
      itself : (b c : Bool) → b ≡ true → c ≡ true → (b && c) ≡ true
      itself true true e f = refl
      itself true false e f = absurd cc
      itself false c e f = absurd cc

      set : (z : ℤ) → with_local l q i z q i ≡ Some z
      set z = ap (λ (b : Bool). cond b (Some z) (l q i))
          (itself (i == i) (same_type q q) (nat_eq_equiv.refl i) (same_type-itself q))

      second : (y : CValue) → converted q x.value ≡ Gives y → (w : Meaning) → converted q y.value ≡ w
          → Keeps n q (with_value w (λ z. with_value (read_as q (with_local l q i z.value q i)) (λ x. Returns v x)))
          (outcome int d k (placed n body) s m)
      second y first (Gives z) is =
          let same : y.value ≡ z.value =
          ap (λ (w : Meaning). value-of w) (sym (converted-stays q x.value y first) ∙ is) in
          subst (λ (o : Option ℤ). Keeps n q (with_value (read_as q o) (λ x. Returns v x))
          (outcome int d k (placed n body) s m)) (sym (set z.value))
          (x, does v x refl, first ∙ sym (converted-stays q x.value y first) ∙ ap (λ (z : ℤ). converted q z) same)
      second y first Wrong is = tt

      at : (w : Meaning) → converted q x.value ≡ w
          → Keeps n q (called (with_value w (λ y. Returns v y)) q i l
          (λ v m. with_value (read_as q (m q i)) (λ x. Returns v x))) (outcome int d k (placed n body) s m)
      at (Gives y) first = second y first (converted q y.value) refl
      at Wrong first = tt

-- ---- statements

module _ (file : File) (p : ℕ) (q : CType) (n : ℕ) (int : Width) (d : Calls) (k : ℕ)
    (alike : ReturnAlike (call file int k) d) where
  -- what a call returned with less fuel
  less : (j : ℕ) → j ≤ k → ReturnAlike (call file int j) d
  less j le f xs s after x e =
      alike f xs s after x (enough-fuel file int j k f xs s le (λ none. absurd (ends none)) ∙ e)
    where
      ends : call file int j f xs s ≡ Starves → ⊥
      ends none = at (sym none ∙ e)
        where
          at : Starves ≡ Returns after x → ⊥
          at e = absurd cc

  -- the values of a call's parameters and its body in place of it
  opened-keeps : (j : ℕ) → j ≡ k → (t : CType) (i f : ℕ) (g : Function) (args : List CExpr) (rest : Block)
      (s : Store) (l m : Locals) (go : Store → Locals → Outcome) → slice_get file.functions f ≡ Some g
      → length args ≡ length g.parameters → all_read_below n args ≡ true → AgreeBelow n l m
      → ((c : Calls) (h : ℕ) → ReturnAlike c d → h ≤ k → (own m : Locals) → AgreeBelow n l m → HasPlaced n own m
      → Keeps n q (called (returned g.result (outcome int c h g.body s own)) t i l go) (outcome int d k rest s m))
      → Keeps n q (with_values int s l args (λ xs. called (call file int j f xs s) t i l go))
      (outcome int d k (set_parameters n 0 g.parameters args rest) s m)
  unfolding call
  opened-keeps zero is t i f g args rest s l m go there same below agree h =
      values-gone n q int s l args (λ xs. called Starves t i l go)
      (outcome int d k (set_parameters n 0 g.parameters args rest) s m) (λ xs. tt)
  opened-keeps (suc j) is t i f g args rest s l m go there same below agree h =
      subst (λ (o : Option Function). Keeps n q (with_values int s l args
      (λ xs. called (run int (call file int j) j o xs s) t i l go))
      (outcome int d k (set_parameters n 0 g.parameters args rest) s m)) (sym there)
      (set-keeps n q int d k rest s l t i go (λ own. returned g.result (outcome int (call file int j) j g.body s own))
      g.parameters args 0 no_locals m same below agree (λ t i z e. absurd cc)
      (h (call file int j) j (less j (omega (arith, is))) (omega (arith, is))))

  does : (c : Calls) (h : ℕ) → ReturnAlike c d → h ≤ k → (body : Block) (s : Store) (own m : Locals)
      → HasPlaced n own m → (v : Store) (x : CValue) → outcome int c h body s own ≡ Returns v x
      → outcome int d k (placed n body) s m ≡ Returns v x
  does c h like le body s own m has v x e =
      subst (λ (o : Outcome). Places n o (outcome int d k (placed n body) s m)) e
      (placed-places n int c d like h k le body s own m has)

  pub inlined-keeps : (a a' : Block) → IsInlined file.functions p q n a a' → block_reads_below n a ≡ true
      → (s : Store) (l m : Locals) → AgreeBelow n l m
      → Keeps n q (outcome int (call file int k) k a s l) (outcome int d k a' s m)
  unfolding outcome block_reads_below
  inlined-keeps _ _ Ends below s l m agree = (m, refl, agree)
  inlined-keeps _ _ (Sets t i e a a' is) below s l m agree =
      let h = both (reads_below n e) (block_reads_below n a) below in
      value-keeps n q (with_meaning (meaning int s l e) (λ x. converted t x.value))
      (with_meaning (meaning int s m e) (λ x. converted t x.value))
      (λ y. outcome int (call file int k) k a s (with_local l t i y.value))
      (λ y. outcome int d k a' s (with_local m t i y.value))
      (ap (λ (w : Meaning). with_meaning w (λ x. converted t x.value)) (means-same n int s l m agree e h.0))
      (λ y. inlined-keeps a a' is h.1 s (with_local l t i y.value) (with_local m t i y.value)
      (put-same n l m t i y.value agree))
  inlined-keeps _ _ (Stores f e a a' is) below s l m agree =
      let h = both (reads_below n e) (block_reads_below n a) below in
      value-keeps n q (with_meaning (meaning int s l e) (λ x. brought_to (slice_get s.fields f) x.value))
      (with_meaning (meaning int s m e) (λ x. brought_to (slice_get s.fields f) x.value))
      (λ y. outcome int (call file int k) k a (with_field s f y) l) (λ y. outcome int d k a' (with_field s f y) m)
      (ap (λ (w : Meaning). with_meaning w (λ x. brought_to (slice_get s.fields f) x.value))
      (means-same n int s l m agree e h.0))
      (λ y. inlined-keeps a a' is h.1 (with_field s f y) l m agree)
  inlined-keeps _ _ (StoresAt r i e a a' is) below s l m agree =
      let h = both (reads_below n i) (reads_below n e && block_reads_below n a) below in
      let g = both (reads_below n e) (block_reads_below n a) h.1 in
      value-keeps n q (meaning int s l i) (meaning int s m i)
      (λ w. with_value (with_meaning (meaning int s l e) (λ x. brought_to (element (slice_get s.rows r) w.value) x.value))
      (λ y. outcome int (call file int k) k a (with_element s r w.value y) l))
      (λ w. with_value (with_meaning (meaning int s m e) (λ x. brought_to (element (slice_get s.rows r) w.value) x.value))
      (λ y. outcome int d k a' (with_element s r w.value y) m)) (means-same n int s l m agree i h.0)
      (λ w. value-keeps n q
      (with_meaning (meaning int s l e) (λ x. brought_to (element (slice_get s.rows r) w.value) x.value))
      (with_meaning (meaning int s m e) (λ x. brought_to (element (slice_get s.rows r) w.value) x.value))
      (λ y. outcome int (call file int k) k a (with_element s r w.value y) l)
      (λ y. outcome int d k a' (with_element s r w.value y) m)
      (ap (λ (v : Meaning). with_meaning v (λ x. brought_to (element (slice_get s.rows r) w.value) x.value))
      (means-same n int s l m agree e g.0))
      (λ y. inlined-keeps a a' is g.1 (with_element s r w.value y) l m agree))
  inlined-keeps _ _ (StaysCall t i f args a a' is) below s l m agree =
      let h = both (all_read_below n args) (block_reads_below n a) below in
      values-keep n q int s l m args
      (λ xs. called (call file int k f xs s) t i l (λ v m. outcome int (call file int k) k a v m))
      (λ xs. called (d f xs s) t i m (λ v m. outcome int d k a' v m)) agree h.0
      (λ xs. called-keeps n q (call file int k f xs s) (d f xs s) t i l m
      (λ v m. outcome int (call file int k) k a v m) (λ v m. outcome int d k a' v m)
      (λ v x e. alike f xs s v x e) agree (λ v l m agree. inlined-keeps a a' is h.1 v l m agree))
  inlined-keeps _ _ (Selects t i e cases args a a' is) below s l m agree =
      let h = both (reads_below n e) (all_read_below n args && block_reads_below n a) below in
      let g = both (all_read_below n args) (block_reads_below n a) h.1 in
      value-keeps n q (meaning int s l e) (meaning int s m e)
      (λ w. with_value (converted (promoted int w.type) w.value) (λ p. with_values int s l args (λ xs.
      selected p.type p.value cases
      (λ f. called (call file int k f xs s) t i l (λ v m. outcome int (call file int k) k a v m))
      (outcome int (call file int k) k a s l))))
      (λ w. with_value (converted (promoted int w.type) w.value) (λ p. with_values int s m args (λ xs.
      selected p.type p.value cases (λ f. called (d f xs s) t i m (λ v m. outcome int d k a' v m))
      (outcome int d k a' s m)))) (means-same n int s l m agree e h.0)
      (λ w. value-keeps n q (converted (promoted int w.type) w.value) (converted (promoted int w.type) w.value)
      (λ p. with_values int s l args (λ xs. selected p.type p.value cases
      (λ f. called (call file int k f xs s) t i l (λ v m. outcome int (call file int k) k a v m))
      (outcome int (call file int k) k a s l)))
      (λ p. with_values int s m args (λ xs. selected p.type p.value cases
      (λ f. called (d f xs s) t i m (λ v m. outcome int d k a' v m)) (outcome int d k a' s m))) refl
      (λ p. values-keep n q int s l m args
      (λ xs. selected p.type p.value cases
      (λ f. called (call file int k f xs s) t i l (λ v m. outcome int (call file int k) k a v m))
      (outcome int (call file int k) k a s l))
      (λ xs. selected p.type p.value cases (λ f. called (d f xs s) t i m (λ v m. outcome int d k a' v m))
      (outcome int d k a' s m)) agree g.0
      (λ xs. selected-keeps n q p.type p.value cases
      (λ f. called (call file int k f xs s) t i l (λ v m. outcome int (call file int k) k a v m))
      (λ f. called (d f xs s) t i m (λ v m. outcome int d k a' v m)) (outcome int (call file int k) k a s l)
      (outcome int d k a' s m)
      (λ f. called-keeps n q (call file int k f xs s) (d f xs s) t i l m
      (λ v m. outcome int (call file int k) k a v m) (λ v m. outcome int d k a' v m)
      (λ v x e. alike f xs s v x e) agree (λ v l m agree. inlined-keeps a a' is g.1 v l m agree))
      (inlined-keeps a a' is g.1 s l m agree))))
  inlined-keeps _ _ (Asks e a b c a' b' c' first second last) below s l m agree =
      let h = both (reads_below n e) (block_reads_below n a && (block_reads_below n b && block_reads_below n c)) below in
      let g = both (block_reads_below n a) (block_reads_below n b && block_reads_below n c) h.1 in
      let f = both (block_reads_below n b) (block_reads_below n c) g.1 in
      value-keeps n q (meaning int s l e) (meaning int s m e)
      (λ x. and_on (cond (is_true x.value) (outcome int (call file int k) k a s l) (outcome int (call file int k) k b s l))
      (λ v m. outcome int (call file int k) k c v m))
      (λ x. and_on (cond (is_true x.value) (outcome int d k a' s m) (outcome int d k b' s m))
      (λ v m. outcome int d k c' v m)) (means-same n int s l m agree e h.0)
      (λ x. on-keeps n q
      (cond (is_true x.value) (outcome int (call file int k) k a s l) (outcome int (call file int k) k b s l))
      (cond (is_true x.value) (outcome int d k a' s m) (outcome int d k b' s m))
      (λ v m. outcome int (call file int k) k c v m) (λ v m. outcome int d k c' v m)
      (cond-keeps n q (is_true x.value) (outcome int (call file int k) k a s l) (outcome int (call file int k) k b s l)
      (outcome int d k a' s m) (outcome int d k b' s m) (inlined-keeps a a' first g.0 s l m agree)
      (inlined-keeps b b' second f.0 s l m agree)) (λ v l m agree. inlined-keeps c c' last f.1 v l m agree))
  inlined-keeps _ _ (Turns e a b a' b' first last) below s l m agree =
      let h = both (reads_below n e) (block_reads_below n a && block_reads_below n b) below in
      let g = both (block_reads_below n a) (block_reads_below n b) h.1 in
      on-keeps n q (turns k (λ v m. meaning int v m e) (λ v m. outcome int (call file int k) k a v m) s l)
      (turns k (λ v m. meaning int v m e) (λ v m. outcome int d k a' v m) s m)
      (λ v m. outcome int (call file int k) k b v m) (λ v m. outcome int d k b' v m)
      (turns-keep n q k (λ v m. meaning int v m e) (λ v m. outcome int (call file int k) k a v m)
      (λ v m. outcome int d k a' v m) (λ v l m agree. means-same n int v l m agree e h.0)
      (λ v l m agree. inlined-keeps a a' first g.0 v l m agree) s l m agree)
      (λ v l m agree. inlined-keeps b b' last g.1 v l m agree)
  inlined-keeps _ _ (Returning e) below s l m agree =
      value-keeps n q (meaning int s l e) (meaning int s m e) (λ x. Returns s x) (λ x. Returns s x)
      (means-same n int s l m agree e below) (λ x. (x, refl, refl))
  inlined-keeps _ _ (Opened t i f g args a a' other there same can is) below s l m agree =
      let h = both (all_read_below n args) (block_reads_below n a) below in
      opened-keeps k refl t i f g args (before (continued (set_result g.result t i) (placed n g.body) End) a') s l m
      (λ v m. outcome int (call file int k) k a v m) there same h.0 agree
      (λ c u like le own m agree has. after-body n q int d k t g.result i g.body a' s l m
      (λ v m. outcome int (call file int k) k a v m) (outcome int c u g.body s own) can agree
      (λ v x e. does c u like le g.body s own m has v x e)
      (λ v l m agree. inlined-keeps a a' is h.1 v l m agree))
  inlined-keeps _ _ (HandedOn i f g args other there same type) below s l m agree =
      let h = both (all_read_below n args) (block_reads_below n (Return (Local q i))) below in
      opened-keeps k refl q i f g args (placed n g.body) s l m
      (λ v m. outcome int (call file int k) k (Return (Local q i)) v m) there same h.0 agree
      (λ c u like le own m agree has. subst (λ (r : CType). Keeps n q
      (called (returned r (outcome int c u g.body s own)) q i l
      (λ v m. outcome int (call file int k) k (Return (Local q i)) v m)) (outcome int d k (placed n g.body) s m))
      (sym type) (in-place n q int d k i g.body s l m (outcome int c u g.body s own)
      (λ v x e. does c u like le g.body s own m has v x e) (call file int k)))
