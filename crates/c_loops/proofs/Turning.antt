-- One turn of the loop does what a call does, up to a call that hands on.
use Rattle.std.proofs.Common.{◌≡◌, ℕ, ◌≤◌, ◌&&◌, ◌||◌, Bool, true, false, cond, List, [], ◌∷◌, ◌++◌, ◌⊎◌, slice_get}
use Rattle.std.proofs.Common.{refl, sym, ap, subst, inl, inr}
use Rattle.std.specs.List.{list_all}
use Rattle.c_subset.specs.declared.trees.Width.{Width}
use Rattle.c_subset.specs.declared.trees.CType.{CType}
use Rattle.c_subset.specs.Trees.{CExpr}
use Rattle.c_subset.specs.Trees.{Block, End, Set, Store as PutField, StoreAt, Call, Select, If, While, Return}
use Rattle.c_subset.specs.Meaning.{CValue, Meaning, Gives, with_meaning, converted, promoted, is_true, element, Store}
use Rattle.c_subset.specs.Meaning.{Locals, meaning}
use Rattle.c_subset.specs.Running.{Outcome, Falls, Returns, Starves, GoesWrong, with_value, and_on, with_local}
use Rattle.c_subset.specs.Running.{brought_to, with_field, with_element, Calls, with_values, called, selected, turns}
use Rattle.c_subset.specs.Running.{outcome}
use Rattle.c_trees.specs.Blocks.{is_end}
use Rattle.c_loops.specs.Results.{Known, gives_each_back}
use Rattle.c_loops.specs.Loops.{hands_on, is_some_of, ends, leads_back, rests, again}
use Rattle.c_loops.proofs.Locals.{Fits, put-fits, Clearer, means-more, brought-more, brought-from}
use Rattle.c_loops.proofs.Keeping.{Keeps, ReturnsAlike, value-both, called-both, values-both, selected-both}
use Rattle.c_loops.proofs.Keeping.{cond-keeps, turns-keep, outcome-keeps}
use Rattle.c_loops.proofs.Giving.{both-true}
use Rattle.c_trees.proofs.Lists.{end-is}
use Rattle.c_loops.proofs.Handing.{IsResult, Handed, ComesBack, comes-back}
use Rattle.c_loops.proofs.Returning.{one-back, part-all, rest-all}

-- what falls through an end falls as it is
pub falls-on : (o : Outcome) → and_on o (λ v m. Falls v m) ≡ o
falls-on (Falls s l) = refl
falls-on (Returns s x) = refl
falls-on Starves = refl
falls-on GoesWrong = refl

-- the turn ended where a call that hands on gave that
pub record Turns (R : List Known) (c : Calls) (p : ℕ) (o : Outcome) (after : Store) (x : CValue) : Type 0 where
  pub s : Store
  pub l : Locals
  pub m : Locals
  pub is : o ≡ Falls s m
  pub fits : Fits l m
  pub result : IsResult R x
  pub handed : Handed c p l s after x

-- the second is the first, or its turn ended; and the first doesn't fall through where statements end
abbrev pub Steps : List Known → Calls → ℕ → Bool → Outcome → Outcome → Type 0
Steps R c p over (Falls s l) o = (m : Locals) × (o ≡ Falls s m) × Fits l m × (over ≡ false)
Steps R c p over (Returns s x) o = (o ≡ Returns s x) ⊎ Turns R c p o s x
Steps R c p over Starves o = Unit {0}
Steps R c p over GoesWrong o = Unit {0}

module _ (int : Width) (c d : Calls)
    (alike : (f : ℕ) (xs : List CValue) (s : Store) → ReturnsAlike (c f xs s) (d f xs s)) (k j : ℕ) (le : k ≤ j)
    (p : ℕ) (R : List Known)
    (good : (xs : List CValue) (s after : Store) (x : CValue) → c p xs s ≡ Returns after x → IsResult R x) where
  abbrev S : Bool → Outcome → Outcome → Type 0
  S over o q = Steps R c p over o q

  no-steps : (o : Outcome) → Unit {0}
  no-steps o = tt

  value-steps : (over : Bool) (a b : Meaning) (f g : CValue → Outcome) → Clearer a b
      → ((x : CValue) → a ≡ Gives x → S over (f x) (g x)) → S over (with_value a f) (with_value b g)
  value-steps over = value-both (λ o q. S over o q) no-steps no-steps

  called-steps : (over : Bool) (o q : Outcome) (t : CType) (i : ℕ) (l m : Locals) (f g : Store → Locals → Outcome)
      → ReturnsAlike o q → Fits l m → ((s : Store) (l m : Locals) → Fits l m → S over (f s l) (g s m))
      → S over (called o t i l f) (called q t i m g)
  called-steps over = called-both (λ o q. S over o q) no-steps no-steps

  -- what is the same, and then a turn
  on-steps : (over : Bool) (o q : Outcome) (f g : Store → Locals → Outcome) → Keeps o q
      → ((s : Store) (l m : Locals) → Fits l m → S over (f s l) (g s m)) → S over (and_on o f) (and_on q g)
  on-steps over (Falls s l) q f g e h =
      subst (λ (q : Outcome). S over (f s l) (and_on q g)) (sym e.1) (h s l e.0 e.2)
  on-steps over (Returns s x) q f g e h = inl (ap (λ (q : Outcome). and_on q g) e)
  on-steps over Starves q f g e h = tt
  on-steps over GoesWrong q f g e h = tt

  -- a part that doesn't fall through, before an end
  nested-steps : (over : Bool) (o q : Outcome) (f : Store → Locals → Outcome) → S true o q
      → S over (and_on o f) (and_on q (λ v m. Falls v m))
  nested-steps over (Falls s l) q f h = let no : true ≡ false = h.3 in absurd cc
  nested-steps over (Returns s x) q f (inl e) = inl (ap (λ (q : Outcome). and_on q (λ v m. Falls v m)) e)
  nested-steps over (Returns s x) q f (inr t) = inr (record {
    s = t.s;
    l = t.l;
    m = t.m;
    is = ap (λ (q : Outcome). and_on q (λ v m. Falls v m)) t.is;
    fits = t.fits;
    result = t.result;
    handed = t.handed;
  })
  nested-steps over Starves q f h = tt
  nested-steps over GoesWrong q f h = tt

  -- the call that hands on ends the turn
  back-steps : (s : Store) (l m : Locals) → Fits l m → (o : Outcome) → ComesBack R c p l s o
      → S true o (Falls s m)
  back-steps s l m fits (Falls v n) h = absurd h
  back-steps s l m fits (Returns after x) h = inr (record {
    s = s;
    l = l;
    m = m;
    is = refl;
    fits = fits;
    result = h.0;
    handed = h.1;
  })
  back-steps s l m fits Starves h = tt
  back-steps s l m fits GoesWrong h = tt

  abbrev All : List Block → Type 0
  All xs = list_all (gives_each_back R) xs ≡ true

  call-steps : (t : CType) (i f : ℕ) (args : List CExpr) (rest : Block) (b : Bool) → hands_on p t i f args ≡ b
      → All (cond b (rest ∷ []) (rests p rest)) → (s : Store) (l m : Locals) → Fits l m
      → (All (rests p rest) → S (ends p rest) (outcome int c k (Call t i f args rest) s l)
      (outcome int d j (Call t i f args (again p rest)) s m))
      → S (b || ends p rest) (outcome int c k (Call t i f args rest) s l)
      (outcome int d j (cond b End (Call t i f args (again p rest))) s m)
  unfolding outcome
  call-steps t i f args rest true e back s l m fits plain =
      back-steps s l m fits (outcome int c k (Call t i f args rest) s l)
      (comes-back int c k p R good t i f args rest e (one-back int c k p R good true rest (rests p rest) refl back) s l)
  call-steps t i f args rest false e back s l m fits plain = plain back

  if-steps : (e : CExpr) (a b rest : Block) (inner : Bool) → leads_back p (rests p a) a b ≡ inner
      → All (cond inner (rests p a) [] ++ rests p rest) → (s : Store) (l m : Locals) → Fits l m
      → (All (rests p a) → S (ends p a) (outcome int c k a s l) (outcome int d j (again p a) s m))
      → (All (rests p rest) → (s : Store) (l m : Locals) → Fits l m
      → S (ends p rest) (outcome int c k rest s l) (outcome int d j (again p rest) s m))
      → S (ends p rest) (outcome int c k (If e a b rest) s l)
      (outcome int d j (cond inner (If e (again p a) (again p rest) End) (If e a b (again p rest))) s m)
  unfolding outcome
  if-steps e a b rest true is back s l m fits first later =
      let h = both-true (is_end b) (is_some_of (rests p a) && ends p a) is in
      let over = (both-true (is_some_of (rests p a)) (ends p a) h.1).1 in
      let all_a = part-all int c k p R good true (rests p a) (rests p rest) refl back in
      let all_rest = rest-all int c k p R good true (rests p a) (rests p rest) back in
      let falls : outcome int c k b s l ≡ Falls s l =
      ap (λ (b : Block). outcome int c k b s l) (end-is b h.0) in
      value-steps (ends p rest) (meaning int s l e) (meaning int s m e)
      (λ x. and_on (cond (is_true x.value) (outcome int c k a s l) (outcome int c k b s l))
      (λ v n. outcome int c k rest v n))
      (λ x. and_on (cond (is_true x.value) (outcome int d j (again p a) s m) (outcome int d j (again p rest) s m))
      (λ v n. Falls v n)) (means-more int s l m fits.more e)
      (λ x means. parts falls (is_true x.value)
      (nested-steps (ends p rest) (outcome int c k a s l) (outcome int d j (again p a) s m)
      (λ v n. outcome int c k rest v n)
      (subst (λ (over : Bool). S over (outcome int c k a s l) (outcome int d j (again p a) s m)) over (first all_a)))
      (later all_rest s l m fits))
    where
      parts : outcome int c k b s l ≡ Falls s l → (q : Bool)
          → S (ends p rest) (and_on (outcome int c k a s l) (λ v n. outcome int c k rest v n))
          (and_on (outcome int d j (again p a) s m) (λ v n. Falls v n))
          → S (ends p rest) (outcome int c k rest s l) (outcome int d j (again p rest) s m)
          → S (ends p rest)
          (and_on (cond q (outcome int c k a s l) (outcome int c k b s l)) (λ v n. outcome int c k rest v n))
          (and_on (cond q (outcome int d j (again p a) s m) (outcome int d j (again p rest) s m)) (λ v n. Falls v n))
      parts falls true h i = h
      parts falls false h i =
          subst (λ (o : Outcome). S (ends p rest) (and_on o (λ v n. outcome int c k rest v n))
          (and_on (outcome int d j (again p rest) s m) (λ v n. Falls v n))) (sym falls)
          (subst (λ (o : Outcome). S (ends p rest) (outcome int c k rest s l) o)
          (sym (falls-on (outcome int d j (again p rest) s m))) i)
  if-steps e a b rest false is back s l m fits first later =
      let all_rest = rest-all int c k p R good false (rests p a) (rests p rest) back in
      value-steps (ends p rest) (meaning int s l e) (meaning int s m e)
      (λ x. and_on (cond (is_true x.value) (outcome int c k a s l) (outcome int c k b s l))
      (λ v n. outcome int c k rest v n))
      (λ x. and_on (cond (is_true x.value) (outcome int d j a s m) (outcome int d j b s m))
      (λ v n. outcome int d j (again p rest) v n)) (means-more int s l m fits.more e)
      (λ x means. on-steps (ends p rest) (cond (is_true x.value) (outcome int c k a s l) (outcome int c k b s l))
      (cond (is_true x.value) (outcome int d j a s m) (outcome int d j b s m)) (λ v n. outcome int c k rest v n)
      (λ v n. outcome int d j (again p rest) v n)
      (cond-keeps (is_true x.value) (outcome int c k a s l) (outcome int c k b s l) (outcome int d j a s m)
      (outcome int d j b s m) (outcome-keeps int c d alike k j le a s l m fits)
      (outcome-keeps int c d alike k j le b s l m fits)) (later all_rest))

  -- one turn
  pub turn-steps : (a : Block) → All (rests p a) → (s : Store) (l m : Locals) → Fits l m
      → S (ends p a) (outcome int c k a s l) (outcome int d j (again p a) s m)
  unfolding rests ends again outcome
  turn-steps End back s l m fits = (m, refl, fits, refl)
  turn-steps (Set t i e rest) back s l m fits =
      value-steps (ends p rest) (with_meaning (meaning int s l e) (λ x. converted t x.value))
      (with_meaning (meaning int s m e) (λ x. converted t x.value))
      (λ y. outcome int c k rest s (with_local l t i y.value))
      (λ y. outcome int d j (again p rest) s (with_local m t i y.value))
      (brought-more int s l m fits.more e (λ x. converted t x.value))
      (λ y is. let from = brought-from (meaning int s l e) t y is in
      turn-steps rest back s (with_local l t i y.value) (with_local m t i y.value)
      (put-fits l m t i from.0 y from.1 fits))
  turn-steps (PutField f e rest) back s l m fits =
      value-steps (ends p rest) (with_meaning (meaning int s l e) (λ x. brought_to (slice_get s.fields f) x.value))
      (with_meaning (meaning int s m e) (λ x. brought_to (slice_get s.fields f) x.value))
      (λ y. outcome int c k rest (with_field s f y) l) (λ y. outcome int d j (again p rest) (with_field s f y) m)
      (brought-more int s l m fits.more e (λ x. brought_to (slice_get s.fields f) x.value))
      (λ y is. turn-steps rest back (with_field s f y) l m fits)
  turn-steps (StoreAt a i e rest) back s l m fits =
      value-steps (ends p rest) (meaning int s l i) (meaning int s m i)
      (λ n. with_value (with_meaning (meaning int s l e) (λ x. brought_to (element (slice_get s.rows a) n.value) x.value))
      (λ y. outcome int c k rest (with_element s a n.value y) l))
      (λ n. with_value (with_meaning (meaning int s m e) (λ x. brought_to (element (slice_get s.rows a) n.value) x.value))
      (λ y. outcome int d j (again p rest) (with_element s a n.value y) m)) (means-more int s l m fits.more i)
      (λ n is. value-steps (ends p rest)
      (with_meaning (meaning int s l e) (λ x. brought_to (element (slice_get s.rows a) n.value) x.value))
      (with_meaning (meaning int s m e) (λ x. brought_to (element (slice_get s.rows a) n.value) x.value))
      (λ y. outcome int c k rest (with_element s a n.value y) l)
      (λ y. outcome int d j (again p rest) (with_element s a n.value y) m)
      (brought-more int s l m fits.more e (λ x. brought_to (element (slice_get s.rows a) n.value) x.value))
      (λ y is. turn-steps rest back (with_element s a n.value y) l m fits))
  turn-steps (Call t i f args rest) back s l m fits =
      call-steps t i f args rest (hands_on p t i f args) refl back s l m fits
      (λ back. values-both (λ o q. S (ends p rest) o q) no-steps no-steps int s l m fits.more args
      (λ xs. called (c f xs s) t i l (λ v n. outcome int c k rest v n))
      (λ xs. called (d f xs s) t i m (λ v n. outcome int d j (again p rest) v n))
      (λ xs. called-steps (ends p rest) (c f xs s) (d f xs s) t i l m (λ v n. outcome int c k rest v n)
      (λ v n. outcome int d j (again p rest) v n) (alike f xs s) fits (λ v l m fits. turn-steps rest back v l m fits)))
  turn-steps (Select t i e cases args rest) back s l m fits =
      value-steps (ends p rest) (meaning int s l e) (meaning int s m e)
      (λ n. with_value (converted (promoted int n.type) n.value) (λ q. with_values int s l args (λ xs.
      selected q.type q.value cases (λ f. called (c f xs s) t i l (λ v n. outcome int c k rest v n))
      (outcome int c k rest s l))))
      (λ n. with_value (converted (promoted int n.type) n.value) (λ q. with_values int s m args (λ xs.
      selected q.type q.value cases (λ f. called (d f xs s) t i m (λ v n. outcome int d j (again p rest) v n))
      (outcome int d j (again p rest) s m)))) (means-more int s l m fits.more e)
      (λ n is. value-steps (ends p rest) (converted (promoted int n.type) n.value)
      (converted (promoted int n.type) n.value)
      (λ q. with_values int s l args (λ xs.
      selected q.type q.value cases (λ f. called (c f xs s) t i l (λ v n. outcome int c k rest v n))
      (outcome int c k rest s l)))
      (λ q. with_values int s m args (λ xs.
      selected q.type q.value cases (λ f. called (d f xs s) t i m (λ v n. outcome int d j (again p rest) v n))
      (outcome int d j (again p rest) s m))) (inr refl)
      (λ q is. values-both (λ o q. S (ends p rest) o q) no-steps no-steps int s l m fits.more args
      (λ xs. selected q.type q.value cases (λ f. called (c f xs s) t i l (λ v n. outcome int c k rest v n))
      (outcome int c k rest s l))
      (λ xs. selected q.type q.value cases (λ f. called (d f xs s) t i m (λ v n. outcome int d j (again p rest) v n))
      (outcome int d j (again p rest) s m))
      (λ xs. selected-both (λ o q. S (ends p rest) o q) no-steps no-steps q.type q.value cases
      (λ f. called (c f xs s) t i l (λ v n. outcome int c k rest v n))
      (λ f. called (d f xs s) t i m (λ v n. outcome int d j (again p rest) v n)) (outcome int c k rest s l)
      (outcome int d j (again p rest) s m)
      (λ f. called-steps (ends p rest) (c f xs s) (d f xs s) t i l m (λ v n. outcome int c k rest v n)
      (λ v n. outcome int d j (again p rest) v n) (alike f xs s) fits (λ v l m fits. turn-steps rest back v l m fits))
      (turn-steps rest back s l m fits))))
  turn-steps (If e a b rest) back s l m fits =
      if-steps e a b rest (leads_back p (rests p a) a b) refl back s l m fits
      (λ back. turn-steps a back s l m fits) (λ back s l m fits. turn-steps rest back s l m fits)
  turn-steps (While e a rest) back s l m fits =
      on-steps (ends p rest) (turns k (λ v n. meaning int v n e) (λ v n. outcome int c k a v n) s l)
      (turns j (λ v n. meaning int v n e) (λ v n. outcome int d j a v n) s m) (λ v n. outcome int c k rest v n)
      (λ v n. outcome int d j (again p rest) v n)
      (turns-keep k j le (λ v n. meaning int v n e) (λ v n. outcome int c k a v n) (λ v n. outcome int d j a v n)
      (λ v l m fits. means-more int v l m fits.more e)
      (λ v l m fits. outcome-keeps int c d alike k j le a v l m fits) s l m fits)
      (λ v l m fits. turn-steps rest back v l m fits)
  turn-steps (Return e) back s l m fits =
      value-steps true (meaning int s l e) (meaning int s m e) (λ x. Returns s x) (λ x. Returns s x)
      (means-more int s l m fits.more e) (λ x is. inl refl)
