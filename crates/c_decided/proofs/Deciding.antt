-- Statements with decided tests do what the statements did, where the facts hold.
use Rattle.std.proofs.Common.{◌≡◌, ℕ, zero, suc, true, false, cond, List, [], ◌∷◌}
use Rattle.std.proofs.Common.{Option, Some, None, slice_get, refl, sym, ap, ◌∙◌, subst}
use Rattle.std.specs.List.{AllByRecursion}
use Rattle.c_subset.specs.declared.trees.Width.{Width}
use Rattle.c_subset.specs.declared.trees.CType.{CType}
use Rattle.c_subset.specs.declared.trees.Case.{Case}
use Rattle.c_subset.specs.Trees.{Function, File}
use Rattle.c_subset.specs.Trees.{Block, If}
use Rattle.c_subset.specs.Meaning.{CValue, Meaning, Gives, Wrong, with_meaning, converted, promoted, is_true, Store}
use Rattle.c_subset.specs.Meaning.{element, Locals, meaning}
use Rattle.c_subset.specs.Running.{Outcome, Falls, Returns, Starves, GoesWrong, with_value, and_on, no_locals}
use Rattle.c_subset.specs.Running.{with_local, brought_to, with_field, with_element, Calls, with_values, called}
use Rattle.c_subset.specs.Running.{turns, selected, outcome, with_arguments, returned, run, call}
use Rattle.c_facts.specs.Known.{Hold}
use Rattle.c_decided.specs.Facts.{at, Facts, Holds, alone}
use Rattle.c_decided.specs.Decided.{Plan, Same, EachCase, IsDecided, Unreached, Weakens, Ends, Sets, Stores}
use Rattle.c_decided.specs.Decided.{StoresAt, Calls as CallsOn, Asks, Selects, TakesFirst, TakesSecond, Loops}
use Rattle.c_decided.specs.Decided.{Returning}
use Rattle.c_decided.specs.Made.{FileIsMade, CallsAreKept}
use Rattle.c_decided.proofs.Before.{before-on}
use Rattle.c_decided.proofs.Kept.{same-itself, same-then, same-within, Kept, weaker, value-kept, values-kept, on-kept}
use Rattle.c_decided.proofs.Kept.{called-kept, cond-kept, selected-kept, taken-kept, turns-kept}
use Rattle.c_decided.proofs.Elements.{element-keeps, element-same}

-- ---- statements with decided tests

module _ (int : Width) (P : Plan) (c d : Calls)
    (alike : (f : ℕ) (xs : List CValue) (s after : Store) (x : CValue) → Hold s (P.begins f)
    → c f xs s ≡ Returns after x
    → (d f xs s ≡ Returns after x) × (Hold after (at (P.leaves f) (Some x.value)) × Same (P.touched f) s after))
    (k p : ℕ) (result : CType) (u : Store) where
  each-kept : (F G H : Facts) (s : Store) (l : Locals) (t : CType) (i : ℕ) (xs : List CValue) (a a' : Block)
      → Holds s l F → Same (P.touched p) u s
      → ((v : Store) (m : Locals) → Holds v m G → Same (P.touched p) u v
      → Kept P p result u H (outcome int c k a v m) (outcome int d k a' v m))
      → (cases : List Case) → EachCase P p F t i G cases
      → AllByRecursion (λ (x : Case). Kept P p result u H
      (called (c x.function xs s) t i l (λ v m. outcome int c k a v m))
      (called (d x.function xs s) t i l (λ v m. outcome int d k a' v m))) cases
  each-kept F G H s l t i xs a a' h same go [] each = tt
  each-kept F G H s l t i xs a a' h same go (x ∷ cases) each = (
    called-kept P p result u H (c x.function xs s) (d x.function xs s) t i l (λ v m. outcome int c k a v m)
        (λ v m. outcome int d k a' v m)
        (λ v z is. let both = alike x.function xs s v z (each.0.begins s l h) is in (
          both.0,
          λ y to. go v (with_local l t i y.value) (each.1.0 s v l z y h both.1.0 both.1.1 to)
              (same-then (P.touched p) u s v same
              (same-within (P.touched x.function) (P.touched p) s v each.0.within both.1.1)),
        )),
    each-kept F G H s l t i xs a a' h same go cases each.1.1,
  )

  pub outcome-kept : (F G : Facts) (a a' : Block) → IsDecided int P p result F a a' G → (s : Store) (l : Locals)
      → Holds s l F → Same (P.touched p) u s → Kept P p result u G (outcome int c k a s l) (outcome int d k a' s l)
  unfolding outcome
  outcome-kept _ _ _ _ (Unreached F G a a' never) s l h same = absurd (never s l h)
  outcome-kept _ _ _ _ (Weakens F G H a a' imply is) s l h same =
      weaker P p result u G H imply (outcome int c k a s l) (outcome int d k a' s l)
      (outcome-kept F G a a' is s l h same)
  outcome-kept _ _ _ _ (Ends F) s l h same = (refl, (h, same))
  outcome-kept _ _ _ _ (Sets F G H t i e a a' after rest) s l h same =
      value-kept P p result u H (with_meaning (meaning int s l e) (λ x. converted t x.value))
      (λ y. outcome int c k a s (with_local l t i y.value)) (λ y. outcome int d k a' s (with_local l t i y.value))
      (λ y is. outcome-kept G H a a' rest s (with_local l t i y.value) (after s l y h is) same)
  outcome-kept _ _ _ _ (Stores F G H f e a a' after within rest) s l h same =
      value-kept P p result u H (with_meaning (meaning int s l e) (λ x. brought_to (slice_get s.fields f) x.value))
      (λ y. outcome int c k a (with_field s f y) l) (λ y. outcome int d k a' (with_field s f y) l)
      (λ y is. outcome-kept G H a a' rest (with_field s f y) l (after s l y h is)
      (same-then (P.touched p) u s (with_field s f y) same (within s l y h is)))
  outcome-kept _ _ _ _ (StoresAt F G r i e a a' rest) s l h same =
      value-kept P p result u G (meaning int s l i)
      (λ n. with_value (with_meaning (meaning int s l e) (λ x. brought_to (element (slice_get s.rows r) n.value) x.value))
      (λ y. outcome int c k a (with_element s r n.value y) l))
      (λ n. with_value (with_meaning (meaning int s l e) (λ x. brought_to (element (slice_get s.rows r) n.value) x.value))
      (λ y. outcome int d k a' (with_element s r n.value y) l))
      (λ n is. value-kept P p result u G
      (with_meaning (meaning int s l e) (λ x. brought_to (element (slice_get s.rows r) n.value) x.value))
      (λ y. outcome int c k a (with_element s r n.value y) l)
      (λ y. outcome int d k a' (with_element s r n.value y) l)
      (λ y is. outcome-kept F G a a' rest (with_element s r n.value y) l (element-keeps s r n.value y l F h)
      (same-then (P.touched p) u s (with_element s r n.value y) same (element-same (P.touched p) s r n.value y))))
  outcome-kept _ _ _ _ (CallsOn F G H t i f args a a' may after rest) s l h same =
      values-kept P p result u H int s l args (λ xs. called (c f xs s) t i l (λ v m. outcome int c k a v m))
      (λ xs. called (d f xs s) t i l (λ v m. outcome int d k a' v m))
      (λ xs. called-kept P p result u H (c f xs s) (d f xs s) t i l (λ v m. outcome int c k a v m)
      (λ v m. outcome int d k a' v m)
      (λ v x is. let both = alike f xs s v x (may.begins s l h) is in (
        both.0,
        λ y to. outcome-kept G H a a' rest v (with_local l t i y.value) (after s v l x y h both.1.0 both.1.1 to)
            (same-then (P.touched p) u s v same
            (same-within (P.touched f) (P.touched p) s v may.within both.1.1)),
      )))
  outcome-kept _ _ _ _ (Selects F G H t i e cases args a a' each none rest) s l h same =
      value-kept P p result u H (meaning int s l e)
      (λ n. with_value (converted (promoted int n.type) n.value) (λ q. with_values int s l args (λ xs.
      selected q.type q.value cases (λ f. called (c f xs s) t i l (λ v m. outcome int c k a v m))
      (outcome int c k a s l))))
      (λ n. with_value (converted (promoted int n.type) n.value) (λ q. with_values int s l args (λ xs.
      selected q.type q.value cases (λ f. called (d f xs s) t i l (λ v m. outcome int d k a' v m))
      (outcome int d k a' s l))))
      (λ n ni. value-kept P p result u H (converted (promoted int n.type) n.value)
      (λ q. with_values int s l args (λ xs.
      selected q.type q.value cases (λ f. called (c f xs s) t i l (λ v m. outcome int c k a v m))
      (outcome int c k a s l)))
      (λ q. with_values int s l args (λ xs.
      selected q.type q.value cases (λ f. called (d f xs s) t i l (λ v m. outcome int d k a' v m))
      (outcome int d k a' s l)))
      (λ q qi. values-kept P p result u H int s l args
      (λ xs. selected q.type q.value cases (λ f. called (c f xs s) t i l (λ v m. outcome int c k a v m))
      (outcome int c k a s l))
      (λ xs. selected q.type q.value cases (λ f. called (d f xs s) t i l (λ v m. outcome int d k a' v m))
      (outcome int d k a' s l))
      (λ xs. selected-kept P p result u H q.type q.value cases
      (λ f. called (c f xs s) t i l (λ v m. outcome int c k a v m))
      (λ f. called (d f xs s) t i l (λ v m. outcome int d k a' v m)) (outcome int c k a s l) (outcome int d k a' s l)
      (each-kept F G H s l t i xs a a' h same (λ v m holds now. outcome-kept G H a a' rest v m holds now) cases each)
      (outcome-kept G H a a' rest s l (none s l h) same))))
  outcome-kept _ _ _ _ (Asks F Y N G H e a a' b b' q q' first second ad bd qd) s l h same =
      value-kept P p result u H (meaning int s l e)
      (λ x. and_on (cond (is_true x.value) (outcome int c k a s l) (outcome int c k b s l))
      (λ v m. outcome int c k q v m))
      (λ x. and_on (cond (is_true x.value) (outcome int d k a' s l) (outcome int d k b' s l))
      (λ v m. outcome int d k q' v m))
      (λ x is. on-kept P p result u G H (cond (is_true x.value) (outcome int c k a s l) (outcome int c k b s l))
      (cond (is_true x.value) (outcome int d k a' s l) (outcome int d k b' s l))
      (λ v m. outcome int c k q v m) (λ v m. outcome int d k q' v m)
      (cond-kept P p result u G (is_true x.value) (outcome int c k a s l) (outcome int c k b s l)
      (outcome int d k a' s l) (outcome int d k b' s l)
      (λ t. outcome-kept Y G a a' ad s l (first s l x h is t) same)
      (λ t. outcome-kept N G b b' bd s l (second s l x h is t) same))
      (λ v m holds now. outcome-kept G H q q' qd v m holds now))
  outcome-kept _ _ _ _ (TakesFirst F G H e a a' b q q' out ad qd) s l h same =
      subst (λ (o : Outcome). Kept P p result u H (outcome int c k (If e a b q) s l) o)
      (sym (before-on int d k a' q' s l))
      (taken-kept P p result u H (meaning int s l e) true (outcome int c k a s l) (outcome int c k b s l)
      (λ v m. outcome int c k q v m) (and_on (outcome int d k a' s l) (λ v m. outcome int d k q' v m))
      (λ x is. out s l x h is)
      (on-kept P p result u G H (outcome int c k a s l) (outcome int d k a' s l) (λ v m. outcome int c k q v m)
      (λ v m. outcome int d k q' v m) (outcome-kept F G a a' ad s l h same)
      (λ v m holds now. outcome-kept G H q q' qd v m holds now)))
  outcome-kept _ _ _ _ (TakesSecond F G H e a b b' q q' out bd qd) s l h same =
      subst (λ (o : Outcome). Kept P p result u H (outcome int c k (If e a b q) s l) o)
      (sym (before-on int d k b' q' s l))
      (taken-kept P p result u H (meaning int s l e) false (outcome int c k a s l) (outcome int c k b s l)
      (λ v m. outcome int c k q v m) (and_on (outcome int d k b' s l) (λ v m. outcome int d k q' v m))
      (λ x is. out s l x h is)
      (on-kept P p result u G H (outcome int c k b s l) (outcome int d k b' s l) (λ v m. outcome int c k q v m)
      (λ v m. outcome int d k q' v m) (outcome-kept F G b b' bd s l h same)
      (λ v m holds now. outcome-kept G H q q' qd v m holds now)))
  outcome-kept _ _ _ _ (Loops F I Y N H e a a' q q' begins turns-on ends ad qd) s l h same =
      on-kept P p result u N H (turns k (λ v m. meaning int v m e) (λ v m. outcome int c k a v m) s l)
      (turns k (λ v m. meaning int v m e) (λ v m. outcome int d k a' v m) s l)
      (λ v m. outcome int c k q v m) (λ v m. outcome int d k q' v m)
      (turns-kept P p result u I N (λ v m. meaning int v m e) (λ v m. outcome int c k a v m)
      (λ v m. outcome int d k a' v m)
      (λ v m x holds now is t. outcome-kept Y I a a' ad v m (turns-on v m x holds is t) now)
      (λ v m x holds is t. ends v m x holds is t) k s l (begins s l h) same)
      (λ v m holds now. outcome-kept N H q q' qd v m holds now)
  outcome-kept _ _ _ _ (Returning F G e leaves) s l h same =
      value-kept P p result u G (meaning int s l e) (λ x. Returns s x) (λ x. Returns s x)
      (λ x is. (refl, (λ y to. leaves s l x y h is to, same)))

-- ---- functions

-- equal endings have equal structs and numbers
abbrev struct-of : Outcome → Store → Store
struct-of (Falls s l) d = d
struct-of (Returns s x) d = s
struct-of Starves d = d
struct-of GoesWrong d = d

abbrev value-of : Outcome → CValue → CValue
value-of (Falls s l) d = d
value-of (Returns s x) d = x
value-of Starves d = d
value-of GoesWrong d = d

same-struct : {s v : Store} {x y : CValue} → Returns s x ≡ Returns v y → s ≡ v
same-struct {s} {v} {x} {y} e = ap (λ (o : Outcome). struct-of o s) e

same-value : {s v : Store} {x y : CValue} → Returns s x ≡ Returns v y → x ≡ y
same-value {s} {v} {x} {y} e = ap (λ (o : Outcome). value-of o x) e

-- what holds where a function returned
abbrev Left : Plan → ℕ → Store → Store → CValue → Type 0
Left P p u after x = Hold after (at (P.leaves p) (Some x.value)) × Same (P.touched p) u after

returned-kept : (P : Plan) (p : ℕ) (t : CType) (u : Store) (G : Facts) (o q : Outcome) → Kept P p t u G o q
    → (after : Store) (x : CValue) → returned t o ≡ Returns after x
    → (returned t q ≡ Returns after x) × Left P p u after x
returned-kept P p t u G (Falls s l) q h after x e = absurd cc
returned-kept P p t u G (Returns s y) q h after x e =
    (ap (returned t) h.0 ∙ e, holds (converted t y.value) h.1.0 e)
  where
    holds : (m : Meaning) → ((z : CValue) → m ≡ Gives z → Hold s (at (P.leaves p) (Some z.value)))
        → with_value m (λ z. Returns s z) ≡ Returns after x → Left P p u after x
    holds (Gives z) left e =
        subst (λ (v : Store). Left P p u v x) (same-struct e)
        (subst (λ (w : CValue). Left P p u s w) (same-value e) (left z refl, h.1.1))
    holds Wrong left e = absurd cc
returned-kept P p t u G Starves q h after x e = absurd cc
returned-kept P p t u G GoesWrong q h after x e = absurd cc

by-value : (m : Meaning) (f g : CValue → Outcome) (H : Store → CValue → Type 0) (after : Store) (x : CValue)
    → ((y : CValue) → f y ≡ Returns after x → (g y ≡ Returns after x) × H after x)
    → with_value m f ≡ Returns after x → (with_value m g ≡ Returns after x) × H after x
by-value (Gives y) f g H after x h e = h y e
by-value Wrong f g H after x h e = absurd cc

arguments-kept : (ts : List CType) (xs : List CValue) (k : ℕ) (l : Locals) (f g : Locals → Outcome)
    (H : Store → CValue → Type 0)
    → ((l : Locals) (after : Store) (x : CValue) → f l ≡ Returns after x → (g l ≡ Returns after x) × H after x)
    → (after : Store) (x : CValue) → with_arguments ts xs k l f ≡ Returns after x
    → (with_arguments ts xs k l g ≡ Returns after x) × H after x
unfolding with_arguments
arguments-kept [] [] k l f g H h after x e = h l after x e
arguments-kept [] (y ∷ xs) k l f g H h after x e = absurd cc
arguments-kept (t ∷ ts) [] k l f g H h after x e = absurd cc
arguments-kept (t ∷ ts) (y ∷ xs) k l f g H h after x e =
    by-value (converted t y.value) (λ y. with_arguments ts xs (suc k) (with_local l t k y.value) f)
    (λ y. with_arguments ts xs (suc k) (with_local l t k y.value) g) H after x
    (λ y e. arguments-kept ts xs (suc k) (with_local l t k y.value) f g H h after x e) e

module _ (P : Plan) (file file' : File) (is : FileIsMade P file file') (int : Width) where
  -- a call with one unit more of fuel
  function-kept : (k f : ℕ) (xs : List CValue) (s after : Store) (x : CValue)
      → ((g : ℕ) (xs : List CValue) (s after : Store) (x : CValue) → Hold s (P.begins g)
      → call file int k g xs s ≡ Returns after x
      → (call file' int k g xs s ≡ Returns after x) × Left P g s after x)
      → Hold s (P.begins f) → (o : Option Function) → slice_get file.functions f ≡ o
      → run int (call file int k) k o xs s ≡ Returns after x
      → (run int (call file' int k) k (slice_get file'.functions f) xs s ≡ Returns after x) × Left P f s after x
  function-kept k f xs s after x alike h None there e = absurd cc
  function-kept k f xs s after x alike h (Some g) there e =
      let (g', there', made) = is.each f g there in
      let b = made.body int in
      let body : (l : Locals) (after : Store) (x : CValue)
      → returned g.result (outcome int (call file int k) k g.body s l) ≡ Returns after x
      → (returned g.result (outcome int (call file' int k) k g'.body s l) ≡ Returns after x) × Left P f s after x =
      λ l after x e. returned-kept P f g.result s b.0 (outcome int (call file int k) k g.body s l)
      (outcome int (call file' int k) k g'.body s l)
      (outcome-kept int P (call file int k) (call file' int k) alike k f g.result s (alone (P.begins f)) b.0 g.body
      g'.body b.1 s l h (same-itself (P.touched f) s)) after x e in
      let kept = arguments-kept g.parameters xs 0 no_locals
      (λ l. returned g.result (outcome int (call file int k) k g.body s l))
      (λ l. returned g.result (outcome int (call file' int k) k g'.body s l))
      (λ after x. Left P f s after x) body after x e in (
        ap (λ (o : Option Function). run int (call file' int k) k o xs s) there'
            ∙ ap (λ (t : CType). with_arguments g'.parameters xs 0 no_locals
            (λ l. returned t (outcome int (call file' int k) k g'.body s l))) made.result
            ∙ ap (λ (ts : List CType). with_arguments ts xs 0 no_locals
            (λ l. returned g.result (outcome int (call file' int k) k g'.body s l))) made.parameters
            ∙ kept.0,
        kept.1,
      )

  calls-on : (k f : ℕ) (xs : List CValue) (s after : Store) (x : CValue) → Hold s (P.begins f)
      → call file int k f xs s ≡ Returns after x
      → (call file' int k f xs s ≡ Returns after x) × Left P f s after x
  unfolding call
  calls-on zero f xs s after x h e = absurd cc
  calls-on (suc k) f xs s after x h e =
      function-kept k f xs s after x (λ g xs s after x h e. calls-on k g xs s after x h e) h
      (slice_get file.functions f) refl e

pub calls-kept : (P : Plan) (file file' : File) → FileIsMade P file file' → CallsAreKept P file file'
calls-kept P file file' is int k f xs s after x h e =
    let kept = calls-on P file file' is int k f xs s after x h e in
    record { gives = kept.0; leaves = kept.1.0; same = kept.1.1 }
