-- Two endings of which the second is the first one, with what is known there.
use Rattle.std.proofs.Common.{◌≡◌, ℕ, zero, suc, ℤ, pos, int_le, ◌&&◌, Bool, true, false, cond, List, [], ◌∷◌, Some}
use Rattle.std.proofs.Common.{refl, sym, ap, ◌∙◌, subst}
use Rattle.std.specs.List.{AllByRecursion}
use Rattle.c_subset.specs.declared.trees.Width.{Width}
use Rattle.c_subset.specs.declared.trees.CType.{CType}
use Rattle.c_subset.specs.declared.trees.Case.{Case}
use Rattle.c_subset.specs.Trees.{CExpr}
use Rattle.c_subset.specs.Meaning.{CValue, Meaning, Gives, Wrong, converted, is_true, Store, Locals, meaning}
use Rattle.c_subset.specs.Running.{Outcome, Falls, Returns, Starves, GoesWrong, with_value, and_on, with_local}
use Rattle.c_subset.specs.Running.{with_values, called, turns, selected}
use Rattle.c_facts.specs.Known.{Hold}
use Rattle.c_facts.specs.declared.known.Place.{Place}
use Rattle.c_facts.specs.Facts.{is_touched}
use Rattle.c_decided.specs.Facts.{at, Facts, Holds, Implies}
use Rattle.c_decided.specs.Decided.{Plan, Same, Within}

-- ---- places that stay

pub same-itself : (ps : List Place) (s : Store) → Same ps s s
same-itself ps s q t = record { type = refl; number = refl }

pub same-then : (ps : List Place) (s v w : Store) → Same ps s v → Same ps v w → Same ps s w
same-then ps s v w a b q t = record { type = (b q t).type ∙ (a q t).type; number = (b q t).number ∙ (a q t).number }

pub same-within : (few many : List Place) (s v : Store) → Within few many → Same few s v → Same many s v
same-within few many s v w h q t = h q (at-place (is_touched few q) refl)
  where
    differ : true ≡ false → ⊥
    differ e = absurd cc

    at-place : (b : Bool) → is_touched few q ≡ b → b ≡ false
    at-place true e = absurd (differ (sym (w q e) ∙ t))
    at-place false e = refl

-- ---- endings

module _ (P : Plan) (p : ℕ) (result : CType) (u : Store) where
  -- the second ending is the first one; the facts hold there, or what the function leaves; and no other places than its
  -- own have changed since u; unless the first one doesn't end
  abbrev pub Kept : Facts → Outcome → Outcome → Type 0
  Kept G (Falls s l) o = (o ≡ Falls s l) × (Holds s l G × Same (P.touched p) u s)
  Kept G (Returns s x) o =
      (o ≡ Returns s x)
      × (((y : CValue) → converted result x.value ≡ Gives y → Hold s (at (P.leaves p) (Some y.value)))
      × Same (P.touched p) u s)
  Kept G Starves o = Unit {0}
  Kept G GoesWrong o = Unit {0}

  pub weaker : (G H : Facts) → Implies G H → (o q : Outcome) → Kept G o q → Kept H o q
  weaker G H f (Falls s l) q h = (h.0, (f s l h.1.0, h.1.1))
  weaker G H f (Returns s x) q h = h
  weaker G H f Starves q h = tt
  weaker G H f GoesWrong q h = tt

  pub value-kept : (G : Facts) (m : Meaning) (f g : CValue → Outcome)
      → ((x : CValue) → m ≡ Gives x → Kept G (f x) (g x)) → Kept G (with_value m f) (with_value m g)
  value-kept G (Gives x) f g h = h x refl
  value-kept G Wrong f g h = tt

  pub values-kept : (G : Facts) (int : Width) (s : Store) (l : Locals) (es : List CExpr)
      (f g : List CValue → Outcome) → ((xs : List CValue) → Kept G (f xs) (g xs))
      → Kept G (with_values int s l es f) (with_values int s l es g)
  unfolding with_values
  values-kept G int s l [] f g h = h []
  values-kept G int s l (e ∷ es) f g h =
      value-kept G (meaning int s l e) (λ x. with_values int s l es (λ xs. f (x ∷ xs)))
      (λ x. with_values int s l es (λ xs. g (x ∷ xs)))
      (λ x is. values-kept G int s l es (λ xs. f (x ∷ xs)) (λ xs. g (x ∷ xs)) (λ xs. h (x ∷ xs)))

  pub on-kept : (G H : Facts) (o q : Outcome) (f g : Store → Locals → Outcome) → Kept G o q
      → ((s : Store) (l : Locals) → Holds s l G → Same (P.touched p) u s → Kept H (f s l) (g s l))
      → Kept H (and_on o f) (and_on q g)
  on-kept G H (Falls s l) q f g e h =
      subst (λ (r : Outcome). Kept H (f s l) (and_on r g)) (sym e.0) (h s l e.1.0 e.1.1)
  on-kept G H (Returns s x) q f g e h = (ap (λ (r : Outcome). and_on r g) e.0, e.1)
  on-kept G H Starves q f g e h = tt
  on-kept G H GoesWrong q f g e h = tt

  pub called-kept : (H : Facts) (o q : Outcome) (t : CType) (i : ℕ) (l : Locals) (f g : Store → Locals → Outcome)
      → ((s : Store) (x : CValue) → o ≡ Returns s x
      → (q ≡ Returns s x) × ((y : CValue) → converted t x.value ≡ Gives y
      → Kept H (f s (with_local l t i y.value)) (g s (with_local l t i y.value))))
      → Kept H (called o t i l f) (called q t i l g)
  called-kept H (Falls s m) q t i l f g h = tt
  called-kept H (Returns s x) q t i l f g h =
      let k = h s x refl in
      subst (λ (r : Outcome). Kept H (called (Returns s x) t i l f) (called r t i l g)) (sym k.0)
      (value-kept H (converted t x.value) (λ y. f s (with_local l t i y.value)) (λ y. g s (with_local l t i y.value))
      (λ y is. k.1 y is))
  called-kept H Starves q t i l f g h = tt
  called-kept H GoesWrong q t i l f g h = tt

  pub cond-kept : (G : Facts) (b : Bool) (o q o' q' : Outcome) → (b ≡ true → Kept G o o') → (b ≡ false → Kept G q q')
      → Kept G (cond b o q) (cond b o' q')
  cond-kept G true o q o' q' h i = h refl
  cond-kept G false o q o' q' h i = i refl

  pub selected-kept : (H : Facts) (t : CType) (z : ℤ) (cases : List Case) (f g : ℕ → Outcome) (o q : Outcome)
      → AllByRecursion (λ (x : Case). Kept H (f x.function) (g x.function)) cases → Kept H o q
      → Kept H (selected t z cases f o) (selected t z cases g q)
  selected-kept H t z [] f g o q h e = e
  selected-kept H t z (x ∷ cases) f g o q h e =
      value-kept H (converted t (pos x.label))
      (λ y. cond (int_le y.value z && int_le z y.value) (f x.function) (selected t z cases f o))
      (λ y. cond (int_le y.value z && int_le z y.value) (g x.function) (selected t z cases g q))
      (λ y is. cond-kept H (int_le y.value z && int_le z y.value) (f x.function) (selected t z cases f o) (g x.function)
      (selected t z cases g q) (λ b. h.0) (λ b. selected-kept H t z cases f g o q h.1 e))

  -- a test that comes out so
  pub taken-kept : (H : Facts) (m : Meaning) (b : Bool) (f g : Outcome) (go : Store → Locals → Outcome) (o : Outcome)
      → ((x : CValue) → m ≡ Gives x → is_true x.value ≡ b) → Kept H (and_on (cond b f g) go) o
      → Kept H (with_value m (λ x. and_on (cond (is_true x.value) f g) go)) o
  taken-kept H (Gives x) b f g go o is h =
      subst (λ (z : Bool). Kept H (and_on (cond z f g) go) o) (sym (is x refl)) h
  taken-kept H Wrong b f g go o is h = tt

  -- one turn after another
  pub turns-kept : (I H : Facts) (test : Store → Locals → Meaning) (turn turn' : Store → Locals → Outcome)
      → ((s : Store) (l : Locals) (x : CValue) → Holds s l I → Same (P.touched p) u s → test s l ≡ Gives x
      → is_true x.value ≡ true → Kept I (turn s l) (turn' s l))
      → ((s : Store) (l : Locals) (x : CValue) → Holds s l I → test s l ≡ Gives x → is_true x.value ≡ false
      → Holds s l H)
      → (k : ℕ) (s : Store) (l : Locals) → Holds s l I → Same (P.touched p) u s
      → Kept H (turns k test turn s l) (turns k test turn' s l)
  unfolding turns
  turns-kept I H test turn turn' body ends zero s l h same = tt
  turns-kept I H test turn turn' body ends (suc k) s l h same =
      value-kept H (test s l) (λ x. cond (is_true x.value) (and_on (turn s l) (turns k test turn)) (Falls s l))
      (λ x. cond (is_true x.value) (and_on (turn' s l) (turns k test turn')) (Falls s l))
      (λ x is. cond-kept H (is_true x.value) (and_on (turn s l) (turns k test turn)) (Falls s l)
      (and_on (turn' s l) (turns k test turn')) (Falls s l)
      (λ t. on-kept I H (turn s l) (turn' s l) (turns k test turn) (turns k test turn') (body s l x h same is t)
      (λ s l h same. turns-kept I H test turn turn' body ends k s l h same))
      (λ t. (refl, (ends s l x h is t, same))))
