-- Where items stand in lists of cells.
use Rattle.std.proofs.Common.{◌≡◌, ◌∙◌, List, [], ◌∷◌, ◌++◌, length, All, Contains, arith}
use Rattle.std.proofs.Common.{Bool, true, false, ◌==◌, Vec, Global, vec_len}
use Rattle.std.proofs.Common.{◌⊎◌, inl, inr, ⊎_elim, ap, sym, subst, refl, length-append}
use Rattle.std.specs.List.{list_any}
use Rattle.std.proofs.lemmas.Bool.{eqb-true, or_cases, or_parts}
use Rattle.std.proofs.lemmas.List.Elements.{All-nil, All-cons, All-head, All-tail}
use Rattle.std.proofs.lemmas.List.Elements.{Contains-append_left, Contains-append_right}
use Rattle.std.proofs.lemmas.List.Elements.{Contains-push, Contains-push_cases}
use Rattle.bound_prove.specs.declared.cell.Cell.{Cell}

-- an item of two joined lists stands in the back one, or the front one goes on from it
pub cut_cases : {A : Type 0} (a : List A) (x : A) (b s t : List A) → a ++ x ∷ b ≡ s ++ t
    → Contains t x ⊎ ((rest : List A) × (s ≡ a ++ x ∷ rest) × (b ≡ rest ++ t))
cut_cases a x b [] t e =
    inl (subst (λ z. Contains z x) e (Contains-append_right a (x ∷ b) x (0, omega arith, refl)))
cut_cases [] x b (y ∷ s) t e =
    let same : x ≡ y = cc in let rest : b ≡ s ++ t = cc in inr (s, ap (λ z. z ∷ s) (sym same), rest)
cut_cases (z ∷ a) x b (y ∷ s) t e =
    let same : z ≡ y = cc in let rest : a ++ x ∷ b ≡ s ++ t = cc in
    ⊎_elim inl (λ r. inr (r.0, cc (r.1, same), r.2)) (cut_cases a x b s t rest)

-- what all items of joined lists have, those of the front have
pub front_has : {A : Type 0} (P : A → Type 0) (s t : List A) → All P (s ++ t) → All P s
front_has P [] t h = All-nil P
front_has P (x ∷ s) t h = All-cons P x s (All-head P x (s ++ t) h) (front_has P s t (All-tail P x (s ++ t) h))

-- the one item of a list
pub only_item : {A : Type 0} (y x : A) → Contains (y ∷ []) x → y ≡ x
only_item y x h = ⊎_elim (λ k. absurd (omega (arith, k.1))) (λ e. e) (Contains-push_cases [] y x h)

-- an item of a list with a last item is followed by nothing, or the last item follows it
pub last_follows : {A : Type 0} (a : List A) (x : A) (b s : List A) (y : A) → a ++ x ∷ b ≡ s ++ y ∷ []
    → (b ≡ []) ⊎ Contains b y
last_follows [] x b [] y e = inl (cc)
last_follows [] x b (z ∷ s) y e =
    let rest : b ≡ s ++ y ∷ [] = cc in inr (subst (λ l. Contains l y) (sym rest) (Contains-push s y))
last_follows (z ∷ a) x b [] y e =
    let none : a ++ x ∷ b ≡ [] = cc in
    absurd (omega (arith, simp length-append at (ap length none)))
last_follows (z ∷ a) x b (w ∷ s) y e = let rest : a ++ x ∷ b ≡ s ++ y ∷ [] = cc in last_follows a x b s y rest

-- a list without length is empty
no_length : (xs : List Cell) → length xs ≡ 0 → xs ≡ []
no_length [] e = refl
no_length (x ∷ xs) e = absurd (omega (arith, e))

-- by the test of the code
pub vec_none : (v : Vec Cell Global) (b : Bool) → b ≡ (vec_len v == 0) → b ≡ true → v.items ≡ []
vec_none v b e t =
    let none : vec_len v ≡ 0 = eqb-true (vec_len v) 0 (sym e ∙ t) in
    let same : vec_len v ≡ length v.items = v.ok.0 in no_length v.items (omega (arith, none, same))

-- the item that a test finds
pub found : (test : Cell → Bool) (xs : List Cell) → list_any test xs ≡ true
    → (x : Cell) × Contains xs x × (test x ≡ true)
found test [] e = cc
found test (x ∷ xs) e =
    ⊎_elim
    (λ h. (x, Contains-append_left (x ∷ []) xs x (0, omega arith, refl), h))
    (λ h. let later = found test xs h in
    (later.0, Contains-append_right (x ∷ []) xs later.0 later.1, later.2)) (or_cases (test x) (list_any test xs) e)

-- no item passes a test that finds none
pub none_found : (test : Cell → Bool) (xs : List Cell) → list_any test xs ≡ false → All (λ x. test x ≡ false) xs
none_found test [] e = All-nil (λ x. test x ≡ false)
none_found test (x ∷ xs) e =
    let both = or_parts (test x) (list_any test xs) e in
    All-cons (λ x. test x ≡ false) x xs both.0 (none_found test xs both.1)
