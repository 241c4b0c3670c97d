-- One name more in a table.
use Rattle.std.proofs.Common.{◌≡◌, ℕ, suc, ◌+◌, List, [], ◌∷◌, ◌++◌, length, Option, Some}
use Rattle.std.proofs.Common.{None, Bool, true, false, cond, Bor, refl, sym, ap, ◌∙◌, arith}
use Rattle.std.proofs.Common.{◌&&◌, nat_eq, not}
use Rattle.std.specs.Prelude.{bytes_eq, option_copied}
use Rattle.std.specs.Option.{option_eq, is_some}
use Rattle.std.specs.Map.{lookup}
use Rattle.std.proofs.lemmas.Bool.{eqb-true}
use Rattle.std.proofs.lemmas.Slice.Eq.{bytes_eq-Decides}
use Rattle.chart_places.specs.Scopes.{or_else}
use Rattle.chart_places.specs.Tables.{Declared, is_declared, declared_from, is_key}

-- ---- one entry more

-- an entry at the end of others is found where none of them is
pub lookup-last : {K : Type 0} (test : K → Bool) (es : List (K × ℕ)) (key : K) (v : ℕ)
    → lookup test (es ++ (key, v) ∷ []) ≡ or_else (lookup test es) (cond (test key) (Some v) None)
lookup-last test [] key v = refl
lookup-last test (e ∷ es) key v = go (test e.0) (lookup-last test es key v)
  where
    go : (b : Bool)
        → lookup test (es ++ (key, v) ∷ []) ≡ or_else (lookup test es) (cond (test key) (Some v) None)
        → cond b (Some e.1) (lookup test (es ++ (key, v) ∷ []))
        ≡ or_else (cond b (Some e.1) (lookup test es)) (cond (test key) (Some v) None)
    go true h = refl
    go false h = h

-- a name at the end of others is found where none of them is
pub declared_from-last : (n : ℕ) (ds : List Declared) (d : Declared) (o : Option ℕ) (q : List ℕ)
    → declared_from n (ds ++ d ∷ []) o q
    ≡ or_else (declared_from n ds o q) (cond (is_declared o q d) (Some (n + length ds)) None)
declared_from-last n [] d o q = ap (λ (m : ℕ). cond (is_declared o q d) (Some m) None) (omega arith)
declared_from-last n (x ∷ xs) d o q = go (is_declared o q x) (declared_from-last (suc n) xs d o q)
  where
    go : (b : Bool)
        → declared_from (suc n) (xs ++ d ∷ []) o q
        ≡ or_else (declared_from (suc n) xs o q) (cond (is_declared o q d) (Some (suc n + length xs)) None)
        → cond b (Some n) (declared_from (suc n) (xs ++ d ∷ []) o q)
        ≡ or_else (cond b (Some n) (declared_from (suc n) xs o q))
        (cond (is_declared o q d) (Some (n + suc (length xs))) None)
    go true h = refl
    go false h =
        h ∙ ap (λ (m : ℕ). or_else (declared_from (suc n) xs o q) (cond (is_declared o q d) (Some m) None)) (omega arith)

-- ---- tests of keys

-- both of two tests hold
both : (a b : Bool) → (a && b) ≡ true → (a ≡ true) × (b ≡ true)
both true b e = (refl, e)
both false b e = absurd cc

-- owners that are equal by test are equal
owner_of : (o p : Option ℕ) → option_eq nat_eq o p ≡ true → o ≡ p
owner_of None None e = refl
owner_of None (Some y) e = absurd cc
owner_of (Some x) None e = absurd cc
owner_of (Some x) (Some y) e = ap Some (eqb-true x y e)

-- a name that passes the test has that owner and these bytes
pub declared-is : (o : Option ℕ) (q : List ℕ) (d : Declared) → is_declared o q d ≡ true
    → (o ≡ d.owner) × (q ≡ d.name.text)
declared-is o q d e =
    let parts = both (option_eq nat_eq o d.owner) (bytes_eq q d.name.text) e in
    (owner_of o d.owner parts.0, (bytes_eq-Decides q d.name.text).0 parts.1)

or_none : (o : Option ℕ) → or_else o None ≡ o
or_none None = refl
or_none (Some x) = refl

-- ---- steps

-- a name whose key is new has its index for its number
pub step_new : (es : List ((Option ℕ × Bor (List ℕ)) × ℕ)) (new : List ((Option ℕ × Bor (List ℕ)) × ℕ))
    (ds : List Declared) (d : Declared) (key : Option ℕ × Bor (List ℕ)) (i : ℕ)
    → ((o : Option ℕ) (q : List ℕ) → lookup (is_key o q) es ≡ declared_from 0 ds o q)
    → new ≡ es ++ (key, i) ∷ [] → length ds ≡ i → key.0 ≡ d.owner → key.1.now ≡ d.name.text
    → (o : Option ℕ) (q : List ℕ) → lookup (is_key o q) new ≡ declared_from 0 (ds ++ d ∷ []) o q
step_new es new ds d key i inv upd len owner text o q =
    ap (lookup (is_key o q)) upd
    ∙ lookup-last (is_key o q) es key i
    ∙ ap (λ (x : Option ℕ). or_else x (cond (is_key o q key) (Some i) None)) (inv o q)
    ∙ ap (λ (x : Option ℕ). or_else (declared_from 0 ds o q)
    (cond (option_eq nat_eq o x && bytes_eq q key.1.now) (Some i) None)) owner
    ∙ ap (λ (x : List ℕ). or_else (declared_from 0 ds o q)
    (cond (option_eq nat_eq o d.owner && bytes_eq q x) (Some i) None)) text
    ∙ ap (λ (x : ℕ). or_else (declared_from 0 ds o q) (cond (is_declared o q d) (Some x) None)) (omega arith)
    ∙ sym (declared_from-last 0 ds d o q)

-- a name whose key is there changes nothing
pub step_old : (es : List ((Option ℕ × Bor (List ℕ)) × ℕ)) (ds : List Declared) (d : Declared)
    → ((o : Option ℕ) (q : List ℕ) → lookup (is_key o q) es ≡ declared_from 0 ds o q)
    → (lookup (is_key d.owner d.name.text) es ≡ None → ⊥)
    → (o : Option ℕ) (q : List ℕ) → lookup (is_key o q) es ≡ declared_from 0 (ds ++ d ∷ []) o q
step_old es ds d inv there o q =
    inv o q ∙ go (is_declared o q d) refl ∙ sym (declared_from-last 0 ds d o q)
  where
    absorbs : (x y : Option ℕ) → (x ≡ None → ⊥) → x ≡ or_else x y
    absorbs None y some = absurd (some refl)
    absorbs (Some x) y some = refl

    go : (b : Bool) → is_declared o q d ≡ b
        → declared_from 0 ds o q ≡ or_else (declared_from 0 ds o q) (cond b (Some (0 + length ds)) None)
    go false e = sym (or_none (declared_from 0 ds o q))
    go true e =
        let same = declared-is o q d e in
        absorbs (declared_from 0 ds o q) (Some (0 + length ds))
        (λ none. there (ap (λ (x : Option ℕ). lookup (is_key x d.name.text) es) (sym same.0)
        ∙ ap (λ (x : List ℕ). lookup (is_key o x) es) (sym same.1) ∙ inv o q ∙ none))

-- nothing was found
pub copied_none : (o : Option (Bor ℕ)) (b : Bool) → is_some o ≡ not b → b ≡ true → option_copied o ≡ None
copied_none None b e f = refl
copied_none (Some x) b e f = absurd (let g = ap not f in cc)

-- something was found
pub copied_some : (o : Option (Bor ℕ)) (b : Bool) → is_some o ≡ not b → b ≡ false → option_copied o ≡ None → ⊥
copied_some None b e f g = absurd (let h = ap not f in cc)
copied_some (Some x) b e f g = absurd cc
