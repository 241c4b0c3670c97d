-- Where inputs are given before the start, the world before it has them as first values.
use Rattle.std.proofs.Common.{◌≡◌, ℕ, suc, ◌+◌, ◌≤◌, ℤ, List, [], ◌∷◌, ◌++◌, length, map, Option, Some, None, Ok}
use Rattle.std.proofs.Common.{slice_get, slice_set, slice_index_or, refl, sym, ap, ◌∙◌, subst, arith, length-append}
use Rattle.std.specs.Option.{unwrap_or}
use Rattle.active_config.specs.Tree.{Tree}
use Rattle.actions.specs.declared.expr.Value.{Value}
use Rattle.actions.specs.declared.names.Var.{Var}
use Rattle.actions.specs.Data.{Datum, datum, no_datum, declared_datum, initial, mantissa_in, with_mantissa, IsValueOf}
use Rattle.actions.specs.Names.{Names}
use Rattle.actions.specs.Runs.{AreInputValues, AreSet}
use Rattle.actions.specs.World.{World, world_before}
use Rattle.actions.proofs.StoredLemmas.{stored, mantissa_there}
use Rattle.code_language.proofs.AssignLemmas.{got_within}
use Rattle.c_functions.specs.Inputs.{var_with, vars_with, with_inputs}
use Rattle.c_functions.proofs.PlansWords.{or-got}

-- ---- lists

there-at : {A : Type 0} (done : List A) (x : A) (xs : List A) → slice_get (done ++ x ∷ xs) (length done) ≡ Some x
there-at [] x xs = refl
there-at (y ∷ done) x xs = there-at done x xs

put-at : {A : Type 0} (done : List A) (x y : A) (xs : List A)
    → slice_set (done ++ x ∷ xs) (length done) y ≡ done ++ y ∷ xs
put-at [] x y xs = refl
put-at {A} (z ∷ done) x y xs = ap (λ (l : List A). z ∷ l) (put-at done x y xs)

one-more : {A : Type 0} (done : List A) (x : A) (xs : List A) → (done ++ x ∷ []) ++ xs ≡ done ++ x ∷ xs
one-more [] x xs = refl
one-more {A} (z ∷ done) x xs = ap (λ (l : List A). z ∷ l) (one-more done x xs)

-- ---- inputs

-- the datum after those that are done
datum-at : (done : List Datum) (x : Var) (rest : List Datum) (vals : List Datum) (v : ℕ)
    → vals ≡ done ++ declared_datum x ∷ rest → length done ≡ v → datum vals v ≡ declared_datum x
unfolding datum
datum-at done x rest vals v e long =
    ap (λ (vals : List Datum). slice_index_or vals v no_datum) e
    ∙ ap (λ (v : ℕ). slice_index_or (done ++ declared_datum x ∷ rest) v no_datum) (sym long)
    ∙ or-got (done ++ declared_datum x ∷ rest) (length done) (declared_datum x) no_datum
    (there-at done (declared_datum x) rest)

-- no input is given past the data
past-set : (n : Names) (inputs : List (Option Value)) (v : ℕ) (w : World) → AreInputValues n v inputs
    → length n.vars ≤ v → AreSet v inputs w w
past-set n [] v w values le = refl
past-set n (None ∷ inputs) v w values le = past-set n inputs (v + 1) w values (omega (arith, le))
past-set n (Some value ∷ inputs) v w values le =
    let lt = got_within n.vars v values.0.0 values.0.1 in absurd (omega (arith, lt, le))

-- the datum of a variable that takes the mantissa of a value
var-with : (x : Var) (value : Value) (m : ℤ) → mantissa_in x.sort value ≡ Some m
    → record (declared_datum x) { mantissa = m } ≡ declared_datum (var_with (Some value) x)
var-with x value m e =
    ap (λ (m : ℤ). record (declared_datum x) { mantissa = m }) (sym (ap (λ (o : Option ℤ). unwrap_or o x.init) e))

-- a world with other data
with-vals : (w : World) (vals : List Datum) → w.vals ≡ vals → record w { vals = vals } ≡ w
with-vals w vals e = ap (λ (vals : List Datum). record w { vals = vals }) (sym e)

-- data are set, one after another, from a number on; those before it are done
inits-set : (n : Names) (inputs : List (Option Value)) (vars : List Var) (done : List Datum) (v : ℕ) (w : World)
    → ((i : ℕ) → slice_get n.vars (v + i) ≡ slice_get vars i) → length n.vars ≡ v + length vars → length done ≡ v
    → AreInputValues n v inputs → w.vals ≡ done ++ map declared_datum vars
    → AreSet v inputs w (record w { vals = done ++ map declared_datum (vars_with inputs vars) })
inits-set n [] vars done v w there count long values e = with-vals w _ e
inits-set n (x ∷ inputs) [] done v w there count long values e =
    subst (λ (w' : World). AreSet v (x ∷ inputs) w w') (sym (with-vals w _ e))
    (past-set n (x ∷ inputs) v w values (omega (arith, count)))
inits-set n (None ∷ inputs) (x ∷ vars) done v w there count long values e =
    let more = done ++ declared_datum x ∷ [] in
    let longer : length more ≡ v + 1 = length-append done (declared_datum x ∷ []) ∙ ap (λ (n : ℕ). n + 1) long in
    subst (λ (vals : List Datum). AreSet (v + 1) inputs w (record w { vals = vals }))
    (one-more done (declared_datum x) (map declared_datum (vars_with inputs vars)))
    (inits-set n inputs vars more (v + 1) w
    (λ i. let next : v + 1 + i ≡ v + suc i = omega arith in
    ap (λ (i : ℕ). slice_get n.vars i) next ∙ there (suc i))
    (omega (arith, count)) longer values
    (e ∙ sym (one-more done (declared_datum x) (map declared_datum vars))))
inits-set n (Some value ∷ inputs) (x ∷ vars) done v w there count long values e =
    let plain : v + 0 ≡ v = omega arith in
    let found : Some values.0.0 ≡ Some x =
    sym values.0.1 ∙ ap (λ (i : ℕ). slice_get n.vars i) (sym plain) ∙ there 0 in
    let same : values.0.0 ≡ x = cc in
    let m = mantissa_there x.sort value (subst (λ (x : Var). IsValueOf x.sort value) same values.0.3) in
    let d = declared_datum (var_with (Some value) x) in
    let old = datum-at done x (map declared_datum vars) w.vals v e long in
    let set : with_mantissa w.vals v m.0 ≡ done ++ d ∷ map declared_datum vars =
    ap (λ (o : Datum). slice_set w.vals v (record o { mantissa = m.0 })) old
    ∙ ap (λ (vals : List Datum). slice_set vals v (record (declared_datum x) { mantissa = m.0 })) e
    ∙ ap (λ (v : ℕ). slice_set (done ++ declared_datum x ∷ map declared_datum vars) v
    (record (declared_datum x) { mantissa = m.0 })) (sym long)
    ∙ put-at done (declared_datum x) (record (declared_datum x) { mantissa = m.0 }) (map declared_datum vars)
    ∙ ap (λ (d : Datum). done ++ d ∷ map declared_datum vars) (var-with x value m.0 m.1) in
    let more = done ++ d ∷ [] in
    let longer : length more ≡ v + 1 = length-append done (d ∷ []) ∙ ap (λ (n : ℕ). n + 1) long in
    let between : World = record w { vals = done ++ d ∷ map declared_datum vars } in (
      between,
      (
        done ++ d ∷ map declared_datum vars,
        stored w.vals v value m.0 (ap (λ (d : Datum). mantissa_in d.sort value) old ∙ m.1)
            ∙ ap (λ (vals : List Datum). Ok vals) set,
        refl,
      ),
      subst (λ (vals : List Datum). AreSet (v + 1) inputs between (record w { vals = vals }))
          (one-more done d (map declared_datum (vars_with inputs vars)))
          (inits-set n inputs vars more (v + 1) between
          (λ i. let next : v + 1 + i ≡ v + suc i = omega arith in
          ap (λ (i : ℕ). slice_get n.vars i) next ∙ there (suc i))
          (omega (arith, count)) longer values.1
          (sym (one-more done d (map declared_datum vars)))),
    )

-- the world before the start, with these first values
pub before-set : (t : Tree) (n : Names) (given : List (Option Value)) → AreInputValues n 0 given
    → AreSet 0 given (world_before t n) (world_before t (with_inputs given n))
unfolding initial
before-set t n given values =
    inits-set n given n.vars [] 0 (world_before t n)
    (λ i. let plain : 0 + i ≡ i = omega arith in ap (λ (i : ℕ). slice_get n.vars i) plain)
    (omega arith) refl values refl
