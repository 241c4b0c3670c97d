-- What holds at each place of a list, as loops go over it.
use Rattle.std.proofs.Common.{◌≡◌, ◌<◌, ◌≤◌, ℕ, ◌+◌, List, length, map, Option, Some, None, refl, sym, ap, ◌∙◌, subst}
use Rattle.std.proofs.Common.{arith, get_or, below_more, option_map}
use Rattle.std.specs.Prelude.{slice_get}
use Rattle.std.proofs.lemmas.List.{length-map}
use Rattle.std.proofs.lemmas.Option.{slice_get_read, slice_get-map, slice_get_within}
use Rattle.code_language.proofs.Sound.{or_none, instructions_at}
use Rattle.code_language.specs.Code.{Procedures, fetch, instructions}
use Rattle.code_language.specs.Instrs as forms
use Rattle.code_counts.specs.Certificate.{Numbers, IsEnough, IsCertificate}
use Rattle.code_counts.specs.declared.numbers.Counted.{Counted}

-- what holds of each so far, and of the next one
pub each_more : {A B : Type 0} (f : A → B) (P : ℕ → B → Type 0) (xs ys : List A) (n : ℕ) (x : A) → xs ≡ ys
    → n < length xs → x ≡ get_or xs n x
    → ((i : ℕ) → i < n → (y : B) → slice_get (map f ys) i ≡ Some y → P i y) → P n (f x)
    → (i : ℕ) → i < n + 1 → (y : B) → slice_get (map f ys) i ≡ Some y → P i y
each_more f P xs ys n x same lt is each next =
    let read : slice_get ys n ≡ Some x =
    subst (λ zs. slice_get zs n ≡ Some x) same (slice_get_read xs (length xs) n x refl lt is) in
    let there = slice_get-map f ys n ∙ ap (option_map f) read in
    below_more (λ i. (y : _) → slice_get (map f ys) i ≡ Some y → P i y) n each
    (λ y e. subst (P n) (same_some (f x) y (sym there ∙ e)) next)
  where
    same_some : {C : Type 0} (x y : C) → Some x ≡ Some y → x ≡ y
    same_some x y e = cc e

-- what holds of each so far holds of all where none is left
pub each_all : {A B : Type 0} (f : A → B) (P : ℕ → B → Type 0) (xs ys : List A) (n : ℕ) → xs ≡ ys → length xs ≤ n
    → ((i : ℕ) → i < n → (y : B) → slice_get (map f ys) i ≡ Some y → P i y)
    → (i : ℕ) (y : B) → slice_get (map f ys) i ≡ Some y → P i y
each_all f P xs ys n same past each i y e =
    let size = length-map ys f in
    let same_size = ap length same in
    let lt = slice_get_within (map f ys) i y e in
    each i (omega (arith, size, same_size, lt, past)) y e

-- the numbers are enough at all places of a procedure
abbrev pub AreEnough : Counted → Numbers → ℕ → ℕ → List forms.Instr → Type 0
AreEnough c N react p is = (i : ℕ) (x : forms.Instr) → slice_get is i ≡ Some x → IsEnough c N react p i x

-- so they are enough at all places of code
pub all_enough : (c : Counted) (N : Numbers) (k : Procedures)
    → ((p : ℕ) (is : List forms.Instr) → slice_get k.procs p ≡ Some is → AreEnough c N k.react p is)
    → IsCertificate c k N
unfolding fetch instructions
all_enough c N k each p i x e =
    by (slice_get k.procs p) refl (ap (λ (is : List forms.Instr). slice_get is i) (sym (instructions_at k.procs p)) ∙ e)
  where
    by : (o : Option (List forms.Instr)) → slice_get k.procs p ≡ o → slice_get (or_none o) i ≡ Some x
        → IsEnough c N k.react p i x
    by None q h = absurd (cc h)
    by (Some is) q h = each p is q i x h
