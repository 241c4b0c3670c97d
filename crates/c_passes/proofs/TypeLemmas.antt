-- Types of fields that are appended one after the other.
use Rattle.std.proofs.Common.{◌≡◌, ◌+◌, ◌-◌, ◌/◌, ◌<◌, ◌≤◌, ◌++◌, ℕ, zero, suc, List, [], ◌∷◌, map, replicate, refl, sym, ap, ◌∙◌}
use Rattle.std.proofs.Common.{append-nil, append_assoc, arith}
use Rattle.std.specs.Prelude.{pos}
use Rattle.std.proofs.lemmas.List.{map-append}
use Rattle.active_config.specs.Tree.{Tree, state_count}
use Rattle.actions.specs.declared.names.Var.{Var}
use Rattle.c_subset.specs.declared.trees.CType.{CType}
use Rattle.c_subset.specs.declared.trees.Width.TheVariants.{W16, W32}
use Rattle.c_subset.specs.declared.trees.CType.TheVariants.{Unsigned}
use Rattle.c_subset.specs.Meaning.{CValue}
use Rattle.c_functions.specs.Claims.{field_type}
use Rattle.c_functions.specs.Layout.{or_count}
use Rattle.c_functions.specs.Plans.{Shape}
use Rattle.c_functions.specs.Starts.{first_values, state_values, zero_word}
use Rattle.c_passes.specs.Fields.{struct_types}

-- one more, and those that are left
behind_one : {A : Type 0} (xs ys : List A) (x : A) → (xs ++ x ∷ []) ++ ys ≡ xs ++ x ∷ ys
behind_one [] ys x = refl
behind_one (z ∷ xs) ys x = ap (λ (l : List _). z ∷ l) (behind_one xs ys x)

pub one_less_left : {A : Type 0} (xs new : List A) (x : A) (i n : ℕ) → i < n → new ≡ xs ++ x ∷ []
    → new ++ replicate (n - (i + 1)) x ≡ xs ++ replicate (n - i) x
one_less_left xs new x i n less is =
    let left : n - i ≡ suc (n - (i + 1)) = omega (arith, less) in
    ap (λ (l : List _). l ++ replicate (n - (i + 1)) x) is ∙ behind_one xs (replicate (n - (i + 1)) x) x
    ∙ ap (λ (m : ℕ). xs ++ replicate m x) (sym left)

pub none_left : {A : Type 0} (xs ys : List A) (x : A) (i n : ℕ) → n ≤ i → xs ++ replicate (n - i) x ≡ ys → xs ≡ ys
none_left xs ys x i n past is =
    let left : n - i ≡ 0 = omega (arith, past) in
    sym (append-nil xs) ∙ ap (λ (m : ℕ). xs ++ replicate m x) (sym left) ∙ is

-- ---- those of the struct

abbrev types : List CValue → List CType
types xs = map (λ (x : CValue). x.type) xs

abbrev data_types : List Var → List CType
data_types vs = map (λ (v : Var). field_type v.sort) vs

data_are : (vars : List Var)
    → types (map (λ (v : Var). record { type = field_type v.sort; value = v.init }) vars) ≡ data_types vars
data_are [] = refl
data_are (v ∷ vs) = ap (λ (ts : List CType). field_type v.sort ∷ ts) (data_are vs)

same_types : (n : ℕ) (x : CValue) → types (replicate n x) ≡ replicate n x.type
same_types zero x = refl
same_types (suc n) x = ap (λ (ts : List CType). x.type ∷ ts) (same_types n x)

abbrev numbers : Tree → List CType
numbers t = replicate (or_count t + or_count t) (Unsigned W16)

abbrev words : Tree → List CType
words t = replicate ((state_count t + 31) / 32) (Unsigned W32)

states_are : (t : Tree) → types (state_values t) ≡ numbers t ++ words t
states_are t =
    let number : CValue = record { type = Unsigned W16; value = pos 0 } in
    map-append (λ (x : CValue). x.type) (replicate (or_count t + or_count t) number)
    (replicate ((state_count t + 31) / 32) zero_word)
    ∙ ap (λ (ts : List CType). ts ++ types (replicate ((state_count t + 31) / 32) zero_word))
    (same_types (or_count t + or_count t) number)
    ∙ ap (λ (ts : List CType). numbers t ++ ts) (same_types ((state_count t + 31) / 32) zero_word)

all_are : (K : Shape)
    → struct_types K ≡ data_types K.names.vars ++ (replicate 6 (Unsigned W32) ++ (numbers K.tree ++ words K.tree))
unfolding first_values
all_are K =
    map-append (λ (x : CValue). x.type)
    (map (λ (v : Var). record { type = field_type v.sort; value = v.init }) K.names.vars)
    (replicate 6 zero_word ++ state_values K.tree)
    ∙ ap (λ (ts : List CType). ts ++ types (replicate 6 zero_word ++ state_values K.tree)) (data_are K.names.vars)
    ∙ ap (λ (ts : List CType). data_types K.names.vars ++ (replicate 6 (Unsigned W32) ++ ts)) (states_are K.tree)

-- types that are appended in this order are those of the struct
pub are_struct_types : (K : Shape) (first counters chosen all : List CType) → first ≡ data_types K.names.vars
    → counters ≡ first ++ replicate 6 (Unsigned W32) → chosen ≡ counters ++ numbers K.tree
    → all ≡ chosen ++ words K.tree → all ≡ struct_types K
are_struct_types K first counters chosen all d c n w =
    w ∙ ap (λ (ts : List CType). ts ++ words K.tree) n
    ∙ append_assoc counters (numbers K.tree) (words K.tree)
    ∙ ap (λ (ts : List CType). ts ++ (numbers K.tree ++ words K.tree)) c
    ∙ append_assoc first (replicate 6 (Unsigned W32)) (numbers K.tree ++ words K.tree)
    ∙ ap (λ (ts : List CType). ts ++ (replicate 6 (Unsigned W32) ++ (numbers K.tree ++ words K.tree))) d
    ∙ sym (all_are K)
