-- The fields have the types of the struct, and each has a name.
use Rattle.std.proofs.Common.{◌≡◌, ℕ, zero, suc, ◌+◌, ◌/◌, List, [], ◌∷◌, ◌++◌, length, map, replicate, refl}
use Rattle.std.proofs.Common.{sym, ap, ◌∙◌}
use Rattle.std.proofs.Common.{arith}
use Rattle.std.proofs.lemmas.List.{map-append, length-map, length-append, length-replicate}
use Rattle.std.proofs.lemmas.List.FromFn.{length-map-range_with_len}
use Rattle.std.specs.Prelude.{pos, codes, decimal}
use Rattle.active_config.specs.Tree.{Tree, state_count}
use Rattle.actions.specs.declared.names.Var.{Var}
use Rattle.c_subset.specs.declared.trees.CType.{CType}
use Rattle.c_subset.specs.declared.trees.Width.TheVariants.{W16, W32}
use Rattle.c_subset.specs.declared.trees.CType.TheVariants.{Unsigned}
use Rattle.c_subset.specs.Meaning.{CValue}
use Rattle.c_functions.specs.Claims.{field_type}
use Rattle.c_functions.specs.Layout.{or_count}
use Rattle.c_functions.specs.Plans.{Shape}
use Rattle.c_functions.specs.Starts.{first_values, state_values, zero_word}
use Rattle.c_text.specs.Labels.{Labels, labels_for, field_types, field_labels, datum_label, numbered_labels}
use Rattle.c_text.specs.Labels.{counter_labels, state_labels}

abbrev types : List CValue → List CType
types xs = map (λ (x : CValue). x.type) xs

data_types : (vars : List Var)
    → types (map (λ (v : Var). record { type = field_type v.sort; value = v.init }) vars)
    ≡ map (λ (v : Var). field_type v.sort) vars
data_types [] = refl
data_types (v ∷ vs) = ap (λ (ts : List CType). field_type v.sort ∷ ts) (data_types vs)

same_types : (n : ℕ) (x : CValue) → types (replicate n x) ≡ replicate n x.type
same_types zero x = refl
same_types (suc n) x = ap (λ (ts : List CType). x.type ∷ ts) (same_types n x)

state_types : (t : Tree) → types (state_values t)
    ≡ replicate (or_count t + or_count t) (Unsigned W16) ++ replicate ((state_count t + 31) / 32) (Unsigned W32)
state_types t =
    let number : CValue = record { type = Unsigned W16; value = pos 0 } in
    map-append (λ (x : CValue). x.type) (replicate (or_count t + or_count t) number)
    (replicate ((state_count t + 31) / 32) zero_word)
    ∙ ap (λ (ts : List CType). ts ++ types (replicate ((state_count t + 31) / 32) zero_word))
    (same_types (or_count t + or_count t) number)
    ∙ ap (λ (ts : List CType). replicate (or_count t + or_count t) (Unsigned W16) ++ ts)
    (same_types ((state_count t + 31) / 32) zero_word)

-- the types are those of the struct's fields
pub types_of_fields : (chart : List ℕ) (K : Shape)
    → field_types (labels_for chart K.names K.tree K.procs) ≡ types (first_values K)
unfolding field_types first_values
types_of_fields chart K = sym
    (map-append (λ (x : CValue). x.type)
    (map (λ (v : Var). record { type = field_type v.sort; value = v.init }) K.names.vars)
    (replicate 6 zero_word ++ state_values K.tree)
    ∙ ap (λ (ts : List CType). ts ++ types (replicate 6 zero_word ++ state_values K.tree))
    (data_types K.names.vars)
    ∙ ap (λ (ts : List CType). map (λ (v : Var). field_type v.sort) K.names.vars
    ++ (replicate 6 (Unsigned W32) ++ ts))
    (state_types K.tree))

-- there are as many names as types
pub names_of_fields : (L : Labels) → length (field_labels L) ≡ length (field_types L)
unfolding field_labels field_types
names_of_fields L =
    let child = numbered_labels (codes "child_") L.ors in
    let last = numbered_labels (codes "last_") L.ors in
    let flags = numbered_labels (codes "flags_") L.words in
    let data_names = map datum_label L.names.vars in
    let data_of = map (λ (v : Var). field_type v.sort) L.names.vars in
    let numbers = replicate (L.ors + L.ors) (Unsigned W16) in
    let words = replicate L.words (Unsigned W32) in
    omega (
      arith,
      length-append data_names (counter_labels ++ state_labels L),
      length-append counter_labels (state_labels L),
      length-append child (last ++ flags),
      length-append last flags,
      length-map L.names.vars datum_label,
      length-map L.names.vars (λ (v : Var). field_type v.sort),
      length-map-range_with_len (λ (k : ℕ). codes "child_" ++ decimal k) 0 L.ors,
      length-map-range_with_len (λ (k : ℕ). codes "last_" ++ decimal k) 0 L.ors,
      length-map-range_with_len (λ (k : ℕ). codes "flags_" ++ decimal k) 0 L.words,
      length-append data_of (replicate 6 (Unsigned W32) ++ (numbers ++ words)),
      length-append numbers words,
      length-append (replicate 6 (Unsigned W32)) (numbers ++ words),
      length-replicate (L.ors + L.ors) (Unsigned W16),
      length-replicate L.words (Unsigned W32),
    )
