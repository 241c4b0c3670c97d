-- No field, array or local has a name that C99 keeps for its library.
use Rattle.std.proofs.Common.{◌≡◌, ℕ, zero, suc, ◌<◌, Bool, true, false, cond, List, [], ◌∷◌, ◌++◌, length, map}
use Rattle.std.proofs.Common.{get_or, refl}
use Rattle.std.specs.Prelude.{codes, decimal}
use Rattle.std.specs.List.{AllByRecursion, range_with_len}
use Rattle.actions.specs.declared.names.Var.{Var}
use Rattle.actions.specs.declared.names.VarKind.{VarKind}
use Rattle.actions.specs.declared.names.VarKind.TheVariants.{Input, Output, Local}
use Rattle.c_names.specs.Reserved.{is_reserved}
use Rattle.c_subset.specs.declared.trees.CType.{CType}
use Rattle.c_subset.specs.declared.trees.CType.TheVariants.{Signed, Unsigned, Truth}
use Rattle.c_subset.specs.declared.trees.Width.TheVariants.{W8, W16, W32, W64, W128}
use Rattle.c_subset.specs.Running.{same_type}
use Rattle.c_text.specs.declared.kinds.Kind.{Kind}
use Rattle.c_text.specs.declared.kinds.Kind.TheVariants.{Procedure, Home, Noted, Floor, Outside}
use Rattle.c_text.specs.Labels.{Labels, kind_word, datum_label, counter_labels, numbered_labels, state_labels}
use Rattle.c_text.specs.Labels.{row_labels, field_labels, type_short, word_labels, noted_labels, local_label}
use Rattle.c_header.proofs.NameLists.{all_at, all_both, all_map}

abbrev IsFree : List ℕ → Type 0
IsFree name = is_reserved name ≡ false

-- ---- fields and arrays

rows : AllByRecursion IsFree row_labels
unfolding is_reserved
rows = (refl, (refl, tt))

counters : AllByRecursion IsFree counter_labels
unfolding is_reserved
counters = (refl, (refl, (refl, (refl, (refl, (refl, tt))))))

datum : (v : Var) → IsFree (datum_label v)
unfolding is_reserved
datum v = of v.kind
  where
    of : (k : VarKind) → IsFree (kind_word k ++ v.name)
    of Input = refl
    of Output = refl
    of Local = refl

states : (L : Labels) → AllByRecursion IsFree (state_labels L)
unfolding is_reserved
states L =
    let last : List (List ℕ) = numbered_labels (codes "last_") L.ors in
    let flags : List (List ℕ) = numbered_labels (codes "flags_") L.words in
    all_both IsFree (numbered_labels (codes "child_") L.ors) (last ++ flags)
    (all_map IsFree (λ k. codes "child_" ++ decimal k) (range_with_len 0 L.ors) (λ k. refl))
    (all_both IsFree last flags
    (all_map IsFree (λ k. codes "last_" ++ decimal k) (range_with_len 0 L.ors) (λ k. refl))
    (all_map IsFree (λ k. codes "flags_" ++ decimal k) (range_with_len 0 L.words) (λ k. refl)))

-- no field or array has one
pub no_member_kept : (L : Labels) (i : ℕ) → i < length (row_labels ++ field_labels L)
    → is_reserved (get_or (row_labels ++ field_labels L) i []) ≡ false
unfolding field_labels
no_member_kept L i within =
    let of_data : List (List ℕ) = map datum_label L.names.vars in
    let rest : List (List ℕ) = counter_labels ++ state_labels L in
    all_at IsFree (row_labels ++ (of_data ++ rest)) i (all_both IsFree row_labels (of_data ++ rest) rows
    (all_both IsFree of_data rest (all_map IsFree datum_label L.names.vars datum)
    (all_both IsFree counter_labels (state_labels L) counters (states L)))) within

-- ---- locals

numbered : (t : CType) (k : ℕ) → IsFree (type_short t ++ decimal k)
unfolding is_reserved
numbered (Signed W8) k = refl
numbered (Signed W16) k = refl
numbered (Signed W32) k = refl
numbered (Signed W64) k = refl
numbered (Signed W128) k = refl
numbered (Unsigned W8) k = refl
numbered (Unsigned W16) k = refl
numbered (Unsigned W32) k = refl
numbered (Unsigned W64) k = refl
numbered (Unsigned W128) k = refl
numbered Truth k = refl

-- one of some names, or another one
one_of : (names : List (List ℕ)) (k : ℕ) (other : List ℕ) → AllByRecursion IsFree names → IsFree other
    → IsFree (get_or names k other)
one_of [] k other all is = is
one_of (name ∷ names) zero other all is = all.0
one_of (name ∷ names) (suc k) other all is = one_of names k other all.1 is

chosen : (b : Bool) (t : CType) (names : List (List ℕ)) (k : ℕ) → AllByRecursion IsFree names
    → IsFree (get_or (cond b names []) k (type_short t ++ decimal k))
chosen true t names k all = one_of names k (type_short t ++ decimal k) all (numbered t k)
chosen false t names k all = numbered t k

words : AllByRecursion IsFree word_labels
unfolding is_reserved
words = (refl, (refl, (refl, (refl, (refl, (refl, tt))))))

noted : AllByRecursion IsFree noted_labels
unfolding is_reserved
noted = (refl, (refl, (refl, (refl, (refl, (refl, tt))))))

-- no local has one
pub no_local_kept : (kind : Kind) (t : CType) (k : ℕ) → is_reserved (local_label kind t k) ≡ false
unfolding local_label is_reserved
no_local_kept Procedure t k = chosen (same_type t (Unsigned W32)) t word_labels k words
no_local_kept Home t k = chosen (same_type t (Unsigned W32)) t (codes "state" ∷ []) k (refl, tt)
no_local_kept Noted t k = chosen (same_type t (Unsigned W32)) t noted_labels k noted
no_local_kept (Floor w) t k = chosen (same_type t (Signed w)) t (codes "a" ∷ codes "b" ∷ []) k (refl, (refl, tt))
no_local_kept Outside t k = chosen (same_type t (Unsigned W32)) t word_labels k words
