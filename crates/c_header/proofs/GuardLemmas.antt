-- The name that the header's first lines define begins with an F, as no field, array and local does.
use Rattle.std.proofs.Common.{◌≢◌, ℕ, zero, suc, ◌<◌, Bool, true, false, cond, List, [], ◌∷◌, ◌++◌, length, map}
use Rattle.std.proofs.Common.{get_or, ap, arith}
use Rattle.std.specs.Prelude.{codes, decimal}
use Rattle.std.specs.List.{AllByRecursion, range_with_len}
use Rattle.actions.specs.declared.names.Var.{Var}
use Rattle.actions.specs.declared.names.VarKind.{VarKind}
use Rattle.actions.specs.declared.names.VarKind.TheVariants.{Input, Output, Local}
use Rattle.c_subset.specs.declared.trees.Width.TheVariants.{W8, W16, W32, W64, W128}
use Rattle.c_subset.specs.declared.trees.CType.{CType}
use Rattle.c_subset.specs.declared.trees.CType.TheVariants.{Signed, Unsigned, Truth}
use Rattle.c_subset.specs.Running.{same_type}
use Rattle.c_text.specs.declared.kinds.Kind.{Kind}
use Rattle.c_text.specs.declared.kinds.Kind.TheVariants.{Procedure, Home, Noted, Floor, Outside}
use Rattle.c_text.specs.Labels.{Labels, kind_word, datum_label, counter_labels, numbered_labels, state_labels}
use Rattle.c_text.specs.Labels.{row_labels, field_labels, type_short, word_labels, noted_labels, local_label}
use Rattle.c_names.specs.Stems.{guard_of_chart}
use Rattle.c_header.proofs.NameLists.{all_at, all_both, all_map}

-- a name that doesn't begin with an F
abbrev IsOther : List ℕ → Type 0
IsOther name = get_or name 0 0 ≢ 70

-- which isn't the one that is replaced
apart : (chart name : List ℕ) → IsOther name → name ≢ guard_of_chart chart
unfolding guard_of_chart
apart chart name other e = other (ap (λ (text : List ℕ). get_or text 0 0) e)

-- ---- fields and arrays

rows : AllByRecursion IsOther row_labels
rows = ((λ e. omega (arith, e)), ((λ e. omega (arith, e)), tt))

counters : AllByRecursion IsOther counter_labels
counters = (
  (λ e. omega (arith, e)),
  (
    (λ e. omega (arith, e)),
    ((λ e. omega (arith, e)), ((λ e. omega (arith, e)), ((λ e. omega (arith, e)), ((λ e. omega (arith, e)), tt)))),
  ),
)

datum : (v : Var) → IsOther (datum_label v)
datum v = of v.kind
  where
    of : (k : VarKind) → IsOther (kind_word k ++ v.name)
    of Input e = omega (arith, e)
    of Output e = omega (arith, e)
    of Local e = omega (arith, e)

states : (L : Labels) → AllByRecursion IsOther (state_labels L)
states L =
    let last : List (List ℕ) = numbered_labels (codes "last_") L.ors in
    let flags : List (List ℕ) = numbered_labels (codes "flags_") L.words in
    all_both IsOther (numbered_labels (codes "child_") L.ors) (last ++ flags)
    (all_map IsOther (λ k. codes "child_" ++ decimal k) (range_with_len 0 L.ors) (λ k e. omega (arith, e)))
    (all_both IsOther last flags
    (all_map IsOther (λ k. codes "last_" ++ decimal k) (range_with_len 0 L.ors) (λ k e. omega (arith, e)))
    (all_map IsOther (λ k. codes "flags_" ++ decimal k) (range_with_len 0 L.words) (λ k e. omega (arith, e))))

-- no field or array has the name that is replaced
pub no_member : (chart : List ℕ) (L : Labels) (i : ℕ) → i < length (row_labels ++ field_labels L)
    → get_or (row_labels ++ field_labels L) i [] ≢ guard_of_chart chart
unfolding field_labels
no_member chart L i within =
    let of_data : List (List ℕ) = map datum_label L.names.vars in
    let rest : List (List ℕ) = counter_labels ++ state_labels L in
    apart chart (get_or (row_labels ++ (of_data ++ rest)) i [])
    (all_at IsOther (row_labels ++ (of_data ++ rest)) i (all_both IsOther row_labels (of_data ++ rest) rows
    (all_both IsOther of_data rest (all_map IsOther datum_label L.names.vars datum)
    (all_both IsOther counter_labels (state_labels L) counters (states L)))) within)

-- ---- locals

numbered : (t : CType) (k : ℕ) → IsOther (type_short t ++ decimal k)
numbered (Signed W8) k e = omega (arith, e)
numbered (Signed W16) k e = omega (arith, e)
numbered (Signed W32) k e = omega (arith, e)
numbered (Signed W64) k e = omega (arith, e)
numbered (Signed W128) k e = omega (arith, e)
numbered (Unsigned W8) k e = omega (arith, e)
numbered (Unsigned W16) k e = omega (arith, e)
numbered (Unsigned W32) k e = omega (arith, e)
numbered (Unsigned W64) k e = omega (arith, e)
numbered (Unsigned W128) k e = omega (arith, e)
numbered Truth k e = omega (arith, e)

-- one of some names, or another one
one_of : (names : List (List ℕ)) (k : ℕ) (other : List ℕ) → AllByRecursion IsOther names → IsOther other
    → IsOther (get_or names k other)
one_of [] k other all is = is
one_of (name ∷ names) zero other all is = all.0
one_of (name ∷ names) (suc k) other all is = one_of names k other all.1 is

chosen : (b : Bool) (t : CType) (names : List (List ℕ)) (k : ℕ) → AllByRecursion IsOther names
    → IsOther (get_or (cond b names []) k (type_short t ++ decimal k))
chosen true t names k all = one_of names k (type_short t ++ decimal k) all (numbered t k)
chosen false t names k all = numbered t k

words : AllByRecursion IsOther word_labels
words = (
  (λ e. omega (arith, e)),
  (
    (λ e. omega (arith, e)),
    ((λ e. omega (arith, e)), ((λ e. omega (arith, e)), ((λ e. omega (arith, e)), ((λ e. omega (arith, e)), tt)))),
  ),
)

noted : AllByRecursion IsOther noted_labels
noted = (
  (λ e. omega (arith, e)),
  (
    (λ e. omega (arith, e)),
    ((λ e. omega (arith, e)), ((λ e. omega (arith, e)), ((λ e. omega (arith, e)), ((λ e. omega (arith, e)), tt)))),
  ),
)

-- no local has it
pub no_local : (chart : List ℕ) (kind : Kind) (t : CType) (k : ℕ) → local_label kind t k ≢ guard_of_chart chart
unfolding local_label
no_local chart Procedure t k =
    apart chart (local_label Procedure t k) (chosen (same_type t (Unsigned W32)) t word_labels k words)
no_local chart Home t k =
    apart chart (local_label Home t k)
    (chosen (same_type t (Unsigned W32)) t (codes "state" ∷ []) k ((λ e. omega (arith, e)), tt))
no_local chart Noted t k =
    apart chart (local_label Noted t k) (chosen (same_type t (Unsigned W32)) t noted_labels k noted)
no_local chart (Floor w) t k =
    apart chart (local_label (Floor w) t k)
    (chosen (same_type t (Signed w)) t (codes "a" ∷ codes "b" ∷ []) k
    ((λ e. omega (arith, e)), ((λ e. omega (arith, e)), tt)))
no_local chart Outside t k =
    apart chart (local_label Outside t k) (chosen (same_type t (Unsigned W32)) t word_labels k words)
