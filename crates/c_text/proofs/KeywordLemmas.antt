-- No name is a keyword.
use Rattle.std.proofs.Common.{◌≡◌, ℕ, zero, suc, ◌-◌, ◌<◌, Bool, true, false, not, ◌||◌, cond, List, [], ◌∷◌, ◌++◌}
use Rattle.std.proofs.Common.{length, map, get_or, refl, ap, ◌∙◌, arith, ⊎_elim}
use Rattle.std.specs.Prelude.{codes, decimal, nat_le}
use Rattle.std.proofs.lemmas.Bool.{cases_lt}
use Rattle.std.proofs.lemmas.List.{get_or_append_left, get_or-append_right, get_or-map, get_or_past, length-append}
use Rattle.std.proofs.lemmas.List.{length-map}
use Rattle.std.proofs.lemmas.List.FromFn.{length-map-range_with_len}
use Rattle.actions.specs.declared.names.Var.{Var}
use Rattle.actions.specs.declared.names.VarKind.{VarKind}
use Rattle.actions.specs.declared.names.VarKind.TheVariants.{Input, Output, Local}
use Rattle.c_subset.specs.declared.trees.Width.TheVariants.{W8, W16, W32, W64, W128}
use Rattle.c_subset.specs.declared.trees.CType.{CType}
use Rattle.c_subset.specs.declared.trees.CType.TheVariants.{Signed, Unsigned, Truth}
use Rattle.c_subset.specs.Running.{same_type}
use Rattle.c_names.specs.Stems.{name_of_chart}
use Rattle.c_text.specs.Distinct.{is_keyword}
use Rattle.c_text.specs.declared.kinds.Kind.{Kind}
use Rattle.c_text.specs.declared.kinds.Kind.TheVariants.{Procedure, Home, Noted, Floor, Outside}
use Rattle.c_text.specs.Labels.{Labels, kind_word, datum_label, counter_labels, numbered_labels, state_labels}
use Rattle.c_text.specs.Labels.{row_labels, field_labels, other_words, function_words, function_labels, type_short}
use Rattle.c_text.specs.Labels.{word_labels, noted_labels, local_label}
use Rattle.c_text.proofs.LabelLemmas.{numbered-at, numbered-none, numbered-first, numbered-past}
use Rattle.c_text.proofs.MemberNames.{any_var, datum_at}
use Rattle.c_text.proofs.WordLemmas.{lines, mark, mark-decimal, is_last, is_free_word, name_free}

-- ---- lists of names

-- none of these is a keyword, nor is the empty name that stands for a name that isn't there
abbrev AreFree : List (List ℕ) → Type 0
AreFree names = (i : ℕ) → is_keyword (get_or names i []) ≡ false

both_free : (xs ys : List (List ℕ)) → AreFree xs → AreFree ys → AreFree (xs ++ ys)
both_free xs ys one two i = ⊎_elim
    (λ li. ap is_keyword (get_or_append_left xs ys [] i li) ∙ one i)
    (λ pi. ap is_keyword (get_or-append_right xs ys (length xs) i [] refl pi) ∙ two (i - length xs))
    (cases_lt i (length xs))

none_free : is_keyword [] ≡ false
unfolding is_keyword
none_free = refl

numbered_free : (word : List ℕ) (count : ℕ) → ((k : ℕ) → is_keyword (word ++ decimal k) ≡ false)
    → AreFree (numbered_labels word count)
numbered_free word count each i = ⊎_elim
    (λ li. ap is_keyword (numbered-at word count i li) ∙ each i)
    (λ pi. ap is_keyword (numbered-none word count i pi) ∙ none_free)
    (cases_lt i count)

-- ---- arrays and fields

datum_free : (k : VarKind) (name : List ℕ) → is_keyword (kind_word k ++ name) ≡ false
unfolding is_keyword
datum_free Input name = refl
datum_free Output name = refl
datum_free Local name = refl

data_free : (vars : List Var) → AreFree (map datum_label vars)
data_free vars i = ⊎_elim
    (λ li. let v = get_or vars i any_var in ap is_keyword (datum_at vars i li) ∙ datum_free v.kind v.name)
    (λ pi. ap is_keyword (get_or_past (map datum_label vars) i [] (omega (arith, length-map vars datum_label)))
    ∙ none_free)
    (cases_lt i (length vars))

rows_free : AreFree row_labels
unfolding is_keyword
rows_free zero = refl
rows_free (suc zero) = refl
rows_free (suc (suc i)) = refl

counters_free : AreFree counter_labels
unfolding is_keyword
counters_free zero = refl
counters_free (suc zero) = refl
counters_free (suc (suc zero)) = refl
counters_free (suc (suc (suc zero))) = refl
counters_free (suc (suc (suc (suc zero)))) = refl
counters_free (suc (suc (suc (suc (suc zero))))) = refl
counters_free (suc (suc (suc (suc (suc (suc i)))))) = refl

child_free : (k : ℕ) → is_keyword (codes "child_" ++ decimal k) ≡ false
unfolding is_keyword
child_free k = refl

last_free : (k : ℕ) → is_keyword (codes "last_" ++ decimal k) ≡ false
unfolding is_keyword
last_free k = refl

flags_free : (k : ℕ) → is_keyword (codes "flags_" ++ decimal k) ≡ false
unfolding is_keyword
flags_free k = refl

-- no array's and no field's name is one
pub members_free : (L : Labels) → AreFree (row_labels ++ field_labels L)
unfolding field_labels
members_free L = both_free row_labels (map datum_label L.names.vars ++ (counter_labels ++ state_labels L)) rows_free
    (both_free (map datum_label L.names.vars) (counter_labels ++ state_labels L) (data_free L.names.vars)
    (both_free counter_labels (state_labels L) counters_free
    (both_free (numbered_labels (codes "child_") L.ors)
    (numbered_labels (codes "last_") L.ors ++ numbered_labels (codes "flags_") L.words)
    (numbered_free (codes "child_") L.ors child_free)
    (both_free (numbered_labels (codes "last_") L.ors) (numbered_labels (codes "flags_") L.words)
    (numbered_free (codes "last_") L.ors last_free) (numbered_free (codes "flags_") L.words flags_free)))))

-- ---- functions

-- the word of a function makes none
pub words_of_functions_free : (procs i : ℕ) → i < length (function_words procs)
    → is_free_word (get_or (function_words procs) i []) ≡ true
unfolding lines mark
words_of_functions_free procs i within = ⊎_elim
    (λ li. ap is_free_word (numbered-first (codes "p") procs i other_words li) ∙ procedure_free i)
    (λ pi. ap is_free_word (numbered-past (codes "p") procs i other_words pi) ∙ others_free (i - procs)
    (omega (
      arith,
      pi,
      within,
      length-append (numbered_labels (codes "p") procs) other_words,
      length-map-range_with_len (λ (k : ℕ). codes "p" ++ decimal k) 0 procs,
    )))
    (cases_lt i procs)
  where
    any : (b : Bool) → (b || true) ≡ true
    any true = refl
    any false = refl

    procedure_free : (n : ℕ) → is_free_word (codes "p" ++ decimal n) ≡ true
    procedure_free n =
        ap (λ (m : ℕ). nat_le 1 (lines (codes "p" ++ decimal n)) || not (is_last m)) (mark-decimal 112 n)
        ∙ any (nat_le 1 (lines (codes "p" ++ decimal n)))

    others_free : (j : ℕ) → j < length other_words → is_free_word (get_or other_words j []) ≡ true
    others_free zero lt = refl
    others_free (suc zero) lt = refl
    others_free (suc (suc zero)) lt = refl
    others_free (suc (suc (suc zero))) lt = refl
    others_free (suc (suc (suc (suc zero)))) lt = refl
    others_free (suc (suc (suc (suc (suc zero))))) lt = refl
    others_free (suc (suc (suc (suc (suc (suc zero)))))) lt = refl
    others_free (suc (suc (suc (suc (suc (suc (suc zero))))))) lt = refl
    others_free (suc (suc (suc (suc (suc (suc (suc (suc zero)))))))) lt = refl
    others_free (suc (suc (suc (suc (suc (suc (suc (suc (suc zero))))))))) lt = refl
    others_free (suc (suc (suc (suc (suc (suc (suc (suc (suc (suc zero)))))))))) lt = refl
    others_free (suc (suc (suc (suc (suc (suc (suc (suc (suc (suc (suc j))))))))))) lt = absurd (omega (arith, lt))

-- no function's name is one
pub functions_free : (L : Labels) → AreFree (function_labels L)
unfolding function_labels
functions_free L i = ⊎_elim
    (λ li. ap is_keyword (get_or-map (name_of_chart L.chart) (function_words L.procs) i [] [] li)
    ∙ name_free L.chart (get_or (function_words L.procs) i []) (words_of_functions_free L.procs i li))
    (λ pi. ap is_keyword (get_or_past (map (name_of_chart L.chart) (function_words L.procs)) i []
    (omega (arith, pi, length-map (function_words L.procs) (name_of_chart L.chart)))) ∙ none_free)
    (cases_lt i (length (function_words L.procs)))

-- ---- locals

local_free : (t : CType) (k : ℕ) → is_keyword (type_short t ++ decimal k) ≡ false
unfolding is_keyword
local_free (Signed W8) k = refl
local_free (Signed W16) k = refl
local_free (Signed W32) k = refl
local_free (Signed W64) k = refl
local_free (Signed W128) k = refl
local_free (Unsigned W8) k = refl
local_free (Unsigned W16) k = refl
local_free (Unsigned W32) k = refl
local_free (Unsigned W64) k = refl
local_free (Unsigned W128) k = refl
local_free Truth k = refl

-- names with which another one may stand for those that aren't there
abbrev AreFreeWith : List (List ℕ) → Type 0
AreFreeWith names = (k : ℕ) (other : List ℕ) → is_keyword other ≡ false → is_keyword (get_or names k other) ≡ false

words_free : AreFreeWith word_labels
unfolding is_keyword
words_free zero other free = refl
words_free (suc zero) other free = refl
words_free (suc (suc zero)) other free = refl
words_free (suc (suc (suc zero))) other free = refl
words_free (suc (suc (suc (suc zero)))) other free = refl
words_free (suc (suc (suc (suc (suc zero))))) other free = refl
words_free (suc (suc (suc (suc (suc (suc k)))))) other free = free

noted_free : AreFreeWith noted_labels
unfolding is_keyword
noted_free zero other free = refl
noted_free (suc zero) other free = refl
noted_free (suc (suc zero)) other free = refl
noted_free (suc (suc (suc zero))) other free = refl
noted_free (suc (suc (suc (suc zero)))) other free = refl
noted_free (suc (suc (suc (suc (suc zero))))) other free = refl
noted_free (suc (suc (suc (suc (suc (suc k)))))) other free = free

state_free : AreFreeWith (codes "state" ∷ [])
unfolding is_keyword
state_free zero other free = refl
state_free (suc k) other free = free

floor_free : AreFreeWith (codes "a" ∷ codes "b" ∷ [])
unfolding is_keyword
floor_free zero other free = refl
floor_free (suc zero) other free = refl
floor_free (suc (suc k)) other free = free

chosen_free : (b : Bool) (t : CType) (names : List (List ℕ)) (k : ℕ) → AreFreeWith names
    → is_keyword (get_or (cond b names []) k (type_short t ++ decimal k)) ≡ false
chosen_free true t names k free = free k (type_short t ++ decimal k) (local_free t k)
chosen_free false t names k free = local_free t k

-- no local's name is one
pub locals_free : (kind : Kind) (t : CType) (k : ℕ) → is_keyword (local_label kind t k) ≡ false
unfolding local_label
locals_free Procedure t k = chosen_free (same_type t (Unsigned W32)) t word_labels k words_free
locals_free Home t k = chosen_free (same_type t (Unsigned W32)) t (codes "state" ∷ []) k state_free
locals_free Noted t k = chosen_free (same_type t (Unsigned W32)) t noted_labels k noted_free
locals_free (Floor w) t k = chosen_free (same_type t (Signed w)) t (codes "a" ∷ codes "b" ∷ []) k floor_free
locals_free Outside t k = chosen_free (same_type t (Unsigned W32)) t word_labels k words_free
