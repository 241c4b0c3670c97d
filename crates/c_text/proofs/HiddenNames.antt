-- No local has the name of a function, nor that of the struct.
use Rattle.std.proofs.Common.{◌≡◌, ◌≢◌, ℕ, zero, suc, ◌-◌, ◌<◌, ◌^◌, Bool, true, false, cond, List, []}
use Rattle.std.proofs.Common.{◌∷◌, ◌++◌, ◌⊎◌, inl, inr, length, get_or, refl, sym, ap, ◌∙◌, arith, ⊎_elim}
use Rattle.std.specs.Prelude.{codes, decimal}
use Rattle.std.specs.Str.{bytes_eq}
use Rattle.std.proofs.lemmas.Bool.{cases_lt}
use Rattle.std.proofs.lemmas.List.{get_or-map, length-append, length-map}
use Rattle.std.proofs.lemmas.List.FromFn.{length-map-range_with_len}
use Rattle.c_names.specs.Stems.{name_of_chart}
use Rattle.c_subset.specs.declared.trees.Width.TheVariants.{W8, W16, W32, W64, W128}
use Rattle.c_subset.specs.declared.trees.CType.{CType}
use Rattle.c_subset.specs.declared.trees.CType.TheVariants.{Signed, Unsigned, Truth}
use Rattle.c_subset.specs.Running.{same_type}
use Rattle.c_text.specs.declared.kinds.Kind.{Kind}
use Rattle.c_text.specs.declared.kinds.Kind.TheVariants.{Procedure, Home, Noted, Floor, Outside}
use Rattle.c_text.specs.Labels.{Labels, numbered_labels, other_words, function_words, function_labels, type_short}
use Rattle.c_text.specs.Labels.{word_labels, noted_labels, local_label}
use Rattle.c_text.proofs.LabelLemmas.{numbered-first, numbered-past}
use Rattle.c_text.proofs.WordLemmas.{lines, mark, mark-append, mark-decimal, name_lines, name_mark}

-- ---- functions

-- the last byte of a function's word that is no digit isn't `_`
word_ends : (procs i : ℕ) → i < length (function_words procs) → mark 95 (get_or (function_words procs) i []) ≢ 95
unfolding mark
word_ends procs i within e = ⊎_elim
    (λ li. procedure_ends i (ap (mark 95) (sym (numbered-first (codes "p") procs i other_words li)) ∙ e))
    (λ pi. other_ends (i - procs)
    (omega (
      arith,
      pi,
      within,
      length-append (numbered_labels (codes "p") procs) other_words,
      length-map-range_with_len (λ (k : ℕ). codes "p" ++ decimal k) 0 procs,
    ))
    (ap (mark 95) (sym (numbered-past (codes "p") procs i other_words pi)) ∙ e))
    (cases_lt i procs)
  where
    procedure_ends : (n : ℕ) → mark 95 (codes "p" ++ decimal n) ≢ 95
    procedure_ends n same = let digits = mark-decimal 112 n in omega (arith, digits, same)

    other_ends : (j : ℕ) → j < length other_words → mark 95 (get_or other_words j []) ≢ 95
    other_ends zero lt same = omega (arith, same)
    other_ends (suc zero) lt same = omega (arith, same)
    other_ends (suc (suc zero)) lt same = omega (arith, same)
    other_ends (suc (suc (suc zero))) lt same = omega (arith, same)
    other_ends (suc (suc (suc (suc zero)))) lt same = omega (arith, same)
    other_ends (suc (suc (suc (suc (suc zero))))) lt same = omega (arith, same)
    other_ends (suc (suc (suc (suc (suc (suc zero)))))) lt same = omega (arith, same)
    other_ends (suc (suc (suc (suc (suc (suc (suc zero))))))) lt same = omega (arith, same)
    other_ends (suc (suc (suc (suc (suc (suc (suc (suc zero)))))))) lt same = omega (arith, same)
    other_ends (suc (suc (suc (suc (suc (suc (suc (suc (suc zero))))))))) lt same = omega (arith, same)
    other_ends (suc (suc (suc (suc (suc (suc (suc (suc (suc (suc zero)))))))))) lt same = omega (arith, same)
    other_ends (suc (suc (suc (suc (suc (suc (suc (suc (suc (suc (suc j))))))))))) lt same = omega (arith, lt)

-- ---- locals

-- a name without `_`, or with nothing but digits after the last one
abbrev IsInner : List ℕ → Type 0
IsInner name = (lines name ≡ 0) ⊎ (mark 0 name ≡ 95)

numbered_inner : (t : CType) (k : ℕ) → IsInner (type_short t ++ decimal k)
unfolding mark
numbered_inner t k = inr (mark-append 0 (type_short t) (decimal k) ∙ mark-decimal (mark 0 (type_short t)) k ∙ short t)
  where
    short : (t : CType) → mark 0 (type_short t) ≡ 95
    short (Signed W8) = refl
    short (Signed W16) = refl
    short (Signed W32) = refl
    short (Signed W64) = refl
    short (Signed W128) = refl
    short (Unsigned W8) = refl
    short (Unsigned W16) = refl
    short (Unsigned W32) = refl
    short (Unsigned W64) = refl
    short (Unsigned W128) = refl
    short Truth = refl

-- a name isn't that of the struct
abbrev IsLong : List ℕ → Type 0
IsLong name = bytes_eq name (codes "m") ≡ false

numbered_long : (t : CType) (k : ℕ) → IsLong (type_short t ++ decimal k)
numbered_long (Signed W8) k = refl
numbered_long (Signed W16) k = refl
numbered_long (Signed W32) k = refl
numbered_long (Signed W64) k = refl
numbered_long (Signed W128) k = refl
numbered_long (Unsigned W8) k = refl
numbered_long (Unsigned W16) k = refl
numbered_long (Unsigned W32) k = refl
numbered_long (Unsigned W64) k = refl
numbered_long (Unsigned W128) k = refl
numbered_long Truth k = refl

-- names with which another one may stand for those that aren't there
abbrev AreInner : List (List ℕ) → Type 0
AreInner names = (k : ℕ) (other : List ℕ) → IsInner other → IsLong other
    → (IsInner (get_or names k other)) × (IsLong (get_or names k other))

words_inner : AreInner word_labels
unfolding lines
words_inner zero other inner long = (inl refl, refl)
words_inner (suc zero) other inner long = (inl refl, refl)
words_inner (suc (suc zero)) other inner long = (inl refl, refl)
words_inner (suc (suc (suc zero))) other inner long = (inl refl, refl)
words_inner (suc (suc (suc (suc zero)))) other inner long = (inl refl, refl)
words_inner (suc (suc (suc (suc (suc zero))))) other inner long = (inl refl, refl)
words_inner (suc (suc (suc (suc (suc (suc k)))))) other inner long = (inner, long)

noted_inner : AreInner noted_labels
unfolding lines
noted_inner zero other inner long = (inl refl, refl)
noted_inner (suc zero) other inner long = (inl refl, refl)
noted_inner (suc (suc zero)) other inner long = (inl refl, refl)
noted_inner (suc (suc (suc zero))) other inner long = (inl refl, refl)
noted_inner (suc (suc (suc (suc zero)))) other inner long = (inl refl, refl)
noted_inner (suc (suc (suc (suc (suc zero))))) other inner long = (inl refl, refl)
noted_inner (suc (suc (suc (suc (suc (suc k)))))) other inner long = (inner, long)

state_inner : AreInner (codes "state" ∷ [])
unfolding lines
state_inner zero other inner long = (inl refl, refl)
state_inner (suc k) other inner long = (inner, long)

floor_inner : AreInner (codes "a" ∷ codes "b" ∷ [])
unfolding lines
floor_inner zero other inner long = (inl refl, refl)
floor_inner (suc zero) other inner long = (inl refl, refl)
floor_inner (suc (suc k)) other inner long = (inner, long)

-- one of some names, or its type and its number
abbrev IsChosen : List ℕ → Type 0
IsChosen name = (IsInner name) × (IsLong name)

chosen_inner : (b : Bool) (t : CType) (names : List (List ℕ)) (k : ℕ) → AreInner names
    → IsChosen (get_or (cond b names []) k (type_short t ++ decimal k))
chosen_inner true t names k inner = inner k (type_short t ++ decimal k) (numbered_inner t k) (numbered_long t k)
chosen_inner false t names k inner = (numbered_inner t k, numbered_long t k)

local_inner : (kind : Kind) (t : CType) (k : ℕ) → IsChosen (local_label kind t k)
unfolding local_label
local_inner Procedure t k = chosen_inner (same_type t (Unsigned W32)) t word_labels k words_inner
local_inner Home t k = chosen_inner (same_type t (Unsigned W32)) t (codes "state" ∷ []) k state_inner
local_inner Noted t k = chosen_inner (same_type t (Unsigned W32)) t noted_labels k noted_inner
local_inner (Floor w) t k = chosen_inner (same_type t (Signed w)) t (codes "a" ∷ codes "b" ∷ []) k floor_inner
local_inner Outside t k = chosen_inner (same_type t (Unsigned W32)) t word_labels k words_inner

-- ---- both

-- a local's name isn't that of a chart with a word that ends otherwise
pub no_name : (kind : Kind) (t : CType) (k : ℕ) (chart word : List ℕ) → mark 95 word ≢ 95
    → local_label kind t k ≢ name_of_chart chart word
no_name kind t k chart word other e = ⊎_elim
    (λ none. let same = ap lines e in let all = name_lines chart word in omega (arith, none, same, all))
    (λ digits. other (sym (name_mark chart word) ∙ ap (mark 0) (sym e) ∙ digits))
    (local_inner kind t k).0

-- no local has the name of a function
pub no_function : (L : Labels) (kind : Kind) (t : CType) (k f : ℕ) → k < 2 ^ 32 → f < length (function_labels L)
    → local_label kind t k ≢ get_or (function_labels L) f []
unfolding function_labels
no_function L kind t k f small within e =
    let there : f < length (function_words L.procs) =
    omega (arith, within, length-map (function_words L.procs) (name_of_chart L.chart)) in
    no_name kind t k L.chart (get_or (function_words L.procs) f []) (word_ends L.procs f there)
    (e ∙ get_or-map (name_of_chart L.chart) (function_words L.procs) f [] [] there)

-- nor that of the struct
pub no_struct : (kind : Kind) (t : CType) (k : ℕ) → k < 2 ^ 32 → local_label kind t k ≢ codes "m"
no_struct kind t k small e =
    absurd (let long = (local_inner kind t k).1 in let same = ap (λ (n : List ℕ). bytes_eq n (codes "m")) e in cc)
