-- The names of arrays and fields are pairwise different.
use Rattle.std.proofs.Common.{◌≡◌, ◌≢◌, ℕ, zero, suc, ◌-◌, ◌<◌, ◌^◌, cond, List, [], ◌∷◌}
use Rattle.std.proofs.Common.{◌++◌, length, map, get_or, refl, sym, ap, subst, ◌∙◌, arith, ⊎_elim}
use Rattle.std.specs.Prelude.{pos, codes, decimal, nat_eq}
use Rattle.std.specs.Str.{bytes_eq}
use Rattle.std.proofs.lemmas.Bool.{cases_lt}
use Rattle.std.proofs.lemmas.Fmt.{decimal_injective}
use Rattle.std.proofs.lemmas.List.{get_or_append_left, get_or-append_right, get_or-map, length-append, length-map}
use Rattle.std.proofs.lemmas.List.{append_cancel_left}
use Rattle.std.proofs.lemmas.List.FromFn.{length-map-range_with_len}
use Rattle.fixed_point.specs.declared.fitting.Mode.TheVariants.{Saturate}
use Rattle.actions.specs.declared.names.Sort.TheVariants.{Flag}
use Rattle.actions.specs.declared.names.Var.{Var}
use Rattle.actions.specs.declared.names.VarKind.{VarKind}
use Rattle.actions.specs.declared.names.VarKind.TheVariants.{Input, Output, Local}
use Rattle.c_text.specs.Distinct.{AreDistinct}
use Rattle.c_text.specs.Labels.{Labels, kind_word, datum_label, counter_labels, numbered_labels}
use Rattle.c_text.specs.Labels.{row_labels, field_labels}
use Rattle.c_text.proofs.LabelLemmas.{numbered-at}

-- ---- lists of names

-- each of the first names is other than each of the second ones
abbrev pub AreOther : List (List ℕ) → List (List ℕ) → Type 0
AreOther xs ys = (i j : ℕ) → i < length xs → j < length ys → get_or xs i [] ≢ get_or ys j []

-- two lists of different names, which have none in common
pub both_distinct : (xs ys : List (List ℕ)) → AreDistinct xs → AreDistinct ys → AreOther xs ys
    → AreDistinct (xs ++ ys)
both_distinct xs ys one two other i j below_i below_j e =
    let n = length xs in
    let all = length-append xs ys in
    ⊎_elim
    (λ li. ⊎_elim
    (λ lj. one i j li lj (sym (get_or_append_left xs ys [] i li) ∙ e ∙ get_or_append_left xs ys [] j lj))
    (λ pj. absurd (other i (j - n) li (omega (arith, all))
    (sym (get_or_append_left xs ys [] i li) ∙ e ∙ get_or-append_right xs ys n j [] refl pj)))
    (cases_lt j n))
    (λ pi. ⊎_elim
    (λ lj. absurd (other j (i - n) lj (omega (arith, all))
    (sym (get_or_append_left xs ys [] j lj) ∙ sym e ∙ get_or-append_right xs ys n i [] refl pi)))
    (λ pj. let same : i - n ≡ j - n = two (i - n) (j - n) (omega (arith, all)) (omega (arith, all))
    (sym (get_or-append_right xs ys n i [] refl pi) ∙ e ∙ get_or-append_right xs ys n j [] refl pj) in
    omega arith)
    (cases_lt j n))
    (cases_lt i n)

-- names with the numbers below a count
pub numbered_distinct : (word : List ℕ) (count : ℕ) → count < 2 ^ 32 → AreDistinct (numbered_labels word count)
numbered_distinct word count few i j below_i below_j e =
    let sized = length-map-range_with_len (λ (k : ℕ). word ++ decimal k) 0 count in
    let li : i < count = omega (arith, sized) in
    let lj : j < count = omega (arith, sized) in
    decimal_injective i j (omega arith) (omega arith)
    (append_cancel_left word (decimal i) (decimal j)
    (sym (numbered-at word count i li) ∙ e ∙ numbered-at word count j lj))

-- ---- the part of the struct that a name tells

-- what stands before the first `_`, with that one, and what stands after it
keep : ℕ → List ℕ → List ℕ
keep c [] = []
keep c (d ∷ ds) = c ∷ d ∷ ds

front : List ℕ → List ℕ
front [] = []
front (c ∷ cs) = cond (nat_eq c 95) (c ∷ []) (keep c (front cs))

back : List ℕ → List ℕ
back [] = []
back (c ∷ cs) = cond (nat_eq c 95) cs (back cs)

-- 0 for arrays, 1 for data, 3 for the active child, 4 for the one that is remembered, 5 for words of bits, 2 for others
part_of_front : List ℕ → ℕ
part_of_front name =
    cond (bytes_eq name (codes "in_")) 1
    (cond (bytes_eq name (codes "out_")) 1
    (cond (bytes_eq name (codes "loc_")) 1
    (cond (bytes_eq name (codes "child_")) 3
    (cond (bytes_eq name (codes "last_")) 4
    (cond (bytes_eq name (codes "flags_")) 5 2)))))

part_of : List ℕ → ℕ
part_of name =
    cond (bytes_eq name (codes "out")) 0 (cond (bytes_eq name (codes "note")) 0 (part_of_front (front name)))

-- ---- data

datum_part : (k : VarKind) (name : List ℕ) → part_of (kind_word k ++ name) ≡ 1
unfolding part_of part_of_front front keep
datum_part Input name = refl
datum_part Output name = refl
datum_part Local name = refl

datum_back : (k : VarKind) (name : List ℕ) → back (kind_word k ++ name) ≡ name
unfolding back
datum_back Input name = refl
datum_back Output name = refl
datum_back Local name = refl

-- some datum
pub any_var : Var
any_var = record { name = []; kind = Input; sort = Flag; mode = Saturate; init = pos 0 }

pub datum_at : (vars : List Var) (i : ℕ) → i < length vars
    → get_or (map datum_label vars) i [] ≡ datum_label (get_or vars i any_var)
datum_at vars i within = get_or-map datum_label vars i any_var [] within

name_at : (vars : List Var) (i : ℕ) → i < length vars
    → get_or (map (λ (v : Var). v.name) vars) i [] ≡ (get_or vars i any_var).name
name_at vars i within = get_or-map (λ (v : Var). v.name) vars i any_var [] within

-- data of different names have different fields
data_distinct : (vars : List Var) → AreDistinct (map (λ (v : Var). v.name) vars) → AreDistinct (map datum_label vars)
data_distinct vars names i j below_i below_j e =
    let li : i < length vars = omega (arith, length-map vars datum_label) in
    let lj : j < length vars = omega (arith, length-map vars datum_label) in
    let v = get_or vars i any_var in
    let w = get_or vars j any_var in
    names i j (omega (arith, length-map vars (λ (x : Var). x.name), li))
    (omega (arith, length-map vars (λ (x : Var). x.name), lj))
    (name_at vars i li ∙ sym (datum_back v.kind v.name)
    ∙ ap back (sym (datum_at vars i li) ∙ e ∙ datum_at vars j lj)
    ∙ datum_back w.kind w.name ∙ sym (name_at vars j lj))

-- ---- the parts

-- the names are those of a part
abbrev Part : ℕ → List (List ℕ) → Type 0
Part n xs = (i : ℕ) → i < length xs → part_of (get_or xs i []) ≡ n

-- the names are of parts up to one, or beyond the first ones
abbrev Beyond : ℕ → List (List ℕ) → Type 0
Beyond n xs = (i : ℕ) → i < length xs → n < part_of (get_or xs i [])

other_parts : (n : ℕ) (xs ys : List (List ℕ)) → Part n xs → Beyond n ys → AreOther xs ys
other_parts n xs ys part beyond i j li lj e =
    let a = part i li in
    let b = beyond j lj in
    let c = ap part_of e in
    omega arith

beyond_both : (n : ℕ) (xs ys : List (List ℕ)) → Beyond n xs → Beyond n ys → Beyond n (xs ++ ys)
beyond_both n xs ys one two i within =
    let all = length-append xs ys in
    ⊎_elim
    (λ li. subst (λ (name : List ℕ). n < part_of name) (sym (get_or_append_left xs ys [] i li)) (one i li))
    (λ pi. subst (λ (name : List ℕ). n < part_of name) (sym (get_or-append_right xs ys (length xs) i [] refl pi))
    (two (i - length xs) (omega (arith, all))))
    (cases_lt i (length xs))

beyond_part : (n m : ℕ) (xs : List (List ℕ)) → n < m → Part m xs → Beyond n xs
beyond_part n m xs less part i within = let a = part i within in omega arith

data_part : (vars : List Var) → Part 1 (map datum_label vars)
data_part vars i within =
    let li : i < length vars = omega (arith, length-map vars datum_label) in
    let v = get_or vars i any_var in
    ap part_of (datum_at vars i li) ∙ datum_part v.kind v.name

numbered_part : (word : List ℕ) (count n : ℕ) → ((k : ℕ) → part_of (word ++ decimal k) ≡ n)
    → Part n (numbered_labels word count)
numbered_part word count n each i within =
    let li : i < count = omega (arith, length-map-range_with_len (λ (k : ℕ). word ++ decimal k) 0 count) in
    ap part_of (numbered-at word count i li) ∙ each i

child_part : (k : ℕ) → part_of (codes "child_" ++ decimal k) ≡ 3
unfolding part_of part_of_front front keep
child_part k = refl

last_part : (k : ℕ) → part_of (codes "last_" ++ decimal k) ≡ 4
unfolding part_of part_of_front front keep
last_part k = refl

flags_part : (k : ℕ) → part_of (codes "flags_" ++ decimal k) ≡ 5
unfolding part_of part_of_front front keep
flags_part k = refl

rows_part : Part 0 row_labels
unfolding part_of part_of_front front keep
rows_part zero within = refl
rows_part (suc zero) within = refl
rows_part (suc (suc i)) within = absurd (omega (arith, within))

counters_part : Part 2 counter_labels
unfolding part_of part_of_front front keep
counters_part zero within = refl
counters_part (suc zero) within = refl
counters_part (suc (suc zero)) within = refl
counters_part (suc (suc (suc zero))) within = refl
counters_part (suc (suc (suc (suc zero)))) within = refl
counters_part (suc (suc (suc (suc (suc zero))))) within = refl
counters_part (suc (suc (suc (suc (suc (suc i)))))) within = absurd (omega (arith, within))

-- ---- all of them

-- the place of a name among others
place_in : List (List ℕ) → List ℕ → ℕ
place_in [] name = 0
place_in (first ∷ rest) name = cond (bytes_eq first name) 0 (suc (place_in rest name))

-- names whose places can be told are different
pub distinct_by : (place : List ℕ → ℕ) (xs : List (List ℕ))
    → ((i : ℕ) → i < length xs → place (get_or xs i []) ≡ i) → AreDistinct xs
distinct_by place xs told i j li lj e = sym (told i li) ∙ ap place e ∙ told j lj

rows_told : (i : ℕ) → i < length row_labels → place_in row_labels (get_or row_labels i []) ≡ i
unfolding place_in
rows_told zero within = refl
rows_told (suc zero) within = refl
rows_told (suc (suc i)) within = absurd (omega (arith, within))

counters_told : (i : ℕ) → i < length counter_labels → place_in counter_labels (get_or counter_labels i []) ≡ i
unfolding place_in
counters_told zero within = refl
counters_told (suc zero) within = refl
counters_told (suc (suc zero)) within = refl
counters_told (suc (suc (suc zero))) within = refl
counters_told (suc (suc (suc (suc zero)))) within = refl
counters_told (suc (suc (suc (suc (suc zero))))) within = refl
counters_told (suc (suc (suc (suc (suc (suc i)))))) within = absurd (omega (arith, within))

module _ (L : Labels) where
  child : List (List ℕ)
  child = numbered_labels (codes "child_") L.ors

  last : List (List ℕ)
  last = numbered_labels (codes "last_") L.ors

  flags : List (List ℕ)
  flags = numbered_labels (codes "flags_") L.words

  last_beyond : (n : ℕ) → n < 4 → Beyond n (last ++ flags)
  unfolding last flags
  last_beyond n less = beyond_both n last flags
      (beyond_part n 4 last less (numbered_part (codes "last_") L.ors 4 last_part))
      (beyond_part n 5 flags (omega arith) (numbered_part (codes "flags_") L.words 5 flags_part))

  states_beyond : (n : ℕ) → n < 3 → Beyond n (child ++ (last ++ flags))
  unfolding child
  states_beyond n less = beyond_both n child (last ++ flags)
      (beyond_part n 3 child less (numbered_part (codes "child_") L.ors 3 child_part))
      (last_beyond n (omega arith))

  last_distinct : L.ors < 2 ^ 32 → L.words < 2 ^ 32 → AreDistinct (last ++ flags)
  unfolding last flags
  last_distinct ors words = both_distinct last flags (numbered_distinct (codes "last_") L.ors ors)
      (numbered_distinct (codes "flags_") L.words words)
      (other_parts 4 last flags (numbered_part (codes "last_") L.ors 4 last_part)
      (beyond_part 4 5 flags (omega arith) (numbered_part (codes "flags_") L.words 5 flags_part)))

  states_distinct : L.ors < 2 ^ 32 → L.words < 2 ^ 32 → AreDistinct (child ++ (last ++ flags))
  unfolding child
  states_distinct ors words = both_distinct child (last ++ flags) (numbered_distinct (codes "child_") L.ors ors)
      (last_distinct ors words)
      (other_parts 3 child (last ++ flags) (numbered_part (codes "child_") L.ors 3 child_part)
      (last_beyond 3 (omega arith)))

  counters_beyond : (n : ℕ) → n < 2 → Beyond n (counter_labels ++ (child ++ (last ++ flags)))
  counters_beyond n less = beyond_both n counter_labels (child ++ (last ++ flags))
      (beyond_part n 2 counter_labels less counters_part) (states_beyond n (omega arith))

  counters_distinct : L.ors < 2 ^ 32 → L.words < 2 ^ 32 → AreDistinct (counter_labels ++ (child ++ (last ++ flags)))
  counters_distinct ors words = both_distinct counter_labels (child ++ (last ++ flags))
      (distinct_by (place_in counter_labels) counter_labels counters_told)
      (states_distinct ors words)
      (other_parts 2 counter_labels (child ++ (last ++ flags)) counters_part (states_beyond 2 (omega arith)))

  -- the names of arrays and fields are pairwise different
  pub members_distinct : L.ors < 2 ^ 32 → L.words < 2 ^ 32
      → AreDistinct (map (λ (v : Var). v.name) L.names.vars) → AreDistinct (row_labels ++ field_labels L)
  unfolding field_labels child last flags
  members_distinct ors words names =
      let all_data = map datum_label L.names.vars in
      let rest = counter_labels ++ (child ++ (last ++ flags)) in
      both_distinct row_labels (all_data ++ rest) (distinct_by (place_in row_labels) row_labels rows_told)
      (both_distinct all_data rest (data_distinct L.names.vars names) (counters_distinct ors words)
      (other_parts 1 all_data rest (data_part L.names.vars) (counters_beyond 1 (omega arith))))
      (other_parts 0 row_labels (all_data ++ rest) rows_part
      (beyond_both 0 all_data rest (beyond_part 0 1 all_data (omega arith) (data_part L.names.vars))
      (counters_beyond 0 (omega arith))))
