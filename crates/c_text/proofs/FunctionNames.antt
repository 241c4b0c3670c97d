-- The names of functions are pairwise different.
use Rattle.std.proofs.Common.{◌≡◌, ◌≢◌, ℕ, zero, suc, ◌<◌, ◌^◌, cond, List, []}
use Rattle.std.proofs.Common.{◌++◌, length, get_or, refl, sym, ap, ◌∙◌, arith}
use Rattle.std.specs.Prelude.{codes, decimal}
use Rattle.std.specs.Str.{bytes_eq}
use Rattle.std.proofs.lemmas.List.FromFn.{length-map-range_with_len}
use Rattle.c_text.specs.Distinct.{AreDistinct}
use Rattle.c_text.specs.Labels.{Labels, numbered_labels, other_words, function_words, function_labels}
use Rattle.c_text.proofs.LabelLemmas.{numbered-at}
use Rattle.c_text.proofs.MemberNames.{AreOther, both_distinct, numbered_distinct, distinct_by}
use Rattle.c_text.proofs.WordLemmas.{names_distinct}

-- ---- functions after those of procedures

-- the place that a word tells
fixed_place : List ℕ → ℕ
fixed_place word =
    cond (bytes_eq word (codes "is_on")) 0
    (cond (bytes_eq word (codes "is_bare")) 1
    (cond (bytes_eq word (codes "noted")) 2
    (cond (bytes_eq word (codes "div8")) 3
    (cond (bytes_eq word (codes "div16")) 4
    (cond (bytes_eq word (codes "div32")) 5
    (cond (bytes_eq word (codes "div64")) 6
    (cond (bytes_eq word (codes "div128")) 7
    (cond (bytes_eq word (codes "init")) 8 (cond (bytes_eq word (codes "start")) 9 10)))))))))

others_told : (i : ℕ) → i < length other_words → fixed_place (get_or other_words i []) ≡ i
unfolding fixed_place
others_told zero within = refl
others_told (suc zero) within = refl
others_told (suc (suc zero)) within = refl
others_told (suc (suc (suc zero))) within = refl
others_told (suc (suc (suc (suc zero)))) within = refl
others_told (suc (suc (suc (suc (suc zero))))) within = refl
others_told (suc (suc (suc (suc (suc (suc zero)))))) within = refl
others_told (suc (suc (suc (suc (suc (suc (suc zero))))))) within = refl
others_told (suc (suc (suc (suc (suc (suc (suc (suc zero)))))))) within = refl
others_told (suc (suc (suc (suc (suc (suc (suc (suc (suc zero))))))))) within = refl
others_told (suc (suc (suc (suc (suc (suc (suc (suc (suc (suc zero)))))))))) within = refl
others_told (suc (suc (suc (suc (suc (suc (suc (suc (suc (suc (suc i))))))))))) within = absurd (omega (arith, within))

-- ---- all of them

-- the word of a procedure is none of these, which begin otherwise
other_word : (n j : ℕ) → j < length other_words → codes "p" ++ decimal n ≢ get_or other_words j []
other_word n j within e =
    first j within (sym (ap (λ (word : List ℕ). get_or word 0 0) e))
  where
    first : (j : ℕ) → j < length other_words → get_or (get_or other_words j []) 0 0 ≢ 112
    first zero within e = omega (arith, e)
    first (suc zero) within e = omega (arith, e)
    first (suc (suc zero)) within e = omega (arith, e)
    first (suc (suc (suc zero))) within e = omega (arith, e)
    first (suc (suc (suc (suc zero)))) within e = omega (arith, e)
    first (suc (suc (suc (suc (suc zero))))) within e = omega (arith, e)
    first (suc (suc (suc (suc (suc (suc zero)))))) within e = omega (arith, e)
    first (suc (suc (suc (suc (suc (suc (suc zero))))))) within e = omega (arith, e)
    first (suc (suc (suc (suc (suc (suc (suc (suc zero)))))))) within e = omega (arith, e)
    first (suc (suc (suc (suc (suc (suc (suc (suc (suc zero))))))))) within e = omega (arith, e)
    first (suc (suc (suc (suc (suc (suc (suc (suc (suc (suc zero)))))))))) within e = omega (arith, e)
    first (suc (suc (suc (suc (suc (suc (suc (suc (suc (suc (suc j))))))))))) within e = omega (arith, within)

procedures_other : (procs : ℕ) → AreOther (numbered_labels (codes "p") procs) other_words
procedures_other procs i j li lj e =
    let below : i < procs =
    omega (arith, length-map-range_with_len (λ (k : ℕ). codes "p" ++ decimal k) 0 procs) in
    other_word i j lj (sym (numbered-at (codes "p") procs i below) ∙ e)

-- the words of functions are pairwise different
pub words_distinct : (procs : ℕ) → procs < 2 ^ 32 → AreDistinct (function_words procs)
words_distinct procs few =
    both_distinct (numbered_labels (codes "p") procs) other_words (numbered_distinct (codes "p") procs few)
    (distinct_by fixed_place other_words others_told) (procedures_other procs)

-- and so are the names
pub functions_distinct : (L : Labels) → L.procs < 2 ^ 32 → AreDistinct (function_labels L)
unfolding function_labels
functions_distinct L few = names_distinct L.chart (function_words L.procs) (words_distinct L.procs few)
