-- Names that stand in lists made of parts.
use Rattle.std.proofs.Common.{◌≡◌, ℕ, ◌-◌, ◌<◌, ◌≤◌, List, [], ◌++◌, get_or, sym, ap, subst, ◌∙◌, arith, Result}
use Rattle.std.specs.Prelude.{decimal, OnOk}
use Rattle.std.proofs.lemmas.List.{get_or_append_left, get_or-append_right, get_or_past, append-nil}
use Rattle.std.proofs.lemmas.List.FromFn.{length-map-range_with_len, get_or-map-range_with_len}
use Rattle.c_text.specs.Labels.{numbered_labels}

-- a text is printed that is called otherwise
pub printed_as : {E : Type 0} (r : Result (Unit {0}) E) (now old text label : List ℕ) → label ≡ text
    → OnOk r (now ≡ old ++ text) → OnOk r (now ≡ old ++ label)
printed_as r now old text label same printed = subst (λ (t : List ℕ). OnOk r (now ≡ old ++ t)) (sym same) printed

-- nothing is printed for what has no name
pub nothing_printed : (old label : List ℕ) → label ≡ [] → old ≡ old ++ label
nothing_printed old label none = sym (append-nil old) ∙ ap (λ (t : List ℕ). old ++ t) (sym none)

-- a number below the count names one of these
pub numbered-first : (word : List ℕ) (count k : ℕ) (rest : List (List ℕ)) → k < count
    → get_or (numbered_labels word count ++ rest) k [] ≡ word ++ decimal k
numbered-first word count k rest within =
    get_or_append_left (numbered_labels word count) rest [] k
    (subst (λ (n : ℕ). k < n) (sym (length-map-range_with_len (λ (j : ℕ). word ++ decimal j) 0 count)) within)
    ∙ get_or-map-range_with_len (λ (j : ℕ). word ++ decimal j) 0 count k k [] within (omega arith)

-- the same without others after them
pub numbered-at : (word : List ℕ) (count k : ℕ) → k < count
    → get_or (numbered_labels word count) k [] ≡ word ++ decimal k
numbered-at word count k within =
    get_or-map-range_with_len (λ (j : ℕ). word ++ decimal j) 0 count k k [] within (omega arith)

-- other numbers name what stands after them
pub numbered-past : (word : List ℕ) (count k : ℕ) (rest : List (List ℕ)) → count ≤ k
    → get_or (numbered_labels word count ++ rest) k [] ≡ get_or rest (k - count) []
numbered-past word count k rest past =
    get_or-append_right (numbered_labels word count) rest count k []
    (length-map-range_with_len (λ (j : ℕ). word ++ decimal j) 0 count) past

-- and nothing where nothing stands there
pub numbered-none : (word : List ℕ) (count k : ℕ) → count ≤ k → get_or (numbered_labels word count) k [] ≡ []
numbered-none word count k past =
    get_or_past (numbered_labels word count) k []
    (subst (λ (n : ℕ). n ≤ k) (sym (length-map-range_with_len (λ (j : ℕ). word ++ decimal j) 0 count)) past)
