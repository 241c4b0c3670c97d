-- A scale that a word names is within the limits.
use Rattle.std.proofs.Common.{◌≡◌, ℕ, ◌≤◌, Bool, true, false, ◌&&◌, nat_le, List, Option, Some, None, take, drop}
use Rattle.std.proofs.Common.{codes, bytes_eq, cond, arith}
use Rattle.std.proofs.lemmas.Bool.{leb-true, and_parts, cond_both}
use Rattle.fixed_point.specs.declared.scale.TheConstants.{WIDTH_LIMIT, PLACES_LIMIT}
use Rattle.fixed_point.specs.Reading.{leading_digits, after_digits}
use Rattle.chart_tree.specs.Trees.{ScaleParts}
use Rattle.chart_grammar.specs.Types.{TypeWord, FlagWord, ScaleWord, plain_number, scale_within, frac_told}
use Rattle.chart_grammar.specs.Types.{scale_told, whole, scale_of, scale_word, type_word}
use Rattle.canonical_text.specs.Terms.{IsScale}

-- if there is a scale, it is within the limits
abbrev Within : Option ScaleParts → Type 0
Within None = Unit {0}
Within (Some scale) = IsScale scale

-- either of two words
either_scale : (b : Bool) (x y : Option ScaleParts) → Within x → Within y → Within (cond b x y)
either_scale true x y p q = p
either_scale false x y p q = q

-- by its parts
parts_within : (signed : Bool) (width frac : Option ℕ) → Within (scale_within signed width frac)
parts_within signed None frac = tt
parts_within signed (Some width) None = tt
parts_within signed (Some width) (Some frac) =
    cond_both ((nat_le 1 width && nat_le width WIDTH_LIMIT) && (nat_le frac PLACES_LIMIT && nat_le frac width))
    (Some (record { signed = signed; width = width; frac = frac })) None Within
    (λ tests.
    let halves = and_parts (nat_le 1 width && nat_le width WIDTH_LIMIT) (nat_le frac PLACES_LIMIT && nat_le frac width) tests in
    let wide = and_parts (nat_le 1 width) (nat_le width WIDTH_LIMIT) halves.0 in
    let short = and_parts (nat_le frac PLACES_LIMIT) (nat_le frac width) halves.1 in
    record { some = leb-true 1 width wide.0; narrow = leb-true width WIDTH_LIMIT wide.1; short = leb-true frac PLACES_LIMIT short.0; inside = leb-true frac width short.1 })
    (λ none. tt {0})

-- a whole number of `width` bits
whole_within : (signed : Bool) (width : ℕ) → 1 ≤ width → width ≤ WIDTH_LIMIT → Within (whole signed width)
whole_within signed width some narrow =
    record { some = some; narrow = narrow; short = omega arith; inside = omega arith }

-- every word
word_within : (word : List ℕ) → Within (scale_of word)
unfolding scale_of
word_within word =
    either_scale (bytes_eq word (codes "int8")) (whole true 8) _ (whole_within true 8 (omega arith) (omega arith))
    (either_scale (bytes_eq word (codes "int16")) (whole true 16) _ (whole_within true 16 (omega arith) (omega arith))
    (either_scale (bytes_eq word (codes "int32")) (whole true 32) _ (whole_within true 32 (omega arith) (omega arith))
    (either_scale (bytes_eq word (codes "int64")) (whole true 64) _ (whole_within true 64 (omega arith) (omega arith))
    (either_scale (bytes_eq word (codes "uint8")) (whole false 8) _ (whole_within false 8 (omega arith) (omega arith))
    (either_scale (bytes_eq word (codes "uint16")) (whole false 16) _
    (whole_within false 16 (omega arith) (omega arith))
    (either_scale (bytes_eq word (codes "uint32")) (whole false 32) _
    (whole_within false 32 (omega arith) (omega arith))
    (either_scale (bytes_eq word (codes "uint64")) (whole false 64) _
    (whole_within false 64 (omega arith) (omega arith))
    (either_scale (bytes_eq (take 4 word) (codes "sfix")) (scale_told true (drop 4 word)) _
    (parts_within true (plain_number (leading_digits (drop 4 word))) (frac_told (after_digits (drop 4 word))))
    (either_scale (bytes_eq (take 4 word) (codes "ufix")) (scale_told false (drop 4 word)) None
    (parts_within false (plain_number (leading_digits (drop 4 word))) (frac_told (after_digits (drop 4 word))))
    (tt {0}))))))))))

-- a word that names a scale does so by it
named_scale : (o : Option ScaleParts) (scale : ScaleParts) → Within o → scale_word o ≡ Some (ScaleWord scale)
    → IsScale scale
named_scale None scale within e = absurd cc
named_scale (Some other) scale within e = let same : other ≡ scale = cc in rw same at within

-- every scale that is told
pub scale_is_told : (text : List ℕ) (scale : ScaleParts) → type_word text ≡ Some (ScaleWord scale) → IsScale scale
unfolding type_word
scale_is_told text scale =
    cond_both (bytes_eq text (codes "bool")) (Some FlagWord) (scale_word (scale_of text))
    (λ (o : Option TypeWord). o ≡ Some (ScaleWord scale) → IsScale scale)
    (λ flag e. absurd cc)
    (λ none e. named_scale (scale_of text) scale (word_within text) e)
