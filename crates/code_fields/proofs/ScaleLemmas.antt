-- Scales by their parts and by their words.
use Rattle.std.proofs.Common.{◌≡◌, ℕ, ◌+◌, ◌^◌, ◌<◌, ◌≤◌, Bool, true, false, ◌&&◌, nat_le, List, [], ◌∷◌, ◌++◌, Option}
use Rattle.std.proofs.Common.{Some, None, refl, sym, ap, ◌∙◌, subst, arith}
use Rattle.std.specs.Prelude.{◌↔◌, codes, decimal, option_map, option_and_then, IsSome, IfSome}
use Rattle.std.specs.Str.{bytes_eq}
use Rattle.std.proofs.lemmas.Bool.{and_from, le-leb, false≢true}
use Rattle.std.proofs.lemmas.Option.{none-some, same_Some, option_and_then_some}
use Rattle.std.proofs.lemmas.Slice.Eq.{bytes_eq-Decides}
use native.Mathlib.Bridge.{le_prop}
use mathlib.Core.HLevel.{is_prop→PathP}
use Rattle.fixed_point.specs.declared.scale.Scale.{Scale}
use Rattle.fixed_point.specs.declared.scale.TheConstants.{WIDTH_LIMIT, PLACES_LIMIT}
use Rattle.fixed_point.specs.Scales.{IsWithinLimits, HasParts}
use Rattle.actions.specs.declared.names.Sort.{Sort}
use Rattle.actions.specs.declared.names.Sort.TheVariants as sorts
use Rattle.code_fields.specs.Cuts.{Parts, parts_at}
use Rattle.code_fields.specs.Spelling.{sign_word, sort_word}
use Rattle.code_fields.specs.Scales.{is_within, within_limits, scale_from, scale_if, scale_of_parts}
use Rattle.code_fields.specs.Fields.{or_else, number_of, number_behind, behind, scale_with, scale_parts, scale_behind}
use Rattle.code_fields.specs.Fields.{signed_sort, unsigned_sort, sort_of}
use Rattle.code_fields.proofs.CutLemmas.{option_map_some, parts_at-some, parts_at-front}
use Rattle.code_fields.proofs.NumberLemmas.{numeral-some, numeral-decimal, decimal-lacks, underscore}
use Rattle.code_fields.proofs.WordLemmas.{tested}
use Rattle.code_fields.proofs.BehindLemmas.{behind-append, behind-some, number_behind-line, number_behind-some}

-- two scales of the same parts are one
pub same_scale : (a b : Scale) → a.signed ≡ b.signed → a.width ≡ b.width → a.frac ≡ b.frac → a ≡ b
same_scale a b p q r =
    λ i. record {
      signed = p i;
      width = q i;
      frac = r i;
      some_bits = is_prop→PathP (λ j. 1 ≤ q j) (λ j. le_prop) a.some_bits b.some_bits i;
      bits_within = is_prop→PathP (λ j. q j ≤ WIDTH_LIMIT) (λ j. le_prop) a.bits_within b.bits_within i;
      frac_within = is_prop→PathP (λ j. r j ≤ PLACES_LIMIT) (λ j. le_prop) a.frac_within b.frac_within i;
      frac_in_width = is_prop→PathP (λ j. r j ≤ q j) (λ j. le_prop) a.frac_in_width b.frac_in_width i;
    }

-- parts within the limits pass the test
passes : (width frac : ℕ) → IsWithinLimits width frac → is_within width frac ≡ true
passes width frac h =
    and_from _ _ (and_from _ _ (le-leb 1 width h.some_bits) (le-leb width WIDTH_LIMIT h.bits_within))
    (and_from _ _ (le-leb frac PLACES_LIMIT h.frac_within) (le-leb frac width h.frac_in_width))

-- the scale of parts that pass has them
made : (signed : Bool) (width frac : ℕ) (b : Bool) (e : is_within width frac ≡ b) (scale : Scale)
    → b ≡ true → scale.signed ≡ signed → scale.width ≡ width → scale.frac ≡ frac
    → scale_if signed width frac b e ≡ Some scale
made signed width frac true e scale is p q r =
    ap (λ s. Some s) (same_scale (scale_from signed width frac (within_limits width frac e)) scale (sym p) (sym q) (sym r))
made signed width frac false e scale is p q r = absurd (false≢true is)

-- a scale is that of its parts
pub scale_of_parts-is : (signed : Bool) (width frac : ℕ) (scale : Scale) → scale.signed ≡ signed → scale.width ≡ width
    → scale.frac ≡ frac → IsWithinLimits width frac → scale_of_parts signed width frac ≡ Some scale
unfolding scale_of_parts
scale_of_parts-is signed width frac scale p q r h =
    made signed width frac (is_within width frac) refl scale (passes width frac h) p q r

-- parts out of the limits have none
none_made : (signed : Bool) (width frac : ℕ) (b : Bool) (e : is_within width frac ≡ b)
    → (IsWithinLimits width frac → ⊥) → scale_if signed width frac b e ≡ None
none_made signed width frac true e never = absurd (never (within_limits width frac e))
none_made signed width frac false e never = refl

pub scale_of_parts-none : (signed : Bool) (width frac : ℕ) → (IsWithinLimits width frac → ⊥)
    → scale_of_parts signed width frac ≡ None
unfolding scale_of_parts
scale_of_parts-none signed width frac never = none_made signed width frac (is_within width frac) refl never

-- what makes the scale exactly of parts within the limits is what the definition gives
pub made_is : (signed : Bool) (width frac : ℕ) (o : Option Scale) → (IsSome o ↔ IsWithinLimits width frac)
    → IfSome o (HasParts signed width frac) → o ≡ scale_of_parts signed width frac
made_is signed width frac None within parts = sym (scale_of_parts-none signed width frac (λ h. false≢true (within.1 h)))
made_is signed width frac (Some scale) within parts =
    sym (scale_of_parts-is signed width frac scale parts.signed_kept parts.width_kept parts.frac_kept (within.0 refl))

-- a scale that was made has its parts
parts_if : (signed : Bool) (width frac : ℕ) (b : Bool) (e : is_within width frac ≡ b) (scale : Scale)
    → scale_if signed width frac b e ≡ Some scale → HasParts signed width frac scale
parts_if signed width frac true e scale h =
    let same : scale_from signed width frac (within_limits width frac e) ≡ scale = same_Some _ _ h in
    subst (HasParts signed width frac) same (record { signed_kept = refl; width_kept = refl; frac_kept = refl })
parts_if signed width frac false e scale h = absurd (none-some scale h)

-- so has the scale of parts
scale_of_parts-some : (signed : Bool) (width frac : ℕ) (scale : Scale) → scale_of_parts signed width frac ≡ Some scale
    → HasParts signed width frac scale
unfolding scale_of_parts
scale_of_parts-some signed width frac scale h = parts_if signed width frac (is_within width frac) refl scale h

-- the words of a scale after its sign
abbrev after_sign : Scale → List ℕ
after_sign s = decimal s.width ++ (codes "_En" ++ decimal s.frac)

-- the limits of a scale
limits : (s : Scale) → IsWithinLimits s.width s.frac
limits s = record { some_bits = s.some_bits; bits_within = s.bits_within; frac_within = s.frac_within; frac_in_width = s.frac_in_width }

-- are read as it
read_behind : (s : Scale) → scale_behind s.signed (after_sign s) ≡ Some (sorts.Number s)
read_behind s =
    let wide : s.width < 2 ^ 32 = omega (arith, s.bits_within) in
    let short : s.frac < 2 ^ 32 = omega (arith, s.frac_within) in
    ap (λ (o : Option Parts). option_and_then (scale_parts s.signed) o) (parts_at-front 95 (decimal s.width) (codes "En" ++ decimal s.frac) (decimal-lacks 95 s.width underscore (omega arith)))
    ∙ (ap (λ (o : Option ℕ). option_and_then (λ w. scale_with s.signed w (codes "En" ++ decimal s.frac)) o) (numeral-decimal (2 ^ 32) s.width wide (omega arith))
    ∙ (ap (λ (o : Option ℕ). option_map (λ c. sorts.Number c) (option_and_then (scale_of_parts s.signed s.width) o)) (number_behind-line (codes "En") s.frac short)
    ∙ ap (λ (o : Option Scale). option_map (λ c. sorts.Number c) o) (scale_of_parts-is s.signed s.width s.frac s refl refl refl (limits s))))

-- a scale by its sign
read_sign : (s : Scale) (signed : Bool) → s.signed ≡ signed
    → or_else (signed_sort (sign_word signed ++ after_sign s)) (unsigned_sort (sign_word signed ++ after_sign s)) ≡ Some (sorts.Number s)
unfolding behind
read_sign s true e = ap (λ (o : Option Sort). or_else o (unsigned_sort (codes "sfix" ++ after_sign s))) (ap (λ b. scale_behind b (after_sign s)) (sym e) ∙ read_behind s)
read_sign s false e = ap (λ b. scale_behind b (after_sign s)) (sym e) ∙ read_behind s

-- a word by its sign is no `bool`
no_bool : (signed : Bool) (text : List ℕ) → bytes_eq (sign_word signed ++ text) (codes "bool") ≡ false
no_bool true text = refl
no_bool false text = refl

-- the word of each sort is read as it
pub sort_of-word : (s : Sort) → sort_of (sort_word s) ≡ Some s
unfolding sort_of
sort_of-word sorts.Flag = refl
sort_of-word (sorts.Number s) = rw (no_bool s.signed (after_sign s)) (read_sign s s.signed refl)

-- the words after a sign are those of the scale
spelt_behind : (signed : Bool) (text : List ℕ) (sort : Sort) → scale_behind signed text ≡ Some sort
    → sign_word signed ++ text ≡ sort_word sort
spelt_behind signed text sort h =
    option_and_then_some (scale_parts signed) (parts_at 95 text) sort h (λ parts e g.
    option_and_then_some (λ w. scale_with signed w parts.rest) (number_of parts.front) sort g (λ w we k.
    option_map_some (λ c. sorts.Number c) (option_and_then (scale_of_parts signed w) (number_behind (codes "En") parts.rest)) sort k (λ scale se made_is.
    option_and_then_some (scale_of_parts signed w) (number_behind (codes "En") parts.rest) scale se (λ f fe is.
    let has = scale_of_parts-some signed w f scale is in
    let width = numeral-some (2 ^ 32) parts.front w we in
    let frac = number_behind-some (codes "En") parts.rest f fe in
    let text_is : text ≡ decimal w ++ 95 ∷ (codes "En" ++ decimal f) =
    parts_at-some 95 text parts e ∙ (ap (λ (t : List ℕ). t ++ 95 ∷ parts.rest) width.1 ∙ ap (λ (t : List ℕ). decimal w ++ 95 ∷ t) frac.0) in
    let scale_is : sign_word signed ++ (decimal w ++ 95 ∷ (codes "En" ++ decimal f)) ≡ sort_word (sorts.Number scale) =
    ap (λ b. sign_word b ++ (decimal w ++ (codes "_En" ++ decimal f))) (sym has.signed_kept)
    ∙ (ap (λ n. sign_word scale.signed ++ (decimal n ++ (codes "_En" ++ decimal f))) (sym has.width_kept)
    ∙ ap (λ n. sign_word scale.signed ++ (decimal scale.width ++ (codes "_En" ++ decimal n))) (sym has.frac_kept)) in
    ap (λ (t : List ℕ). sign_word signed ++ t) text_is ∙ (scale_is ∙ ap sort_word made_is)))))

-- a word with a sign
spelt_signed : (signed : Bool) (word : List ℕ) (sort : Sort)
    → option_and_then (scale_behind signed) (behind (sign_word signed) word) ≡ Some sort → word ≡ sort_word sort
spelt_signed signed word sort h =
    option_and_then_some (scale_behind signed) (behind (sign_word signed) word) sort h (λ rest e g.
    behind-some (sign_word signed) word rest e ∙ spelt_behind signed rest sort g)

-- what comes of a choice comes of one of the two
pub or_else_some : {A P : Type 0} (o other : Option A) (x : A) → or_else o other ≡ Some x → (o ≡ Some x → P)
    → (other ≡ Some x → P) → P
or_else_some None other x h p q = q h
or_else_some (Some y) other x h p q = p h

-- and no other word is
pub sort_of-some : (word : List ℕ) (s : Sort) → sort_of word ≡ Some s → word ≡ sort_word s
unfolding sort_of
sort_of-some word s h =
    tested word (codes "bool") sorts.Flag s _ h (λ e same. e ∙ ap sort_word same) (λ g.
    or_else_some (signed_sort word) (unsigned_sort word) s g (spelt_signed true word s) (spelt_signed false word s))
