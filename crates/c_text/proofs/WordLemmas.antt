-- Names at file scope: the chart's name, `_` and a word; what tells them from other names.
use Rattle.std.proofs.Common.{◌≡◌, ℕ, zero, suc, ◌+◌, ◌-◌, ◌/◌, ◌%◌, ◌<◌, ◌≤◌, Bool, true, false, ◌||◌, ◌&&◌, not, cond, List, []}
use Rattle.std.proofs.Common.{Some, None, Result, Ok, Err}
use Rattle.std.proofs.Common.{◌∷◌, ◌++◌, length, map, drop, get_or, refl, sym, ap, ◌∙◌, arith, ⊎_elim, append_assoc}
use Rattle.std.specs.Prelude.{codes, decimal, nat_eq, nat_le, nat_lt, slice_get, OnOk}
use Rattle.std.specs.Fmt.{digit_glyph, digits_onto, digits}
use Rattle.std.specs.List.{list_all, list_any}
use Rattle.std.specs.Str.{bytes_eq}
use Rattle.std.proofs.lemmas.Bool.{cases_Bool, cases_lt, lt-ltb, and_parts}
use Rattle.std.proofs.lemmas.Bool.Decides.{nat_tests}
use Rattle.std.proofs.lemmas.List.{append_cancel_left, get_or-map, get_or_past, length-append, length-map}
use Rattle.std.proofs.lemmas.List.FromFn.{length-map-range_with_len}
use Rattle.std.proofs.lemmas.Option.{slice_get_within, slice_get-get_or, get_or_from_slice_get}
use Rattle.std.proofs.lemmas.Slice.Eq.{bytes_eq-Decides}
use Rattle.c_names.specs.Stems.{stem, name_of_chart}
use Rattle.c_text.specs.Distinct.{AreDistinct, keywords, is_keyword}
use Rattle.c_text.specs.Labels.{Labels, numbered_labels, other_words, function_words, function_labels, function_label}
use Rattle.c_text.proofs.LabelLemmas.{numbered-first, numbered-past}

-- ---- names of a list

-- neither of two is true, where none of them is
pub neither : (a b : Bool) → a ≡ false → b ≡ false → (a || b) ≡ false
neither a b first second = ap (λ (x : Bool). x || b) first ∙ second

-- a name isn't among those that pass a test, where it doesn't pass
pub none_of : (test : List ℕ → Bool) (names : List (List ℕ)) (name : List ℕ) → list_all test names ≡ true
    → test name ≡ false → list_any (bytes_eq name) names ≡ false
none_of test [] name all other = refl
none_of test (x ∷ xs) name all other =
    let both = and_parts (test x) (list_all test xs) all in
    neither (bytes_eq name x) (list_any (bytes_eq name) xs)
    (⊎_elim
    (λ same. absurd (let e : name ≡ x = (bytes_eq-Decides name x).0 same in
    let passes : test name ≡ true = ap test e ∙ both.0 in cc))
    (λ no_one. no_one)
    (cases_Bool (bytes_eq name x)))
    (none_of test xs name both.1 other)

-- ---- how often `_` stands in a name, and its last byte that is no digit

unfoldable pub lines : List ℕ → ℕ
lines [] = 0
lines (c ∷ cs) = cond (nat_eq c 95) 1 0 + lines cs

pub lines-append : (xs ys : List ℕ) → lines (xs ++ ys) ≡ lines xs + lines ys
unfolding lines
lines-append [] ys = omega arith
lines-append (x ∷ xs) ys = let rest = lines-append xs ys in omega (arith, rest)

-- that byte, or the one given where all are digits
unfoldable pub mark : ℕ → List ℕ → ℕ
mark b [] = b
mark b (c ∷ cs) = mark (cond (nat_lt c 58) b c) cs

pub mark-append : (b : ℕ) (xs ys : List ℕ) → mark b (xs ++ ys) ≡ mark (mark b xs) ys
unfolding mark
mark-append b [] ys = refl
mark-append b (x ∷ xs) ys = mark-append (cond (nat_lt x 58) b x) xs ys

glyph_digit : (d : ℕ) → d < 10 → nat_lt (digit_glyph false d) 58 ≡ true
glyph_digit d small =
    ap (λ (t : Bool). nat_lt (cond t (48 + d) (87 + d)) 58) (lt-ltb d 10 small)
    ∙ lt-ltb (48 + d) 58 (omega (arith, small))

mark-glyph : (b n : ℕ) (acc : List ℕ) → mark b (digit_glyph false (n % 10) ∷ acc) ≡ mark b acc
unfolding mark
mark-glyph b n acc =
    ap (λ (t : Bool). mark (cond t b (digit_glyph false (n % 10))) acc) (glyph_digit (n % 10) (omega arith))

mark-either : (b : ℕ) (t : Bool) (x y : List ℕ) (m : ℕ) → mark b x ≡ m → mark b y ≡ m → mark b (cond t x y) ≡ m
mark-either b true x y m h g = h
mark-either b false x y m h g = g

mark-digits : (b k n : ℕ) (acc : List ℕ) → mark b (digits_onto k 10 false n acc) ≡ mark b acc
mark-digits b zero n acc = refl
mark-digits b (suc k) n acc =
    let glyph = digit_glyph false (n % 10) in
    mark-either b (nat_eq (n / 10) 0) (glyph ∷ acc) (digits_onto k 10 false (n / 10) (glyph ∷ acc)) (mark b acc)
    (mark-glyph b n acc) (mark-digits b k (n / 10) (glyph ∷ acc) ∙ mark-glyph b n acc)

-- a number has no other bytes than digits
pub mark-decimal : (b n : ℕ) → mark b (decimal n) ≡ b
unfolding digits mark
mark-decimal b n = mark-digits b 64 n []

-- ---- names of a chart

-- more after the word
pub name_goes_on : (chart word more : List ℕ) → name_of_chart chart word ++ more ≡ name_of_chart chart (word ++ more)
unfolding name_of_chart
name_goes_on chart word more = append_assoc (stem chart) (95 ∷ word) more

-- a name tells its word
pub same_word : (chart v w : List ℕ) → name_of_chart chart v ≡ name_of_chart chart w → v ≡ w
unfolding name_of_chart
same_word chart v w e = ap (λ (t : List ℕ). drop 1 t) (append_cancel_left (stem chart) (95 ∷ v) (95 ∷ w) e)

-- with different words they are different
pub names_distinct : (chart : List ℕ) (words : List (List ℕ)) → AreDistinct words
    → AreDistinct (map (name_of_chart chart) words)
names_distinct chart words distinct i j li lj e =
    let sized = length-map words (name_of_chart chart) in
    let wi : i < length words = omega (arith, li, sized) in
    let wj : j < length words = omega (arith, lj, sized) in
    distinct i j wi wj
    (same_word chart (get_or words i []) (get_or words j [])
    (sym (get_or-map (name_of_chart chart) words i [] [] wi) ∙ e
    ∙ get_or-map (name_of_chart chart) words j [] [] wj))

pub name_lines : (chart word : List ℕ) → lines (name_of_chart chart word) ≡ lines (stem chart) + 1 + lines word
unfolding name_of_chart lines
name_lines chart word = lines-append (stem chart) (95 ∷ word) ∙ omega arith

pub name_mark : (chart word : List ℕ) → mark 0 (name_of_chart chart word) ≡ mark 95 word
unfolding name_of_chart mark
name_mark chart word = mark-append 0 (stem chart) (95 ∷ word)

-- ---- keywords

-- the last letters of the keywords that have a `_`
abbrev pub is_last : ℕ → Bool
is_last c = nat_eq c 108 || (nat_eq c 120 || nat_eq c 121)

-- a name has no `_`, or one and such a letter
clashes : List ℕ → Bool
clashes name = nat_eq (lines name) 0 || (nat_eq (lines name) 1 && is_last (mark 0 name))

keywords_clash : list_all clashes keywords ≡ true
unfolding clashes lines mark
keywords_clash = refl

-- a word has a `_`, or ends otherwise
abbrev pub is_free_word : List ℕ → Bool
is_free_word word = nat_le 1 (lines word) || not (is_last (mark 95 word))

two_lines : (n m : ℕ) (last : Bool) → nat_le 1 m ≡ true
    → (nat_eq (n + 1 + m) 0 || (nat_eq (n + 1 + m) 1 && last)) ≡ false
two_lines n m last some = neither (nat_eq (n + 1 + m) 0) (nat_eq (n + 1 + m) 1 && last)
    (grind (arith, nat_tests))
    (ap (λ (b : Bool). b && last) (more n m some))
  where
    more : (n m : ℕ) → nat_le 1 m ≡ true → nat_eq (n + 1 + m) 1 ≡ false
    more n m some = grind (arith, nat_tests)

other_last : (n m : ℕ) (last : Bool) → last ≡ false
    → (nat_eq (n + 1 + m) 0 || (nat_eq (n + 1 + m) 1 && last)) ≡ false
other_last n m last no_one = neither (nat_eq (n + 1 + m) 0) (nat_eq (n + 1 + m) 1 && last)
    (grind (arith, nat_tests))
    (ap (λ (b : Bool). nat_eq (n + 1 + m) 1 && b) no_one ∙ never (nat_eq (n + 1 + m) 1))
  where
    never : (b : Bool) → (b && false) ≡ false
    never true = refl
    never false = refl

free_either : (n m : ℕ) (last : Bool) → (nat_le 1 m || not last) ≡ true
    → (nat_eq (n + 1 + m) 0 || (nat_eq (n + 1 + m) 1 && last)) ≡ false
free_either n m true h = two_lines n m true (only (nat_le 1 m) h)
  where
    only : (b : Bool) → (b || false) ≡ true → b ≡ true
    only true h = refl
    only false h = absurd cc
free_either n m false h = other_last n m false refl

-- such a word makes no keyword
pub name_free : (chart word : List ℕ) → is_free_word word ≡ true → is_keyword (name_of_chart chart word) ≡ false
unfolding is_keyword clashes
name_free chart word free =
    none_of clashes keywords (name_of_chart chart word) keywords_clash
    (ap (λ (n : ℕ). nat_eq n 0 || (nat_eq n 1 && is_last (mark 0 (name_of_chart chart word)))) (name_lines chart word)
    ∙ ap (λ (m : ℕ). nat_eq (lines (stem chart) + 1 + lines word) 0
    || (nat_eq (lines (stem chart) + 1 + lines word) 1 && is_last m)) (name_mark chart word)
    ∙ free_either (lines (stem chart)) (lines word) (is_last (mark 95 word)) free)

-- ---- functions

-- the name of a function that there is, and of one that there isn't
pub function_named : (L : Labels) (f : ℕ) → f < length (function_words L.procs)
    → function_label L f ≡ name_of_chart L.chart (get_or (function_words L.procs) f [])
unfolding function_label function_labels
function_named L f within = get_or-map (name_of_chart L.chart) (function_words L.procs) f [] [] within

pub function_nameless : (L : Labels) (f : ℕ) → length (function_words L.procs) ≤ f → function_label L f ≡ []
unfolding function_label function_labels
function_nameless L f past =
    get_or_past (map (name_of_chart L.chart) (function_words L.procs)) f []
    (omega (arith, past, length-map (function_words L.procs) (name_of_chart L.chart)))

words_sized : (procs : ℕ) → length (function_words procs) ≡ procs + length other_words
words_sized procs =
    length-append (numbered_labels (codes "p") procs) other_words
    ∙ omega (arith, length-map-range_with_len (λ (k : ℕ). codes "p" ++ decimal k) 0 procs)

-- that of a procedure
pub procedure_named : (L : Labels) (f : ℕ) → f < L.procs
    → function_label L f ≡ name_of_chart L.chart (codes "p" ++ decimal f)
procedure_named L f within =
    function_named L f (omega (arith, within, words_sized L.procs))
    ∙ ap (name_of_chart L.chart) (numbered-first (codes "p") L.procs f other_words within)

-- that of a function after those of procedures
pub other_named : (L : Labels) (f : ℕ) (word : List ℕ) → L.procs ≤ f → slice_get other_words (f - L.procs) ≡ Some word
    → function_label L f ≡ name_of_chart L.chart word
other_named L f word past there =
    let within = slice_get_within other_words (f - L.procs) word there in
    function_named L f (omega (arith, past, within, words_sized L.procs))
    ∙ ap (name_of_chart L.chart) (numbered-past (codes "p") L.procs f other_words past
    ∙ get_or_from_slice_get other_words (f - L.procs) word [] there)

-- and where there is none
pub none_named : (L : Labels) (f : ℕ) → L.procs ≤ f → slice_get other_words (f - L.procs) ≡ None
    → function_label L f ≡ []
none_named L f past none = ⊎_elim
    (λ within. absurd (let there = slice_get-get_or other_words (f - L.procs) [] within in cc))
    (λ beyond. function_nameless L f (omega (arith, past, beyond, words_sized L.procs)))
    (cases_lt (f - L.procs) (length other_words))

-- a word and its number are printed
pub number_printed : {E : Type 0} (r : Result (Unit {0}) E) (now between old first number label : List ℕ)
    → OnOk r (now ≡ between ++ number) → between ≡ old ++ first → first ++ number ≡ label → OnOk r (now ≡ old ++ label)
number_printed (Ok x) now between old first number label last before is =
    last ∙ ap (λ (t : List ℕ). t ++ number) before ∙ append_assoc old first number ∙ ap (λ (t : List ℕ). old ++ t) is
number_printed (Err e) now between old first number label last before is = tt
