-- No name at file scope is one that C99 keeps for its library.
use Rattle.std.proofs.Common.{◌≡◌, ℕ, zero, suc, ◌-◌, ◌<◌, Bool, true, false, ◌||◌, ◌&&◌, not, cond, List, [], ◌∷◌}
use Rattle.std.proofs.Common.{◌++◌, ◌⊎◌, inl, inr, length, map, drop, get_or, refl, sym, ap, ◌∙◌, subst, arith, ⊎_elim}
use Rattle.std.specs.Prelude.{codes, decimal, nat_eq}
use Rattle.std.specs.List.{AllByRecursion, flat_map, list_all, list_any, range_with_len, starts_with}
use Rattle.std.specs.Str.{IsAscii, bytes_eq}
use Rattle.std.proofs.lemmas.Bool.{cases_Bool, cases_lt, and_parts, and_from}
use Rattle.std.proofs.lemmas.Bool.Decides.{Decides-eqb}
use Rattle.std.proofs.lemmas.List.{append-nil, append_assoc, get_or-map, get_or_past, length-map}
use Rattle.std.proofs.lemmas.Slice.Eq.{bytes_eq-Decides, starts_is}
use Rattle.std.proofs.lemmas.Str.{chars-IsAscii}
use Rattle.active_config.specs.Tree.{state_count}
use Rattle.chart_lexer.specs.Words.{is_name}
use Rattle.c_functions.specs.Plans.{Shape}
use Rattle.c_names.specs.Reserved.{is_small, is_capital, is_capital_or_digit, is_small_or_x, goes_on, begins_reserved}
use Rattle.c_names.specs.Reserved.{library_names, is_reserved}
use Rattle.c_names.specs.Stems.{letter_text, doubled, taken_names, is_taken, stem, name_of_chart, guard_of_chart}
use Rattle.c_text.specs.Labels.{numbered_labels, other_words, function_words}
use Rattle.c_text.proofs.WordLemmas.{neither, none_of}
use Rattle.c_header.specs.Scope.{event_words, test_word, test_words, fixed_words, scope_words, scope_labels}
use Rattle.c_header.proofs.NameLists.{all_at, all_both, all_map, all_events}
use Rattle.c_header.proofs.PathNames.{push, parts, letter_plain, letter_line, doubled-first, IsPart, part_of_name}
use Rattle.c_header.proofs.ChartNames.{front, name_parts, plain_words, va_taken, IsPlain}

-- ---- what stands after a name with each `_` doubled

-- a word without `_`
abbrev has_no_line : List ℕ → Bool
has_no_line word = list_all (λ c. not (nat_eq c 95)) word

-- a name begins with a word, and this is left of a text that begins with it
record After (name word rest more : List ℕ) : Type 0 where
  left : List ℕ
  is : name ≡ word ++ left
  rest_is : rest ≡ flat_map letter_text left ++ (95 ∷ more)

not_line : (c : ℕ) → not (nat_eq c 95) ≡ true → nat_eq c 95 ≡ false
not_line c h = at (nat_eq c 95) h
  where
    at : (b : Bool) → not b ≡ true → b ≡ false
    at true h = absurd cc
    at false h = refl

first_of : (x y : List ℕ) → x ≡ y → get_or x 0 0 ≡ get_or y 0 0
first_of x y e = ap (λ (text : List ℕ). get_or text 0 0) e

rest_of : (x y : List ℕ) → x ≡ y → drop 1 x ≡ drop 1 y
rest_of x y e = ap (λ (text : List ℕ). drop 1 text) e

line_other : (q : ℕ) → nat_eq q 95 ≡ false → 95 ≡ q → ⊥
line_other q other e = let same : nat_eq q 95 ≡ true = ap (λ (b : ℕ). nat_eq b 95) (sym e) in cc

after : (word name rest more : List ℕ) → IsAscii name → has_no_line word ≡ true
    → flat_map letter_text name ++ (95 ∷ more) ≡ word ++ rest → After name word rest more
after [] name rest more ascii plain e = record { left = name; is = refl; rest_is = sym e }
after (q ∷ qs) [] rest more ascii plain e =
    absurd (line_other q (not_line q (and_parts (not (nat_eq q 95)) (has_no_line qs) plain).0)
    (first_of (95 ∷ more) (q ∷ (qs ++ rest)) e))
after (q ∷ qs) (c ∷ cs) rest more ascii plain e =
    let both = and_parts (not (nat_eq q 95)) (has_no_line qs) plain in
    let tail : List ℕ = flat_map letter_text cs ++ (95 ∷ more) in
    let parts_are : letter_text c ++ tail ≡ q ∷ (qs ++ rest) =
    sym (append_assoc (letter_text c) (flat_map letter_text cs) (95 ∷ more)) ∙ e in
    ⊎_elim
    (λ same. absurd (line_other q (not_line q both.0)
    (first_of (95 ∷ 95 ∷ tail) (q ∷ (qs ++ rest))
    (ap (λ (t : List ℕ). t ++ tail) (sym (letter_line c same)) ∙ parts_are))))
    (λ other.
    let plain_one : c ∷ tail ≡ q ∷ (qs ++ rest) =
    ap (λ (t : List ℕ). t ++ tail) (sym (letter_plain c (ascii 0) other)) ∙ parts_are in
    let later = after qs cs rest more (λ i. ascii (suc i)) both.1 (rest_of (c ∷ tail) (q ∷ (qs ++ rest)) plain_one) in
    record {
      left = later.left;
      is = ap (λ (b : ℕ). b ∷ cs) (first_of (c ∷ tail) (q ∷ (qs ++ rest)) plain_one)
          ∙ ap (λ (t : List ℕ). q ∷ t) later.is;
      rest_is = later.rest_is;
    })
    (cases_Bool (nat_eq c 95))

-- ---- names that begin as those of the library

starts_told : (text word : List ℕ) → starts_with nat_eq text word ≡ true → text ≡ word ++ drop (length word) text
starts_told text word h = (starts_is Decides-eqb text word (starts_with nat_eq text word) refl).0 h

starts_so : (word left : List ℕ) → starts_with nat_eq (word ++ left) word ≡ true
starts_so word left =
    (starts_is Decides-eqb (word ++ left) word (starts_with nat_eq (word ++ left) word) refl).1 left refl

at_length : (word left : List ℕ) → get_or (word ++ left) (length word) 0 ≡ get_or left 0 0
at_length [] left = refl
at_length (c ∷ cs) left = at_length cs left

module _ (name more : List ℕ) (ascii : IsAscii name) where
  abbrev whole : List ℕ
  whole = flat_map letter_text name ++ (95 ∷ more)

  -- a text begins with a word without `_` only where the name does
  starts_back : (word : List ℕ) → has_no_line word ≡ true → starts_with nat_eq whole word ≡ true
      → starts_with nat_eq name word ≡ true
  starts_back word plain h =
      let a = after word name (drop (length word) whole) more ascii plain (starts_told whole word h) in
      subst (λ (t : List ℕ). starts_with nat_eq t word ≡ true) (sym a.is) (starts_so word a.left)

  -- the same where it goes on with a byte that isn't `_`
  goes_back : (class : ℕ → Bool) (word : List ℕ) → class 95 ≡ false → has_no_line word ≡ true
      → goes_on class word whole ≡ true → goes_on class word name ≡ true
  goes_back class word no_line plain h =
      let both = and_parts (starts_with nat_eq whole word) (class (get_or whole (length word) 0)) h in
      let told = starts_told whole word both.0 in
      let a = after word name (drop (length word) whole) more ascii plain told in
      let next : get_or whole (length word) 0 ≡ get_or (flat_map letter_text a.left ++ (95 ∷ more)) 0 0 =
      ap (λ (t : List ℕ). get_or t (length word) 0) told ∙ at_length word (drop (length word) whole)
      ∙ ap (λ (t : List ℕ). get_or t 0 0) a.rest_is in
      subst (λ (t : List ℕ). goes_on class word t ≡ true) (sym a.is)
      (and_from (starts_with nat_eq (word ++ a.left) word) (class (get_or (word ++ a.left) (length word) 0))
      (starts_so word a.left)
      (ap class (at_length word a.left)
      ∙ first_class a.left (subst IsAscii a.is ascii) (sym (ap class next) ∙ both.1)))
    where
      line_class : class 95 ≡ true → ⊥
      line_class is = cc

      tail_ascii : (xs : List ℕ) (c : ℕ) (cs : List ℕ) → IsAscii (xs ++ (c ∷ cs)) → c < 128
      tail_ascii [] c cs is = is 0
      tail_ascii (x ∷ xs) c cs is = tail_ascii xs c cs (λ i. is (suc i))

      first_class : (left : List ℕ) → IsAscii (word ++ left)
          → class (get_or (flat_map letter_text left ++ (95 ∷ more)) 0 0) ≡ true → class (get_or left 0 0) ≡ true
      first_class [] is passes = absurd (line_class passes)
      first_class (c ∷ cs) is passes = ⊎_elim
          (λ same. absurd (line_class (ap (λ (t : List ℕ). class (get_or ((t ++ flat_map letter_text cs) ++ (95 ∷ more)) 0 0))
          (sym (letter_line c same)) ∙ passes)))
          (λ other. ap (λ (t : List ℕ). class (get_or ((t ++ flat_map letter_text cs) ++ (95 ∷ more)) 0 0))
          (sym (letter_plain c (tail_ascii word c cs is) other)) ∙ passes)
          (cases_Bool (nat_eq c 95))

  -- and with a word that ends in `_`, and goes on so, only where it is the word without that
  ends_back : (class : ℕ → Bool) (word : List ℕ) → class 95 ≡ false → has_no_line word ≡ true
      → goes_on class (word ++ codes "_") whole ≡ true → name ≡ word
  ends_back class word no_line plain h =
      let long : List ℕ = word ++ codes "_" in
      let both = and_parts (starts_with nat_eq whole long) (class (get_or whole (length long) 0)) h in
      let told = starts_told whole long both.0 in
      let rest : List ℕ = drop (length long) whole in
      let a = after word name (95 ∷ rest) more ascii plain (told ∙ append_assoc word (codes "_") rest) in
      let next : get_or whole (length long) 0 ≡ get_or rest 0 0 =
      ap (λ (t : List ℕ). get_or t (length long) 0) told ∙ at_length long rest in
      a.is ∙ only a.left rest (subst IsAscii a.is ascii) a.rest_is (ap class (sym next) ∙ both.1)
    where
      line_class : class 95 ≡ true → ⊥
      line_class is = cc

      tail_ascii : (xs : List ℕ) (c : ℕ) (cs : List ℕ) → IsAscii (xs ++ (c ∷ cs)) → c < 128
      tail_ascii [] c cs is = is 0
      tail_ascii (x ∷ xs) c cs is = tail_ascii xs c cs (λ i. is (suc i))

      only : (left rest : List ℕ) → IsAscii (word ++ left) → 95 ∷ rest ≡ flat_map letter_text left ++ (95 ∷ more)
          → class (get_or rest 0 0) ≡ true → word ++ left ≡ word
      only [] rest is e passes = append-nil word
      only (c ∷ cs) rest is e passes = ⊎_elim
          (λ same. absurd (line_class (ap class
          (ap (λ (t : List ℕ). get_or ((t ++ flat_map letter_text cs) ++ (95 ∷ more)) 1 0) (sym (letter_line c same))
          ∙ sym (ap (λ (t : List ℕ). get_or t 1 0) e)) ∙ passes)))
          (λ other. absurd (line_other c other (first_of (95 ∷ rest) (flat_map letter_text (c ∷ cs) ++ (95 ∷ more)) e
          ∙ ap (λ (t : List ℕ). get_or ((t ++ flat_map letter_text cs) ++ (95 ∷ more)) 0 0)
          (letter_plain c (tail_ascii word c cs is) other))))
          (cases_Bool (nat_eq c 95))

-- ---- each list of beginnings

either : (a b : Bool) → (a || b) ≡ true → (a ≡ true) ⊎ (b ≡ true)
either true b h = inl refl
either false b h = inr h

-- a word of a list
any_back : (f g : List ℕ → Bool) (words : List (List ℕ)) → list_all has_no_line words ≡ true
    → ((word : List ℕ) → has_no_line word ≡ true → f word ≡ true → g word ≡ true) → list_any f words ≡ true
    → list_any g words ≡ true
any_back f g [] plain each h = absurd cc
any_back f g (w ∷ ws) plain each h =
    let both = and_parts (has_no_line w) (list_all has_no_line ws) plain in
    ⊎_elim
    (λ first. ap (λ (b : Bool). b || list_any g ws) (each w both.0 first))
    (λ later. ap (λ (b : Bool). g w || b) (any_back f g ws both.1 each later) ∙ true_right (g w))
    (either (f w) (list_any f ws) h)
  where
    true_right : (b : Bool) → (b || true) ≡ true
    true_right true = refl
    true_right false = refl

-- a name that is one of the words after which `_` makes it begin so
one_of_taken : (name word : List ℕ) → list_any (bytes_eq word) taken_names ≡ true → name ≡ word → is_taken name ≡ true
unfolding is_taken
one_of_taken name word among same =
    ap (λ (b : Bool). b || (begins_reserved name || starts_with nat_eq name (codes "flow_")))
    (ap (λ (t : List ℕ). list_any (bytes_eq t) taken_names) same ∙ among)

-- one that begins so itself
begins_so : (name : List ℕ) → begins_reserved name ≡ true → is_taken name ≡ true
unfolding is_taken
begins_so name h =
    ap (λ (b : Bool). list_any (bytes_eq name) taken_names || (b || starts_with nat_eq name (codes "flow_"))) h
    ∙ true_right (list_any (bytes_eq name) taken_names)
  where
    true_right : (b : Bool) → (b || true) ≡ true
    true_right true = refl
    true_right false = refl

module _ (name more : List ℕ) (p : IsPart name) where
  abbrev text : List ℕ
  text = flat_map letter_text name ++ (95 ∷ more)

  abbrev small : List ℕ → Bool
  small t = list_any (λ word. goes_on is_small word t)
      (codes "is" ∷ codes "to" ∷ codes "str" ∷ codes "mem" ∷ codes "wcs" ∷ [])

  abbrev errors : List ℕ → Bool
  errors t = list_any (λ word. goes_on is_capital_or_digit word t) (codes "E" ∷ [])

  abbrev formats : List ℕ → Bool
  formats t = list_any (λ word. goes_on is_small_or_x word t) (codes "PRI" ∷ codes "SCN" ∷ [])

  abbrev capitals : List ℕ → Bool
  capitals t = list_any (λ word. goes_on is_capital word t)
      (codes "SIG" ∷ codes "LC_" ∷ codes "SIG_" ∷ codes "FE_" ∷ codes "FP_" ∷ [])

  abbrev numbers : List ℕ → Bool
  numbers t = list_any (λ word. starts_with nat_eq t word)
      (codes "int" ∷ codes "uint" ∷ codes "INT" ∷ codes "UINT" ∷ codes "_" ∷ [])

  small_back : small text ≡ true → is_taken name ≡ true
  small_back h = begins_so name (ap (λ (b : Bool). b || (errors name || (formats name || (capitals name || numbers name))))
      (any_back (λ word. goes_on is_small word text) (λ word. goes_on is_small word name)
      (codes "is" ∷ codes "to" ∷ codes "str" ∷ codes "mem" ∷ codes "wcs" ∷ []) refl
      (λ word plain. goes_back name more p.ascii is_small word refl plain) h))

  second : (a b c : Bool) → b ≡ true → (a || (b || c)) ≡ true
  second true b c h = refl
  second false b c h = ap (λ (x : Bool). x || c) h

  errors_back : errors text ≡ true → is_taken name ≡ true
  errors_back h = begins_so name (second (small name) (errors name) (formats name || (capitals name || numbers name))
      (any_back (λ word. goes_on is_capital_or_digit word text) (λ word. goes_on is_capital_or_digit word name)
      (codes "E" ∷ []) refl (λ word plain. goes_back name more p.ascii is_capital_or_digit word refl plain) h))

  third : (a b c d : Bool) → c ≡ true → (a || (b || (c || d))) ≡ true
  third true b c d h = refl
  third false b c d h = second b c d h

  formats_back : formats text ≡ true → is_taken name ≡ true
  formats_back h = begins_so name
      (third (small name) (errors name) (formats name) (capitals name || numbers name)
      (any_back (λ word. goes_on is_small_or_x word text) (λ word. goes_on is_small_or_x word name)
      (codes "PRI" ∷ codes "SCN" ∷ []) refl (λ word plain. goes_back name more p.ascii is_small_or_x word refl plain) h))

  fourth : (a b c d e : Bool) → d ≡ true → (a || (b || (c || (d || e)))) ≡ true
  fourth true b c d e h = refl
  fourth false b c d e h = third b c d e h

  signal_back : goes_on is_capital (codes "SIG") text ≡ true → is_taken name ≡ true
  signal_back h = begins_so name
      (fourth (small name) (errors name) (formats name) (capitals name) (numbers name)
      (ap (λ (b : Bool). b || list_any (λ word. goes_on is_capital word name)
      (codes "LC_" ∷ codes "SIG_" ∷ codes "FE_" ∷ codes "FP_" ∷ []))
      (goes_back name more p.ascii is_capital (codes "SIG") refl refl h)))

  none_left : false ≡ true → is_taken name ≡ true
  none_left h = absurd cc

  capitals_back : capitals text ≡ true → is_taken name ≡ true
  capitals_back h = ⊎_elim signal_back
      (λ h2. ⊎_elim (λ e. one_of_taken name (codes "LC") refl (ends_back name more p.ascii is_capital (codes "LC") refl refl e))
      (λ h3. ⊎_elim (λ e. one_of_taken name (codes "SIG") refl (ends_back name more p.ascii is_capital (codes "SIG") refl refl e))
      (λ h4. ⊎_elim (λ e. one_of_taken name (codes "FE") refl (ends_back name more p.ascii is_capital (codes "FE") refl refl e))
      (λ h5. ⊎_elim (λ e. one_of_taken name (codes "FP") refl (ends_back name more p.ascii is_capital (codes "FP") refl refl e))
      none_left (either (goes_on is_capital (codes "FP_") text) false h5))
      (either (goes_on is_capital (codes "FE_") text) (list_any (λ word. goes_on is_capital word text) (codes "FP_" ∷ []))
      h4))
      (either (goes_on is_capital (codes "SIG_") text)
      (list_any (λ word. goes_on is_capital word text) (codes "FE_" ∷ codes "FP_" ∷ [])) h3))
      (either (goes_on is_capital (codes "LC_") text)
      (list_any (λ word. goes_on is_capital word text) (codes "SIG_" ∷ codes "FE_" ∷ codes "FP_" ∷ [])) h2))
      (either (goes_on is_capital (codes "SIG") text)
      (list_any (λ word. goes_on is_capital word text) (codes "LC_" ∷ codes "SIG_" ∷ codes "FE_" ∷ codes "FP_" ∷ [])) h)

  last : (a b c d e : Bool) → e ≡ true → (a || (b || (c || (d || e)))) ≡ true
  last true b c d e h = refl
  last false true c d e h = refl
  last false false true d e h = refl
  last false false false true e h = refl
  last false false false false e h = h

  -- a text that begins with a letter doesn't begin with `_`
  no_line : starts_with nat_eq text (codes "_") ≡ true → ⊥
  unfolding doubled
  no_line h =
      let told = starts_told text (codes "_") h in
      line_other p.first p.letter
      (sym (first_of (doubled name ++ (95 ∷ more)) (codes "_" ++ drop 1 text)
      (ap (λ (t : List ℕ). flat_map letter_text t ++ (95 ∷ more)) (chars-IsAscii name p.ascii) ∙ told))
      ∙ ap (λ (t : List ℕ). get_or (t ++ (95 ∷ more)) 0 0) (doubled-first name p))

  four : (a b c d e : Bool) → (a || (b || (c || (d || e)))) ≡ true → (e ≡ true) ⊎ ((a || (b || (c || d))) ≡ true)
  four true b c d e h = inr refl
  four false true c d e h = inr refl
  four false false true d e h = inr refl
  four false false false true e h = inr refl
  four false false false false e h = inl h

  short : (a b c d : Bool) → (a || (b || (c || d))) ≡ true → (a || (b || (c || (d || false)))) ≡ true
  short true b c d h = refl
  short false true c d h = refl
  short false false true d h = refl
  short false false false true h = refl
  short false false false false h = absurd cc

  longer : (a b c d e : Bool) → (a || (b || (c || (d || false)))) ≡ true → (a || (b || (c || (d || e)))) ≡ true
  longer true b c d e h = refl
  longer false true c d e h = refl
  longer false false true d e h = refl
  longer false false false true e h = refl
  longer false false false false e h = absurd cc

  numbers_back : numbers text ≡ true → is_taken name ≡ true
  numbers_back h = ⊎_elim
      (λ e. absurd (no_line (alone (starts_with nat_eq text (codes "_")) e)))
      (λ words. begins_so name (last (small name) (errors name) (formats name) (capitals name) (numbers name)
      (longer (starts_with nat_eq name (codes "int")) (starts_with nat_eq name (codes "uint"))
      (starts_with nat_eq name (codes "INT")) (starts_with nat_eq name (codes "UINT"))
      (starts_with nat_eq name (codes "_") || false)
      (any_back (λ word. starts_with nat_eq text word) (λ word. starts_with nat_eq name word)
      (codes "int" ∷ codes "uint" ∷ codes "INT" ∷ codes "UINT" ∷ []) refl
      (λ word plain. starts_back name more p.ascii word plain)
      (short (starts_with nat_eq text (codes "int")) (starts_with nat_eq text (codes "uint"))
      (starts_with nat_eq text (codes "INT")) (starts_with nat_eq text (codes "UINT")) words)))))
      (four (starts_with nat_eq text (codes "int")) (starts_with nat_eq text (codes "uint"))
      (starts_with nat_eq text (codes "INT")) (starts_with nat_eq text (codes "UINT"))
      (starts_with nat_eq text (codes "_") || false) h)
    where
      alone : (b : Bool) → (b || false) ≡ true → b ≡ true
      alone true e = refl
      alone false e = absurd cc

  -- all of them
  begins_back : begins_reserved text ≡ true → is_taken name ≡ true
  begins_back h = ⊎_elim small_back
      (λ h2. ⊎_elim errors_back
      (λ h3. ⊎_elim formats_back
      (λ h4. ⊎_elim capitals_back numbers_back (either (capitals text) (numbers text) h4))
      (either (formats text) (capitals text || numbers text) h3))
      (either (errors text) (formats text || (capitals text || numbers text)) h2))
      (either (small text) (errors text || (formats text || (capitals text || numbers text))) h)

doubled_ascii : (name : List ℕ) → IsAscii name → doubled name ≡ flat_map letter_text name
unfolding doubled
doubled_ascii name ascii = ap (flat_map letter_text) (chars-IsAscii name ascii)

-- no name of a chart begins so
begins_free : (chart word : List ℕ) → IsPart chart → begins_reserved (name_of_chart chart word) ≡ false
unfolding name_of_chart stem
begins_free chart word p = at (is_taken chart) refl
  where
    plain : is_taken chart ≡ false → begins_reserved (flat_map letter_text chart ++ (95 ∷ word)) ≡ false
    plain free = ⊎_elim
        (λ is. absurd (let taken = begins_back chart word p is in cc))
        (λ no_one. no_one)
        (cases_Bool (begins_reserved (flat_map letter_text chart ++ (95 ∷ word))))

    at : (b : Bool) → is_taken chart ≡ b
        → begins_reserved (cond b (codes "flow__" ++ doubled chart) (doubled chart) ++ (95 ∷ word)) ≡ false
    at true is = refl
    at false is =
        ap (λ (t : List ℕ). begins_reserved (t ++ (95 ∷ word))) (doubled_ascii chart p.ascii) ∙ plain is

-- ---- names of the library

-- what stands in a text after the first `_` that isn't one of two
behind : Bool → List ℕ → List ℕ
behind b [] = []
behind false (c ∷ cs) = cond (nat_eq c 95) (behind true cs) (behind false cs)
behind true (c ∷ cs) = cond (nat_eq c 95) (behind false cs) (c ∷ cs)

behind_letter : (c : ℕ) (rest : List ℕ) → c < 128 → behind false (letter_text c ++ rest) ≡ behind false rest
unfolding behind
behind_letter c rest small = ⊎_elim
    (λ same. ap (λ (text : List ℕ). behind false (text ++ rest)) (letter_line c same))
    (λ other. ap (λ (text : List ℕ). behind false (text ++ rest)) (letter_plain c small other)
    ∙ ap (λ (b : Bool). cond b (behind true rest) (behind false rest)) other)
    (cases_Bool (nat_eq c 95))

behind_name : (name rest : List ℕ) → IsAscii name → behind false (flat_map letter_text name ++ rest) ≡ behind false rest
behind_name [] rest ascii = refl
behind_name (c ∷ cs) rest ascii =
    ap (behind false) (append_assoc (letter_text c) (flat_map letter_text cs) rest)
    ∙ behind_letter c (flat_map letter_text cs ++ rest) (ascii 0) ∙ behind_name cs rest (λ i. ascii (suc i))

behind_line : (word : List ℕ) → IsPlain word → behind false (95 ∷ word) ≡ word
unfolding behind
behind_line [] plain = absurd cc
behind_line (c ∷ cs) plain = ap (λ (b : Bool). cond b (behind false cs) (c ∷ cs)) plain

behind_chart : (chart word : List ℕ) → IsPart chart → IsPlain word → behind false (name_of_chart chart word) ≡ word
unfolding name_of_chart stem behind
behind_chart chart word p plain = at (is_taken chart)
  where
    one : behind false (doubled chart ++ (95 ∷ word)) ≡ word
    one = ap (λ (t : List ℕ). behind false (t ++ (95 ∷ word))) (doubled_ascii chart p.ascii)
        ∙ behind_name chart (95 ∷ word) p.ascii ∙ behind_line word plain

    at : (b : Bool)
        → behind false (cond b (codes "flow__" ++ doubled chart) (doubled chart) ++ (95 ∷ word)) ≡ word
    at true = one
    at false = one

-- a text is one of the words of names at file scope, or begins as one of them
is_ours : List ℕ → Bool
is_ours word =
    nat_eq (get_or word 0 0) 112
    || ((nat_eq (get_or word 0 0) 69 && nat_eq (get_or word 1 0) 95)
    || ((nat_eq (get_or word 0 0) 105 && (nat_eq (get_or word 1 0) 110 && nat_eq (get_or word 2 0) 95))
    || list_any (bytes_eq word) (other_words ++ fixed_words)))

-- in a name no such word stands after the chart's name, but where that is `va`
is_apart : List ℕ → Bool
is_apart name = not (is_ours (behind false name)) || bytes_eq (get_or (parts false name) 0 []) (codes "va")

library_apart : list_all is_apart library_names ≡ true
unfolding is_apart is_ours behind parts push
library_apart = refl

-- a name that begins otherwise than the one that is replaced
begins_otherwise : List ℕ → Bool
begins_otherwise name = not (nat_eq (get_or name 0 0) 70 && (nat_eq (get_or name 1 0) 76 && nat_eq (get_or name 2 0) 79))

library_other : list_all begins_otherwise library_names ≡ true
unfolding begins_otherwise
library_other = refl

-- ---- all names at file scope

-- what stands before the first `_` isn't `va`
no_va : (chart : List ℕ) → bytes_eq (front chart) (codes "va") ≡ false
no_va chart = ⊎_elim
    (λ same. absurd (clash ((bytes_eq-Decides (front chart) (codes "va")).0 same)))
    (λ no_one. no_one)
    (cases_Bool (bytes_eq (front chart) (codes "va")))
  where
    clash : front chart ≡ codes "va" → ⊥
    clash e = va_taken chart e

-- a word that is one of ours
IsOurs : List ℕ → Type 0
IsOurs word = is_ours word ≡ true

library_free : (chart word : List ℕ) → IsPart chart → IsPlain word → IsOurs word
    → list_any (bytes_eq (name_of_chart chart word)) library_names ≡ false
unfolding IsOurs is_apart
library_free chart word p plain ours =
    none_of is_apart library_names (name_of_chart chart word) library_apart
    (ap (λ (t : List ℕ). not (is_ours t) || bytes_eq (get_or (parts false (name_of_chart chart word)) 0 []) (codes "va"))
    (behind_chart chart word p plain)
    ∙ ap (λ (b : Bool). not b || bytes_eq (get_or (parts false (name_of_chart chart word)) 0 []) (codes "va")) ours
    ∙ ap (λ (ts : List (List ℕ)). bytes_eq (get_or ts 0 []) (codes "va")) (name_parts chart word p plain) ∙ no_va chart)

our_words : (K : Shape) → AllByRecursion IsOurs (scope_words K)
unfolding IsOurs is_ours
our_words K =
    let ofs : List (List ℕ) = event_words K.names.events in
    let ins : List (List ℕ) = test_words K.tree K.names in
    all_both IsOurs (function_words K.procs) (fixed_words ++ (ofs ++ ins))
    (all_both IsOurs (numbered_labels (codes "p") K.procs) other_words
    (all_map IsOurs (λ k. codes "p" ++ decimal k) (range_with_len 0 K.procs) (λ k. refl))
    (refl, (refl, (refl, (refl, (refl, (refl, (refl, (refl, (refl, (refl, (refl, tt))))))))))))
    (all_both IsOurs fixed_words (ofs ++ ins) (
      refl,
      (
        refl,
        (
          refl,
          (
            refl,
            (
              refl,
              (
                refl,
                (
                  refl,
                  (
                    refl,
                    (
                      refl,
                      (
                        refl,
                        (
                          refl,
                          (
                            refl,
                            (
                              refl,
                              (
                                refl,
                                (
                                  refl,
                                  (
                                    refl,
                                    (refl, (refl, (refl, (refl, (refl, tt))))),
                                  ),
                                ),
                              ),
                            ),
                          ),
                        ),
                      ),
                    ),
                  ),
                ),
              ),
            ),
          ),
        ),
      ),
    )
    (all_both IsOurs ofs ins (all_events IsOurs K.names.events (λ name. refl))
    (all_map IsOurs (test_word K.tree K.names) (range_with_len 1 (state_count K.tree - 1)) (λ x. refl))))

guard_free : (chart : List ℕ) → is_reserved (guard_of_chart chart) ≡ false
unfolding is_reserved guard_of_chart begins_otherwise
guard_free chart = none_of begins_otherwise library_names (guard_of_chart chart) library_other refl

nothing_free : is_reserved [] ≡ false
unfolding is_reserved
nothing_free = refl

name_free : (chart word : List ℕ) → IsPart chart → IsPlain word → IsOurs word
    → is_reserved (name_of_chart chart word) ≡ false
unfolding is_reserved
name_free chart word p plain ours =
    neither (begins_reserved (name_of_chart chart word)) (list_any (bytes_eq (name_of_chart chart word)) library_names)
    (begins_free chart word p) (library_free chart word p plain ours)

-- none is kept by C99
pub scope_unreserved : (chart : List ℕ) (K : Shape) (i : ℕ) → is_name chart ≡ true
    → is_reserved (get_or (scope_labels chart K) i []) ≡ false
scope_unreserved chart K zero named = guard_free chart
scope_unreserved chart K (suc i) named = ⊎_elim
    (λ li. ap is_reserved (get_or-map (name_of_chart chart) (scope_words K) i [] [] li)
    ∙ name_free chart (get_or (scope_words K) i []) (part_of_name chart named)
    (all_at IsPlain (scope_words K) i (plain_words K) li) (all_at IsOurs (scope_words K) i (our_words K) li))
    (λ pi. ap is_reserved (get_or_past (map (name_of_chart chart) (scope_words K)) i []
    (omega (arith, pi, length-map (scope_words K) (name_of_chart chart)))) ∙ nothing_free)
    (cases_lt i (length (scope_words K)))
