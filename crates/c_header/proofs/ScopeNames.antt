-- The names of the file scope are pairwise different, and no keywords.
use Rattle.std.proofs.Common.{◌≡◌, ◌≢◌, ℕ, zero, suc, ◌+◌, ◌-◌, ◌<◌, ◌≤◌, ◌^◌, Bool, true, false, cond, ◌||◌, ◌&&◌, not}
use Rattle.std.proofs.Common.{List, [], ◌∷◌, ◌++◌, length, map, get_or, refl, sym, ap, ◌∙◌, arith, ⊎_elim}
use Rattle.std.specs.Prelude.{codes, decimal, nat_eq, nat_le}
use Rattle.std.specs.List.{AllByRecursion, list_all, list_any, range_with_len}
use Rattle.std.specs.Str.{bytes_eq}
use Rattle.std.proofs.lemmas.Bool.{cases_lt, and_parts, leb-true}
use Rattle.std.proofs.lemmas.Bool.Decides.{nat_tests}
use Rattle.std.proofs.lemmas.List.{append_cancel_left, get_or-map, get_or_past, length-map}
use Rattle.std.proofs.lemmas.List.FromFn.{length-map-range_with_len, get_or-map-range_with_len}
use Rattle.active_config.specs.Tree.{Tree, state_count}
use Rattle.actions.specs.declared.names.EventDecl.{EventDecl}
use Rattle.actions.specs.declared.names.Var.{Var}
use Rattle.actions.specs.Names.{Names}
use Rattle.c_functions.specs.Plans.{Shape}
use Rattle.c_names.specs.Stems.{stem, name_of_chart, guard_of_chart}
use Rattle.c_text.specs.Distinct.{AreDistinct, keywords, is_keyword}
use Rattle.c_text.specs.Labels.{numbered_labels, other_words, function_words}
use Rattle.c_text.proofs.FunctionNames.{words_distinct}
use Rattle.c_text.proofs.KeywordLemmas.{words_of_functions_free}
use Rattle.c_text.proofs.MemberNames.{both_distinct}
use Rattle.c_text.proofs.WordLemmas.{lines, mark, is_last, is_free_word, name_free, names_distinct, none_of}
use Rattle.c_header.specs.Paths.{state_label}
use Rattle.c_header.specs.Scope.{HasNamedTree, event_words, test_word, test_words, fixed_words, scope_words, scope_labels}
use Rattle.c_header.proofs.NameLists.{all_at, all_from, all_both, all_map, all_after, other_kinds, one_more}
use Rattle.c_header.proofs.NameLists.{distinct_found, events_distinct, all_events, last_distinct}
use Rattle.c_header.proofs.PathNames.{one_label}

-- ---- bytes that no part of the name that is replaced has but for the chart's name

-- one of these bytes
abbrev is_mark : ℕ → Bool
is_mark c = nat_eq c 70 || (nat_eq c 76 || (nat_eq c 79 || (nat_eq c 87 || (nat_eq c 72 || nat_eq c 95))))

-- how many others stand in a name
weight : List ℕ → ℕ
weight [] = 0
weight (c ∷ cs) = cond (is_mark c) 0 1 + weight cs

weight-append : (xs ys : List ℕ) → weight (xs ++ ys) ≡ weight xs + weight ys
unfolding weight
weight-append [] ys = omega arith
weight-append (x ∷ xs) ys = let rest = weight-append xs ys in omega (arith, rest)

-- ---- words

-- what a word is, by the bytes with which it begins: 0 of a function, 1 of a procedure, 2 of an event, 3 of a test, 4
-- one of those that all files have
kind_of : List ℕ → ℕ
kind_of word =
    cond (nat_eq (get_or word 0 0) 112) 1
    (cond (nat_eq (get_or word 0 0) 69) 2
    (cond (nat_eq (get_or word 0 0) 105 && (nat_eq (get_or word 1 0) 110 && nat_eq (get_or word 2 0) 95)) 3
    (cond (list_any (bytes_eq word) other_words) 0 4)))

-- a word has one of the other bytes, and makes no keyword
record IsWord (word : List ℕ) : Type 0 where
  heavy : 1 ≤ weight word
  free : is_free_word word ≡ true

-- the same by tests
is_word : List ℕ → Bool
is_word word = nat_le 1 (weight word) && is_free_word word

word_tested : (word : List ℕ) → is_word word ≡ true → IsWord word
unfolding is_word
word_tested word h =
    let both = and_parts (nat_le 1 (weight word)) (is_free_word word) h in
    record { heavy = leb-true 1 (weight word) both.0; free = both.1 }

-- words that pass a test
all_tested : (P : List ℕ → Type 0) (test : List ℕ → Bool) (words : List (List ℕ))
    → ((word : List ℕ) → test word ≡ true → P word) → list_all test words ≡ true → AllByRecursion P words
all_tested P test [] each all = tt
all_tested P test (x ∷ xs) each all =
    let both = and_parts (test x) (list_all test xs) all in (each x both.0, all_tested P test xs each both.1)

-- ---- what each is

abbrev IsKind : ℕ → List ℕ → Type 0
IsKind k word = kind_of word ≡ k

procedures : (procs : ℕ) → AllByRecursion (IsKind 1) (numbered_labels (codes "p") procs)
unfolding kind_of
procedures procs = all_map (IsKind 1) (λ k. codes "p" ++ decimal k) (range_with_len 0 procs) (λ k. refl)

others : AllByRecursion (IsKind 0) other_words
unfolding kind_of
others = (refl, (refl, (refl, (refl, (refl, (refl, (refl, (refl, (refl, (refl, (refl, tt)))))))))))

fixed : AllByRecursion (IsKind 4) fixed_words
unfolding kind_of
fixed = (
  refl,
  (
    refl,
    (
      refl,
      (
        refl,
        (
          refl,
          (
            refl,
            (
              refl,
              (
                refl,
                (
                  refl,
                  (
                    refl,
                    (
                      refl,
                      (
                        refl,
                        (
                          refl,
                          (
                            refl,
                            (
                              refl,
                              (
                                refl,
                                (refl, (refl, (refl, (refl, (refl, tt))))),
                              ),
                            ),
                          ),
                        ),
                      ),
                    ),
                  ),
                ),
              ),
            ),
          ),
        ),
      ),
    ),
  ),
)

events : (es : List EventDecl) → AllByRecursion (IsKind 2) (event_words es)
unfolding kind_of
events es = all_events (IsKind 2) es (λ name. refl)

tests : (t : Tree) (n : Names) → AllByRecursion (IsKind 3) (test_words t n)
unfolding kind_of
tests t n = all_map (IsKind 3) (test_word t n) (range_with_len 1 (state_count t - 1)) (λ x. refl)

-- a weaker claim
weaken : (P Q : List ℕ → Type 0) (xs : List (List ℕ)) → ((x : List ℕ) → P x → Q x) → AllByRecursion P xs
    → AllByRecursion Q xs
weaken P Q [] each all = tt
weaken P Q (x ∷ xs) each all = (each x all.0, weaken P Q xs each all.1)

abbrev IsLow : List ℕ → Type 0
IsLow word = kind_of word ≤ 1

abbrev IsHigh : List ℕ → Type 0
IsHigh word = 2 ≤ kind_of word

calls_low : (procs : ℕ) → AllByRecursion IsLow (function_words procs)
calls_low procs = all_both IsLow (numbered_labels (codes "p") procs) other_words
    (weaken (IsKind 1) IsLow (numbered_labels (codes "p") procs) (λ x h. omega (arith, h)) (procedures procs))
    (weaken (IsKind 0) IsLow other_words (λ x h. omega (arith, h)) others)

rest_high : (K : Shape)
    → AllByRecursion IsHigh (fixed_words ++ (event_words K.names.events ++ test_words K.tree K.names))
rest_high K =
    all_both IsHigh fixed_words (event_words K.names.events ++ test_words K.tree K.names)
    (weaken (IsKind 4) IsHigh fixed_words (λ x h. omega (arith, h)) fixed)
    (all_both IsHigh (event_words K.names.events) (test_words K.tree K.names)
    (weaken (IsKind 2) IsHigh (event_words K.names.events) (λ x h. omega (arith, h)) (events K.names.events))
    (weaken (IsKind 3) IsHigh (test_words K.tree K.names) (λ x h. omega (arith, h)) (tests K.tree K.names)))

-- ---- pairwise different

tests_distinct : (t : Tree) (n : Names) → HasNamedTree t n → state_count t < 2 ^ 64 → AreDistinct (test_words t n)
tests_distinct t n h few i j li lj e =
    let f : ℕ → List ℕ = test_word t n in
    let m : ℕ = state_count t - 1 in
    let sized = length-map-range_with_len f 1 m in
    let below_i : i < m = omega (arith, li, sized) in
    let below_j : j < m = omega (arith, lj, sized) in
    let at_i = get_or-map-range_with_len f 1 m i (suc i) [] below_i (omega arith) in
    let at_j = get_or-map-range_with_len f 1 m j (suc j) [] below_j (omega arith) in
    let labels : state_label t n (suc i) ≡ state_label t n (suc j) =
    append_cancel_left (codes "in_") (state_label t n (suc i)) (state_label t n (suc j)) (sym at_i ∙ e ∙ at_j) in
    let same = one_label t n h.tree h.size h.names (suc i) (suc j) few (omega (arith, below_i))
    (omega (arith, below_j)) labels in
    omega (arith, same)

-- all words are
pub scope_words_distinct : (K : Shape) → HasNamedTree K.tree K.names → state_count K.tree < 2 ^ 64 → K.procs < 2 ^ 32
    → AreDistinct (scope_words K)
scope_words_distinct K h states few =
    let ofs : List (List ℕ) = event_words K.names.events in
    let ins : List (List ℕ) = test_words K.tree K.names in
    both_distinct (function_words K.procs) (fixed_words ++ (ofs ++ ins)) (words_distinct K.procs few)
    (both_distinct fixed_words (ofs ++ ins) (distinct_found fixed_words refl)
    (both_distinct ofs ins
    (events_distinct K.names.events
    (last_distinct (map (λ (v : Var). v.name) K.names.vars) (map (λ (e : EventDecl). e.name) K.names.events)
    h.names.distinct))
    (tests_distinct K.tree K.names h states)
    (other_kinds (IsKind 2) (IsKind 3) ofs ins
    (λ x y one two e. let same = ap kind_of e in omega (arith, one, two, same))
    (events K.names.events) (tests K.tree K.names)))
    (other_kinds (IsKind 4) IsEarly fixed_words (ofs ++ ins)
    (λ x y one two e. let same = ap kind_of e in omega (arith, one, two, same)) fixed
    (all_both IsEarly ofs ins
    (weaken (IsKind 2) IsEarly ofs (λ x one. omega (arith, one)) (events K.names.events))
    (weaken (IsKind 3) IsEarly ins (λ x one. omega (arith, one)) (tests K.tree K.names)))))
    (other_kinds IsLow IsHigh (function_words K.procs) (fixed_words ++ (ofs ++ ins))
    (λ x y one two e. let same = ap kind_of e in omega (arith, one, two, same)) (calls_low K.procs) (rest_high K))
  where
    IsEarly : List ℕ → Type 0
    IsEarly word = kind_of word ≤ 3

-- ---- each word has another byte, and makes no keyword

procedure_words : (procs : ℕ) → AllByRecursion IsWord (function_words procs)
unfolding weight
procedure_words procs = all_from IsWord (function_words procs) (λ i lt. record {
  heavy = all_at (λ word. 1 ≤ weight word) (function_words procs) i (all_heavy procs) lt;
  free = words_of_functions_free procs i lt;
})
  where
    all_heavy : (procs : ℕ) → AllByRecursion (λ word. 1 ≤ weight word) (function_words procs)
    all_heavy procs = all_both (λ word. 1 ≤ weight word) (numbered_labels (codes "p") procs) other_words
        (all_map (λ word. 1 ≤ weight word) (λ k. codes "p" ++ decimal k) (range_with_len 0 procs) (λ k. omega arith))
        (all_tested (λ word. 1 ≤ weight word) (λ word. nat_le 1 (weight word)) other_words
        (λ word h. leb-true 1 (weight word) h) refl)

fixed_are : AllByRecursion IsWord fixed_words
unfolding is_word weight lines mark
fixed_are = all_tested IsWord is_word fixed_words word_tested refl

-- a word with `_` makes no keyword
lined_free : (word : List ℕ) → 1 ≤ lines word → is_free_word word ≡ true
lined_free word some =
    ap (λ (b : Bool). b || not (is_last (mark 95 word))) (tested (lines word) some)
  where
    tested : (m : ℕ) → 1 ≤ m → nat_le 1 m ≡ true
    tested m h = grind (arith, nat_tests)

one_event : (name : List ℕ) → IsWord (codes "E_" ++ name)
unfolding weight lines
one_event name = record { heavy = omega arith; free = lined_free (codes "E_" ++ name) (omega arith) }

one_test : (t : Tree) (n : Names) (x : ℕ) → IsWord (test_word t n x)
unfolding weight lines
one_test t n x = record { heavy = omega arith; free = lined_free (test_word t n x) (omega arith) }

all_words : (K : Shape) → AllByRecursion IsWord (scope_words K)
all_words K =
    let ofs : List (List ℕ) = event_words K.names.events in
    let ins : List (List ℕ) = test_words K.tree K.names in
    all_both IsWord (function_words K.procs) (fixed_words ++ (ofs ++ ins)) (procedure_words K.procs)
    (all_both IsWord fixed_words (ofs ++ ins) fixed_are
    (all_both IsWord ofs ins (all_events IsWord K.names.events one_event)
    (all_map IsWord (test_word K.tree K.names) (range_with_len 1 (state_count K.tree - 1))
    (one_test K.tree K.names))))

-- ---- the name that is replaced

guard_weight : (chart : List ℕ) → weight (guard_of_chart chart) ≡ weight (stem chart)
unfolding guard_of_chart weight
guard_weight chart =
    let rest = weight-append (stem chart) (codes "__H") in omega (arith, rest)

guard_other : (chart word : List ℕ) → IsWord word → guard_of_chart chart ≢ name_of_chart chart word
unfolding name_of_chart weight
guard_other chart word is e =
    let all = weight-append (stem chart) (95 ∷ word) in
    let same = ap weight e in
    omega (arith, guard_weight chart, all, same, is.heavy)

-- all names of the file scope are pairwise different
pub scope_distinct : (chart : List ℕ) (K : Shape) → HasNamedTree K.tree K.names → state_count K.tree < 2 ^ 64
    → K.procs < 2 ^ 32 → AreDistinct (scope_labels chart K)
scope_distinct chart K h states few =
    one_more (guard_of_chart chart) (map (name_of_chart chart) (scope_words K))
    (all_after IsWord (λ y. guard_of_chart chart ≢ y) (name_of_chart chart) (scope_words K) (guard_other chart)
    (all_words K))
    (names_distinct chart (scope_words K) (scope_words_distinct K h states few))

-- ---- no keywords

-- a name that begins otherwise than the one that is replaced
begins_otherwise : List ℕ → Bool
begins_otherwise name = not (nat_eq (get_or name 0 0) 70)

keywords_other : list_all begins_otherwise keywords ≡ true
unfolding begins_otherwise
keywords_other = refl

guard_free : (chart : List ℕ) → is_keyword (guard_of_chart chart) ≡ false
unfolding is_keyword guard_of_chart begins_otherwise
guard_free chart = none_of begins_otherwise keywords (guard_of_chart chart) keywords_other refl

none_free : is_keyword [] ≡ false
unfolding is_keyword
none_free = refl

-- no name of the file scope is a keyword
pub scope_free : (chart : List ℕ) (K : Shape) (i : ℕ) → is_keyword (get_or (scope_labels chart K) i []) ≡ false
scope_free chart K zero = guard_free chart
scope_free chart K (suc i) = ⊎_elim
    (λ li. ap is_keyword (get_or-map (name_of_chart chart) (scope_words K) i [] [] li)
    ∙ name_free chart (get_or (scope_words K) i []) (all_at IsWord (scope_words K) i (all_words K) li).free)
    (λ pi. ap is_keyword (get_or_past (map (name_of_chart chart) (scope_words K)) i []
    (omega (arith, pi, length-map (scope_words K) (name_of_chart chart)))) ∙ none_free)
    (cases_lt i (length (scope_words K)))
