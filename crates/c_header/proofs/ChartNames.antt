-- A name at file scope tells the chart of whose files it is.
use Rattle.std.proofs.Common.{◌≡◌, ◌≢◌, ℕ, zero, suc, ◌-◌, ◌≤◌, ◌<◌, Bool, true, false, ◌||◌, cond, List, [], ◌∷◌, ◌++◌}
use Rattle.std.proofs.Common.{length, get_or, refl, sym, ap, ◌∙◌, arith}
use Rattle.std.specs.Prelude.{codes, decimal, nat_eq}
use Rattle.std.specs.List.{AllByRecursion, list_any, range_with_len, starts_with}
use Rattle.std.specs.Str.{bytes_eq}
use Rattle.std.proofs.lemmas.Bool.Decides.{Decides-eqb}
use Rattle.std.proofs.lemmas.List.{append_cancel_left, append_cancel_right, get_or-map, length-map}
use Rattle.std.proofs.lemmas.Slice.Eq.{starts_is}
use Rattle.active_config.specs.Tree.{state_count}
use Rattle.chart_lexer.specs.Words.{is_name}
use Rattle.c_functions.specs.Plans.{Shape}
use Rattle.c_names.specs.Reserved.{begins_reserved}
use Rattle.c_names.specs.Stems.{taken_names, is_taken, stem, doubled, name_of_chart, guard_of_chart}
use Rattle.c_text.specs.Labels.{numbered_labels, other_words, function_words}
use Rattle.c_header.specs.Scope.{event_words, test_word, test_words, fixed_words, scope_words, scope_labels}
use Rattle.c_header.proofs.NameLists.{all_at, all_both, all_map, all_events}
use Rattle.c_header.proofs.PathNames.{push, push_all, parts, pushed-first, doubled-parts, single, IsPart, part_of_name}

-- ---- a chart's name in names of C is read as it was

-- what stands in these names, before `_` are doubled
unfoldable pub front : List ℕ → List ℕ
front chart = cond (is_taken chart) (codes "flow_" ++ chart) chart

pub push-append : (xs ys : List ℕ) (zs : List (List ℕ)) → push_all (xs ++ ys) zs ≡ push_all xs (push_all ys zs)
unfolding push_all
push-append [] ys zs = refl
push-append (x ∷ xs) ys zs = ap (push x) (push-append xs ys zs)

stem_parts : (chart rest : List ℕ) → IsPart chart
    → parts false (stem chart ++ rest) ≡ push_all (front chart) (parts false rest)
unfolding stem front parts push_all
stem_parts chart rest p = at (is_taken chart)
  where
    at : (b : Bool) → parts false (cond b (codes "flow__" ++ doubled chart) (doubled chart) ++ rest)
        ≡ push_all (cond b (codes "flow_" ++ chart) chart) (parts false rest)
    at true = ap (push_all (codes "flow_")) (doubled-parts chart rest p)
    at false = doubled-parts chart rest p

-- a word doesn't begin with `_`
abbrev pub IsPlain : List ℕ → Type 0
IsPlain word = nat_eq (get_or word 0 95) 95 ≡ false

-- a name is read as the chart's name, and the word
pub name_parts : (chart word : List ℕ) → IsPart chart → IsPlain word
    → parts false (name_of_chart chart word) ≡ front chart ∷ parts false word
unfolding name_of_chart parts
name_parts chart [] p plain = absurd cc
name_parts chart (c ∷ cs) p plain =
    stem_parts chart (95 ∷ c ∷ cs) p ∙ ap (push_all (front chart)) (single c cs plain)
    ∙ pushed-first (front chart) (parts false (c ∷ cs))

-- and the name that is replaced as one name
guard_parts : (chart : List ℕ) → IsPart chart
    → parts false (guard_of_chart chart) ≡ (codes "FLOW_" ++ (front chart ++ codes "_H")) ∷ []
unfolding guard_of_chart parts push_all push
guard_parts chart p =
    ap (push_all (codes "FLOW_")) (stem_parts chart (codes "__H") p
    ∙ sym (push-append (front chart) (codes "_H") ([] ∷ [])))
    ∙ sym (push-append (codes "FLOW_") (front chart ++ codes "_H") ([] ∷ []))
    ∙ pushed-first (codes "FLOW_" ++ (front chart ++ codes "_H")) []

-- ---- the chart is told

last_of_three : (a b c : Bool) → c ≡ true → (a || (b || c)) ≡ true
last_of_three true b c h = refl
last_of_three false true c h = refl
last_of_three false false c h = h

-- a name that begins so is taken
begins_taken : (chart : List ℕ) → is_taken (codes "flow_" ++ chart) ≡ true
unfolding is_taken
begins_taken chart =
    last_of_three (list_any (bytes_eq (codes "flow_" ++ chart)) taken_names)
    (begins_reserved (codes "flow_" ++ chart)) (starts_with nat_eq (codes "flow_" ++ chart) (codes "flow_"))
    ((starts_is Decides-eqb (codes "flow_" ++ chart) (codes "flow_")
    (starts_with nat_eq (codes "flow_" ++ chart) (codes "flow_")) refl).1 chart refl)

pub front_told : (one other : List ℕ) → front one ≡ front other → one ≡ other
unfolding front
front_told one other e = at (is_taken one) (is_taken other) refl refl e
  where
    never : (x y : List ℕ) → is_taken y ≡ false → codes "flow_" ++ x ≡ y → ⊥
    never x y free same = let taken = ap is_taken (sym same) ∙ begins_taken x in cc

    at : (a b : Bool) → is_taken one ≡ a → is_taken other ≡ b
        → cond a (codes "flow_" ++ one) one ≡ cond b (codes "flow_" ++ other) other → one ≡ other
    at true true p q same = append_cancel_left (codes "flow_") one other same
    at true false p q same = absurd (never one other q same)
    at false true p q same = absurd (never other one p (sym same))
    at false false p q same = same

-- none is read as one of the names that are taken
pub taken_front : (chart name : List ℕ) → list_any (bytes_eq name) taken_names ≡ true → get_or name 0 0 ≢ 102
    → front chart ≢ name
unfolding front is_taken
taken_front chart name among other e = at (is_taken chart) refl e
  where
    at : (b : Bool) → is_taken chart ≡ b → cond b (codes "flow_" ++ chart) chart ≡ name → ⊥
    at true is same = other (sym (ap (λ (t : List ℕ). get_or t 0 0) same))
    at false is same =
        let taken : is_taken chart ≡ true =
        ap is_taken same
        ∙ ap (λ (b : Bool). b || (begins_reserved name || starts_with nat_eq name (codes "flow_"))) among in
        cc

-- as `va`
pub va_taken : (chart : List ℕ) → front chart ≡ codes "va" → ⊥
va_taken chart = taken_front chart (codes "va") refl (λ e. omega (arith, e))

-- a text has at least one part
some_parts : (b : Bool) (text : List ℕ) → 1 ≤ length (parts b text)
unfolding parts push
some_parts false [] = omega arith
some_parts true [] = omega arith
some_parts false (c ∷ cs) = at (nat_eq c 95) (parts true cs) (parts false cs) (some_parts true cs)
  where
    at : (b : Bool) (xs ys : List (List ℕ)) → 1 ≤ length xs → 1 ≤ length (cond b xs (push c ys))
    at true xs ys h = h
    at false xs [] h = omega arith
    at false xs (y ∷ ys) h = omega arith
some_parts true (c ∷ cs) = at (nat_eq c 95) (parts false cs)
  where
    at : (b : Bool) (ys : List (List ℕ)) → 1 ≤ length (cond b (push 95 ys) ([] ∷ push c ys))
    at true [] = omega arith
    at true (y ∷ ys) = omega arith
    at false ys = omega arith

module _ (one other : List ℕ) (p : IsPart one) (q : IsPart other) where
  names_tell : (v w : List ℕ) → IsPlain v → IsPlain w → name_of_chart one v ≡ name_of_chart other w → one ≡ other
  names_tell v w plain_v plain_w e =
      front_told one other
      (ap (λ (names : List (List ℕ)). get_or names 0 [])
      (sym (name_parts one v p plain_v) ∙ ap (parts false) e ∙ name_parts other w q plain_w))

  guards_tell : guard_of_chart one ≡ guard_of_chart other → one ≡ other
  guards_tell e =
      front_told one other
      (append_cancel_right (front one) (front other) (codes "_H")
      (append_cancel_left (codes "FLOW_") (front one ++ codes "_H") (front other ++ codes "_H")
      (ap (λ (names : List (List ℕ)). get_or names 0 [])
      (sym (guard_parts one p) ∙ ap (parts false) e ∙ guard_parts other q))))

  guard_no_name : (w : List ℕ) → IsPlain w → guard_of_chart one ≢ name_of_chart other w
  guard_no_name w plain e =
      let same = ap (λ (names : List (List ℕ)). length names)
      (sym (guard_parts one p) ∙ ap (parts false) e ∙ name_parts other w q plain) in
      let some = some_parts false w in
      omega (arith, same, some)

-- ---- the words

plain_calls : AllByRecursion IsPlain other_words
plain_calls = (refl, (refl, (refl, (refl, (refl, (refl, (refl, (refl, (refl, (refl, (refl, tt)))))))))))

plain_fixed : AllByRecursion IsPlain fixed_words
plain_fixed = (
  refl,
  (
    refl,
    (
      refl,
      (
        refl,
        (
          refl,
          (
            refl,
            (
              refl,
              (
                refl,
                (
                  refl,
                  (
                    refl,
                    (
                      refl,
                      (
                        refl,
                        (
                          refl,
                          (
                            refl,
                            (
                              refl,
                              (
                                refl,
                                (refl, (refl, (refl, (refl, (refl, tt))))),
                              ),
                            ),
                          ),
                        ),
                      ),
                    ),
                  ),
                ),
              ),
            ),
          ),
        ),
      ),
    ),
  ),
)

pub plain_words : (K : Shape) → AllByRecursion IsPlain (scope_words K)
plain_words K =
    let ofs : List (List ℕ) = event_words K.names.events in
    let ins : List (List ℕ) = test_words K.tree K.names in
    all_both IsPlain (function_words K.procs) (fixed_words ++ (ofs ++ ins))
    (all_both IsPlain (numbered_labels (codes "p") K.procs) other_words
    (all_map IsPlain (λ k. codes "p" ++ decimal k) (range_with_len 0 K.procs) (λ k. refl)) plain_calls)
    (all_both IsPlain fixed_words (ofs ++ ins) plain_fixed
    (all_both IsPlain ofs ins (all_events IsPlain K.names.events (λ name. refl))
    (all_map IsPlain (test_word K.tree K.names) (range_with_len 1 (state_count K.tree - 1)) (λ x. refl))))

-- a name of the files of two charts tells that they have one name
module _ (one other : List ℕ) (K M : Shape) (p : is_name one ≡ true) (q : is_name other ≡ true) where
  word_at : (chart : List ℕ) (H : Shape) (i : ℕ) → suc i < length (scope_labels chart H)
      → (i < length (scope_words H))
      × (get_or (scope_labels chart H) (suc i) [] ≡ name_of_chart chart (get_or (scope_words H) i []))
  word_at chart H i within =
      let lt : i < length (scope_words H) =
      omega (arith, within, length-map (scope_words H) (name_of_chart chart)) in
      (lt, get_or-map (name_of_chart chart) (scope_words H) i [] [] lt)

  pub one_chart : (i j : ℕ) → i < length (scope_labels one K) → j < length (scope_labels other M)
      → get_or (scope_labels one K) i [] ≡ get_or (scope_labels other M) j [] → one ≡ other
  one_chart zero zero li lj e = guards_tell one other (part_of_name one p) (part_of_name other q) e
  one_chart zero (suc j) li lj e =
      let at = word_at other M j lj in
      absurd (guard_no_name one other (part_of_name one p) (part_of_name other q) (get_or (scope_words M) j [])
      (all_at IsPlain (scope_words M) j (plain_words M) at.0) (e ∙ at.1))
  one_chart (suc i) zero li lj e =
      let at = word_at one K i li in
      absurd (guard_no_name other one (part_of_name other q) (part_of_name one p) (get_or (scope_words K) i [])
      (all_at IsPlain (scope_words K) i (plain_words K) at.0) (sym e ∙ at.1))
  one_chart (suc i) (suc j) li lj e =
      let here = word_at one K i li in
      let there = word_at other M j lj in
      names_tell one other (part_of_name one p) (part_of_name other q) (get_or (scope_words K) i [])
      (get_or (scope_words M) j []) (all_at IsPlain (scope_words K) i (plain_words K) here.0)
      (all_at IsPlain (scope_words M) j (plain_words M) there.0) (sym here.1 ∙ e ∙ there.1)
