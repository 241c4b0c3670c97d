-- The struct of the header has the fields and arrays of that of the file.
use Rattle.std.proofs.Common.{◌≡◌, ℕ, zero, suc, ◌+◌, ◌/◌, ◌%◌, ◌==◌, ◌<◌, ◌≤◌, Bool, true, false, cond, List, [], ◌∷◌}
use Rattle.std.proofs.Common.{◌++◌, length, map, replicate, drop, get_or, refl, sym, ap, ◌∙◌, arith, append_assoc}
use Rattle.std.proofs.Common.{drop-cons}
use Rattle.std.specs.Prelude.{codes, decimal}
use Rattle.std.specs.List.{list_all, AllByRecursion}
use Rattle.std.proofs.lemmas.Bool.Decides.{nat_tests}
use Rattle.std.proofs.lemmas.List.{append-nil, length-append, length-map, length-replicate, drop_all}
use Rattle.active_config.specs.Tree.{IsTree, state_count, comp_of, is_or}
use Rattle.actions.specs.declared.names.Var.{Var}
use Rattle.chart_lexer.specs.Words.{is_name}
use Rattle.code_fields.specs.Spelling.{var_kind_word}
use Rattle.chart_parts.specs.Plain.{IsPlain}
use Rattle.chart_parts.proofs.PlainLemmas.{tested, plain_append}
use Rattle.c_subset.specs.declared.trees.CType.{CType}
use Rattle.c_subset.specs.declared.trees.CType.TheVariants.{Unsigned}
use Rattle.c_subset.specs.declared.trees.Width.TheVariants.{W16, W32}
use Rattle.c_functions.specs.Claims.{field_type}
use Rattle.c_functions.specs.Layout.{or_count, or_rank}
use Rattle.c_functions.specs.Plans.{Shape}
use Rattle.c_text.specs.Labels.{Labels, labels_for, field_types, field_labels, field_label, type_of_field, row_labels}
use Rattle.c_names.specs.Stems.{name_of_chart}
use Rattle.c_text.specs.Types.{type_text}
use Rattle.c_text.proofs.RankLemmas.{rank-none, rank-more, rank-same, rank-all}
use Rattle.c_text.proofs.TypeLemmas.{types_of_fields, names_of_fields}
use Rattle.c_header.specs.declared.states.About.TheVariants.{Active, Remembered, Bits}
use Rattle.c_header.specs.Paths.{place_text}
use Rattle.c_header.specs.Fields.{texts_below, field_start, field_line, values_text, datum_line, data_text}
use Rattle.c_header.specs.Fields.{used_words, counters_text, children_text, active_field, last_field, bits_line}
use Rattle.c_header.specs.Header.{states_text, rows_text, values_fields, states_fields, struct_text}
use Rattle.c_header.proofs.CommentLemmas.{all_after, all_tested, place_plain, datum_plain, inside_of, inside_append}
use Rattle.c_header.proofs.CommentLemmas.{inside_all, children_inside}
use Rattle.c_header.proofs.NameLists.{all_both}
use Rattle.c_header.specs.Struct.{DeclaresStruct, IsAny, IsInside, struct_fields, struct_rows, member_text, members_text}
use Rattle.c_header.specs.Struct.{arrays_text}

-- all texts are texts
all_any : (texts : List (List ℕ)) → AllByRecursion IsAny texts
all_any [] = tt
all_any (text ∷ texts) = (tt, all_any texts)

-- ---- lines of fields, from a number on

abbrev lines_from : Labels → ℕ → List (List ℕ) → List ℕ
lines_from L f [] = []
lines_from L f (c ∷ cs) = field_line L f c ++ lines_from L (f + 1) cs

-- some lines, and then others
lines-append : (L : Labels) (f g : ℕ) (xs ys : List (List ℕ)) → g ≡ f + length xs
    → lines_from L f (xs ++ ys) ≡ lines_from L f xs ++ lines_from L g ys
lines-append L f g [] ys at = ap (λ (n : ℕ). lines_from L n ys) (omega (arith, at))
lines-append L f g (x ∷ xs) ys at =
    ap (λ (t : List ℕ). field_line L f x ++ t) (lines-append L (f + 1) g xs ys (omega (arith, at)))
    ∙ sym (append_assoc (field_line L f x) (lines_from L (f + 1) xs) (lines_from L g ys))

-- a line declares the field with its type and its name
line_is : (L : Labels) (f : ℕ) (c : List ℕ)
    → field_line L f c ≡ member_text L.chart (type_of_field L f) (field_label L f) c
unfolding field_start member_text
line_is L f c =
    let rest : List ℕ = c ++ codes " */\n" in
    let name : List ℕ = field_label L f in
    let type : List ℕ = type_text L.chart (type_of_field L f) in
    ap (λ (t : List ℕ). codes "    " ++ t)
    (append_assoc type (32 ∷ (name ++ codes "; /* ")) rest
    ∙ ap (λ (t : List ℕ). type ++ (32 ∷ t)) (append_assoc name (codes "; /* ") rest))

-- the next item, and those after it
next : {X : Type 0} (xs : List X) (f : ℕ) (d : X) → f < length xs → drop f xs ≡ get_or xs f d ∷ drop (f + 1) xs
next xs f d within =
    let one : suc f ≡ f + 1 = omega arith in
    drop-cons xs f d within ∙ ap (λ (n : ℕ). get_or xs f d ∷ drop n xs) one

-- lines for all fields from one on
lines_are : (L : Labels) (cs : List (List ℕ)) (f : ℕ) → f + length cs ≡ length (field_types L)
    → length (field_labels L) ≡ length (field_types L)
    → lines_from L f cs ≡ members_text L.chart (drop f (field_types L)) (drop f (field_labels L)) cs
unfolding type_of_field field_label
lines_are L [] f all sized = sym (ap (λ (ts : List CType). members_text L.chart ts (drop f (field_labels L)) [])
    (drop_all f (field_types L) (omega (arith, all))))
lines_are L (c ∷ cs) f all sized =
    let ts : List CType = field_types L in
    let names : List (List ℕ) = field_labels L in
    let types_at = next ts f (Unsigned W32) (omega (arith, all)) in
    let names_at = next names f [] (omega (arith, all, sized)) in
    ap (λ (t : List ℕ). t ++ lines_from L (f + 1) cs) (line_is L f c)
    ∙ ap (λ (t : List ℕ). member_text L.chart (type_of_field L f) (field_label L f) c ++ t)
    (lines_are L cs (f + 1) (omega (arith, all)) sized)
    ∙ sym (ap (λ (us : List CType). members_text L.chart us (drop f names) (c ∷ cs)) types_at
    ∙ ap (λ (ns : List (List ℕ)). members_text L.chart (get_or ts f (Unsigned W32) ∷ drop (f + 1) ts) ns (c ∷ cs)) names_at)

-- ---- data and counters

datum_comment : Var → List ℕ
datum_comment v = var_kind_word v.kind ++ values_text v.sort

data_lines : (L : Labels) (f : ℕ) (vars : List Var) → data_text L f vars ≡ lines_from L f (map datum_comment vars)
unfolding datum_comment
data_lines L f [] = refl
data_lines L f (v ∷ vars) = ap (λ (t : List ℕ). datum_line L f v ++ t) (data_lines L (f + 1) vars)

-- their comments are plain
data_plain : (vars : List Var) → AllByRecursion IsPlain (map datum_comment vars)
unfolding datum_comment
data_plain [] = tt
data_plain (v ∷ vars) = (datum_plain v, data_plain vars)

counter_comments : Bool → List (List ℕ)
counter_comments counted =
    used_words counted ∷ codes "how many events it emitted" ∷ codes "how many entries of note[] are in use"
    ∷ codes "its fault" ∷ codes "the datum that overflowed, by its number from 0"
    ∷ codes "whether a run goes on: 0 before it and after a fault" ∷ []

counter_lines : (L : Labels) (counted : Bool) (f : ℕ)
    → counters_text L counted f ≡ lines_from L f (counter_comments counted)
unfolding counters_text counter_comments
counter_lines L counted f =
    let two : f + 2 ≡ f + 1 + 1 = omega arith in
    let three : f + 3 ≡ f + 1 + 1 + 1 = omega arith in
    let four : f + 4 ≡ f + 1 + 1 + 1 + 1 = omega arith in
    let five : f + 5 ≡ f + 1 + 1 + 1 + 1 + 1 = omega arith in
    let last : List ℕ = codes "whether a run goes on: 0 before it and after a fault" in
    rw (two, three, four, five, append-nil (field_line L (f + 1 + 1 + 1 + 1 + 1) last)) refl

counters_plain : (counted : Bool) → AllByRecursion IsPlain (counter_comments counted)
unfolding counter_comments
counters_plain true = all_tested (counter_comments true) refl
counters_plain false = all_tested (counter_comments false) refl

-- ---- numbers that pass a test

module _ (L : Labels) (first : ℕ) (test : ℕ → Bool) (rank : ℕ → ℕ) (comment : ℕ → List ℕ) (text : ℕ → List ℕ) where
  -- the comments of those below a number
  abbrev comments_below : ℕ → List (List ℕ)
  comments_below zero = []
  comments_below (suc n) = comments_below n ++ cond (test n) (comment n ∷ []) []

  -- no comment of C ends in them where none does in each
  inside_below : ((x : ℕ) → IsInside (comment x)) → (n : ℕ) → AllByRecursion IsInside (comments_below n)
  inside_below each zero = tt
  inside_below each (suc n) =
      all_both IsInside (comments_below n) (cond (test n) (comment n ∷ []) []) (inside_below each n)
      (one_inside (test n) (each n))
    where
      one_inside : (b : Bool) → IsInside (comment n) → AllByRecursion IsInside (cond b (comment n ∷ []) [])
      one_inside true h = (h, tt)
      one_inside false h = tt

  -- a field for each of them, one after the other
  record HasLines (limit : ℕ) : Type 0 where
    none : rank 0 ≡ 0
    more : (n : ℕ) → n < limit → test n ≡ true → rank (suc n) ≡ suc (rank n)
    same : (n : ℕ) → n < limit → test n ≡ false → rank (suc n) ≡ rank n
    line : (n : ℕ) → test n ≡ true → text n ≡ field_line L (first + rank n) (comment n)

  lines_below : (n limit : ℕ) → n ≤ limit → HasLines limit
      → (texts_below (λ x. cond (test x) (text x) []) n ≡ lines_from L first (comments_below n))
      × (length (comments_below n) ≡ rank n)
  lines_below zero limit le h = (refl, sym h.none)
  lines_below (suc n) limit le h = by (test n) refl (lines_below n limit (omega (arith, le)) h)
    where
      Lines : Bool → Type 0
      Lines b = (texts_below (λ x. cond (test x) (text x) []) n ++ cond b (text n) []
          ≡ lines_from L first (comments_below n ++ cond b (comment n ∷ []) []))
          × (length (comments_below n ++ cond b (comment n ∷ []) []) ≡ rank (suc n))

      by : (b : Bool) → test n ≡ b
          → (texts_below (λ x. cond (test x) (text x) []) n ≡ lines_from L first (comments_below n))
          × (length (comments_below n) ≡ rank n) → Lines b
      by true is up = (
        ap (λ (t : List ℕ). t ++ text n) up.0
            ∙ ap (λ (t : List ℕ). lines_from L first (comments_below n) ++ t)
            (h.line n is ∙ sym (append-nil (field_line L (first + rank n) (comment n))))
            ∙ sym (lines-append L first (first + rank n) (comments_below n) (comment n ∷ []) (omega (arith, up.1))),
        length-append (comments_below n) (comment n ∷ []) ∙ omega (arith, up.1, h.more n (omega (arith, le)) is),
      )
      by false is up = (
        append-nil (texts_below (λ x. cond (test x) (text x) []) n) ∙ up.0
            ∙ ap (lines_from L first) (sym (append-nil (comments_below n))),
        length-append (comments_below n) [] ∙ omega (arith, up.1, h.same n (omega (arith, le)) is),
      )

-- ---- states

module _ (chart : List ℕ) (K : Shape) (tree : IsTree K.tree) where
  abbrev labels : Labels
  labels = labels_for chart K.names K.tree K.procs

  -- whether a state is an OR, and whether a word of bits begins with it
  abbrev has_child : ℕ → Bool
  has_child x = is_or (comp_of K.tree x)

  abbrev begins_word : ℕ → Bool
  begins_word x = x % 32 == 0

  active_comment : ℕ → List ℕ
  active_comment p = codes "the active child of " ++ (place_text chart K.tree K.names p ++ children_text K p)

  last_comment : ℕ → List ℕ
  last_comment p = codes "the child that " ++ (place_text chart K.tree K.names p ++ codes " remembers")

  bits_comment : ℕ → List ℕ
  bits_comment x = codes "bits of the other states"

  -- no comment ends in these where the names of chart and states are names
  active_inside : IsPlain chart → list_all is_name K.names.states ≡ true → (p : ℕ) → IsInside (active_comment p)
  unfolding active_comment
  active_inside plain named p =
      inside_append (codes "the active child of ") (place_text chart K.tree K.names p ++ children_text K p)
      (inside_of (codes "the active child of ") (tested (codes "the active child of ") refl))
      (inside_append (place_text chart K.tree K.names p) (children_text K p)
      (inside_of (place_text chart K.tree K.names p) (place_plain K.tree K.names named chart plain p))
      (children_inside K named p))

  last_plain : IsPlain chart → list_all is_name K.names.states ≡ true → (p : ℕ) → IsPlain (last_comment p)
  unfolding last_comment
  last_plain plain named p =
      plain_append (codes "the child that ") (place_text chart K.tree K.names p ++ codes " remembers")
      (tested (codes "the child that ") refl)
      (plain_append (place_text chart K.tree K.names p) (codes " remembers")
      (place_plain K.tree K.names named chart plain p) (tested (codes " remembers") refl))

  bits_plain : (x : ℕ) → IsPlain (bits_comment x)
  unfolding bits_comment
  bits_plain x = tested (codes "bits of the other states") refl

  active_line : (p : ℕ) → active_field chart labels K p
      ≡ field_line labels (length K.names.vars + 6 + or_rank K.tree p) (active_comment p)
  unfolding active_field active_comment
  active_line p =
      ap (λ (t : List ℕ). field_start labels (length K.names.vars + 6 + or_rank K.tree p)
      ++ (codes "the active child of " ++ t))
      (sym (append_assoc (place_text chart K.tree K.names p) (children_text K p) (codes " */\n")))

  last_line : (p : ℕ) → last_field chart labels K p
      ≡ field_line labels (length K.names.vars + 6 + or_count K.tree + or_rank K.tree p) (last_comment p)
  unfolding last_field last_comment
  last_line p =
      ap (λ (t : List ℕ). field_start labels (length K.names.vars + 6 + or_count K.tree + or_rank K.tree p)
      ++ (codes "the child that " ++ t))
      (sym (append_assoc (place_text chart K.tree K.names p) (codes " remembers") (codes " */\n")))

  more_ors : (n : ℕ) → n < state_count K.tree → has_child n ≡ true → or_rank K.tree (suc n) ≡ suc (or_rank K.tree n)
  more_ors n lt is =
      let one : suc n ≡ n + 1 = omega arith in
      let up = rank-more K.tree n (omega (arith, lt, tree.same_length)) is in
      ap (or_rank K.tree) one ∙ up ∙ omega arith

  same_ors : (n : ℕ) → n < state_count K.tree → has_child n ≡ false → or_rank K.tree (suc n) ≡ or_rank K.tree n
  same_ors n lt is =
      let one : suc n ≡ n + 1 = omega arith in
      ap (or_rank K.tree) one ∙ rank-same K.tree n (omega (arith, lt, tree.same_length)) is

  -- the fields of active children
  abbrev actives : List (List ℕ)
  actives = comments_below labels 0 has_child (or_rank K.tree) active_comment (active_field chart labels K)
      (state_count K.tree)

  active_lines : (states_text chart labels K Active ≡ lines_from labels (length K.names.vars + 6) actives)
      × (length actives ≡ or_rank K.tree (state_count K.tree))
  unfolding states_text
  active_lines = lines_below labels (length K.names.vars + 6) has_child (or_rank K.tree) active_comment
      (active_field chart labels K) (state_count K.tree) (state_count K.tree) (omega arith) (record {
        none = rank-none K.tree;
        more = more_ors;
        same = same_ors;
        line = λ n is. active_line n;
      })

  -- those of remembered ones
  abbrev lasts : List (List ℕ)
  lasts = comments_below labels 0 has_child (or_rank K.tree) last_comment (last_field chart labels K)
      (state_count K.tree)

  last_lines : (states_text chart labels K Remembered
      ≡ lines_from labels (length K.names.vars + 6 + or_count K.tree) lasts)
      × (length lasts ≡ or_rank K.tree (state_count K.tree))
  unfolding states_text
  last_lines = lines_below labels (length K.names.vars + 6 + or_count K.tree) has_child (or_rank K.tree) last_comment
      (last_field chart labels K) (state_count K.tree) (state_count K.tree) (omega arith) (record {
        none = rank-none K.tree;
        more = more_ors;
        same = same_ors;
        line = λ n is. last_line n;
      })

  -- words of bits
  abbrev first_word : ℕ
  first_word = length K.names.vars + 6 + or_count K.tree + or_count K.tree

  word_text : ℕ → List ℕ
  word_text x = field_line labels (first_word + x / 32) (codes "bits of the other states")

  abbrev words : List (List ℕ)
  words = comments_below labels 0 begins_word (λ n. (n + 31) / 32) bits_comment word_text (state_count K.tree)

  same_test : (n : ℕ) → (n % 32 == 0) ≡ true → n % 32 ≡ 0
  same_test n h = grind (arith, nat_tests)

  other_test : (n : ℕ) → (n % 32 == 0) ≡ false → 0 < n % 32
  other_test n h = grind (arith, nat_tests)

  word_lines : (states_text chart labels K Bits ≡ lines_from labels first_word words)
      × (length words ≡ (state_count K.tree + 31) / 32)
  unfolding states_text bits_line word_text bits_comment
  word_lines = lines_below labels first_word begins_word (λ n. (n + 31) / 32) bits_comment word_text
      (state_count K.tree) (state_count K.tree) (omega arith) (record {
        none = omega arith;
        more = λ n lt is. let zero_left = same_test n is in omega (arith, zero_left);
        same = λ n lt is. let some_left = other_test n is in omega (arith, some_left);
        line = λ n is. let zero_left = same_test n is in
            let place : first_word + n / 32 ≡ first_word + (n + 31) / 32 = omega (arith, zero_left) in
            ap (λ (f : ℕ). field_line labels f (codes "bits of the other states")) place;
      })

  -- ---- the struct

  abbrev value_comments : List (List ℕ)
  value_comments = map datum_comment K.names.vars ++ counter_comments K.tests.steps

  abbrev all_comments : List (List ℕ)
  all_comments = value_comments ++ (actives ++ (lasts ++ words))

  all_inside : IsPlain chart → list_all is_name K.names.states ≡ true → AllByRecursion IsInside all_comments
  all_inside plain named =
      all_both IsInside value_comments (actives ++ (lasts ++ words))
      (inside_all value_comments
      (all_after (map datum_comment K.names.vars) (counter_comments K.tests.steps) (data_plain K.names.vars)
      (counters_plain K.tests.steps)))
      (all_both IsInside actives (lasts ++ words)
      (inside_below labels 0 has_child (or_rank K.tree) active_comment (active_field chart labels K)
      (active_inside plain named) (state_count K.tree))
      (all_both IsInside lasts words
      (inside_below labels 0 has_child (or_rank K.tree) last_comment (last_field chart labels K)
      (λ p. inside_of (last_comment p) (last_plain plain named p)) (state_count K.tree))
      (inside_below labels first_word begins_word (λ n. (n + 31) / 32) bits_comment word_text
      (λ x. inside_of (bits_comment x) (bits_plain x)) (state_count K.tree))))

  value_lines : values_fields labels K ≡ lines_from labels 0 value_comments
  unfolding values_fields
  value_lines =
      ap (λ (t : List ℕ). t ++ counters_text labels K.tests.steps (length K.names.vars))
      (data_lines labels 0 K.names.vars)
      ∙ ap (λ (t : List ℕ). lines_from labels 0 (map datum_comment K.names.vars) ++ t)
      (counter_lines labels K.tests.steps (length K.names.vars))
      ∙ sym (lines-append labels 0 (length K.names.vars) (map datum_comment K.names.vars)
      (counter_comments K.tests.steps) (omega (arith, length-map K.names.vars datum_comment)))

  ors_counted : or_rank K.tree (state_count K.tree) ≡ or_count K.tree
  ors_counted = rank-all K.tree (state_count K.tree) (omega (arith, tree.same_length))

  values_size : length value_comments ≡ length K.names.vars + 6
  unfolding counter_comments
  values_size = length-append (map datum_comment K.names.vars) (counter_comments K.tests.steps)
      ∙ omega (arith, length-map K.names.vars datum_comment)

  state_lines : states_fields chart labels K ≡ lines_from labels (length K.names.vars + 6) (actives ++ (lasts ++ words))
  unfolding states_fields
  state_lines =
      let one = active_lines in
      let two = last_lines in
      let three = word_lines in
      let first : ℕ = length K.names.vars + 6 in
      ap (λ (t : List ℕ). t ++ (states_text chart labels K Remembered ++ states_text chart labels K Bits)) one.0
      ∙ ap (λ (t : List ℕ). lines_from labels first actives ++ (t ++ states_text chart labels K Bits)) two.0
      ∙ ap (λ (t : List ℕ). lines_from labels first actives ++ (lines_from labels (first + or_count K.tree) lasts ++ t))
      three.0
      ∙ ap (λ (t : List ℕ). lines_from labels first actives ++ t)
      (sym (lines-append labels (first + or_count K.tree) first_word lasts words
      (omega (arith, two.1, ors_counted))))
      ∙ sym (lines-append labels first (first + or_count K.tree) actives (lasts ++ words)
      (omega (arith, one.1, ors_counted)))

  fields_counted : length (field_types labels)
      ≡ length K.names.vars + 6 + or_count K.tree + or_count K.tree + (state_count K.tree + 31) / 32
  unfolding field_types
  fields_counted =
      let data_of = map (λ (v : Var). field_type v.sort) K.names.vars in
      let numbers = replicate (or_count K.tree + or_count K.tree) (Unsigned W16) in
      let bits = replicate ((state_count K.tree + 31) / 32) (Unsigned W32) in
      omega (
        arith,
        length-append data_of (replicate 6 (Unsigned W32) ++ (numbers ++ bits)),
        length-append (replicate 6 (Unsigned W32)) (numbers ++ bits),
        length-append numbers bits,
        length-map K.names.vars (λ (v : Var). field_type v.sort),
        length-replicate (or_count K.tree + or_count K.tree) (Unsigned W16),
        length-replicate ((state_count K.tree + 31) / 32) (Unsigned W32),
      )

  comments_counted : length all_comments ≡ length (field_types labels)
  comments_counted =
      let one = active_lines in
      let two = last_lines in
      let three = word_lines in
      omega (
        arith,
        length-append value_comments (actives ++ (lasts ++ words)),
        length-append actives (lasts ++ words),
        length-append lasts words,
        values_size,
        one.1,
        two.1,
        three.1,
        ors_counted,
        fields_counted,
      )

  field_lines : values_fields labels K ++ states_fields chart labels K
      ≡ members_text chart (struct_fields K) (field_labels labels) all_comments
  field_lines =
      ap (λ (t : List ℕ). t ++ states_fields chart labels K) value_lines
      ∙ ap (λ (t : List ℕ). lines_from labels 0 value_comments ++ t) state_lines
      ∙ sym (lines-append labels 0 (length K.names.vars + 6) value_comments (actives ++ (lasts ++ words))
      (omega (arith, values_size)))
      ∙ lines_are labels all_comments 0 (omega (arith, comments_counted)) (names_of_fields labels)
      ∙ ap (λ (ts : List CType). members_text chart ts (field_labels labels) all_comments) (types_of_fields chart K)

  row_comments_are : List (List ℕ)
  row_comments_are =
      codes "the events that the last event emitted" ∷ codes "what is to be done before the event goes on" ∷ []

  rows_plain : AllByRecursion IsPlain row_comments_are
  unfolding row_comments_are
  rows_plain = all_tested row_comments_are refl

  row_lines : rows_text K ≡ arrays_text chart (struct_rows K) row_labels row_comments_are
  unfolding rows_text row_comments_are member_text
  row_lines =
      let out_size : List ℕ = decimal K.outputs in
      let note_size : List ℕ = decimal K.notes in
      let out_rest : List ℕ = codes "; /* the events that the last event emitted */\n" in
      let note_rest : List ℕ = codes "; /* what is to be done before the event goes on */\n" in
      let note : List ℕ = ((note_size ++ codes "]") ++ note_rest) ++ [] in
      let after_out : List ℕ = codes "    uint32_t note[" ++ note in
      ap (λ (t : List ℕ). codes "    uint32_t out[" ++ t)
      (ap (λ (t : List ℕ). out_size
      ++ (codes "]; /* the events that the last event emitted */\n    uint32_t note[" ++ t))
      (sym (append-nil ((note_size ++ codes "]") ++ note_rest) ∙ append_assoc note_size (codes "]") note_rest))
      ∙ sym (append_assoc (out_size ++ codes "]") out_rest after_out
      ∙ append_assoc out_size (codes "]") (out_rest ++ after_out)))

  -- the struct of the header is that of the file, with comments of a kind of which all of them are
  declares_with : (IsComment : List ℕ → Type 0) → AllByRecursion IsComment all_comments
      → AllByRecursion IsComment row_comments_are
      → DeclaresStruct IsComment labels (struct_fields K) (struct_rows K) (struct_text chart labels K)
  unfolding struct_text row_comments_are
  declares_with IsComment are rows_are =
      let types = types_of_fields chart K in record {
        comments = all_comments;
        row_comments = row_comments_are;
        names_size = names_of_fields labels ∙ ap (λ (ts : List CType). length ts) types;
        comments_size = comments_counted ∙ ap (λ (ts : List CType). length ts) types;
        row_names_size = refl;
        row_comments_size = refl;
        are_comments = are;
        are_row_comments = rows_are;
        is_text = ap (λ (t : List ℕ). codes "typedef struct {\n" ++ t)
            (sym (append_assoc (values_fields labels K) (states_fields chart labels K)
            (rows_text K ++ (codes "} " ++ name_of_chart chart (codes "chart;\n\n"))))
            ∙ ap (λ (t : List ℕ). t ++ (rows_text K ++ (codes "} " ++ name_of_chart chart (codes "chart;\n\n")))) field_lines
            ∙ ap (λ (t : List ℕ). members_text chart (struct_fields K) (field_labels labels) all_comments
            ++ (t ++ (codes "} " ++ name_of_chart chart (codes "chart;\n\n")))) row_lines);
      }

  -- with any comments
  pub declares : DeclaresStruct IsAny labels (struct_fields K) (struct_rows K) (struct_text chart labels K)
  declares = declares_with IsAny (all_any all_comments) (all_any row_comments_are)

  -- and with ones in which no comment of C ends, where the names of chart and states are names
  pub declares_inside : IsPlain chart → list_all is_name K.names.states ≡ true
      → DeclaresStruct IsInside labels (struct_fields K) (struct_rows K) (struct_text chart labels K)
  declares_inside plain named =
      declares_with IsInside (all_inside plain named) (inside_all row_comments_are rows_plain)
