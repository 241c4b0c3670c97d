-- A path as a part of a name of C tells the names of the states in it, and so the state.
use Rattle.std.proofs.Common.{◌≡◌, ℕ, zero, suc, ◌<◌, ◌≤◌, ◌^◌, Bool, true, false, ◌&&◌, cond, List, [], ◌∷◌}
use Rattle.std.proofs.Common.{◌++◌, length, map, get_or, Some, refl, sym, ap, ◌∙◌, subst, arith}
use Rattle.std.proofs.Common.{⊎_elim}
use Rattle.std.specs.Prelude.{codes, decimal, encode_utf8, slice_index_or, nat_eq, nat_lt}
use Rattle.std.specs.Char.{digit_value}
use Rattle.std.specs.Str.Parse.{IsNumeral}
use Rattle.std.proofs.lemmas.Fmt.{decimal_injective, decimal_is_IsNumeral, decimal_nonempty}
use Rattle.std.specs.Str.{IsAscii}
use Rattle.std.specs.List.{flat_map, join_with_byte, list_all, AllByRecursion}
use Rattle.std.proofs.lemmas.Bool.{cases_Bool, and_parts, eqb-true}
use Rattle.std.proofs.lemmas.Bool.Decides.{nat_tests}
use Rattle.std.proofs.lemmas.List.{append-nil, append_assoc, map-append, same_from_push}
use Rattle.std.proofs.lemmas.Str.{chars-IsAscii, encode_ascii}
use Rattle.chart_lexer.specs.Bytes.{is_letter, begins}
use Rattle.chart_lexer.specs.Words.{is_name, name_length}
use Rattle.code_fields.proofs.NameLemmas.{is_name-ascii}
use Rattle.active_config.specs.Tree.{Tree, IsTree, state_count, parent_of}
use Rattle.active_config.proofs.PathLemmas.{parent_before, parent_lt}
use Rattle.actions.specs.Names.{Names}
use Rattle.checked_chart.specs.Valid.{HasNames}
use Rattle.c_header.specs.declared.paths.Form.TheVariants.{Label}
use Rattle.c_names.specs.Stems.{letter_text, doubled}
use Rattle.c_header.specs.Paths.{state_name, path_text, state_label, longest_path}
use Rattle.c_header.proofs.PathLemmas.{steps, steps-root, steps-child, path-root}
use Rattle.c_header.proofs.SiblingNames.{same_child}

-- ---- names and separators, read from the left

-- a letter before the first of some names
unfoldable pub push : ℕ → List (List ℕ) → List (List ℕ)
push c [] = (c ∷ []) ∷ []
push c (x ∷ xs) = (c ∷ x) ∷ xs

-- a name before the first of some names
unfoldable pub push_all : List ℕ → List (List ℕ) → List (List ℕ)
push_all [] xs = xs
push_all (c ∷ cs) xs = push c (push_all cs xs)

-- the names of a path, from a place where no `_` went before, or a single one
unfoldable pub parts : Bool → List ℕ → List (List ℕ)
parts false [] = [] ∷ []
parts true [] = [] ∷ [] ∷ []
parts false (c ∷ cs) = cond (nat_eq c 95) (parts true cs) (push c (parts false cs))
parts true (c ∷ cs) = cond (nat_eq c 95) (push 95 (parts false cs)) ([] ∷ push c (parts false cs))

pub pushed-first : (name : List ℕ) (xs : List (List ℕ)) → push_all name ([] ∷ xs) ≡ name ∷ xs
unfolding push_all push
pushed-first [] xs = refl
pushed-first (c ∷ cs) xs = ap (push c) (pushed-first cs xs)

-- a letter of a name, which isn't `_`, is written as it is
pub letter_plain : (c : ℕ) → c < 128 → nat_eq c 95 ≡ false → letter_text c ≡ c ∷ []
letter_plain c small other = ap (λ (b : Bool). cond b (codes "__") (encode_utf8 c)) other ∙ encode_ascii c small

-- and `_` as two
pub letter_line : (c : ℕ) → nat_eq c 95 ≡ true → letter_text c ≡ 95 ∷ 95 ∷ []
letter_line c same = ap (λ (b : Bool). cond b (codes "__") (encode_utf8 c)) same

parts_letter : (c : ℕ) (rest : List ℕ) → c < 128 → parts false (letter_text c ++ rest) ≡ push c (parts false rest)
unfolding parts
parts_letter c rest small = ⊎_elim
    (λ same. ap (λ (text : List ℕ). parts false (text ++ rest)) (letter_line c same)
    ∙ ap (λ (b : ℕ). push b (parts false rest)) (sym (eqb-true c 95 same)))
    (λ other. ap (λ (text : List ℕ). parts false (text ++ rest)) (letter_plain c small other)
    ∙ ap (λ (b : Bool). cond b (parts true rest) (push c (parts false rest))) other)
    (cases_Bool (nat_eq c 95))

-- a name with each `_` doubled is read as it was
parts_name : (name rest : List ℕ) → IsAscii name
    → parts false (flat_map letter_text name ++ rest) ≡ push_all name (parts false rest)
unfolding push_all
parts_name [] rest ascii = refl
parts_name (c ∷ cs) rest ascii =
    ap (parts false) (append_assoc (letter_text c) (flat_map letter_text cs) rest)
    ∙ parts_letter c (flat_map letter_text cs ++ rest) (ascii 0)
    ∙ ap (push c) (parts_name cs rest (λ i. ascii (suc i)))

-- digits don't begin with a letter
no_letter : (text : List ℕ) → IsNumeral 10 text → is_letter (get_or text 0 0) ≡ true → ⊥
no_letter [] numeral letter = omega (arith, numeral.0)
no_letter (c ∷ cs) numeral letter = by c numeral.1.0 letter
  where
    by : (c : ℕ) → digit_value c < 10 → is_letter c ≡ true → ⊥
    by c digit letter = grind (arith, nat_tests)

-- a name of a path: it begins with a letter
pub record IsPart (name : List ℕ) : Type 0 where
  pub first : ℕ
  pub others : List ℕ
  pub is : name ≡ first ∷ others
  pub letter : nat_eq first 95 ≡ false
  pub begins : is_letter first ≡ true
  pub ascii : IsAscii name

pub part_of_name : (name : List ℕ) → is_name name ≡ true → IsPart name
part_of_name [] h = absurd cc
part_of_name (c ∷ cs) h =
    let front = (and_parts (begins is_letter (c ∷ cs) && nat_eq (name_length (c ∷ cs)) (length (c ∷ cs))) _ h).0 in
    let begins = (and_parts (is_letter c) (nat_eq (name_length (c ∷ cs)) (length (c ∷ cs))) front).0 in record {
      first = c;
      others = cs;
      is = refl;
      letter = not_line c begins;
      begins = begins;
      ascii = is_name-ascii (c ∷ cs) h;
    }
  where
    not_line : (b : ℕ) → is_letter b ≡ true → nat_eq b 95 ≡ false
    not_line b h = grind (arith, nat_tests)

-- what a name is written as begins with its letter
pub doubled-first : (name : List ℕ) (p : IsPart name) → doubled name ≡ p.first ∷ flat_map letter_text p.others
unfolding doubled
doubled-first name p =
    ap (flat_map letter_text) (chars-IsAscii name p.ascii ∙ p.is)
    ∙ ap (λ (text : List ℕ). text ++ flat_map letter_text p.others)
    (letter_plain p.first (subst (λ (text : List ℕ). get_or text 0 0 < 128) p.is (p.ascii 0)) p.letter)

pub doubled-parts : (name rest : List ℕ) → IsPart name
    → parts false (doubled name ++ rest) ≡ push_all name (parts false rest)
unfolding doubled
doubled-parts name rest p =
    ap (λ (cs : List ℕ). parts false (flat_map letter_text cs ++ rest)) (chars-IsAscii name p.ascii)
    ∙ parts_name name rest p.ascii

-- a single `_` before a letter stands between two names
pub single : (c : ℕ) (cs : List ℕ) → nat_eq c 95 ≡ false → parts true (c ∷ cs) ≡ [] ∷ parts false (c ∷ cs)
unfolding parts
single c cs other =
    ap (λ (b : Bool). cond b (push 95 (parts false cs)) ([] ∷ push c (parts false cs))) other
    ∙ ap (λ (b : Bool). [] ∷ cond b (parts true cs) (push c (parts false cs))) (sym other)

single_joined : (c : ℕ) (cs : List ℕ) (more : List (List ℕ)) → nat_eq c 95 ≡ false
    → parts true (join_with_byte 95 ((c ∷ cs) ∷ more)) ≡ [] ∷ parts false (join_with_byte 95 ((c ∷ cs) ∷ more))
single_joined c cs [] other = single c cs other
single_joined c cs (next ∷ more) other = single c (cs ++ (95 ∷ join_with_byte 95 (next ∷ more))) other

single_path : (y : List ℕ) (more : List (List ℕ)) → IsPart y
    → parts true (join_with_byte 95 (doubled y ∷ more)) ≡ [] ∷ parts false (join_with_byte 95 (doubled y ∷ more))
single_path y more p =
    subst (λ (text : List ℕ). parts true (join_with_byte 95 (text ∷ more))
    ≡ [] ∷ parts false (join_with_byte 95 (text ∷ more)))
    (sym (doubled-first y p)) (single_joined p.first (flat_map letter_text p.others) more p.letter)

-- a path is read as the names in it
path_parts : (x : List ℕ) (xs : List (List ℕ)) → IsPart x → AllByRecursion IsPart xs
    → parts false (join_with_byte 95 (map doubled (x ∷ xs))) ≡ x ∷ xs
unfolding parts
path_parts x [] p all =
    ap (parts false) (sym (append-nil (doubled x))) ∙ doubled-parts x [] p ∙ pushed-first x []
path_parts x (y ∷ ys) p all =
    doubled-parts x (95 ∷ join_with_byte 95 (map doubled (y ∷ ys))) p
    ∙ ap (push_all x) (single_path y (map doubled ys) all.0
    ∙ ap (λ (names : List (List ℕ)). [] ∷ names) (path_parts y ys all.0 all.1))
    ∙ pushed-first x (y ∷ ys)

-- ---- the names of a path

no_push : (names : List (List ℕ)) (name : List ℕ) → names ++ name ∷ [] ≡ [] → ⊥
no_push [] name e = cc
no_push (x ∷ xs) name e = cc

all_push : (names : List (List ℕ)) (name : List ℕ) → AllByRecursion IsPart names → IsPart name
    → AllByRecursion IsPart (names ++ name ∷ [])
all_push [] name all p = (p, tt)
all_push (x ∷ xs) name all p = (all.0, all_push xs name all.1 p)

maps_both : (n : Names) (xs : List ℕ)
    → map (λ x. doubled (state_name n x)) xs ≡ map doubled (map (state_name n) xs)
maps_both n [] = refl
maps_both n (x ∷ xs) = ap (λ (ts : List (List ℕ)). doubled (state_name n x) ∷ ts) (maps_both n xs)

-- each name of a list that passes a test
name_passes : (names : List (List ℕ)) (i : ℕ) → list_all is_name names ≡ true → i < length names
    → is_name (slice_index_or names i []) ≡ true
name_passes [] i all within = absurd (omega (arith, within))
name_passes (x ∷ xs) zero all within = (and_parts (is_name x) (list_all is_name xs) all).0
name_passes (x ∷ xs) (suc i) all within =
    name_passes xs i (and_parts (is_name x) (list_all is_name xs) all).1 (omega (arith, within))

module _ (t : Tree) (n : Names) (tree : IsTree t) (size : length n.states ≡ state_count t) (names : HasNames t n) where
  -- the names of the states of a path
  abbrev path_names : ℕ → List (List ℕ)
  path_names s = map (state_name n) (steps t s)

  root_names : path_names 0 ≡ []
  root_names = ap (map (state_name n)) (steps-root t tree)

  child_names : (s p : ℕ) → parent_of t s ≡ Some p → path_names s ≡ path_names p ++ state_name n s ∷ []
  child_names s p e =
      ap (map (state_name n)) (steps-child t tree s p e) ∙ map-append (state_name n) (steps t p) (s ∷ [])

  one_part : (s : ℕ) → s < state_count t → IsPart (state_name n s)
  one_part s lt = part_of_name (state_name n s) (name_passes n.states s names.states (omega (arith, lt, size)))

  -- each is a name
  all_parts : (most s : ℕ) → s ≤ most → s < state_count t → AllByRecursion IsPart (path_names s)
  all_parts most zero le lt = subst (AllByRecursion IsPart) (sym root_names) tt
  all_parts zero (suc s) le lt = absurd (omega (arith, le))
  all_parts (suc most) (suc s) le lt =
      let up = parent_before t (state_count t) tree.pre_order s lt in
      let low = parent_lt t (state_count t) tree.pre_order (suc s) up.0 lt up.1 in
      subst (AllByRecursion IsPart) (sym (child_names (suc s) up.0 up.1))
      (all_push (path_names up.0) (state_name n (suc s))
      (all_parts most up.0 (omega (arith, low, le)) (omega (arith, low, lt)))
      (one_part (suc s) lt))

  -- paths of the same names are of the same state
  same_names : (most s u : ℕ) → s ≤ most → s < state_count t → u < state_count t → path_names s ≡ path_names u → s ≡ u
  same_names most zero zero le ls lu e = refl
  same_names most zero (suc u) le ls lu e =
      let up = parent_before t (state_count t) tree.pre_order u lu in
      absurd (no_push (path_names up.0) (state_name n (suc u))
      (sym (child_names (suc u) up.0 up.1) ∙ sym e ∙ root_names))
  same_names most (suc s) zero le ls lu e =
      let up = parent_before t (state_count t) tree.pre_order s ls in
      absurd (no_push (path_names up.0) (state_name n (suc s))
      (sym (child_names (suc s) up.0 up.1) ∙ e ∙ root_names))
  same_names zero (suc s) (suc u) le ls lu e = absurd (omega (arith, le))
  same_names (suc most) (suc s) (suc u) le ls lu e =
      let p = parent_before t (state_count t) tree.pre_order s ls in
      let q = parent_before t (state_count t) tree.pre_order u lu in
      let low = parent_lt t (state_count t) tree.pre_order (suc s) p.0 ls p.1 in
      let far = parent_lt t (state_count t) tree.pre_order (suc u) q.0 lu q.1 in
      let both = same_from_push (path_names p.0) (path_names q.0) (state_name n (suc s)) (state_name n (suc u))
      (sym (child_names (suc s) p.0 p.1) ∙ e ∙ child_names (suc u) q.0 q.1) in
      let one : p.0 ≡ q.0 =
      same_names most p.0 q.0 (omega (arith, low, le)) (omega (arith, low, ls)) (omega (arith, far, lu)) both.0 in
      same_child t n names p.0 (suc s) (suc u) (omega (arith, low, ls)) p.1 (q.1 ∙ ap Some (sym one)) both.1

  -- a path tells its names
  path_told : (s : ℕ) → suc s < state_count t → parts false (path_text Label t n (suc s)) ≡ path_names (suc s)
  unfolding path_text
  path_told s lt =
      ap (λ (ts : List (List ℕ)). parts false (join_with_byte 95 ts)) (maps_both n (steps t (suc s)))
      ∙ some_parts (path_names (suc s)) (all_parts (suc s) (suc s) (omega arith) lt)
      (let up = parent_before t (state_count t) tree.pre_order s lt in λ e.
      no_push (path_names up.0) (state_name n (suc s)) (sym (child_names (suc s) up.0 up.1) ∙ e))
    where
      some_parts : (xs : List (List ℕ)) → AllByRecursion IsPart xs → (xs ≡ [] → ⊥)
          → parts false (join_with_byte 95 (map doubled xs)) ≡ xs
      some_parts [] all some = absurd (some refl)
      some_parts (x ∷ xs) all some = path_parts x xs all.0 all.1

  -- the root's is read as one name that no state has
  root_other : (s : ℕ) → suc s < state_count t → path_text Label t n 0 ≡ path_text Label t n (suc s) → ⊥
  unfolding parts
  root_other s lt e =
      let none : path_text Label t n 0 ≡ [] = path-root t tree Label n 0 (omega (arith, lt)) tree.pre_order.root in
      let read : [] ∷ [] ≡ path_names (suc s) = ap (parts false) (sym none ∙ e) ∙ path_told s lt in
      let part : IsPart [] =
      (subst (AllByRecursion IsPart) (sym read) (all_parts (suc s) (suc s) (omega arith) lt)).0 in
      no_part part.first part.others part.is
    where
      no_part : (c : ℕ) (cs : List ℕ) → [] ≡ c ∷ cs → ⊥
      no_part c cs same = cc

  -- two different states have different paths
  one_state : (s u : ℕ) → s < state_count t → u < state_count t
      → path_text Label t n s ≡ path_text Label t n u → s ≡ u
  one_state zero zero ls lu e = refl
  one_state zero (suc u) ls lu e = absurd (root_other u lu e)
  one_state (suc s) zero ls lu e = absurd (root_other s ls (sym e))
  one_state (suc s) (suc u) ls lu e =
      same_names (suc s) (suc s) (suc u) (omega arith) ls lu
      (sym (path_told s ls) ∙ ap (parts false) e ∙ path_told u lu)

  -- a path begins with a letter
  path_letter : (s : ℕ) → suc s < state_count t → is_letter (get_or (path_text Label t n (suc s)) 0 0) ≡ true
  unfolding path_text
  path_letter s lt =
      ap (λ (ts : List (List ℕ)). is_letter (get_or (join_with_byte 95 ts) 0 0)) (maps_both n (steps t (suc s)))
      ∙ first_of (path_names (suc s)) (all_parts (suc s) (suc s) (omega arith) lt)
      (let up = parent_before t (state_count t) tree.pre_order s lt in λ e.
      no_push (path_names up.0) (state_name n (suc s)) (sym (child_names (suc s) up.0 up.1) ∙ e))
    where
      first_of : (xs : List (List ℕ)) → AllByRecursion IsPart xs → (xs ≡ [] → ⊥)
          → is_letter (get_or (join_with_byte 95 (map doubled xs)) 0 0) ≡ true
      first_of [] all some = absurd (some refl)
      first_of (x ∷ []) all some =
          ap (λ (text : List ℕ). is_letter (get_or text 0 0)) (doubled-first x all.0) ∙ all.0.begins
      first_of (x ∷ y ∷ ys) all some =
          ap (λ (text : List ℕ). is_letter (get_or (text ++ (95 ∷ join_with_byte 95 (map doubled (y ∷ ys)))) 0 0))
          (doubled-first x all.0)
          ∙ all.0.begins

  -- no state has a number for its path
  no_number : (k s : ℕ) → k < 2 ^ 64 → s < state_count t → decimal k ≡ path_text Label t n s → ⊥
  no_number k zero small lt e =
      let none : path_text Label t n 0 ≡ [] = path-root t tree Label n 0 (omega (arith, lt)) tree.pre_order.root in
      let some = decimal_nonempty k small in
      let empty : length (decimal k) ≡ 0 = ap length (e ∙ none) in
      omega (arith, some, empty)
  no_number k (suc s) small lt e =
      no_letter (decimal k) (decimal_is_IsNumeral k small).0
      (ap (λ (text : List ℕ). is_letter (get_or text 0 0)) e ∙ path_letter s lt)

  -- two different states are written differently in names of C
  pub one_label : (s u : ℕ) → state_count t < 2 ^ 64 → s < state_count t → u < state_count t
      → state_label t n s ≡ state_label t n u → s ≡ u
  unfolding state_label
  one_label s u few ls lu e =
      by (nat_lt longest_path (length (path_text Label t n s))) (nat_lt longest_path (length (path_text Label t n u))) e
    where
      by : (a b : Bool) → cond a (decimal s) (path_text Label t n s) ≡ cond b (decimal u) (path_text Label t n u) → s ≡ u
      by true true e = decimal_injective s u (omega (arith, few, ls)) (omega (arith, few, lu)) e
      by true false e = absurd (no_number s u (omega (arith, few, ls)) lu e)
      by false true e = absurd (no_number u s (omega (arith, few, lu)) ls (sym e))
      by false false e = one_state s u ls lu e
