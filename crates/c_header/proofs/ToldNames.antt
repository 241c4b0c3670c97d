-- The name that tells of functions which may call themselves, a macro, is that of no array, field or local.
use Rattle.std.proofs.Common.{◌≡◌, ◌≢◌, ℕ, ◌<◌, true, false, List, [], ◌∷◌, ◌++◌, length, map}
use Rattle.std.proofs.Common.{get_or, refl, sym, ap, ◌∙◌, arith}
use Rattle.std.specs.Prelude.{codes, decimal, nat_eq}
use Rattle.std.specs.List.{AllByRecursion, list_all, list_any, range_with_len}
use Rattle.std.specs.Str.{bytes_eq}
use Rattle.std.proofs.lemmas.Bool.{and_parts}
use Rattle.actions.specs.declared.names.Var.{Var}
use Rattle.actions.specs.declared.names.VarKind.{VarKind}
use Rattle.actions.specs.declared.names.VarKind.TheVariants.{Input, Output, Local}
use Rattle.chart_lexer.specs.Words.{is_name}
use Rattle.c_names.specs.Stems.{taken_names, name_of_chart}
use Rattle.c_subset.specs.declared.trees.CType.{CType}
use Rattle.c_text.specs.declared.kinds.Kind.{Kind}
use Rattle.c_text.specs.Labels.{Labels, kind_word, datum_label, counter_labels, state_labels, row_labels, field_labels}
use Rattle.c_text.specs.Labels.{local_label}
use Rattle.c_text.proofs.HiddenNames.{no_name}
use Rattle.c_text.proofs.WordLemmas.{mark, mark-append, mark-decimal, name_mark}
use Rattle.c_header.proofs.ChartNames.{name_parts, taken_front}
use Rattle.c_header.proofs.NameLists.{all_at, all_both, all_map}
use Rattle.c_header.proofs.PathNames.{push, parts, single, IsPart, part_of_name}

abbrev told : List ℕ
told = codes "MAY_RECURSE"

-- a field of a datum is read as the word before it, and its name
read_in : (c : ℕ) (cs : List ℕ) → nat_eq c 95 ≡ false
    → parts false (codes "in" ++ (95 ∷ c ∷ cs)) ≡ codes "in" ∷ parts false (c ∷ cs)
unfolding parts push
read_in c cs letter = ap (λ (ts : List (List ℕ)). push 105 (push 110 ts)) (single c cs letter)

read_out : (c : ℕ) (cs : List ℕ) → nat_eq c 95 ≡ false
    → parts false (codes "out" ++ (95 ∷ c ∷ cs)) ≡ codes "out" ∷ parts false (c ∷ cs)
unfolding parts push
read_out c cs letter = ap (λ (ts : List (List ℕ)). push 111 (push 117 (push 116 ts))) (single c cs letter)

read_loc : (c : ℕ) (cs : List ℕ) → nat_eq c 95 ≡ false
    → parts false (codes "loc" ++ (95 ∷ c ∷ cs)) ≡ codes "loc" ∷ parts false (c ∷ cs)
unfolding parts push
read_loc c cs letter = ap (λ (ts : List (List ℕ)). push 108 (push 111 (push 99 ts))) (single c cs letter)

module _ (chart : List ℕ) (p : IsPart chart) where
  -- a name isn't that one
  abbrev IsOther : List ℕ → Type 0
  IsOther name = name ≢ name_of_chart chart told

  -- one whose last byte that is no digit is another one
  by_mark : (name : List ℕ) → mark 0 name ≢ 69 → IsOther name
  unfolding mark
  by_mark name other e = other (ap (mark 0) e ∙ name_mark chart told)

  rows : AllByRecursion IsOther row_labels
  unfolding mark
  rows = (by_mark (codes "out") (λ e. omega (arith, e)), (by_mark (codes "note") (λ e. omega (arith, e)), tt))

  counters : AllByRecursion IsOther counter_labels
  unfolding mark
  counters = (
    by_mark (codes "used") (λ e. omega (arith, e)),
    (
      by_mark (codes "outs") (λ e. omega (arith, e)),
      (
        by_mark (codes "noted") (λ e. omega (arith, e)),
        (
          by_mark (codes "fault") (λ e. omega (arith, e)),
          (
            by_mark (codes "fault_datum") (λ e. omega (arith, e)),
            (by_mark (codes "ready") (λ e. omega (arith, e)), tt),
          ),
        ),
      ),
    ),
  )

  -- a word and a number
  numbered : (word : List ℕ) → mark 0 word ≡ 95 → (k : ℕ) → IsOther (word ++ decimal k)
  numbered word line k = by_mark (word ++ decimal k)
      (λ e. let same = mark-append 0 word (decimal k) ∙ mark-decimal (mark 0 word) k ∙ line in omega (arith, same, e))

  states : (L : Labels) → AllByRecursion IsOther (state_labels L)
  unfolding mark
  states L =
      let last : List (List ℕ) = map (λ k. codes "last_" ++ decimal k) (range_with_len 0 L.ors) in
      let flags : List (List ℕ) = map (λ k. codes "flags_" ++ decimal k) (range_with_len 0 L.words) in
      all_both IsOther (map (λ k. codes "child_" ++ decimal k) (range_with_len 0 L.ors)) (last ++ flags)
      (all_map IsOther (λ k. codes "child_" ++ decimal k) (range_with_len 0 L.ors) (numbered (codes "child_") refl))
      (all_both IsOther last flags
      (all_map IsOther (λ k. codes "last_" ++ decimal k) (range_with_len 0 L.ors) (numbered (codes "last_") refl))
      (all_map IsOther (λ k. codes "flags_" ++ decimal k) (range_with_len 0 L.words) (numbered (codes "flags_") refl)))

  -- a name begins with a letter
  first_letter : (name : List ℕ) → is_name name ≡ true → nat_eq (get_or name 0 95) 95 ≡ false
  first_letter name named =
      let part = part_of_name name named in
      ap (λ (t : List ℕ). nat_eq (get_or t 0 95) 95) part.is ∙ part.letter

  same_front : (word name : List ℕ) → parts false (word ++ (95 ∷ name)) ≡ word ∷ parts false name
      → list_any (bytes_eq word) taken_names ≡ true → get_or word 0 0 ≢ 102 → word ++ (95 ∷ name) ≢ name_of_chart chart told
  same_front word name read among other e =
      taken_front chart word among other
      (ap (λ (ts : List (List ℕ)). get_or ts 0 [])
      (sym (name_parts chart told p refl) ∙ ap (parts false) (sym e) ∙ read))

  datum : (v : Var) → is_name v.name ≡ true → IsOther (datum_label v)
  datum v named = of v.kind v.name (first_letter v.name named)
    where
      of : (k : VarKind) (name : List ℕ) → nat_eq (get_or name 0 95) 95 ≡ false → IsOther (kind_word k ++ name)
      of k [] letter = absurd cc
      of Input (c ∷ cs) letter = same_front (codes "in") (c ∷ cs) (read_in c cs letter) refl (λ e. omega (arith, e))
      of Output (c ∷ cs) letter = same_front (codes "out") (c ∷ cs) (read_out c cs letter) refl (λ e. omega (arith, e))
      of Local (c ∷ cs) letter = same_front (codes "loc") (c ∷ cs) (read_loc c cs letter) refl (λ e. omega (arith, e))

  all_data : (vars : List Var) → list_all is_name (map (λ (v : Var). v.name) vars) ≡ true
      → AllByRecursion IsOther (map datum_label vars)
  all_data [] named = tt
  all_data (v ∷ vars) named =
      let both = and_parts (is_name v.name) (list_all is_name (map (λ (w : Var). w.name) vars)) named in
      (datum v both.0, all_data vars both.1)

-- no field or array has that name
pub no_member_told : (chart : List ℕ) (L : Labels) (i : ℕ) → is_name chart ≡ true
    → list_all is_name (map (λ (v : Var). v.name) L.names.vars) ≡ true → i < length (row_labels ++ field_labels L)
    → get_or (row_labels ++ field_labels L) i [] ≢ name_of_chart chart (codes "MAY_RECURSE")
unfolding field_labels
no_member_told chart L i named vars within =
    let p = part_of_name chart named in
    let of_data : List (List ℕ) = map datum_label L.names.vars in
    let rest : List (List ℕ) = counter_labels ++ state_labels L in
    all_at (IsOther chart p) (row_labels ++ (of_data ++ rest)) i
    (all_both (IsOther chart p) row_labels (of_data ++ rest) (rows chart p)
    (all_both (IsOther chart p) of_data rest (all_data chart p L.names.vars vars)
    (all_both (IsOther chart p) counter_labels (state_labels L) (counters chart p) (states chart p L)))) within

-- nor has a local
pub no_local_told : (chart : List ℕ) (kind : Kind) (t : CType) (k : ℕ)
    → local_label kind t k ≢ name_of_chart chart (codes "MAY_RECURSE")
unfolding mark
no_local_told chart kind t k = no_name kind t k chart (codes "MAY_RECURSE") (λ e. omega (arith, e))
