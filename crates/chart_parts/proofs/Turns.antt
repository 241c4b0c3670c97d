-- Parts that are appended one after the other.
use Rattle.std.proofs.Common.{◌≡◌, ◌∙◌, ℕ, zero, suc, ◌+◌, ◌-◌, ◌<◌, ◌≤◌, List, [], ◌∷◌, ◌++◌, length, map, drop}
use Rattle.std.proofs.Common.{refl, sym, ap, arith, append_assoc, get_or, sum_by}
use Rattle.std.specs.Prelude.{slice_index_or}
use Rattle.std.proofs.lemmas.List.{append-nil}
use Rattle.std.proofs.lemmas.List.Sums.{sum_by-cons}
use Rattle.checked_chart.specs.declared.parts.Trans.{Trans as SourceTrans}
use Rattle.checked_chart.specs.declared.parts.ListKind.{ListKind}
use Rattle.checked_chart.specs.declared.parts.ListKind.TheVariants.{Outer, Inner, Default}
use Rattle.checked_chart.specs.Chart.{Chart, Node, Trans, node, no_node, node_list, list_of, junction}
use Rattle.checked_chart.specs.Counts.{node_transitions}
use Rattle.checked_chart.specs.Valid.{IsValid}
use Rattle.checked_chart.specs.Views.{trans_seen, list_seen}
use Rattle.code_language.proofs.ListLemmas.{drop_at, drop_past}
use Rattle.chart_code.specs.Orders.{ascending, descending, span}
use Rattle.chart_parts.specs.Parts.{trans_parts, list_parts}
use Rattle.chart_parts.specs.declared.part.Owner.{Owner}
use Rattle.chart_parts.specs.declared.part.Part.{Part}

-- ---- what is appended in parts

-- two parts
pub two_parts : {A : Type 0} (old one new a b : List A) → one ≡ old ++ a → new ≡ one ++ b → new ≡ old ++ (a ++ b)
two_parts old one new a b first second = second ∙ ap (λ l. l ++ b) first ∙ append_assoc old a b

-- three parts
pub three_parts : {A : Type 0} (old one two new a b c : List A) → one ≡ old ++ a → two ≡ one ++ b → new ≡ two ++ c
    → new ≡ old ++ (a ++ (b ++ c))
three_parts old one two new a b c first second third =
    two_parts one two new b c second third ∙ ap (λ l. l ++ (b ++ c)) first ∙ append_assoc old a (b ++ c)

-- the parts of a group
pub whole_group : {A : Type 0} (leave exit defaults arrive : A) (arrivals search takes old one two new : List A)
    → one ≡ old ++ (leave ∷ exit ∷ arrivals) → two ≡ one ++ (search ++ (defaults ∷ arrive ∷ [])) → new ≡ two ++ takes
    → new ≡ old ++ (leave ∷ exit ∷ (arrivals ++ (search ++ (defaults ∷ arrive ∷ takes))))
whole_group leave exit defaults arrive arrivals search takes old one two new first second third =
    three_parts old one two new (leave ∷ exit ∷ arrivals) (search ++ (defaults ∷ arrive ∷ [])) takes first second third
    ∙ ap (λ l. old ++ (leave ∷ exit ∷ (arrivals ++ l))) (append_assoc search (defaults ∷ arrive ∷ []) takes)

-- the regions of a chart
pub whole_chart : {A : Type 0} (mark : A) (blocks states junctions rest none one new : List A) → none ≡ []
    → one ≡ none ++ (mark ∷ (blocks ++ (states ++ junctions))) → new ≡ one ++ rest
    → new ≡ mark ∷ (blocks ++ (states ++ (junctions ++ rest)))
whole_chart mark blocks states junctions rest none one new empty first second =
    two_parts none one new (mark ∷ (blocks ++ (states ++ junctions))) rest first second
    ∙ ap (λ l. l ++ ((mark ∷ (blocks ++ (states ++ junctions))) ++ rest)) empty
    ∙ ap (λ l. mark ∷ l) (append_assoc blocks (states ++ junctions) rest)
    ∙ ap (λ l. mark ∷ (blocks ++ l)) (append_assoc states junctions rest)

-- ---- numbers, one after the other

module _ {A : Type 0} (f : ℕ → List A) where
  -- one number more, from 0 up
  pub ascending_turn : (n m : ℕ) (first old new : List A) → m ≡ suc n → old ≡ first ++ ascending f n
      → new ≡ old ++ f n → new ≡ first ++ ascending f m
  unfolding ascending
  ascending_turn n m first old new next before step =
      step ∙ ap (λ l. l ++ f n) before ∙ append_assoc first (ascending f n) (f n)
      ∙ ap (λ k. first ++ ascending f k) (sym next)

  -- none yet
  pub ascending_start : (first : List A) → first ≡ first ++ ascending f 0
  unfolding ascending
  ascending_start first = sym (append-nil first)

  -- one number more, down to 0
  pub descending_turn : (n m : ℕ) (old new all : List A) → n ≡ suc m → old ++ descending f n ≡ all
      → new ≡ old ++ f m → new ++ descending f m ≡ all
  unfolding descending
  descending_turn n m old new all next before step =
      ap (λ l. l ++ descending f m) step ∙ append_assoc old (f m) (descending f m)
      ∙ ap (λ k. old ++ descending f k) (sym next) ∙ before

  -- nothing is left
  pub descending_over : (n : ℕ) (old all : List A) → n ≡ 0 → old ++ descending f n ≡ all → old ≡ all
  unfolding descending
  descending_over n old all none before =
      sym (append-nil old) ∙ ap (λ k. old ++ descending f k) (sym none) ∙ before

module _ {A : Type 0} (f : ℕ → A) where
  -- one number of a span more, which ends before e
  pub span_turn : (d e : ℕ) (old new all : List A) → d < e → old ++ span f d (e - d) ≡ all → new ≡ old ++ f d ∷ []
      → new ++ span f (d + 1) (e - (d + 1)) ≡ all
  unfolding span
  span_turn d e old new all lt before step =
      let n : e - d ≡ suc (e - (d + 1)) = omega arith in
      let m : d + 1 ≡ suc d = omega arith in
      ap (λ l. l ++ span f (d + 1) (e - (d + 1))) step
      ∙ append_assoc old (f d ∷ []) (span f (d + 1) (e - (d + 1)))
      ∙ ap (λ k. old ++ (f d ∷ span f k (e - (d + 1)))) m
      ∙ ap (λ k. old ++ span f d k) (sym n) ∙ before

  -- nothing is left
  pub span_over : (d e : ℕ) (old all : List A) → e ≤ d → old ++ span f d (e - d) ≡ all → old ≡ all
  unfolding span
  span_over d e old all le before =
      let n : e - d ≡ 0 = omega arith in
      sym (append-nil old) ∙ ap (λ k. old ++ span f d k) (sym n) ∙ before

  -- one item more of a list
  pub map_turn : (js : List ℕ) (i j : ℕ) (old new all : List A) → i < length js → j ≡ get_or js i j
      → old ++ map f (drop i js) ≡ all → new ≡ old ++ f j ∷ [] → new ++ map f (drop (i + 1) js) ≡ all
  map_turn js i j old new all lt is before step =
      ap (λ l. l ++ map f (drop (i + 1) js)) step ∙ append_assoc old (f j ∷ []) (map f (drop (i + 1) js))
      ∙ ap (λ l. old ++ map f l) (sym (drop_at js i j lt is)) ∙ before

  -- no item is left
  pub map_over : (js : List ℕ) (i : ℕ) (old all : List A) → length js ≤ i → old ++ map f (drop i js) ≡ all → old ≡ all
  map_over js i old all le before =
      sym (append-nil old) ∙ ap (λ l. old ++ map f l) (sym (drop_past js i le)) ∙ before

-- ---- the transitions of a list

-- one transition more
pub list_turn : (o : Owner) (list : List SourceTrans) (i : ℕ) (t : SourceTrans) (old new all : List Part)
    → i < length list → t ≡ get_or list i t → old ++ list_parts o i (list_seen (drop i list)) ≡ all
    → new ≡ old ++ trans_parts o i (trans_seen t) → new ++ list_parts o (i + 1) (list_seen (drop (i + 1) list)) ≡ all
unfolding list_parts
list_turn o list i t old new all lt is before step =
    let next : i + 1 ≡ suc i = omega arith in
    let rest = list_seen (drop (i + 1) list) in
    ap (λ l. l ++ list_parts o (i + 1) rest) step
    ∙ append_assoc old (trans_parts o i (trans_seen t)) (list_parts o (i + 1) rest)
    ∙ ap (λ k. old ++ (trans_parts o i (trans_seen t) ++ list_parts o k rest)) next
    ∙ ap (λ l. old ++ list_parts o i (list_seen l)) (sym (drop_at list i t lt is)) ∙ before

-- none is left
pub list_over : (o : Owner) (list : List SourceTrans) (i : ℕ) (old all : List Part) → length list ≤ i
    → old ++ list_parts o i (list_seen (drop i list)) ≡ all → old ≡ all
unfolding list_parts
list_over o list i old all le before =
    sym (append-nil old) ∙ ap (λ l. old ++ list_parts o i (list_seen l)) (sym (drop_past list i le)) ∙ before

-- ---- lists aren't long

-- what stands at a place is one of those that are summed
one_of_sum : {A : Type 0} (f : A → ℕ) (xs : List A) (i : ℕ) (d : A) → f d ≡ 0 → f (slice_index_or xs i d) ≤ sum_by f xs
one_of_sum f [] i d e = omega (arith, e)
one_of_sum f (x ∷ xs) zero d e = omega (arith, sum_by-cons f x xs)
one_of_sum f (x ∷ xs) (suc i) d e = omega (arith, sum_by-cons f x xs, one_of_sum f xs i d e)

-- one of three lists
kind_low : (n : Node) (kind : ListKind) → length (node_list n kind) ≤ node_transitions n
kind_low n Outer = omega arith
kind_low n Inner = omega arith
kind_low n Default = omega arith

module _ (c : Chart) (valid : IsValid c) where
  -- a list of a state
  pub list_short : (s : ℕ) (kind : ListKind) → length (list_of c s kind) ≤ 8192
  unfolding node no_node
  list_short s kind =
      omega (
        arith,
        kind_low (node c s) kind,
        one_of_sum node_transitions c.nodes s no_node refl,
        valid.limits.transitions,
      )

  -- the list of a junction
  pub junction_short : (j : ℕ) → length (junction c j) ≤ 8192
  unfolding junction
  junction_short j =
      omega (arith, one_of_sum (λ (ts : List Trans). length ts) c.junctions j [] refl, valid.limits.transitions)
