-- One case more.
use Rattle.std.proofs.Common.{◌≡◌, ◌<◌, ℕ, ◌+◌, List, [], ◌∷◌, ◌++◌, map, take, drop, length, get_or, true, false, ap, ap₂}
use Rattle.std.proofs.Common.{◌∙◌, sym, append-nil, append_assoc}
use Rattle.std.proofs.lemmas.List.{drop_more, take_more, map-append}
use Rattle.std.proofs.lemmas.List.Concat.{flat_map-append}
use Rattle.token_grammar.specs.declared.token.Span.{Span}
use Rattle.chart_tree.specs.Trees as core
use Rattle.chart_tree.specs.Views.{trans_of}
use Rattle.chart_tree.specs.declared.state.TransText.{TransText}
use Rattle.statechart_tree.specs.declared.state.Case as code
use Rattle.statechart_tree.specs.Trees.{Case, Stmt}
use Rattle.statechart_tree.specs.Views.{case_of}
use Rattle.statechart_meaning.specs.Scope.{Scope}
use Rattle.statechart_meaning.specs.Transitions.{event_alone, stands_before}
use Rattle.statechart_transitions.specs.Cases.{some_text, alone_in}
use Rattle.statechart_transitions.proofs.CaseLemmas.{of_case, of_cases, again-next, other-next}

-- the events alone of one case more
alone-more : (cs : List Case) (c : Case)
    → alone_in (cs ++ c ∷ []) ≡ alone_in cs ++ some_text (event_alone c.trigger c.guard)
alone-more cs c =
    flat_map-append (λ (d : Case). some_text (event_alone d.trigger d.guard)) cs (c ∷ [])
    ∙ ap (λ (l : List (List ℕ)). alone_in cs ++ l) (append-nil (some_text (event_alone c.trigger c.guard)))

alone-taken : (cases : List code.Case) (i : ℕ) (c : code.Case) → i < length cases → c ≡ get_or cases i c
    → alone_in (map case_of (take (i + 1) cases))
    ≡ alone_in (map case_of (take i cases)) ++ some_text (event_alone (case_of c).trigger (case_of c).guard)
alone-taken cases i c within at =
    let cut : take (i + 1) cases ≡ take i cases ++ c ∷ [] =
    take_more cases i c within ∙ ap (λ (d : code.Case). take i cases ++ d ∷ []) (sym at) in
    ap (λ (l : List code.Case). alone_in (map case_of l)) cut
    ∙ ap alone_in (map-append case_of (take i cases) (c ∷ []))
    ∙ alone-more (map case_of (take i cases)) (case_of c)

dropped : (cases : List code.Case) (i : ℕ) (c : code.Case) → i < length cases → c ≡ get_or cases i c
    → map case_of (drop i cases) ≡ case_of c ∷ map case_of (drop (i + 1) cases)
dropped cases i c within at =
    ap (map case_of)
    (drop_more cases i c within ∙ ap (λ (d : code.Case). d ∷ drop (i + 1) cases) (sym at))

module _ (s : Scope) (at : Span) (cond act : List Stmt) (dest : core.Dest) where
  -- a case that stands before has no transition
  pub turn-again : (olds news : List TransText) (cases : List code.Case) (i : ℕ) (c : code.Case) (all : List core.Trans)
      → i < length cases → c ≡ get_or cases i c
      → stands_before (alone_in (map case_of (take i cases))) (event_alone (case_of c).trigger (case_of c).guard) ≡ true
      → news ≡ olds
      → map trans_of olds
      ++ of_cases s at cond act dest (alone_in (map case_of (take i cases))) (map case_of (drop i cases))
      ≡ all
      → map trans_of news
      ++ of_cases s at cond act dest (alone_in (map case_of (take (i + 1) cases))) (map case_of (drop (i + 1) cases))
      ≡ all
  turn-again olds news cases i c all within here again same before =
      let seen = alone_in (map case_of (take i cases)) in
      let rest = map case_of (drop (i + 1) cases) in
      let next : of_cases s at cond act dest seen (map case_of (drop i cases))
      ≡ of_cases s at cond act dest (alone_in (map case_of (take (i + 1) cases))) rest =
      ap (of_cases s at cond act dest seen) (dropped cases i c within here)
      ∙ again-next s at cond act dest seen (case_of c) rest again
      ∙ ap (λ (l : List (List ℕ)). of_cases s at cond act dest l rest) (sym (alone-taken cases i c within here)) in
      ap₂ (λ (l : List TransText) (ts : List core.Trans). map trans_of l ++ ts) same (sym next) ∙ before

  -- another one has its transition
  pub turn-other : (olds news : List TransText) (made : TransText) (cases : List code.Case) (i : ℕ) (c : code.Case)
      (all : List core.Trans) → i < length cases → c ≡ get_or cases i c
      → stands_before (alone_in (map case_of (take i cases))) (event_alone (case_of c).trigger (case_of c).guard) ≡ false
      → news ≡ olds ++ made ∷ [] → trans_of made ≡ of_case s at cond act dest (case_of c)
      → map trans_of olds
      ++ of_cases s at cond act dest (alone_in (map case_of (take i cases))) (map case_of (drop i cases))
      ≡ all
      → map trans_of news
      ++ of_cases s at cond act dest (alone_in (map case_of (take (i + 1) cases))) (map case_of (drop (i + 1) cases))
      ≡ all
  turn-other olds news made cases i c all within here other push is before =
      let seen = alone_in (map case_of (take i cases)) in
      let rest = map case_of (drop (i + 1) cases) in
      let others = of_cases s at cond act dest (alone_in (map case_of (take (i + 1) cases))) rest in
      let next : of_cases s at cond act dest seen (map case_of (drop i cases)) ≡ trans_of made ∷ others =
      ap (of_cases s at cond act dest seen) (dropped cases i c within here)
      ∙ other-next s at cond act dest seen (case_of c) rest other
      ∙ ap₂ (λ (x : core.Trans) (l : List (List ℕ)). x ∷ of_cases s at cond act dest l rest) (sym is)
      (sym (alone-taken cases i c within here)) in
      ap (λ (l : List TransText). map trans_of l ++ others) push
      ∙ ap (λ (l : List core.Trans). l ++ others) (map-append trans_of olds (made ∷ []))
      ∙ append_assoc (map trans_of olds) (trans_of made ∷ []) others
      ∙ ap (λ (l : List core.Trans). map trans_of olds ++ l) (sym next) ∙ before
