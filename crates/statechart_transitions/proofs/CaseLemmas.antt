-- Cases one after the other.
use Rattle.std.proofs.Common.{◌≡◌, ℕ, List, [], ◌∷◌, ◌++◌, map, Bool, true, false, Option, Some, None, refl, ap, ◌∙◌, sym}
use Rattle.std.proofs.Common.{subst, append-nil, if◌then◌else◌, is_some}
use Rattle.std.proofs.lemmas.Grind.{common_steps}
use Rattle.std.proofs.lemmas.List.Concat.{flat_map-append}
use Rattle.std.specs.Prelude.{bytes_eq}
use Rattle.std.proofs.lemmas.Slice.Eq.{bytes_eq-Decides}
use Rattle.flow_base.specs.Names.{index_of, after}
use Rattle.token_grammar.specs.declared.token.Span.{Span}
use Rattle.chart_tree.specs.Trees as core
use Rattle.statechart_tree.specs.Trees.{Case, Stmt}
use Rattle.statechart_meaning.specs.Scope.{Scope}
use Rattle.statechart_meaning.specs.Transitions.{Tried, expand_case, event_alone, stands_before, and_event, different}
use Rattle.statechart_transitions.specs.Cases.{some_text, one_transition}

-- whether a name is among names
abbrev has : List ℕ → List (List ℕ) → Bool
has name names = is_some (index_of name names)

-- a name and others
pub there-next : (name x : List ℕ) (xs : List (List ℕ))
    → has name (x ∷ xs) ≡ (if bytes_eq x name then true else has name xs)
there-next name x xs = by (bytes_eq x name) (index_of name xs)
  where
    by : (b : Bool) (o : Option ℕ) → is_some (if b then Some 0 else after o) ≡ (if b then true else is_some o)
    by true o = refl
    by false None = refl
    by false (Some n) = refl

-- an event alone, if it is one, and others
pub alone-next : (name : List ℕ) (o : Option (List ℕ)) (xs : List (List ℕ))
    → has name (some_text o ++ xs) ≡ (if has name (some_text o) then true else has name xs)
alone-next name None xs = refl
alone-next name (Some e) xs =
    there-next name e xs ∙ by (bytes_eq e name)
    ∙ ap (λ (b : Bool). if b then true else has name xs) (sym (there-next name e []))
  where
    by : (b : Bool) → (if b then true else has name xs) ≡ (if (if b then true else false) then true else has name xs)
    by true = refl
    by false = refl

-- a name behind others, as before them
there-last : (name x : List ℕ) (xs : List (List ℕ))
    → has name (xs ++ x ∷ []) ≡ (if bytes_eq x name then true else has name xs)
there-last name x [] = there-next name x []
there-last name x (y ∷ ys) =
    there-next name y (ys ++ x ∷ []) ∙ ap (λ (b : Bool). if bytes_eq y name then true else b) (there-last name x ys)
    ∙ swap (bytes_eq y name) (bytes_eq x name) (has name ys)
    ∙ ap (λ (b : Bool). if bytes_eq x name then true else b) (sym (there-next name y ys))
  where
    swap : (a b c : Bool) → (if a then true else (if b then true else c)) ≡ (if b then true else (if a then true else c))
    swap true true c = refl
    swap true false c = refl
    swap false true c = refl
    swap false false c = refl

-- the same names make the same cases differ
abbrev Alike : List (List ℕ) → List (List ℕ) → Type 0
Alike xs ys = (name : List ℕ) → has name xs ≡ has name ys

more-alike : (x : List ℕ) (xs ys : List (List ℕ)) → Alike xs ys → Alike (x ∷ xs) (x ∷ ys)
more-alike x xs ys same name =
    there-next name x xs ∙ ap (λ (b : Bool). if bytes_eq x name then true else b) (same name)
    ∙ sym (there-next name x ys)

different-alike : (xs ys : List (List ℕ)) → Alike xs ys → (cs : List Case) → different xs cs ≡ different ys cs
different-alike xs ys same [] = refl
different-alike xs ys same (c ∷ cs) =
    by (event_alone c.trigger c.guard) (different-alike xs ys same cs)
    (λ e. different-alike (e ∷ xs) (e ∷ ys) (more-alike e xs ys same) cs)
  where
    chosen : (e : List ℕ) (a b : Bool) → a ≡ b → different xs cs ≡ different ys cs
        → different (e ∷ xs) cs ≡ different (e ∷ ys) cs
        → (if a then different xs cs else (c ∷ different (e ∷ xs) cs))
        ≡ (if b then different ys cs else (c ∷ different (e ∷ ys) cs))
    chosen e true true is left taken = left
    chosen e true false is left taken = absurd cc
    chosen e false true is left taken = absurd cc
    chosen e false false is left taken = ap (λ (l : List Case). c ∷ l) taken

    by : (o : Option (List ℕ)) → different xs cs ≡ different ys cs
        → ((e : List ℕ) → different (e ∷ xs) cs ≡ different (e ∷ ys) cs)
        → (if stands_before xs o then different xs cs else (c ∷ different (and_event xs o) cs))
        ≡ (if stands_before ys o then different ys cs else (c ∷ different (and_event ys o) cs))
    by None left taken = ap (λ (l : List Case). c ∷ l) left
    by (Some e) left taken = chosen e (has e xs) (has e ys) (same e) left (taken e)

-- a name that is there already
again-alike : (x : List ℕ) (xs : List (List ℕ)) → has x xs ≡ true → Alike xs (xs ++ x ∷ [])
again-alike x xs there name = by (bytes_eq x name) refl ∙ sym (there-last name x xs)
  where
    by : (b : Bool) → bytes_eq x name ≡ b → has name xs ≡ (if b then true else has name xs)
    by true is =
        let e : x ≡ name = (bytes_eq-Decides x name).0 is in
        subst (λ (y : List ℕ). has y xs ≡ true) e there
    by false is = refl

last-alike : (x : List ℕ) (xs : List (List ℕ)) → Alike (x ∷ xs) (xs ++ x ∷ [])
last-alike x xs name = there-next name x xs ∙ sym (there-last name x xs)

module _ (s : Scope) (at : Span) (cond act : List Stmt) (dest : core.Dest) where
  -- the transition of a case
  abbrev pub of_case : Case → core.Trans
  of_case c = one_transition s at cond act dest (expand_case s c.trigger c.guard)

  -- those of the cases that are left, where these events alone stand before
  abbrev pub of_cases : List (List ℕ) → List Case → List core.Trans
  of_cases seen cs =
      map (one_transition s at cond act dest) (map (λ (c : Case). expand_case s c.trigger c.guard) (different seen cs))

  -- a case that stands before is left out
  pub again-next : (seen : List (List ℕ)) (c : Case) (cs : List Case)
      → stands_before seen (event_alone c.trigger c.guard) ≡ true
      → of_cases seen (c ∷ cs) ≡ of_cases (seen ++ some_text (event_alone c.trigger c.guard)) cs
  again-next seen c cs again =
      by (event_alone c.trigger c.guard) again
    where
      made : List Case → List core.Trans
      made l = map (one_transition s at cond act dest) (map (λ (c : Case). expand_case s c.trigger c.guard) l)

      by : (o : Option (List ℕ)) → stands_before seen o ≡ true
          → made (if stands_before seen o then different seen cs else (c ∷ different (and_event seen o) cs))
          ≡ of_cases (seen ++ some_text o) cs
      by None is = absurd cc
      by (Some e) is =
          ap (λ (b : Bool). made (if b then different seen cs else (c ∷ different (e ∷ seen) cs))) is
          ∙ ap made (different-alike seen (seen ++ e ∷ []) (again-alike e seen is) cs)

  -- another one has its transition
  pub other-next : (seen : List (List ℕ)) (c : Case) (cs : List Case)
      → stands_before seen (event_alone c.trigger c.guard) ≡ false
      → of_cases seen (c ∷ cs) ≡ of_case c ∷ of_cases (seen ++ some_text (event_alone c.trigger c.guard)) cs
  other-next seen c cs other = by (event_alone c.trigger c.guard) other
    where
      made : List Case → List core.Trans
      made l = map (one_transition s at cond act dest) (map (λ (c : Case). expand_case s c.trigger c.guard) l)

      by : (o : Option (List ℕ)) → stands_before seen o ≡ false
          → made (if stands_before seen o then different seen cs else (c ∷ different (and_event seen o) cs))
          ≡ of_case c ∷ of_cases (seen ++ some_text o) cs
      by None is = ap (λ (l : List (List ℕ)). of_case c ∷ of_cases l cs) (sym (append-nil seen))
      by (Some e) is =
          ap (λ (b : Bool). made (if b then different seen cs else (c ∷ different (e ∷ seen) cs))) is
          ∙ ap (λ (l : List Case). of_case c ∷ made l) (different-alike (e ∷ seen) (seen ++ e ∷ []) (last-alike e seen) cs)

pub ruleset alone_steps = (common_steps, alone-next)

pub ruleset case_steps = (common_steps, flat_map-append, again-next, other-next)
