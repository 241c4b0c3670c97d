-- The tests that are written are the tests of the fields.
use Rattle.std.proofs.Common.{◌≡◌, ℕ, List, [], ◌∷◌, Option, Some, None, Bool, true, false, not, ◌&&◌, ◌||◌, Ok, refl}
use Rattle.std.proofs.Common.{ap, ◌∙◌}
use Rattle.std.specs.Prelude.{slice_index_or, if◌then◌else◌}
use Rattle.std.specs.List.{list_any}
use Rattle.active_config.specs.Tree.{parent_of, comp_of, children_of, is_or}
use Rattle.actions.specs.Work.{Now}
use Rattle.c_functions.specs.States.{or_parent, c_on, on_by, c_bare, childless_by, c_last, last_by, c_takes}
use Rattle.c_functions.specs.States.{c_set, c_unset, c_mark, c_clear}
use Rattle.c_functions.specs.Statements.{CMemory, Locals, Check, Out, Fell, End, Both, Not, Flag}
use Rattle.c_functions.specs.Meaning.{CProgram, Calls, check, exec, branch, and_on, with_states}
use Rattle.c_functions.specs.Written.{and_no_flag, on_under, on_check, and_childless, bare_check, last_under, takes_if}
use Rattle.c_functions.specs.Written.{takes_check, set_block, unset_block}

module _ (P : CProgram) (m : CMemory) (now : Now) (l : Locals) where
  -- a test and the flags after it
  and_no_flag_is : (a : Check) (xs : List ℕ) → check P (and_no_flag a xs) m now l
      ≡ (check P a m now l && not (list_any (λ x. slice_index_or m.states.flags x false) xs))
  and_no_flag_is a [] = at (check P a m now l)
    where
      at : (b : Bool) → b ≡ (b && true)
      at true = refl
      at false = refl
  and_no_flag_is a (x ∷ xs) =
      and_no_flag_is (Both a (Not (Flag x))) xs
      ∙ at (check P a m now l) (slice_index_or m.states.flags x false)
      (list_any (λ x. slice_index_or m.states.flags x false) xs)
    where
      at : (b c any : Bool) → ((b && not c) && not any) ≡ (b && not (c || any))
      at true true any = refl
      at true false any = refl
      at false c any = refl

  on_under_is : (s : ℕ) (o : Option ℕ) → check P (on_under P.numbers s o) m now l ≡ on_by P.numbers m.states s o
  on_under_is s None = refl
  on_under_is s (Some p) = refl

  pub on_test : (s : ℕ) → check P (on_check P.tree P.numbers s) m now l ≡ c_on P.tree P.numbers s m.states
  unfolding c_on
  on_test s = on_under_is s (or_parent P.tree (parent_of P.tree s))

  -- a test and the children after it
  childless_test : (s : ℕ) (a : Check) (b : Bool) → check P (and_childless P.tree s a b) m now l
      ≡ (check P a m now l && childless_by P.tree s m.states b)
  childless_test s a true = refl
  childless_test s a false = and_no_flag_is a (children_of P.tree s)

  pub bare_test : (s : ℕ) → check P (bare_check P.tree P.numbers s) m now l ≡ c_bare P.tree P.numbers s m.states
  unfolding c_bare
  bare_test s =
      childless_test s (on_check P.tree P.numbers s) (is_or (comp_of P.tree s))
      ∙ ap (λ b. b && childless_by P.tree s m.states (is_or (comp_of P.tree s))) (on_test s)

  last_under_is : (s : ℕ) (o : Option ℕ) → check P (last_under P.numbers s o) m now l ≡ last_by P.numbers m.states s o
  last_under_is s None = refl
  last_under_is s (Some p) = refl

  pub last_test : (s : ℕ) → check P (last_under P.numbers s (parent_of P.tree s)) m now l
      ≡ c_last P.tree P.numbers s m.states
  unfolding c_last
  last_test s = last_under_is s (parent_of P.tree s)

  takes_if_is : (p : ℕ) (b : Bool) → check P (takes_if P.tree P.numbers p b) m now l
      ≡ (if b then c_bare P.tree P.numbers p m.states else c_on P.tree P.numbers p m.states)
  takes_if_is p true = bare_test p
  takes_if_is p false = on_test p

  takes_test : (o : Option ℕ) → check P (takes_check P.tree P.numbers o) m now l ≡ c_takes P.tree P.numbers o m.states
  takes_test None = refl
  takes_test (Some p) = takes_if_is p (is_or (comp_of P.tree p))

  module _ (call : Calls) (k : ℕ) (go : CMemory → Locals → Out) where
    set_runs : (s : ℕ) (o : Option ℕ) → exec P call k now (set_block P.numbers s o) m l ≡ Fell
        (with_states (c_set P.numbers s o m.states) m) l
    unfolding exec
    set_runs s None = refl
    set_runs s (Some p) = refl

    unset_runs : (s : ℕ) (o : Option ℕ) → exec P call k now (unset_block s o) m l ≡ Fell
        (with_states (c_unset s o m.states) m) l
    unfolding exec
    unset_runs s None = refl
    unset_runs s (Some p) = refl

    end_runs : exec P call k now End m l ≡ Fell m l
    unfolding exec
    end_runs = refl

    mark_by : (b : Bool) (s : ℕ) (o : Option ℕ)
        → and_on (branch (Ok b) m (exec P call k now (set_block P.numbers s o) m l) (exec P call k now End m l)) go
        ≡ go (with_states (if b then c_set P.numbers s o m.states else m.states) m) l
    mark_by true s o = ap (λ x. and_on x go) (set_runs s o)
    mark_by false s o = ap (λ x. and_on x go) end_runs

    -- `mark`
    pub mark_runs : (s : ℕ) → and_on
        (branch (Ok (check P (takes_check P.tree P.numbers (parent_of P.tree s)) m now l)) m
        (exec P call k now (set_block P.numbers s (or_parent P.tree (parent_of P.tree s))) m l)
        (exec P call k now End m l)) go
        ≡ go (with_states (c_mark P.tree P.numbers s m.states) m) l
    unfolding c_mark
    mark_runs s =
        mark_by (check P (takes_check P.tree P.numbers (parent_of P.tree s)) m now l) s
        (or_parent P.tree (parent_of P.tree s))
        ∙ ap (λ b. go (with_states
        (if b then c_set P.numbers s (or_parent P.tree (parent_of P.tree s)) m.states else m.states) m) l)
        (takes_test (parent_of P.tree s))

    clear_by : (b : Bool) (s : ℕ) (o : Option ℕ)
        → and_on (branch (Ok b) m (exec P call k now (unset_block s o) m l) (exec P call k now End m l)) go
        ≡ go (with_states (if b then c_unset s o m.states else m.states) m) l
    clear_by true s o = ap (λ x. and_on x go) (unset_runs s o)
    clear_by false s o = ap (λ x. and_on x go) end_runs

    -- `clear`
    pub clear_runs : (s : ℕ) → and_on (branch (Ok (check P (bare_check P.tree P.numbers s) m now l)) m
        (exec P call k now (unset_block s (or_parent P.tree (parent_of P.tree s))) m l) (exec P call k now End m l)) go
        ≡ go (with_states (c_clear P.tree P.numbers s m.states) m) l
    unfolding c_clear
    clear_runs s =
        clear_by (check P (bare_check P.tree P.numbers s) m now l) s (or_parent P.tree (parent_of P.tree s))
        ∙ ap (λ b. go (with_states
        (if b then c_unset s (or_parent P.tree (parent_of P.tree s)) m.states else m.states) m) l) (bare_test s)
