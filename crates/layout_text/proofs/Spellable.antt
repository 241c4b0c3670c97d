-- The code of a valid chart has a text.
use Rattle.std.proofs.Common.{◌≡◌, ℕ, suc, ◌+◌, ◌^◌, ◌<◌, ◌≤◌, Bool, true}
use Rattle.std.proofs.Common.{false, ◌||◌, nat_lt, List, [], ◌∷◌, length, map}
use Rattle.std.proofs.Common.{Option, Some, None, slice_index_or, refl, sym, subst, arith}
use Rattle.std.specs.List.{AllByRecursion, list_any}
use Rattle.std.proofs.lemmas.Bool.Decides.{nat_tests}
use Rattle.std.proofs.lemmas.List.{length-map}
use Rattle.active_config.specs.Tree.{Tree, IsTree, state_count, parent_of}
use Rattle.active_config.proofs.PathLemmas.{parent_lt}
use Rattle.checked_chart.specs.Chart.{Chart}
use Rattle.checked_chart.specs.Valid.{IsValid}
use Rattle.code_language.specs.declared.code.RawState.{RawState}
use Rattle.code_language.specs.declared.limits.TheConstants.{PROC_LIMIT, INSTR_LIMIT}
use Rattle.code_language.specs.Code.{Code, tree_of_states}
use Rattle.code_language.specs.Instrs.{Instr}
use Rattle.code_language.specs.Tables.{IsTable}
use Rattle.code_language.specs.WellFormed.{known_of, procs_fault, starts_known, too_many}
use Rattle.code_language.proofs.Accepted.{no_procs_fault}
use Rattle.code_lines.specs.declared.format.Format.TheVariants.{Two}
use Rattle.code_lines.specs.Spelling.{HasParent, HasNumbers}
use Rattle.code_text.specs.Spelling.{HasItsParent, IsSpellable}
use Rattle.code_text.specs.Written.{Written, code_written}
use Rattle.code_text.proofs.SpellableLemmas.{right_spellable}
use Rattle.chart_code.specs.Bodies.{procedures_of, code_of_chart}
use Rattle.layout_bounds.proofs.SoundCode.{code_sound}
use Rattle.layout_bounds.proofs.SoundTables.{table, starts}
use Rattle.layout_bounds.proofs.FewProcedures.{code_few}
use Rattle.chart_code.proofs.ListResults.{layout_results}
use Rattle.layout_text.proofs.SoundNumbers.{FewKnown, procs_numbers}

-- ---- parents

-- a parent of a state of a small tree
parent_small : (t : Tree) → IsTree t → state_count t ≤ 1024 → (s : ℕ) → s < state_count t → HasParent (parent_of t s)
parent_small t tree few s lt = go (parent_of t s) refl
  where
    go : (o : Option ℕ) → parent_of t s ≡ o → HasParent o
    go None e = tt
    go (Some p) e = omega (arith, parent_lt t (state_count t) tree.pre_order s p lt e, lt, few)

-- states with parents of a text
all_parents : (states : List RawState)
    → ((i : ℕ) → i < length states → HasParent (slice_index_or (map (λ (s : RawState). s.parent) states) i None))
    → AllByRecursion HasItsParent states
all_parents [] h = tt
all_parents (s ∷ states) h = (h 0 (omega arith), all_parents states (λ i lt. h (suc i) (omega arith)))

-- the states of a small tree
pub parents_small : (states : List RawState) → IsTree (tree_of_states states)
    → state_count (tree_of_states states) ≤ 1024
    → AllByRecursion HasItsParent states
unfolding parent_of state_count
parents_small states tree few = all_parents states (λ i lt.
    parent_small (tree_of_states states) tree few i (omega (arith, lt, length-map states (λ (s : RawState). s.parent))))

-- ---- the code of a chart

-- what is known of code that has a text
record IsRight (k : Code) : Type 0 where
  table : IsTable k.tree k.names
  few : too_many k.procedures.procs ≡ false
  starts : starts_known k.procedures ≡ true
  sound : procs_fault (known_of k) 0 k.procedures.procs ≡ None
  numbers : AllByRecursion (AllByRecursion HasNumbers) k.procedures.procs

-- procedures that aren't too many
not_many : (procs : List (List Instr)) → too_many procs ≡ false
    → (length procs ≤ PROC_LIMIT) × (list_any (λ (is : List Instr). nat_lt INSTR_LIMIT (length is)) procs ≡ false)
not_many procs h = by_test (nat_lt PROC_LIMIT (length procs)) refl h
  where
    by_test : (long : Bool) → nat_lt PROC_LIMIT (length procs) ≡ long
        → (long || list_any (λ (is : List Instr). nat_lt INSTR_LIMIT (length is)) procs) ≡ false
        → (length procs ≤ PROC_LIMIT) × (list_any (λ (is : List Instr). nat_lt INSTR_LIMIT (length is)) procs ≡ false)
    by_test true e g = absurd cc
    by_test false e g = (grind (arith, nat_tests), g)

module _ (c : Chart) (valid : IsValid c) where
  -- what code knows of a chart is small
  known_few : FewKnown (known_of (code_of_chart c))
  unfolding code_of_chart
  known_few =
      let small = not_many (procedures_of c).procs (code_few c valid) in
      record {
        states = valid.limits.states;
        vars = valid.limits.vars;
        events = valid.limits.events;
        procs = small.0;
      }

  -- the code of a chart
  is_right : IsRight (code_of_chart c)
  unfolding code_of_chart procedures_of
  is_right =
      let procs = (code_of_chart c).procedures.procs in
      let high : 3 + state_count c.tree ≤ 2 ^ 32 = omega (arith, valid.limits.states) in
      record {
        table = table c valid;
        few = code_few c valid;
        starts = starts c valid;
        sound = no_procs_fault (known_of (code_of_chart c)) 0 procs (code_sound c valid);
        numbers = procs_numbers (known_of (code_of_chart c)) known_few 0 procs (code_sound c valid)
            (not_many procs (code_few c valid)).1 (layout_results c valid (2 ^ 32) high);
      }

  -- what is written of it has a text
  pub code_spellable : (w : Written) → code_written w ≡ code_of_chart c → IsSpellable Two w
  code_spellable w same =
      let right : IsRight (code_written w) = subst IsRight (sym same) is_right in
      right_spellable w right.table right.few right.starts right.sound
      (parents_small w.states right.table.tree right.table.states) right.numbers
