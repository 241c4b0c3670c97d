-- The first pass over the functions of a file.
use Rattle.std.proofs.Common.{◌≡◌, ◌+◌, ◌<◌, ◌≤◌, ℕ, suc, ◌||◌, Bool, false, List, [], ◌∷◌, ◌++◌, length, map, drop}
use Rattle.std.proofs.Common.{slice_get, slice_index_or, Some, get_or, refl, sym, ap, ◌∙◌, subst, arith, below_more}
use Rattle.std.proofs.Common.{length-append}
use Rattle.std.proofs.lemmas.List.{at_drop_more, get_or_append_left, get_or_push}
use Rattle.std.proofs.lemmas.Option.{slice_get-get_or}
use Rattle.c_subset.specs.Trees.{Function}
use Rattle.c_subset.specs.Lines.{lines_of}
use Rattle.c_readers.specs.Readers.{stores}
use Rattle.c_text.specs.Labels.{Labels}
use Rattle.c_file.specs.declared.calls.FunctionCall.{FunctionCall}
use Rattle.c_file.specs.declared.known.Uses.{Uses}
use Rattle.c_file.specs.Calls.{calls_in, calls_from}
use Rattle.c_file.specs.Reached.{outside_of, AreOutside, AreReached}
use Rattle.c_file.specs.Changing.{AreChanging, first_changes, is_first, turned_round}
use Rattle.c_file.specs.Closing.{Closes}
use Rattle.c_file.specs.Uses.{is_wide}
use Rattle.c_file.specs.Made.{HasUses, AreCalls}
use Rattle.c_file.proofs.CallLemmas.{more_added, all_added}
use Rattle.c_file.proofs.FunctionLemmas.{no_function}
use Rattle.c_file.proofs.ReachLemmas.{reached_ends}

-- ---- flags of functions that are called from outside

-- before the first function
pub outside_none : (L : Labels) (flags : List Bool) → flags ≡ [] → AreOutside L 0 flags
outside_none L flags none = record {
  size = ap length none;
  each = λ f lt. absurd (omega (arith, lt));
}

-- one function more
pub outside_more : (L : Labels) (n : ℕ) (flags new : List Bool) → AreOutside L n flags
    → new ≡ flags ++ outside_of L n ∷ [] → AreOutside L (n + 1) new
outside_more L n flags new so_far is = record {
  size =
      (let last = length-append flags (outside_of L n ∷ []) in
      omega (arith, ap length is, last, so_far.size));
  each =
      below_more (λ (f : ℕ). slice_index_or new f false ≡ outside_of L f) n
      (λ f lt.
      ap (λ (fs : List Bool). slice_index_or fs f false) is
      ∙ get_or_append_left flags (outside_of L n ∷ []) false f (omega (arith, lt, so_far.size)) ∙ so_far.each f lt)
      (ap (λ (fs : List Bool). slice_index_or fs n false) is
      ∙ get_or_push flags (outside_of L n) false n so_far.size);
}

-- after the last function
pub outside_ends : (L : Labels) (n count : ℕ) (flags : List Bool) → n ≡ count → AreOutside L n flags
    → AreOutside L count flags
outside_ends L n count flags all so_far = subst (λ (m : ℕ). AreOutside L m flags) all so_far

-- ---- calls, and types of 128 bits

-- what is known of the functions before a number, with what is to come, is what is known of all
pub record Passing (L : Labels) (functions : List Function) (number : ℕ) (start now : Uses) : Type 0 where
  pub reached : now.reached.items ≡ start.reached.items
  pub calls : now.calls.items ++ calls_from number (drop number functions)
      ≡ start.calls.items ++ calls_from 0 functions
  pub wide : now.wide.items ++ map is_wide (drop number functions) ≡ start.wide.items ++ map is_wide functions
  pub changing : now.changing.items ++ first_changes L number (drop number functions)
      ≡ start.changing.items ++ first_changes L 0 functions

pub passing_starts : (L : Labels) (functions : List Function) (uses : Uses) → Passing L functions 0 uses uses
passing_starts L functions uses = record { reached = refl; calls = refl; wide = refl; changing = refl }

pub passing_goes_on : (L : Labels) (functions : List Function) (number : ℕ) (start old new : Uses)
    → number < length functions → Passing L functions number start old
    → ((g : Function) → slice_get functions number ≡ Some g → HasUses L number g old new)
    → Passing L functions (number + 1) start new
passing_goes_on L functions number start old new within so_far adds =
    let g = get_or functions number no_function in
    let has = adds g (slice_get-get_or functions number no_function within) in
    record {
      reached = has.reached ∙ so_far.reached;
      calls =
          more_added old.calls.items (calls_in number (lines_of g.body))
          (calls_from (number + 1) (drop (number + 1) functions)) (calls_from number (drop number functions)) _ _
          (at_drop_more (calls_from number) functions number no_function within) has.calls so_far.calls;
      wide =
          more_added old.wide.items (is_wide g ∷ []) (map is_wide (drop (number + 1) functions))
          (map is_wide (drop number functions)) _ _
          (at_drop_more (λ gs. map is_wide gs) functions number no_function within) has.wide so_far.wide;
      changing =
          more_added old.changing.items ((outside_of L number || stores g) ∷ [])
          (first_changes L (number + 1) (drop (number + 1) functions)) (first_changes L number (drop number functions))
          _ _ (at_drop_more (first_changes L number) functions number no_function within) has.changing so_far.changing;
    }

pub passing_ends : (L : Labels) (functions : List Function) (number : ℕ) (start uses : Uses)
    → length functions ≤ number → Passing L functions number start uses → AreCalls L functions start uses
passing_ends L functions number start uses past so_far = record {
  reached = so_far.reached;
  calls = all_added (calls_from number) functions number _ _ past refl so_far.calls;
  wide = all_added (map is_wide) functions number _ _ past refl so_far.wide;
  changing = all_added (first_changes L number) functions number _ _ past refl so_far.changing;
}

-- in the end it is known which functions are reached
pub uses_reached : (L : Labels) (functions : List Function) (start all : Uses) (flags : List Bool)
    → AreCalls L functions start all → AreOutside L (length functions) start.reached.items → start.calls.items ≡ []
    → Closes all.calls.items all.reached.items flags → AreReached L functions flags
uses_reached L functions start all flags adds out no_calls closes =
    reached_ends (length functions) (outside_of L) (calls_from 0 functions) all.reached.items flags
    (subst (λ (fs : List Bool). AreOutside L (length functions) fs) (sym adds.reached) out)
    (subst (λ (cs : List FunctionCall). Closes cs all.reached.items flags)
    (adds.calls ∙ ap (λ (cs : List FunctionCall). cs ++ calls_from 0 functions) no_calls) closes)

-- and what calls what
pub uses_calls : (L : Labels) (functions : List Function) (start all : Uses) → AreCalls L functions start all
    → start.calls.items ≡ [] → all.calls.items ≡ calls_from 0 functions
uses_calls L functions start all adds no_calls =
    adds.calls ∙ ap (λ (cs : List FunctionCall). cs ++ calls_from 0 functions) no_calls

-- and which name a type of 128 bits
pub uses_wide : (L : Labels) (functions : List Function) (start all : Uses) → AreCalls L functions start all
    → start.wide.items ≡ [] → all.wide.items ≡ map is_wide functions
uses_wide L functions start all adds no_wide =
    adds.wide ∙ ap (λ (ws : List Bool). ws ++ map is_wide functions) no_wide

-- each function has a flag
first_size : (L : Labels) (f : ℕ) (gs : List Function) → length (first_changes L f gs) ≡ length gs
first_size L f [] = refl
first_size L f (g ∷ gs) = ap suc (first_size L (f + 1) gs)

-- and which may change the struct
pub uses_changing : (L : Labels) (functions : List Function) (start all : Uses) (turned : List FunctionCall)
    → (flags : List Bool) → AreCalls L functions start all → start.calls.items ≡ [] → start.changing.items ≡ []
    → turned ≡ turned_round all.calls.items → Closes turned all.changing.items flags → AreChanging L functions flags
uses_changing L functions start all turned flags adds no_calls none turned_is closes =
    let firsts : all.changing.items ≡ first_changes L 0 functions =
    adds.changing ∙ ap (λ (fs : List Bool). fs ++ first_changes L 0 functions) none in
    let calls : turned ≡ turned_round (calls_from 0 functions) =
    turned_is ∙ ap turned_round (uses_calls L functions start all adds no_calls) in
    reached_ends (length functions) (is_first L functions) (turned_round (calls_from 0 functions))
    (first_changes L 0 functions) flags (record { size = first_size L 0 functions; each = λ f lt. refl })
    (subst (λ (fs : List Bool). Closes (turned_round (calls_from 0 functions)) fs flags) firsts
    (subst (λ (cs : List FunctionCall). Closes cs all.changing.items flags) calls closes))
