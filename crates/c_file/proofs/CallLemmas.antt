-- Loops that add the calls of a file to a list.
use Rattle.std.proofs.Common.{◌≡◌, ℕ, ◌+◌, ◌<◌, ◌≤◌, List, [], ◌∷◌, ◌++◌, length, drop, get_or, sym, ap, ◌∙◌}
use Rattle.std.proofs.Common.{append_assoc}
use Rattle.std.proofs.lemmas.List.{at_drop_more, at_drop_all, append-nil}
use Rattle.c_subset.specs.Lines.{line_of, lines_in}
use Rattle.c_subset.specs.declared.trees.Case.{Case}
use Rattle.c_subset.specs.declared.trees.Line.{Line}
use Rattle.c_text.proofs.LoopLemmas.{to_come}
use Rattle.c_file.specs.Calls.{call_to, case_calls, line_calls, calls_in}

-- the first part is added, and what was added with what is to come stays the same
pub more_added : {X : Type 0} (before first rest all now whole : List X)
    → all ≡ first ++ rest → now ≡ before ++ first → before ++ all ≡ whole → now ++ rest ≡ whole
more_added {X} before first rest all now whole parts added so_far =
    ap (λ (t : List X). t ++ rest) added ∙ append_assoc before first rest
    ∙ ap (λ (t : List X). before ++ t) (sym parts) ∙ so_far

-- after the last item nothing is to come
pub all_added : {X Y : Type 0} (F : List X → List Y) (xs : List X) (i : ℕ) (now whole : List Y)
    → length xs ≤ i → F [] ≡ [] → now ++ F (drop i xs) ≡ whole → now ≡ whole
all_added {X} {Y} F xs i now whole past none so_far =
    sym (append-nil now) ∙ ap (λ (t : List Y). now ++ t) (sym (at_drop_all F xs i past ∙ none)) ∙ so_far

-- the calls of cases are those of one and of those after it
pub cases_next : (f : ℕ) (xs : List Case) (i : ℕ) (d : Case) → i < length xs
    → case_calls f (drop i xs) ≡ (call_to f (get_or xs i d).function ∷ []) ++ case_calls f (drop (i + 1) xs)
cases_next f xs i d within = at_drop_more (case_calls f) xs i d within

-- and so are those of lines
pub lines_next : (f : ℕ) (xs : List Line) (i : ℕ) (x : Line) → i < length xs → x ≡ get_or xs i x
    → calls_in f (lines_in (drop i xs)) ≡ line_calls f (line_of x) ++ calls_in f (lines_in (drop (i + 1) xs))
lines_next f xs i x within is = to_come (λ (ys : List Line). calls_in f (lines_in ys)) xs i x within is
