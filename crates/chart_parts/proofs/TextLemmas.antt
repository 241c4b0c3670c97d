-- The path of a state, name by name, and the way from a state to another.
use Rattle.std.proofs.Common.{◌≡◌, ◌≢◌, ◌∙◌, ℕ, Bool, true, false, nat_eq, List, [], ◌∷◌, ◌++◌, Some, None, map, drop}
use Rattle.std.proofs.Common.{reverse, sym, ap, arith, append_assoc, if◌then◌else◌}
use Rattle.std.specs.List.{join_with_byte}
use Rattle.std.proofs.lemmas.Bool.Decides.{nat_tests}
use Rattle.std.proofs.lemmas.List.{append-nil}
use Rattle.active_config.specs.Tree.{Tree, IsTree, parent_of}
use Rattle.active_config.proofs.PathLemmas.{ancestors-root}
use Rattle.actions.specs.Names.{Names}
use Rattle.trace_text.specs.Trace.{path_of, state_name}
use Rattle.trace_text.specs.TraceParts.{item}
use Rattle.trace_text.proofs.PathLemmas.{path_of-child}

module _ (t : Tree) (n : Names) where
  -- a state without a parent has an empty path
  pub root_path : (s : ℕ) (old : List ℕ) → parent_of t s ≡ None → old ≡ old ++ path_of t n s
  unfolding path_of
  root_path s old none =
      sym (append-nil old)
      ∙ ap (λ (above : List ℕ). old ++ join_with_byte 47 (map (state_name n) (drop 1 (reverse (s ∷ above)))))
      (sym (ancestors-root t s none))

  -- a child of the root
  pub first_path : (s p : ℕ) (name old one two new : List ℕ) → IsTree t → parent_of t s ≡ Some p
      → name ≡ state_name n s → p ≡ 0 → one ≡ old ++ path_of t n p → two ≡ one → new ≡ two ++ name
      → new ≡ old ++ path_of t n s
  first_path s p name old one two new tree up named root before same step =
      let first : nat_eq p 0 ≡ true = grind (arith, nat_tests) in
      step ∙ ap (λ l. l ++ name) same ∙ ap (λ l. l ++ name) before ∙ append_assoc old (path_of t n p) name
      ∙ ap (λ (b : Bool). old ++ (path_of t n p ++ item 47 b name)) (sym first)
      ∙ ap (λ l. old ++ l) (sym (path_of-child t n s p name tree up named))

  -- a child of another state
  pub next_path : (s p : ℕ) (name old one mid two new : List ℕ) → IsTree t → parent_of t s ≡ Some p
      → name ≡ state_name n s → p ≢ 0 → one ≡ old ++ path_of t n p → mid ≡ one ++ 47 ∷ [] → two ≡ mid
      → new ≡ two ++ name → new ≡ old ++ path_of t n s
  next_path s p name old one mid two new tree up named other before slash same step =
      let next : nat_eq p 0 ≡ false = grind (arith, nat_tests) in
      step ∙ ap (λ l. l ++ name) same ∙ ap (λ l. l ++ name) slash ∙ append_assoc one (47 ∷ []) name
      ∙ ap (λ l. l ++ 47 ∷ name) before ∙ append_assoc old (path_of t n p) (47 ∷ name)
      ∙ ap (λ (b : Bool). old ++ (path_of t n p ++ item 47 b name)) (sym next)
      ∙ ap (λ l. old ++ l) (sym (path_of-child t n s p name tree up named))

-- work on the way to another state
pub way_text : (s d : ℕ) (words state more old one new : List ℕ) → s ≢ d → one ≡ old ++ (words ++ state)
    → new ≡ one ++ more → new ≡ old ++ (words ++ (state ++ (if nat_eq s d then [] else more)))
way_text s d words state more old one new other first second =
    let away : nat_eq s d ≡ false = grind (arith, nat_tests) in
    second ∙ ap (λ l. l ++ more) first ∙ append_assoc old (words ++ state) more
    ∙ ap (λ l. old ++ l) (append_assoc words state more)
    ∙ ap (λ (b : Bool). old ++ (words ++ (state ++ (if b then [] else more)))) (sym away)
