-- A file with bare functions runs as the file.
use Rattle.std.proofs.Common.{◌≡◌, ℕ, Bool, true, false, cond, List, [], ◌∷◌, Option, subst}
use Rattle.actions.specs.declared.expr.Value.{Value}
use Rattle.actions.specs.Runs.{EventWithInputs, Moment}
use Rattle.c_subset.specs.declared.trees.Width.{Width}
use Rattle.c_subset.specs.Trees.{File}
use Rattle.c_subset.specs.Meaning.{CValue, Store}
use Rattle.c_subset.specs.Running.{Returns, call}
use Rattle.c_functions.specs.Plans.{Shape, react_function}
use Rattle.c_functions.specs.Starts.{RunsOn, Refuses}
use Rattle.c_bare.specs.Needs.{is_bare}
use Rattle.c_bare.specs.Bare.{AreNeedless, with_bare}
use Rattle.c_bare.proofs.Calling.{calls-alike}
use Rattle.c_bare.proofs.Runs.{IsKept, runs-on, refuses-on}

module _ (flags : List Bool) (file : File) (is : AreNeedless flags file.functions) where
  -- a call that hands nothing over stays as it is
  pub starts : (int : Width) (f : ℕ) → IsKept int file (with_bare flags file) f []
  starts int f k s after x e =
      at (is_bare flags f) (calls-alike flags file is int k f [] s after x e)
    where
      at : (b : Bool) → call (with_bare flags file) int k f (cond b [] []) s ≡ Returns after x
          → call (with_bare flags file) int k f [] s ≡ Returns after x
      at true e = e
      at false e = e

  -- and so does one of a function that isn't bare
  pub reacts : (int : Width) (f : ℕ) → is_bare flags f ≡ false → (y : CValue)
      → IsKept int file (with_bare flags file) f (y ∷ [])
  reacts int f kept y k s after x e =
      subst (λ (b : Bool). call (with_bare flags file) int k f (cond b [] (y ∷ [])) s ≡ Returns after x) kept
      (calls-alike flags file is int k f (y ∷ []) s after x e)

  pub runs-as : (K : Shape) → is_bare flags (react_function K) ≡ false → (int : Width) (s : Store)
      (given : List (Option Value)) (events : List EventWithInputs) (moments : List Moment)
      → RunsOn K file int s given events moments → RunsOn K (with_bare flags file) int s given events moments
  runs-as K kept int = runs-on K file (with_bare flags file) int (starts int) (reacts int (react_function K) kept)

  pub refuses-as : (K : Shape) → is_bare flags (react_function K) ≡ false → (int : Width) → Refuses K file int
      → Refuses K (with_bare flags file) int
  refuses-as K kept int =
      refuses-on K file (with_bare flags file) int (starts int) (reacts int (react_function K) kept)
