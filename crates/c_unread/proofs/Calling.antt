-- A call returns the same in the file without sets that nothing reads.
use Rattle.std.proofs.Common.{◌≡◌, ℕ, zero, suc, Bool, true, false, cond, List, [], ◌∷◌, Option, Some, None, map, slice_get, refl, sym, ap, ◌∙◌, subst}
use Rattle.actions.specs.declared.expr.Value.{Value}
use Rattle.actions.specs.Runs.{EventWithInputs, Moment}
use Rattle.c_subset.specs.declared.trees.Width.{Width}
use Rattle.c_subset.specs.Trees.{Function, File}
use Rattle.c_subset.specs.Trees.{Block, End, Set, Store as PutField, StoreAt, Call, Select, If, While, Return}
use Rattle.c_subset.specs.Meaning.{CValue, Store, Locals}
use Rattle.c_subset.specs.Running.{Calls, outcome, no_locals, with_arguments, returned, run, call}
use Rattle.c_functions.specs.Plans.{Shape, react_function}
use Rattle.c_functions.specs.Starts.{RunsOn, Refuses}
use Rattle.c_trees.specs.Sizes.{is_short}
use Rattle.c_bare.specs.Bare.{fewer}
use Rattle.c_bare.proofs.Keeping.{Keeps, Alike, fewer-keeps}
use Rattle.c_bare.proofs.Written.{none-selected}
use Rattle.c_bare.proofs.Calling.{returned-alike, arguments-alike}
use Rattle.c_bare.proofs.Runs as runs
use Rattle.c_unread.specs.Unread.{trimmed, trimmed_of, with_trimmed}
use Rattle.c_unread.proofs.Keeping.{Live, trim-keeps}

-- the function with a number in the file without such sets
trimmed-at : (fs : List Function) (i : ℕ) (f : Function) → slice_get fs i ≡ Some f
    → slice_get (map trimmed_of fs) i ≡ Some (trimmed_of f)
trimmed-at [] i f there = absurd cc
trimmed-at (g ∷ fs) zero f there = ap (λ (o : Option Function). of o) there
  where
    of : Option Function → Option Function
    of (Some h) = Some (trimmed_of h)
    of None = None
trimmed-at (g ∷ fs) (suc i) f there = trimmed-at fs i f there

-- ---- statements that stay

-- nothing is handed to no bare function
fewer-none : (a : Block) → fewer [] a ≡ a
unfolding fewer
fewer-none End = refl
fewer-none (Set t i e rest) = ap (λ (b : Block). Set t i e b) (fewer-none rest)
fewer-none (PutField f e rest) = ap (λ (b : Block). PutField f e b) (fewer-none rest)
fewer-none (StoreAt a i e rest) = ap (λ (b : Block). StoreAt a i e b) (fewer-none rest)
fewer-none (Call t i f args rest) = ap (λ (b : Block). Call t i f args b) (fewer-none rest)
fewer-none (Select t i e cases args rest) = ap (λ (b : Block). Select t i e cases args b) (fewer-none rest)
fewer-none (If e a b rest) =
    ap (λ (x : Block). If e x (fewer [] b) (fewer [] rest)) (fewer-none a)
    ∙ ap (λ (x : Block). If e a x (fewer [] rest)) (fewer-none b) ∙ ap (λ (x : Block). If e a b x) (fewer-none rest)
fewer-none (While e a rest) =
    ap (λ (x : Block). While e x (fewer [] rest)) (fewer-none a) ∙ ap (λ (x : Block). While e a x) (fewer-none rest)
fewer-none (Return e) = refl

-- they do the same where calls do
same-keeps : (int : Width) (c d : Calls) → ((f : ℕ) (xs : List CValue) (s : Store) → Alike (c f xs s) (d f xs s))
    → (k : ℕ) (a : Block) (s : Store) (l : Locals)
    → Keeps (λ t i. true) (outcome int c k a s l) (outcome int d k a s l)
same-keeps int c d alike k a s l =
    subst (λ (b : Block). Keeps (λ t i. true) (outcome int c k a s l) (outcome int d k b s l)) (fewer-none a)
    (fewer-keeps [] int c d alike k a (none-selected a) (λ t i. true) s l l (λ t i z r w. w))

-- ---- calls

-- a call of it
function-alike : (int : Width) (c d : Calls) → ((f : ℕ) (xs : List CValue) (s : Store) → Alike (c f xs s) (d f xs s))
    → (k : ℕ) (f : Function) (xs : List CValue) (s : Store)
    → Alike (run int c k (Some f) xs s) (run int d k (Some (trimmed_of f)) xs s)
function-alike int c d alike k f xs s =
    arguments-alike f.parameters xs 0 no_locals (λ l. returned f.result (outcome int c k f.body s l))
    (λ l. returned f.result (outcome int d k (cond (is_short f.body) (trimmed f.body []).block f.body) s l))
    (λ l. at (is_short f.body) l)
  where
    at : (b : Bool) (l : Locals) → Alike (returned f.result (outcome int c k f.body s l))
        (returned f.result (outcome int d k (cond b (trimmed f.body []).block f.body) s l))
    at true l =
        returned-alike (Live []) f.result (outcome int c k f.body s l) (outcome int d k (trimmed f.body []).block s l)
        (trim-keeps int c d alike k f.body [] s l l (λ t i z r w. w))
    at false l =
        returned-alike (λ t i. true) f.result (outcome int c k f.body s l) (outcome int d k f.body s l)
        (same-keeps int c d alike k f.body s l)

module _ (file : File) (int : Width) where
  run-alike : (k f : ℕ) (xs : List CValue) (s : Store)
      → ((g : ℕ) (xs : List CValue) (s : Store) → Alike (call file int k g xs s) (call (with_trimmed file) int k g xs s))
      → (o : Option Function) → slice_get file.functions f ≡ o
      → Alike (run int (call file int k) k o xs s)
      (run int (call (with_trimmed file) int k) k (slice_get (with_trimmed file).functions f) xs s)
  run-alike k f xs s alike None there = λ v x e. absurd cc
  run-alike k f xs s alike (Some g) there =
      subst (λ (o : Option Function). Alike (run int (call file int k) k (Some g) xs s)
      (run int (call (with_trimmed file) int k) k o xs s)) (sym (trimmed-at file.functions f g there))
      (function-alike int (call file int k) (call (with_trimmed file) int k) alike k g xs s)

  pub calls-alike : (k f : ℕ) (xs : List CValue) (s : Store)
      → Alike (call file int k f xs s) (call (with_trimmed file) int k f xs s)
  unfolding call
  calls-alike zero f xs s = λ v x e. absurd cc
  calls-alike (suc k) f xs s =
      run-alike k f xs s (λ g xs s. calls-alike k g xs s) (slice_get file.functions f) refl

pub runs-as : (file : File) (K : Shape) (int : Width) (s : Store) (given : List (Option Value))
    (events : List EventWithInputs) (moments : List Moment) → RunsOn K file int s given events moments
    → RunsOn K (with_trimmed file) int s given events moments
runs-as file K int =
    runs.runs-on K file (with_trimmed file) int (λ f k s after x e. calls-alike file int k f [] s after x e)
    (λ y k s after x e. calls-alike file int k (react_function K) (y ∷ []) s after x e)

pub refuses-as : (file : File) (K : Shape) (int : Width) → Refuses K file int → Refuses K (with_trimmed file) int
refuses-as file K int =
    runs.refuses-on K file (with_trimmed file) int (λ f k s after x e. calls-alike file int k f [] s after x e)
    (λ y k s after x e. calls-alike file int k (react_function K) (y ∷ []) s after x e)
