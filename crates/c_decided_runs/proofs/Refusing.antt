-- What is refused at once is refused where the functions that are called from outside stay as they are.
use Rattle.std.proofs.Common.{◌≡◌, ◌≤◌, ℕ, true, List, [], ◌∷◌, Option, Some, None, slice_get, refl, ap, ◌∙◌}
use Rattle.flow_base.specs.declared.bounds.Bounds.{Bounds}
use Rattle.code_language.specs.Code.{Code}
use Rattle.code_language.specs.WellFormed.{IsCode}
use Rattle.c_subset.specs.declared.trees.Width.{Width}
use Rattle.c_subset.specs.Trees.{Function, File}
use Rattle.c_subset.specs.Meaning.{bits, CValue, Store}
use Rattle.c_subset.specs.Running.{Returns, call, run}
use Rattle.c_functions.specs.Files.{shape_of, with_fault}
use Rattle.c_functions.specs.Moments.{word_of}
use Rattle.c_functions.specs.Plans.{Shape, Tests, start_function, react_function, refused_number}
use Rattle.c_functions.specs.Statements.{Block as Body}
use Rattle.c_functions.specs.Starts.{file_of, Refuses}
use Rattle.c_functions.proofs.StartsRuns.{not-running-refused, no-event-refused, start-refused}
use Rattle.c_decided.specs.Decided.{Plan}
use Rattle.c_decided.specs.Made.{FileIsMade}
use Rattle.c_decided_runs.specs.Runs.{RefusesAtOnce}

-- a call of a function that is the same, which calls no function
same-call : (file made : File) (int : Width) (f : ℕ) (xs : List CValue) (s : Store)
    → slice_get made.functions f ≡ slice_get file.functions f → call made int 1 f xs s ≡ call file int 1 f xs s
unfolding call
same-call file made int f xs s e = ap (λ (o : Option Function). run int (call file int 0) 0 o xs s) e

module _ (P : Plan) (file made : File) (is : FileIsMade P file made) (int : Width) where
  stays-at-once : (f : ℕ) (xs : List CValue) (s after : Store) (x : CValue) → P.stays f ≡ true
      → call file int 1 f xs s ≡ Returns after x → call made int 1 f xs s ≡ Returns after x
  unfolding call
  stays-at-once f xs s after x stays e = at (slice_get file.functions f) refl e
    where
      at : (o : Option Function) → slice_get file.functions f ≡ o
          → run int (call file int 0) 0 o xs s ≡ Returns after x → call made int 1 f xs s ≡ Returns after x
      at None there e = absurd cc
      at (Some g) there e =
          let (g', there', one) = is.each f g there in
          ap (λ (o : Option Function). run int (call file int 0) 0 o xs s) (there' ∙ ap Some (one.stays stays)) ∙ e

  pub refuses-at-once : (K : Shape) → P.stays (start_function K) ≡ true → P.stays (react_function K) ≡ true
      → RefusesAtOnce K file int → RefusesAtOnce K made int
  refuses-at-once K start react h = record {
    not_running = λ s e small ready.
        stays-at-once (react_function K) (word_of e ∷ []) s s _ react (h.not_running s e small ready);
    no_event = λ s moment e small shows none no_input no_tick.
        stays-at-once (react_function K) (word_of e ∷ []) s (with_fault K s refused_number 0) _ react
        (h.no_event s moment e small shows none no_input no_tick);
    second_start = λ s ready fault hr hf some.
        stays-at-once (start_function K) [] s s _ start (h.second_start s ready fault hr hf some);
  }

pub refuses-so : (K : Shape) (file : File) (int : Width) → RefusesAtOnce K file int → Refuses K file int
refuses-so K file int h = record {
  not_running = λ s e small ready. record { fuel = 1; gives = h.not_running s e small ready };
  no_event = λ s moment e small shows none no_input no_tick.
      record { fuel = 1; gives = h.no_event s moment e small shows none no_input no_tick };
  second_start = λ s ready fault hr hf some. record { fuel = 1; gives = h.second_start s ready fault hr hf some };
}

pub code-refuses : (k : Code) (T : Tests) (b : Bounds) (room : ℕ) (bodies : ℕ → Body) (int : Width) → IsCode k
    → bits int ≤ 32 → RefusesAtOnce (shape_of k T b room) (file_of k T b room bodies) int
code-refuses k T b room bodies int is most = record {
  not_running = not-running-refused k T b room bodies int is most;
  no_event = no-event-refused k T b room bodies int is most;
  second_start = start-refused k T b room bodies int is most;
}
