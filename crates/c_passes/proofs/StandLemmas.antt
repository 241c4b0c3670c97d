-- A file that is made by passes stands for the one of which it is made.
use Rattle.std.proofs.Common.{◌≡◌, ◌⊎◌, inl, inr, ◌+◌, ◌≤◌, ℕ, zero, suc, List, [], ◌∷◌, ◌++◌, length, Option, Some, slice_get, refl, sym}
use Rattle.std.proofs.Common.{ap, ◌∙◌, arith}
use Rattle.flow_base.specs.declared.bounds.Bounds.{Bounds}
use Rattle.code_language.specs.Code.{Code}
use Rattle.c_subset.specs.declared.trees.CType.{CType}
use Rattle.c_subset.specs.declared.trees.Width.{Width}
use Rattle.c_subset.specs.Trees.{Function, File}
use Rattle.c_subset.specs.Meaning.{CValue, Store}
use Rattle.c_subset.specs.Running.{call, run}
use Rattle.c_functions.specs.Files.{shape_of, functions_c, with_fault}
use Rattle.c_functions.specs.Moments.{word_of}
use Rattle.c_functions.specs.Plans.{Shape, Tests, init_function, start_function, react_function, refused_number}
use Rattle.c_functions.specs.Starts.{file_of, init_c, start_c, react_c}
use Rattle.c_functions.specs.Writer.{plans_of}
use Rattle.c_decided.proofs.Deciding.{calls-kept}
use Rattle.c_decided_runs.proofs.Runs as decided
use Rattle.c_decided_runs.specs.Runs.{RefusesAtOnce}
use Rattle.c_decided_runs.proofs.Refusing.{refuses-at-once, refuses-so, code-refuses}
use Rattle.c_loops.specs.Loops.{with_loops}
use Rattle.c_loops.proofs.Runs as loops
use Rattle.c_bare.specs.Bare.{handed, with_bare}
use Rattle.c_bare.proofs.Runs.{IsKept}
use Rattle.c_bare.proofs.Law as bare
use Rattle.c_unread.specs.Unread.{trimmed_of, with_trimmed}
use Rattle.c_unread.proofs.Calling as unread
use Rattle.c_pruned.specs.Pruned.{pruned_of, with_pruned}
use Rattle.c_pruned.proofs.Law as pruned
use Rattle.c_inlined.specs.Inlined.{with_function}
use Rattle.c_inlined.proofs.Law as inlined
use Rattle.c_passes.specs.Passed.{IsPassed, AsItIs, Decided, Looped, Bared, Trimmed, Pruned, Inlined}
use Rattle.c_passes.specs.Standing.{HasOutside, StandsFor, PassedFilesRefuse}
use Rattle.c_passes.proofs.FunctionLemmas.{first_count}
use Rattle.c_passes.proofs.HeadLemmas.{decided_head, loops_count, loop_head, past_loops, bare_count, bare_head, own_head, kept_head, fewer_head, map_count, map_head}
use Rattle.c_passes.proofs.HeadLemmas.{set_count, set_head}

same : (n f : ℕ) → n ≡ 0 + f → n ≡ f
same n f e = omega (arith, e)

-- ---- refusals

-- a file refuses at once what another one does, where what calls from outside return there they return in it
kept_refuses : (K : Shape) (file file' : File) (int : Width) → ((f : ℕ) → IsKept int file file' f [])
    → ((x : CValue) → IsKept int file file' (react_function K) (x ∷ [])) → RefusesAtOnce K file int
    → RefusesAtOnce K file' int
kept_refuses K file file' int starts reacts h = record {
  not_running = λ s e small ready. reacts _ 1 s s _ (h.not_running s e small ready);
  no_event = λ s moment e small shows none no_input no_tick.
      reacts _ 1 s (with_fault K s refused_number 0) _ (h.no_event s moment e small shows none no_input no_tick);
  second_start = λ s ready fault hr hf some. starts _ 1 s s _ (h.second_start s ready fault hr hf some);
}

-- a call of a function that is no loop, which calls no function
past_call : (n : ℕ) (file : File) (int : Width) (f : ℕ) (xs : List CValue) (s : Store) → n ≤ f
    → call (with_loops n file) int 1 f xs s ≡ call file int 1 f xs s
unfolding call
past_call n file int f xs s past =
    ap (λ (o : Option Function). run int (call file int 0) 0 o xs s) (past_loops file.functions 0 n f past)

loops_refuse : (K : Shape) (n : ℕ) (file : File) (int : Width) → n ≤ K.procs → RefusesAtOnce K file int
    → RefusesAtOnce K (with_loops n file) int
loops_refuse K n file int few h =
    let react : n ≤ react_function K = omega (arith, few) in
    let start : n ≤ start_function K = omega (arith, few) in record {
      not_running = λ s e small ready.
          past_call n file int (react_function K) (word_of e ∷ []) s react ∙ h.not_running s e small ready;
      no_event = λ s moment e small shows none no_input no_tick.
          past_call n file int (react_function K) (word_of e ∷ []) s react
          ∙ h.no_event s moment e small shows none no_input no_tick;
      second_start = λ s ready fault hr hf some.
          past_call n file int (start_function K) [] s start ∙ h.second_start s ready fault hr hf some;
    }

-- ---- what passes make

pub stands : (K : Shape) (file made : File) → IsPassed K file made → StandsFor K file made
stands K file _ AsItIs = record {
  fields = refl;
  rows = refl;
  count = refl;
  heads = own_head K file;
  runs = λ int s given events moments shape values all run. run;
  refuses = λ int refuses. refuses;
}
stands K file _ (Decided P before made passed is between) =
    let h : StandsFor K file before = stands K file before passed in record {
      fields = is.fields ∙ h.fields;
      rows = is.rows ∙ h.rows;
      count = is.count ∙ h.count;
      heads =
          λ f g there. let has = decided_head P before made is f g there in
          kept_head K file f g has.function has.result has.parameters (h.heads f has.function has.there);
      runs =
          λ int s given events moments shape values all run.
          decided.runs-on P K before made (calls-kept P before made is) between int s given events moments shape values
          all (h.runs int s given events moments shape values all run);
      refuses =
          λ int refuses. refuses-at-once P before made is int K between.start_stays between.react_stays
          (h.refuses int refuses);
    }
stands K file _ (Looped n made passed few) =
    let h : StandsFor K file made = stands K file made passed in record {
      fields = h.fields;
      rows = h.rows;
      count = loops_count made.functions 0 n ∙ h.count;
      heads =
          λ f g there. let has = loop_head made.functions 0 n f g there in
          kept_head K file f g has.function has.result has.parameters (h.heads f has.function has.there);
      runs =
          λ int s given events moments shape values all run. loops.runs-on n K made int s given events moments
          (h.runs int s given events moments shape values all run);
      refuses = λ int refuses. loops_refuse K n made int few (h.refuses int refuses);
    }
stands K file _ (Bared flags made passed needless reaction) =
    let h : StandsFor K file made = stands K file made passed in record {
      fields = h.fields;
      rows = h.rows;
      count = bare_count flags made.functions 0 ∙ h.count;
      heads =
          λ f g there. let has = bare_head flags made.functions 0 f g there in
          fewer_head K file flags f g has.function reaction has.result
          (has.parameters ∙ ap (λ (n : ℕ). handed flags n has.function.parameters) (same has.number f has.is_number))
          (h.heads f has.function has.there);
      runs =
          λ int s given events moments shape values all run.
          bare.runs-as flags made needless K reaction int s given events moments
          (h.runs int s given events moments shape values all run);
      refuses =
          λ int refuses. kept_refuses K made (with_bare flags made) int (bare.starts flags made needless int)
          (bare.reacts flags made needless int (react_function K) reaction) (h.refuses int refuses);
    }
stands K file _ (Trimmed made passed) =
    let h : StandsFor K file made = stands K file made passed in record {
      fields = h.fields;
      rows = h.rows;
      count = map_count trimmed_of made.functions ∙ h.count;
      heads =
          λ f g there. let has = map_head trimmed_of (λ g. refl) (λ g. refl) made.functions f g there in
          kept_head K file f g has.function has.result has.parameters (h.heads f has.function has.there);
      runs =
          λ int s given events moments shape values all run. unread.runs-as made K int s given events moments
          (h.runs int s given events moments shape values all run);
      refuses =
          λ int refuses. kept_refuses K made (with_trimmed made) int
          (λ f k s after x e. unread.calls-alike made int k f [] s after x e)
          (λ y k s after x e. unread.calls-alike made int k (react_function K) (y ∷ []) s after x e)
          (h.refuses int refuses);
    }
stands K file _ (Pruned made passed) =
    let h : StandsFor K file made = stands K file made passed in record {
      fields = h.fields;
      rows = h.rows;
      count = map_count pruned_of made.functions ∙ h.count;
      heads =
          λ f g there. let has = map_head pruned_of (λ g. refl) (λ g. refl) made.functions f g there in
          kept_head K file f g has.function has.result has.parameters (h.heads f has.function has.there);
      runs =
          λ int s given events moments shape values all run. pruned.runs-as made K int s given events moments
          (h.runs int s given events moments shape values all run);
      refuses =
          λ int refuses. kept_refuses K made (with_pruned made) int (λ f. pruned.kept made K int f [])
          (λ y. pruned.kept made K int _ (y ∷ [])) (h.refuses int refuses);
    }
stands K file _ (Inlined p f' made passed is) =
    let h : StandsFor K file made = stands K file made passed in record {
      fields = h.fields;
      rows = h.rows;
      count = set_count made.functions p f' ∙ h.count;
      heads =
          λ f g there. let has =
          set_head made.functions p f' is.function is.there (sym is.inlined.result) (sym is.inlined.parameters) f g
          there in
          kept_head K file f g has.function has.result has.parameters (h.heads f has.function has.there);
      runs =
          λ int s given events moments shape values all run. inlined.runs-as made p f' is int K s given events moments
          (h.runs int s given events moments shape values all run);
      refuses =
          λ int refuses. kept_refuses K made (with_function made p f') int
          (λ f k s after x e. inlined.calls-alike made p f' is int k f [] s after x e)
          (λ y k s after x e. inlined.calls-alike made p f' is int k (react_function K) (y ∷ []) s after x e)
          (h.refuses int refuses);
    }

-- what is to be refused
pub refuse_all : PassedFilesRefuse
refuse_all k T limits room made int is most passed =
    refuses-so (shape_of k T limits room) made int
    ((stands (shape_of k T limits room) (file_of k T limits room (plans_of k)) made passed).refuses int
    (code-refuses k T limits room (plans_of k) int is most))

-- ---- what is called from outside

-- what stands behind others
behind : {A : Type 0} (xs ys : List A) (i j : ℕ) → j ≡ length xs + i → slice_get (xs ++ ys) j ≡ slice_get ys i
behind [] ys i j e = ap (λ (n : ℕ). slice_get ys n) (at e) where
  at : j ≡ 0 + i → j ≡ i
  at e = omega (arith, e)
behind (x ∷ xs) ys i zero e = absurd (omega (arith, e))
behind (x ∷ xs) ys i (suc j) e = behind xs ys i j (omega (arith, e))

-- all or nothing of no parameters is nothing
nothing : (ts us : List CType) → us ≡ [] → (ts ≡ us) ⊎ (ts ≡ []) → ts ≡ []
nothing ts us none (inl same) = same ∙ none
nothing ts us none (inr is) = is

module _ (k : Code) (T : Tests) (b : Bounds) (room : ℕ) where
  abbrev K : Shape
  K = shape_of k T b room

  abbrev file : File
  file = file_of k T b room (plans_of k)

  -- the functions that are called from outside stand behind the others
  outside_there : (i j : ℕ) (f : Function) → j ≡ length k.procedures.procs + 8 + i
      → slice_get (init_c K ∷ start_c K k.procedures.start ∷ react_c K k.procedures.react ∷ []) i ≡ Some f
      → slice_get file.functions j ≡ Some f
  outside_there i j f e there =
      behind (functions_c K (plans_of k))
      (init_c K ∷ start_c K k.procedures.start ∷ react_c K k.procedures.react ∷ []) i j
      (e ∙ ap (λ (n : ℕ). n + i) (sym (first_count k T b room (plans_of k)))) ∙ there

  -- there is one
  one_of : (x y : Function) (j : ℕ) → slice_get file.functions j ≡ Some x → slice_get file.functions j ≡ Some y → x ≡ y
  one_of x y j at there = some_is (sym at ∙ there) where
    some_is : Some x ≡ Some y → x ≡ y
    some_is e = cc

  pub outside_kept : (made : File) → IsPassed K file made → HasOutside K made
  outside_kept made passed =
      let h : StandsFor K file made = stands K file made passed in record {
        init =
            λ g there. let head = h.heads (init_function K) g there in
            let is : head.function ≡ init_c K =
            one_of head.function (init_c K) (init_function K) head.there
            (outside_there 0 (init_function K) (init_c K) (omega arith) refl) in (
              head.result ∙ ap (λ (f : Function). f.result) is,
              nothing g.parameters head.function.parameters (ap (λ (f : Function). f.parameters) is) head.parameters,
            );
        start =
            λ g there. let head = h.heads (start_function K) g there in
            let is : head.function ≡ start_c K k.procedures.start =
            one_of head.function (start_c K k.procedures.start) (start_function K) head.there
            (outside_there 1 (start_function K) (start_c K k.procedures.start) (omega arith) refl) in (
              head.result ∙ ap (λ (f : Function). f.result) is,
              nothing g.parameters head.function.parameters (ap (λ (f : Function). f.parameters) is) head.parameters,
            );
        react =
            λ g there. let head = h.heads (react_function K) g there in
            let is : head.function ≡ react_c K k.procedures.react =
            one_of head.function (react_c K k.procedures.react) (react_function K) head.there
            (outside_there 2 (react_function K) (react_c K k.procedures.react) (omega arith) refl) in (
              head.result ∙ ap (λ (f : Function). f.result) is,
              head.reaction refl ∙ ap (λ (f : Function). f.parameters) is,
            );
      }
