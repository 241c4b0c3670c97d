-- Functions that only read the struct store nothing there, and call only such functions.
use Rattle.std.proofs.Common.{◌≡◌, ℕ, zero, suc, ◌+◌, ◌<◌, ◌≤◌, ◌||◌, not, Bool, true, false, List, [], ◌∷◌, ◌++◌}
use Rattle.std.proofs.Common.{length, drop, map, Some, slice_get, slice_index_or, get_or, refl, sym, ap, ◌∙◌, subst}
use Rattle.std.proofs.Common.{arith, length-append}
use Rattle.std.specs.List.{All}
use Rattle.std.proofs.lemmas.List.{at_drop_more, at_drop_all, get_or_append_left, get_or_push}
use Rattle.std.proofs.lemmas.List.Elements.{All-nil, All-cons, All-head, All-tail, All-append, All-get_or}
use Rattle.std.proofs.lemmas.Option.{slice_get-get_or, slice_get_within, get_or_from_slice_get}
use Rattle.c_subset.specs.declared.trees.Case.{Case}
use Rattle.c_subset.specs.declared.trees.Width.{Width}
use Rattle.c_subset.specs.Trees.{File, Function}
use Rattle.c_subset.specs.Lines.{Line, Set, Store, StoreAt, Call, Select, If, Else, While, Close, Return, lines_of}
use Rattle.c_subset.specs.Meaning.{CValue, Store as Struct}
use Rattle.c_subset.specs.Running.{Returns, call}
use Rattle.c_readers.specs.Readers.{stores, callees, line_callees, OnlyRead}
use Rattle.c_readers.proofs.ReadLemmas.{parts-all, call-left}
use Rattle.c_text.specs.Labels.{Labels}
use Rattle.c_file.specs.declared.calls.FunctionCall.{FunctionCall}
use Rattle.c_file.specs.Calls.{call_to, case_calls, line_calls, calls_in, calls_from}
use Rattle.c_file.specs.Reached.{IsFlagged, ReachedFromOutside, ReachedByCall, outside_of}
use Rattle.c_file.specs.Changing.{AreChanging, first_changes, turned_round, only_reads}
use Rattle.c_file.proofs.ReachLemmas.{same_item, none_there}

-- ---- calls that are turned round

-- one call more
pub turned_more : (calls : List FunctionCall) (i : ℕ) (d : FunctionCall) → i < length calls
    → turned_round (drop i calls)
    ≡ turned_round (drop (i + 1) calls) ++ call_to (get_or calls i d).callee (get_or calls i d).caller ∷ []
turned_more calls i d within = at_drop_more turned_round calls i d within

-- an item of the first part of a list
slice_get_left : (xs ys : List FunctionCall) (j : ℕ) (x : FunctionCall) → slice_get xs j ≡ Some x
    → slice_get (xs ++ ys) j ≡ Some x
slice_get_left xs ys j x at =
    let lt = slice_get_within xs j x at in
    slice_get-get_or (xs ++ ys) j x (omega (arith, lt, length-append xs ys))
    ∙ ap Some (get_or_append_left xs ys x j lt ∙ get_or_from_slice_get xs j x x at)

-- the last item
slice_get_last : (xs : List FunctionCall) (x : FunctionCall) → slice_get (xs ++ x ∷ []) (length xs) ≡ Some x
slice_get_last xs x =
    let size = length-append xs (x ∷ []) in
    slice_get-get_or (xs ++ x ∷ []) (length xs) x (omega (arith, size))
    ∙ ap Some (get_or_push xs x x (length xs) refl)

-- each call is there, turned round
turned_there : (calls : List FunctionCall) (i : ℕ) (call : FunctionCall) → slice_get calls i ≡ Some call
    → (j : ℕ) × (slice_get (turned_round calls) j ≡ Some (call_to call.callee call.caller))
turned_there [] i call at = absurd (none_there i call at)
turned_there (x ∷ calls) zero call at = (
  length (turned_round calls),
  slice_get_last (turned_round calls) (call_to x.callee x.caller)
      ∙ ap (λ (c : FunctionCall). Some (call_to c.callee c.caller)) (same_item x call at),
)
turned_there (x ∷ calls) (suc i) call at =
    let rest = turned_there calls i call at in (
      rest.0,
      slice_get_left (turned_round calls) (call_to x.callee x.caller ∷ []) rest.0
          (call_to call.callee call.caller) rest.1,
    )

-- ---- who calls

-- the callers of calls are below a number
abbrev Below : ℕ → FunctionCall → Type 0
Below m call = call.caller < m

cases_below : (m f : ℕ) → f < m → (cases : List Case) → All (Below m) (case_calls f cases)
cases_below m f lt [] = All-nil (Below m)
cases_below m f lt (c ∷ cases) =
    All-cons (Below m) (call_to f c.function) (case_calls f cases) lt (cases_below m f lt cases)

line_below : (m f : ℕ) → f < m → (x : Line) → All (Below m) (line_calls f x)
line_below m f lt (Set t k e) = All-nil (Below m)
line_below m f lt (Store g e) = All-nil (Below m)
line_below m f lt (StoreAt a i e) = All-nil (Below m)
line_below m f lt (Call t k g args) = All-cons (Below m) (call_to f g) [] lt (All-nil (Below m))
line_below m f lt (Select t k e cases args) = cases_below m f lt cases
line_below m f lt (If e) = All-nil (Below m)
line_below m f lt Else = All-nil (Below m)
line_below m f lt (While e) = All-nil (Below m)
line_below m f lt Close = All-nil (Below m)
line_below m f lt (Return e) = All-nil (Below m)

lines_below : (m f : ℕ) → f < m → (xs : List Line) → All (Below m) (calls_in f xs)
lines_below m f lt [] = All-nil (Below m)
lines_below m f lt (x ∷ xs) =
    All-append (Below m) (line_calls f x) (calls_in f xs) (line_below m f lt x) (lines_below m f lt xs)

all_below : (m f : ℕ) (gs : List Function) → f + length gs ≤ m → All (Below m) (calls_from f gs)
all_below m f [] le = All-nil (Below m)
all_below m f (g ∷ gs) le =
    All-append (Below m) (calls_in f (lines_of g.body)) (calls_from (f + 1) gs)
    (lines_below m f (omega (arith, le)) (lines_of g.body)) (all_below m (f + 1) gs (omega (arith, le)))

-- ---- what is called

same_function : (f g : Function) → Some f ≡ Some g → f ≡ g
same_function f g e = cc

-- what holds of all calls holds of those of each function
calls_of : (Q : FunctionCall → Type 0) (n : ℕ) (gs : List Function) (i f : ℕ) (g : Function)
    → All Q (calls_from n gs) → slice_get gs i ≡ Some g → f ≡ n + i → All Q (calls_in f (lines_of g.body))
calls_of Q n [] zero f g all at e = absurd (cc at)
calls_of Q n [] (suc i) f g all at e = absurd (cc at)
calls_of Q n (x ∷ gs) zero f g all at e =
    let first = (parts-all Q (calls_in n (lines_of x.body)) (calls_from (n + 1) gs) all).0 in
    let same : n ≡ f = omega (arith, e) in
    subst (λ (m : ℕ). All Q (calls_in m (lines_of g.body))) same
    (subst (λ (h : Function). All Q (calls_in n (lines_of h.body))) (same_function x g at) first)
calls_of Q n (x ∷ gs) (suc i) f g all at e =
    calls_of Q (n + 1) gs i f g (parts-all Q (calls_in n (lines_of x.body)) (calls_from (n + 1) gs) all).1 at
    (omega (arith, e))

module _ (Q : FunctionCall → Type 0) (R : ℕ → Type 0) (f : ℕ) (each : (h : ℕ) → Q (call_to f h) → R h) where
  cases_called : (cases : List Case) → All Q (case_calls f cases) → All R (map (λ (c : Case). c.function) cases)
  cases_called [] all = All-nil R
  cases_called (c ∷ cases) all =
      All-cons R c.function (map (λ (c : Case). c.function) cases)
      (each c.function (All-head Q (call_to f c.function) (case_calls f cases) all))
      (cases_called cases (All-tail Q (call_to f c.function) (case_calls f cases) all))

  line_called : (x : Line) → All Q (line_calls f x) → All R (line_callees x)
  line_called (Set t k e) all = All-nil R
  line_called (Store g e) all = All-nil R
  line_called (StoreAt a i e) all = All-nil R
  line_called (Call t k g args) all = All-cons R g [] (each g (All-head Q (call_to f g) [] all)) (All-nil R)
  line_called (Select t k e cases args) all = cases_called cases all
  line_called (If e) all = All-nil R
  line_called Else all = All-nil R
  line_called (While e) all = All-nil R
  line_called Close all = All-nil R
  line_called (Return e) all = All-nil R

  lines_called : (xs : List Line) → All Q (calls_in f xs) → All R (callees xs)
  lines_called [] all = All-nil R
  lines_called (x ∷ xs) all =
      let both = parts-all Q (line_calls f x) (calls_in f xs) all in
      All-append R (line_callees x) (callees xs) (line_called x both.0) (lines_called xs both.1)

-- ---- flags

refuted : (b : Bool) → not b ≡ true → b ≡ true → ⊥
refuted true h k = cc h
refuted false h k = cc k

told : (b : Bool) → (b ≡ true → ⊥) → not b ≡ true
told true h = absurd (h refl)
told false h = refl

unset : (b : Bool) → (b ≡ true → ⊥) → b ≡ false
unset true h = absurd (h refl)
unset false h = refl

or_true : (a b : Bool) → b ≡ true → (a || b) ≡ true
or_true true b h = refl
or_true false b h = h

-- a function that stores has its flag set before calls are followed
first_at : (L : Labels) (n : ℕ) (gs : List Function) (i : ℕ) (g : Function) → slice_get gs i ≡ Some g
    → stores g ≡ true → slice_index_or (first_changes L n gs) i false ≡ true
first_at L n [] zero g at is = absurd (cc at)
first_at L n [] (suc i) g at is = absurd (cc at)
first_at L n (x ∷ gs) zero g at is =
    or_true (outside_of L n) (stores x) (ap stores (same_function x g at) ∙ is)
first_at L n (x ∷ gs) (suc i) g at is = first_at L (n + 1) gs i g at is

module _ (L : Labels) (functions : List Function) (changing : List Bool) (are : AreChanging L functions changing) where
  abbrev calls : List FunctionCall
  calls = calls_from 0 functions

  -- a function that stores may change the struct
  started : (f : ℕ) (g : Function) → slice_get functions f ≡ Some g → stores g ≡ true → IsFlagged changing f
  started f g at is =
      are.complete f (ReachedFromOutside f (slice_get_within functions f g at) (first_at L 0 functions f g at is))

  -- a call of one that only reads is of one that only reads
  pub reads_called : (i : ℕ) (call : FunctionCall) → slice_get calls i ≡ Some call
      → only_reads changing call.caller ≡ true → only_reads changing call.callee ≡ true
  reads_called i call at reads =
      let turned = turned_there calls i call at in
      let lt = slice_get_within calls i call at in
      let within : call.caller < length functions =
      subst (Below (length functions)) (get_or_from_slice_get calls i call call at)
      (All-get_or (Below (length functions)) calls i call lt (all_below (length functions) 0 functions (omega arith))) in
      told (slice_index_or changing call.callee false)
      (λ flagged. refuted (slice_index_or changing call.caller false) reads
      (are.complete call.caller
      (ReachedByCall turned.0 call.caller (call_to call.callee call.caller) turned.1 refl within
      (are.sound call.callee flagged))))

  -- so the functions that only read do
  pub only_read : OnlyRead functions (only_reads changing)
  only_read = record {
    stores_nothing = λ f g at reads.
        unset (stores g) (λ is. refuted (slice_index_or changing f false) reads (started f g at is));
    calls = λ f g at reads.
        lines_called (λ (c : FunctionCall). only_reads changing c.caller ≡ true → only_reads changing c.callee ≡ true)
        (λ h. only_reads changing h ≡ true) f (λ h leads. leads reads) (lines_of g.body)
        (calls_of (λ (c : FunctionCall). only_reads changing c.caller ≡ true → only_reads changing c.callee ≡ true)
        0 functions f f g
        (λ k d lt. reads_called k (get_or calls k d) (slice_get-get_or calls k d lt)) at (omega arith));
  }

-- and leave the struct as it was
pub struct_left : (L : Labels) (file : File) (changing : List Bool) (int : Width) (k f : ℕ) (xs : List CValue)
    (s after : Struct) (x : CValue) → AreChanging L file.functions changing → only_reads changing f ≡ true
    → call file int k f xs s ≡ Returns after x → after ≡ s
struct_left L file changing int k f xs s after x are reads is =
    call-left file (only_reads changing) int k f xs s after x (only_read L file.functions changing are) reads is
