-- Passes over the calls of a file set the flags of exactly those functions that are reached.
use Rattle.std.proofs.Common.{◌≡◌, ℕ, zero, suc, ◌+◌, ◌<◌, ◌≤◌, ⊎_elim, ◌&&◌, ◌||◌, not, Bool, true, false, List, []}
use Rattle.std.proofs.Common.{◌∷◌, length, drop, Some, slice_get, slice_index_or, slice_set, if◌then◌else◌, get_or}
use Rattle.std.proofs.Common.{refl, sym, ap, ◌∙◌, subst, arith}
use Rattle.std.proofs.lemmas.List.{at_drop_more, at_drop_all}
use Rattle.std.proofs.lemmas.Bool.{and_parts, or_parts, not-true}
use Rattle.code_shrink.specs.Search.{unset_count}
use Rattle.code_shrink.proofs.Marking.{set_size, still_set, was_set}
use Rattle.c_file.specs.declared.calls.FunctionCall.{FunctionCall}
use Rattle.c_file.specs.Reached.{IsReached, ReachedFromOutside, ReachedByCall, IsFlagged, AreStarting, AreExactly}
use Rattle.c_file.specs.Closing.{is_new, followed, passed, finds_new, Closes}

-- ---- truth values

-- the first holds, and not without the second
second_true : (a b : Bool) → (a && not b) ≡ false → a ≡ true → b ≡ true
second_true true true h k = refl
second_true true false h k = absurd (cc h)
second_true false b h k = absurd (cc k)

-- alternatives are joined
pub either_joined : (a b c : Bool) → ((a || b) || c) ≡ (a || (b || c))
either_joined true b c = refl
either_joined false b c = refl

pub either_none : (a : Bool) → (a || false) ≡ a
either_none true = refl
either_none false = refl

-- ---- flags

-- a flag that isn't set is there
pub unset_there : (bs : List Bool) (p : ℕ) → slice_index_or bs p true ≡ false → p < length bs
unset_there [] p h = absurd (cc h)
unset_there (b ∷ bs) zero h = omega arith
unset_there (b ∷ bs) (suc p) h = let rest = unset_there bs p h in omega (arith, rest)

-- and so is one that is set
pub set_there : (bs : List Bool) (p : ℕ) → IsFlagged bs p → p < length bs
set_there [] p h = absurd (cc h)
set_there (b ∷ bs) zero h = omega arith
set_there (b ∷ bs) (suc p) h = let rest = set_there bs p h in omega (arith, rest)

-- where there is a flag, it is the same whatever stands where there is none
pub same_flag : (bs : List Bool) (p : ℕ) → p < length bs → slice_index_or bs p true ≡ true → IsFlagged bs p
same_flag [] p lt h = absurd (omega (arith, lt))
same_flag (b ∷ bs) zero lt h = h
same_flag (b ∷ bs) (suc p) lt h = same_flag bs p (omega (arith, lt)) h

-- one flag less is unset once one is set
unset_less : (bs : List Bool) (p : ℕ) → slice_index_or bs p true ≡ false
    → suc (unset_count (slice_set bs p true)) ≡ unset_count bs
unset_less [] p h = absurd (cc h)
unset_less (false ∷ bs) zero h = refl
unset_less (true ∷ bs) zero h = absurd (cc h)
unset_less (true ∷ bs) (suc p) h = unset_less bs p h
unset_less (false ∷ bs) (suc p) h = ap suc (unset_less bs p h)

-- ---- a call

-- a new call is of a function whose flag is set
new_from : (flags : List Bool) (call : FunctionCall) → is_new flags call ≡ true → IsFlagged flags call.caller
new_from flags call h =
    (and_parts (slice_index_or flags call.caller false) (not (slice_index_or flags call.callee true)) h).0

-- and leads to one whose flag isn't set
pub new_to : (flags : List Bool) (call : FunctionCall) → is_new flags call ≡ true
    → slice_index_or flags call.callee true ≡ false
new_to flags call h =
    not-true (slice_index_or flags call.callee true)
    (and_parts (slice_index_or flags call.caller false) (not (slice_index_or flags call.callee true)) h).1

-- so there is such a function
pub new_there : (flags : List Bool) (call : FunctionCall) → is_new flags call ≡ true → call.callee < length flags
new_there flags call h = unset_there flags call.callee (new_to flags call h)

-- flags after a call, where it is known whether it is new
pub followed_as : (flags : List Bool) (call : FunctionCall) (b : Bool) → is_new flags call ≡ b
    → followed flags call ≡ (if b then slice_set flags call.callee true else flags)
followed_as flags call b is = ap (λ (x : Bool). if x then slice_set flags call.callee true else flags) is

-- something new was found, or is
pub found_before : (found new later : Bool) → found ≡ true → later ≡ found → later ≡ (found || new)
found_before found new later found_is later_is = later_is ∙ found_is ∙ ap (λ (b : Bool). b || new) (sym found_is)

pub found_now : (found new later : Bool) → found ≡ false → later ≡ new → later ≡ (found || new)
found_now found new later found_is later_is = later_is ∙ ap (λ (b : Bool). b || new) (sym found_is)

-- a call more of a pass
pub pass_next : (xs : List FunctionCall) (i : ℕ) (d : FunctionCall) (flags next whole : List Bool)
    → (found new later all : Bool) → i < length xs → next ≡ followed flags (get_or xs i d)
    → new ≡ is_new flags (get_or xs i d) → later ≡ (found || new)
    → (passed flags (drop i xs) ≡ whole) × ((found || finds_new flags (drop i xs)) ≡ all)
    → (passed next (drop (i + 1) xs) ≡ whole) × ((later || finds_new next (drop (i + 1) xs)) ≡ all)
pass_next xs i d flags next whole found new later all within next_is new_is later_is so_far =
    let rest = drop (i + 1) xs in
    let call = get_or xs i d in (
      ap (λ (fs : List Bool). passed fs rest) next_is ∙ sym (at_drop_more (passed flags) xs i d within) ∙ so_far.0,
      ap (λ (b : Bool). b || finds_new next rest) later_is
          ∙ either_joined found new (finds_new next rest)
          ∙ ap (λ (b : Bool). found || (b || finds_new next rest)) new_is
          ∙ ap (λ (fs : List Bool). found || (is_new flags call || finds_new fs rest)) next_is
          ∙ ap (λ (b : Bool). found || b) (sym (at_drop_more (finds_new flags) xs i d within)) ∙ so_far.1,
    )

-- after the last call
pub pass_done : (xs : List FunctionCall) (i : ℕ) (flags whole : List Bool) (found all : Bool) → length xs ≤ i
    → (passed flags (drop i xs) ≡ whole) × ((found || finds_new flags (drop i xs)) ≡ all)
    → (flags ≡ whole) × (found ≡ all)
pass_done xs i flags whole found all past so_far = (
  sym (at_drop_all (passed flags) xs i past) ∙ so_far.0,
  sym (either_none found) ∙ ap (λ (b : Bool). found || b) (sym (at_drop_all (finds_new flags) xs i past)) ∙ so_far.1,
)

-- ---- what is kept, and what is new

-- the flags that were set are set, and where those had a property, all that are set have it
record Reaches (R : ℕ → Type 0) (old new : List Bool) : Type 0 where
  size : length new ≡ length old
  kept : (f : ℕ) → IsFlagged old f → IsFlagged new f
  sound : ((f : ℕ) → IsFlagged old f → R f) → (f : ℕ) → IsFlagged new f → R f

-- a call hands a property on
abbrev Leads : (ℕ → Type 0) → ℕ → FunctionCall → Type 0
Leads R count call = R call.caller → call.callee < count → R call.callee

module _ (R : ℕ → Type 0) where
  reaches_same : (flags : List Bool) → Reaches R flags flags
  reaches_same flags = record { size = refl; kept = λ f h. h; sound = λ each. each }

  reaches_then : (a b c : List Bool) → Reaches R a b → Reaches R b c → Reaches R a c
  reaches_then a b c first second = record {
    size = second.size ∙ first.size;
    kept = λ f h. second.kept f (first.kept f h);
    sound = λ each. second.sound (first.sound each);
  }

  follow_by : (flags : List Bool) (call : FunctionCall) (b : Bool) → is_new flags call ≡ b
      → Leads R (length flags) call
      → Reaches R flags (if b then slice_set flags call.callee true else flags)
  follow_by flags call false is leads = reaches_same flags
  follow_by flags call true is leads = record {
    size = set_size flags call.callee;
    kept = λ f h. still_set flags call.callee f h;
    sound = λ each f h.
        ⊎_elim (λ (k : IsFlagged flags f). each f k)
        (λ (e : f ≡ call.callee). subst R (sym e)
        (leads (each call.caller (new_from flags call is)) (new_there flags call is)))
        (was_set flags call.callee f h);
  }

  pass_reaches : (calls : List FunctionCall) (flags : List Bool) (count : ℕ) → count ≡ length flags
      → ((i : ℕ) (call : FunctionCall) → slice_get calls i ≡ Some call → Leads R count call)
      → Reaches R flags (passed flags calls)
  pass_reaches [] flags count size leads = reaches_same flags
  pass_reaches (call ∷ calls) flags count size leads =
      let one : Reaches R flags (followed flags call) =
      follow_by flags call (is_new flags call) refl (subst (λ n. Leads R n call) size (leads 0 call refl)) in
      reaches_then flags (followed flags call) (passed (followed flags call) calls) one
      (pass_reaches calls (followed flags call) count (size ∙ sym one.size) (λ i c at. leads (suc i) c at))

-- ---- how many flags aren't set

-- a truth value as a number
abbrev pub bit : Bool → ℕ
bit true = 1
bit false = 0

bit_either : (a b : Bool) → bit (a || b) ≤ bit a + bit b
bit_either true b = omega arith
bit_either false b = omega arith

one_less : (flags : List Bool) (call : FunctionCall) (b : Bool) → is_new flags call ≡ b
    → unset_count (if b then slice_set flags call.callee true else flags) + bit b ≡ unset_count flags
one_less flags call false is = omega arith
one_less flags call true is = let less = unset_less flags call.callee (new_to flags call is) in omega (arith, less)

-- a pass that finds something new leaves fewer
pass_less : (calls : List FunctionCall) (flags : List Bool)
    → unset_count (passed flags calls) + bit (finds_new flags calls) ≤ unset_count flags
pass_less [] flags = omega arith
pass_less (call ∷ calls) flags =
    let one : unset_count (followed flags call) + bit (is_new flags call) ≡ unset_count flags =
    one_less flags call (is_new flags call) refl in
    let rest = pass_less calls (followed flags call) in
    let both = bit_either (is_new flags call) (finds_new (followed flags call) calls) in omega (arith, one, rest, both)

-- ---- a pass that finds nothing new

pub same_item : (x y : FunctionCall) → Some x ≡ Some y → x ≡ y
same_item x y e = cc

-- a list without items has none at any place
pub none_there : (i : ℕ) (x : FunctionCall) → slice_get [] i ≡ Some x → ⊥
none_there zero x e = cc e
none_there (suc i) x e = cc e

-- the first call isn't new, and none of the others is
none_new_at : (flags : List Bool) (call : FunctionCall) (calls : List FunctionCall) → is_new flags call ≡ false
    → ((i : ℕ) (c : FunctionCall) → slice_get calls i ≡ Some c → is_new flags c ≡ false)
    → (i : ℕ) (c : FunctionCall) → slice_get (call ∷ calls) i ≡ Some c → is_new flags c ≡ false
none_new_at flags call calls first rest zero c at =
    subst (λ (x : FunctionCall). is_new flags x ≡ false) (same_item call c at) first
none_new_at flags call calls first rest (suc i) c at = rest i c at

-- it leaves the flags, and no call is new
nothing_new : (calls : List FunctionCall) (flags : List Bool) → finds_new flags calls ≡ false
    → (passed flags calls ≡ flags)
    × ((i : ℕ) (c : FunctionCall) → slice_get calls i ≡ Some c → is_new flags c ≡ false)
nothing_new [] flags none = (refl, λ i c at. absurd (none_there i c at))
nothing_new (call ∷ calls) flags none =
    let parts = or_parts (is_new flags call) (finds_new (followed flags call) calls) none in
    let same : followed flags call ≡ flags = followed_as flags call false parts.0 in
    let rest = nothing_new calls flags (ap (λ (fs : List Bool). finds_new fs calls) (sym same) ∙ parts.1) in
    (ap (λ (fs : List Bool). passed fs calls) same ∙ rest.0, none_new_at flags call calls parts.0 rest.1)

-- ---- passes until one finds nothing new

-- what is known after some passes, of which the last one did or didn't find something new
pub record Closing (calls : List FunctionCall) (old now : List Bool) (found : Bool) : Type 0 where
  pub size : length now ≡ length old
  pub kept : (f : ℕ) → IsFlagged old f → IsFlagged now f
  pub sound : (outside : ℕ → Bool) → ((f : ℕ) → IsFlagged old f → IsReached (length old) outside calls f)
      → (f : ℕ) → IsFlagged now f → IsReached (length old) outside calls f
  pub quiet : found ≡ false → finds_new now calls ≡ false

pub closing_starts : (calls : List FunctionCall) (flags : List Bool) → Closing calls flags flags true
closing_starts calls flags = record {
  size = refl;
  kept = λ f h. h;
  sound = λ outside each. each;
  quiet = λ h. absurd (cc h);
}

-- a call hands on that its function is reached
reached_leads : (outside : ℕ → Bool) (count : ℕ) (calls : List FunctionCall) (i : ℕ) (call : FunctionCall)
    → slice_get calls i ≡ Some call → Leads (IsReached count outside calls) count call
reached_leads outside count calls i call at from lt = ReachedByCall i call.callee call at refl lt from

pub closing_goes_on : (calls : List FunctionCall) (old now next : List Bool) (found later : Bool)
    → Closing calls old now found → next ≡ passed now calls → later ≡ finds_new now calls → Closing calls old next later
closing_goes_on calls old now next found later so_far next_is later_is =
    let reaches = λ (outside : ℕ → Bool). subst (Reaches (IsReached (length old) outside calls) now) (sym next_is)
    (pass_reaches (IsReached (length old) outside calls) calls now (length old) (sym so_far.size)
    (reached_leads outside (length old) calls)) in
    record {
      size = (reaches (λ f. false)).size ∙ so_far.size;
      kept = λ f h. (reaches (λ f. false)).kept f (so_far.kept f h);
      sound = λ outside each. (reaches outside).sound (so_far.sound outside each);
      quiet = λ h.
          let none : finds_new now calls ≡ false = sym later_is ∙ h in
          ap (λ (fs : List Bool). finds_new fs calls) (next_is ∙ (nothing_new calls now none).0) ∙ none;
    }

pub closing_less : (calls : List FunctionCall) (now next : List Bool) (found later : Bool) → found ≡ true
    → next ≡ passed now calls → later ≡ finds_new now calls
    → bit later + unset_count next < bit found + unset_count now
closing_less calls now next found later found_is next_is later_is =
    let less = pass_less calls now in
    let one : bit found ≡ 1 = ap bit found_is in omega (arith, less, one, ap unset_count next_is, ap bit later_is)

pub closing_ends : (calls : List FunctionCall) (old now : List Bool) (found : Bool) → found ≡ false
    → Closing calls old now found → Closes calls old now
closing_ends calls old now found ended so_far = record {
  size = so_far.size;
  kept = so_far.kept;
  sound = so_far.sound;
  closed = so_far.quiet ended;
}

-- ---- from the functions that are called from outside

-- each function that is reached has its flag set
all_flagged : (count : ℕ) (outside : ℕ → Bool) (calls : List FunctionCall) (flags : List Bool) → length flags ≡ count
    → ((f : ℕ) → f < count → outside f ≡ true → IsFlagged flags f)
    → ((i : ℕ) (c : FunctionCall) → slice_get calls i ≡ Some c → is_new flags c ≡ false)
    → (f : ℕ) → IsReached count outside calls f → IsFlagged flags f
all_flagged count outside calls flags size starts closed f (ReachedFromOutside _ lt is) = starts f lt is
all_flagged count outside calls flags size starts closed f (ReachedByCall i _ call at e lt from) =
    let caller = all_flagged count outside calls flags size starts closed call.caller from in
    let callee = second_true (slice_index_or flags call.caller false) (slice_index_or flags call.callee true)
    (closed i call at) caller in
    same_flag flags f (omega (arith, lt, size)) (ap (λ (g : ℕ). slice_index_or flags g true) e ∙ callee)

pub reached_ends : (count : ℕ) (outside : ℕ → Bool) (calls : List FunctionCall) (start flags : List Bool)
    → AreStarting count outside start → Closes calls start flags → AreExactly count outside calls flags
reached_ends count outside calls start flags out closes = record {
  size = closes.size ∙ out.size;
  sound = subst (λ (n : ℕ). (f : ℕ) → IsFlagged flags f → IsReached n outside calls f) out.size
      (closes.sound outside
      (λ f h. let lt = set_there start f h in
      ReachedFromOutside f lt (sym (out.each f (omega (arith, lt, out.size))) ∙ h)));
  complete = all_flagged count outside calls flags (closes.size ∙ out.size)
      (λ f lt is. closes.kept f (out.each f lt ∙ is)) (nothing_new calls flags closes.closed).1;
}
