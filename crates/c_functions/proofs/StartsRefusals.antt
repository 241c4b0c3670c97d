-- What the start and a reaction refuse.
use Rattle.std.proofs.Common.{◌⊎◌, inl, inr, ◌≡◌, ◌≢◌, ℕ, zero, suc, ◌+◌, ◌^◌, ◌<◌, ◌≤◌, nat_eq, nat_le, pos, Bool, true, false}
use Rattle.std.proofs.Common.{cond, not, ◌&&◌, ◌||◌, List, [], ◌∷◌, length, Some, slice_get}
use Rattle.std.proofs.Common.{refl, sym, ap, ◌∙◌, subst, arith}
use Rattle.std.proofs.lemmas.Bool.{cases_lt}
use Rattle.std.proofs.lemmas.Bool.Decides.{nat_tests}
use Rattle.std.specs.List.{AllByRecursion, list_all}
use Rattle.actions.specs.declared.event.Event.{Event}
use Rattle.actions.specs.declared.event.Event.TheVariants as events
use Rattle.actions.specs.declared.names.EventDecl.{EventDecl}
use Rattle.actions.specs.declared.names.EventKind.{EventKind}
use Rattle.actions.specs.declared.names.EventKind.TheVariants.{Input, Local as LocalEvent, Output}
use Rattle.actions.specs.Engines.{IsInputEvent, CanReactTo}
use Rattle.c_subset.specs.Trees.{CExpr, Field, Compare, Both, Either, Block, End, If}
use Rattle.c_subset.specs.declared.trees.Width.{Width}
use Rattle.c_subset.specs.declared.trees.CType.TheVariants.{Truth}
use Rattle.c_subset.specs.declared.trees.Comparison.TheVariants.{IsEqual, IsUnequal, IsAtLeast}
use Rattle.c_subset.specs.Meaning.{bits, CValue, one_if, Store, Locals, meaning}
use Rattle.c_subset.specs.Running.{Outcome, Falls, Returns, Calls, and_on, outcome}
use Rattle.c_functions.specs.Claims.{Has}
use Rattle.c_functions.specs.Events.{is_input, leading_inputs, all_inputs, leading_events, inputs_from, later_inputs}
use Rattle.c_functions.specs.Events.{running_number}
use Rattle.c_functions.specs.Plans.{Shape, word, number, event_local, event_number, fault_field, fault_datum_field}
use Rattle.c_functions.specs.Plans.{ready_field, refused_number, leading}
use Rattle.c_functions.specs.Files.{HasWord, with_fault}
use Rattle.c_functions.specs.Starts.{answer_c, is_set_c, is_begun_c, is_other_c, and_none_c, is_unknown_c}
use Rattle.c_functions.specs.Starts.{not_running_c, no_event_c, refusals_c, late_refusals_c, refuse_c}
use Rattle.c_functions.proofs.LayoutTests.{equal-numbers, both-has}
use Rattle.c_functions.proofs.TranslationDecisions.{either-decides}
use Rattle.c_functions.proofs.PlansWords.{at_least-is, number-means, local-means, field-means, compare-has, if-goes}
use Rattle.c_functions.proofs.PlansEnds.{tell-goes}

-- ---- events

-- an event is none of these numbers
abbrev pub is_none_of : ℕ → List ℕ → Bool
is_none_of e es = list_all (λ x. not (nat_eq e x)) es

-- an input is among the inputs from a number on
input-found : (first from : ℕ) (ds : List EventDecl) (i : ℕ) (d : EventDecl) → slice_get ds i ≡ Some d
    → d.kind ≡ Input → first ≤ from + i → is_none_of (from + i) (inputs_from first from ds) ≡ false
input-found first from [] i d there kind le = absurd cc
input-found first from (x ∷ ds) zero d there kind le =
    let same : x ≡ d = cc in
    let is : is_input x.kind ≡ true = ap (λ (d : EventDecl). is_input d.kind) same ∙ ap is_input kind in
    let at : nat_le first from ≡ true = grind (arith, nat_tests) in
    ap (λ (b : Bool). is_none_of (from + 0) (cond (b && nat_le first from) (from ∷ inputs_from first (suc from) ds)
    (inputs_from first (suc from) ds))) is
    ∙ ap (λ (b : Bool). is_none_of (from + 0) (cond b (from ∷ inputs_from first (suc from) ds)
    (inputs_from first (suc from) ds))) at
    ∙ ap (λ (b : Bool). not b && is_none_of (from + 0) (inputs_from first (suc from) ds)) here
  where
    here : nat_eq (from + 0) from ≡ true
    here = grind (arith, nat_tests)
input-found first from (x ∷ ds) (suc i) d there kind le =
    let next : suc from + i ≡ from + suc i = omega arith in
    by (is_input x.kind && nat_le first from)
    (ap (λ (n : ℕ). is_none_of n (inputs_from first (suc from) ds)) (sym next)
    ∙ input-found first (suc from) ds i d there kind (omega (arith, le)))
  where
    both : (a b : Bool) → b ≡ false → (a && b) ≡ false
    both true b e = e
    both false b e = refl

    by : (b : Bool) → is_none_of (from + suc i) (inputs_from first (suc from) ds) ≡ false
        → is_none_of (from + suc i) (cond b (from ∷ inputs_from first (suc from) ds) (inputs_from first (suc from) ds))
        ≡ false
    by true rest = both (not (nat_eq (from + suc i) from)) _ rest
    by false rest = rest

-- what isn't an input isn't among them
other-passes : (first from : ℕ) (ds : List EventDecl) (e : ℕ)
    → ((i : ℕ) (d : EventDecl) → slice_get ds i ≡ Some d → d.kind ≡ Input → e ≢ from + i)
    → is_none_of e (inputs_from first from ds) ≡ true
other-passes first from [] e none = refl
other-passes first from (x ∷ ds) e none =
    by x.kind refl (nat_le first from) (other-passes first (suc from) ds e
    (λ i d there kind same. none (suc i) d there kind (omega (arith, same))))
  where
    at : (b : Bool) → x.kind ≡ Input → is_none_of e (inputs_from first (suc from) ds) ≡ true
        → is_none_of e (cond b (from ∷ inputs_from first (suc from) ds) (inputs_from first (suc from) ds)) ≡ true
    at true kind rest =
        let ne : nat_eq e from ≡ false = differs (nat_eq e from) refl in
        ap (λ (b : Bool). not b && is_none_of e (inputs_from first (suc from) ds)) ne ∙ rest
      where
        differs : (b : Bool) → nat_eq e from ≡ b → b ≡ false
        differs true e' = absurd (none 0 x refl kind (grind (arith, nat_tests)))
        differs false e' = refl
    at false kind rest = rest

    by : (kind : EventKind) → x.kind ≡ kind → (b : Bool) → is_none_of e (inputs_from first (suc from) ds) ≡ true
        → is_none_of e (cond (is_input kind && b) (from ∷ inputs_from first (suc from) ds)
        (inputs_from first (suc from) ds)) ≡ true
    by Input is b rest = at b is rest
    by LocalEvent is b rest = rest
    by Output is b rest = rest

-- each is small where there are few events
AreSmall : List ℕ → Type 0
AreSmall es = AllByRecursion (λ e. e < 2 ^ 32) es

inputs-small : (first from : ℕ) (ds : List EventDecl) → from + length ds < 2 ^ 32
    → AllByRecursion (λ e. e < 2 ^ 32) (inputs_from first from ds)
inputs-small first from [] few = tt
inputs-small first from (x ∷ ds) few =
    by (is_input x.kind && nat_le first from) (inputs-small first (suc from) ds (omega (arith, few)))
  where
    by : (b : Bool) → AllByRecursion (λ e. e < 2 ^ 32) (inputs_from first (suc from) ds)
        → AllByRecursion (λ e. e < 2 ^ 32)
        (cond b (from ∷ inputs_from first (suc from) ds) (inputs_from first (suc from) ds))
    by true rest = (omega (arith, few), rest)
    by false rest = rest

-- the leading events are inputs
leads : (ds : List EventDecl) (e : ℕ) → e < leading_inputs ds
    → (d : EventDecl) × (slice_get ds e ≡ Some d) × (d.kind ≡ Input)
leads [] e lt = absurd (omega (arith, lt))
leads (x ∷ ds) e lt = by x.kind refl e lt (λ e lt. leads ds e lt)
  where
    by : (kind : EventKind) → x.kind ≡ kind → (e : ℕ) → e < cond (is_input kind) (1 + leading_inputs ds) 0
        → ((e : ℕ) → e < leading_inputs ds → (d : EventDecl) × (slice_get ds e ≡ Some d) × (d.kind ≡ Input))
        → (d : EventDecl) × (slice_get (x ∷ ds) e ≡ Some d) × (d.kind ≡ Input)
    by Input is zero lt more = (x, refl, is)
    by Input is (suc e) lt more = more e (omega (arith, lt))
    by LocalEvent is e lt more = absurd (omega (arith, lt))
    by Output is e lt more = absurd (omega (arith, lt))

leading-few : (ds : List EventDecl) → leading_inputs ds ≤ length ds
leading-few [] = omega arith
leading-few (x ∷ ds) = by (is_input x.kind) (leading-few ds)
  where
    by : (b : Bool) → leading_inputs ds ≤ length ds → cond b (1 + leading_inputs ds) 0 ≤ suc (length ds)
    by true h = omega (arith, h)
    by false h = omega arith

-- a leading event is an input or a tick
leads-event : (ds : List EventDecl) (e : ℕ) → e < leading_events ds
    → ((d : EventDecl) × (slice_get ds e ≡ Some d) × (d.kind ≡ Input)) ⊎ (e ≡ length ds)
leads-event ds e lt = by (nat_eq (leading_inputs ds) (length ds)) refl lt
  where
    within : (e : ℕ) → (n : ℕ) → leading_inputs ds ≡ n → e < n + 1
        → ((d : EventDecl) × (slice_get ds e ≡ Some d) × (d.kind ≡ Input)) ⊎ (e ≡ n)
    within e n is lt = at (cases_lt e n)
      where
        at : (e < n) ⊎ (n ≤ e) → ((d : EventDecl) × (slice_get ds e ≡ Some d) × (d.kind ≡ Input)) ⊎ (e ≡ n)
        at (inl lt) = inl (leads ds e (omega (arith, lt, is)))
        at (inr le) = inr (omega (arith, lt, le))

    by : (b : Bool) → nat_eq (leading_inputs ds) (length ds) ≡ b
        → e < cond b (leading_inputs ds + 1) (leading_inputs ds)
        → ((d : EventDecl) × (slice_get ds e ≡ Some d) × (d.kind ≡ Input)) ⊎ (e ≡ length ds)
    by true is lt =
        let same : leading_inputs ds ≡ length ds = grind (arith, nat_tests) in
        within e (length ds) same (omega (arith, lt, same))
    by false is lt = inl (leads ds e lt)

-- there are at least as many as leading inputs, and at most one more than events
events-lead : (ds : List EventDecl) → (leading_inputs ds ≤ leading_events ds) × (leading_events ds ≤ length ds + 1)
events-lead ds = by (nat_eq (leading_inputs ds) (length ds)) (leading-few ds)
  where
    by : (b : Bool) → leading_inputs ds ≤ length ds
        → (leading_inputs ds ≤ cond b (leading_inputs ds + 1) (leading_inputs ds))
        × (cond b (leading_inputs ds + 1) (leading_inputs ds) ≤ length ds + 1)
    by true le = (omega arith, omega (arith, le))
    by false le = (omega arith, omega (arith, le))

-- an event that is declared has a number below how many there are
declared-within : (ds : List EventDecl) (e : ℕ) (d : EventDecl) → slice_get ds e ≡ Some d → e < length ds
declared-within [] e d there = absurd cc
declared-within (x ∷ ds) zero d there = omega arith
declared-within (x ∷ ds) (suc e) d there = let lt = declared-within ds e d there in omega (arith, lt)

-- not all events are inputs where one that is no later than a tick isn't among those that lead
leaves-some : (ds : List EventDecl) (e : ℕ) → e ≤ length ds → leading_events ds ≤ e → all_inputs ds ≡ false
leaves-some ds e within le = by (all_inputs ds) refl le
  where
    by : (b : Bool) → nat_eq (leading_inputs ds) (length ds) ≡ b
        → cond b (leading_inputs ds + 1) (leading_inputs ds) ≤ e → nat_eq (leading_inputs ds) (length ds) ≡ false
    by true all le =
        let same : leading_inputs ds ≡ length ds = grind (arith, nat_tests) in absurd (omega (arith, le, same, within))
    by false all le = all

-- `ready` is the number of leading events where there are some, and is small
running-suc : (n : ℕ) → running_number (suc n) ≡ suc n
running-suc n =
    let some : nat_eq (suc n) 0 ≡ false = grind (arith, nat_tests) in ap (λ (b : Bool). cond b 1 (suc n)) some

pub leading-small : (K : Shape) → length K.names.events < 2 ^ 16 → leading K < 2 ^ 32
leading-small K few = by (leading_events K.names.events) (events-lead K.names.events).1
  where
    by : (n : ℕ) → n ≤ length K.names.events + 1 → running_number n < 2 ^ 32
    by zero le = omega arith
    by (suc n) le = let same = running-suc n in omega (arith, le, few, same)

-- ---- statements

module _ (int : Width) (calls : Calls) (k : ℕ) where
  pub answer-returns : (b : Bool) (s : Store) (l : Locals)
      → outcome int calls k (answer_c b) s l ≡ Returns s (record { type = Truth; value = one_if b })
  unfolding outcome meaning
  answer-returns true s l = refl
  answer-returns false s l = refl

module _ (int : Width) (most : bits int ≤ 32) (calls : Calls) (k : ℕ) (rest : Block) (s : Store) (l : Locals) where
  -- an `if` whose test holds and whose part ends so
  pub if-taken : (e : CExpr) (x : Block) (t : Store) (v : CValue) → Has int s l e (one_if true)
      → outcome int calls k x s l ≡ Returns t v → outcome int calls k (If e x End rest) s l ≡ Returns t v
  if-taken e x t v has ends =
      if-goes int most calls k rest s l true e x End has
      ∙ ap (λ (o : Outcome). and_on o (λ v m. outcome int calls k rest v m)) ends

  -- one whose part falls through
  if-through : (e : CExpr) (x : Block) → Has int s l e (one_if true) → outcome int calls k x s l ≡ Falls s l
      → outcome int calls k (If e x End rest) s l ≡ outcome int calls k rest s l
  if-through e x has falls =
      if-goes int most calls k rest s l true e x End has
      ∙ ap (λ (o : Outcome). and_on o (λ v m. outcome int calls k rest v m)) falls

  -- one whose test doesn't hold
  pub if-passed : (e : CExpr) (x : Block) → Has int s l e (one_if false)
      → outcome int calls k (If e x End rest) s l ≡ outcome int calls k rest s l
  unfolding outcome
  if-passed e x has = if-goes int most calls k rest s l false e x End has

module _ (int : Width) (most : bits int ≤ 32) (s : Store) (l : Locals) where
  -- a word is 0, and isn't
  unset-has : (f a : ℕ) → HasWord s.fields f a
      → Has int s l (Compare IsEqual (Field f) (number 0)) (one_if (nat_eq a 0))
  unset-has f a h =
      subst (λ (b : Bool). Has int s l (Compare IsEqual (Field f) (number 0)) (one_if b)) (equal-numbers a 0)
      (compare-has int most s l IsEqual (Field f) (number 0) a 0 h.small (omega arith)
      (field-means int most s l f a h) (number-means int most s l 0 (omega arith)))

  set-has : (f a : ℕ) → HasWord s.fields f a → Has int s l (is_set_c f) (one_if (not (nat_eq a 0)))
  set-has f a h =
      subst (λ (b : Bool). Has int s l (is_set_c f) (one_if b)) (ap not (equal-numbers a 0))
      (compare-has int most s l IsUnequal (Field f) (number 0) a 0 h.small (omega arith)
      (field-means int most s l f a h) (number-means int most s l 0 (omega arith)))

  -- one of two tests holds
  either-has : (a b : CExpr) (p q : Bool) → Has int s l a (one_if p) → Has int s l b (one_if q)
      → Has int s l (Either a b) (one_if (p || q))
  either-has a b true q ha hb = (either-decides int s a b).at_once l ha
  either-has a b false q ha hb = (either-decides int s a b).goes_on l q ha hb

  -- whether a run has begun
  pub begun-has : (K : Shape) (ready fault : ℕ) → HasWord s.fields (ready_field K) ready
      → HasWord s.fields (fault_field K) fault
      → Has int s l (is_begun_c K) (one_if (not (nat_eq ready 0) || not (nat_eq fault 0)))
  begun-has K ready fault hr hf =
      either-has (is_set_c (ready_field K)) (is_set_c (fault_field K)) (not (nat_eq ready 0)) (not (nat_eq fault 0))
      (set-has (ready_field K) ready hr) (set-has (fault_field K) fault hf)

  -- the event of a reaction
  module _ (e : ℕ) (small : e < 2 ^ 32) (here : l word 0 ≡ Some (pos e)) where
    -- isn't that number
    other-has : (a : ℕ) → a < 2 ^ 32 → Has int s l (is_other_c a) (one_if (not (nat_eq e a)))
    other-has a lt =
        subst (λ (b : Bool). Has int s l (is_other_c a) (one_if b)) (ap not (equal-numbers e a))
        (compare-has int most s l IsUnequal event_local (number a) e a small lt (local-means int most s l 0 e here)
        (number-means int most s l a lt))

    -- nor any of these
    none-has : (test : CExpr) (p : Bool) (es : List ℕ) → AllByRecursion (λ e. e < 2 ^ 32) es
        → Has int s l test (one_if p) → Has int s l (and_none_c test es) (one_if (p && is_none_of e es))
    none-has test p [] few has = subst (λ (b : Bool). Has int s l test (one_if b)) (at p) has
      where
        at : (p : Bool) → p ≡ (p && true)
        at true = refl
        at false = refl
    none-has test p (x ∷ es) few has =
        subst (λ (b : Bool). Has int s l (and_none_c (Both test (is_other_c x)) es) (one_if b))
        (at p (not (nat_eq e x)) (is_none_of e es))
        (none-has (Both test (is_other_c x)) (p && not (nat_eq e x)) es few.1
        (both-has int s l test (is_other_c x) p (not (nat_eq e x)) has (other-has x few.0)))
      where
        at : (p q r : Bool) → ((p && q) && r) ≡ (p && (q && r))
        at true q r = refl
        at false q r = refl

    -- it is neither a tick nor a later input
    unknown-has : (K : Shape) → length K.names.events < 2 ^ 16 → Has int s l (is_unknown_c K)
        (one_if (not (nat_eq e (length K.names.events)) && is_none_of e (later_inputs K.names.events)))
    unknown-has K few =
        none-has (is_other_c (length K.names.events)) (not (nat_eq e (length K.names.events)))
        (later_inputs K.names.events)
        (inputs-small (leading_inputs K.names.events) 0 K.names.events (omega (arith, few)))
        (other-has (length K.names.events) (omega (arith, few)))

    -- it is at least `ready`
    at_least-has : (K : Shape) (r : ℕ) → HasWord s.fields (ready_field K) r
        → Has int s l (Compare IsAtLeast event_local (Field (ready_field K))) (one_if (nat_le r e))
    at_least-has K r h =
        subst (λ (b : Bool). Has int s l (Compare IsAtLeast event_local (Field (ready_field K))) (one_if b))
        (at_least-is e r)
        (compare-has int most s l IsAtLeast event_local (Field (ready_field K)) e r small h.small
        (local-means int most s l 0 e here) (field-means int most s l (ready_field K) r h))

-- ---- refusals

module _ (K : Shape) (int : Width) (most : bits int ≤ 32) (few : length K.names.events < 2 ^ 16) (calls : Calls) (k : ℕ)
    (s : Store) (l : Locals) (e : ℕ) (small : e < 2 ^ 32) (here : l word 0 ≡ Some (pos e)) where
  refused : Store → Outcome
  refused t = Returns t (record { type = Truth; value = pos 0 })

  -- where no run goes on
  not_running-refused : (x : Block) → HasWord s.fields (ready_field K) 0
      → outcome int calls k (not_running_c K x) s l ≡ Returns s (record { type = Truth; value = pos 0 })
  not_running-refused x h =
      if-taken int most calls k x s l _ (answer_c false) s _ (unset-has int most s l (ready_field K) 0 h)
      (answer-returns int calls k false s l)

  -- where one does
  running-passes : (x : Block) (r : ℕ) → HasWord s.fields (ready_field K) r → nat_eq r 0 ≡ false
      → outcome int calls k (not_running_c K x) s l ≡ outcome int calls k x s l
  running-passes x r hr some =
      if-passed int most calls k x s l _ (answer_c false)
      (subst (λ (b : Bool). Has int s l (Compare IsEqual (Field (ready_field K)) (number 0)) (one_if b)) some
      (unset-has int most s l (ready_field K) r hr))

  -- a run is ended
  no_event-tells : (a d r : ℕ) → HasWord s.fields (fault_field K) a → HasWord s.fields (fault_datum_field K) d
      → HasWord s.fields (ready_field K) r
      → outcome int calls k (no_event_c K) s l
      ≡ Returns (with_fault K s refused_number 0) (record { type = Truth; value = pos 0 })
  no_event-tells a d r ha hd hr =
      tell-goes K int most calls k (answer_c false) s l a d r refused_number 0 ha hd hr (omega arith)
      ∙ answer-returns int calls k false (with_fault K s refused_number 0) l

  -- the test decides
  refusals-unknown : (rest : Block) (a d r : ℕ) → HasWord s.fields (fault_field K) a
      → HasWord s.fields (fault_datum_field K) d → HasWord s.fields (ready_field K) r → nat_eq r 0 ≡ false
      → (not (nat_eq e (length K.names.events)) && is_none_of e (later_inputs K.names.events)) ≡ true
      → outcome int calls k (refusals_c K rest) s l
      ≡ Returns (with_fault K s refused_number 0) (record { type = Truth; value = pos 0 })
  refusals-unknown rest a d r ha hd hr some is =
      running-passes (If (is_unknown_c K) (no_event_c K) End rest) r hr some
      ∙ if-taken int most calls k rest s l _ (no_event_c K) (with_fault K s refused_number 0) _
      (subst (λ (b : Bool). Has int s l (is_unknown_c K) (one_if b)) is
      (unknown-has int most s l e small here K few))
      (no_event-tells a d r ha hd hr)

  refusals-known : (rest : Block) (r : ℕ) → HasWord s.fields (ready_field K) r → nat_eq r 0 ≡ false
      → (not (nat_eq e (length K.names.events)) && is_none_of e (later_inputs K.names.events)) ≡ false
      → outcome int calls k (refusals_c K rest) s l ≡ outcome int calls k rest s l
  refusals-known rest r hr some is =
      running-passes (If (is_unknown_c K) (no_event_c K) End rest) r hr some
      ∙ if-passed int most calls k rest s l _ (no_event_c K)
      (subst (λ (b : Bool). Has int s l (is_unknown_c K) (one_if b)) is
      (unknown-has int most s l e small here K few))

  -- of a number that isn't below `ready`
  late-unready : HasWord s.fields (ready_field K) 0
      → outcome int calls k (late_refusals_c K) s l ≡ Returns s (record { type = Truth; value = pos 0 })
  late-unready h = by (all_inputs K.names.events)
    where
      by : (b : Bool) → outcome int calls k (cond b (not_running_c K (no_event_c K)) (refusals_c K End)) s l
          ≡ Returns s (record { type = Truth; value = pos 0 })
      by true = not_running-refused (no_event_c K) h
      by false = not_running-refused (If (is_unknown_c K) (no_event_c K) End End) h

  late-unknown : (a d r : ℕ) → HasWord s.fields (fault_field K) a → HasWord s.fields (fault_datum_field K) d
      → HasWord s.fields (ready_field K) r → nat_eq r 0 ≡ false
      → (not (nat_eq e (length K.names.events)) && is_none_of e (later_inputs K.names.events)) ≡ true
      → outcome int calls k (late_refusals_c K) s l
      ≡ Returns (with_fault K s refused_number 0) (record { type = Truth; value = pos 0 })
  late-unknown a d r ha hd hr some is = by (all_inputs K.names.events)
    where
      by : (b : Bool) → outcome int calls k (cond b (not_running_c K (no_event_c K)) (refusals_c K End)) s l
          ≡ Returns (with_fault K s refused_number 0) (record { type = Truth; value = pos 0 })
      by true = running-passes (no_event_c K) r hr some ∙ no_event-tells a d r ha hd hr
      by false = refusals-unknown End a d r ha hd hr some is

  late-known : (r : ℕ) → HasWord s.fields (ready_field K) r → nat_eq r 0 ≡ false → all_inputs K.names.events ≡ false
      → (not (nat_eq e (length K.names.events)) && is_none_of e (later_inputs K.names.events)) ≡ false
      → outcome int calls k (late_refusals_c K) s l ≡ Falls s l
  unfolding outcome
  late-known r hr some not_all is =
      ap (λ (b : Bool). outcome int calls k (cond b (not_running_c K (no_event_c K)) (refusals_c K End)) s l) not_all
      ∙ refusals-known End r hr some is

  -- an event that is below `ready`, or not
  guard-has : (r : ℕ) (b : Bool) → HasWord s.fields (ready_field K) r → nat_le r e ≡ b
      → Has int s l (Compare IsAtLeast event_local (Field (ready_field K))) (one_if b)
  guard-has r b h is =
      subst (λ (b : Bool). Has int s l (Compare IsAtLeast event_local (Field (ready_field K))) (one_if b)) is
      (at_least-has int most s l e small here K r h)

  -- a reaction where no run goes on
  pub unready-refused : (rest : Block) → HasWord s.fields (ready_field K) 0
      → outcome int calls k (refuse_c K rest) s l ≡ Returns s (record { type = Truth; value = pos 0 })
  unready-refused rest h = by (nat_eq (leading_events K.names.events) 0)
    where
      by : (b : Bool)
          → outcome int calls k (cond b (refusals_c K rest)
          (If (Compare IsAtLeast event_local (Field (ready_field K))) (late_refusals_c K) End rest)) s l
          ≡ Returns s (record { type = Truth; value = pos 0 })
      by true = not_running-refused (If (is_unknown_c K) (no_event_c K) End rest) h
      by false =
          if-taken int most calls k rest s l _ (late_refusals_c K) s _ (guard-has 0 true h (grind (arith, nat_tests)))
          (late-unready h)

  -- a number that is no event, in a run
  pub unknown-refused : (rest : Block) (a d : ℕ) → HasWord s.fields (fault_field K) a
      → HasWord s.fields (fault_datum_field K) d → HasWord s.fields (ready_field K) (leading K)
      → ¬ IsInputEvent K.names e → e ≢ length K.names.events
      → outcome int calls k (refuse_c K rest) s l
      ≡ Returns (with_fault K s refused_number 0) (record { type = Truth; value = pos 0 })
  unknown-refused rest a d ha hd hr no_input no_tick = by (leading_events K.names.events) refl hr
    where
      passes : (not (nat_eq e (length K.names.events)) && is_none_of e (later_inputs K.names.events)) ≡ true
      passes =
          let ne : nat_eq e (length K.names.events) ≡ false = differs (nat_eq e (length K.names.events)) refl in
          ap (λ (b : Bool). not b && is_none_of e (later_inputs K.names.events)) ne
          ∙ other-passes (leading_inputs K.names.events) 0 K.names.events e
          (λ i d there kind same. no_input (d, (ap (λ (i : ℕ). slice_get K.names.events i) (same ∙ plain i) ∙ there), kind))
        where
          plain : (i : ℕ) → 0 + i ≡ i
          plain i = omega arith

          differs : (b : Bool) → nat_eq e (length K.names.events) ≡ b → b ≡ false
          differs true is = absurd (no_tick (grind (arith, nat_tests)))
          differs false is = refl

      by : (n : ℕ) → leading_events K.names.events ≡ n → HasWord s.fields (ready_field K) (running_number n)
          → outcome int calls k (cond (nat_eq n 0) (refusals_c K rest)
          (If (Compare IsAtLeast event_local (Field (ready_field K))) (late_refusals_c K) End rest)) s l
          ≡ Returns (with_fault K s refused_number 0) (record { type = Truth; value = pos 0 })
      by zero is hr = refusals-unknown rest a d 1 ha hd hr refl passes
      by (suc n) is hr =
          let hr' = subst (λ (r : ℕ). HasWord s.fields (ready_field K) r) (running-suc n) hr in
          subst (λ (b : Bool). outcome int calls k (cond b (refusals_c K rest)
          (If (Compare IsAtLeast event_local (Field (ready_field K))) (late_refusals_c K) End rest)) s l
          ≡ Returns (with_fault K s refused_number 0) (record { type = Truth; value = pos 0 })) (sym some)
          (if-taken int most calls k rest s l _ (late_refusals_c K) (with_fault K s refused_number 0) _
          (guard-has (suc n) true hr' (above (nat_le (suc n) e) refl))
          (late-unknown a d (suc n) ha hd hr' some passes))
        where
          some : nat_eq (suc n) 0 ≡ false
          some = grind (arith, nat_tests)

          neither : (IsInputEvent K.names e) ⊎ (e ≡ length K.names.events) → ⊥
          neither (inl input) = no_input input
          neither (inr tick) = no_tick tick

          above : (b : Bool) → nat_le (suc n) e ≡ b → b ≡ true
          above true h = refl
          above false h =
              let lt : e < suc n = grind (arith, nat_tests) in
              absurd (neither (leads-event K.names.events e (omega (arith, lt, is))))

  -- an event that a run can be given
  pub event-taken : (rest : Block) (event : Event) → event_number K.names event ≡ e → CanReactTo K.names event
      → HasWord s.fields (ready_field K) (leading K)
      → outcome int calls k (refuse_c K rest) s l ≡ outcome int calls k rest s l
  unfolding outcome
  event-taken rest event number_is can hr = by (leading_events K.names.events) refl hr
    where
      lead : (leading_inputs K.names.events ≤ leading_events K.names.events)
          × (leading_events K.names.events ≤ length K.names.events + 1)
      lead = events-lead K.names.events

      within : (event : Event) → event_number K.names event ≡ e → CanReactTo K.names event
          → e ≤ length K.names.events
      within events.Start is can = absurd can
      within events.Tick is can = omega (arith, is)
      within (events.Named n) is can =
          let lt : n < length K.names.events = declared-within K.names.events n can.0 can.1 in omega (arith, is, lt)

      fails : (event : Event) → event_number K.names event ≡ e → CanReactTo K.names event
          → leading_inputs K.names.events ≤ e
          → (not (nat_eq e (length K.names.events)) && is_none_of e (later_inputs K.names.events)) ≡ false
      fails events.Start is can le = absurd can
      fails events.Tick is can le =
          let same : nat_eq e (length K.names.events) ≡ true = grind (arith, nat_tests) in
          ap (λ (b : Bool). not b && is_none_of e (later_inputs K.names.events)) same
      fails (events.Named n) is can le =
          let plain : 0 + n ≡ e = omega (arith, is) in
          both (not (nat_eq e (length K.names.events))) _
          (subst (λ (i : ℕ). is_none_of i (later_inputs K.names.events) ≡ false) plain
          (input-found (leading_inputs K.names.events) 0 K.names.events n can.0 can.1 can.2 (omega (arith, le, is))))
        where
          both : (a b : Bool) → b ≡ false → (a && b) ≡ false
          both true b e = e
          both false b e = refl

      by : (n : ℕ) → leading_events K.names.events ≡ n → HasWord s.fields (ready_field K) (running_number n)
          → outcome int calls k (cond (nat_eq n 0) (refusals_c K rest)
          (If (Compare IsAtLeast event_local (Field (ready_field K))) (late_refusals_c K) End rest)) s l
          ≡ outcome int calls k rest s l
      by zero is hr = refusals-known rest 1 hr refl (fails event number_is can (omega (arith, is, lead.0)))
      by (suc n) is hr =
          subst (λ (b : Bool). outcome int calls k (cond b (refusals_c K rest)
          (If (Compare IsAtLeast event_local (Field (ready_field K))) (late_refusals_c K) End rest)) s l
          ≡ outcome int calls k rest s l) (sym some)
          (at (subst (λ (r : ℕ). HasWord s.fields (ready_field K) r) (running-suc n) hr) (nat_le (suc n) e) refl)
        where
          some : nat_eq (suc n) 0 ≡ false
          some = grind (arith, nat_tests)

          at : HasWord s.fields (ready_field K) (suc n) → (b : Bool) → nat_le (suc n) e ≡ b
              → outcome int calls k (If (Compare IsAtLeast event_local (Field (ready_field K))) (late_refusals_c K) End
              rest) s l ≡ outcome int calls k rest s l
          at hr true h =
              let le : suc n ≤ e = grind (arith, nat_tests) in
              if-through int most calls k rest s l _ (late_refusals_c K) (guard-has (suc n) true hr h)
              (late-known (suc n) hr some (leaves-some K.names.events e (within event number_is can) (omega (arith, is, le)))
              (fails event number_is can (omega (arith, is, le, lead.0))))
          at hr false h = if-passed int most calls k rest s l _ (late_refusals_c K) (guard-has (suc n) false hr h)
