-- A counter is the number of times that the chart was processed with its event since its state was entered.
use Rattle.std.proofs.Common.{◌≡◌, ◌≢◌, ◌==◌, ◌<◌, ◌≤◌, ◌+◌, ◌⊎◌, inl, inr, ℕ, List, [], ◌∷◌, length, Bool, true, false}
use Rattle.std.proofs.Common.{Result, Ok, Err, min, refl, sym, ap, ◌∙◌, subst, arith, nat_le, if◌then◌else◌, get_or-set_same}
use Rattle.std.proofs.Common.{get_or-set_other, pos}
use Rattle.std.proofs.lemmas.List.{get_or_past}
use Rattle.flow_base.specs.declared.bounds.Bounds.{Bounds}
use Rattle.flow_base.specs.declared.fault.Fault.{Fault}
use Rattle.flow_base.specs.declared.fault.Fault.TheVariants.{Steps}
use Rattle.actions.specs.declared.names.Sort.TheVariants as sorts
use Rattle.actions.specs.declared.event.Event.{Event}
use Rattle.actions.specs.Data.{Datum, datum, no_datum, with_mantissa, keep, assigned, kept}
use Rattle.actions.specs.Exprs.{Expr}
use Rattle.actions.specs.Changes.{paid_in, assigned_in, assigned_value, with_data, set_mark, keep_in}
use Rattle.actions.specs.Values.{Valued, value_of}
use Rattle.actions.specs.World.{World}
use Rattle.actions.specs.Work as work
use Rattle.actions.specs.Work.{Run, Now, is_event, change_or_fault, choose}
use Rattle.checked_chart.specs.Chart.{Chart, is_remembered}
use Rattle.sos_rules.specs.Moves.{entered_in, keep_if}
use Rattle.sos_rules.specs.Searches.{assign, pay}
use Rattle.counting_rules.specs.Counters.{Counted, Counters, whole, one_more, reset, count_up, count}
use Rattle.counting_rules.specs.Numbers.{IsCounter, with_count}
use Rattle.counting_log.specs.Work as logged
use Rattle.counting_log.specs.Log.{Note, Entered, Processed, Assigned, since}
use Rattle.counting_log.specs.Tells.{Tells, ended, faulted, unfinished}
use Rattle.counting_log.specs.Times.{is_in, times_in, times, IsCounterOf, IsNumber}
use Rattle.counting_rules.proofs.Numbers.{one_more_is, reset_is}
use Rattle.counting_log.proofs.Tells.{Sound}

-- Q holds where work ends without a fault
data Leaves (Q : World → Type 0) : Run (Unit {0}) → Type 0 where
  left : (a : Unit {0}) (w : World) → Q w → Leaves Q (work.Ended a w)
  failed : (x : Fault) (w : World) → Leaves Q (work.Faulted x w)
  open_end : Leaves Q work.Unfinished

leaves_then : {Q R : World → Type 0} {r : Run (Unit {0})} {f : work.Work (Unit {0})} → Leaves Q r
    → ((w : World) → Q w → Leaves R (f w)) → Leaves R (work.then_do r (λ _. f))
leaves_then (left a w h) i = i w h
leaves_then (failed x w) i = failed x w
leaves_then open_end i = open_end

leaves_more : {Q R : World → Type 0} {r : Run (Unit {0})} → Leaves Q r → ((w : World) → Q w → R w) → Leaves R r
leaves_more (left a w h) i = left a w (i w h)
leaves_more (failed x w) i = failed x w
leaves_more open_end i = open_end

changed : (Q : World → Type 0) (r : Result World Fault) (w : World) → ((u : World) → r ≡ Ok u → Q u)
    → Leaves Q (change_or_fault r w)
changed Q (Ok u) w h = left tt u (h u refl)
changed Q (Err x) w h = failed x w

-- ---- data

-- a counter is declared
declared : (vals : List Datum) (v greatest n : ℕ) → IsCounter (datum vals v) greatest n
    → (v < length vals) ⊎ (length vals ≤ v) → v < length vals
unfolding datum
declared vals v greatest n h (inl lt) = lt
declared vals v greatest n h (inr le) =
    absurd (
    let e : sorts.Flag ≡ sorts.Number h.scale = ap (λ (d : Datum). d.sort) (sym (get_or_past vals v no_datum le) ∙ h.is) in
    cc)

before_or_past : (i n : ℕ) → (i < n) ⊎ (n ≤ i)
before_or_past i n = grind arith

within : (vals : List Datum) (v greatest n : ℕ) → IsCounter (datum vals v) greatest n → v < length vals
within vals v greatest n h = declared vals v greatest n h (before_or_past v (length vals))

-- a counter that was set
set_counter : (vals : List Datum) (v greatest n m : ℕ) → IsCounter (datum vals v) greatest n
    → IsCounter (datum (with_mantissa vals v (pos m)) v) greatest m
unfolding datum
set_counter vals v greatest n m h = record {
  scale = h.scale;
  unsigned = h.unsigned;
  whole = h.whole;
  top = h.top;
  is =
      get_or-set_same vals v (record (datum vals v) { mantissa = pos m }) no_datum (within vals v greatest n h)
      ∙ ap (λ (d : Datum). record d { mantissa = pos m }) h.is;
}

-- another datum that was set
other_set : (vals : List Datum) (u v : ℕ) (m : _) → u ≢ v → datum (with_mantissa vals u m) v ≡ datum vals v
unfolding datum
other_set vals u v m ne =
    get_or-set_other vals u v (record (datum vals u) { mantissa = m }) no_datum (λ e. ne (sym e))

-- what an assignment to another datum leaves
pub other_kept : (w : World) (u v : ℕ) (r : Result _ _) (x : World) → u ≢ v → with_data (keep w.vals u r) w ≡ Ok x
    → datum x.vals v ≡ datum w.vals v
other_kept w u v (Ok m) x ne e =
    let f : record w { vals = with_mantissa w.vals u m } ≡ x = cc in
    sym (ap (λ (y : World). datum y.vals v) f) ∙ other_set w.vals u v m ne
other_kept w u v (Err y) x ne e = absurd cc

other_value : (w : World) (u v : ℕ) (r : Valued) (x : World) → u ≢ v → assigned_value u r w ≡ Ok x
    → datum x.vals v ≡ datum w.vals v
unfolding assigned
other_value w u v (Ok y) x ne e = other_kept w u v (kept y (datum w.vals u)) x ne e
other_value w u v (Err y) x ne e = absurd cc

other_assigned : (w : World) (u v : ℕ) (e : Expr) (x : World) → u ≢ v → assigned_in u e w ≡ Ok x
    → datum x.vals v ≡ datum w.vals v
unfolding assigned_in
other_assigned w u v e x ne q = other_value w u v (value_of w.vals w.marks e) x ne q

-- paying and entering leave the data
paid_if : (w : World) (full : Bool) (x : World)
    → (if full then Err Steps else Ok (record w { used = w.used + 1 })) ≡ Ok x → x.vals ≡ w.vals
paid_if w true x e = absurd cc
paid_if w false x e =
    let f : record w { used = w.used + 1 } ≡ x = cc in sym (ap (λ (y : World). y.vals) f)

paid_vals : (b : Bounds) (w x : World) → paid_in b w ≡ Ok x → x.vals ≡ w.vals
unfolding paid_in
paid_vals b w x e = paid_if w (nat_le b.steps w.used) x e

kept_if_vals : (c : Chart) (s : ℕ) (w : World) (h : Bool) → (keep_if h c.tree s (set_mark s true w)).vals ≡ w.vals
unfolding keep_in
kept_if_vals c s w true = refl
kept_if_vals c s w false = refl

entered_vals : (c : Chart) (s : ℕ) (w : World) → (entered_in c s w).vals ≡ w.vals
unfolding entered_in
entered_vals c s w = kept_if_vals c s w (is_remembered c s)

-- numbers that are the same
same_number : (u v : ℕ) → (u == v) ≡ true → u ≡ v
same_number u v e = grind arith

other_number : (u v : ℕ) → (u == v) ≡ false → u ≢ v
other_number u v e = grind arith

abbrev none : ℕ
none = 0

zero_stays : (b : Bool) → (if b then 0 else 0) ≡ none
zero_stays true = refl
zero_stays false = refl

module _ (v greatest : ℕ) where
  -- the counter has this value
  abbrev pub Has : ℕ → World → Type 0
  Has n w = IsCounter (datum w.vals v) greatest n

  has_same : (n : ℕ) (w x : World) → datum x.vals v ≡ datum w.vals v → Has n w → Has n x
  has_same n w x e h = subst (λ d. IsCounter d greatest n) (sym e) h

  pub has_number : (n m : ℕ) (w : World) → n ≡ m → Has n w → Has m w
  has_number n m w e h = subst (λ x. IsCounter (datum w.vals v) greatest x) e h

  -- statements about the counter and about others
  other_leaves : (u n : ℕ) (e : Expr) (w : World) → u ≢ v → Has n w → Leaves (Has n) (assign u e w)
  other_leaves u n e w ne h =
      changed (Has n) (assigned_in u e w) w (λ x q. has_same n w x (other_assigned w u v e x ne q) h)

  set_leaves : (n m : ℕ) (e : Expr) (w : World) → assigned_in v e w ≡ Ok (with_count v m w) → Has n w
      → Leaves (Has m) (assign v e w)
  set_leaves n m e w q h =
      changed (Has m) (assigned_in v e w) w
      (λ x r.
      let f : with_count v m w ≡ x = cc in
      has_same m (with_count v m w) x (sym (ap (λ (y : World). datum y.vals v) f)) (set_counter w.vals v greatest n m h))

  reset_leaves : (vs : List ℕ) (n : ℕ) (w : World) → Has n w
      → Leaves (Has (if is_in v vs then 0 else n)) (reset vs w)
  reset_leaves [] n w h = left tt w h
  reset_leaves (u ∷ us) n w h = at (reset_leaves us) (u == v) refl
    where
      at : ((m : ℕ) (x : World) → Has m x → Leaves (Has (if is_in v us then 0 else m)) (reset us x))
          → (b : Bool) → (u == v) ≡ b
          → Leaves (Has (if (if b then true else is_in v us) then 0 else n)) (reset (u ∷ us) w)
      at more true e =
          subst (λ u. Leaves (Has 0) (reset (u ∷ us) w)) (sym (same_number u v e))
          (leaves_then (set_leaves n 0 (whole 0) w (reset_is v greatest n w h) h) (λ x i.
          leaves_more (more 0 x i) (λ y j. has_number _ 0 y (let z = zero_stays (is_in v us) in z) j)))
      at more false e =
          leaves_then (other_leaves u n (whole 0) w (other_number u v e) h) (λ x i. more n x i)

  -- n is the exact number, of which the counter has the least with the greatest
  up_leaves : (vs : List ℕ) (n : ℕ) (w : World) → Has (min n greatest) w
      → Leaves (Has (min (n + times_in v vs) greatest)) (count_up vs w)
  up_leaves [] n w h = left tt w (has_number _ _ w (omega arith) h)
  up_leaves (u ∷ us) n w h = at (up_leaves us) (u == v) refl
    where
      at : ((m : ℕ) (x : World) → Has (min m greatest) x → Leaves (Has (min (m + times_in v us) greatest)) (count_up us x))
          → (b : Bool) → (u == v) ≡ b
          → Leaves (Has (min (n + (if b then 1 + times_in v us else times_in v us)) greatest)) (count_up (u ∷ us) w)
      at more true e =
          subst (λ u. Leaves (Has (min (n + (1 + times_in v us)) greatest)) (count_up (u ∷ us) w))
          (sym (same_number u v e))
          (leaves_then
          (set_leaves (min n greatest) (min (min n greatest + 1) greatest) (one_more v) w
          (one_more_is v greatest (min n greatest) w h) h) (λ x i.
          leaves_more (more (n + 1) x (has_number _ _ x (omega arith) i)) (λ y j.
          has_number _ _ y (omega arith) j)))
      at more false e =
          leaves_then (other_leaves u (min n greatest) (one_more u) w (other_number u v e) h) (λ x i.
          more n x i)

  paid_leaves : (b : Bounds) (n : ℕ) (w : World) → Has n w → Leaves (Has n) (pay b w)
  paid_leaves b n w h =
      changed (Has n) (paid_in b w) w (λ x q. has_same n w x (ap (λ l. datum l v) (paid_vals b w x q)) h)

  count_leaves : (b : Bounds) (ks : List Counted) (now : Now) (n : ℕ) (w : World) → Has (min n greatest) w
      → Leaves (Has (min (n + times v ks now.event) greatest)) (count b ks now w)
  count_leaves b [] now n w h = left tt w (has_number _ _ w (omega arith) h)
  count_leaves b (k ∷ ks) now n w h = at (count_leaves b ks now) (is_event k.event now.event)
    where
      at : ((m : ℕ) (x : World) → Has (min m greatest) x
          → Leaves (Has (min (m + times v ks now.event) greatest)) (count b ks now x))
          → (fits : Bool)
          → Leaves (Has (min (n + ((if fits then times_in v k.counters else 0) + times v ks now.event)) greatest))
          (choose fits (λ w. work.then_do (count_up k.counters w) (λ _ w. work.then_do (pay b w) (λ _. count b ks now)))
          (count b ks now) w)
      at more true =
          leaves_then (up_leaves k.counters n w h) (λ x i.
          leaves_then (paid_leaves b (min (n + times_in v k.counters) greatest) x i) (λ y j.
          leaves_more (more (n + times_in v k.counters) y j) (λ z q.
          has_number _ _ z (omega arith) q)))
      at more false = leaves_more (more n w h) (λ z q. has_number _ _ z (omega arith) q)

-- ---- with the log

-- what holds where work ends without a fault
leaves_ended : {Q : World → Type 0} {r : Run (Unit {0})} → Leaves Q r → (a : Unit {0}) (x : World)
    → r ≡ work.Ended a x → Q x
leaves_ended {Q = Q} (left a w h) a' x e = let f : w ≡ x = cc in subst Q f h
leaves_ended (failed y w) a' x e = absurd cc
leaves_ended open_end a' x e = absurd cc

-- work that leaves the log, and work after which a note is taken
lifted_tells : (P : World → List Note → Type 0) (l : List Note) (r : Run (Unit {0}))
    → ((a : Unit {0}) (x : World) → r ≡ work.Ended a x → P x l) → Tells P (logged.with_log r l) r
lifted_tells P l (work.Ended a w) i = ended a w l (i a w refl)
lifted_tells P l (work.Faulted x w) i = faulted x w l
lifted_tells P l work.Unfinished i = unfinished

noted_tells : (P : World → List Note → Type 0) (l : List Note) (n : Note) (r : Run (Unit {0}))
    → ((a : Unit {0}) (x : World) → r ≡ work.Ended a x → P x (n ∷ l))
    → Tells P (logged.then_do (logged.with_log r l) (λ _. logged.note n)) r
noted_tells P l n (work.Ended a w) i = ended tt w (n ∷ l) (i a w refl)
noted_tells P l n (work.Faulted x w) i = faulted x w l
noted_tells P l n work.Unfinished i = unfinished

module _ (c : Chart) (k : Counters) (b : Bounds) (v s e greatest : ℕ) (own : IsCounterOf k v s e) where
  -- a change of the world alone
  plain : (r : Result World Fault) (w : World) (l : List Note) → IsNumber v s e greatest w l
      → ((x : World) → r ≡ Ok x → datum x.vals v ≡ datum w.vals v)
      → Tells (IsNumber v s e greatest) (logged.with_log (change_or_fault r w) l) (change_or_fault r w)
  plain (Ok x) w l h same =
      ended tt x l (λ clean. has_same v greatest (min (since s e l) greatest) w x (same x refl) (h clean))
  plain (Err x) w l h same = faulted x w l

  -- an assignment of the chart
  assigned_tells : (r : Result World Fault) (u : ℕ) (w : World) (l : List Note) → IsNumber v s e greatest w l
      → ((x : World) → u ≢ v → r ≡ Ok x → datum x.vals v ≡ datum w.vals v)
      → Tells (IsNumber v s e greatest)
      (logged.then_do (logged.with_log (change_or_fault r w) l) (λ _. logged.note (Assigned u))) (change_or_fault r w)
  assigned_tells (Ok x) u w l h same =
      ended tt x (Assigned u ∷ l) (λ clean.
      has_same v greatest (min (since s e l) greatest) w x (same x clean.0 refl) (h clean.1))
  assigned_tells (Err x) u w l h same = faulted x w l

  reset_number : (x n : ℕ) → (if is_in v (k.resets x) then none else min n greatest)
      ≡ min (if x == s then none else n) greatest
  reset_number x n =
      ap (λ y. if y then none else min n greatest) (own.reset x) ∙ at (x == s)
    where
      at : (y : Bool) → (if y then none else min n greatest) ≡ min (if y then none else n) greatest
      at true = omega arith
      at false = refl

  count_number : (now : Event) (n : ℕ) → min (n + times v k.counted now) greatest
      ≡ min (if is_event e now then n + 1 else n) greatest
  count_number now n =
      ap (λ y. min (n + y) greatest) (own.counted now) ∙ at (is_event e now)
    where
      at : (y : Bool) → min (n + (if y then 1 else 0)) greatest ≡ min (if y then n + 1 else n) greatest
      at true = refl
      at false = omega arith

  -- each change of the rules keeps the number
  pub number_is_kept : Sound c k b (IsNumber v s e greatest)
  number_is_kept = record {
    pays = λ w l h. plain (paid_in b w) w l h (λ x q. ap (λ d. datum d v) (paid_vals b w x q));
    assigns = λ u x w l h. assigned_tells (assigned_in u x w) u w l h (λ y ne q. other_assigned w u v x y ne q);
    emits = λ _ w l h. h;
    marks = λ x w l h clean.
        has_same v greatest (min (since s e l) greatest) w (entered_in c x w)
        (ap (λ d. datum d v) (entered_vals c x w)) (h clean);
    clears = λ x w l h. h;
    resets = λ x w l h.
        noted_tells (IsNumber v s e greatest) l (Entered x) (reset (k.resets x) w) (λ a y q clean.
        has_number v greatest _ _ y (reset_number x (since s e l))
        (leaves_ended (reset_leaves v greatest (k.resets x) (min (since s e l) greatest) w (h clean)) a y q));
    counts = λ now w l h.
        lifted_tells (IsNumber v s e greatest) (Processed now.event ∷ l) (count b k.counted now w) (λ a y q clean.
        has_number v greatest _ _ y (count_number now.event (since s e l))
        (leaves_ended (count_leaves v greatest b k.counted now (since s e l) w (h clean)) a y q));
  }
