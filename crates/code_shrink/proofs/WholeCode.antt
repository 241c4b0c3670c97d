-- Smaller code as a whole: it is well formed and neat, and neat code comes back as it is.
use Rattle.std.proofs.Common.{◌≡◌, ◌<◌, ◌≤◌, inl, inr, ℕ, zero, suc, ◌+◌, Bool, true, false, List, [], ◌∷◌, length}
use Rattle.std.proofs.Common.{drop, Option, Some, None}
use Rattle.std.proofs.Common.{refl, sym, ap, ◌∙◌, subst, arith, get_or-drop}
use Rattle.std.specs.Prelude.{slice_get, slice_index, slice_index_or, nat_lt, not, ◌||◌}
use Rattle.std.specs.List.{list_any}
use Rattle.std.proofs.lemmas.Bool.{lt-ltb, le-ltb, ltb-false, not-true, and_from}
use Rattle.code_language.specs.Code.{Code, Procedures, instructions}
use Rattle.code_language.specs.Instrs.{Instr, Assign, Emit, Mark, Clear, Keep, Unless, Skip, Call, Visit, Send}
use Rattle.code_language.specs.Instrs.{SendTo, Play, Home, Begin, Pass, Ret}
use Rattle.code_language.specs.Measures.{greatest, heights, works}
use Rattle.code_language.specs.Sound.{IsProc, AreProcs}
use Rattle.code_language.specs.WellFormed.{Known, known_of, too_many, starts_known, later_fault, IsCode, first_of}
use Rattle.code_language.specs.WellFormed.{first_over}
use Rattle.code_language.specs.WellFormed.{unless, procs_fault}
use Rattle.code_language.specs.declared.fault.CodeFault.{CodeFault}
use Rattle.code_language.specs.declared.fault.CodeKind.{CodeKind}
use Rattle.code_language.specs.declared.fault.CodeKind.TheVariants as kinds
use Rattle.code_language.specs.declared.limits.TheConstants.{PROC_LIMIT, INSTR_LIMIT, HEIGHT_LIMIT, WORK_LIMIT}
use Rattle.code_language.proofs.Accepted.{no_procs_fault, none_over, first_none, unless_none, holds_none}
use Rattle.code_language.proofs.Sound.{code_parts, proc_at, or_none, instructions_at}
use Rattle.code_language.proofs.Greatest.{at_most_greatest}
use Rattle.code_shrink.specs.Follows.{NoteIn, NamesIn}
use Rattle.code_shrink.specs.Neat.{IsAfter, Comes, First, After, Names}
use Rattle.code_shrink.specs.Smaller.{count, one_if, straight, smaller}
use Rattle.code_shrink.specs.Whole.{keep_if, is_live, number_in, collected, smaller_code, AreReached}
use Rattle.code_shrink.specs.Whole.{LiveStart, LiveReaction, LiveNamed, AllReached, IsExact}
use Rattle.code_shrink.proofs.Closed.{IsMarked, Lands, AreClosed, AllClosed, KeepsReached}
use Rattle.code_shrink.proofs.Orders.{comes_from, heights_less, works_less}
use Rattle.code_shrink.proofs.Sounder.{smaller_proc, smaller_length}

-- ---- flags that say what is reached are closed

-- a note is among these
note_in : (R : ℕ → Bool) (tag : Option ℕ) → ((q : ℕ) → tag ≡ Some q → R q ≡ true) → NoteIn R tag
note_in R None h = tt
note_in R (Some q) h = h q refl

-- what an instruction names is among these
names_in : (R : ℕ → Bool) (x : Instr) → ((q : ℕ) → Names x q → R q ≡ true) → NamesIn R x
unfolding NamesIn
names_in R (Assign v x) h = tt
names_in R (Emit e) h = tt
names_in R (Mark s) h = tt
names_in R (Clear s) h = tt
names_in R (Keep s) h = tt
names_in R (Call p tag) h = (h p (inl refl), note_in R tag (λ q e. h q (inr e)))
names_in R (Visit p tag) h = (h p (inl refl), note_in R tag (λ q e. h q (inr e)))
names_in R (Send e) h = tt
names_in R (SendTo e s p) h = h p refl
names_in R Play h = tt
names_in R (Home s) h = tt
names_in R Begin h = tt
names_in R Pass h = tt
names_in R (Unless k c) h = tt
names_in R (Skip k) h = tt
names_in R (Ret r) h = tt

-- what comes after an instruction is marked
lands_of : (i : ℕ) (x : Instr) (bs : List Bool) → ((k : ℕ) → IsAfter i x (i + 1 + k) → IsMarked bs k) → Lands x bs
lands_of i (Assign v x) bs h = h 0 (omega arith)
lands_of i (Emit e) bs h = h 0 (omega arith)
lands_of i (Mark s) bs h = h 0 (omega arith)
lands_of i (Clear s) bs h = h 0 (omega arith)
lands_of i (Keep s) bs h = h 0 (omega arith)
lands_of i (Call p tag) bs h = h 0 (omega arith)
lands_of i (Visit p tag) bs h = h 0 (omega arith)
lands_of i (Send e) bs h = h 0 (omega arith)
lands_of i (SendTo e s p) bs h = h 0 (omega arith)
lands_of i Play bs h = h 0 (omega arith)
lands_of i (Home s) bs h = h 0 (omega arith)
lands_of i Begin bs h = h 0 (omega arith)
lands_of i Pass bs h = h 0 (omega arith)
lands_of i (Unless k c) bs h = (h 0 (inl (omega arith)), h k (inr refl))
lands_of i (Skip k) bs h = h k refl
lands_of i (Ret r) bs h = tt

-- a flag that is set where it is there
default_true : (bs : List Bool) (j : ℕ) → (j < length bs → slice_index_or bs j false ≡ true) → IsMarked bs j
default_true [] j h = refl
default_true (b ∷ bs) zero h = h (omega arith)
default_true (b ∷ bs) (suc j) h = default_true bs j (λ l. h (omega (arith, l)))

-- flags that are closed place by place
closed_by : (R : ℕ → Bool) (t : List Instr) (bs : List Bool) → length bs ≡ length t
    → ((i : ℕ) (x : Instr) → slice_get t i ≡ Some x → slice_index_or bs i false ≡ true
    → Lands x (drop (suc i) bs) × NamesIn R x) → AreClosed R bs t
closed_by R [] [] e h = tt
closed_by R [] (b ∷ bs) e h = absurd (omega (arith, e))
closed_by R (x ∷ t) [] e h = absurd (omega (arith, e))
closed_by R (x ∷ t) (b ∷ bs) e h =
    (λ s. h 0 x refl s, closed_by R t bs (omega (arith, e)) (λ i y g s. h (suc i) y g s))

-- flags of reached places are closed, where what these name is among R
closed_reached : (R : ℕ → Bool) (t : List Instr) (bs : List Bool) → AreReached t bs
    → ((i q : ℕ) (x : Instr) → Comes t i → slice_get t i ≡ Some x → Names x q → R q ≡ true) → AreClosed R bs t
closed_reached R t bs h names = closed_by R t bs h.size (λ i x e s. (
  lands_of i x (drop (suc i) bs) (λ k a.
      let there : IsMarked bs (i + 1 + k) = default_true bs (i + 1 + k) (λ l.
      let l' : i + 1 + k < length t = omega (arith, l, h.size) in
      h.complete (i + 1 + k) l' (After i (i + 1 + k) x (h.sound i s) e a)) in
      let n : suc i + k ≡ i + 1 + k = omega arith in
      get_or-drop (suc i) bs k true ∙ ap (λ j. slice_index_or bs j true) n ∙ there),
  names_in R x (λ q m. names i q x (h.sound i s) e m),
))

-- the flags of all kept procedures are closed
all_closed : (R : ℕ → Bool) (live : List Bool) (flags : List (List Bool)) (procs : List (List Instr))
    → AllReached live flags procs
    → ((p i q : ℕ) (is : List Instr) (x : Instr) → is_live live p ≡ true → slice_get procs p ≡ Some is → Comes
    (straight is) i
    → slice_get (straight is) i ≡ Some x → Names x q → R q ≡ true) → AllClosed R live flags procs
all_closed R [] [] [] h names = tt
all_closed R [] [] (is ∷ procs) h names = absurd h
all_closed R [] (bs ∷ flags) procs h names = absurd h
all_closed R (b ∷ live) [] procs h names = absurd h
all_closed R (b ∷ live) (bs ∷ flags) [] h names = absurd h
all_closed R (b ∷ live) (bs ∷ flags) (is ∷ procs) h names = (
  λ s. let r = h.0 s in (
    closed_reached R (straight is) bs r (λ i q x c e m. names 0 i q is x s refl c e m),
    default_true bs 0 (λ l. r.complete 0 (let l' : 0 < length (straight is) = omega (arith, l, r.size) in l') First),
  ),
  all_closed R live flags procs h.1 (λ p i q js x s g c e m. names (suc p) i q js x s g c e m),
)

-- exact flags keep what is reached
pub exact_keeps : (live : List Bool) (flags : List (List Bool)) (k : Procedures) → IsExact live flags k
    → KeepsReached live flags k
unfolding instructions
exact_keeps live flags k h = record {
  start = h.complete k.start LiveStart;
  react = h.complete k.react LiveReaction;
  each = all_closed (is_live live) live flags k.procs h.places (λ p i q is x s g c e m.
      let same : slice_index_or k.procs p [] ≡ is = instructions_at k.procs p ∙ ap or_none g in
      h.complete q (LiveNamed p i q x (h.sound p s)
      (subst (λ l. Comes (straight l) i) (sym same) c)
      (subst (λ l. slice_get (straight l) i ≡ Some x) (sym same) e) m));
}

-- ---- well formed

-- procedures that are there one by one
pub procs_by : (K : Known) (from : ℕ) (procs : List (List Instr))
    → ((i : ℕ) (is : List Instr) → slice_get procs i ≡ Some is → IsProc K (from + i) is) → AreProcs K from procs
procs_by K from [] h = tt
procs_by K from (is ∷ procs) h =
    let n : from + 0 ≡ from = omega arith in (
      subst (λ p. IsProc K p is) n (h 0 is refl),
      procs_by K (suc from) procs (λ i js e.
          let m : from + suc i ≡ suc from + i = omega arith in
          subst (λ p. IsProc K p js) m (h (suc i) js e)),
    )

-- counts grow
count_grows : (live : List Bool) (q p : ℕ) → is_live live q ≡ true → q < p → count q live < count p live
count_grows [] q p h l = absurd (cc h)
count_grows (b ∷ live) q zero h l = absurd (omega arith)
count_grows (true ∷ live) zero (suc p) h l = omega arith
count_grows (false ∷ live) zero (suc p) h l = absurd (cc h)
count_grows (true ∷ live) (suc q) (suc p) h l = omega (arith, count_grows live q p h (omega (arith, l)))
count_grows (false ∷ live) (suc q) (suc p) h l = count_grows live q p h (omega (arith, l))

-- past a procedure that may be kept
below_kept : (b : Bool) (is : List Instr) (n : ℕ) (out : List (List Instr)) → n < length out
    → one_if b n < length (keep_if b is out)
below_kept true is n out h = omega arith
below_kept false is n out h = h

-- a kept procedure is there
number_below : (R : ℕ → Bool) (m : ℕ → ℕ) (live : List Bool) (flags : List (List Bool)) (procs : List (List Instr))
    (q : ℕ)
    → AllClosed R live flags procs → is_live live q ≡ true → count q live < length (collected m live flags procs)
number_below R m [] [] [] q closed h = absurd (cc h)
number_below R m [] [] (is ∷ procs) q closed h = absurd closed
number_below R m [] (bs ∷ flags) procs q closed h = absurd closed
number_below R m (b ∷ live) [] procs q closed h = absurd closed
number_below R m (b ∷ live) (bs ∷ flags) [] q closed h = absurd closed
number_below R m (true ∷ live) (bs ∷ flags) (is ∷ procs) zero closed h = omega arith
number_below R m (false ∷ live) (bs ∷ flags) (is ∷ procs) zero closed h = absurd (cc h)
number_below R m (b ∷ live) (bs ∷ flags) (is ∷ procs) (suc q) closed h =
    below_kept b (smaller m bs is) (count q live) (collected m live flags procs)
    (number_below R m live flags procs q closed.1 h)

-- no more procedures than there were, and none longer than there may be
not_more : (m : ℕ → ℕ) (live : List Bool) (flags : List (List Bool)) (procs : List (List Instr))
    → length (collected m live flags procs) ≤ length procs
not_more m [] flags procs = omega arith
not_more m (b ∷ live) [] procs = omega arith
not_more m (b ∷ live) (bs ∷ flags) [] = omega arith
not_more m (true ∷ live) (bs ∷ flags) (is ∷ procs) = omega (arith, not_more m live flags procs)
not_more m (false ∷ live) (bs ∷ flags) (is ∷ procs) = omega (arith, not_more m live flags procs)

-- the first of two tests doesn't hold where neither does
or_first : (a b : Bool) → (a || b) ≡ false → a ≡ false
or_first true b h = absurd (cc h)
or_first false b h = refl

-- nor does the second
or_second : (a b : Bool) → (a || b) ≡ false → b ≡ false
or_second true b h = absurd (cc h)
or_second false b h = h

-- neither holds
or_none_holds : (a b : Bool) → a ≡ false → b ≡ false → (a || b) ≡ false
or_none_holds a b h g = ap (λ c. c || b) h ∙ g

-- a procedure is too long
abbrev pub too_long : List Instr → Bool
too_long is = nat_lt INSTR_LIMIT (length is)

-- a shorter one isn't where the other isn't
long_less : (a b n : ℕ) → a ≤ b → nat_lt n b ≡ false → nat_lt n a ≡ false
long_less a b n h g = le-ltb n a (let l = ltb-false n b g in omega (arith, l, h))

-- none is too long
none_too_long : (m : ℕ → ℕ) (live : List Bool) (flags : List (List Bool)) (procs : List (List Instr))
    → list_any too_long procs ≡ false → list_any too_long (collected m live flags procs) ≡ false
none_too_long m [] flags procs h = refl
none_too_long m (b ∷ live) [] procs h = refl
none_too_long m (b ∷ live) (bs ∷ flags) [] h = refl
none_too_long m (true ∷ live) (bs ∷ flags) (is ∷ procs) h =
    or_none_holds (too_long (smaller m bs is)) (list_any too_long (collected m live flags procs))
    (long_less (length (smaller m bs is)) (length is) INSTR_LIMIT (smaller_length m is bs)
    (or_first (too_long is) (list_any too_long procs) h))
    (none_too_long m live flags procs (or_second (too_long is) (list_any too_long procs) h))
none_too_long m (false ∷ live) (bs ∷ flags) (is ∷ procs) h =
    none_too_long m live flags procs (or_second (too_long is) (list_any too_long procs) h)

-- no fault of either
neither : (o later : Option CodeFault) → o ≡ None → later ≡ None → first_of o later ≡ None
neither o later h g = ap (λ f. first_of f later) h ∙ g

-- no number is over a limit where there is no fault
greatest_within : (limit : ℕ) (kind : CodeKind) (p : ℕ) (ns : List ℕ) → first_over limit kind p ns ≡ None
    → greatest ns ≤ limit
unfolding first_over
greatest_within limit kind p [] h = omega arith
greatest_within limit kind p (n ∷ ns) h =
    let parts = first_none (unless (not (nat_lt limit n)) kind p 0) (first_over limit kind (p + 1) ns) h in
    let low = ltb-false limit n (not-true (nat_lt limit n) (unless_none (not (nat_lt limit n)) kind p 0 parts.0)) in
    omega (arith, low, greatest_within limit kind (p + 1) ns parts.1)

module _ (live : List Bool) (flags : List (List Bool)) (k : Code) (well : IsCode k)
    (exact : IsExact live flags k.procedures) where
  -- the smaller code
  abbrev pub small : Code
  small = smaller_code live flags k

  -- its procedures
  abbrev pub procs_now : List (List Instr)
  procs_now = collected (number_in live) live flags k.procedures.procs

  -- they keep what is reached
  kept : KeepsReached live flags k.procedures
  kept = exact_keeps live flags k.procedures exact

  -- they are sound
  sound_now : AreProcs (known_of small) 0 procs_now
  sound_now = procs_by (known_of small) 0 procs_now (λ i now e.
      let f = comes_from (is_live live) (number_in live) live flags k.procedures.procs i now kept.each e in
      let parts = code_parts k well in
      let n : 0 + f.old ≡ f.old = omega arith in
      let was = subst (λ p. IsProc (known_of k) p f.before) n
      (proc_at (known_of k) k.procedures.procs 0 f.old f.before parts.procs f.there) in
      let is = smaller_proc (is_live live) (number_in live) (known_of k) (length procs_now) f.old
      (λ q r. number_below (is_live live) (number_in live) live flags k.procedures.procs q kept.each r)
      (λ q r l. count_grows live q f.old r l) f.before f.marks f.closed f.first was in
      let m : number_in live f.old ≡ 0 + i = omega (arith, f.at) in
      subst (λ p. IsProc (known_of small) p now) m
      (subst (λ l. IsProc (known_of small) (number_in live f.old) l) f.made is))

  -- no procedure is higher than there may be
  heights_within : (i : ℕ) → slice_index (heights procs_now) i ≤ HEIGHT_LIMIT
  unfolding later_fault
  heights_within i =
      let starts = first_none (unless (starts_known k.procedures) kinds.BadNumber 0 0) _ well.sound in
      let procs = first_none (procs_fault (known_of k) 0 k.procedures.procs) _ starts.1 in
      let high = first_none (first_over HEIGHT_LIMIT kinds.TooHigh 0 (heights k.procedures.procs)) _ procs.1 in
      let a = greatest_within HEIGHT_LIMIT kinds.TooHigh 0 (heights k.procedures.procs) high.0 in
      let b = heights_less (known_of k) live flags k.procedures.procs (code_parts k well).procs kept.each in
      let c = at_most_greatest (heights procs_now) i in
      omega (arith, a, b, c)

  -- and none works more
  works_within : (i : ℕ) → slice_index (works procs_now) i ≤ WORK_LIMIT
  unfolding later_fault
  works_within i =
      let starts = first_none (unless (starts_known k.procedures) kinds.BadNumber 0 0) _ well.sound in
      let procs = first_none (procs_fault (known_of k) 0 k.procedures.procs) _ starts.1 in
      let high = first_none (first_over HEIGHT_LIMIT kinds.TooHigh 0 (heights k.procedures.procs)) _ procs.1 in
      let a = greatest_within WORK_LIMIT kinds.TooMuchWork 0 (works k.procedures.procs) high.1 in
      let b = works_less (known_of k) live flags k.procedures.procs (code_parts k well).procs kept.each in
      let c = at_most_greatest (works procs_now) i in
      omega (arith, a, b, c)

  -- there are few enough
  few_now : too_many procs_now ≡ false
  few_now =
      or_none_holds (nat_lt PROC_LIMIT (length procs_now)) (list_any too_long procs_now)
      (long_less (length procs_now) (length k.procedures.procs) PROC_LIMIT
      (not_more (number_in live) live flags k.procedures.procs)
      (or_first (nat_lt PROC_LIMIT (length k.procedures.procs)) (list_any too_long k.procedures.procs) well.few))
      (none_too_long (number_in live) live flags k.procedures.procs
      (or_second (nat_lt PROC_LIMIT (length k.procedures.procs)) (list_any too_long k.procedures.procs) well.few))

  -- the procedures of the start and of a reaction are there
  starts_now : starts_known small.procedures ≡ true
  starts_now =
      and_from (nat_lt (number_in live k.procedures.start) (length procs_now))
      (nat_lt (number_in live k.procedures.react) (length procs_now))
      (lt-ltb (number_in live k.procedures.start) (length procs_now)
      (number_below (is_live live)
      (number_in live) live flags k.procedures.procs k.procedures.start kept.each kept.start))
      (lt-ltb (number_in live k.procedures.react) (length procs_now)
      (number_below (is_live live)
      (number_in live) live flags k.procedures.procs k.procedures.react kept.each kept.react))

  -- the smaller code is well formed
  pub smaller_is_code : IsCode small
  unfolding later_fault
  smaller_is_code = record {
    few = few_now;
    table = well.table;
    sound =
        neither (unless (starts_known small.procedures) kinds.BadNumber 0 0) _
        (holds_none (starts_known small.procedures) kinds.BadNumber 0 0 starts_now)
        (neither (procs_fault (known_of small) 0 procs_now) _ (no_procs_fault (known_of small) 0 procs_now sound_now)
        (neither (first_over HEIGHT_LIMIT kinds.TooHigh 0 (heights procs_now)) _
        (none_over HEIGHT_LIMIT kinds.TooHigh 0 (heights procs_now) heights_within)
        (none_over WORK_LIMIT kinds.TooMuchWork 0 (works procs_now) works_within)));
  }
