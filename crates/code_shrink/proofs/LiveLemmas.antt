-- The search for the procedures that are reached, from its start to its end.
use Rattle.std.proofs.Common.{◌≡◌, ◌<◌, ◌≤◌, ◌⊎◌, ◌↔◌, inl, inr, ⊎_elim, ℕ, zero, suc, ◌+◌, Bool, true, false}
use Rattle.std.proofs.Common.{List, [], ◌∷◌, ◌++◌, length, map, take, replicate, get_or, Vec, Global}
use Rattle.std.proofs.Common.{Option, Some, None, refl, sym, ap, ◌∙◌, subst, arith}
use Rattle.std.specs.Prelude.{Result, OnOk, slice_get, slice_index_or, nat_lt, ◌&&◌}
use Rattle.std.specs.List.{list_any}
use Rattle.std.proofs.lemmas.Bool.{ltb-true, ltb-false, and_parts}
use Rattle.std.proofs.lemmas.List.{length-map, length-replicate}
use Rattle.flow_base.specs.declared.list.List as kept
use Rattle.flow_base.specs.declared.memory.Memory.{Memory}
use Rattle.flow_base.specs.Lists.{items_of}
use Rattle.actions.specs.Exprs.{Expr}
use Rattle.code_language.specs.declared.limits.TheConstants.{PROC_LIMIT, INSTR_LIMIT}
use Rattle.code_language.specs.declared.instr.Instr as declared
use Rattle.code_language.specs.Code.{Code, Procedures, instructions, instr_of, instrs_of, code_of}
use Rattle.code_language.specs.declared.code.RawCode.{RawCode}
use Rattle.code_language.specs.Instrs.{Cond, On, Bare, OnHome, BareHome, Current, Result as ResultIs, Test, Last}
use Rattle.code_language.specs.Instrs.{Instr, Assign, Emit, Mark, Clear, Keep, Unless, Skip, Call, Visit, Send}
use Rattle.code_language.specs.Instrs.{SendTo, Play, Home, Begin, Pass, Ret}
use Rattle.code_language.specs.Sound.{AreSound}
use Rattle.code_language.specs.WellFormed.{Known, known_of, is_event, is_state}
use Rattle.code_language.specs.WellFormed.{is_proc, note_known, instr_known, IsCode}
use Rattle.code_language.proofs.ListLemmas.{or_false}
use Rattle.code_language.proofs.Sound.{code_parts, proc_at, proc_there}
use Rattle.code_shrink.specs.Neat.{Names, constant_truth}
use Rattle.code_shrink.specs.Ways.{way_of}
use Rattle.code_shrink.specs.declared.places.Way.{Way}
use Rattle.code_shrink.specs.Search.{items_in, EachReached, IsFound, IsListed, AllNameBelow, NamesBefore, NamedBy}
use Rattle.code_shrink.specs.Search.{Finds, IsSearch}
use Rattle.code_shrink.specs.Slides.{straight_ways, IsProcedure}
use Rattle.code_shrink.specs.Smaller.{decided, folded_test, folded, slides, threaded, straight}
use Rattle.code_shrink.specs.Whole.{AreReached, AllReached, IsExact, IsLive, LiveStart, LiveReaction, LiveNamed}
use Rattle.code_shrink.specs.declared.search.Search.{Search}
use Rattle.code_shrink.proofs.SearchLemmas.{listed_more, listed_last, listed_before}
use Rattle.code_shrink.proofs.Tidy.{within}

-- ---- procedures of well-formed code

-- a procedure is short where none is too long
short_at : (procs : List (List Instr)) (p : ℕ) (is : List Instr)
    → list_any (λ (is : List Instr). nat_lt INSTR_LIMIT (length is)) procs ≡ false → slice_get procs p ≡ Some is
    → length is ≤ INSTR_LIMIT
short_at [] p is h e = absurd (cc e)
short_at (js ∷ procs) zero is h e =
    let low = (or_false (nat_lt INSTR_LIMIT (length js)) _ h).0 in
    let same : js ≡ is = cc e in
    let le = ltb-false INSTR_LIMIT (length js) low in
    subst (λ (l : List Instr). length l ≤ INSTR_LIMIT) same le
short_at (js ∷ procs) (suc p) is h e =
    short_at procs p is (or_false (nat_lt INSTR_LIMIT (length js)) _ h).1 e

-- a procedure of well-formed code is one
pub procedure_at : (k : Code) (p : ℕ) → IsCode k → p < length k.procedures.procs
    → IsProcedure (instructions k.procedures p)
unfolding instructions
procedure_at k p well lt =
    let long = or_false (nat_lt PROC_LIMIT (length k.procedures.procs)) _ well.few in
    let there = proc_there k.procedures.procs p lt in
    let is = slice_index_or k.procedures.procs p [] in
    record {
      known = known_of k;
      number = 0 + p;
      sound = proc_at (known_of k) k.procedures.procs 0 p is (code_parts k well).procs there;
      short = short_at k.procedures.procs p is long.1 there;
    }

-- a note that is known
note_below : (K : Known) (tag : Option ℕ) (q : ℕ) → note_known K tag ≡ true → tag ≡ Some q → q < K.procs
note_below K None q h e = absurd (cc e)
note_below K (Some p) q h e =
    let same : p ≡ q = cc e in subst (λ (n : ℕ). n < K.procs) same (ltb-true p K.procs h)

-- what a known call names
called_below : (K : Known) (p : ℕ) (tag : Option ℕ) (q : ℕ) → (is_proc K p && note_known K tag) ≡ true
    → (q ≡ p) ⊎ (tag ≡ Some q) → q < K.procs
called_below K p tag q h n =
    let parts = and_parts (is_proc K p) (note_known K tag) h in
    ⊎_elim (λ (e : q ≡ p). subst (λ (m : ℕ). m < K.procs) (sym e) (ltb-true p K.procs parts.0))
    (λ (e : tag ≡ Some q). note_below K tag q parts.1 e) n

-- what a known instruction names is there
named_below : (K : Known) (x : Instr) (q : ℕ) → instr_known K x ≡ true → Names x q → q < K.procs
unfolding instr_known
named_below K (Assign v x) q h n = absurd n
named_below K (Emit e) q h n = absurd n
named_below K (Mark s) q h n = absurd n
named_below K (Clear s) q h n = absurd n
named_below K (Keep s) q h n = absurd n
named_below K (Unless k c) q h n = absurd n
named_below K (Skip k) q h n = absurd n
named_below K (Call p tag) q h n = called_below K p tag q h n
named_below K (Visit p tag) q h n = called_below K p tag q h n
named_below K (Send e) q h n = absurd n
named_below K (SendTo e s p) q h n =
    let parts = and_parts (is_event K e) (is_state K s && is_proc K p) h in
    let there = and_parts (is_state K s) (is_proc K p) parts.1 in
    subst (λ (m : ℕ). m < K.procs) (sym n) (ltb-true p K.procs there.1)
named_below K Play q h n = absurd n
named_below K (Home s) q h n = absurd n
named_below K Begin q h n = absurd n
named_below K Pass q h n = absurd n
named_below K (Ret r) q h n = absurd n

-- each of sound instructions is known
known_at : (K : Known) (p behind : ℕ) (is : List Instr) (i : ℕ) (x : Instr) → AreSound K p behind is
    → slice_get is i ≡ Some x → instr_known K x ≡ true
known_at K p behind [] i x h e = absurd (cc e)
known_at K p behind (y ∷ is) zero x h e =
    let same : y ≡ x = cc e in subst (λ (z : Instr). instr_known K z ≡ true) same h.0.known
known_at K p behind (y ∷ is) (suc i) x h e = known_at K p behind is i x h.1 e

-- the procedures that a procedure of well-formed code names are there
pub names_there : (k : Code) (p : ℕ) → IsCode k → p < length k.procedures.procs
    → AllNameBelow (length k.procedures.procs) (instructions k.procedures p)
unfolding instructions
names_there k p well lt i x at q named =
    let is = slice_index_or k.procedures.procs p [] in
    let there = proc_there k.procedures.procs p lt in
    let sound = proc_at (known_of k) k.procedures.procs 0 p is (code_parts k well).procs there in
    named_below (known_of k) x q (known_at (known_of k) (0 + p) 0 is i x sound.sound at) named

-- ---- procedures as they are written

-- the instructions of a procedure
abbrev pub written : kept.List declared.Instr → List Instr
written is = instrs_of (items_of is)

-- it is the procedure with its number
own_at : (xs : List (kept.List declared.Instr)) (p : ℕ) (x : kept.List declared.Instr) → p < length (map written xs)
    → x ≡ get_or xs p x → slice_index_or (map written xs) p [] ≡ written x
own_at [] p x lt e = absurd (omega (arith, lt))
own_at (y ∷ xs) zero x lt e = ap written (sym e)
own_at (y ∷ xs) (suc p) x lt e = own_at xs p x (omega (arith, lt)) e

-- so in code
pub own_is : (raw : RawCode) (ys : List (kept.List declared.Instr)) (p : ℕ) (x : kept.List declared.Instr)
    → ys ≡ items_of raw.procs → p < length (code_of raw).procedures.procs → x ≡ get_or ys p x
    → instructions (code_of raw).procedures p ≡ written x
unfolding instructions
own_is raw ys p x same lt e =
    own_at (items_of raw.procs) p x lt (subst (λ xs. x ≡ get_or xs p x) same e)

-- as many flags as procedures, of which none is set
pub none_found : (raw : RawCode) (ys : List (kept.List declared.Instr)) (bs : List Bool)
    → bs ≡ replicate (length ys) false → ys ≡ items_of raw.procs
    → bs ≡ replicate (length (code_of raw).procedures.procs) false
none_found raw ys bs none same =
    none ∙ ap (λ n. replicate n false) (ap length same ∙ sym (length-map (items_of raw.procs) written))

-- among them are those of the start and of a reaction
pub starts_there : (raw : RawCode) (ys : List (kept.List declared.Instr)) (bs : List Bool) → IsCode (code_of raw)
    → bs ≡ replicate (length ys) false → ys ≡ items_of raw.procs → (raw.start < length bs) × (raw.react < length bs)
starts_there raw ys bs well none same =
    let k = (code_of raw).procedures in
    let parts = code_parts (code_of raw) well in
    let start = parts.start in
    let react = parts.react in
    let size = ap length (none_found raw ys bs none same) ∙ length-replicate (length k.procs) false in
    (omega (arith, start, size), omega (arith, react, size))

-- what is made of each
pub written_map : {A : Type 0} (f : List Instr → A) (xs : List (kept.List declared.Instr))
    → map (λ (x : kept.List declared.Instr). f (written x)) xs ≡ map f (map written xs)
written_map f [] = refl
written_map f (x ∷ xs) = ap (λ l. f (written x) ∷ l) (written_map f xs)

-- ---- names of straight procedures

-- a test that may be decided names nothing
decided_names : (k : ℕ) (e : Expr) (o : Option Bool) (ls : List ℕ) (q : ℕ) → Names (threaded (decided k e o) ls) q → ⊥
decided_names k e None ls q n = n
decided_names k e (Some true) ls q n = n
decided_names k e (Some false) ls q n = n

-- nor does any other test
test_names : (k : ℕ) (c : Cond) (ls : List ℕ) (q : ℕ) → Names (threaded (folded_test k c) ls) q → ⊥
test_names k (On s) ls q n = n
test_names k (Bare s) ls q n = n
test_names k OnHome ls q n = n
test_names k BareHome ls q n = n
test_names k (Current e) ls q n = n
test_names k (ResultIs r) ls q n = n
test_names k (Test e) ls q n = decided_names k e (constant_truth e) ls q n
test_names k (Last s) ls q n = n

-- a straight procedure names what the procedure does
names_same : (x : Instr) (q : ℕ) (ls : List ℕ) → Names x q ↔ Names (threaded (folded x) ls) q
names_same (Assign v x) q ls = (λ n. n, λ n. n)
names_same (Emit e) q ls = (λ n. n, λ n. n)
names_same (Mark s) q ls = (λ n. n, λ n. n)
names_same (Clear s) q ls = (λ n. n, λ n. n)
names_same (Keep s) q ls = (λ n. n, λ n. n)
names_same (Unless k c) q ls = (λ n. absurd n, λ n. test_names k c ls q n)
names_same (Skip k) q ls = (λ n. n, λ n. n)
names_same (Call p tag) q ls = (λ n. n, λ n. n)
names_same (Visit p tag) q ls = (λ n. n, λ n. n)
names_same (Send e) q ls = (λ n. n, λ n. n)
names_same (SendTo e s p) q ls = (λ n. n, λ n. n)
names_same Play q ls = (λ n. n, λ n. n)
names_same (Home s) q ls = (λ n. n, λ n. n)
names_same Begin q ls = (λ n. n, λ n. n)
names_same Pass q ls = (λ n. n, λ n. n)
names_same (Ret r) q ls = (λ n. n, λ n. n)

-- a place of the straight procedure
straight_at : (is : List Instr) (i : ℕ) (x : Instr) → slice_get is i ≡ Some x
    → (ls : List ℕ) × (slice_get (straight is) i ≡ Some (threaded (folded x) ls))
straight_at [] i x e = absurd (cc e)
straight_at (y ∷ is) zero x e =
    let same : y ≡ x = cc e in
    (slides (map folded is), ap (λ (z : Instr). Some (threaded (folded z) (slides (map folded is)))) same)
straight_at (y ∷ is) (suc i) x e = straight_at is i x e

-- and back
straight_from : (is : List Instr) (i : ℕ) (x : Instr) → slice_get (straight is) i ≡ Some x
    → (y : Instr) × (ls : List ℕ) × (slice_get is i ≡ Some y) × (x ≡ threaded (folded y) ls)
straight_from [] i x e = absurd (cc e)
straight_from (y ∷ is) zero x e =
    let same : threaded (folded y) (slides (map folded is)) ≡ x = cc e in
    (y, slides (map folded is), refl, sym same)
straight_from (y ∷ is) (suc i) x e = straight_from is i x e

-- they are as long
pub straight_length : (is : List Instr) → length (straight is) ≡ length is
straight_length [] = refl
straight_length (y ∷ is) = ap suc (straight_length is)

-- ---- flags of each procedure

-- what lies in one of the lists
pub items_at : {A : Type 0} (xs : List (Vec A Global)) (p : ℕ) (x : Vec A Global) → p < length xs → x ≡ get_or xs p x
    → x.items ≡ slice_index_or (items_in xs) p []
items_at {A = A} [] p x lt e = absurd (omega (arith, lt))
items_at {A = A} (y ∷ xs) zero x lt e = ap (λ (z : Vec A Global). z.items) e
items_at {A = A} (y ∷ xs) (suc p) x lt e = items_at xs p x (omega (arith, lt)) e

-- there are as many of what lies in them
pub items_size : {A : Type 0} (xs : List (Vec A Global)) → length (items_in xs) ≡ length xs
items_size [] = refl
items_size (x ∷ xs) = ap suc (items_size xs)

-- one more list
pub items_more : {A : Type 0} (xs : List (Vec A Global)) (x : Vec A Global)
    → items_in (xs ++ x ∷ []) ≡ items_in xs ++ x.items ∷ []
items_more [] x = refl
items_more (y ∷ xs) x = ap (λ l. y.items ∷ l) (items_more xs x)

-- there are ways of each procedure
pub ways_size : (procs : List (List Instr)) (ws : List (Vec Way Global))
    → map straight_ways procs ≡ items_in ws → length ws ≡ length procs
ways_size procs ws e =
    sym (items_size ws) ∙ sym (ap length e) ∙ length-map procs straight_ways

-- those of one
pub ways_at : (procs : List (List Instr)) (ws : List (Vec Way Global)) (p : ℕ)
    → map straight_ways procs ≡ items_in ws → p < length procs
    → straight_ways (slice_index_or procs p []) ≡ slice_index_or (items_in ws) p []
ways_at procs ws p e lt = at procs p lt ∙ ap (λ l. slice_index_or l p []) e
  where
    at : (procs : List (List Instr)) (p : ℕ) → p < length procs → straight_ways (slice_index_or procs p [])
        ≡ slice_index_or (map straight_ways procs) p []
    at [] p lt = absurd (omega (arith, lt))
    at (is ∷ procs) zero lt = refl
    at (is ∷ procs) (suc p) lt = at procs p (omega (arith, lt))

-- the ways of procedures that aren't too long are not too many
pub ways_short : (procs : List (List Instr)) (ws : List (Vec Way Global)) (p : ℕ) (own : Vec Way Global)
    → list_any (λ (is : List Instr). nat_lt INSTR_LIMIT (length is)) procs ≡ false
    → items_in ws ≡ map straight_ways procs → slice_get ws p ≡ Some own
    → length own.items ≤ INSTR_LIMIT
ways_short procs [] p own h e at = absurd (cc at)
ways_short [] (w ∷ ws) p own h e at = absurd (cc e)
ways_short (is ∷ procs) (w ∷ ws) zero own h e at =
    let low = ltb-false INSTR_LIMIT (length is) (or_false (nat_lt INSTR_LIMIT (length is)) _ h).0 in
    let same : w ≡ own = cc at in
    let first : w.items ≡ straight_ways is = cc e in
    let size : length w.items ≡ length is =
    ap length first ∙ length-map (straight is) way_of ∙ straight_length is in
    subst (λ (v : Vec Way Global). length v.items ≤ INSTR_LIMIT) same (omega (arith, low, size))
ways_short (is ∷ procs) (w ∷ ws) (suc p) own h e at =
    let rest : items_in ws ≡ map straight_ways procs = cc e in
    ways_short procs ws p own (or_false (nat_lt INSTR_LIMIT (length is)) _ h).1 rest at

-- those of one
pub reached_at : (procs : List (List Instr)) (flags : List (List Bool)) (p : ℕ) → EachReached procs flags
    → p < length procs → AreReached (straight (slice_index_or procs p [])) (slice_index_or flags p [])
reached_at [] flags p h lt = absurd (omega (arith, lt))
reached_at (is ∷ procs) [] p h lt = absurd h
reached_at (is ∷ procs) (bs ∷ flags) zero h lt = h.0
reached_at (is ∷ procs) (bs ∷ flags) (suc p) h lt = reached_at procs flags p h.1 (omega (arith, lt))

-- there are flags of each
pub reached_size : (procs : List (List Instr)) (flags : List (List Bool)) → EachReached procs flags
    → length flags ≡ length procs
reached_size [] [] h = refl
reached_size [] (bs ∷ flags) h = absurd h
reached_size (is ∷ procs) [] h = absurd h
reached_size (is ∷ procs) (bs ∷ flags) h = ap suc (reached_size procs flags h.1)

-- so there are flags of a procedure that is there
pub flags_there : (procs : List (List Instr)) (flags : List (Vec Bool Global)) (p : ℕ)
    → EachReached procs (items_in flags) → p < length procs → p < length flags
flags_there procs flags p h lt = omega (arith, lt, reached_size procs (items_in flags) h, items_size flags)

-- which are these
pub flags_at : (procs : List (List Instr)) (flags : List (Vec Bool Global)) (p : ℕ) (x : Vec Bool Global)
    → EachReached procs (items_in flags) → p < length procs → x ≡ get_or flags p x
    → x.items ≡ slice_index_or (items_in flags) p []
flags_at procs flags p x h lt e = items_at flags p x (flags_there procs flags p h lt) e

-- those of the first procedures, with those of the next one
pub reached_more : (procs : List (List Instr)) (flags : List (List Bool)) (p : ℕ) (bs : List Bool)
    → EachReached (take p procs) flags → p < length procs → AreReached (straight (slice_index_or procs p [])) bs
    → EachReached (take (p + 1) procs) (flags ++ bs ∷ [])
reached_more [] flags p bs h lt r = absurd (omega (arith, lt))
reached_more (is ∷ procs) [] zero bs h lt r = (r, tt)
reached_more (is ∷ procs) (fs ∷ flags) zero bs h lt r = absurd h
reached_more (is ∷ procs) [] (suc p) bs h lt r = absurd h
reached_more (is ∷ procs) (fs ∷ flags) (suc p) bs h lt r =
    let e : suc (p + 1) ≡ suc p + 1 = omega arith in
    subst (λ n. EachReached (take n (is ∷ procs)) (fs ∷ (flags ++ bs ∷ []))) e
    (h.0, reached_more procs flags p bs h.1 (omega (arith, lt)) r)

-- those of each are those of the found ones
all_reached : (live : List Bool) (procs : List (List Instr)) (flags : List (List Bool)) → EachReached procs flags
    → length live ≡ length procs → AllReached live flags procs
all_reached [] [] [] h e = tt
all_reached [] [] (bs ∷ flags) h e = absurd h
all_reached [] (is ∷ procs) flags h e = absurd (omega (arith, e))
all_reached (b ∷ live) [] flags h e = absurd (omega (arith, e))
all_reached (b ∷ live) (is ∷ procs) [] h e = absurd h
all_reached (b ∷ live) (is ∷ procs) (bs ∷ flags) h e = (λ x. h.0, all_reached live procs flags h.1 (omega (arith, e)))

-- ---- the search

-- a flag that is set is there
set_within : (bs : List Bool) (p : ℕ) → slice_index_or bs p false ≡ true → p < length bs
set_within [] p h = absurd (cc h)
set_within (b ∷ bs) zero h = omega arith
set_within (b ∷ bs) (suc p) h = omega (arith, set_within bs p h)

-- no flag of these is set
none_set : (n p : ℕ) → slice_index_or (replicate n false) p false ≡ true → ⊥
none_set zero p h = cc h
none_set (suc n) zero h = cc h
none_set (suc n) (suc p) h = none_set n p h

module _ (k : Procedures) (flags : List (List Bool)) where
  -- a procedure that is to be looked at is there
  pub popped_there : (s : Search) (rest : List ℕ) (p : ℕ) → IsSearch k flags s → s.todo.items ≡ rest ++ p ∷ []
      → p < length k.procs
  popped_there s rest p h popped =
      let last = subst (λ (l : List ℕ). IsListed l p) (sym popped) (listed_last rest p p refl) in
      omega (arith, set_within s.found.items p (h.right p last), h.size)

  -- the procedures of the start and of a reaction are found first
  pub search_start : (a b c : Search) → a.found.items ≡ replicate (length k.procs) false → a.todo.items ≡ []
      → Finds (λ q. q ≡ k.start) a b → Finds (λ q. q ≡ k.react) b c
      → IsSearch k flags c
  search_start a b c none empty f g =
      let no = λ (p : ℕ) (h : IsFound a p).
      none_set (length k.procs) p (subst (λ (l : List Bool). slice_index_or l p false ≡ true) none h) in
      let off = λ (p : ℕ) (h : IsListed a.todo.items p). subst (λ (l : List ℕ). IsListed l p) empty h in
      record {
        size = g.size ∙ f.size ∙ ap length none ∙ length-replicate (length k.procs) false;
        start = g.kept k.start (f.all k.start refl);
        react = g.all k.react refl;
        sound = λ p h.
            ⊎_elim (λ (h : IsFound b p).
            ⊎_elim (λ (h : IsFound a p). absurd (no p h))
            (λ (e : p ≡ k.start). subst (λ (n : ℕ). IsLive k n) (sym e) LiveStart) (f.only p h))
            (λ (e : p ≡ k.react). subst (λ (n : ℕ). IsLive k n) (sym e) LiveReaction) (g.only p h);
        right = λ p h.
            ⊎_elim (λ (h : IsListed b.todo.items p).
            ⊎_elim (λ (h : IsListed a.todo.items p). absurd (off p h)) (λ (h : IsFound b p). g.kept p h) (f.right p h))
            (λ (h : IsFound c p). h) (g.right p h);
        done = λ p q h n.
            ⊎_elim (λ (h : IsFound b p).
            ⊎_elim (λ (h : IsFound a p). absurd (no p h)) (λ (l : IsListed b.todo.items p). inl (g.listed p l))
            (f.fresh p h))
            (λ (l : IsListed c.todo.items p). inl l) (g.fresh p h);
      }

  -- what a reached place of a found procedure names is reached
  named_live : (p q : ℕ) → IsLive k p → AreReached (straight (instructions k p)) (slice_index_or flags p [])
      → NamedBy k flags p q → IsLive k q
  named_live p q live reached n =
      let at = straight_at (instructions k p) n.place n.instr n.there in
      LiveNamed p n.place q (threaded (folded n.instr) at.0) live (reached.sound n.place n.marked) at.1
      ((names_same n.instr q at.0).0 n.names)

  -- what its own instructions name at its own marked places
  pub looked : (p : ℕ) (xs : List declared.Instr) (bs : List Bool) (old new : Search) (r : Result (Unit {0}) Memory)
      → instrs_of xs ≡ instructions k p → bs ≡ slice_index_or flags p []
      → OnOk r (Finds (NamesBefore (length xs) (instrs_of xs) bs) old new) → OnOk r (Finds (NamedBy k flags p) old new)
  looked p xs bs old new r own own_flags h =
      let size : length xs ≡ length (instructions k p) = sym (length-map xs instr_of) ∙ ap length own in
      subst (λ fs. OnOk r (Finds (NamesBefore (length (instructions k p)) (instructions k p) fs) old new)) own_flags
      (subst (λ is. OnOk r (Finds (NamesBefore (length (instructions k p)) is bs) old new)) own
      (subst (λ n. OnOk r (Finds (NamesBefore n (instrs_of xs) bs) old new)) size h))

  module _ (each : EachReached k.procs flags) where
    -- the flags of a procedure that is there
    pub reached_of : (p : ℕ) → p < length k.procs → AreReached (straight (instructions k p)) (slice_index_or flags p [])
    unfolding instructions
    reached_of p lt = reached_at k.procs flags p each lt

    -- one procedure is looked at
    pub search_step : (s mid next : Search) (p : ℕ) → IsSearch k flags s → mid.found.items ≡ s.found.items
        → s.todo.items ≡ mid.todo.items ++ p ∷ [] → Finds (NamedBy k flags p) mid next → IsSearch k flags next
    search_step s mid next p h same popped f =
        let to = λ (q : ℕ) (g : IsFound s q). subst (λ (l : List Bool). slice_index_or l q false ≡ true) (sym same) g in
        let from = λ (q : ℕ) (g : IsFound mid q). subst (λ (l : List Bool). slice_index_or l q false ≡ true) same g in
        let last = subst (λ (l : List ℕ). IsListed l p) (sym popped) (listed_last mid.todo.items p p refl) in
        let found = h.right p last in
        let there : p < length k.procs = omega (arith, set_within s.found.items p found, h.size) in
        record {
          size = f.size ∙ ap length same ∙ h.size;
          start = f.kept k.start (to k.start h.start);
          react = f.kept k.react (to k.react h.react);
          sound = λ q g.
              ⊎_elim (λ (g : IsFound mid q). h.sound q (from q g))
              (λ (n : NamedBy k flags p q).
              named_live p q (h.sound p found) (reached_of p there) n) (f.only q g);
          right = λ q g.
              ⊎_elim (λ (l : IsListed mid.todo.items q).
              f.kept q (to q (h.right q (subst (λ (ns : List ℕ). IsListed ns q) (sym popped)
              (listed_more mid.todo.items p q l)))))
              (λ (g : IsFound next q). g) (f.right q g);
          done = λ r q g n.
              ⊎_elim (λ (g : IsFound mid r).
              ⊎_elim (λ (l : IsListed s.todo.items r).
              ⊎_elim (λ (l : IsListed mid.todo.items r). inl (f.listed r l))
              (λ (e : r ≡ p).
              inr (f.all q (subst (λ (m : ℕ). NamedBy k flags m q) e n)))
              (listed_before mid.todo.items p r (subst (λ (ns : List ℕ). IsListed ns r) popped l)))
              (λ (g : IsFound s q). inr (f.kept q (to q g))) (h.done r q (from r g) n))
              (λ (l : IsListed next.todo.items r). inl l) (f.fresh r g);
        }

    -- once none is left to look at, each reached procedure is found
    all_found : (s : Search) → IsSearch k flags s → s.todo.items ≡ [] → (p : ℕ) → IsLive k p → IsFound s p
    all_found s h empty p LiveStart = h.start
    all_found s h empty p LiveReaction = h.react
    all_found s h empty _ (LiveNamed p i q x live comes there named) =
        let found = all_found s h empty p live in
        let lt : p < length k.procs = omega (arith, set_within s.found.items p found, h.size) in
        let is = instructions k p in
        let own = straight_from is i x there in
        let place = within (straight is) i x there in
        let n : NamedBy k flags p q = record {
          place = i;
          instr = own.0;
          before = omega (arith, place, straight_length is);
          there = own.2;
          marked = (reached_of p lt).complete i place comes;
          names = (names_same own.0 q own.1).1 (subst (λ (y : Instr). Names y q) own.3 named);
        } in
        ⊎_elim (λ (l : IsListed s.todo.items p). absurd (subst (λ (ns : List ℕ). IsListed ns p) empty l))
        (λ (g : IsFound s q). g) (h.done p q found n)

    -- so the flags are exact
    pub search_end : (s : Search) → IsSearch k flags s → s.todo.items ≡ [] → IsExact s.found.items flags k
    search_end s h empty = record {
      sound = h.sound;
      complete = λ p live. all_found s h empty p live;
      places = all_reached s.found.items k.procs flags each h.size;
    }
