-- The ways of a procedure, made from its last place on.
use Rattle.std.proofs.Common.{◌≡◌, ℕ, zero, suc, ◌+◌, ◌<◌, ◌≤◌, true, List, [], ◌∷◌, ◌++◌, length, map}
use Rattle.std.proofs.Common.{drop, get_or, reverse, refl, sym, ap, ◌∙◌, subst, arith, length-append}
use Rattle.std.specs.Prelude.{slice_index, IsOk, Ok, Err}
use Rattle.std.proofs.lemmas.Bool.{ltb-true, and_parts}
use Rattle.std.proofs.lemmas.List.{reverse-append, length-map, length-drop}
use Rattle.actions.specs.Exprs.{Expr, Lit, Flag, Read, Active, Neg, Not, Bin}
use Rattle.actions.specs.Sorts.{Scope, Sorted, sort_of, with_sort, negative_sort, not_sort, binary_sort, scope_of}
use Rattle.code_language.specs.declared.instr.Instr as declared
use Rattle.code_language.specs.declared.limits.TheConstants.{INSTR_LIMIT}
use Rattle.code_language.specs.Code.{instr_of, instrs_of}
use Rattle.code_language.specs.Instrs.{Test, Instr, Assign, Emit, Mark, Clear, Keep, Unless, Skip, Call, Visit, Send}
use Rattle.code_language.specs.Instrs.{SendTo, Play, Home, Begin, Pass, Ret}
use Rattle.code_language.specs.Sound.{IsSound, AreSound, EndsInRet}
use Rattle.code_language.specs.WellFormed.{Known, skips_within, instr_typed, cond_typed, is_plain, is_flag}
use Rattle.code_language.proofs.ListLemmas.{drop_map_at, drop_past}
use Rattle.code_shrink.specs.declared.places.Way.{Way}
use Rattle.code_shrink.specs.Follows.{goes_on}
use Rattle.code_shrink.specs.Neat.{is_closed}
use Rattle.code_shrink.specs.Slides.{over_of, slide_of, led, straight_ways, IsTyped, IsProcedure}
use Rattle.code_shrink.specs.Smaller.{folded, slide_from, slides, threaded, threads}
use Rattle.code_shrink.specs.Ways.{way_of}
use Rattle.code_shrink.proofs.InstrKinds.{Kind, Plain, Return, Tests, Jump, kind}
use Rattle.code_shrink.proofs.Sounder.{Ended, ended_rest, more_comes, slid_within}

-- ---- types of constant tests

-- what reads no datum and no state has the same sort in every scope
pub same_sort : (c d : Scope) (e : Expr) → is_closed e ≡ true → sort_of c e ≡ sort_of d e
unfolding is_closed sort_of
same_sort c d (Lit x) h = refl
same_sort c d (Flag b) h = refl
same_sort c d (Read v) h = absurd cc
same_sort c d (Active s) h = absurd cc
same_sort c d (Neg a) h = ap (λ s. with_sort s negative_sort) (same_sort c d a h)
same_sort c d (Not a) h = ap (λ s. with_sort s not_sort) (same_sort c d a h)
same_sort c d (Bin op a b) h =
    let parts = and_parts (is_closed a) (is_closed b) h in
    ap (λ s. with_sort s (λ left. with_sort (sort_of c b) (binary_sort op left))) (same_sort c d a parts.0)
    ∙ ap (λ t. with_sort (sort_of d a) (λ left. with_sort t (binary_sort op left))) (same_sort c d b parts.1)

-- a flag is a sort
flag_sort : (s : Sorted) → is_flag s ≡ true → IsOk s
flag_sort (Ok x) h = refl
flag_sort (Err x) h = absurd (cc h)

-- so a test whose types are right has a sort in every scope, where it is such
pub typed_sort : (c : Scope) (k : ℕ) (e : Expr) → IsTyped (Unless k (Test e)) → is_closed e ≡ true → IsOk (sort_of c e)
unfolding instr_typed cond_typed
typed_sort c k e h closed =
    let K = h.known in
    let flag = and_parts (is_plain e) (is_flag (sort_of (scope_of K.names) e)) h.typed in
    subst (λ (s : Sorted). IsOk s) (same_sort (scope_of K.names) c e closed)
    (flag_sort (sort_of (scope_of K.names) e) flag.1)

-- ---- ways of threaded instructions

-- how the way of a threaded instruction comes from that of the instruction, and how far it leads
record IsLed (y : Instr) : Type 0 where
  by : (later : List Way) → led (way_of y) later ≡ way_of (threaded y (map slide_of later))
  slide : (ls : List ℕ) → slide_of (way_of (threaded y ls)) ≡ slide_from y ls
  stays : goes_on y ≡ true → (ls : List ℕ) → over_of (way_of (threaded y ls)) ≡ 0

-- it is so
is_led : (y : Instr) → IsLed y
unfolding goes_on
is_led (Assign v x) = record { by = λ later. refl; slide = λ ls. refl; stays = λ g ls. refl }
is_led (Emit e) = record { by = λ later. refl; slide = λ ls. refl; stays = λ g ls. refl }
is_led (Mark s) = record { by = λ later. refl; slide = λ ls. refl; stays = λ g ls. refl }
is_led (Clear s) = record { by = λ later. refl; slide = λ ls. refl; stays = λ g ls. refl }
is_led (Keep s) = record { by = λ later. refl; slide = λ ls. refl; stays = λ g ls. refl }
is_led (Unless k c) = record { by = λ later. refl; slide = λ ls. refl; stays = λ g ls. absurd (cc g) }
is_led (Skip k) = record { by = λ later. refl; slide = λ ls. refl; stays = λ g ls. absurd (cc g) }
is_led (Call p tag) = record { by = λ later. refl; slide = λ ls. refl; stays = λ g ls. refl }
is_led (Visit p tag) = record { by = λ later. refl; slide = λ ls. refl; stays = λ g ls. refl }
is_led (Send e) = record { by = λ later. refl; slide = λ ls. refl; stays = λ g ls. refl }
is_led (SendTo e s p) = record { by = λ later. refl; slide = λ ls. refl; stays = λ g ls. refl }
is_led Play = record { by = λ later. refl; slide = λ ls. refl; stays = λ g ls. refl }
is_led (Home s) = record { by = λ later. refl; slide = λ ls. refl; stays = λ g ls. refl }
is_led Begin = record { by = λ later. refl; slide = λ ls. refl; stays = λ g ls. refl }
is_led Pass = record { by = λ later. refl; slide = λ ls. refl; stays = λ g ls. refl }
is_led (Ret r) = record { by = λ later. refl; slide = λ ls. refl; stays = λ g ls. refl }

-- how far the ways lead from each place
slides_are : (ys : List Instr) → map slide_of (map way_of (threads ys)) ≡ slides ys
slides_are [] = refl
slides_are (y ∷ ys) =
    ap (λ n. n ∷ map slide_of (map way_of (threads ys))) ((is_led y).slide (slides ys))
    ∙ ap (λ ls. slide_from y (slides ys) ∷ ls) (slides_are ys)

-- the first way comes from those after it
led_first : (y : Instr) (ys : List Instr) → led (way_of y) (map way_of (threads ys)) ≡ way_of (threaded y (slides ys))
led_first y ys =
    (is_led y).by (map way_of (threads ys)) ∙ ap (λ ls. way_of (threaded y ls)) (slides_are ys)

-- ---- how far they lead

-- a jump of sound instructions leads to one of them
over_first : (K : Known) (p : ℕ) (x y : Instr) (rest : List Instr) → Kind x y → IsSound K p (length rest + 0) x
    → Ended (x ∷ rest) → ((k : ℕ) → k < length rest → k + slice_index (slides (map folded rest)) k < length rest)
    → over_of (way_of (threaded y (slides (map folded rest)))) ≤ length rest
unfolding skips_within
over_first K p x y rest (Plain _ g) s ends later = omega (arith, (is_led x).stays g (slides (map folded rest)))
over_first K p x y rest (Return r) s ends later = omega arith
over_first K p x y rest (Tests k c) s ends later =
    let h = ltb-true k (length rest + 0) s.within in
    let h' : k < length rest = omega (arith, h) in omega (arith, later k h')
over_first K p x y rest (Jump _ k jumps costs inside no_ret) s ends later =
    let more = more_comes x rest ends no_ret in
    let h = inside (length rest + 0) (omega (arith, more)) s.within in
    let h' : k < length rest = omega (arith, h) in omega (arith, later k h')

-- the instructions from one on are sound
sound_drop : (K : Known) (p behind i : ℕ) (is : List Instr) → AreSound K p behind is → AreSound K p behind (drop i is)
sound_drop K p behind zero is h = h
sound_drop K p behind (suc i) [] h = tt
sound_drop K p behind (suc i) (x ∷ is) h = sound_drop K p behind i is h.1

-- and their last one returns
ended_drop : (i : ℕ) (is : List Instr) → Ended is → Ended (drop i is)
ended_drop zero is h = h
ended_drop (suc i) [] h = tt
ended_drop (suc i) (x ∷ is) h = ended_drop i is (ended_rest x is h)

-- the last one of a procedure does
ended_all : (is : List Instr) → EndsInRet is → Ended is
ended_all [] h = tt
ended_all (x ∷ is) h = h

-- ---- the ways of a procedure

-- the ways from a place on, the last one first
pub record WaysFrom (xs : List declared.Instr) (place : ℕ) (ws : List Way) : Type 0 where
  pub ways : reverse ws ≡ straight_ways (drop place (instrs_of xs))
  pub size : length ws + place ≡ length xs

-- after the last instruction
pub ways_none : (xs : List declared.Instr) (place : ℕ) → place ≡ length xs → WaysFrom xs place []
ways_none xs place e = record {
  ways =
      let past = drop_past (instrs_of xs) place (omega (arith, e, length-map xs instr_of)) in
      sym (ap straight_ways past);
  size = omega (arith, e);
}

-- the whole procedure
pub ways_all : (xs : List declared.Instr) (place : ℕ) (ws : List Way) → WaysFrom xs place ws → place ≡ 0
    → reverse ws ≡ straight_ways (instrs_of xs)
ways_all xs place ws h e = h.ways ∙ ap (λ i. straight_ways (drop i (instrs_of xs))) e

module _ (xs : List declared.Instr) (place : ℕ) (x : declared.Instr) (lt : place < length xs)
    (is : x ≡ get_or xs place x) where
  -- the instructions after it
  abbrev rest : List Instr
  rest = drop (place + 1) (instrs_of xs)

  -- the instructions from it on
  here : drop place (instrs_of xs) ≡ instr_of x ∷ rest
  here = drop_map_at instr_of xs place x lt is

  -- they are sound
  sound_here : (h : IsProcedure (instrs_of xs)) → AreSound h.known h.number 0 (instr_of x ∷ rest)
  sound_here h =
      subst (AreSound h.known h.number 0) here (sound_drop h.known h.number 0 place (instrs_of xs) h.sound.sound)

  -- its types are right
  pub typed_at : IsProcedure (instrs_of xs) → IsTyped (instr_of x)
  typed_at h = record { known = h.known; typed = (sound_here h).0.typed }

  -- how far its way leads
  pub led_within : (way : Way) (ws : List Way) → IsProcedure (instrs_of xs) → WaysFrom xs (place + 1) ws
      → way ≡ way_of (folded (instr_of x)) → over_of (led way (reverse ws)) ≤ INSTR_LIMIT
  led_within way ws h so_far decided =
      let y = folded (instr_of x) in
      let sound = sound_here h in
      let ends = subst Ended here (ended_drop place (instrs_of xs) (ended_all (instrs_of xs) h.sound.ends)) in
      let within = over_first h.known h.number (instr_of x) y rest (kind (instr_of x)) sound.0 ends
      (slid_within h.known h.number rest sound.1 (ended_rest (instr_of x) rest ends)) in
      let same : led way (reverse ws) ≡ way_of (threaded y (slides (map folded rest))) =
      ap (λ w. led w (reverse ws)) decided ∙ ap (λ later. led (way_of y) later) so_far.ways
      ∙ led_first y (map folded rest) in
      omega (arith, within, ap over_of same, length-drop (place + 1) (instrs_of xs), h.short)

  -- with its way
  pub ways_more : (decided way : Way) (ws : List Way) → WaysFrom xs (place + 1) ws
      → decided ≡ way_of (folded (instr_of x)) → way ≡ led decided (reverse ws) → WaysFrom xs place (ws ++ way ∷ [])
  ways_more decided way ws so_far mine led_on =
      let y = folded (instr_of x) in
      let same : way ≡ way_of (threaded y (slides (map folded rest))) =
      led_on ∙ ap (λ w. led w (reverse ws)) mine ∙ ap (λ later. led (way_of y) later) so_far.ways
      ∙ led_first y (map folded rest) in
      record {
        ways = reverse-append ws (way ∷ []) ∙ ap (λ l. way ∷ l) so_far.ways
            ∙ ap (λ w. w ∷ straight_ways rest) same ∙ sym (ap straight_ways here);
        size = omega (arith, length-append ws (way ∷ []), so_far.size);
      }
