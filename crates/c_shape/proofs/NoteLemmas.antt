-- The numbers of the flags of noted procedures, and how many notes there is room for.
use Rattle.std.proofs.Common.{◌≡◌, ℕ, zero, suc, ◌+◌, ◌*◌, ◌<◌, ◌≤◌, ◌==◌, Bool, true, false, cond, List, [], ◌∷◌}
use Rattle.std.proofs.Common.{◌++◌, length, get_or, take, append-nil, refl, ap, sym, ◌∙◌, arith}
use Rattle.std.proofs.lemmas.Bool.Decides.{nat_tests}
use Rattle.std.proofs.lemmas.List.{take_all, length-map}
use Rattle.std.specs.Prelude.{filter}
use Rattle.std.specs.List.{range_with_len}
use Rattle.flow_base.specs.Lists.{items_of}
use Rattle.flow_base.specs.declared.list.List.{List as Kept}
use Rattle.active_config.proofs.RangeLemmas.{filter-range_more}
use Rattle.code_language.specs.Code.{instrs_of}
use Rattle.code_language.specs.declared.instr.Instr.{Instr}
use Rattle.c_functions.specs.Files.{note_room}
use Rattle.c_functions.specs.Notes.{is_noted, noted_in}
use Rattle.c_shape.specs.Parts.{procs_seen}

-- the numbers of the flags with one flag more
pub numbers_more : (flags : List Bool) (i : ℕ)
    → filter (λ b. get_or flags b false) (range_with_len 0 (i + 1))
    ≡ filter (λ b. get_or flags b false) (range_with_len 0 i) ++ cond (get_or flags i false) (i ∷ []) []
numbers_more flags i =
    let on : i + 1 ≡ suc i = omega arith in let z : 0 + i ≡ i = omega arith in
    ap (λ n. filter (λ b. get_or flags b false) (range_with_len 0 n)) on
    ∙ filter-range_more (λ b. get_or flags b false) 0 i
    ∙ ap (λ m. filter (λ b. get_or flags b false) (range_with_len 0 i) ++ cond (get_or flags m false) (m ∷ []) []) z

-- a filter by the same test
same_filter : (p q : ℕ → Bool) (a n : ℕ) → ((b : ℕ) → a ≤ b → b < a + n → p b ≡ q b)
    → filter p (range_with_len a n) ≡ filter q (range_with_len a n)
same_filter p q a zero h = refl
same_filter p q a (suc n) h =
    ap (λ z. cond z (a ∷ filter p (range_with_len (a + 1) n)) (filter p (range_with_len (a + 1) n)))
    (h a (omega arith) (omega arith))
    ∙ ap (λ l. cond (q a) (a ∷ l) l)
    (same_filter p q (a + 1) n (λ b low high. h b (omega (arith, low)) (omega (arith, high))))

-- where each flag tells whether its procedure is noted, the numbers are those of the noted procedures
pub all_noted : (xs : List (Kept Instr)) (i : ℕ) (flags : List Bool) → length xs ≤ i → length flags ≡ length xs
    → ((b : ℕ) → b < length flags → get_or flags b false ≡ is_noted (procs_seen (take i xs)) b)
    → filter (λ b. get_or flags b false) (range_with_len 0 (length flags)) ≡ noted_in (procs_seen xs)
unfolding noted_in
all_noted xs i flags all size h =
    let many : length (procs_seen xs) ≡ length xs = length-map xs (λ (z : Kept Instr). instrs_of (items_of z)) in
    same_filter (λ b. get_or flags b false) (λ b. is_noted (procs_seen xs) b) 0 (length flags)
    (λ b low high. h b (omega (arith, high)) ∙ ap (λ (l : List (Kept Instr)). is_noted (procs_seen l) b)
    (take_all i xs all))
    ∙ ap (λ n. filter (λ b. is_noted (procs_seen xs) b) (range_with_len 0 n)) (size ∙ sym many)

-- the numbers of the flags, where those flags are these
pub noted_result : (xs : List (Kept Instr)) (i : ℕ) (flags same : List Bool) (numbers : List ℕ) → length xs ≤ i
    → length flags ≡ length xs
    → ((b : ℕ) → b < length flags → get_or flags b false ≡ is_noted (procs_seen (take i xs)) b) → same ≡ flags
    → numbers ≡ filter (λ b. get_or same b false) (range_with_len 0 (length same)) → numbers ≡ noted_in (procs_seen xs)
noted_result xs i flags same numbers all size h e is =
    is ∙ ap (λ (l : List Bool). filter (λ b. get_or l b false) (range_with_len 0 (length l))) e
    ∙ all_noted xs i flags all size h

-- a flag that is set gives its number
pub numbers_put : (flags : List Bool) (i : ℕ) (old new : List ℕ) → get_or flags i false ≡ true
    → old ≡ filter (λ b. get_or flags b false) (range_with_len 0 i) → new ≡ old ++ i ∷ []
    → new ≡ filter (λ b. get_or flags b false) (range_with_len 0 (i + 1))
numbers_put flags i old new is so_far e =
    e ∙ ap (λ l. l ++ i ∷ []) so_far
    ∙ ap (λ z. filter (λ b. get_or flags b false) (range_with_len 0 i) ++ cond z (i ∷ []) []) (sym is)
    ∙ sym (numbers_more flags i)

-- a flag that is not set gives none
pub numbers_left : (flags : List Bool) (i : ℕ) (old new : List ℕ) → get_or flags i false ≡ false
    → old ≡ filter (λ b. get_or flags b false) (range_with_len 0 i) → new ≡ old
    → new ≡ filter (λ b. get_or flags b false) (range_with_len 0 (i + 1))
numbers_left flags i old new is so_far e =
    e ∙ so_far ∙ sym (append-nil (filter (λ b. get_or flags b false) (range_with_len 0 i)))
    ∙ ap (λ z. filter (λ b. get_or flags b false) (range_with_len 0 i) ++ cond z (i ∷ []) []) (sym is)
    ∙ sym (numbers_more flags i)

zero_test : (n : ℕ) → (n == 0) ≡ true → n ≡ 0
zero_test n h = grind (arith, nat_tests)

-- where nothing is noted there is one entry
pub room_of_none : (noted : List ℕ) (height steps : ℕ) → (length noted == 0) ≡ true → 1 ≡ note_room noted height steps
room_of_none [] height steps none = refl
room_of_none (q ∷ noted) height steps none =
    let zero_is : suc (length noted) ≡ 0 = zero_test (suc (length noted)) none in absurd (omega (arith, zero_is))

-- where something is noted there is room for a chain of calls for an event and for each of its steps
pub room_of_some : (noted : List ℕ) (height steps : ℕ) → (length noted == 0) ≡ false
    → (steps + 1) * (height + 1) ≡ note_room noted height steps
room_of_some [] height steps some = absurd cc
room_of_some (q ∷ noted) height steps some = refl
