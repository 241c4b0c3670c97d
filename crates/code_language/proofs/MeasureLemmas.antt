-- How heights and works are reckoned, procedure by procedure.
use Rattle.std.proofs.Common.{◌≡◌, ℕ, zero, suc, ◌+◌, ◌*◌, ◌<◌, ◌≤◌, max, List, [], ◌∷◌, ◌++◌, length, drop, get_or}
use Rattle.std.proofs.Common.{None, sym, ap, ◌∙◌, subst, arith, length-append}
use Rattle.std.specs.Prelude.{slice_index, reverse}
use Rattle.std.proofs.lemmas.List.{reverse-append, length-map}
use Rattle.code_language.specs.declared.fault.CodeKind.{CodeKind}
use Rattle.code_language.specs.declared.instr.Instr.{Instr}
use Rattle.code_language.specs.declared.limits.TheConstants.{WORK_LIMIT}
use Rattle.flow_base.specs.declared.list.List.{List as Seq}
use Rattle.flow_base.specs.Lists.{items_of}
use Rattle.code_language.specs.Acceptance.{procs_of}
use Rattle.code_language.specs.Code.{instr_of, instrs_of}
use Rattle.code_language.specs.Instrs as code
use Rattle.code_language.specs.Measures.{reckon, greatest, rise, height_by, work_from, lefts, work_by}
use Rattle.code_language.specs.WellFormed.{first_over, fault_at}
use Rattle.code_language.proofs.Greatest.{greatest_more, none_over_greatest, first_over_here}
use Rattle.code_language.proofs.ListLemmas.{drop_map_at, drop_past}
use Rattle.code_language.proofs.Reckoned.{reckon_split}

-- the height so far, with that of the instructions from one on
pub height_step : (h : ℕ → ℕ) (xs : List Instr) (i : ℕ) (x : Instr) (m : ℕ) → i < length xs → x ≡ get_or xs i x
    → max m (height_by h (drop i (instrs_of xs))) ≡ max (max m (rise h (instr_of x))) (height_by h (drop (i + 1) (instrs_of xs)))
unfolding height_by
height_step h xs i x m lt is =
    ap (λ l. max m (height_by h l)) (drop_map_at instr_of xs i x lt is) ∙ omega arith

-- the numbers of the first i procedures: the rest goes on from them, and none is over the limit
pub record Counted (F : (ℕ → ℕ) → List code.Instr
    → ℕ) (limit i so_far : ℕ) (ns : List ℕ) (ps : List (List code.Instr)) : Type 0 where
  pub rest : reckon F ns (drop i ps) ≡ reckon F [] ps
  pub most : so_far ≡ greatest ns
  pub within : greatest ns ≤ limit
  pub size : length ns ≡ i

module _ (F : (ℕ → ℕ) → List code.Instr → ℕ) (limit : ℕ) (ps : List (List code.Instr)) where
  -- one more procedure, whose number isn't over the limit
  pub counted_more : (i most h : ℕ) (ns : List ℕ) (is : List code.Instr) → Counted F limit i most ns ps
      → drop i ps ≡ is ∷ drop (i + 1) ps → h ≡ F (slice_index ns) is → h ≤ limit
      → Counted F limit (i + 1) (max most h) (ns ++ h ∷ []) ps
  unfolding reckon
  counted_more i most h ns is c e here le = record {
    rest = ap (λ n. reckon F (ns ++ n ∷ []) (drop (i + 1) ps)) here ∙ ap (reckon F ns) (sym e) ∙ c.rest;
    most = ap (λ m. max m h) c.most ∙ sym (greatest_more ns h);
    within = omega (arith, greatest_more ns h, c.within);
    size = omega (arith, length-append ns (h ∷ []), c.size);
  }

  -- one that is over the limit is the first such procedure
  pub counted_over : (kind : CodeKind) (i most h : ℕ) (ns : List ℕ) (is : List code.Instr)
      → Counted F limit i most ns ps
      → drop i ps ≡ is ∷ drop (i + 1) ps → h ≡ F (slice_index ns) is → limit < h
      → first_over limit kind 0 (reckon F [] ps) ≡ fault_at kind i 0
  counted_over kind i most h ns is c e here over =
      let at : 0 + length ns ≡ i = omega (arith, c.size) in
      let split = reckon_split F ns is (drop (i + 1) ps) in
      let all : reckon F [] ps ≡ ns ++ h ∷ split.0 =
      sym c.rest ∙ ap (reckon F ns) e ∙ split.1 ∙ ap (λ n. ns ++ n ∷ split.0) (sym here) in
      ap (first_over limit kind 0) all ∙ first_over_here limit kind 0 ns h split.0 c.within over
      ∙ ap (λ k. fault_at kind k 0) at

  -- once all are counted, these are their numbers
  pub counted_all : (i most : ℕ) (ns : List ℕ) → Counted F limit i most ns ps → length ps ≤ i → reckon F [] ps ≡ ns
  unfolding reckon
  counted_all i most ns c le = sym c.rest ∙ ap (reckon F ns) (drop_past ps i le)

  -- so the greatest is theirs
  pub counted_greatest : (i most : ℕ) (ns : List ℕ) → Counted F limit i most ns ps → length ps ≤ i
      → most ≡ greatest (reckon F [] ps)
  counted_greatest i most ns c le = c.most ∙ ap greatest (sym (counted_all i most ns c le))

  -- and none is over the limit
  pub counted_within : (kind : CodeKind) (i most : ℕ) (ns : List ℕ) → Counted F limit i most ns ps → length ps ≤ i
      → first_over limit kind 0 (reckon F [] ps) ≡ None
  counted_within kind i most ns c le =
      ap (first_over limit kind 0) (counted_all i most ns c le) ∙ none_over_greatest limit kind 0 ns c.within

-- ---- what is left of a procedure

-- what is left from each place on, from the last instruction back to a place, the last one first
pub record LeftFrom (w : ℕ → ℕ) (xs : List Instr) (place : ℕ) (ls : List ℕ) : Type 0 where
  pub left : reverse ls ≡ lefts w (drop place (instrs_of xs))
  pub bounded : (over : ℕ) → slice_index (reverse ls) over ≤ length ls * (WORK_LIMIT + 1)
  pub size : length ls + place ≡ length xs

-- after the last instruction
pub left_none : (w : ℕ → ℕ) (xs : List Instr) (place : ℕ) → place ≡ length xs → LeftFrom w xs place []
unfolding lefts
left_none w xs place e = record {
  left = sym (ap (lefts w) (drop_past (instrs_of xs) place (omega (arith, length-map xs instr_of))));
  bounded = λ over. omega arith;
  size = omega arith;
}

-- one more instruction
pub left_more : (w : ℕ → ℕ) (xs : List Instr) (place : ℕ) (x : Instr) (left : ℕ) (ls : List ℕ)
    → LeftFrom w xs (place + 1) ls → place < length xs → x ≡ get_or xs place x
    → left ≡ work_from w (instr_of x) (reverse ls) → left ≤ (length ls + 1) * (WORK_LIMIT + 1)
    → LeftFrom w xs place (ls ++ left ∷ [])
unfolding lefts
left_more w xs place x left ls h lt is here le =
    let back : reverse (ls ++ left ∷ []) ≡ left ∷ reverse ls = reverse-append ls (left ∷ []) in
    let longer : length (ls ++ left ∷ []) ≡ length ls + 1 = length-append ls (left ∷ []) in
    let rest = drop (place + 1) (instrs_of xs) in
    let mine : left ≡ work_from w (instr_of x) (lefts w rest) = here ∙ ap (work_from w (instr_of x)) h.left in
    record {
      left = back ∙ ap (λ l. left ∷ l) h.left ∙ ap (λ n. n ∷ lefts w rest) mine
          ∙ sym (ap (lefts w) (drop_map_at instr_of xs place x lt is));
      bounded = λ over. subst (λ l. slice_index l over ≤ length (ls ++ left ∷ []) * (WORK_LIMIT + 1)) (sym back)
          (at over (reverse ls) left (length ls) (length (ls ++ left ∷ [])) longer le h.bounded);
      size = omega (arith, longer, h.size);
    }
  where
    at : (over : ℕ) (rs : List ℕ) (left n m : ℕ) → m ≡ n + 1 → left ≤ (n + 1) * (WORK_LIMIT + 1)
        → ((k : ℕ) → slice_index rs k ≤ n * (WORK_LIMIT + 1)) → slice_index (left ∷ rs) over ≤ m * (WORK_LIMIT + 1)
    at zero rs left n m e le b = omega arith
    at (suc over) rs left n m e le b = omega (arith, b over)

-- where no instruction is left the height is that so far
pub height_end : (h : ℕ → ℕ) (xs : List Instr) (i m : ℕ) → length xs ≤ i
    → m ≡ max m (height_by h (drop i (instrs_of xs)))
unfolding height_by
height_end h xs i m le =
    let none : height_by h (drop i (instrs_of xs)) ≡ 0 =
    ap (height_by h) (drop_past (instrs_of xs) i (omega (arith, length-map xs instr_of))) in
    omega (arith, none)

-- where no instruction is left to go back to, what is left from the first on is the work
pub left_all : (w : ℕ → ℕ) (xs : List Instr) (place : ℕ) (ls : List ℕ) → LeftFrom w xs place ls → place ≡ 0
    → slice_index (reverse ls) 0 ≡ work_by w (instrs_of xs)
unfolding work_by
left_all w xs place ls h e = ap (λ l. slice_index l 0) (h.left ∙ ap (λ i. lefts w (drop i (instrs_of xs))) e)

-- how the procedures stand from one on
pub proc_at : (xs : List (Seq Instr)) (i : ℕ) (x : Seq Instr) → i < length xs → x ≡ get_or xs i x
    → drop i (procs_of xs) ≡ instrs_of (items_of x) ∷ drop (i + 1) (procs_of xs)
proc_at xs i x lt is = drop_map_at (λ (x : Seq Instr). instrs_of (items_of x)) xs i x lt is

-- there are as many procedures as lists
pub procs_counted : (xs : List (Seq Instr)) (i : ℕ) → length xs ≤ i → length (procs_of xs) ≤ i
procs_counted xs i le = omega (arith, length-map xs (λ (x : Seq Instr). instrs_of (items_of x)))
