-- Heights and works where procedures stand for others.
use Rattle.std.proofs.Common.{◌≡◌, ℕ, List, [], ◌∷◌, refl, ap, ◌∙◌}
use Rattle.std.specs.Prelude.{slice_index, max}
use Rattle.code_language.specs.Instrs.{Instr, Assign, Emit, Mark, Clear, Keep, Unless, Skip, Call, Visit, Send}
use Rattle.code_language.specs.Instrs.{SendTo, Play, Home, Begin, Pass, Ret}
use Rattle.code_language.specs.Measures.{rise, height_by, work_from, lefts, work_by}
use Rattle.code_shrink.specs.Follows.{renamed}
use Rattle.code_merging.specs.Merged.{under}

module _ (m : ℕ → ℕ) (w : ℕ → ℕ) where
  -- an instruction rises as high as by what stands for what it names
  renamed_rise : (x : Instr) → rise w (renamed m x) ≡ rise (λ q. w (m q)) x
  unfolding renamed rise
  renamed_rise (Assign v x) = refl
  renamed_rise (Emit e) = refl
  renamed_rise (Mark s) = refl
  renamed_rise (Clear s) = refl
  renamed_rise (Keep s) = refl
  renamed_rise (Unless k c) = refl
  renamed_rise (Skip k) = refl
  renamed_rise (Call q tag) = refl
  renamed_rise (Visit q tag) = refl
  renamed_rise (Send e) = refl
  renamed_rise (SendTo e s q) = refl
  renamed_rise Play = refl
  renamed_rise (Home s) = refl
  renamed_rise Begin = refl
  renamed_rise Pass = refl
  renamed_rise (Ret r) = refl

  -- so does a procedure
  pub under_height : (is : List Instr) → height_by w (under m is) ≡ height_by (λ q. w (m q)) is
  unfolding height_by
  under_height [] = refl
  under_height (x ∷ is) =
      ap (λ a. max a (height_by w (under m is))) (renamed_rise x)
      ∙ ap (λ b. max (rise (λ q. w (m q)) x) b) (under_height is)

  -- an instruction works as much
  renamed_work : (x : Instr) (ls : List ℕ) → work_from w (renamed m x) ls ≡ work_from (λ q. w (m q)) x ls
  unfolding renamed work_from
  renamed_work (Assign v x) ls = refl
  renamed_work (Emit e) ls = refl
  renamed_work (Mark s) ls = refl
  renamed_work (Clear s) ls = refl
  renamed_work (Keep s) ls = refl
  renamed_work (Unless k c) ls = refl
  renamed_work (Skip k) ls = refl
  renamed_work (Call q tag) ls = refl
  renamed_work (Visit q tag) ls = refl
  renamed_work (Send e) ls = refl
  renamed_work (SendTo e s q) ls = refl
  renamed_work Play ls = refl
  renamed_work (Home s) ls = refl
  renamed_work Begin ls = refl
  renamed_work Pass ls = refl
  renamed_work (Ret r) ls = refl

  -- as much is left from each place on
  under_lefts : (is : List Instr) → lefts w (under m is) ≡ lefts (λ q. w (m q)) is
  unfolding lefts
  under_lefts [] = refl
  under_lefts (x ∷ is) =
      ap (λ l. work_from w (renamed m x) l ∷ l) (under_lefts is)
      ∙ ap (λ n. n ∷ lefts (λ q. w (m q)) is) (renamed_work x (lefts (λ q. w (m q)) is))

  -- a procedure works as much
  pub under_work : (is : List Instr) → work_by w (under m is) ≡ work_by (λ q. w (m q)) is
  unfolding work_by
  under_work is = ap (λ l. slice_index l 0) (under_lefts is)
