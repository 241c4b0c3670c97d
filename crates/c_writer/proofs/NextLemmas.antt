-- Where the writing of a procedure goes on after each kind of instruction.
use Rattle.std.proofs.Common.{◌≡◌, ◌≤◌, ◌<◌, ◌+◌, ℕ, Bool, true, false, List, ◌∷◌, ◌++◌, drop}
use Rattle.std.proofs.Common.{sym, ap, ◌∙◌, refl, append-nil, arith}
use Rattle.std.specs.Prelude.{◌||◌}
use Rattle.code_language.specs.Instrs.{Cond, Instr}
use Rattle.code_language.specs.Instrs as i
use Rattle.code_language.specs.WellFormed.{instr_known, instr_typed}
use Rattle.c_subset.specs.Trees as c
use Rattle.c_subset.specs.declared.trees.Line as declared_line
use Rattle.c_subset.specs.Lines.{lines_in, lines_of}
use Rattle.c_functions.specs.Statements as plan
use Rattle.c_functions.specs.Written.{test_of, straight}
use Rattle.c_functions.specs.Plans.{Shape, number, plan_c, plays}
use Rattle.c_writer.specs.Appending.{PlanAppends}
use Rattle.c_writer.specs.Fine.{IsFine, IsFineTest}
use Rattle.c_writer.specs.Parts.{StaysWithin, WritesPlan, IsNext, is_play, part}
use Rattle.c_writer.proofs.PlaceLemmas.{stays_end}
use Rattle.c_writer.proofs.PartLemmas.{IsPlain, Forks, tail, part_none, part_ret, part_skip, part_straight}
use Rattle.c_writer.proofs.LineLemmas.{straight_plays}

-- what is fine of a test is fine of its condition
pub test_fine : (K : Shape) (k : ℕ) (x : Cond) → IsFine K (i.Unless k x) → IsFineTest K x
unfolding instr_known instr_typed
test_fine K k x fine = record { known = fine.known; typed = fine.typed }

or_assoc : (a b d : Bool) → (a || (b || d)) ≡ ((a || b) || d)
or_assoc true b d = refl
or_assoc false b d = refl

or_none : (a : Bool) → (a || false) ≡ a
or_none true = refl
or_none false = refl

module _ (K : Shape) (react : ℕ) (xs : List Instr) (at to : ℕ) (lt : at < to) (stays : StaysWithin xs at to)
    (old new : List declared_line.Line) where
  -- after a return nothing is written
  pub next_ret : (r : ℕ) → drop at xs ≡ i.Ret r ∷ drop (at + 1) xs
      → lines_in new ≡ lines_in old ++ lines_of (c.Return (number r))
      → IsNext K react xs at to old new (record { place = to; plays = false })
  unfolding plan_c plays lines_of
  next_ret r here h =
      let none = part_none K react xs to to (omega arith) in
      let is = part_ret K react xs at to r lt here stays in
      record {
        after = lt;
        within = omega arith;
        stays = stays_end xs to to (omega arith);
        lines =
            ap (λ a. lines_in new ++ lines_of (plan_c K a)) none ∙ append-nil (lines_in new) ∙ h
            ∙ sym (ap (λ a. lines_in old ++ lines_of (plan_c K a)) is);
        plays_is = ap plays is ∙ sym (ap plays none);
      }

  -- after a skip it goes on where that leads
  pub next_skip : (j : ℕ) → drop at xs ≡ i.Skip j ∷ drop (at + 1) xs
      → IsNext K react xs at to old old (record { place = at + 1 + j; plays = false })
  next_skip j here =
      let on = part_skip K react xs at to j lt here stays in
      record {
        after = omega arith;
        within = on.0;
        stays = on.1;
        lines = ap (λ a. lines_in old ++ lines_of (plan_c K a)) on.2;
        plays_is = sym (ap plays on.2);
      }

  -- after an `if` it goes on where its parts end
  pub next_fork : (k : ℕ) (x : Cond) (end : ℕ) (flag : Bool) → Forks K react xs at to k x end
      → PlanAppends K old new (plan.If (test_of K.tree K.numbers x) (part K react xs (at + 1) end)
      (part K react xs (at + 1 + k) end))
      → flag ≡ (plays (part K react xs (at + 1) end) || plays (part K react xs (at + 1 + k) end))
      → IsNext K react xs at to old new (record { place = end; plays = flag })
  unfolding plays
  next_fork k x end flag f h is =
      let rest = part K react xs end to in
      record {
        after = (let first = f.first in omega (arith, first));
        within = f.within;
        stays = f.later;
        lines = h rest ∙ sym (ap (λ a. lines_in old ++ lines_of (plan_c K a)) f.is);
        plays_is =
            ap plays f.is
            ∙ or_assoc (plays (part K react xs (at + 1) end)) (plays (part K react xs (at + 1 + k) end)) (plays rest)
            ∙ sym (ap (λ b. b || plays rest) is);
      }

  -- after another instruction it goes on with the next one
  pub next_straight : (x : Instr) → drop at xs ≡ x ∷ drop (at + 1) xs → IsPlain x
      → PlanAppends K old new (straight K.tree K.numbers react x)
      → IsNext K react xs at to old new (record { place = at + 1; plays = is_play x })
  next_straight x here p h =
      let is = part_straight K react xs at to x lt here stays p in
      record {
        after = omega arith;
        within = omega arith;
        stays = (tail K react xs at to x lt here stays).1;
        lines =
            h (part K react xs (at + 1) to) ∙ sym (ap (λ a. lines_in old ++ lines_of (plan_c K a)) is);
        plays_is = ap plays is ∙ straight_plays K react x (part K react xs (at + 1) to);
      }

-- at the end all is written
pub part_written : (K : Shape) (react : ℕ) (xs : List Instr) (from at to : ℕ) (old new : List declared_line.Line)
    → to ≤ at
    → lines_in new ++ lines_of (plan_c K (part K react xs at to))
    ≡ lines_in old ++ lines_of (plan_c K (part K react xs from to))
    → WritesPlan K old new (part K react xs from to)
unfolding plan_c lines_of
part_written K react xs from at to old new le h =
    sym (append-nil (lines_in new))
    ∙ sym (ap (λ a. lines_in new ++ lines_of (plan_c K a)) (part_none K react xs at to le)) ∙ h

-- and it is told whether it plays
pub part_told : (K : Shape) (react : ℕ) (xs : List Instr) (from at to : ℕ) (flag : Bool) → to ≤ at
    → plays (part K react xs from to) ≡ (flag || plays (part K react xs at to))
    → flag ≡ plays (part K react xs from to)
unfolding plays
part_told K react xs from at to flag le h =
    sym (or_none flag) ∙ sym (ap (λ a. flag || plays a) (part_none K react xs at to le)) ∙ sym h
