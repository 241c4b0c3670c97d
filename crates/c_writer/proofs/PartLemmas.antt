-- What is written of the parts of a procedure.
use Rattle.std.proofs.Common.{◌≡◌, ◌≤◌, ◌<◌, ◌+◌, ◌-◌, ℕ, suc, Bool, true, false, List, ◌∷◌, drop}
use Rattle.std.proofs.Common.{sym, ap, ◌∙◌, refl, arith}
use Rattle.std.specs.Prelude.{if◌then◌else◌}
use Rattle.std.proofs.lemmas.List.{drop-drop}
use Rattle.code_language.specs.Instrs.{Cond, Instr}
use Rattle.code_language.specs.Instrs as i
use Rattle.c_functions.specs.Statements.{Block}
use Rattle.c_functions.specs.Statements as plan
use Rattle.c_functions.specs.Written.{test_of, straight}
use Rattle.c_functions.specs.Writer.{jump_of, stays_within, join_of, fork_at, write_one, write}
use Rattle.c_functions.proofs.WriterLemmas.{stays_rest, stays_drop, join_within, join_after, write_enough}
use Rattle.c_functions.specs.Plans.{Shape}
use Rattle.c_writer.specs.Parts.{StaysWithin, fork_end, part}
use Rattle.c_writer.proofs.PlaceLemmas.{stays_end}

-- an instruction that neither jumps nor returns
abbrev pub IsPlain : Instr → Type 0
IsPlain (i.Assign v x) = Unit {0}
IsPlain (i.Emit e) = Unit {0}
IsPlain (i.Mark s) = Unit {0}
IsPlain (i.Clear s) = Unit {0}
IsPlain (i.Keep s) = Unit {0}
IsPlain (i.Unless k x) = ⊥
IsPlain (i.Skip j) = ⊥
IsPlain (i.Call p tag) = Unit {0}
IsPlain (i.Visit p tag) = Unit {0}
IsPlain (i.Send e) = Unit {0}
IsPlain (i.SendTo e s p) = Unit {0}
IsPlain i.Play = Unit {0}
IsPlain (i.Home s) = Unit {0}
IsPlain i.Begin = Unit {0}
IsPlain i.Pass = Unit {0}
IsPlain (i.Ret r) = ⊥

-- those after the first k stay where all stay
pub stays_later : (xs : List Instr) (from k to : ℕ) → from + k ≤ to → StaysWithin xs from to
    → StaysWithin xs (from + k) to
stays_later xs from k to le stays =
    let count : to - (from + k) ≡ to - from - k = omega arith in
    ap (λ n. stays_within n (drop (from + k) xs)) count
    ∙ ap (stays_within (to - from - k)) (sym (drop-drop k from xs))
    ∙ stays_drop k (to - from) (drop from xs) (omega arith) stays

module _ (K : Shape) (react : ℕ) (xs : List Instr) where
  -- of no instructions nothing is written
  pub part_none : (from to : ℕ) → to ≤ from → part K react xs from to ≡ plan.End
  unfolding part
  part_none from to le =
      let none : to - from ≡ 0 = omega arith in
      ap (λ m. write K.tree K.numbers react m m (drop from xs)) none

  -- what is written with more fuel of the instructions between two places
  inner : (rest m k j : ℕ) → k ≤ j → j ≤ m → stays_within j (drop rest xs) ≡ true
      → write K.tree K.numbers react m (j - k) (drop k (drop rest xs)) ≡ part K react xs (rest + k) (rest + j)
  unfolding part
  inner rest m k j le within stays =
      let count : rest + j - (rest + k) ≡ j - k = omega arith in
      write_enough K.tree K.numbers react m (j - k) (j - k) (drop k (drop rest xs)) (omega arith) (omega arith)
      (stays_drop k j (drop rest xs) le stays)
      ∙ ap (write K.tree K.numbers react (j - k) (j - k)) (drop-drop k rest xs)
      ∙ sym (ap (λ n. write K.tree K.numbers react n n (drop (rest + k) xs)) count)

  -- and of those from the first one on
  inner_first : (rest m j : ℕ) → j ≤ m → stays_within j (drop rest xs) ≡ true
      → write K.tree K.numbers react m j (drop rest xs) ≡ part K react xs rest (rest + j)
  unfolding part
  inner_first rest m j within stays =
      let count : rest + j - rest ≡ j = omega arith in
      write_enough K.tree K.numbers react m j j (drop rest xs) (omega arith) (omega arith) stays
      ∙ sym (ap (λ n. write K.tree K.numbers react n n (drop rest xs)) count)

  module _ (from to : ℕ) (x : Instr) (lt : from < to) (at : drop from xs ≡ x ∷ drop (from + 1) xs)
      (stays : StaysWithin xs from to) where
    -- the first one stays, and so do the others
    pub tail : (jump_of x ≤ to - (from + 1)) × StaysWithin xs (from + 1) to
    tail =
        let count : to - from ≡ suc (to - (from + 1)) = omega arith in
        stays_rest (to - (from + 1)) x (drop (from + 1) xs)
        (sym (ap (λ n. stays_within n (x ∷ drop (from + 1) xs)) count) ∙ sym (ap (stays_within (to - from)) at) ∙ stays)

    head : part K react xs from to
        ≡ write_one K.tree K.numbers react (write K.tree K.numbers react (to - (from + 1))) (to - (from + 1)) x
        (drop (from + 1) xs)
    unfolding part
    head =
        let count : to - from ≡ suc (to - (from + 1)) = omega arith in
        ap (write K.tree K.numbers react (to - from) (to - from)) at
        ∙ ap (λ n. write K.tree K.numbers react n n (x ∷ drop (from + 1) xs)) count

  -- a return
  pub part_ret : (from to r : ℕ) → from < to → drop from xs ≡ i.Ret r ∷ drop (from + 1) xs → StaysWithin xs from to
      → part K react xs from to ≡ plan.Return r
  part_ret from to r lt at stays = head from to (i.Ret r) lt at stays

  -- a skip
  pub part_skip : (from to j : ℕ) → from < to → drop from xs ≡ i.Skip j ∷ drop (from + 1) xs
      → StaysWithin xs from to → (from + 1 + j ≤ to) × StaysWithin xs (from + 1 + j) to
      × (part K react xs (from + 1 + j) to ≡ part K react xs from to)
  part_skip from to j lt at stays =
      let t = tail from to (i.Skip j) lt at stays in
      let jump : j ≤ to - (from + 1) = t.0 in
      let last : from + 1 + (to - (from + 1)) ≡ to = omega arith in (
        omega arith,
        stays_later xs (from + 1) j to (omega arith) t.1,
        sym (head from to (i.Skip j) lt at stays
            ∙ inner (from + 1) (to - (from + 1)) j (to - (from + 1)) jump (omega arith) t.1
            ∙ ap (part K react xs (from + 1 + j)) last),
      )

  -- an instruction before what follows it
  pub part_straight : (from to : ℕ) (x : Instr) → from < to → drop from xs ≡ x ∷ drop (from + 1) xs
      → StaysWithin xs from to → IsPlain x
      → part K react xs from to ≡ straight K.tree K.numbers react x (part K react xs (from + 1) to)
  unfolding part
  part_straight from to (i.Assign v x) lt at stays p = head from to (i.Assign v x) lt at stays
  part_straight from to (i.Emit e) lt at stays p = head from to (i.Emit e) lt at stays
  part_straight from to (i.Mark s) lt at stays p = head from to (i.Mark s) lt at stays
  part_straight from to (i.Clear s) lt at stays p = head from to (i.Clear s) lt at stays
  part_straight from to (i.Keep s) lt at stays p = head from to (i.Keep s) lt at stays
  part_straight from to (i.Unless k x) lt at stays p = absurd p
  part_straight from to (i.Skip j) lt at stays p = absurd p
  part_straight from to (i.Call q tag) lt at stays p = head from to (i.Call q tag) lt at stays
  part_straight from to (i.Visit q tag) lt at stays p = head from to (i.Visit q tag) lt at stays
  part_straight from to (i.Send e) lt at stays p = head from to (i.Send e) lt at stays
  part_straight from to (i.SendTo e s q) lt at stays p = head from to (i.SendTo e s q) lt at stays
  part_straight from to i.Play lt at stays p = head from to i.Play lt at stays
  part_straight from to (i.Home s) lt at stays p = head from to (i.Home s) lt at stays
  part_straight from to i.Begin lt at stays p = head from to i.Begin lt at stays
  part_straight from to i.Pass lt at stays p = head from to i.Pass lt at stays
  part_straight from to (i.Ret r) lt at stays p = absurd p

  -- an `unless` over k instructions whose parts end at a place
  pub record Forks (from to k : ℕ) (x : Cond) (end : ℕ) : Type 0 where
    pub first : from + 1 + k ≤ end
    pub within : end ≤ to
    pub stays : StaysWithin xs (from + 1) end
    pub later : StaysWithin xs end to
    pub is : part K react xs from to ≡ plan.If (test_of K.tree K.numbers x) (part K react xs (from + 1) end)
        (part K react xs (from + 1 + k) end) (part K react xs end to)

  module _ (from to k : ℕ) (x : Cond) (lt : from < to) (at : drop from xs ≡ i.Unless k x ∷ drop (from + 1) xs)
      (stays : StaysWithin xs from to) where
    forks_by : (b : Bool) → stays_within (join_of k (drop (from + 1) xs)) (drop (from + 1) xs) ≡ b
        → Forks from to k x (if b then from + 1 + join_of k (drop (from + 1) xs) else to)
    forks_by true stay =
        let rest = drop (from + 1) xs in
        let m = to - (from + 1) in
        let j = join_of k rest in
        let t = tail from to (i.Unless k x) lt at stays in
        let jump : k ≤ m = t.0 in
        let within : j ≤ m = join_within k m rest jump t.1 in
        let after : k ≤ j = join_after k rest in
        let last : from + 1 + m ≡ to = omega arith in
        let count : from + 1 + j - (from + 1) ≡ j = omega arith in
        let T = test_of K.tree K.numbers x in
        let more = write K.tree K.numbers react m in
        let one = inner_first (from + 1) m j within stay in
        let two = inner (from + 1) m k j after within stay in
        let three = inner (from + 1) m j m within (omega arith) t.1 ∙ ap (part K react xs (from + 1 + j)) last in
        record {
          first = omega arith;
          within = omega arith;
          stays = ap (λ n. stays_within n rest) count ∙ stay;
          later = stays_later xs (from + 1) j to (omega arith) t.1;
          is =
              head from to (i.Unless k x) lt at stays ∙ ap (fork_at K.tree K.numbers react more m k x rest j) stay
              ∙ ap (λ a. plan.If T a (more (j - k) (drop k rest)) (more (m - j) (drop j rest))) one
              ∙ ap (λ b. plan.If T (part K react xs (from + 1) (from + 1 + j)) b (more (m - j) (drop j rest))) two
              ∙ ap (λ d. plan.If T (part K react xs (from + 1) (from + 1 + j))
              (part K react xs (from + 1 + k) (from + 1 + j)) d) three;
        }
    forks_by false stay =
        let rest = drop (from + 1) xs in
        let m = to - (from + 1) in
        let t = tail from to (i.Unless k x) lt at stays in
        let jump : k ≤ m = t.0 in
        let last : from + 1 + m ≡ to = omega arith in
        let T = test_of K.tree K.numbers x in
        let more = write K.tree K.numbers react m in
        let one = inner_first (from + 1) m m (omega arith) t.1 ∙ ap (part K react xs (from + 1)) last in
        let two = inner (from + 1) m k m jump (omega arith) t.1 ∙ ap (part K react xs (from + 1 + k)) last in
        record {
          first = omega arith;
          within = omega arith;
          stays = t.1;
          later = stays_end xs to to (omega arith);
          is =
              head from to (i.Unless k x) lt at stays
              ∙ ap (fork_at K.tree K.numbers react more m k x rest (join_of k rest)) stay
              ∙ ap (λ a. plan.If T a (more (m - k) (drop k rest)) plan.End) one
              ∙ ap (λ b. plan.If T (part K react xs (from + 1) to) b plan.End) two
              ∙ ap (plan.If T (part K react xs (from + 1) to) (part K react xs (from + 1 + k) to))
              (sym (part_none to to (omega arith)));
        }

    -- its parts end at the place that is looked for
    pub forks : Forks from to k x (fork_end xs (from + 1) k to)
    forks = forks_by (stays_within (join_of k (drop (from + 1) xs)) (drop (from + 1) xs)) refl
