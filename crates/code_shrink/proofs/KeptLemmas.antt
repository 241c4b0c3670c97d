-- How many places are kept, from each place on and among the next ones.
use Rattle.std.proofs.Common.{◌≡◌, ◌≤◌, ℕ, zero, suc, ◌+◌, ◌-◌, Bool, true, false, List, [], ◌∷◌, length, refl, sym}
use Rattle.std.proofs.Common.{ap, ◌∙◌, arith}
use Rattle.std.specs.Prelude.{reverse, slice_index, ◌==◌}
use Rattle.std.proofs.lemmas.List.{length-reverse}
use Rattle.code_language.specs.Instrs.{Instr, Assign, Emit, Mark, Clear, Keep, Unless, Skip, Call, Visit, Send}
use Rattle.code_language.specs.Instrs.{SendTo, Play, Home, Begin, Pass, Ret}
use Rattle.code_shrink.specs.Kept.{totals, Counts, AreCounts}
use Rattle.code_shrink.specs.Smaller.{count, is_idle}
use Rattle.code_shrink.specs.Ways.{way_of}
use Rattle.code_shrink.specs.declared.places.Way.TheVariants as ways

-- all that are kept are those among the first k and those after them
pub count_left : (bs : List Bool) (k : ℕ) → slice_index (totals bs) 0 ≡ count k bs + slice_index (totals bs) k
count_left [] zero = omega arith
count_left [] (suc k) = omega arith
count_left (b ∷ bs) zero = omega arith
count_left (true ∷ bs) (suc k) = omega (arith, count_left bs k)
count_left (false ∷ bs) (suc k) = omega (arith, count_left bs k)

-- as many totals as places
totals_length : (bs : List Bool) → length (totals bs) ≡ length bs
totals_length [] = omega arith
totals_length (b ∷ bs) = omega (arith, totals_length bs)

-- no more are kept than there are
totals_within : (bs : List Bool) → slice_index (totals bs) 0 ≤ length bs
totals_within [] = omega arith
totals_within (true ∷ bs) = omega (arith, totals_within bs)
totals_within (false ∷ bs) = omega (arith, totals_within bs)

-- fewer are kept after more places
pub past_less : (counts : List ℕ) (k : ℕ) → AreCounts counts
    → slice_index (reverse counts) k ≤ slice_index (reverse counts) 0
past_less counts k h = rw h.are (omega (arith, count_left h.kept k))

-- as many as there are counts at most
pub past_within : (counts : List ℕ) → AreCounts counts → slice_index (reverse counts) 0 ≤ length counts
past_within counts h =
    let same : length (totals h.kept) ≡ length counts = ap length (sym h.are) ∙ length-reverse counts in
    rw h.are (omega (arith, same, totals_length h.kept, totals_within h.kept))

-- the difference is how many of the next ones are kept
pub count_between : (counts : List ℕ) (kept : List Bool) (k : ℕ) → Counts kept counts
    → slice_index (reverse counts) 0 - slice_index (reverse counts) k ≡ count k kept
count_between counts kept k h = rw h (omega (arith, count_left kept k))

-- a skip that passes over something that is kept, or over nothing
pub kept_skip : (x : Instr) (over n : ℕ) (kept : List Bool) → way_of x ≡ ways.Skips over → n ≡ count over kept
    → is_idle x kept ≡ (n == 0)
kept_skip (Assign v e) over n kept w c = absurd (cc w)
kept_skip (Emit e) over n kept w c = absurd (cc w)
kept_skip (Mark s) over n kept w c = absurd (cc w)
kept_skip (Clear s) over n kept w c = absurd (cc w)
kept_skip (Keep s) over n kept w c = absurd (cc w)
kept_skip (Unless k e) over n kept w c = absurd (cc w)
kept_skip (Skip k) over n kept w c =
    let same : k ≡ over = cc w in ap (λ i. count i kept == 0) same ∙ ap (λ i. i == 0) (sym c)
kept_skip (Call p tag) over n kept w c = absurd (cc w)
kept_skip (Visit p tag) over n kept w c = absurd (cc w)
kept_skip (Send e) over n kept w c = absurd (cc w)
kept_skip (SendTo e s p) over n kept w c = absurd (cc w)
kept_skip Play over n kept w c = absurd (cc w)
kept_skip (Home s) over n kept w c = absurd (cc w)
kept_skip Begin over n kept w c = absurd (cc w)
kept_skip Pass over n kept w c = absurd (cc w)
kept_skip (Ret r) over n kept w c = absurd (cc w)

-- what has that way is no skip
pub kept_on : (x : Instr) (kept : List Bool) → way_of x ≡ ways.On → is_idle x kept ≡ false
kept_on (Assign v e) kept w = refl
kept_on (Emit e) kept w = refl
kept_on (Mark s) kept w = refl
kept_on (Clear s) kept w = refl
kept_on (Keep s) kept w = refl
kept_on (Unless k e) kept w = refl
kept_on (Skip k) kept w = absurd (cc w)
kept_on (Call p tag) kept w = refl
kept_on (Visit p tag) kept w = refl
kept_on (Send e) kept w = refl
kept_on (SendTo e s p) kept w = refl
kept_on Play kept w = refl
kept_on (Home s) kept w = refl
kept_on Begin kept w = refl
kept_on Pass kept w = refl
kept_on (Ret r) kept w = refl

-- what has that way is no skip
pub kept_returns : (x : Instr) (kept : List Bool) → way_of x ≡ ways.Returns → is_idle x kept ≡ false
kept_returns (Assign v e) kept w = refl
kept_returns (Emit e) kept w = refl
kept_returns (Mark s) kept w = refl
kept_returns (Clear s) kept w = refl
kept_returns (Keep s) kept w = refl
kept_returns (Unless k e) kept w = refl
kept_returns (Skip k) kept w = absurd (cc w)
kept_returns (Call p tag) kept w = refl
kept_returns (Visit p tag) kept w = refl
kept_returns (Send e) kept w = refl
kept_returns (SendTo e s p) kept w = refl
kept_returns Play kept w = refl
kept_returns (Home s) kept w = refl
kept_returns Begin kept w = refl
kept_returns Pass kept w = refl
kept_returns (Ret r) kept w = refl

-- nor is a test
pub kept_test : (x : Instr) (over : ℕ) (kept : List Bool) → way_of x ≡ ways.Tests over → is_idle x kept ≡ false
kept_test (Assign v e) over kept w = refl
kept_test (Emit e) over kept w = refl
kept_test (Mark s) over kept w = refl
kept_test (Clear s) over kept w = refl
kept_test (Keep s) over kept w = refl
kept_test (Unless k e) over kept w = refl
kept_test (Skip k) over kept w = absurd (cc w)
kept_test (Call p tag) over kept w = refl
kept_test (Visit p tag) over kept w = refl
kept_test (Send e) over kept w = refl
kept_test (SendTo e s p) over kept w = refl
kept_test Play over kept w = refl
kept_test (Home s) over kept w = refl
kept_test Begin over kept w = refl
kept_test Pass over kept w = refl
kept_test (Ret r) over kept w = refl
