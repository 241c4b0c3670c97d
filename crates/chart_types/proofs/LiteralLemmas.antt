-- The numbers and the sorts of literals.
use Rattle.std.proofs.Common.{◌≡◌, ℕ, zero, suc, ◌+◌, ◌^◌, ◌<◌, ◌≤◌, nat_lt, nat_le, Bool, true, false, cond}
use Rattle.std.proofs.Common.{Option, Some, None, Result, Ok, Err, IsOk, pos, unsigned_abs, refl, sym, ap}
use Rattle.std.proofs.Common.{subst, ⊎_elim, arith}
use Rattle.std.proofs.lemmas.Bool.{cases_lt}
use Rattle.std.proofs.lemmas.Bool.Decides.{nat_tests}
use Rattle.fixed_point.specs.declared.num.Num.{Num}
use Rattle.fixed_point.specs.declared.reading.NumFault.{NumFault}
use Rattle.fixed_point.specs.declared.rounding.TheConstants.{READ_LIMIT}
use Rattle.fixed_point.specs.declared.scale.TheConstants.{PLACES_LIMIT}
use Rattle.fixed_point.specs.Reading.{number_of, frac_of, steps_of, steps_within, signed_number}
use Rattle.fixed_point.specs.Text.{first_from}
use Rattle.actions.specs.declared.sort.ExprSort.TheVariants as gives
use Rattle.actions.specs.declared.sort.ExprFault.TheVariants as wrong
use Rattle.actions.specs.Sorts.{least_size, literal_sort, is_wide}
use Rattle.chart_tree.specs.declared.name.LitText.{LitText}
use Rattle.resolved_tree.specs.Plain.{number_read}
use Rattle.resolved_tree.specs.Promise.{IsLiteral}

-- ---- numbers

-- where a number is read without a sign, one is read of either sign
read_signed : (negative : Bool) (units places : ℕ) (frac : Option ℕ) (n : Num)
    → number_of false units places frac ≡ Ok n → IsOk (number_of negative units places frac)
read_signed negative units places None n e = absurd cc
read_signed negative units places (Some frac) n e = of_steps (steps_within units places frac) e
  where
    of_steps : (steps : Option ℕ) → signed_number false frac steps ≡ Ok n → IsOk (signed_number negative frac steps)
    of_steps None f = absurd cc
    of_steps (Some steps) f = refl

-- no fault is read of a literal that denotes a number
pub no_fault_read : (negative : Bool) (lit : LitText) (fault : NumFault) → IsLiteral lit
    → Err fault ≡ number_read negative lit → ⊥
no_fault_read negative lit fault h e =
    let ok : false ≡ true =
    subst (λ (r : Result Num NumFault). IsOk r) (sym e)
    (read_signed negative lit.units lit.places (frac_of lit.q lit.units lit.places) h.number h.denoted) in
    absurd cc

-- a number that was read without a sign has a mantissa below the limit
pub read_small : (units places : ℕ) (o : Option ℕ) (n : Num) → number_of false units places o ≡ Ok n
    → (m : ℕ) × (n.mantissa ≡ pos m) × (m < READ_LIMIT)
read_small units places None n e = absurd cc
read_small units places (Some frac) n e = at (nat_lt steps READ_LIMIT) refl e
  where
    steps : ℕ
    steps = steps_of units places frac

    at : (b : Bool) → nat_lt steps READ_LIMIT ≡ b → signed_number false frac (cond b (Some steps) None) ≡ Ok n
        → (m : ℕ) × (n.mantissa ≡ pos m) × (m < READ_LIMIT)
    at true is f =
        let same : record { mantissa = pos steps; frac = frac } ≡ n = cc in
        (steps, sym (ap (λ (x : Num). x.mantissa) same), grind (arith, nat_tests))
    at false is f = absurd cc

-- ---- sorts

-- the first number that passes is at most one that passes
first_from_at_most : (test : ℕ → Bool) (k n j : ℕ) → k ≤ j → j < k + n → test j ≡ true → first_from test k n ≤ j
unfolding first_from
first_from_at_most test k zero j low high passes = absurd (omega arith)
first_from_at_most test k (suc n) j low high passes =
    at (test k) refl (λ later. first_from_at_most test (k + 1) n j later (omega arith) passes)
  where
    at : (b : Bool) → test k ≡ b → (k + 1 ≤ j → first_from test (k + 1) n ≤ j)
        → cond b k (first_from test (k + 1) n) ≤ j
    at true is rest = low
    at false is rest = ⊎_elim (λ lt. rest (omega (arith, lt)))
        (λ ge. let same : k ≡ j = omega (arith, ge, low) in absurd cc) (cases_lt k j)

-- a number below 2 ^ 99 has a size of at most 99
pub least_size_small : (n : ℕ) → n < 2 ^ 99 → least_size n ≤ 99
least_size_small n small =
    let fits : nat_le n (2 ^ 99) ≡ true = grind (arith, nat_tests) in
    first_from_at_most (λ size. nat_le n (2 ^ size)) 0 128 99 (omega arith) (omega arith) fits

-- a number of few bits has a sort
pub number_sorted : (n : Num) → unsigned_abs n.mantissa < READ_LIMIT → n.frac ≤ PLACES_LIMIT
    → literal_sort n ≡ Ok (gives.Number n.frac (least_size (unsigned_abs n.mantissa)))
number_sorted n small short =
    let size = least_size (unsigned_abs n.mantissa) in
    let few : size ≤ 99 = least_size_small (unsigned_abs n.mantissa) small in
    let narrow : is_wide n.frac size ≡ false = grind (arith, nat_tests) in
    ap (λ (b : Bool). cond b (Err wrong.Wide) (Ok (gives.Number n.frac size))) narrow
