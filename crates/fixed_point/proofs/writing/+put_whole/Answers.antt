use Rattle.std.proofs.Common.{◌≡◌, ℕ, ◌+◌, ◌/◌, ◌%◌, ◌<◌, ◌≤◌, ◌^◌, List, length, take, decimal}
use Rattle.std.proofs.Common.{length-append, ap, sym, ◌∙◌, ◌++◌, ◌∷◌, [], append_assoc, arith, rules}
use Rattle.std.proofs.lemmas.Fmt.{decimal_step_wide, decimal_digit}
use Rattle.fixed_point.proofs.writing.+put_whole.Goals as goal

-- a digit takes a byte
length-digit : (n : ℕ) → n < 10 → length (decimal n) ≡ 1
length-digit n small = ap length (decimal_digit n small)

-- the last digit takes another
length-step : (n : ℕ) → 10 ≤ n → n < 10 ^ 64 → length (decimal n) ≡ length (decimal (n / 10)) + 1
length-step n many fits =
    ap length (decimal_step_wide n many fits) ∙ length-append (decimal (n / 10)) ((48 + n % 10) ∷ [])

pub put-requires : goal.put-requires
put-requires t c = omega (arith, length-digit c.args.number c.if-number-lt10.true)

pub returns-then-number-lt10-clause-text : goal.returns-then-number-lt10-clause-text
returns-then-number-lt10-clause-text t c =
    c.put.ensures.text
    ∙ ap (λ (ds : List ℕ). take c.args.at c.args.buf.now ++ ds) (sym (decimal_digit c.args.number c.if-number-lt10.true))

pub returns-then-number-lt10-clause-end : goal.returns-then-number-lt10-clause-end
returns-then-number-lt10-clause-end t c = omega (arith, length-digit c.args.number c.if-number-lt10.true)

pub put_whole-front_end-requires : goal.put_whole-front_end-requires
put_whole-front_end-requires t c = (search rules, omega (arith, length-step c.args.number (omega arith) (omega arith)))

pub put-requires-2 : goal.put-requires-2
put-requires-2 t c = omega (arith, length-step c.args.number (omega arith) (omega arith))

pub returns-clause-text : goal.returns-clause-text
returns-clause-text t c =
    c.put-2.ensures.text ∙ ap (λ (bs : List ℕ). bs ++ (48 + c.args.number % 10) ∷ []) c.put_whole-front_end.ensures.text
    ∙ append_assoc (take c.args.at c.args.buf.now) (decimal (c.args.number / 10)) ((48 + c.args.number % 10) ∷ [])
    ∙ ap (λ (ds : List ℕ). take c.args.at c.args.buf.now ++ ds) (sym (decimal_step_wide c.args.number (omega arith) (omega arith)))

pub returns-clause-end : goal.returns-clause-end
returns-clause-end t c = omega (arith, length-step c.args.number (omega arith) (omega arith))
