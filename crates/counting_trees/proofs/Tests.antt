-- The tests of counters.
use Rattle.std.proofs.Common.{◌≡◌, ℕ, ◌+◌, ◌*◌, ◌/◌, ◌%◌, ◌^◌, ◌==◌, ◌<◌, true, false, Some, None}
use Rattle.std.proofs.Common.{nat_lt, pos, ap, ◌∙◌, arith}
use Rattle.std.specs.Prelude.{if◌then◌else◌}
use Rattle.token_grammar.specs.declared.token.Span.{Span}
use Rattle.fixed_point.specs.declared.num.Num.{Num}
use Rattle.fixed_point.specs.declared.rounding.TheConstants.{READ_LIMIT}
use Rattle.fixed_point.specs.Text.{first_from}
use Rattle.fixed_point.specs.Reading.{is_exact, number_of, signed_number}
use Rattle.actions.specs.declared.expr.Op.TheVariants as ops
use Rattle.actions.specs.Exprs as plain
use Rattle.chart_places.specs.Scopes.{scopes_of}
use Rattle.resolved_tree.specs.Plain.{signed_literal, plain_expr, number_or_zero}
use Rattle.chart_scope.specs.Uses.{resolved_expr}
use Rattle.counting_rules.specs.Numbers.{has_counted}
use Rattle.chart_tree.specs.Trees as trees
use Rattle.counting_trees.specs.Counters.{Counter, number, after_test}
use Rattle.counting_trees.specs.Numbers.{counter_number}

is_whole_at : (t : ℕ) → is_exact t 0 0 ≡ true
is_whole_at t = (let e : t * 1 % 1 ≡ 0 = omega arith in ap (λ n. n == 0) e)

steps_are : (t : ℕ) → t * 2 ^ 0 / 10 ^ 0 ≡ t
steps_are t = (let e : t * 1 / 1 ≡ t = omega arith in e)

-- a whole number as it is written
literal_is : (t : ℕ) → nat_lt t READ_LIMIT ≡ true
    → signed_literal false (number t) ≡ record { mantissa = pos t; frac = 0 }
unfolding signed_literal first_from
literal_is t small =
    ap (λ b. number_or_zero (number_of false t 0
    (let frac = (if b then 0 else first_from (is_exact t 0) (0 + 1) 32) in if nat_lt frac 33 then Some frac else None)))
    (is_whole_at t)
    ∙ ap (λ n. number_or_zero (signed_number false 0 (if nat_lt n READ_LIMIT then Some n else None))) (steps_are t)
    ∙ ap (λ b. number_or_zero (signed_number false 0 (if b then Some t else None))) small

pub after_is : (t : trees.Chart) (k : Counter) (n s : ℕ) (at place : Span) → nat_lt n READ_LIMIT ≡ true
    → plain_expr (resolved_expr (scopes_of t) s (after_test k (trees.Lit (number n) place) at))
    ≡ has_counted (counter_number t k) n
after_is t k n s at place small =
    ap (λ (m : Num). plain.Bin ops.Ge (plain.Read (counter_number t k)) (plain.Lit m)) (literal_is n small)

pub less_test : (a b : ℕ) → a < b → nat_lt a b ≡ true
less_test a b lt = grind arith
