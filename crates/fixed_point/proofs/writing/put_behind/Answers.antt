use Rattle.std.proofs.Common.{◌≡◌, ℕ, ◌+◌, ◌-◌, ◌*◌, ◌/◌, ◌^◌, List, [], ◌∷◌, ◌++◌}
use Rattle.std.proofs.Common.{take, length, sym, ap, ◌∙◌, append_assoc, arith}
use Rattle.std.proofs.lemmas.List.{append-nil}
use Rattle.fixed_point.specs.Text.{last_digits, fraction_digits}
use Rattle.fixed_point.proofs.Digits.{Divides-none, Divides-more, digits_more, digits_all}
use Rattle.fixed_point.proofs.Digits.{last_digits-none, length-last_digits, more_places}
use Rattle.fixed_point.proofs.writing.put_behind.Goals as goal

pub loop-rest-init : goal.loop-rest-init
loop-rest-init c =
    let none : c.args.at - c.args.at ≡ 0 = omega arith in
    record {
      started = omega arith;
      divided = rw (none, c.unsigned_power-one.ensures) (Divides-none c.args.number c.args.frac);
      text = rw (none, last_digits-none) (sym (append-nil (take c.args.at c.args.buf.now)));
    }

pub loop-rest-smaller : goal.loop-rest-smaller
loop-rest-smaller c =
    let more = more_places _ _ _ _ c.loop-rest.invariant.divided c.loop-rest-test.true in
    omega arith

pub loop-rest-preserved : goal.loop-rest-preserved
loop-rest-preserved c =
    let k = c.loop-rest.end - c.args.at in
    let so_far = c.loop-rest.invariant in
    let next : c.put-end.result - c.args.at ≡ k + 1 = omega (arith, so_far.started) in
    record {
      started = omega arith;
      divided =
          rw (next, c.unsigned_power-one.ensures)
          (Divides-more c.args.number c.args.frac k c.loop-rest.rest so_far.divided c.loop-rest-test.true);
      text = rw next (c.put-end.ensures.text
          ∙ ap (λ (bs : List ℕ). bs ++ (48 + c.loop-rest.rest * 10 / c.unsigned_power-one.result) ∷ []) so_far.text
          ∙ append_assoc (take c.args.at c.args.buf.now) (last_digits k (c.args.number * 10 ^ k / 2 ^ c.args.frac)) ((48 + c.loop-rest.rest * 10 / c.unsigned_power-one.result) ∷ [])
          ∙ ap (λ (s : ℕ). take c.args.at c.args.buf.now ++ (last_digits k (c.args.number * 10 ^ k / 2 ^ c.args.frac) ++ (48 + c.loop-rest.rest * 10 / s) ∷ [])) c.unsigned_power-one.ensures
          ∙ ap (λ (ds : List ℕ). take c.args.at c.args.buf.now ++ ds) (digits_more c.args.number c.args.frac k c.loop-rest.rest so_far.divided));
    }

pub returns-clause-text : goal.returns-clause-text
returns-clause-text c =
    c.loop-rest.invariant.text ∙ ap (λ (ds : List ℕ). take c.args.at c.args.buf.now ++ ds)
    (digits_all c.args.number c.args.frac (c.loop-rest.end - c.args.at) c.loop-rest.rest c.loop-rest.invariant.divided c.loop-rest-test.false)

pub returns-clause-end : goal.returns-clause-end
returns-clause-end c =
    let k = c.loop-rest.end - c.args.at in
    let all =
    digits_all c.args.number c.args.frac k c.loop-rest.rest c.loop-rest.invariant.divided c.loop-rest-test.false in
    let size : k ≡ length (fraction_digits c.args.number c.args.frac) =
    sym (length-last_digits k (c.args.number * 10 ^ k / 2 ^ c.args.frac)) ∙ ap length all in
    omega (arith, c.loop-rest.invariant.started)
