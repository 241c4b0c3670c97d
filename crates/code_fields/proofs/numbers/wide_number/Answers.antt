use Rattle.std.proofs.Common.{◌≡◌, ◌^◌, sym, ap, ◌∙◌, subst, arith}
use Rattle.std.specs.Str.{IsAscii}
use Rattle.std.specs.Fmt.{decimal}
use Rattle.std.proofs.lemmas.Bool.{false≢true}
use Rattle.std.proofs.lemmas.Slice.Eq.{bytes_eq-Decides}
use Rattle.std.proofs.lemmas.Str.{IsUtf8-from_ascii}
use Rattle.std.proofs.lemmas.Fmt.{IsAscii-decimal_wide, parse-decimal_wide}
use Rattle.code_fields.proofs.NumberLemmas.{numeral-none, numeral-decimal}
use Rattle.code_fields.proofs.numbers.wide_number.Goals as goal

pub returns-in_default : goal.returns-in_default
returns-in_default c =
    numeral-none (2 ^ 128) c.args.token.now (omega arith) (λ v lt e. c.in_default.ensures.cases.0 (IsUtf8-from_ascii c.args.token.now (subst IsAscii (sym e) (IsAscii-decimal_wide v (omega arith)))))

pub returns-in_default-parse : goal.returns-in_default-parse
returns-in_default-parse c =
    numeral-none (2 ^ 128) c.args.token.now (omega arith) (λ v lt e.
    let got = parse-decimal_wide 128 v c.in-Ok.digits.now c.parse.result lt (omega arith) (c.in-Ok.ensures.cases.0 ∙ e) c.parse.ensures.value.0 in
    c.in_default-parse.not-Ok v got)

pub returns-then-eq : goal.returns-then-eq
returns-then-eq c =
    let same : decimal c.in-Ok-parse.number ≡ c.args.token.now =
    sym c.format.ensures.text
    ∙ (sym c.as_bytes.ensures.value ∙ (bytes_eq-Decides c.as_bytes.result.now c.args.token.now).0 (sym c.if-eq.ensures)) in
    rw (← same) (sym (numeral-decimal (2 ^ 128) c.in-Ok-parse.number (omega arith) (omega arith)))

pub returns-else-eq : goal.returns-else-eq
returns-else-eq c =
    numeral-none (2 ^ 128) c.args.token.now (omega arith) (λ v lt e.
    let got = parse-decimal_wide 128 v c.in-Ok.digits.now c.parse.result lt (omega arith) (c.in-Ok.ensures.cases.0 ∙ e) c.parse.ensures.value.0 in
    let same : c.in-Ok-parse.number ≡ v = cc in
    let text : c.as_bytes.result.now ≡ c.args.token.now = c.as_bytes.ensures.value
    ∙ (c.format.ensures.text ∙ (ap decimal same ∙ sym e)) in
    false≢true (c.if-eq.ensures ∙ (bytes_eq-Decides c.as_bytes.result.now c.args.token.now).1 text))
