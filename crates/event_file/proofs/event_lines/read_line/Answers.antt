use Rattle.std.proofs.Common.{◌≡◌, length, get_or, true, false, nat_eq, sym, ◌∙◌, arith}
use Rattle.std.proofs.lemmas.Bool.Decides.{nat_tests}
use Rattle.actions.specs.Names.{names_of}
use Rattle.event_file.specs.EventLines.{tokens_of}
use Rattle.event_file.proofs.ValueLemmas.{says_nothing, says_hash, says_comment}
use Rattle.event_file.proofs.ValueLemmas.{says_no_event, says_no_values, says_step, no_values}
use Rattle.event_file.proofs.event_lines.read_line.Goals as goal

pub returns-then-begins_with_hash-clause-says : goal.returns-then-begins_with_hash-clause-says
returns-then-begins_with_hash-clause-says c =
    says_hash (names_of c.args.names.now) c.args.line.now (sym c.begins_with_hash.ensures ∙ c.if-begins_with_hash.true)

pub returns-in_default-clause-says : goal.returns-in_default-clause-says
returns-in_default-clause-says c = says_nothing (names_of c.args.names.now) c.args.line.now c.in_default.ensures.tokens

pub returns-then-first-eq35-clause-says : goal.returns-then-first-eq35-clause-says
returns-then-first-eq35-clause-says c =
    let t = c.in-Some.first.token.now in
    let hash : nat_eq (get_or t 0 0) 35 ≡ true = let h = c.if-first-eq35.true in grind (arith, nat_tests) in
    says_comment (names_of c.args.names.now) c.args.line.now t (tokens_of c.in-Some.first.rest.now) c.in-Some.ensures.tokens hash

pub returns-in-Err-clause-says : goal.returns-in-Err-clause-says
returns-in-Err-clause-says c =
    let t = c.in-Some.first.token.now in
    let hash : nat_eq (get_or t 0 0) 35 ≡ false = let h = c.if-first-eq35.false in grind (arith, nat_tests) in
    says_no_event (names_of c.args.names.now) c.args.line.now t (tokens_of c.in-Some.first.rest.now) c.in-Err.fault c.in-Some.ensures.tokens hash (sym c.in-Err.ensures.event)

pub give_all-requires-clause-values : goal.give_all-requires-clause-values
give_all-requires-clause-values c = rw c.requires.none (no_values (names_of c.args.names.now) 0 (length (names_of c.args.names.now).vars))

pub returns-in-Ok-give_all-clause-says : goal.returns-in-Ok-give_all-clause-says
returns-in-Ok-give_all-clause-says c =
    let t = c.in-Some.first.token.now in
    let hash : nat_eq (get_or t 0 0) 35 ≡ false = let h = c.if-first-eq35.false in grind (arith, nat_tests) in
    let a = c.in-Ok-give_all.ensures.gave in
    let all = rw c.requires.none at a in (
      says_step (names_of c.args.names.now) c.args.line.now t (tokens_of c.in-Some.first.rest.now) c.in-Ok.event
          c.give_all.new.vals.values c.in-Some.ensures.tokens hash (sym c.in-Ok.ensures.event) all,
      record { event = c.in-Ok.ensures.fits; inputs = c.in-Ok-give_all.ensures.values },
    )

pub returns-in-Err-give_all-clause-says : goal.returns-in-Err-give_all-clause-says
returns-in-Err-give_all-clause-says c =
    let t = c.in-Some.first.token.now in
    let hash : nat_eq (get_or t 0 0) 35 ≡ false = let h = c.if-first-eq35.false in grind (arith, nat_tests) in
    let a = c.in-Err-give_all.ensures.gave in
    let all = rw c.requires.none at a in
    says_no_values (names_of c.args.names.now) c.args.line.now t (tokens_of c.in-Some.first.rest.now) c.in-Ok.event c.in-Err-give_all.fault c.in-Some.ensures.tokens hash
    (sym c.in-Ok.ensures.event) all
