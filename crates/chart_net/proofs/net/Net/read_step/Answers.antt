use Rattle.std.proofs.Common.{◌≡◌, get_or, true, false, nat_eq, Option, Result, sym, ◌∙◌, subst, arith}
use Rattle.std.proofs.lemmas.Bool.Decides.{nat_tests}
use Rattle.event_file.specs.EventLines.{tokens_of}
use Rattle.event_file.specs.declared.fault.LineFault.{LineFault}
use Rattle.chart_net.specs.Moving.{ReadsStep}
use Rattle.chart_net.specs.NetParts.{net_shown}
use Rattle.chart_net.specs.NetRuns.{NetStep}
use Rattle.chart_net.proofs.ScheduleLemmas.{says_nothing, says_comment, says_event, says_take, says_no_step}
use Rattle.chart_net.proofs.net.Net.read_step.Goals as goal

pub returns-in_default-clause-read : goal.returns-in_default-clause-read
returns-in_default-clause-read g c = says_nothing (net_shown g.G.Engine c.args.self.now) c.args.line.now
    c.in_default.ensures.tokens

pub returns-then-first-eq35-clause-read : goal.returns-then-first-eq35-clause-read
returns-then-first-eq35-clause-read g c =
    let t = c.in-Some.first.token.now in
    let hash : nat_eq (get_or t 0 0) 35 ≡ true = let h = c.if-first-eq35.true in grind (arith, nat_tests) in
    says_comment (net_shown g.G.Engine c.args.self.now) c.args.line.now t (tokens_of c.in-Some.first.rest.now)
    c.in-Some.ensures.tokens hash

pub returns-then-is_word-clause-read : goal.returns-then-is_word-clause-read
returns-then-is_word-clause-read g c =
    let t = c.in-Some.first.token.now in
    let hash : nat_eq (get_or t 0 0) 35 ≡ false = let h = c.if-first-eq35.false in grind (arith, nat_tests) in
    subst (λ (said : Result (Option NetStep) LineFault). ReadsStep g.G.Engine c.read_event.new.self said
    c.read_event.result)
    (sym (says_event (net_shown g.G.Engine c.args.self.now) c.args.line.now t (tokens_of c.in-Some.first.rest.now)
    c.in-Some.ensures.tokens hash
    (sym c.is_word.ensures ∙ c.if-is_word.true))) c.read_event.ensures.read

pub returns-then-is_word-2-clause-read : goal.returns-then-is_word-2-clause-read
returns-then-is_word-2-clause-read g c =
    let t = c.in-Some.first.token.now in
    let hash : nat_eq (get_or t 0 0) 35 ≡ false = let h = c.if-first-eq35.false in grind (arith, nat_tests) in
    subst (λ (said : Result (Option NetStep) LineFault). ReadsStep g.G.Engine c.args.self.now said c.read_take.result)
    (sym (says_take (net_shown g.G.Engine c.args.self.now) c.args.line.now t (tokens_of c.in-Some.first.rest.now)
    c.in-Some.ensures.tokens hash
    (sym c.is_word.ensures ∙ c.if-is_word.false) (sym c.is_word-2.ensures ∙ c.if-is_word-2.true))) c.read_take.ensures

pub returns-clause-read : goal.returns-clause-read
returns-clause-read g c =
    let t = c.in-Some.first.token.now in
    let hash : nat_eq (get_or t 0 0) 35 ≡ false = let h = c.if-first-eq35.false in grind (arith, nat_tests) in
    says_no_step (net_shown g.G.Engine c.args.self.now) c.args.line.now t (tokens_of c.in-Some.first.rest.now)
    c.in-Some.ensures.tokens hash
    (sym c.is_word.ensures ∙ c.if-is_word.false) (sym c.is_word-2.ensures ∙ c.if-is_word-2.false)
