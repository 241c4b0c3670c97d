use Rattle.std.proofs.Common.{◌≡◌, ◌≤◌, ◌∙◌, ◌++◌, ◌∷◌, [], Bor, ℕ, List, length, ap, arith}
use Rattle.std.proofs.lemmas.Bool.{ltb-false}
use Rattle.std.proofs.lemmas.List.{length-map, map_push}
use Rattle.flow_base.specs.Lists.{items_of}
use Rattle.flow_base.specs.declared.list.List.{List as Seq}
use Rattle.code_language.specs.Acceptance.{procs_of}
use Rattle.code_language.specs.Code.{instr_of, instrs_of}
use Rattle.code_language.specs.Instrs.{Instr as Obeyed}
use Rattle.code_language.specs.declared.instr.Instr.{Instr}
use Rattle.code_language.specs.declared.limits.TheConstants.{INSTR_LIMIT}
use Rattle.code_language.proofs.ListLemmas.{drop_map_at}
use Rattle.code_shrink.proofs.WholeLemmas.{short_at}
use Rattle.code_copies.specs.Asking.{asking}
use Rattle.code_copies.proofs.AskedLemmas.{AsksAt, Asks, AsksNothing, one_more, all_made}
use Rattle.code_copies.proofs.asking.asking_procs.Goals as goal
use Rattle.code_copies.proofs.asking.asking_procs.Goals.{then-proc-react, else-proc-react}

-- the instructions of a written procedure
abbrev written : Seq Instr → List Obeyed
written is = instrs_of (items_of is)

-- no procedure is too long
pub asking_procedure-requires : goal.asking_procedure-requires
asking_procedure-requires c =
    let procs = c.args.procs.now in
    let x = c.index-procs-proc.result in
    let short = ltb-false INSTR_LIMIT (length (written x))
    (short_at (procs_of procs) c.loop-proc.proc (written x) c.requires
    (drop_map_at written procs c.loop-proc.proc x c.loop-proc-test.true c.index-procs-proc.is)) in
    let same : length (written x) ≡ length (items_of x) = length-map (items_of x) instr_of in
    rw c.items.ensures (omega (arith, short, same))

-- one procedure more
pub loop-proc-preserved : goal.loop-proc-preserved
loop-proc-preserved c =
    let procs = c.args.procs.now in
    let p = c.args.react in
    let es = c.args.events.now in
    let i = c.loop-proc.proc in
    let x = c.index-procs-proc.result in
    let y = c.in_ok-asking_procedure.field-0 in
    let asked = c.if-proc-react.asked.now in
    let at : AsksAt p es i asked =
    elim c.if-proc-react.branch as (λ o. AsksAt p es i asked) [
      | then-proc-react w ↦ Asks w.if-proc-react.true (ap (λ (r : Bor (List ℕ)). r.now) w.asked-is)
      | else-proc-react w ↦ AsksNothing w.if-proc-react.false (ap (λ (r : Bor (List ℕ)). r.now) w.asked-is)
    ] in
    let made : written y ≡ asking asked (written x) =
    c.in_ok-asking_procedure.ensures ∙ ap (λ (is : List Instr). asking asked (instrs_of is)) c.items.ensures in
    ap procs_of c.in_ok-push.ensures.ok ∙ map_push written (items_of c.loop-proc.made) y
    ∙ ap (λ z. procs_of (items_of c.loop-proc.made) ++ z ∷ []) made
    ∙ one_more p es procs (procs_of (items_of c.loop-proc.made)) i x asked c.loop-proc-test.true
    c.index-procs-proc.is at c.loop-proc.invariant

-- all procedures
pub returns : goal.returns
returns c =
    let past = c.loop-proc-test.false in
    let end : length c.args.procs.now ≤ c.loop-proc.proc = omega (arith, past) in
    all_made c.args.react c.args.events.now c.args.procs.now (procs_of (items_of c.loop-proc.made)) c.loop-proc.proc end
    c.loop-proc.invariant
