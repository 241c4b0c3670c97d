use Rattle.std.proofs.Common.{◌≡◌, [], ◌∷◌, ◌++◌, ap, ◌∙◌, length, map, arith}
use Rattle.std.proofs.lemmas.List.{length-map}
use Rattle.flow_base.specs.Lists.{items_of}
use Rattle.flow_base.specs.declared.list.List.{List as Seq}
use Rattle.code_language.specs.Code.{code_of, instrs_of}
use Rattle.code_language.specs.declared.code.RawCode.{RawCode}
use Rattle.code_language.specs.declared.instr.Instr.{Instr}
use Rattle.code_merging.specs.Merged.{numbers_from}
use Rattle.code_passes.specs.Tags.{own_tag}
use Rattle.code_passes.proofs.TagLemmas.{own_pushed}
use Rattle.code_passes.proofs.tagging.own_tags.Goals as goal

-- one more
pub loop-proc-preserved : goal.loop-proc-preserved
loop-proc-preserved c =
    c.in_ok-push.ensures.items ∙ ap (λ tag. c.loop-proc.tags.items ++ tag ∷ []) c.own_tag.ensures
    ∙ own_pushed c.loop-proc.proc c.loop-proc.tags.items c.loop-proc.invariant

-- all
pub returns : goal.returns
returns c =
    let procs = c.items.ensures ∙ ap (λ (raw : RawCode). items_of raw.procs) c.raw.ensures.raw in
    let all = length-map (items_of c.args.code.now.procs) (λ (is : Seq Instr). instrs_of (items_of is)) in
    let same : c.loop-proc.proc ≡ length (code_of c.args.code.now).procedures.procs =
    omega (arith, all, ap length procs, c.loop-proc-test.false) in
    c.loop-proc.invariant ∙ ap (λ n. map own_tag (numbers_from 0 n)) same
