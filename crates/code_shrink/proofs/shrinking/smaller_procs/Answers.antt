use Rattle.std.proofs.Common.{◌≡◌, ◌+◌, ◌<◌, ◌∙◌, Bool, false, Vec, List, ◌∷◌, ◌++◌, [], length, map, sym, ap}
use Rattle.std.proofs.Common.{subst, arith}
use Rattle.std.specs.declared.alloc.Global.{Global}
use Rattle.std.proofs.lemmas.Bool.{ltb-false}
use Rattle.std.proofs.lemmas.List.{length-map, map_push, get_or_read}
use Rattle.flow_base.specs.Lists.{items_of}
use Rattle.flow_base.specs.declared.list.List.{List as Seq}
use Rattle.code_language.proofs.ListLemmas.{drop_at, drop_map_at}
use Rattle.code_language.specs.Acceptance.{procs_of}
use Rattle.code_language.specs.Code.{instrs_of}
use Rattle.code_language.specs.Instrs.{Instr as Obeyed}
use Rattle.code_language.specs.declared.instr.Instr.{Instr}
use Rattle.code_language.specs.declared.limits.TheConstants.{INSTR_LIMIT}
use Rattle.code_shrink.specs.Numbers.{number_by}
use Rattle.code_shrink.specs.Smaller.{straight, smaller}
use Rattle.code_shrink.specs.Ways.{way_of}
use Rattle.code_shrink.specs.declared.places.Way.{Way}
use Rattle.code_shrink.proofs.LiveLemmas.{straight_length}
use Rattle.code_shrink.proofs.MadeLemmas.{some_at}
use Rattle.code_shrink.proofs.WholeLemmas.{MadeTo, live_within, reached_sizes, reached_at, ways_at, short_at}
use Rattle.code_shrink.proofs.WholeLemmas.{one_made, one_left, all_made}
use Rattle.code_shrink.proofs.shrinking.smaller_procs.Goals as goal
use Rattle.code_shrink.proofs.shrinking.smaller_procs.Goals.{then-index+in_ok-made+in_ok-push, else-index}

-- what is seen of a procedure, of flags and of ways
abbrev shown : Seq Instr → List Obeyed
shown is = instrs_of (items_of is)

abbrev flags_in : Vec Bool Global → List Bool
flags_in bs = bs.items

abbrev ways_in : Vec Way Global → List Way
ways_in ws = ws.items

-- as many of each as procedures
pub index-requires : goal.index-requires
index-requires c =
    let test = c.loop-p-test.true in let all = length-map c.args.procs.now shown in let ok = c.args.live.now.live.ok in
    let within = live_within c.args.live.now.live.items (map flags_in c.args.live.now.flags.items)
    (procs_of c.args.procs.now) c.loop-p.p c.requires.reached (omega (arith, test, all)) in
    let live = within.0 in omega (arith, live, ok)

pub index-requires-then-index-2 : goal.index-requires-then-index-2
index-requires-then-index-2 c =
    let test = c.loop-p-test.true in let all = length-map c.args.procs.now shown in let ok = c.args.live.now.flags.ok in
    let within = live_within c.args.live.now.live.items (map flags_in c.args.live.now.flags.items)
    (procs_of c.args.procs.now) c.loop-p.p c.requires.reached (omega (arith, test, all)) in
    let flags = within.1 in let many = length-map c.args.live.now.flags.items flags_in in omega (arith, flags, many, ok)

-- the ways are those of the procedure
pub smaller_procedure-requires-clause-ways : goal.smaller_procedure-requires-clause-ways
smaller_procedure-requires-clause-ways c =
    let procs = c.args.procs.now in let p = c.loop-p.p in let x = c.index-procs-p.result in
    let ways = c.args.live.now.ways.items in let own = c.index-then-index.result.now in
    let test = c.loop-p-test.true in let seen = length-map ways ways_in in
    let all = length-map procs shown in
    let each = length-map (procs_of procs) (λ (is : List Obeyed). map way_of (straight is)) in
    let long : length (map ways_in ways)
    ≡ length (map (λ (is : List Obeyed). map way_of (straight is)) (procs_of procs)) =
    ap length c.requires.ways in
    let within : p < length ways = omega (arith, test, seen, all, each, long) in
    c.deref.ensures.value
    ∙ ways_at (procs_of procs) p (shown x) (map ways_in ways) own.items c.requires.ways
    (drop_map_at shown procs p x test c.index-procs-p.is)
    (drop_map_at ways_in ways p own within c.index-then-index.ensures)
    ∙ ap (λ (is : List Instr). map way_of (straight (instrs_of is))) (sym c.items.ensures)

-- and so are the flags
pub smaller_procedure-requires-clause-flags : goal.smaller_procedure-requires-clause-flags
smaller_procedure-requires-clause-flags c =
    let procs = c.args.procs.now in let p = c.loop-p.p in let x = c.index-procs-p.result in
    let live = c.args.live.now.live.items in let flags = c.args.live.now.flags.items in
    let own = c.index-then-index-2.result.now in let test = c.loop-p-test.true in let all = length-map procs shown in
    let within = live_within live (map flags_in flags) (procs_of procs) p c.requires.reached
    (omega (arith, test, all)) in
    let inside = within.1 in let many = length-map flags flags_in in
    let set = sym (get_or_read live p c.index.result.now within.0 c.index.ensures false) ∙ c.if-index.true in
    ap length c.deref-then-index.ensures.value
    ∙ reached_at live (map flags_in flags) (procs_of procs) p own.items (shown x) c.requires.reached set
    (drop_map_at flags_in flags p own (omega (arith, inside, many)) c.index-then-index-2.ensures)
    (drop_map_at shown procs p x test c.index-procs-p.is)
    ∙ straight_length (shown x) ∙ length-map (items_of x) _ ∙ ap length (sym c.items.ensures)

-- no procedure is too long
pub smaller_procedure-requires-clause-short : goal.smaller_procedure-requires-clause-short
smaller_procedure-requires-clause-short c =
    let procs = c.args.procs.now in let p = c.loop-p.p in let x = c.index-procs-p.result in
    let test = c.loop-p-test.true in
    let short = ltb-false INSTR_LIMIT (length (shown x)) (short_at (procs_of procs) p (shown x) c.requires.short
    (drop_map_at shown procs p x test c.index-procs-p.is)) in
    let same : length (shown x) ≡ length (items_of x) = length-map (items_of x) _ in
    rw c.items.ensures (omega (arith, short, same))

-- one more procedure
pub loop-p-preserved : goal.loop-p-preserved
loop-p-preserved c =
    let m = number_by c.args.numbers.now in let procs = c.args.procs.now in let p = c.loop-p.p in
    let x = c.index-procs-p.result in let live = c.args.live.now.live.items in
    let flags = c.args.live.now.flags.items in
    let old = items_of c.loop-p.smaller in let now = items_of c.if-index.smaller in
    let test = c.loop-p-test.true in let all = length-map procs shown in
    let within = live_within live (map flags_in flags) (procs_of procs) p c.requires.reached
    (omega (arith, test, all)) in
    let inside = within.1 in let many = length-map flags flags_in in
    let l = drop_at live p c.index.result.now within.0 c.index.ensures in
    let d = drop_map_at shown procs p x test c.index-procs-p.is in
    elim c.if-index.branch [
      | then-index+in_ok-made+in_ok-push w ↦
          let own = w.index-then-index-2.result.now in let y = w.of.result in
          let f = drop_map_at flags_in flags p own (omega (arith, inside, many)) w.index-then-index-2.ensures in
          let made : shown y ≡ smaller m own.items (shown x) =
          ap instrs_of w.of.ensures ∙ w.in_ok-made.ensures
          ∙ ap (λ (bs : List Bool). smaller m bs (instrs_of w.items.result.now)) w.deref-then-index.ensures.value
          ∙ ap (λ (is : List Instr). smaller m own.items (instrs_of is)) w.items.ensures in
          let longer : procs_of now ≡ procs_of old ++ smaller m own.items (shown x) ∷ [] =
          ap (λ (s : Seq (Seq Instr)). procs_of (items_of s)) w.smaller-is ∙ ap procs_of w.in_ok-push.ensures.ok
          ∙ map_push shown old y ∙ ap (λ (z : List Obeyed). procs_of old ++ z ∷ []) made in
          subst (MadeTo m live (map flags_in flags) (procs_of procs) (p + 1)) (sym longer)
          (one_made m live (map flags_in flags) (procs_of procs) p c.index.result.now own.items (shown x)
          (procs_of old) l f d
          c.loop-p.invariant w.if-index.true)
      | else-index w ↦
          let some = some_at (map flags_in flags) p inside in
          let same : procs_of now ≡ procs_of old = ap (λ (s : Seq (Seq Instr)). procs_of (items_of s)) w.smaller-is in
          subst (MadeTo m live (map flags_in flags) (procs_of procs) (p + 1)) (sym same)
          (one_left m live (map flags_in flags) (procs_of procs) p c.index.result.now some.0 (shown x)
          (procs_of old) l some.1 d
          c.loop-p.invariant w.if-index.false)
    ]

-- all procedures
pub returns : goal.returns
returns c =
    let procs = c.args.procs.now in let live = c.args.live.now.live.items in let flags = c.args.live.now.flags.items in
    let sizes = reached_sizes live (map flags_in flags) (procs_of procs) c.requires.reached in
    let size = sizes.0 in let all = length-map procs shown in let test = c.loop-p-test.false in
    all_made (number_by c.args.numbers.now) live (map flags_in flags) (procs_of procs) c.loop-p.p
    (procs_of (items_of c.loop-p.smaller)) c.loop-p.invariant (omega (arith, size, all, test))
