use Rattle.std.proofs.Common.{◌≡◌, ◌+◌, ◌-◌, ◌*◌, ◌/◌, ◌≤◌, ◌++◌, length, sym, ap, ◌∙◌, subst, arith}
use Rattle.frame_stack.specs.Chunks.{stack_frames, IsStack}
use Rattle.frame_stack.proofs.CallLemmas.{reserve_stack, reserve_frames, slots_fit, counted_again}
use Rattle.frame_stack.proofs.stack.FrameStack.reserve.Goals as goal

pub overflow_add-self : goal.overflow_add-self
overflow_add-self c =
    let few = c.self.invariant.0.few in let chunks = c.self.inside.chunks.ok.0 in let within = c.self.invariant.1 in
    record {
      fits = omega (
        arith,
        slots_fit c.self.invariant.0,
        within,
        few,
        c.if-len-wanted.false,
        c.len.ensures,
        chunks,
      );
    }

pub invariant_of-self : goal.invariant_of-self
invariant_of-self c =
    let s = c.self.inside in let cs = s.chunks.items in let ds = c.in_ok-more.more.items in
    let wanted = (c.args.n - (s.room - s.len) - 1) / 1024 + 1 in
    let long : length ds ≡ wanted = omega (arith, c.in_ok-more.ensures.1, c.in_ok-more.more.ok.0) in
    let few : length cs + length ds ≤ 1125899906842624 =
    omega (arith, long, c.if-len-wanted.false, c.len.ensures, s.chunks.ok.0, c.self.invariant.0.few) in
    let more = reserve_stack c.self.invariant.0 c.self.view_is ds c.in_ok-more.ensures.0 few in
    let within : s.len ≤ s.room = c.self.invariant.1 in
    let room : s.room - s.len + length ds * 1024 ≡ s.room + wanted * 1024 - s.len = omega (arith, long, within) in
    let spare : IsStack (cs ++ ds) s.len (s.room + wanted * 1024 - s.len) = counted_again more room in (
      subst (λ l. IsStack l s.len (s.room + wanted * 1024 - s.len)) (sym c.in-Ok.ensures.items) spare,
      omega (arith, within),
    )

pub returns-in-Ok-clause-frames : goal.returns-in-Ok-clause-frames
returns-in-Ok-clause-frames c =
    ap stack_frames c.in-Ok.ensures.items
    ∙ reserve_frames c.self.invariant.0 c.self.view_is c.in_ok-more.more.items c.in_ok-more.ensures.0
