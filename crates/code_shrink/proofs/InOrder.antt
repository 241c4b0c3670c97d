-- The procedures of smaller code come in order from reached ones of the code, and none is longer.
use Rattle.std.proofs.Common.{◌≡◌, ◌<◌, ◌≤◌, ℕ, zero, suc, Bool, true, false, List, [], ◌∷◌, length, map, Some}
use Rattle.std.proofs.Common.{sym, ap, ◌∙◌, subst, arith}
use Rattle.std.specs.Prelude.{slice_get, slice_index_or}
use Rattle.code_language.specs.Code.{Procedures, instructions, fetch}
use Rattle.code_language.specs.Instrs.{Instr}
use Rattle.code_language.proofs.Sound.{or_none, instructions_at}
use Rattle.code_shrink.specs.Neat.{Names, IsReached, AtStart, AtReaction, Named}
use Rattle.code_shrink.specs.Smaller.{folded, slides, threaded, straight}
use Rattle.code_shrink.specs.Whole.{is_live, number_in, collected, smaller_procedures, IsLive, LiveStart}
use Rattle.code_shrink.specs.Whole.{LiveReaction, LiveNamed}
use Rattle.code_shrink.specs.Whole.{IsExact, ComesInOrder}
use Rattle.code_shrink.proofs.Closed.{old_of}
use Rattle.code_shrink.proofs.InstrKinds.{Kind, Plain, Return, Tests, Jump, kind}
use Rattle.code_shrink.proofs.NeatCode.{proc_at_place}
use Rattle.code_shrink.proofs.Orders.{comes_from, old_counted}
use Rattle.code_shrink.proofs.Sounder.{smaller_length}
use Rattle.code_shrink.proofs.Squeezed.{plain}
use Rattle.code_shrink.proofs.WholeCode.{exact_keeps}

-- what names a procedure once it is straight named it before
names_before : (y z x : Instr) (ls : List ℕ) (q : ℕ) → Kind y z → threaded z ls ≡ x → Names x q → y ≡ x
names_before y z x ls q (Plain _ g) e n = sym ((plain (λ n. n) y g).threads ls) ∙ e
names_before y z x ls q (Return r) e n = absurd (subst (λ x. Names x q) (sym e) n)
names_before y z x ls q (Tests k c) e n = absurd (subst (λ x. Names x q) (sym e) n)
names_before y z x ls q (Jump _ k jumps costs inside no_ret) e n = absurd (subst (λ x. Names x q) (sym e) n)

-- the same at each place
stood_before : (is : List Instr) (i : ℕ) (x : Instr) (q : ℕ) → slice_get (straight is) i ≡ Some x → Names x q
    → slice_get is i ≡ Some x
stood_before [] i x q e n = absurd (cc e)
stood_before (y ∷ is) zero x q e n =
    let same : threaded (folded y) (slides (map folded is)) ≡ x = cc e in
    ap Some (names_before y (folded y) x (slides (map folded is)) q (kind y) same n)
stood_before (y ∷ is) (suc i) x q e n = stood_before is i x q e n

-- what is reached once procedures are straight is reached
pub live_is_reached : (k : Procedures) (p : ℕ) → IsLive k p → IsReached k p
unfolding fetch
live_is_reached k _ LiveStart = AtStart
live_is_reached k _ LiveReaction = AtReaction
live_is_reached k _ (LiveNamed p i q x l c e n) =
    Named p i q x (live_is_reached k p l) (stood_before (instructions k p) i x q e n) n

-- old numbers grow
old_grows : (live : List Bool) (i j : ℕ) → i < j → old_of live i < old_of live j
old_grows [] i j h = h
old_grows (true ∷ live) i zero h = absurd (omega arith)
old_grows (true ∷ live) zero (suc j) h = omega arith
old_grows (true ∷ live) (suc i) (suc j) h = omega (arith, old_grows live i j (omega (arith, h)))
old_grows (false ∷ live) i j h = omega (arith, old_grows live i j h)

-- each procedure comes of a reached one, which isn't shorter
pub smaller_in_order : (live : List Bool) (flags : List (List Bool)) (k : Procedures) → IsExact live flags k
    → ComesInOrder k (smaller_procedures live flags k)
unfolding instructions
smaller_in_order live flags k exact = record {
  old = old_of live;
  reached = λ i h.
      let s = proc_at_place (collected (number_in live) live flags k.procs) i h in
      let f = comes_from (is_live live) (number_in live) live flags k.procs i s.0
      (exact_keeps live flags k exact).each s.1 in
      let back : f.old ≡ old_of live i = sym (ap (old_of live) (sym f.at) ∙ old_counted live f.old f.stays) in
      subst (λ p. IsReached k p) back (live_is_reached k f.old (exact.sound f.old f.stays));
  ordered = λ i j h. old_grows live i j h;
  shorter = λ i h.
      let procs = collected (number_in live) live flags k.procs in
      let s = proc_at_place procs i h in
      let f = comes_from (is_live live) (number_in live) live flags k.procs i s.0
      (exact_keeps live flags k exact).each s.1 in
      let back : f.old ≡ old_of live i = sym (ap (old_of live) (sym f.at) ∙ old_counted live f.old f.stays) in
      let now : slice_index_or procs i [] ≡ s.0 = instructions_at procs i ∙ ap or_none s.1 in
      let was : slice_index_or k.procs f.old [] ≡ f.before = instructions_at k.procs f.old ∙ ap or_none f.there in
      let short : length s.0 ≤ length f.before =
      subst (λ l. length l ≤ length f.before) f.made (smaller_length (number_in live) f.before f.marks) in
      subst (λ p. length (slice_index_or procs i []) ≤ length (slice_index_or k.procs p [])) back
      (subst (λ l. l ≤ length (slice_index_or k.procs f.old [])) (sym (ap (λ l. length l) now))
      (subst (λ l. length s.0 ≤ l) (sym (ap (λ l. length l) was)) short));
}
