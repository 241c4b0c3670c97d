use Rattle.std.proofs.Common.{◌≡◌, ◌+◌, ◌%◌, ◌<◌, List, [], ◌∷◌, ◌++◌, length, Option, ap, ◌∙◌, arith, length-set}
use Rattle.actions.specs.declared.expr.Value.{Value}
use Rattle.chart_net.specs.Rings.{Queue, window}
use Rattle.chart_net.proofs.RingLemmas.{length-window, window_after_push, same_queue}
use Rattle.chart_net.proofs.ring.Ring.push.Goals as goal

-- the write is after the last item, since there is room
pub returns : goal.returns
returns c =
    let q = c.self.inside in
    let xs = q.places.items in
    let old : window q.first q.count xs ≡ c.args.self.now.items = ap (λ (x : Queue). x.items) c.self.view_is in
    let cap : length xs ≡ c.args.self.now.cap = ap (λ (x : Queue). x.cap) c.self.view_is in
    let size : length (window q.first q.count xs) ≡ q.count =
    length-window (length xs) q.first q.count xs (omega arith) (omega arith) (omega arith) in
    let same_size : length (window q.first q.count xs) ≡ length c.args.self.now.items = ap length old in
    let room : q.count < c.len.result = omega arith in
    let after = window_after_push c.len.result q.first q.count xs (omega arith) (omega arith) (omega arith) c.args.item
    room in
    same_queue _ _ _ _
    (after ∙ ap (λ (l : List (Option Value)). l ++ c.args.item ∷ []) old)
    (length-set xs ((q.first + q.count) % c.len.result) c.args.item ∙ cap)
