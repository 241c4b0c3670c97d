-- A function that stays as it is, does so where its statements are gone through.
use Rattle.std.proofs.Common.{◌≡◌, ℕ, Bool, true, false, cond, refl, ap, ◌∙◌}
use Rattle.c_subset.specs.declared.trees.CType.{CType}
use Rattle.c_subset.specs.Trees.{Block, End, Set, Store as PutField, StoreAt, Call, Select, If, While, Return}
use Rattle.c_facts.specs.Asking.{stored}
use Rattle.c_decided.specs.Facts.{Facts}
use Rattle.c_decided.specs.Numbered.{is_nowhere, joined_facts}
use Rattle.c_decided.specs.Decided.{Plan}
use Rattle.c_decided.specs.Walk.{each_fact, test, after_set, after_call, after_cases, nothing, Walked, unreached, reached}
use Rattle.c_decided.specs.Walk.{goes, walked}

module _ (P : Plan) (p : ℕ) (result : CType) (is : P.stays p ≡ true) where
  reached-stays : (a : Block) (F : Facts) (r : Walked) → r.block ≡ a → (reached (P.stays p) a F r).block ≡ a
  reached-stays a F r e = split (is_nowhere F.by)
    where
      split : (b : Bool) → (cond b (unreached (P.stays p) a) r).block ≡ a
      split true = ap (λ (b : Bool). cond b a End) is
      split false = e

  keeps : (F : Facts) → goes (P.stays p) F ≡ false
  keeps F = ap (λ (b : Bool). cond b false (is_nowhere F.by)) is

  if-stays : (n y : Bool) (r q o : Walked) (b : Block) → n ≡ false → y ≡ false → o.block ≡ b
      → (cond n r (cond y q o)).block ≡ b
  if-stays false false r q o b en ey e = e
  if-stays true y r q o b en ey e = absurd cc
  if-stays false true r q o b en ey e = absurd cc

  pub walked-stays : (a : Block) (F : Facts) → (walked P p result a F).block ≡ a
  unfolding walked
  walked-stays End F = reached-stays End F _ refl
  walked-stays (Set t i e a) F =
      reached-stays (Set t i e a) F _ (ap (λ (b : Block). Set t i e b) (walked-stays a (after_set t i e F)))
  walked-stays (PutField f e a) F =
      reached-stays (PutField f e a) F _
      (ap (λ (b : Block). PutField f e b) (walked-stays a (each_fact (stored f e) F)))
  walked-stays (StoreAt r i e a) F =
      reached-stays (StoreAt r i e a) F _ (ap (λ (b : Block). StoreAt r i e b) (walked-stays a F))
  walked-stays (Call t i f args a) F =
      reached-stays (Call t i f args a) F _
      (ap (λ (b : Block). Call t i f args b) (walked-stays a (after_call P t i f F)))
  walked-stays (Select t i e cases args a) F =
      reached-stays (Select t i e cases args a) F _
      (ap (λ (b : Block). Select t i e cases args b) (walked-stays a (after_cases P t i F cases)))
  walked-stays (If e a b c) F =
      let J = joined_facts (walked P p result a (test true e F)).after (walked P p result b (test false e F)).after in
      reached-stays (If e a b c) F _
      (if-stays (goes (P.stays p) (test false e F)) (goes (P.stays p) (test true e F)) _ _ _ (If e a b c)
      (keeps (test false e F)) (keeps (test true e F))
      (ap (λ (a' : Block). If e a' (walked P p result b (test false e F)).block (walked P p result c J).block)
      (walked-stays a (test true e F))
      ∙ ap (λ (b' : Block). If e a b' (walked P p result c J).block) (walked-stays b (test false e F))
      ∙ ap (λ (c' : Block). If e a b c') (walked-stays c J)))
  walked-stays (While e a c) F =
      reached-stays (While e a c) F _
      (ap (λ (a' : Block). While e a' (walked P p result c (test false e nothing)).block)
      (walked-stays a (test true e nothing))
      ∙ ap (λ (c' : Block). While e a c') (walked-stays c (test false e nothing)))
  walked-stays (Return e) F = reached-stays (Return e) F _ refl
