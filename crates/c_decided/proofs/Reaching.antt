-- How statements are gone through where a run comes.
use Rattle.std.proofs.Common.{◌≡◌, ℕ, Bool, true, false, cond, List, Result, Ok, Err, IfOk, sym, ap, ◌∙◌}
use Rattle.c_subset.specs.declared.trees.CType.{CType}
use Rattle.c_subset.specs.declared.trees.Case.{Case}
use Rattle.c_subset.specs.Trees.{CExpr, Block, End, Set, Store as PutField, StoreAt, Call, Select, If, While, Return}
use Rattle.c_facts.specs.Known.{Never}
use Rattle.c_facts.specs.Asking.{stored, may_store}
use Rattle.c_decided.specs.Facts.{Facts, alone}
use Rattle.c_decided.specs.Numbered.{all_of, is_nowhere, joined_facts, covers_by, brought}
use Rattle.c_decided.specs.Decided.{Plan}
use Rattle.c_decided.specs.Walk.{each_fact, test, by_value, after_set, after_call, may_call, may_call_each, after_cases}
use Rattle.c_decided.specs.Walk.{nothing, Walked, unreached, reached, goes, put_before, in_turn, asked, looped, walked}
use Rattle.c_decided.specs.Views.{walked_of}
use Rattle.c_trees.specs.Blocks.{block_of}
use Rattle.c_trees.specs.declared.trees.Tree.{Tree}
use Rattle.c_decided.specs.declared.walking.Walked.{Walked as Found}

reach : (stays : Bool) (a : Block) (F : Facts) (r : Walked) → is_nowhere F.by ≡ false → reached stays a F r ≡ r
reach stays a F r e = ap (λ (b : Bool). cond b (unreached stays a) r) e

nowhere : (stays : Bool) (a : Block) (F : Facts) (r : Walked) → is_nowhere F.by ≡ true
    → reached stays a F r ≡ unreached stays a
nowhere stays a F r e = ap (λ (b : Bool). cond b (unreached stays a) r) e

-- what is made of the statements is the same
pub on_ok : {E : Type 0} (r : Result Found E) (q o : Walked) → IfOk r (λ w. walked_of w ≡ q) → q ≡ o
    → IfOk r (λ w. walked_of w ≡ o)
on_ok (Ok w) q o h e = h ∙ e
on_ok (Err x) q o h e = tt

module _ (P : Plan) (p : ℕ) (result : CType) where
  pub walked_nowhere : (a : Block) (F : Facts) → is_nowhere F.by ≡ true
      → unreached (P.stays p) a ≡ walked P p result a F
  unfolding walked
  walked_nowhere End F e = sym (nowhere (P.stays p) _ F _ e)
  walked_nowhere (Set t i x a) F e = sym (nowhere (P.stays p) _ F _ e)
  walked_nowhere (PutField f x a) F e = sym (nowhere (P.stays p) _ F _ e)
  walked_nowhere (StoreAt r i x a) F e = sym (nowhere (P.stays p) _ F _ e)
  walked_nowhere (Call t i f args a) F e = sym (nowhere (P.stays p) _ F _ e)
  walked_nowhere (Select t i x cases args a) F e = sym (nowhere (P.stays p) _ F _ e)
  walked_nowhere (If x a b c) F e = sym (nowhere (P.stays p) _ F _ e)
  walked_nowhere (While x a c) F e = sym (nowhere (P.stays p) _ F _ e)
  walked_nowhere (Return x) F e = sym (nowhere (P.stays p) _ F _ e)

  pub end_on : (F : Facts) → is_nowhere F.by ≡ false
      → record { right = true; block = End; after = F } ≡ walked P p result End F
  unfolding walked
  end_on F e = sym (reach (P.stays p) _ F _ e)

  pub set_on : (t : CType) (i : ℕ) (x : CExpr) (a : Block) (F : Facts) → is_nowhere F.by ≡ false
      → put_before true (λ b. Set t i x b) (walked P p result a (after_set t i x F))
      ≡ walked P p result (Set t i x a) F
  unfolding walked
  set_on t i x a F e = sym (reach (P.stays p) _ F _ e)

  pub store_on : (f : ℕ) (x : CExpr) (a : Block) (F : Facts) → is_nowhere F.by ≡ false
      → put_before (may_store (P.touched p) f x (all_of F.by)) (λ b. PutField f x b)
      (walked P p result a (each_fact (stored f x) F)) ≡ walked P p result (PutField f x a) F
  unfolding walked
  store_on f x a F e = sym (reach (P.stays p) _ F _ e)

  pub store_at_on : (r : ℕ) (i x : CExpr) (a : Block) (F : Facts) → is_nowhere F.by ≡ false
      → put_before true (λ b. StoreAt r i x b) (walked P p result a F) ≡ walked P p result (StoreAt r i x a) F
  unfolding walked
  store_at_on r i x a F e = sym (reach (P.stays p) _ F _ e)

  pub call_on : (t : CType) (i f : ℕ) (args : List CExpr) (a : Block) (F : Facts) → is_nowhere F.by ≡ false
      → put_before (may_call P p F f) (λ b. Call t i f args b) (walked P p result a (after_call P t i f F))
      ≡ walked P p result (Call t i f args a) F
  unfolding walked
  call_on t i f args a F e = sym (reach (P.stays p) _ F _ e)

  pub select_on : (t : CType) (i : ℕ) (x : CExpr) (cases : List Case) (args : List CExpr) (a : Block) (F : Facts)
      → is_nowhere F.by ≡ false
      → put_before (may_call_each P p F cases) (λ b. Select t i x cases args b)
      (walked P p result a (after_cases P t i F cases)) ≡ walked P p result (Select t i x cases args a) F
  unfolding walked
  select_on t i x cases args a F e = sym (reach (P.stays p) _ F _ e)

  pub return_on : (x : CExpr) (F : Facts) → is_nowhere F.by ≡ false
      → record {
        right = covers_by (brought result (by_value x F)) (P.leaves p);
        block = Return x;
        after = alone Never;
      } ≡ walked P p result (Return x) F
  unfolding walked
  return_on x F e = sym (reach (P.stays p) _ F _ e)

  pub while_on : (x : CExpr) (a c : Block) (F : Facts) → is_nowhere F.by ≡ false
      → looped x (walked P p result a (test true x nothing)) (walked P p result c (test false x nothing))
      ≡ walked P p result (While x a c) F
  unfolding walked
  while_on x a c F e = sym (reach (P.stays p) _ F _ e)

  pub first_on : (x : CExpr) (a b c : Block) (F : Facts) → is_nowhere F.by ≡ false
      → goes (P.stays p) (test false x F) ≡ true
      → in_turn (walked P p result a F) (walked P p result c (walked P p result a F).after)
      ≡ walked P p result (If x a b c) F
  unfolding walked
  first_on x a b c F e n =
      sym (ap (λ (i : Bool). cond i (in_turn (walked P p result a F) (walked P p result c (walked P p result a F).after))
      (cond (goes (P.stays p) (test true x F))
      (in_turn (walked P p result b F) (walked P p result c (walked P p result b F).after))
      (asked x (walked P p result a (test true x F)) (walked P p result b (test false x F))
      (walked P p result c (joined_facts (walked P p result a (test true x F)).after
      (walked P p result b (test false x F)).after))))) n)
      ∙ sym (reach (P.stays p) _ F _ e)

  pub second_on : (x : CExpr) (a b c : Block) (F : Facts) → is_nowhere F.by ≡ false
      → goes (P.stays p) (test false x F) ≡ false → goes (P.stays p) (test true x F) ≡ true
      → in_turn (walked P p result b F) (walked P p result c (walked P p result b F).after)
      ≡ walked P p result (If x a b c) F
  unfolding walked
  second_on x a b c F e n m =
      let W : Block → Facts → Walked = λ a F. walked P p result a F in
      let both = asked x (W a (test true x F)) (W b (test false x F))
      (W c (joined_facts (W a (test true x F)).after (W b (test false x F)).after)) in
      sym (ap (λ (i : Bool). cond i (in_turn (W a F) (W c (W a F).after))
      (cond (goes (P.stays p) (test true x F)) (in_turn (W b F) (W c (W b F).after)) both)) n
      ∙ ap (λ (i : Bool). cond i (in_turn (W b F) (W c (W b F).after)) both) m)
      ∙ sym (reach (P.stays p) _ F _ e)

  pub both_on : (x : CExpr) (a b c : Block) (F : Facts) → is_nowhere F.by ≡ false
      → goes (P.stays p) (test false x F) ≡ false → goes (P.stays p) (test true x F) ≡ false
      → asked x (walked P p result a (test true x F)) (walked P p result b (test false x F))
      (walked P p result c (joined_facts (walked P p result a (test true x F)).after
      (walked P p result b (test false x F)).after)) ≡ walked P p result (If x a b c) F
  unfolding walked
  both_on x a b c F e n m =
      let W : Block → Facts → Walked = λ a F. walked P p result a F in
      let both = asked x (W a (test true x F)) (W b (test false x F))
      (W c (joined_facts (W a (test true x F)).after (W b (test false x F)).after)) in
      sym (ap (λ (i : Bool). cond i (in_turn (W a F) (W c (W a F).after))
      (cond (goes (P.stays p) (test true x F)) (in_turn (W b F) (W c (W b F).after)) both)) n
      ∙ ap (λ (i : Bool). cond i (in_turn (W b F) (W c (W b F).after)) both) m)
      ∙ sym (reach (P.stays p) _ F _ e)

-- ---- as the code goes through them

-- x = e;
pub set_from : {E : Type 0} (P : Plan) (p : ℕ) (result t : CType) (i : ℕ) (x : CExpr) (tree own : Tree) (F : Facts)
    (r : Result Found E) → tree ≡ own → is_nowhere F.by ≡ false
    → IfOk r (λ w. walked_of w ≡ put_before true (λ b. Set t i x b)
    (walked P p result (block_of tree) (after_set t i x F)))
    → IfOk r (λ w. walked_of w ≡ walked P p result (Set t i x (block_of own)) F)
set_from P p result t i x tree own F r e n h =
    on_ok r _ _ h
    (ap (λ (o : Tree). put_before true (λ b. Set t i x b) (walked P p result (block_of o) (after_set t i x F))) e
    ∙ set_on P p result t i x (block_of own) F n)

-- return e;
pub return_from : {E : Type 0} (P : Plan) (p : ℕ) (result : CType) (x : CExpr) (F : Facts) (r : Result Found E)
    → is_nowhere F.by ≡ false
    → IfOk r (λ w. walked_of w ≡ record {
      right = covers_by (brought result (by_value x F)) (P.leaves p);
      block = Return x;
      after = alone Never;
    })
    → IfOk r (λ w. walked_of w ≡ walked P p result (Return x) F)
return_from P p result x F r n h = on_ok r _ _ h (return_on P p result x F n)

-- both ways of a test
pub both_from : {E : Type 0} (P : Plan) (p : ℕ) (result : CType) (x : CExpr) (a b c a' b' c' : Tree) (F ys ns j : Facts)
    (r q o : Found) (z : Result Found E) → a ≡ a' → b ≡ b' → c ≡ c' → is_nowhere F.by ≡ false → ys ≡ test true x F
    → ns ≡ test false x F → goes (P.stays p) ns ≡ false → goes (P.stays p) ys ≡ false
    → walked_of r ≡ walked P p result (block_of a) ys → walked_of q ≡ walked P p result (block_of b) ns
    → j ≡ joined_facts (walked_of r).after (walked_of q).after → walked_of o ≡ walked P p result (block_of c) j
    → IfOk z (λ w. walked_of w ≡ asked x (walked_of r) (walked_of q) (walked_of o))
    → IfOk z (λ w. walked_of w ≡ walked P p result (If x (block_of a') (block_of b') (block_of c')) F)
both_from P p result x a b c a' b' c' F ys ns j r q o z ea eb ec n yi ni nn ny fr sq jo lo h =
    let W : Block → Facts → Walked = λ a F. walked P p result a F in
    let first : walked_of r ≡ W (block_of a') (test true x F) =
    fr ∙ ap (λ (t : Tree). W (block_of t) ys) ea ∙ ap (λ (F : Facts). W (block_of a') F) yi in
    let second : walked_of q ≡ W (block_of b') (test false x F) =
    sq ∙ ap (λ (t : Tree). W (block_of t) ns) eb ∙ ap (λ (F : Facts). W (block_of b') F) ni in
    let last : walked_of o ≡ W (block_of c') (joined_facts (walked_of r).after (walked_of q).after) =
    lo ∙ ap (λ (t : Tree). W (block_of t) j) ec ∙ ap (λ (F : Facts). W (block_of c') F) jo in
    let same : asked x (walked_of r) (walked_of q) (walked_of o)
    ≡ asked x (W (block_of a') (test true x F)) (W (block_of b') (test false x F))
    (W (block_of c') (joined_facts (W (block_of a') (test true x F)).after (W (block_of b') (test false x F)).after)) =
    ap (λ (o : Walked). asked x (walked_of r) (walked_of q) o) last
    ∙ ap (λ (r : Walked). asked x r (walked_of q) (W (block_of c') (joined_facts r.after (walked_of q).after))) first
    ∙ ap (λ (q : Walked). asked x (W (block_of a') (test true x F)) q
    (W (block_of c') (joined_facts (W (block_of a') (test true x F)).after q.after))) second in
    on_ok z _ _ h
    (same
    ∙ both_on P p result x (block_of a') (block_of b') (block_of c') F n
    (ap (λ (F : Facts). goes (P.stays p) F) (sym ni) ∙ nn) (ap (λ (F : Facts). goes (P.stays p) F) (sym yi) ∙ ny))

pub ruleset walks = (on_ok, walked_nowhere, end_on, set_on, store_on, store_at_on, call_on, select_on, return_on, while_on, first_on, second_on, both_on)
