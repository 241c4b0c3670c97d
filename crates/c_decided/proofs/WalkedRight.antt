-- What is made of statements does what they do.
use Rattle.std.proofs.Common.{◌≡◌, ◌&&◌, not, ℕ, Bool, true, false, cond, refl, List, [], ◌∷◌, Some}
use Rattle.c_subset.specs.declared.trees.Width.{Width}
use Rattle.c_subset.specs.declared.trees.CType.{CType}
use Rattle.c_subset.specs.declared.trees.Case.{Case}
use Rattle.c_subset.specs.Trees.{CExpr, Block, End, Set, Store as PutField, StoreAt, Call, Select, If, While, Return}
use Rattle.c_subset.specs.Meaning.{CValue, Gives, is_true, Store, Locals, meaning}
use Rattle.c_subset.specs.Running.{with_local}
use Rattle.c_facts.specs.Known.{Never}
use Rattle.c_facts.specs.Facts.{all_covered, covers}
use Rattle.c_facts.specs.Asking.{stored, may_store}
use Rattle.c_facts.proofs.Holding.{covers-holds}
use Rattle.c_facts.proofs.Touching.{all-touch, stores-within}
use Rattle.c_decided.specs.Facts.{Facts, Holds, Implies, alone}
use Rattle.c_decided.specs.Numbered.{all_of, is_nowhere, joined_facts, covers_by, brought}
use Rattle.c_decided.specs.Decided.{Plan, IsDecided, Unreached, Weakens, Ends, Sets, Stores, StoresAt, Calls}
use Rattle.c_decided.specs.Decided.{Selects, Asks, TakesFirst, TakesSecond, Loops, Returning, MayCall, EachCase}
use Rattle.c_decided.specs.Walk.{each_fact, test, by_value, after_set, after_call, may_call, may_call_each, after_cases}
use Rattle.c_decided.specs.Walk.{nothing, Walked, unreached, reached, goes, put_before, in_turn, asked, looped, walked}
use Rattle.c_decided.proofs.Numbering.{and-true, nowhere-holds, covers-by-holds, brought-holds, joined-facts-first}
use Rattle.c_decided.proofs.Numbering.{joined-facts-second}
use Rattle.c_decided.proofs.Stepping.{all-of-holds, nothing-holds, test-holds, by-value-holds, after-set-holds}
use Rattle.c_decided.proofs.Stepping.{after-store-holds, after-call-holds}

module _ (int : Width) (P : Plan) (p : ℕ) (result : CType) where
  -- where what was gone through is right, the statements are decided
  abbrev pub IsWalked : Block → Facts → Walked → Type 0
  IsWalked a F r = r.right ≡ true → IsDecided int P p result F a r.block r.after

  is-reached : (a : Block) (F : Facts) (r : Walked) → IsWalked a F r → IsWalked a F (reached (P.stays p) a F r)
  is-reached a F r d = split (is_nowhere F.by) refl
    where
      split : (b : Bool) → is_nowhere F.by ≡ b → IsWalked a F (cond b (unreached (P.stays p) a) r)
      split true n e =
          Unreached F (alone Never) a (cond (P.stays p) a End)
          (λ s l h. nowhere-holds s F.by (l F.type F.local) n h)
      split false n e = d e

  has-gone : (stays : Bool) (F : Facts) → goes stays F ≡ true → is_nowhere F.by ≡ true
  has-gone true F e = absurd cc
  has-gone false F e = e

  turn-walked : (e : CExpr) (a b c : Block) (F : Facts) (r q : Walked)
      → ((s : Store) (l : Locals) (x : CValue) → Holds s l F → meaning int s l e ≡ Gives x → is_true x.value ≡ true)
      → IsWalked a F r → IsWalked c r.after q → IsWalked (If e a b c) F (in_turn r q)
  turn-walked e a b c F r q out first rest right =
      let both = and-true r.right q.right right in
      TakesFirst F r.after q.after e a r.block b c q.block out (first both.0) (rest both.1)

  other-walked : (e : CExpr) (a b c : Block) (F : Facts) (r q : Walked)
      → ((s : Store) (l : Locals) (x : CValue) → Holds s l F → meaning int s l e ≡ Gives x → is_true x.value ≡ false)
      → IsWalked b F r → IsWalked c r.after q → IsWalked (If e a b c) F (in_turn r q)
  other-walked e a b c F r q out first rest right =
      let both = and-true r.right q.right right in
      TakesSecond F r.after q.after e a b r.block c q.block out (first both.0) (rest both.1)

  -- a test that can't come out one way comes out the other way
  comes-out : (e : CExpr) (F : Facts) (way : Bool) → is_nowhere (test (not way) e F).by ≡ true
      → (s : Store) (l : Locals) (x : CValue) → Holds s l F → meaning int s l e ≡ Gives x → is_true x.value ≡ way
  comes-out e F way n s l x h m = split (is_true x.value) refl way n
    where
      never : (b : Bool) → is_true x.value ≡ b → is_nowhere (test b e F).by ≡ true → ⊥
      never b t n =
          nowhere-holds s (test b e F).by (l (test b e F).type (test b e F).local) n
          (test-holds int s l b e x F h m t)

      split : (b : Bool) → is_true x.value ≡ b → (way : Bool) → is_nowhere (test (not way) e F).by ≡ true → b ≡ way
      split true t true n = refl
      split true t false n = absurd (never true t n)
      split false t true n = absurd (never false t n)
      split false t false n = refl

  asked-walked : (e : CExpr) (a b c : Block) (F : Facts) (r q o : Walked) → IsWalked a (test true e F) r
      → IsWalked b (test false e F) q → IsWalked c (joined_facts r.after q.after) o
      → IsWalked (If e a b c) F (asked e r q o)
  asked-walked e a b c F r q o first second rest right =
      let one = and-true r.right (q.right && o.right) right in
      let two = and-true q.right o.right one.1 in
      let J = joined_facts r.after q.after in
      Asks F (test true e F) (test false e F) J o.after e a r.block b q.block c o.block
      (λ s l x h m t. test-holds int s l true e x F h m t) (λ s l x h m t. test-holds int s l false e x F h m t)
      (Weakens (test true e F) r.after J a r.block (λ s l h. joined-facts-first s l r.after q.after h) (first one.0))
      (Weakens (test false e F) q.after J b q.block (λ s l h. joined-facts-second s l r.after q.after h)
      (second two.0))
      (rest two.1)

  -- a test, by whether it can come out both ways
  if-walked : (e : CExpr) (a b c : Block) (F : Facts) (r q ya nb : Walked) (rest : Facts → Walked) → IsWalked a F r
      → IsWalked b F q → IsWalked a (test true e F) ya → IsWalked b (test false e F) nb
      → ((J : Facts) → IsWalked c J (rest J)) → (n y : Bool) → goes (P.stays p) (test false e F) ≡ n
      → goes (P.stays p) (test true e F) ≡ y
      → IsWalked (If e a b c) F (cond n (in_turn r (rest r.after)) (cond y (in_turn q (rest q.after))
      (asked e ya nb (rest (joined_facts ya.after nb.after)))))
  if-walked e a b c F r q ya nb rest first second yes-one no-one go true y en ey =
      turn-walked e a b c F r (rest r.after) (λ s l x h m. comes-out e F true (has-gone (P.stays p) (test false e F) en) s l x h m) first (go r.after)
  if-walked e a b c F r q ya nb rest first second yes-one no-one go false true en ey =
      other-walked e a b c F q (rest q.after) (λ s l x h m. comes-out e F false (has-gone (P.stays p) (test true e F) ey) s l x h m) second (go q.after)
  if-walked e a b c F r q ya nb rest first second yes-one no-one go false false en ey =
      asked-walked e a b c F ya nb (rest (joined_facts ya.after nb.after)) yes-one no-one
      (go (joined_facts ya.after nb.after))

  looped-walked : (e : CExpr) (a c : Block) (F : Facts) (r o : Walked) → IsWalked a (test true e nothing) r
      → IsWalked c (test false e nothing) o → IsWalked (While e a c) F (looped e r o)
  looped-walked e a c F r o first rest right =
      let both = and-true r.right o.right right in
      Loops F nothing (test true e nothing) (test false e nothing) o.after e a r.block c o.block
      (λ s l h. nothing-holds s l) (λ s l x h m t. test-holds int s l true e x nothing h m t)
      (λ s l x h m t. test-holds int s l false e x nothing h m t)
      (Weakens (test true e nothing) r.after nothing a r.block (λ s l h. nothing-holds s l) (first both.0))
      (rest both.1)

  -- ---- calls

  call-right : (F : Facts) (f : ℕ) → may_call P p F f ≡ true → MayCall P p F f
  call-right F f e =
      let both = and-true (covers (all_of F.by) (P.begins f)) (all_covered (P.touched f) (P.touched p)) e in
      record {
        begins = λ s l h. covers-holds s (all_of F.by) (P.begins f) both.0 (all-of-holds s l F h);
        within = λ q t. all-touch (P.touched f) (P.touched p) q both.1 t;
      }

  none-called : (F : Facts) (t : CType) (i : ℕ) (s : Store) (l : Locals) (cases : List Case) → Holds s l F
      → Holds s l (after_cases P t i F cases)
  none-called F t i s l [] h = h
  none-called F t i s l (x ∷ xs) h =
      joined-facts-second s l (after_call P t i x.function F) (after_cases P t i F xs) (none-called F t i s l xs h)

  each-case : (F G : Facts) (t : CType) (i : ℕ) (cases : List Case) → may_call_each P p F cases ≡ true
      → Implies (after_cases P t i F cases) G → EachCase P p F t i G cases
  each-case F G t i [] e f = tt
  each-case F G t i (x ∷ xs) e f =
      let both = and-true (may_call P p F x.function) (may_call_each P p F xs) e in
      let one = after_call P t i x.function F in
      let others = after_cases P t i F xs in (
        call-right F x.function both.0,
        (
          λ s after l z y h left same to.
              f after (with_local l t i y.value)
              (joined-facts-first after (with_local l t i y.value) one others
              (after-call-holds P s after l t i x.function z y F h left same to)),
          each-case F G t i xs both.1 (λ s l h. f s l (joined-facts-second s l one others h)),
        ),
      )

  -- ---- statements

  pub walked-right : (a : Block) (F : Facts) → IsWalked a F (walked P p result a F)
  unfolding walked
  walked-right End F = is-reached End F (record { right = true; block = End; after = F }) (λ e. Ends F)
  walked-right (Set t i e a) F =
      let G = after_set t i e F in
      is-reached (Set t i e a) F (put_before true (λ b. Set t i e b) (walked P p result a G))
      (λ r. Sets F G (walked P p result a G).after t i e a (walked P p result a G).block
      (λ s l y h m. after-set-holds int s l F h t i e y m) (walked-right a G r))
  walked-right (PutField f e a) F =
      let G = each_fact (stored f e) F in
      is-reached (PutField f e a) F
      (put_before (may_store (P.touched p) f e (all_of F.by)) (λ b. PutField f e b) (walked P p result a G))
      (λ r. let both = and-true (may_store (P.touched p) f e (all_of F.by)) (walked P p result a G).right r in
      Stores F G (walked P p result a G).after f e a (walked P p result a G).block
      (λ s l y h m. after-store-holds int s l f e y F h m)
      (λ s l y h m. stores-within int s l f e y (P.touched p) (all_of F.by) both.0 m (all-of-holds s l F h))
      (walked-right a G both.1))
  walked-right (StoreAt r i e a) F =
      is-reached (StoreAt r i e a) F (put_before true (λ b. StoreAt r i e b) (walked P p result a F))
      (λ d. StoresAt F (walked P p result a F).after r i e a (walked P p result a F).block (walked-right a F d))
  walked-right (Call t i f args a) F =
      let G = after_call P t i f F in
      is-reached (Call t i f args a) F
      (put_before (may_call P p F f) (λ b. Call t i f args b) (walked P p result a G))
      (λ d. let both = and-true (may_call P p F f) (walked P p result a G).right d in
      Calls F G (walked P p result a G).after t i f args a (walked P p result a G).block (call-right F f both.0)
      (λ s after l x y h left same to. after-call-holds P s after l t i f x y F h left same to)
      (walked-right a G both.1))
  walked-right (Select t i e cases args a) F =
      let G = after_cases P t i F cases in
      is-reached (Select t i e cases args a) F
      (put_before (may_call_each P p F cases) (λ b. Select t i e cases args b) (walked P p result a G))
      (λ d. let both = and-true (may_call_each P p F cases) (walked P p result a G).right d in
      Selects F G (walked P p result a G).after t i e cases args a (walked P p result a G).block
      (each-case F G t i cases both.0 (λ s l h. h)) (λ s l h. none-called F t i s l cases h)
      (walked-right a G both.1))
  walked-right (If e a b c) F =
      is-reached (If e a b c) F
      (cond (goes (P.stays p) (test false e F))
      (in_turn (walked P p result a F) (walked P p result c (walked P p result a F).after))
      (cond (goes (P.stays p) (test true e F))
      (in_turn (walked P p result b F) (walked P p result c (walked P p result b F).after))
      (asked e (walked P p result a (test true e F)) (walked P p result b (test false e F))
      (walked P p result c (joined_facts (walked P p result a (test true e F)).after
      (walked P p result b (test false e F)).after)))))
      (if-walked e a b c F (walked P p result a F) (walked P p result b F) (walked P p result a (test true e F))
      (walked P p result b (test false e F)) (λ J. walked P p result c J) (walked-right a F) (walked-right b F)
      (walked-right a (test true e F)) (walked-right b (test false e F)) (λ J. walked-right c J)
      (goes (P.stays p) (test false e F)) (goes (P.stays p) (test true e F)) refl refl)
  walked-right (While e a c) F =
      is-reached (While e a c) F
      (looped e (walked P p result a (test true e nothing)) (walked P p result c (test false e nothing)))
      (looped-walked e a c F (walked P p result a (test true e nothing)) (walked P p result c (test false e nothing))
      (walked-right a (test true e nothing)) (walked-right c (test false e nothing)))
  walked-right (Return e) F =
      is-reached (Return e) F
      (record {
        right = covers_by (brought result (by_value e F)) (P.leaves p);
        block = Return e;
        after = alone Never;
      })
      (λ d. Returning F (alone Never) e
      (λ s l x y h m to. covers-by-holds s (brought result (by_value e F)) (P.leaves p) (Some y.value) d
      (brought-holds s result (by_value e F) x.value y (by-value-holds int s l F h e x m) to)))
