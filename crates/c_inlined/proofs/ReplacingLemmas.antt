-- A call that is replaced, and one that stays.
use Rattle.std.proofs.Common.{◌≡◌, ◌≢◌, ◌<◌, ℕ, zero, suc, true, List, [], ◌∷◌, length, Option, Some, None, slice_get}
use Rattle.std.proofs.Common.{get_or, refl, sym, ap, ◌∙◌, subst, arith}
use Rattle.std.proofs.lemmas.Option.{slice_get-get_or}
use Rattle.std.proofs.lemmas.List.{length-map}
use Rattle.flow_base.specs.Lists.{items_of}
use Rattle.c_subset.specs.declared.trees.CType.{CType}
use Rattle.c_subset.specs.declared.trees.Case.{Case}
use Rattle.c_subset.specs.declared.trees.CExpr as declared_expr
use Rattle.c_subset.specs.declared.trees.Function as declared_function
use Rattle.c_subset.specs.Trees.{CExpr, Local, Function}
use Rattle.c_subset.specs.Trees.{Block, End, Set, Store, StoreAt, Call, Select, If, While, Return}
use Rattle.c_subset.specs.Lines.{IsFunction, expr_of, exprs_of}
use Rattle.c_bare.specs.Bare.{AreFunctions}
use Rattle.c_placing.specs.Placing.{placed, set_parameters}
use Rattle.c_inlined.specs.Continued.{can_go_on}
use Rattle.c_inlined.specs.Inlined.{IsInlined, Ends, Sets, Stores, StoresAt, Calls, Selects, Asks, Turns, Returning}
use Rattle.c_inlined.specs.Inlined.{Opened, HandedOn, opened, handed_on}

module _ (gs : List Function) (p : ℕ) (result : CType) (n : ℕ) where
  -- it stays
  pub stays : (t : CType) (i f : ℕ) (args : List CExpr) (a a' whole : Block) → IsInlined gs p result n a a'
      → whole ≡ Call t i f args a' → IsInlined gs p result n (Call t i f args a) whole
  stays t i f args a a' whole is e = subst (IsInlined gs p result n (Call t i f args a)) (sym e) (Calls t i f args a a' is)

  -- the body goes on where it returns
  pub opens : (t : CType) (i f : ℕ) (g : Function) (args : List CExpr) (a a' body whole : Block) → f ≢ p
      → slice_get gs f ≡ Some g → length args ≡ length g.parameters → body ≡ placed n g.body
      → can_go_on body ≡ true → IsInlined gs p result n a a' → whole ≡ opened n t i g args a'
      → IsInlined gs p result n (Call t i f args a) whole
  opens t i f g args a a' body whole other there count is can rest e =
      subst (IsInlined gs p result n (Call t i f args a)) (sym e)
      (Opened t i f g args a a' other there count (subst (λ (b : Block). can_go_on b ≡ true) is can) rest)

  -- the body returns
  pub hands-on : (t : CType) (i f : ℕ) (g : Function) (args : List CExpr) (a body whole : Block)
      (types : List CType) → f ≢ p → slice_get gs f ≡ Some g → length args ≡ length g.parameters
      → types ≡ g.parameters → g.result ≡ result → t ≡ result → a ≡ Return (Local t i)
      → body ≡ placed n g.body → whole ≡ set_parameters n 0 types args body
      → IsInlined gs p result n (Call t i f args a) whole
  hands-on t i f g args a body whole types other there count same own to last is e =
      subst (IsInlined gs p result n (Call t i f args a))
      (sym (e ∙ ap (λ (ts : List CType). set_parameters n 0 ts args body) same
      ∙ ap (λ (b : Block). set_parameters n 0 g.parameters args b) is))
      (subst (λ (b : Block). IsInlined gs p result n (Call t i f args b) (handed_on n g args)) (sym last)
      (subst (λ (u : CType). IsInlined gs p result n (Call u i f args (Return (Local u i))) (handed_on n g args))
      (sym to) (HandedOn i f g args other there count own)))

-- as many arguments as parameters
pub as-many : (args : List declared_expr.CExpr) (f : declared_function.Function) (g : Function)
    → length args ≡ length (items_of f.parameters) → IsFunction f g → length (exprs_of args) ≡ length g.parameters
as-many args f g count is = length-map args expr_of ∙ count ∙ ap (λ (ts : List CType). length ts) is.parameters

-- what is read at an index is there
pub found : (fs : List declared_function.Function) (i : ℕ) (f : declared_function.Function) → i < length fs
    → f ≡ get_or fs i f → slice_get fs i ≡ Some f
found fs i f within is = slice_get-get_or fs i f within ∙ ap (λ (x : declared_function.Function). Some x) (sym is)

-- a function of the code is one of the file
pub there : (fs : List declared_function.Function) (gs : List Function) → AreFunctions fs gs → (i : ℕ)
    (f : declared_function.Function) → slice_get fs i ≡ Some f
    → (g : Function) × (slice_get gs i ≡ Some g) × IsFunction f g
there fs gs are i f here = at (slice_get gs i) refl where
  within : (xs : List declared_function.Function) (j : ℕ) → slice_get xs j ≡ Some f → j < length xs
  within [] zero e = absurd cc
  within [] (suc j) e = absurd cc
  within (x ∷ xs) zero e = omega arith
  within (x ∷ xs) (suc j) e = omega (arith, within xs j e)

  nothing : (ys : List Function) (j : ℕ) → j < length ys → slice_get ys j ≡ None → ⊥
  nothing [] j lt e = absurd (omega (arith, lt))
  nothing (y ∷ ys) zero lt e = absurd cc
  nothing (y ∷ ys) (suc j) lt e = nothing ys j (omega (arith, lt)) e

  at : (o : Option Function) → slice_get gs i ≡ o → (g : Function) × (slice_get gs i ≡ Some g) × IsFunction f g
  at None e = absurd (nothing gs i (omega (arith, within fs i here, are.count)) e)
  at (Some g) e = (g, e, are.each i f g here e)

-- ---- statements that stay, with others after them

module _ (gs : List Function) (p : ℕ) (result : CType) (n : ℕ) where
  abbrev Is : Block → Block → Type 0
  Is a b = IsInlined gs p result n a b

  pub sets : (t : CType) (i : ℕ) (e : CExpr) (a a' whole : Block) → Is a a' → whole ≡ Set t i e a
      → Is whole (Set t i e a')
  sets t i e a a' whole is same = subst (λ (b : Block). Is b (Set t i e a')) (sym same) (Sets t i e a a' is)

  pub stores : (f : ℕ) (e : CExpr) (a a' whole : Block) → Is a a' → whole ≡ Store f e a → Is whole (Store f e a')
  stores f e a a' whole is same = subst (λ (b : Block). Is b (Store f e a')) (sym same) (Stores f e a a' is)

  pub stores-at : (r : ℕ) (i e : CExpr) (a a' whole : Block) → Is a a' → whole ≡ StoreAt r i e a
      → Is whole (StoreAt r i e a')
  stores-at r i e a a' whole is same =
      subst (λ (b : Block). Is b (StoreAt r i e a')) (sym same) (StoresAt r i e a a' is)

  pub selects : (t : CType) (i : ℕ) (e : CExpr) (cases : List Case) (args : List CExpr) (a a' whole : Block) → Is a a'
      → whole ≡ Select t i e cases args a → Is whole (Select t i e cases args a')
  selects t i e cases args a a' whole is same =
      subst (λ (b : Block). Is b (Select t i e cases args a')) (sym same) (Selects t i e cases args a a' is)

  pub asks : (e : CExpr) (a b c a' b' c' whole : Block) → Is a a' → Is b b' → Is c c' → whole ≡ If e a b c
      → Is whole (If e a' b' c')
  asks e a b c a' b' c' whole first second rest same =
      subst (λ (w : Block). Is w (If e a' b' c')) (sym same) (Asks e a b c a' b' c' first second rest)

  pub turns : (e : CExpr) (a b a' b' whole : Block) → Is a a' → Is b b' → whole ≡ While e a b
      → Is whole (While e a' b')
  turns e a b a' b' whole first rest same =
      subst (λ (w : Block). Is w (While e a' b')) (sym same) (Turns e a b a' b' first rest)

  pub ends : (whole : Block) → whole ≡ End → Is whole whole
  ends whole same = subst (λ (w : Block). Is w w) (sym same) Ends

  pub returns : (e : CExpr) (whole : Block) → whole ≡ Return e → Is whole whole
  returns e whole same = subst (λ (w : Block). Is w w) (sym same) (Returning e)
