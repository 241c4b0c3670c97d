-- What calls of functions stand for is what the first function of the name says.
use Rattle.std.proofs.Common.{◌≡◌, ℕ, List, [], ◌∷◌, ◌++◌, Bool, true, false, Option, Some, None, refl, ap, ◌∙◌, sym}
use Rattle.std.proofs.Common.{subst, if◌then◌else◌, is_some}
use Rattle.std.specs.Prelude.{bytes_eq}
use Rattle.std.proofs.lemmas.Slice.Eq.{bytes_eq-Decides}
use Rattle.flow_base.specs.Names.{index_of, after}
use Rattle.chart_tree.specs.declared.name.NameText.{NameText}
use Rattle.chart_tree.specs.Trees as core
use Rattle.statechart_tree.specs.Trees.{Expr, Stmt, Body, Block, Value, Function}
use Rattle.statechart_meaning.specs.Scope.{Declared, Frame, Calls}
use Rattle.statechart_meaning.specs.Expressions.{expand_expr}
use Rattle.statechart_meaning.specs.Statements.{expand_block}
use Rattle.statechart_meaning.specs.Functions.{no_calls, scope_in, body_value, body_block, and_function, with_function}
use Rattle.statechart_meaning.specs.Functions.{calls_after, calls_of}
use Rattle.statechart_expressions.specs.Called.{Called, called_behind, called}

-- whether a name is among names
abbrev has : List ℕ → List (List ℕ) → Bool
has name names = is_some (index_of name names)

-- a name and others
there-next : (name x : List ℕ) (xs : List (List ℕ)) → has name (x ∷ xs) ≡ (if bytes_eq x name then true else has name xs)
there-next name x xs = by (bytes_eq x name) (index_of name xs)
  where
    by : (b : Bool) (o : Option ℕ) → is_some (if b then Some 0 else after o) ≡ (if b then true else is_some o)
    by true o = refl
    by false None = refl
    by false (Some n) = refl

module _ (frames : List Frame) (declared : Declared) where
  -- one function more, where the calls are these
  abbrev chosen : Bool → Calls → Function → Calls
  chosen b calls f = if b then calls else and_function frames declared calls f

  calls-more : (calls : Calls) (fs : List Function) (f : Function)
      → calls_after frames declared calls (fs ++ f ∷ [])
      ≡ with_function frames declared (calls_after frames declared calls fs) f
  calls-more calls [] f = refl
  calls-more calls (g ∷ gs) f = calls-more (with_function frames declared calls g) gs f

  -- what calls of one name stand for
  module _ {A : Type 0} (get : Calls → A) (here : Calls → Function → A) (nothing : A) (name : List ℕ)
      (one : (calls : Calls) (f : Function)
      → get (and_function frames declared calls f) ≡ (if bytes_eq f.name.text name then here calls f else get calls))
      (none : get no_calls ≡ nothing) where
    -- what the function says, where it is the one
    abbrev said : Option Called → A
    said None = nothing
    said (Some c) = here (calls_of frames declared c.above) c.function

    -- a name that has a function keeps it
    kept-one : (calls : Calls) (f : Function) → has name calls.names ≡ true
        → get (with_function frames declared calls f) ≡ get calls
    kept-one calls f there = by (has f.name.text calls.names) refl
      where
        differs : (b : Bool) → has f.name.text calls.names ≡ false → bytes_eq f.name.text name ≡ b
            → (if b then here calls f else get calls) ≡ get calls
        differs true new same =
            let e : f.name.text ≡ name = (bytes_eq-Decides f.name.text name).0 same in
            let other : has name calls.names ≡ false = subst (λ (x : List ℕ). has x calls.names ≡ false) e new in
            absurd cc
        differs false new same = refl

        by : (b : Bool) → has f.name.text calls.names ≡ b → get (chosen b calls f) ≡ get calls
        by true is = refl
        by false is = one calls f ∙ differs (bytes_eq f.name.text name) is refl

    there-one : (calls : Calls) (f : Function) → has name calls.names ≡ true
        → has name (with_function frames declared calls f).names ≡ true
    there-one calls f there = by (has f.name.text calls.names)
      where
        both : (b : Bool) → (if b then true else has name calls.names) ≡ true
        both true = refl
        both false = there

        by : (b : Bool) → has name (chosen b calls f).names ≡ true
        by true = there
        by false = there-next name f.name.text calls.names ∙ both (bytes_eq f.name.text name)

    kept : (calls : Calls) (fs : List Function) → has name calls.names ≡ true
        → get (calls_after frames declared calls fs) ≡ get calls
    kept calls [] there = refl
    kept calls (f ∷ fs) there =
        kept (with_function frames declared calls f) fs (there-one calls f there) ∙ kept-one calls f there

    -- a function of another name
    other-names : (calls : Calls) (f : Function) → has name calls.names ≡ false → bytes_eq f.name.text name ≡ false
        → has name (with_function frames declared calls f).names ≡ false
    other-names calls f new differ = by (has f.name.text calls.names)
      where
        by : (b : Bool) → has name (chosen b calls f).names ≡ false
        by true = new
        by false =
            there-next name f.name.text calls.names
            ∙ ap (λ (b : Bool). if b then true else has name calls.names) differ ∙ new

    other-one : (calls : Calls) (f : Function) → bytes_eq f.name.text name ≡ false
        → get (with_function frames declared calls f) ≡ get calls
    other-one calls f differ = by (has f.name.text calls.names)
      where
        by : (b : Bool) → get (chosen b calls f) ≡ get calls
        by true = refl
        by false = one calls f ∙ ap (λ (b : Bool). if b then here calls f else get calls) differ

    -- the first function of the name
    first-one : (calls : Calls) (f : Function) → has name calls.names ≡ false → bytes_eq f.name.text name ≡ true
        → (get (with_function frames declared calls f) ≡ here calls f)
        × (has name (with_function frames declared calls f).names ≡ true)
    first-one calls f new same = by (has f.name.text calls.names) refl
      where
        by : (b : Bool) → has f.name.text calls.names ≡ b
            → (get (chosen b calls f) ≡ here calls f) × (has name (chosen b calls f).names ≡ true)
        by true is =
            let e : f.name.text ≡ name = (bytes_eq-Decides f.name.text name).0 same in
            let there : has name calls.names ≡ true = subst (λ (x : List ℕ). has x calls.names ≡ true) e is in
            absurd cc
        by false is = (
          one calls f ∙ ap (λ (b : Bool). if b then here calls f else get calls) same,
          there-next name f.name.text calls.names
              ∙ ap (λ (b : Bool). if b then true else has name calls.names) same,
        )

    said-behind : (above fs : List Function) → has name (calls_of frames declared above).names ≡ false
        → get (calls_of frames declared above) ≡ nothing
        → get (calls_after frames declared (calls_of frames declared above) fs) ≡ said (called_behind above fs name)
    said-behind above [] new unknown = unknown
    said-behind above (f ∷ fs) new unknown =
        by (bytes_eq f.name.text name) refl
        (λ differ.
        said-behind (above ++ f ∷ []) fs
        (ap (λ (c : Calls). has name c.names) more ∙ other-names (calls_of frames declared above) f new differ)
        (ap get more ∙ other-one (calls_of frames declared above) f differ ∙ unknown))
      where
        more : calls_of frames declared (above ++ f ∷ [])
            ≡ with_function frames declared (calls_of frames declared above) f
        more = calls-more no_calls above f

        by : (b : Bool) → bytes_eq f.name.text name ≡ b
            → (bytes_eq f.name.text name ≡ false
            → get (calls_after frames declared (calls_of frames declared (above ++ f ∷ [])) fs)
            ≡ said (called_behind (above ++ f ∷ []) fs name))
            → get (calls_after frames declared (with_function frames declared (calls_of frames declared above) f) fs)
            ≡ said (if b then Some (record { function = f; above = above }) else called_behind (above ++ f ∷ []) fs name)
        by true is behind =
            let first = first-one (calls_of frames declared above) f new is in
            kept (with_function frames declared (calls_of frames declared above) f) fs first.1 ∙ first.0
        by false is behind =
            ap (λ (c : Calls). get (calls_after frames declared c fs)) (sym more) ∙ behind is

    pub said-by : (fs : List Function) → get (calls_of frames declared fs) ≡ said (called fs name)
    said-by fs = said-behind [] fs refl none

  -- the value of a function, or its statements
  abbrev pub value_by : Option Called → NameText → List core.Expr → core.Expr
  value_by None name values = core.Name name
  value_by (Some c) name values =
      body_value (scope_in frames declared (calls_of frames declared c.above) c.function values) c.function.body name

  abbrev pub block_by : Option Called → List core.Expr → List core.Stmt
  block_by None values = []
  block_by (Some c) values =
      body_block (scope_in frames declared (calls_of frames declared c.above) c.function values) c.function.body

  pub value-called : (fs : List Function) (name : NameText) (values : List core.Expr)
      → (calls_of frames declared fs).value name values ≡ value_by (called fs name.text) name values
  value-called fs name values =
      said-by (λ (c : Calls). c.value name values)
      (λ (c : Calls) (f : Function). body_value (scope_in frames declared c f values) f.body name) (core.Name name)
      name.text (λ calls f. refl) refl fs
      ∙ as_value (called fs name.text)
    where
      as_value : (o : Option Called)
          → said (λ (c : Calls). c.value name values)
          (λ (c : Calls) (f : Function). body_value (scope_in frames declared c f values) f.body name) (core.Name name)
          name.text (λ calls f. refl) refl o
          ≡ value_by o name values
      as_value None = refl
      as_value (Some c) = refl

  pub block-called : (fs : List Function) (name : NameText) (values : List core.Expr)
      → (calls_of frames declared fs).block name values ≡ block_by (called fs name.text) values
  block-called fs name values =
      said-by (λ (c : Calls). c.block name values)
      (λ (c : Calls) (f : Function). body_block (scope_in frames declared c f values) f.body) []
      name.text (λ calls f. refl) refl fs
      ∙ as_block (called fs name.text)
    where
      as_block : (o : Option Called)
          → said (λ (c : Calls). c.block name values)
          (λ (c : Calls) (f : Function). body_block (scope_in frames declared c f values) f.body) []
          name.text (λ calls f. refl) refl o
          ≡ block_by o values
      as_block None = refl
      as_block (Some c) = refl

  -- the value, where there is no function, where it has statements, and where it has a value
  pub value-none : (fs : List Function) (name : NameText) (values : List core.Expr) → called fs name.text ≡ None
      → (calls_of frames declared fs).value name values ≡ core.Name name
  value-none fs name values e =
      value-called fs name values ∙ ap (λ (o : Option Called). value_by o name values) e

  pub value-block : (fs : List Function) (name : NameText) (values : List core.Expr) (c : Called) (stmts : List Stmt)
      → called fs name.text ≡ Some c → c.function.body ≡ Block stmts
      → (calls_of frames declared fs).value name values ≡ core.Name name
  value-block fs name values c stmts e body =
      value-called fs name values ∙ ap (λ (o : Option Called). value_by o name values) e
      ∙ ap (λ (b : Body). body_value (scope_in frames declared (calls_of frames declared c.above) c.function values) b name)
      body

  pub value-value : (fs : List Function) (name : NameText) (values : List core.Expr) (c : Called) (x : Expr)
      → called fs name.text ≡ Some c → c.function.body ≡ Value x
      → (calls_of frames declared fs).value name values
      ≡ expand_expr (scope_in frames declared (calls_of frames declared c.above) c.function values) x
  value-value fs name values c x e body =
      value-called fs name values ∙ ap (λ (o : Option Called). value_by o name values) e
      ∙ ap (λ (b : Body). body_value (scope_in frames declared (calls_of frames declared c.above) c.function values) b name)
      body

  -- the statements, where there is no function, where it has a value, and where it has statements
  pub block-none : (fs : List Function) (name : NameText) (values : List core.Expr) → called fs name.text ≡ None
      → (calls_of frames declared fs).block name values ≡ []
  block-none fs name values e = block-called fs name values ∙ ap (λ (o : Option Called). block_by o values) e

  pub block-value : (fs : List Function) (name : NameText) (values : List core.Expr) (c : Called) (x : Expr)
      → called fs name.text ≡ Some c → c.function.body ≡ Value x
      → (calls_of frames declared fs).block name values ≡ []
  block-value fs name values c x e body =
      block-called fs name values ∙ ap (λ (o : Option Called). block_by o values) e
      ∙ ap (λ (b : Body). body_block (scope_in frames declared (calls_of frames declared c.above) c.function values) b)
      body

  pub block-block : (fs : List Function) (name : NameText) (values : List core.Expr) (c : Called) (stmts : List Stmt)
      → called fs name.text ≡ Some c → c.function.body ≡ Block stmts
      → (calls_of frames declared fs).block name values
      ≡ expand_block (scope_in frames declared (calls_of frames declared c.above) c.function values) stmts
  block-block fs name values c stmts e body =
      block-called fs name values ∙ ap (λ (o : Option Called). block_by o values) e
      ∙ ap (λ (b : Body). body_block (scope_in frames declared (calls_of frames declared c.above) c.function values) b)
      body
