-- Functions that passes make have the results that they had.
use Rattle.std.proofs.Common.{◌≡◌, ◌⊎◌, ◌+◌, ◌<◌, ◌≤◌, get_or, inl, inr, ℕ, zero, suc, Bool, true, false, cond, List, [], ◌∷◌, length, map, Some, slice_get, slice_set}
use Rattle.std.proofs.Common.{refl, sym, ap, ◌∙◌, subst, arith}
use Rattle.c_subset.specs.Lines.{lines_of}
use Rattle.c_subset.specs.Trees.{Function, File}
use Rattle.c_subset.specs.declared.trees.CType.{CType}
use Rattle.c_functions.specs.Plans.{Shape, react_function}
use Rattle.std.proofs.lemmas.Option.{slice_get_within, slice_get-get_or}
use Rattle.c_decided.specs.Decided.{Plan}
use Rattle.c_decided.specs.Made.{FileIsMade}
use Rattle.c_loops.specs.Loops.{looped, loops_from, may_loop, turned}
use Rattle.c_bare.specs.Needs.{is_bare}
use Rattle.c_bare.specs.Bare.{handed, bared, bared_from}
use Rattle.c_passes.specs.Standing.{HasHead}

-- the same function
same_function : (f g : Function) → Some f ≡ Some g → f ≡ g
same_function f g e = cc

-- one of these functions has the result and the parameters of another one
pub record HasHeadOf (fs : List Function) (f : ℕ) (g : Function) : Type 0 where
  pub function : Function
  pub there : slice_get fs f ≡ Some function
  pub result : function.result ≡ g.result
  pub parameters : function.parameters ≡ g.parameters

-- ---- decided tests

-- a function of a file with decided tests has the result and the parameters of that of the file
pub decided_head : (P : Plan) (file made : File) → FileIsMade P file made → (f : ℕ) (g : Function)
    → slice_get made.functions f ≡ Some g → HasHeadOf file.functions f g
decided_head P file made is f g there =
    let within : f < length made.functions = slice_get_within made.functions f g there in
    let own : Function = get_or file.functions f g in
    let own_there : slice_get file.functions f ≡ Some own =
    slice_get-get_or file.functions f g (omega (arith, within, is.count)) in
    let (g', at, one) = is.each f own own_there in
    let same : g' ≡ g = same_function g' g (sym at ∙ there) in
    record {
      function = own;
      there = own_there;
      result = sym one.result ∙ ap (λ (h : Function). h.result) same;
      parameters = sym one.parameters ∙ ap (λ (h : Function). h.parameters) same;
    }

-- ---- loops

-- a function as a loop has the result and the parameters that it had
same_result : (p : ℕ) (f : Function) → f.result ≡ (looped p f).result
same_result p f = at (may_loop f.result f.parameters (length (lines_of f.body)))
  where
    at : (b : Bool) → f.result ≡ (cond b (record f { body = turned p f.body }) f).result
    at true = refl
    at false = refl

same_parameters : (p : ℕ) (f : Function) → f.parameters ≡ (looped p f).parameters
same_parameters p f = at (may_loop f.result f.parameters (length (lines_of f.body)))
  where
    at : (b : Bool) → f.parameters ≡ (cond b (record f { body = turned p f.body }) f).parameters
    at true = refl
    at false = refl

-- so each function of a file with loops has those of the file
pub loop_head : (fs : List Function) (p n f : ℕ) (g : Function) → slice_get (loops_from p n fs) f ≡ Some g
    → HasHeadOf fs f g
loop_head fs p zero f g there = record { function = g; there = there; result = refl; parameters = refl }
loop_head [] p (suc n) zero g there = absurd cc
loop_head [] p (suc n) (suc f) g there = absurd cc
loop_head (x ∷ fs) p (suc n) zero g there =
    let same = same_function (looped p x) g there in record {
      function = x;
      there = refl;
      result = same_result p x ∙ ap (λ (h : Function). h.result) same;
      parameters = same_parameters p x ∙ ap (λ (h : Function). h.parameters) same;
    }
loop_head (x ∷ fs) p (suc n) (suc f) g there =
    let more = loop_head fs (suc p) n f g there in record {
      function = more.function;
      there = more.there;
      result = more.result;
      parameters = more.parameters;
    }

-- a function after these is as it was
pub past_loops : (fs : List Function) (p n i : ℕ) → n ≤ i → slice_get (loops_from p n fs) i ≡ slice_get fs i
past_loops fs p zero i past = refl
past_loops [] p (suc n) i past = refl
past_loops (f ∷ fs) p (suc n) zero past = absurd (omega (arith, past))
past_loops (f ∷ fs) p (suc n) (suc i) past = past_loops fs (suc p) n i (omega (arith, past))

-- with loops there are as many
pub loops_count : (fs : List Function) (p n : ℕ) → length (loops_from p n fs) ≡ length fs
loops_count fs p zero = refl
loops_count [] p (suc n) = refl
loops_count (f ∷ fs) p (suc n) = ap suc (loops_count fs (suc p) n)

-- ---- bare functions

-- one of these functions has the result of another one, and that the parameters of a bare function or of another
pub record IsBareOf (flags : List Bool) (p : ℕ) (fs : List Function) (f : ℕ) (g : Function) : Type 0 where
  pub number : ℕ
  pub function : Function
  pub is_number : number ≡ p + f
  pub there : slice_get fs f ≡ Some function
  pub result : g.result ≡ function.result
  pub parameters : g.parameters ≡ handed flags number function.parameters

-- so has each function of a file with bare functions
pub bare_head : (flags : List Bool) (fs : List Function) (p f : ℕ) (g : Function)
    → slice_get (bared_from flags p fs) f ≡ Some g → IsBareOf flags p fs f g
bare_head flags [] p zero g there = absurd cc
bare_head flags [] p (suc f) g there = absurd cc
bare_head flags (x ∷ fs) p zero g there =
    let same = same_function (bared flags p x) g there in record {
      number = p;
      function = x;
      is_number = omega arith;
      there = refl;
      result = sym (ap (λ (h : Function). h.result) same);
      parameters = sym (ap (λ (h : Function). h.parameters) same);
    }
bare_head flags (x ∷ fs) p (suc f) g there =
    let more = bare_head flags fs (suc p) f g there in record {
      number = more.number;
      function = more.function;
      is_number = omega (arith, more.is_number);
      there = more.there;
      result = more.result;
      parameters = more.parameters;
    }

-- there are as many of them
pub bare_count : (flags : List Bool) (fs : List Function) (p : ℕ) → length (bared_from flags p fs) ≡ length fs
bare_count flags [] p = refl
bare_count flags (f ∷ fs) p = ap suc (bare_count flags fs (suc p))

-- what is handed to a function is all or nothing
all_or_nothing : (b : Bool) (ts us : List CType) → (us ≡ ts) ⊎ (us ≡ [])
    → (cond b [] us ≡ ts) ⊎ (cond b [] us ≡ [])
all_or_nothing true ts us h = inr refl
all_or_nothing false ts us h = h

-- ---- functions that are made of others, each by itself

-- each has the result and the parameters of that of which it is made
pub map_head : (turn : Function → Function) → ((f : Function) → (turn f).result ≡ f.result)
    → ((f : Function) → (turn f).parameters ≡ f.parameters) → (fs : List Function) (f : ℕ) (g : Function)
    → slice_get (map turn fs) f ≡ Some g → HasHeadOf fs f g
map_head turn results parameters [] zero g there = absurd cc
map_head turn results parameters [] (suc f) g there = absurd cc
map_head turn results parameters (x ∷ fs) zero g there =
    let same = same_function (turn x) g there in record {
      function = x;
      there = refl;
      result = sym (results x) ∙ ap (λ (h : Function). h.result) same;
      parameters = sym (parameters x) ∙ ap (λ (h : Function). h.parameters) same;
    }
map_head turn results parameters (x ∷ fs) (suc f) g there =
    let more = map_head turn results parameters fs f g there in record {
      function = more.function;
      there = more.there;
      result = more.result;
      parameters = more.parameters;
    }

-- there are as many of them
pub map_count : (turn : Function → Function) (fs : List Function) → length (map turn fs) ≡ length fs
map_count turn [] = refl
map_count turn (f ∷ fs) = ap suc (map_count turn fs)

-- ---- one function is another one

-- there are as many of them
pub set_count : (fs : List Function) (p : ℕ) (f : Function) → length (slice_set fs p f) ≡ length fs
set_count [] p f = refl
set_count (x ∷ fs) zero f = refl
set_count (x ∷ fs) (suc p) f = ap suc (set_count fs p f)

-- each has the result and the parameters of that with its number, where the other one has those of the one before
pub set_head : (fs : List Function) (p : ℕ) (made own : Function) → slice_get fs p ≡ Some own
    → own.result ≡ made.result → own.parameters ≡ made.parameters → (f : ℕ) (g : Function)
    → slice_get (slice_set fs p made) f ≡ Some g → HasHeadOf fs f g
set_head [] zero made own here result parameters f g there = absurd cc
set_head [] (suc p) made own here result parameters f g there = absurd cc
set_head (x ∷ fs) zero made own here result parameters zero g there =
    let same = same_function made g there in
    let before = same_function x own here in record {
      function = x;
      there = refl;
      result = ap (λ (h : Function). h.result) before ∙ result ∙ ap (λ (h : Function). h.result) same;
      parameters =
          ap (λ (h : Function). h.parameters) before ∙ parameters ∙ ap (λ (h : Function). h.parameters) same;
    }
set_head (x ∷ fs) zero made own here result parameters (suc f) g there =
    record { function = g; there = there; result = refl; parameters = refl }
set_head (x ∷ fs) (suc p) made own here result parameters zero g there =
    record { function = g; there = there; result = refl; parameters = refl }
set_head (x ∷ fs) (suc p) made own here result parameters (suc f) g there =
    let more = set_head fs p made own here result parameters f g there in record {
      function = more.function;
      there = more.there;
      result = more.result;
      parameters = more.parameters;
    }

-- ---- both

-- a function as it is
pub own_head : (K : Shape) (file : File) (f : ℕ) (g : Function) → slice_get file.functions f ≡ Some g
    → HasHead K file f g
own_head K file f g there = record {
  function = g;
  there = there;
  result = refl;
  parameters = inl refl;
  reaction = λ is. refl;
}

-- one that has the result and the parameters of another one, which has its own
pub kept_head : (K : Shape) (file : File) (f : ℕ) (g h : Function) → h.result ≡ g.result
    → h.parameters ≡ g.parameters → HasHead K file f h → HasHead K file f g
kept_head K file f g h result parameters head = record {
  function = head.function;
  there = head.there;
  result = sym result ∙ head.result;
  parameters =
      subst (λ (ts : List CType). (ts ≡ head.function.parameters) ⊎ (ts ≡ [])) parameters head.parameters;
  reaction = λ is. sym parameters ∙ head.reaction is;
}

-- one that may be bare, where the reaction isn't
pub fewer_head : (K : Shape) (file : File) (flags : List Bool) (f : ℕ) (g h : Function)
    → is_bare flags (react_function K) ≡ false → g.result ≡ h.result → g.parameters ≡ handed flags f h.parameters
    → HasHead K file f h → HasHead K file f g
fewer_head K file flags f g h reaction result parameters head = record {
  function = head.function;
  there = head.there;
  result = result ∙ head.result;
  parameters =
      subst (λ (ts : List CType). (ts ≡ head.function.parameters) ⊎ (ts ≡ [])) (sym parameters)
      (all_or_nothing (is_bare flags f) head.function.parameters h.parameters head.parameters);
  reaction =
      λ is. parameters
      ∙ ap (λ (b : Bool). cond b [] h.parameters) (ap (is_bare flags) is ∙ reaction) ∙ head.reaction is;
}
