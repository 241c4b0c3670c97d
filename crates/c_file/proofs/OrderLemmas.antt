-- The order in which functions are written, and which of them are called before they stand.
use Rattle.std.proofs.Common.{◌≡◌, ◌≢◌, ◌==◌, ◌+◌, ◌<◌, ◌≤◌, ◌&&◌, ◌||◌, not, ℕ, zero, suc, Bool, true, false, cond, List, []}
use Rattle.std.proofs.Common.{◌∷◌, ◌++◌, length, drop, filter, replicate, Some, slice_get, slice_index_or, slice_set, get_or}
use Rattle.std.proofs.Common.{refl, sym, ap, ◌∙◌, subst, arith, append_assoc, Option}
use Rattle.std.specs.Option.{option_map_or}
use Rattle.std.specs.List.{All, list_any}
use Rattle.std.proofs.lemmas.Bool.{and_parts, or_parts, not-true}
use Rattle.std.proofs.lemmas.Cmp.{nat_eq_equiv}
use Rattle.std.proofs.lemmas.List.{at_drop_more, at_drop_all, append-nil, length-replicate}
use Rattle.std.proofs.lemmas.List.Elements.{All-nil, All-cons, All-filter}
use Rattle.std.proofs.lemmas.Option.{slice_get-get_or}
use Rattle.code_shrink.proofs.Marking.{set_size}
use Rattle.c_subset.specs.Trees.{Function}
use Rattle.c_subset.specs.Lines.{lines_of}
use Rattle.c_text.specs.Labels.{Labels}
use Rattle.c_file.specs.declared.calls.FunctionCall.{FunctionCall}
use Rattle.c_file.specs.Calls.{calls_in}
use Rattle.c_file.specs.Reached.{IsFlagged, is_written, outside_of, AreReached}
use Rattle.c_file.specs.Order.{times, IsOrder, AreBelow, calls_by, is_called, is_early, declared_in}
use Rattle.c_file.specs.Ordering.{is_next, IsPlaced, Places, Stands, AreEarly}
use Rattle.c_file.proofs.ReachLemmas.{unset_there, set_there, same_flag, either_joined, either_none}

-- ---- numbers and flags

same_number : (n f : ℕ) → (n == f) ≡ true → n ≡ f
same_number n f e = grind (arith, e)

itself : (n : ℕ) → (n == n) ≡ true
itself n = nat_eq_equiv.refl n

-- a flag that was set, and another one
set_at : (bs : List Bool) (p : ℕ) → p < length bs → slice_index_or (slice_set bs p true) p false ≡ true
set_at [] p lt = absurd (omega (arith, lt))
set_at (b ∷ bs) zero lt = refl
set_at (b ∷ bs) (suc p) lt = set_at bs p (omega (arith, lt))

set_other : (bs : List Bool) (p g : ℕ) → p ≢ g
    → slice_index_or (slice_set bs p true) g false ≡ slice_index_or bs g false
set_other [] p g other = refl
set_other (b ∷ bs) zero zero other = absurd (other refl)
set_other (b ∷ bs) zero (suc g) other = refl
set_other (b ∷ bs) (suc p) zero other = refl
set_other (b ∷ bs) (suc p) (suc g) other = set_other bs p g (λ e. other (ap suc e))

-- a flag after one was set
pub set_flag : (bs : List Bool) (p g : ℕ) → p < length bs
    → slice_index_or (slice_set bs p true) g false ≡ (p == g || slice_index_or bs g false)
set_flag bs p g lt = by (p == g) refl where
  differ : false ≡ true → ⊥
  differ e = cc e

  by : (b : Bool) → b ≡ (p == g) → slice_index_or (slice_set bs p true) g false ≡ (b || slice_index_or bs g false)
  by true e =
      subst (λ (m : ℕ). slice_index_or (slice_set bs p true) m false ≡ true) (same_number p g (sym e)) (set_at bs p lt)
  by false e =
      set_other bs p g
      (λ same. differ (e ∙ ap (λ (m : ℕ). p == m) (sym same) ∙ itself p))

-- one that isn't set
unset_flag : (bs : List Bool) (p : ℕ) → slice_index_or bs p true ≡ false → slice_index_or bs p false ≡ false
unset_flag [] p e = refl
unset_flag (b ∷ bs) zero e = e
unset_flag (b ∷ bs) (suc p) e = unset_flag bs p e

-- none is set at first
pub no_flag : (n g : ℕ) → slice_index_or (replicate n false) g false ≡ false
no_flag zero g = refl
no_flag (suc n) zero = refl
no_flag (suc n) (suc g) = no_flag n g

-- ---- each function once

-- how often a number stands in a list that got one more
times_push : (f : ℕ) (xs : List ℕ) (n : ℕ) → times f (xs ++ n ∷ []) ≡ times f xs + cond (n == f) 1 0
times_push f [] n = omega arith
times_push f (x ∷ xs) n = omega (arith, times_push f xs n)

-- one that didn't stand there stands there once
once : (b c : Bool) → (b ≡ true → c ≡ false) → (t : ℕ) → t ≡ cond c 1 0 → t + cond b 1 0 ≡ cond (b || c) 1 0
once true true h t e = absurd (cc (h refl))
once true false h t e = omega (arith, e)
once false c h t e = omega (arith, e)

-- no function stands in an empty order
pub none_placed : (reached placed : List Bool) (order : List ℕ) → placed ≡ replicate (length reached) false → order ≡ []
    → IsPlaced reached placed order
none_placed reached placed order none empty = record {
  size = ap length none ∙ length-replicate (length reached) false;
  each =
      λ f. ap (times f) empty
      ∙ ap (λ (b : Bool). cond b 1 0)
      (sym (ap (λ (bs : List Bool). slice_index_or bs f false) none ∙ no_flag (length reached) f));
  are_reached =
      λ f set. absurd (cc (sym set
      ∙ ap (λ (bs : List Bool). slice_index_or bs f false) none ∙ no_flag (length reached) f));
}

module _ (reached placed : List Bool) (order : List ℕ) (n : ℕ) (is : IsPlaced reached placed order) where
  -- a function that is reached and isn't there is put there
  pub placed_more : is_next reached placed n ≡ true → (new : List Bool) → new ≡ slice_set placed n true
      → (now : List ℕ) → now ≡ order ++ n ∷ [] → Places reached n placed new now
  placed_more next new new_is now now_is = record {
    is = record {
      size = ap length new_is ∙ set_size placed n ∙ is.size;
      each =
          λ f. ap (times f) now_is ∙ times_push f order n
          ∙ once (n == f) (slice_index_or placed f false)
          (λ same. ap (λ (m : ℕ). slice_index_or placed m false) (sym (same_number n f same)) ∙ unset_flag placed n unset)
          (times f order) (is.each f)
          ∙ ap (λ (b : Bool). cond b 1 0) (sym (flag f));
      are_reached = λ f on. from (n == f) (slice_index_or placed f false) f refl refl (sym (flag f) ∙ on);
    };
    kept = λ f on. flag f ∙ last (n == f) (slice_index_or placed f false) on;
    placed = λ on. flag n ∙ ap (λ (b : Bool). b || slice_index_or placed n false) (itself n);
  } where
    set : IsFlagged reached n
    set = (and_parts (slice_index_or reached n false) (not (slice_index_or placed n true)) next).0

    unset : slice_index_or placed n true ≡ false
    unset =
        not-true (slice_index_or placed n true)
        (and_parts (slice_index_or reached n false) (not (slice_index_or placed n true)) next).1

    flag : (f : ℕ) → slice_index_or new f false ≡ (n == f || slice_index_or placed f false)
    flag f =
        ap (λ (bs : List Bool). slice_index_or bs f false) new_is ∙ set_flag placed n f (unset_there placed n unset)

    last : (a b : Bool) → b ≡ true → (a || b) ≡ true
    last true b e = refl
    last false b e = e

    from : (a b : Bool) (f : ℕ) → a ≡ (n == f) → b ≡ slice_index_or placed f false → (a || b) ≡ true
        → IsFlagged reached f
    from true b f e h on = subst (IsFlagged reached) (same_number n f (sym e)) set
    from false b f e h on = is.are_reached f (sym h ∙ on)

  -- there is a flag for it
  pub next_there : is_next reached placed n ≡ true → n < length placed
  next_there next =
      unset_there placed n
      (not-true (slice_index_or placed n true)
      (and_parts (slice_index_or reached n false) (not (slice_index_or placed n true)) next).1)

  -- another one isn't
  pub placed_same : is_next reached placed n ≡ false → Places reached n placed placed order
  placed_same there = record {
    is = is;
    kept = λ f on. on;
    placed =
        λ on. same_flag placed n (omega (arith, set_there reached n on, is.size))
        (held (slice_index_or reached n false) (slice_index_or placed n true) there on);
  } where
    held : (a b : Bool) → (a && not b) ≡ false → a ≡ true → b ≡ true
    held true true e on = refl
    held true false e on = absurd (cc e)
    held false b e on = absurd (cc on)

-- the functions before a number that are reached stand there
pub record ArePlaced (reached placed : List Bool) (order : List ℕ) (n : ℕ) : Type 0 where
  pub is : IsPlaced reached placed order
  pub all : (f : ℕ) → f < n → IsFlagged reached f → IsFlagged placed f

pub none_first : (reached placed : List Bool) (order : List ℕ) → IsPlaced reached placed order
    → ArePlaced reached placed order 0
none_first reached placed order is = record { is = is; all = λ f lt. absurd (omega (arith, lt)) }

pub one_first : (reached placed new : List Bool) (order now : List ℕ) (n : ℕ) → ArePlaced reached placed order n
    → Places reached n placed new now → ArePlaced reached new now (n + 1)
one_first reached placed new order now n so_far more = record {
  is = more.is;
  all = λ f lt on. at f lt on (n == f) refl;
} where
  at : (f : ℕ) → f < n + 1 → IsFlagged reached f → (b : Bool) → (n == f) ≡ b → IsFlagged new f
  at f lt on true e =
      let same = same_number n f e in
      subst (IsFlagged new) same (more.placed (subst (IsFlagged reached) (sym same) on))
  at f lt on false e = more.kept f (so_far.all f (other f lt e) on)
    where
      other : (f : ℕ) → f < n + 1 → (n == f) ≡ false → f < n
      other f lt e = grind (arith, lt, e)

-- two truth values, each of which gives the other
same_truth : (x y : Bool) → (x ≡ true → y ≡ true) → (y ≡ true → x ≡ true) → x ≡ y
same_truth true y f g = sym (f refl)
same_truth false true f g = g refl
same_truth false false f g = refl

-- all that are reached are an order
pub all_placed : (reached placed : List Bool) (order : List ℕ) (n : ℕ) → length reached ≤ n
    → ArePlaced reached placed order n → IsOrder reached order
all_placed reached placed order n past all =
    λ f. all.is.each f
    ∙ ap (λ (b : Bool). cond b 1 0)
    (same_truth (slice_index_or placed f false) (slice_index_or reached f false) (all.is.are_reached f)
    (λ on. all.all f (omega (arith, set_there reached f on, past)) on))

-- ---- numbers of functions

-- what holds of each number that stands in a list
each_item : (P : ℕ → Type 0) (xs : List ℕ) → ((f : ℕ) → 1 ≤ times f xs → P f) → All P xs
each_item P [] h = All-nil P
each_item P (x ∷ xs) h =
    All-cons P x xs (h x (first (x == x) (itself x) (times x xs)))
    (each_item P xs (λ f le. h f (later (x == f) (times f xs) le)))
  where
    first : (b : Bool) → b ≡ true → (t : ℕ) → 1 ≤ cond b 1 0 + t
    first true e t = omega arith
    first false e t = absurd (cc e)

    later : (b : Bool) (t : ℕ) → 1 ≤ t → 1 ≤ cond b 1 0 + t
    later true t le = omega arith
    later false t le = omega (arith, le)

-- those of an order are numbers of functions
pub order_below : (written : List Bool) (order : List ℕ) (n : ℕ) → IsOrder written order → length written ≡ n
    → AreBelow n order
order_below written order n is size =
    each_item (λ (f : ℕ). f < n) order
    (λ f le. below f (slice_index_or written f false) refl (times f order) (is f) le)
  where
    below : (f : ℕ) (b : Bool) → b ≡ slice_index_or written f false → (t : ℕ) → t ≡ cond b 1 0 → 1 ≤ t → f < n
    below f true e t is le = omega (arith, set_there written f (sym e), size)
    below f false e t is le = absurd (omega (arith, is, le))

-- and so are those that are declared
pub declared_below : (L : Labels) (functions : List Function) (order declared : List ℕ) (n : ℕ) → AreBelow n order
    → declared ≡ declared_in L functions order → AreBelow n declared
declared_below L functions order declared n below is =
    subst (AreBelow n) (sym is)
    (All-filter (λ g. is_early functions order g && not (outside_of L g)) (λ (f : ℕ). f < n) order below)

-- ---- calls of functions that don't stand yet

-- after a call of a function that doesn't stand yet
marked : (e s n r : Bool) → (e ≡ true → s ≡ false) → ((e || n) || (not s && r)) ≡ (n || (not s && (e || r)))
marked true true n r h = absurd (cc (h refl))
marked true false true r h = refl
marked true false false r h = refl
marked false s n r h = refl

-- after one of a function that stands
passed : (e s n r : Bool) → (e ≡ true → s ≡ true) → (n || (not s && r)) ≡ (n || (not s && (e || r)))
passed true true n r h = refl
passed true false n r h = absurd (cc (h refl))
passed false s n r h = refl

-- with the calls to come the flags are as they will be
pub record AreMarked (stands early now : List Bool) (rest calls : List FunctionCall) : Type 0 where
  pub size : length now ≡ length early
  pub flags : (g : ℕ) → g < length early
      → (slice_index_or now g false || (not (slice_index_or stands g false) && is_called g rest))
      ≡ (slice_index_or early g false || (not (slice_index_or stands g false) && is_called g calls))

pub none_marked : (stands early : List Bool) (calls : List FunctionCall) → AreMarked stands early early calls calls
none_marked stands early calls = record { size = refl; flags = λ g lt. refl }

module _ (stands early now : List Bool) (xs calls : List FunctionCall) (i : ℕ) (d : FunctionCall)
    (sizes : length early ≡ length stands) (within : i < length xs)
    (so_far : AreMarked stands early now (drop i xs) calls) where
  -- the calls to come are one and others
  parts : (g : ℕ) → is_called g (drop i xs) ≡ ((get_or xs i d).callee == g || is_called g (drop (i + 1) xs))
  parts g = at_drop_more (is_called g) xs i d within

  pub one_marked : (new : List Bool) → slice_index_or stands (get_or xs i d).callee true ≡ false
      → new ≡ slice_set now (get_or xs i d).callee true → AreMarked stands early new (drop (i + 1) xs) calls
  one_marked new unset is = let f = (get_or xs i d).callee in record {
    size = ap length is ∙ set_size now f ∙ so_far.size;
    flags =
        λ g lt. ap (λ (bs : List Bool).
        slice_index_or bs g false || (not (slice_index_or stands g false) && is_called g (drop (i + 1) xs))) is
        ∙ ap (λ (b : Bool). b || (not (slice_index_or stands g false) && is_called g (drop (i + 1) xs)))
        (set_flag now f g (omega (arith, unset_there stands f unset, sizes, so_far.size)))
        ∙ marked (f == g) (slice_index_or stands g false) (slice_index_or now g false) (is_called g (drop (i + 1) xs))
        (λ same. ap (λ (m : ℕ). slice_index_or stands m false) (sym (same_number f g same)) ∙ unset_flag stands f unset)
        ∙ ap (λ (b : Bool). slice_index_or now g false || (not (slice_index_or stands g false) && b)) (sym (parts g))
        ∙ so_far.flags g lt;
  }

  pub one_passed : slice_index_or stands (get_or xs i d).callee true ≡ true
      → AreMarked stands early now (drop (i + 1) xs) calls
  one_passed set = let f = (get_or xs i d).callee in record {
    size = so_far.size;
    flags =
        λ g lt. passed (f == g) (slice_index_or stands g false) (slice_index_or now g false)
        (is_called g (drop (i + 1) xs))
        (λ same. same_flag stands g (omega (arith, lt, sizes))
        (ap (λ (m : ℕ). slice_index_or stands m true) (sym (same_number f g same)) ∙ set))
        ∙ ap (λ (b : Bool). slice_index_or now g false || (not (slice_index_or stands g false) && b)) (sym (parts g))
        ∙ so_far.flags g lt;
  }

nothing_more : (n s : Bool) → (n || (not s && false)) ≡ n
nothing_more true s = refl
nothing_more false true = refl
nothing_more false false = refl

pub all_marked : (stands early now : List Bool) (xs calls : List FunctionCall) (i : ℕ) → length xs ≤ i
    → AreMarked stands early now (drop i xs) calls → (g : ℕ) → g < length early
    → slice_index_or now g false
    ≡ (slice_index_or early g false || (not (slice_index_or stands g false) && is_called g calls))
all_marked stands early now xs calls i past so_far g lt =
    sym (nothing_more (slice_index_or now g false) (slice_index_or stands g false))
    ∙ ap (λ (b : Bool). slice_index_or now g false || (not (slice_index_or stands g false) && b))
    (sym (at_drop_all (is_called g) xs i past))
    ∙ so_far.flags g lt

-- ---- one function after the other

-- the calls of a function of the file
pub calls_are : (functions : List Function) (f : ℕ) (d : Function) → f < length functions
    → (calls : List FunctionCall)
    → ((g : Function) → slice_get functions f ≡ Some g → calls ≡ calls_in f (lines_of g.body))
    → calls_by functions f ≡ calls
calls_are functions f d within calls are = at (get_or functions f d) (slice_get-get_or functions f d within) where
  at : (g : Function) → slice_get functions f ≡ Some g → calls_by functions f ≡ calls
  at g there = by (slice_get functions f) there ∙ sym (are g there)
    where
      by : (o : Option Function) → o ≡ Some g
          → option_map_or (λ (g : Function). calls_in f (lines_of g.body)) o [] ≡ calls_in f (lines_of g.body)
      by o e = ap (λ (o : Option Function). option_map_or (λ (g : Function). calls_in f (lines_of g.body)) o []) e

-- a function stands, and those are marked that it calls
pub stands_now : (functions : List Function) (n : ℕ) (stands now early later : List Bool) (calls : List FunctionCall)
    → n < length stands → now ≡ slice_set stands n true → length later ≡ length early
    → calls_by functions n ≡ calls
    → ((g : ℕ) → g < length early → slice_index_or later g false
    ≡ (slice_index_or early g false || (not (slice_index_or now g false) && is_called g calls)))
    → Stands functions n stands now early later
stands_now functions n stands now early later calls within now_is same calls_is flags = record {
  size = ap length now_is ∙ set_size stands n;
  same_size = same;
  now_stand = λ g lt. ap (λ (bs : List Bool). slice_index_or bs g false) now_is ∙ set_flag stands n g within;
  are_early =
      λ g lt. flags g lt
      ∙ ap (λ (xs : List FunctionCall).
      slice_index_or early g false || (not (slice_index_or now g false) && is_called g xs)) (sym calls_is);
}

-- a function that stands, one that is called, and those that come
stepped : (e s n c r : Bool)
    → ((n || (not (e || s) && c)) || (not (e || s) && r)) ≡ (n || (not s && (not e && (c || r))))
stepped true true true c r = refl
stepped true true false c r = refl
stepped true false true c r = refl
stepped true false false c r = refl
stepped false true true c r = refl
stepped false true false c r = refl
stepped false false n c r = either_joined n c r

-- with the functions to come the flags are as they will be
pub record AreEarlySoFar (functions : List Function) (stands early : List Bool) (rest order : List ℕ) : Type 0 where
  pub size : length stands ≡ length functions
  pub same_size : length early ≡ length functions
  pub each : (g : ℕ) → g < length functions
      → (slice_index_or early g false || (not (slice_index_or stands g false) && is_early functions rest g))
      ≡ is_early functions order g

pub none_early : (functions : List Function) (stands early : List Bool) (order : List ℕ)
    → stands ≡ replicate (length functions) false → early ≡ replicate (length functions) false
    → AreEarlySoFar functions stands early order order
none_early functions stands early order stands_is early_is = record {
  size = ap length stands_is ∙ length-replicate (length functions) false;
  same_size = ap length early_is ∙ length-replicate (length functions) false;
  each =
      λ g lt. ap (λ (bs : List Bool). slice_index_or bs g false
      || (not (slice_index_or stands g false) && is_early functions order g)) early_is
      ∙ ap (λ (b : Bool). b || (not (slice_index_or stands g false) && is_early functions order g))
      (no_flag (length functions) g)
      ∙ ap (λ (bs : List Bool). not (slice_index_or bs g false) && is_early functions order g) stands_is
      ∙ ap (λ (b : Bool). not b && is_early functions order g) (no_flag (length functions) g);
}

pub one_early : (functions : List Function) (stands now early later : List Bool) (xs order : List ℕ) (i d : ℕ)
    → i < length xs → AreEarlySoFar functions stands early (drop i xs) order
    → Stands functions (get_or xs i d) stands now early later
    → AreEarlySoFar functions now later (drop (i + 1) xs) order
unfolding is_early
one_early functions stands now early later xs order i d within so_far more = let f = get_or xs i d in record {
  size = more.size ∙ so_far.size;
  same_size = more.same_size ∙ so_far.same_size;
  each =
      λ g lt. let S : Bool = slice_index_or stands g false in
      let N : Bool = slice_index_or early g false in
      let C : Bool = is_called g (calls_by functions f) in
      let R : Bool = is_early functions (drop (i + 1) xs) g in
      let now_is : slice_index_or now g false ≡ (f == g || S) =
      more.now_stand g (omega (arith, lt, so_far.size)) in
      ap (λ (b : Bool). b || (not (slice_index_or now g false) && R)) (more.are_early g (omega (arith, lt, so_far.same_size)))
      ∙ ap (λ (b : Bool). (N || (not b && C)) || (not b && R)) now_is
      ∙ stepped (f == g) S N C R
      ∙ ap (λ (b : Bool). N || (not S && b))
      (sym (at_drop_more (λ (fs : List ℕ). is_early functions fs g) xs i d within))
      ∙ so_far.each g lt;
}

pub all_early : (functions : List Function) (stands early : List Bool) (xs order : List ℕ) (i : ℕ) → length xs ≤ i
    → AreEarlySoFar functions stands early (drop i xs) order → AreEarly functions order early
unfolding is_early
all_early functions stands early xs order i past so_far = record {
  size = so_far.same_size;
  each =
      λ g lt. sym (nothing_more (slice_index_or early g false) (slice_index_or stands g false))
      ∙ ap (λ (b : Bool). slice_index_or early g false || (not (slice_index_or stands g false) && b))
      (sym (at_drop_all (λ (fs : List ℕ). is_early functions fs g) xs i past))
      ∙ so_far.each g lt;
}

-- ---- those that are declared

-- one that is early by its flag, and isn't called from outside
told : (functions : List Function) (order : List ℕ) (early : List Bool) → AreEarly functions order early → (n : ℕ)
    → n < length functions → (o : Bool)
    → (slice_index_or early n false && not o) ≡ (is_early functions order n && not o)
told functions order early are n lt o = ap (λ (b : Bool). b && not o) (are.each n lt)

module _ (L : Labels) (functions : List Function) (order : List ℕ) where
  abbrev is_declared : ℕ → Bool
  is_declared g = is_early functions order g && not (outside_of L g)

  -- those of the functions to come
  abbrev pub those : List ℕ → List ℕ
  those fs = filter is_declared fs

  module _ (early : List Bool) (are : AreEarly functions order early) (xs : List ℕ) (i d : ℕ) (within : i < length xs)
      (there : get_or xs i d < length functions) (now : List ℕ)
      (so_far : now ++ those (drop i xs) ≡ declared_in L functions order) where
    -- one more, by its flag
    one_declared : (slice_index_or early (get_or xs i d) false && not (outside_of L (get_or xs i d))) ≡ true
        → (new : List ℕ) → new ≡ now ++ get_or xs i d ∷ []
        → new ++ those (drop (i + 1) xs) ≡ declared_in L functions order
    one_declared is new new_is =
        ap (λ (fs : List ℕ). fs ++ those (drop (i + 1) xs)) new_is
        ∙ append_assoc now (get_or xs i d ∷ []) (those (drop (i + 1) xs))
        ∙ ap (λ (b : Bool). now ++ cond b (get_or xs i d ∷ those (drop (i + 1) xs)) (those (drop (i + 1) xs)))
        (sym is ∙ told functions order early are (get_or xs i d) there (outside_of L (get_or xs i d)))
        ∙ ap (λ (fs : List ℕ). now ++ fs) (sym (at_drop_more those xs i d within)) ∙ so_far

    one_not_declared : (slice_index_or early (get_or xs i d) false && not (outside_of L (get_or xs i d))) ≡ false
        → now ++ those (drop (i + 1) xs) ≡ declared_in L functions order
    one_not_declared is =
        ap (λ (b : Bool). now ++ cond b (get_or xs i d ∷ those (drop (i + 1) xs)) (those (drop (i + 1) xs)))
        (sym is ∙ told functions order early are (get_or xs i d) there (outside_of L (get_or xs i d)))
        ∙ ap (λ (fs : List ℕ). now ++ fs) (sym (at_drop_more those xs i d within)) ∙ so_far

    -- one more or not
    pub next_declared : (new : List ℕ)
        → new ≡ cond (slice_index_or early (get_or xs i d) false && not (outside_of L (get_or xs i d)))
        (now ++ get_or xs i d ∷ []) now → new ++ those (drop (i + 1) xs) ≡ declared_in L functions order
    next_declared new is = by (slice_index_or early (get_or xs i d) false && not (outside_of L (get_or xs i d))) refl
      where
        by : (b : Bool) → (slice_index_or early (get_or xs i d) false && not (outside_of L (get_or xs i d))) ≡ b
            → new ++ those (drop (i + 1) xs) ≡ declared_in L functions order
        by true e = one_declared e new (is ∙ ap (λ (c : Bool). cond c (now ++ get_or xs i d ∷ []) now) e)
        by false e =
            ap (λ (fs : List ℕ). fs ++ those (drop (i + 1) xs))
            (is ∙ ap (λ (c : Bool). cond c (now ++ get_or xs i d ∷ []) now) e) ∙ one_not_declared e

  pub all_declared : (xs : List ℕ) (i : ℕ) → length xs ≤ i → (now : List ℕ)
      → now ++ those (drop i xs) ≡ declared_in L functions order → now ≡ declared_in L functions order
  all_declared xs i past now so_far =
      sym (append-nil now) ∙ ap (λ (fs : List ℕ). now ++ fs) (sym (at_drop_all those xs i past)) ∙ so_far

-- ---- what stands where

-- a call by a function that stands before the one that it calls
pub early_call : (functions : List Function) (before after : List ℕ) (f g : ℕ) → times g before ≡ 0 → f ≢ g
    → is_called g (calls_by functions f) ≡ true → is_early functions (before ++ f ∷ after) g ≡ true
unfolding is_early
early_call functions [] after f g none other calls = first (f == g) refl
  where
    first : (b : Bool) → b ≡ (f == g)
        → (not b && (is_called g (calls_by functions f) || is_early functions after g)) ≡ true
    first true e = absurd (other (same_number f g (sym e)))
    first false e = ap (λ (b : Bool). b || is_early functions after g) calls
early_call functions (x ∷ before) after f g none other calls =
    first (x == g) none (early_call functions before after f g (rest (x == g) (times g before) none) other calls)
  where
    rest : (b : Bool) (t : ℕ) → cond b 1 0 + t ≡ 0 → t ≡ 0
    rest true t e = absurd (omega (arith, e))
    rest false t e = omega (arith, e)

    first : (b : Bool) → cond b 1 0 + times g before ≡ 0 → is_early functions (before ++ f ∷ after) g ≡ true
        → (not b && (is_called g (calls_by functions x) || is_early functions (before ++ f ∷ after) g)) ≡ true
    first true e later = absurd (omega (arith, e))
    first false e later = last (is_called g (calls_by functions x)) (is_early functions (before ++ f ∷ after) g) later
      where
        last : (a b : Bool) → b ≡ true → (a || b) ≡ true
        last true b e = refl
        last false b e = e
