-- Room for a need, and work that stays within a number of steps.
use Rattle.std.proofs.Common.{◌≡◌, ℕ, suc, ◌+◌, ◌<◌, ◌≤◌, List, [], ◌∷◌, ◌++◌, reverse, Option, Some, None}
use Rattle.std.proofs.Common.{Bool, true, false, sym, subst, refl, arith}
use Rattle.std.proofs.lemmas.Grind.{reverse_onto}
use Rattle.std.specs.List.{AllByRecursion}
use Rattle.flow_base.specs.declared.fault.Fault.{Fault}
use Rattle.flow_base.specs.declared.fault.Fault.TheVariants as kinds
use Rattle.actions.specs.World.{World}
use Rattle.actions.specs.Work.{Run, Ended, Faulted, Unfinished, Work, then_do, choose, if_some, if_done, End, Done, Cut}
use Rattle.bound_prove.specs.declared.need.Need.{Need}
use Rattle.bound_prove.specs.Needs.{one_step, in_turn, either, sent, all_of, one_of, Covers}

-- how deep sends may nest, and how many steps may be used, both below the ends
pub record Limits : Type 0 where
  pub depth : ℕ
  pub steps : ℕ
  pub depth_few : depth < 33
  pub steps_few : steps < 50001

-- at that depth and with that many steps used there is room for the need, up to m steps
pub record Room (l : Limits) (m h u : ℕ) (n : Need) : Type 0 where
  pub depth : h + n.depth ≤ l.depth
  pub steps : u + n.steps ≤ m
  pub most : m ≤ l.steps

-- more covers what that covers
pub covers_more : {x y z : Need} → Covers x y → Covers y z → Covers x z
covers_more a b = record { depth = omega (arith, a.depth, b.depth); steps = omega (arith, a.steps, b.steps) }

-- what covers one or the other covers both
pub covers_left : {x : Need} (y z : Need) → Covers x (either y z) → Covers x y
unfolding either
covers_left y z a = record { depth = omega (arith, a.depth); steps = omega (arith, a.steps) }

pub covers_right : {x : Need} (y z : Need) → Covers x (either y z) → Covers x z
unfolding either
covers_right y z a = record { depth = omega (arith, a.depth); steps = omega (arith, a.steps) }

-- what covers one of some pieces of work covers each
pub covers_each : (f : ℕ → Need) (n : Need) (xs : List ℕ) → Covers n (one_of f xs)
    → AllByRecursion (λ x. Covers n (f x)) xs
covers_each f n [] a = tt
covers_each f n (x ∷ xs) a = (covers_left _ _ a, covers_each f n xs (covers_right _ _ a))

module _ (l : Limits) where
  -- a need that is covered has room
  pub covered : {m h u : ℕ} {x y : Need} → Covers x y → Room l m h u x → Room l m h u y
  covered a r = record {
    depth = omega (arith, a.depth, r.depth);
    steps = omega
        (arith, a.steps, r.steps);
    most = r.most;
  }

  -- where there is room, no more steps are used than that
  pub still : {m h u : ℕ} {x : Need} → Room l m h u x → u ≤ m
  still r = omega (arith, r.steps)

  -- the first of two pieces of work has room, and then the second
  pub first : {m h u : ℕ} (x y : Need) → Room l m h u (in_turn x y) → Room l (u + x.steps) h u x
  unfolding in_turn
  first x y r = record {
    depth = omega (arith, r.depth, l.depth_few);
    steps = omega arith;
    most = omega (arith, r.steps, r.most, l.steps_few);
  }

  pub second : {m h u v : ℕ} (x y : Need) → Room l m h u (in_turn x y) → v ≤ u + x.steps → Room l m h v y
  unfolding in_turn
  second x y r le = record {
    depth = omega (arith, r.depth, l.depth_few);
    steps = omega (arith, r.steps, r.most, l.steps_few, le);
    most = r.most;
  }

  -- two pieces of work that have room one after another have it in turn
  pub both : {m h u : ℕ} (x y : Need) → h + x.depth ≤ l.depth → Room l m h (u + x.steps) y → Room l m h u (in_turn x y)
  unfolding in_turn
  both x y d r = record { depth = omega (arith, d, r.depth); steps = omega (arith, r.steps); most = r.most }

  -- the order doesn't matter
  pub swap : {m h u : ℕ} (x y : Need) → Room l m h u (in_turn x y) → Room l m h u (in_turn y x)
  unfolding in_turn
  swap x y r = record { depth = omega (arith, r.depth); steps = omega (arith, r.steps); most = r.most }

  -- nor how three pieces are put together
  pub regroup : {m h u : ℕ} (x y z : Need) → Room l m h u (in_turn (in_turn x y) z)
      → Room l m h u (in_turn x (in_turn y z))
  unfolding in_turn
  regroup x y z r = record {
    depth = omega (arith, r.depth, l.depth_few);
    steps = omega (arith, r.steps, r.most, l.steps_few);
    most = r.most;
  }

  -- the second piece comes first, and so does the third
  pub exchange : {m h u : ℕ} (x y z : Need) → Room l m h u (in_turn x (in_turn y z))
      → Room l m h u (in_turn y (in_turn x z))
  unfolding in_turn
  exchange x y z r = record {
    depth = omega (arith, r.depth, l.depth_few);
    steps = omega (arith, r.steps, r.most, l.steps_few);
    most = r.most;
  }

  pub pull : {m h u : ℕ} (x y z t : Need) → Room l m h u (in_turn x (in_turn y (in_turn z t)))
      → Room l m h u (in_turn z (in_turn x (in_turn y t)))
  pull x y z t r =
      exchange x z (in_turn y t)
      (both x _ (first x _ r).depth (exchange y z t (second x _ r (omega arith))))

  -- what is left of the room of the first piece has room before the second
  pub fired : {m h u v : ℕ} (x y : Need) {z : Need} → Room l m h u (in_turn x y) → Room l (u + x.steps) h v z
      → Room l m h v (in_turn z y)
  unfolding in_turn
  fired x y r s = record {
    depth = omega (arith, r.depth, s.depth, l.depth_few);
    steps = omega (arith, r.steps, r.most, l.steps_few, s.steps);
    most = r.most;
  }

  -- fewer steps that are used leave room
  pub less : {m h u v : ℕ} {x : Need} → Room l m h u x → v ≤ u → Room l m h v x
  less r le = record { depth = r.depth; steps = omega (arith, r.steps, le); most = r.most }

  -- the first piece has all of the room
  pub alone : {m h u : ℕ} (x y : Need) → Room l m h u (in_turn x y) → Room l m h u x
  unfolding in_turn
  alone x y r = record {
    depth = omega (arith, r.depth, l.depth_few);
    steps = omega (arith, r.steps, r.most, l.steps_few);
    most = r.most;
  }

  -- the second piece has room where the first takes nothing
  pub skip : {m h u : ℕ} (x y : Need) → Room l m h u (in_turn x y) → Room l m h u y
  skip x y r = second x y r (omega arith)

  -- the second of three pieces and then the first have room
  pub front : {m h u : ℕ} (x y z : Need) → Room l m h u (in_turn x (in_turn y z)) → Room l m h u (in_turn y x)
  unfolding in_turn
  front x y z r = record {
    depth = omega (arith, r.depth, l.depth_few);
    steps = omega (arith, r.steps, r.most, l.steps_few);
    most = r.most;
  }

  -- a send has room for its step, and then for its work one level deeper
  pub sent_step : {m h u : ℕ} (x : Need) → Room l m h u (sent x) → Room l (u + 1) h u one_step
  unfolding sent
  sent_step x r = record {
    depth = omega (arith, r.depth);
    steps = omega arith;
    most = omega (arith, r.steps, r.most, l.steps_few);
  }

  pub sent_work : {m h u v : ℕ} (x : Need) → Room l m h u (sent x) → v ≤ u + 1 → Room l m (suc h) v x
  unfolding sent
  sent_work x r le = record {
    depth = omega (arith, r.depth, l.depth_few);
    steps = omega (arith, r.steps, r.most, l.steps_few, le);
    most = r.most;
  }

  -- where there is room for a send, it isn't too deep
  pub sent_depth : {m h u : ℕ} (x : Need) → Room l m h u (sent x) → h < l.depth
  unfolding sent
  sent_depth x r = omega (arith, r.depth)

  -- all pieces of a list in turn have room in the other order too
  push : (f : ℕ → Need) (xs : List ℕ) (y m h u : ℕ) → Room l m h u (in_turn (f y) (all_of f xs))
      → Room l m h u (all_of f (xs ++ y ∷ []))
  push f [] y m h u r = r
  push f (x ∷ xs) y m h u r =
      let s = exchange (f y) (f x) (all_of f xs) r in
      both (f x) _ (first (f x) _ s).depth (push f xs y m h (u + (f x).steps) (second (f x) _ s (omega arith)))

  pub backward : (f : ℕ → Need) (xs : List ℕ) (m h u : ℕ) → Room l m h u (all_of f xs)
      → Room l m h u (all_of f (reverse xs))
  backward f [] m h u r = r
  backward f (x ∷ xs) m h u r =
      subst (λ ys. Room l m h u (all_of f ys)) (sym (reverse_onto xs x []))
      (push f (reverse xs) x m h u
      (both (f x) _ (first (f x) _ r).depth (backward f xs m h (u + (f x).steps) (second (f x) _ r (omega arith)))))

-- ---- work

-- a fault that is no overrun
abbrev pub IsOther : Fault → Type 0
IsOther kinds.Depth = ⊥
IsOther kinds.Steps = ⊥
IsOther (kinds.Overflow v) = Unit {0}
IsOther kinds.Zero = Unit {0}

-- the work ends with at most m steps used and an answer with P, or in a fault that is no overrun
pub data Within (m : ℕ) {A : Type 0} (P : A → World → Type 0) : Run A → Type 0 where
  ends : (a : A) (w : World) → w.used ≤ m → P a w → Within m P (Ended a w)
  faults : (x : Fault) (w : World) → IsOther x → Within m P (Faulted x w)
  over : Within m P Unfinished

-- any answer will do
abbrev pub Any : {A : Type 0} → A → World → Type 0
Any a w = Unit {0}

-- the forms of work stay within, where their parts do
pub then_within : {A B : Type 0} {n m : ℕ} {P : A → World → Type 0} {Q : B → World → Type 0} {r : Run A} {f : A
    → Work B}
    → Within n P r → ((a : A) (w : World) → w.used ≤ n → P a w → Within m Q (f a w)) → Within m Q (then_do r f)
then_within (ends a w le h) k = k a w le h
then_within (faults x w h) k = faults x w h
then_within over k = over

pub choose_within : {A : Type 0} {m : ℕ} {P : A → World → Type 0} (b : Bool) (x y : Work A) (w : World)
    → (b ≡ true → Within m P (x w)) → (b ≡ false → Within m P (y w)) → Within m P (choose b x y w)
choose_within true x y w h i = h refl
choose_within false x y w h i = i refl

pub if_done_within : {A : Type 0} {m : ℕ} {P : A → World → Type 0} (e : End) (a : A) (x : Work A) (w : World)
    → w.used ≤ m → P a w → Within m P (x w) → Within m P (if_done e a x w)
if_done_within Done a x w le h i = i
if_done_within Cut a x w le h i = ends a w le h

pub if_some_within : {A : Type 0} {m : ℕ} {P : A → World → Type 0} (o : Option ℕ) (x : Work A) (f : ℕ → Work A)
    (w : World)
    → Within m P (x w) → ((i : ℕ) → o ≡ Some i → Within m P (f i w)) → Within m P (if_some o x f w)
if_some_within None x f w h i = h
if_some_within (Some j) x f w h i = i j refl
