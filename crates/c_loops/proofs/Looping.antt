-- A call of a function that is a loop returns what a call of the function returns.
use Rattle.std.proofs.Common.{◌≡◌, ℕ, zero, suc, ◌+◌, ◌≤◌, ℤ, pos, Bool, true, false, cond, List, [], ◌∷◌}
use Rattle.std.proofs.Common.{length, map, Option, Some, ◌⊎◌, slice_get, refl, sym, ap, ◌∙◌, subst, arith}
use Rattle.std.proofs.Common.{inl, inr}
use Rattle.std.specs.List.{list_all}
use Rattle.c_subset.specs.declared.trees.Width.{Width}
use Rattle.c_subset.specs.declared.trees.Width.TheVariants.{W32}
use Rattle.c_subset.specs.declared.trees.CType.{CType}
use Rattle.c_subset.specs.declared.trees.CType.TheVariants.{Truth}
use Rattle.c_subset.specs.Trees.{Const, Function, File}
use Rattle.c_subset.specs.Lines.{lines_of}
use Rattle.c_subset.specs.Meaning.{CValue, Meaning, Store, Locals, meaning}
use Rattle.c_subset.specs.Running.{Outcome, Falls, Returns, Starves, GoesWrong, with_value, and_on}
use Rattle.c_subset.specs.Running.{same_type, no_locals}
use Rattle.c_subset.specs.Running.{Calls, turns, outcome, with_arguments, returned, run, call}
use Rattle.c_functions.specs.Plans.{word}
use Rattle.c_functions.proofs.LayoutTests.{own-stays}
use Rattle.c_loops.specs.Results.{Known, Anything, gives_each_back}
use Rattle.c_loops.specs.Loops.{is_some_of, ends, rests, results, again, loops, are_words, forever, is_procedure}
use Rattle.c_loops.specs.Loops.{are_few, may_loop, looped, loops_from, with_loops}
use Rattle.c_loops.proofs.Locals.{type-is, More, Fits, none-typed, none-more}
use Rattle.c_loops.proofs.Keeping.{ReturnsAlike, arguments-alike, run-alike}
use Rattle.c_loops.proofs.Giving.{both-true}
use Rattle.c_loops.proofs.Handing.{words, parameters-are, as_word, AreThere, locals_of, arguments-go, locals-more}
use Rattle.c_loops.proofs.Handing.{locals-typed, IsResult, Handed}
use Rattle.c_loops.proofs.Returning.{result-is}
use Rattle.c_loops.proofs.Turning.{falls-on, Steps, turn-steps}

there-more : (l m : Locals) (zs : List ℤ) (i : ℕ) → More l m → AreThere l i zs → AreThere m i zs
there-more l m [] i more there = tt
there-more l m (z ∷ zs) i more there = (more word i z there.0, there-more l m zs (suc i) more there.1)

-- a result is returned as it is
returned-word : (R : List Known) (s : Store) (x : CValue) → IsResult R x → returned word (Returns s x) ≡ Returns s x
returned-word R s x h =
    ap (λ (x : CValue). returned word (Returns s x)) h.is
    ∙ ap (λ (m : Meaning). with_value m (λ y. Returns s y)) (own-stays W32 h.r h.low)
    ∙ ap (λ (x : CValue). Returns s x) (sym h.is)

-- without fuel nothing is returned
no-call : (file : File) (int : Width) (p : ℕ) (s v : Store) (x : CValue) (xs : List CValue)
    → call file int zero p xs s ≡ Returns v x → ⊥
unfolding call
no-call file int p s v x xs e = absurd cc

module _ (file : File) (int : Width) (p : ℕ) (g : Function) (there : slice_get file.functions p ≡ Some g)
    (is_word : g.result ≡ word) (are : g.parameters ≡ words 5)
    (back : list_all (gives_each_back (results true p Anything g.body)) (rests p g.body) ≡ true) (d : Calls) (j : ℕ)
  where
    abbrev R : List Known
    R = results true p Anything g.body

    -- so the first of these calls return alike
    abbrev pub AreAlike : ℕ → Type 0
    AreAlike i = (q : ℕ) → q ≤ i → (f : ℕ) (xs : List CValue) (s : Store) → ReturnsAlike (call file int q f xs s) (d f xs s)

    abbrev pub test : Store → Locals → Meaning
    test v m = meaning int v m (Const Truth (pos 1))

    abbrev pub turn : Store → Locals → Outcome
    turn v m = outcome int d j (again p g.body) v m

    abbrev body : ℕ → Store → Locals → Outcome
    body i s l = outcome int (call file int i) i g.body s l

    -- what a call with handed parameters does
    handed-goes : (i : ℕ) (zs : List ℤ) (s : Store) (l : Locals) → length zs ≡ 5 → AreThere l 0 zs
        → (m : Locals) → Fits l m
        → call file int (suc i) p (map as_word zs) s ≡ returned word (body i s (locals_of 0 zs no_locals))
    unfolding call
    handed-goes i zs s l size at m fits =
        let f : Locals → Outcome = λ l. returned word (body i s l) in
        ap (λ (o : Option Function). run int (call file int i) i o (map as_word zs) s) there
        ∙ ap (λ (t : CType). with_arguments g.parameters (map as_word zs) 0 no_locals (λ l. returned t (body i s l)))
        is_word
        ∙ ap (λ (ts : List CType). with_arguments ts (map as_word zs) 0 no_locals f)
        (are ∙ ap (λ (n : ℕ). words n) (sym size))
        ∙ arguments-go zs 0 no_locals l f fits.typed at

    -- one turn and those after it
    turn-on : (i n : ℕ) (s : Store) (l m : Locals) → (o q : Outcome)
        → Steps R (call file int i) p (ends p g.body) o q
        → ((s v : Store) (l m : Locals) (x : CValue) → Fits l m → Handed (call file int i) p l s v x
        → returned word (turns n test turn s m) ≡ Returns v x)
        → ReturnsAlike (returned word o) (returned word (and_on q (turns n test turn)))
    turn-on i n s l m (Falls v w) q h next = λ after x e. absurd cc
    turn-on i n s l m (Returns v y) q (inl e) next =
        λ after x is. ap (λ (q : Outcome). returned word (and_on q (turns n test turn))) e ∙ is
    turn-on i n s l m (Returns v y) q (inr t) next =
        λ after x is. ap (λ (q : Outcome). returned word (and_on q (turns n test turn))) t.is
        ∙ next t.s v t.l t.m y t.fits t.handed ∙ sym (returned-word R v y t.result) ∙ is
    turn-on i n s l m Starves q h next = λ after x e. absurd cc
    turn-on i n s l m GoesWrong q h next = λ after x e. absurd cc

    -- the loop
    pub loop-alike : (i n : ℕ) → AreAlike i → i ≤ j → suc i ≤ n → (s : Store) (l m : Locals) → Fits l m
        → ReturnsAlike (returned word (body i s l)) (returned word (turns n test turn s m))
    unfolding turns meaning
    loop-alike i zero alike le less s l m fits = absurd (omega arith)
    loop-alike zero (suc n) alike le less s l m fits =
        turn-on zero n s l m (body zero s l) (turn s m)
        (turn-steps int (call file int zero) d (alike zero (omega arith)) zero j le p R
        (result-is file int p g there is_word back zero) g.body back s l m fits)
        (λ s v l m x fits h. absurd (no-call file int p s v x (map as_word h.zs) h.gave))
    loop-alike (suc i) (suc n) alike le less s l m fits =
        turn-on (suc i) n s l m (body (suc i) s l) (turn s m)
        (turn-steps int (call file int (suc i)) d (alike (suc i) (omega arith)) (suc i) j le p R
        (result-is file int p g there is_word back (suc i)) g.body back s l m fits)
        (λ s v l m x fits h. loop-alike i n (λ q le. alike q (omega arith)) (omega arith) (omega arith) s
        (locals_of 0 h.zs no_locals) m
        (record {
          more = locals-more h.zs 0 no_locals m (none-more m) (there-more l m h.zs 0 fits.more h.there);
          typed = locals-typed h.zs 0 no_locals l none-typed fits.typed h.there;
        }) v x (sym (handed-goes i h.zs s l h.size h.there m fits) ∙ h.gave))

    -- a call of the function
    pub loop-runs : (i : ℕ) → AreAlike i → suc i ≤ j → (xs : List CValue) (s : Store)
        → ReturnsAlike (run int (call file int i) i (Some g) xs s)
        (run int d j (Some (record g { body = forever (again p g.body) })) xs s)
    unfolding outcome
    loop-runs i alike less xs s =
        arguments-alike g.parameters xs 0 no_locals (λ l. returned g.result (body i s l))
        (λ l. returned g.result (and_on (turns j test turn s l) (λ v m. Falls v m))) none-typed
        (λ l typed. subst (λ (t : CType). ReturnsAlike (returned t (body i s l))
        (returned t (and_on (turns j test turn s l) (λ v m. Falls v m)))) (sym is_word)
        (subst (λ (o : Outcome). ReturnsAlike (returned word (body i s l)) (returned word o))
        (sym (falls-on (turns j test turn s l)))
        (loop-alike i j alike (omega arith) less s l l (record { more = λ t i z e. e; typed = typed }))))

-- ---- files

-- a function of the file, as it is or as a loop
looped-at : (fs : List Function) (p n i k : ℕ) → k ≡ p + i
    → (slice_get (loops_from p n fs) i ≡ slice_get fs i)
    ⊎ ((f : Function) × (slice_get fs i ≡ Some f) × (slice_get (loops_from p n fs) i ≡ Some (looped k f)))
looped-at fs p zero i k e = inl refl
looped-at [] p (suc n) i k e = inl refl
looped-at (f ∷ fs) p (suc n) zero k e =
    let same : p ≡ k = omega (arith, e) in inr (f, refl, ap (λ (p : ℕ). Some (looped p f)) same)
looped-at (f ∷ fs) p (suc n) (suc i) k e = looped-at fs (suc p) n i k (omega (arith, e))

module _ (n : ℕ) (file : File) (int : Width) where
  -- a function with a number
  function-alike : (q j f : ℕ) (xs : List CValue) (s : Store)
      → ((i : ℕ) → i ≤ q → (f : ℕ) (xs : List CValue) (s : Store)
      → ReturnsAlike (call file int i f xs s) (call (with_loops n file) int j f xs s))
      → suc q ≤ j
      → ReturnsAlike (run int (call file int q) q (slice_get file.functions f) xs s)
      (run int (call (with_loops n file) int j) j (slice_get (with_loops n file).functions f) xs s)
  function-alike q j f xs s alike less = at (looped-at file.functions 0 n f f (omega arith))
    where
      d : Calls
      d = call (with_loops n file) int j

      -- as it is
      plain : (o p : Option Function) → p ≡ o
          → ReturnsAlike (run int (call file int q) q o xs s) (run int (call (with_loops n file) int j) j p xs s)
      plain o p e =
          subst (λ (p : Option Function). ReturnsAlike (run int (call file int q) q o xs s)
          (run int (call (with_loops n file) int j) j p xs s)) (sym e)
          (run-alike int (call file int q) (call (with_loops n file) int j) q j o xs s (alike q (omega arith))
          (omega arith))

      -- as a loop, or as it is
      by : (g : Function) → slice_get file.functions f ≡ Some g → (a b : Bool)
          → may_loop g.result g.parameters (length (lines_of g.body)) ≡ a → loops f g.body ≡ b
          → ReturnsAlike (run int (call file int q) q (Some g) xs s)
          (run int (call (with_loops n file) int j) j
          (Some (cond a (record g { body = cond b (forever (again f g.body)) g.body }) g)) xs s)
      by g there true true h i =
          let may = both-true (is_procedure g.result g.parameters) (are_few (length (lines_of g.body))) h in
          let h' = both-true (same_type g.result word) (are_words 0 g.parameters) may.0 in
          let i' = both-true (is_some_of (rests f g.body))
          (list_all (gives_each_back (results true f Anything g.body)) (rests f g.body)) i in
          loop-runs file int f g there (type-is g.result word h'.0) (parameters-are g.parameters h'.1) i'.1
          (call (with_loops n file) int j) j q alike less xs s
      by g there true false h i = plain (Some g) (Some g) refl
      by g there false b h i = plain (Some g) (Some g) refl

      at : (slice_get (loops_from 0 n file.functions) f ≡ slice_get file.functions f)
          ⊎ ((g : Function) × (slice_get file.functions f ≡ Some g)
          × (slice_get (loops_from 0 n file.functions) f ≡ Some (looped f g)))
          → ReturnsAlike (run int (call file int q) q (slice_get file.functions f) xs s)
          (run int (call (with_loops n file) int j) j (slice_get (loops_from 0 n file.functions) f) xs s)
      at (inl e) = plain (slice_get file.functions f) (slice_get (loops_from 0 n file.functions) f) e
      at (inr (g, there, is)) =
          subst (λ (o : Option Function). ReturnsAlike (run int (call file int q) q o xs s)
          (run int (call (with_loops n file) int j) j (slice_get (loops_from 0 n file.functions) f) xs s)) (sym there)
          (subst (λ (o : Option Function). ReturnsAlike (run int (call file int q) q (Some g) xs s)
          (run int (call (with_loops n file) int j) j o xs s)) (sym is) (by g there
          (may_loop g.result g.parameters (length (lines_of g.body))) (loops f g.body) refl refl))

  -- calls with at most so much fuel
  calls-to : (k q : ℕ) → q ≤ k → (j : ℕ) → suc q ≤ j → (f : ℕ) (xs : List CValue) (s : Store)
      → ReturnsAlike (call file int q f xs s) (call (with_loops n file) int j f xs s)
  unfolding call
  calls-to k zero le j less f xs s = λ v x e. absurd cc
  calls-to zero (suc q) le j less f xs s = absurd (omega arith)
  calls-to (suc k) (suc q) le zero less f xs s = absurd (omega arith)
  calls-to (suc k) (suc q) le (suc j) less f xs s =
      function-alike q j f xs s (λ i small f xs s. calls-to k i (omega arith) j (omega arith) f xs s) (omega arith)

  pub calls-alike : (k f : ℕ) (xs : List CValue) (s after : Store) (x : CValue)
      → call file int k f xs s ≡ Returns after x → call (with_loops n file) int (suc k) f xs s ≡ Returns after x
  calls-alike k f xs s after x e = calls-to k k (omega arith) (suc k) (omega arith) f xs s after x e
