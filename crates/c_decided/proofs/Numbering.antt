-- What is done with what is known by a number keeps what holds.
use Rattle.std.proofs.Common.{◌≡◌, nat_eq, nat_lt, not, ◌&&◌, ℕ, zero, suc, ℤ, pos, negsuc, Bool, true, false, cond}
use Rattle.std.proofs.Common.{List, [], ◌∷◌, Option, Some, None, refl, sym, ap, ◌∙◌, subst, arith}
use Rattle.std.proofs.lemmas.Bool.Decides.{nat_tests}
use Rattle.c_subset.specs.declared.trees.Width.{Width}
use Rattle.c_subset.specs.declared.trees.Width.TheVariants.{W8, W16, W32, W64, W128}
use Rattle.c_subset.specs.declared.trees.CType.{CType}
use Rattle.c_subset.specs.declared.trees.CType.TheVariants.{Signed, Unsigned, Truth}
use Rattle.c_subset.specs.Meaning.{CValue, Gives, gives, converted, Store, Locals}
use Rattle.c_subset.specs.Running.{same_type}
use Rattle.c_facts.specs.Known.{Known, Never, Hold}
use Rattle.c_facts.specs.Facts.{agrees, is_never, joined, covers}
use Rattle.c_facts.specs.Asking.{limit}
use Rattle.c_facts.proofs.NumberSets.{same}
use Rattle.c_facts.proofs.PlaceLemmas.{is-width}
use Rattle.c_facts.proofs.ValueLemmas.{own-stays, same-gives}
use Rattle.c_facts.proofs.Holding.{never-holds, joined-holds-first, joined-holds-second, covers-holds}
use Rattle.c_decided.specs.Facts.{Numbered, ByNumber, is_value, known_at, at, Facts, Holds, alone, is_local}
use Rattle.c_decided.specs.Numbered.{each_case, all_cases, all_of, are_never, is_nowhere, names, added, joined_cases}
use Rattle.c_decided.specs.Numbered.{joined_by, joined_facts, cases_cover, cover_cases, covers_by, fits, all_fit}
use Rattle.c_decided.specs.Numbered.{brought, narrowed}

-- ---- truth values

pub both-true : (a b : Bool) → cond a b false ≡ true → (a ≡ true) × (b ≡ true)
both-true true b e = (refl, e)
both-true false b e = absurd cc

pub and-true : (a b : Bool) → (a && b) ≡ true → (a ≡ true) × (b ≡ true)
and-true true b e = (refl, e)
and-true false b e = absurd cc

differ : true ≡ false → ⊥
differ e = absurd cc

-- ---- values

value-is : (v : Option ℤ) (n : ℕ) → is_value v n ≡ true → v ≡ Some (pos n)
value-is (Some (pos m)) n e = ap (λ (k : ℕ). Some (pos k)) (same m n e)
value-is (Some (negsuc m)) n e = absurd cc
value-is None n e = absurd cc

some-is : (x z : ℤ) → Some x ≡ Some z → x ≡ z
some-is x z e = cc

-- ---- what holds by a number

pub all-holds : (s : Store) (cs : List Numbered) (o : Known) (v : Option ℤ) → Hold s (known_at cs o v)
    → Hold s (all_cases cs o)
all-holds s [] o v h = h
all-holds s (c ∷ cs) o v h = split (is_value v c.number) (λ h. all-holds s cs o v h) h
  where
    split : (b : Bool) → (Hold s (known_at cs o v) → Hold s (all_cases cs o))
        → Hold s (cond b c.known (known_at cs o v)) → Hold s (joined c.known (all_cases cs o))
    split true rest h = joined-holds-first s c.known (all_cases cs o) h
    split false rest h = joined-holds-second s c.known (all_cases cs o) (rest h)

pub each-holds : (s v : Store) (f : Known → Known) → ((k : Known) → Hold s k → Hold v (f k)) → (cs : List Numbered)
    (o : Known) (x : Option ℤ) → Hold s (known_at cs o x) → Hold v (known_at (each_case f cs) (f o) x)
each-holds s v f keeps [] o x h = keeps o h
each-holds s v f keeps (c ∷ cs) o x h = split (is_value x c.number) (λ h. each-holds s v f keeps cs o x h) h
  where
    split : (b : Bool) → (Hold s (known_at cs o x) → Hold v (known_at (each_case f cs) (f o) x))
        → Hold s (cond b c.known (known_at cs o x))
        → Hold v (cond b (f c.known) (known_at (each_case f cs) (f o) x))
    split true rest h = keeps c.known h
    split false rest h = rest h

none-named : (cs : List Numbered) (o : Known) (v : Option ℤ) → names v cs ≡ false → known_at cs o v ≡ o
none-named [] o v e = refl
none-named (c ∷ cs) o v e = split (is_value v c.number) (λ e. none-named cs o v e) e
  where
    split : (b : Bool) → (names v cs ≡ false → known_at cs o v ≡ o) → cond b true (names v cs) ≡ false
        → cond b c.known (known_at cs o v) ≡ o
    split true rest e = absurd cc
    split false rest e = rest e

never-at : (s : Store) (cs : List Numbered) (o : Known) (v : Option ℤ) → is_never o ≡ true → are_never cs ≡ true
    → Hold s (known_at cs o v) → ⊥
never-at s [] o v n e h = never-holds s o n h
never-at s (c ∷ cs) o v n e h =
    let both = both-true (is_never c.known) (are_never cs) e in
    split (is_value v c.number) both.0 (λ h. never-at s cs o v n both.1 h) h
  where
    split : (b : Bool) → is_never c.known ≡ true → (Hold s (known_at cs o v) → ⊥)
        → Hold s (cond b c.known (known_at cs o v)) → ⊥
    split true n rest h = never-holds s c.known n h
    split false n rest h = rest h

-- no run comes here
pub nowhere-holds : (s : Store) (b : ByNumber) (v : Option ℤ) → is_nowhere b ≡ true → Hold s (at b v) → ⊥
nowhere-holds s b v e h =
    let both = both-true (is_never b.others) (are_never b.cases) e in
    never-at s b.cases b.others v both.0 both.1 h

-- ---- implication

cases-cover : (s : Store) (b : ByNumber) (cs : List Numbered) (o : Known) (v : Option ℤ) → cases_cover cs b ≡ true
    → Hold s (known_at cs o v) → (Hold s o → Hold s (at b v)) → Hold s (at b v)
cases-cover s b [] o v e h go = go h
cases-cover s b (c ∷ cs) o v e h go =
    let both = both-true (covers c.known (at b (Some (pos c.number)))) (cases_cover cs b) e in
    split (is_value v c.number) refl both.0 (λ h. cases-cover s b cs o v both.1 h go) h
  where
    split : (i : Bool) → is_value v c.number ≡ i → covers c.known (at b (Some (pos c.number))) ≡ true
        → (Hold s (known_at cs o v) → Hold s (at b v)) → Hold s (cond i c.known (known_at cs o v)) → Hold s (at b v)
    split true is e rest h =
        subst (λ (v : Option ℤ). Hold s (at b v)) (sym (value-is v c.number is))
        (covers-holds s c.known (at b (Some (pos c.number))) e h)
    split false is e rest h = rest h

cover-cases : (s : Store) (a : ByNumber) (ds : List Numbered) (o : Known) (v : Option ℤ) → cover_cases a ds ≡ true
    → Hold s (at a v) → Hold s o → Hold s (known_at ds o v)
cover-cases s a [] o v e h ho = ho
cover-cases s a (d ∷ ds) o v e h ho =
    let both = both-true (covers (at a (Some (pos d.number))) d.known) (cover_cases a ds) e in
    split (is_value v d.number) refl both.0 (cover-cases s a ds o v both.1 h ho)
  where
    split : (i : Bool) → is_value v d.number ≡ i → covers (at a (Some (pos d.number))) d.known ≡ true
        → Hold s (known_at ds o v) → Hold s (cond i d.known (known_at ds o v))
    split true is e rest =
        covers-holds s (at a (Some (pos d.number))) d.known e
        (subst (λ (v : Option ℤ). Hold s (at a v)) (value-is v d.number is) h)
    split false is e rest = rest

pub covers-by-holds : (s : Store) (a b : ByNumber) (v : Option ℤ) → covers_by a b ≡ true → Hold s (at a v)
    → Hold s (at b v)
covers-by-holds s a b v e h =
    let one = both-true (covers a.others b.others) (cond (cases_cover a.cases b) (cover_cases a b.cases) false) e in
    let two = both-true (cases_cover a.cases b) (cover_cases a b.cases) one.1 in
    cases-cover s b a.cases a.others v two.0 h
    (λ ho. cover-cases s a b.cases b.others v two.1 h (covers-holds s a.others b.others one.0 ho))

-- ---- brought to a type

within : (w : Width) (n : ℕ) → nat_lt n (limit w) ≡ true → converted (Unsigned w) (pos n) ≡ gives (Unsigned w) (pos n)
within W8 n e = own-stays W8 n (grind (arith, nat_tests))
within W16 n e = own-stays W16 n (grind (arith, nat_tests))
within W32 n e = own-stays W32 n (grind (arith, nat_tests))
within W64 n e = own-stays W64 n (grind (arith, nat_tests))
within W128 n e = own-stays W128 n (grind (arith, nat_tests))

pub fits-stays : (t : CType) (n : ℕ) → fits t n ≡ true → converted t (pos n) ≡ gives t (pos n)
fits-stays (Signed w) n e = absurd cc
fits-stays (Unsigned w) n e = within w n e
fits-stays Truth zero e = refl
fits-stays Truth (suc zero) e = refl
fits-stays Truth (suc (suc n)) e =
    let less : nat_lt (suc (suc n)) 2 ≡ false = grind (arith, nat_tests) in
    absurd (differ (sym e ∙ less))

named-stays : (t : CType) (cs : List Numbered) (x : ℤ) → all_fit t cs ≡ true → names (Some x) cs ≡ true
    → converted t x ≡ gives t x
named-stays t [] x e n = absurd cc
named-stays t (c ∷ cs) x e n =
    let both = both-true (fits t c.number) (all_fit t cs) e in
    split (is_value (Some x) c.number) refl both.0 (λ n. named-stays t cs x both.1 n) n
  where
    split : (i : Bool) → is_value (Some x) c.number ≡ i → fits t c.number ≡ true
        → (names (Some x) cs ≡ true → converted t x ≡ gives t x) → cond i true (names (Some x) cs) ≡ true
        → converted t x ≡ gives t x
    split true is e rest n =
        subst (λ (z : ℤ). converted t z ≡ gives t z) (sym (some-is x (pos c.number) (value-is (Some x) c.number is)))
        (fits-stays t c.number e)
    split false is e rest n = rest n

with-others : (s : Store) (cs : List Numbered) (o : Known) (v : Option ℤ) → Hold s (known_at cs o v)
    → Hold s (known_at (each_case (λ k. joined k o) cs) o v)
with-others s cs o v h = go cs h
  where
    split : (i : Bool) (k rest made : Known) → (Hold s rest → Hold s made) → Hold s (cond i k rest)
        → Hold s (cond i (joined k o) made)
    split true k rest made f h = joined-holds-first s k o h
    split false k rest made f h = f h

    go : (cs : List Numbered) → Hold s (known_at cs o v) → Hold s (known_at (each_case (λ k. joined k o) cs) o v)
    go [] h = h
    go (c ∷ cs) h =
        split (is_value v c.number) c.known (known_at cs o v) (known_at (each_case (λ k. joined k o) cs) o v)
        (λ h. go cs h) h

others-hold : (s : Store) (cs : List Numbered) (o : Known) (v : Option ℤ) → Hold s o
    → Hold s (known_at (each_case (λ k. joined k o) cs) o v)
others-hold s [] o v h = h
others-hold s (c ∷ cs) o v h = split (is_value v c.number) (others-hold s cs o v h)
  where
    split : (i : Bool) → Hold s (known_at (each_case (λ k. joined k o) cs) o v)
        → Hold s (cond i (joined c.known o) (known_at (each_case (λ k. joined k o) cs) o v))
    split true rest = joined-holds-second s c.known o h
    split false rest = rest

pub brought-holds : (s : Store) (t : CType) (b : ByNumber) (x : ℤ) (y : CValue) → Hold s (at b (Some x))
    → converted t x ≡ Gives y → Hold s (at (brought t b) (Some y.value))
brought-holds s t b x y h to = split (all_fit t b.cases) refl
  where
    named : (i : Bool) → names (Some x) b.cases ≡ i → all_fit t b.cases ≡ true
        → Hold s (known_at (each_case (λ k. joined k b.others) b.cases) b.others (Some y.value))
    named true n e =
        let is : record { type = t; value = x } ≡ y =
        same-gives (record { type = t; value = x }) y (sym (named-stays t b.cases x e n) ∙ to) in
        subst (λ (y : CValue). Hold s (known_at (each_case (λ k. joined k b.others) b.cases) b.others (Some y.value))) is
        (with-others s b.cases b.others (Some x) h)
    named false n e =
        others-hold s b.cases b.others (Some y.value)
        (subst (λ (k : Known). Hold s k) (none-named b.cases b.others (Some x) n) h)

    split : (i : Bool) → all_fit t b.cases ≡ i
        → Hold s (at (cond i (record { cases = each_case (λ k. joined k b.others) b.cases; others = b.others })
        (record { cases = []; others = all_of b })) (Some y.value))
    split true e = named (names (Some x) b.cases) refl e
    split false e = all-holds s b.cases b.others (Some x) h

-- ---- both ways

module _ (s : Store) (b : ByNumber) (J : Known) (v : Option ℤ) where
  cases-first : (cs more : List Numbered) (o : Known) → Hold s (known_at cs o v)
      → (Hold s o → Hold s (known_at more J v)) → Hold s (known_at (joined_cases cs b more) J v)
  cases-first [] more o h go = go h
  cases-first (c ∷ cs) more o h go = split (is_value v c.number) (λ h. cases-first cs more o h go) h
    where
      split : (i : Bool) → (Hold s (known_at cs o v) → Hold s (known_at (joined_cases cs b more) J v))
          → Hold s (cond i c.known (known_at cs o v))
          → Hold s (cond i (joined c.known (at b (Some (pos c.number)))) (known_at (joined_cases cs b more) J v))
      split true rest h = joined-holds-first s c.known (at b (Some (pos c.number))) h
      split false rest h = rest h

  cases-second : (cs more : List Numbered) → Hold s (at b v) → (names v cs ≡ false → Hold s (known_at more J v))
      → Hold s (known_at (joined_cases cs b more) J v)
  cases-second [] more h go = go refl
  cases-second (c ∷ cs) more h go =
      split (is_value v c.number) refl (λ go. cases-second cs more h go)
    where
      split : (i : Bool) → is_value v c.number ≡ i
          → ((names v cs ≡ false → Hold s (known_at more J v)) → Hold s (known_at (joined_cases cs b more) J v))
          → Hold s (cond i (joined c.known (at b (Some (pos c.number)))) (known_at (joined_cases cs b more) J v))
      split true is rest =
          joined-holds-second s c.known (at b (Some (pos c.number)))
          (subst (λ (v : Option ℤ). Hold s (at b v)) (value-is v c.number is) h)
      split false is rest = rest (λ e. go (ap (λ (i : Bool). cond i true (names v cs)) is ∙ e))

module _ (s : Store) (cs : List Numbered) (o J : Known) (v : Option ℤ) where
  added-first : (ds : List Numbered) → Hold s o → Hold s J → Hold s (known_at (added cs o ds) J v)
  added-first [] h j = j
  added-first (d ∷ ds) h j = split (names (Some (pos d.number)) cs) (is_value v d.number) refl (added-first ds h j)
    where
      one : (i : Bool) → Hold s (known_at (added cs o ds) J v)
          → Hold s (cond i (joined o d.known) (known_at (added cs o ds) J v))
      one true rest = joined-holds-first s o d.known h
      one false rest = rest

      split : (n i : Bool) → is_value v d.number ≡ i → Hold s (known_at (added cs o ds) J v)
          → Hold s (known_at (cond n (added cs o ds)
          (record { number = d.number; known = joined o d.known } ∷ added cs o ds)) J v)
      split true i is rest = rest
      split false i is rest = one (is_value v d.number) rest

  added-second : (o' : Known) → (Hold s o' → Hold s J) → names v cs ≡ false → (ds : List Numbered)
      → Hold s (known_at ds o' v) → Hold s (known_at (added cs o ds) J v)
  added-second o' go none [] h = go h
  added-second o' go none (d ∷ ds) h =
      split (names (Some (pos d.number)) cs) refl (is_value v d.number) refl (λ h. added-second o' go none ds h) h
    where
      split : (n : Bool) → names (Some (pos d.number)) cs ≡ n → (i : Bool) → is_value v d.number ≡ i
          → (Hold s (known_at ds o' v) → Hold s (known_at (added cs o ds) J v))
          → Hold s (cond i d.known (known_at ds o' v))
          → Hold s (known_at (cond n (added cs o ds)
          (record { number = d.number; known = joined o d.known } ∷ added cs o ds)) J v)
      split true named true is rest h =
          absurd (differ (sym named
          ∙ ap (λ (v : Option ℤ). names v cs) (sym (value-is v d.number is)) ∙ none))
      split true named false is rest h = rest h
      split false named true is rest h =
          subst (λ (i : Bool). Hold s (cond i (joined o d.known) (known_at (added cs o ds) J v))) (sym is)
          (joined-holds-second s o d.known h)
      split false named false is rest h =
          subst (λ (i : Bool). Hold s (cond i (joined o d.known) (known_at (added cs o ds) J v))) (sym is) (rest h)

pub joined-by-first : (s : Store) (a b : ByNumber) (v : Option ℤ) → Hold s (at a v) → Hold s (at (joined_by a b) v)
joined-by-first s a b v h =
    cases-first s b (joined a.others b.others) v a.cases (added a.cases a.others b.cases) a.others h
    (λ ho. added-first s a.cases a.others (joined a.others b.others) v b.cases ho
    (joined-holds-first s a.others b.others ho))

pub joined-by-second : (s : Store) (a b : ByNumber) (v : Option ℤ) → Hold s (at b v) → Hold s (at (joined_by a b) v)
joined-by-second s a b v h =
    cases-second s b (joined a.others b.others) v a.cases (added a.cases a.others b.cases) h
    (λ none. added-second s a.cases a.others (joined a.others b.others) v b.others
    (λ ho. joined-holds-second s a.others b.others ho) none b.cases h)

-- ---- facts

pub type-is : (t u : CType) → same_type t u ≡ true → t ≡ u
type-is (Signed v) (Signed w) e = ap Signed (is-width v w e)
type-is (Signed v) (Unsigned w) e = absurd cc
type-is (Signed v) Truth e = absurd cc
type-is (Unsigned v) (Signed w) e = absurd cc
type-is (Unsigned v) (Unsigned w) e = ap Unsigned (is-width v w e)
type-is (Unsigned v) Truth e = absurd cc
type-is Truth (Signed w) e = absurd cc
type-is Truth (Unsigned w) e = absurd cc
type-is Truth Truth e = refl

-- the local of these facts has that value
pub local-is : (l : Locals) (t : CType) (i : ℕ) (F : Facts) → is_local t i F ≡ true → l F.type F.local ≡ l t i
local-is l t i F e =
    let both = and-true (nat_eq F.local i) (same_type F.type t) e in
    ap (λ (u : CType). l u F.local) (type-is F.type t both.1) ∙ ap (λ (j : ℕ). l t j) (same F.local i both.0)

module _ (s : Store) (l : Locals) (F G : Facts) where
  abbrev either : Bool → Facts
  either b =
      cond b (record { type = F.type; local = F.local; by = joined_by F.by G.by })
      (alone (joined (all_of F.by) (all_of G.by)))

  pub joined-facts-first : Holds s l F → Holds s l (joined_facts F G)
  joined-facts-first h = split (is_nowhere F.by) refl (is_nowhere G.by) (is_local F.type F.local G)
    where
      local : (c : Bool) → Holds s l (either c)
      local true = joined-by-first s F.by G.by (l F.type F.local) h
      local false =
          joined-holds-first s (all_of F.by) (all_of G.by) (all-holds s F.by.cases F.by.others (l F.type F.local) h)

      split : (a : Bool) → is_nowhere F.by ≡ a → (b c : Bool) → Holds s l (cond a G (cond b F (either c)))
      split true e b c = absurd (nowhere-holds s F.by (l F.type F.local) e h)
      split false e true c = h
      split false e false c = local c

  pub joined-facts-second : Holds s l G → Holds s l (joined_facts F G)
  joined-facts-second h = split (is_nowhere F.by) (is_nowhere G.by) refl (is_local F.type F.local G) refl
    where
      local : (c : Bool) → is_local F.type F.local G ≡ c → Holds s l (either c)
      local true is =
          joined-by-second s F.by G.by (l F.type F.local)
          (subst (λ (v : Option ℤ). Hold s (at G.by v)) (local-is l F.type F.local G is) h)
      local false is =
          joined-holds-second s (all_of F.by) (all_of G.by) (all-holds s G.by.cases G.by.others (l G.type G.local) h)

      split : (a b : Bool) → is_nowhere G.by ≡ b → (c : Bool) → is_local F.type F.local G ≡ c
          → Holds s l (cond a G (cond b F (either c)))
      split true b e c is = h
      split false true e c is = absurd (nowhere-holds s G.by (l G.type G.local) e h)
      split false false e c is = local c is

-- ---- a test of the local

pub narrowed-holds : (s : Store) (t : CType) (way : Bool) (n : ℕ) (cs : List Numbered) (o : Known) (v : Option ℤ)
    → ((c : ℕ) → v ≡ Some (pos c) → fits t c ≡ true → agrees way (nat_eq c n) ≡ true) → Hold s (known_at cs o v)
    → Hold s (known_at (narrowed t way n cs) o v)
narrowed-holds s t way n [] o v tells h = h
narrowed-holds s t way n (c ∷ cs) o v tells h =
    split (is_value v c.number) refl (λ h. narrowed-holds s t way n cs o v tells h) h
  where
    kept : (f a : Bool) → fits t c.number ≡ f → agrees way (nat_eq c.number n) ≡ a → v ≡ Some (pos c.number)
        → Hold s c.known → Hold s (cond (f && not a) Never c.known)
    kept true true ef ea is h = h
    kept true false ef ea is h = absurd (differ (sym (tells c.number is ef) ∙ ea))
    kept false a ef ea is h = h

    split : (i : Bool) → is_value v c.number ≡ i
        → (Hold s (known_at cs o v) → Hold s (known_at (narrowed t way n cs) o v))
        → Hold s (cond i c.known (known_at cs o v))
        → Hold s (cond i (cond (fits t c.number && not (agrees way (nat_eq c.number n))) Never c.known)
        (known_at (narrowed t way n cs) o v))
    split true is rest h =
        kept (fits t c.number) (agrees way (nat_eq c.number n)) refl refl (value-is v c.number is) h
    split false is rest h = rest h
