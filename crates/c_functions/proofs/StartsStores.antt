-- The start stores all fields, and then the struct shows the world before it.
use Rattle.std.proofs.Common.{◌≡◌, ℕ, zero, suc, ◌+◌, ◌/◌, ◌^◌, ◌<◌, nat_eq, ℤ, pos, negsuc, Bool, true}
use Rattle.std.proofs.Common.{false, cond, not}
use Rattle.std.proofs.Common.{List, [], ◌∷◌, ◌++◌, length, map, replicate, Option, Some, slice_get, slice_set}
use Rattle.std.proofs.Common.{slice_index_or}
use Rattle.std.proofs.Common.{refl, sym, ap, ◌∙◌, subst, arith, mod-lt, div-add-mod'}
use Rattle.std.proofs.lemmas.Int.{ints}
use Rattle.std.proofs.lemmas.List.{length-map, length-replicate}
use Rattle.std.proofs.lemmas.Nat.Bits.{bit_at-zero}
use Rattle.std.specs.List.{AllByRecursion}
use Rattle.std.specs.Prelude.{IsTrue}
use Rattle.active_config.specs.Tree.{Tree, state_count}
use Rattle.actions.specs.declared.names.Sort.{Sort}
use Rattle.actions.specs.declared.names.Sort.TheVariants as sorts
use Rattle.actions.specs.declared.names.Var.{Var}
use Rattle.actions.specs.Data.{Datum, datum, no_datum, declared_datum, initial, is_mantissa_of, HasInits}
use Rattle.c_subset.specs.Trees.{CExpr, Const, Block, Compare}
use Rattle.c_subset.specs.declared.trees.Width.{Width}
use Rattle.c_subset.specs.declared.trees.Width.TheVariants.{W16, W32}
use Rattle.c_subset.specs.declared.trees.CType.{CType}
use Rattle.c_subset.specs.declared.trees.CType.TheVariants.{Unsigned, Truth}
use Rattle.c_subset.specs.declared.trees.Comparison.TheVariants.{IsUnequal}
use Rattle.c_subset.specs.Trees.{Return, Store as PutField}
use Rattle.c_subset.specs.Meaning.{CValue, Meaning, with_meaning, gives, converted, one_if, is_true, Object}
use Rattle.c_subset.specs.Meaning.{Store, Locals, meaning}
use Rattle.c_subset.specs.Running.{Outcome, Returns, Calls, with_value, object_of, brought_to, with_local, with_field}
use Rattle.c_subset.specs.Running.{called, returned, outcome}
use Rattle.c_subset.proofs.TypeLemmas.{truth-stays}
use Rattle.c_functions.specs.Claims.{field_type, Has}
use Rattle.c_functions.proofs.StoringFields.{field-takes}
use Rattle.c_functions.specs.States.{no_fields}
use Rattle.c_functions.specs.Statements.{CMemory}
use Rattle.c_functions.specs.Layout.{HoldsStates, or_count, or_rank}
use Rattle.c_functions.specs.Plans.{Shape, layout, word, number, bad, result_local, out_row, note_row}
use Rattle.c_functions.specs.Files.{HasWord, HasRow, ShowsMemory}
use Rattle.c_functions.specs.Moments.{arguments_c}
use Rattle.c_functions.specs.Starts.{state_values, zero_word, first_values, store_all, outside_c, first_struct}
use Rattle.c_functions.proofs.LayoutTests.{unsigned, equal-numbers}
use Rattle.c_functions.proofs.PlansWords.{number-means, local-means, compare-has, values-given, called-goes, or-got, got}
use Rattle.c_functions.proofs.PlansAssignments.{mapped}
use Rattle.c_functions.proofs.FilesFunctions.{get-left, get-right}
use Rattle.c_functions.proofs.LayoutPlaces.{rank-below}
use Rattle.c_functions.proofs.PlansEnds.{IsFit}

-- ---- constants into all fields

get-at : (done : List Object) (o : Object) (todo : List Object) → slice_get (done ++ o ∷ todo) (length done) ≡ Some o
get-at [] o todo = refl
get-at (x ∷ done) o todo = get-at done o todo

set-at : (done : List Object) (o y : Object) (todo : List Object)
    → slice_set (done ++ o ∷ todo) (length done) y ≡ (done ++ y ∷ []) ++ todo
set-at [] o y todo = refl
set-at (x ∷ done) o y todo = ap (λ (l : List Object). x ∷ l) (set-at done o y todo)

append-one : (done : List Object) (y : Object) (zs : List Object) → (done ++ y ∷ []) ++ zs ≡ done ++ y ∷ zs
append-one [] y zs = refl
append-one (x ∷ done) y zs = ap (λ (l : List Object). x ∷ l) (append-one done y zs)

length-one : (done : List Object) (y : Object) → length (done ++ y ∷ []) ≡ suc (length done)
length-one [] y = refl
length-one (x ∷ done) y = ap suc (length-one done y)

-- each constant is one of its type
abbrev pub AllStay : List CValue → Type 0
AllStay [] = Unit {0}
AllStay (x ∷ xs) = (converted x.type x.value ≡ gives x.type x.value) × AllStay xs

abbrev types_of : List Object → List CType
types_of xs = map (λ (o : Object). o.type) xs

abbrev value_types : List CValue → List CType
value_types xs = map (λ (x : CValue). x.type) xs

abbrev head_type : List CType → CType
head_type [] = Truth
head_type (t ∷ ts) = t

abbrev tail_types : List CType → List CType
tail_types [] = []
tail_types (t ∷ ts) = ts

module _ (int : Width) (calls : Calls) (k : ℕ) (rest : Block) (rows : List (List Object)) (l : Locals) where
  -- one constant
  one-goes : (x : CValue) (more : Block) (done : List Object) (o : Object) (todo : List Object)
      → converted x.type x.value ≡ gives x.type x.value → o.type ≡ x.type
      → outcome int calls k (PutField (length done) (Const x.type x.value) more)
      (record { fields = done ++ o ∷ todo; rows = rows }) l
      ≡ outcome int calls k more (record { fields = (done ++ object_of x ∷ []) ++ todo; rows = rows }) l
  unfolding outcome meaning
  one-goes x more done o todo stays type =
      let s : Store = record { fields = done ++ o ∷ todo; rows = rows } in
      ap (λ (m : Meaning). with_value (with_meaning m (λ y. brought_to (slice_get s.fields (length done)) y.value))
      (λ y. outcome int calls k more (with_field s (length done) y) l)) stays
      ∙ ap (λ (p : Option Object). with_value (brought_to p x.value)
      (λ y. outcome int calls k more (with_field s (length done) y) l)) (get-at done o todo)
      ∙ ap (λ (t : CType). with_value (converted t x.value)
      (λ y. outcome int calls k more (with_field s (length done) y) l)) type
      ∙ ap (λ (m : Meaning). with_value m (λ y. outcome int calls k more (with_field s (length done) y) l)) stays
      ∙ ap (λ (fields : List Object). outcome int calls k more (record { fields = fields; rows = rows }) l)
      (set-at done o (object_of x) todo)

  pub all-go : (xs : List CValue) (done todo : List Object) → types_of todo ≡ value_types xs → AllStay xs
      → outcome int calls k (store_all (length done) xs rest) (record { fields = done ++ todo; rows = rows }) l
      ≡ outcome int calls k rest (record { fields = done ++ map object_of xs; rows = rows }) l
  all-go [] [] [] e h = refl
  all-go [] (x ∷ done) [] e h = refl
  all-go [] done (o ∷ todo) e h = absurd cc
  all-go (x ∷ xs) done [] e h = absurd cc
  all-go (x ∷ xs) done (o ∷ todo) e h =
      one-goes x (store_all (suc (length done)) xs rest) done o todo h.0 (ap head_type e)
      ∙ ap (λ (n : ℕ). outcome int calls k (store_all n xs rest)
      (record { fields = (done ++ object_of x ∷ []) ++ todo; rows = rows }) l) (sym (length-one done (object_of x)))
      ∙ all-go xs (done ++ object_of x ∷ []) todo (ap tail_types e) h.1
      ∙ ap (λ (fields : List Object). outcome int calls k rest (record { fields = fields; rows = rows }) l)
      (append-one done (object_of x) (map object_of xs))

-- ---- the first values

flag-stays : (m : ℤ) → is_mantissa_of sorts.Flag m ≡ true → one_if (is_true m) ≡ m
flag-stays (pos zero) is = refl
flag-stays (pos (suc zero)) is = refl
flag-stays (pos (suc (suc m))) is = absurd (grind (arith, ints))
flag-stays (negsuc m) is = absurd (grind (arith, ints))

init-stays : (sort : Sort) (m : ℤ) → is_mantissa_of sort m ≡ true
    → converted (field_type sort) m ≡ gives (field_type sort) m
init-stays sorts.Flag m is = ap (λ (z : ℤ). gives Truth z) (flag-stays m is)
init-stays (sorts.Number scale) m is = field-takes scale m is

-- the same constant over and over, and then others
same-stay : (n : ℕ) (x : CValue) (rest : List CValue) → converted x.type x.value ≡ gives x.type x.value
    → AllStay rest → AllStay (replicate n x ++ rest)
same-stay zero x rest h more = more
same-stay (suc n) x rest h more = (h, same-stay n x rest h more)

words-stay : (n : ℕ) → AllStay (replicate n zero_word)
words-stay zero = tt
words-stay (suc n) = (refl, words-stay n)

states-stay : (t : Tree) → AllStay (state_values t)
states-stay t = same-stay (or_count t + or_count t) (record { type = Unsigned W16; value = pos 0 }) _ refl
    (words-stay ((state_count t + 31) / 32))

data-stay : (vars : List Var) (rest : List CValue) → AllByRecursion (λ (v : Var). IsTrue
    (is_mantissa_of v.sort v.init)) vars
    → AllStay rest
    → AllStay (map (λ (v : Var). record { type = field_type v.sort; value = v.init }) vars ++ rest)
data-stay [] rest h more = more
data-stay (v ∷ vars) rest h more = (init-stays v.sort v.init h.0, data-stay vars rest h.1 more)

pub first-stay : (K : Shape) → HasInits K.names → AllStay (first_values K)
unfolding first_values
first-stay K inits = data-stay K.names.vars _ inits (same-stay 6 zero_word _ refl (states-stay K.tree))

-- the values of states: numbers, and words after them
replicate-got : (n i : ℕ) (x : CValue) → i < n → slice_get (replicate n x) i ≡ Some x
replicate-got zero i x lt = absurd (omega (arith, lt))
replicate-got (suc n) zero x lt = refl
replicate-got (suc n) (suc i) x lt = replicate-got n i x (omega (arith, lt))

number-got : (t : Tree) (i : ℕ) → i < or_count t + or_count t
    → slice_get (state_values t) i ≡ Some (unsigned W16 0)
number-got t i lt =
    get-left (replicate (or_count t + or_count t) (unsigned W16 0)) _ i _
    (replicate-got (or_count t + or_count t) i (unsigned W16 0) lt)

word-got : (t : Tree) (x : ℕ) → x < state_count t
    → slice_get (state_values t) (or_count t + or_count t + x / 32) ≡ Some zero_word
word-got t x lt =
    let a = div-add-mod' x 32 in
    let b = div-add-mod' (state_count t + 31) 32 in
    let r = mod-lt (state_count t + 31) (let some : 0 < 32 = omega arith in some) in
    get-right (replicate (or_count t + or_count t) (unsigned W16 0)) _ (or_count t + or_count t) (x / 32)
    (length-replicate (or_count t + or_count t) (unsigned W16 0))
    ∙ replicate-got ((state_count t + 31) / 32) (x / 32) zero_word (omega (arith, a, b, r, lt))

zeros-or : (n p : ℕ) → ◌≡◌ {A = ℕ} (slice_index_or (replicate n 0) p 0) 0
zeros-or zero p = refl
zeros-or (suc n) zero = refl
zeros-or (suc n) (suc p) = zeros-or n p

falses-or : (n p : ℕ) → slice_index_or (replicate n false) p false ≡ false
falses-or zero p = refl
falses-or (suc n) zero = refl
falses-or (suc n) (suc p) = falses-or n p

-- the memory before the start
abbrev pub memory_before : Shape → CMemory
memory_before K = record {
  states = no_fields K.tree;
  vals = initial K.names;
  outputs = [];
  used = 0;
  notes = [];
}

module _ (K : Shape) (s : Store) where
  -- a value after the data
  later-there : (i : ℕ) (x : CValue)
      → slice_get (replicate 6 zero_word ++ state_values K.tree) i
      ≡ Some x → slice_get (first_struct K s).fields (length K.names.vars + i) ≡ Some (object_of x)
  unfolding first_values
  later-there i x e =
      mapped object_of (first_values K) (length K.names.vars + i) x
      (get-right (map (λ (v : Var). record { type = field_type v.sort; value = v.init }) K.names.vars) _
      (length K.names.vars) i (length-map K.names.vars _) ∙ e)

  word-there : (i : ℕ)
      → slice_get (replicate 6 zero_word ++ state_values K.tree) i
      ≡ Some zero_word → HasWord (first_struct K s).fields (length K.names.vars + i) 0
  word-there i e = record { there = later-there i zero_word e; small = omega arith }

  -- a value of states
  state-there : (i j : ℕ) (x : CValue) → slice_get (state_values K.tree) i ≡ Some x
      → j ≡ length K.names.vars + 6 + i → slice_get (first_struct K s).fields j ≡ Some (object_of x)
  state-there i j x e at =
      let same : j ≡ length K.names.vars + (6 + i) = omega (arith, at) in
      ap (λ (j : ℕ). slice_get (first_struct K s).fields j) same
      ∙ later-there (6 + i) x (get-right (replicate 6 zero_word) (state_values K.tree) 6 i refl ∙ e)

  datum-there : (v : ℕ) → v < length (initial K.names)
      → slice_get (first_struct K s).fields v
      ≡ Some (record {
        type = field_type (datum (initial K.names) v).sort;
        value = Some (datum
            (initial K.names) v).mantissa;
      })
  unfolding first_values initial datum
  datum-there v lt =
      let count = length-map K.names.vars declared_datum in
      let x = got K.names.vars v (omega (arith, lt, count)) in
      let d = or-got (map declared_datum K.names.vars) v (declared_datum x.0) no_datum
      (mapped declared_datum K.names.vars v x.0 x.1) in
      mapped object_of (first_values K) v (record { type = field_type x.0.sort; value = x.0.init })
      (get-left (map (λ (v : Var). record { type = field_type v.sort; value = v.init }) K.names.vars) _ v _
      (mapped (λ (v : Var). record { type = field_type v.sort; value = v.init }) K.names.vars v x.0 x.1))
      ∙ ap (λ (d : Datum). Some (record { type = field_type d.sort; value = Some d.mantissa })) (sym d)

  states-held : HoldsStates K.tree (layout K) (no_fields K.tree) (first_struct K s)
  unfolding no_fields
  states-held = record {
    chosen = λ p or.
        let lt = rank-below K.tree p or in
        state-there (or_rank K.tree p) ((layout K).chosen p) _
        (number-got K.tree (or_rank K.tree p) (omega (arith, lt))) refl
        ∙ ap (λ (a : ℕ). Some (object_of (unsigned W16 a))) (sym (zeros-or (state_count K.tree) p));
    chosen_small = λ p or. let z = zeros-or (state_count K.tree) p in omega (arith, z);
    kept = λ p or.
        let lt = rank-below K.tree p or in
        state-there (or_count K.tree + or_rank K.tree p) ((layout K).kept p) _
        (number-got K.tree (or_count K.tree + or_rank K.tree p) (omega (arith, lt))) (omega arith)
        ∙ ap (λ (a : ℕ). Some (object_of (unsigned W16 a))) (sym (zeros-or (state_count K.tree) p));
    kept_small = λ p or. let z = zeros-or (state_count K.tree) p in omega (arith, z);
    flags = λ x lt none.
        record {
          word = 0;
          there = state-there (or_count K.tree + or_count K.tree + x / 32) ((layout K).word x) _
              (word-got K.tree x lt) (omega arith);
          small = omega arith;
          bit_is = bit_at-zero ((layout K).bit x)
              ∙ ap (λ (b : Bool). cond b 1 0) (sym (falses-or (state_count K.tree) x));
        };
  }

  pub first-shows : HasRow s.rows out_row K.outputs [] → HasRow s.rows note_row K.notes []
      → ShowsMemory K 0 0 0 (memory_before K) (first_struct K s)
  first-shows out note = record {
    states = states-held;
    vals = λ v lt. datum-there v lt;
    used = λ t. let e : length K.names.vars + 0 ≡ length K.names.vars = omega arith in
        subst (λ (i : ℕ). HasWord (first_struct K s).fields i 0) e (word-there 0 refl);
    outs = word-there 1 refl;
    noted = word-there 2 refl;
    fault_is = word-there 3 refl;
    datum_is = word-there 4 refl;
    ready_is = word-there 5 refl;
    out = out;
    note = note;
  }

-- ---- a call from outside

module _ (K : Shape) (int : Width) (fit : IsFit K int) where
  -- what it returns tells whether the result is BAD
  pub outside-goes : (calls : Calls) (k p e r : ℕ) (ev : CExpr) (s after : Store) (l : Locals)
      → meaning int s l ev ≡ gives word (pos e) → r < 2 ^ 32
      → calls p (arguments_c e 0 0 0 0) s ≡ Returns after (unsigned W32 r)
      → returned Truth (outcome int calls k (outside_c p ev) s l)
      ≡ Returns after (record { type = Truth; value = one_if (not (nat_eq r bad)) })
  unfolding outcome
  outside-goes calls k p e r ev s after l means small gives_r =
      let test = Compare IsUnequal result_local (number bad) in
      let zeros = number-means int fit.most s l 0 (omega arith) in
      let l' : Locals = with_local l word 4 (pos r) in
      let has : Has int after l' (Compare IsUnequal result_local (number bad)) (one_if (not (nat_eq r bad))) =
      subst (λ (b : Bool). Has int after l' (Compare IsUnequal result_local (number bad)) (one_if b))
      (ap not (equal-numbers r bad))
      (compare-has int fit.most after l' IsUnequal result_local (number bad) r bad small (omega arith)
      (local-means int fit.most after l' 4 r refl) (number-means int fit.most after l' bad (omega arith))) in
      ap (returned Truth)
      (values-given int fit.most s l (ev ∷ number 0 ∷ number 0 ∷ number 0 ∷ number 0 ∷ []) (arguments_c e 0 0 0 0)
      (λ xs. called (calls p xs s) word 4 l (λ v m. outcome int calls k (Return test) v m))
      (means, (zeros, (zeros, (zeros, (zeros, tt)))))
      ∙ ap (λ (o : Outcome). called o word 4 l (λ v m. outcome int calls k (Return test) v m)) gives_r
      ∙ called-goes after r 4 l (λ v m. outcome int calls k (Return test) v m) small
      ∙ ap (λ (m : Meaning). with_value m (λ x. Returns after x)) has.1)
      ∙ ap (λ (b : Bool). Returns after (record { type = Truth; value = one_if b })) (truth-stays (not (nat_eq r bad)))
