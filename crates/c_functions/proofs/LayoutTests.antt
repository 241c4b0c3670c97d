-- The tests of states give what the fields tell.
use Rattle.std.proofs.Common.{◌≡◌, ℕ, zero, suc, ◌+◌, ◌-◌, ◌*◌, ◌^◌, ◌<◌, ◌≤◌, nat_eq, nat_lt, pos, Bool, true, false}
use Rattle.std.proofs.Common.{cond, not, ◌&&◌, ◌||◌, if◌then◌else◌, List, [], ◌∷◌, filter, Option, Some, None}
use Rattle.std.proofs.Common.{slice_get, slice_index_or, refl, ap, ◌∙◌, subst, arith, mod-eq_of_lt, pow-suc}
use Rattle.std.specs.List.{list_any, range_with_len}
use Rattle.std.specs.Option.{option_map_or}
use Rattle.std.proofs.lemmas.Int.{ints}
use Rattle.std.proofs.lemmas.Nat.{pow_pos}
use Rattle.std.proofs.lemmas.Nat.Bits.{and_pow}
use Rattle.std.proofs.lemmas.Bool.Decides.{nat_tests}
use Rattle.fixed_point.proofs.Powers.{power-le}
use Rattle.active_config.specs.Tree.{Tree, state_count, parent_of, comp_of, is_child, children_below, children_of}
use Rattle.active_config.specs.Tree.{is_or}
use Rattle.active_config.specs.Marks.{Configuration, mark_count}
use Rattle.c_subset.specs.declared.trees.Width.{Width}
use Rattle.c_subset.specs.declared.trees.Width.TheVariants.{W8, W16, W32, W64, W128}
use Rattle.c_subset.specs.declared.trees.CType.{CType}
use Rattle.c_subset.specs.declared.trees.CType.TheVariants.{Signed, Unsigned}
use Rattle.c_subset.specs.declared.trees.Bitwise.TheVariants.{BitAnd}
use Rattle.c_subset.specs.declared.trees.Comparison.{Comparison}
use Rattle.c_subset.specs.declared.trees.Comparison.TheVariants.{IsEqual}
use Rattle.c_subset.specs.Trees.{CExpr, Const, Field, Bang, Bits, Both}
use Rattle.c_subset.specs.declared.trees.Comparison.TheVariants.{IsUnequal}
use Rattle.c_subset.specs.Meaning.{bits, fits_signed, CValue, Meaning, Wrong, with_meaning, gives, converted, common_of}
use Rattle.c_subset.specs.Meaning.{common, combined, combined_in, compared, passes, truth, one_if, Object, read, Store}
use Rattle.c_subset.specs.Meaning.{Locals, meaning}
use Rattle.c_functions.specs.Claims.{Has, ShowsActive}
use Rattle.c_functions.proofs.TranslationOperators.{bang-has}
use Rattle.c_functions.proofs.TranslationDecisions.{both-decides}
use Rattle.c_functions.specs.States.{States, Shows, or_parent, on_by, c_on, c_bare, childless_by, last_by}
use Rattle.c_functions.proofs.StatesTests.{on_is, or_parent_is}
use Rattle.c_functions.specs.Layout.{Layout, HasBit, IsLayout, HoldsStates, number_test, bit_test, on_by_c}
use Rattle.c_functions.specs.Layout.{and_no_bits, and_childless_c, bare_c, on_c, last_c}

abbrev pub unsigned : Width → ℕ → CValue
unsigned w a = record { type = Unsigned w; value = pos a }

-- ---- values of one unsigned type

same_either : (c : Bool) (t : CType) → cond c t t ≡ t
same_either true t = refl
same_either false t = refl

-- a type in which they are as they are
record IsShared (int w : Width) : Type 0 where
  type : CType
  is : common int (Unsigned w) (Unsigned w) ≡ type
  stays : (a : ℕ) → a < 2 ^ bits w → converted type (pos a) ≡ gives type (pos a)

pub own-stays : (w : Width) (a : ℕ) → a < 2 ^ bits w → converted (Unsigned w) (pos a) ≡ gives (Unsigned w) (pos a)
own-stays w a below = ap (λ (x : ℕ). gives (Unsigned w) (pos x)) (mod-eq_of_lt below)

shared : (int w : Width) → IsShared int w
shared int w = at (nat_lt (bits w) (bits int)) refl
  where
    at : (b : Bool) → nat_lt (bits w) (bits int) ≡ b → IsShared int w
    at true e = record {
      type = Signed int;
      is = ap (λ (b : Bool). common_of (cond b (Signed int) (Unsigned w)) (cond b (Signed int) (Unsigned w))) e
          ∙ same_either (nat_lt (bits int) (bits int)) (Signed int);
      stays = λ a below.
          let less : bits w < bits int = grind (arith, nat_tests) in
          let wider = power-le (bits w) (bits int - 1) (omega (arith, less)) in
          let fits : fits_signed (bits int) (pos a) ≡ true = grind (arith, ints) in
          ap (λ (b : Bool). cond b (gives (Signed int) (pos a)) Wrong) fits;
    }
    at false e = record {
      type = Unsigned w;
      is = ap (λ (b : Bool). common_of (cond b (Signed int) (Unsigned w)) (cond b (Signed int) (Unsigned w))) e
          ∙ same_either (nat_lt (bits w) (bits w)) (Unsigned w);
      stays = own-stays w;
    }

pub compared-unsigned : (int w : Width) (op : Comparison) (a b : ℕ) → a < 2 ^ bits w → b < 2 ^ bits w
    → compared int op (unsigned w a) (unsigned w b) ≡ truth int (passes op (pos a) (pos b))
compared-unsigned int w op a b fa fb =
    let c = shared int w in
    ap (λ (t : CType). with_meaning (converted t (pos a))
    (λ x. with_meaning (converted t (pos b)) (λ y. truth int (passes op x.value y.value)))) c.is
    ∙ ap (λ (m : Meaning). with_meaning m
    (λ x. with_meaning (converted c.type (pos b)) (λ y. truth int (passes op x.value y.value)))) (c.stays a fa)
    ∙ ap (λ (m : Meaning). with_meaning m (λ y. truth int (passes op (pos a) y.value))) (c.stays b fb)

-- ---- numbers

pub equal-numbers : (a b : ℕ) → passes IsEqual (pos a) (pos b) ≡ nat_eq a b
equal-numbers a b = grind (arith, ints, nat_tests)

number-has : (int : Width) (s : Store) (l : Locals) (L : Layout) (f a i : ℕ)
    → slice_get s.fields f ≡ Some (record { type = Unsigned L.numbers; value = Some (pos a) }) → a < 2 ^ bits L.numbers
    → i < 2 ^ bits L.numbers → Has int s l (number_test L f i) (one_if (nat_eq a i))
unfolding meaning
number-has int s l L f a i there fa fi = (
  Signed int,
  ap (λ (o : Option Object). with_meaning (read o)
      (λ x. with_meaning (converted (Unsigned L.numbers) (pos i)) (compared int IsEqual x))) there
      ∙ ap (λ (m : Meaning). with_meaning m (compared int IsEqual (unsigned L.numbers a))) (own-stays L.numbers i fi)
      ∙ compared-unsigned int L.numbers IsEqual a i fa fi
      ∙ ap (truth int) (equal-numbers a i),
)

-- ---- bits

-- a word isn't promoted, where int has at most 32 bits
pub word_stays : (int : Width) → bits int ≤ 32 → common int (Unsigned W32) (Unsigned W32) ≡ Unsigned W32
word_stays W8 most = refl
word_stays W16 most = refl
word_stays W32 most = refl
word_stays W64 most = absurd (omega arith)
word_stays W128 most = absurd (omega arith)

pub bit-small : (k : ℕ) → k < 32 → 2 ^ k < 2 ^ 32
bit-small k lt = let some = pow_pos k in let h = power-le (suc k) 32 lt in let twice = pow-suc 2 k in omega
    (arith, some, h, twice)

unequal-bit : (k : ℕ) (b : Bool) → passes IsUnequal (pos (cond b (2 ^ k) 0)) (pos 0) ≡ b
unequal-bit k true = let some = pow_pos k in grind (arith, ints)
unequal-bit k false = refl

set-small : (k : ℕ) (b : Bool) → k < 32 → cond b (2 ^ k) 0 < 2 ^ 32
set-small k true lt = bit-small k lt
set-small k false lt = pow_pos 32

masked-means : (int : Width) (s : Store) (l : Locals) (f k : ℕ) (b : Bool) → bits int ≤ 32 → k < 32 → HasBit s f k b
    → meaning int s l (Bits BitAnd (Field f) (Const (Unsigned W32) (pos (2 ^ k)))) ≡ gives (Unsigned W32)
    (pos (cond b (2 ^ k) 0))
unfolding meaning
masked-means int s l f k b most lt h =
    let mask = 2 ^ k in
    ap (λ (o : Option Object). with_meaning (read o)
    (λ x. with_meaning (converted (Unsigned W32) (pos mask)) (combined int BitAnd x))) h.there
    ∙ ap (λ (m : Meaning). with_meaning m (combined int BitAnd (unsigned W32 h.word)))
    (own-stays W32 mask (bit-small k lt))
    ∙ ap (λ (t : CType). with_meaning (converted t (pos h.word))
    (λ x. with_meaning (converted t (pos mask)) (λ y. combined_in t BitAnd x.value y.value))) (word_stays int most)
    ∙ ap (λ (m : Meaning). with_meaning m
    (λ x. with_meaning (converted (Unsigned W32) (pos mask)) (λ y. combined_in (Unsigned W32) BitAnd x.value y.value)))
    (own-stays W32 h.word h.small)
    ∙ ap (λ (m : Meaning). with_meaning m (λ y. combined_in (Unsigned W32) BitAnd (pos h.word) y.value))
    (own-stays W32 mask (bit-small k lt))
    ∙ ap (λ (x : ℕ). gives (Unsigned W32) (pos x)) (and_pow h.word k ∙ ap (λ (x : ℕ). x * 2 ^ k) h.bit_is ∙ times b)
  where
    times : (b : Bool) → cond b 1 0 * 2 ^ k ≡ cond b (2 ^ k) 0
    times true = omega arith
    times false = omega arith

bit-has : (int : Width) (s : Store) (l : Locals) (L : Layout) (x : ℕ) (b : Bool) → bits int ≤ 32 → L.bit x < 32
    → HasBit s (L.word x) (L.bit x) b → Has int s l (bit_test L x) (one_if b)
unfolding meaning
bit-has int s l L x b most lt h = (
  Signed int,
  ap (λ (m : Meaning). with_meaning m (λ x. with_meaning (converted (Unsigned W32) (pos 0)) (compared int IsUnequal x)))
      (masked-means int s l (L.word x) (L.bit x) b most lt h)
      ∙ ap (λ (m : Meaning). with_meaning m (compared int IsUnequal (unsigned W32 (cond b (2 ^ L.bit x) 0))))
      (own-stays W32 0 (pow_pos 32))
      ∙ compared-unsigned int W32 IsUnequal (cond b (2 ^ L.bit x) 0) 0 (set-small (L.bit x) b lt) (pow_pos 32)
      ∙ ap (truth int) (unequal-bit (L.bit x) b),
)

-- ---- states

-- a state is active
pub on-has : (int : Width) (s : Store) (l : Locals) (t : Tree) (n : ℕ → ℕ) (L : Layout) (st : States) (x : ℕ)
    → bits int ≤ 32
    → IsLayout t n L → HoldsStates t L st s → x < state_count t → Has int s l (on_c t L n x) (one_if (c_on t n x st))
unfolding on_c c_on
on-has int s l t n L st x most layout holds lt = at (or_parent t (parent_of t x)) refl
  where
    at : (o : Option ℕ) → or_parent t (parent_of t x) ≡ o → Has int s l (on_by_c L n x o) (one_if (on_by n st x o))
    at None e = bit-has int s l L x (slice_index_or st.flags x false) most (layout.bits_are x) (holds.flags x lt e)
    at (Some p) e =
        let or = (or_parent_is t x p e).1 in
        number-has int s l L (L.chosen p) (slice_index_or st.chosen p 0) (n x) (holds.chosen p or)
        (holds.chosen_small p or) (layout.numbers x lt)

-- both tests hold
pub both-has : (int : Width) (s : Store) (l : Locals) (a b : CExpr) (p q : Bool) → Has int s l a (one_if p)
    → Has int s l b (one_if q) → Has int s l (Both a b) (one_if (p && q))
both-has int s l a b true q ha hb = (both-decides int s a b).goes_on l q ha hb
both-has int s l a b false q ha hb = (both-decides int s a b).at_once l ha

-- the bits of some states
abbrev AreBits : Layout → States → Store → List ℕ → Type 0
AreBits L st s [] = Unit {0}
AreBits L st s (x ∷ xs) = HasBit s (L.word x) (L.bit x) (slice_index_or st.flags x false) × AreBits L st s xs

-- a test, and that no bit of some states is set
none-has : (int : Width) (s : Store) (l : Locals) (L : Layout) (st : States) (e : CExpr) (p : Bool) (xs : List ℕ)
    → bits int ≤ 32 → ((x : ℕ) → L.bit x < 32) → AreBits L st s xs → Has int s l e (one_if p)
    → Has int s l (and_no_bits L e xs) (one_if (p && not (list_any (λ x. slice_index_or st.flags x false) xs)))
none-has int s l L st e p [] most small are has =
    subst (λ (c : Bool). Has int s l e (one_if c)) (at p) has
  where
    at : (p : Bool) → p ≡ (p && true)
    at true = refl
    at false = refl
none-has int s l L st e p (x ∷ xs) most small are has =
    let b = slice_index_or st.flags x false in
    let any = list_any (λ x. slice_index_or st.flags x false) xs in
    subst (λ (c : Bool). Has int s l (and_no_bits L e (x ∷ xs)) (one_if c)) (neither p b any)
    (none-has int s l L st (Both e (Bang (bit_test L x))) (p && not b) xs most small are.1
    (both-has int s l e (Bang (bit_test L x)) p (not b) has
    (bang-has int s l (bit_test L x) b (bit-has int s l L x b most (small x) are.0))))
  where
    neither : (p b c : Bool) → ((p && not b) && not c) ≡ (p && not (b || c))
    neither true true c = refl
    neither true false c = refl
    neither false b c = refl

-- a child of a state
child-is : (t : Tree) (s x : ℕ) → is_child t s x ≡ true → parent_of t x ≡ Some s
unfolding is_child
child-is t s x is = at (parent_of t x) refl is
  where
    at : (o : Option ℕ) → parent_of t x ≡ o → option_map_or (λ p. nat_eq p s) o false ≡ true → parent_of t x ≡ Some s
    at None e is = absurd (cc)
    at (Some p) e is = let same : p ≡ s = grind (arith, nat_tests) in e ∙ ap (λ (q : ℕ). Some q) same

-- the bits of the children of a state that isn't an OR
child-bits : (t : Tree) (L : Layout) (st : States) (s : Store) (p from len : ℕ) → HoldsStates t L st s
    → is_or (comp_of t p) ≡ false → from + len ≤ state_count t → AreBits L st s
    (filter (is_child t p) (range_with_len from len))
child-bits t L st s p from zero holds not_or within = tt
child-bits t L st s p from (suc len) holds not_or within =
    at (is_child t p from) refl (child-bits t L st s p (from + 1) len holds not_or (omega (arith, within)))
  where
    at : (b : Bool) → is_child t p from ≡ b → AreBits L st s (filter (is_child t p) (range_with_len (from + 1) len))
        → AreBits L st s (if b then from ∷ filter (is_child t p) (range_with_len (from + 1) len)
        else filter (is_child t p) (range_with_len (from + 1) len))
    at false e rest = rest
    at true e rest = (
      holds.flags from (omega (arith, within))
          (ap (or_parent t) (child-is t p from e) ∙ ap (λ (b : Bool). cond b (Some p) None) not_or),
      rest,
    )

-- a test, and that no child of a state is active
childless-has : (int : Width) (s : Store) (l : Locals) (t : Tree) (n : ℕ → ℕ) (L : Layout) (st : States) (x : ℕ)
    (e : CExpr) (p b : Bool)
    → bits int ≤ 32 → IsLayout t n L → HoldsStates t L st s → is_or (comp_of t x) ≡ b → Has int s l e (one_if p)
    → Has int s l (and_childless_c t L x e b) (one_if (p && childless_by t x st b))
unfolding children_of children_below
childless-has int s l t n L st x e p true most layout holds is has =
    both-has int s l e (number_test L (L.chosen x) 0) p (nat_eq (slice_index_or st.chosen x 0) 0) has
    (number-has int s l L (L.chosen x) (slice_index_or st.chosen x 0) 0 (holds.chosen x is) (holds.chosen_small x is)
    (pow_pos (bits L.numbers)))
childless-has int s l t n L st x e p false most layout holds is has =
    none-has int s l L st e p (filter (is_child t x) (range_with_len 0 (state_count t))) most layout.bits_are
    (child-bits t L st s x 0 (state_count t) holds is (omega arith)) has

-- a state is active and none of its children is
pub bare-has : (int : Width) (s : Store) (l : Locals) (t : Tree) (n : ℕ → ℕ) (L : Layout) (st : States) (x : ℕ)
    → bits int ≤ 32 → IsLayout t n L → HoldsStates t L st s → x < state_count t
    → Has int s l (bare_c t L n x) (one_if (c_bare t n x st))
unfolding bare_c c_bare
bare-has int s l t n L st x most layout holds lt =
    childless-has int s l t n L st x (on_c t L n x) (c_on t n x st) (is_or (comp_of t x)) most layout holds refl
    (on-has int s l t n L st x most layout holds lt)

-- it is remembered
pub last-has : (int : Width) (s : Store) (l : Locals) (t : Tree) (n : ℕ → ℕ) (L : Layout) (st : States) (p x : ℕ)
    → IsLayout t n L → HoldsStates t L st s → is_or (comp_of t p) ≡ true → x < state_count t
    → Has int s l (last_c L n p x) (one_if (last_by n st x (Some p)))
last-has int s l t n L st p x layout holds or lt =
    number-has int s l L (L.kept p) (slice_index_or st.kept p 0) (n x) (holds.kept p or) (holds.kept_small p or)
    (layout.numbers x lt)

-- so the tests are those that expressions ask for
pub shows-active : (int : Width) (s : Store) (t : Tree) (n : ℕ → ℕ) (L : Layout) (st : States) (marks : Configuration)
    → bits int ≤ 32 → IsLayout t n L → HoldsStates t L st s → Shows t n st marks → mark_count marks ≡ state_count t
    → ShowsActive int (on_c t L n) marks s
shows-active int s t n L st marks most layout holds shows same q l lt =
    subst (λ (b : Bool). Has int s l (on_c t L n q) (one_if b)) (on_is t n st marks shows q)
    (on-has int s l t n L st q most layout holds (omega (arith, same, lt)))
