-- The changes of states in the struct.
use Rattle.std.proofs.Common.{◌≡◌, ◌≢◌, ℕ, zero, suc, ◌-◌, ◌^◌, ◌<◌, ◌≤◌, min, max, ℤ, pos, unsigned_abs, Bool, true}
use Rattle.std.proofs.Common.{false, cond, List, [], ◌∷◌, length, Option, Some, None, ◌⊎◌, bit_and, bit_or, slice_get}
use Rattle.std.proofs.Common.{slice_set, slice_index_or, refl, sym, ap, ◌∙◌, subst, arith, inl, inr, ⊎_elim}
use Rattle.std.proofs.Common.{get_or-set_same, get_or-set_other, w32}
use Rattle.std.specs.Int.{bit_at}
use Rattle.std.proofs.lemmas.Nat.{or_lt, and_le_l}
use Rattle.std.proofs.lemmas.Nat.Bits.{bit_at_and, bit_at_or, bit_at-pow_same, bit_at-pow_other, bit_at_not, bit_at-lt}
use Rattle.active_config.specs.Tree.{Tree, state_count, parent_of, comp_of, is_or}
use Rattle.active_config.proofs.TableLemmas.{same_or_other}
use Rattle.c_subset.specs.Trees.{CExpr, Const, Field, Bits, Block}
use Rattle.c_subset.specs.declared.trees.Width.{Width}
use Rattle.c_subset.specs.declared.trees.Width.TheVariants.{W32}
use Rattle.c_subset.specs.declared.trees.CType.{CType}
use Rattle.c_subset.specs.declared.trees.CType.TheVariants.{Unsigned}
use Rattle.c_subset.specs.declared.trees.Bitwise.{Bitwise}
use Rattle.c_subset.specs.declared.trees.Bitwise.TheVariants.{BitAnd, BitOr}
use Rattle.c_subset.specs.Trees.{Store as PutField}
use Rattle.c_subset.specs.Meaning.{bits, CValue, Meaning, with_meaning, gives, converted, combined, combined_in}
use Rattle.c_subset.specs.Meaning.{bits_of, Object, read, Store, Locals, meaning}
use Rattle.c_subset.specs.Running.{Calls, with_value, object_of, brought_to, with_field, outcome}
use Rattle.c_functions.specs.States.{States, or_parent, choose_child, set_flag}
use Rattle.c_functions.specs.Layout.{Layout, HasBit, IsLayout, HoldsStates, put_number, put_bit, Changes}
use Rattle.c_functions.proofs.LayoutTests.{unsigned, own-stays, word_stays, bit-small}

-- ---- fields

other-field : (fields : List Object) (f g : ℕ) (o : Object) → g ≢ f → slice_get (slice_set fields f o) g
    ≡ slice_get fields g
other-field [] f g o ne = refl
other-field (x ∷ fields) zero zero o ne = absurd (ne refl)
other-field (x ∷ fields) zero (suc g) o ne = refl
other-field (x ∷ fields) (suc f) zero o ne = refl
other-field (x ∷ fields) (suc f) (suc g) o ne = other-field fields f g o (λ e. ne (ap suc e))

same-field : (fields : List Object) (f : ℕ) (old o : Object) → slice_get fields f ≡ Some old → slice_get
    (slice_set fields f o) f ≡ Some o
same-field [] f old o e = absurd (cc)
same-field (x ∷ fields) zero old o e = refl
same-field (x ∷ fields) (suc f) old o e = same-field fields f old o e

-- a statement that stores a value of the type of its field
pub put-goes : (int : Width) (calls : Calls) (k : ℕ) (s : Store) (l : Locals) (f a : ℕ) (w : Width) (old : Option ℤ)
    (e : CExpr)
    (rest : Block) → slice_get s.fields f ≡ Some (record { type = Unsigned w; value = old })
    → meaning int s l e ≡ gives (Unsigned w) (pos a) → a < 2 ^ bits w
    → outcome int calls k (PutField f e rest) s l ≡ outcome int calls k rest (with_field s f (unsigned w a)) l
unfolding outcome
put-goes int calls k s l f a w old e rest there is small =
    ap (λ (m : Meaning). with_value (with_meaning m (λ x. brought_to (slice_get s.fields f) x.value))
    (λ y. outcome int calls k rest (with_field s f y) l)) is
    ∙ ap (λ (o : Option Object). with_value (brought_to o (pos a))
    (λ y. outcome int calls k rest (with_field s f y) l)) there
    ∙ ap (λ (m : Meaning). with_value m (λ y. outcome int calls k rest (with_field s f y) l)) (own-stays w a small)

const-means : (int : Width) (s : Store) (l : Locals) (w : Width) (a : ℕ) → a < 2 ^ bits w
    → meaning int s l (Const (Unsigned w) (pos a)) ≡ gives (Unsigned w) (pos a)
unfolding meaning
const-means int s l w a small = own-stays w a small

-- a bit in another field
pub kept-bit : (s : Store) (f g k : ℕ) (v : CValue) (b : Bool) → g ≢ f → HasBit s g k b → HasBit
    (with_field s f v) g k b
kept-bit s f g k v b ne h = record {
  word = h.word;
  there = other-field s.fields f g (object_of v) ne ∙ h.there;
  small = h.small;
  bit_is = h.bit_is;
}

-- ---- numbers

pub chooses : (int : Width) (calls : Calls) (k : ℕ) (t : Tree) (n : ℕ → ℕ) (L : Layout) (st : States) (p i : ℕ)
    (rest : Block)
    (s : Store) (l : Locals) → IsLayout t n L → HoldsStates t L st s → is_or (comp_of t p) ≡ true → p < length st.chosen
    → i < 2 ^ bits L.numbers → Changes int calls k t L (choose_child p i st) (L.chosen p)
    (put_number L (L.chosen p) i rest) rest s l
chooses int calls k t n L st p i rest s l layout h or within small = record {
  value = unsigned L.numbers i;
  goes = put-goes int calls k s l (L.chosen p) i L.numbers _ _ rest (h.chosen p or)
      (const-means int s l L.numbers i small) small;
  holds = record {
    chosen = λ q oq. ⊎_elim
        (λ e. ap (λ (q : ℕ). slice_get (slice_set s.fields (L.chosen p) o) (L.chosen q)) e ∙ same-field s.fields
        (L.chosen p) _ o (h.chosen p or)
        ∙ ap (λ (a : ℕ). Some (object_of (unsigned L.numbers a)))
        (sym (ap (λ (q : ℕ). slice_index_or (slice_set st.chosen p i) q 0) e ∙ get_or-set_same st.chosen p i 0 within)))
        (λ ne. other-field s.fields (L.chosen p) (L.chosen q) o (λ e. ne (layout.chosen_apart q p oq or e))
        ∙ h.chosen q oq
        ∙ ap (λ (a : ℕ). Some (object_of (unsigned L.numbers a))) (sym (get_or-set_other st.chosen p q i 0 ne)))
        (same_or_other q p);
    chosen_small = λ q oq. ⊎_elim
        (λ e. subst (λ (a : ℕ). a < 2 ^ bits L.numbers)
        (sym (ap (λ (q : ℕ). slice_index_or (slice_set st.chosen p i) q 0) e
        ∙ get_or-set_same st.chosen p i 0 within)) small)
        (λ ne. subst (λ (a : ℕ). a < 2 ^ bits L.numbers) (sym (get_or-set_other st.chosen p q i 0 ne))
        (h.chosen_small q oq))
        (same_or_other q p);
    kept = λ q oq. other-field s.fields (L.chosen p) (L.kept q) o (layout.kept_chosen q p oq or) ∙ h.kept q oq;
    kept_small = h.kept_small;
    flags = λ x lt none. kept-bit s (L.chosen p) (L.word x) (L.bit x) (unsigned L.numbers i) _
        (layout.word_chosen x p (lt, none) or) (h.flags x lt none);
  };
}
  where
    o : Object
    o = object_of (unsigned L.numbers i)

pub keeps : (int : Width) (calls : Calls) (k : ℕ) (t : Tree) (n : ℕ → ℕ) (L : Layout) (st : States) (p i : ℕ)
    (rest : Block)
    (s : Store) (l : Locals) → IsLayout t n L → HoldsStates t L st s → is_or (comp_of t p) ≡ true → p < length st.kept
    → i < 2 ^ bits L.numbers
    → Changes int calls k t L (record st { kept = slice_set st.kept p i }) (L.kept p)
    (put_number L (L.kept p) i rest) rest s l
keeps int calls k t n L st p i rest s l layout h or within small = record {
  value = unsigned L.numbers i;
  goes = put-goes int calls k s l (L.kept p) i L.numbers _ _ rest (h.kept p or)
      (const-means int s l L.numbers i small) small;
  holds = record {
    kept = λ q oq. ⊎_elim
        (λ e. ap (λ (q : ℕ). slice_get (slice_set s.fields (L.kept p) o) (L.kept q)) e ∙ same-field s.fields
        (L.kept p) _ o (h.kept p or)
        ∙ ap (λ (a : ℕ). Some (object_of (unsigned L.numbers a)))
        (sym (ap (λ (q : ℕ). slice_index_or (slice_set st.kept p i) q 0) e ∙ get_or-set_same st.kept p i 0 within)))
        (λ ne. other-field s.fields (L.kept p) (L.kept q) o (λ e. ne (layout.kept_apart q p oq or e)) ∙ h.kept q oq
        ∙ ap (λ (a : ℕ). Some (object_of (unsigned L.numbers a))) (sym (get_or-set_other st.kept p q i 0 ne)))
        (same_or_other q p);
    kept_small = λ q oq. ⊎_elim
        (λ e. subst (λ (a : ℕ). a < 2 ^ bits L.numbers)
        (sym (ap (λ (q : ℕ). slice_index_or (slice_set st.kept p i) q 0) e
        ∙ get_or-set_same st.kept p i 0 within)) small)
        (λ ne. subst (λ (a : ℕ). a < 2 ^ bits L.numbers) (sym (get_or-set_other st.kept p q i 0 ne))
        (h.kept_small q oq))
        (same_or_other q p);
    chosen = λ q oq. other-field s.fields (L.kept p) (L.chosen q) o (λ e. layout.kept_chosen p q or oq (sym e))
        ∙ h.chosen q oq;
    chosen_small = h.chosen_small;
    flags = λ x lt none. kept-bit s (L.kept p) (L.word x) (L.bit x) (unsigned L.numbers i) _
        (layout.word_kept x p (lt, none) or) (h.flags x lt none);
  };
}
  where
    o : Object
    o = object_of (unsigned L.numbers i)

-- ---- bits

-- a word of which one bit was turned
record IsTurned (old new k : ℕ) (b : Bool) : Type 0 where
  small : new < 2 ^ 32
  here : bit_at new k ≡ cond b 1 0
  others : (j : ℕ) → j < 32 → j ≢ k → bit_at new j ≡ bit_at old j

set-turns : (w k : ℕ) → w < 2 ^ 32 → k < 32 → IsTurned w (bit_or w (2 ^ k)) k true
set-turns w k small lt = record {
  small = or_lt 32 w (2 ^ k) small (bit-small k lt);
  here = bit_at_or w (2 ^ k) k ∙ ap (λ (x : ℕ). max (bit_at w k) x) (bit_at-pow_same k) ∙
      (let below = bit_at-lt w k in omega (arith, below));
  others = λ j low ne. bit_at_or w (2 ^ k) j ∙ ap (λ (x : ℕ). max (bit_at w j) x) (bit_at-pow_other k j ne)
      ∙ omega arith;
}

clear-turns : (w k : ℕ) → w < 2 ^ 32 → k < 32 → IsTurned w (bit_and w (2 ^ 32 - 1 - 2 ^ k)) k false
clear-turns w k small lt =
    let rest = bit_at_not w32 (2 ^ k) in
    let within = bit-small k lt in record {
      small = let le = and_le_l w (2 ^ 32 - 1 - 2 ^ k) in omega (arith, le, small);
      here = bit_at_and w (2 ^ 32 - 1 - 2 ^ k) k ∙ ap (λ (x : ℕ). min (bit_at w k) x)
          (rest k within lt ∙ ap (λ (x : ℕ). 1 - x) (bit_at-pow_same k)) ∙ omega arith;
      others = λ j low ne. bit_at_and w (2 ^ 32 - 1 - 2 ^ k) j
          ∙ ap (λ (x : ℕ). min (bit_at w j) x) (rest j within low ∙ ap (λ (x : ℕ). 1 - x) (bit_at-pow_other k j ne))
          ∙ (let below = bit_at-lt w j in omega (arith, below));
    }

-- a word combined with a mask
combined-means : (int : Width) (s : Store) (l : Locals) (op : Bitwise) (f w mask : ℕ) → bits int ≤ 32
    → slice_get s.fields f ≡ Some (record { type = Unsigned W32; value = Some (pos w) }) → w < 2 ^ 32 → mask < 2 ^ 32
    → meaning int s l (Bits op (Field f) (Const (Unsigned W32) (pos mask))) ≡ gives (Unsigned W32)
    (pos (bits_of op w mask))
unfolding meaning
combined-means int s l op f w mask most there fw fm =
    ap (λ (o : Option Object). with_meaning (read o)
    (λ x. with_meaning (converted (Unsigned W32) (pos mask)) (combined int op x))) there
    ∙ ap (λ (m : Meaning). with_meaning m (combined int op (unsigned W32 w))) (own-stays W32 mask fm)
    ∙ ap (λ (t : CType). with_meaning (converted t (pos w))
    (λ x. with_meaning (converted t (pos mask)) (λ y. combined_in t op x.value y.value))) (word_stays int most)
    ∙ ap (λ (m : Meaning). with_meaning m
    (λ x. with_meaning (converted (Unsigned W32) (pos mask)) (λ y. combined_in (Unsigned W32) op x.value y.value)))
    (own-stays W32 w fw)
    ∙ ap (λ (m : Meaning). with_meaning m (λ y. combined_in (Unsigned W32) op (pos w) y.value)) (own-stays W32 mask fm)

-- the number in a field
abbrev number_of : Option ℤ → ℕ
number_of (Some z) = unsigned_abs z
number_of None = 0

abbrev number_in : Option Object → ℕ
number_in (Some o) = number_of o.value
number_in None = 0

-- the struct with a turned bit
turned-holds : (t : Tree) (n : ℕ → ℕ) (L : Layout) (st : States) (x new : ℕ) (b : Bool) (s : Store) → IsLayout t n L
    → HoldsStates t L st s → (lt : x < state_count t) (none : or_parent t (parent_of t x) ≡ None) → x < length st.flags
    → (old : ℕ) → slice_get s.fields (L.word x) ≡ Some (record { type = Unsigned W32; value = Some (pos old) })
    → IsTurned old new (L.bit x) b → HoldsStates t L (set_flag x b st) (with_field s (L.word x) (unsigned W32 new))
turned-holds t n L st x new b s layout h lt none within old there turned = record {
  chosen = λ q oq. other-field s.fields (L.word x) (L.chosen q) o (λ e. layout.word_chosen x q (lt, none) oq (sym e))
      ∙ h.chosen q oq;
  chosen_small = h.chosen_small;
  kept = λ q oq. other-field s.fields (L.word x) (L.kept q) o (λ e. layout.word_kept x q (lt, none) oq (sym e))
      ∙ h.kept q oq;
  kept_small = h.kept_small;
  flags = λ y ly ny. ⊎_elim (same y) (λ ne. other y ly ny ne (same_or_other (L.word y) (L.word x))) (same_or_other y x);
}
  where
    o : Object
    o = object_of (unsigned W32 new)

    s' : Store
    s' = with_field s (L.word x) (unsigned W32 new)

    here : HasBit s' (L.word x) (L.bit x) b
    here = record {
      word = new;
      there = same-field s.fields (L.word x) _ o there;
      small = turned.small;
      bit_is = turned.here;
    }

    same : (y : ℕ) → y ≡ x → HasBit s' (L.word y) (L.bit y) (slice_index_or (slice_set st.flags x b) y false)
    same y e = subst (λ (y : ℕ). HasBit s' (L.word y) (L.bit y) (slice_index_or (slice_set st.flags x b) y false))
        (sym e)
        (subst (λ (c : Bool). HasBit s' (L.word x) (L.bit x) c) (sym (get_or-set_same st.flags x b false within)) here)

    other : (y : ℕ) → y < state_count t → or_parent t (parent_of t y) ≡ None → y ≢ x → (L.word y ≡ L.word x) ⊎
        (L.word y ≢ L.word x)
        → HasBit s' (L.word y) (L.bit y) (slice_index_or (slice_set st.flags x b) y false)
    other y ly ny ne (inr far) = subst (λ (c : Bool). HasBit s' (L.word y) (L.bit y) c)
        (sym (get_or-set_other st.flags x y b false ne))
        (kept-bit s (L.word x) (L.word y) (L.bit y) (unsigned W32 new) _ far (h.flags y ly ny))
    other y ly ny ne (inl near) =
        let old_bit = h.flags y ly ny in
        let one : Some (object_of (unsigned W32 old_bit.word)) ≡ Some (object_of (unsigned W32 old)) =
        sym old_bit.there ∙ ap (λ (f : ℕ). slice_get s.fields f) near ∙ there in
        let word : old_bit.word ≡ old = ap number_in one in
        subst (λ (c : Bool). HasBit s' (L.word y) (L.bit y) c) (sym (get_or-set_other st.flags x y b false ne))
        (record {
          word = new;
          there = ap (λ (f : ℕ). slice_get s'.fields f) near ∙ same-field s.fields (L.word x) _ o there;
          small = turned.small;
          bit_is = turned.others (L.bit y) (layout.bits_are y)
              (λ e. ne (layout.bits_apart y x (ly, ny) (lt, none) near e))
              ∙ ap (λ (w : ℕ). bit_at w (L.bit y)) (sym word) ∙ old_bit.bit_is;
        })

-- the bit of a state is set or cleared
pub turns : (int : Width) (calls : Calls) (k : ℕ) (t : Tree) (n : ℕ → ℕ) (L : Layout) (st : States) (x : ℕ) (b : Bool)
    (rest : Block) (s : Store) (l : Locals) → bits int ≤ 32 → IsLayout t n L → HoldsStates t L st s → x < state_count t
    → or_parent t (parent_of t x) ≡ None → x < length st.flags
    → Changes int calls k t L (set_flag x b st) (L.word x) (put_bit L x b rest) rest s l
turns int calls k t n L st x true rest s l most layout h lt none within =
    let bit = h.flags x lt none in
    let turned = set-turns bit.word (L.bit x) bit.small (layout.bits_are x) in
    let new = bit_or bit.word (2 ^ L.bit x) in
    record {
      value = unsigned W32 new;
      goes = put-goes int calls k s l (L.word x) new W32 _ _ rest bit.there
          (combined-means int s l BitOr (L.word x) bit.word (2 ^ L.bit x) most bit.there bit.small
          (bit-small (L.bit x) (layout.bits_are x))) turned.small;
      holds = turned-holds t n L st x new true s layout h lt none within bit.word bit.there turned;
    }
turns int calls k t n L st x false rest s l most layout h lt none within =
    let bit = h.flags x lt none in
    let turned = clear-turns bit.word (L.bit x) bit.small (layout.bits_are x) in
    let mask = 2 ^ 32 - 1 - 2 ^ L.bit x in
    let new = bit_and bit.word mask in
    record {
      value = unsigned W32 new;
      goes = put-goes int calls k s l (L.word x) new W32 _ _ rest bit.there
          (combined-means int s l BitAnd (L.word x) bit.word mask most bit.there bit.small (omega arith)) turned.small;
      holds = turned-holds t n L st x new false s layout h lt none within bit.word bit.there turned;
    }
