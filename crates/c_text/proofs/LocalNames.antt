-- What the name of a local tells: its type and its number.
use Rattle.std.proofs.Common.{◌≡◌, ℕ, zero, suc, ◌<◌, ◌^◌, Bool, true, false, cond, List, [], ◌∷◌, ◌++◌, get_or, refl}
use Rattle.std.proofs.Common.{sym, ap, subst, ◌∙◌, arith}
use Rattle.std.specs.Prelude.{codes, decimal, nat_eq}
use Rattle.std.specs.Str.{bytes_eq}
use Rattle.std.proofs.lemmas.Bool.{eqb-true}
use Rattle.std.proofs.lemmas.Fmt.{decimal_injective}
use Rattle.c_subset.specs.declared.trees.Width.{Width}
use Rattle.c_subset.specs.declared.trees.Width.TheVariants.{W8, W16, W32, W64, W128}
use Rattle.c_subset.specs.declared.trees.CType.{CType}
use Rattle.c_subset.specs.declared.trees.CType.TheVariants.{Signed, Unsigned, Truth}
use Rattle.c_subset.specs.Meaning.{bits}
use Rattle.c_subset.specs.Running.{same_type}
use Rattle.c_text.specs.declared.kinds.Kind.{Kind}
use Rattle.c_text.specs.declared.kinds.Kind.TheVariants.{Procedure, Home, Noted, Floor, Outside}
use Rattle.c_text.specs.Labels.{type_short, word_labels, noted_labels, local_label}

-- ---- types

-- the width of so many bits
width_of : ℕ → Width
width_of n =
    cond (nat_eq n 8) W8 (cond (nat_eq n 16) W16 (cond (nat_eq n 32) W32 (cond (nat_eq n 64) W64 W128)))

width_of-bits : (w : Width) → width_of (bits w) ≡ w
unfolding width_of
width_of-bits W8 = refl
width_of-bits W16 = refl
width_of-bits W32 = refl
width_of-bits W64 = refl
width_of-bits W128 = refl

-- widths of as many bits are the same
same_bits : (v w : Width) → nat_eq (bits v) (bits w) ≡ true → v ≡ w
same_bits v w e = sym (width_of-bits v) ∙ ap width_of (eqb-true (bits v) (bits w) e) ∙ width_of-bits w

-- types that count as the same are
same_types : (t u : CType) → same_type t u ≡ true → t ≡ u
same_types (Signed v) (Signed w) e = ap Signed (same_bits v w e)
same_types (Signed v) (Unsigned w) e = absurd cc
same_types (Signed v) Truth e = absurd cc
same_types (Unsigned v) (Signed w) e = absurd cc
same_types (Unsigned v) (Unsigned w) e = ap Unsigned (same_bits v w e)
same_types (Unsigned v) Truth e = absurd cc
same_types Truth (Signed w) e = absurd cc
same_types Truth (Unsigned w) e = absurd cc
same_types Truth Truth e = refl

-- ---- reading a name

-- the name up to its first `_`, with that one; empty where it has none
keep : ℕ → List ℕ → List ℕ
keep c [] = []
keep c (d ∷ ds) = c ∷ d ∷ ds

front : List ℕ → List ℕ
front [] = []
front (c ∷ cs) = cond (nat_eq c 95) (c ∷ []) (keep c (front cs))

-- what stands after it
back : List ℕ → List ℕ
back [] = []
back (c ∷ cs) = cond (nat_eq c 95) cs (back cs)

-- the place of a name among others
place_in : List (List ℕ) → List ℕ → ℕ
place_in [] name = 0
place_in (first ∷ rest) name = cond (bytes_eq first name) 0 (suc (place_in rest name))

-- the type of the locals with names of their own, and these names
own_type : Kind → CType
own_type Procedure = Unsigned W32
own_type Home = Unsigned W32
own_type Noted = Unsigned W32
own_type (Floor w) = Signed w
own_type Outside = Unsigned W32

own_names : Kind → List (List ℕ)
own_names Procedure = word_labels
own_names Home = codes "state" ∷ []
own_names Noted = noted_labels
own_names (Floor w) = codes "a" ∷ codes "b" ∷ []
own_names Outside = word_labels

-- the type that the front of a name tells
type_of_front : CType → List ℕ → CType
type_of_front own name =
    cond (bytes_eq name (codes "i8_")) (Signed W8)
    (cond (bytes_eq name (codes "i16_")) (Signed W16)
    (cond (bytes_eq name (codes "i32_")) (Signed W32)
    (cond (bytes_eq name (codes "i64_")) (Signed W64)
    (cond (bytes_eq name (codes "i128_")) (Signed W128)
    (cond (bytes_eq name (codes "u8_")) (Unsigned W8)
    (cond (bytes_eq name (codes "u16_")) (Unsigned W16)
    (cond (bytes_eq name (codes "u32_")) (Unsigned W32)
    (cond (bytes_eq name (codes "u64_")) (Unsigned W64)
    (cond (bytes_eq name (codes "u128_")) (Unsigned W128)
    (cond (bytes_eq name (codes "b_")) Truth own))))))))))

-- the number that a name tells, in decimal
number_text : Kind → List ℕ → List ℕ → List ℕ
number_text kind name [] = decimal (place_in (own_names kind) name)
number_text kind name (c ∷ cs) = back name

-- a name tells that type and that number
record Tells (kind : Kind) (name : List ℕ) (t : CType) (k : ℕ) : Type 0 where
  type : type_of_front (own_type kind) (front name) ≡ t
  number : number_text kind name (front name) ≡ decimal k

-- a name made of a type and a number
numbered : (kind : Kind) (t : CType) (k : ℕ) → Tells kind (type_short t ++ decimal k) t k
unfolding front keep back type_of_front number_text
numbered kind (Signed W8) k = record { type = refl; number = refl }
numbered kind (Signed W16) k = record { type = refl; number = refl }
numbered kind (Signed W32) k = record { type = refl; number = refl }
numbered kind (Signed W64) k = record { type = refl; number = refl }
numbered kind (Signed W128) k = record { type = refl; number = refl }
numbered kind (Unsigned W8) k = record { type = refl; number = refl }
numbered kind (Unsigned W16) k = record { type = refl; number = refl }
numbered kind (Unsigned W32) k = record { type = refl; number = refl }
numbered kind (Unsigned W64) k = record { type = refl; number = refl }
numbered kind (Unsigned W128) k = record { type = refl; number = refl }
numbered kind Truth k = record { type = refl; number = refl }

-- names of their own
procedure_words : (k : ℕ)
    → Tells Procedure (get_or word_labels k (type_short (Unsigned W32) ++ decimal k)) (Unsigned W32) k
unfolding front keep back type_of_front number_text own_type own_names place_in
procedure_words zero = record { type = refl; number = refl }
procedure_words (suc zero) = record { type = refl; number = refl }
procedure_words (suc (suc zero)) = record { type = refl; number = refl }
procedure_words (suc (suc (suc zero))) = record { type = refl; number = refl }
procedure_words (suc (suc (suc (suc zero)))) = record { type = refl; number = refl }
procedure_words (suc (suc (suc (suc (suc zero))))) = record { type = refl; number = refl }
procedure_words (suc (suc (suc (suc (suc (suc k)))))) = record { type = refl; number = refl }

noted_words : (k : ℕ)
    → Tells Noted (get_or noted_labels k (type_short (Unsigned W32) ++ decimal k)) (Unsigned W32) k
unfolding front keep back type_of_front number_text own_type own_names place_in
noted_words zero = record { type = refl; number = refl }
noted_words (suc zero) = record { type = refl; number = refl }
noted_words (suc (suc zero)) = record { type = refl; number = refl }
noted_words (suc (suc (suc zero))) = record { type = refl; number = refl }
noted_words (suc (suc (suc (suc zero)))) = record { type = refl; number = refl }
noted_words (suc (suc (suc (suc (suc zero))))) = record { type = refl; number = refl }
noted_words (suc (suc (suc (suc (suc (suc k)))))) = record { type = refl; number = refl }

outside_words : (k : ℕ)
    → Tells Outside (get_or word_labels k (type_short (Unsigned W32) ++ decimal k)) (Unsigned W32) k
unfolding front keep back type_of_front number_text own_type own_names place_in
outside_words zero = record { type = refl; number = refl }
outside_words (suc zero) = record { type = refl; number = refl }
outside_words (suc (suc zero)) = record { type = refl; number = refl }
outside_words (suc (suc (suc zero))) = record { type = refl; number = refl }
outside_words (suc (suc (suc (suc zero)))) = record { type = refl; number = refl }
outside_words (suc (suc (suc (suc (suc zero))))) = record { type = refl; number = refl }
outside_words (suc (suc (suc (suc (suc (suc k)))))) = record { type = refl; number = refl }

home_words : (k : ℕ)
    → Tells Home (get_or (codes "state" ∷ []) k (type_short (Unsigned W32) ++ decimal k)) (Unsigned W32) k
unfolding front keep back type_of_front number_text own_type own_names place_in
home_words zero = record { type = refl; number = refl }
home_words (suc k) = record { type = refl; number = refl }

floor_numbers : (w : Width) (k : ℕ)
    → Tells (Floor w) (get_or (codes "a" ∷ codes "b" ∷ []) k (type_short (Signed w) ++ decimal k)) (Signed w) k
unfolding front keep back type_of_front number_text own_type own_names place_in
floor_numbers w zero = record { type = refl; number = refl }
floor_numbers w (suc zero) = record { type = refl; number = refl }
floor_numbers w (suc (suc k)) = numbered (Floor w) (Signed w) (suc (suc k))

-- a name is one of these, where the type is that of locals with names of their own
chosen : (b : Bool) (kind : Kind) (t : CType) (names : List (List ℕ)) (k : ℕ)
    → (b ≡ true → Tells kind (get_or names k (type_short t ++ decimal k)) t k)
    → Tells kind (get_or (cond b names []) k (type_short t ++ decimal k)) t k
chosen true kind t names k own = own refl
chosen false kind t names k own = numbered kind t k

-- the same for the type that it is
of_type : (kind : Kind) (t u : CType) (names : List (List ℕ)) (k : ℕ)
    → Tells kind (get_or names k (type_short u ++ decimal k)) u k
    → Tells kind (get_or (cond (same_type t u) names []) k (type_short t ++ decimal k)) t k
of_type kind t u names k own = chosen (same_type t u) kind t names k
    (λ e. subst (λ (s : CType). Tells kind (get_or names k (type_short s ++ decimal k)) s k)
    (sym (same_types t u e)) own)

-- the name of a local tells it
told : (kind : Kind) (t : CType) (k : ℕ) → Tells kind (local_label kind t k) t k
unfolding local_label
told Procedure t k = of_type Procedure t (Unsigned W32) word_labels k (procedure_words k)
told Home t k = of_type Home t (Unsigned W32) (codes "state" ∷ []) k (home_words k)
told Noted t k = of_type Noted t (Unsigned W32) noted_labels k (noted_words k)
told (Floor w) t k = of_type (Floor w) t (Signed w) (codes "a" ∷ codes "b" ∷ []) k (floor_numbers w k)
told Outside t k = of_type Outside t (Unsigned W32) word_labels k (outside_words k)

-- two locals of one name are one
pub one_local : (kind : Kind) (t u : CType) (j k : ℕ) → j < 2 ^ 32 → k < 2 ^ 32
    → local_label kind t j ≡ local_label kind u k → (t ≡ u) × (j ≡ k)
one_local kind t u j k small_j small_k e =
    let a = told kind t j in
    let b = told kind u k in (
      sym a.type ∙ ap (λ (name : List ℕ). type_of_front (own_type kind) (front name)) e ∙ b.type,
      decimal_injective j k (omega arith) (omega arith)
          (sym a.number ∙ ap (λ (name : List ℕ). number_text kind name (front name)) e ∙ b.number),
    )
