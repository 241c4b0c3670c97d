-- What the lists that the code keeps say of marks.
use Rattle.std.proofs.Common.{◌≡◌, ℕ, zero, suc, ◌<◌, List, [], ◌∷◌, length, Option, Some, None, Bool}
use Rattle.std.proofs.Common.{true, false, refl, sym, ap, ◌∙◌, subst, arith, get_or, set}
use Rattle.std.specs.Prelude.{replicate, IsSomeAnd}
use Rattle.active_config.specs.declared.comp.Comp.TheVariants.{Or}
use Rattle.active_config.specs.Tree.{Tree, state_count, parent_of, comp_of}
use Rattle.active_config.specs.Marks.{mark_count, Configuration, is_on, is_bare, no_marks, with_mark}
use Rattle.active_config.specs.Marks.{can_mark, last_of, remember, with_last}
use Rattle.active_config.specs.Marks.{IsConsistent}
use Rattle.active_config.proofs.MarksLemmas.{marked, cleared, remembered, no_marks_consistent}

-- what the code holds: the flags and the entries that a contract sees as marks
abbrev pub configuration : List Bool → List (Option ℕ) → Configuration
configuration flags last = record { flags = flags; last = last }

pub flags_are : (flags : List Bool) (last : List (Option ℕ)) (m : Configuration) → configuration flags last ≡ m
    → flags ≡ m.flags
flags_are flags last m e = ap (λ (x : Configuration). x.flags) e

last_is : (flags : List Bool) (last : List (Option ℕ)) (m : Configuration) → configuration flags last ≡ m
    → last ≡ m.last
last_is flags last m e = ap (λ (x : Configuration). x.last) e

-- a state has a flag
pub flag_within : (t : Tree) (flags : List Bool) (last : List (Option ℕ)) (m : Configuration) (s : ℕ)
    → configuration flags last ≡ m → IsConsistent t m → s < state_count t → s < length flags
unfolding mark_count
flag_within t flags last m s e k lt = omega (arith, k.sized, ap length (flags_are flags last m e))

-- and an entry
pub entry_within : (t : Tree) (flags : List Bool) (last : List (Option ℕ)) (m : Configuration) (s : ℕ)
    → configuration flags last ≡ m → IsConsistent t m → s < state_count t → s < length last
entry_within t flags last m s e k lt = omega (arith, k.entries, ap length (last_is flags last m e))

-- what is below the count of flags has one
pub state_within : (flags : List Bool) (last : List (Option ℕ)) (m : Configuration) (s : ℕ)
    → configuration flags last ≡ m → s < mark_count m → s < length flags
unfolding mark_count
state_within flags last m s e lt = omega (arith, ap length (flags_are flags last m e))

-- a flag that is set is a mark
pub flag_set : (flags after : List Bool) (last : List (Option ℕ)) (m : Configuration) (s : ℕ) (b : Bool)
    → configuration flags last ≡ m → after ≡ set flags s b → configuration after last ≡ with_mark s b m
unfolding with_mark
flag_set flags after last m s b e is =
    ap (λ l. configuration l last) is ∙ ap (λ (x : Configuration). record x { flags = set x.flags s b }) e

-- an entry that is set is what the parent remembers
pub entry_set : (t : Tree) (flags : List Bool) (last : List (Option ℕ)) (m : Configuration) (s p : ℕ)
    → configuration flags last ≡ m → Some p ≡ parent_of t s
    → configuration flags (set last p (Some s)) ≡ with_last t s m
unfolding with_last
entry_set t flags last m s p e up =
    ap (λ (x : Configuration). record x { last = remember (Some p) s x.last }) e
    ∙ ap (λ o. record m { last = remember o s m.last }) up

-- the entry of a list is the same by every default
any : {A : Type 0} (xs : List A) (i : ℕ) (a d : A) → i < length xs → get_or xs i a ≡ get_or xs i d
any [] i a d lt = absurd (omega arith)
any (x ∷ xs) zero a d lt = refl
any (x ∷ xs) (suc i) a d lt = any xs i a d (omega arith)

-- a flag that is read tells whether the state is active
pub flag_read : (flags : List Bool) (last : List (Option ℕ)) (m : Configuration) (s : ℕ) (b : Bool)
    → configuration flags last ≡ m → b ≡ get_or flags s false → b ≡ is_on s m
unfolding is_on
flag_read flags last m s b e read = read ∙ ap (λ l. get_or l s false) (flags_are flags last m e)

-- how many flags there are
pub flag_count : (flags : List Bool) (last : List (Option ℕ)) (m : Configuration) → configuration flags last ≡ m
    → length flags ≡ mark_count m
unfolding mark_count
flag_count flags last m e = ap length (flags_are flags last m e)

-- an entry that is read is what the state remembers
pub entry_read : (flags : List Bool) (last : List (Option ℕ)) (m : Configuration) (s : ℕ) (o : Option ℕ)
    → configuration flags last ≡ m → s < length last → o ≡ get_or last s o → o ≡ last_of s m
unfolding last_of
entry_read flags last m s o e lt read = read ∙ any last s o None lt ∙ ap (λ l. get_or l s None) (last_is flags last m e)

-- the lists stay consistent after marking
pub marked_flags : (t : Tree) (flags after : List Bool) (last : List (Option ℕ)) (m : Configuration) (s : ℕ)
    → configuration flags last ≡ m → after ≡ set flags s true → IsConsistent t m → can_mark t s m ≡ true
    → IsConsistent t (configuration after last)
marked_flags t flags after last m s e is k can =
    subst (IsConsistent t) (sym (flag_set flags after last m s true e is)) (marked t m k s can)

-- after clearing
pub cleared_flags : (t : Tree) (flags after : List Bool) (last : List (Option ℕ)) (m : Configuration) (s : ℕ)
    → configuration flags last ≡ m → after ≡ set flags s false → IsConsistent t m → is_bare t s m ≡ true
    → IsConsistent t (configuration after last)
cleared_flags t flags after last m s e is k bare =
    subst (IsConsistent t) (sym (flag_set flags after last m s false e is)) (cleared t m k s bare)

-- and after keeping
pub kept_entry : (t : Tree) (flags : List Bool) (last : List (Option ℕ)) (m : Configuration) (s p : ℕ)
    → configuration flags last ≡ m → IsConsistent t m → Some p ≡ parent_of t s → comp_of t p ≡ Or
    → IsConsistent t (configuration flags (set last p (Some s)))
kept_entry t flags last m s p e k up is_or =
    subst (IsConsistent t) (sym (entry_set t flags last m s p e up)) (remembered t m k s p (sym up) is_or)

-- a state that has a parent which is an OR
pub parent_is_or : (t : Tree) (s p : ℕ) → parent_of t s ≡ Some p → IsSomeAnd (parent_of t s) (λ q. comp_of t q ≡ Or)
    → comp_of t p ≡ Or
parent_is_or t s p e h = subst (λ o. IsSomeAnd o (λ q. comp_of t q ≡ Or)) e h

-- so it has a parent
pub has_parent : (t : Tree) (s : ℕ) → None ≡ parent_of t s → IsSomeAnd (parent_of t s) (λ q. comp_of t q ≡ Or) → ⊥
has_parent t s e h = subst (λ o. IsSomeAnd o (λ q. comp_of t q ≡ Or)) (sym e) h

-- the flags and entries of a new set
pub new_flags : (t : Tree) (flags : List Bool) (last : List (Option ℕ)) (n : ℕ) → n ≡ state_count t
    → flags ≡ replicate n false → last ≡ replicate n None → configuration flags last ≡ no_marks t
unfolding no_marks
new_flags t flags last n e f g =
    ap (λ l. configuration l last) f ∙ ap (λ l. configuration (replicate n false) l) g
    ∙ ap (λ k. configuration (replicate k false) (replicate k None)) e

pub new_consistent : (t : Tree) (flags : List Bool) (last : List (Option ℕ)) (n : ℕ) → n ≡ state_count t
    → flags ≡ replicate n false → last ≡ replicate n None → IsConsistent t (configuration flags last)
new_consistent t flags last n e f g =
    subst (IsConsistent t) (sym (new_flags t flags last n e f g)) (no_marks_consistent t)
