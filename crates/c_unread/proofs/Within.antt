-- What statements may read is read in them or after them.
use Rattle.std.proofs.Common.{◌≡◌, ◌⊎◌, inl, inr, ℕ, Bool, true, false, ◌||◌, List, [], refl, sym, ap, ◌∙◌}
use Rattle.std.specs.List.{list_any}
use Rattle.c_subset.specs.declared.trees.CType.{CType}
use Rattle.c_subset.specs.Trees.{CExpr}
use Rattle.c_subset.specs.Trees.{Block, End, Set, Store, StoreAt, Call, Select, If, While, Return}
use Rattle.c_bare.specs.Needs.{reads}
use Rattle.c_bare.proofs.Truth.{left, right}
use Rattle.c_unread.specs.Live.{LocalName, is_live, without, united, with_read, with_all_read, with_named}
use Rattle.c_unread.specs.Unread.{Trimmed, set_before, if_before, trimmed}
use Rattle.c_unread.proofs.LiveLemmas.{none-comes, united-is, read-is, all-read-is}

-- ---- truth values

pub either : (a b : Bool) → (a || b) ≡ true → (a ≡ true) ⊎ (b ≡ true)
either true b e = inl refl
either false b e = inr e

-- one of two, by what each gives
pub by-either : (a b c : Bool) → (a || b) ≡ true → (a ≡ true → c ≡ true) → (b ≡ true → c ≡ true) → c ≡ true
by-either true b c e f g = f refl
by-either false b c e f g = g e

two : (a n l : Bool) → (n || (a || l)) ≡ ((a || n) || l)
two true true l = refl
two true false l = refl
two false true l = refl
two false false l = refl

three : (a b n l : Bool) → (n || (b || (a || l))) ≡ ((a || (b || n)) || l)
three true true true l = refl
three true true false l = refl
three true false true l = refl
three true false false l = refl
three false true true l = refl
three false true false l = refl
three false false true l = refl
three false false false l = refl

four : (a b c n l : Bool) → (n || (c || (b || (a || l)))) ≡ ((a || (b || (c || n))) || l)
four true b c n l = at n c b
  where
    at : (n c b : Bool) → (n || (c || (b || true))) ≡ true
    at true c b = refl
    at false true b = refl
    at false false true = refl
    at false false false = refl
four false b c n l = three b c n l

-- one more before two
pub behind : (a n l : Bool) → (n || l) ≡ true → ((a || n) || l) ≡ true
behind true n l e = refl
behind false n l e = e

swapped : (a b n l : Bool) → ((b || (a || n)) || l) ≡ true → ((a || (b || n)) || l) ≡ true
swapped true b n l e = refl
swapped false true n l e = refl
swapped false false n l e = e

-- ---- locals that statements read anywhere

unfoldable pub names : CType → ℕ → Block → Bool
names t i End = false
names t i (Set u j e rest) = reads t i e || names t i rest
names t i (Store f e rest) = reads t i e || names t i rest
names t i (StoreAt a k e rest) = reads t i k || (reads t i e || names t i rest)
names t i (Call u j f args rest) = list_any (reads t i) args || names t i rest
names t i (Select u j e cases args rest) = reads t i e || (list_any (reads t i) args || names t i rest)
names t i (If e a b rest) = reads t i e || (names t i a || (names t i b || names t i rest))
names t i (While e a rest) = reads t i e || (names t i a || names t i rest)
names t i (Return e) = reads t i e

pub name-is : (t : CType) (i : ℕ) (a : Block) (live : List LocalName)
    → is_live t i (with_named a live) ≡ (names t i a || is_live t i live)
unfolding with_named names
name-is t i End live = refl
name-is t i (Set u j e rest) live =
    name-is t i rest (with_read e live) ∙ ap (λ (c : Bool). names t i rest || c) (read-is t i e live)
    ∙ two (reads t i e) (names t i rest) (is_live t i live)
name-is t i (Store f e rest) live =
    name-is t i rest (with_read e live) ∙ ap (λ (c : Bool). names t i rest || c) (read-is t i e live)
    ∙ two (reads t i e) (names t i rest) (is_live t i live)
name-is t i (StoreAt a k e rest) live =
    name-is t i rest (with_read e (with_read k live))
    ∙ ap (λ (c : Bool). names t i rest || c) (read-is t i e (with_read k live)
    ∙ ap (λ (c : Bool). reads t i e || c) (read-is t i k live))
    ∙ three (reads t i k) (reads t i e) (names t i rest) (is_live t i live)
name-is t i (Call u j f args rest) live =
    name-is t i rest (with_all_read args live) ∙ ap (λ (c : Bool). names t i rest || c) (all-read-is t i args live)
    ∙ two (list_any (reads t i) args) (names t i rest) (is_live t i live)
name-is t i (Select u j e cases args rest) live =
    name-is t i rest (with_all_read args (with_read e live))
    ∙ ap (λ (c : Bool). names t i rest || c) (all-read-is t i args (with_read e live)
    ∙ ap (λ (c : Bool). list_any (reads t i) args || c) (read-is t i e live))
    ∙ three (reads t i e) (list_any (reads t i) args) (names t i rest) (is_live t i live)
name-is t i (If e a b rest) live =
    name-is t i rest (with_named b (with_named a (with_read e live)))
    ∙ ap (λ (c : Bool). names t i rest || c) (name-is t i b (with_named a (with_read e live))
    ∙ ap (λ (c : Bool). names t i b || c) (name-is t i a (with_read e live)
    ∙ ap (λ (c : Bool). names t i a || c) (read-is t i e live)))
    ∙ four (reads t i e) (names t i a) (names t i b) (names t i rest) (is_live t i live)
name-is t i (While e a rest) live =
    name-is t i rest (with_named a (with_read e live))
    ∙ ap (λ (c : Bool). names t i rest || c) (name-is t i a (with_read e live)
    ∙ ap (λ (c : Bool). names t i a || c) (read-is t i e live))
    ∙ three (reads t i e) (names t i a) (names t i rest) (is_live t i live)
name-is t i (Return e) live = read-is t i e live

-- ---- what statements without sets that nothing reads may read

-- what is read in an expression or in a list is read in an expression or after it
in-read : (t : CType) (i : ℕ) (e : CExpr) (live : List LocalName) (n l : Bool) → is_live t i (with_read e live) ≡ true
    → (is_live t i live ≡ true → (n || l) ≡ true) → ((reads t i e || n) || l) ≡ true
in-read t i e live n l is rest =
    by-either (reads t i e) (is_live t i live) ((reads t i e || n) || l) (sym (read-is t i e live) ∙ is)
    (λ r. left (reads t i e || n) l (left (reads t i e) n r)) (λ r. behind (reads t i e) n l (rest r))

in-all-read : (t : CType) (i : ℕ) (es : List CExpr) (live : List LocalName) (n l : Bool)
    → is_live t i (with_all_read es live) ≡ true → (is_live t i live ≡ true → (n || l) ≡ true)
    → ((list_any (reads t i) es || n) || l) ≡ true
in-all-read t i es live n l is rest =
    by-either (list_any (reads t i) es) (is_live t i live) ((list_any (reads t i) es || n) || l)
    (sym (all-read-is t i es live) ∙ is)
    (λ r. left (list_any (reads t i) es || n) l (left (list_any (reads t i) es) n r))
    (λ r. behind (list_any (reads t i) es) n l (rest r))

-- a set, which stays or goes
in-set : (t u : CType) (i j : ℕ) (e : CExpr) (after : Trimmed) (b n l : Bool)
    → is_live t i (set_before b u j e after).live ≡ true → (is_live t i after.live ≡ true → (n || l) ≡ true)
    → ((reads t i e || n) || l) ≡ true
in-set t u i j e after true n l is rest =
    in-read t i e (without u j after.live) n l is (λ r. rest (none-comes t u i j after.live r))
in-set t u i j e after false n l is rest = behind (reads t i e) n l (rest is)

-- either part of an `if`
in-if : (t : CType) (i : ℕ) (first second : List LocalName) (a b n l : Bool)
    → is_live t i (united first second) ≡ true → (is_live t i first ≡ true → (a || (n || l)) ≡ true)
    → (is_live t i second ≡ true → (b || (n || l)) ≡ true) → ((a || (b || n)) || l) ≡ true
in-if t i first second a b n l is f g =
    by-either (is_live t i first) (is_live t i second) ((a || (b || n)) || l) (sym (united-is t i first second) ∙ is)
    (λ r. of-first a b n l (f r)) (λ r. of-second a b n l (g r))
  where
    of-first : (a b n l : Bool) → (a || (n || l)) ≡ true → ((a || (b || n)) || l) ≡ true
    of-first true b n l e = refl
    of-first false true n l e = refl
    of-first false false n l e = e

    of-second : (a b n l : Bool) → (b || (n || l)) ≡ true → ((a || (b || n)) || l) ≡ true
    of-second true b n l e = refl
    of-second false b n l e = assoc b n l ∙ e
      where
        assoc : (b n l : Bool) → ((b || n) || l) ≡ (b || (n || l))
        assoc true n l = refl
        assoc false n l = refl

-- what is read in one part, or after both, by what is read after them
after-part : (a m n l : Bool) → (a || m) ≡ true → (m ≡ true → (n || l) ≡ true) → (a || (n || l)) ≡ true
after-part true m n l e f = refl
after-part false m n l e f = f e

pub trim-within : (t : CType) (i : ℕ) (a : Block) (live : List LocalName) → is_live t i (trimmed a live).live ≡ true
    → (names t i a || is_live t i live) ≡ true
unfolding trimmed names
trim-within t i End live is = is
trim-within t i (Set u j e rest) live is =
    in-set t u i j e (trimmed rest live) (is_live u j (trimmed rest live).live) (names t i rest) (is_live t i live) is
    (trim-within t i rest live)
trim-within t i (Store f e rest) live is =
    in-read t i e (trimmed rest live).live (names t i rest) (is_live t i live) is (trim-within t i rest live)
trim-within t i (StoreAt a k e rest) live is =
    swapped (reads t i k) (reads t i e) (names t i rest) (is_live t i live)
    (in-read t i e (with_read k (trimmed rest live).live) (reads t i k || names t i rest) (is_live t i live) is
    (λ r. in-read t i k (trimmed rest live).live (names t i rest) (is_live t i live) r (trim-within t i rest live)))
trim-within t i (Call u j f args rest) live is =
    in-all-read t i args (without u j (trimmed rest live).live) (names t i rest) (is_live t i live) is
    (λ r. trim-within t i rest live (none-comes t u i j (trimmed rest live).live r))
trim-within t i (Select u j e cases args rest) live is =
    swapped (reads t i e) (list_any (reads t i) args) (names t i rest) (is_live t i live)
    (in-all-read t i args (with_read e (trimmed rest live).live) (reads t i e || names t i rest) (is_live t i live) is
    (λ r. in-read t i e (trimmed rest live).live (names t i rest) (is_live t i live) r (trim-within t i rest live)))
trim-within t i (If e a b rest) live is =
    let after = (trimmed rest live).live in
    in-read t i e (united (trimmed a after).live (trimmed b after).live) (names t i a || (names t i b || names t i rest))
    (is_live t i live) is
    (λ r. in-if t i (trimmed a after).live (trimmed b after).live (names t i a) (names t i b) (names t i rest)
    (is_live t i live) r
    (λ q. after-part (names t i a) (is_live t i after) (names t i rest) (is_live t i live) (trim-within t i a after q)
    (trim-within t i rest live))
    (λ q. after-part (names t i b) (is_live t i after) (names t i rest) (is_live t i live) (trim-within t i b after q)
    (trim-within t i rest live)))
trim-within t i (While e a rest) live is =
    let after = (trimmed rest live).live in
    turn (reads t i e) (names t i a) (names t i rest) (is_live t i live) (is_live t i after)
    (sym (name-is t i a (with_read e after) ∙ ap (λ (c : Bool). names t i a || c) (read-is t i e after)) ∙ is)
    (trim-within t i rest live)
  where
    turn : (x a n l m : Bool) → (a || (x || m)) ≡ true → (m ≡ true → (n || l) ≡ true)
        → ((x || (a || n)) || l) ≡ true
    turn true a n l m e f = refl
    turn false true n l m e f = refl
    turn false false n l m e f = f e
trim-within t i (Return e) live is = left (reads t i e) (is_live t i live) (only (reads t i e) (sym (read-is t i e []) ∙ is))
  where
    only : (b : Bool) → (b || false) ≡ true → b ≡ true
    only true e = refl
    only false e = e
