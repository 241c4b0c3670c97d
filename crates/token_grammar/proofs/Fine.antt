-- Grammars put together: nullable, FIRST and the reading of the whole, by those of the parts. The LL(1) conditions
-- are computed.
use Rattle.std.proofs.Common.{◌≡◌, Bool, true, false, [], Some, None, refl, inr, ◌&&◌, ◌||◌}
use Rattle.token_grammar.specs.declared.token.Kind.{Kind}
use Rattle.token_grammar.specs.Token.{kind_eq}
use Rattle.token_grammar.specs.Grammar.{Grammar, token, one_of, give, ◌>>=◌, either, optional, many, many_from}
use Rattle.token_grammar.proofs.Good.{Set, nothing, also, Good, Sample, good_wider}
use Rattle.token_grammar.proofs.Leaves.{good_token, sample_token, good_one_of, sample_one_of, good_give, sample_give}
use Rattle.token_grammar.proofs.Join.{then_good, sample_then, either_good}
use Rattle.token_grammar.proofs.State.{from_good, sample_from}
use Rattle.token_grammar.proofs.Many.{many_good, sample_many}
use Rattle.token_grammar.proofs.Sets.{disjoint, subset, apart, within}

-- g is LL(1) with these sets, and some value has a spelling
pub record Fine {X : Type 0} (g : Grammar X) (first : Set) (nullable : Bool) (followlast : Set) : Type 0 where
  pub good : Good g first nullable followlast
  pub sample : Sample g

-- ---- one token, and none

-- one token: FIRST is its kind
pub fine_token : (k : Kind) → Fine (token k) (λ j. kind_eq j k) false nothing
fine_token k = record { good = good_token k; sample = sample_token k }

-- one of a set, in which there is a kind
pub fine_one_of : (set : Set) (k : Kind) → set k ≡ true → Fine (one_of set) set false nothing
fine_one_of set k there = record { good = good_one_of set; sample = sample_one_of set k there }

-- no token: nullable, and FIRST is empty
pub fine_give : {X : Type 0} (x : X) → Fine (give x) nothing true nothing
fine_give x = record { good = good_give x; sample = sample_give x }

-- ---- one after the other

-- where the first has a spelling
pub fine_then : {X Y : Type 0} {g : Grammar X} {h : X → Grammar Y} {f1 m1 f2 m2 : Set} {n1 n2 : Bool}
    → Fine g f1 n1 m1 → ((x : X) → Fine (h x) f2 n2 m2) → disjoint f2 m1 ≡ true
    → Fine (g >>= h) (also f1 n1 f2) (n1 && n2) (also m2 n2 m1)
fine_then {X} {Y} {g} {h} {f1} {m1} {f2} a b e = record {
  good = then_good a.good (λ x. (b x).good) (λ x. (b x).sample) (apart f2 m1 e);
  sample = sample_then a.sample (λ x. (b x).sample);
}

-- where it need not have one
pub good_then : {X Y : Type 0} {g : Grammar X} {h : X → Grammar Y} {f1 m1 f2 m2 : Set} {n1 n2 : Bool}
    → Good g f1 n1 m1 → ((x : X) → Fine (h x) f2 n2 m2) → disjoint f2 m1 ≡ true
    → Good (g >>= h) (also f1 n1 f2) (n1 && n2) (also m2 n2 m1)
good_then {X} {Y} {g} {h} {f1} {m1} {f2} a b e = then_good a (λ x. (b x).good) (λ x. (b x).sample) (apart f2 m1 e)

-- ---- one or the other: the first of them where the token at hand is in the set

-- where the second has a spelling
pub fine_either : {X : Type 0} {g h : Grammar X} {f1 m1 f2 m2 : Set} {n2 : Bool} (set : Set)
    → Good g f1 false m1 → Fine h f2 n2 m2 → subset f1 set ≡ true → disjoint f2 set ≡ true
    → Fine (either set g h) (also f1 true f2) n2 (also (also m1 true m2) n2 set)
fine_either {X} {g} {h} {f1} {m1} {f2} set a b p q = record {
  good = either_good set a b.good (within f1 set p) (apart f2 set q);
  sample = record { tokens = b.sample.tokens; value = b.sample.value; spelled = inr b.sample.spelled };
}

-- where neither need have one
pub good_either : {X : Type 0} {g h : Grammar X} {f1 m1 f2 m2 : Set} {n2 : Bool} (set : Set)
    → Good g f1 false m1 → Good h f2 n2 m2 → subset f1 set ≡ true → disjoint f2 set ≡ true
    → Good (either set g h) (also f1 true f2) n2 (also (also m1 true m2) n2 set)
good_either {X} {g} {h} {f1} {m1} {f2} set a b p q = either_good set a b (within f1 set p) (apart f2 set q)

-- one or none
pub fine_optional : {X : Type 0} {g : Grammar X} {f m : Set} (set : Set) → Good g f false m → subset f set ≡ true
    → Fine (optional set g) f true (also m true set)
fine_optional {X} {g} {f} {m} set a p = record {
  good =
      good_wider (λ k. only_left (f k)) (λ k. either_of (m k) (set k))
      (either_good set (then_good a (λ x. good_give (Some x)) (λ x. sample_give (Some x)) (λ k there. absurd cc)) (good_give None)
      (λ k there. within f set p k (left_of (f k) there)) (λ k there. absurd cc));
  sample = record { tokens = []; value = None; spelled = inr (refl, refl) };
}
  where
    left_of : (a : Bool) → (a || (false && false)) ≡ true → a ≡ true
    left_of true h = refl
    left_of false h = absurd cc

    only_left : (a : Bool) → ((a || (false && false)) || (true && false)) ≡ true → a ≡ true
    only_left true h = refl
    only_left false h = absurd cc

    either_of : (a b : Bool) → (((false || (true && a)) || (true && false)) || (true && b)) ≡ true
        → (a || (true && b)) ≡ true
    either_of true b h = refl
    either_of false true h = refl
    either_of false false h = absurd cc

-- ---- any number, and at most n

-- any number: nullable, and FIRST is that of the item
pub fine_many : {X : Type 0} {g : Grammar X} {f m : Set} (set : Set) → Good g f false m → subset f set ≡ true
    → disjoint f m ≡ true
    → Fine (many set g) f true (also set true m)
fine_many {X} {g} {f} {m} set a p q = record { good = many_good set a (within f set p) (apart f m q); sample = sample_many set g }

-- every has the sets of all states
pub fine_many_from : {S X : Type 0} {g : S → Grammar X} {f : S → Set} {m : Set} (set : S → Set) (next : S → X → S)
    (every : Set) (s : S)
    → ((z : S) → Good (g z) (f z) false m) → ((z : S) → subset (f z) (set z) ≡ true)
    → ((z : S) → subset (set z) every ≡ true)
    → disjoint every m ≡ true → Fine (many_from set g next s) every true (also every true m)
fine_many_from {S} {X} {g} {f} {m} set next every s a p q e = record {
  good =
      from_good set g next f m every every
      (record {
        good = a;
        heading = λ z k there. within (set z) every (q z) k (within (f z) (set z) (p z) k there);
        within = λ z. within (f z) (set z) (p z);
        known = λ z. within (set z) every (q z);
        apart = apart every m e;
      })
      s;
  sample = sample_from set g next s;
}

-- ---- the same with plainer sets

-- the laws with greater sets
pub good_as : {X : Type 0} {g : Grammar X} {f m : Set} {n : Bool} (f' m' : Set) → Good g f n m → subset f f' ≡ true
    → subset m m' ≡ true → Good g f' n m'
good_as {X} {g} {f} {m} f' m' a p q = good_wider (within f f' p) (within m m' q) a

-- and some value has a spelling
pub fine_as : {X : Type 0} {g : Grammar X} {f m : Set} {n : Bool} (f' m' : Set) → Fine g f n m → subset f f' ≡ true
    → subset m m' ≡ true → Fine g f' n m'
fine_as f' m' a p q = record { good = good_as f' m' a.good p q; sample = a.sample }
