-- Tables of names: what one name more changes.
use Rattle.std.proofs.Common.{◌≡◌, ℕ, suc, ◌+◌, List, [], ◌∷◌, ◌++◌, ◌<◌, take, get_or, length, Option}
use Rattle.std.proofs.Common.{Some, None, Bool, true, false, cond, refl, sym, ap, subst, ◌∙◌, arith}
use Rattle.std.proofs.lemmas.List.{take_more, length-take-le}
use Rattle.std.proofs.lemmas.Bool.Decides.{nat_tests}
use Rattle.std.specs.Prelude.{is_some, nat_eq, nat_lt, IfSome, String, string_bytes, IsUtf8}
use Rattle.std.specs.Global.{Global}
use Rattle.std.specs.Str.{bytes_eq}
use Rattle.std.specs.List.{position, position_or_len}
use Rattle.std.specs.Cmp.Lexicographic.{pointwise, bytes_decides, nat_list_eq_equiv}
use Rattle.std.specs.HashMap.{HashMap, get_by, UpdatesBy}
use Rattle.std.specs.Map.{lookup, IsKeyTest, AreApart, KeepsOthers}
use Rattle.event_file.specs.NameTables.{Numbered, numbered, number_in, or_else, number_after, HasTexts}

turned : (p q : List ℕ) → bytes_eq p q ≡ bytes_eq q p
turned p q = nat_list_eq_equiv.symm p q

-- a look-up in what is numbered is one in the map
pub number_in-numbered : (entries : List (String Global × ℕ)) (name : List ℕ) → number_in (numbered entries) name ≡ lookup (λ k. bytes_eq name (string_bytes k)) entries
number_in-numbered [] name = refl
number_in-numbered (e ∷ entries) name =
    ap (λ b. cond b (Some e.1) (number_in (numbered entries) name)) (turned (string_bytes e.0) name)
    ∙ ap (λ o. cond (bytes_eq name (string_bytes e.0)) (Some e.1) o) (number_in-numbered entries name)

abbrev eq_keys : String Global → String Global → Bool
eq_keys x y = pointwise nat_eq (string_bytes x) (string_bytes y)

others_stay : (test : String Global → Bool) (old new : List (String Global × ℕ)) → KeepsOthers eq_keys test old new
    → (other : String Global → Bool) → IsKeyTest eq_keys other → AreApart test other → lookup other new ≡ lookup other old
unfolding KeepsOthers
others_stay test old new h = h

apart : (bs cs ks : List ℕ) → bytes_eq bs cs ≡ false → bytes_eq bs ks ≡ true → bytes_eq cs ks ≡ false
apart bs cs ks n y = nat_list_eq_equiv.symm cs ks ∙ sym (nat_list_eq_equiv.congr bs ks cs y) ∙ n

-- a map after a number was put at a name
pub lookup_after : {S : Type 0} (m n : HashMap (String Global) ℕ S) (kept name : List ℕ) (w : Option ℕ)
    → UpdatesBy eq_keys (λ k. bytes_eq kept (string_bytes k)) m n w
    → lookup (λ k. bytes_eq name (string_bytes k)) n.entries ≡ cond (bytes_eq kept name) w (lookup (λ k. bytes_eq name (string_bytes k)) m.entries)
lookup_after m n kept name w h = go (bytes_eq kept name) refl
  where
    go : (b : Bool) → bytes_eq kept name ≡ b → lookup (λ k. bytes_eq name (string_bytes k)) n.entries ≡ cond b w (lookup (λ k. bytes_eq name (string_bytes k)) m.entries)
    go true e = subst (λ l. lookup (λ k. bytes_eq l (string_bytes k)) n.entries ≡ w) ((bytes_decides kept name).0 e) h.1
    go false e = others_stay _ _ _ h.3 (λ k. bytes_eq name (string_bytes k)) (λ x y. nat_list_eq_equiv.congr name (string_bytes x) (string_bytes y)) (λ k. apart kept name (string_bytes k) e)

-- a name that had no number has the number that was put
pub puts_new : {S : Type 0} (m n : HashMap (String Global) ℕ S) (kept : List ℕ) (number : ℕ) → get_by (λ k. bytes_eq kept (string_bytes k)) m ≡ None
    → UpdatesBy eq_keys (λ k. bytes_eq kept (string_bytes k)) m n (Some number)
    → (name : List ℕ) → number_in (numbered n.entries) name ≡ number_after (numbered m.entries) kept number name
puts_new m n kept number none h name = number_in-numbered n.entries name ∙ lookup_after m n kept name (Some number) h ∙ go (bytes_eq kept name) refl
  where
    old : List ℕ → Option ℕ
    old q = lookup (λ k. bytes_eq q (string_bytes k)) m.entries

    go : (b : Bool) → bytes_eq kept name ≡ b → cond (bytes_eq kept name) (Some number) (old name) ≡ or_else (number_in (numbered m.entries) name) (cond (bytes_eq kept name) (Some number) None)
    go true e =
        let is_none : number_in (numbered m.entries) name ≡ None = number_in-numbered m.entries name ∙ subst (λ l. old l ≡ None) ((bytes_decides kept name).0 e) none in
        rw (e, is_none) refl
    go false e = rw e (sym (number_in-numbered m.entries name) ∙ or_none (number_in (numbered m.entries) name))
      where
        or_none : (o : Option ℕ) → o ≡ or_else o None
        or_none None = refl
        or_none (Some x) = refl

-- a name that has a number keeps it
pub keeps_old : (table : List Numbered) (kept : List ℕ) (number : ℕ) → (number_in table kept ≡ None → ⊥) → (name : List ℕ) → number_in table name ≡ number_after table kept number name
keeps_old table kept number some name = go (number_in table name) (bytes_eq kept name) refl refl
  where
    go : (o : Option ℕ) (b : Bool) → number_in table name ≡ o → bytes_eq kept name ≡ b → o ≡ or_else o (cond b (Some number) None)
    go (Some x) b e f = refl
    go None false e f = refl
    go None true e f = absurd (some (ap (number_in table) ((bytes_decides kept name).0 f) ∙ e))

-- a table of texts has texts after a text more was kept
pub texts_after : (old new : List Numbered) (kept : List ℕ) (number : ℕ) → HasTexts old → IsUtf8 kept
    → ((name : List ℕ) → number_in new name ≡ number_after old kept number name) → HasTexts new
texts_after old new kept number texts text after name other = after name ∙ go (bytes_eq kept name) refl
  where
    go : (b : Bool) → bytes_eq kept name ≡ b → number_after old kept number name ≡ None
    go true e = absurd (other (subst IsUtf8 ((bytes_decides kept name).0 e) text))
    go false e = rw (e, texts name other) refl

abbrev later : Option ℕ → Option ℕ
later None = None
later (Some n) = Some (suc n)

position-later : {A : Type 0} (test : A → Bool) (x : A) (xs : List A) → test x ≡ false → position test (x ∷ xs) ≡ later (position test xs)
position-later test x xs e = rw place (go (nat_lt (position_or_len test xs) (length xs)) refl)
  where
    place : position_or_len test (x ∷ xs) ≡ suc (position_or_len test xs)
    place = rw e (omega arith)

    go : (b : Bool) → nat_lt (position_or_len test xs) (length xs) ≡ b
        → cond (nat_lt (suc (position_or_len test xs)) (suc (length xs))) (Some (suc (position_or_len test xs))) None
        ≡ later (cond (nat_lt (position_or_len test xs) (length xs)) (Some (position_or_len test xs)) None)
    go true h = let g : nat_lt (suc (position_or_len test xs)) (suc (length xs)) ≡ true = grind (arith, nat_tests) in rw (g, h) refl
    go false h = let g : nat_lt (suc (position_or_len test xs)) (suc (length xs)) ≡ false = grind (arith, nat_tests) in rw (g, h) refl

position-first : {A : Type 0} (test : A → Bool) (x : A) (xs : List A) → test x ≡ true → position test (x ∷ xs) ≡ Some 0
position-first test x xs e = let g : nat_lt 0 (suc (length xs)) ≡ true = grind (arith, nat_tests) in rw e (rw g refl)

later-or_else : (o : Option ℕ) (b : Bool) (n : ℕ) → later (or_else o (cond b (Some n) None)) ≡ or_else (later o) (cond b (Some (suc n)) None)
later-or_else (Some x) b n = refl
later-or_else None true n = refl
later-or_else None false n = refl

-- the place of the first that passes, with one more at the end
pub position-push : {A : Type 0} (test : A → Bool) (xs : List A) (x : A) → position test (xs ++ x ∷ []) ≡ or_else (position test xs) (cond (test x) (Some (length xs)) None)
position-push test [] x = go (test x) refl
  where
    go : (b : Bool) → test x ≡ b → position test (x ∷ []) ≡ cond b (Some 0) None
    go true e = rw e refl
    go false e = rw e refl
position-push test (y ∷ xs) x = go (test y) (position-push test xs x) refl
  where
    go : (b : Bool) → position test (xs ++ x ∷ []) ≡ or_else (position test xs) (cond (test x) (Some (length xs)) None) → test y ≡ b
        → position test (y ∷ (xs ++ x ∷ [])) ≡ or_else (position test (y ∷ xs)) (cond (test x) (Some (suc (length xs))) None)
    go true pushed e = position-first test y (xs ++ x ∷ []) e ∙ sym (ap (λ o. or_else o (cond (test x) (Some (suc (length xs))) None)) (position-first test y xs e))
    go false pushed e =
        position-later test y (xs ++ x ∷ []) e ∙ ap later pushed ∙ later-or_else (position test xs) (test x) (length xs)
        ∙ ap (λ o. or_else o (cond (test x) (Some (suc (length xs))) None)) (sym (position-later test y xs e))

pub is_absent : {A : Type 0} (o : Option A) → is_some o ≡ false → o ≡ None
is_absent None e = refl
is_absent (Some x) e = absurd cc

-- the place of the first of a list's front that passes, where the front is one longer
pub position_more : {A : Type 0} (test : A → Bool) (xs : List A) (i : ℕ) (x : A) → i < length xs → x ≡ get_or xs i x
    → position test (take (i + 1) xs) ≡ or_else (position test (take i xs)) (cond (test x) (Some i) None)
position_more test xs i x within is =
    let front : length (take i xs) ≡ i = length-take-le i xs (omega arith) in
    ap (position test) (take_more xs i x within ∙ ap (λ y. take i xs ++ y ∷ []) (sym is)) ∙ position-push test (take i xs) x
    ∙ ap (λ n. or_else (position test (take i xs)) (cond (test x) (Some n) None)) front

-- the place of the first that passes is one of the list
pub position_within : {A : Type 0} (test : A → Bool) (xs : List A) (o : Option ℕ) → o ≡ position test xs → IfSome o (λ n. n < length xs)
position_within test xs o is = rw is (go (nat_lt (position_or_len test xs) (length xs)) refl)
  where
    go : (b : Bool) → nat_lt (position_or_len test xs) (length xs) ≡ b → IfSome (cond b (Some (position_or_len test xs)) None) (λ n. n < length xs)
    go true e = grind (arith, nat_tests)
    go false e = tt
