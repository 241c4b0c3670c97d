-- A procedure made smaller from its last place to its first.
use Rattle.std.proofs.Common.{◌≡◌, ◌<◌, ℕ, zero, suc, ◌+◌, Bool, true, false, List, [], ◌∷◌, ◌++◌, length, map, drop}
use Rattle.std.proofs.Common.{refl, sym, ap, ◌∙◌, arith, length-append}
use Rattle.std.specs.Prelude.{reverse, slice_index, ◌&&◌, not}
use Rattle.std.proofs.lemmas.List.{length-map, reverse-append, map-append, map_push, drop-map}
use Rattle.code_language.specs.Instrs.{Cond, Instr, Assign, Emit, Mark, Clear, Keep, Unless, Skip, Call, Visit, Send}
use Rattle.code_language.specs.Instrs.{SendTo, Play, Home, Begin, Pass, Ret}
use Rattle.code_language.specs.Code.{instr_of, instrs_of}
use Rattle.code_language.specs.declared.instr.Instr.{Instr as Written}
use Rattle.code_language.proofs.ListLemmas.{drop_past}
use Rattle.code_shrink.specs.Follows.{renamed, goes_on}
use Rattle.code_shrink.specs.Kept.{totals, Counts}
use Rattle.code_shrink.specs.Smaller.{folded, slides, threaded, threads, straight, count, is_idle, keeps, recounted}
use Rattle.code_shrink.specs.Smaller.{put_if}
use Rattle.code_shrink.specs.Smaller.{squeezed, smaller}
use Rattle.code_shrink.specs.Ways.{way_of}
use Rattle.code_shrink.specs.declared.places.Way.{Way}
use Rattle.code_shrink.specs.declared.places.Way.TheVariants as ways
use Rattle.code_shrink.proofs.InstrKinds.{Kind, Plain, Return, Tests, Jump, kind}
use Rattle.code_shrink.proofs.LiveLemmas.{straight_length}
use Rattle.code_shrink.proofs.Squeezed.{plain}

-- a mapped list the other way round
pub map-reverse : {X Y : Type 0} (f : X → Y) (xs : List X) → map f (reverse xs) ≡ reverse (map f xs)
map-reverse f [] = refl
map-reverse f (x ∷ xs) =
    ap (map f) (reverse-append (x ∷ []) xs) ∙ map-append f (reverse xs) (x ∷ [])
    ∙ ap (λ l. l ++ f x ∷ []) (map-reverse f xs) ∙ sym (reverse-append (f x ∷ []) (map f xs))

-- what is made, with one more instruction that is kept
pub put_made : (x : Instr) (z : Written) (old now : List Written) (kept : Bool) → kept ≡ true → instr_of z ≡ x
    → now ≡ old ++ z ∷ [] → reverse (instrs_of now) ≡ put_if kept x (reverse (instrs_of old))
put_made x z old now kept k e n =
    ap (λ (l : List Written). reverse (instrs_of l)) n ∙ ap reverse (map_push instr_of old z)
    ∙ reverse-append (instrs_of old) (instr_of z ∷ []) ∙ ap (λ y. y ∷ reverse (instrs_of old)) e
    ∙ sym (ap (λ b. put_if b x (reverse (instrs_of old))) k)

-- and with one that isn't
pub left_made : (x : Instr) (old now : List Written) (kept : Bool) → kept ≡ false → now ≡ old
    → reverse (instrs_of now) ≡ put_if kept x (reverse (instrs_of old))
left_made x old now kept k n =
    ap (λ (l : List Written). reverse (instrs_of l)) n ∙ sym (ap (λ b. put_if b x (reverse (instrs_of old))) k)

-- something stands at each place
pub some_at : {A : Type 0} (is : List A) (i : ℕ) → i < length is → (y : A) × (drop i is ≡ y ∷ drop (i + 1) is)
some_at [] i lt = absurd (omega arith)
some_at (x ∷ is) zero lt = (x, refl)
some_at (x ∷ is) (suc i) lt =
    let e : suc i + 1 ≡ suc (i + 1) = omega arith in
    let rest = some_at is i (omega arith) in (rest.0, rw e rest.1)

-- ---- one instruction

-- an instruction that goes on has that way
way_on : (x : Instr) → goes_on x ≡ true → way_of x ≡ ways.On
unfolding goes_on
way_on (Assign v x) h = refl
way_on (Emit e) h = refl
way_on (Mark s) h = refl
way_on (Clear s) h = refl
way_on (Keep s) h = refl
way_on (Unless k c) h = absurd (cc h)
way_on (Skip k) h = absurd (cc h)
way_on (Call p tag) h = refl
way_on (Visit p tag) h = refl
way_on (Send e) h = refl
way_on (SendTo e s p) h = refl
way_on Play h = refl
way_on (Home s) h = refl
way_on Begin h = refl
way_on Pass h = refl
way_on (Ret r) h = absurd (cc h)

module _ (m : ℕ → ℕ) (ls : List ℕ) (bs : List Bool) where
  -- an instruction that goes on has its way once it is straight
  plain_on : (y : Instr) → goes_on y ≡ true → way_of (threaded y ls) ≡ ways.On
  plain_on y g = ap way_of ((plain m y g).threads ls) ∙ way_on y g

  -- and is renamed alone
  plain_renamed : (y : Instr) → goes_on y ≡ true → recounted m (threaded y ls) bs ≡ renamed m y
  plain_renamed y g = ap (λ x. recounted m x bs) ((plain m y g).threads ls) ∙ (plain m y g).counts bs

  -- what goes on is renamed
  on_renamed : (y z : Instr) → Kind y z → way_of (threaded z ls) ≡ ways.On
      → recounted m (threaded z ls) bs ≡ renamed m y
  on_renamed y z (Plain _ g) w = plain_renamed y g
  on_renamed y z (Return r) w = absurd (cc w)
  on_renamed y z (Tests k c) w = absurd (cc w)
  on_renamed y z (Jump _ k jumps costs inside no_ret) w = absurd (cc w)

  -- what returns is renamed
  return_renamed : (y z : Instr) → Kind y z → way_of (threaded z ls) ≡ ways.Returns
      → recounted m (threaded z ls) bs ≡ renamed m y
  unfolding renamed
  return_renamed y z (Plain _ g) w = absurd (let on = plain_on y g in cc)
  return_renamed y z (Return r) w = refl
  return_renamed y z (Tests k c) w = absurd (cc w)
  return_renamed y z (Jump _ k jumps costs inside no_ret) w = absurd (cc w)

  -- what skips is a skip over what is kept
  skip_counted : (y z : Instr) (over : ℕ) → Kind y z → way_of (threaded z ls) ≡ ways.Skips over
      → Skip (count over bs) ≡ recounted m (threaded z ls) bs
  skip_counted y z over (Plain _ g) w = absurd (let on = plain_on y g in cc)
  skip_counted y z over (Return r) w = absurd (cc w)
  skip_counted y z over (Tests k c) w = absurd (cc w)
  skip_counted y z over (Jump _ k jumps costs inside no_ret) w =
      let same : k + slice_index ls k ≡ over = cc w in ap (λ n. Skip (count n bs)) (sym same)

  -- what tests is that test, over what is kept
  test_counted : (y z : Instr) (over : ℕ) → Kind y z → way_of (threaded z ls) ≡ ways.Tests over
      → (k : ℕ) × (c : Cond) × (y ≡ Unless k c) × (Unless (count over bs) c ≡ recounted m (threaded z ls) bs)
  test_counted y z over (Plain _ g) w = absurd (let on = plain_on y g in cc)
  test_counted y z over (Return r) w = absurd (cc w)
  test_counted y z over (Tests k c) w =
      let same : k + slice_index ls k ≡ over = cc w in (k, c, refl, ap (λ n. Unless (count n bs) c) (sym same))
  test_counted y z over (Jump _ k jumps costs inside no_ret) w = absurd (cc w)

-- the same, of an instruction
pub on_as : (m : ℕ → ℕ) (ls : List ℕ) (bs : List Bool) (y : Instr) → way_of (threaded (folded y) ls) ≡ ways.On
    → renamed m y ≡ recounted m (threaded (folded y) ls) bs
on_as m ls bs y w = sym (on_renamed m ls bs y (folded y) (kind y) w)

pub return_as : (m : ℕ → ℕ) (ls : List ℕ) (bs : List Bool) (y : Instr) → way_of (threaded (folded y) ls) ≡ ways.Returns
    → renamed m y ≡ recounted m (threaded (folded y) ls) bs
return_as m ls bs y w = sym (return_renamed m ls bs y (folded y) (kind y) w)

pub skip_as : (m : ℕ → ℕ) (ls : List ℕ) (bs : List Bool) (y : Instr) (over : ℕ)
    → way_of (threaded (folded y) ls) ≡ ways.Skips over → Skip (count over bs) ≡ recounted m (threaded (folded y) ls) bs
skip_as m ls bs y over w = skip_counted m ls bs y (folded y) over (kind y) w

pub test_as : (m : ℕ → ℕ) (ls : List ℕ) (bs : List Bool) (y : Instr) (over : ℕ)
    → way_of (threaded (folded y) ls) ≡ ways.Tests over
    → (k : ℕ) × (c : Cond) × (y ≡ Unless k c) × (Unless (count over bs) c ≡ recounted m (threaded (folded y) ls) bs)
test_as m ls bs y over w = test_counted m ls bs y (folded y) over (kind y) w

-- ---- all instructions of a procedure

-- from a place on, jumps lead where they lead in the rest alone
threads-drop : (js : List Instr) (i : ℕ) → drop i (threads js) ≡ threads (drop i js)
threads-drop js zero = refl
threads-drop [] (suc i) = refl
threads-drop (x ∷ js) (suc i) = threads-drop js i

-- so the rest of a straight procedure is the straight rest
straight-drop : (is : List Instr) (i : ℕ) → drop i (straight is) ≡ straight (drop i is)
straight-drop is i = threads-drop (map folded is) i ∙ ap threads (drop-map folded i is)

-- what an instruction at a place is once the procedure is straight
abbrev pub at_place : List Instr → ℕ → Instr → Instr
at_place is i y = threaded (folded y) (slides (map folded (drop (i + 1) is)))

-- it stands there
pub straight_at : (is : List Instr) (i : ℕ) (y : Instr) → drop i is ≡ y ∷ drop (i + 1) is
    → drop i (straight is) ≡ threaded (folded y) (slides (map folded (drop (i + 1) is))) ∷ drop (i + 1) (straight is)
straight_at is i y e =
    straight-drop is i ∙ ap straight e
    ∙ ap (λ rest. threaded (folded y) (slides (map folded (drop (i + 1) is))) ∷ rest) (sym (straight-drop is (i + 1)))

-- what a place of a straight procedure has as its way
pub way_at : (is : List Instr) (i : ℕ) (y : Instr) (w : Way) (all : List Way) → all ≡ map way_of (straight is)
    → drop i is ≡ y ∷ drop (i + 1) is → drop i all ≡ w ∷ drop (i + 1) all
    → way_of (threaded (folded y) (slides (map folded (drop (i + 1) is)))) ≡ w
way_at is i y w all a e f =
    let x = threaded (folded y) (slides (map folded (drop (i + 1) is))) in
    let there : drop i all ≡ way_of x ∷ map way_of (drop (i + 1) (straight is)) =
    ap (drop i) a ∙ drop-map way_of i (straight is) ∙ ap (map way_of) (straight_at is i y e) in
    let same : way_of x ∷ map way_of (drop (i + 1) (straight is)) ≡ w ∷ drop (i + 1) all = sym there ∙ f in
    cc same

-- what is kept of a procedure from a place on
abbrev pub kept_from : List Bool → List Instr → ℕ → List Bool
kept_from bs is i = keeps (drop i bs) (drop i (straight is))

-- what is made from a place on, the last instruction first, and how many places are kept
pub record MadeFrom (m : ℕ → ℕ) (bs : List Bool) (is : List Instr) (i : ℕ) (counts : List ℕ) (made : List Instr)
    : Type 0 where
  pub counted : Counts (kept_from bs is i) counts
  pub smaller : reverse made ≡ squeezed m (kept_from bs is i) (drop i (straight is))
  pub size : length counts + i ≡ length is

-- as many ways as instructions
pub ways_length : (is : List Instr) (all : List Way) → all ≡ map way_of (straight is) → length all ≡ length is
ways_length is all e = ap length e ∙ length-map (straight is) way_of ∙ straight_length is

-- at the end
pub made_none : (m : ℕ → ℕ) (bs : List Bool) (is : List Instr) (i : ℕ) → length bs ≡ length is → i ≡ length is
    → MadeFrom m bs is i [] []
made_none m bs is i size e =
    let none = drop_past bs i (omega (arith, size, e)) in
    let over = drop_past (straight is) i (omega (arith, straight_length is, e)) in
    let nothing : kept_from bs is i ≡ [] = ap (λ l. keeps l (drop i (straight is))) none in
    record {
      counted = sym (ap totals nothing);
      smaller = sym (ap (λ l. squeezed m l (drop i (straight is))) nothing);
      size = omega (arith, e);
    }

module _ (m : ℕ → ℕ) (bs : List Bool) (is : List Instr) (i : ℕ) (y : Instr) (b : Bool)
    (e : drop i is ≡ y ∷ drop (i + 1) is) (f : drop i bs ≡ b ∷ drop (i + 1) bs) where
  -- the instruction there
  abbrev there : Instr
  there = at_place is i y

  -- what is kept after it
  abbrev after : List Bool
  after = kept_from bs is (i + 1)

  -- what is kept from there on
  kept_here : (kept : Bool) → kept ≡ (b && not (is_idle there after)) → kept_from bs is i ≡ kept ∷ after
  kept_here kept k =
      ap (λ l. keeps l (drop i (straight is))) f ∙ ap (keeps (b ∷ drop (i + 1) bs)) (straight_at is i y e)
      ∙ ap (λ c. c ∷ after) (sym k)

  -- one more place
  pub made_more : (kept : Bool) (n : ℕ) (counts : List ℕ) (made now : List Instr) → MadeFrom m bs is (i + 1) counts made
      → i < length is → kept ≡ (b && not (is_idle there after)) → n ∷ reverse counts ≡ totals (kept ∷ after)
      → reverse now ≡ put_if kept (recounted m there after) (reverse made)
      → MadeFrom m bs is i (counts ++ n ∷ []) now
  made_more kept n counts made now h lt k c p = record {
    counted = reverse-append counts (n ∷ []) ∙ c ∙ sym (ap totals (kept_here kept k));
    smaller =
        p ∙ ap (put_if kept (recounted m there after)) h.smaller
        ∙ sym (ap (λ l. squeezed m l (drop i (straight is))) (kept_here kept k)
        ∙ ap (squeezed m (kept ∷ after)) (straight_at is i y e));
    size = omega (arith, h.size, length-append counts (n ∷ []));
  }

-- the whole procedure
pub made_all : (m : ℕ → ℕ) (bs : List Bool) (is : List Instr) (i : ℕ) (counts : List ℕ) (made : List Instr)
    → MadeFrom m bs is i counts made → i ≡ 0 → reverse made ≡ smaller m bs is
made_all m bs is i counts made h e =
    h.smaller ∙ ap (λ j. squeezed m (kept_from bs is j) (drop j (straight is))) e
