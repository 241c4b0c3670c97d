-- A turn of a loop over a list, or over the children of a state.
use Rattle.std.specs.List.{sum_by, AllByRecursion}
use Rattle.std.proofs.lemmas.List.Sums.{sum_by_push}
use Rattle.std.proofs.Common.{◌≡◌, ℕ, zero, suc, ◌+◌, ◌<◌, ◌≤◌, List, [], ◌∷◌, ◌++◌, take, length, map, get_or, drop}
use Rattle.std.proofs.Common.{reverse, Option, Some, None, true, false, refl, sym, ap, ◌∙◌, subst, arith}
use Rattle.flow_base.specs.declared.bounds.Bounds.{Bounds}
use Rattle.flow_base.specs.declared.fault.Fault.{Fault}
use Rattle.active_config.specs.Tree.{first_child, last_child, next_sibling, prev_sibling, children_of, children_from}
use Rattle.active_config.specs.Tree.{children_back_from}
use Rattle.active_config.proofs.SiblingLemmas.{children_of-from, children_of-back}
use Rattle.active_config.specs.Marks.{is_on}
use Rattle.actions.specs.declared.expr.Stmt.{Stmt}
use Rattle.actions.specs.Exprs as exprs
use Rattle.actions.specs.Trees.{stmt_of}
use Rattle.actions.specs.World.{World, Life, Bare}
use Rattle.checked_chart.specs.Chart as rules
use Rattle.checked_chart.specs.Homes.{path_in}
use Rattle.actions.specs.Work.{Run, Ended, Faulted, End, Done, Cut, Now}
use Rattle.sos_interpreter.proofs.Halts.{continues_same}
use Rattle.sos_interpreter.proofs.Paths.{enter_each_end, enter_each_more, enter_each_fault, each_end, each_off}
use Rattle.sos_interpreter.proofs.Paths.{each_stay, each_fault, each_out, play_end, play_skip, play_pay_fault}
use Rattle.sos_interpreter.proofs.Paths.{play_fault, play_cut, play_more, block_end, block_more, block_cut, block_fault}
use Rattle.sos_interpreter.proofs.Paths.{exit_each_end, exit_each_more, exit_each_fault}
use Rattle.sos_interpreter.specs.Settled.{Settled, Continues}
use Rattle.sos_rules.specs.Parts.{Went, Stay, Out}
use Rattle.sos_rules.specs.Rules.{upto}
use Rattle.sos_rules.specs.Searches.{statement, pay}
use Rattle.checked_chart.proofs.Walks.{Stands, from_none, from_some, back_none, back_some}
use Rattle.checked_chart.specs.Views.{block_seen}

-- what is left of a list begins with the item at hand
pub drop_more : {A B : Type 0} (f : A → B) (xs : List A) (i : ℕ) (x : A) → i < length xs → x ≡ get_or xs i x
    → map f (drop i xs) ≡ f x ∷ map f (drop (i + 1) xs)
drop_more f [] i x lt e = absurd (omega arith)
drop_more f (y ∷ xs) zero x lt e = ap (λ z. f z ∷ map f xs) (sym e)
drop_more f (y ∷ xs) (suc i) x lt e =
    let k : suc i + 1 ≡ suc (i + 1) = omega arith in
    drop_more f xs i x (omega arith) e ∙ ap (λ n. f x ∷ map f (drop n (y ∷ xs))) (sym k)

-- nothing is left past the end of a list
drop_all : {A B : Type 0} (f : A → B) (xs : List A) (i : ℕ) → length xs ≤ i → map f (drop i xs) ≡ []
drop_all f [] zero le = refl
drop_all f [] (suc i) le = refl
drop_all f (y ∷ xs) zero le = absurd (omega arith)
drop_all f (y ∷ xs) (suc i) le = drop_all f xs i (omega arith)

module _ (c : rules.Chart) (b : Bounds) (now : Now) where
  module _ {life : Life} (xs : List Stmt) (i : ℕ) {w : World} {m : ℕ → Run End}
      (leads : Continues (λ n. (upto c b n).block life (block_seen (drop i xs)) now w) m) where
    -- a statement is done, and the rest of the block leads on
    pub block_turn : {x : Stmt} {u : World} → i < length xs → x ≡ get_or xs i x
        → Settled (λ n. statement c b (upto c b n) life (stmt_of x) now w) (Ended Done u)
        → Continues (λ n. (upto c b n).block life (block_seen (drop (i + 1) xs)) now u) m
    block_turn {x} lt e h = record {
      by = λ r s.
          leads.by r (subst (λ l. Settled (λ n. (upto c b n).block life l now w) r)
          (sym (drop_more stmt_of xs i x lt e)) (block_more c b now h s));
    }

    -- a statement after which the life is over ends the block
    pub block_turn_cut : {x : Stmt} {u : World} → i < length xs → x ≡ get_or xs i x
        → Settled (λ n. statement c b (upto c b n) life (stmt_of x) now w) (Ended Cut u) → Settled m (Ended Cut u)
    block_turn_cut {x} {u} lt e h =
        leads.by _ (subst (λ l. Settled (λ n. (upto c b n).block life l now w) (Ended Cut u))
        (sym (drop_more stmt_of xs i x lt e)) (block_cut c b now h))

    -- a statement that faults ends the block
    pub block_turn_fault : {x : Stmt} {u : World} {f : Fault} → i < length xs → x ≡ get_or xs i x
        → Settled (λ n. statement c b (upto c b n) life (stmt_of x) now w) (Faulted f u) → Settled m (Faulted f u)
    block_turn_fault {x} {u} {f} lt e h =
        leads.by _ (subst (λ l. Settled (λ n. (upto c b n).block life l now w) (Faulted f u))
        (sym (drop_more stmt_of xs i x lt e)) (block_fault c b now h))

    -- no statement is left
    pub block_turns_end : length xs ≤ i → Settled m (Ended Done w)
    block_turns_end le =
        leads.by _ (subst (λ l. Settled (λ n. (upto c b n).block life l now w) (Ended Done w))
        (sym (drop_all stmt_of xs i le)) (block_end c b now))

  module _ {X : Type 0} (f : X → List exprs.Stmt) {s : ℕ} (xs : List X) (i : ℕ) {w : World} {m : ℕ → Run End}
      (leads : Continues (λ n. (upto c b n).play s (map f (drop i xs)) now w) m) where
    -- an empty action costs nothing
    pub play_turn_skip : {x : X} → i < length xs → x ≡ get_or xs i x → f x ≡ []
        → Continues (λ n. (upto c b n).play s (map f (drop (i + 1) xs)) now w) m
    play_turn_skip {x} lt e z = record {
      by = λ r h.
          leads.by r (subst (λ l. Settled (λ n. (upto c b n).play s l now w) r) (sym (drop_more f xs i x lt e))
          (play_skip c b now z h));
    }

    module _ {x : X} (lt : i < length xs) (e : x ≡ get_or xs i x) (some : f x ≡ [] → ⊥) where
      -- the step of an action that can't be paid ends the play
      pub play_turn_pay_fault : {u : World} {y : Fault} → pay b w ≡ Faulted y u → Settled m (Faulted y u)
      play_turn_pay_fault {u} {y} p =
          leads.by _ (subst (λ l. Settled (λ n. (upto c b n).play s l now w) (Faulted y u))
          (sym (drop_more f xs i x lt e)) (play_pay_fault c b now some p))

      -- an action that faults ends the play
      pub play_turn_fault : {u v : World} {y : Fault} → pay b w ≡ Ended tt u
          → Settled (λ n. (upto c b n).block (Bare s) (f x) now u) (Faulted y v) → Settled m (Faulted y v)
      play_turn_fault {v} {y} p h =
          leads.by _ (subst (λ l. Settled (λ n. (upto c b n).play s l now w) (Faulted y v))
          (sym (drop_more f xs i x lt e)) (play_fault c b now some p h))

      -- an action after which the life is over ends the play
      pub play_turn_cut : {u v : World} → pay b w ≡ Ended tt u
          → Settled (λ n. (upto c b n).block (Bare s) (f x) now u) (Ended Cut v) → Settled m (Ended Cut v)
      play_turn_cut {v} p h =
          leads.by _ (subst (λ l. Settled (λ n. (upto c b n).play s l now w) (Ended Cut v))
          (sym (drop_more f xs i x lt e)) (play_cut c b now some p h))

      -- an action is done, and the rest of the actions lead on
      pub play_turn : {u v : World} → pay b w ≡ Ended tt u
          → Settled (λ n. (upto c b n).block (Bare s) (f x) now u) (Ended Done v)
          → Continues (λ n. (upto c b n).play s (map f (drop (i + 1) xs)) now v) m
      play_turn p h = record {
        by = λ r k.
            leads.by r (subst (λ l. Settled (λ n. (upto c b n).play s l now w) r) (sym (drop_more f xs i x lt e))
            (play_more c b now some p h k));
      }

    -- no action is left
    pub play_turns_end : length xs ≤ i → Settled m (Ended Done w)
    play_turns_end le =
        leads.by _ (subst (λ l. Settled (λ n. (upto c b n).play s l now w) (Ended Done w)) (sym (drop_all f xs i le))
        (play_end c b now))

-- a list of length 0 is empty
pub empty_is : {A : Type 0} (xs : List A) → length xs ≡ 0 → xs ≡ []
empty_is [] e = refl
empty_is (x ∷ xs) e = absurd (omega arith)

-- a list that isn't empty isn't empty after a map
pub not_empty : {A B : Type 0} (f : A → B) (xs : List A) → 0 < length xs → map f xs ≡ [] → ⊥
not_empty f [] lt e = absurd (omega arith)
not_empty f (x ∷ xs) lt e = absurd cc

map_append : {A B : Type 0} (f : A → B) (xs ys : List A) → map f (xs ++ ys) ≡ map f xs ++ map f ys
map_append f [] ys = refl
map_append f (x ∷ xs) ys = ap (λ l. f x ∷ l) (map_append f xs ys)

take_all : {A : Type 0} (xs : List A) (i : ℕ) → length xs ≤ i → take i xs ≡ xs
take_all [] zero le = refl
take_all [] (suc i) le = refl
take_all (x ∷ xs) zero le = absurd (omega arith)
take_all (x ∷ xs) (suc i) le = ap (λ l. x ∷ l) (take_all xs i (omega arith))

-- the collected items are those of every place, and then the last one
pub gathered : {A B C : Type 0} (f : A → C) (g : B → C) (new old : List A) (last : A) (items places : List B) (i : ℕ)
    → new ≡ old ++ last ∷ [] → map f old ≡ map g (take i items) → length items ≤ i → items ≡ places
    → map f new ≡ map g places ++ f last ∷ []
gathered f g new old last items places i e h le k =
    ap (map f) e ∙ map_append f old (last ∷ [])
    ∙ ap (λ l. l ++ f last ∷ []) (h ∙ ap (map g) (take_all items i le) ∙ ap (map g) k)

-- the sum over a list to which one item was pushed
pub sum_pushed : {A : Type 0} (f : A → ℕ) (new xs : List A) (y : A) → new ≡ xs ++ y ∷ []
    → sum_by f new ≡ sum_by f xs + f y
sum_pushed f new xs y e = ap (sum_by f) e ∙ sum_by_push f xs y

module _ (c : rules.Chart) (b : Bounds) (now : Now) (s : ℕ) where
  -- the walk over the children of a state that are left begins at the last one
  pub exit_turns_begin : {o : Option ℕ} {w : World} → o ≡ last_child c.tree s
      → Continues (λ n. (upto c b n).exit_each (children_back_from c.tree s o) now w)
      (λ n. (upto c b n).exit_each (reverse (children_of c.tree s)) now w)
  exit_turns_begin {w = w} first =
      subst (λ l. Continues (λ n. (upto c b n).exit_each l now w)
      (λ n. (upto c b n).exit_each (reverse (children_of c.tree s)) now w))
      (children_of-back c.tree s ∙ ap (children_back_from c.tree s) (sym first)) continues_same

  -- the walk over the children that are entered begins at the first one
  pub enter_turns_begin : {o : Option ℕ} {d : ℕ} {w : World} → o ≡ first_child c.tree s
      → Continues (λ n. (upto c b n).enter_each (children_from c.tree s o) d now w)
      (λ n. (upto c b n).enter_each (children_of c.tree s) d now w)
  enter_turns_begin {d = d} {w} first =
      subst (λ l. Continues (λ n. (upto c b n).enter_each l d now w)
      (λ n. (upto c b n).enter_each (children_of c.tree s) d now w))
      (children_of-from c.tree s ∙ ap (children_from c.tree s) (sym first)) continues_same

  -- the walk over the regions begins at the first one
  pub each_turns_begin : {o : Option ℕ} {w : World} → o ≡ first_child c.tree s
      → Continues (λ n. (upto c b n).process_each (children_from c.tree s o) now w)
      (λ n. (upto c b n).process_each (children_of c.tree s) now w)
  each_turns_begin {w = w} first =
      subst (λ l. Continues (λ n. (upto c b n).process_each l now w)
      (λ n. (upto c b n).process_each (children_of c.tree s) now w))
      (children_of-from c.tree s ∙ ap (children_from c.tree s) (sym first)) continues_same

  module _ {o : Option ℕ} {w : World} {m : ℕ → Run (Unit {0})}
      (leads : Continues (λ n. (upto c b n).exit_each (children_back_from c.tree s o) now w) m) where
    module _ {x : ℕ} (is : o ≡ Some x) (stands : Stands c.tree s o) {u : World} where
      -- a child is left, and those before it lead on
      pub exit_turn : {o' : Option ℕ} → o' ≡ prev_sibling c.tree x
          → Settled (λ n. (upto c b n).exit x now w) (Ended tt u)
          → Continues (λ n. (upto c b n).exit_each (children_back_from c.tree s o') now u) m
      exit_turn {o'} e h = record {
        by = λ r q.
            leads.by r (subst (λ l. Settled (λ n. (upto c b n).exit_each l now w) r)
            (sym (back_some c.tree s x o o' is stands e)) (exit_each_more c b now h q));
      }

      -- a fault in leaving a child ends the walk
      pub exit_turn_fault : {f : Fault} → Settled (λ n. (upto c b n).exit x now w) (Faulted f u)
          → Settled m (Faulted f u)
      exit_turn_fault {f} h =
          leads.by _ (subst (λ l. Settled (λ n. (upto c b n).exit_each l now w) (Faulted f u))
          (sym (back_some c.tree s x o (prev_sibling c.tree x) is stands refl)) (exit_each_fault c b now h))

    -- no child is left to leave
    pub exit_turns_end : o ≡ None → Settled m (Ended tt w)
    exit_turns_end e =
        leads.by _ (subst (λ l. Settled (λ n. (upto c b n).exit_each l now w) (Ended tt w))
        (sym (back_none c.tree s o e)) (exit_each_end c b now))

  module _ {d : ℕ} {o : Option ℕ} {w : World} {m : ℕ → Run (Unit {0})}
      (leads : Continues (λ n. (upto c b n).enter_each (children_from c.tree s o) d now w) m) where
    module _ {x to : ℕ} (is : o ≡ Some x) (stands : Stands c.tree s o) (path : to ≡ path_in c.tree x d) {u : World}
      where
        -- a child is entered, and those after it lead on
        pub enter_turn : {o' : Option ℕ} → o' ≡ next_sibling c.tree x
            → Settled (λ n. (upto c b n).enter x to now w) (Ended tt u)
            → Continues (λ n. (upto c b n).enter_each (children_from c.tree s o') d now u) m
        enter_turn {o'} e h = record {
          by = λ r q.
              leads.by r (subst (λ l. Settled (λ n. (upto c b n).enter_each l d now w) r)
              (sym (from_some c.tree s x o o' is stands e)) (enter_each_more c b now path h q));
        }

        -- a fault in entering a child ends the walk
        pub enter_turn_fault : {f : Fault} → Settled (λ n. (upto c b n).enter x to now w) (Faulted f u)
            → Settled m (Faulted f u)
        enter_turn_fault {f} h =
            leads.by _ (subst (λ l. Settled (λ n. (upto c b n).enter_each l d now w) (Faulted f u))
            (sym (from_some c.tree s x o (next_sibling c.tree x) is stands refl))
            (enter_each_fault c b now path h))

    -- no child is left to enter
    pub enter_turns_end : o ≡ None → Settled m (Ended tt w)
    enter_turns_end e =
        leads.by _ (subst (λ l. Settled (λ n. (upto c b n).enter_each l d now w) (Ended tt w))
        (sym (from_none c.tree s o e)) (enter_each_end c b now))

  module _ {o : Option ℕ} {w : World} {m : ℕ → Run Went}
      (leads : Continues (λ n. (upto c b n).process_each (children_from c.tree s o) now w) m) where
    module _ {x : ℕ} (is : o ≡ Some x) (stands : Stands c.tree s o) where
      -- a region that isn't active is passed over
      pub each_turn_off : {o' : Option ℕ} → o' ≡ next_sibling c.tree x → is_on x w.marks ≡ false
          → Continues (λ n. (upto c b n).process_each (children_from c.tree s o') now w) m
      each_turn_off {o'} e off = record {
        by = λ r q.
            leads.by r (subst (λ l. Settled (λ n. (upto c b n).process_each l now w) r)
            (sym (from_some c.tree s x o o' is stands e)) (each_off c b now off q));
      }

      module _ (on : is_on x w.marks ≡ true) {u : World} where
        -- a region is processed and stays, and those after it lead on
        pub each_turn : {o' : Option ℕ} → o' ≡ next_sibling c.tree x
            → Settled (λ n. (upto c b n).process x now w) (Ended Stay u)
            → Continues (λ n. (upto c b n).process_each (children_from c.tree s o') now u) m
        each_turn {o'} e h = record {
          by = λ r q.
              leads.by r (subst (λ l. Settled (λ n. (upto c b n).process_each l now w) r)
              (sym (from_some c.tree s x o o' is stands e)) (each_stay c b now on h q));
        }

        -- a fault in a region ends the walk
        pub each_turn_fault : {f : Fault} → Settled (λ n. (upto c b n).process x now w) (Faulted f u)
            → Settled m (Faulted f u)
        each_turn_fault {f} h =
            leads.by _ (subst (λ l. Settled (λ n. (upto c b n).process_each l now w) (Faulted f u))
            (sym (from_some c.tree s x o (next_sibling c.tree x) is stands refl)) (each_fault c b now on h))

        -- a way out of a region ends the walk
        pub each_turn_out : {q : ℕ} → Settled (λ n. (upto c b n).process x now w) (Ended (Out q) u)
            → Settled m (Ended (Out q) u)
        each_turn_out {q} h =
            leads.by _ (subst (λ l. Settled (λ n. (upto c b n).process_each l now w) (Ended (Out q) u))
            (sym (from_some c.tree s x o (next_sibling c.tree x) is stands refl)) (each_out c b now on h))

    -- no region is left
    pub each_turns_end : o ≡ None → Settled m (Ended Stay w)
    each_turns_end e =
        leads.by _ (subst (λ l. Settled (λ n. (upto c b n).process_each l now w) (Ended Stay w))
        (sym (from_none c.tree s o e)) (each_end c b now))

-- ---- what all of a list have, one of it has

-- what all items have, the item at a place has
pub all_item : {A B : Type 0} (f : A → B) (P : B → Type 0) (xs : List A) (i : ℕ) (x : A) → AllByRecursion P (map f xs)
    → i < length xs → x ≡ get_or xs i x → P (f x)
all_item f P [] i x a lt e = absurd (omega arith)
all_item f P (y ∷ xs) zero x a lt e = subst (λ z. P (f z)) (sym e) a.0
all_item f P (y ∷ xs) (suc i) x a lt e = all_item f P xs i x a.1 (omega arith) e

-- what all items have, and one more has, all have with it
pub all_more : {A : Type 0} (P : A → Type 0) (xs : List A) (y : A) → AllByRecursion P xs → P y
    → AllByRecursion P (xs ++ y ∷ [])
all_more P [] y a h = (h, tt)
all_more P (x ∷ xs) y a h = (a.0, all_more P xs y a.1 h)

-- what all items have, those before the last have, and the last one
pub all_front : {A : Type 0} (P : A → Type 0) (xs : List A) (y : A) → AllByRecursion P (xs ++ y ∷ [])
    → AllByRecursion P xs × P y
all_front P [] y a = (tt, a.0)
all_front P (x ∷ xs) y a = let h = all_front P xs y a.1 in ((a.0, h.0), h.1)

-- what all items of a list have, the items of the mapped list have
pub all_seen : {A B : Type 0} (f : A → B) (P : B → Type 0) (Q : A → Type 0) (xs : List A) → ((x : A) → Q x → P (f x))
    → AllByRecursion Q xs → AllByRecursion P (map f xs)
all_seen f P Q [] h a = tt
all_seen f P Q (x ∷ xs) h a = (h x a.0, all_seen f P Q xs h a.1)

-- one more taken item comes last
pub taken_more : {A B : Type 0} (g : A → B) (xs : List A) (i : ℕ) (x : A) → i < length xs → x ≡ get_or xs i x
    → map g (take (i + 1) xs) ≡ map g (take i xs) ++ g x ∷ []
taken_more g [] i x lt e = absurd (omega arith)
taken_more g (y ∷ xs) zero x lt e = ap (λ z. g z ∷ []) (sym e)
taken_more g (y ∷ xs) (suc i) x lt e =
    let k : suc i + 1 ≡ suc (i + 1) = omega arith in
    ap (λ n. map g (take n (y ∷ xs))) k ∙ ap (λ l. g y ∷ l) (taken_more g xs i x (omega arith) e)

-- one more item is collected
pub gathered_one : {A B C : Type 0} (f : A → C) (g : B → C) (new old : List A) (last : A) (items : List B) (i : ℕ)
    (x : B)
    → new ≡ old ++ last ∷ [] → map f old ≡ map g (take i items) → i < length items → x ≡ get_or items i x → f last ≡ g x
    → map f new ≡ map g (take (i + 1) items)
gathered_one f g new old last items i x e h lt is same =
    ap (map f) e ∙ map_append f old (last ∷ []) ∙ ap (λ l. l ++ f last ∷ []) h
    ∙ ap (λ z. map g (take i items) ++ z ∷ []) same ∙ sym (taken_more g items i x lt is)
