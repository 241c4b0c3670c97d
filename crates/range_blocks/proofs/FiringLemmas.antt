-- Lists of firings, and searches that are put together.
use Rattle.std.proofs.Common.{◌≡◌, ◌⊎◌, inl, inr, ℕ, List, [], ◌∷◌, ◌++◌, Some}
use Rattle.std.proofs.Common.{length, map, sym, ap, subst, ◌∙◌, slice_get}
use Rattle.actions.specs.Exprs.{Stmt}
use Rattle.actions.specs.World.{World}
use Rattle.checked_chart.specs.Views.{block_seen}
use Rattle.sos_rules.specs.Parts.{Found, Fire, DeadEnd, No, Stop}
use Rattle.range_blocks.specs.declared.searches.Firing.{Firing}
use Rattle.range_blocks.specs.declared.searches.Onward.{Onward}
use Rattle.range_blocks.specs.declared.searches.Searched.{Searched}
use Rattle.range_blocks.specs.Finds.{IsFired, found_ends, Includes, Gathers, Extends, put_first}
use Rattle.range_blocks.specs.Finds.{Leaves, Passes}
use Rattle.range_rules.specs.declared.cert.Around.{Around}
use Rattle.range_worlds.specs.declared.setting.Setting.{Setting}
use Rattle.range_worlds.specs.Leads.{Among, Unites}
use Rattle.range_worlds.proofs.Leading.{got_front, got_last, got_pushed}

module _ (s : Setting) where
  -- ---- lists of firings

  pub no_firing : (d : ℕ) (actions : List (List Stmt)) (w : World) → IsFired s [] d actions w → ⊥
  no_firing d actions w h = let e = h.is in absurd cc

  pub fired_front : (xs all : List Firing) (x : Firing) → all ≡ xs ++ x ∷ [] → (d : ℕ) (actions : List (List Stmt))
      (w : World) → IsFired s xs d actions w → IsFired s all d actions w
  fired_front xs all x e d actions w h = record {
    place = h.place;
    firing = h.firing;
    is = subst (λ l. slice_get l h.place ≡ Some h.firing) (sym e) (got_front xs (x ∷ []) h.place h.firing h.is);
    target_is = h.target_is;
    actions_are = h.actions_are;
    at = h.at;
  }

  -- a world of the last firing
  pub record IsOf (x : Firing) (d : ℕ) (actions : List (List Stmt)) (w : World) : Type 0 where
    pub target_is : x.target ≡ d
    pub actions_are : map (λ a. block_seen a.now) x.actions.items ≡ actions
    pub at : Among s x.worlds.items w

  pub fired_last : (xs all : List Firing) (x : Firing) → all ≡ xs ++ x ∷ [] → (d : ℕ) (actions : List (List Stmt))
      (w : World) → IsOf x d actions w → IsFired s all d actions w
  fired_last xs all x e d actions w h = record {
    place = length xs;
    firing = x;
    is = subst (λ l. slice_get l (length xs) ≡ Some x) (sym e) (got_last xs x);
    target_is = h.target_is;
    actions_are = h.actions_are;
    at = h.at;
  }

  pub fired_popped : (xs all : List Firing) (x : Firing) → all ≡ xs ++ x ∷ [] → (d : ℕ) (actions : List (List Stmt))
      (w : World) → IsFired s all d actions w → IsFired s xs d actions w ⊎ IsOf x d actions w
  fired_popped xs all x e d actions w h =
      at (got_pushed xs x h.place h.firing (subst (λ l. slice_get l h.place ≡ Some h.firing) e h.is))
    where
      at : (slice_get xs h.place ≡ Some h.firing) ⊎ (x ≡ h.firing) → IsFired s xs d actions w ⊎ IsOf x d actions w
      at (inl g) = inl (record {
        place = h.place;
        firing = h.firing;
        is = g;
        target_is = h.target_is;
        actions_are = h.actions_are;
        at = h.at;
      })
      at (inr g) = inr (subst (λ (y : Firing). IsOf y d actions w) (sym g) (record {
        target_is = h.target_is;
        actions_are = h.actions_are;
        at = h.at;
      }))

  -- so far: each firing of all is in one that is left, or it is found with an action before its own
  pub record Extending (action : List Stmt) (all left found : List Firing) : Type 0 where
    pub goes : (d : ℕ) (actions : List (List Stmt)) (w : World) → IsFired s all d actions w
        → IsFired s left d actions w ⊎ IsFired s found d (action ∷ actions) w

  pub extending_first : (action : List Stmt) (all left found : List Firing) → left ≡ all
      → Extending action all left found
  extending_first action all left found e = record {
    goes = λ d actions w h. inl (subst (λ l. IsFired s l d actions w) (sym e) h);
  }

  pub extending_step : (action : List Stmt) (all left next found more : List Firing) (x y : Firing)
      → left ≡ next ++ x ∷ [] → more ≡ found ++ y ∷ [] → y.target ≡ x.target → y.worlds.items ≡ x.worlds.items
      → map (λ a. block_seen a.now) y.actions.items ≡ action ∷ map (λ a. block_seen a.now) x.actions.items
      → Extending action all left found → Extending action all next more
  extending_step action all left next found more x y e f t v a h = record {
    goes = λ d actions w g. after d actions w (h.goes d actions w g);
  }
    where
      last : (d : ℕ) (actions : List (List Stmt)) (w : World) → IsOf x d actions w → IsOf y d (action ∷ actions) w
      last d actions w g = record {
        target_is = t ∙ g.target_is;
        actions_are = a ∙ ap (λ l. action ∷ l) g.actions_are;
        at = subst (λ l. Among s l w) (sym v) g.at;
      }

      one : (d : ℕ) (actions : List (List Stmt)) (w : World) → IsFired s next d actions w ⊎ IsOf x d actions w
          → IsFired s next d actions w ⊎ IsFired s more d (action ∷ actions) w
      one d actions w (inl g) = inl g
      one d actions w (inr g) = inr (fired_last found more y f d (action ∷ actions) w (last d actions w g))

      after : (d : ℕ) (actions : List (List Stmt)) (w : World)
          → IsFired s left d actions w ⊎ IsFired s found d (action ∷ actions) w
          → IsFired s next d actions w ⊎ IsFired s more d (action ∷ actions) w
      after d actions w (inl g) = one d actions w (fired_popped next left x e d actions w g)
      after d actions w (inr g) = inr (fired_front found more y f d (action ∷ actions) w g)

  pub extending_last : (action : List Stmt) (all left found : List Firing) → left ≡ [] → Extending action all left found
      → Extends s action all found
  extending_last action all left found e h = record {
    extends = λ d actions w g. after d actions w (h.goes d actions w g);
  }
    where
      after : (d : ℕ) (actions : List (List Stmt)) (w : World)
          → IsFired s left d actions w ⊎ IsFired s found d (action ∷ actions) w
          → IsFired s found d (action ∷ actions) w
      after d actions w (inl g) = absurd (no_firing d actions w (subst (λ l. IsFired s l d actions w) e g))
      after d actions w (inr g) = g

  -- so far: each firing of the second list is in one that is left, or in all, as those of the first one are
  pub record Gathering (xs ys left all : List Firing) : Type 0 where
    pub first : (d : ℕ) (actions : List (List Stmt)) (w : World) → IsFired s xs d actions w → IsFired s all d actions w
    pub second : (d : ℕ) (actions : List (List Stmt)) (w : World) → IsFired s ys d actions w
        → IsFired s left d actions w ⊎ IsFired s all d actions w

  pub gathering_first : (xs ys left all : List Firing) → left ≡ ys → all ≡ xs → Gathering xs ys left all
  gathering_first xs ys left all e f = record {
    first = λ d actions w h. subst (λ l. IsFired s l d actions w) (sym f) h;
    second = λ d actions w h. inl (subst (λ l. IsFired s l d actions w) (sym e) h);
  }

  pub gathering_step : (xs ys left next all more : List Firing) (x : Firing) → left ≡ next ++ x ∷ []
      → more ≡ all ++ x ∷ [] → Gathering xs ys left all → Gathering xs ys next more
  gathering_step xs ys left next all more x e f h = record {
    first = λ d actions w g. fired_front all more x f d actions w (h.first d actions w g);
    second = λ d actions w g. after d actions w (h.second d actions w g);
  }
    where
      one : (d : ℕ) (actions : List (List Stmt)) (w : World) → IsFired s next d actions w ⊎ IsOf x d actions w
          → IsFired s next d actions w ⊎ IsFired s more d actions w
      one d actions w (inl g) = inl g
      one d actions w (inr g) = inr (fired_last all more x f d actions w g)

      after : (d : ℕ) (actions : List (List Stmt)) (w : World)
          → IsFired s left d actions w ⊎ IsFired s all d actions w
          → IsFired s next d actions w ⊎ IsFired s more d actions w
      after d actions w (inl g) = one d actions w (fired_popped next left x e d actions w g)
      after d actions w (inr g) = inr (fired_front all more x f d actions w g)

  pub gathering_last : (xs ys left all : List Firing) → left ≡ [] → Gathering xs ys left all → Gathers s xs ys all
  gathering_last xs ys left all e h = record {
    left = h.first;
    right = λ d actions w g. after d actions w (h.second d actions w g);
  }
    where
      after : (d : ℕ) (actions : List (List Stmt)) (w : World)
          → IsFired s left d actions w ⊎ IsFired s all d actions w → IsFired s all d actions w
      after d actions w (inl g) = absurd (no_firing d actions w (subst (λ l. IsFired s l d actions w) e g))
      after d actions w (inr g) = g

  -- ---- searches that are put together

  pub first_included : (a b r : Searched) → Gathers s a.fires.items b.fires.items r.fires.items
      → Unites s a.dead.items b.dead.items r.dead.items → Unites s a.no.items b.no.items r.no.items
      → Unites s a.stop.items b.stop.items r.stop.items → Includes s a r
  first_included a b r f d n t = record { finds = at }
    where
      at : (g : Found) (w : World) → found_ends s a g w → found_ends s r g w
      at (Fire e actions) w h = f.left e actions w h
      at DeadEnd w h = d.left w h
      at No w h = n.left w h
      at Stop w h = t.left w h

  pub second_included : (a b r : Searched) → Gathers s a.fires.items b.fires.items r.fires.items
      → Unites s a.dead.items b.dead.items r.dead.items → Unites s a.no.items b.no.items r.no.items
      → Unites s a.stop.items b.stop.items r.stop.items → Includes s b r
  second_included a b r f d n t = record { finds = at }
    where
      at : (g : Found) (w : World) → found_ends s b g w → found_ends s r g w
      at (Fire e actions) w h = f.right e actions w h
      at DeadEnd w h = d.right w h
      at No w h = n.right w h
      at Stop w h = t.right w h

  pub led_found : (action : List Stmt) (found r : Searched) → Extends s action found.fires.items r.fires.items
      → r.dead.items ≡ found.dead.items → r.no.items ≡ found.no.items → r.stop.items ≡ found.stop.items
      → Leaves s action found r
  led_found action found r e d n t = record { leaves = at }
    where
      at : (f : Found) (w : World) → found_ends s found f w → found_ends s r (put_first action f) w
      at (Fire target actions) w h = e.extends target actions w h
      at DeadEnd w h = subst (λ l. Among s l w) (sym d) h
      at No w h = subst (λ l. Among s l w) (sym n) h
      at Stop w h = subst (λ l. Among s l w) (sym t) h

  pub passes_on : (there : Searched) (off cut : List Around) (r : Onward) → Unites s off there.no.items r.left.items
      → Unites s there.stop.items cut r.found.stop.items → r.found.fires.items ≡ there.fires.items
      → r.found.dead.items ≡ there.dead.items → Passes s there off cut r
  passes_on there off cut r l t f d = record {
    disabled = l.left;
    returned = t.right;
    nothing = l.right;
    fires = λ e actions w h. subst (λ xs. IsFired s xs e actions w) (sym f) h;
    dead = λ w h. subst (λ xs. Among s xs w) (sym d) h;
    stop = t.left;
  }
