-- Counters that are written out count as the rules with counters say.
use Rattle.std.proofs.Common.{◌≡◌, ℕ, zero, suc, List, [], ◌∷◌, ◌++◌, map, Option, Some, None, Bool, true, false}
use Rattle.std.proofs.Common.{Ok, ◌&&◌, refl, sym, ap, subst, arith}
use Rattle.std.specs.Prelude.{if◌then◌else◌}
use Rattle.std.specs.List.{find}
use Rattle.std.specs.Option.{option_map_or}
use Rattle.flow_base.specs.declared.bounds.Bounds.{Bounds}
use Rattle.active_config.specs.Marks.{is_on, is_bare, can_mark, is_last}
use Rattle.active_config.specs.Tree.{comp_of, parent_of, children_of, is_or}
use Rattle.active_config.specs.declared.comp.Comp.{Comp}
use Rattle.active_config.specs.declared.comp.Comp.TheVariants.{Leaf, Or, And}
use Rattle.actions.specs.Changes.{truth_of, set_mark}
use Rattle.actions.specs.Values.{value_of}
use Rattle.actions.specs.Exprs.{Flag, Stmt}
use Rattle.actions.specs.World.{World, Life, On, Bare}
use Rattle.actions.specs.Work.{Run, Ended, Faulted, Unfinished, Work, then_do, give, choose, if_some, if_done, End, Done}
use Rattle.actions.specs.Work.{Cut, Now, is_event, flag_or_fault, nothing, ◌>>=◌, ◌>>◌}
use Rattle.checked_chart.specs.Chart.{Chart, Node, Trans, node, junction, has_history, is_remembered, may_return}
use Rattle.sos_rules.specs.Moves.{keep_if, entered_in, exit_children, exit_rule, enter_inside, enter_rule, remembered, after_default}
use Rattle.sos_rules.specs.Moves.{default_search, defaults_rule}
use Rattle.sos_rules.specs.Parts.{Found, Fire, DeadEnd, No, Stop, Stay, Parts, no_parts}
use Rattle.sos_rules.specs.Processing.{after_inner, go_on_inside, after_outer, process_rule}
use Rattle.sos_rules.specs.Searches.{assign, pay, block_rule, search_rule, after_condition, visit}
use Rattle.sos_rules.specs.Rules.{upto}
use Rattle.sos_rules.proofs.Extends.{Extends, later, same, Below, then_extends, choose_extends, if_done_extends}
use Rattle.sos_rules.proofs.Extends.{if_some_extends, rules_below}
use Rattle.counting_rules.specs.Counters.{Counted, Counters, whole, one_more, reset, count_up, count, of_root}
use Rattle.counting_rules.specs.Rules.{counting_enter, counting_inside, counting_outer, counting_process, counting_upto}
use Rattle.counting_rules.specs.Written.{reset_stmt, count_stmt, count_trans, never, with_nodes}
use Rattle.counting_rules.proofs.Written.{WritesOut}
use Rattle.counting_rules.proofs.Together.{onward, as_left, joined, none_below}
use Rattle.counting_rules.proofs.Grows.{inside_extends, inner_extends, counting_grows}

-- a false flag as a guard
false_guard : (w : World) → truth_of (Flag false) w ≡ Ok false
unfolding truth_of value_of
false_guard w = refl

-- after a change that is followed by more work on one side
after_done : {A : Type 0} (r : Run (Unit {0})) (f : End → Work A) (g : Work (Unit {0})) (m : Work A)
    → ((w : World) → Extends (f Done w) (then_do (g w) (λ _. m)))
    → Extends (then_do (then_do r (λ _. give Done)) f) (then_do (then_do r (λ _. g)) (λ _. m))
after_done (Ended a w) f g m h = h w
after_done (Faulted x w) f g m h = same
after_done Unfinished f g m h = same

after_paid : {A : Type 0} (r : Run (Unit {0})) (f : Work A) (g : Work (Unit {0})) (m : Work A)
    → ((w : World) → Extends (f w) (then_do (g w) (λ _. m)))
    → Extends (then_do r (λ _. f)) (then_do (then_do r (λ _. g)) (λ _. m))
after_paid (Ended a w) f g m h = h w
after_paid (Faulted x w) f g m h = same
after_paid Unfinished f g m h = same

-- ---- what the charts have in common

module _ (c : Chart) (k : Counters) (way : ℕ) (ns : List Node) (h : WritesOut c k way ns) where
  entry_is : (s : ℕ) → (node (with_nodes c ns) s).entry ≡ map reset_stmt (k.resets s) ++ (node c s).entry
  entry_is s = ap (λ (n : Node). n.entry) (h.written s)

  during_is : (s : ℕ) → (node (with_nodes c ns) s).during ≡ (node c s).during
  during_is s = ap (λ (n : Node). n.during) (h.written s)

  exit_is : (s : ℕ) → (node (with_nodes c ns) s).exit ≡ (node c s).exit
  exit_is s = ap (λ (n : Node). n.exit) (h.written s)

  outer_is : (s : ℕ) → (node (with_nodes c ns) s).outer ≡ (node c s).outer
  outer_is s = ap (λ (n : Node). n.outer) (h.written s)

  inner_is : (s : ℕ) → (node (with_nodes c ns) s).inner
      ≡ of_root s (map (count_trans way) k.counted) [] ++ (node c s).inner
  inner_is s = ap (λ (n : Node). n.inner) (h.written s)

  default_is : (s : ℕ) → (node (with_nodes c ns) s).default ≡ (node c s).default
  default_is s = ap (λ (n : Node). n.default) (h.written s)

  history_is : (s : ℕ) → has_history (with_nodes c ns) s ≡ has_history c s
  unfolding has_history
  history_is s = ap (λ (n : Node). is_or (comp_of c.tree s) && n.history) (h.written s)

  keeping_is : (s : ℕ) → is_remembered (with_nodes c ns) s ≡ is_remembered c s
  unfolding is_remembered
  keeping_is s = at (parent_of c.tree s)
    where
      at : (o : Option ℕ) → option_map_or (has_history (with_nodes c ns)) o false ≡ option_map_or (has_history c) o false
      at None = refl
      at (Some p) = history_is p

  returns_is : (s : ℕ) → may_return (with_nodes c ns) s ≡ may_return c s
  unfolding may_return
  returns_is s = ap (λ x. if x then children_of c.tree s else []) (history_is s)

  entered_is : (s : ℕ) (w : World) → entered_in (with_nodes c ns) s w ≡ entered_in c s w
  unfolding entered_in
  entered_is s w = ap (λ x. keep_if x c.tree s (set_mark s true w)) (keeping_is s)

  way_is : junction (with_nodes c ns) way ≡ never h.elsewhere ∷ []
  unfolding junction
  way_is = h.never_taken

  -- ---- the rules that counters have no part in

  module _ (b : Bounds) (p q : Parts) (u : Below p q) where
    -- blocks and searches of the same text
    block_at : (life : Life) (x y : List Stmt) (now : Now) (w : World) → x ≡ y
        → Extends (p.block life x now w) (q.block life y now w)
    block_at life x y now w e = subst (λ z. Extends (p.block life x now w) (q.block life z now w)) e (u.block life x now w)

    search_at : (life : Life) (x y : List Trans) (now : Now) (w : World) → x ≡ y
        → Extends (p.search life x now w) (q.search life y now w)
    search_at life x y now w e = subst (λ z. Extends (p.search life x now w) (q.search life z now w)) e (u.search life x now w)

    plain_block : (life : Life) (stmts : List Stmt) (now : Now) (w : World)
        → Extends (block_rule (with_nodes c ns) b p life stmts now w) (block_rule c b q life stmts now w)
    plain_block life stmts now w = (rules_below c b p q u).block life stmts now w

    plain_search : (life : Life) (ts : List Trans) (now : Now) (w : World)
        → Extends (search_rule (with_nodes c ns) b p life ts now w) (search_rule c b q life ts now w)
    unfolding junction
    plain_search life ts now w = (rules_below c b p q u).search life ts now w

    children_left : (s : ℕ) (now : Now) (o : Comp) (w : World)
        → Extends (exit_children (with_nodes c ns) p s now o w) (exit_children c q s now o w)
    children_left s now Leaf w = same
    children_left s now Or w = search (then_extends, if_some_extends, same, u.exit)
    children_left s now And w = search u.exit_each

    exit_extends : (s : ℕ) (now : Now) (w : World)
        → Extends (exit_rule (with_nodes c ns) p s now w) (exit_rule c q s now w)
    exit_extends s now w =
        choose_extends (is_on s w.marks) _ _ _ _ w
        (then_extends (children_left s now (comp_of c.tree s) w) (λ _ v.
        choose_extends (is_bare c.tree s v.marks) _ _ _ _ v
        (then_extends (block_at (Bare s) _ _ now v (exit_is s)) (λ e x. same)) same)) same

    default_extends : (s : ℕ) (now : Now) (f : Found) (w : World)
        → Extends (after_default (with_nodes c ns) p s now f w) (after_default c q s now f w)
    default_extends s now (Fire d actions) w =
        search (then_extends, if_done_extends, if_some_extends, same, u.play, u.enter) depth 9
    default_extends s now DeadEnd w = same
    default_extends s now No w = same
    default_extends s now Stop w = same

    defaults_extends : (s : ℕ) (now : Now) (w : World)
        → Extends (defaults_rule (with_nodes c ns) p s now w) (defaults_rule c q s now w)
    defaults_extends s now w =
        subst (λ o. Extends (if_some o (default_search (with_nodes c ns) p s now) (λ x. p.enter x x now) w)
        (defaults_rule c q s now w))
        (sym (ap (λ (l : List ℕ). find (λ x. is_last c.tree x w.marks) l) (returns_is s)))
        (if_some_extends (remembered c s w) _ _ _ _ w
        (then_extends (search_at (Bare s) _ _ now w (default_is s)) (default_extends s now))
        (λ x. u.enter x x now w))

  -- ---- what is written out, at a height

  module _ (b : Bounds) where
    -- at a height: the rules extend those of the chart with counters, and so do an entry action with its resets, a
    -- condition action that counts, and a list with the transitions that count
    record At (n : ℕ) : Type 0 where
      below : Below (upto (with_nodes c ns) b n) (counting_upto c k b n)
      entries : (life : Life) (vs : List ℕ) (stmts : List Stmt) (now : Now) (w : World)
          → Extends ((upto (with_nodes c ns) b n).block life (map reset_stmt vs ++ stmts) now w)
          (then_do (reset vs w) (λ _. (counting_upto c k b n).block life stmts now))
      counts : (life : Life) (vs : List ℕ) (now : Now) (w : World)
          → Extends ((upto (with_nodes c ns) b n).block life (map count_stmt vs) now w)
          (then_do (count_up vs w) (λ _. give Done))
      searches : (life : Life) (ks : List Counted) (ts : List Trans) (now : Now) (w : World)
          → Extends ((upto (with_nodes c ns) b n).search life (map (count_trans way) ks ++ ts) now w)
          (then_do (count b ks now w) (λ _. (counting_upto c k b n).search life ts now))

    -- the junction behind a transition that counts finds nothing
    nothing_found : (p : Parts) (life : Life) (now : Now) (w : World) → Extends (p.search life [] now w) (Ended No w)
        → Extends (search_rule (with_nodes c ns) b p life (never h.elsewhere ∷ []) now w) (Ended No w)
    nothing_found p life now w e =
        subst (λ r. Extends (then_do (flag_or_fault r w) (λ enabled.
        choose enabled (p.block life [] now >>= after_condition (with_nodes c ns) b p life (never h.elsewhere) [] now)
        (p.search life [] now))) (Ended No w)) (sym (false_guard w)) e

    never_found : (n : ℕ) (life : Life) (now : Now) (w : World)
        → Extends ((upto (with_nodes c ns) b n).search life (never h.elsewhere ∷ []) now w) (Ended No w)
    never_found zero life now w = later
    never_found (suc zero) life now w = nothing_found no_parts life now w later
    never_found (suc (suc n)) life now w = nothing_found (upto (with_nodes c ns) b (suc n)) life now w same

    module _ (n : ℕ) (a : At n) where
      -- ---- one height more

      entry_block : (s : ℕ) (now : Now) (w : World)
          → Extends ((upto (with_nodes c ns) b n).block (Bare s) (node (with_nodes c ns) s).entry now w)
          (then_do (reset (k.resets s) w) (λ _. (counting_upto c k b n).block (Bare s) (node c s).entry now))
      entry_block s now w =
          subst (λ x. Extends ((upto (with_nodes c ns) b n).block (Bare s) x now w)
          (then_do (reset (k.resets s) w) (λ _. (counting_upto c k b n).block (Bare s) (node c s).entry now)))
          (sym (entry_is s)) (a.entries (Bare s) (k.resets s) (node c s).entry now w)

      entered : (s d : ℕ) (now : Now) (w : World)
          → Extends (then_do ((upto (with_nodes c ns) b n).block (Bare s) (node (with_nodes c ns) s).entry now w)
          (λ end. if_done end tt (enter_inside (with_nodes c ns) (upto (with_nodes c ns) b n) s d now (comp_of c.tree s))))
          (then_do (reset (k.resets s) w) (λ _ v.
          then_do ((counting_upto c k b n).block (Bare s) (node c s).entry now v)
          (λ end. if_done end tt (enter_inside c (counting_upto c k b n) s d now (comp_of c.tree s)))))
      entered s d now w =
          onward
          (then_extends (entry_block s now w) (λ e v.
          if_done_extends e tt _ _ v
          (inside_extends c ns (upto (with_nodes c ns) b n) (counting_upto c k b n) a.below s d now (comp_of c.tree s) v)))
          (as_left (joined (reset (k.resets s) w) (λ _. (counting_upto c k b n).block (Bare s) (node c s).entry now)
          (λ end. if_done end tt (enter_inside c (counting_upto c k b n) s d now (comp_of c.tree s)))) same)

      enter_extends : (s d : ℕ) (now : Now) (w : World)
          → Extends (enter_rule (with_nodes c ns) (upto (with_nodes c ns) b n) s d now w)
          (counting_enter c k b (counting_upto c k b n) s d now w)
      enter_extends s d now w =
          choose_extends (can_mark c.tree s w.marks) _ _ _ _ w
          (subst (λ x. Extends (then_do ((upto (with_nodes c ns) b n).block (Bare s) (node (with_nodes c ns) s).entry now x)
          (λ end. if_done end tt (enter_inside (with_nodes c ns) (upto (with_nodes c ns) b n) s d now (comp_of c.tree s))))
          (then_do (reset (k.resets s) (entered_in c s w)) (λ _ v.
          then_do ((counting_upto c k b n).block (Bare s) (node c s).entry now v)
          (λ end. if_done end tt (enter_inside c (counting_upto c k b n) s d now (comp_of c.tree s))))))
          (sym (entered_is s w)) (entered s d now (entered_in c s w))) same

      inner_list : (s : ℕ) (now : Now) (w : World)
          → Extends ((upto (with_nodes c ns) b n).search (On s)
          (of_root s (map (count_trans way) k.counted) [] ++ (node c s).inner) now w)
          (then_do (of_root s (count b k.counted now) nothing w)
          (λ _. (counting_upto c k b n).search (On s) (node c s).inner now))
      inner_list zero now w = a.searches (On 0) k.counted (node c 0).inner now w
      inner_list (suc s) now w = a.below.search (On (suc s)) (node c (suc s)).inner now w

      inner_found : (s : ℕ) (now : Now) (w : World)
          → Extends ((upto (with_nodes c ns) b n).search (On s) (node (with_nodes c ns) s).inner now w)
          (then_do (of_root s (count b k.counted now) nothing w)
          (λ _. (counting_upto c k b n).search (On s) (node c s).inner now))
      inner_found s now w =
          subst (λ x. Extends ((upto (with_nodes c ns) b n).search (On s) x now w)
          (then_do (of_root s (count b k.counted now) nothing w)
          (λ _. (counting_upto c k b n).search (On s) (node c s).inner now)))
          (sym (inner_is s)) (inner_list s now w)

      inside : (s : ℕ) (now : Now) (w : World)
          → Extends (go_on_inside (with_nodes c ns) (upto (with_nodes c ns) b n) s now w)
          (counting_inside c k b (counting_upto c k b n) s now w)
      inside s now w =
          then_extends (block_at b _ _ a.below (On s) _ _ now w (during_is s)) (λ e v.
          if_done_extends e Stay _ _ v
          (onward
          (then_extends (inner_found s now v)
          (inner_extends c ns (upto (with_nodes c ns) b n) (counting_upto c k b n) a.below s now))
          (as_left (joined (of_root s (count b k.counted now) nothing v)
          (λ _. (counting_upto c k b n).search (On s) (node c s).inner now)
          (after_inner c (counting_upto c k b n) s now)) same)))

      outer : (s : ℕ) (now : Now) (f : Found) (w : World)
          → Extends (after_outer (with_nodes c ns) (upto (with_nodes c ns) b n) s now f w)
          (counting_outer c k b (counting_upto c k b n) s now f w)
      outer s now (Fire d actions) w = then_extends (a.below.take _ d actions now w) (λ _ _. same)
      outer s now DeadEnd w = inside s now w
      outer s now No w = inside s now w
      outer s now Stop w = same

      process_extends : (s : ℕ) (now : Now) (w : World)
          → Extends (process_rule (with_nodes c ns) (upto (with_nodes c ns) b n) s now w)
          (counting_process c k b (counting_upto c k b n) s now w)
      process_extends s now w =
          then_extends (search_at b _ _ a.below (On s) _ _ now w (outer_is s)) (outer s now)

      below_next : Below (upto (with_nodes c ns) b (suc n)) (counting_upto c k b (suc n))
      below_next =
          let r = rules_below c b (upto (with_nodes c ns) b n) (counting_upto c k b n) a.below in
          record {
            block = plain_block b _ _ a.below;
            send = r.send;
            search = plain_search b _ _ a.below;
            exit = exit_extends b _ _ a.below;
            exit_each = r.exit_each;
            enter = enter_extends;
            enter_each = r.enter_each;
            defaults = defaults_extends b _ _ a.below;
            play = r.play;
            take = r.take;
            process = process_extends;
            process_each = r.process_each;
          }

      -- the parts of the chart with counters at a greater height
      next : Below (counting_upto c k b n) (counting_upto c k b (suc n))
      next = counting_grows c k b n (suc n) (omega arith)

      entries_next : (life : Life) (vs : List ℕ) (stmts : List Stmt) (now : Now) (w : World)
          → Extends ((upto (with_nodes c ns) b (suc n)).block life (map reset_stmt vs ++ stmts) now w)
          (then_do (reset vs w) (λ _. (counting_upto c k b (suc n)).block life stmts now))
      entries_next life [] stmts now w = below_next.block life stmts now w
      entries_next life (v ∷ vs) stmts now w =
          after_done (assign v (whole 0) w)
          (λ end. if_done end Cut ((upto (with_nodes c ns) b n).block life (map reset_stmt vs ++ stmts) now)) (reset vs)
          ((counting_upto c k b (suc n)).block life stmts now) (λ x.
          onward (a.entries life vs stmts now x) (then_extends same (λ _ y. next.block life stmts now y)))

      counts_next : (life : Life) (vs : List ℕ) (now : Now) (w : World)
          → Extends ((upto (with_nodes c ns) b (suc n)).block life (map count_stmt vs) now w)
          (then_do (count_up vs w) (λ _. give Done))
      counts_next life [] now w = same
      counts_next life (v ∷ vs) now w =
          after_done (assign v (one_more v) w)
          (λ end. if_done end Cut ((upto (with_nodes c ns) b n).block life (map count_stmt vs) now)) (count_up vs)
          (give Done) (a.counts life vs now)

      -- after the visit of the junction the rest of the list is searched
      visited : (life : Life) (ks : List Counted) (ts : List Trans) (now : Now) (w : World)
          → Extends (visit (with_nodes c ns) b (upto (with_nodes c ns) b n) life [] (map (count_trans way) ks ++ ts) now
          (junction (with_nodes c ns) way) w)
          (then_do (count b ks now w) (λ _. (counting_upto c k b (suc n)).search life ts now))
      visited life ks ts now w =
          subst (λ l. Extends (visit (with_nodes c ns) b (upto (with_nodes c ns) b n) life [] (map (count_trans way) ks ++ ts)
          now l w) (then_do (count b ks now w) (λ _. (counting_upto c k b (suc n)).search life ts now)))
          (sym way_is)
          (onward (then_extends (never_found n life now w) (λ f v. same))
          (onward (a.searches life ks ts now w) (then_extends same (λ _ y. next.search life ts now y))))

      counted_next : (e : Bool) (life : Life) (x : Counted) (ks : List Counted) (ts : List Trans) (now : Now) (w : World)
          → Extends (then_do (choose e (give true) (give false) w) (λ enabled.
          choose enabled ((upto (with_nodes c ns) b n).block life (map count_stmt x.counters) now
          >>= after_condition (with_nodes c ns) b (upto (with_nodes c ns) b n) life (count_trans way x)
          (map (count_trans way) ks ++ ts) now)
          ((upto (with_nodes c ns) b n).search life (map (count_trans way) ks ++ ts) now)))
          (then_do (choose e (count_up x.counters >> (pay b >> count b ks now)) (count b ks now) w)
          (λ _. (counting_upto c k b (suc n)).search life ts now))
      counted_next false life x ks ts now w =
          onward (a.searches life ks ts now w) (then_extends same (λ _ y. next.search life ts now y))
      counted_next true life x ks ts now w =
          onward (then_extends (a.counts life x.counters now w) (λ e v. same))
          (after_done (count_up x.counters w)
          (after_condition (with_nodes c ns) b (upto (with_nodes c ns) b n) life (count_trans way x)
          (map (count_trans way) ks ++ ts) now) (pay b >> count b ks now)
          ((counting_upto c k b (suc n)).search life ts now) (λ v.
          after_paid (pay b v) (visit (with_nodes c ns) b (upto (with_nodes c ns) b n) life []
          (map (count_trans way) ks ++ ts) now (junction (with_nodes c ns) way)) (count b ks now)
          ((counting_upto c k b (suc n)).search life ts now) (visited life ks ts now)))

      searches_next : (life : Life) (ks : List Counted) (ts : List Trans) (now : Now) (w : World)
          → Extends ((upto (with_nodes c ns) b (suc n)).search life (map (count_trans way) ks ++ ts) now w)
          (then_do (count b ks now w) (λ _. (counting_upto c k b (suc n)).search life ts now))
      searches_next life [] ts now w = below_next.search life ts now w
      searches_next life (x ∷ ks) ts now w = counted_next (is_event x.event now.event) life x ks ts now w

    -- at each height
    at : (n : ℕ) → At n
    at zero = record {
      below = none_below (counting_upto c k b 0);
      entries = λ _ _ _ _ _. later;
      counts = λ _ _ _ _. later;
      searches = λ _ _ _ _ _. later;
    }
    at (suc n) = record {
      below = below_next n (at n);
      entries = entries_next n (at n);
      counts = counts_next n (at n);
      searches = searches_next n (at n);
    }

    -- what is over by the rules, in the chart with its counters written out, ends so by the rules with counters
    pub written_below : (n : ℕ) → Below (upto (with_nodes c ns) b n) (counting_upto c k b n)
    written_below n = (at n).below
