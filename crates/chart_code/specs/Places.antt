-- The number of each procedure, by arithmetic on how many there are of each kind.
use Rattle.std.specs.Prelude.{ℕ, zero, suc, ◌+◌, ◌-◌, ◌*◌, List, [], ◌∷◌, length, Option, Some, None}
use Rattle.active_config.specs.Tree.{state_count}
use Rattle.actions.specs.Exprs.{Expr, Stmt}
use Rattle.checked_chart.specs.declared.parts.ListKind.{ListKind}
use Rattle.checked_chart.specs.declared.parts.ListKind.TheVariants.{Outer, Inner, Default}
use Rattle.checked_chart.specs.Chart.{Chart, Trans, list_of, junction, junction_count}
use Rattle.chart_code.specs.Numbers.{Numbers, TransNumbers, ListNumbers}
use Rattle.chart_code.specs.Orders.{sum_to, sum_between}
use Rattle.chart_code.specs.Ends.{below_count}
use Rattle.chart_code.specs.ReachedJunctions.{reached, place_of}

-- ---- the parts of transitions

-- one for a guard
abbrev pub guard_count : Option Expr → ℕ
guard_count None = 0
guard_count (Some e) = 1

-- one for an action that isn't empty
abbrev pub block_count : List Stmt → ℕ
block_count [] = 0
block_count (s ∷ ss) = 1

-- how many procedures the parts of a transition have
unfoldable pub trans_size : Trans → ℕ
trans_size t = guard_count t.guard + 2 * block_count t.condition + block_count t.action

-- those of the transitions of a list
unfoldable pub parts_size : List Trans → ℕ
parts_size [] = 0
parts_size (t ∷ ts) = trans_size t + parts_size ts

-- the number, where there is a guard
abbrev pub if_guard : Option Expr → ℕ → Option ℕ
if_guard None p = None
if_guard (Some e) p = Some p

-- the number, where an action isn't empty
abbrev pub if_block : List Stmt → ℕ → Option ℕ
if_block [] p = None
if_block (s ∷ ss) p = Some p

-- the numbers of the parts of a transition, from p on
abbrev pub trans_numbers : ℕ → Trans → TransNumbers
trans_numbers p t = record {
  guard = if_guard t.guard p;
  condition_on = if_block t.condition (p + guard_count t.guard);
  condition_bare = if_block t.condition (p + guard_count t.guard + 1);
  action = if_block t.action (p + guard_count t.guard + 2 * block_count t.condition);
}

-- those of the transitions of a list
unfoldable pub parts_numbers : ℕ → List Trans → List TransNumbers
parts_numbers p [] = []
parts_numbers p (t ∷ ts) = trans_numbers p t ∷ parts_numbers (p + trans_size t) ts

module _ (c : Chart) where
  -- ---- how many procedures there are

  -- how many junctions a list of a state reaches
  unfoldable pub reached_count : ℕ → ListKind → ℕ
  reached_count s kind = length (reached c (list_of c s kind))

  -- the parts of the lists of a state
  unfoldable pub state_parts_size : ℕ → ℕ
  state_parts_size s =
      parts_size (list_of c s Outer) + parts_size (list_of c s Inner) + parts_size (list_of c s Default)

  -- the parts of a junction's list
  unfoldable pub junction_parts_size : ℕ → ℕ
  junction_parts_size j = parts_size (junction c j)

  -- what a firing in a state takes, with its default list
  unfoldable pub group_size : ℕ → ℕ
  group_size s = 3 * below_count c.tree s + 7 + reached_count s Default

  -- the outer and the inner list of a state
  unfoldable pub lists_size : ℕ → ℕ
  lists_size s = 2 + reached_count s Outer + reached_count s Inner

  -- ---- where each region begins

  -- the parts of the transitions of states; before them stand the end mark and three actions of each state
  unfoldable pub state_parts_start : ℕ
  state_parts_start = 1 + state_count c.tree * 3

  -- the parts of the transitions of junctions
  unfoldable pub junction_parts_start : ℕ
  junction_parts_start = state_parts_start + sum_to state_parts_size (state_count c.tree)

  -- what firings take
  unfoldable pub groups_start : ℕ
  groups_start = junction_parts_start + sum_to junction_parts_size (junction_count c)

  -- outer and inner lists
  unfoldable pub lists_start : ℕ
  lists_start = groups_start + sum_to group_size (state_count c.tree)

  -- processing
  unfoldable pub processes_start : ℕ
  processes_start = lists_start + sum_to lists_size (state_count c.tree)

  -- how many procedures there are
  unfoldable pub total : ℕ
  total = processes_start + state_count c.tree

  -- ---- the same, by what they are of

  -- the parts of all transitions
  unfoldable pub parts_total : ℕ
  parts_total =
      sum_to state_parts_size (state_count c.tree) + sum_to junction_parts_size (junction_count c)

  -- pairs of a state and one strictly below it
  unfoldable pub below_total : ℕ
  below_total = sum_to (λ s. below_count c.tree s) (state_count c.tree)

  -- pairs of a list of a state and a junction that is reached from it
  unfoldable pub reached_total : ℕ
  reached_total =
      sum_to (λ s. reached_count s Outer + reached_count s Inner + reached_count s Default) (state_count c.tree)

  -- ---- where each state and each list begins

  -- the parts of a list of a state
  abbrev pub parts_at : ℕ → ListKind → ℕ
  parts_at s Outer = state_parts_start + sum_to state_parts_size s
  parts_at s Inner = state_parts_start + sum_to state_parts_size s + parts_size (list_of c s Outer)
  parts_at s Default =
      state_parts_start + sum_to state_parts_size s + parts_size (list_of c s Outer) + parts_size (list_of c s Inner)

  -- the parts of a junction's list
  unfoldable pub junction_parts_at : ℕ → ℕ
  junction_parts_at j = junction_parts_start + sum_to junction_parts_size j

  -- what a firing in a state takes
  unfoldable pub group_at : ℕ → ℕ
  group_at s = groups_start + sum_between group_size (suc s) (state_count c.tree)

  -- the outer and the inner list of a state
  unfoldable pub lists_at : ℕ → ℕ
  lists_at s = lists_start + sum_between lists_size (suc s) (state_count c.tree)

  -- a list of a state, after which the junctions follow that are reached from it
  abbrev pub list_at : ℕ → ListKind → ℕ
  list_at s Outer = lists_at s
  list_at s Inner = lists_at s + 1 + reached_count s Outer
  list_at s Default = group_at s + 2 + below_count c.tree s

  -- a firing in s with its destination at s or that much after it
  abbrev pub arrive_at : ℕ → ℕ → ℕ
  arrive_at s zero = group_at s + 4 + below_count c.tree s + reached_count s Default
  arrive_at s (suc n) = group_at s + 2 + n

  -- ---- the numbers

  -- the numbers of the procedures of states
  unfoldable pub numbers : Numbers
  numbers = record {
    end_mark = 0;
    entry = λ s. 1 + s * 3;
    during = λ s. 2 + s * 3;
    exit_action = λ s. 3 + s * 3;
    leave = λ s. group_at s;
    exit = λ s. group_at s + 1;
    arrive = λ s d. arrive_at s (d - s);
    take = λ s d. group_at s + 5 + below_count c.tree s + reached_count s Default + (d - s);
    defaults = λ s. group_at s + 3 + below_count c.tree s + reached_count s Default;
    enter = λ s d. group_at s + 6 + 2 * below_count c.tree s + reached_count s Default + (d - s);
    search = λ s kind. list_at s kind;
    process = λ s. processes_start + (state_count c.tree - suc s);
  }

  -- the numbers of the procedures of lists
  unfoldable pub list_numbers : ListNumbers
  list_numbers = record {
    parts = λ s kind. parts_numbers (parts_at s kind) (list_of c s kind);
    junction_parts = λ j. parts_numbers (junction_parts_at j) (junction c j);
    junction = λ s kind j. list_at s kind + 1 + place_of (reached c (list_of c s kind)) j;
  }
