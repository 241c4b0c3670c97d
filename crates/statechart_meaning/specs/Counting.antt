-- Which events a state counts.
use Rattle.std.specs.Prelude.{ℕ, Bool, true, false, ◌&&◌, ◌==◌, List, [], ◌∷◌, ◌++◌, Option, Some, None, is_some}
use Rattle.std.specs.Prelude.{bytes_eq, if◌then◌else◌}
use Rattle.std.specs.List.{flat_map, list_any}
use Rattle.flow_base.specs.Names.{index_of}
use Rattle.token_grammar.specs.declared.token.Span.{Span}
use Rattle.chart_tree.specs.declared.name.NameText.{NameText}
use Rattle.statechart_tree.specs.declared.declarations.SourceEvent.{SourceEvent}
use Rattle.statechart_tree.specs.Trees.{Expr, Lit, Flag, Name, Active, Count, Timed, Call, Unary, Binary, Exprs, NoExpr}
use Rattle.statechart_tree.specs.Trees.{MoreExprs, Stmt, Assign, Update, Step, Send, Emit, Raise, Invoke, Trigger, Always}
use Rattle.statechart_tree.specs.Trees.{On, AtTime, Every, Guard, Case, Trans, ActionWord, Entry, During, Exit, OnCases}
use Rattle.statechart_tree.specs.Trees.{Action, Parts}
use Rattle.statechart_meaning.specs.Times.{counted_event}
use Rattle.statechart_meaning.specs.Scope.{Scope}
use Rattle.statechart_meaning.specs.Expressions.{every_number}

-- ---- actions

-- whether it is `entry`
abbrev pub is_entry : ActionWord → Bool
is_entry Entry = true
is_entry During = false
is_entry Exit = false
is_entry (OnCases cases at) = false

-- whether it is `during`
abbrev pub is_during : ActionWord → Bool
is_during Entry = false
is_during During = true
is_during Exit = false
is_during (OnCases cases at) = false

-- whether it is `exit`
abbrev pub is_exit : ActionWord → Bool
is_exit Entry = false
is_exit During = false
is_exit Exit = true
is_exit (OnCases cases at) = false

-- the blocks with such a word before them
abbrev pub blocks_with : (ActionWord → Bool) → List Action → List Stmt
blocks_with is_word actions = flat_map (λ (a : Action). if list_any is_word a.words then a.block else []) actions

-- an action for cases, with the place of its word
pub record OnAction : Type 0 where
  pub at : Span
  pub cases : List Case
  pub block : List Stmt

-- the action for cases of a word, where it is one
abbrev pub on_word : List Stmt → ActionWord → List OnAction
on_word block Entry = []
on_word block During = []
on_word block Exit = []
on_word block (OnCases cases at) = record { at = at; cases = cases; block = block } ∷ []

-- those of actions
abbrev pub ons_in : List Action → List OnAction
ons_in actions = flat_map (λ (a : Action). flat_map (on_word a.block) a.words) actions

-- ---- events

abbrev mutual
  -- the events that an expression counts, in order
  pub counted_in : List SourceEvent → Expr → List NameText
  counted_in es (Lit lit at) = []
  counted_in es (Flag value at) = []
  counted_in es (Name path) = []
  counted_in es (Active path at) = []
  counted_in es (Count event at) = event ∷ []
  counted_in es (Timed word n event at) = counted_event es event ∷ counted_in es n
  counted_in es (Call name arguments) = counted_row es arguments
  counted_in es (Unary word e at) = counted_in es e
  counted_in es (Binary word l r at) = counted_in es l ++ counted_in es r

  -- those of expressions
  pub counted_row : List SourceEvent → Exprs → List NameText
  counted_row es NoExpr = []
  counted_row es (MoreExprs e others) = counted_in es e ++ counted_row es others

-- those of a statement
abbrev pub counted_by : List SourceEvent → Stmt → List NameText
counted_by es (Assign path e) = counted_in es e
counted_by es (Update path word e at) = counted_in es e
counted_by es (Step path word at) = []
counted_by es (Send name to) = []
counted_by es (Emit name) = []
counted_by es (Raise name) = []
counted_by es (Invoke name arguments) = counted_row es arguments

-- those of statements
abbrev pub counted_block : List SourceEvent → List Stmt → List NameText
counted_block es stmts = flat_map (counted_by es) stmts

-- those of the event of a case
abbrev pub counted_trigger : List SourceEvent → Trigger → List NameText
counted_trigger es Always = []
counted_trigger es (On event) = []
counted_trigger es (AtTime word n event at) = counted_event es event ∷ counted_in es n
counted_trigger es (Every n event at) = counted_in es n

-- those of a guard, if there is one
abbrev pub counted_guard : List SourceEvent → Option Guard → List NameText
counted_guard es None = []
counted_guard es (Some g) = counted_in es g.expr

-- those of a case
abbrev pub counted_case : List SourceEvent → Case → List NameText
counted_case es c = counted_trigger es c.trigger ++ counted_guard es c.guard

-- those of a transition
abbrev pub counted_trans : List SourceEvent → Trans → List NameText
counted_trans es t = flat_map (counted_case es) t.cases ++ counted_block es t.cond ++ counted_block es t.act

-- those of an action for cases
abbrev pub counted_on : List SourceEvent → OnAction → List NameText
counted_on es o = flat_map (counted_case es) o.cases ++ counted_block es o.block

-- the names of these texts that aren't among the others, each text once
abbrev pub without : List (List ℕ) → List NameText → List NameText
without others [] = []
without others (x ∷ xs) =
    if is_some (index_of x.text others) then without others xs else (x ∷ without (x.text ∷ others) xs)

-- The events that a state counts: those of its actions and of the transitions that begin at it, each once, in the order
-- of first use. Default transitions and transitions of junctions begin at no state, and count nothing.
abbrev pub counted_events : List SourceEvent → Parts → List NameText
counted_events es p = without [] (
    counted_block es (blocks_with is_entry p.actions) ++ counted_block es (blocks_with is_during p.actions)
    ++ counted_block es (blocks_with is_exit p.actions) ++ flat_map (counted_on es) (ons_in p.actions)
    ++ flat_map (counted_trans es) p.inner ++ flat_map (counted_trans es) p.outer)

-- ---- every

-- an event that is counted up to a number, again and again
pub record Recurring : Type 0 where
  pub event : NameText
  pub number : ℕ

-- that of the event of a case, if there is one
abbrev pub every_trigger : Scope → Trigger → List Recurring
every_trigger s Always = []
every_trigger s (On event) = []
every_trigger s (AtTime word n event at) = []
every_trigger s (Every n event at) = record {
  event = counted_event s.declared.events event;
  number = every_number s n event;
} ∷ []

-- those of cases
abbrev pub every_cases : Scope → List Case → List Recurring
every_cases s cs = flat_map (λ (c : Case). every_trigger s c.trigger) cs

-- whether it is the same
abbrev pub is_same : Recurring → Recurring → Bool
is_same x y = bytes_eq x.event.text y.event.text && x.number == y.number

-- those that aren't among the others, each once
abbrev pub different_every : List Recurring → List Recurring → List Recurring
different_every others [] = []
different_every others (x ∷ xs) =
    if list_any (is_same x) others then different_every others xs else (x ∷ different_every (x ∷ others) xs)

-- what a state counts again and again, each once, in the order of first use
abbrev pub recurring : Scope → Parts → List Recurring
recurring s p = different_every [] (
    flat_map (λ (o : OnAction). every_cases s o.cases) (ons_in p.actions)
    ++ flat_map (λ (t : Trans). every_cases s t.cases) p.inner
    ++ flat_map (λ (t : Trans). every_cases s t.cases) p.outer)
