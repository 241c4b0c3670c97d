-- The C program: its memory, and its statements as trees. What the text of each is stands in its comment.
use Rattle.std.specs.Prelude.{ℕ, List, Bool}
use Rattle.flow_base.specs.declared.fault.Fault.{Fault}
use Rattle.actions.specs.Data.{Datum}
use Rattle.actions.specs.Exprs.{Expr}
use Rattle.c_functions.specs.States.{States}

-- the struct: the fields of states, the data, `out[]` up to `outs`, `used`, and `note[]` up to `noted`
pub record CMemory : Type 0 where
  pub states : States
  pub vals : List Datum
  pub outputs : List ℕ
  pub used : ℕ
  pub notes : List ℕ

-- what a function changes that isn't in the struct: its parameters `base`, `home` and `r`, and `cursor`
pub record Locals : Type 0 where
  pub base : ℕ
  pub home : ℕ
  pub result : ℕ
  pub cursor : ℕ

-- a test without arithmetic
pub data Check : Type 0 where
  Yes : Check
  No : Check
  -- `m->cP == i`
  Chosen : ℕ → ℕ → Check
  -- `(m->aK & BIT) != 0`
  Flag : ℕ → Check
  -- `m->kP == i`
  Kept : ℕ → ℕ → Check
  -- `e == E`
  IsEvent : ℕ → Check
  -- `r == i`
  IsResult : ℕ → Check
  -- `a && b`
  Both : Check → Check → Check
  -- `!a`
  Not : Check → Check

-- what `if` tests
pub data Test : Type 0 where
  Simple : Check → Test
  -- `on(m, home)` and `bare(m, home)`, two functions that switch over their argument
  HomeOn : Test
  HomeBare : Test
  Arithmetic : Expr → Test

-- statements, each with those after it
pub data Block : Type 0 where
  End : Block
  -- `m->cP = i;`
  Choose : ℕ → ℕ → Block → Block
  -- `m->aK |= BIT;` or `m->aK &= REST;`
  Mark : ℕ → Bool → Block → Block
  -- `m->kP = i;`
  Keep : ℕ → ℕ → Block → Block
  -- `m->v = x;` with the tests of its faults
  Store : ℕ → Expr → Block → Block
  -- `m->out[m->outs] = e; m->outs++;`
  Put : ℕ → Block → Block
  -- `if (m->used >= STEPS) FAULT(steps) m->used++;`
  Pay : Block → Block
  -- `if (depth >= DEPTH) FAULT(depth)`
  Deep : Block → Block
  -- `home = s;`
  SetHome : ℕ → Block → Block
  -- `base = m->noted;`
  SetBase : Block → Block
  -- `m->note[m->noted] = b; m->noted++;`
  Push : ℕ → Block → Block
  -- `m->noted--;`
  Pop : Block → Block
  -- `r = pN(m, e, depth, base, home, r); if (r == BAD) return BAD;`
  Call : ℕ → Block → Block
  -- `r = pN(m, E, depth + 1u, m->noted, 0u, r); if (r == BAD) return BAD;`
  Send : ℕ → ℕ → Block → Block
  -- `if (cursor < base) cursor = base; while ((cursor < m->noted) && bare(m, home)) { PAY cursor++;
  -- r = noted(m, e, depth, m->noted, home, r, m->note[cursor - 1u]); if (r == BAD) return BAD; }`, where `noted` calls
  -- the procedure that its last argument names
  Play : Block → Block
  -- `if (test) { .. } else { .. } ..`
  If : Test → Block → Block → Block → Block
  -- `return i;`
  Return : ℕ → Block
  -- `return r;`
  ReturnResult : Block

-- how a statement ends, and a function (which doesn't fall through)
pub data Out : Type 0 where
  Fell : CMemory → Locals → Out
  Left : CMemory → ℕ → Out
  Failed : CMemory → Fault → Out
  Starved : Out
  Wrong : Out
