-- When code is the same.
use Rattle.std.proofs.Common.{◌≡◌, ℕ, List, ap, ◌∙◌}
use Rattle.active_config.specs.Tree.{Tree}
use Rattle.actions.specs.declared.names.EventDecl.{EventDecl}
use Rattle.actions.specs.declared.names.Var.{Var}
use Rattle.actions.specs.Names.{Names}
use Rattle.code_language.specs.Code.{Code, Procedures}
use Rattle.code_language.specs.Instrs.{Instr}

-- names are the same where their lists are
pub same_names : (n m : Names) → n.states ≡ m.states → n.vars ≡ m.vars → n.events ≡ m.events → n ≡ m
same_names n m states vars events =
    ap (λ (x : List (List ℕ)). record { states = x; vars = n.vars; events = n.events }) states
    ∙ ap (λ (x : List Var). record { states = m.states; vars = x; events = n.events }) vars
    ∙ ap (λ (x : List EventDecl). record { states = m.states; vars = m.vars; events = x }) events

-- procedures are the same where their list, the start and the reaction are
pub same_procedures : (p q : Procedures) → p.procs ≡ q.procs → p.start ≡ q.start → p.react ≡ q.react → p ≡ q
same_procedures p q procs start react =
    ap (λ (x : List (List Instr)). record { procs = x; start = p.start; react = p.react }) procs
    ∙ ap (λ (x : ℕ). record { procs = q.procs; start = x; react = p.react }) start
    ∙ ap (λ (x : ℕ). record { procs = q.procs; start = q.start; react = x }) react

-- code is the same where its states, its names and its procedures are
pub same_code : (k l : Code) → k.tree ≡ l.tree → k.names ≡ l.names → k.procedures ≡ l.procedures → k ≡ l
same_code k l tree names procedures =
    ap (λ (x : Tree). record { tree = x; names = k.names; procedures = k.procedures }) tree
    ∙ ap (λ (x : Names). record { tree = l.tree; names = x; procedures = k.procedures }) names
    ∙ ap (λ (x : Procedures). record { tree = l.tree; names = l.names; procedures = x }) procedures
