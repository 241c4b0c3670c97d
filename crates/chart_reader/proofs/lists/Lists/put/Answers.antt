use Rattle.std.proofs.Common.{List, map}
use Rattle.chart_tree.specs.declared.chart.EventText.{EventText}
use Rattle.chart_tree.specs.declared.chart.VarText.{VarText}
use Rattle.chart_tree.specs.declared.state.JunctionText.{JunctionText}
use Rattle.chart_tree.specs.declared.state.StateText.{StateText}
use Rattle.chart_tree.specs.declared.state.TransText.{TransText}
use Rattle.chart_tree.specs.Views.{trans_of, junction_of, var_of}
use Rattle.chart_reader.specs.Items.{sorted_of, children_of}
use Rattle.chart_reader.proofs.SortLemmas.{added}
use Rattle.chart_reader.proofs.lists.Lists.put.Goals as goal

-- an item is added in front of its list
pub returns-in-Outer : goal.returns-in-Outer
returns-in-Outer c =
    let s = sorted_of c.args.self.now in
    rw c.in-Outer.is
    (added (λ (ts : List TransText). record s { parts = record s.parts { outer = map trans_of ts } })
    c.add.result c.in-Outer.trans c.args.self.now.outer.items c.add.new.list.items
    c.add.ensures)

pub returns-in-Inner : goal.returns-in-Inner
returns-in-Inner c =
    let s = sorted_of c.args.self.now in
    rw c.in-Inner.is
    (added (λ (ts : List TransText). record s { parts = record s.parts { inner = map trans_of ts } })
    c.add-in-Inner.result c.in-Inner.trans c.args.self.now.inner.items c.add-in-Inner.new.list.items
    c.add-in-Inner.ensures)

pub returns-in-Default : goal.returns-in-Default
returns-in-Default c =
    let s = sorted_of c.args.self.now in
    rw c.in-Default.is
    (added (λ (ts : List TransText). record s { parts = record s.parts { default = map trans_of ts } })
    c.add-in-Default.result c.in-Default.trans c.args.self.now.default.items c.add-in-Default.new.list.items
    c.add-in-Default.ensures)

pub returns-in-Junction : goal.returns-in-Junction
returns-in-Junction c =
    let s = sorted_of c.args.self.now in
    rw c.in-Junction.is
    (added (λ (ts : List JunctionText). record s { parts = record s.parts { junctions = map junction_of ts } })
    c.add-in-Junction.result c.in-Junction.junction c.args.self.now.junctions.items c.add-in-Junction.new.list.items
    c.add-in-Junction.ensures)

pub returns-in-State : goal.returns-in-State
returns-in-State c =
    let s = sorted_of c.args.self.now in
    rw c.in-State.is
    (added (λ (ts : List StateText). record s { states = children_of ts })
    c.add-in-State.result c.in-State.state c.args.self.now.states.items c.add-in-State.new.list.items
    c.add-in-State.ensures)

pub returns-in-Event : goal.returns-in-Event
returns-in-Event c =
    let s = sorted_of c.args.self.now in
    rw c.in-Event.is
    (added (λ (ts : List EventText). record s { events = ts })
    c.add-in-Event.result c.in-Event.event c.args.self.now.events.items c.add-in-Event.new.list.items
    c.add-in-Event.ensures)

pub returns-in-Var : goal.returns-in-Var
returns-in-Var c =
    let s = sorted_of c.args.self.now in
    rw c.in-Var.is
    (added (λ (ts : List VarText). record s { vars = map var_of ts })
    c.add-in-Var.result c.in-Var.var c.args.self.now.vars.items c.add-in-Var.new.list.items
    c.add-in-Var.ensures)
