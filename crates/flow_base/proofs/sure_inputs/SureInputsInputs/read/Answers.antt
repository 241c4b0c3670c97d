use Rattle.std.proofs.Common.{ℕ, Option, Some, Ok, Result, length, refl, rules, sym, ap}
use Rattle.flow_base.specs.declared.inputs.Failed.{Failed}
use Rattle.flow_base.specs.MemoryFiles.{FileState, bytes_left, after_giving}
use Rattle.flow_base.proofs.MemoryFilesLemmas.{IsFirst, first_at, none_at, giving_keeps, first_of-written}
use Rattle.flow_base.proofs.MemoryFilesLemmas.{first_of-other, set-change_first, change_first-none}
use Rattle.flow_base.proofs.sure_inputs.SureInputsInputs.read.Goals as goal

-- the read of the first file of that name
pub returns-in-Some-clause-bytes : goal.returns-in-Some-clause-bytes
returns-in-Some-clause-bytes c =
    let first : IsFirst c.args.name.now c.self.inside.files.items c.in-Some.index c.index_mut-file.result.now =
    first_at _ _ _ _ (search rules) (search rules) in
    let now =
    first_of-written (after_giving (length c.give.new.buf))
    (giving_keeps _) _ _ _ _ c.give.new.self first c.give.ensures.state in
    rw (← c.self.view_is, first.found, now) (ap Some c.give.ensures.bytes, c.give.ensures.end)

pub returns-in-Some-clause-others : goal.returns-in-Some-clause-others
returns-in-Some-clause-others c =
    let first : IsFirst c.args.name.now c.self.inside.files.items c.in-Some.index c.index_mut-file.result.now =
    first_at _ _ _ _ (search rules) (search rules) in
    let changed =
    set-change_first (after_giving (length c.give.new.buf)) _ _ _ _ c.give.new.self first c.give.ensures.state in
    rw (← c.self.view_is, changed)
    (λ other ne. ap (λ (file : Option FileState). Some (bytes_left file)) (first_of-other _ (giving_keeps _) c.args.name.now other c.self.inside.files.items ne))

pub returns-in-Some-clause-count : goal.returns-in-Some-clause-count
returns-in-Some-clause-count c =
    let first : IsFirst c.args.name.now c.self.inside.files.items c.in-Some.index c.index_mut-file.result.now =
    first_at _ _ _ _ (search rules) (search rules) in
    let answer : ℕ → Result ℕ Failed = Ok in
    rw (← c.self.view_is, first.found) (ap answer c.give.ensures.count)

pub returns-in-Some-clause-state : goal.returns-in-Some-clause-state
returns-in-Some-clause-state c =
    let first : IsFirst c.args.name.now c.self.inside.files.items c.in-Some.index c.index_mut-file.result.now =
    first_at _ _ _ _ (search rules) (search rules) in
    rw (← c.self.view_is) (set-change_first (after_giving (length c.give.new.buf)) _ _ _ _ _ first c.give.ensures.state)

-- no file has that name
pub returns-in-None-clause-bytes : goal.returns-in-None-clause-bytes
returns-in-None-clause-bytes c =
    let none = none_at c.args.name.now c.self.inside.files.items (search rules) in
    rw (← c.self.view_is, none) (ap Some refl, λ none room. refl)

pub returns-in-None-clause-count : goal.returns-in-None-clause-count
returns-in-None-clause-count c =
    let none = none_at c.args.name.now c.self.inside.files.items (search rules) in
    let answer : ℕ → Result ℕ Failed = Ok in
    rw (← c.self.view_is, none) (ap answer refl)

pub returns-in-None-clause-state : goal.returns-in-None-clause-state
returns-in-None-clause-state c =
    let none = none_at c.args.name.now c.self.inside.files.items (search rules) in
    rw (← c.self.view_is) (sym (change_first-none _ c.args.name.now c.self.inside.files.items none))
