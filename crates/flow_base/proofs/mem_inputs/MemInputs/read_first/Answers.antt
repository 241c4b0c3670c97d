use Rattle.std.proofs.Common.{◌≡◌, ℕ, List, None, length, rules, ap}
use Rattle.flow_base.specs.Counts.{counted}
use Rattle.flow_base.specs.MemoryFiles.{FileState, FilesState, after_next}
use Rattle.flow_base.proofs.MemoryFilesLemmas.{IsFirst, first_at, none_at, next_keeps}
use Rattle.flow_base.proofs.MemoryFilesLemmas.{first_of-written, set-change_first}
use Rattle.flow_base.proofs.mem_inputs.MemInputs.read_first.Goals as goal

-- the read of the first file of that name
pub returns-in-Some-clause-count : goal.returns-in-Some-clause-count
returns-in-Some-clause-count c =
    let first : IsFirst c.args.name.now c.self.inside.files.items c.in-Some.index c.index_mut-file.result.now =
    first_at _ _ _ _ (search rules) (search rules) in
    rw (← c.self.view_is, first.found) c.read.ensures.count

pub returns-in-Some-clause-state : goal.returns-in-Some-clause-state
returns-in-Some-clause-state c =
    let first : IsFirst c.args.name.now c.self.inside.files.items c.in-Some.index c.index_mut-file.result.now =
    first_at _ _ _ _ (search rules) (search rules) in
    let inputs : List FileState → FilesState = λ files. record { files = files; missed = c.self.inside.missed } in
    rw (← c.self.view_is, first.found)
    (ap inputs (set-change_first (after_next (length c.read.new.buf)) _ _ _ _ _ first c.read.ensures.state))

pub returns-in-Some-clause-bytes : goal.returns-in-Some-clause-bytes
returns-in-Some-clause-bytes c =
    let first : IsFirst c.args.name.now c.self.inside.files.items c.in-Some.index c.index_mut-file.result.now =
    first_at _ _ _ _ (search rules) (search rules) in
    let now =
    first_of-written (after_next (length c.read.new.buf))
    (next_keeps _) _ _ _ _ c.read.new.self first c.read.ensures.state in
    rw (← c.self.view_is, first.found, now) c.read.ensures.bytes

-- no file has that name
pub returns-in-None-clause-count : goal.returns-in-None-clause-count
returns-in-None-clause-count c =
    let none = none_at c.args.name.now c.self.inside.files.items (search rules) in
    rw (← c.self.view_is, none) (λ i. None)

pub returns-in-None-clause-state : goal.returns-in-None-clause-state
returns-in-None-clause-state c =
    let none = none_at c.args.name.now c.self.inside.files.items (search rules) in
    let raised : c.saturating_add-self-inside.result ≡ counted c.self.inside.missed = search rules in
    let inputs : ℕ → FilesState = λ missed. record { files = c.self.inside.files.items; missed = missed } in
    rw (← c.self.view_is, none) (ap inputs raised)
