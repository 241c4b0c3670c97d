use Rattle.std.proofs.Common.{rules, ◌≡◌, None, length, ◌∙◌}
use Rattle.flow_base.specs.RealFiles.{is_named, first_of, IsOpened}
use Rattle.flow_base.proofs.RealFilesLemmas.{holds_on_err, none_found, not_none, opened_place}
use Rattle.flow_base.proofs.real_inputs.RealInputs.place_of.Goals as goal

-- the name has a file
pub returns-in-Some-clause-opened : goal.returns-in-Some-clause-opened
returns-in-Some-clause-opened g c = λ none.
    absurd {A = IsOpened c.args.name.now c.args.self.now.files.items c.args.self.now.files.items}
    (not_none (is_named c.args.name.now) c.args.self.now.files.items c.in-Some.index (search rules) none)

-- the name has none, and one was opened
pub returns-clause-first : goal.returns-clause-first
returns-clause-first g c =
    let none = none_found (is_named c.args.name.now) c.args.self.now.files.items (search rules) in
    let last : c.len-last.result ≡ length c.args.self.now.files.items = search rules in
    last
    ∙ opened_place c.args.name.now c.args.self.now.files.items c.open.new.self.files.items none
    c.in_ok-open.ensures.opened

pub returns-clause-found : goal.returns-clause-found
returns-clause-found g c =
    let none : first_of c.args.name.now c.args.self.now.files.items ≡ None =
    none_found (is_named c.args.name.now) c.args.self.now.files.items (search rules) in
    rw none tt

-- none could be opened
pub returns-in_err-open-clause-not_found : goal.returns-in_err-open-clause-not_found
returns-in_err-open-clause-not_found g c =
    holds_on_err _ (none_found (is_named c.args.name.now) c.args.self.now.files.items (search rules))
