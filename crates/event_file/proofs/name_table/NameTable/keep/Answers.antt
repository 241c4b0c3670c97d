use Rattle.std.proofs.Common.{◌≡◌, sym, ap, ◌∙◌, None}
use Rattle.std.specs.Option.{is_some}
use Rattle.std.specs.Prelude.{string_bytes, IsUtf8}
use Rattle.std.specs.HashMap.{get_by}
use Rattle.std.specs.Str.{bytes_eq}
use Rattle.event_file.specs.NameTables.{number_in, number_after, numbered}
use Rattle.event_file.proofs.TableLemmas.{number_in-numbered, keeps_old, puts_new, texts_after, is_absent}
use Rattle.event_file.proofs.name_table.NameTable.keep.Goals as goal
use Rattle.event_file.proofs.name_table.NameTable.keep.Goals.{in-Ok, in-Err}

pub returns-then-contains_key : goal.returns-then-contains_key
returns-then-contains_key c = keeps_old c.args.self.now c.args.name.now c.args.number (λ none.
    let found = ap (λ table. number_in table c.args.name.now) c.self.view_is in
    let has = sym c.contains_key.ensures ∙ c.if-contains_key.true in
    let there = sym (number_in-numbered c.self.inside.numbers.entries c.args.name.now) ∙ found ∙ none in
    absurd (let e = sym has ∙ ap is_some there in cc))

pub returns : goal.returns
returns c =
    let kept = (string_bytes c.in_ok-key.key) in
    let items : kept ≡ c.args.name.now = c.in_ok-key.ensures.ok in
    let absent = is_absent _ (sym c.contains_key.ensures ∙ c.if-contains_key.false) in
    let none : get_by (λ k. bytes_eq kept (string_bytes k)) c.self.inside.numbers ≡ None = rw items absent in
    elim c.match-insert.branch [
      | in-Ok w ↦ rw w.result-is (λ q.
          puts_new c.self.inside.numbers c.insert.new.self kept c.args.number none w.in-Ok.ensures.updates q
          ∙ ap (λ name. number_after (numbered c.self.inside.numbers.entries) name c.args.number q) items
          ∙ ap (λ table. number_after table c.args.name.now c.args.number q) c.self.view_is)
      | in-Err w ↦ rw w.result-is tt
    ]

-- the names are still texts
pub invariant_of-self : goal.invariant_of-self
invariant_of-self c =
    let old = c.self.inside.numbers in
    let kept = string_bytes c.in_ok-key.key in
    let items : kept ≡ c.args.name.now = c.in_ok-key.ensures.ok in
    let absent = is_absent _ (sym c.contains_key.ensures ∙ c.if-contains_key.false) in
    let none : get_by (λ k. bytes_eq kept (string_bytes k)) old ≡ None = rw items absent in
    let text : IsUtf8 kept = rw items c.utf8.name in
    elim c.match-insert.branch [
      | in-Ok w ↦ texts_after (numbered old.entries) (numbered c.insert.new.self.entries) kept c.args.number c.self.invariant text
          (puts_new old c.insert.new.self kept c.args.number none w.in-Ok.ensures.updates)
      | in-Err w ↦ λ name other. ap (λ entries. number_in (numbered entries) name) w.in-Err.ensures.err ∙ c.self.invariant name other
    ]
