use Rattle.std.proofs.Common.{◌≡◌, ◌<◌, List, map, length, refl, ap, sym, ◌∙◌, subst, ℕ}
use Rattle.std.specs.Option.{option_map}
use Rattle.std.proofs.lemmas.List.{length-map}
use Rattle.std.proofs.lemmas.Option.{slice_get-map, slice_get_read}
use Rattle.chart_places.specs.Scopes.{place_of}
use Rattle.chart_places.specs.Tables.{Declared, declared_of, names_in}
use Rattle.chart_places.proofs.ScopeLemmas.{place-seen}
use Rattle.chart_places.proofs.table.DeclaredNames.place.Goals as goal

pub returns : goal.returns
returns c =
    let items = c.self.inside.names.items in
    let same : map declared_of items ≡ c.args.self.now = c.self.view_is in
    let count : length c.args.self.now ≡ length items = sym (ap length same) ∙ length-map items declared_of in
    let lt : c.args.number < length items = subst (λ (n : ℕ). c.args.number < n) count c.requires in
    place-seen (map declared_of items) c.args.number (declared_of c.index.result.now)
    (slice_get-map declared_of items c.args.number
    ∙ ap (option_map declared_of)
    (slice_get_read items (length items) c.args.number c.index.result.now refl lt c.index.ensures))
    ∙ ap (λ (ds : List Declared). place_of (names_in ds) c.args.number) same
