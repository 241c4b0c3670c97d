use Rattle.std.proofs.Common.{map, ap, ◌∙◌}
use Rattle.chart_reader.specs.Items.{item_of, put_all}
use Rattle.chart_reader.proofs.SortLemmas.{put_sorted}
use Rattle.chart_reader.proofs.lists.Lists.sorted.Goals as goal

pub returns-in-Ok : goal.returns-in-Ok
returns-in-Ok c =
    c.in-Ok.ensures
    ∙ ap (put_all (map item_of c.args.items.items)) c.empty-lists.ensures
    ∙ put_sorted c.args.name c.args.comp (map item_of c.args.items.items)
