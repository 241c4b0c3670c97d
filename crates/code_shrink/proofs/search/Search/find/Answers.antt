use Rattle.std.proofs.Common.{refl}
use Rattle.code_shrink.proofs.SearchLemmas.{finds_new}
use Rattle.code_shrink.proofs.search.Search.find.Goals as goal

pub returns : goal.returns
returns c =
    finds_new c.args.proc c.args.self.now _ c.requires (cc (c.index.ensures, c.if-index.false)) refl
    c.in_ok-push.ensures.items
