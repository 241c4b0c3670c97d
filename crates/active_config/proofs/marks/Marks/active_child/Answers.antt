use Rattle.std.proofs.Common.{arith}
use Rattle.active_config.proofs.FieldLemmas.{flags_are, flag_count}
use Rattle.active_config.proofs.ActiveLemmas.{first_active_is, first_active_after}
use Rattle.active_config.proofs.marks.Marks.active_child.Goals as goal

pub first_on-requires : goal.first_on-requires
first_on-requires c =
    omega (arith, c.subtree_end-end.ensures.end.within, c.requires.consistent.sized, flag_count _ _ _ c.self.view_is)

pub returns : goal.returns
returns c = record {
  child = first_active_is _ _ _ c.args.state _ _ c.subtree_end-end.ensures.tree c.requires.consistent
      c.subtree_end-end.ensures.end (flags_are _ _ _ c.self.view_is) c.first_on.ensures.first;
  after = first_active_after _ c.args.state _ _ c.subtree_end-end.ensures.end c.first_on.ensures.within;
}
