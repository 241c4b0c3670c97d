-- What is appended for changes of states.
use Rattle.std.proofs.Common.{◌≡◌, ℕ, List, ◌++◌, Some, None, true, false, ap, ◌∙◌, pos}
use Rattle.active_config.specs.Tree.{parent_of}
use Rattle.c_subset.specs.Trees.{CExpr}
use Rattle.c_subset.specs.Trees as c
use Rattle.c_subset.specs.declared.trees.Line.{Line}
use Rattle.c_subset.specs.Lines.{Appends, lines_in, lines_of}
use Rattle.c_functions.specs.States.{or_parent}
use Rattle.c_functions.specs.Written.{set_block, unset_block}
use Rattle.c_functions.specs.Layout.{put_bit}
use Rattle.c_functions.specs.Plans.{Shape, layout, plan_c}
use Rattle.c_writer.specs.Changes.{child_type, set_plan, unset_plan}
use Rattle.c_writer.proofs.Ending.{ends}

module _ (K : Shape) (s : ℕ) (old new : List Line) where
  -- a child of an OR becomes active
  pub set_some : (p f : ℕ) (e : CExpr) → Some p ≡ or_parent K.tree (parent_of K.tree s) → f ≡ (layout K).chosen p
      → e ≡ c.Const child_type (pos (K.numbers s)) → Appends old new (c.Store f e)
      → lines_in new ≡ lines_in old ++ lines_of (plan_c K (set_plan K s))
  unfolding plan_c
  set_some p f e up field value h =
      let plan = ap (λ o. lines_of (plan_c K (set_block K.numbers s o))) up in
      ends old new (c.Store f e) h
      ∙ ap (λ g. lines_in old ++ lines_of (c.Store g e c.End)) field
      ∙ ap (λ x. lines_in old ++ lines_of (c.Store ((layout K).chosen p) x c.End)) value
      ∙ ap (λ ls. lines_in old ++ ls) plan

  -- another state becomes active
  pub set_none : None ≡ or_parent K.tree (parent_of K.tree s) → Appends old new (put_bit (layout K) s true)
      → lines_in new ≡ lines_in old ++ lines_of (plan_c K (set_plan K s))
  unfolding plan_c
  set_none up h =
      let plan = ap (λ o. lines_of (plan_c K (set_block K.numbers s o))) up in
      ends old new (put_bit (layout K) s true) h ∙ ap (λ ls. lines_in old ++ ls) plan

  -- a child of an OR becomes inactive
  pub unset_some : (p f : ℕ) (e : CExpr) → Some p ≡ or_parent K.tree (parent_of K.tree s) → f ≡ (layout K).chosen p
      → e ≡ c.Const child_type (pos 0) → Appends old new (c.Store f e)
      → lines_in new ≡ lines_in old ++ lines_of (plan_c K (unset_plan K s))
  unfolding plan_c
  unset_some p f e up field value h =
      let plan = ap (λ o. lines_of (plan_c K (unset_block s o))) up in
      ends old new (c.Store f e) h
      ∙ ap (λ g. lines_in old ++ lines_of (c.Store g e c.End)) field
      ∙ ap (λ x. lines_in old ++ lines_of (c.Store ((layout K).chosen p) x c.End)) value
      ∙ ap (λ ls. lines_in old ++ ls) plan

  -- another state becomes inactive
  pub unset_none : None ≡ or_parent K.tree (parent_of K.tree s) → Appends old new (put_bit (layout K) s false)
      → lines_in new ≡ lines_in old ++ lines_of (plan_c K (unset_plan K s))
  unfolding plan_c
  unset_none up h =
      let plan = ap (λ o. lines_of (plan_c K (unset_block s o))) up in
      ends old new (put_bit (layout K) s false) h ∙ ap (λ ls. lines_in old ++ ls) plan
