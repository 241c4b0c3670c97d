use Rattle.std.proofs.Common.{◌≡◌, ◌<◌, ℕ, ap, ◌∙◌, sym, subst, false, length, get_or}
use Rattle.code_passes.specs.Tags.{has_other}
use Rattle.code_passes.proofs.tagging.shared_tags.Goals as goal

-- there is a flag for each tag
pub shared_by-requires : goal.shared_by-requires
shared_by-requires c = ap length c.deref.ensures.value ∙ c.in_ok-flags.ensures.size ∙ c.requires

-- they tell of the numbers
pub returns : goal.returns
returns c =
    c.shared_by.ensures c.args.numbers.now
    (subst (λ l. (p : ℕ) → p < length l → get_or l p false ≡ has_other p 0 c.args.numbers.now)
    (sym c.deref.ensures.value) c.in_ok-flags.ensures.each)
