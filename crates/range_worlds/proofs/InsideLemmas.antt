-- Sets of worlds that are inside others.
use Rattle.std.proofs.Common.{◌≡◌, ◌<◌, ◌≤◌, nat_le, ℕ, zero, suc, ℤ, Bool, true, false, List, [], ◌∷◌, length, arith}
use Rattle.std.proofs.Common.{refl, sym, subst, ◌∙◌}
use Rattle.std.specs.Bool.{OnTrue}
use Rattle.std.proofs.lemmas.Bool.Decides.{nat_tests}
use Rattle.actions.specs.World.{World}
use Rattle.range_rules.specs.declared.cert.Around.{Around}
use Rattle.range_spans.specs.Boxes.{box_of}
use Rattle.range_spans.specs.Spans.{IsIn, is_inside}
use Rattle.range_spans.specs.declared.span.Span.{Span}
use Rattle.range_spans.proofs.BoxLemmas.{inside_in}
use Rattle.range_worlds.specs.declared.setting.Setting.{Setting}
use Rattle.range_worlds.specs.Inside.{IsWithin, HasAll}
use Rattle.range_worlds.specs.Leads.{At}

-- past the ends of two lists
beyond : (a b : List Span) (v : ℕ) → length a ≡ length b → length a ≤ v → box_of a v ≡ box_of b v
beyond [] [] v l le = refl
beyond [] (y ∷ b) v l le = absurd (omega arith)
beyond (x ∷ a) [] v l le = absurd (omega arith)
beyond (x ∷ a) (y ∷ b) zero l le = absurd (omega arith)
beyond (x ∷ a) (y ∷ b) (suc v) l le = beyond a b v (omega arith) (omega arith)

-- spans that are each inside of another
pub within_all : (a b : List Span) → length a ≡ length b
    → ((k : ℕ) → k < length a → is_inside (box_of a k) (box_of b k) ≡ true) → IsWithin a b
within_all a b l h = record { within = λ v m i. at v m i (nat_le (length a) v) refl }
  where
    at : (v : ℕ) (m : ℤ) → IsIn (box_of a v) m → (past : Bool) → nat_le (length a) v ≡ past → IsIn (box_of b v) m
    at v m i true e = subst (λ (q : Span). IsIn q m) (beyond a b v l (grind (arith, nat_tests))) i
    at v m i false e = inside_in (box_of a v) (box_of b v) m (h v (grind (arith, nat_tests))) i

-- what a call says where it answers true
pub told : {P : Type 0} (b : Bool) → b ≡ true → OnTrue b P → P
told true e h = h
told false e h = absurd cc

-- a set with the same configuration and wider spans
pub all_within : (s : Setting) (x y : Around) (own wider : List Span) → own ≡ y.spans.items → wider ≡ x.spans.items
    → y.config ≡ x.config → IsWithin own wider → HasAll s x y
all_within s x y own wider a b c i = record {
  has = λ w h. record {
    config = h.config ∙ c;
    data_in = record {
      declared = h.data_in.declared;
      at_each_moment = h.data_in.at_each_moment;
      inside = λ v. inner.within v _ (h.data_in.inside v);
    };
  };
}
  where
    inner : IsWithin y.spans.items x.spans.items
    inner =
        subst (λ (l : List Span). IsWithin y.spans.items l) b
        (subst (λ (l : List Span). IsWithin l wider) a i)
