-- Code whose sends may lead elsewhere declares what it did, and has no other results.
use Rattle.std.proofs.Common.{◌≡◌, ℕ, List, Option, Some, None, option_map, sym, ap, ◌∙◌, subst}
use Rattle.code_language.specs.Code.{Code, Procedures, fetch}
use Rattle.code_language.specs.Instrs.{Instr, Assign, Emit, Mark, Clear, Keep, Unless, Skip, Call, Visit, Send, SendTo}
use Rattle.code_language.specs.Instrs.{Play, Home, Begin, Pass, Ret, Result}
use Rattle.code_shrink.specs.Shrunk.{KeepsResults}
use Rattle.code_depths.specs.Depths.{level_of, instead, led, cut_procedures, IsCut, AsItWas, ByLevels}
use Rattle.code_depths.proofs.Cuts.{fetch_cut}

-- ---- what is declared

pub cut_tree : (depth : ℕ) (k k' : Code) → IsCut depth k k' → k'.tree ≡ k.tree
cut_tree depth k k' (AsItWas e) = ap (λ (x : Code). x.tree) e
cut_tree depth k k' (ByLevels levels q ok e) = ap (λ (x : Code). x.tree) e

pub cut_names : (depth : ℕ) (k k' : Code) → IsCut depth k k' → k'.names ≡ k.names
cut_names depth k k' (AsItWas e) = ap (λ (x : Code). x.names) e
cut_names depth k k' (ByLevels levels q ok e) = ap (λ (x : Code). x.names) e

-- ---- results

-- an instruction that isn't a send is as it was
led_back : (other : Option ℕ) (y : Instr) → ((e s p : ℕ) → SendTo e s p ≡ y → ⊥) → (x : Instr)
    → led other x ≡ y → x ≡ y
unfolding led
led_back other y differs (Assign v e) is = is
led_back other y differs (Emit e) is = is
led_back other y differs (Mark s) is = is
led_back other y differs (Clear s) is = is
led_back other y differs (Keep s) is = is
led_back other y differs (Unless k c) is = is
led_back other y differs (Skip k) is = is
led_back other y differs (Call p tag) is = is
led_back other y differs (Visit p tag) is = is
led_back other y differs (Send e) is = is
led_back other y differs (SendTo e s p) is = absurd (differs e s _ is)
led_back other y differs Play is = is
led_back other y differs (Home s) is = is
led_back other y differs Begin is = is
led_back other y differs Pass is = is
led_back other y differs (Ret r) is = is

-- so is one that is fetched
fetched_back : (other : Option ℕ) (y : Instr) → ((e s p : ℕ) → SendTo e s p ≡ y → ⊥) → (o : Option Instr)
    → option_map (led other) o ≡ Some y → o ≡ Some y
fetched_back other y differs None is = absurd (cc is)
fetched_back other y differs (Some x) is =
    let same : led other x ≡ y = cc in ap (λ (z : Instr). Some z) (led_back other y differs x same)

module _ (depth : ℕ) (levels : List ℕ) (q : ℕ) (k : Procedures) where
  place_back : (p i : ℕ) (y : Instr) → ((e s r : ℕ) → SendTo e s r ≡ y → ⊥)
      → fetch (cut_procedures depth levels q k) p i ≡ Some y → fetch k p i ≡ Some y
  place_back p i y differs stands =
      fetched_back (instead depth q (level_of levels p)) y differs (fetch k p i)
      (sym (fetch_cut depth levels q k p i) ∙ stands)

  levels_keep : KeepsResults k (cut_procedures depth levels q k)
  levels_keep = record {
    returned = λ p i r e.
        record { proc = p; place = i; stands = place_back p i (Ret r) (λ a s t is. cc is) e };
    tested = λ p i j r e. (
      j,
      record { proc = p; place = i; stands = place_back p i (Unless j (Result r)) (λ a s t is. cc is) e },
    );
  }

-- results are kept by nothing
results_itself : (k : Procedures) → KeepsResults k k
results_itself k = record {
  returned = λ p i r e. record { proc = p; place = i; stands = e };
  tested = λ p i j r e. (j, record { proc = p; place = i; stands = e });
}

pub cut_results : (depth : ℕ) (k k' : Code) → IsCut depth k k' → KeepsResults k.procedures k'.procedures
cut_results depth k k' (AsItWas e) =
    subst (λ (x : Code). KeepsResults k.procedures x.procedures) (sym e) (results_itself k.procedures)
cut_results depth k k' (ByLevels levels q ok e) =
    subst (λ (x : Code). KeepsResults k.procedures x.procedures) (sym e) (levels_keep depth levels q k.procedures)

-- results are kept by two passes
pub results_both : (k k' k'' : Procedures) → KeepsResults k k' → KeepsResults k' k'' → KeepsResults k k''
results_both k k' k'' one two = record {
  returned = λ p i r e. let x = two.returned p i r e in one.returned x.proc x.place r x.stands;
  tested = λ p i j r e. let x = two.tested p i j r e in one.tested x.1.proc x.1.place x.0 r x.1.stands;
}
