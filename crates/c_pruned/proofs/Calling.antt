-- Functions without what nobody needs return what they did.
use Rattle.std.proofs.Common.{◌≡◌, ℕ, zero, suc, Bool, true, false, cond, List, Option, Some, None, slice_get, sym}
use Rattle.std.proofs.Common.{option_map, subst}
use Rattle.std.proofs.lemmas.Option.{slice_get-map}
use Rattle.c_subset.specs.declared.trees.Width.{Width}
use Rattle.c_subset.specs.Trees.{Function, File}
use Rattle.c_subset.specs.Trees.{Block, End, Set, Store as PutField, StoreAt, Call, Select, If, While, Return}
use Rattle.c_subset.specs.Meaning.{CValue, with_meaning, converted, promoted, is_true, Store, element, Locals, meaning}
use Rattle.c_subset.specs.Running.{Returns, with_value, and_on, no_locals, with_local, brought_to, with_field}
use Rattle.c_subset.specs.Running.{with_element, Calls, with_values, called, turns, selected, outcome, returned, run}
use Rattle.c_subset.specs.Running.{call}
use Rattle.c_trees.specs.Sizes.{is_short}
use Rattle.c_pruned.specs.Tests.{truth_of}
use Rattle.c_pruned.specs.Pruned.{decided_if, pruned, pruned_of, with_pruned}
use Rattle.c_pruned.proofs.Kept.{Kept, kept-itself, kept-on, kept-returns, value-kept, on-kept, cond-kept, called-kept}
use Rattle.c_pruned.proofs.Kept.{values-kept, selected-kept, turns-kept, returned-kept, arguments-kept}
use Rattle.c_pruned.proofs.Parts.{decided-kept}

module _ (int : Width) (c d : Calls) (alike : (f : ℕ) (xs : List CValue) (s : Store) → Kept (c f xs s) (d f xs s))
    (k : ℕ) where
  pub pruned-kept : (a : Block) (s : Store) (l : Locals)
      → Kept (outcome int c k a s l) (outcome int d k (pruned a) s l)
  unfolding outcome pruned
  pruned-kept End s l = kept-itself (outcome int c k End s l)
  pruned-kept (Set t i e rest) s l =
      value-kept (with_meaning (meaning int s l e) (λ x. converted t x.value))
      (λ y. outcome int c k rest s (with_local l t i y.value))
      (λ y. outcome int d k (pruned rest) s (with_local l t i y.value))
      (λ y. pruned-kept rest s (with_local l t i y.value))
  pruned-kept (PutField f e rest) s l =
      value-kept (with_meaning (meaning int s l e) (λ x. brought_to (slice_get s.fields f) x.value))
      (λ y. outcome int c k rest (with_field s f y) l) (λ y. outcome int d k (pruned rest) (with_field s f y) l)
      (λ y. pruned-kept rest (with_field s f y) l)
  pruned-kept (StoreAt a i e rest) s l =
      value-kept (meaning int s l i)
      (λ n. with_value (with_meaning (meaning int s l e)
      (λ x. brought_to (element (slice_get s.rows a) n.value) x.value))
      (λ y. outcome int c k rest (with_element s a n.value y) l))
      (λ n. with_value (with_meaning (meaning int s l e)
      (λ x. brought_to (element (slice_get s.rows a) n.value) x.value))
      (λ y. outcome int d k (pruned rest) (with_element s a n.value y) l))
      (λ n. value-kept (with_meaning (meaning int s l e)
      (λ x. brought_to (element (slice_get s.rows a) n.value) x.value))
      (λ y. outcome int c k rest (with_element s a n.value y) l)
      (λ y. outcome int d k (pruned rest) (with_element s a n.value y) l)
      (λ y. pruned-kept rest (with_element s a n.value y) l))
  pruned-kept (Call t i f args rest) s l =
      values-kept int s l args (λ xs. called (c f xs s) t i l (λ v m. outcome int c k rest v m))
      (λ xs. called (d f xs s) t i l (λ v m. outcome int d k (pruned rest) v m))
      (λ xs. called-kept (c f xs s) (d f xs s) t i l (λ v m. outcome int c k rest v m)
      (λ v m. outcome int d k (pruned rest) v m) (alike f xs s) (λ v m. pruned-kept rest v m))
  pruned-kept (Select t i e cases args rest) s l =
      value-kept (meaning int s l e)
      (λ n. with_value (converted (promoted int n.type) n.value) (λ p. with_values int s l args (λ xs.
      selected p.type p.value cases (λ f. called (c f xs s) t i l (λ v m. outcome int c k rest v m))
      (outcome int c k rest s l))))
      (λ n. with_value (converted (promoted int n.type) n.value) (λ p. with_values int s l args (λ xs.
      selected p.type p.value cases (λ f. called (d f xs s) t i l (λ v m. outcome int d k (pruned rest) v m))
      (outcome int d k (pruned rest) s l))))
      (λ n. value-kept (converted (promoted int n.type) n.value)
      (λ p. with_values int s l args (λ xs.
      selected p.type p.value cases (λ f. called (c f xs s) t i l (λ v m. outcome int c k rest v m))
      (outcome int c k rest s l)))
      (λ p. with_values int s l args (λ xs.
      selected p.type p.value cases (λ f. called (d f xs s) t i l (λ v m. outcome int d k (pruned rest) v m))
      (outcome int d k (pruned rest) s l)))
      (λ p. values-kept int s l args
      (λ xs. selected p.type p.value cases (λ f. called (c f xs s) t i l (λ v m. outcome int c k rest v m))
      (outcome int c k rest s l))
      (λ xs. selected p.type p.value cases (λ f. called (d f xs s) t i l (λ v m. outcome int d k (pruned rest) v m))
      (outcome int d k (pruned rest) s l))
      (λ xs. selected-kept p.type p.value cases
      (λ f. called (c f xs s) t i l (λ v m. outcome int c k rest v m))
      (λ f. called (d f xs s) t i l (λ v m. outcome int d k (pruned rest) v m)) (outcome int c k rest s l)
      (outcome int d k (pruned rest) s l)
      (λ f. called-kept (c f xs s) (d f xs s) t i l (λ v m. outcome int c k rest v m)
      (λ v m. outcome int d k (pruned rest) v m) (alike f xs s) (λ v m. pruned-kept rest v m))
      (pruned-kept rest s l))))
  pruned-kept (If e a b rest) s l =
      kept-on (outcome int c k (If e a b rest) s l) (outcome int d k (If e (pruned a) (pruned b) (pruned rest)) s l)
      (outcome int d k (decided_if (truth_of e) e (pruned a) (pruned b) (pruned rest)) s l)
      (value-kept (meaning int s l e)
      (λ x. and_on (cond (is_true x.value) (outcome int c k a s l) (outcome int c k b s l))
      (λ v m. outcome int c k rest v m))
      (λ x. and_on (cond (is_true x.value) (outcome int d k (pruned a) s l) (outcome int d k (pruned b) s l))
      (λ v m. outcome int d k (pruned rest) v m))
      (λ x. on-kept (cond (is_true x.value) (outcome int c k a s l) (outcome int c k b s l))
      (cond (is_true x.value) (outcome int d k (pruned a) s l) (outcome int d k (pruned b) s l))
      (λ v m. outcome int c k rest v m) (λ v m. outcome int d k (pruned rest) v m)
      (cond-kept (is_true x.value) (outcome int c k a s l) (outcome int c k b s l) (outcome int d k (pruned a) s l)
      (outcome int d k (pruned b) s l) (pruned-kept a s l) (pruned-kept b s l)) (λ v m. pruned-kept rest v m)))
      (decided-kept int d k e (pruned a) (pruned b) (pruned rest) s l)
  pruned-kept (While e a rest) s l =
      on-kept (turns k (λ v m. meaning int v m e) (λ v m. outcome int c k a v m) s l)
      (turns k (λ v m. meaning int v m e) (λ v m. outcome int d k (pruned a) v m) s l)
      (λ v m. outcome int c k rest v m) (λ v m. outcome int d k (pruned rest) v m)
      (turns-kept k (λ v m. meaning int v m e) (λ v m. outcome int c k a v m) (λ v m. outcome int d k (pruned a) v m)
      (λ v m. pruned-kept a v m) s l) (λ v m. pruned-kept rest v m)
  pruned-kept (Return e) s l =
      value-kept (meaning int s l e) (λ x. Returns s x) (λ x. Returns s x) (λ x. kept-itself (Returns s x))

  -- so are those of a function that stays
  stays-kept : (a : Block) (s : Store) (l : Locals)
      → Kept (outcome int c k a s l) (outcome int d k a s l)
  unfolding outcome
  stays-kept End s l = kept-itself (outcome int c k End s l)
  stays-kept (Set t i e rest) s l =
      value-kept (with_meaning (meaning int s l e) (λ x. converted t x.value))
      (λ y. outcome int c k rest s (with_local l t i y.value))
      (λ y. outcome int d k rest s (with_local l t i y.value))
      (λ y. stays-kept rest s (with_local l t i y.value))
  stays-kept (PutField f e rest) s l =
      value-kept (with_meaning (meaning int s l e) (λ x. brought_to (slice_get s.fields f) x.value))
      (λ y. outcome int c k rest (with_field s f y) l) (λ y. outcome int d k rest (with_field s f y) l)
      (λ y. stays-kept rest (with_field s f y) l)
  stays-kept (StoreAt a i e rest) s l =
      value-kept (meaning int s l i)
      (λ n. with_value (with_meaning (meaning int s l e)
      (λ x. brought_to (element (slice_get s.rows a) n.value) x.value))
      (λ y. outcome int c k rest (with_element s a n.value y) l))
      (λ n. with_value (with_meaning (meaning int s l e)
      (λ x. brought_to (element (slice_get s.rows a) n.value) x.value))
      (λ y. outcome int d k rest (with_element s a n.value y) l))
      (λ n. value-kept (with_meaning (meaning int s l e)
      (λ x. brought_to (element (slice_get s.rows a) n.value) x.value))
      (λ y. outcome int c k rest (with_element s a n.value y) l)
      (λ y. outcome int d k rest (with_element s a n.value y) l)
      (λ y. stays-kept rest (with_element s a n.value y) l))
  stays-kept (Call t i f args rest) s l =
      values-kept int s l args (λ xs. called (c f xs s) t i l (λ v m. outcome int c k rest v m))
      (λ xs. called (d f xs s) t i l (λ v m. outcome int d k rest v m))
      (λ xs. called-kept (c f xs s) (d f xs s) t i l (λ v m. outcome int c k rest v m)
      (λ v m. outcome int d k rest v m) (alike f xs s) (λ v m. stays-kept rest v m))
  stays-kept (Select t i e cases args rest) s l =
      value-kept (meaning int s l e)
      (λ n. with_value (converted (promoted int n.type) n.value) (λ p. with_values int s l args (λ xs.
      selected p.type p.value cases (λ f. called (c f xs s) t i l (λ v m. outcome int c k rest v m))
      (outcome int c k rest s l))))
      (λ n. with_value (converted (promoted int n.type) n.value) (λ p. with_values int s l args (λ xs.
      selected p.type p.value cases (λ f. called (d f xs s) t i l (λ v m. outcome int d k rest v m))
      (outcome int d k rest s l))))
      (λ n. value-kept (converted (promoted int n.type) n.value)
      (λ p. with_values int s l args (λ xs.
      selected p.type p.value cases (λ f. called (c f xs s) t i l (λ v m. outcome int c k rest v m))
      (outcome int c k rest s l)))
      (λ p. with_values int s l args (λ xs.
      selected p.type p.value cases (λ f. called (d f xs s) t i l (λ v m. outcome int d k rest v m))
      (outcome int d k rest s l)))
      (λ p. values-kept int s l args
      (λ xs. selected p.type p.value cases (λ f. called (c f xs s) t i l (λ v m. outcome int c k rest v m))
      (outcome int c k rest s l))
      (λ xs. selected p.type p.value cases (λ f. called (d f xs s) t i l (λ v m. outcome int d k rest v m))
      (outcome int d k rest s l))
      (λ xs. selected-kept p.type p.value cases
      (λ f. called (c f xs s) t i l (λ v m. outcome int c k rest v m))
      (λ f. called (d f xs s) t i l (λ v m. outcome int d k rest v m)) (outcome int c k rest s l)
      (outcome int d k rest s l)
      (λ f. called-kept (c f xs s) (d f xs s) t i l (λ v m. outcome int c k rest v m)
      (λ v m. outcome int d k rest v m) (alike f xs s) (λ v m. stays-kept rest v m))
      (stays-kept rest s l))))
  stays-kept (If e a b rest) s l =
      value-kept (meaning int s l e)
      (λ x. and_on (cond (is_true x.value) (outcome int c k a s l) (outcome int c k b s l))
      (λ v m. outcome int c k rest v m))
      (λ x. and_on (cond (is_true x.value) (outcome int d k a s l) (outcome int d k b s l))
      (λ v m. outcome int d k rest v m))
      (λ x. on-kept (cond (is_true x.value) (outcome int c k a s l) (outcome int c k b s l))
      (cond (is_true x.value) (outcome int d k a s l) (outcome int d k b s l))
      (λ v m. outcome int c k rest v m) (λ v m. outcome int d k rest v m)
      (cond-kept (is_true x.value) (outcome int c k a s l) (outcome int c k b s l) (outcome int d k a s l)
      (outcome int d k b s l) (stays-kept a s l) (stays-kept b s l)) (λ v m. stays-kept rest v m))
  stays-kept (While e a rest) s l =
      on-kept (turns k (λ v m. meaning int v m e) (λ v m. outcome int c k a v m) s l)
      (turns k (λ v m. meaning int v m e) (λ v m. outcome int d k a v m) s l)
      (λ v m. outcome int c k rest v m) (λ v m. outcome int d k rest v m)
      (turns-kept k (λ v m. meaning int v m e) (λ v m. outcome int c k a v m) (λ v m. outcome int d k a v m)
      (λ v m. stays-kept a v m) s l) (λ v m. stays-kept rest v m)
  stays-kept (Return e) s l =
      value-kept (meaning int s l e) (λ x. Returns s x) (λ x. Returns s x) (λ x. kept-itself (Returns s x))

  body-kept : (b : Bool) (a : Block) (s : Store) (l : Locals)
      → Kept (outcome int c k a s l) (outcome int d k (cond b (pruned a) a) s l)
  body-kept true a s l = pruned-kept a s l
  body-kept false a s l = stays-kept a s l

  run-kept : (o : Option Function) (xs : List CValue) (s : Store)
      → Kept (run int c k o xs s) (run int d k (option_map pruned_of o) xs s)
  run-kept None xs s = tt
  run-kept (Some f) xs s =
      arguments-kept f.parameters xs 0 no_locals (λ l. returned f.result (outcome int c k f.body s l))
      (λ l. returned f.result (outcome int d k (cond (is_short f.body) (pruned f.body) f.body) s l))
      (λ l. returned-kept f.result (outcome int c k f.body s l)
      (outcome int d k (cond (is_short f.body) (pruned f.body) f.body) s l) (body-kept (is_short f.body) f.body s l))

-- ---- files

module _ (file : File) (int : Width) where
  calls-kept : (k f : ℕ) (xs : List CValue) (s : Store)
      → Kept (call file int k f xs s) (call (with_pruned file) int k f xs s)
  unfolding call
  calls-kept zero f xs s = tt
  calls-kept (suc k) f xs s =
      subst (λ (o : Option Function). Kept (run int (call file int k) k (slice_get file.functions f) xs s)
      (run int (call (with_pruned file) int k) k o xs s)) (sym (slice_get-map pruned_of file.functions f))
      (run-kept int (call file int k) (call (with_pruned file) int k) (λ g xs s. calls-kept k g xs s) k
      (slice_get file.functions f) xs s)

  pub calls-alike : (k f : ℕ) (xs : List CValue) (s after : Store) (x : CValue)
      → call file int k f xs s ≡ Returns after x → call (with_pruned file) int k f xs s ≡ Returns after x
  calls-alike k f xs s after x e =
      kept-returns (call file int k f xs s) (call (with_pruned file) int k f xs s) after x (calls-kept k f xs s) e
