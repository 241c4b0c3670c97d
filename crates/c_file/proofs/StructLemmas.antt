-- The struct of the header is that of the source.
use Rattle.std.proofs.Common.{◌≡◌, ℕ, List, [], ◌++◌, map, replicate, sym, ap, ◌∙◌, subst}
use Rattle.flow_base.specs.declared.bounds.Bounds.{Bounds}
use Rattle.active_config.specs.Tree.{Tree}
use Rattle.actions.specs.Names.{Names}
use Rattle.actions.specs.declared.names.Var.{Var}
use Rattle.code_language.specs.Code.{Code}
use Rattle.c_subset.specs.Meaning.{CValue, Store}
use Rattle.c_functions.specs.Claims.{field_type}
use Rattle.c_functions.specs.Files.{HasRow, shape_of}
use Rattle.c_functions.specs.Plans.{Tests, note_row, out_row}
use Rattle.c_functions.specs.Starts.{HasShape, first_values, state_values, zero_word}

-- code that declares the same has the same fields
module _ (k k' : Code) (T T' : Tests) (b b' : Bounds) (room room' : ℕ)
    (tree : k'.tree ≡ k.tree) (names : k'.names ≡ k.names) where
  -- what they begin with, by the names and the tree
  abbrev pub values_by : Names → Tree → List CValue
  values_by n t =
      map (λ (v : Var). record { type = field_type v.sort; value = v.init }) n.vars
      ++ (replicate 6 zero_word ++ state_values t)

  -- it is the same
  values_same : first_values (shape_of k T b room) ≡ first_values (shape_of k' T' b' room')
  unfolding first_values
  values_same = sym (ap (λ (n : Names). values_by n k'.tree) names ∙ ap (λ (t : Tree). values_by k.names t) tree)

  -- so is the struct, where there is room for as many outputs and notes
  pub struct_same : (s : Store) → room ≡ room'
      → (shape_of k T b room).notes ≡ (shape_of k' T' b' room').notes
      → HasShape (shape_of k T b room) s → HasShape (shape_of k' T' b' room') s
  struct_same s outputs notes has = record {
    fields = has.fields ∙ ap (λ (xs : List CValue). map (λ (x : CValue). x.type) xs) values_same;
    out = subst (λ (n : ℕ). HasRow s.rows out_row n []) outputs has.out;
    note = subst (λ (n : ℕ). HasRow s.rows note_row n []) notes has.note;
  }
