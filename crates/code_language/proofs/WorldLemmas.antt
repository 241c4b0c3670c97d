-- What a step that pays, marks, clears, keeps or emits makes of the world of a moment.
use Rattle.std.proofs.Common.{◌≡◌, ℕ, ◌+◌, ◌<◌, nat_le, Bool, true, false, [], ◌∷◌, length}
use Rattle.std.proofs.Common.{Option, Some, None, Ok, Err, refl, arith, length-append}
use Rattle.std.specs.Prelude.{if◌then◌else◌}
use Rattle.std.specs.Option.{option_map_or}
use Rattle.std.proofs.lemmas.Bool.Decides.{nat_tests}
use Rattle.flow_base.specs.declared.bounds.Bounds.{Bounds}
use Rattle.flow_base.specs.declared.fault.Fault.TheVariants as run_faults
use Rattle.active_config.specs.declared.comp.Comp.{Comp}
use Rattle.active_config.specs.declared.comp.Comp.TheVariants.{Leaf, Or, And}
use Rattle.active_config.specs.Tree.{parent_of, comp_of, is_or}
use Rattle.active_config.specs.Marks.{Configuration, IsConsistent, can_mark, is_bare}
use Rattle.active_config.proofs.MarksLemmas.{marked, cleared, remembered}
use Rattle.actions.specs.World.{World, emitted}
use Rattle.actions.proofs.DataLemmas.{all_push}
use Rattle.actions.specs.Changes.{paid_in, set_mark, mark_in, clear_in, keep_in}
use Rattle.code_language.specs.Code.{Code}
use Rattle.code_language.specs.Instrs.{Keep}
use Rattle.code_language.specs.WellFormed.{known_of}
use Rattle.code_language.specs.WellFormed.{instr_keeps}
use Rattle.code_language.specs.Moments.{IsWorld}
use Rattle.code_language.proofs.ExprFaults.{Gives}

-- a world like w with one more step used, so that there is one for an output
pub record IsPaid (k : Code) (b : Bounds) (w v : World) : Type 0 where
  pub world : IsWorld k b v
  pub spare : length v.outputs < v.used
  pub marks : v.marks ≡ w.marks

module _ (k : Code) (b : Bounds) (w : World) (ok : IsWorld k b w) where
  -- a step that is paid
  pub paid_gives : Gives k.names (IsPaid k b w) (paid_in b w)
  unfolding paid_in
  paid_gives = at (nat_le b.steps w.used) refl
    where
      at : (full : Bool) → nat_le b.steps w.used ≡ full
          → Gives k.names (IsPaid k b w) (if full then Err run_faults.Steps else Ok (record w { used = w.used + 1 }))
      at true e = tt
      at false e =
          let left : w.used < b.steps = grind (arith, nat_tests, e) in
          record {
            world = record {
              fits = record {
                states = ok.fits.states;
                consistent = ok.fits.consistent;
                declared = ok.fits.declared;
                sorts = ok.fits.sorts;
                outputs = ok.fits.outputs;
              };
              used = omega arith;
              outputs = omega (arith, ok.outputs);
            };
            spare = omega (arith, ok.outputs);
            marks = refl;
          }

  -- other marks that are consistent
  marks_fit : (marks : Configuration) → IsConsistent k.tree marks → IsWorld k b (record w { marks = marks })
  marks_fit marks consistent = record {
    fits = record {
      states = ok.fits.states;
      consistent = consistent;
      declared = ok.fits.declared;
      sorts = ok.fits.sorts;
      outputs = ok.fits.outputs;
    };
    used = ok.used;
    outputs = ok.outputs;
  }

  -- a state that is marked, cleared or kept
  pub mark_fits : (s : ℕ) → IsWorld k b (mark_in k.tree s w)
  unfolding mark_in
  mark_fits s = at (can_mark k.tree s w.marks) refl
    where
      at : (can : Bool) → can_mark k.tree s w.marks ≡ can → IsWorld k b (if can then set_mark s true w else w)
      at true e = marks_fit _ (marked k.tree w.marks ok.fits.consistent s e)
      at false e = ok

  -- a state that is cleared
  pub clear_fits : (s : ℕ) → IsWorld k b (clear_in k.tree s w)
  unfolding clear_in
  clear_fits s = at (is_bare k.tree s w.marks) refl
    where
      at : (bare : Bool) → is_bare k.tree s w.marks ≡ bare → IsWorld k b (if bare then set_mark s false w else w)
      at true e = marks_fit _ (cleared k.tree w.marks ok.fits.consistent s e)
      at false e = ok

  -- a state that its parent, an OR, remembers
  pub keep_fits : (s : ℕ) → instr_keeps (known_of k) (Keep s) ≡ true → IsWorld k b (keep_in k.tree s w)
  unfolding keep_in instr_keeps
  keep_fits s e = at (parent_of k.tree s) refl e
    where
      or_of : (o : Comp) → is_or o ≡ true → o ≡ Or
      or_of Or e = refl
      or_of Leaf e = absurd cc
      or_of And e = absurd cc

      at : (up : Option ℕ) → parent_of k.tree s ≡ up → option_map_or (λ p. is_or (comp_of k.tree p)) up false ≡ true
          → IsWorld k b (keep_in k.tree s w)
      at None up e = absurd cc
      at (Some p) up e =
          marks_fit _ (remembered k.tree w.marks ok.fits.consistent s p up (or_of (comp_of k.tree p) e))

-- an event that is emitted by a step that was paid
pub out_fits : (k : Code) (b : Bounds) (w v : World) (e : ℕ) → IsPaid k b w v → e < length k.names.events
    → IsWorld k b (emitted e v)
out_fits k b w v e paid lt = record {
  fits = record {
    states = paid.world.fits.states;
    consistent = paid.world.fits.consistent;
    declared = paid.world.fits.declared;
    sorts = paid.world.fits.sorts;
    outputs = all_push (λ (event : ℕ). event < length k.names.events) v.outputs e paid.world.fits.outputs lt;
  };
  used = paid.world.used;
  outputs = omega (arith, paid.spare, length-append v.outputs (e ∷ []));
}
