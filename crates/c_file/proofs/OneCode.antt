-- The smaller code of a chart is one.
use Rattle.std.proofs.Common.{◌≡◌, ℕ, suc, Bool, true, false, List, [], ◌∷◌, length, slice_index_or, refl, sym, ap}
use Rattle.std.proofs.Common.{◌∙◌, subst, arith}
use Rattle.std.proofs.lemmas.List.{ext_get_or}
use Rattle.active_config.specs.Tree.{Tree}
use Rattle.actions.specs.Names.{Names}
use Rattle.checked_chart.specs.Chart.{Chart}
use Rattle.code_language.specs.Code.{Code, Procedures}
use Rattle.code_language.specs.Instrs.{Instr}
use Rattle.chart_code.specs.Bodies.{code_of_chart}
use Rattle.code_shrink.specs.Smaller.{straight, smaller}
use Rattle.code_shrink.specs.Whole.{collected, number_in, smaller_procedures, AreReached, AllReached, IsExact}
use Rattle.code_shrink.specs.Origins.{kept_from}
use Rattle.c_file.specs.Files.{IsCodeFor}

-- two truth values, each of which gives the other
pub same_truth : (x y : Bool) → (x ≡ true → y ≡ true) → (y ≡ true → x ≡ true) → x ≡ y
same_truth true y f g = sym (f refl)
same_truth false true f g = g refl
same_truth false false f g = refl

-- there is a flag for each procedure
live_length : (live : List Bool) (flags : List (List Bool)) (procs : List (List Instr)) → AllReached live flags procs
    → length live ≡ length procs
live_length [] [] [] all = refl
live_length [] [] (is ∷ procs) all = absurd all
live_length [] (bs ∷ flags) procs all = absurd all
live_length (b ∷ live) [] procs all = absurd all
live_length (b ∷ live) (bs ∷ flags) [] all = absurd all
live_length (b ∷ live) (bs ∷ flags) (is ∷ procs) all = ap suc (live_length live flags procs all.1)

-- the places that are reached have one list of flags
same_flags : (is : List Instr) (bs bs' : List Bool) → AreReached is bs → AreReached is bs' → bs ≡ bs'
same_flags is bs bs' a b =
    ext_get_or false bs bs' (a.size ∙ sym b.size)
    (λ i within. same_truth (slice_index_or bs i false) (slice_index_or bs' i false)
    (λ h. b.complete i (omega (arith, within, a.size)) (a.sound i h))
    (λ h. a.complete i (omega (arith, within, a.size)) (b.sound i h)))

-- the flags of procedures that are left out don't count
same_collected : (m : ℕ → ℕ) (live : List Bool) (flags flags' : List (List Bool)) (procs : List (List Instr))
    → AllReached live flags procs → AllReached live flags' procs
    → collected m live flags procs ≡ collected m live flags' procs
same_collected m [] flags flags' procs a b = refl
same_collected m (x ∷ live) [] flags' procs a b = absurd a
same_collected m (x ∷ live) (bs ∷ flags) [] procs a b = absurd b
same_collected m (x ∷ live) (bs ∷ flags) (bs' ∷ flags') [] a b = absurd a
same_collected m (true ∷ live) (bs ∷ flags) (bs' ∷ flags') (is ∷ procs) a b =
    ap (λ (fs : List Bool). smaller m fs is ∷ collected m live flags procs)
    (same_flags (straight is) bs bs' (a.0 refl) (b.0 refl))
    ∙ ap (λ (rest : List (List Instr)). smaller m bs' is ∷ rest) (same_collected m live flags flags' procs a.1 b.1)
same_collected m (false ∷ live) (bs ∷ flags) (bs' ∷ flags') (is ∷ procs) a b =
    same_collected m live flags flags' procs a.1 b.1

module _ (k : Procedures) where
  -- the procedures that are reached have one list of flags
  same_live : (live live' : List Bool) (flags flags' : List (List Bool)) → IsExact live flags k → IsExact live' flags' k
      → live ≡ live'
  same_live live live' flags flags' a b =
      ext_get_or false live live'
      (live_length live flags k.procs a.places ∙ sym (live_length live' flags' k.procs b.places))
      (λ p within. same_truth (slice_index_or live p false) (slice_index_or live' p false)
      (λ h. b.complete p (a.sound p h)) (λ h. a.complete p (b.sound p h)))

  -- what is left is one
  same_procedures : (live live' : List Bool) (flags flags' : List (List Bool)) → IsExact live flags k
      → IsExact live' flags' k → smaller_procedures live flags k ≡ smaller_procedures live' flags' k
  same_procedures live live' flags flags' a b =
      let e = same_live live live' flags flags' a b in
      ap (λ (l : List Bool). smaller_procedures l flags k) e
      ∙ ap (λ (procs : List (List Instr)). record {
        procs = procs;
        start = number_in live' k.start;
        react = number_in live' k.react;
      }) (same_collected (number_in live') live' flags flags' k.procs
      (subst (λ (l : List Bool). AllReached l flags k.procs) e a.places) b.places)

-- code is told by what it declares and by its procedures
same_code : (k k' : Code) → k.tree ≡ k'.tree → k.names ≡ k'.names → k.procedures ≡ k'.procedures → k ≡ k'
same_code k k' tree names procedures =
    ap (λ (x : Tree). record { tree = x; names = k.names; procedures = k.procedures }) tree
    ∙ ap (λ (x : Names). record { tree = k'.tree; names = x; procedures = k.procedures }) names
    ∙ ap (λ (x : Procedures). record { tree = k'.tree; names = k'.names; procedures = x }) procedures

pub one_code : (c : Chart) (k k' : Code) (origins origins' : List ℕ) → IsCodeFor c k origins
    → IsCodeFor c k' origins' → (k ≡ k') × (origins ≡ origins')
one_code c k k' origins origins' a b =
    let x = a.numbers.smaller in
    let y = b.numbers.smaller in (
      same_code k k' (a.shrunk.tree ∙ sym b.shrunk.tree) (a.shrunk.names ∙ sym b.shrunk.names)
          (x.made
          ∙ same_procedures (code_of_chart c).procedures x.live y.live x.flags y.flags x.exact y.exact ∙ sym y.made),
      a.numbers.kept
          ∙ ap (kept_from 0) (same_live (code_of_chart c).procedures x.live y.live x.flags y.flags x.exact y.exact)
          ∙ sym b.numbers.kept,
    )
