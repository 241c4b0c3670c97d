-- A store in an element of an array changes no place.
use Rattle.std.proofs.Common.{ℕ, ℤ, List, refl}
use Rattle.c_subset.specs.Meaning.{CValue, Store, Locals}
use Rattle.c_subset.specs.Running.{with_element}
use Rattle.c_facts.specs.declared.known.Place.{Place}
use Rattle.c_facts.proofs.Holding.{element-keeps as known-keeps}
use Rattle.c_decided.specs.Facts.{at, Facts, Holds}
use Rattle.c_decided.specs.Decided.{Same}

pub element-keeps : (s : Store) (r : ℕ) (n : ℤ) (y : CValue) (l : Locals) (F : Facts) → Holds s l F
    → Holds (with_element s r n y) l F
element-keeps s r n y l F h = known-keeps s r n y (at F.by (l F.type F.local)) h

pub element-same : (ps : List Place) (s : Store) (r : ℕ) (n : ℤ) (y : CValue) → Same ps s (with_element s r n y)
element-same ps s r n y q t = record { type = refl; number = refl }
