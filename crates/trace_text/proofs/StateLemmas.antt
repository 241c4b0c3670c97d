-- The active states, as their paths are put one after the other.
use Rattle.std.proofs.Common.{◌≡◌, ℕ, zero, suc, ◌+◌, ◌-◌, ◌≤◌, ◌<◌, Bool, true, false, cond, nat_eq}
use Rattle.std.proofs.Common.{List, [], ◌∷◌, ◌++◌, length, map, sym, ap, ◌∙◌, arith, append-nil}
use Rattle.std.specs.List.{filter, join_with_byte, range_with_len}
use Rattle.std.proofs.lemmas.Bool.Decides.{nat_tests}
use Rattle.std.proofs.lemmas.List.{map-append, length-map, length-append}
use Rattle.active_config.proofs.RangeLemmas.{filter-range_more}
use Rattle.active_config.specs.Marks.{Configuration, is_on}
use Rattle.active_config.specs.Tree.{Tree}
use Rattle.actions.specs.Names.{Names}
use Rattle.trace_text.specs.Trace.{path_of}
use Rattle.trace_text.specs.TraceParts.{item}
use Rattle.trace_text.proofs.JoinLemmas.{joined_next}

-- the active states but the root with a lower number
abbrev pub active_before : Configuration → ℕ → List ℕ
active_before marks s = filter (λ x. is_on x marks) (range_with_len 1 (s - 1))

-- one state more
before_more : (marks : Configuration) (s : ℕ) (on : Bool) → 1 ≤ s → is_on s marks ≡ on
    → active_before marks (s + 1) ≡ active_before marks s ++ cond on (s ∷ []) []
before_more marks s on some is =
    let k : s + 1 - 1 ≡ suc (s - 1) = omega arith in
    let at : 1 + (s - 1) ≡ s = omega arith in
    ap (λ m. filter (λ x. is_on x marks) (range_with_len 1 m)) k
    ∙ filter-range_more (λ x. is_on x marks) 1 (s - 1)
    ∙ ap (λ x. active_before marks s ++ cond (is_on x marks) (x ∷ []) []) at
    ∙ ap (λ b. active_before marks s ++ cond b (s ∷ []) []) is

-- states that aren't active add nothing
skip_by : (marks : Configuration) (s d : ℕ) → 1 ≤ s → ((x : ℕ) → s ≤ x → x < s + d → is_on x marks ≡ false)
    → active_before marks (s + d) ≡ active_before marks s
skip_by marks s zero some off = ap (active_before marks) (omega arith)
skip_by marks s (suc d) some off =
    let e : s + suc d ≡ s + d + 1 = omega arith in
    ap (active_before marks) e
    ∙ before_more marks (s + d) false (omega arith) (off (s + d) (omega arith) (omega arith))
    ∙ append-nil _
    ∙ skip_by marks s d some (λ x lo hi. off x lo (omega arith))

pub before_skip : (marks : Configuration) (s to : ℕ) → 1 ≤ s → s ≤ to
    → ((x : ℕ) → s ≤ x → x < to → is_on x marks ≡ false) → active_before marks to ≡ active_before marks s
before_skip marks s to some le off =
    let e : to ≡ s + (to - s) = omega arith in
    ap (active_before marks) e ∙ skip_by marks s (to - s) some (λ x lo hi. off x lo (omega arith))

-- the first active state that isn't lower is the next one
before_found : (marks : Configuration) (s x : ℕ) → 1 ≤ s → s ≤ x → is_on x marks ≡ true
    → ((y : ℕ) → s ≤ y → y < x → is_on y marks ≡ false)
    → active_before marks (x + 1) ≡ active_before marks s ++ x ∷ []
before_found marks s x some le on off =
    before_more marks x true (omega arith) on ∙ ap (λ (l : List ℕ). l ++ x ∷ []) (before_skip marks s x some le off)

module _ (marks : Configuration) (s x : ℕ) (some : 1 ≤ s) (le : s ≤ x) (on : is_on x marks ≡ true)
    (off : (y : ℕ) → s ≤ y → y < x → is_on y marks ≡ false) where
  -- its path is the next one
  pub states_more : (t : Tree) (n : Names) (first : Bool) → first ≡ nat_eq (length (active_before marks s)) 0
      → join_with_byte 44 (map (path_of t n) (active_before marks (x + 1)))
      ≡ join_with_byte 44 (map (path_of t n) (active_before marks s)) ++ item 44 first (path_of t n x)
  states_more t n first none =
      ap (λ (l : List ℕ). join_with_byte 44 (map (path_of t n) l)) (before_found marks s x some le on off)
      ∙ ap (join_with_byte 44) (map-append (path_of t n) (active_before marks s) (x ∷ []))
      ∙ joined_next 44 (map (path_of t n) (active_before marks s)) (path_of t n x) first
      (none ∙ ap (λ m. nat_eq m 0) (sym (length-map (active_before marks s) (path_of t n))))

  -- and no path after it is the first
  pub first_more : false ≡ nat_eq (length (active_before marks (x + 1))) 0
  first_more =
      let l = length-append (active_before marks s) (x ∷ []) in
      let e = ap length (before_found marks s x some le on off) in
      grind (arith, nat_tests)
