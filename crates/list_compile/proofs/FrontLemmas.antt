-- What was there before procedures were appended is a front of what is there.
use Rattle.std.proofs.Common.{◌≡◌, ℕ, List, [], ◌++◌, map, take, drop, Result}
use Rattle.std.proofs.Common.{Ok, Err, OnErr, sym, ap, ◌∙◌, append_assoc}
use Rattle.std.proofs.lemmas.List.{append-nil, append_cancel_right, map-append, take-append-drop}
use Rattle.code_language.specs.Instrs.{Instr}
use Rattle.list_compile.specs.Drafts.{IsFront}

-- what holds, holds after an error
pub on_err : {T E P : Type 0} → (result : Result T E) → P → OnErr result P
on_err (Ok done) h = tt
on_err (Err e) h = h

-- nothing was appended
pub front_same : (old new : List (List Instr)) → new ≡ old → IsFront old new
front_same old new e = ([], e ∙ sym (append-nil old))

-- nothing more was appended
pub front_at : (old now new : List (List Instr)) → new ≡ now → IsFront old now → IsFront old new
front_at old now new e f = (f.0, e ∙ f.1)

-- some were appended, and then more
pub front_then : (old mid new one : List (List Instr)) → mid ≡ old ++ one → IsFront mid new → IsFront old new
front_then old mid new one e f = (one ++ f.0, f.1 ∙ ap (λ l. l ++ f.0) e ∙ append_assoc old one f.0)

-- those of the first items of a list were appended, and those of the others are left
pub front_so_far : {X Y : Type 0} → (code : Y → List Instr) (key : X → Y) (xs : List X) (n : ℕ) (old now : List (List Instr))
    → now ++ map code (map key (drop n xs)) ≡ old ++ map code (map key xs) → IsFront old now
front_so_far code key xs n old now e =
    let first = map code (map key (take n xs)) in
    let rest = map code (map key (drop n xs)) in
    let parts : map code (map key xs) ≡ first ++ rest =
    ap (λ l. map code (map key l)) (sym (take-append-drop n xs))
    ∙ ap (map code) (map-append key (take n xs) (drop n xs))
    ∙ map-append code (map key (take n xs)) (map key (drop n xs)) in
    (first, append_cancel_right now (old ++ first) rest (e ∙ ap (λ l. old ++ l) parts ∙ sym (append_assoc old first rest)))
