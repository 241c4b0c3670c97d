-- The values of a line, token by token.
use Rattle.std.proofs.Common.{◌≡◌, ℕ, zero, suc, ◌+◌, ◌<◌, ℤ, Bool, true, false, cond, ◌&&◌, nat_eq}
use Rattle.std.proofs.Common.{List, [], ◌∷◌, length, replicate, take, drop, get_or, Option, Some}
use Rattle.std.proofs.Common.{None, Result, Ok, Err, refl, sym, ap, ◌∙◌, subst, arith, length-set}
use Rattle.std.specs.Prelude.{IsTrue, IfSome, slice_set, slice_index, is_some, slice_get}
use Rattle.std.specs.List.{position, list_any}
use Rattle.std.specs.Option.{option_map}
use Rattle.std.specs.Str.{bytes_eq}
use Rattle.std.proofs.lemmas.Option.{slice_get-get_or}
use Rattle.actions.specs.Data.{IsValueOf, value_at}
use Rattle.actions.specs.declared.names.Sort.TheVariants as sorts
use Rattle.actions.proofs.StoredLemmas.{IsValueOf-value_at}
use Rattle.actions.specs.declared.names.Var.{Var}
use Rattle.actions.specs.declared.names.VarKind.{VarKind}
use Rattle.actions.specs.declared.names.VarKind.TheVariants as kinds
use Rattle.event_file.specs.declared.fault.LineFault.TheVariants as faults
use Rattle.fixed_point.specs.declared.num.Num.{Num}
use Rattle.fixed_point.specs.declared.scale.Scale.{Scale}
use Rattle.fixed_point.specs.declared.reading.NumFault.{NumFault}
use Rattle.fixed_point.specs.Numbers.{floored, is_whole}
use Rattle.fixed_point.specs.Reading.{number_read}
use Rattle.fixed_point.specs.Scales.{exact_mantissa, is_in_range}
use Rattle.actions.specs.Engines.{IsInputValue}
use Rattle.actions.specs.Names.{Names}
use Rattle.actions.specs.declared.event.Event.{Event}
use Rattle.actions.specs.declared.expr.Value.{Value}
use Rattle.event_file.specs.declared.fault.LineFault.{LineFault}
use Rattle.std.proofs.lemmas.Bool.Decides.{nat_tests}
use Rattle.event_file.proofs.TokenLemmas.{word, tokens_at_once}
use Rattle.event_file.specs.EventLines.{is_blank, tokens_of, event_of_line, event_of_tokens, event_of, with_tokens}
use Rattle.event_file.specs.InputValues.{and_then, all_given, given, no_inputs, given_at, given_by_name}
use Rattle.event_file.specs.InputValues.{given_to, with_input, value_of_text, value_at_scale}
use Rattle.event_file.specs.InputValues.{number_value, mantissa_at_scale, mantissa_of_text, is_input}
use Rattle.actions.specs.Runs.{AreInputValues}
use Rattle.event_file.specs.LineParts.{Gave, Kept}
use Rattle.event_file.specs.LineValues.{LineValues, IsMadeFor}

in_range_at : (whole within : Bool) (floor m : ℤ) (scale : Scale) → is_in_range scale floor ≡ within
    → Some m ≡ cond (whole && within) (Some floor) None → IsTrue (is_in_range scale m)
in_range_at true true floor m scale e is = let same : floor ≡ m = cc in subst (λ x. is_in_range scale x ≡ true) same e
in_range_at true false floor m scale e is = absurd (cc)
in_range_at false true floor m scale e is = absurd (cc)
in_range_at false false floor m scale e is = absurd (cc)

-- an exact mantissa is in range
pub exact-in_range : (a : Num) (scale : Scale) (m : ℤ) → Some m ≡ exact_mantissa a scale → IsTrue (is_in_range scale m)
unfolding exact_mantissa
exact-in_range a scale m is = in_range_at (is_whole a scale.frac) (is_in_range scale (floored a scale.frac)) (floored a scale.frac) m scale refl is

-- the mantissa that a text spells is in range
mantissa-in_range : (q : Bool) (scale : Scale) (r : Result Num NumFault) (m : ℤ)
    → Some m ≡ cond q None (mantissa_at_scale scale r) → IsTrue (is_in_range scale m)
mantissa-in_range true scale r m is = absurd (cc)
mantissa-in_range false scale (Ok a) m is = exact-in_range a scale m is
mantissa-in_range false scale (Err fault) m is = absurd (cc)

-- and the value is that of the mantissa
value_by_mantissa : (q : Bool) (scale : Scale) (r : Result Num NumFault)
    → cond q None (value_at_scale scale r) ≡ option_map (value_at (sorts.Number scale)) (cond q None (mantissa_at_scale scale r))
value_by_mantissa true scale r = refl
value_by_mantissa false scale (Ok a) = refl
value_by_mantissa false scale (Err fault) = refl

pub number_value-is : (scale : Scale) (text : List ℕ) (o : Option ℤ) → o ≡ mantissa_of_text scale text
    → option_map (value_at (sorts.Number scale)) o ≡ number_value scale text
number_value-is scale text o is =
    ap (option_map (value_at (sorts.Number scale))) is
    ∙ sym (value_by_mantissa (list_any (λ b. nat_eq b 113) text) scale (number_read text))

pub number_value-sort : (scale : Scale) (text : List ℕ) (m : ℤ) → Some m ≡ mantissa_of_text scale text
    → IsValueOf (sorts.Number scale) (value_at (sorts.Number scale) m)
number_value-sort scale text m is =
    IsValueOf-value_at (sorts.Number scale) m (mantissa-in_range (list_any (λ b. nat_eq b 113) text) scale (number_read text) m is)

-- no values are values of inputs
pub no_values : (n : Names) (k m : ℕ) → AreInputValues n k (replicate m None)
no_values n k zero = tt
no_values n k (suc m) = no_values n (k + 1) m

-- one value more is one of its input
pub one_value : (n : Names) (k v : ℕ) (inputs : List (Option Value)) (value : Value) → v < length inputs → AreInputValues n k inputs
    → IsInputValue n (k + v) value → AreInputValues n k (slice_set inputs v (Some value))
one_value n k v [] value within all here = absurd (omega arith)
one_value n k zero (None ∷ inputs) value within all here = let e : k + 0 ≡ k = omega arith in (rw e at here, all)
one_value n k zero (Some old ∷ inputs) value within all here = let e : k + 0 ≡ k = omega arith in (rw e at here, all.1)
one_value n k (suc v) (None ∷ inputs) value within all here =
    let e : k + suc v ≡ k + 1 + v = omega arith in
    one_value n (k + 1) v inputs value (omega arith) all (rw e at here)
one_value n k (suc v) (Some old ∷ inputs) value within all here =
    let e : k + suc v ≡ k + 1 + v = omega arith in
    (all.0, one_value n (k + 1) v inputs value (omega arith) all.1 (rw e at here))

-- one token more
pub given_more : (n : Names) (old new : List (Option Value)) (token : List ℕ) (tokens all : List (List ℕ)) → all ≡ token ∷ tokens
    → given n old token ≡ Ok new → all_given n new tokens ≡ all_given n old all
given_more n old new token tokens all are is =
    sym (ap (all_given n old) are ∙ ap (λ (r : Result (List (Option Value)) LineFault). and_then r (λ more. all_given n more tokens)) is)

pub given_fault : (n : Names) (old : List (Option Value)) (token : List ℕ) (tokens all : List (List ℕ)) (fault : LineFault) → all ≡ token ∷ tokens
    → given n old token ≡ Err fault → all_given n old all ≡ Err fault
given_fault n old token tokens all fault are is =
    ap (all_given n old) are ∙ ap (λ (r : Result (List (Option Value)) LineFault). and_then r (λ more. all_given n more tokens)) is

-- ---- what a line says

pub says_nothing : (n : Names) (line : List ℕ) → tokens_of line ≡ [] → event_of_line n line ≡ Ok None
unfolding event_of_line
says_nothing n line are = ap (event_of_tokens n) are

pub says_comment : (n : Names) (line first : List ℕ) (rest : List (List ℕ)) → tokens_of line ≡ first ∷ rest
    → nat_eq (slice_index first 0) 35 ≡ true → event_of_line n line ≡ Ok None
unfolding event_of_line
says_comment n line first rest are hash = ap (event_of_tokens n) are ∙ rw hash refl

pub says_hash : (n : Names) (line : List ℕ) → nat_eq (slice_index line 0) 35 ≡ true → event_of_line n line ≡ Ok None
says_hash n [] hash = absurd (cc)
says_hash n (b ∷ text) hash =
    let is : b ≡ 35 = grind (arith, nat_tests) in
    let solid : is_blank b ≡ false = rw is refl in
    says_comment n (b ∷ text) (b ∷ take (word text) text) (tokens_of (drop (word (b ∷ text)) (b ∷ text))) (tokens_at_once b text solid) hash

pub says_no_event : (n : Names) (line first : List ℕ) (rest : List (List ℕ)) (fault : LineFault) → tokens_of line ≡ first ∷ rest
    → nat_eq (slice_index first 0) 35 ≡ false → event_of n first ≡ Err fault → event_of_line n line ≡ Err fault
unfolding event_of_line
says_no_event n line first rest fault are hash is = ap (event_of_tokens n) are ∙ rw hash (ap (λ (r : Result Event LineFault). and_then r (with_tokens n rest)) is)

pub says_no_values : (n : Names) (line first : List ℕ) (rest : List (List ℕ)) (event : Event) (fault : LineFault) → tokens_of line ≡ first ∷ rest
    → nat_eq (slice_index first 0) 35 ≡ false → event_of n first ≡ Ok event → all_given n (no_inputs n) rest ≡ Err fault → event_of_line n line ≡ Err fault
unfolding event_of_line
says_no_values n line first rest event fault are hash is none =
    ap (event_of_tokens n) are ∙ rw hash (ap (λ (r : Result Event LineFault). and_then r (with_tokens n rest)) is
    ∙ ap (λ (r : Result (List (Option Value)) LineFault). and_then r (λ inputs. Ok (Some (record { event = event; inputs = inputs })))) none)

pub says_step : (n : Names) (line first : List ℕ) (rest : List (List ℕ)) (event : Event) (inputs : List (Option Value)) → tokens_of line ≡ first ∷ rest
    → nat_eq (slice_index first 0) 35 ≡ false → event_of n first ≡ Ok event → all_given n (no_inputs n) rest ≡ Ok inputs
    → event_of_line n line ≡ Ok (Some (record { event = event; inputs = inputs }))
unfolding event_of_line
says_step n line first rest event inputs are hash is all =
    ap (event_of_tokens n) are ∙ rw hash (ap (λ (r : Result Event LineFault). and_then r (with_tokens n rest)) is
    ∙ ap (λ (r : Result (List (Option Value)) LineFault). and_then r (λ inputs. Ok (Some (record { event = event; inputs = inputs })))) all)

-- ---- one token

named_value : (n : Names) (inputs : List (Option Value)) (token : List ℕ) (k v : ℕ) (decl : Var) → Some k ≡ position (λ b. nat_eq b 61) token
    → Some v ≡ position (λ (x : Var). bytes_eq x.name (take k token)) n.vars → v < length n.vars → decl ≡ get_or n.vars v decl
    → given n inputs token ≡ given_to inputs v (Some decl) (drop (k + 1) token)
named_value n inputs token k v decl sign place within is =
    let there : slice_get n.vars v ≡ Some decl = slice_get-get_or n.vars v decl within ∙ ap Some (sym is) in
    ap (given_at n inputs token) (sym sign)
    ∙ ap (λ (o : Option ℕ). given_by_name n inputs o (drop (k + 1) token)) (sym place)
    ∙ ap (λ (o : Option Var). given_to inputs v o (drop (k + 1) token)) there

pub gives_no_sign : (n : Names) (inputs : List (Option Value)) (token : List ℕ) → None ≡ position (λ b. nat_eq b 61) token
    → given n inputs token ≡ Err faults.UnknownInput
gives_no_sign n inputs token sign = ap (given_at n inputs token) (sym sign)

pub gives_no_name : (n : Names) (inputs : List (Option Value)) (token : List ℕ) (k : ℕ) → Some k ≡ position (λ b. nat_eq b 61) token
    → None ≡ position (λ (x : Var). bytes_eq x.name (take k token)) n.vars → given n inputs token ≡ Err faults.UnknownInput
gives_no_name n inputs token k sign place =
    ap (given_at n inputs token) (sym sign) ∙ ap (λ (o : Option ℕ). given_by_name n inputs o (drop (k + 1) token)) (sym place)

-- a token that names a datum
pub record Names-datum (n : Names) (token : List ℕ) (k v : ℕ) (decl : Var) : Type 0 where
  pub sign : Some k ≡ position (λ b. nat_eq b 61) token
  pub place : Some v ≡ position (λ (x : Var). bytes_eq x.name (take k token)) n.vars
  pub within : v < length n.vars
  pub is : decl ≡ get_or n.vars v decl

pub gives_no_input : (n : Names) (inputs : List (Option Value)) (token : List ℕ) (k v : ℕ) (decl : Var) → Names-datum n token k v decl
    → is_input decl.kind ≡ false → given n inputs token ≡ Err faults.UnknownInput
gives_no_input n inputs token k v decl d kind = named_value n inputs token k v decl d.sign d.place d.within d.is ∙ rw kind refl

pub gives_twice : (n : Names) (inputs : List (Option Value)) (token : List ℕ) (k v : ℕ) (decl : Var) → Names-datum n token k v decl
    → is_input decl.kind ≡ true → is_some (get_or inputs v None) ≡ true → given n inputs token ≡ Err faults.InputTwice
gives_twice n inputs token k v decl d kind named = named_value n inputs token k v decl d.sign d.place d.within d.is ∙ rw (kind, named) refl

pub gives_value : (n : Names) (inputs : List (Option Value)) (token : List ℕ) (k v : ℕ) (decl : Var) (o : Option Value) → Names-datum n token k v decl
    → is_input decl.kind ≡ true → is_some (get_or inputs v None) ≡ false → o ≡ value_of_text decl.sort (drop (k + 1) token)
    → given n inputs token ≡ with_input inputs v o
gives_value n inputs token k v decl o d kind named value =
    named_value n inputs token k v decl d.sign d.place d.within d.is ∙ rw (kind, named) (ap (with_input inputs v) (sym value))

input-kind : (kind : VarKind) → is_input kind ≡ true → kind ≡ kinds.Input
input-kind kinds.Input e = refl
input-kind kinds.Output e = absurd (cc)
input-kind kinds.Local e = absurd (cc)

gives_input : (n : Names) (token : List ℕ) (k v : ℕ) (decl : Var) (value : Value) → Names-datum n token k v decl
    → is_input decl.kind ≡ true → IsValueOf decl.sort value → IsInputValue n v value
gives_input n token k v decl value d kind is =
    (decl, slice_get-get_or n.vars v decl d.within ∙ ap Some (sym d.is), input-kind decl.kind kind, is)

-- ---- what is kept of the value

-- it is what the token gives
pub kept_gives : (n : Names) (old new : LineValues) (token : List ℕ) (k v : ℕ) (decl : Var) (o : Option Value) (result : Result (Unit {0}) LineFault)
    → Names-datum n token k v decl → is_input decl.kind ≡ true → is_some (get_or old.values v None) ≡ false
    → o ≡ value_of_text decl.sort (drop (k + 1) token) → Kept old o v new result → Gave n old.values token new.values result
kept_gives n old new token k v decl None result d kind named value kept =
    rw kept.0 (gives_value n old.values token k v decl None d kind named value)
kept_gives n old new token k v decl (Some x) result d kind named value kept =
    rw (kept.0, kept.1) (gives_value n old.values token k v decl (Some x) d kind named value)

-- it is made for the same chart
pub kept_made : (n : Names) (old new : LineValues) (v : ℕ) (o : Option Value) (result : Result (Unit {0}) LineFault)
    → Kept old o v new result → IsMadeFor n old → IsMadeFor n new
kept_made n old new v None result kept made = rw kept.1 made
kept_made n old new v (Some x) result kept made =
    rw kept.1 (record { room = length-set old.values v (Some x) ∙ made.room; events = made.events; vars = made.vars })

-- it is a value of its input
pub kept_inputs : (n : Names) (old new : LineValues) (token : List ℕ) (k v : ℕ) (decl : Var) (o : Option Value) (result : Result (Unit {0}) LineFault)
    → Names-datum n token k v decl → is_input decl.kind ≡ true → IfSome o (IsValueOf decl.sort) → IsMadeFor n old
    → Kept old o v new result → AreInputValues n 0 old.values → AreInputValues n 0 new.values
kept_inputs n old new token k v decl None result d kind sort made kept all = rw kept.1 all
kept_inputs n old new token k v decl (Some x) result d kind sort made kept all =
    let z : 0 + v ≡ v = omega arith in
    let input = gives_input n token k v decl x d kind sort in
    rw kept.1 (one_value n 0 v old.values x (omega (arith, d.within, made.room)) all (rw z input))
