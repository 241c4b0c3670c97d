-- Data of states of the code.
use Rattle.std.proofs.Common.{◌≡◌, ℕ, List, [], ◌∷◌, map, Bool, true, false, Option, Some, None, refl, ap, ◌∙◌, sym}
use Rattle.std.proofs.Common.{◌≤◌, length, drop, get_or, arith, if◌then◌else◌, is_some}
use Rattle.std.proofs.lemmas.Grind.{common_steps}
use Rattle.std.proofs.lemmas.List.{take_rest}
use Rattle.std.specs.Prelude.{bytes_eq}
use Rattle.std.specs.Option.{option_map}
use Rattle.chart_tree.specs.declared.name.NameText.{NameText}
use Rattle.flow_base.specs.Lists.{items_of}
use Rattle.flow_base.specs.Names.{index_of, after}
use Rattle.statechart_tree.specs.declared.sort.SourceVar.{SourceVar}
use Rattle.statechart_tree.specs.declared.state.SourceState.{SourceState, out-SourceState}
use Rattle.statechart_tree.specs.Trees.{Var, Parts}
use Rattle.statechart_tree.specs.Views.{state_of, var_of}
use Rattle.statechart_meaning.specs.Scope.{Frame, home_of, or_text, or_frame, datum_in, datum_named, state_named}
use Rattle.statechart_meaning.specs.Scope.{datum_below, path_datum, child_of}
use Rattle.statechart_scope.specs.declared.frames.Frames.{Frames}
use Rattle.statechart_scope.specs.declared.frames.Frames.TheVariants as frames
use Rattle.statechart_scope.specs.Frames.{parts_in, frames_of}
use Rattle.statechart_scope.proofs.StateViews.{parts-seen}
use Rattle.statechart_names.specs.Seen.{lowest_state, lowest_frame, lowest_path, lowest_names, child_seen}
use Rattle.statechart_names.specs.Seen.{child_in}
use Rattle.statechart_names.specs.declared.states.Child.{Child}

-- a name and others
pub there-next : (name x : List ℕ) (xs : List (List ℕ))
    → is_some (index_of name (x ∷ xs)) ≡ (if bytes_eq x name then true else is_some (index_of name xs))
there-next name x xs = by (bytes_eq x name) (index_of name xs)
  where
    by : (b : Bool) (o : Option ℕ) → is_some (if b then Some 0 else after o) ≡ (if b then true else is_some o)
    by true o = refl
    by false None = refl
    by false (Some n) = refl

-- the names of data
abbrev pub var_names : List SourceVar → List (List ℕ)
var_names vars = map (λ (v : Var). v.name.text) (map var_of vars)

names-in : (f : Frames) → lowest_names f ≡ map (λ (v : Var). v.name.text) (parts_in (lowest_state f)).vars
names-in (frames.Root state) = refl
names-in (frames.In' state n p above) = refl

-- those of the lowest state
pub names-seen : (f : Frames) (s : SourceState) → state_of s ≡ lowest_state f
    → lowest_names f ≡ var_names (items_of (out-SourceState s).parts.vars)
names-seen f s same =
    names-in f
    ∙ ap (λ (p : Parts). map (λ (v : Var). v.name.text) p.vars) (ap parts_in (sym same) ∙ parts-seen s)

pub ruleset has_steps = (common_steps, there-next, names-seen)

-- the lowest state has its frame
pub home-seen : (f : Frames) → home_of (frames_of f) ≡ (lowest_frame f).home
home-seen (frames.Root state) = refl
home-seen (frames.In' state n p above) = refl

pub ruleset in_steps = (common_steps, home-seen)

-- ---- the first state that has one

pub named-first : (f : Frames) (name text : List ℕ) → datum_in (lowest_frame f) name ≡ Some text
    → datum_named (frames_of f) name ≡ Some text
named-first (frames.Root state) name text e = ap (λ (o : Option (List ℕ)). or_text o None) e
named-first (frames.In' state n p above) name text e =
    ap (λ (o : Option (List ℕ)). or_text o (datum_named (frames_of above) name)) e

pub named-none : (state : _) (name : List ℕ) → datum_in (lowest_frame (frames.Root state)) name ≡ None
    → datum_named (frames_of (frames.Root state)) name ≡ None
named-none state name e = ap (λ (o : Option (List ℕ)). or_text o None) e

pub named-above : (state : _) (n : ℕ) (p : _) (above : Frames) (name : List ℕ)
    → datum_in (lowest_frame (frames.In' state n p above)) name ≡ None
    → datum_named (frames_of (frames.In' state n p above)) name ≡ datum_named (frames_of above) name
named-above state n p above name e =
    ap (λ (o : Option (List ℕ)). or_text o (datum_named (frames_of above) name)) e

pub ruleset named_steps = (common_steps, named-first, named-none, named-above)

pub child-first : (f : Frames) (name : List ℕ) (g : Frame) → child_in f name ≡ Some g
    → state_named (frames_of f) name ≡ Some g
child-first (frames.Root state) name g e = ap (λ (o : Option Frame). or_frame o None) e
child-first (frames.In' state n p above) name g e =
    ap (λ (o : Option Frame). or_frame o (state_named (frames_of above) name)) e

pub child-none : (state : _) (name : List ℕ) → child_in (frames.Root state) name ≡ None
    → state_named (frames_of (frames.Root state)) name ≡ None
child-none state name e = ap (λ (o : Option Frame). or_frame o None) e

pub child-above : (state : _) (n : ℕ) (p : _) (above : Frames) (name : List ℕ)
    → child_in (frames.In' state n p above) name ≡ None
    → state_named (frames_of (frames.In' state n p above)) name ≡ state_named (frames_of above) name
child-above state n p above name e = ap (λ (o : Option Frame). or_frame o (state_named (frames_of above) name)) e

-- a child that was found
pub child-found : (f : Frames) (text name : List ℕ) (o : Option Child) (child : Child) (rest : List NameText)
    → option_map (child_seen (lowest_path f)) o ≡ child_in f text → o ≡ Some child → text ≡ name
    → datum_below (Some (child_seen (lowest_path f) child)) rest ≡ datum_below (state_named (frames_of f) name) rest
child-found f text name o child rest found is same =
    let some : child_in f name ≡ Some (child_seen (lowest_path f) child) =
    ap (child_in f) (sym same) ∙ sym found ∙ ap (option_map (child_seen (lowest_path f))) is in
    ap (λ (g : Option Frame). datum_below g rest) (sym (child-first f name (child_seen (lowest_path f) child) some))

pub ruleset child_steps = (common_steps, child-first, child-none, child-above, child-found)

-- ---- below a state

-- a name and further ones
below-next : (f : Frame) (names : List NameText) (x : NameText) (text : List ℕ) → 2 ≤ length names
    → x ≡ get_or names 0 x → text ≡ x.text
    → datum_below (Some f) names ≡ datum_below (child_of f text) (drop 1 names)
below-next f [] x text h first same = absurd (omega (arith, h))
below-next f (y ∷ []) x text h first same = absurd (omega (arith, h))
below-next f (y ∷ (z ∷ rest)) x text h first same =
    let e : y.text ≡ text = ap (λ (n : NameText). n.text) (sym first) ∙ sym same in
    ap (λ (l : List ℕ). datum_below (child_of f l) (z ∷ rest)) e

-- no child has the first name
pub below-none : (f : Frames) (names : List NameText) (x : NameText) (text : List ℕ) (o : Option Child)
    → 2 ≤ length names → x ≡ get_or names 0 x → text ≡ x.text
    → option_map (child_seen (lowest_path f)) o ≡ child_in f text → o ≡ None
    → None ≡ datum_below (Some (lowest_frame f)) names
below-none f names x text o h first same found is =
    let none : child_in f text ≡ None = sym found ∙ ap (option_map (child_seen (lowest_path f))) is in
    sym (below-next (lowest_frame f) names x text h first same
    ∙ ap (λ (g : Option Frame). datum_below g (drop 1 names)) none)

-- a child has it
pub below-some : (f : Frames) (names : List NameText) (x : NameText) (text : List ℕ) (o : Option Child) (child : Child)
    → 2 ≤ length names → x ≡ get_or names 0 x → text ≡ x.text
    → option_map (child_seen (lowest_path f)) o ≡ child_in f text → o ≡ Some child
    → datum_below (Some (child_seen (lowest_path f) child)) (drop 1 names) ≡ datum_below (Some (lowest_frame f)) names
below-some f names x text o child h first same found is =
    let some : child_in f text ≡ Some (child_seen (lowest_path f) child) =
    sym found ∙ ap (option_map (child_seen (lowest_path f))) is in
    sym (below-next (lowest_frame f) names x text h first same
    ∙ ap (λ (g : Option Frame). datum_below g (drop 1 names)) some)

-- a path of two names or more
pub path-next : (fs : List Frame) (x : NameText) (path : List NameText) → 2 ≤ length path → x ≡ get_or path 0 x
    → datum_below (state_named fs x.text) (drop 1 path) ≡ path_datum fs path
path-next fs x [] h first = absurd (omega (arith, h))
path-next fs x (y ∷ []) h first = absurd (omega (arith, h))
path-next fs x (y ∷ (z ∷ rest)) h first =
    ap (λ (n : NameText). datum_below (state_named fs n.text) (z ∷ rest)) first

pub ruleset path_steps = (common_steps, take_rest, path-next)
