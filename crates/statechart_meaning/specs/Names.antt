-- Names that are made: of data of states, of counters and of junctions.
use Rattle.std.specs.Prelude.{ℕ, nat_le, List, [], ◌∷◌, ◌++◌, length, codes, decimal, if◌then◌else◌}
use Rattle.token_grammar.specs.declared.token.Span.{Span}
use Rattle.chart_lexer.specs.declared.words.TheConstants.{NAME_LIMIT}
use Rattle.chart_tree.specs.declared.name.NameText.{NameText}

-- the text at the place
abbrev pub named : List ℕ → Span → NameText
named text at = record { text = text; at = at }

-- Names joined by two underscores. No name of a statechart holds two underscores or ends in one, so different lists of
-- names are joined to different names.
abbrev pub joined : List (List ℕ) → List ℕ
joined [] = []
joined (x ∷ []) = x
joined (x ∷ (y ∷ rest)) = x ++ codes "__" ++ joined (y ∷ rest)

-- the first names joined, or the other ones where the first are too long together
abbrev pub fitted : List (List ℕ) → List (List ℕ) → List ℕ
fitted long short = if nat_le (length (joined long)) NAME_LIMIT then joined long else joined short

-- a state: its path from the top, and its number; the statechart has the empty path and 0
pub record Home : Type 0 where
  pub path : List (List ℕ)
  pub number : ℕ

-- the name of a datum of the state: its path and the datum, or its number for the path; one of the statechart keeps its
-- name. `state` is a reserved word, so no path begins with it
abbrev pub datum_at : List (List ℕ) → ℕ → List ℕ → List ℕ
datum_at [] number x = x
datum_at (s ∷ below) number x =
    fitted ((s ∷ below) ++ x ∷ []) (codes "state" ∷ (decimal number ∷ (x ∷ [])))

-- the name of a datum of the state
abbrev pub datum_name : Home → List ℕ → List ℕ
datum_name h x = datum_at h.path h.number x

-- the name of the counter of an event for the state. `after` is a reserved word, so no path begins with it
abbrev pub counter_name : Home → List ℕ → List ℕ
counter_name h e = fitted (codes "after" ∷ (h.path ++ e ∷ [])) (codes "after" ∷ (decimal h.number ∷ (e ∷ [])))

-- the name of its counter of `every(n, E)`
abbrev pub every_name : Home → List ℕ → ℕ → List ℕ
every_name h e n =
    fitted (codes "every" ∷ (h.path ++ (e ∷ (decimal n ∷ []))))
    (codes "every" ∷ (decimal h.number ∷ (e ∷ (decimal n ∷ []))))

-- the name of the junction at which nothing is found
abbrev pub next_name : List ℕ
next_name = codes "after__next"

-- the name of the junction to which a transition leads that is never taken
abbrev pub end_name : List ℕ
end_name = codes "after__end"
