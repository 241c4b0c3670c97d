-- Comments of both kinds.
use Rattle.std.specs.Prelude.{ℕ, suc, ◌&&◌, Bool, false, not, nat_eq, Option, Some, None, List, [], ◌∷◌, if◌then◌else◌}
use Rattle.std.specs.Option.{option_map}
use Rattle.std.specs.Str.{byte}
use Rattle.chart_lexer.specs.Bytes.{is_allowed, begins}

-- two bytes stand at the front of the text
abbrev pub begins_with : ℕ → ℕ → List ℕ → Bool
begins_with a b [] = false
begins_with a b (c ∷ s) = nat_eq c a && begins (λ d. nat_eq d b) s

-- how many bytes of a comment are left, with its end `*/`: the first of them, and none where the text ends before. A byte
-- that no text may have ends the comment in front of itself
unfoldable pub comment_rest : List ℕ → Option ℕ
comment_rest [] = None
comment_rest (b ∷ s) =
    if not (is_allowed b) then Some 0 else
    if begins_with (byte "*") (byte "/") (b ∷ s) then Some 2 else
    option_map suc (comment_rest s)
