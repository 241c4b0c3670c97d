-- The words of a part are plain.
use Rattle.std.proofs.Common.{◌≡◌, ◌+◌, ◌<◌, ◌^◌, ℕ, zero, suc, Bool, true, false, not, ◌&&◌, nat_eq, List, []}
use Rattle.std.proofs.Common.{◌∷◌, ◌++◌, length, map, drop, reverse, codes, decimal, get_or, refl, arith, if◌then◌else◌}
use Rattle.std.specs.Prelude.{slice_index_or}
use Rattle.std.specs.List.{list_all, join_with_byte}
use Rattle.std.proofs.lemmas.Bool.{and_parts}
use Rattle.std.proofs.lemmas.Bool.Decides.{nat_tests}
use Rattle.active_config.specs.Tree.{Tree, ancestors}
use Rattle.actions.specs.Names.{Names}
use Rattle.chart_lexer.specs.Bytes.{is_name_byte}
use Rattle.chart_lexer.specs.Words.{is_name}
use Rattle.checked_chart.specs.declared.parts.BlockKind.{BlockKind}
use Rattle.checked_chart.specs.declared.parts.BlockKind.TheVariants.{Entry, During, Exit}
use Rattle.checked_chart.specs.declared.parts.ListKind.{ListKind}
use Rattle.checked_chart.specs.declared.parts.ListKind.TheVariants.{Outer, Inner, Default}
use Rattle.code_fields.proofs.CutLemmas.{Lacks}
use Rattle.code_fields.proofs.NameLemmas.{is_name-bytes}
use Rattle.code_fields.proofs.NumberLemmas.{IsNoDigit, newline, decimal-lacks}
use Rattle.trace_text.specs.Trace.{path_of, state_name}
use Rattle.chart_parts.specs.Parts.{IsOwner, IsPart}
use Rattle.chart_parts.specs.PartText.{block_words, list_words, trans_words, while_words, way_words, state_words}
use Rattle.chart_parts.specs.PartText.{owner_words, toward_words, part_text}
use Rattle.chart_parts.specs.Plain.{IsPlainByte, IsPlain}
use Rattle.chart_parts.specs.declared.part.Owner.{Owner}
use Rattle.chart_parts.specs.declared.part.Owner.TheVariants as owners
use Rattle.chart_parts.specs.declared.part.Part.{Part}
use Rattle.chart_parts.specs.declared.part.Part.TheVariants as parts
use Rattle.chart_parts.specs.declared.part.Toward.{Toward}
use Rattle.chart_parts.specs.declared.part.Toward.TheVariants.{Arrive, Take, Enter}
use Rattle.chart_parts.specs.declared.part.TransPart.{TransPart}
use Rattle.chart_parts.specs.declared.part.TransPart.TheVariants.{Guard, ConditionOn, ConditionBare, Action}

-- ---- bytes and texts

-- a byte that the test tells from another
differs : (b byte : ℕ) → not (nat_eq b byte) ≡ true → nat_eq b byte ≡ false
differs b byte h = grind (arith, nat_tests)

-- whether a byte is plain
abbrev pub is_plain_byte : ℕ → Bool
is_plain_byte b = not (nat_eq b 10) && not (nat_eq b 42)

-- a text that passes the test
pub tested : (words : List ℕ) → list_all is_plain_byte words ≡ true → IsPlain words
tested [] h = tt
tested (b ∷ words) h =
    let rest = and_parts (is_plain_byte b) (list_all is_plain_byte words) h in
    let both = and_parts (not (nat_eq b 10)) (not (nat_eq b 42)) rest.0 in
    ((differs b 10 both.0, differs b 42 both.1), tested words rest.1)

-- plain text after plain text
pub plain_append : (words text : List ℕ) → IsPlain words → IsPlain text → IsPlain (words ++ text)
plain_append [] text h g = g
plain_append (b ∷ words) text h g = (h.0, plain_append words text h.1 g)

-- text with neither of the bytes
plain_of : (text : List ℕ) → Lacks 10 text → Lacks 42 text → IsPlain text
plain_of [] h g = tt
plain_of (b ∷ text) h g = ((h.0, g.0), plain_of text h.1 g.1)

-- `*` is no digit
star : IsNoDigit 42
star b digit = grind (arith, nat_tests)

-- the number after a small one
number_plain : (k : ℕ) → k < 2 ^ 32 → IsPlain (decimal (k + 1))
number_plain k h =
    plain_of (decimal (k + 1)) (decimal-lacks 10 (k + 1) newline (omega arith))
    (decimal-lacks 42 (k + 1) star (omega arith))

-- ---- names and paths

-- a byte of a name
name_byte_plain : (b : ℕ) → is_name_byte b ≡ true → IsPlainByte b
name_byte_plain b h = (grind (arith, nat_tests), grind (arith, nat_tests))

-- bytes of a name
pub bytes_plain : (name : List ℕ) → ((k : ℕ) → k < length name → is_name_byte (get_or name k 0) ≡ true) → IsPlain name
bytes_plain [] h = tt
bytes_plain (b ∷ name) h =
    (name_byte_plain b (h 0 (omega arith)), bytes_plain name (λ k lt. h (suc k) (omega arith)))

-- one of many names, or nothing
name_at : (names : List (List ℕ)) → list_all is_name names ≡ true → (s : ℕ) → IsPlain (slice_index_or names s [])
name_at [] h s = tt
name_at (name ∷ names) h zero =
    bytes_plain name (is_name-bytes name (and_parts (is_name name) (list_all is_name names) h).0)
name_at (name ∷ names) h (suc s) = name_at names (and_parts (is_name name) (list_all is_name names) h).1 s

-- ---- words

-- an action of a state
block_plain : (kind : BlockKind) → IsPlain (block_words kind)
block_plain Entry = tested (codes "entry action of ") refl
block_plain During = tested (codes "during action of ") refl
block_plain Exit = tested (codes "exit action of ") refl

-- a list of a state
list_plain : (kind : ListKind) → IsPlain (list_words kind)
list_plain Outer = tested (codes "the outer list of ") refl
list_plain Inner = tested (codes "the inner list of ") refl
list_plain Default = tested (codes "the default list of ") refl

-- a part of a transition
trans_plain : (part : TransPart) → IsPlain (trans_words part)
trans_plain Guard = tested (codes "guard of transition ") refl
trans_plain ConditionOn = tested (codes "condition action of transition ") refl
trans_plain ConditionBare = tested (codes "condition action of transition ") refl
trans_plain Action = tested (codes "transition action of transition ") refl

-- how long a condition action goes on
while_plain : (part : TransPart) → IsPlain (while_words part)
while_plain Guard = tt
while_plain ConditionOn = tested (codes ", while its state is active") refl
while_plain ConditionBare = tested (codes ", while its state is bare") refl
while_plain Action = tt

-- what is done on the way
way_plain : (way : Toward) → IsPlain (way_words way)
way_plain Arrive = tested (codes "arriving in ") refl
way_plain Take = tested (codes "taking a firing in ") refl
way_plain Enter = tested (codes "entering ") refl

module _ (t : Tree) (n : Names) (named : list_all is_name n.states ≡ true) where
  -- names with slashes between them
  joined_plain : (ss : List ℕ) → IsPlain (join_with_byte 47 (map (state_name n) ss))
  joined_plain [] = tt
  joined_plain (s ∷ []) = name_at n.states named s
  joined_plain (s ∷ r ∷ ss) =
      plain_append (state_name n s) (47 ∷ join_with_byte 47 (map (state_name n) (r ∷ ss))) (name_at n.states named s)
      ((refl, refl), joined_plain (r ∷ ss))

  -- a path
  path_plain : (s : ℕ) → IsPlain (path_of t n s)
  unfolding path_of
  path_plain s = joined_plain (drop 1 (reverse (s ∷ ancestors t s)))

  -- a state
  pub state_plain : (s : ℕ) → IsPlain (state_words t n s)
  state_plain zero = tested (codes "the chart") refl
  state_plain (suc s) = path_plain (suc s)

  -- words and a state
  with_state : (words : List ℕ) (s : ℕ) → IsPlain words → IsPlain (words ++ state_words t n s)
  with_state words s h = plain_append words (state_words t n s) h (state_plain s)

  -- where a transition stands
  owner_plain : (o : Owner) → IsOwner t o → IsPlain (owner_words t n o)
  owner_plain (owners.State s kind) h = with_state (list_words kind) s (list_plain kind)
  owner_plain (owners.Junction j) h =
      plain_append (codes "junction ") (decimal (j + 1)) (tested (codes "junction ") refl) (number_plain j h)

  -- where the way leads
  toward_plain : (s d : ℕ) → IsPlain (toward_words t n s d)
  toward_plain s d = at (nat_eq s d)
    where
      at : (b : Bool) → IsPlain (if b then [] else codes " on the way to " ++ state_words t n d)
      at true = tt
      at false = with_state (codes " on the way to ") d (tested (codes " on the way to ") refl)

  -- a part
  pub part_plain : (p : Part) → IsPart t p → IsPlain (part_text t n p)
  unfolding part_text
  part_plain parts.EndMark h = tested (codes "end of a search at an empty junction") refl
  part_plain (parts.Block s kind) h = with_state (block_words kind) s (block_plain kind)
  part_plain (parts.Transition part o i) h =
      plain_append (trans_words part) (decimal (i + 1) ++ (codes " of " ++ (owner_words t n o ++ while_words part)))
      (trans_plain part)
      (plain_append (decimal (i + 1)) (codes " of " ++ (owner_words t n o ++ while_words part)) (number_plain i h.1)
      (plain_append (codes " of ") (owner_words t n o ++ while_words part) (tested (codes " of ") refl)
      (plain_append (owner_words t n o) (while_words part) (owner_plain o h.0) (while_plain part))))
  part_plain (parts.Leave s) h =
      with_state (codes "leaving the children of ") s (tested (codes "leaving the children of ") refl)
  part_plain (parts.Exit s) h = with_state (codes "leaving ") s (tested (codes "leaving ") refl)
  part_plain (parts.Way way s d) h =
      plain_append (way_words way) (state_words t n s ++ toward_words t n s d) (way_plain way)
      (plain_append (state_words t n s) (toward_words t n s d) (state_plain s) (toward_plain s d))
  part_plain (parts.Search s kind) h =
      plain_append (codes "search of ") (list_words kind ++ state_words t n s) (tested (codes "search of ") refl)
      (with_state (list_words kind) s (list_plain kind))
  part_plain (parts.Junction s kind j) h =
      plain_append (codes "search of junction ")
      (decimal (j + 1) ++ (codes " from " ++ (list_words kind ++ state_words t n s)))
      (tested (codes "search of junction ") refl)
      (plain_append (decimal (j + 1)) (codes " from " ++ (list_words kind ++ state_words t n s)) (number_plain j h.1)
      (plain_append (codes " from ") (list_words kind ++ state_words t n s) (tested (codes " from ") refl)
      (with_state (list_words kind) s (list_plain kind))))
  part_plain (parts.Defaults s) h =
      plain_append (codes "entering a child of ") (state_words t n s ++ codes " by default")
      (tested (codes "entering a child of ") refl)
      (plain_append (state_words t n s) (codes " by default") (state_plain s) (tested (codes " by default") refl))
  part_plain (parts.Process s) h = with_state (codes "processing ") s (tested (codes "processing ") refl)
