-- Every text is that of well-formed code, or has a first fault, which isn't want of memory.
use Rattle.std.proofs.Common.{◌≡◌, ◌≢◌, ◌⊎◌, ℕ, ◌+◌, Bool, true, false, ◌&&◌, nat_eq, nat_lt, List, [], ◌∷◌, length}
use Rattle.std.proofs.Common.{Option, Some, None, Result, Ok, Err, inl, inr, refl}
use Rattle.std.specs.Prelude.{◌==◌, not, codes, if◌then◌else◌}
use Rattle.std.specs.List.{starts_with}
use Rattle.code_language.specs.declared.fault.CodeFault.{CodeFault}
use Rattle.code_language.specs.WellFormed.{IsCode, IsFirstFault}
use Rattle.code_language.proofs.DecideLemmas.{formed_or_faulty}
use Rattle.code_text.specs.declared.fault.CodeTextFault.{CodeTextFault}
use Rattle.code_text.specs.declared.fault.CodeTextFault.TheVariants as faults
use Rattle.code_text.specs.declared.limits.TheConstants.{TEXT_LIMIT}
use Rattle.code_fields.specs.Lines.{cut_of}
use Rattle.code_text.specs.Reading.{Partial, is_whole, nothing_read, next, refusal, all_read, or_refuse, outcome_from}
use Rattle.code_text.specs.Reading.{spelled, IsCause}
use Rattle.code_text.specs.Written.{Written, code_written}

-- a fault of a text that spells no code
abbrev IsOfText : CodeTextFault → Type 0
IsOfText (faults.BadLine n) = Unit {0}
IsOfText faults.Truncated = Unit {0}
IsOfText (faults.Trailing n) = Unit {0}
IsOfText faults.Version = Unit {0}
IsOfText faults.TextTooLong = Unit {0}
IsOfText (faults.Form fault) = ⊥
IsOfText faults.Memory = ⊥

-- what is read, or such a fault
abbrev IsOutcome : Result Written CodeTextFault → Type 0
IsOutcome (Ok w) = Unit {0}
IsOutcome (Err fault) = IsOfText fault

-- ---- what is read of a text

-- a line that can't stand is refused with such a fault
refused_so : (a b : Bool) (n : ℕ)
    → IsOfText (if a then faults.Trailing n else if b then faults.Version else faults.BadLine n)
refused_so true b n = tt
refused_so false true n = tt
refused_so false false n = tt

-- where no whole line is left the code is read, or there is such a fault
ended_so : (a b : Bool) (n : ℕ) (w : Written)
    → IsOutcome (if a then Err faults.Truncated else if b then Ok w else Err (faults.Trailing n))
ended_so true b n w = tt
ended_so false true n w = tt
ended_so false false n w = tt

-- so where one line was read
gone_on : (o : Option Partial) (fault : CodeTextFault) (go : Partial → Result Written CodeTextFault)
    → IsOfText fault → ((p : Partial) → IsOutcome (go p)) → IsOutcome (or_refuse o fault go)
gone_on None fault go h each = h
gone_on (Some p) fault go h each = each p

-- so are the lines of a text
outcome : (lines : List (List ℕ)) (p : Partial) (n : ℕ) (rest : List ℕ) → IsOutcome (outcome_from p n lines rest)
outcome [] p n rest = ended_so (not (is_whole p.expected)) (length rest == 0) n (all_read p)
outcome (line ∷ lines) p n rest =
    gone_on (next p line) (refusal p.expected n line) (λ q. outcome_from q (n + 1) lines rest)
    (refused_so (is_whole p.expected) (nat_eq n 1 && starts_with nat_eq line (codes "flowcode ")) n)
    (λ q. outcome lines q (n + 1) rest)

-- and the test of its length
short_or_long : (long : Bool) (o : Result Written CodeTextFault) → IsOutcome o
    → IsOutcome (if long then Err faults.TextTooLong else o)
short_or_long true o h = tt
short_or_long false o h = h

-- so a text is read, or has such a fault
spelled_so : (text : List ℕ) → IsOutcome (spelled text)
spelled_so text =
    short_or_long (nat_lt TEXT_LIMIT (length text))
    (outcome_from nothing_read 1 (cut_of text).lines (cut_of text).rest)
    (outcome (cut_of text).lines nothing_read 1 (cut_of text).rest)

-- ---- what is answered of a text

-- it is the text of well-formed code, or has a first fault
abbrev pub IsAnswered : List ℕ → Type 0
IsAnswered text = ((w : Written) × (spelled text ≡ Ok w) × IsCode (code_written w))
    ⊎ ((fault : CodeTextFault) × IsCause text fault × (fault ≢ faults.Memory))

-- a fault of a text that spells no code is its first one
of_text : (text : List ℕ) (fault : CodeTextFault) → IsOfText fault → spelled text ≡ Err fault → IsAnswered text
of_text text (faults.BadLine n) h e = inr (faults.BadLine n, e, λ same. absurd (cc same))
of_text text faults.Truncated h e = inr (faults.Truncated, e, λ same. absurd (cc same))
of_text text (faults.Trailing n) h e = inr (faults.Trailing n, e, λ same. absurd (cc same))
of_text text faults.Version h e = inr (faults.Version, e, λ same. absurd (cc same))
of_text text faults.TextTooLong h e = inr (faults.TextTooLong, e, λ same. absurd (cc same))
of_text text (faults.Form fault) h e = absurd h
of_text text faults.Memory h e = absurd h

-- what a text spells is well formed, or has a first fault
of_code : (text : List ℕ) (w : Written) → spelled text ≡ Ok w
    → IsCode (code_written w) ⊎ ((fault : CodeFault) × IsFirstFault (code_written w) fault) → IsAnswered text
of_code text w e (inl formed) = inl (w, e, formed)
of_code text w e (inr h) = inr (faults.Form h.0, (w, e, h.1), λ same. absurd (cc same))

-- by what is read of it
by_outcome : (text : List ℕ) (o : Result Written CodeTextFault) → spelled text ≡ o → IsOutcome o → IsAnswered text
by_outcome text (Ok w) e h = of_code text w e (formed_or_faulty (code_written w))
by_outcome text (Err fault) e h = of_text text fault h e

-- every text has an answer
pub formed_or_refused : (text : List ℕ) → IsAnswered text
formed_or_refused text = by_outcome text (spelled text) refl (spelled_so text)
