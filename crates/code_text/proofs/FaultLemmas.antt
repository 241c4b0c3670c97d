-- Why texts aren't read as code.
use Rattle.std.proofs.Common.{◌≡◌, ℕ, ◌+◌, ◌≤◌, Bool, true, false, ◌&&◌, not, nat_eq}
use Rattle.std.proofs.Common.{nat_lt, List, [], ◌∷◌, length, Option, Some, None}
use Rattle.std.proofs.Common.{Result, Ok, Err, refl, sym, ap, ◌∙◌, subst, arith}
use Rattle.std.specs.Prelude.{if◌then◌else◌, codes, IfOk, MatchResult}
use Rattle.std.specs.List.{starts_with}
use Rattle.std.proofs.lemmas.Bool.Decides.{nat_tests}
use Rattle.code_language.specs.declared.code.RawCode.{RawCode}
use Rattle.code_language.specs.declared.fault.CodeFault.{CodeFault}
use Rattle.code_language.specs.Code.{code_of}
use Rattle.code_language.specs.WellFormed.{IsCode, IsFirstFault}
use Rattle.code_language.proofs.AcceptLemmas.{no_first_fault}
use Rattle.code_lines.specs.declared.format.Format.{Format}
use Rattle.code_text.specs.declared.expected.Expected.{Expected}
use Rattle.code_text.specs.declared.fault.CodeTextFault.{CodeTextFault}
use Rattle.code_text.specs.declared.fault.CodeTextFault.TheVariants as faults
use Rattle.code_text.specs.declared.limits.TheConstants.{TEXT_LIMIT}
use Rattle.code_fields.specs.Lines.{cut_of}
use Rattle.code_text.specs.Written.{Written, written_of, code_written}
use Rattle.code_text.specs.Spelling.{code_text, IsSpellable}
use Rattle.code_text.specs.Reading.{Partial, nothing_read, next, is_whole, refusal, at_end}
use Rattle.code_text.specs.Reading.{or_refuse, outcome_from, all_read, spelled, IsCause}
use Rattle.code_text.specs.Views.{Answers, IsAnswer}
use Rattle.code_text.proofs.OutcomeLemmas.{spelled-text, spelled-ok}

-- ---- lines have no faults of code

-- a refusal of a line is none of code
no_refusal : (whole first : Bool) (n : ℕ) (f : CodeFault)
    → (if whole then faults.Trailing n else if first then faults.Version else faults.BadLine n) ≡ faults.Form f → ⊥
no_refusal true first n f e = absurd cc
no_refusal false true n f e = absurd cc
no_refusal false false n f e = absurd cc

-- nor is what stands at the end
no_end : (whole empty : Bool) (w : Written) (n : ℕ) (f : CodeFault)
    → (if not whole then Err faults.Truncated else if empty then Ok w else Err (faults.Trailing n)) ≡ Err (faults.Form f) → ⊥
no_end false empty w n f e = absurd cc
no_end true true w n f e = absurd cc
no_end true false w n f e = absurd cc

-- outcomes of a text
abbrev Outcome : Type 0
Outcome = Result Written CodeTextFault

-- one fault is told
told : (a b : CodeTextFault) → (let x : Outcome = Err a in let y : Outcome = Err b in x ≡ y) → a ≡ b
told a b e = cc

-- one code is read
read_as : (v w : Written) → (let x : Outcome = Ok v in let y : Outcome = Ok w in x ≡ y) → v ≡ w
read_as v w e = cc

-- nor is any outcome of lines
no_form : (p : Partial) (n : ℕ) (lines : List (List ℕ)) (rest : List ℕ) (f : CodeFault)
    → outcome_from p n lines rest ≡ Err (faults.Form f) → ⊥
no_form p n [] rest f e = no_end (is_whole p.expected) (nat_eq (length rest) 0) (all_read p) n f e
no_form p n (line ∷ lines) rest f e = by_next (next p line) (λ q. no_form q (n + 1) lines rest f) e
  where
    by_next : (o : Option Partial) → ((q : Partial) → outcome_from q (n + 1) lines rest ≡ Err (faults.Form f) → ⊥)
        → or_refuse o (refusal p.expected n line) (λ q. outcome_from q (n + 1) lines rest) ≡ Err (faults.Form f) → ⊥
    by_next None on g =
        no_refusal (is_whole p.expected) (nat_eq n 1 && starts_with nat_eq line (codes "flowcode ")) n f (told _ _ g)
    by_next (Some q) on g = on q g

-- nor any of a text
spelled-form : (text : List ℕ) (f : CodeFault) → spelled text ≡ Err (faults.Form f) → ⊥
spelled-form text f e = by_length (nat_lt TEXT_LIMIT (length text)) e
  where
    by_length : (long : Bool) → (if long then Err faults.TextTooLong else outcome_from nothing_read 1 (cut_of text).lines (cut_of text).rest) ≡ Err (faults.Form f) → ⊥
    by_length true g = absurd cc
    by_length false g = no_form nothing_read 1 (cut_of text).lines (cut_of text).rest f g

-- ---- answers

-- a fault of the reading is a cause
pub cause_of-fault : (text : List ℕ) (fault : CodeTextFault) → Answers written_of (Err fault) (spelled text) → IsCause text fault
cause_of-fault text (faults.BadLine n) h = h (λ same. absurd cc)
cause_of-fault text faults.Truncated h = h (λ same. absurd cc)
cause_of-fault text (faults.Trailing n) h = h (λ same. absurd cc)
cause_of-fault text faults.Version h = h (λ same. absurd cc)
cause_of-fault text faults.TextTooLong h = h (λ same. absurd cc)
cause_of-fault text (faults.Form f) h = absurd (spelled-form text f (h (λ same. absurd cc)))
cause_of-fault text faults.Memory h = tt

-- a text over the limit spells no code
spelled_short : (text : List ℕ) (w : Written) → spelled text ≡ Ok w → length text ≤ TEXT_LIMIT
spelled_short text w e = by_length (nat_lt TEXT_LIMIT (length text)) refl e
  where
    not_over : (a b : ℕ) → nat_lt a b ≡ false → b ≤ a
    not_over a b h = grind (arith, nat_tests)

    by_length : (long : Bool) → nat_lt TEXT_LIMIT (length text) ≡ long
        → (if long then Err faults.TextTooLong else outcome_from nothing_read 1 (cut_of text).lines (cut_of text).rest) ≡ Ok w
        → length text ≤ TEXT_LIMIT
    by_length true long g = absurd cc
    by_length false short g = not_over TEXT_LIMIT (length text) short

-- so what is read keeps to it
pub answer_short : (text : List ℕ) (r : Result RawCode CodeTextFault) → IsAnswer text r
    → IfOk r (λ raw. length text ≤ TEXT_LIMIT)
answer_short text (Ok raw) h = spelled_short text (written_of raw) h.0
answer_short text (Err fault) h = tt

-- what is read is spelled so
pub answer_spelled : (text : List ℕ) (r : Result RawCode CodeTextFault) → IsAnswer text r
    → IfOk r (λ raw. (format : Format) × (text ≡ code_text format (written_of raw)) × IsSpellable format (written_of raw))
answer_spelled text (Ok raw) h = spelled-ok text (written_of raw) h.0
answer_spelled text (Err fault) h = tt

-- and well formed
pub answer_formed : (text : List ℕ) (r : Result RawCode CodeTextFault) → IsAnswer text r → IfOk r (λ raw. IsCode (code_of raw))
answer_formed text (Ok raw) h = h.1
answer_formed text (Err fault) h = tt

-- no text has code and a fault
not_both : (w : Written) (fault : CodeTextFault) → (let x : Outcome = Ok w in let y : Outcome = Err fault in x ≡ y) → ⊥
not_both w fault e = absurd cc

-- where well-formed code is spelled, a fault is want of memory
only_memory : (text : List ℕ) (fault : CodeTextFault) (w : Written) → spelled text ≡ Ok w → IsCode (code_written w)
    → IsCause text fault → fault ≡ faults.Memory
only_memory text (faults.BadLine n) w e code h = absurd (not_both w (faults.BadLine n) (sym e ∙ h))
only_memory text faults.Truncated w e code h = absurd (not_both w faults.Truncated (sym e ∙ h))
only_memory text (faults.Trailing n) w e code h = absurd (not_both w (faults.Trailing n) (sym e ∙ h))
only_memory text faults.Version w e code h = absurd (not_both w faults.Version (sym e ∙ h))
only_memory text faults.TextTooLong w e code h = absurd (not_both w faults.TextTooLong (sym e ∙ h))
only_memory text (faults.Form f) w e code h =
    let same : h.0 ≡ w = read_as h.0 w (sym h.1 ∙ e) in
    absurd (no_first_fault (code_written w) f code (subst (λ v. IsFirstFault (code_written v) f) same h.2))
only_memory text faults.Memory w e code h = refl

-- that code is read, unless memory runs out
pub answer_only : (text : List ℕ) (r : Result RawCode CodeTextFault) → IsAnswer text r
    → (format : Format) (w : Written) → IsSpellable format w → IsCode (code_written w) → text ≡ code_text format w → length text ≤ TEXT_LIMIT
    → MatchResult r (λ raw. written_of raw ≡ w) (λ fault. fault ≡ faults.Memory)
answer_only text r h format w fits code e few =
    let short : length (code_text format w) ≤ TEXT_LIMIT = subst (λ (t : List ℕ). length t ≤ TEXT_LIMIT) e few in
    let read : spelled text ≡ Ok w = ap spelled e ∙ spelled-text format w fits short in
    by_answer r h read
  where
    by_answer : (a : Result RawCode CodeTextFault) → IsAnswer text a → spelled text ≡ Ok w
        → MatchResult a (λ raw. written_of raw ≡ w) (λ fault. fault ≡ faults.Memory)
    by_answer (Ok raw) g read = read_as (written_of raw) w (sym g.0 ∙ read)
    by_answer (Err fault) g read = only_memory text fault w read code g
